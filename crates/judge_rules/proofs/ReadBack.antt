-- Every record of a history is read back: it is a good line, its cell is at most 63, and its job has not ended before. So in such a text only a line 4,097 or a job above 255 is refused (01, Refusals by number).
-- Assumes nothing.
use Prim.Native.Nat.{ℕ, suc, ◌-◌, ◌≤◌}
use mathlib.Core.Path.{◌≡◌, refl, sym, ap, ap₂, ◌∙◌, subst}
use mathlib.Core.Logic.{◌≢◌, ◌⊎◌, inl, inr}
use mathlib.Core.Bool.{true, false}
use mathlib.Core.List.{List, [], ◌∷◌, ◌++◌, map, map-append, map-map}
use native.Mathlib.Omega.{arith}
use lib.Dec.{eqb}
use lib.ListN.{length, length-map}
use lib.Seq.{take_at, get_or_at}
use borrow.Author.Tests.{eqb-true, eqb-false, le-ltb}
use Rattle.std.specs.Prelude.{Err}
use Rattle.laws.specs.Choice.{by_test, not_both}
use Rattle.terms.specs.declared.refusals.Field.{Field}
use Rattle.terms.specs.declared.refusals.Field.TheVariants.{First}
use Rattle.terms.specs.declared.refusals.Refusal.{Refusal}
use Rattle.terms.specs.declared.refusals.Refusal.TheVariants.{UnknownKind, CellAbove, NotOpen, Waiting, SentBack, AllOpen, NoNumberLeft, Running, BadLine, StartedAtZero, TooManyLines, JobOutside, Ended, ShortOrder, NoRoom, TooLong, ShortList, NoRetry}
use Rattle.terms.specs.Letters.{of_histories, has_cell}
use Rattle.terms.specs.Limits.{last_number}
use Rattle.conflict.specs.declared.action.Mark.{Mark}
use Rattle.conflict.specs.declared.action.Mark.TheVariants.{Commit as commits, GiveUp as gives_up, Back as goes_back}
use Rattle.conflict.specs.declared.action.Event.{Event}
use Rattle.conflict.specs.declared.action.Event.TheVariants.{Does, Ends}
use Rattle.conflict.specs.History.{History, line_of, ends_for_good}
use Rattle.laws.proofs.Parts.{and_first, and_second, or_either, or_first, nor_second}
use Rattle.laws.proofs.Lists.{same_refl}
use Rattle.conflict.proofs.Marks.{ended_alone, ends_rest}
use Rattle.conflict.proofs.OneEvent.{line_does, line_ends, good_does, commit_not_back, give_up_not_back}
use Rattle.conflict.proofs.Appended.{line_append}
use Rattle.text_rules.specs.Lines.{read_line, Reading, good}
use Rattle.judge_rules.specs.HistoryText.{readings_of}
use Rattle.judge_rules.specs.LineTable.{reading_at, lines_before, is_bad, above, ends, ended_in, over_already, holds, holds_at, AllReadBack, FirstFault}
use Rattle.text_rules.specs.EventRecords.{mark_letter, event_line, text_of, within, all_within}
use Rattle.text_rules.proofs.RecordLines.{text_lines}
use Rattle.text_rules.proofs.EventsRead.{action_within, reads_action, reads_mark}
use Rattle.judge_rules.proofs.Refusing.{due_holds}

-- a history in two parts is within a limit if each part is
parts_within : (last : ℕ) (h k : History) → all_within last (h ++ k) ≡ true → (all_within last h ≡ true) × (all_within last k ≡ true)
unfolding all_within
parts_within last [] k w = (refl, w)
parts_within last (e ∷ h) k w =
    let p = parts_within last h k (and_second (within last e) (all_within last (h ++ k)) w) in
    (rw (and_first (within last e) (all_within last (h ++ k)) w, p.0), p.1)

-- if jobs end for good, no line of a job follows the line of its c or a
mark_alone : (m : Mark) (i j : ℕ) (h : History) → ends_for_good (Ends m i ∷ h) ≡ true → ends j (good (mark_letter m) i 0) ≡ true → line_of j h ≡ false
unfolding ends mark_letter
mark_alone commits i j h g t = rw (← eqb-true i j t) (ended_alone commits i h g commit_not_back)
mark_alone gives_up i j h g t = rw (← eqb-true i j t) (ended_alone gives_up i h g give_up_not_back)
mark_alone goes_back i j h g t = not_both t refl

-- how the record of an event reads
abbrev event_reads : Event → Reading
event_reads e = read_line of_histories (event_line e)

-- the records of a history's text, as they read
pub text_readings : (h : History) → readings_of (text_of h) ≡ map (λ e. read_line of_histories (event_line e)) h
unfolding readings_of
text_readings h = ap (map (read_line of_histories)) (text_lines h) ∙ map-map (read_line of_histories) event_line h

-- so a job with a c or an a on the lines before has no line after them
ended_before : (h k : History) (j : ℕ) → all_within last_number h ≡ true → ends_for_good (h ++ k) ≡ true → ended_in j (map event_reads h) ≡ true → line_of j k ≡ false
unfolding ended_in all_within
ended_before [] k j w g e = not_both e refl
ended_before (Does a ∷ h) k j w g e =
    ended_before h k j (and_second (within last_number (Does a)) (all_within last_number h) w) (sym (good_does a (h ++ k)) ∙ g)
    (unfold ends in rw (reads_action a (and_first (within last_number (Does a)) (all_within last_number h) w)) at e)
ended_before (Ends m i ∷ h) k j w g e =
    or_either (ends j (event_reads (Ends m i))) (ended_in j (map event_reads h)) e
    (λ t. nor_second (line_of j h) (line_of j k)
    (sym (line_append j h k) ∙ mark_alone m i j (h ++ k) g (rw (reads_mark m i (and_first (within last_number (Ends m i)) (all_within last_number h) w)) at t)))
    (ended_before h k j (and_second (within last_number (Ends m i)) (all_within last_number h) w) (ends_rest m i (h ++ k) g))

-- and a job with a line after them has neither on the lines before
not_ended : (h k : History) (j : ℕ) → all_within last_number h ≡ true → ends_for_good (h ++ k) ≡ true → line_of j k ≡ true → ended_in j (map event_reads h) ≡ false
not_ended h k j w g l = by_test (ended_in j (map event_reads h)) (λ t. not_both l (ended_before h k j w g t)) (λ f. f)

-- c, a and k have no cell
mark_no_cell : (m : Mark) → has_cell (mark_letter m) ≡ false
unfolding mark_letter
mark_no_cell commits = refl
mark_no_cell gives_up = refl
mark_no_cell goes_back = refl

-- a record after some others is not a bad line, has no cell above 63, and its job has not ended on them
record_rows : (h : History) (e : Event) (k : History) → all_within last_number (h ++ e ∷ k) ≡ true → ends_for_good (h ++ e ∷ k) ≡ true → let r = event_reads e in
    ((at : Field) → is_bad at r ≡ false) × (above r ≡ false) × (over_already (map event_reads h) r ≡ false)
unfolding all_within
record_rows h (Does a) k w g =
    let p = parts_within last_number h (Does a ∷ k) w in
    let own : within last_number (Does a) ≡ true = and_first (within last_number (Does a)) (all_within last_number k) p.1 in
    rw (reads_action a own) (
      λ at. refl,
      le-ltb 63 a.cell (omega (arith, (action_within last_number a own).2)),
      not_ended h (Does a ∷ k) a.job p.0 g (line_does a.job a k ∙ or_first (eqb a.job a.job) (line_of a.job k) (same_refl a.job)),
    )
record_rows h (Ends m i) k w g =
    let p = parts_within last_number h (Ends m i ∷ k) w in
    rw (reads_mark m i (and_first (within last_number (Ends m i)) (all_within last_number k) p.1)) (
      λ at. refl,
      rw (mark_no_cell m),
      not_ended h (Ends m i ∷ k) i p.0 g (line_ends i m i k ∙ or_first (eqb i i) (line_of i k) (same_refl i)),
    )

-- line n of a history's text reads as the record of an event, and the lines before it as the records of the events before
pub record Line (h : History) (n : ℕ) : Type 0 where
  pub before : History
  pub event : Event
  pub after : History
  pub parts : h ≡ before ++ event ∷ after
  pub ahead : lines_before (readings_of (text_of h)) n ≡ map (λ e. read_line of_histories (event_line e)) before
  pub reads : reading_at (readings_of (text_of h)) n ≡ read_line of_histories (event_line event)

-- a history in two parts, the second from event n on
parted : {P : Type 0} (h : History) (n : ℕ) → 1 ≤ n → n ≤ length h → ((b : History) (e : Event) (k : History) → h ≡ b ++ e ∷ k → n ≡ suc (length b) → P) → P
parted [] n from to f = absurd (omega arith)
parted (e ∷ h) n from to f =
    by_test (eqb n 1) (λ t. f [] e h refl (eqb-true n 1 t))
    (λ o.
    let more : n ≢ 1 = eqb-false n 1 o in
    parted h (n - 1) (omega arith) (omega arith) (λ b x k p q. f (e ∷ b) x k (ap (λ l. e ∷ l) p) (omega arith)))

-- this holds for each line of the text
pub line_of_lem : (h : History) (n : ℕ) → 1 ≤ n → n ≤ length (readings_of (text_of h)) → Line h n
line_of_lem h n from to =
    parted h n from (omega (arith, ap length (text_readings h), length-map h event_reads)) (λ b e k p q.
    let rs : readings_of (text_of h) ≡ map event_reads b ++ event_reads e ∷ map event_reads k = text_readings h ∙ ap (map event_reads) p ∙ map-append event_reads b (e ∷ k) in
    let size : length (map event_reads b) ≡ n - 1 = omega (arith, length-map b event_reads) in
    record {
      before = b;
      event = e;
      after = k;
      parts = p;
      ahead = rw rs (take_at (map event_reads b) (event_reads e ∷ map event_reads k) (n - 1) size);
      reads = rw rs (get_or_at (map event_reads b) (event_reads e) (map event_reads k) (Err First) (n - 1) size);
    })

-- the event of a line is within the limit that the history is within
pub event_within : (last : ℕ) (h : History) (n : ℕ) (l : Line h n) → all_within last h ≡ true → within last l.event ≡ true
unfolding all_within
event_within last h n l w =
    and_first (within last l.event) (all_within last l.after) (parts_within last l.before (l.event ∷ l.after) (subst (λ x. all_within last x ≡ true) l.parts w)).1

-- what the table says of line n, by its event and those before
pub row_of : (h : History) (n : ℕ) (l : Line h n) (why : Refusal) → holds_at (readings_of (text_of h)) n why ≡ holds n (map (λ e. read_line of_histories (event_line e)) l.before) (read_line of_histories (event_line l.event)) why
row_of h n l why = ap₂ (λ before r. holds n before r why) l.ahead l.reads

-- every line of the text is read back, if jobs are 1 to 4,294,967,295, cells 0 to 63, and no line of a job follows its c or a
pub written_read_back : (h : History) → all_within last_number h ≡ true → ends_for_good h ≡ true → AllReadBack (readings_of (text_of h))
unfolding holds
written_read_back h w g n from to =
    let l = line_of_lem h n from to in
    let r = record_rows l.before l.event l.after (subst (λ x. all_within last_number x ≡ true) l.parts w) (subst (λ x. ends_for_good x ≡ true) l.parts g) in
    (λ at. row_of h n l (BadLine at) ∙ r.0 at, row_of h n l CellAbove ∙ r.1, row_of h n l Ended ∙ r.2)

-- if every line is read back, the judge refuses a line only as line 4,097 or for a job outside 1 to 255
pub only_limits : (ls : List Reading) → AllReadBack ls → (n : ℕ) (why : Refusal) → FirstFault ls n why → (why ≡ TooManyLines) ⊎ (why ≡ JobOutside)
only_limits ls all n why f = by_row why (due_holds ls n why f.due)
  where
    rows : ((at : Field) → holds_at ls n (BadLine at) ≡ false) × (holds_at ls n CellAbove ≡ false) × (holds_at ls n Ended ≡ false)
    rows = all n f.from f.to

    by_row : (x : Refusal) → holds_at ls n x ≡ true → (x ≡ TooManyLines) ⊎ (x ≡ JobOutside)
    by_row UnknownKind t = unfold holds in not_both t refl
    by_row CellAbove t = not_both t rows.1
    by_row NotOpen t = unfold holds in not_both t refl
    by_row Waiting t = unfold holds in not_both t refl
    by_row SentBack t = unfold holds in not_both t refl
    by_row AllOpen t = unfold holds in not_both t refl
    by_row NoNumberLeft t = unfold holds in not_both t refl
    by_row Running t = unfold holds in not_both t refl
    by_row (BadLine at) t = not_both t (rows.0 at)
    by_row StartedAtZero t = unfold holds in not_both t refl
    by_row TooManyLines t = inl refl
    by_row JobOutside t = inr refl
    by_row Ended t = not_both t rows.2
    by_row ShortOrder t = unfold holds in not_both t refl
    by_row NoRoom t = unfold holds in not_both t refl
    by_row TooLong t = unfold holds in not_both t refl
    by_row ShortList t = unfold holds in not_both t refl
    by_row NoRetry t = unfold holds in not_both t refl
