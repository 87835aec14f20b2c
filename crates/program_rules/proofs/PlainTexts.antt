-- The text of a history, from either desk: the judge reads every line of it back, refuses it only for its own limits, and within them says orderly if it is (demand 2; 01, Refusals by number).
-- Assumes nothing.
use Prim.Native.Nat.{ℕ, ◌≤◌, ◌<◌}
use mathlib.Core.Path.{◌≡◌, refl, sym, ap, ◌∙◌, subst}
use mathlib.Core.Logic.{◌≢◌, ◌⊎◌}
use mathlib.Core.Bool.{true}
use mathlib.Core.List.{List, [], ◌∷◌, ◌++◌, map}
use native.Mathlib.Omega.{arith}
use lib.ListN.{length}
use lib.Dec.{eqb}
use borrow.Author.Tests.{eqb-true, eqb-false}
use Rattle.laws.specs.Choice.{by_test}
use Rattle.terms.specs.declared.refusals.Refusal.{Refusal}
use Rattle.terms.specs.declared.refusals.Refusal.TheVariants.{TooManyLines, JobOutside}
use Rattle.terms.specs.Limits.{cells, last_number, judged_jobs, judged_bytes}
use Rattle.conflict.specs.declared.action.Action.{Action}
use Rattle.conflict.specs.declared.action.Event.TheVariants.{Does, Ends}
use Rattle.laws.specs.Lists.{member, distinct}
use Rattle.conflict.specs.Schedule.{ConflictSerializable, edge}
use Rattle.conflict.specs.History.{History, commit_order, committed_part, ends_for_good, line_of}
use Rattle.conflict.specs.Dirty.{IsDirty}
use Rattle.laws.proofs.Parts.{and_both, or_first, or_second}
use Rattle.laws.proofs.Lists.{same_refl}
use Rattle.conflict.proofs.Committed.{commit_order_once}
use Rattle.conflict.proofs.DirtyFound.{first_is_dirty}
use Rattle.conflict.proofs.Marks.{listed}
use Rattle.conflict.proofs.OneEvent.{line_does, line_ends}
use Rattle.laws.specs.Standing.{In, first, later}
use Rattle.text_rules.specs.Decimal.{decimal}
use Rattle.text_rules.specs.Split.{joined}
use Rattle.judge_rules.specs.declared.verdict.Verdict.TheVariants.{Orderly, Knot, Dirty, No}
use Rattle.judge_rules.specs.HistoryText.{readings_of, events_in}
use Rattle.judge_rules.specs.Judged.{jobs_of}
use Rattle.judge_rules.specs.Judgement.{judgement_of}
use Rattle.judge_rules.specs.LineTable.{FirstFault, AllReadBack, AllFaultless}
use Rattle.judge_rules.specs.Meant.{SmallestFirst}
use Rattle.judge_rules.specs.VerdictLine.{verdict_of}
use Rattle.judge_rules.specs.Answers.{InOrder}
use Rattle.text_rules.specs.EventRecords.{text_of, within, all_within}
use Rattle.judge_rules.specs.KeepsLimits.{KeepsLimits}
use Rattle.judge_rules.proofs.Walking.{no_more}
use Rattle.judge_rules.proofs.JudgedTexts.{orderly_said, dirty_said, knot_said, knot_said_exactly}
use Rattle.text_rules.proofs.EventsRead.{within_action, within_mark}
use Rattle.judge_rules.proofs.ReadBack.{written_read_back, only_limits}
use Rattle.judge_rules.proofs.Printed.{printed_orderly}
use Rattle.judge_rules.proofs.Refusing.{short_exactly, line_0_short, refused_exactly}
use Rattle.judge_rules.proofs.WrittenHistories.{written_says, written_faultless, written_fits, written_judged}

-- a history is within a limit where every job of it is, and every cell is below 64
all_within_lem : (last : ℕ) (h : History) → ((j : ℕ) → line_of j h ≡ true → (1 ≤ j) × (j ≤ last)) → ((x : Action) → In (Does x) h → x.cell < cells) → all_within last h ≡ true
unfolding all_within
all_within_lem last [] jobs at = refl
all_within_lem last (Does a ∷ h) jobs at =
    let b = jobs a.job (line_does a.job a h ∙ or_first (eqb a.job a.job) (line_of a.job h) (same_refl a.job)) in
    and_both (within last (Does a)) (all_within last h) (within_action last a b.0 b.1 (at a first))
    (all_within_lem last h (λ j l. jobs j (line_does j a h ∙ or_second (eqb a.job j) (line_of j h) l)) (λ x k. at x (later k)))
all_within_lem last (Ends m i ∷ h) jobs at =
    let b = jobs i (line_ends i m i h ∙ or_first (eqb i i) (line_of i h) (same_refl i)) in
    and_both (within last (Ends m i)) (all_within last h) (within_mark last m i b.0 b.1)
    (all_within_lem last h (λ j l. jobs j (line_ends j m i h ∙ or_second (eqb i j) (line_of j h) l)) (λ x k. at x (later k)))

-- two lists of the same jobs, none twice, are of one length
same_size : (js ks : List ℕ) → distinct js ≡ true → distinct ks ≡ true → ((j : ℕ) → member j js ≡ member j ks) → length js ≡ length ks
same_size js ks d e h = omega (arith, no_more js ks d (λ j m. sym (h j) ∙ m), no_more ks js e (λ j m. h j ∙ m))

-- a history that can be read back: its jobs are from 1 to 4,294,967,295, its cells from 0 to 63, and nothing of a job follows its c or its a
pub record Plain (h : History) : Type 0 where
  pub jobs : (j : ℕ) → line_of j h ≡ true → (1 ≤ j) × (j ≤ last_number)
  pub at : (x : Action) → In (Does x) h → x.cell < cells
  pub ends : ends_for_good h ≡ true

module _ {h : History} (p : Plain h) where
  -- its jobs and cells are within the reader's limits
  plain_within : all_within last_number h ≡ true
  plain_within = all_within_lem last_number h p.jobs p.at

  -- so every line of its text is read back
  pub plain_read_back : AllReadBack (readings_of (text_of h))
  plain_read_back = written_read_back h plain_within p.ends

  -- and the lines say what was written
  pub plain_says : events_in (readings_of (text_of h)) ≡ h
  plain_says = written_says h plain_within

  -- the first faulty line, if there is one, is line 4,097 or is for a job outside 1 to 255
  pub plain_fault : (n : ℕ) (why : Refusal) → FirstFault (readings_of (text_of h)) n why → (why ≡ TooManyLines) ⊎ (why ≡ JobOutside)
  plain_fault n why f = only_limits (readings_of (text_of h)) plain_read_back n why f

  -- and where the order buffer has its 255 places, the judge has no other refusal for it
  pub plain_refused : (buffer : List ℕ) → 255 ≤ length buffer → (n : ℕ) (why : Refusal) → (judgement_of (text_of h) buffer).said ≡ No n why → (why ≡ TooManyLines) ⊎ (why ≡ JobOutside)
  plain_refused buffer room n why e =
      by_test (eqb n 0)
      (λ t.
      let z : n ≡ 0 = eqb-true n 0 t in
      let q : (judgement_of (text_of h) buffer).said ≡ No 0 why = rw z at e in
      let less : length buffer < 255 = (short_exactly (text_of h) buffer).0 (q ∙ ap (No 0) (line_0_short (text_of h) buffer why q)) in
      absurd (omega arith))
      (λ f. let other' : n ≢ 0 = eqb-false n 0 f in plain_fault n why ((refused_exactly (text_of h) buffer n why (omega arith)).0 e).1)

  -- the judge says dirty only of one that is
  pub plain_not_dirty : (IsDirty h → ⊥) → (buffer : List ℕ) (i j : ℕ) → (judgement_of (text_of h) buffer).said ≡ Dirty i j → ⊥
  plain_not_dirty clean buffer i j e =
      let d = dirty_said (text_of h) buffer i j e in
      clean (subst IsDirty plain_says (first_is_dirty (events_in (readings_of (text_of h))) i j d.2.first))

  -- and finds a knot in none whose committed part is serializable
  pub plain_no_knot : ConflictSerializable (committed_part h) → (buffer : List ℕ) (n : ℕ) → (judgement_of (text_of h) buffer).said ≡ Knot n → ⊥
  plain_no_knot orders buffer n e =
      let k = knot_said (text_of h) buffer n e in
      ((knot_said_exactly (text_of h) buffer k.0 k.1).0 (n, e)).0 (subst (λ g. ConflictSerializable (committed_part g)) (sym plain_says) orders)

  module _ (k : KeepsLimits h) where
    -- within the judge's limits its jobs are 1 to 255
    judged_within : all_within judged_jobs h ≡ true
    judged_within = all_within_lem judged_jobs h (λ j l. ((p.jobs j l).0, k.jobs j l)) p.at

    -- its text is no longer than the verdict program reads
    pub plain_fits : length (text_of h) ≤ judged_bytes
    plain_fits = written_fits h judged_within k.events

    -- no line of it is faulty
    pub plain_faultless : AllFaultless (readings_of (text_of h))
    plain_faultless = written_faultless h judged_within p.ends k.events

    module _ (orders : ConflictSerializable (committed_part h)) (clean : IsDirty h → ⊥) where
      -- where it is serializable and not dirty, the program `verdict` prints `orderly` and the order that takes at each place the smallest number whose predecessors all stand already, a tab before each job
      pub plain_verdict : (order : List ℕ) × SmallestFirst (edge (committed_part h)) (jobs_of h) order
          × (verdict_of (text_of h) ≡ 111 ∷ 114 ∷ 100 ∷ 101 ∷ 114 ∷ 108 ∷ 121 ∷ joined (map (λ j. 9 ∷ decimal j) order) ++ 10 ∷ [])
      plain_verdict =
          let q = printed_orderly (text_of h) plain_fits plain_faultless (subst (λ g. ConflictSerializable (committed_part g)) (sym plain_says) orders) (λ d. clean (subst IsDirty plain_says d)) in
          (q.0, subst (λ g. SmallestFirst (edge (committed_part g)) (jobs_of g) q.0) plain_says q.1, q.2)

      module _ (buffer : List ℕ) (room : judged_jobs ≤ length buffer) where
        -- orderly is said of it
        said : (n : ℕ) × ((judgement_of (text_of h) buffer).said ≡ Orderly n)
        said = (written_judged h buffer judged_within p.ends k.events room).1 (orders, clean)

        -- with an order of what was written
        in_order : InOrder h buffer (judgement_of (text_of h) buffer).order said.0
        in_order = subst (λ x. InOrder x buffer (judgement_of (text_of h) buffer).order said.0) plain_says (orderly_said (text_of h) buffer said.0 said.1).2

        -- that names as many jobs as have committed
        as_many : said.0 ≡ length (commit_order h)
        as_many = let o = in_order in o.count ∙ same_size o.order (commit_order h) o.once (commit_order_once h p.ends) (λ j. o.names j ∙ sym (listed j h))

        -- so the judge says orderly, with the number of committed jobs
        pub plain_orderly : (judgement_of (text_of h) buffer).said ≡ Orderly (length (commit_order h))
        plain_orderly = subst (λ n. (judgement_of (text_of h) buffer).said ≡ Orderly n) as_many said.1

        -- and their order in the buffer's first places
        pub plain_order : InOrder h buffer (judgement_of (text_of h) buffer).order (length (commit_order h))
        plain_order = subst (InOrder h buffer (judgement_of (text_of h) buffer).order) as_many in_order
