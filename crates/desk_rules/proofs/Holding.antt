-- Nothing is released before the run ends: in a step a job's mode on a cell only grows, or the step ends that job's run (01, The desk's rules).
-- Assumes nothing.
use Prim.Native.Nat.{ℕ}
use mathlib.Core.Path.{◌≡◌, ap, ◌∙◌}
use mathlib.Core.Logic.{◌≢◌, ◌⊎◌, inl, inr}
use mathlib.Core.Bool.{true}
use mathlib.Core.List.{List, ◌∷◌}
use borrow.Author.Tests.{eqb-false}
use lib.Dec.{eqb}
use Rattle.laws.specs.Choice.{by_test}
use Rattle.terms.specs.declared.letters.Ask.{Ask}
use Rattle.conflict.specs.declared.modes.Mode.{Mode}
use Rattle.conflict.specs.declared.action.Mark.{Mark}
use Rattle.conflict.specs.declared.action.Mark.TheVariants.{Commit, GiveUp, Back}
use Rattle.conflict.specs.declared.action.Event.TheVariants.{Ends}
use Rattle.conflict.specs.Modes.{needed, covers}
use Rattle.conflict.specs.History.{History}
use Rattle.conflict.proofs.ModeLaws.{covers_refl, covers_none, asked_grows}
use Rattle.conflict.proofs.OneEvent.{marked_ends, any_ends, ended_is}
use Rattle.laws.proofs.Lists.{same_sym}
use Rattle.desks.specs.declared.Answer.{Answer}
use Rattle.desks.specs.Request.{Request}
use Rattle.laws.specs.Functions.{at}
use Rattle.desk_rules.specs.Desk.{Status, Waiter, Desk}
use Rattle.desks.specs.Begin.{refused}
use Rattle.desk_rules.specs.Rules.{Outcome, with_row, with_status, rule4, grant, queued}
use Rattle.desks.specs.Records.{records_by, records_of, wake_records}
use Rattle.desk_rules.specs.Step.{step, events}
use Rattle.desk_rules.specs.Moves.{Moved, refuses, begins, commits, gives_up, retries, has_it, promotes, waits_in_front, enters, waits_last, goes_back}
use Rattle.conflict.specs.Runs.{is_end, ended}
use Rattle.desk_rules.specs.Invariant.{Inv}
use Rattle.desk_rules.specs.Effects.{Keeps}
use Rattle.laws.proofs.Functions.{at_each}
use Rattle.desk_rules.proofs.RunEnd.{row_releases}
use Rattle.desk_rules.proofs.Records.{recorded}

-- a history that begins with a mark of a job ends a run of it
first_ends : (m : Mark) (j i : ℕ) (h : History) → eqb i j ≡ true → ended i (Ends m j ∷ h) ≡ true
first_ends m j i h t = ended_is i (Ends m j ∷ h) ∙ marked_ends is_end i m j h ∙ rw (same_sym j i ∙ t, any_ends m)

-- the end of another job's run
rule4_keeps : {d : Desk} → Inv d → (j : ℕ) (s : Status) (js : List ℕ) (said : Answer) (i c : ℕ) → i ≢ j → Keeps d (rule4 d j s js said).desk i c
unfolding rule4
rule4_keeps v j s js said i c n = (row_releases v j c).grown i n

-- a job is granted a mode that covers what it held
grant_keeps : (d : Desk) (j b : ℕ) (m : Mode) → covers m ((d.row b).held j) ≡ true → (i c : ℕ) → Keeps d (grant d j b m).desk i c
unfolding grant with_row
grant_keeps d j b m h i c =
    at_each (λ x. covers (x.held i) ((d.row c).held i) ≡ true) d.row b (record { held = at (d.row b).held j m; queue = (d.row b).queue }) c
    (λ e. at_each (λ x. covers x ((d.row c).held i) ≡ true) (d.row b).held j m i
    (λ q. rw (e, q) h) (λ _. rw e (covers_refl ((d.row b).held i))))
    (λ _. covers_refl ((d.row c).held i))

-- a job waits
queued_keeps : (d : Desk) (j b : ℕ) (a : Ask) (q : List Waiter) (i c : ℕ) → Keeps d (queued d j b a q).desk i c
unfolding queued with_status with_row
queued_keeps d j b a q i c =
    at_each (λ x. covers (x.held i) ((d.row c).held i) ≡ true) d.row b (record { held = (d.row b).held; queue = q }) c
    (λ e. rw e (covers_refl ((d.row b).held i))) (λ _. covers_refl ((d.row c).held i))

-- a job's own run ends, or another's does
either_way : (d e : Desk) (h rest : History) (m : Mark) (j i c : ℕ) → h ≡ Ends m j ∷ rest → (i ≢ j → Keeps d e i c) → Keeps d e i c ⊎ (ended i h ≡ true)
either_way d e h rest m j i c q f =
    by_test (eqb i j) (λ t. inr (rw q (first_ends m j i rest t))) (λ n. inl (f (eqb-false i j n)))

module _ {d : Desk} (v : Inv d) (r : Request) (i c : ℕ) where
  -- the answer at the end of a run
  said_so : (st : Status) (js : List ℕ) (said : Answer) → step d r ≡ rule4 d r.job st js said → (step d r).said ≡ said
  said_so st js said h = unfold rule4 in ap (λ o. o.said) h

  -- the end of the job's own run, or of another's
  run_ends : (m : Mark) (rest : History) (st : Status) (js : List ℕ) (said : Answer) → events d r ≡ Ends m r.job ∷ rest → step d r ≡ rule4 d r.job st js said → Keeps d (step d r).desk i c ⊎ (ended i (events d r) ≡ true)
  run_ends m rest st js said q h =
      either_way d (step d r).desk (events d r) rest m r.job i c q (λ n. rw h (rule4_keeps v r.job st js said i c n))

  -- in every move a job's mode on a cell only grows, or the move ends that job's run
  pub moved_held : {o : Outcome} → Moved d r o → step d r ≡ o → Keeps d (step d r).desk i c ⊎ (ended i (events d r) ≡ true)
  unfolding records_by records_of wake_records
  moved_held (refuses why _) h = inl (rw h (unfold refused in covers_refl ((d.row c).held i)))
  moved_held (begins l n m) h = inl (rw h (covers_refl ((d.row c).held i)))
  moved_held (commits l q) h = run_ends Commit _ _ _ _ ((recorded d r).commit_records r.job l (said_so _ _ _ h)) h
  moved_held (gives_up l q) h = run_ends GiveUp _ _ _ _ ((recorded d r).give_up_records r.job l (said_so _ _ _ h)) h
  moved_held (retries l q) h = inl (rw h (unfold with_status in covers_refl ((d.row c).held i)))
  moved_held (has_it b k x) h = inl (rw h (covers_refl ((d.row c).held i)))
  moved_held (promotes b k x f z) h = inl (rw h (unfold grant in grant_keeps d r.job r.cell _ (asked_grows _ (needed b)) i c))
  moved_held (waits_in_front b k x f z w) h = inl (rw h (unfold queued in queued_keeps d r.job r.cell b _ i c))
  moved_held (enters b k f z w) h = inl (rw h (unfold grant in grant_keeps d r.job r.cell _ (covers_none (needed b) _ f) i c))
  moved_held (waits_last b k f z w u) h = inl (rw h (unfold queued in queued_keeps d r.job r.cell b _ i c))
  moved_held (goes_back b k x) h = run_ends Back _ _ _ _ ((recorded d r).back_records r.job (said_so _ _ _ h)) h
