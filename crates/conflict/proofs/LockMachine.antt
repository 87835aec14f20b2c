-- The histories of the lock machine are strict: nothing is released before the run ends, so until then a job's locks keep out every action that conflicts with its own.
-- Assumes nothing.
use Prim.Native.Nat.{ℕ}
use mathlib.Core.Path.{◌≡◌, refl, sym, ◌∙◌}
use mathlib.Core.Logic.{◌≢◌}
use mathlib.Core.Bool.{Bool, true, false, not, ◌&&◌, ◌||◌}
use mathlib.Core.List.{[], ◌∷◌, ◌++◌}
use borrow.Author.Tests.{eqb-true, eqb-false}
use lib.Dec.{eqb}
use Rattle.laws.specs.Choice.{by_test, not_both}
use Rattle.laws.proofs.Lists.{same_refl}
use Rattle.laws.proofs.Parts.{and_first, and_second, and_both, or_either, or_first, or_second, nor_second}
use Rattle.conflict.specs.declared.action.Action.{Action}
use Rattle.conflict.specs.declared.action.Mark.{Mark}
use Rattle.conflict.specs.declared.action.Event.TheVariants.{Does, Ends}
use Rattle.conflict.specs.Schedule.{conflicts, Equivalent, serial}
use Rattle.conflict.specs.History.{History, marked, committed_part, commit_order, ends_for_good, undisturbed, strict}
use Rattle.conflict.specs.Runs.{is_end, ended}
use Rattle.conflict.proofs.LockTable.{Table, AtLeast, Together, allows, Ran}
use Rattle.conflict.proofs.LockTable.Ran.{start, grows, acts, stops}
use Rattle.conflict.proofs.ModeLaws.{free_beside, keeps_out, lets_grows}
use Rattle.conflict.proofs.Appended.{ended_append}
use Rattle.conflict.proofs.Calm.{calm, strict_mark, strict_action}
use Rattle.conflict.proofs.Strict.{strict_serial_paper}

-- every action whose run has not ended is one that its job's present mode lets it do
unfoldable pub held : Table → History → Bool
held t [] = true
held t (Does a ∷ h) = (ended a.job h || allows t a) && held t h
held t (Ends m i ∷ h) = held t h

-- what holds for every table that the machine reaches, with the history up to it
pub record Kept (t : Table) (h : History) : Type 0 where
  pub together : Together t
  pub under : held t h ≡ true
  pub strictly : strict h ≡ true

-- from one row of tests to the next, part by part: a run that has ended stays ended, and an allowed action stays allowed while its run has not ended
still : (x y r x' y' r' : Bool) → (x ≡ true → x' ≡ true) → (x' ≡ false → y ≡ true → y' ≡ true) → (r ≡ true → r' ≡ true) → ((x || y) && r) ≡ true → ((x' || y') && r') ≡ true
still x y r x' y' r' f g k e =
    and_both (x' || y') r'
    (by_test x' (λ t. rw t) (λ n. rw n (or_either x y (and_first (x || y) r e) (λ p. not_both (f p) n) (λ q. g n q))))
    (k (and_second (x || y) r e))

-- a run that has ended stays ended
ended_more : (j : ℕ) (h g : History) → ended j h ≡ true → ended j (h ++ g) ≡ true
ended_more j h g e = ended_append j h g ∙ or_first (ended j h) (ended j g) e

-- a job whose run has not ended after a mark is not the job of that mark
not_ended : (i : ℕ) (h : History) (m : Mark) (j : ℕ) → ended i (h ++ Ends m j ∷ []) ≡ false → i ≢ j
unfolding ended marked is_end
not_ended i h m j n q =
    let last : ended i (Ends m j ∷ []) ≡ false = nor_second (ended i h) (ended i (Ends m j ∷ [])) (sym (ended_append i h (Ends m j ∷ [])) ∙ n) in
    not_both refl (rw (q, same_refl) at last)

-- a table in which no job holds less still allows every action whose run has not ended
held_grows : (t u : Table) (h : History) → ((j : ℕ) → AtLeast u t j) → held t h ≡ true → held u h ≡ true
unfolding held
held_grows t u [] more e = refl
held_grows t u (Does a ∷ h) more e =
    still (ended a.job h) (allows t a) (held t h) (ended a.job h) (allows u a) (held u h)
    (λ p. p) (λ n l. lets_grows (u a.job a.cell) (t a.job a.cell) a.kind (more a.job a.cell) l) (held_grows t u h more) e
held_grows t u (Ends m i ∷ h) more e = held_grows t u h more e

-- this still holds with one more action that the table allows
held_acts : (t : Table) (h : History) (b : Action) → allows t b ≡ true → held t h ≡ true → held t (h ++ Does b ∷ []) ≡ true
unfolding held
held_acts t [] b l e = and_both (ended b.job [] || allows t b) true (or_second (ended b.job []) (allows t b) l) refl
held_acts t (Does a ∷ h) b l e =
    still (ended a.job h) (allows t a) (held t h) (ended a.job (h ++ Does b ∷ [])) (allows t a) (held t (h ++ Does b ∷ []))
    (ended_more a.job h (Does b ∷ [])) (λ n p. p) (held_acts t h b l) e
held_acts t (Ends m i ∷ h) b l e = held_acts t h b l e

-- and so does the table after the end of a run, if no other job holds less than before
held_stops : (t u : Table) (h : History) (m : Mark) (j : ℕ) → ((i : ℕ) → i ≢ j → AtLeast u t i) → held t h ≡ true → held u (h ++ Ends m j ∷ []) ≡ true
unfolding held
held_stops t u [] m j more e = refl
held_stops t u (Does a ∷ h) m j more e =
    still (ended a.job h) (allows t a) (held t h) (ended a.job (h ++ Ends m j ∷ [])) (allows u a) (held u (h ++ Ends m j ∷ []))
    (ended_more a.job h (Ends m j ∷ []))
    (λ n l. lets_grows (u a.job a.cell) (t a.job a.cell) a.kind (more a.job (not_ended a.job h m j n) a.cell) l)
    (held_stops t u h m j more) e
held_stops t u (Ends n i ∷ h) m j more e = held_stops t u h m j more e

-- two actions that one table allows do not conflict, if its modes may be held together
no_conflict : (t : Table) (a b : Action) → Together t → allows t a ≡ true → allows t b ≡ true → conflicts a b ≡ false
unfolding conflicts
no_conflict t a b safe p q =
    by_test (eqb a.cell b.cell)
    (λ c.
    by_test (eqb a.job b.job) (λ j. rw (c, j))
    (λ f.
    rw (
      c,
      f,
      keeps_out (t a.job a.cell) (t b.job a.cell) a.kind b.kind
          (safe a.job b.job a.cell (eqb-false a.job b.job f)) p (rw (eqb-true a.cell b.cell c) q),
    )))
    (λ f. rw f)

-- an action that the table allows disturbs no action whose run has not ended
calm_acts : (t : Table) (h : History) (b : Action) → Together t → allows t b ≡ true → held t h ≡ true → calm h (Does b ∷ []) ≡ true
unfolding held calm undisturbed
calm_acts t [] b safe l e = refl
calm_acts t (Does a ∷ h) b safe l e =
    still (ended a.job h) (allows t a) (held t h) (ended a.job h) (not (conflicts a b) && true) (calm h (Does b ∷ []))
    (λ p. p) (λ n p. rw (no_conflict t a b safe p l)) (calm_acts t h b safe l) e
calm_acts t (Ends m i ∷ h) b safe l e = calm_acts t h b safe l e

-- each move of the machine keeps this
pub machine_keeps : {t : Table} {h : History} → Ran t h → Kept t h
unfolding held strict
machine_keeps (start {t} none') = record { together = λ i j c ne. rw (none' i c) (free_beside (t j c)); under = refl; strictly = refl }
machine_keeps (grows {t} {u} {h} r more safe) =
    let k = machine_keeps r in
    record { together = safe; under = held_grows t u h more k.under; strictly = k.strictly }
machine_keeps (acts {t} {h} r a l) =
    let k = machine_keeps r in
    record {
      together = k.together;
      under = held_acts t h a l k.under;
      strictly = strict_action h a ∙ and_both (strict h) (calm h (Does a ∷ [])) k.strictly (calm_acts t h a k.together l k.under);
    }
machine_keeps (stops {t} {u} {h} r m j free more safe) =
    let k = machine_keeps r in
    record { together = safe; under = held_stops t u h m j more k.under; strictly = strict_mark h m j ∙ k.strictly }

-- every history of the machine is strict
pub machine_strict : {t : Table} {h : History} → Ran t h → strict h ≡ true
machine_strict r = (machine_keeps r).strictly

-- what the machine has committed is conflict-equivalent to its jobs one after another in the order of their commits
pub machine_serial : {t : Table} {h : History} → Ran t h → ends_for_good h ≡ true → Equivalent (committed_part h) (serial (commit_order h) (committed_part h))
machine_serial {h = h} r e = strict_serial_paper h (machine_strict r) e
