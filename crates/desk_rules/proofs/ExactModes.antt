-- The exact mode that a job holds after a go: by rule 1 the one it held, by rule 2 what that becomes, by rule 3 the one it needs (01, rules 1 to 3; 02, No. 1).
-- Assumes nothing.
use Prim.Native.Nat.{ℕ}
use mathlib.Core.Path.{◌≡◌, refl, sym, ap, ◌∙◌}
use mathlib.Core.Bool.{false, ◌&&◌}
use lib.Dec.{ltb}
use Rattle.laws.specs.Choice.{by_test, not_both}
use Rattle.terms.specs.declared.letters.Ask.{Ask}
use Rattle.terms.specs.Limits.{cells}
use Rattle.conflict.specs.declared.modes.Mode.{Mode}
use Rattle.conflict.specs.Modes.{needed, covers, asked, is_free, Becomes}
use Rattle.conflict.proofs.ModeLaws.{covers_not_free}
use Rattle.conflict.proofs.ExactNeeds.{promotion_asks}
use Rattle.desks.specs.declared.Answer.TheVariants.{Go}
use Rattle.desks.specs.Request.{Request}
use Rattle.desk_rules.specs.Desk.{Status, closed, running, waiting, sentback, Desk}
use Rattle.desk_rules.specs.Locks.{agrees, older_than_holders, older_than_waiters, is_empty}
use Rattle.desks.specs.Begin.{refused}
use Rattle.desk_rules.specs.Rules.{with_row, grant, queued, send_back, rule1, rule2, rule3, rule4, ask}
use Rattle.desk_rules.specs.Step.{step_ask, step}
use Rattle.desk_rules.specs.Effects.{Exactly}
use Rattle.laws.proofs.Functions.{at_same}
use Rattle.desks.proofs.Answers.{other-answer}

module _ (d : Desk) (j c : ℕ) where
  -- after a grant the job holds the granted mode
  pub granted_mode : (m : Mode) → ((grant d j c m).desk.row c).held j ≡ m
  unfolding grant with_row
  granted_mode m = rw (at_same d.row c _) (at_same (d.row c).held j m)

  -- rule 2: what the held mode becomes
  rule2_exactly : (a : Ask) (k : ℕ) → covers ((d.row c).held j) (needed a) ≡ false → is_free ((d.row c).held j) ≡ false → (rule2 d j c a).said ≡ Go k → Becomes ((d.row c).held j) a (((rule2 d j c a).desk.row c).held j)
  unfolding rule2 queued send_back rule4
  rule2_exactly a k x n g =
      by_test (agrees d.jobs (d.row c).held j (asked ((d.row c).held j) (needed a)))
      (λ t. rw t ((promotion_asks ((d.row c).held j) _ a).1 (n, x, granted_mode _)))
      (λ f. by_test (older_than_holders d.jobs (d.row c).held j) (λ t. other-answer (rw (f, t) at g) refl) (λ o. other-answer (rw (f, o) at g) refl))

  -- rule 3: what is needed
  rule3_exactly : (a : Ask) (k : ℕ) → (rule3 d j c a).said ≡ Go k → ((rule3 d j c a).desk.row c).held j ≡ needed a
  unfolding rule3 queued send_back rule4
  rule3_exactly a k g =
      by_test (is_empty (d.row c).queue && agrees d.jobs (d.row c).held j (needed a))
      (λ t. rw t (granted_mode (needed a)))
      (λ f. by_test (older_than_holders d.jobs (d.row c).held j && older_than_waiters (d.row c).queue j) (λ t. other-answer (rw (f, t) at g) refl) (λ o. other-answer (rw (f, o) at g) refl))

  -- rules 1 to 3
  ask_exactly : (a : Ask) (k : ℕ) → (ask d j c a).said ≡ Go k → Exactly ((d.row c).held j) (((ask d j c a).desk.row c).held j) a
  unfolding ask rule1
  ask_exactly a k g =
      by_test (covers ((d.row c).held j) (needed a))
      (λ t. rw t (record { kept = λ _. refl; promoted = λ f _. not_both t f; entered = λ f. not_both f (covers_not_free ((d.row c).held j) a t) }))
      (λ n. by_test (is_free ((d.row c).held j))
      (λ t. rw (n, t) (record { kept = λ y. not_both y n; promoted = λ _ f. not_both t f; entered = λ _. rule3_exactly a k (rw (n, t) at g) }))
      (λ f. rw (n, f) (record { kept = λ y. not_both y n; promoted = λ _ _. rule2_exactly a k n f (rw (n, f) at g); entered = λ t. not_both t f })))

-- a request for a cell that goes, by what the job is doing
pub exactly_by : (d : Desk) (r : Request) (a : Ask) (j : ℕ) (s : Status) → step d r ≡ step_ask d r.job r.cell a s → (step d r).said ≡ Go j →
    Exactly ((d.row r.cell).held r.job) (((step d r).desk.row r.cell).held r.job) a
unfolding step_ask refused
exactly_by d r a j closed h g = other-answer (sym (ap (λ o. o.said) h) ∙ g) refl
exactly_by d r a j (waiting c b) h g = other-answer (sym (ap (λ o. o.said) h) ∙ g) refl
exactly_by d r a j sentback h g = other-answer (sym (ap (λ o. o.said) h) ∙ g) refl
exactly_by d r a j running h g =
    by_test (ltb r.cell cells)
    (λ t. let q : step d r ≡ ask d r.job r.cell a = rw t at h in rw q (ask_exactly d r.job r.cell a j (sym (ap (λ o. o.said) q) ∙ g)))
    (λ f. other-answer (sym (ap (λ o. o.said) (rw f at h)) ∙ g) refl)
