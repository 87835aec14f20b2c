-- In a step each job has at most one record: its request's own, or its wake's; and none while it waits (01, Lines; 01, rule 4).
-- Assumes nothing.
use Prim.Native.Nat.{ℕ, ◌≤◌}
use mathlib.Core.Path.{◌≡◌, refl, sym, ap, ◌∙◌}
use mathlib.Core.Logic.{◌≢◌}
use mathlib.Core.Bool.{true, false}
use mathlib.Core.List.{List, [], ◌∷◌}
use native.Mathlib.Omega.{arith}
use borrow.Author.Tests.{eqb-true}
use lib.Dec.{eqb}
use Rattle.laws.specs.Choice.{by_test, not_both}
use Rattle.laws.proofs.Parts.{nor_first, nor_second}
use Rattle.conflict.specs.declared.action.Action.{Action}
use Rattle.conflict.specs.History.{History}
use Rattle.terms.specs.declared.letters.Ask.{Ask}
use Rattle.desks.specs.Request.{Request}
use Rattle.desk_rules.specs.Desk.{waiting, is_live, Desk}
use Rattle.desk_rules.specs.Rules.{Outcome, is_woken, rule4}
use Rattle.desks.specs.Records.{wake_records}
use Rattle.desk_rules.specs.Histories.{records_for}
use Rattle.desk_rules.specs.Invariant.{Inv}
use Rattle.desk_rules.specs.WakeOrder.{Before, next, further}
use Rattle.desk_rules.proofs.Statuses.{running_not_waiting}
use Rattle.desk_rules.proofs.Wakes.{woken_in}
use Rattle.desk_rules.proofs.RunEnd.{wakes_after, status_after, self_not_woken, self_after, woken_after}
use Rattle.desk_rules.proofs.Written.{asking, Wrote, nothing, action, mark}

-- a job that is not woken has no record among the wakes'
none_of : (j : ℕ) (xs : List Action) → is_woken j xs ≡ false → records_for j (wake_records xs) ≡ 0
unfolding records_for wake_records is_woken
none_of j [] f = refl
none_of j (a ∷ xs) f = rw (nor_first (eqb a.job j) (is_woken j xs) f) (omega (arith, none_of j xs (nor_second (eqb a.job j) (is_woken j xs) f)))

-- if no job is told twice, each has at most one
one_of : (j : ℕ) (xs : List Action) → ((x y : Action) → Before x y xs → x.job ≢ y.job) → records_for j (wake_records xs) ≤ 1
unfolding records_for wake_records
one_of j [] n = omega arith
one_of j (a ∷ xs) n =
    by_test (eqb a.job j) (λ t. rw t (omega (arith, none_of j xs (alone t)))) (λ f. rw f (omega (arith, one_of j xs (λ x y b. n x y (further b)))))
  where
    alone : eqb a.job j ≡ true → is_woken j xs ≡ false
    alone t = by_test (is_woken j xs) (λ w. let (x, i, e) = woken_in j xs w in absurd (n a x (next i) (eqb-true a.job j t ∙ sym e))) (λ f. f)

-- so in all that a step writes each job has at most one record
pub wrote_one : {d : Desk} (v : Inv d) {r : Request} {o : Outcome} {g : History} → Wrote d r o g → ((x y : Action) → Before x y (wakes_after d r.job) → x.job ≢ y.job) → (j : ℕ) → records_for j g ≤ 1
unfolding records_for asking
wrote_one v (nothing w) n j = omega arith
wrote_one v {r} (action a k w c) n j = by_test (eqb r.job j) (λ t. rw t (omega arith)) (λ f. rw f (omega arith))
wrote_one {d} v {r} (mark m s js said o l _) n j =
    by_test (eqb r.job j)
    (λ t. rw t (omega (arith, none_of j (wakes_after d r.job) (ap (λ i. is_woken i (wakes_after d r.job)) (sym (eqb-true r.job j t)) ∙ self_not_woken v r.job))))
    (λ f. rw f (omega (arith, one_of j (wakes_after d r.job) n)))

-- a job that waits is live
waiting_is_live : (c : ℕ) (a : Ask) → is_live (waiting c a) ≡ true
unfolding is_live
waiting_is_live c a = refl

-- a job that waits through a step has no record in it
pub wrote_none : {d : Desk} (v : Inv d) {r : Request} {o : Outcome} {g : History} → Wrote d r o g → (j c : ℕ) (a : Ask) → d.stat j ≡ waiting c a → o.desk.stat j ≡ waiting c a → records_for j g ≡ 0
unfolding records_for asking rule4
wrote_none v (nothing w) j c a e f = refl
wrote_none {d} v {r} (action b k w _) j c a e f =
    by_test (eqb r.job j) (λ t. absurd (running_not_waiting (ap d.stat (sym (eqb-true r.job j t)) ∙ k.runs) e)) (λ n. rw n (omega arith))
wrote_none {d} v {r} (mark m s js said o l n) j c a e f =
    by_test (eqb r.job j)
    (λ t. not_both (ap is_live (sym (self_after v r.job s) ∙ ap (status_after d r.job s) (eqb-true r.job j t) ∙ f) ∙ waiting_is_live c a) n)
    (λ g. rw g (omega (arith, none_of j (wakes_after d r.job) (by_test (is_woken j (wakes_after d r.job)) (λ w. absurd (running_not_waiting (woken_after v r.job s j w) f)) (λ w. w)))))
