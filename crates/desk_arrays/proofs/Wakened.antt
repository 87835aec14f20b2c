-- Waking some jobs and then others leaves the same statuses as waking all of them.
-- Assumes nothing.
use Prim.Native.Nat.{ℕ}
use mathlib.Core.Path.{◌≡◌, refl, ap, ◌∙◌, fun_ext}
use mathlib.Core.Bool.{Bool, true, false}
use mathlib.Core.List.{List, [], ◌∷◌, ◌++◌}
use lib.Dec.{eqb}
use Rattle.laws.specs.Choice.{pick, by_test}
use Rattle.laws.proofs.Lists.{same_sym}
use Rattle.conflict.specs.declared.action.Action.{Action}
use Rattle.laws.specs.Functions.{at}
use Rattle.desk_rules.specs.Desk.{Status, running, Waiter}
use Rattle.desk_rules.specs.Rules.{wake, wakes_at, is_woken, run_again}
use Rattle.desk_rules.proofs.Wakes.{woken_either}

-- woken or not, a running job runs
still : (b : Bool) → pick b running running ≡ running
still true = refl
still false = refl

-- some wakes and then others
pub wakened_twice : (st : ℕ → Status) (a b : List Action) → run_again (run_again st a) b ≡ run_again st (a ++ b)
unfolding run_again
wakened_twice st a b = fun_ext (λ i. rw (woken_either i a b) (by_test (is_woken i a) (λ t. rw t (still (is_woken i b))) (λ f. rw f)))

-- a job that runs is one that has been woken
wakened_one : (st : ℕ → Status) (c : ℕ) (w : Waiter) → at st w.job running ≡ run_again st (wake c w ∷ [])
unfolding run_again is_woken wake at
wakened_one st c w = fun_ext (λ i. rw (same_sym i w.job) (by_test (eqb w.job i) (λ t. rw t) (λ f. rw f)))

-- a job that runs already and further wakes are the wakes with that job first
pub wakened_more : (st : ℕ → Status) (c : ℕ) (w : Waiter) (q : List Waiter) → run_again (at st w.job running) (wakes_at c q) ≡ run_again st (wakes_at c (w ∷ q))
unfolding wakes_at
wakened_more st c w q = ap (λ f. run_again f (wakes_at c q)) (wakened_one st c w) ∙ wakened_twice st (wake c w ∷ []) (wakes_at c q)
