-- Which jobs are woken: exactly those granted at some cell that is searched, and they run again; all others are as they were.
-- Assumes nothing.
use Prim.Native.Nat.{ℕ, ◌<◌}
use mathlib.Core.Path.{◌≡◌, refl, sym, ap, ◌∙◌}
use mathlib.Core.Bool.{true, false, ◌||◌}
use mathlib.Core.List.{List, [], ◌∷◌, ◌++◌}
use borrow.Author.Tests.{eqb-true}
use lib.Dec.{eqb}
use Rattle.laws.specs.Choice.{by_test, not_both}
use Rattle.conflict.specs.declared.action.Action.{Action}
use Rattle.laws.proofs.Lists.{same_refl}
use Rattle.laws.proofs.Parts.{or_either, or_second}
use Rattle.laws.specs.Standing.{In, first, later}
use Rattle.desk_rules.specs.Desk.{Status, running, Waiter}
use Rattle.desk_rules.specs.Locks.{Settled}
use Rattle.desk_rules.specs.Rules.{wake, wakes_of, is_woken, run_again}
use Rattle.desk_rules.proofs.WakeOrder.{search_order}

-- a job is granted at one of the first n cells: where, and as which waiter
pub record WokenAt (s : ℕ → Settled) (n j : ℕ) : Type 0 where
  pub cell : ℕ
  pub within : cell < n
  pub waiter : Waiter
  pub granted : In waiter (s cell).woken
  pub is : waiter.job ≡ j

-- a job among two lists of wakes is among the first or among the second
pub woken_either : (j : ℕ) (a b : List Action) → is_woken j (a ++ b) ≡ (is_woken j a || is_woken j b)
unfolding is_woken
woken_either j [] b = refl
woken_either j (x ∷ a) b = by_test (eqb x.job j) (λ t. rw t) (λ f. rw f (woken_either j a b))

-- a woken job has a wake in the list
pub woken_in : (j : ℕ) (xs : List Action) → is_woken j xs ≡ true → (x : Action) × In x xs × (x.job ≡ j)
unfolding is_woken
woken_in j [] h = not_both h refl
woken_in j (v ∷ xs) h = or_either (eqb v.job j) (is_woken j xs) h (λ t. (v, first, eqb-true v.job j t)) (λ k. more (woken_in j xs k))
  where
    more : (x : Action) × In x xs × (x.job ≡ j) → (x : Action) × In x (v ∷ xs) × (x.job ≡ j)
    more (x, i, e) = (x, later i, e)

-- and a job that has one is woken
in_woken : {x : Action} {xs : List Action} → In x xs → is_woken x.job xs ≡ true
unfolding is_woken
in_woken {x} first = rw (same_refl x.job)
in_woken {x} (later {v = v} {q = xs} h) = or_second (eqb v.job x.job) (is_woken x.job xs) (in_woken h)

-- a woken job is granted at a cell that is searched
pub woken_at : (s : ℕ → Settled) (n j : ℕ) → is_woken j (wakes_of s n) ≡ true → WokenAt s n j
unfolding wake
woken_at s n j h =
    let (x, i, e) = woken_in j (wakes_of s n) h in
    let g = (search_order s n).granted i in
    record { cell = g.cell; within = g.below; waiter = g.waiter; granted = g.granted; is = sym (ap (λ t. t.job) g.is) ∙ e }

-- a job that is granted at a cell that is searched is woken
pub at_woken : (s : ℕ → Settled) (n c : ℕ) (w : Waiter) → c < n → In w (s c).woken → is_woken w.job (wakes_of s n) ≡ true
unfolding wake
at_woken s n c w l h = in_woken ((search_order s n).reached c w l h)

-- the woken jobs run
pub woken_runs : (stat : ℕ → Status) (wakes : List Action) (j : ℕ) → is_woken j wakes ≡ true → run_again stat wakes j ≡ running
unfolding run_again
woken_runs stat wakes j t = rw t

-- all others are as they were
pub others_stay : (stat : ℕ → Status) (wakes : List Action) (j : ℕ) → is_woken j wakes ≡ false → run_again stat wakes j ≡ stat j
unfolding run_again
others_stay stat wakes j f = rw f

-- so what holds for running and for the old status holds for the new one
pub wakened_each : (P : Status → Type 0) (stat : ℕ → Status) (wakes : List Action) (j : ℕ) → (is_woken j wakes ≡ true → P running) → (is_woken j wakes ≡ false → P (stat j)) → P (run_again stat wakes j)
unfolding run_again
wakened_each P stat wakes j f g = by_test (is_woken j wakes) (λ t. rw t (f t)) (λ n. rw n (g n))
