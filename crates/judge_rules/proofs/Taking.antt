-- Jobs are taken away until none is left to take; as many times as there are jobs is enough.
-- Assumes nothing.
use Rattle.std.specs.Prelude.{None}
use Prim.Native.Nat.{ℕ, zero, suc, ◌≤◌, ◌<◌}
use mathlib.Core.Path.{◌≡◌, refl, ap}
use mathlib.Core.Bool.{true}
use mathlib.Core.List.{List, [], ◌∷◌}
use native.Mathlib.Omega.{arith}
use lib.ListN.{length}
use Rattle.laws.specs.Choice.{not_both}
use Rattle.laws.specs.Lists.{member}
use Rattle.judge_rules.specs.Order.{Edges, ready, without, ends, leads, taken, order_of, stuck}
use Rattle.judge_rules.specs.Meant.{Takes}
use Rattle.judge_rules.specs.Meant.Takes.{stops, takes}
use Rattle.judge_rules.proofs.Without.{shorter}
use Rattle.judge_rules.proofs.Firsts.{by_one}
use Rattle.judge_rules.proofs.Preceded.{ready_is, ready_none}

-- a list of length 0 names no job
empty_list : (js : List ℕ) → length js ≤ 0 → (j : ℕ) → member j js ≡ true → ⊥
unfolding member
empty_list [] h j m = not_both m refl
empty_list (k ∷ ks) h j m = omega arith

-- n times are enough for n jobs
pub taken_takes : (e : Edges) (n : ℕ) (left : List ℕ) → length left ≤ n → Takes e left (taken e n left).order (taken e n left).remaining
unfolding taken ends leads
taken_takes e zero left h = stops (λ j m. absurd (empty_list left h j m))
taken_takes e (suc n) left h =
    by_one (ready e left) (λ q. rw q (stops (ready_none e left q)))
    (λ j q.
    let r = ready_is e left j q in
    let less : length (without j left) < length left = shorter j left r.0 in
    rw q (takes r.0 r.1 (taken_takes e n (without j left) (omega arith))))

-- the order and what remains come from taking away jobs without a remaining predecessor until none is left to take
pub order_taken : (e : Edges) (jobs : List ℕ) → Takes e jobs (order_of e jobs) (stuck e jobs)
unfolding order_of stuck
order_taken e jobs = taken_takes e (length jobs) jobs (omega arith)

-- without jobs none is ready
none_ready : (e : Edges) (left : List ℕ) → length left ≤ 0 → ready e left ≡ None
none_ready e left h = by_one (ready e left) (λ q. q) (λ j q. absurd (empty_list left h j (ready_is e left j q).0))

-- any two limits that are enough give the same
pub times_enough : (e : Edges) (n m : ℕ) (left : List ℕ) → length left ≤ n → length left ≤ m → taken e n left ≡ taken e m left
unfolding taken
times_enough e zero zero left p q = refl
times_enough e zero (suc m) left p q = rw (none_ready e left p)
times_enough e (suc n) zero left p q = rw (none_ready e left q)
times_enough e (suc n) (suc m) left p q =
    by_one (ready e left) (λ h. rw h)
    (λ j h.
    let less : length (without j left) < length left = shorter j left (ready_is e left j h).0 in
    rw h (ap (leads j) (times_enough e n m (without j left) (omega arith) (omega arith))))
