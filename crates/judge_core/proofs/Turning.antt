-- The place of a cycle's smallest job, and the cycle from there on.
-- Assumes nothing.
use Prim.Native.Nat.{ℕ, zero, suc, ◌+◌, ◌-◌, ◌≤◌, ◌<◌}
use mathlib.Core.Path.{◌≡◌, refl, sym, ap, ◌∙◌}
use mathlib.Core.Bool.{true, false}
use mathlib.Core.List.{List, [], ◌∷◌, ◌++◌}
use native.Mathlib.Omega.{arith}
use lib.Dec.{eqb}
use lib.ListN.{length, get_or, take, drop, length-append, length-take, length-drop}
use lib.Seq.{drop-cons, split_at, take-append_seam}
use borrow.Rule.Slice.PartMut.{put_mid}
use Rattle.std.proofs.lemmas.List.{take-append-drop}
use Rattle.std.proofs.lemmas.Slice.{take-put_mid, drop-put_mid, drop-append-drop}
use borrow.Author.Tests.{eqb-true, ne_eqb}
use Rattle.laws.specs.Choice.{not_both}
use Rattle.laws.specs.Lists.{member, filled}
use Rattle.laws.proofs.Parts.{or_either}
use Rattle.judge_rules.specs.Knot.{least, up_to, from, turn_to, turn}
use Rattle.judge_rules.proofs.Turns.{cut, up_to_mid, from_mid, least_is, least_low}
use Rattle.judge_core.proofs.Searching.{member_at}

-- the job at this place is the smallest of the first i, and smaller than each before it
pub record Best (round : List ℕ) (best i : ℕ) : Type 0 where
  pub within : best ≤ i - 1
  pub low : (k : ℕ) → k < i → get_or round best 0 ≤ get_or round k 0
  pub firstly : (k : ℕ) → k < best → get_or round best 0 < get_or round k 0

-- a job that stands at none of the first places is not there
none_before : (ks : List ℕ) (b m : ℕ) → ((k : ℕ) → k < b → get_or ks k 0 ≡ m → ⊥) → b ≤ length ks → member m (take b ks) ≡ false
unfolding member
none_before ks zero m h l = refl
none_before [] (suc b) m h l = refl
none_before (k ∷ ks) (suc b) m h l =
    rw (ne_eqb k m (h 0 (omega arith))) (none_before ks b m (λ i c. h (suc i) (omega arith)) (omega arith))

-- a job of a list stands somewhere
member_place : {P : Type 0} (ks : List ℕ) (m : ℕ) → member m ks ≡ true → ((k : ℕ) → k < length ks → get_or ks k 0 ≡ m → P) → P
unfolding member
member_place [] m h f = not_both h refl
member_place (k ∷ ks) m h f =
    or_either (eqb k m) (member m ks) h (λ t. f 0 (omega arith) (eqb-true k m t)) (λ t. member_place ks m t (λ i b e. f (suc i) (omega arith) e))

-- the cycle turned to a job that does not stand before
turn_cut : (k : ℕ) (ks ahead rest : List ℕ) (m : ℕ) → k ∷ ks ≡ ahead ++ m ∷ rest → least k ks ≡ m → member m ahead ≡ false → turn (k ∷ ks) ≡ (m ∷ rest) ++ ahead
unfolding turn turn_to
turn_cut k ks ahead rest m e l f = rw (l, e, from_mid m ahead rest f, up_to_mid m ahead rest f)

-- the smallest job of all is the one whose place was kept
best_least : (k : ℕ) (ks : List ℕ) (best i : ℕ) → i ≡ length (k ∷ ks) → Best (k ∷ ks) best i → least k ks ≡ get_or (k ∷ ks) best 0
best_least k ks best i e b =
    let under' : least k ks ≤ get_or (k ∷ ks) best 0 = least_low k ks (get_or (k ∷ ks) best 0) (member_at (k ∷ ks) best (omega (arith, b.within))) in
    member_place (k ∷ ks) (least k ks) (least_is k ks) (λ p l q. omega (arith, b.low p (omega arith)))

-- the cycle from the smallest job's place on
pub best_turn : (round : List ℕ) (best i : ℕ) → i ≡ length round → Best round best i → (best ≤ length round) × (turn round ≡ drop best round ++ take best round)
unfolding turn
best_turn [] best i e b =
    let z : best ≡ 0 = omega (arith, b.within) in
    (omega arith, rw z)
best_turn (k ∷ ks) best i e b =
    let inside : best < length (k ∷ ks) = omega (arith, b.within) in (
      omega arith,
      turn_cut k ks (take best (k ∷ ks)) (drop (suc best) (k ∷ ks)) (get_or (k ∷ ks) best 0) (split_at (k ∷ ks) best 0 inside) (best_least k ks best i e b)
          (none_before (k ∷ ks) best (get_or (k ∷ ks) best 0) (λ p l q. omega (arith, b.firstly p l)) (omega arith))
          ∙ ap (λ l. l ++ take best (k ∷ ks)) (sym (drop-cons (k ∷ ks) best 0 inside)),
    )

-- a cycle turned is as long
pub turn_length : (round : List ℕ) → length (turn round) ≡ length round
unfolding turn turn_to
turn_length [] = refl
turn_length (k ∷ ks) =
    let m : ℕ = least k ks in
    let parts : length (k ∷ ks) ≡ length (up_to m (k ∷ ks)) + length (from m (k ∷ ks)) =
    ap length (cut m (k ∷ ks)) ∙ length-append (up_to m (k ∷ ks)) (from m (k ∷ ks)) in
    length-append (from m (k ∷ ks)) (up_to m (k ∷ ks)) ∙ omega arith

-- two parts put into the first places of a buffer, one behind the other
two_parts : (buffer xs ys : List ℕ) → put_mid (length xs) (length ys) (xs ++ drop (length xs) buffer) ys ≡ (xs ++ ys) ++ drop (length (xs ++ ys)) buffer
two_parts buffer xs ys =
    let put = xs ++ drop (length xs) buffer in
    let n = length (xs ++ ys) in
    let l : n ≡ length xs + length ys = length-append xs ys in
    let inside : length xs ≤ length put = rw (length-append xs (drop (length xs) buffer)) (omega arith) in
    sym (take-append-drop n (put_mid (length xs) (length ys) put ys))
    ∙ rw (
      take-put_mid (length xs) (length ys) put ys n l inside,
      drop-put_mid (length xs) (length ys) put ys n (omega (arith, l)) inside refl,
      take-append_seam xs (drop (length xs) buffer),
      drop-append-drop (length xs) buffer xs n (omega (arith, l)) refl,
    )

-- a cycle put into the first places of a buffer: from its smallest job on, and then what stands before that one
pub turned : (buffer round front back first second : List ℕ) (m : ℕ) → (m ≤ length round) × (turn round ≡ drop m round ++ take m round) → front ≡ take m round → back ≡ drop m round → first ≡ back → second ≡ front →
    put_mid (length back) (length round - length back) (first ++ drop (length back) buffer) second ≡ filled (turn round) buffer
unfolding filled
turned buffer round front back first second m t f b e g =
    let k : length round - length (drop m round) ≡ length (take m round) = rw (length-drop m round, length-take m round) (omega (arith, t.0)) in
    rw (e, g, f, b, k, t.1) (two_parts buffer (drop m round) (take m round))
