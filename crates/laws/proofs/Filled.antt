-- Numbers put into the first places of a lent list: they stand there, the rest is unchanged, and no other list is like that; one number more, and others put over them.
-- Assumes nothing.
use Prim.Native.Nat.{ℕ, suc, ◌+◌, ◌-◌, ◌≤◌, ◌<◌}
use mathlib.Core.Path.{◌≡◌, sym, ap, ap₂, ◌∙◌}
use mathlib.Core.List.{List, [], ◌∷◌, ◌++◌, append_assoc}
use native.Mathlib.Omega.{arith}
use native.Mathlib.Numerals.{add-one}
use lib.ListN.{length, get_or, set, take, drop, length-append, length-drop, take-append-drop}
use lib.Seq.{drop-cons, drop-drop, drop-append-add, take-append_seam, drop-append_seam, set-append_seam}
use Rattle.laws.specs.Lists.{filled, Fills}

-- they stand in the first places
pub filled_first : (js list : List ℕ) → take (length js) (filled js list) ≡ js
unfolding filled
filled_first js list = take-append_seam js (drop (length js) list)

-- where there is room for them the list keeps its length
pub filled_length : (js list : List ℕ) → length js ≤ length list → length (filled js list) ≡ length list
unfolding filled
filled_length js list h = omega (arith, length-append js (drop (length js) list), length-drop (length js) list)

-- and they fill the first places
pub fills : (js list : List ℕ) → length js ≤ length list → Fills js list (filled js list)
fills js list h =
    record {
      first = filled_first js list;
      rest = unfold filled in drop-append_seam js (drop (length js) list);
      size = filled_length js list h;
    }

-- one number more goes into the next place
pub filled_more : (js list : List ℕ) (k : ℕ) → length js < length list → set (filled js list) (length js) k ≡ filled (js ++ k ∷ []) list
unfolding filled
filled_more js list k h =
    let e : length (js ++ k ∷ []) ≡ suc (length js) = length-append js (k ∷ []) ∙ add-one (length js) in
    ap (λ r. set (js ++ r) (length js) k) (drop-cons list (length js) 0 h) ∙ set-append_seam js (get_or list (length js) 0) (drop (suc (length js)) list) k
    ∙ sym (ap (λ n. (js ++ k ∷ []) ++ drop n list) e ∙ append_assoc js (k ∷ []) (drop (suc (length js)) list))

-- others put over them, as many at least, are all that is left of both
pub filled_again : (js list ks : List ℕ) → length js ≤ length ks → filled ks (filled js list) ≡ filled ks list
unfolding filled
filled_again js list ks h =
    let e : length js + (length ks - length js) ≡ length ks = omega arith in
    ap (λ r. ks ++ r)
    (ap (λ n. drop n (js ++ drop (length js) list)) (sym e) ∙ drop-append-add js (drop (length js) list) (length ks - length js) ∙ drop-drop (length ks - length js) (length js) list ∙ ap (λ n. drop n list) e)

-- and nothing else is in the list where they do
pub fills_only : (js before after : List ℕ) → Fills js before after → after ≡ filled js before
unfolding filled
fills_only js before after f = sym (take-append-drop (length js) after) ∙ ap₂ (λ s t. s ++ t) f.first f.rest
