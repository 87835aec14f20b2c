-- The bytes of a chunk from one place up to another, and the line that a cut takes.
-- Assumes nothing.
use Prim.Native.Nat.{ℕ, ◌+◌, ◌-◌, ◌≤◌, ◌<◌}
use mathlib.Core.Path.{◌≡◌, sym, ap, ◌∙◌}
use mathlib.Core.Bool.{false}
use mathlib.Core.List.{List, [], ◌∷◌, ◌++◌, append-nil}
use native.Mathlib.Omega.{arith}
use lib.Dec.{eqb}
use lib.ListN.{length, take, drop, length-drop}
use lib.Seq.{drop-drop, take_all, take-add}
use Rattle.laws.specs.Choice.{by_test}
use Rattle.terms.specs.Words.{newline}
use Rattle.text_rules.specs.declared.splitter.Splitter.{Splitter}
use Rattle.text_rules.specs.Split.{part, taken, through, used, cut_of, after_all, Found, found_now, found_in}
use Rattle.text_rules.proofs.Cuts.{through_all, taken_ended}

-- a byte that is no newline ends no line
none_yet : (s : Splitter) (b : ℕ) → eqb b newline ≡ false → found_now (taken s b) ≡ []
unfolding found_now
none_yet s b e = rw (taken_ended s b, e)

-- no bytes stand between a place and itself
pub part_none : (chunk : List ℕ) (from : ℕ) → part chunk from from ≡ []
part_none chunk from = let e : from - from ≡ 0 = omega arith in rw e

-- up to the end and past it stand all that are left
pub part_all : (chunk : List ℕ) (from to : ℕ) → from ≤ to → length chunk ≤ to → part chunk from to ≡ drop from chunk
part_all chunk from to h g = take_all (to - from) (drop from chunk) (omega (arith, length-drop from chunk))

-- up to one place and then up to another
pub part_split : (chunk : List ℕ) (from mid to : ℕ) → from ≤ mid → mid ≤ to → part chunk from to ≡ part chunk from mid ++ part chunk mid to
part_split chunk from mid to h g =
    let e : to - from ≡ (mid - from) + (to - mid) = omega arith in
    let f : from + (mid - from) ≡ mid = omega arith in
    rw (e, take-add (mid - from) (to - mid) (drop from chunk), drop-drop) (ap (λ n. take (mid - from) (drop from chunk) ++ take (to - mid) (drop n chunk)) f)

-- a cut takes the bytes up to the line's end
pub part_cut : (s : Splitter) (chunk : List ℕ) (from : ℕ) → part chunk from (cut_of s chunk from).next ≡ take (used (drop from chunk)) (drop from chunk)
unfolding cut_of
part_cut s chunk from = let e : from + used (drop from chunk) - from ≡ used (drop from chunk) = omega arith in ap (λ n. take n (drop from chunk)) e

-- they lead to the splitter that the cut gives
pub cut_leads : (s : Splitter) (chunk : List ℕ) (from : ℕ) → after_all s (part chunk from (cut_of s chunk from).next) ≡ (cut_of s chunk from).splitter
unfolding cut_of
cut_leads s chunk from = ap (after_all s) (part_cut s chunk from) ∙ sym (through_all s (drop from chunk))

-- in the bytes up to the first newline one line ends, if there is a newline
line_found : (s : Splitter) (t : List ℕ) → 0 < length t → found_in s (take (used t) t) ≡ found_now (through s t)
unfolding found_in through used
line_found s [] h = absurd (omega arith)
line_found s (b ∷ []) h = by_test (eqb b newline) (λ e. rw e (append-nil _)) (λ e. rw e (append-nil _))
line_found s (b ∷ c ∷ t) h =
    by_test (eqb b newline)
    (λ e. rw e (append-nil _))
    (λ e. rw e (ap (λ (fs : List Found). fs ++ found_in (taken s b) (take (used (c ∷ t)) (c ∷ t))) (none_yet s b e) ∙ line_found (taken s b) (c ∷ t) (omega arith)))

-- so the line that a cut finds is the one that ends in its bytes
pub cut_finds : (s : Splitter) (chunk : List ℕ) (from : ℕ) → from < length chunk → found_in s (part chunk from (cut_of s chunk from).next) ≡ found_now (cut_of s chunk from).splitter
unfolding cut_of
cut_finds s chunk from h = ap (found_in s) (part_cut s chunk from) ∙ line_found s (drop from chunk) (omega (arith, length-drop from chunk))
