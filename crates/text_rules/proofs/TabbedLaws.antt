-- Numbers with a tab before each, and numbers with a tab between them, written one after another.
-- Assumes nothing.
use Prim.Native.Nat.{ℕ, zero, suc, ◌+◌, ◌≤◌, ◌<◌}
use mathlib.Core.Path.{◌≡◌, refl, sym, ap, ◌∙◌}
use mathlib.Core.List.{List, [], ◌∷◌, ◌++◌, append_assoc, append-nil}
use native.Mathlib.Numerals.{add-one}
use native.Mathlib.Omega.{arith}
use lib.ListN.{length, take, drop, get_or, length-append, take-append-drop}
use lib.Seq.{take-suc, take_all}
use Rattle.terms.specs.Words.{tab, newline}
use Rattle.text_rules.specs.Decimal.{decimal}
use Rattle.text_rules.specs.Wrote.{Wrote}
use Rattle.text_rules.proofs.WroteLaws.{wrote_none}
use Rattle.text_rules.specs.Records.{tabbed, tabs_between, jobs_line}

-- numbers and then more numbers
pub tabbed_more : (xs ys : List ℕ) → tabbed (xs ++ ys) ≡ tabbed xs ++ tabbed ys
unfolding tabbed
tabbed_more [] ys = refl
tabbed_more (x ∷ xs) ys = ap (λ l. tab ∷ decimal x ++ l) (tabbed_more xs ys) ∙ sym (append_assoc (tab ∷ decimal x) (tabbed xs) (tabbed ys))

-- one number
tabbed_one : (n : ℕ) → tabbed (n ∷ []) ≡ tab ∷ decimal n
unfolding tabbed
tabbed_one n = append-nil (tab ∷ decimal n)

-- the first numbers and one more
pub tabbed_next : (ns : List ℕ) (i : ℕ) → i < length ns → tabbed (take i ns) ++ tab ∷ decimal (get_or ns i 0) ≡ tabbed (take (i + 1) ns)
tabbed_next ns i h =
    ap (λ l. tabbed (take i ns) ++ l) (sym (tabbed_one (get_or ns i 0)))
    ∙ sym (tabbed_more (take i ns) (get_or ns i 0 ∷ []))
    ∙ ap tabbed (sym (take-suc ns i 0 h) ∙ ap (λ k. take k ns) (sym (add-one i)))

-- how many bytes the first numbers and one more have
pub next_length : (ns : List ℕ) (i : ℕ) → i < length ns →
    length (tabbed (take (i + 1) ns)) ≡ length (tabbed (take i ns)) + length (decimal (get_or ns i 0)) + 1
next_length ns i h =
    omega (arith, ap length (sym (tabbed_next ns i h)), length-append (tabbed (take i ns)) (tab ∷ decimal (get_or ns i 0)))

-- the first numbers have no more bytes than all
pub first_shorter : (ns : List ℕ) (i : ℕ) → length (tabbed (take i ns)) ≤ length (tabbed ns)
first_shorter ns i =
    omega (
      arith,
      ap (λ l. length (tabbed l)) (take-append-drop i ns),
      ap length (tabbed_more (take i ns) (drop i ns)),
      length-append (tabbed (take i ns)) (tabbed (drop i ns)),
    )

-- after the last number, the first numbers are all
pub tabbed_all : (ns : List ℕ) (i : ℕ) → length ns ≤ i → tabbed (take i ns) ≡ tabbed ns
tabbed_all ns i h = ap tabbed (take_all i ns h)

-- before the first number nothing is written
pub none_written : {at : ℕ} {b : List ℕ} (ns : List ℕ) → at ≤ length b → Wrote at at (tabbed (take 0 ns)) b b
unfolding tabbed
none_written ns h = wrote_none h

-- the first number has no tab before it
pub between_first : (ns : List ℕ) → 0 < length ns → decimal (get_or ns 0 0) ≡ tabs_between (take 1 ns)
unfolding tabs_between tabbed
between_first [] h = absurd (omega arith)
between_first (n ∷ ns) h = sym (append-nil (decimal n))

-- the first numbers and one more, with a tab between
pub between_next : (ns : List ℕ) (i : ℕ) → 0 < i → i < length ns → tabs_between (take i ns) ++ tab ∷ decimal (get_or ns i 0) ≡ tabs_between (take (i + 1) ns)
unfolding tabs_between
between_next [] i p h = absurd (omega arith)
between_next (n ∷ ns) zero p h = absurd (omega arith)
between_next (n ∷ ns) (suc i) p h =
    let e : suc (i + 1) ≡ suc i + 1 = omega arith in
    append_assoc (decimal n) (tabbed (take i ns)) (tab ∷ decimal (get_or ns i 0)) ∙ ap (λ l. decimal n ++ l) (tabbed_next ns i (omega arith)) ∙ ap (λ k. tabs_between (take k (n ∷ ns))) e

-- the line of jobs is all of them, and the newline
pub jobs_line_is : (ns : List ℕ) (i : ℕ) → length ns ≤ i → tabs_between (take i ns) ++ newline ∷ [] ≡ jobs_line ns
unfolding jobs_line
jobs_line_is ns i h = ap (λ l. tabs_between l ++ newline ∷ []) (take_all i ns h)
