-- Where the scan stands in the text: behind the kept lines, and before all others (01, Lines).
-- Assumes nothing.
use Prim.Native.Nat.{ℕ, ◌+◌, ◌-◌}
use mathlib.Core.Path.{◌≡◌, refl, sym, ap, ◌∙◌}
use mathlib.Core.List.{List, [], ◌∷◌, ◌++◌, append_assoc}
use native.Mathlib.Omega.{arith}
use lib.ListN.{length, drop, length-append}
use lib.Seq.{take-append_seam, get_or_at}
use Rattle.text_rules.specs.Split.{lines_of, joined}
use Rattle.judge_rules.specs.HistoryText.{line_at}
use Rattle.judge_rules.specs.LineTable.{lines_before}
use Rattle.judge_rules.proofs.LineBack.{joined_append}

-- n lines of the text stand before a place, and the others from there on
pub record Past (text : List ℕ) (n from : ℕ) : Type 0 where
  pub lines : List (List ℕ)
  pub many : length lines ≡ n
  pub long : length (joined lines) ≡ from
  pub all : lines_of text ≡ lines ++ lines_of (drop from text)

-- before the first line
pub past_none : (text : List ℕ) → Past text 0 0
unfolding joined
past_none text = record { lines = []; many = refl; long = refl; all = refl }

-- one more line stands before the place behind it
pub past_more : (text : List ℕ) (n from to : ℕ) (l : List ℕ) → Past text n from → lines_of (drop from text) ≡ l ∷ lines_of (drop to text) → from + length l ≡ to → Past text (n + 1) to
unfolding joined
past_more text n from to l p e f =
    let one : length (joined (l ∷ [])) ≡ length l = omega (arith, length-append l []) in
    record {
      lines = p.lines ++ l ∷ [];
      many = length-append p.lines (l ∷ []) ∙ ap (λ k. k + 1) p.many;
      long = ap length (joined_append p.lines (l ∷ [])) ∙ omega (arith, length-append (joined p.lines) (joined (l ∷ [])), one, p.long);
      all = p.all ∙ ap (λ ls. p.lines ++ ls) e ∙ sym (append_assoc p.lines (l ∷ []) (lines_of (drop to text)));
    }

-- so the next line starts behind all lines before it
pub past_place : (text : List ℕ) (n from : ℕ) → Past text n from → from ≡ length (joined (lines_before (lines_of text) (n + 1)))
past_place text n from p =
    let k : n + 1 - 1 ≡ length p.lines = omega (arith, p.many) in
    let e : lines_before (lines_of text) (n + 1) ≡ p.lines = rw (k, p.all) (take-append_seam p.lines (lines_of (drop from text))) in
    sym p.long ∙ ap (λ ls. length (joined ls)) (sym e)

-- and the next line is the one that stands there
pub past_line_at : (text : List ℕ) (n from to : ℕ) (l : List ℕ) → Past text n from → lines_of (drop from text) ≡ l ∷ lines_of (drop to text) → line_at (lines_of text) (n + 1) ≡ l
past_line_at text n from to l p e = rw (p.all, e) (get_or_at p.lines l (lines_of (drop to text)) [] (n + 1 - 1) (omega (arith, p.many)))
