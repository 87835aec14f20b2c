-- The first bytes of a line, as many as the longest good line has, decide it: a longer line is bad, at the field that they tell (01, Lines; 02, No. 5).
-- Assumes nothing.
use Prim.Native.Nat.{ℕ, ◌≤◌}
use mathlib.Core.Path.{◌≡◌, refl, sym, ap, ◌∙◌}
use mathlib.Core.Bool.{Bool, true}
use mathlib.Core.List.{List, [], ◌∷◌, ◌++◌, append-nil, map}
use native.Mathlib.Omega.{arith}
use lib.Dec.{eqb}
use lib.ListN.{length, take, drop, take-append-drop, length-append, length-drop}
use Rattle.laws.specs.Choice.{by_test, not_both}
use Rattle.terms.specs.declared.letters.Letter.{Letter}
use Rattle.terms.specs.Words.{newline}
use Rattle.text_rules.specs.Lines.{read_line}
use Rattle.text_rules.specs.Split.{kept, lines_of, one_line, no_newline, every}
use Rattle.text_rules.proofs.CutLines.{line_decided}
use Rattle.text_rules.proofs.TextLines.{lines_one}

-- one line has no newline before its last byte
plain_before : (p : List ℕ) (c : ℕ) (q : List ℕ) → one_line (p ++ c ∷ q) ≡ true → no_newline p ≡ true
unfolding one_line no_newline
plain_before [] c q h = refl
plain_before (b ∷ []) c q h = by_test (eqb b newline) (λ e. not_both (rw e at h) refl) (λ e. rw e)
plain_before (b ∷ d ∷ p) c q h = by_test (eqb b newline) (λ e. not_both (rw e at h) refl) (λ e. rw e (plain_before (d ∷ p) c q (rw e at h)))

-- A LINE IS DECIDED BY ITS FIRST 16 BYTES, and so is its field at fault
pub short_reads : (which : Letter → Bool) (bytes : List ℕ) → one_line bytes ≡ true → read_line which (take 16 bytes) ≡ read_line which bytes
short_reads which bytes o = go (drop kept bytes) refl
  where
    whole : take kept bytes ++ drop kept bytes ≡ bytes
    whole = take-append-drop kept bytes

    go : (q : List ℕ) → drop kept bytes ≡ q → read_line which (take kept bytes) ≡ read_line which bytes
    go [] e = ap (read_line which) (sym (append-nil (take kept bytes)) ∙ ap (λ u. take kept bytes ++ u) (sym e) ∙ whole)
    go (c ∷ q) e =
        let all : take kept bytes ++ (c ∷ q) ≡ bytes = ap (λ u. take kept bytes ++ u) (sym e) ∙ whole in
        let many : 16 ≤ length (take kept bytes) = omega (arith, length-drop kept bytes, ap length e, ap length all, length-append (take kept bytes) (c ∷ q)) in
        sym (line_decided which (take kept bytes) (c ∷ q) (plain_before (take kept bytes) c q (ap one_line all ∙ o)) many) ∙ ap (read_line which) all

-- texts that are one line each are decided by their first 16 bytes
all_short : (which : Letter → Bool) (ls : List (List ℕ)) → every one_line ls ≡ true → map (λ l. read_line which (take kept l)) ls ≡ map (read_line which) ls
unfolding every
all_short which [] h = refl
all_short which (l ∷ ls) h =
    by_test (one_line l) (λ o. rw (short_reads which l o) (ap (λ rs. read_line which l ∷ rs) (all_short which ls (rw o at h))))
    (λ o. not_both (rw o at h) refl)

-- every line of every text is decided by its first 16 bytes
pub short_lines : (which : Letter → Bool) (t : List ℕ) → map (λ l. read_line which (take 16 l)) (lines_of t) ≡ map (read_line which) (lines_of t)
short_lines which t = all_short which (lines_of t) (lines_one t)
