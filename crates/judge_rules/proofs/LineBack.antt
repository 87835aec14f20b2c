-- The line handed back is that line as it stands in the text, without its newline; no other bytes are (01, Lines).
-- Assumes nothing.
use Prim.Native.Nat.{ℕ, zero, suc, ◌-◌, ◌≤◌, ◌<◌}
use mathlib.Core.Path.{◌≡◌, refl, sym, ap, ◌∙◌}
use mathlib.Core.Bool.{true, false, not}
use mathlib.Core.List.{List, [], ◌∷◌, ◌++◌, append_assoc, append-nil}
use native.Mathlib.Omega.{arith}
use lib.Dec.{eqb}
use lib.ListN.{length, take, drop, get_or}
use lib.Seq.{split_at, take-append_seam, drop-append_seam}
use borrow.Author.Tests.{eqb-true, not-true}
use Rattle.laws.specs.Choice.{by_test, not_both}
use Rattle.laws.proofs.Parts.{and_first, and_second}
use Rattle.terms.specs.Words.{newline}
use Rattle.text_rules.specs.Split.{lines_of, joined, one_line, no_newline, every}
use Rattle.text_rules.proofs.TextLines.{lines_join, lines_one}
use Rattle.judge_rules.specs.HistoryText.{readings_of, line_at, bare}
use Rattle.judge_rules.specs.LineTable.{lines_before}
use Rattle.judge_rules.specs.Answers.{NewlineOff, Stands}
use Rattle.judge_rules.specs.Answers.NewlineOff.{taken-off, lacks_it}
use Rattle.judge_rules.proofs.Readings.{readings_length}

-- joining lines in two parts
pub joined_append : (ls ms : List (List ℕ)) → joined (ls ++ ms) ≡ joined ls ++ joined ms
unfolding joined
joined_append [] ms = refl
joined_append (l ∷ ls) ms = ap (λ t. l ++ t) (joined_append ls ms) ∙ sym (append_assoc l (joined ls) (joined ms))

-- a line among lines that are each one line is one line
one_at : (ls : List (List ℕ)) (k : ℕ) → every one_line ls ≡ true → k < length ls → one_line (get_or ls k []) ≡ true
unfolding every
one_at [] k e h = absurd (omega arith)
one_at (l ∷ ls) zero e h = and_first (one_line l) (every one_line ls) e
one_at (l ∷ ls) (suc k) e h = one_at ls k (and_second (one_line l) (every one_line ls) e) (omega arith)

-- a byte that is not a newline may be put in front of both
off_more : (b : ℕ) {l bytes : List ℕ} → NewlineOff l bytes → NewlineOff (b ∷ l) (b ∷ bytes)
off_more b taken-off = taken-off
off_more b lacks_it = lacks_it

-- what the judge hands back of one line is the line without its newline
bare_off : (l : List ℕ) → one_line l ≡ true → NewlineOff l (bare l)
unfolding one_line bare
bare_off [] h = not_both h refl
bare_off (b ∷ []) h = by_test (eqb b newline) (λ e. rw e (rw (eqb-true b newline e) (taken-off {bytes = []}))) (λ e. rw e lacks_it)
bare_off (b ∷ c ∷ l) h =
    let e : eqb b newline ≡ false = not-true (eqb b newline) (and_first (not (eqb b newline)) (one_line (c ∷ l)) h) in
    rw e (off_more b (bare_off (c ∷ l) (and_second (not (eqb b newline)) (one_line (c ∷ l)) h)))

-- and has no newline
bare_none : (l : List ℕ) → no_newline (bare l) ≡ true
unfolding no_newline bare
bare_none [] = refl
bare_none (b ∷ l) = by_test (eqb b newline) (λ e. rw e) (λ e. rw e (rw e (bare_none l)))

-- bytes with no newline are left whole
bare_same : (bytes : List ℕ) → no_newline bytes ≡ true → bare bytes ≡ bytes
unfolding no_newline bare
bare_same [] h = refl
bare_same (b ∷ l) h =
    let e : eqb b newline ≡ false = not-true (eqb b newline) (and_first (not (eqb b newline)) (no_newline l) h) in
    rw e (ap (λ t. b ∷ t) (bare_same l (and_second (not (eqb b newline)) (no_newline l) h)))

-- and a newline after them is taken off
bare_cut : (bytes : List ℕ) → no_newline bytes ≡ true → bare (bytes ++ newline ∷ []) ≡ bytes
unfolding no_newline bare
bare_cut [] h = refl
bare_cut (b ∷ l) h =
    let e : eqb b newline ≡ false = not-true (eqb b newline) (and_first (not (eqb b newline)) (no_newline l) h) in
    rw e (ap (λ t. b ∷ t) (bare_cut l (and_second (not (eqb b newline)) (no_newline l) h)))

-- no other bytes are a line without its newline
off_only : (l bytes : List ℕ) → NewlineOff l bytes → no_newline bytes ≡ true → bytes ≡ bare l
off_only l bytes taken-off h = sym (bare_cut bytes h)
off_only l bytes lacks_it h = sym (bare_same bytes h)

-- what follows the bytes of a line
off_rest : {l bytes : List ℕ} → NewlineOff l bytes → (rest : List ℕ) × (l ≡ bytes ++ rest)
off_rest taken-off = (newline ∷ [], refl)
off_rest {bytes = bytes} lacks_it = ([], sym (append-nil bytes))

-- line n stands between the lines before it and those after it
line_place_lem : (text : List ℕ) (n : ℕ) → 1 ≤ n → n ≤ length (lines_of text) →
    text ≡ joined (lines_before (lines_of text) n) ++ (line_at (lines_of text) n ++ joined (drop (suc (n - 1)) (lines_of text)))
unfolding joined
line_place_lem text n a b =
    sym (lines_join text) ∙ ap joined (split_at (lines_of text) (n - 1) [] (omega arith))
    ∙ joined_append (lines_before (lines_of text) n) (line_at (lines_of text) n ∷ drop (suc (n - 1)) (lines_of text))

-- a line of the text as the judge hands it back stands there
pub bare_stands : (text : List ℕ) (n : ℕ) → 1 ≤ n → n ≤ length (readings_of text) → Stands text n (bare (line_at (lines_of text) n))
bare_stands text n a c =
    let b : n ≤ length (lines_of text) = omega (arith, readings_length text) in
    let l : List ℕ = line_at (lines_of text) n in
    let after : List ℕ = joined (drop (suc (n - 1)) (lines_of text)) in
    let off : NewlineOff l (bare l) = bare_off l (one_at (lines_of text) (n - 1) (lines_one text) (omega arith)) in
    let r = off_rest off in
    record {
      rest = r.0 ++ after;
      place = line_place_lem text n a b
          ∙ ap (λ t. joined (lines_before (lines_of text) n) ++ t) (ap (λ t. t ++ after) r.1 ∙ append_assoc (bare l) r.0 after)
          ∙ sym (append_assoc (joined (lines_before (lines_of text) n)) (bare l) (r.0 ++ after));
      whole = off;
      one = bare_none l;
    }

-- no other bytes are line n as it stands in the text without its newline
pub stands_only : (text : List ℕ) (n : ℕ) (bytes : List ℕ) → Stands text n bytes → bytes ≡ bare (line_at (lines_of text) n)
stands_only text n bytes s = off_only (line_at (lines_of text) n) bytes s.whole s.one

-- the bytes after the lines before it, as many as the line has, are the line
pub stands_behind : (text : List ℕ) (n : ℕ) (bytes : List ℕ) → Stands text n bytes → take (length bytes) (drop (length (joined (lines_before (lines_of text) n))) text) ≡ bytes
stands_behind text n bytes s =
    let before : List ℕ = joined (lines_before (lines_of text) n) in
    let e : drop (length before) text ≡ bytes ++ s.rest = ap (drop (length before)) (s.place ∙ append_assoc before bytes s.rest) ∙ drop-append_seam before (bytes ++ s.rest) in
    ap (take (length bytes)) e ∙ take-append_seam bytes s.rest
