-- The lines of a text: joined they are the text, each is one line, and all but the last have a newline. No other lines do this.
-- Assumes nothing.
use Prim.Native.Nat.{ℕ, ◌+◌, ◌-◌, ◌<◌}
use mathlib.Core.Path.{◌≡◌, refl, ap, ◌∙◌}
use mathlib.Core.Bool.{Bool, true, false, not, ◌&&◌}
use mathlib.Core.List.{List, [], ◌∷◌, ◌++◌, drop_last}
use native.Mathlib.Omega.{arith}
use borrow.Author.Tests.{not-true}
use lib.Dec.{eqb}
use lib.ListN.{length, take, drop, length-drop}
use lib.Seq.{drop-drop}
use Rattle.laws.specs.Choice.{by_test, not_both}
use Rattle.terms.specs.Words.{newline}
use Rattle.text_rules.specs.Split.{in_front, lines_of, used, part, joined, one_line, has_newline, every}

-- a byte in front of the first line is in front of the text
joined_front : (b : ℕ) (ls : List (List ℕ)) → joined (in_front b ls) ≡ b ∷ joined ls
unfolding joined in_front
joined_front b [] = refl
joined_front b (l ∷ ls) = refl

-- the lines of a text, one after the other, are the text
pub lines_join : (t : List ℕ) → joined (lines_of t) ≡ t
unfolding joined lines_of
lines_join [] = refl
lines_join (b ∷ t) =
    by_test (eqb b newline)
    (λ e. rw e (ap (λ (r : List ℕ). b ∷ r) (lines_join t)))
    (λ e. rw e (joined_front b (lines_of t) ∙ ap (λ (r : List ℕ). b ∷ r) (lines_join t)))

-- a byte that is not a newline may be put in front of one line
one_front : (b : ℕ) (ls : List (List ℕ)) → eqb b newline ≡ false → every one_line ls ≡ true → every one_line (in_front b ls) ≡ true
unfolding every one_line in_front
one_front b [] e h = refl
one_front b ([] ∷ ls) e h = not_both h refl
one_front b ((c ∷ l) ∷ ls) e h = rw e h

-- every line of a text is one line: it has a byte, and no newline before its last
pub lines_one : (t : List ℕ) → every one_line (lines_of t) ≡ true
unfolding every one_line lines_of
lines_one [] = refl
lines_one (b ∷ t) =
    by_test (eqb b newline) (λ e. rw e (lines_one t)) (λ e. rw e (one_front b (lines_of t) e (lines_one t)))

-- a newline is a line by itself, and has its newline
newline_more : (b : ℕ) (ls : List (List ℕ)) → eqb b newline ≡ true → every has_newline (drop_last ls) ≡ true → every has_newline (drop_last ((b ∷ []) ∷ ls)) ≡ true
unfolding every has_newline
newline_more b [] e h = refl
newline_more b (l ∷ ls) e h = rw e h

-- a byte in front of the first line leaves its last byte as it was
newline_front : (b : ℕ) (ls : List (List ℕ)) → every has_newline (drop_last ls) ≡ true → every has_newline (drop_last (in_front b ls)) ≡ true
unfolding every has_newline in_front
newline_front b [] h = refl
newline_front b (l ∷ []) h = refl
newline_front b ([] ∷ m ∷ ls) h = not_both h refl
newline_front b ((c ∷ l) ∷ m ∷ ls) h = h

-- every line of a text but the last ends in a newline
pub lines_end : (t : List ℕ) → every has_newline (drop_last (lines_of t)) ≡ true
unfolding every lines_of
lines_end [] = refl
lines_end (b ∷ t) =
    by_test (eqb b newline)
    (λ e. rw e (newline_more b (lines_of t) e (lines_end t)))
    (λ e. rw e (newline_front b (lines_of t) (lines_end t)))

-- both parts of a test that holds
both : (a b : Bool) → (a && b) ≡ true → (a ≡ true) × (b ≡ true)
both true b h = (refl, h)
both false b h = not_both h refl

-- one line alone is the lines of itself
alone : (l : List ℕ) → one_line l ≡ true → lines_of (l ++ []) ≡ l ∷ []
unfolding one_line lines_of in_front
alone [] h = not_both h refl
alone (b ∷ []) h = by_test (eqb b newline) (λ e. rw e) (λ e. rw e)
alone (b ∷ c ∷ l) h =
    let p = both (not (eqb b newline)) (one_line (c ∷ l)) h in
    let e : eqb b newline ≡ false = not-true (eqb b newline) p.0 in
    rw e (ap (in_front b) (alone (c ∷ l) p.1))

-- one line with its newline is the first of whatever follows
before : (l t : List ℕ) → one_line l ≡ true → has_newline l ≡ true → lines_of (l ++ t) ≡ l ∷ lines_of t
unfolding one_line has_newline lines_of in_front
before [] t h g = not_both h refl
before (b ∷ []) t h g = rw g
before (b ∷ c ∷ l) t h g =
    let p = both (not (eqb b newline)) (one_line (c ∷ l)) h in
    let e : eqb b newline ≡ false = not-true (eqb b newline) p.0 in
    rw e (ap (in_front b) (before (c ∷ l) t p.1 g))

-- no other lines will do: if each is one line and all but the last have a newline, they are the lines of the text they join to
pub lines_only : (ls : List (List ℕ)) → every one_line ls ≡ true → every has_newline (drop_last ls) ≡ true → lines_of (joined ls) ≡ ls
unfolding every joined lines_of
lines_only [] h g = refl
lines_only (l ∷ []) h g = alone l (both (one_line l) true h).0
lines_only (l ∷ m ∷ ls) h g =
    let p = both (one_line l) (every one_line (m ∷ ls)) h in
    let q = both (has_newline l) (every has_newline (drop_last (m ∷ ls))) g in
    before l (joined (m ∷ ls)) p.0 q.0 ∙ ap (λ (r : List (List ℕ)). l ∷ r) (lines_only (m ∷ ls) p.1 q.1)

-- the first line of a text that has a byte is its bytes up to the line's end, and the others are the lines of the rest
pub lines_step : (t : List ℕ) → 0 < length t → lines_of t ≡ take (used t) t ∷ lines_of (drop (used t) t)
unfolding lines_of used in_front
lines_step [] h = absurd (omega arith)
lines_step (b ∷ []) h = by_test (eqb b newline) (λ e. simp e) (λ e. simp e)
lines_step (b ∷ c ∷ t) h =
    by_test (eqb b newline) (λ e. simp e) (λ e. rw e (ap (in_front b) (lines_step (c ∷ t) (omega arith))))

-- the same from a place of a text, for a caller that goes from line end to line end
pub lines_at : (t : List ℕ) (from : ℕ) → from < length t →
    lines_of (drop from t) ≡ take (used (drop from t)) (drop from t) ∷ lines_of (drop (from + used (drop from t)) t)
lines_at t from h = lines_step (drop from t) (omega (arith, length-drop from t)) ∙ rw drop-drop

-- and with the place after the line known: the lines from a place are the part up to there and those after it
pub next_line : (t : List ℕ) (from to : ℕ) → from < length t → to ≡ from + used (drop from t) → lines_of (drop from t) ≡ part t from to ∷ lines_of (drop to t)
next_line t from to h e =
    let u : to - from ≡ used (drop from t) = omega arith in
    rw (u, e) (lines_at t from h)
