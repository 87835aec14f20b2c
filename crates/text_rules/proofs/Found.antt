-- The splitter finds the lines: from the start, however the text is cut into chunks, it finds each line once, in order, with its number and its first bytes.
-- Assumes nothing.
use Prim.Native.Nat.{ℕ, ◌+◌, ◌-◌, ◌^◌, ◌≤◌, ◌<◌}
use mathlib.Core.Path.{◌≡◌, refl, sym, ap, ap₂, ◌∙◌}
use mathlib.Core.Bool.{true, false}
use mathlib.Core.List.{List, [], ◌∷◌, ◌++◌, append_assoc}
use native.Mathlib.Omega.{arith}
use borrow.Author.Tests.{lt-ltb}
use lib.Dec.{eqb, ltb}
use lib.ListN.{length, take}
use Rattle.laws.specs.Choice.{by_test}
use Rattle.terms.specs.Words.{newline}
use Rattle.text_rules.specs.declared.splitter.Splitter.{Splitter}
use Rattle.text_rules.specs.Split.{in_front, lines_of, kept, following, fresh, taken, joined, after_all, Found, found_at, found_now, found_last, found_in, found_over, numbered, numbered_on, found_by_cuts}
use Rattle.text_rules.proofs.Chunks.{chunks_do_not_matter}
use Rattle.text_rules.proofs.Cuts.{cuts_do_not_matter, taken_ended}
use Rattle.text_rules.proofs.Held.{Holds, holds_first, holds_more}

-- no line is under way, and n lines have come
record Between (s : Splitter) (n : ℕ) : Type 0 where
  over : s.ended ≡ true
  count : s.line ≡ n
  room : length s.kept ≡ kept

-- line n is under way, and these bytes of it have come
record Within (s : Splitter) (p : List ℕ) (n : ℕ) : Type 0 where
  going : s.ended ≡ false
  count : s.line ≡ n
  held : Holds s p

-- the first byte of a line
count_first : (s : Splitter) (b : ℕ) → s.ended ≡ true → (taken s b).line ≡ following s.line
unfolding taken
count_first s b e = rw e

-- a further byte
count_more : (s : Splitter) (b : ℕ) → s.ended ≡ false → (taken s b).line ≡ s.line
unfolding taken
count_more s b e = rw e (by_test (ltb s.len kept) (λ f. rw f) (λ f. rw f))

-- the bytes that have come, in front of the lines of the rest
onto : List ℕ → List (List ℕ) → List (List ℕ)
onto p [] = p ∷ []
onto p (l ∷ ls) = (p ++ l) ∷ ls

-- a byte in front of the rest is one more byte that has come
onto_front : (p : List ℕ) (b : ℕ) (ls : List (List ℕ)) → onto (p ++ (b ∷ [])) ls ≡ onto p (in_front b ls)
unfolding onto in_front
onto_front p b [] = refl
onto_front p b (l ∷ ls) = ap (λ (r : List ℕ). r ∷ ls) (append_assoc p (b ∷ []) l)

-- the first byte of a line is in front of the rest
onto_first : (b : ℕ) (ls : List (List ℕ)) → onto (b ∷ []) ls ≡ in_front b ls
unfolding onto in_front
onto_first b [] = refl
onto_first b (l ∷ ls) = refl

-- all lines that are found from here to the end of the input
rest : Splitter → List ℕ → List Found
rest s t = found_in s t ++ found_last (after_all s t)

-- these are the lines found over one chunk
over : (t : List ℕ) → found_over fresh (t ∷ []) ≡ rest fresh t
unfolding found_over rest
over t = refl

-- at a newline the line that is held is found
rest_newline : (s : Splitter) (b : ℕ) (t : List ℕ) → eqb b newline ≡ true → rest s (b ∷ t) ≡ found_at (taken s b) ∷ rest (taken s b) t
unfolding rest found_in after_all found_now
rest_newline s b t e = rw (taken_ended s b, e)

-- at any other byte no line is found
rest_other : (s : Splitter) (b : ℕ) (t : List ℕ) → eqb b newline ≡ false → rest s (b ∷ t) ≡ rest (taken s b) t
unfolding rest found_in after_all found_now
rest_other s b t e = rw (taken_ended s b, e)

-- what the splitter holds of a line is what is found of it
found_held : (s : Splitter) (p : List ℕ) (n : ℕ) → s.line ≡ n → Holds s p → found_at s ≡ record { number = n; bytes = take kept p }
unfolding found_at
found_held s p n e h = λ i. record { number = e i; bytes = h.bytes i }

-- between lines: the lines of the rest are found, numbered on from the lines that have come
abbrev FromBetween : List ℕ → Type 0
FromBetween t = (s : Splitter) (n : ℕ) → Between s n → rest s t ≡ numbered_on (following n) (lines_of t)

-- within a line: the same, with the bytes that have come in front
abbrev FromWithin : List ℕ → Type 0
FromWithin t = (s : Splitter) (p : List ℕ) (n : ℕ) → Within s p n → rest s t ≡ numbered_on n (onto p (lines_of t))

-- a newline is a line by itself
lines_newline : (b : ℕ) (t : List ℕ) → eqb b newline ≡ true → lines_of (b ∷ t) ≡ (b ∷ []) ∷ lines_of t
unfolding lines_of
lines_newline b t e = rw e

-- any other byte is the first of the next line
lines_other : (b : ℕ) (t : List ℕ) → eqb b newline ≡ false → lines_of (b ∷ t) ≡ in_front b (lines_of t)
unfolding lines_of
lines_other b t e = rw e

-- the line that is held is found, and then the others
found_next : (s : Splitter) (p t : List ℕ) (n : ℕ) (ls : List (List ℕ)) → s.line ≡ n → Holds s p → rest s t ≡ numbered_on (following n) ls → found_at s ∷ rest s t ≡ numbered_on n (p ∷ ls)
unfolding numbered_on
found_next s p t n ls c g f = ap₂ (λ (x : Found) (xs : List Found). x ∷ xs) (found_held s p n c g) f

module _ (b : ℕ) (t : List ℕ) (between : FromBetween t) (within : FromWithin t) where
  -- between lines, at a newline
  between_newline : eqb b newline ≡ true → FromBetween (b ∷ t)
  between_newline e s n h =
      let c : (taken s b).line ≡ following n = count_first s b h.over ∙ ap following h.count in
      let g : Holds (taken s b) (b ∷ []) = holds_first s b h.over h.room in
      let i : Between (taken s b) (following n) = record { over = taken_ended s b ∙ e; count = c; room = g.room } in
      rest_newline s b t e
      ∙ rw (lines_newline b t e) (found_next (taken s b) (b ∷ []) t (following n) (lines_of t) c g (between (taken s b) (following n) i))

  -- between lines, at any other byte
  between_other : eqb b newline ≡ false → FromBetween (b ∷ t)
  between_other e s n h =
      let q : lines_of (b ∷ t) ≡ onto (b ∷ []) (lines_of t) = lines_other b t e ∙ sym (onto_first b (lines_of t)) in
      let c : (taken s b).line ≡ following n = count_first s b h.over ∙ ap following h.count in
      let i : Within (taken s b) (b ∷ []) (following n) = record { going = taken_ended s b ∙ e; count = c; held = holds_first s b h.over h.room } in
      rest_other s b t e ∙ rw q (within (taken s b) (b ∷ []) (following n) i)

  -- within a line, at its newline
  within_newline : eqb b newline ≡ true → FromWithin (b ∷ t)
  within_newline e s p n h =
      let q : onto p (lines_of (b ∷ t)) ≡ (p ++ (b ∷ [])) ∷ lines_of t = unfold onto in ap (onto p) (lines_newline b t e) in
      let c : (taken s b).line ≡ n = count_more s b h.going ∙ h.count in
      let g : Holds (taken s b) (p ++ (b ∷ [])) = holds_more s p b h.going h.held in
      let i : Between (taken s b) n = record { over = taken_ended s b ∙ e; count = c; room = g.room } in
      rest_newline s b t e
      ∙ rw q (found_next (taken s b) (p ++ (b ∷ [])) t n (lines_of t) c g (between (taken s b) n i))

  -- within a line, at any other byte
  within_other : eqb b newline ≡ false → FromWithin (b ∷ t)
  within_other e s p n h =
      let q : onto p (lines_of (b ∷ t)) ≡ onto (p ++ (b ∷ [])) (lines_of t) = ap (onto p) (lines_other b t e) ∙ sym (onto_front p b (lines_of t)) in
      let c : (taken s b).line ≡ n = count_more s b h.going ∙ h.count in
      let i : Within (taken s b) (p ++ (b ∷ [])) n = record { going = taken_ended s b ∙ e; count = c; held = holds_more s p b h.going h.held } in
      rest_other s b t e ∙ rw q (within (taken s b) (p ++ (b ∷ [])) n i)

-- at the end of the input, between lines
between_end : FromBetween []
unfolding rest found_in after_all found_last lines_of numbered_on
between_end s n h = rw h.over

-- at the end of the input, within a line
within_end : FromWithin []
unfolding rest found_in after_all found_last found_at lines_of onto numbered_on
within_end s p n h = rw h.going (ap (λ (x : Found). x ∷ []) (found_held s p n h.count h.held))

-- both, for every text
finds : (t : List ℕ) → FromBetween t × FromWithin t
finds [] = (between_end, within_end)
finds (b ∷ t) =
    by_test (eqb b newline)
    (λ e. (between_newline b t (finds t).0 (finds t).1 e, within_newline b t (finds t).0 (finds t).1 e))
    (λ e. (between_other b t (finds t).0 (finds t).1 e, within_other b t (finds t).0 (finds t).1 e))

-- a splitter that has seen no byte is between lines
fresh_between : Between fresh 0
unfolding fresh
fresh_between = record { over = refl; count = refl; room = refl }

-- THE SPLITTER FINDS THE LINES: whatever the chunks, the lines found are those of the text, in order, with their numbers and their first 16 bytes
pub finds_all : (chunks : List (List ℕ)) → found_over fresh chunks ≡ numbered_on (following 0) (lines_of (joined chunks))
finds_all chunks = chunks_do_not_matter fresh chunks ∙ over (joined chunks) ∙ (finds (joined chunks)).0 fresh 0 fresh_between

-- the next number is larger by one while there is a larger one
following_is : (n : ℕ) → n + 1 < 2 ^ 64 → following n ≡ n + 1
unfolding following
following_is n h = rw (lt-ltb n (2 ^ 64 - 1) (omega arith))

-- while there is a larger number, the lines are numbered one by one
one_by_one : (n : ℕ) (ls : List (List ℕ)) → n + length ls ≤ 2 ^ 64 → numbered_on n ls ≡ numbered n ls
unfolding numbered_on numbered
one_by_one n [] h = refl
one_by_one n (l ∷ []) h = refl
one_by_one n (l ∷ m ∷ ls) h =
    ap (λ (fs : List Found). record { number = n; bytes = take kept l } ∷ fs) (ap (λ k. numbered_on k (m ∷ ls)) (following_is n (omega arith)) ∙ one_by_one (n + 1) (m ∷ ls) (omega arith))

-- so they are numbered from 1, if there are fewer than 2 to the power of 64
pub finds_lines : (chunks : List (List ℕ)) → length (lines_of (joined chunks)) < 2 ^ 64 → found_over fresh chunks ≡ numbered 1 (lines_of (joined chunks))
unfolding following
finds_lines chunks h = finds_all chunks ∙ one_by_one 1 (lines_of (joined chunks)) (omega arith)

-- and a caller that cuts every chunk finds the same lines
pub cuts_find_lines : (chunks : List (List ℕ)) → length (lines_of (joined chunks)) < 2 ^ 64 → found_by_cuts fresh chunks ≡ numbered 1 (lines_of (joined chunks))
cuts_find_lines chunks h = cuts_do_not_matter fresh chunks ∙ finds_lines chunks h
