-- The lines of a text, and the splitter that finds them, byte by byte (01, Lines).
use Rattle.std.specs.Prelude.{ℕ, zero, suc, ◌+◌, ◌-◌, ◌^◌, ◌≤◌, ◌≡◌, Bool, true, false, not, ◌&&◌, List, [], ◌∷◌, ◌++◌, eqb, ltb, length, take, drop, set, replicate}
use Rattle.laws.specs.Choice.{pick}
use Rattle.terms.specs.Words.{newline}
use Rattle.text_rules.specs.declared.splitter.Splitter.{Splitter}
use Rattle.text_rules.specs.declared.splitter.Cut.{Cut}

-- a byte added in front of the first line, or a line of its own if there is none
unfoldable pub in_front : ℕ → List (List ℕ) → List (List ℕ)
in_front b [] = (b ∷ []) ∷ []
in_front b (l ∷ ls) = (b ∷ l) ∷ ls

-- the lines of a text: each is the bytes up to and including the next newline; bytes after the last newline are one more line, without one (01, Lines)
unfoldable pub lines_of : List ℕ → List (List ℕ)
lines_of [] = []
lines_of (b ∷ t) = pick (eqb b newline) ((b ∷ []) ∷ lines_of t) (in_front b (lines_of t))

-- how many bytes of a line are kept: a letter, a tab, ten digits, a tab, two digits and a newline (01, Lines)
abbrev pub kept : ℕ
kept = 16

-- the next line number; the largest number of 64 bits stays, and no text is long enough to reach it
unfoldable pub following : ℕ → ℕ
following n = pick (ltb n (2 ^ 64 - 1)) (n + 1) n

-- before any byte: nothing is kept, and no line has begun
unfoldable pub fresh : Splitter
fresh = record { kept = replicate kept 0; len = 0; ended = true; line = 0 }

-- one more byte: the first of a new line if the last line has its newline, else one more of this line; it is kept while there is room
unfoldable pub taken : Splitter → ℕ → Splitter
taken s b =
    pick s.ended
    (record { kept = set s.kept 0 b; len = 1; ended = eqb b newline; line = following s.line })
    (pick (ltb s.len kept)
    (record { kept = set s.kept s.len b; len = s.len + 1; ended = eqb b newline; line = s.line })
    (record { kept = s.kept; len = s.len; ended = eqb b newline; line = s.line }))

-- a line that has begun and not ended, with this many bytes kept
unfoldable pub under_way : List ℕ → ℕ → ℕ → Splitter
under_way bytes n line = record { kept = bytes; len = n; ended = false; line = line }

-- the splitter after the bytes up to and including the first newline, or after all of them if there is none
unfoldable pub through : Splitter → List ℕ → Splitter
through s [] = s
through s (b ∷ t) = pick (eqb b newline) (taken s b) (through (taken s b) t)

-- how many bytes those are
unfoldable pub used : List ℕ → ℕ
used [] = 0
used (b ∷ t) = pick (eqb b newline) 1 (suc (used t))

-- the bytes of a text from one place to another
abbrev pub part : List ℕ → ℕ → ℕ → List ℕ
part text from to = take (to - from) (drop from text)

-- the splitter after the chunk's bytes from a place up to and including the next newline, and the place after them
unfoldable pub cut_of : Splitter → List ℕ → ℕ → Cut
cut_of s chunk from = record { splitter = through s (drop from chunk); next = from + used (drop from chunk) }

-- lines, or chunks, one after another
unfoldable pub joined : List (List ℕ) → List ℕ
joined [] = []
joined (l ∷ ls) = l ++ joined ls

-- the splitter after all bytes of a run, one after another
unfoldable pub after_all : Splitter → List ℕ → Splitter
after_all s [] = s
after_all s (b ∷ t) = after_all (taken s b) t

-- what a caller may rely on: no more bytes are kept than there is room for, and the room does not change
pub record Sized (s : Splitter) : Type 0 where
  pub within : s.len ≤ kept
  pub room : length s.kept ≡ kept

-- a line as a caller finds it in the splitter: its number, and its bytes that were kept
pub record Found : Type 0 where
  pub number : ℕ
  pub bytes : List ℕ

-- the line that is in the splitter
unfoldable pub found_at : Splitter → Found
found_at s = record { number = s.line; bytes = take s.len s.kept }

-- after a byte or a cut: the caller finds the line in the splitter if it has its newline, else none
unfoldable pub found_now : Splitter → List Found
found_now s = pick s.ended (found_at s ∷ []) []

-- at the end of the input: the caller finds the line in the splitter if it lacks its newline, else none
unfoldable pub found_last : Splitter → List Found
found_last s = pick s.ended [] (found_at s ∷ [])

-- the lines that end in a run of bytes, in order
unfoldable pub found_in : Splitter → List ℕ → List Found
found_in s [] = []
found_in s (b ∷ t) = found_now (taken s b) ++ found_in (taken s b) t

-- the lines of an input that comes in chunks, the last with or without its newline
unfoldable pub found_over : Splitter → List (List ℕ) → List Found
found_over s [] = found_last s
found_over s (c ∷ cs) = found_in s c ++ found_over (after_all s c) cs

-- what is found of lines numbered from n: for each line its number and its first bytes, as many as are kept
unfoldable pub numbered : ℕ → List (List ℕ) → List Found
numbered n [] = []
numbered n (l ∷ ls) = record { number = n; bytes = take kept l } ∷ numbered (n + 1) ls

-- the same with the numbers that the splitter gives; the largest number stays
unfoldable pub numbered_on : ℕ → List (List ℕ) → List Found
numbered_on n [] = []
numbered_on n (l ∷ ls) = record { number = n; bytes = take kept l } ∷ numbered_on (following n) ls

-- the splitter after cuts of a chunk from a place on, each from where the one before ended, until nothing is left or n cuts are made
unfoldable pub after_cuts : ℕ → Splitter → List ℕ → ℕ → Splitter
after_cuts zero s chunk from = s
after_cuts (suc n) s chunk from =
    pick (ltb from (length chunk)) (after_cuts n (cut_of s chunk from).splitter chunk (cut_of s chunk from).next) s

-- the lines that those cuts find, at most one after each cut
unfoldable pub found_cuts : ℕ → Splitter → List ℕ → ℕ → List Found
found_cuts zero s chunk from = []
found_cuts (suc n) s chunk from =
    pick (ltb from (length chunk))
    (found_now (cut_of s chunk from).splitter ++ found_cuts n (cut_of s chunk from).splitter chunk (cut_of s chunk from).next)
    []

-- the lines of an input that comes in chunks, for a caller that cuts every chunk from its first byte on
unfoldable pub found_by_cuts : Splitter → List (List ℕ) → List Found
found_by_cuts s [] = found_last s
found_by_cuts s (c ∷ cs) = found_cuts (length c) s c 0 ++ found_by_cuts (after_cuts (length c) s c 0) cs

-- whether bytes are one line: there is a byte, and no newline before the last
unfoldable pub one_line : List ℕ → Bool
one_line [] = false
one_line (b ∷ []) = true
one_line (b ∷ c ∷ l) = not (eqb b newline) && one_line (c ∷ l)

-- whether bytes end in a newline
unfoldable pub has_newline : List ℕ → Bool
has_newline [] = false
has_newline (b ∷ []) = eqb b newline
has_newline (b ∷ c ∷ l) = has_newline (c ∷ l)

-- whether no byte is a newline
unfoldable pub no_newline : List ℕ → Bool
no_newline [] = true
no_newline (b ∷ l) = not (eqb b newline) && no_newline l

-- whether a test holds of every line
unfoldable pub every : (List ℕ → Bool) → List (List ℕ) → Bool
every f [] = true
every f (l ∷ ls) = f l && every f ls
