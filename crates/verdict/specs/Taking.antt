-- What the verdict program keeps of the bytes that it reads, and what it says of them (01, The judge's rules; 01, refusal 16).
use Rattle.std.specs.Prelude.{ℕ, ◌-◌, min, ◌≡◌, List, length}
use Rattle.std.proofs.Math.Seq.{paste}
use Rattle.judge_rules.specs.VerdictLine.{verdict_of}

-- how many bytes of a chunk fit into a buffer after its first ones
unfoldable pub fitting : List ℕ → ℕ → List ℕ → ℕ
fitting text before chunk = min (length text - before) (length chunk)

-- a chunk kept after the first bytes, as far as there is room; all other bytes stay
unfoldable pub kept : List ℕ → ℕ → List ℕ → List ℕ
kept text before chunk = paste text before chunk (fitting text before chunk)

-- for some bytes that were read, one after the other: the buffer holds as many of the first as there is room for, and the rest of it is as it was
pub record Took (buffer after : List ℕ) (len : ℕ) : Type 0 where
  pub read : List ℕ
  pub count : len ≡ fitting buffer 0 read
  pub holds : after ≡ kept buffer 0 read

-- what is to be written: whatever bytes were read into a buffer that now holds the text, these bytes are the verdict's line on all of them (01, The judge's rules). No contract can say that they go to standard output: the one call of `write_all` is left to the comparison of programs
abbrev pub Judges : List ℕ → ℕ → List ℕ → Type 0
Judges text len bytes = (buffer : List ℕ) (t : Took buffer text len) → bytes ≡ verdict_of t.read
