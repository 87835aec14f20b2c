-- What writing bytes from a place does to a list: the bytes stand there, and all other bytes stay (01, Lines).
use Rattle.std.specs.Prelude.{ℕ, ◌+◌, ◌≤◌, ◌≡◌, List, ◌++◌, length, take, drop}

-- the bytes stand from one place up to another; before and after them the list is as it was
pub record Wrote (from to : ℕ) (bytes before after : List ℕ) : Type 0 where
  pub ends : to ≡ from + length bytes
  pub within : to ≤ length before
  pub holds : after ≡ take from before ++ bytes ++ drop to before

-- bytes put into a buffer from a place; all other bytes stay
abbrev pub put_from : List ℕ → ℕ → List ℕ → List ℕ
put_from buffer at bytes = take at buffer ++ bytes ++ drop (at + length bytes) buffer
