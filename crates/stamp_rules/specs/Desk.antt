-- The timestamp desk: jobs by number, and for each cell the largest job number that read it and the largest that wrote it (02, No. 6).
use Rattle.std.specs.Prelude.{ℕ, Bool, not, ◌&&◌, List, eqb, replicate}
use Rattle.laws.specs.Lists.{member}
use Rattle.terms.specs.Limits.{places}

-- the desk: the next number, the 32 places with the job in each (0 if free), and each cell's reader number and writer number
pub record Desk : Type 0 where
  pub next : ℕ
  pub jobs : List ℕ
  pub reader : ℕ → ℕ
  pub writer : ℕ → ℕ

-- a fresh desk: its first number is next, every place is free, and every cell's two numbers are 0 (01, Jobs and their numbers; 02, No. 6)
unfoldable pub fresh_desk : ℕ → Desk
fresh_desk n = record { next = n; jobs = replicate places 0; reader = λ c. 0; writer = λ c. 0 }

-- a job is open if it has a place; 0 never is (01, refusal 3). A job has no other state: no job waits, and a sent back job is closed (02, No. 6)
unfoldable pub is_open : Desk → ℕ → Bool
is_open d j = not (eqb j 0) && member j d.jobs
