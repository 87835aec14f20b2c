-- Which lines count, over the arrays that keep a history: which jobs have a c, from which line on each job's actions count, and who owns each line (01, The judge's rules).
use Rattle.std.specs.Prelude.{ℕ, zero, suc, ◌<◌, ◌≡◌, Bool, false, ◌&&◌, ◌||◌, List, eqb, ltb, leb, get_or}
use Rattle.laws.specs.Choice.{pick}
use Rattle.judge_core.specs.Sizes.{slots}

-- whether job j has a c among the first n lines
unfoldable pub has_commit : List ℕ → List ℕ → ℕ → ℕ → Bool
has_commit codes jobs zero j = false
has_commit codes jobs (suc p) j = (eqb (get_or jobs p 0) j && eqb (get_or codes p 0) 3) || has_commit codes jobs p j

-- the line from which job j's actions count: the line after its last k among the first n lines, or the first line
unfoldable pub counted_from : List ℕ → List ℕ → ℕ → ℕ → ℕ
counted_from codes jobs zero j = 0
counted_from codes jobs (suc p) j = pick (eqb (get_or jobs p 0) j && ltb 4 (get_or codes p 0)) (suc p) (counted_from codes jobs p j)

-- the owner of line p: its job, if the line is an action that counts, else 0
unfoldable pub owner_at : List ℕ → List ℕ → List ℕ → ℕ → ℕ
owner_at codes jobs since p = pick (ltb (get_or codes p 0) 3) (pick (leb (get_or since (get_or jobs p 0) 0) p) (get_or jobs p 0) 0) 0

-- the owner of a line among the first n; 0 for later lines
unfoldable pub owners_by : List ℕ → List ℕ → List ℕ → ℕ → ℕ → ℕ
owners_by codes jobs since n p = pick (ltb p n) (owner_at codes jobs since p) 0

-- the jobs of the first n lines are 1 to 255 (01, refusal 12)
pub record ByteJobs (jobs : List ℕ) (n : ℕ) : Type 0 where
  pub bytes : (p : ℕ) → p < n → get_or jobs p 0 < slots
  pub given : (p : ℕ) → p < n → get_or jobs p 0 ≡ 0 → ⊥
