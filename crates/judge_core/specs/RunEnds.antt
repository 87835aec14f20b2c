-- Where runs end, over the arrays that keep a history; from that, which lines are dirty reads, and which writes and increments make them dirty (02, No. 2).
use Rattle.std.specs.Prelude.{ℕ, zero, suc, ◌-◌, ◌≤◌, ◌<◌, ◌≡◌, Bool, true, false, ◌&&◌, ◌||◌, List, eqb, ltb, leb, length, get_or, Option, None, Some}
use Rattle.laws.specs.Choice.{pick}
use Rattle.terms.specs.Limits.{judged_lines}
use Rattle.conflict.specs.Dirty.{ReadOf}
use Rattle.judge_core.specs.declared.dirty.Dirt.{Dirt}

-- where the run of line p's job ends as seen from p: 0 if the line is a c, p if it is another mark, else the end as seen from the next line
unfoldable pub end_by : ℕ → ℕ → ℕ → ℕ
end_by code p later = pick (ltb code 3) later (pick (eqb code 3) 0 p)

-- where job j's run ends within the m lines from p on: 0 if it commits, else the line of its mark, or the line after the last if it has none
unfoldable pub run_end : List ℕ → List ℕ → ℕ → ℕ → ℕ → ℕ
run_end codes jobs j p zero = p
run_end codes jobs j p (suc m) = pick (eqb (get_or jobs p 0) j) (end_by (get_or codes p 0) p (run_end codes jobs j (suc p) m)) (run_end codes jobs j (suc p) m)

-- where the run of line p ends, among the first n lines
unfoldable pub end_at : List ℕ → List ℕ → ℕ → ℕ → ℕ
end_at codes jobs n p = run_end codes jobs (get_or jobs p 0) (suc p) (n - suc p)

-- the ends of the runs of the first n lines
pub record RunEnds (codes jobs : List ℕ) (n : ℕ) (ends : List ℕ) : Type 0 where
  pub wide : length ends ≡ judged_lines
  pub there : (p : ℕ) → p < n → get_or ends p 0 ≡ end_at codes jobs n p

-- whether a code is that of a write or an increment
unfoldable pub changing : ℕ → Bool
changing code = eqb code 1 || eqb code 2

-- the later of an end and that of the run of a line with this code, if the line writes or increments
unfoldable pub later_end : ℕ → ℕ → ℕ → ℕ
later_end code end latest = pick (changing code) (pick (leb end latest) latest end) latest

-- the latest end of the runs that write or increment cell c on the first p lines
unfoldable pub latest_end : List ℕ → List ℕ → List ℕ → ℕ → ℕ → ℕ
latest_end codes cells ends c zero = 0
latest_end codes cells ends c (suc p) = pick (eqb (get_or cells p 0) c) (later_end (get_or codes p 0) (get_or ends p 0) (latest_end codes cells ends c p)) (latest_end codes cells ends c p)

-- whether line p, with this code and run end, is a read of a run that commits, while the latest end of runs that changed its cell stands after it
unfoldable pub reads_dirt : ℕ → ℕ → ℕ → ℕ → Bool
reads_dirt code end latest p = eqb code 0 && (eqb end 0 && ltb p latest)

-- whether line p is a dirty read
unfoldable pub dirty_at : List ℕ → List ℕ → List ℕ → ℕ → Bool
dirty_at codes cells ends p = reads_dirt (get_or codes p 0) (get_or ends p 0) (latest_end codes cells ends (get_or cells p 0) p) p

-- whether line q writes or increments the cell of line p, in a run that does not commit and is still open at p
unfoldable pub spoils_at : List ℕ → List ℕ → List ℕ → ℕ → ℕ → Bool
spoils_at codes cells ends p q = eqb (get_or cells q 0) (get_or cells p 0) && (changing (get_or codes q 0) && ltb p (get_or ends q 0))

-- the first dirty read among the first n lines, or n
pub record FirstRead (codes cells ends : List ℕ) (n p : ℕ) : Type 0 where
  pub within : p ≤ n
  pub clean : (q : ℕ) → q < p → dirty_at codes cells ends q ≡ false
  pub dirty : p < n → dirty_at codes cells ends p ≡ true

-- the last line before p that makes a read there dirty, or p
pub record LastWrite (codes cells ends : List ℕ) (p q : ℕ) : Type 0 where
  pub within : q ≤ p
  pub spoils : q < p → spoils_at codes cells ends p q ≡ true
  pub later : (x : ℕ) → x < p → spoils_at codes cells ends p x ≡ true → (x ≤ q) × (q < p)

-- reader and writer of the first dirty read, if there is one
unfoldable pub dirt_of : Option ReadOf → Option Dirt
dirt_of None = None
dirt_of (Some d) = Some (record { reader = d.reader; writer = d.writer })
