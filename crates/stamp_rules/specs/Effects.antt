-- What is promised of begins and of jobs that are closed, by commit, by give-up and by being sent back (02, No. 6; 01, Jobs and their numbers).
use Rattle.std.specs.Prelude.{ℕ, ◌<◌, ◌≡◌, ◌⊎◌, false, List, ◌∷◌, Some}
use Rattle.terms.specs.declared.letters.Ask.{Ask}
use Rattle.terms.specs.declared.letters.Letter.TheVariants.{Begin, Commit, GiveUp}
use Rattle.terms.specs.Letters.{letter_of}
use Rattle.desks.specs.declared.Answer.TheVariants.{Go, Back}
use Rattle.desks.specs.Request.{Request}
use Rattle.desks.specs.Course.{Course, now, to}
use Rattle.stamp_rules.specs.Desk.{Desk, is_open}
use Rattle.stamp_rules.specs.Asked.{Asking, Begins, Closes}

pub record Effects (k : Course Desk) : Type 0 where
  -- a begin that goes opens a job under the next number
  pub begins : (r : Request) (j : ℕ) → letter_of r.kind ≡ Some Begin → (to k r).said ≡ Go j → Begins (now k) (to k r).desk j
  -- a commit or a give-up that goes closes the job and frees its place
  pub closes : (r : Request) (j : ℕ) → (letter_of r.kind ≡ Some Commit) ⊎ (letter_of r.kind ≡ Some GiveUp) → (to k r).said ≡ Go j → Closes (now k) (to k r).desk j
  -- sending back closes the job and frees its place, and the cells' numbers stay; only a job that asks for a cell is sent back (02, No. 6)
  pub sends_back : (r : Request) (j : ℕ) → (to k r).said ≡ Back j → Closes (now k) (to k r).desk j × ((a : Ask) × Asking (now k) r a)
  -- a job that was closed stays closed through any requests: its number is never given again
  pub closed_for_good : (j : ℕ) → j < (now k).next → is_open (now k) j ≡ false → (rs : List Request) → is_open (k.seen rs) j ≡ false
  -- a begin that goes after a job was sent back gives a new number, larger than that job's (02, No. 6)
  pub begun_anew : (r : Request) (j : ℕ) → (to k r).said ≡ Back j → (rs : List Request) (s : Request) (i : ℕ) → letter_of s.kind ≡ Some Begin → (k.does (r ∷ rs) s).said ≡ Go i → j < i
