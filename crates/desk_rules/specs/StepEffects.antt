-- What is promised of one step by its answer: begin, retry, commit, give-up, sending back, a request that goes, and a wait (01, The desk's rules).
use Rattle.std.specs.Prelude.{ℕ, ◌<◌, ◌≡◌, ◌⊎◌, List, Some}
use Rattle.terms.specs.declared.letters.Ask.{Ask}
use Rattle.terms.specs.declared.letters.Letter.TheVariants.{Begin, Commit, GiveUp, Retry, Asks}
use Rattle.terms.specs.Letters.{letter_of}
use Rattle.desks.specs.declared.Answer.TheVariants.{Go, Wait, Back}
use Rattle.desks.specs.Request.{Request}
use Rattle.desk_rules.specs.Desk.{closed, sentback}
use Rattle.desks.specs.Course.{now, to}
use Rattle.desk_rules.specs.Course.{Course}
use Rattle.desk_rules.specs.Effects.{Away, Begins, Retries, Closes, SendsBack, Grants, Exactly, StartsToWait}

pub record StepEffects (k : Course) : Type 0 where
  -- a begin that goes opens a running job that holds nothing, under the next number
  pub begins : (r : Request) (j : ℕ) → letter_of r.kind ≡ Some Begin → (to k r).said ≡ Go j → Begins (now k) (to k r).desk j
  -- a retry that goes makes a sent back job running again, holding nothing (01, rule 5)
  pub retries : (r : Request) (j : ℕ) → letter_of r.kind ≡ Some Retry → (to k r).said ≡ Go j → Retries (now k) (to k r).desk j
  -- a commit or a give-up that goes closes the job, frees its place and leaves it no lock (01, rule 4)
  pub closes : (r : Request) (j : ℕ) → (letter_of r.kind ≡ Some Commit) ⊎ (letter_of r.kind ≡ Some GiveUp) → (to k r).said ≡ Go j → Closes (now k) (to k r).desk j
  -- a sent back job holds nothing and keeps its number and its place, and as long as it is sent back it holds nothing (01, Jobs and their numbers)
  pub sends_back : (r : Request) (j : ℕ) → (to k r).said ≡ Back j → SendsBack (now k) (to k r).desk j
  pub sent_back_away : (j : ℕ) → (now k).stat j ≡ sentback → Away (now k) j
  -- a job that has closed stays closed through any requests: its number is never given again (01, Jobs and their numbers)
  pub closed_for_good : (j : ℕ) → j < (now k).next → (now k).stat j ≡ closed → (rs : List Request) → (k.seen rs).stat j ≡ closed
  -- after a go the job holds a mode that covers what it needs, and every other job holds what it held (01, rules 1 to 3)
  pub grants_need : (r : Request) (a : Ask) (j : ℕ) → letter_of r.kind ≡ Some (Asks a) → (to k r).said ≡ Go j → Grants (now k) (to k r).desk r a j
  -- by rule 1 exactly what it held, by rule 2 what that becomes, by rule 3 what it needs
  pub grants_exactly : (r : Request) (a : Ask) (j : ℕ) → letter_of r.kind ≡ Some (Asks a) → (to k r).said ≡ Go j → Exactly (((now k).row r.cell).held r.job) (((to k r).desk.row r.cell).held r.job) a
  -- a step that answers wait makes the job wait, still holding its old mode, first or last (01, rules 2 and 3)
  pub waits : (r : Request) (j : ℕ) → (to k r).said ≡ Wait j → (a : Ask) × StartsToWait (now k) (to k r).desk r a j
