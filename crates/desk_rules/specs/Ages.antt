-- What is promised of ages: a job older than every other live job is never sent back, and no job begun later is older (demand 3, third sentence).
use Rattle.std.specs.Prelude.{ℕ, ◌<◌, ◌≡◌, ◌≢◌, true, false, List, ◌++◌, Some}
use Rattle.terms.specs.declared.letters.Letter.TheVariants.{Begin}
use Rattle.terms.specs.Letters.{letter_of}
use Rattle.desks.specs.declared.Answer.TheVariants.{Go, Back}
use Rattle.desks.specs.Request.{Request}
use Rattle.desk_rules.specs.Desk.{sentback, Desk, is_open, is_live}
use Rattle.desks.specs.Course.{now, to}
use Rattle.desk_rules.specs.Course.{Course}
use Rattle.desk_rules.specs.Waiting.{OldestLive, OldestOpen}

-- all jobs older than j that are open on desk d are closed on desk e
abbrev pub OlderClosed : Desk → Desk → ℕ → Type 0
OlderClosed d e j = (i : ℕ) → i < j → is_open (d.stat i) ≡ true → is_open (e.stat i) ≡ false

pub record Ages (k : Course) : Type 0 where
  -- no job begun later is older: a begin that goes after some requests gives a number larger than every open job's (demand 3)
  pub begun_later_is_younger : (j : ℕ) → is_open ((now k).stat j) ≡ true → (rs : List Request) (r : Request) (i : ℕ) → letter_of r.kind ≡ Some Begin → (k.does rs r).said ≡ Go i → j < i
  -- a job is sent back only while an older job is live
  pub back_only_while_older : (r : Request) (j : ℕ) → (to k r).said ≡ Back j → (i : ℕ) × (i < j) × (is_live ((now k).stat i) ≡ true)
  -- a job older than every other live job is never answered back, nor sent back after any step (demand 3)
  pub never_answered_back : (r : Request) (j : ℕ) → OldestLive (now k) j → (to k r).said ≢ Back j
  pub never_back : (r : Request) (j : ℕ) → is_live ((now k).stat j) ≡ true → OldestLive (now k) j → (to k r).desk.stat j ≢ sentback
  -- the jobs older than an open job only grow fewer: a job that is open and older after any requests was open before them
  pub older_only_shrinks : (j : ℕ) → is_open ((now k).stat j) ≡ true → (rs : List Request) (i : ℕ) → i < j → is_open ((k.seen rs).stat i) ≡ true → is_open ((now k).stat i) ≡ true
  -- so once all of them have closed, the job is older than every other open job, and is never sent back again, whatever is requested (01, Slips to rule out, 2)
  pub at_last_oldest : (j : ℕ) → is_open ((now k).stat j) ≡ true → (rs : List Request) → OlderClosed (now k) (k.seen rs) j → OldestOpen (k.seen rs) j
  pub retried_at_last_oldest : (j : ℕ) → is_open ((now k).stat j) ≡ true → (rs : List Request) → OlderClosed (now k) (k.seen rs) j → (more : List Request) (r : Request) → (k.does (rs ++ more) r).said ≢ Back j
