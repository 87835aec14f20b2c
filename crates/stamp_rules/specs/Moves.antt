-- The request's rules as a relation: one move for each rule, with what the rule tests and what it leaves written out (02, No. 6; 01, Refusals by number).
use Rattle.std.specs.Prelude.{ℕ, suc, ◌≤◌, ◌≡◌, ◌⊎◌, true, false, List, [], Some}
use Rattle.laws.specs.Lists.{member}
use Rattle.terms.specs.declared.letters.Ask.{Ask}
use Rattle.terms.specs.declared.letters.Letter.TheVariants.{Begin, Commit, GiveUp}
use Rattle.terms.specs.declared.refusals.Refusal.{Refusal}
use Rattle.terms.specs.Letters.{letter_of}
use Rattle.terms.specs.Limits.{last_number}
use Rattle.desks.specs.declared.Answer.{Answer}
use Rattle.desks.specs.declared.Answer.TheVariants.{Go, Back}
use Rattle.desks.specs.Request.{Request}
use Rattle.desks.specs.Places.{seated, vacated}
use Rattle.desks.specs.Begin.{refused}
use Rattle.stamp_rules.specs.Desk.{Desk, is_open}
use Rattle.stamp_rules.specs.Rules.{Outcome, late, done}
use Rattle.stamp_rules.specs.Table.{Due}
use Rattle.stamp_rules.specs.Asked.{Asking}

-- this desk and this answer, and no job is woken
abbrev pub telling : Desk → Answer → Outcome
telling e said = record { desk = e; said = said; wakes = [] }

-- the desk with these places and this next number; the cells' numbers stay
abbrev pub placed : Desk → ℕ → List ℕ → Desk
placed d next jobs = record { next = next; jobs = jobs; reader = d.reader; writer = d.writer }

-- the desk without a job: its place is free
abbrev pub without : Desk → ℕ → Desk
without d j = placed d d.next (vacated j d.jobs)

-- the request is a commit or a give-up
abbrev pub EndAsked : Request → Type 0
EndAsked r = (letter_of r.kind ≡ Some Commit) ⊎ (letter_of r.kind ≡ Some GiveUp)

-- the moves, with what each leaves and tells
pub data Moved (d : Desk) (r : Request) : Outcome → Type 0 where
  -- a refusal that the table says is due
  refuses : (why : Refusal) → Due d r why → Moved d r (refused d why)
  -- begin gives the next number to a job in a free place
  begins : letter_of r.kind ≡ Some Begin → d.next ≤ last_number → member 0 d.jobs ≡ true →
      Moved d r (telling (placed d (suc d.next) (seated d.next d.jobs)) (Go d.next))
  -- commit and give-up close the job
  closes : EndAsked r → is_open d r.job ≡ true → Moved d r (telling (without d r.job) (Go r.job))
  -- a job that asks for a cell and is not late goes
  goes : (a : Ask) → Asking d r a → late d r.job r.cell a ≡ false → Moved d r (telling (done d r.job r.cell a) (Go r.job))
  -- a job that is late is sent back, which closes it; the cells' numbers stay
  goes_back : (a : Ask) → Asking d r a → late d r.job r.cell a ≡ true → Moved d r (telling (without d r.job) (Back r.job))
