-- When a read, write, increment or u is sent back, what it leaves if it goes, and how a job is closed (02, No. 6).
use Rattle.std.specs.Prelude.{ℕ, suc, Bool, ◌||◌, [], ltb}
use Rattle.laws.specs.Choice.{pick}
use Rattle.laws.specs.Functions.{at}
use Rattle.laws.specs.Larger.{larger}
use Rattle.terms.specs.declared.letters.Ask.{Ask}
use Rattle.terms.specs.declared.letters.Ask.TheVariants.{Read, Write, Increment, Update}
use Rattle.desks.specs.declared.Answer.{Answer}
use Rattle.desks.specs.declared.Answer.TheVariants.{Go, Back}
use Rattle.desks.specs.Places.{seated, vacated}
use Rattle.desks.specs.Stepping.{Stepped}
use Rattle.stamp_rules.specs.Desk.{Desk}

-- what a step of the timestamp desk leaves and tells
abbrev pub Outcome : Type 0
Outcome = Stepped Desk

-- a read is sent back if its job is smaller than the cell's writer number (02, No. 6)
unfoldable pub late_to_read : Desk → ℕ → ℕ → Bool
late_to_read d j c = ltb j (d.writer c)

-- a write is sent back if its job is smaller than either number (02, No. 6)
unfoldable pub late_to_write : Desk → ℕ → ℕ → Bool
late_to_write d j c = ltb j (d.reader c) || ltb j (d.writer c)

-- an increment counts as a read and a write, u as a read; equal numbers go (02, No. 6)
unfoldable pub late : Desk → ℕ → ℕ → Ask → Bool
late d j c Read = late_to_read d j c
late d j c Write = late_to_write d j c
late d j c Increment = late_to_read d j c || late_to_write d j c
late d j c Update = late_to_read d j c

-- job j has read the cell: its reader number is the larger of what it was and the job (02, No. 6)
unfoldable pub has_read : Desk → ℕ → ℕ → Desk
has_read d j c = record { next = d.next; jobs = d.jobs; reader = at d.reader c (larger (d.reader c) j); writer = d.writer }

-- job j has written the cell: its writer number is the job (02, No. 6)
unfoldable pub has_written : Desk → ℕ → ℕ → Desk
has_written d j c = record { next = d.next; jobs = d.jobs; reader = d.reader; writer = at d.writer c j }

-- the desk once a request for a cell has gone (02, No. 6)
unfoldable pub done : Desk → ℕ → ℕ → Ask → Desk
done d j c Read = has_read d j c
done d j c Write = has_written d j c
done d j c Increment = has_written (has_read d j c) j c
done d j c Update = has_read d j c

-- a job is closed and its place free; the cells' numbers stay (02, No. 6)
unfoldable pub close : Desk → ℕ → Answer → Outcome
close d j said = record { desk = record { next = d.next; jobs = vacated j d.jobs; reader = d.reader; writer = d.writer }; said = said; wakes = [] }

-- read, write, increment or u of an open job: sent back if it is late, which closes the job; otherwise go (02, No. 6)
unfoldable pub ask : Desk → ℕ → ℕ → Ask → Outcome
ask d j c a = pick (late d j c a) (close d j (Back j)) (record { desk = done d j c a; said = Go j; wakes = [] })

-- begin opens a job under the next number (01, Jobs and their numbers)
unfoldable pub begin : Desk → Outcome
begin d =
    record {
      desk = record { next = suc d.next; jobs = seated d.next d.jobs; reader = d.reader; writer = d.writer };
      said = Go d.next;
      wakes = [];
    }
