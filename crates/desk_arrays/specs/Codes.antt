-- The codes for a status and for what was asked, as the desk's arrays hold them.
use Rattle.std.specs.Prelude.{ℕ, eqb}
use Rattle.laws.specs.Choice.{pick}
use Rattle.terms.specs.declared.letters.Ask.{Ask}
use Rattle.terms.specs.declared.letters.Ask.TheVariants.{Read, Write, Increment, Update}

-- a place is free, or its job is running, waiting or sent back (01, Jobs and their numbers)
abbrev pub free_code : ℕ
free_code = 0

-- the job is running
abbrev pub running_code : ℕ
running_code = 1

-- the job is waiting
abbrev pub waiting_code : ℕ
waiting_code = 2

-- the job was sent back
abbrev pub sent_back_code : ℕ
sent_back_code = 3

-- the code of what was asked (01, Lines; 02, No. 1)
abbrev pub ask_code : Ask → ℕ
ask_code Read = 0
ask_code Write = 1
ask_code Increment = 2
ask_code Update = 3

-- what was asked, from its code; an unused code is read as an increment
abbrev pub ask_of : ℕ → Ask
ask_of n = pick (eqb n (ask_code Read)) Read (pick (eqb n (ask_code Write)) Write (pick (eqb n (ask_code Update)) Update Increment))
