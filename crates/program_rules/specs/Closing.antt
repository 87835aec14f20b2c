-- What a program writes after its last line has been answered, the chains of the waiting jobs, and how the clerk puts that into the buffer (02, Nos. 3 and 6).
use Rattle.std.specs.Prelude.{ℕ, ◌+◌, ◌*◌, true, false, List, [], leb, length}
use Rattle.laws.specs.Choice.{pick}
use Rattle.terms.specs.Limits.{places}
use Rattle.text_rules.specs.Wrote.{put_from}
use Rattle.desk_chain.specs.Chains.{chains_on}
use Rattle.program_rules.specs.declared.Clerk.{Clerk}
use Rattle.program_rules.specs.declared.Desks.{Desks}
use Rattle.program_rules.specs.declared.Method.{Method}
use Rattle.program_rules.specs.declared.Method.TheVariants.{Locks, Stamps}
use Rattle.program_rules.specs.declared.View.{View}
use Rattle.program_rules.specs.declared.View.TheVariants.{Answers, History, Chains}
use Rattle.program_rules.specs.Chains.{chain_text}
use Rattle.program_rules.specs.Work.{line_room, Finishing, finish_of}

-- the chains of the waiting jobs, by the method: on the timestamp desk nobody waits
unfoldable pub chains_by : Method → Desks → List ℕ
chains_by Locks d = chain_text (chains_on d.locks)
chains_by Stamps d = []

-- what is written at the end, behind the records of the lines: the chains of the jobs waiting on the clerk's desk; nothing for answers and history
unfoldable pub closing : View → Clerk → List ℕ
closing Answers c = []
closing History c = []
closing Chains c = chains_by c.desks.method c.desks

-- the most bytes that a job takes in a chain: ten digits, and the tab or the newline behind them
abbrev pub job_room : ℕ
job_room = 11

-- the most bytes of a chain: it has at most as many jobs as there are places (02, No. 3: at most 32)
abbrev pub chain_room : ℕ
chain_room = places * job_room

-- the most bytes of all chains: at most as many jobs wait as there are places
abbrev pub chains_room : ℕ
chains_room = places * chain_room

-- the room required for what is written at the end
abbrev pub closing_room : View → ℕ
closing_room Answers = 0
closing_room History = 0
closing_room Chains = chains_room

-- the room that a program needs, for the records of a line and for what is written at the end
abbrev pub program_room : View → ℕ
program_room Answers = line_room
program_room History = line_room
program_room Chains = chains_room

-- puts what is written at the end into the buffer from a place on; if there is no room, the result is "full" and nothing changes
unfoldable pub close_of : View → Clerk → List ℕ → ℕ → Finishing
close_of view c out at =
    let bytes = closing view c in
    pick (leb (at + closing_room view) (length out))
    (record { finished = record { at = at + length bytes; full = false }; out = put_from out at bytes })
    (record { finished = record { at = at; full = true }; out = out })

-- the end of the input: a last line without its newline is answered, and behind its record stands what is written at the end
abbrev pub end_of : View → Clerk → List ℕ → ℕ → Finishing
end_of view c out at = let f = finish_of view c out at in close_of view c f.out f.finished.at
