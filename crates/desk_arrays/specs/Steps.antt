-- One step of the desk over its arrays: the decided move, carried out. The contracts cite it (01, The desk's rules).
use Rattle.std.specs.Prelude.{ℕ, Result, Ok, Err, ◌+◌, ◌-◌, ◌*◌, List, [], ◌++◌, map, eqb, length, get_or, set, replicate}
use Rattle.laws.specs.Choice.{pick}
use Rattle.laws.specs.Lists.{pos}
use Rattle.terms.specs.declared.letters.Ask.{Ask}
use Rattle.terms.specs.declared.refusals.Refusal.{Refusal}
use Rattle.terms.specs.declared.refusals.Refusal.TheVariants.{StartedAtZero}
use Rattle.terms.specs.Letters.{letter_of}
use Rattle.terms.specs.Limits.{places, cells}
use Rattle.conflict.specs.declared.modes.Mode.{Mode}
use Rattle.conflict.specs.declared.action.Action.{Action}
use Rattle.conflict.specs.declared.action.Kind.TheVariants.{Read}
use Rattle.conflict.specs.Modes.{recorded, code_of}
use Rattle.desks.specs.declared.Answer.{Answer}
use Rattle.desks.specs.declared.Answer.TheVariants.{Go, Wait, Back, No}
use Rattle.desk_arrays.specs.declared.state.Desk.{Desk}
use Rattle.desk_arrays.specs.declared.state.Said.{Said}
use Rattle.desk_arrays.specs.declared.state.Outcome.{Outcome}
use Rattle.desk_arrays.specs.declared.moves.Ending.{Ending}
use Rattle.desk_arrays.specs.declared.moves.Ending.TheVariants.{Closed, SentBack}
use Rattle.desk_arrays.specs.declared.moves.Move.{Move}
use Rattle.desk_arrays.specs.declared.moves.Move.TheVariants.{Begin, Keep, Take, Stay, End, Retry}
use Rattle.desk_arrays.specs.Codes.{free_code, running_code, waiting_code, sent_back_code, ask_code, ask_of}
use Rattle.desk_arrays.specs.Places.{spot}
use Rattle.desk_arrays.specs.Settling.{Settling, dropped_by, settle_all}
use Rattle.desk_arrays.specs.Moves.{status_of, move_for}

-- the desk with these fields
abbrev pub desk_of : ℕ → List ℕ → List ℕ → List ℕ → List ℕ → List ℕ → Desk
desk_of next number status cell ask held = record { next = next; number = number; status = status; cell = cell; ask = ask; held = held }

-- the desk with every place free, every cell idle, and this next number
unfoldable pub empty_desk : ℕ → Desk
empty_desk n = desk_of n (replicate places 0) (replicate places free_code) (replicate places 0) (replicate places 0) (replicate (cells * places) 0)

-- a start at a first number: refusal 10 for 0, with no desk (01, refusal 10)
unfoldable pub start_of : ℕ → Result Desk Refusal
start_of n = pick (eqb n 0) (Err StartedAtZero) (Ok (empty_desk n))

-- the desk with another next number, and other numbers at the places
abbrev pub with_numbers : Desk → ℕ → List ℕ → Desk
with_numbers d next number = desk_of next number d.status d.cell d.ask d.held

-- the desk with other statuses at its places
abbrev pub with_status : Desk → List ℕ → Desk
with_status d status = desk_of d.next d.number status d.cell d.ask d.held

-- the desk with other waits at its places
abbrev pub with_waits : Desk → List ℕ → List ℕ → Desk
with_waits d cell ask = desk_of d.next d.number d.status cell ask d.held

-- the desk with other modes held
abbrev pub with_held : Desk → List ℕ → Desk
with_held d held = desk_of d.next d.number d.status d.cell d.ask held

-- begin: the number runs at the place, and the number after it is next (01, Jobs and their numbers)
unfoldable pub begun : Desk → ℕ → ℕ → Desk
begun d p n = with_status (with_numbers d (n + 1) (set d.number p n)) (set d.status p running_code)

-- place p holds the mode on the cell (01, rules 2 and 3)
unfoldable pub with_mode : Desk → ℕ → ℕ → Mode → Desk
with_mode d p c m = with_held d (set d.held (spot c p) (code_of m))

-- place p waits for the cell, with what was asked (01, rules 2 and 3)
unfoldable pub waiting_for : Desk → ℕ → ℕ → Ask → Desk
waiting_for d p c a = with_status (with_waits d (set d.cell p c) (set d.ask p (ask_code a))) (set d.status p waiting_code)

-- the job at place p runs again
unfoldable pub retried : Desk → ℕ → Desk
retried d p = with_status d (set d.status p running_code)

-- rule 5: a sent back job runs again, still holding nothing; for any other number nothing changes (01, rule 5)
unfoldable pub retried_job : Desk → ℕ → Desk
retried_job d job = pick (eqb (status_of d.number d.status job) sent_back_code) (retried d (pos d.number job)) d

-- the status code of a place after its run has ended: free, or sent back (01, Jobs and their numbers)
unfoldable pub code_after : Ending → ℕ
code_after Closed = free_code
code_after SentBack = sent_back_code

-- the numbers after a run has ended: a closed job frees its place, a sent back job keeps it (01, Jobs and their numbers)
unfoldable pub numbers_after : Ending → List ℕ → ℕ → List ℕ
numbers_after Closed number p = set number p 0
numbers_after SentBack number p = number

-- the answer that tells how a run has ended (01, The desk's rules)
unfoldable pub answer_after : Ending → ℕ → Answer
answer_after Closed job = Go job
answer_after SentBack job = Back job

-- the cells settled after place p has dropped its locks and has its new status (01, rule 4)
unfoldable pub settled : Desk → ℕ → ℕ → Settling
settled d p code =
    settle_all d.number d.cell d.ask cells
    (record { held = dropped_by d.held p cells; status = set d.status p code; woken = [] })

-- the desk that a step leaves, and the places that it wakes
pub record Left : Type 0 where
  pub desk : Desk
  pub woken : List ℕ

-- the desk left, with nobody woken
abbrev pub quietly : Desk → Left
quietly d = record { desk = d; woken = [] }

-- rule 4: the run of place p ends (01, rule 4)
unfoldable pub ended : Desk → ℕ → Ending → Left
ended d p e =
    let s = settled d p (code_after e) in
    record {
      desk = with_held (with_status (with_numbers d d.next (numbers_after e d.number p)) s.status) s.held;
      woken = s.woken;
    }

-- a move carried out; a refusal leaves the desk unchanged
unfoldable pub carried : Desk → ℕ → ℕ → Result Move Refusal → Left
carried d job c (Err why) = quietly d
carried d job c (Ok (Begin p n)) = quietly (begun d p n)
carried d job c (Ok Keep) = quietly d
carried d job c (Ok (Take p m)) = quietly (with_mode d p c m)
carried d job c (Ok (Stay p a)) = quietly (waiting_for d p c a)
carried d job c (Ok (End p e)) = ended d p e
carried d job c (Ok Retry) = quietly (retried_job d job)

-- the answer that goes with a move, or with a refusal; begin tells the new number (01, The desk's rules)
unfoldable pub answer_to : Result Move Refusal → ℕ → Answer
answer_to (Err why) job = No why
answer_to (Ok (Begin p n)) job = Go n
answer_to (Ok Keep) job = Go job
answer_to (Ok (Take p m)) job = Go job
answer_to (Ok (Stay p a)) job = Wait job
answer_to (Ok (End p e)) job = answer_after e job
answer_to (Ok Retry) job = Go job

-- the filler for unused places in the list of wakes
unfoldable pub no_action : Action
no_action = record { kind = Read; job = 0; cell = 0 }

-- the action of a woken place: the place keeps its number and what it waited for (01, rule 4)
unfoldable pub wake_at : List ℕ → List ℕ → List ℕ → ℕ → Action
wake_at number cell ask p = record { kind = recorded (ask_of (get_or ask p 0)); job = get_or number p 0; cell = get_or cell p 0 }

-- these wakes in a list of 32 places
unfoldable pub listed : List Action → List Action
listed ws = ws ++ replicate (places - length ws) no_action

-- an answer, with these places as its wakes
unfoldable pub saying : Desk → Answer → List ℕ → Said
saying d a woken = record { answer = a; wakes = listed (map (wake_at d.number d.cell d.ask) woken); count = length woken }

-- a move carried out, with its answer
unfoldable pub performed : Desk → ℕ → ℕ → Result Move Refusal → Outcome
performed d job c m =
    let l = carried d job c m in
    record { desk = l.desk; said = saying l.desk (answer_to m job) l.woken }

-- the move of a request by numbers, or why it is refused
unfoldable pub move_of : Desk → ℕ → ℕ → ℕ → Result Move Refusal
move_of d kind job c = move_for d.next d.number d.status d.cell d.held job c (letter_of kind)

-- one step by numbers
unfoldable pub step_of : Desk → ℕ → ℕ → ℕ → Outcome
step_of d kind job c = performed d job c (move_of d kind job c)
