-- The paper's desk as the arrays hold it, by job number; what it means for arrays to stand for a paper's desk.
use Rattle.std.specs.Prelude.{ℕ, ◌<◌, ◌≤◌, ◌-◌, ◌*◌, ◌≡◌, List, eqb, length, get_or, take}
use Rattle.laws.specs.Choice.{pick}
use Rattle.laws.specs.Lists.{pos}
use Rattle.terms.specs.declared.letters.Ask.{Ask}
use Rattle.terms.specs.Limits.{places, cells}
use Rattle.conflict.specs.declared.modes.Mode.{Mode}
use Rattle.conflict.specs.declared.modes.Mode.TheVariants.{Free}
use Rattle.conflict.specs.declared.action.Action.{Action}
use Rattle.desks.specs.Places.{is_seated}
use Rattle.desk_rules.specs.Desk as paper
use Rattle.desk_rules.specs.Desk.{Status, closed, running, waiting, sentback}
use Rattle.desk_rules.specs.Rules as rules
use Rattle.desk_arrays.specs.declared.state.Desk.{Desk}
use Rattle.desk_arrays.specs.declared.state.Said.{Said}
use Rattle.desk_arrays.specs.declared.state.Outcome.{Outcome}
use Rattle.desk_arrays.specs.Codes.{free_code, waiting_code, sent_back_code, ask_of}
use Rattle.desk_arrays.specs.Places.{mode_at}
use Rattle.desk_arrays.specs.Steps.{no_action}

-- the value at the job's place; x, for 0 and for a number at no place
unfoldable pub by_number : {A : Type 0} → A → List ℕ → (ℕ → A) → ℕ → A
by_number x number f j = pick (is_seated number j) (f (pos number j)) x

-- the status of a code, with cell and ask for a waiting job; an unused code is read as running
unfoldable pub status_for : ℕ → ℕ → Ask → Status
status_for code c a =
    pick (eqb code free_code) closed (pick (eqb code waiting_code) (waiting c a) (pick (eqb code sent_back_code) sentback running))

-- what the job at place p is doing
unfoldable pub status_at : List ℕ → List ℕ → List ℕ → ℕ → Status
status_at status cell ask p = status_for (get_or status p 0) (get_or cell p 0) (ask_of (get_or ask p 0))

-- what a job is doing; closed, for 0 and for a number at no place
unfoldable pub status_by : Desk → ℕ → Status
status_by d = by_number closed d.number (status_at d.status d.cell d.ask)

-- the mode that a job holds on a cell; none, for 0 and for a number at no place
unfoldable pub mode_by : Desk → ℕ → ℕ → Mode
mode_by d c = by_number Free d.number (mode_at d.held c)

-- arrays of the right lengths, where a free place is marked free and holds nothing
pub record Plain (d : Desk) : Type 0 where
  pub numbers : length d.number ≡ places
  pub statuses : length d.status ≡ places
  pub waited : length d.cell ≡ places
  pub asks : length d.ask ≡ places
  pub modes : length d.held ≡ cells * places
  pub free_status : (p : ℕ) → p < places → get_or d.number p 0 ≡ 0 → get_or d.status p 0 ≡ free_code
  pub free_held : (p : ℕ) → p < places → get_or d.number p 0 ≡ 0 → (c : ℕ) → mode_at d.held c p ≡ Free

-- the arrays stand for a paper's desk, except for queues, which they do not keep (a cell's waiters by age are its queue)
pub record Stands (d : Desk) (D : paper.Desk) : Type 0 where
  pub next : d.next ≡ D.next
  pub jobs : d.number ≡ D.jobs
  pub stat : (j : ℕ) → D.stat j ≡ status_by d j
  pub held : (c j : ℕ) → (D.row c).held j ≡ mode_by d c j
  pub plain : Plain d

-- the wakes that a step tells
unfoldable pub wakes_told : Said → List Action
wakes_told s = take s.count s.wakes

-- a step of the arrays matches the paper's step: the arrays left stand for the desk left, the answer is the same, and the wakes told are exactly the paper's
pub record Tied (o : Outcome) (O : rules.Outcome) : Type 0 where
  pub stands : Stands o.desk O.desk
  pub answer : o.said.answer ≡ O.said
  pub wakes : wakes_told o.said ≡ O.wakes
  pub count : o.said.count ≡ length O.wakes
  pub few : o.said.count ≤ places - 1
  pub size : length o.said.wakes ≡ places
  pub rest : (q : ℕ) → o.said.count ≤ q → get_or o.said.wakes q no_action ≡ no_action
