-- THE PROMISES hold of the desk that runs; the main ones are written out here for its step, to be read.
-- Assumes nothing.
use Rattle.std.specs.Prelude.{Some}
use Prim.Native.Nat.{ℕ, ◌<◌, ◌≤◌}
use mathlib.Core.Path.{◌≡◌}
use mathlib.Core.Logic.{◌≢◌, ◌↔◌}
use mathlib.Core.List.{List, ◌++◌}
use Rattle.terms.specs.declared.letters.Ask.{Ask}
use Rattle.terms.specs.declared.letters.Letter.TheVariants.{Begin, Asks}
use Rattle.terms.specs.declared.refusals.Refusal.{Refusal}
use Rattle.terms.specs.Letters.{letter_of}
use Rattle.terms.specs.Limits.{last_number}
use Rattle.conflict.specs.Schedule.{Equivalent, serial}
use Rattle.conflict.specs.History.{History, committed_part, commit_order}
use Rattle.conflict.specs.Dirty.{IsDirty}
use Rattle.desks.specs.declared.Answer.TheVariants.{Go, Wait, Back, No}
use Rattle.desks.specs.Request.{Request}
use Rattle.desk_rules.specs.Desk.{fresh_desk, waiting}
use Rattle.desk_rules.specs.Desk as paper
use Rattle.desk_rules.specs.Table.{Due}
use Rattle.desks.specs.AsWorded.{RefusedBy}
use Rattle.desk_rules.specs.AsWorded.{RefusedAs}
use Rattle.desk_rules.specs.Asked.{asker}
use Rattle.desks.specs.Started.{fresh}
use Rattle.desk_rules.specs.Step.{step}
use Rattle.desks.specs.Stepping.{through}
use Rattle.desks.specs.Requests.{writes}
use Rattle.desks.specs.Course.{shown}
use Rattle.desk_rules.specs.Course.{from}
use Rattle.desks.specs.Told.{answers_of}
use Rattle.desk_rules.specs.Waiting.{OldestLive, ServedInTime}
use Rattle.desk_rules.specs.GetsItsCell.{GetsItsCell}
use Rattle.desk_rules.specs.Effects.{Begins, RunEnds}
use Rattle.desk_rules.specs.Releasing.{AllReleased}
use Rattle.desks.specs.Numbers.{NumbersFrom}
use Rattle.desk_rules.specs.Promises.{Promises}
use Rattle.desks.proofs.StartedThrough.{run_started}
use Rattle.desks.proofs.Following.{started_course, same_answers}
use Rattle.desk_rules.proofs.OneCourse.{keeps_promises, start_promises}
use Rattle.desk_arrays.specs.declared.state.Desk.{Desk}
use Rattle.desk_arrays.specs.Steps.{empty_desk, step_of}
use Rattle.desk_arrays.specs.Seen.{view, on_arrays, Started, running}
use Rattle.desk_arrays.proofs.Faithful.{faithful}

-- every promise holds of every started desk that runs
pub desk_promises : {d : Desk} {h : History} → Started d h → Promises h (running d)
desk_promises = keeps_promises faithful

module _ (n : ℕ) (some : 0 < n) (last : n ≤ last_number) where
  -- so it does after any requests to an empty desk
  pub desk_promises_from_empty : (rs : List Request) → Promises (writes on_arrays (empty_desk n) rs) (running (through on_arrays (empty_desk n) rs))
  desk_promises_from_empty rs = desk_promises (run_started (fresh n some last) rs)

  -- what is promised of the numbers from a start on
  pub desk_numbers_from : NumbersFrom (λ d. d.next) n (running (empty_desk n))
  desk_numbers_from = start_promises faithful n some last

  -- and from its start on it shows what the paper's desk shows
  pub desk_is_paper : running (empty_desk n) ≡ from (fresh_desk n)
  desk_is_paper = started_course faithful n some last

  -- so any requests get the answers that the paper's desk gives, as those of the examples
  pub desk_answers : (rs : List Request) → answers_of on_arrays (empty_desk n) rs ≡ answers_of step (fresh_desk n) rs
  desk_answers rs = same_answers faithful n some last rs

-- the committed jobs in order of commit are a conflict-equivalent serial order (demand 2)
pub desk_serial : {d : Desk} {h : History} → Started d h → Equivalent (committed_part h) (serial (commit_order h) (committed_part h))
desk_serial s = (desk_promises s).serial.serial_by_commits

-- its history is not dirty, and was not at any moment (02, No. 2)
pub desk_never_dirty : {d : Desk} {h : History} → Started d h → (x y : History) → h ≡ x ++ y → IsDirty x → ⊥
desk_never_dirty s = (desk_promises s).serial.never_dirty

-- whenever a job waits, some younger job is live and not waiting (demand 3)
pub desk_somebody_runs : {d : Desk} {h : History} → Started d h → (j c : ℕ) (a : Ask) → (view d).stat j ≡ waiting c a → (i : ℕ) × (j < i) × ((view d).stat i ≡ paper.running)
desk_somebody_runs s = (desk_promises s).service.somebody_runs

module _ {d : Desk} {h : History} (s : Started d h) (r : Request) where
  -- a step is refused exactly where the table has that refusal due (demand 1)
  pub desk_refused_exactly : (why : Refusal) → ((step_of d r.kind r.job r.cell).said.answer ≡ No why) ↔ Due (view d) r why
  desk_refused_exactly = (desk_promises s).refuses.by_table.refused_exactly r

  -- and it is refused with a number exactly where the paper's words say so
  pub desk_refused_as : (n : ℕ) → RefusedBy (step_of d r.kind r.job r.cell).said.answer n ↔ RefusedAs (view d) r n
  desk_refused_as = (desk_promises s).worded.as_worded r

  -- a begin that goes opens a running job under the next number
  pub desk_begins : (j : ℕ) → letter_of r.kind ≡ Some Begin → (step_of d r.kind r.job r.cell).said.answer ≡ Go j → Begins (view d) (view (step_of d r.kind r.job r.cell).desk) j
  desk_begins = (desk_promises s).effects.begins r

  -- when a run ends, every cell is released: which jobs are woken, which are left waiting, and why (01, rule 4)
  pub desk_rule_4 : RunEnds (step_of d r.kind r.job r.cell).said.answer r → AllReleased (view d) (shown view (on_arrays d r)) r
  desk_rule_4 = ((desk_promises s).wakes r).rule_4

  -- a job older than every other live job is never answered back (demand 3)
  pub desk_never_answered_back : (j : ℕ) → OldestLive (view d) j → (step_of d r.kind r.job r.cell).said.answer ≢ Back j
  desk_never_answered_back = (desk_promises s).ages.never_answered_back r

  -- a job that asks and is answered wait is served in time (demand 3)
  pub desk_served_in_time : (a : Ask) → letter_of r.kind ≡ Some (Asks a) → (step_of d r.kind r.job r.cell).said.answer ≡ Wait r.job → ServedInTime (running (step_of d r.kind r.job r.cell).desk) r.cell (asker r a)
  desk_served_in_time = (desk_promises s).service.served_in_time r

  -- the second sentence of demand 3, whole: whatever is answered wait, its job gets its cell in time
  pub desk_gets_its_cell : (j : ℕ) → (step_of d r.kind r.job r.cell).said.answer ≡ Wait j → (j ≡ r.job) × GetsItsCell (running d) r
  desk_gets_its_cell = (desk_promises s).service.gets_its_cell r
