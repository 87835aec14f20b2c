-- THE TIMESTAMP DESK THAT RUNS KEEPS EVERY PROMISE of the request's desk; the main ones are written out, each from its promise (02, No. 6).
-- Assumes nothing.
use Prim.Native.Nat.{ℕ, ◌<◌, ◌≤◌}
use mathlib.Core.Path.{◌≡◌}
use mathlib.Core.Logic.{◌↔◌}
use mathlib.Core.List.{List}
use lib.ListN.{get_or}
use Rattle.laws.specs.Sorted.{sorted}
use Rattle.terms.specs.declared.refusals.Refusal.{Refusal}
use Rattle.terms.specs.Limits.{last_number}
use Rattle.conflict.specs.Schedule.{Equivalent, serial}
use Rattle.conflict.specs.History.{History, committed_part, commit_order}
use Rattle.conflict.specs.Dirty.{changes}
use Rattle.conflict.specs.NumberOrder.{InNumberOrder, reads, largest}
use Rattle.desks.specs.declared.Answer.TheVariants.{No}
use Rattle.desks.specs.Request.{Request}
use Rattle.desks.specs.Stepping.{through}
use Rattle.desks.specs.Requests.{writes}
use Rattle.desks.specs.Started.{fresh}
use Rattle.desks.specs.Told.{answers_of}
use Rattle.desks.specs.Numbers.{NumbersFrom}
use Rattle.desks.proofs.StartedThrough.{run_started}
use Rattle.desks.proofs.Following.{started_course, same_answers}
use Rattle.stamp_rules.specs.Desk.{fresh_desk}
use Rattle.stamp_rules.specs.Step.{step}
use Rattle.stamp_rules.specs.Table.{Due}
use Rattle.desks.specs.AsWorded.{RefusedBy}
use Rattle.stamp_rules.specs.AsWorded.{RefusedAs}
use Rattle.stamp_rules.specs.Course.{from}
use Rattle.stamp_rules.specs.Promises.{Promises}
use Rattle.stamp_rules.proofs.OneCourse.{keeps_promises, start_promises}
use Rattle.stamp_arrays.specs.declared.state.Stamps.{Stamps}
use Rattle.stamp_arrays.specs.Steps.{empty_stamps, step_of}
use Rattle.stamp_arrays.specs.Seen.{view, on_stamps, Started, running}
use Rattle.stamp_arrays.proofs.Faithful.{faithful}

-- every promise holds of every started timestamp desk that runs
pub stamp_promises : {d : Stamps} {h : History} → Started d h → Promises h (running d)
stamp_promises = keeps_promises faithful

module _ (n : ℕ) (some : 0 < n) (last : n ≤ last_number) where
  -- so it does after any requests to an empty desk
  pub stamp_promises_from_empty : (rs : List Request) → Promises (writes on_stamps (empty_stamps n) rs) (running (through on_stamps (empty_stamps n) rs))
  stamp_promises_from_empty rs = stamp_promises (run_started (fresh n some last) rs)

  -- what is promised of the numbers from a start on
  pub stamp_numbers_from : NumbersFrom (λ d. d.next) n (running (empty_stamps n))
  stamp_numbers_from = start_promises faithful n some last

  -- and from its start on it shows what the request's desk shows
  pub stamp_is_paper : running (empty_stamps n) ≡ from (fresh_desk n)
  stamp_is_paper = started_course faithful n some last

  -- so any requests get the answers that the request's desk gives, as those of the examples
  pub stamp_answers : (rs : List Request) → answers_of on_stamps (empty_stamps n) rs ≡ answers_of step (fresh_desk n) rs
  stamp_answers rs = same_answers faithful n some last rs

module _ {d : Stamps} {h : History} (s : Started d h) where
  -- conflicting actions of committed jobs stand in number order
  pub stamp_in_number_order : InNumberOrder (committed_part h)
  stamp_in_number_order = (stamp_promises s).history.committed_in_order

  -- so ascending numbers are a serial order
  pub stamp_serial : Equivalent (committed_part h) (serial (sorted (commit_order h)) (committed_part h))
  stamp_serial = (stamp_promises s).history.serial_by_numbers

  -- the arrays hold for each cell the largest number that read it and the largest that wrote it
  pub stamp_readers : (c : ℕ) → get_or d.reader c 0 ≡ largest reads c h
  stamp_readers = (stamp_promises s).stamped.readers

  pub stamp_writers : (c : ℕ) → get_or d.writer c 0 ≡ largest changes c h
  stamp_writers = (stamp_promises s).stamped.writers

  -- a step is refused exactly where the table has that refusal due
  pub stamp_refused_exactly : (r : Request) (why : Refusal) → ((step_of d r.kind r.job r.cell).answer ≡ No why) ↔ Due (view d) r why
  stamp_refused_exactly r = (stamp_promises s).refuses.by_table.refused_exactly r

  -- and it is refused with a number exactly where the words say so
  pub stamp_refused_as : (r : Request) (n : ℕ) → RefusedBy (step_of d r.kind r.job r.cell).answer n ↔ RefusedAs (view d) r n
  stamp_refused_as r = (stamp_promises s).worded.as_worded r
