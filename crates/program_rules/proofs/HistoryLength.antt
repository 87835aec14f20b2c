-- The history of a run has at most one record for each line, written at once or when its job is woken; on any desk whose steps write no more than that (01, Lines).
-- Assumes nothing.
use Prim.Native.Nat.{ℕ, suc, ◌+◌, ◌≤◌}
use mathlib.Core.Path.{ap}
use mathlib.Core.List.{List, [], ◌∷◌}
use native.Mathlib.Omega.{arith}
use lib.Dec.{ltb}
use lib.ListN.{length, length-append}
use Rattle.std.specs.Prelude.{Err, Ok}
use Rattle.laws.specs.Choice.{by_test}
use Rattle.terms.specs.Letters.{byte_of, of_requests}
use Rattle.terms.specs.Limits.{cells, request_lines}
use Rattle.text_rules.specs.Lines.{read_line, Reading}
use Rattle.text_rules.specs.Split.{lines_of}
use Rattle.desks.specs.Request.{Request}
use Rattle.desks.specs.Stepping.{Stepping}
use Rattle.desk_rules.specs.Desk.{fresh_desk}
use Rattle.desks.specs.Records.{records_by}
use Rattle.desk_rules.specs.Step.{step}
use Rattle.desk_rules.specs.Waiting.{waiters_of}
use Rattle.desk_rules.proofs.FewRecords.{none_standing, few_records}
use Rattle.program_rules.specs.OverLines.{answered, line_by, run_of}
use Rattle.program_rules.specs.Programs.{first_number, run_on}
use Rattle.program_rules.specs.Shown.{history_of_run, history_on}
use Rattle.program_rules.proofs.StartedHistory.{recorded, bad_records}

module _ {S : Type 0} (step : Stepping S) (waiting : S → ℕ) (few : (d : S) (r : Request) → length (records_by step d r) + waiting (step d r).desk ≤ suc (waiting d)) where
  -- the records of a line and the waiters after it are at most one more than the waiters before
  line_few : (d : S) (n : ℕ) (r : Reading) → length (recorded (answered step d n r).told) + waiting (answered step d n r).desk ≤ suc (waiting d)
  unfolding answered records_by
  line_few d n (Err at) = omega (arith, ap length (bad_records at))
  line_few d n (Ok line) = few d (record { kind = byte_of line.letter; job = line.job; cell = line.cell })

  -- so all lines have at most one record each, plus one for each job that waited before them
  pub run_few : (d : S) (n : ℕ) (ls : List (List ℕ)) → length (history_of_run (run_of step d n ls)) ≤ waiting d + length ls
  unfolding run_of line_by history_of_run
  run_few d n [] = omega arith
  run_few d n (l ∷ ls) =
      let o = answered step d n (read_line of_requests l) in
      let rest = history_of_run (run_of step o.desk (n + 1) ls) in
      by_test (ltb request_lines n) (λ e. rw e (omega arith))
      (λ e. rw e (omega (arith, length-append (recorded o.told) rest, line_few d n (read_line of_requests l), run_few o.desk (n + 1) ls)))

-- on a fresh desk nobody waits: the history of a text has no more records than the text has lines
pub history_no_longer : (text : List ℕ) → length (history_on text) ≤ length (lines_of text)
unfolding run_on
history_no_longer text = omega (arith, run_few step waiters_of few_records (fresh_desk first_number) 1 (lines_of text), none_standing first_number cells)
