-- `clerk::records::put_wakes` meets its contract. The loop's invariant: the records of the wakes passed stand in the buffer, at most 24 bytes each.
-- Assumes nothing.
use Prim.Native.Nat.{◌*◌}
use Rattle.text_rules.specs.Records.{longest_record}
use Rattle.desk_arrays.specs.Steps.{wake_at}
use Rattle.clerk.specs.Parts.{Added}
use Rattle.clerk.proofs.Waking.{first_wakes}
use Rattle.clerk.proofs.records.put_wakes.Given as goal

abbrev pub invariant-loop-p : goal.invariant-loop-p
invariant-loop-p l = Added (longest_record * l.p-index) l.at l.next (first_wakes l.h.view l.h.line (wake_at l.w.number.now l.w.cell.now l.w.ask.now) l.woken l.p-index) l.initial.out l.out
