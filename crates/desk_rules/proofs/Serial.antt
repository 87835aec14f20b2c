-- In every history that the desk writes, the committed jobs in order of commit are a conflict-equivalent serial order (demand 2).
-- Assumes nothing.
use mathlib.Core.Path.{sym, ap, ◌∙◌}
use Rattle.conflict.specs.History.{History, committed_part, strict}
use Rattle.conflict.proofs.Committed.{commit_order_once, committed_is}
use Rattle.conflict.proofs.Strict.{strict_serializable}
use Rattle.conflict.proofs.StrictClean.{strict_ended, strict_clean, strict_part}
use Rattle.conflict.proofs.LockMachine.{machine_serial, machine_strict}
use Rattle.conflict.proofs.Backward.{refuted}
use Rattle.desk_rules.specs.Desk.{Desk}
use Rattle.desk_rules.specs.Step.{Started}
use Rattle.desk_rules.specs.SerialHistory.{SerialHistory}
use Rattle.desk_rules.proofs.Machine.{started_machine}
use Rattle.desk_rules.proofs.NoEventAfterEnd.{started_over}

-- what is promised of the history
pub serial_history : {d : Desk} {h : History} → Started d h → SerialHistory h
serial_history {h = h} s =
    let m = started_machine s in
    let good = (started_over s).good in
    record {
      serial_by_commits = machine_serial m good;
      commits_once = commit_order_once h good;
      serializable = strict_serializable h (machine_strict m) good;
      never_a_knot = λ js k. refuted (committed_part h) js k (strict_serializable h (machine_strict m) good);
      history_strict = machine_strict m;
      after_their_ends = λ before a between b after l c. strict_ended h (machine_strict m) before a between b after l c;
      never_dirty = λ x y e. strict_clean x (strict_part x y (ap strict (sym e) ∙ machine_strict m));
      no_event_after_end = good;
      committed_as_worded = committed_is h good;
    }
