-- The history that faultless lines are (01, The judge's rules).
use Rattle.conflict.specs.History.{History}
use Rattle.judge_rules.specs.Arrays.{history_by}
use Rattle.judge_core.specs.declared.lines.Faultless.{Faultless}

-- the history of the first n lines
abbrev pub history_of : Faultless → History
history_of f = history_by f.kept.codes.now f.kept.jobs.now f.kept.cells.now f.n
