-- `verdict::report` is safe: what is kept lies within the text's buffer, and there is room for the line.
-- Assumes nothing.
use native.Mathlib.Omega.{arith}
use borrow.Author.Rules.{rules}
use Rattle.verdict.proofs.Keeping.{took_within}
use Rattle.verdict.proofs.report.Goals as goal

pub to_write-requires : goal.to_write-requires
to_write-requires c = let w = took_within c.in-Ok.ensures.taken in (search rules, omega arith, search rules)
