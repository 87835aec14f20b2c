-- `desk::step::step_on` meets its contract: a byte of no letter is refused.
-- Assumes nothing.
use mathlib.Core.Path.{sym, ◌∙◌}
use Rattle.desk.proofs.Performed.{refused_byte}
use Rattle.desk.proofs.step.step_on.Goals as goal

pub returns-in-None : goal.returns-in-None
returns-in-None c = refused_byte (sym c.letter_of.ensures ∙ c.in-None.is)
