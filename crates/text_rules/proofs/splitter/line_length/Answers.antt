-- `text_rules::splitter::line_length` meets its contract: the first newline, if there is one, is the line's last byte.
-- Assumes nothing.
use Rattle.std.proofs.Common.{◌∙◌, sym}
use Rattle.text_rules.proofs.Scan.{line_found, line_whole}
use Rattle.text_rules.proofs.splitter.line_length.Goals as goal

pub returns-in-Some : goal.returns-in-Some
returns-in-Some c = line_found _ _ (sym c.before_newline.ensures ∙ c.in-Some.is)

pub returns-in-None : goal.returns-in-None
returns-in-None c = line_whole _ (sym c.before_newline.ensures ∙ c.in-None.is)
