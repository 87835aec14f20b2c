-- No second result meets the contract of a function of the splitter.
-- Assumes nothing.
use mathlib.Core.Path.{sym, ◌∙◌}
use Rattle.laws.specs.Unique.{Unique}
use Rattle.text_rules.proofs.splitter.Splitter.started.Reads as started
use Rattle.text_rules.proofs.splitter.Splitter.started.Kinds as startedK
use Rattle.text_rules.proofs.splitter.Splitter.cut.Reads as cut
use Rattle.text_rules.proofs.splitter.Splitter.cut.Kinds as cutK
use Rattle.text_rules.proofs.splitter.line_end.Reads as line-end
use Rattle.text_rules.proofs.splitter.line_end.Kinds as line-endK

pub started_unique : Unique startedK.ps startedK.r started.Post
started_unique κs a x y e f p q = p ∙ sym q

pub cut_unique : Unique cutK.ps cutK.r cut.Post
cut_unique κs a x y e f p q = p ∙ sym q

pub line_end_unique : Unique line-endK.ps line-endK.r line-end.Post
line_end_unique κs a x y e f p q = p ∙ sym q
