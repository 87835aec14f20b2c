-- No second result meets the contract of the function that starts a clerk.
-- Assumes nothing.
use mathlib.Core.Path.{sym, ◌∙◌}
use Rattle.laws.specs.Unique.{Unique}
use Rattle.program_rules.proofs.Clerk.started.Reads as started
use Rattle.program_rules.proofs.Clerk.started.Kinds as startedK

-- the clerk at the start
pub started_unique : Unique startedK.ps startedK.r started.Post
started_unique κs a x y e f p q = p ∙ sym q
