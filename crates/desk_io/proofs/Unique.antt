-- No second result meets the contract of the front's function.
-- Assumes nothing.
use mathlib.Core.Path.{sym, ◌∙◌}
use Rattle.laws.specs.Unique.{Unique}
use Rattle.desk_io.proofs.serve.Reads as serve
use Rattle.desk_io.proofs.serve.Kinds as serveK

-- serving has one result: which program was run
pub serve_unique : Unique serveK.ps serveK.r serve.Post
serve_unique κs a x y e f p q = p ∙ sym q
