-- No second result meets the contract of a function of this crate.
-- Assumes nothing.
use mathlib.Core.Path.{sym, ◌∙◌}
use Rattle.laws.specs.Unique.{Unique}
use Rattle.desks.proofs.finding.place_of.Reads as place_of
use Rattle.desks.proofs.finding.place_of.Kinds as place-ofK
use Rattle.desks.proofs.finding.opening_for.Reads as opening-for
use Rattle.desks.proofs.finding.opening_for.Kinds as opening-forK

pub place_of_unique : Unique place-ofK.ps place-ofK.r place_of.Post
place_of_unique κs a x y e f p q = p ∙ sym q

pub opening_for_unique : Unique opening-forK.ps opening-forK.r opening-for.Post
opening_for_unique κs a x y e f p q = p ∙ sym q
