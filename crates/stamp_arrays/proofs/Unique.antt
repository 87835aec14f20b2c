-- No second result meets the contract of a function of this crate.
-- Assumes nothing.
use Prim.Native.Nat.{ℕ}
use mathlib.Core.Path.{◌≡◌, refl, sym, ◌∙◌}
use seplogic.Ra.Ura.{Ura}
use base.Logic.{SProp}
use prog.Memory.{Memory}
use prog.Routine.{Routine}
use types.Logic.{Logic}
use contract.Lifetimes.{Lfts}
use contract.Monad.{Fun, fact}
use denote.Triple.Both.{Both}
use Rattle.std.specs.Prelude.{Result, Ok}
use Rattle.laws.specs.Unique.{Unique}
use Rattle.terms.specs.declared.refusals.Refusal.{Refusal}
use Rattle.stamp_arrays.specs.declared.state.Stamps.{Stamps}
use Rattle.stamp_arrays.specs.Steps.{start_of}
use Rattle.stamp_arrays.specs.contracts.state.Stamps.start as start_clauses
use Rattle.stamp_arrays.proofs.state.Stamps.start.Reads as start
use Rattle.stamp_arrays.proofs.state.Stamps.start.Kinds as startK
use Rattle.stamp_arrays.proofs.state.Stamps.first.Reads as first
use Rattle.stamp_arrays.proofs.state.Stamps.first.Kinds as firstK

-- Besides, over the clauses of `start` as they are read off the source: its one clause says that the result is `start_of` of the number, and so there is no second one
pub start_unique : {M : Type 1} {𝓤 : Ura M} (𝓛 : Logic 𝓤) (κs : Lfts 0) (mem : Memory → SProp 𝓤) (run : Routine → Fun 𝓤) (n : ℕ) (both : Both ℕ ℕ)
    → Unique startK.ps startK.r start.Post
    × (((r : Result Stamps Refusal) → start_clauses.ensures-1 𝓛 κs mem run n both r ≡ fact 𝓤 (r ≡ start_of n)) × ((x y : Result Stamps Refusal) → x ≡ start_of n → y ≡ start_of n → x ≡ y))
start_unique 𝓛 κs mem run n both = (λ κs' a x y e f p q. p ∙ sym q, (λ r. refl, λ x y p q. p ∙ sym q))

pub first_unique : Unique firstK.ps firstK.r first.Post
first_unique κs a x y e f p q = let h : ◌≡◌ {A = Result Stamps Refusal} (Ok x) (Ok y) = p ∙ sym q in cc
