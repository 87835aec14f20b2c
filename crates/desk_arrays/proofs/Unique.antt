-- No second result meets the contract of a function of this crate.
-- Assumes nothing.
use Prim.Native.Nat.{ℕ}
use mathlib.Core.Path.{◌≡◌, refl, sym, ◌∙◌}
use seplogic.Ra.Ura.{Ura}
use base.Logic.{SProp}
use prog.Memory.{Memory}
use prog.Routine.{Routine}
use types.Logic.{Logic}
use contract.Lifetimes.{Lfts}
use contract.Monad.{Fun, fact}
use denote.Triple.Both.{Both}
use Rattle.std.specs.Prelude.{Result, Ok}
use Rattle.terms.specs.declared.refusals.Refusal.{Refusal}
use Rattle.desk_arrays.specs.declared.state.Desk.{Desk}
use Rattle.desk_arrays.specs.Steps.{start_of}
use Rattle.laws.specs.Unique.{Unique}
use Rattle.desk_arrays.proofs.codes.ask_code.Reads as ask_code_lem
use Rattle.desk_arrays.proofs.codes.ask_code.Kinds as ask-codeK
use Rattle.desk_arrays.proofs.codes.ask_of.Reads as ask-of
use Rattle.desk_arrays.proofs.codes.ask_of.Kinds as ask-ofK
use Rattle.desk_arrays.specs.contracts.state.Desk.start as start_clauses
use Rattle.desk_arrays.proofs.state.Desk.start.Reads as start
use Rattle.desk_arrays.proofs.state.Desk.start.Kinds as startK
use Rattle.desk_arrays.proofs.state.Desk.first.Reads as first
use Rattle.desk_arrays.proofs.state.Desk.first.Kinds as firstK
use Rattle.desk_arrays.proofs.state.Desk.retry.Reads as retry
use Rattle.desk_arrays.proofs.state.Desk.retry.Kinds as retryK

pub ask_code_unique : Unique ask-codeK.ps ask-codeK.r ask_code_lem.Post
ask_code_unique κs a x y e f p q = p ∙ sym q

pub ask_of_unique : Unique ask-ofK.ps ask-ofK.r ask-of.Post
ask_of_unique κs a x y e f p q = p ∙ sym q

-- Besides, over the clauses of `start` as they are read off the source: its one clause says that the result is `start_of` of the number, and so there is no second one
pub start_unique : {M : Type 1} {𝓤 : Ura M} (𝓛 : Logic 𝓤) (κs : Lfts 0) (mem : Memory → SProp 𝓤) (run : Routine → Fun 𝓤) (n : ℕ) (both : Both ℕ ℕ)
    → Unique startK.ps startK.r start.Post
    × (((r : Result Desk Refusal) → start_clauses.ensures-1 𝓛 κs mem run n both r ≡ fact 𝓤 (r ≡ start_of n)) × ((x y : Result Desk Refusal) → x ≡ start_of n → y ≡ start_of n → x ≡ y))
start_unique 𝓛 κs mem run n both = (λ κs' a x y e f p q. p ∙ sym q, (λ r. refl, λ x y p q. p ∙ sym q))

pub first_unique : Unique firstK.ps firstK.r first.Post
first_unique κs a x y e f p q = let h : ◌≡◌ {A = Result Desk Refusal} (Ok x) (Ok y) = p ∙ sym q in cc

pub retry_unique : Unique retryK.ps retryK.r retry.Post
retry_unique κs a x y e f p q = p ∙ sym q
