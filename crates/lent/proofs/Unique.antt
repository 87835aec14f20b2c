-- The entries' contracts, as the source states them, are the calls that the promises speak of; no second result or desk at exit meets them. Both are stated over the clauses read off the source.
-- Assumes nothing.
use mathlib.Core.Path.{◌≡◌, refl, sym, ap, ◌∙◌}
use seplogic.Ra.Ura.{Ura}
use base.Logic.{SProp, ent, id⊢}
use prog.Memory.{Memory}
use prog.Routine.{Routine}
use types.Logic.{Logic}
use contract.Lifetimes.{Lfts}
use contract.Monad.{Fun, conj, fact, fact_i, fact_use}
use denote.Laws.{both_say}
use denote.Triple.Clauses.{AtExit}
use denote.Triple.Entry.{Args}
use Rattle.desks.specs.declared.Answer.{Answer}
use Rattle.desks.specs.Told.{request}
use Rattle.desk_arrays.specs.declared.state.Said.{Said}
use Rattle.desk_arrays.specs.declared.state.Outcome.{Outcome}
use Rattle.stamp_arrays.specs.declared.state.Stamped.{Stamped}
use Rattle.lent.specs.Entries.{leaving, stamping, OnLocks, OnStamps}
use Rattle.lent.specs.contracts.locks.step_lent as locks
use Rattle.lent.specs.contracts.stamps.step_lent as stamps

-- two facts, each from its own side, give what both give
from_both : {M : Type 1} {𝓤 : Ura M} (𝓛 : Logic 𝓤) (φ ψ χ : Type 0) → (φ → ψ → χ) → ent 𝓤 (conj 𝓤 (fact 𝓤 φ) (fact 𝓤 ψ)) (fact 𝓤 χ)
from_both {𝓤 = 𝓤} 𝓛 φ ψ χ k = fact_use 𝓤 (φ × ψ) (both_say 𝓛 φ ψ (id⊢ 𝓤 _) (id⊢ 𝓤 _)) (λ p. fact_i 𝓤 _ _ (k p.0 p.1))

module _ {M : Type 1} {𝓤 : Ura M} (𝓛 : Logic 𝓤) (at_mem : Memory → SProp 𝓤) (run : Routine → Fun 𝓤) (κs : Lfts 1) where
  module _ (a : Args locks.signature κs) where
    pub locks_step_lent_calls : (x : Said) (e : AtExit locks.ended κs) → (locks.clauses 𝓛 at_mem run κs a).ensures tt x e ≡ fact 𝓤 (OnLocks a.0.now (request a.1.0 a.1.1.0 a.1.1.1.0) (leaving e.0.now x))
    locks_step_lent_calls x e = refl

    pub locks_step_lent_unique : (x y : Said) (e g : AtExit locks.ended κs)
        → ent 𝓤 (conj 𝓤 ((locks.clauses 𝓛 at_mem run κs a).ensures tt x e) ((locks.clauses 𝓛 at_mem run κs a).ensures tt y g)) (fact 𝓤 ((x ≡ y) × (e.0.now ≡ g.0.now)))
    locks_step_lent_unique x y e g = from_both 𝓛 _ _ _ (λ p q. (ap (λ (o : Outcome). o.said) (p ∙ sym q), ap (λ (o : Outcome). o.desk) (p ∙ sym q)))

  module _ (a : Args stamps.signature κs) where
    pub stamps_step_lent_calls : (x : Answer) (e : AtExit stamps.ended κs) → (stamps.clauses 𝓛 at_mem run κs a).ensures tt x e ≡ fact 𝓤 (OnStamps a.0.now (request a.1.0 a.1.1.0 a.1.1.1.0) (stamping e.0.now x))
    stamps_step_lent_calls x e = refl

    pub stamps_step_lent_unique : (x y : Answer) (e g : AtExit stamps.ended κs)
        → ent 𝓤 (conj 𝓤 ((stamps.clauses 𝓛 at_mem run κs a).ensures tt x e) ((stamps.clauses 𝓛 at_mem run κs a).ensures tt y g)) (fact 𝓤 ((x ≡ y) × (e.0.now ≡ g.0.now)))
    stamps_step_lent_unique x y e g = from_both 𝓛 _ _ _ (λ p q. (ap (λ (o : Stamped). o.answer) (p ∙ sym q), ap (λ (o : Stamped). o.stamps) (p ∙ sym q)))
