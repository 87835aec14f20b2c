-- In the lock machine, while the run of an action has not ended, its job's mode still lets it do that action.
-- Assumes nothing.
use mathlib.Core.Path.{◌≡◌}
use mathlib.Core.Bool.{true, false, ◌||◌}
use mathlib.Core.List.{[], ◌∷◌, ◌++◌}
use Rattle.laws.specs.Choice.{not_both}
use Rattle.laws.proofs.Parts.{and_first, and_second, or_either}
use Rattle.conflict.specs.declared.action.Action.{Action}
use Rattle.conflict.specs.declared.action.Event.TheVariants.{Does, Ends}
use Rattle.conflict.specs.History.{History}
use Rattle.conflict.specs.Runs.{ended}
use Rattle.conflict.proofs.LockTable.{Table, allows, Ran}
use Rattle.conflict.proofs.LockMachine.{held, machine_keeps}

-- what holds for every action holds for one of them
held_one : (t : Table) (h g : History) (a : Action) → held t (h ++ Does a ∷ g) ≡ true → (ended a.job g || allows t a) ≡ true
unfolding held
held_one t [] g a e = and_first (ended a.job g || allows t a) (held t g) e
held_one t (Does b ∷ h) g a e = held_one t h g a (and_second (ended b.job (h ++ Does a ∷ g) || allows t b) (held t (h ++ Does a ∷ g)) e)
held_one t (Ends m i ∷ h) g a e = held_one t h g a e

-- nothing is released before the run ends
pub machine_still : {t : Table} (h g : History) (a : Action) → Ran t (h ++ Does a ∷ g) → ended a.job g ≡ false → allows t a ≡ true
machine_still {t} h g a r f =
    or_either (ended a.job g) (allows t a) (held_one t h g a (machine_keeps r).under) (λ e. not_both e f) (λ l. l)
