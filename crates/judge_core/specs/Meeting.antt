-- The actions on lines kept as numbers, which of them conflict, and whether one of some lines stands before a conflicting one of others (01, The judge's rules).
use Rattle.std.specs.Prelude.{ℕ, Bool, false, ◌&&◌, ◌||◌, List, [], ◌∷◌, eqb, ltb, get_or}
use Rattle.laws.specs.Choice.{pick}
use Rattle.conflict.specs.declared.action.Kind.{Kind}
use Rattle.conflict.specs.declared.action.Kind.TheVariants.{Read, Write, Increment}
use Rattle.conflict.specs.declared.action.Action.{Action}
use Rattle.conflict.specs.Schedule.{conflicts}

-- the kind of action of a code: 0 read, 1 write, any other increment
unfoldable pub kind_by : ℕ → Kind
kind_by c = pick (eqb c 0) Read (pick (eqb c 1) Write Increment)

-- the action of a job on a cell, its kind given by a code below 3
unfoldable pub action_by : ℕ → ℕ → ℕ → Action
action_by code job cell = record { kind = kind_by code; job = job; cell = cell }

-- the action on line p
unfoldable pub action_at : List ℕ → List ℕ → List ℕ → ℕ → Action
action_at codes jobs cells p = action_by (get_or codes p 0) (get_or jobs p 0) (get_or cells p 0)

-- whether the actions on lines x and y conflict
unfoldable pub clashing : List ℕ → List ℕ → List ℕ → ℕ → ℕ → Bool
clashing codes jobs cells x y = conflicts (action_at codes jobs cells x) (action_at codes jobs cells y)

-- whether line x stands before a line of ys that it conflicts with
unfoldable pub meets_later : (ℕ → ℕ → Bool) → ℕ → List ℕ → Bool
meets_later clash x [] = false
meets_later clash x (y ∷ ys) = (ltb x y && clash x y) || meets_later clash x ys

-- whether a line of xs stands before a line of ys that it conflicts with
unfoldable pub meetings : (ℕ → ℕ → Bool) → List ℕ → List ℕ → Bool
meetings clash [] ys = false
meetings clash (x ∷ xs) ys = meets_later clash x ys || meetings clash xs ys
