-- The cells that a job's actions are on, kept as sets of bits, and the cells on which two jobs can conflict (01, The judge's rules).
use Rattle.std.specs.Prelude.{ℕ, ◌/◌, ◌%◌, ◌^◌, Bool, not, ◌&&◌, ◌||◌, eqb}
use Rattle.conflict.specs.declared.action.Kind.{Kind}
use Rattle.conflict.specs.declared.action.Kind.TheVariants.{Read, Write, Increment}
use Rattle.conflict.specs.declared.cells.Touched.{Touched}
use Rattle.conflict.specs.Schedule.{agree}

-- cell c is in a set that is kept as a number: bit c is set
unfoldable pub in_set : ℕ → ℕ → Bool
in_set set c = eqb (set / 2 ^ c % 2) 1

-- a job has an action of this kind on cell c
unfoldable pub acts_on : Touched → Kind → ℕ → Bool
acts_on t Read c = in_set t.reads c
acts_on t Write c = in_set t.writes c
acts_on t Increment c = in_set t.increments c

-- some kind of action passes a test
unfoldable pub some_kind : (Kind → Bool) → Bool
some_kind f = f Read || (f Write || f Increment)

-- two jobs can conflict on cell c: each has an action there, and the kinds of the two do not agree
unfoldable pub can_conflict : Touched → Touched → ℕ → Bool
can_conflict a b c = some_kind (λ k. some_kind (λ l. (acts_on a k c && acts_on b l c) && not (agree k l)))
