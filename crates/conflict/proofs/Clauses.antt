-- The definitions of schedules and of what is recorded, clause by clause: crates above use these in place of the definitions (01, The judge's rules).
-- Assumes nothing.
use Prim.Native.Nat.{ℕ}
use mathlib.Core.Path.{◌≡◌, refl}
use mathlib.Core.Bool.{true, false, ◌||◌}
use mathlib.Core.List.{[], ◌∷◌}
use lib.Dec.{eqb}
use Rattle.terms.specs.declared.letters.Ask.TheVariants.{Read as asks_read, Write as asks_write, Increment as asks-increment, Update as asks-update}
use Rattle.conflict.specs.declared.action.Kind.TheVariants.{Read, Write, Increment}
use Rattle.conflict.specs.declared.action.Action.{Action}
use Rattle.conflict.specs.Modes.{recorded}
use Rattle.conflict.specs.Schedule.{Schedule, conflicts, keep, touches, edge}
use Rattle.conflict.specs.Dirty.{changes}
use Rattle.conflict.specs.NumberOrder.{reads}

-- for a read a history records a read
pub records_read : recorded asks_read ≡ Read
unfolding recorded
records_read = refl

-- for a write a write
pub records_write : recorded asks_write ≡ Write
unfolding recorded
records_write = refl

-- for a read with intent to write a read (02, No. 1)
pub records_update : recorded asks-update ≡ Read
unfolding recorded
records_update = refl

-- and for an increment an increment
pub records_increment : recorded asks-increment ≡ Increment
unfolding recorded
records_increment = refl

-- an action that is kept stands before the rest
pub keep_it : (a : Action) (s : Schedule) → keep true a s ≡ a ∷ s
unfolding keep
keep_it a s = refl

-- one that is not kept does not stand there
pub keep_not : (a : Action) (s : Schedule) → keep false a s ≡ s
unfolding keep
keep_not a s = refl

-- nothing of an empty schedule conflicts with an action
pub touches_none : (a : Action) (j : ℕ) → touches a j [] ≡ false
unfolding touches
touches_none a j = refl

-- if the first action is job j's, it conflicts with a, or a later one does
pub touches_own : (a : Action) (j : ℕ) (b : Action) (s : Schedule) → eqb b.job j ≡ true → touches a j (b ∷ s) ≡ (conflicts a b || touches a j s)
unfolding touches
touches_own a j b s t = rw t

-- if the first action is another job's, only a later one can
pub touches_past : (a : Action) (j : ℕ) (b : Action) (s : Schedule) → eqb b.job j ≡ false → touches a j (b ∷ s) ≡ touches a j s
unfolding touches
touches_past a j b s f = rw f

-- an empty schedule has no edge
pub edge_none : (i j : ℕ) → edge [] i j ≡ false
unfolding edge
edge_none i j = refl

-- an edge from the job of the first action goes from that action, or is one of the later ones
pub edge_own : (a : Action) (s : Schedule) (i j : ℕ) → eqb a.job i ≡ true → edge (a ∷ s) i j ≡ (touches a j s || edge s i j)
unfolding edge
edge_own a s i j t = rw t

-- an edge from another job is one of the later actions
pub edge_past : (a : Action) (s : Schedule) (i j : ℕ) → eqb a.job i ≡ false → edge (a ∷ s) i j ≡ edge s i j
unfolding edge
edge_past a s i j f = rw f

-- a read reads (02, No. 6)
pub read_reads : reads Read ≡ true
unfolding reads
read_reads = refl

-- a write does not
pub write_reads_not : reads Write ≡ false
unfolding reads
write_reads_not = refl

-- an increment does
pub increment_reads : reads Increment ≡ true
unfolding reads
increment_reads = refl

-- a read changes nothing
pub read_changes_not : changes Read ≡ false
unfolding changes
read_changes_not = refl

-- a write changes
pub write_changes : changes Write ≡ true
unfolding changes
write_changes = refl

-- and an increment does
pub increment_changes : changes Increment ≡ true
unfolding changes
increment_changes = refl
