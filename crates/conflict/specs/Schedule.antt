-- Schedules as in the book: conflicts, swaps of adjacent actions, serial schedules, the precedence graph (000, 18.1 and 18.2; 01, Where the rules come from).
use Rattle.std.specs.Prelude.{ℕ, ◌<◌, ◌≡◌, ◌≢◌, Bool, true, false, not, ◌&&◌, ◌||◌, List, [], ◌∷◌, ◌++◌, eqb}
use Rattle.laws.specs.Lists.{member, distinct, pos}
use Rattle.conflict.specs.declared.action.Kind.{Kind}
use Rattle.conflict.specs.declared.action.Kind.TheVariants.{Read, Write, Increment}
use Rattle.conflict.specs.declared.action.Action.{Action}

-- a schedule is a list of actions in their order (000, 18.1)
abbrev pub Schedule : Type 0
Schedule = List Action

-- both are reads or both are increments (01, The judge's rules)
unfoldable pub agree : Kind → Kind → Bool
agree Read Read = true
agree Read Write = false
agree Read Increment = false
agree Write k = false
agree Increment Read = false
agree Increment Write = false
agree Increment Increment = true

-- actions by two jobs on one cell conflict unless both are reads or both are increments (01, The judge's rules; 000, 18.2.1)
unfoldable pub conflicts : Action → Action → Bool
conflicts a b = eqb a.cell b.cell && not (eqb a.job b.job) && not (agree a.kind b.kind)

-- two adjacent actions of different jobs change places; they may, unless they conflict (000, 18.2.1)
pub data Swap : Schedule → Schedule → Type 0 where
  here : {a b : Action} {s : Schedule} → a.job ≢ b.job → conflicts a b ≡ false → Swap (a ∷ b ∷ s) (b ∷ a ∷ s)
  later : {a : Action} {s t : Schedule} → Swap s t → Swap (a ∷ s) (a ∷ t)

-- conflict-equivalent: a sequence of such swaps turns one schedule into the other (000, 18.2.1)
pub data Equivalent : Schedule → Schedule → Type 0 where
  done : {s : Schedule} → Equivalent s s
  after : {s t u : Schedule} → Swap s t → Equivalent t u → Equivalent s u

-- the action and then the rest if the action is kept, else the rest alone
unfoldable pub keep : Bool → Action → Schedule → Schedule
keep true a s = a ∷ s
keep false a s = s

-- the actions of one job, in their order
unfoldable pub own : ℕ → Schedule → Schedule
own j [] = []
own j (a ∷ s) = keep (eqb a.job j) a (own j s)

-- the actions of the first job of the order, then those of the second, and so on (000, 18.1.3)
unfoldable pub serial : List ℕ → Schedule → Schedule
serial [] s = []
serial (j ∷ order) s = own j s ++ serial order s

-- conflict-equivalent to a serial schedule: one that is all actions of one job, then all of another, and so on (000, 18.1.3 and 18.2.1)
pub record ConflictSerializable (s : Schedule) : Type 0 where
  pub order : List ℕ
  pub once : distinct order ≡ true
  pub to : Schedule
  pub serially : to ≡ serial order to
  pub by_swaps : Equivalent s to

-- whether an action of job j in the schedule conflicts with a
unfoldable pub touches : Action → ℕ → Schedule → Bool
touches a j [] = false
touches a j (b ∷ s) = (eqb b.job j && conflicts a b) || touches a j s

-- an edge of the precedence graph: an action of i stands before an action of j that conflicts with it (000, 18.2.2; 01, The judge's rules)
unfoldable pub edge : Schedule → ℕ → ℕ → Bool
edge [] i j = false
edge (a ∷ s) i j = (eqb a.job i && touches a j s) || edge s i j

-- every job of the schedule is in the order
unfoldable pub names : List ℕ → Schedule → Bool
names order [] = true
names order (a ∷ s) = member a.job order && names order s

-- an order that names each job of the schedule, none twice, and in which every edge goes forward
pub record Forward (order : List ℕ) (s : Schedule) : Type 0 where
  pub once : distinct order ≡ true
  pub all : names order s ≡ true
  pub ahead : (i j : ℕ) → edge s i j ≡ true → pos order i < pos order j

-- a path along edges from i through the listed jobs to k
unfoldable pub path : (ℕ → ℕ → Bool) → ℕ → List ℕ → ℕ → Bool
path e i [] k = e i k
path e i (j ∷ js) k = e i j && path e j js k

-- a knot, a cycle in the precedence graph: from its first job along edges through the others and back to the first (01, The judge's rules)
unfoldable pub knot : (ℕ → ℕ → Bool) → List ℕ → Bool
knot e [] = false
knot e (j ∷ js) = path e j js j
