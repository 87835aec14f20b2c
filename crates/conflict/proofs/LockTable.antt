-- The lock machine: a table of which job holds what, the moves that change it, and the history that they write (01, The desk's rules; 000, 18.3 and 18.4).
-- Assumes nothing.
use Prim.Native.Nat.{ℕ}
use mathlib.Core.Path.{◌≡◌}
use mathlib.Core.Logic.{◌≢◌}
use mathlib.Core.Bool.{Bool, true}
use mathlib.Core.List.{[], ◌∷◌, ◌++◌}
use Rattle.conflict.specs.declared.action.Action.{Action}
use Rattle.conflict.specs.declared.action.Mark.{Mark}
use Rattle.conflict.specs.declared.action.Event.TheVariants.{Does, Ends}
use Rattle.conflict.specs.declared.modes.Mode.{Mode}
use Rattle.conflict.specs.declared.modes.Mode.TheVariants.{Free}
use Rattle.conflict.specs.Modes.{covers, beside, lets}
use Rattle.conflict.specs.History.{History}

-- what each job holds on each cell
abbrev pub Table : Type 0
Table = ℕ → ℕ → Mode

-- a job holds nothing on any cell
abbrev pub Nothing : Table → ℕ → Type 0
Nothing t j = (c : ℕ) → t j c ≡ Free

-- what a job holds in one table covers, on every cell, what it holds in another
abbrev pub AtLeast : Table → Table → ℕ → Type 0
AtLeast t u j = (c : ℕ) → covers (t j c) (u j c) ≡ true

-- on every cell the modes of two jobs may be held together
abbrev pub Together : Table → Type 0
Together t = (i j c : ℕ) → i ≢ j → beside (t i c) (t j c) ≡ true

-- whether what a job holds lets it do an action
abbrev pub allows : Table → Action → Bool
allows t a = lets (t a.job a.cell) a.kind

-- the tables that the machine reaches, each with the history written on the way: it starts with nothing held; jobs are granted more; a job acts under what it holds; at the end of its run a job holds nothing, and the others may be granted more
pub data Ran : Table → History → Type 0 where
  start : {t : Table} → ((j : ℕ) → Nothing t j) → Ran t []
  grows : {t u : Table} {h : History} → Ran t h → ((j : ℕ) → AtLeast u t j) → Together u → Ran u h
  acts : {t : Table} {h : History} → Ran t h → (a : Action) → allows t a ≡ true → Ran t (h ++ Does a ∷ [])
  stops : {t u : Table} {h : History} → Ran t h → (m : Mark) (j : ℕ) → Nothing u j → ((i : ℕ) → i ≢ j → AtLeast u t i) → Together u → Ran u (h ++ Ends m j ∷ [])
