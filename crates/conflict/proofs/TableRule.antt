-- How a table is looked up, case by case; and that the table says what a definition says, if one computed test over every two modes holds.
-- Assumes nothing.
use mathlib.Core.Path.{◌≡◌, refl, ◌∙◌}
use mathlib.Core.Bool.{Bool, true, false}
use Rattle.laws.specs.Choice.{not_both}
use Rattle.conflict.specs.declared.modes.Mode.{Mode}
use Rattle.conflict.specs.declared.modes.Mode.TheVariants.{Free, S, X, I, U}
use Rattle.conflict.specs.declared.tables.Row.{Row}
use Rattle.conflict.specs.declared.tables.Table.{Table}
use Rattle.conflict.specs.Modes.{is_free}
use Rattle.conflict.specs.Tables.{in_row, Column, look_up}
use Rattle.conflict.proofs.EachMode.{each_mode, alike, of_two, equal}
use Rattle.conflict.proofs.ModeLaws.{is_free_lem}

-- every row says yes to `Free`
pub no_column : (table : Table) (unheld : Row) (held other : Mode) → is_free other ≡ true → true ≡ look_up table unheld held other
no_column table unheld held other f = rw (is_free_lem other f) (rows held)
  where
    rows : (held : Mode) → true ≡ look_up table unheld held Free
    rows Free = refl
    rows S = refl
    rows X = refl
    rows I = refl
    rows U = refl

-- if nothing is held, the row beside the table decides
pub no_row : {b : Bool} (table : Table) (unheld : Row) (held other : Mode) → is_free held ≡ true → b ≡ in_row unheld other → b ≡ look_up table unheld held other
no_row table unheld held other f e = rw (is_free_lem held f) e

-- else the column of the other mode: it says of the held mode what the row of the held mode says of the other
pub by_column : {b : Bool} {column : Row} (table : Table) (unheld : Row) (held other : Mode) → is_free held ≡ false → Column table other column → b ≡ in_row column held → b ≡ look_up table unheld held other
unfolding is_free
by_column table unheld Free other f c e = not_both refl f
by_column table unheld S other f c e = e ∙ c.of_s
by_column table unheld X other f c e = e ∙ c.of_x
by_column table unheld I other f c e = e ∙ c.of_i
by_column table unheld U other f c e = e ∙ c.of_u

-- a table that equals the definition at every two modes, by the computed test, says what the definition says of any two
pub by_table : {b : Bool} (table : Table) (unheld : Row) (f : Mode → Mode → Bool) (m n : Mode) → b ≡ look_up table unheld m n → each_mode (λ m. each_mode (λ n. alike (look_up table unheld m n) (f m n))) ≡ true → b ≡ f m n
by_table table unheld f m n e h = e ∙ equal (look_up table unheld m n) (f m n) (of_two (λ m n. alike (look_up table unheld m n) (f m n)) h m n)
