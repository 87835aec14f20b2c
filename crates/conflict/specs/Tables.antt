-- How the code looks up its tables; proved to be `grants` and `covers`.
use Rattle.std.specs.Prelude.{◌≡◌, Bool}
use Rattle.conflict.specs.declared.modes.Mode.{Mode}
use Rattle.conflict.specs.declared.modes.Mode.TheVariants.{Free, S, X, I, U}
use Rattle.conflict.specs.declared.tables.Row.{Row}
use Rattle.conflict.specs.declared.tables.Table.{Table}
use Rattle.conflict.specs.Modes.{row}

-- what a row says of a mode
abbrev pub in_row : Row → Mode → Bool
in_row r m = row r.0 r.1 r.2 r.3 m

-- the column of a mode: what each row of a table says of it
pub record Column (table : Table) (m : Mode) (column : Row) : Type 0 where
  pub of_s : column.0 ≡ in_row table.0 m
  pub of_x : column.1 ≡ in_row table.1 m
  pub of_i : column.2 ≡ in_row table.2 m
  pub of_u : column.3 ≡ in_row table.3 m

-- what the row of a held mode says of another mode; if nothing is held, what the extra row beside the table says
abbrev pub look_up : Table → Row → Mode → Mode → Bool
look_up table unheld Free other = in_row unheld other
look_up table unheld S other = in_row table.0 other
look_up table unheld X other = in_row table.1 other
look_up table unheld I other = in_row table.2 other
look_up table unheld U other = in_row table.3 other
