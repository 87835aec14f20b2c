-- No second result meets the contract of a function of this crate.
-- Assumes nothing.
use mathlib.Core.Path.{sym, ◌∙◌}
use Rattle.laws.specs.Unique.{Unique}
use Rattle.conflict.proofs.CellSets.{same_cells}
use Rattle.conflict.proofs.action.kinds_agree.Reads as kinds-agree
use Rattle.conflict.proofs.action.kinds_agree.Kinds as kinds-agreeK
use Rattle.conflict.proofs.action.actions_conflict.Reads as actions-conflict
use Rattle.conflict.proofs.action.actions_conflict.Kinds as actions-conflictK
use Rattle.conflict.proofs.cells.with_cell.Reads as with_cell
use Rattle.conflict.proofs.cells.with_cell.Kinds as with-cellK
use Rattle.conflict.proofs.cells.has_cell.Reads as has-cell
use Rattle.conflict.proofs.cells.has_cell.Kinds as has-cellK
use Rattle.conflict.proofs.cells.meeting_cells.Reads as meeting-cells
use Rattle.conflict.proofs.cells.meeting_cells.Kinds as meeting-cellsK
use Rattle.conflict.proofs.modes.needed_mode.Reads as needed-mode
use Rattle.conflict.proofs.modes.needed_mode.Kinds as needed-modeK
use Rattle.conflict.proofs.modes.recorded_kind.Reads as recorded-kind
use Rattle.conflict.proofs.modes.recorded_kind.Kinds as recorded-kindK
use Rattle.conflict.proofs.modes.mode_covers.Reads as mode-covers
use Rattle.conflict.proofs.modes.mode_covers.Kinds as mode-coversK
use Rattle.conflict.proofs.modes.mode_grants.Reads as mode-grants
use Rattle.conflict.proofs.modes.mode_grants.Kinds as mode-grantsK
use Rattle.conflict.proofs.modes.asked_mode.Reads as asked-mode
use Rattle.conflict.proofs.modes.asked_mode.Kinds as asked-modeK
use Rattle.conflict.proofs.modes.mode_is_free.Reads as mode-is-free
use Rattle.conflict.proofs.modes.mode_is_free.Kinds as mode-is-freeK
use Rattle.conflict.proofs.modes.U8FromMode.from.Reads as code_of_lem
use Rattle.conflict.proofs.modes.U8FromMode.from.Kinds as code-ofK
use Rattle.conflict.proofs.modes.ModeFromU8.from.Reads as Mode-of
use Rattle.conflict.proofs.modes.ModeFromU8.from.Kinds as mode-ofK

pub kinds_agree_unique : Unique kinds-agreeK.ps kinds-agreeK.r kinds-agree.Post
kinds_agree_unique κs a x y e f p q = p ∙ sym q

pub actions_conflict_unique : Unique actions-conflictK.ps actions-conflictK.r actions-conflict.Post
actions_conflict_unique κs a x y e f p q = p ∙ sym q

pub with_cell_unique : Unique with-cellK.ps with-cellK.r with_cell.Post
with_cell_unique κs a x y e f p q = same_cells x y (λ c. p c ∙ sym (q c))

pub has_cell_unique : Unique has-cellK.ps has-cellK.r has-cell.Post
has_cell_unique κs a x y e f p q = p ∙ sym q

pub meeting_cells_unique : Unique meeting-cellsK.ps meeting-cellsK.r meeting-cells.Post
meeting_cells_unique κs a x y e f p q = same_cells x y (λ c. p c ∙ sym (q c))

pub needed_mode_unique : Unique needed-modeK.ps needed-modeK.r needed-mode.Post
needed_mode_unique κs a x y e f p q = p ∙ sym q

pub recorded_kind_unique : Unique recorded-kindK.ps recorded-kindK.r recorded-kind.Post
recorded_kind_unique κs a x y e f p q = p ∙ sym q

pub mode_covers_unique : Unique mode-coversK.ps mode-coversK.r mode-covers.Post
mode_covers_unique κs a x y e f p q = p ∙ sym q

pub mode_grants_unique : Unique mode-grantsK.ps mode-grantsK.r mode-grants.Post
mode_grants_unique κs a x y e f p q = p ∙ sym q

pub asked_mode_unique : Unique asked-modeK.ps asked-modeK.r asked-mode.Post
asked_mode_unique κs a x y e f p q = p ∙ sym q

pub code_of_unique : Unique code-ofK.ps code-ofK.r code_of_lem.Post
code_of_unique κs a x y e f p q = p ∙ sym q

pub mode_of_unique : Unique mode-ofK.ps mode-ofK.r Mode-of.Post
mode_of_unique κs a x y e f p q = p ∙ sym q

pub mode_is_free_unique : Unique mode-is-freeK.ps mode-is-freeK.r mode-is-free.Post
mode_is_free_unique κs a x y e f p q = p ∙ sym q
