-- `conflict::modes::mode_grants` meets its contract: the table says what the definition says, for every pair of modes.
-- Assumes nothing.
use Rattle.std.proofs.Common.{refl}
use Rattle.conflict.specs.Modes.{grants}
use Rattle.conflict.proofs.TableRule.{by_table}
use Rattle.conflict.proofs.modes.mode_grants.Goals as goal

pub returns : goal.returns
returns c = by_table _ _ grants _ _ c.look.ensures (unfold grants in refl)
