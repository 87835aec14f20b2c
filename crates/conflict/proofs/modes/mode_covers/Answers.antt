-- `conflict::modes::mode_covers` meets its contract: the table says what the definition says, for every pair of modes.
-- Assumes nothing.
use Rattle.std.proofs.Common.{refl}
use Rattle.conflict.specs.Modes.{covers}
use Rattle.conflict.proofs.TableRule.{by_table}
use Rattle.conflict.proofs.modes.mode_covers.Goals as goal

pub returns : goal.returns
returns c = by_table _ _ covers _ _ c.look.ensures (unfold covers in refl)
