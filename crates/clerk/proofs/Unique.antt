-- No second result and no second buffer meets the contract of the clerk's functions.
-- Assumes nothing.
use mathlib.Core.Path.{sym, ◌∙◌}
use Rattle.laws.specs.Unique.{UniqueLent}
use Rattle.clerk.proofs.work.work.Reads as work
use Rattle.clerk.proofs.work.work.Kinds as workK
use Rattle.clerk.proofs.work.finish.Reads as finish
use Rattle.clerk.proofs.work.finish.Kinds as finishK
use Rattle.clerk.proofs.chains.close.Reads as close
use Rattle.clerk.proofs.chains.close.Kinds as closeK

-- where the work on a chunk comes to, and what the buffer then holds
pub work_unique : UniqueLent workK.ps workK.r work.Post (λ κs e. e.1.1.1.1.0.now)
work_unique κs a x y e f p q = (p.0 ∙ sym q.0, p.1 ∙ sym q.1)

-- where the end of the input comes to, and what the buffer then holds
pub finish_unique : UniqueLent finishK.ps finishK.r finish.Post (λ κs e. e.1.1.0.now)
finish_unique κs a x y e f p q = (p.0 ∙ sym q.0, p.1 ∙ sym q.1)

-- where what is written last comes to, and what the buffer then holds
pub close_unique : UniqueLent closeK.ps closeK.r close.Post (λ κs e. e.1.1.0.now)
close_unique κs a x y e f p q = (p.0 ∙ sym q.0, p.1 ∙ sym q.1)
