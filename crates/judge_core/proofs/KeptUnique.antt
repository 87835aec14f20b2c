-- No second verdict and no second order buffer meets the contract of the judge on kept lines.
-- Assumes nothing.
use mathlib.Core.Path.{sym, ◌∙◌}
use Rattle.laws.specs.Unique.{UniqueLent}
use Rattle.judge_core.proofs.kept.judge_kept.Reads as judge-kept
use Rattle.judge_core.proofs.kept.judge_kept.Kinds as judge-keptK

-- the verdict, and what the order buffer then holds
pub judge_kept_unique : UniqueLent judge-keptK.ps judge-keptK.r judge-kept.Post (λ κs e. e.1.1.1.1.0.now)
judge_kept_unique κs a x y e f p q = (p.0 ∙ sym q.0, p.1 ∙ sym q.1)
