-- No second result and no second buffer meets the contract of a function that writes a line.
-- Assumes nothing.
use mathlib.Core.Path.{sym, ◌∙◌}
use Rattle.laws.specs.Unique.{UniqueLent}
use Rattle.judge_line.proofs.lines.write_jobs.Reads as write-jobs
use Rattle.judge_line.proofs.lines.write_jobs.Kinds as write-jobsK
use Rattle.judge_line.proofs.lines.write_no.Reads as write-no
use Rattle.judge_line.proofs.lines.write_no.Kinds as write-noK
use Rattle.judge_line.proofs.verdict.write_verdict.Reads as write-verdict
use Rattle.judge_line.proofs.verdict.write_verdict.Kinds as write-verdictK
use Rattle.judge_line.proofs.verdict.verdict_line.Reads as verdict-line
use Rattle.judge_line.proofs.verdict.verdict_line.Kinds as verdict-lineK

-- what writing a word and jobs tells, and what the buffer then holds
pub write_jobs_unique : UniqueLent write-jobsK.ps write-jobsK.r write-jobs.Post (λ κs e. e.0.now)
write_jobs_unique κs a x y e f p q = (p.0 ∙ sym q.0, p.1 ∙ sym q.1)

-- what writing a refusal tells, and what the buffer then holds
pub write_no_unique : UniqueLent write-noK.ps write-noK.r write-no.Post (λ κs e. e.0.now)
write_no_unique κs a x y e f p q = (p.0 ∙ sym q.0, p.1 ∙ sym q.1)

-- what writing a verdict tells, and what the buffer then holds
pub write_verdict_unique : UniqueLent write-verdictK.ps write-verdictK.r write-verdict.Post (λ κs e. e.1.1.0.now)
write_verdict_unique κs a x y e f p q = (p.0 ∙ sym q.0, p.1 ∙ sym q.1)

-- what the verdict on a text tells, and what the buffer then holds
pub verdict_line_unique : UniqueLent verdict-lineK.ps verdict-lineK.r verdict-line.Post (λ κs e. e.1.0.now)
verdict_line_unique κs a x y e f p q = (p.0 ∙ sym q.0, p.1 ∙ sym q.1)
