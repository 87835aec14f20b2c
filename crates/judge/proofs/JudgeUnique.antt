-- No second verdict, line, place of the line, order buffer or answer meets the contract of the judge's entries.
-- Assumes nothing.
use Prim.Native.Nat.{ℕ}
use mathlib.Core.Path.{sym, ap₂, ◌∙◌}
use mathlib.Core.List.{List}
use Rattle.laws.specs.Unique.{UniqueLent, UniquePart}
use Rattle.judge.specs.declared.entry.LineAt.{LineAt}
use Rattle.judge.proofs.entry.judge_text.Reads as judge-text
use Rattle.judge.proofs.entry.judge_text.Kinds as judge-textK
use Rattle.judge.proofs.entry.judge.Reads as judge
use Rattle.judge.proofs.entry.judge.Kinds as judgeK
use Rattle.judge.proofs.entry.judge_at.Reads as judge-at
use Rattle.judge.proofs.entry.judge_at.Kinds as judge-atK

-- the verdict, and what the order buffer then holds
pub judge_text_unique : UniqueLent judge-textK.ps judge-textK.r judge-text.Post (λ κs e. e.1.0.now)
judge_text_unique κs a x y e f p q = (p.0 ∙ sym q.0, p.1 ∙ sym q.1)

-- the line handed back with its place, what the order buffer then holds, and the answer
pub judge_unique : UniquePart judgeK.ps judgeK.r judge.Post {A = (ℕ × ℕ) × List ℕ} (λ κs x. (x.ref_ptr, x.now)) (λ κs e. e.1.0.now) (λ κs e. e.1.1.0.now)
judge_unique κs a x y e f p q = (ap₂ (λ (s : ℕ × ℕ) (t : List ℕ). (s, t)) (p.1.0 ∙ sym q.1.0) (p.0 ∙ sym q.0), p.1.1.0 ∙ sym q.1.1.0, p.1.1.1 ∙ sym q.1.1.1)

-- where the faulty line stands, what the order buffer then holds, and the answer
pub judge_at_unique : UniquePart judge-atK.ps judge-atK.r judge-at.Post {A = LineAt} (λ κs x. x) (λ κs e. e.1.0.now) (λ κs e. e.1.1.0.now)
judge_at_unique κs a x y e f p q =
    (λ i. record { from = (p.0 ∙ sym q.0) i; length = (p.1.0 ∙ sym q.1.0) i }, p.1.1.0 ∙ sym q.1.1.0, p.1.1.1 ∙ sym q.1.1.1)
