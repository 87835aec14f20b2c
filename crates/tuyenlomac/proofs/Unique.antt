-- No second result, and no second content of a field, a list or a buffer, meets the contract of a function of the library.
-- Assumes nothing.
use Prim.Native.Nat.{ℕ}
use mathlib.Core.Path.{◌≡◌, sym, ap, ◌∙◌}
use mathlib.Core.List.{[], ◌∷◌}
use lib.ListN.{get_or}
use Rattle.laws.specs.Unique.{Unique, UniqueLent}
use Rattle.desk_arrays.specs.declared.state.Desk.{Desk}
use Rattle.desk_arrays.specs.Steps.{desk_of}
use Rattle.stamp_arrays.specs.Steps.{stamps_of}
use Rattle.tuyenlomac.specs.Desks.{Lists, lists_of}
use Rattle.tuyenlomac.proofs.answers.in_three.Reads as in_three
use Rattle.tuyenlomac.proofs.answers.in_three.Kinds as in-threeK
use Rattle.tuyenlomac.proofs.locks.tuyenlomac_locks_start_on.Reads as locks_start
use Rattle.tuyenlomac.proofs.locks.tuyenlomac_locks_start_on.Kinds as locks-startK
use Rattle.tuyenlomac.proofs.locks.tuyenlomac_locks_step_on.Reads as locks_step
use Rattle.tuyenlomac.proofs.locks.tuyenlomac_locks_step_on.Kinds as locks-stepK
use Rattle.tuyenlomac.proofs.locks.tuyenlomac_locks_chain_on.Reads as locks-chain
use Rattle.tuyenlomac.proofs.locks.tuyenlomac_locks_chain_on.Kinds as locks-chainK
use Rattle.tuyenlomac.proofs.stamps.tuyenlomac_stamps_start_on.Reads as stamps_start
use Rattle.tuyenlomac.proofs.stamps.tuyenlomac_stamps_start_on.Kinds as stamps-startK
use Rattle.tuyenlomac.proofs.stamps.tuyenlomac_stamps_step_on.Reads as stamps_step
use Rattle.tuyenlomac.proofs.stamps.tuyenlomac_stamps_step_on.Kinds as stamps-stepK
use Rattle.tuyenlomac.proofs.histories.tuyenlomac_judge.Reads as judge
use Rattle.tuyenlomac.proofs.histories.tuyenlomac_judge.Kinds as judgeK
use Rattle.tuyenlomac.proofs.lines.LineFromReading.from.Reads as line-of
use Rattle.tuyenlomac.proofs.lines.LineFromReading.from.Kinds as line-ofK
use Rattle.tuyenlomac.proofs.lines.PlacedFromResultUsizeRefusal.from.Reads as placed-of
use Rattle.tuyenlomac.proofs.lines.PlacedFromResultUsizeRefusal.from.Kinds as placed-ofK
use Rattle.tuyenlomac.proofs.locks.ChainSaidFromResultUsizeRefusal.from.Reads as chain-of
use Rattle.tuyenlomac.proofs.locks.ChainSaidFromResultUsizeRefusal.from.Kinds as chain-ofK
use Rattle.tuyenlomac.proofs.lines.tuyenlomac_read_request.Reads as read-request
use Rattle.tuyenlomac.proofs.lines.tuyenlomac_read_request.Kinds as read-requestK
use Rattle.tuyenlomac.proofs.lines.tuyenlomac_read_history.Reads as read_history
use Rattle.tuyenlomac.proofs.lines.tuyenlomac_read_history.Kinds as read-historyK
use Rattle.tuyenlomac.proofs.lines.tuyenlomac_write_answer.Reads as write-answer
use Rattle.tuyenlomac.proofs.lines.tuyenlomac_write_answer.Kinds as write-answerK
use Rattle.tuyenlomac.proofs.lines.tuyenlomac_write_line.Reads as write_line
use Rattle.tuyenlomac.proofs.lines.tuyenlomac_write_line.Kinds as write-lineK

pub in_three_unique : Unique in-threeK.ps in-threeK.r in_three.Post
in_three_unique κs a x y e f p q = p ∙ sym q

-- the start of either desk: the refusal, and what is then in the desk's place
pub tuyenlomac_locks_start_on_unique : UniqueLent locks-startK.ps locks-startK.r locks_start.Post
    (λ κs e. desk_of e.0.now e.1.0.now e.1.1.0.now e.1.1.1.0.now e.1.1.1.1.0.now e.1.1.1.1.1.0.now)
tuyenlomac_locks_start_on_unique κs a x y e f p q = (p.0 ∙ sym q.0, p.1 ∙ sym q.1)

pub tuyenlomac_stamps_start_on_unique : UniqueLent stamps-startK.ps stamps-startK.r stamps_start.Post (λ κs e. stamps_of e.0.now e.1.0.now e.1.1.0.now e.1.1.1.0.now)
tuyenlomac_stamps_start_on_unique κs a x y e f p q = (p.0 ∙ sym q.0, p.1 ∙ sym q.1)

-- what the fields of a lock desk and the lists hold at the end of a step
pub record Kept : Type 0 where
  pub desk : Desk
  pub lists : Lists

-- both together
abbrev kept : Desk → Lists → Kept
kept d l = record { desk = d; lists = l }

-- a step of either desk: the answer, and what the fields and the lists then hold
pub tuyenlomac_locks_step_on_unique : UniqueLent locks-stepK.ps locks-stepK.r locks_step.Post
    (λ κs e. kept (desk_of e.0.now e.1.0.now e.1.1.0.now e.1.1.1.0.now e.1.1.1.1.0.now e.1.1.1.1.1.0.now) (lists_of e.1.1.1.1.1.1.0.now e.1.1.1.1.1.1.1.0.now e.1.1.1.1.1.1.1.1.0.now))
tuyenlomac_locks_step_on_unique κs a x y e f p q =
    (p.answer ∙ sym q.answer, λ i. record { desk = (p.desk ∙ sym q.desk) i; lists = (p.wakes ∙ sym q.wakes) i })

pub tuyenlomac_stamps_step_on_unique : UniqueLent stamps-stepK.ps stamps-stepK.r stamps_step.Post (λ κs e. stamps_of e.0.now e.1.0.now e.1.1.0.now e.1.1.1.0.now)
tuyenlomac_stamps_step_on_unique κs a x y e f p q = (p.answer ∙ sym q.answer, p.desk ∙ sym q.desk)

-- equal lists of two numbers have equal first and equal second numbers
same_first : {a b c d : ℕ} → (a ∷ b ∷ []) ≡ (c ∷ d ∷ []) → a ≡ c
same_first = ap (λ l. get_or l 0 0)

same_second : {a b c d : ℕ} → (a ∷ b ∷ []) ≡ (c ∷ d ∷ []) → b ≡ d
same_second = ap (λ l. get_or l 1 0)

-- the conversions: what a line says, what writing tells, and the answer to a question for a chain, each in numbers
pub line_from_unique : Unique line-ofK.ps line-ofK.r line-of.Post
line_from_unique κs a x y e f p q = p ∙ sym q

pub placed_from_unique : Unique placed-ofK.ps placed-ofK.r placed-of.Post
placed_from_unique κs a x y e f p q = let s = p ∙ sym q in λ i. record { refusal = same_first s i; next = same_second s i }

pub chain_said_from_unique : Unique chain-ofK.ps chain-ofK.r chain-of.Post
chain_said_from_unique κs a x y e f p q = let s = p ∙ sym q in λ i. record { refusal = same_first s i; jobs = same_second s i }

-- a question for a chain: what is answered, and what the list then holds
pub tuyenlomac_locks_chain_on_unique : UniqueLent locks-chainK.ps locks-chainK.r locks-chain.Post (λ κs e. e.1.1.1.1.1.1.1.0.now)
tuyenlomac_locks_chain_on_unique κs a x y e f p q =
    let s = p.0 ∙ sym q.0 in
    (λ i. record { refusal = same_first s i; jobs = same_second s i }, p.1 ∙ sym q.1)

-- the judge: what is said, where the faulty line stands, and what the order buffer then holds
pub tuyenlomac_judge_unique : UniqueLent judgeK.ps judgeK.r judge.Post (λ κs e. e.1.0.now)
tuyenlomac_judge_unique κs a x y e f p q =
    (λ i. record { said = (p.0 ∙ sym q.0) i; from = (p.1.0 ∙ sym q.1.0) i; length = (p.1.1.0 ∙ sym q.1.1.0) i }, p.1.1.1 ∙ sym q.1.1.1)

-- the line reader
pub tuyenlomac_read_request_unique : Unique read-requestK.ps read-requestK.r read-request.Post
tuyenlomac_read_request_unique κs a x y e f p q = p ∙ sym q

pub tuyenlomac_read_history_unique : Unique read-historyK.ps read-historyK.r read_history.Post
tuyenlomac_read_history_unique κs a x y e f p q = p ∙ sym q

-- the record writer: what is told, and what the buffer then holds
pub tuyenlomac_write_answer_unique : UniqueLent write-answerK.ps write-answerK.r write-answer.Post (λ κs e. e.0.now)
tuyenlomac_write_answer_unique κs a x y e f p q =
    let s = p.0 ∙ sym q.0 in
    (λ i. record { refusal = same_first s i; next = same_second s i }, p.1 ∙ sym q.1)

pub tuyenlomac_write_line_unique : UniqueLent write-lineK.ps write-lineK.r write_line.Post (λ κs e. e.0.now)
tuyenlomac_write_line_unique κs a x y e f p q =
    let s = p.0 ∙ sym q.0 in
    (λ i. record { refusal = same_first s i; next = same_second s i }, p.1 ∙ sym q.1)
