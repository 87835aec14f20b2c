-- An answer in the paper's words and numbers: the number beside go, wait and back is the job's, and word, number and field tell answers apart (01, Refusals by number; 01, Lines; 02, No. 5).
-- Assumes nothing.
use Prim.Native.Nat.{ℕ}
use mathlib.Core.Path.{◌≡◌, refl, ap}
use native.Mathlib.Omega.{arith}
use Rattle.terms.specs.declared.refusals.Refusal.{Refusal}
use Rattle.terms.specs.Refusals.{number_of}
use Rattle.terms.proofs.Numbers.{same_number, no_field_beside}
use Rattle.desks.specs.declared.Answer.{Answer}
use Rattle.desks.specs.declared.Answer.TheVariants.{Go as goes, Wait as waits, Back as back, No as refuses}
use Rattle.desks.specs.AnswerWords.{word_of, number_beside, field_beside}
use Rattle.desks.specs.Table.{Answers}
use Rattle.desks.specs.Table as table

-- go, wait and back have their job beside them
pub beside_is_job : {a : Answer} {j : ℕ} → Answers a j → number_beside a ≡ j
unfolding number_beside
beside_is_job (table.goes j) = refl
beside_is_job (table.waits j) = refl
beside_is_job (table.goes_back j) = refl

-- WORD, NUMBER AND FIELD TELL ANSWERS APART: answers with equal words, numbers and fields are equal
pub same_answer : (a b : Answer) → word_of a ≡ word_of b → number_beside a ≡ number_beside b → field_beside a ≡ field_beside b → a ≡ b
unfolding word_of number_beside field_beside
same_answer (goes j) (goes k) e n f = ap goes n
same_answer (waits j) (waits k) e n f = ap waits n
same_answer (back j) (back k) e n f = ap back n
same_answer (refuses x) (refuses y) e n f = ap refuses (same_number x y n f)
same_answer (goes x) (waits y) e n f = let z : ◌≡◌ {A = ℕ} 0 1 = cc in absurd (omega arith)
same_answer (goes x) (back y) e n f = let z : ◌≡◌ {A = ℕ} 0 1 = cc in absurd (omega arith)
same_answer (goes x) (refuses y) e n f = let z : ◌≡◌ {A = ℕ} 0 1 = cc in absurd (omega arith)
same_answer (waits x) (goes y) e n f = let z : ◌≡◌ {A = ℕ} 0 1 = cc in absurd (omega arith)
same_answer (waits x) (back y) e n f = let z : ◌≡◌ {A = ℕ} 0 1 = cc in absurd (omega arith)
same_answer (waits x) (refuses y) e n f = let z : ◌≡◌ {A = ℕ} 0 1 = cc in absurd (omega arith)
same_answer (back x) (goes y) e n f = let z : ◌≡◌ {A = ℕ} 0 1 = cc in absurd (omega arith)
same_answer (back x) (waits y) e n f = let z : ◌≡◌ {A = ℕ} 0 1 = cc in absurd (omega arith)
same_answer (back x) (refuses y) e n f = let z : ◌≡◌ {A = ℕ} 0 1 = cc in absurd (omega arith)
same_answer (refuses x) (goes y) e n f = let z : ◌≡◌ {A = ℕ} 0 1 = cc in absurd (omega arith)
same_answer (refuses x) (waits y) e n f = let z : ◌≡◌ {A = ℕ} 0 1 = cc in absurd (omega arith)
same_answer (refuses x) (back y) e n f = let z : ◌≡◌ {A = ℕ} 0 1 = cc in absurd (omega arith)

-- an answer other than refusal 9 has no field
pub no_field : (a : Answer) → ((why : Refusal) → a ≡ refuses why → number_of why ≡ 9 → ⊥) → field_beside a ≡ 0
unfolding field_beside
no_field (goes j) other = refl
no_field (waits j) other = refl
no_field (back j) other = refl
no_field (refuses why) other = no_field_beside why (other why refl)
