-- A record that fits is written, and its length is bounded; records written one after another.
-- Assumes nothing.
use Prim.Native.Nat.{ℕ, ◌+◌, ◌≤◌}
use mathlib.Core.Path.{◌≡◌, refl, subst}
use mathlib.Core.List.{List, []}
use native.Mathlib.Omega.{arith}
use lib.ListN.{length}
use Rattle.std.specs.Prelude.{Result, Ok, Err, IsOk}
use Rattle.terms.specs.declared.letters.Letter.{Letter}
use Rattle.terms.specs.declared.refusals.Refusal.{Refusal}
use Rattle.terms.specs.Letters.{has_job, has_cell}
use Rattle.terms.specs.Limits.{last_number}
use Rattle.terms.proofs.Numbers.{within_table, beside_at_most_4}
use Rattle.text_rules.specs.Records.{longest_record, line_record, told, left}
use Rattle.text_rules.proofs.Length.{line_length}
use Rattle.text_rules.proofs.FieldLaws.{field_at_most}
use Rattle.text_rules.proofs.WriterLaws.{next_wrote, not_refused}
use Rattle.text_rules.proofs.WroteLaws.{wrote_none, wrote_length}
use Rattle.desks.specs.declared.Answer.{Answer}
use Rattle.desks.specs.declared.Answer.TheVariants.{Go, Wait, Back, No}
use Rattle.desks.specs.AnswerWords.{number_beside, field_beside}
use Rattle.clerk.specs.Parts.{Added, Besides}

-- no line of a letter with numbers of 32 bits is longer than 24 bytes
pub line_at_most_24 : (l : Letter) (job cell : ℕ) → job ≤ last_number → cell ≤ last_number → length (line_record l job cell) ≤ longest_record
line_at_most_24 l job cell h g =
    omega (arith, line_length l job cell, field_at_most 9 (has_job l) job (omega arith), field_at_most 9 (has_cell l) cell (omega arith))

-- the number and the field of an answer are short enough: only a refusal has a field, and its number has two digits at most
pub answer_besides : (a : Answer) {n k : ℕ} → n ≡ number_beside a → n ≤ last_number → k ≡ field_beside a → Besides n k
unfolding number_beside field_beside
answer_besides (Go j) e h f = (h, omega arith, λ g. absurd (omega arith))
answer_besides (Wait j) e h f = (h, omega arith, λ g. absurd (omega arith))
answer_besides (Back j) e h f = (h, omega arith, λ g. absurd (omega arith))
answer_besides (No why) e h f =
    let few = (within_table why).1 in
    (h, omega (arith, beside_at_most_4 why), λ g. omega arith)

-- a record whose place was told was written
pub added_next : {w : Result ℕ Refusal} {most at n : ℕ} {bs b m : List ℕ} → w ≡ told b at bs → w ≡ Ok n → m ≡ left b at bs → length bs ≤ most → Added most at n bs b m
added_next e f g h = record { wrote = next_wrote e f g; few = h }

-- a record for which there is room is written
pub fits_told : {w : Result ℕ Refusal} (b : List ℕ) (at : ℕ) (bs : List ℕ) (most : ℕ) → w ≡ told b at bs → length bs ≤ most → at + most ≤ length b → IsOk w
fits_told {w = Ok n} b at bs most e h r = refl
fits_told {w = Err why} b at bs most e h r = not_refused b at bs e refl (omega arith)

-- nothing was written
pub added_none : {most at : ℕ} {b : List ℕ} → at ≤ length b → Added most at at [] b b
added_none h = record { wrote = wrote_none h; few = omega arith }

-- the same bytes by another name
pub added_as : {most at to : ℕ} {bs cs b m : List ℕ} → Added most at to bs b m → bs ≡ cs → Added most at to cs b m
added_as {most} {at} {to} {bs} {cs} {b} {m} a e = subst (λ l. Added most at to l b m) e a

-- where the bytes end
pub added_end : {most at to : ℕ} {bs b m : List ℕ} → Added most at to bs b m → to ≤ at + most
added_end a = let e = a.wrote.ends in let h = a.few in omega arith

-- the buffer is as long as before
pub added_length : {most at to : ℕ} {bs b m : List ℕ} → Added most at to bs b m → length m ≡ length b
added_length a = wrote_length a.wrote
