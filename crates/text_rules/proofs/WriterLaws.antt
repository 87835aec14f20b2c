-- What a caller may conclude from what the record writer tells and leaves (01, Lines; refusal 15).
-- Assumes nothing.
use Prim.Native.Nat.{ℕ, ◌+◌, ◌-◌, ◌≤◌, ◌<◌}
use mathlib.Core.Path.{◌≡◌, refl, sym, ap, ◌∙◌}
use mathlib.Core.Bool.{true, false}
use mathlib.Core.Logic.{◌↔◌, ◌⊎◌, inl, inr, ⊎_elim}
use mathlib.Core.List.{List, ◌++◌}
use native.Mathlib.Omega.{arith}
use borrow.Author.Tests.{ltb-true, ltb-false, leb-true, leb-false, le-leb, lt-leb}
use lib.Dec.{ltb, leb}
use lib.ListN.{length, take, drop, get_or, length-drop}
use lib.Seq.{get_or-take, get_or-drop}
use Rattle.std.specs.Prelude.{Result, Ok, Err}
use Rattle.laws.specs.Choice.{by_test}
use Rattle.terms.specs.declared.letters.Letter.{Letter}
use Rattle.terms.specs.declared.refusals.Refusal.{Refusal}
use Rattle.terms.specs.declared.refusals.Refusal.TheVariants.{NoRoom}
use Rattle.terms.specs.declared.words.Word.{Word}
use Rattle.text_rules.specs.Records.{answer_record, line_record, fits, told, left}
use Rattle.text_rules.specs.Wrote.{Wrote}
use Rattle.text_rules.proofs.Length.{answer_length, line_length}
use Rattle.text_rules.proofs.WroteLaws.{wrote_before, wrote_take, wrote_drop, wrote_length}

-- for a record that fits, the place after it is told
pub told_next : (b : List ℕ) (at : ℕ) (bs : List ℕ) → fits b at bs ≡ true → told b at bs ≡ Ok (at + length bs)
unfolding told
told_next b at bs t = rw t

-- for a record that does not fit, refusal 15 is told
pub told_refused : (b : List ℕ) (at : ℕ) (bs : List ℕ) → fits b at bs ≡ false → told b at bs ≡ Err NoRoom
unfolding told
told_refused b at bs f = rw f

-- a place is told only for a record that fits, and it is the place after the record, within the buffer
pub next_told : (b : List ℕ) (at : ℕ) (bs : List ℕ) (n : ℕ) → told b at bs ≡ Ok n → (n ≡ at + length bs) × (n ≤ length b)
unfolding fits
next_told b at bs n e =
    by_test (fits b at bs) (λ t. let k : at + length bs ≡ n = cc (told_next b at bs t) in let h = leb-true (at + length bs) (length b) t in (omega arith, omega arith))
    (λ f. let z : ◌≡◌ {A = ℕ} 0 1 = cc (told_refused b at bs f) in absurd (omega arith))

-- a place past the end is refused, whatever the record
pub past_the_end : (b : List ℕ) (at : ℕ) (bs : List ℕ) → length b < at → told b at bs ≡ Err NoRoom
unfolding fits
past_the_end b at bs h = told_refused b at bs (lt-leb (at + length bs) (length b) (omega arith))

-- a record that is longer than what is left is refused
pub too_long : (b : List ℕ) (at : ℕ) (bs : List ℕ) → length b < at + length bs → told b at bs ≡ Err NoRoom
unfolding fits
too_long b at bs h = told_refused b at bs (lt-leb (at + length bs) (length b) h)

-- a record that has room is not refused
pub not_refused : {P : Type 0} {w : Result ℕ Refusal} {why : Refusal} (b : List ℕ) (at : ℕ) (bs : List ℕ) → w ≡ told b at bs → w ≡ Err why → at + length bs ≤ length b → P
unfolding fits
not_refused b at bs e f h =
    let t : told b at bs ≡ Ok (at + length bs) = told_next b at bs (le-leb (at + length bs) (length b) h) in
    let z : ◌≡◌ {A = ℕ} 0 1 = cc in
    absurd (omega arith)

-- FIFTEEN EXACTLY IF THERE IS NO ROOM: a record is refused exactly if the place is past the end, or the buffer from there on is shorter than the record (01, refusal 15)
pub no_room_exactly : (b : List ℕ) (at : ℕ) (bs : List ℕ) → (told b at bs ≡ Err NoRoom) ↔ ((length b < at) ⊎ (length (drop at b) < length bs))
no_room_exactly b at bs = (refused_there, ⊎_elim (past_the_end b at bs) (λ h. let n = length-drop at b in too_long b at bs (omega arith)))
  where
    refused_there : told b at bs ≡ Err NoRoom → (length b < at) ⊎ (length (drop at b) < length bs)
    refused_there e =
        by_test (ltb (length b) at) (λ t. inl (ltb-true (length b) at t))
        (λ f.
        let within = ltb-false (length b) at f in
        let n = length-drop at b in
        by_test (leb (at + length bs) (length b)) (λ t. not_refused b at bs refl e (leb-true (at + length bs) (length b) t))
        (λ g. let h = leb-false (at + length bs) (length b) g in inr (omega arith)))

-- at the end of the buffer every answer record is refused
pub answer_at_the_end : (b : List ℕ) (line : ℕ) (word : Word) (number fault : ℕ) → told b (length b) (answer_record line word number fault) ≡ Err NoRoom
answer_at_the_end b line word number fault = too_long b (length b) (answer_record line word number fault) (let n = answer_length line word number fault in omega arith)

-- and so is every letter's line
pub line_at_the_end : (b : List ℕ) (l : Letter) (job cell : ℕ) → told b (length b) (line_record l job cell) ≡ Err NoRoom
line_at_the_end b l job cell = too_long b (length b) (line_record l job cell) (let n = line_length l job cell in omega arith)

-- a record that fits is written
left_wrote : (b : List ℕ) (at : ℕ) (bs : List ℕ) → fits b at bs ≡ true → Wrote at (at + length bs) bs b (left b at bs)
unfolding left fits
left_wrote b at bs t = record { ends = refl; within = leb-true (at + length bs) (length b) t; holds = rw t }

-- if a place is told, the record was written up to it
pub next_wrote : {w : Result ℕ Refusal} {b : List ℕ} {at : ℕ} {bs : List ℕ} {n : ℕ} {m : List ℕ} → w ≡ told b at bs → w ≡ Ok n → m ≡ left b at bs → Wrote at n bs b m
unfolding left fits
next_wrote {w} {b} {at} {bs} {n} {m} e f g =
    let k = next_told b at bs n (sym e ∙ f) in
    let t = le-leb (at + length bs) (length b) (omega arith) in
    record { ends = k.0; within = k.1; holds = g ∙ rw (t, k.0) refl }

-- after a refusal every byte is as it was
pub left_refused : (b : List ℕ) (at : ℕ) (bs : List ℕ) → fits b at bs ≡ false → left b at bs ≡ b
unfolding left
left_refused b at bs f = rw f

-- the buffer keeps its length
pub left_length : (b : List ℕ) (at : ℕ) (bs : List ℕ) → length (left b at bs) ≡ length b
left_length b at bs = by_test (fits b at bs) (λ t. wrote_length (left_wrote b at bs t)) (λ f. ap length (left_refused b at bs f))

-- up to the place told stands what stood before the record, and then the record: records written one after another make one text
pub left_text : (b : List ℕ) (at : ℕ) (bs : List ℕ) → fits b at bs ≡ true → take (at + length bs) (left b at bs) ≡ take at b ++ bs
left_text b at bs t = wrote_take (left_wrote b at bs t)

-- what stands before the place given stays
pub left_before : (b : List ℕ) (at : ℕ) (bs : List ℕ) → take at (left b at bs) ≡ take at b
left_before b at bs = by_test (fits b at bs) (λ t. wrote_before (left_wrote b at bs t)) (λ f. ap (take at) (left_refused b at bs f))

-- what stands after the record stays
pub left_after : (b : List ℕ) (at : ℕ) (bs : List ℕ) → drop (at + length bs) (left b at bs) ≡ drop (at + length bs) b
left_after b at bs = by_test (fits b at bs) (λ t. wrote_drop (left_wrote b at bs t)) (λ f. ap (drop (at + length bs)) (left_refused b at bs f))

-- byte by byte: each byte before the place given stays
pub byte_before : (b : List ℕ) (at : ℕ) (bs : List ℕ) (i : ℕ) → i < at → get_or (left b at bs) i 0 ≡ get_or b i 0
byte_before b at bs i h = sym (get_or-take at (left b at bs) i 0 h) ∙ ap (λ l. get_or l i 0) (left_before b at bs) ∙ get_or-take at b i 0 h

-- and so does each byte after the record
pub byte_after : (b : List ℕ) (at : ℕ) (bs : List ℕ) (i : ℕ) → at + length bs ≤ i → get_or (left b at bs) i 0 ≡ get_or b i 0
byte_after b at bs i h =
    let n = at + length bs in
    let e : n + (i - n) ≡ i = omega arith in
    ap (λ k. get_or (left b at bs) k 0) (sym e)
    ∙ sym (get_or-drop n (left b at bs) (i - n) 0)
    ∙ ap (λ l. get_or l (i - n) 0) (left_after b at bs)
    ∙ get_or-drop n b (i - n) 0
    ∙ ap (λ k. get_or b k 0) e
