-- What the verdict program prints for every text, byte by byte: for one that is too long, has a faulty line, has a bad line, is dirty, is orderly, or has a knot (01, The judge's rules; 02, No. 2 and No. 5).
-- Assumes nothing.
use Prim.Native.Nat.{ℕ, ◌+◌, ◌≤◌, ◌<◌}
use mathlib.Core.Path.{◌≡◌, ap, ◌∙◌}
use mathlib.Core.List.{List, [], ◌∷◌, ◌++◌, map}
use native.Mathlib.Omega.{arith}
use borrow.Author.Tests.{lt-ltb, le-ltb}
use lib.ListN.{length, take, replicate, length-replicate}
use Rattle.terms.specs.declared.words.Word.TheVariants.{Orderly as the-word-orderly, Knot as the-word-knot, Dirty as the-word-dirty, No as the-word-no}
use Rattle.terms.specs.declared.refusals.Field.{Field}
use Rattle.terms.specs.declared.refusals.Refusal.{Refusal}
use Rattle.terms.specs.declared.refusals.Refusal.TheVariants.{BadLine}
use Rattle.terms.specs.Limits.{judged_bytes, judged_jobs}
use Rattle.terms.specs.Refusals.{number_of, field_number, field_of}
use Rattle.conflict.specs.Schedule.{ConflictSerializable, edge}
use Rattle.conflict.specs.History.{History, committed_part}
use Rattle.conflict.specs.Dirty.{IsDirty, FirstDirty}
use Rattle.text_rules.specs.Decimal.{decimal, digits_in}
use Rattle.text_rules.specs.Records.{tabbed, word_line, given}
use Rattle.text_rules.specs.Split.{joined}
use Rattle.text_rules.proofs.RecordBytes.{orderly_bytes, knot_bytes, dirty_bytes, refusal_bytes, nine_line_bytes}
use Rattle.judge_rules.specs.declared.verdict.Verdict.{Verdict}
use Rattle.judge_rules.specs.declared.verdict.Verdict.TheVariants.{Orderly, Knot, Dirty, No}
use Rattle.judge_rules.specs.Judged.{jobs_of}
use Rattle.judge_rules.specs.Judgement.{judgement_of}
use Rattle.judge_rules.specs.HistoryText.{readings_of, events_in}
use Rattle.judge_rules.specs.LineTable.{FirstFault, AllFaultless}
use Rattle.judge_rules.specs.Meant.{SmallestFirst, Takes, Shown}
use Rattle.judge_rules.specs.VerdictLine.{say_line, judged_line, verdict_of}
use Rattle.judge_rules.proofs.Refusing.{refused_exactly}
use Rattle.judge_rules.proofs.JudgedTexts.{dirty_said_exactly, orderly_said, orderly_said_exactly, knot_said, knot_said_exactly}

-- the order buffer of the verdict program
abbrev places : List ℕ
places = replicate judged_jobs 0

-- it has its 255 places
room : judged_jobs ≤ length places
room = omega (arith, length-replicate {A = ℕ} judged_jobs 0)

-- a text that is not too long gets the judge's line
short_text : (text : List ℕ) → length text ≤ judged_bytes → verdict_of text ≡ say_line (judgement_of text places).said (judgement_of text places).order
unfolding verdict_of judged_line
short_text text h = rw (le-ltb judged_bytes (length text) h)

-- the line of an order, of a knot, of a dirty read and of a refusal
said_order : (v : Verdict) (order : List ℕ) (n : ℕ) → v ≡ Orderly n → say_line v order ≡ word_line the-word-orderly (take n order)
unfolding say_line
said_order v order n e = rw e

said_knot : (v : Verdict) (order : List ℕ) (n : ℕ) → v ≡ Knot n → say_line v order ≡ word_line the-word-knot (take n order)
unfolding say_line
said_knot v order n e = rw e

said_dirty : (v : Verdict) (order : List ℕ) (i j : ℕ) → v ≡ Dirty i j → say_line v order ≡ word_line the-word-dirty (i ∷ j ∷ [])
unfolding say_line
said_dirty v order i j e = rw e

said_refusal : (v : Verdict) (order : List ℕ) (n : ℕ) (why : Refusal) → v ≡ No n why → say_line v order ≡ word_line the-word-no (n ∷ number_of why ∷ given (field_of why))
unfolding say_line
said_refusal v order n why e = rw e

-- a refusal that tells no field is printed with its number alone
no_field : (n m f : ℕ) → f ≡ 0 → word_line the-word-no (n ∷ m ∷ given f) ≡ word_line the-word-no (n ∷ m ∷ [])
unfolding given
no_field n m f z = rw z

-- TOO LONG: for a text of more than 65,536 bytes the program prints no, 0, 16, whatever the text says
pub printed_too_long : (text : List ℕ) → 65_536 < length text → verdict_of text ≡ 110 ∷ 111 ∷ 9 ∷ 48 ∷ 9 ∷ 49 ∷ 54 ∷ 10 ∷ []
unfolding verdict_of word_line tabbed decimal digits_in
printed_too_long text h = rw (lt-ltb judged_bytes (length text) h)

module _ (text : List ℕ) (short : length text ≤ 65_536) where
  -- the history that the text says
  abbrev says : History
  says = events_in (readings_of text)

  -- the line of the first faulty line's refusal
  refusal_line : (n : ℕ) (why : Refusal) → FirstFault (readings_of text) n why → verdict_of text ≡ word_line the-word-no (n ∷ number_of why ∷ given (field_of why))
  refusal_line n why f =
      let e = (refused_exactly text places n why f.from).1 (room, f) in
      short_text text short ∙ said_refusal (judgement_of text places).said (judgement_of text places).order n why e

  -- REFUSED: for the first faulty line it prints no, the line's number and the refusal's number, if the refusal tells no field, as all but 9 do
  pub printed_refusal : (n : ℕ) (why : Refusal) → FirstFault (readings_of text) n why → field_of why ≡ 0 → verdict_of text ≡ 110 ∷ 111 ∷ 9 ∷ decimal n ++ 9 ∷ decimal (number_of why) ++ 10 ∷ []
  printed_refusal n why f z = refusal_line n why f ∙ no_field n (number_of why) (field_of why) z ∙ refusal_bytes n (number_of why)

  -- A BAD LINE: for a 9 it prints no, the line's number, 9 and the number of the field at fault (02, No. 5)
  pub printed_bad_line : (n : ℕ) (at : Field) → FirstFault (readings_of text) n (BadLine at) → verdict_of text ≡ 110 ∷ 111 ∷ 9 ∷ decimal n ++ 9 ∷ 57 ∷ 9 ∷ (48 + field_number at) ∷ 10 ∷ []
  printed_bad_line n at f = refusal_line n (BadLine at) f ∙ nine_line_bytes n at

  module _ (all : AllFaultless (readings_of text)) where
    -- DIRTY: for a faultless text with a dirty read it prints dirty, and the reader and the writer of the first one, a tab before each
    pub printed_dirty : (i j : ℕ) → FirstDirty says i j → verdict_of text ≡ 100 ∷ 105 ∷ 114 ∷ 116 ∷ 121 ∷ 9 ∷ decimal i ++ 9 ∷ decimal j ++ 10 ∷ []
    printed_dirty i j f =
        let e = (dirty_said_exactly text places room all i j).1 f in
        short_text text short ∙ said_dirty (judgement_of text places).said (judgement_of text places).order i j e ∙ dirty_bytes i j

    -- ORDERLY: for a faultless text that is not dirty and whose committed part is conflict-serializable it prints orderly and each job of the order, a tab before each
    pub printed_orderly : ConflictSerializable (committed_part says) → (IsDirty says → ⊥) →
        (order : List ℕ) × SmallestFirst (edge (committed_part says)) (jobs_of says) order × (verdict_of text ≡ 111 ∷ 114 ∷ 100 ∷ 101 ∷ 114 ∷ 108 ∷ 121 ∷ joined (map (λ j. 9 ∷ decimal j) order) ++ 10 ∷ [])
    printed_orderly c clean =
        let s = (orderly_said_exactly text places room all).1 (c, clean) in
        let o = (orderly_said text places s.0 s.1).2 in (
          o.order,
          o.smallest,
          short_text text short
              ∙ said_order (judgement_of text places).said (judgement_of text places).order s.0 s.1
              ∙ ap (word_line the-word-orderly) (ap (λ n. take n (judgement_of text places).order) o.count ∙ o.fills.first)
              ∙ orderly_bytes o.order,
        )

    -- A KNOT: for a faultless text that is not dirty and whose committed part is not conflict-serializable it prints knot and each job of its cycle, a tab before each
    pub printed_knot : (ConflictSerializable (committed_part says) → ⊥) → (IsDirty says → ⊥) →
        (knot : List ℕ) × (taken : List ℕ) × (remain : List ℕ) × Takes (edge (committed_part says)) (jobs_of says) taken remain × Shown (edge (committed_part says)) remain knot
        × (verdict_of text ≡ 107 ∷ 110 ∷ 111 ∷ 116 ∷ joined (map (λ j. 9 ∷ decimal j) knot) ++ 10 ∷ [])
    printed_knot c clean =
        let s = (knot_said_exactly text places room all).1 (c, clean) in
        let k = (knot_said text places s.0 s.1).2 in (
          k.knot,
          k.taken,
          k.remain,
          k.takes,
          k.walked,
          short_text text short
              ∙ said_knot (judgement_of text places).said (judgement_of text places).order s.0 s.1
              ∙ ap (word_line the-word-knot) (ap (λ n. take n (judgement_of text places).order) k.count ∙ k.fills.first)
              ∙ knot_bytes k.knot,
        )
