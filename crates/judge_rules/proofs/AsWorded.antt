-- The judge in the paper's words and numbers: which texts are faultless; which line is refused, with which number and at which field; and for which texts dirty, orderly and a knot are said. Each in both directions (01, Refusals by number; 01, The judge's rules; 02, No. 2 and No. 5).
-- Assumes nothing.
use Prim.Native.Nat.{ℕ, ◌-◌, ◌≤◌, ◌<◌}
use mathlib.Core.Path.{◌≡◌, refl, sym, ap, ◌∙◌, subst}
use mathlib.Core.Logic.{◌↔◌, ◌⊎◌, inl, inr, ⊎_elim}
use mathlib.Core.List.{List, [], ◌∷◌}
use native.Mathlib.Omega.{arith}
use lib.Dec.{leb}
use lib.ListN.{length}
use borrow.Author.Tests.{leb-true, leb-false}
use Rattle.laws.specs.Choice.{by_test, not_both}
use Rattle.terms.specs.declared.refusals.Field.{Field}
use Rattle.terms.specs.declared.refusals.Refusal.{Refusal}
use Rattle.terms.specs.declared.refusals.Refusal.TheVariants.{BadLine, TooManyLines, ShortOrder}
use Rattle.terms.specs.Letters.{of_histories}
use Rattle.terms.specs.Refusals.{number_of, field_number, field_of}
use Rattle.terms.proofs.Numbers.{same_number}
use Rattle.conflict.specs.Schedule.{ConflictSerializable}
use Rattle.conflict.specs.History.{History, committed_part}
use Rattle.conflict.specs.Dirty.{IsDirty, FirstDirty}
use Rattle.conflict.proofs.DirtyFound.{first_is_dirty}
use Rattle.text_rules.specs.FieldFaults.{AtFault}
use Rattle.text_rules.specs.Split.{lines_of}
use Rattle.judge_rules.specs.declared.verdict.Verdict.{Verdict}
use Rattle.judge_rules.specs.declared.verdict.Verdict.TheVariants.{Orderly, Knot, Dirty, No}
use Rattle.judge_rules.specs.HistoryText.{readings_of, line_at, events_in}
use Rattle.judge_rules.specs.Judgement.{judgement_of, in_numbers}
use Rattle.judge_rules.specs.LineTable.{reading_at, lines_before, Faultless, FirstFault, AllFaultless}
use Rattle.judge_rules.specs.AsWorded.{SoundTo, SoundText, RefusesLine, Refused, Dirtied, Ordered, Knotted}
use Rattle.judge_rules.specs.AsWorded.RefusedAs.{too_many, bad}
use Rattle.judge_rules.proofs.Readings.{readings_length}
use Rattle.judge_rules.proofs.CleanLines.{clean_line}
use Rattle.judge_rules.proofs.OneAnswer.{no_fault}
use Rattle.judge_rules.proofs.Refusing.{short_exactly, line_0_short, refused_exactly}
use Rattle.judge_rules.proofs.VerdictNumbers.{same_verdict}
use Rattle.judge_rules.proofs.JudgedTexts.{dirty_said, orderly_said, knot_said, dirty_said_exactly, orderly_said_exactly, knot_said_exactly}
use Rattle.judge_rules.proofs.BadLines.{nine_fault}
use Rattle.judge_rules.proofs.WordedLines.{faultless_sound, sound_faultless, due_worded, worded_due}

module _ (text : List ℕ) where
  -- line 4,097 is not faultless
  not_4097 : Faultless (readings_of text) 4_097 → ⊥
  not_4097 f = let z : ◌≡◌ {A = ℕ} 0 1 = not_both refl (clean_line 4_097 (lines_before (readings_of text) 4_097) (reading_at (readings_of text) 4_097) f).few in omega arith

  -- so at most 4,096 faultless lines stand before a line
  few_before : (n : ℕ) → ((m : ℕ) → 1 ≤ m → m < n → Faultless (readings_of text) m) → n ≤ 4_097
  few_before n all = by_test (leb n 4_097) (λ t. leb-true n 4_097 t) (λ f. absurd (not_4097 (all 4_097 (omega arith) (leb-false n 4_097 f))))

  -- a text is faultless by the table exactly if it is in the paper's words: at most 4,096 lines, each good, jobs from 1 to 255, cells up to 63, and no line of a job after its c or a
  pub faultless_exactly : AllFaultless (readings_of text) ↔ SoundText text
  faultless_exactly = (
    λ all.
        let few : length (lines_of text) ≤ 4_096 =
        by_test (leb (length (lines_of text)) 4_096) (λ t. leb-true (length (lines_of text)) 4_096 t)
        (λ f. absurd (not_4097 (all 4_097 (omega arith) (omega (arith, leb-false (length (lines_of text)) 4_096 f, readings_length text))))) in
        record { few = few; each = λ n a b. faultless_sound text n (all n a (omega (arith, readings_length text))) },
    λ s n a b. sound_faultless text n (omega (arith, s.few, readings_length text)) (s.each n a (omega (arith, readings_length text))),
  )

  -- the first faulty line is the paper's, with its refusal's number and field
  first_worded : (n : ℕ) (why : Refusal) → FirstFault (readings_of text) n why → RefusesLine text n (number_of why) (field_of why)
  first_worded n why f =
      let few : n ≤ 4_097 = few_before n f.before in
      record {
        from = f.from;
        to = omega (arith, f.to, readings_length text);
        before = record { few = omega arith; each = λ m a b. faultless_sound text m (f.before m a (omega (arith, f.from))) };
        fault = due_worded text n few why f.due;
      }

  -- and the line that the paper refuses is the first faulty one
  worded_first : (n : ℕ) (why : Refusal) → RefusesLine text n (number_of why) (field_of why) → FirstFault (readings_of text) n why
  worded_first n why r =
      record {
        from = r.from;
        to = omega (arith, r.to, readings_length text);
        before = λ m a b. sound_faultless text m (omega (arith, r.before.few)) (r.before.each m a (omega arith));
        due = worded_due text n r.fault why refl refl;
      }

module _ (text buffer : List ℕ) where
  -- A REFUSED LINE: with 255 places, line n is refused with a number, and for 9 with a field, exactly if the paper says so
  pub refused_as_worded : (n : ℕ) (why : Refusal) → 1 ≤ n → ((judgement_of text buffer).said ≡ No n why) ↔ ((255 ≤ length buffer) × RefusesLine text n (number_of why) (field_of why))
  refused_as_worded n why h = (
    λ e. let p = (refused_exactly text buffer n why h).0 e in (p.0, first_worded text n why p.1),
    λ p. (refused_exactly text buffer n why h).1 (p.0, worded_first text n why p.1),
  )

  -- LINE 4,097: 11 is given with line number 4,097 exactly if there is a line 4,097, good or bad, and the 4,096 before it are faultless
  pub too_many_exactly : 255 ≤ length buffer → (in_numbers (judgement_of text buffer).said ≡ 2 ∷ 11 ∷ 4_097 ∷ 0 ∷ []) ↔ ((4_097 ≤ length (lines_of text)) × SoundTo (lines_of text) 4_096)
  too_many_exactly room = (
    λ e.
        let r = ((refused_as_worded 4_097 TooManyLines (omega arith)).0 (same_verdict (judgement_of text buffer).said (No 4_097 TooManyLines) (unfold in_numbers in e))).1 in
        (r.to, r.before),
    λ p. unfold in_numbers in ap in_numbers ((refused_as_worded 4_097 TooManyLines (omega arith)).1 (room, record { from = omega arith; to = p.0; before = p.1; fault = too_many refl })),
  )

  -- WHICH FIELD: 9 is given with line n and a field's number exactly if the lines before are faultless, line n is one of the first 4,096, and that field of it is at fault (02, No. 5)
  pub nine_as_worded : (n : ℕ) (at : Field) → 1 ≤ n → (in_numbers (judgement_of text buffer).said ≡ 2 ∷ 9 ∷ n ∷ field_number at ∷ [])
      ↔ ((255 ≤ length buffer) × (n ≤ 4_096) × (n ≤ length (lines_of text)) × SoundTo (lines_of text) (n - 1) × AtFault of_histories (line_at (lines_of text) n) at)
  nine_as_worded n at h = (
    λ e.
        let r = (refused_as_worded n (BadLine at) h).0 (same_verdict (judgement_of text buffer).said (No n (BadLine at)) (unfold in_numbers in e)) in
        let f = nine_fault text n r.1.fault refl in
        let same : BadLine f.1 ≡ BadLine at = same_number (BadLine f.1) (BadLine at) refl (sym f.2) in
        let q : f.1 ≡ at = cc in
        (r.0, f.0, r.1.to, r.1.before, subst (λ field. AtFault of_histories (line_at (lines_of text) n) field) q f.3),
    λ p. unfold in_numbers in ap in_numbers ((refused_as_worded n (BadLine at) h).1 (p.0, record { from = h; to = p.2; before = p.3; fault = bad p.1 at p.4 })),
  )

  -- the history that the text says
  abbrev says : History
  says = events_in (readings_of text)

  -- what is said is a refusal or it is not
  by_said : {P : Type 0} (v : Verdict) → (judgement_of text buffer).said ≡ v → ((n : ℕ) (why : Refusal) → (judgement_of text buffer).said ≡ No n why → P) → ((i j : ℕ) → (judgement_of text buffer).said ≡ Dirty i j → P) →
      ((n : ℕ) → (judgement_of text buffer).said ≡ Orderly n → P) → ((n : ℕ) → (judgement_of text buffer).said ≡ Knot n → P) → P
  by_said (No n why) e one' two' three' four' = one' n why e
  by_said (Dirty i j) e one' two' three' four' = two' i j e
  by_said (Orderly n) e one' two' three' four' = three' n e
  by_said (Knot n) e one' two' three' four' = four' n e

  -- DIRTY: it is said with this reader and this writer exactly if there are 255 places, the text is faultless, and they are those of its first dirty read
  pub dirty_as_worded : (i j : ℕ) → ((judgement_of text buffer).said ≡ Dirty i j) ↔ ((255 ≤ length buffer) × SoundText text × FirstDirty says i j)
  dirty_as_worded i j = (
    λ e. let d = dirty_said text buffer i j e in (d.0, (faultless_exactly text).0 d.1, d.2.first),
    λ p. (dirty_said_exactly text buffer p.0 ((faultless_exactly text).1 p.1) i j).1 p.2,
  )

  -- in numbers that is 3, reader, writer, 0
  pub dirty_in_numbers : (i j : ℕ) → (in_numbers (judgement_of text buffer).said ≡ 3 ∷ i ∷ j ∷ 0 ∷ []) ↔ ((255 ≤ length buffer) × SoundText text × FirstDirty says i j)
  dirty_in_numbers i j = (
    λ e. (dirty_as_worded i j).0 (same_verdict (judgement_of text buffer).said (Dirty i j) (unfold in_numbers in e)),
    λ p. unfold in_numbers in ap in_numbers ((dirty_as_worded i j).1 p),
  )

  -- ORDERLY: it is said exactly if there are 255 places, the text is faultless and not dirty, and its committed part is conflict-serializable
  pub orderly_as_worded : ((n : ℕ) × ((judgement_of text buffer).said ≡ Orderly n)) ↔ ((255 ≤ length buffer) × SoundText text × ConflictSerializable (committed_part says) × (IsDirty says → ⊥))
  orderly_as_worded = (
    λ s. let o = orderly_said text buffer s.0 s.1 in (o.0, (faultless_exactly text).0 o.1, ((orderly_said_exactly text buffer o.0 o.1).0 s).0, o.2.clean),
    λ p. (orderly_said_exactly text buffer p.0 ((faultless_exactly text).1 p.1)).1 (p.2, p.3),
  )

  -- A KNOT: it is said exactly if there are 255 places, the text is faultless and not dirty, and its committed part is not conflict-serializable
  pub knot_as_worded : ((n : ℕ) × ((judgement_of text buffer).said ≡ Knot n)) ↔ ((255 ≤ length buffer) × SoundText text × (ConflictSerializable (committed_part says) → ⊥) × (IsDirty says → ⊥))
  knot_as_worded = (
    λ s. let k = knot_said text buffer s.0 s.1 in (k.0, (faultless_exactly text).0 k.1, ((knot_said_exactly text buffer k.0 k.1).0 s).0, k.2.clean),
    λ p. (knot_said_exactly text buffer p.0 ((faultless_exactly text).1 p.1)).1 (p.2, p.3),
  )

  -- a refusal is said only for a text with faults or for a short buffer
  refused_not_sound : (n : ℕ) (why : Refusal) → (judgement_of text buffer).said ≡ No n why → 255 ≤ length buffer → SoundText text → ⊥
  refused_not_sound n why e room s =
      by_test (leb 1 n)
      (λ t. no_fault (readings_of text) n why ((faultless_exactly text).1 s) ((refused_exactly text buffer n why (leb-true 1 n t)).0 e).1)
      (λ f.
      let less : n < 1 = leb-false 1 n f in
      let z : n ≡ 0 = omega arith in
      let q : (judgement_of text buffer).said ≡ No 0 why = rw z at e in
      let small : length buffer < 255 = (short_exactly text buffer).0 (q ∙ ap (No 0) (line_0_short text buffer why q)) in
      omega arith)

  -- A REFUSAL: it is said exactly if the buffer has fewer than 255 places or the text is not faultless
  pub no_as_worded : ((n : ℕ) × (why : Refusal) × ((judgement_of text buffer).said ≡ No n why)) ↔ ((length buffer < 255) ⊎ (SoundText text → ⊥))
  no_as_worded = (
    λ s. by_test (leb 255 (length buffer)) (λ t. inr (refused_not_sound s.0 s.1 s.2 (leb-true 255 (length buffer) t))) (λ f. inl (leb-false 255 (length buffer) f)),
    ⊎_elim (λ h. (0, ShortOrder, (short_exactly text buffer).1 h))
        (λ faulty'. by_said (judgement_of text buffer).said refl (λ n why e. (n, why, e)) (λ i j e. absurd (faulty' ((dirty_as_worded i j).0 e).1))
        (λ n e. absurd (faulty' (orderly_as_worded.0 (n, e)).1)) (λ n e. absurd (faulty' (knot_as_worded.0 (n, e)).1))),
  )

  -- ALWAYS ONE: for every text and buffer one of the four holds
  pub always_one : Refused text buffer ⊎ (Dirtied text buffer ⊎ (Ordered text buffer ⊎ Knotted text buffer))
  always_one =
      by_said (judgement_of text buffer).said refl (λ n why e. inl (no_as_worded.0 (n, why, e)))
      (λ i j e. let d = (dirty_as_worded i j).0 e in inr (inl (d.0, d.1, first_is_dirty says i j d.2)))
      (λ n e. inr (inr (inl (orderly_as_worded.0 (n, e))))) (λ n e. inr (inr (inr (knot_as_worded.0 (n, e)))))

  -- a text without a fault is not refused, if the buffer has its places
  unrefused : Refused text buffer → 255 ≤ length buffer → SoundText text → ⊥
  unrefused (inl h) room s = omega arith
  unrefused (inr f) room s = f s

  -- NEVER TWO: each excludes the others
  pub never_two : (Refused text buffer → Dirtied text buffer → ⊥) × (Refused text buffer → Ordered text buffer → ⊥) × (Refused text buffer → Knotted text buffer → ⊥)
      × (Dirtied text buffer → Ordered text buffer → ⊥) × (Dirtied text buffer → Knotted text buffer → ⊥) × (Ordered text buffer → Knotted text buffer → ⊥)
  never_two = (λ r d. unrefused r d.0 d.1, λ r o. unrefused r o.0 o.1, λ r k. unrefused r k.0 k.1, λ d o. o.3 d.2, λ d k. k.3 d.2, λ o k. k.2 o.2)
