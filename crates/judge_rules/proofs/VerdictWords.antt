-- The word that the verdict program's line begins with, as bytes, and for exactly which texts: `dirty`, `orderly`, `knot`, `no` (01, The judge's rules; demand 2; 02, No. 2).
-- Assumes nothing.
use Prim.Native.Nat.{ℕ, ◌≤◌, ◌<◌}
use mathlib.Core.Path.{◌≡◌, refl, sym, ap, ◌∙◌}
use mathlib.Core.Logic.{◌↔◌, ◌⊎◌, inl, inr, ⊎_elim}
use mathlib.Core.List.{List, [], ◌∷◌}
use native.Mathlib.Omega.{arith}
use lib.Dec.{ltb}
use lib.ListN.{length, length-replicate, get_or, take, replicate}
use borrow.Author.Tests.{ltb-true, ltb-false, lt-ltb, le-ltb}
use Rattle.laws.specs.Choice.{by_test}
use Rattle.terms.specs.declared.refusals.Refusal.{Refusal}
use Rattle.terms.specs.Limits.{judged_bytes}
use Rattle.conflict.specs.Schedule.{ConflictSerializable}
use Rattle.conflict.specs.History.{History, committed_part}
use Rattle.conflict.specs.Dirty.{IsDirty}
use Rattle.conflict.proofs.DirtyFound.{first_is_dirty, dirty_first}
use Rattle.text_rules.specs.Records.{word_line}
use Rattle.judge_rules.specs.declared.verdict.Verdict.{Verdict}
use Rattle.judge_rules.specs.declared.verdict.Verdict.TheVariants.{Orderly, Knot, Dirty, No}
use Rattle.judge_rules.specs.HistoryText.{readings_of, events_in}
use Rattle.judge_rules.specs.Judgement.{judgement_of}
use Rattle.judge_rules.specs.AsWorded.{SoundText}
use Rattle.judge_rules.proofs.AsWorded.{dirty_as_worded, orderly_as_worded, knot_as_worded, no_as_worded}
use Rattle.judge_rules.specs.VerdictLine.{say_line, judged_line, verdict_of}

-- the bytes begin with these
abbrev pub BeginsWith : List ℕ → List ℕ → Type 0
BeginsWith bytes word = take (length word) bytes ≡ word

-- `orderly`, `knot`, `dirty` and `no`
abbrev pub orderly_bytes_lem : List ℕ
orderly_bytes_lem = 111 ∷ 114 ∷ 100 ∷ 101 ∷ 114 ∷ 108 ∷ 121 ∷ []

abbrev pub knot_bytes_lem : List ℕ
knot_bytes_lem = 107 ∷ 110 ∷ 111 ∷ 116 ∷ []

abbrev pub dirty_bytes_lem : List ℕ
dirty_bytes_lem = 100 ∷ 105 ∷ 114 ∷ 116 ∷ 121 ∷ []

abbrev pub no_bytes_lem : List ℕ
no_bytes_lem = 110 ∷ 111 ∷ []

-- bytes that begin with a word begin with its first byte
begins_first : (bytes w : List ℕ) (a : ℕ) → BeginsWith bytes (a ∷ w) → get_or bytes 0 0 ≡ a
begins_first [] w a e = let z : ◌≡◌ {A = ℕ} 0 1 = cc in absurd (omega arith)
begins_first (c ∷ bytes) w a e = cc

-- the word of a verdict
word_bytes : Verdict → List ℕ
word_bytes (Orderly n) = orderly_bytes_lem
word_bytes (Knot n) = knot_bytes_lem
word_bytes (Dirty i j) = dirty_bytes_lem
word_bytes (No n why) = no_bytes_lem

-- its line begins with it
line_begins : (v : Verdict) (order : List ℕ) → BeginsWith (say_line v order) (word_bytes v)
unfolding say_line word_line word_bytes
line_begins (Orderly n) order = refl
line_begins (Knot n) order = refl
line_begins (Dirty i j) order = refl
line_begins (No n why) order = refl

-- and its first byte tells it
first_byte : (v : Verdict) (order : List ℕ) (b : ℕ) → get_or (say_line v order) 0 0 ≡ b → get_or (word_bytes v) 0 0 ≡ b
unfolding say_line word_line word_bytes
first_byte (Orderly n) order b e = e
first_byte (Knot n) order b e = e
first_byte (Dirty i j) order b e = e
first_byte (No n why) order b e = e

is_orderly : (v : Verdict) → get_or (word_bytes v) 0 0 ≡ 111 → (n : ℕ) × (v ≡ Orderly n)
unfolding word_bytes
is_orderly (Orderly n) e = (n, refl)
is_orderly (Knot n) e = absurd (omega arith)
is_orderly (Dirty i j) e = absurd (omega arith)
is_orderly (No n why) e = absurd (omega arith)

is_knot : (v : Verdict) → get_or (word_bytes v) 0 0 ≡ 107 → (n : ℕ) × (v ≡ Knot n)
unfolding word_bytes
is_knot (Orderly n) e = absurd (omega arith)
is_knot (Knot n) e = (n, refl)
is_knot (Dirty i j) e = absurd (omega arith)
is_knot (No n why) e = absurd (omega arith)

is_dirty : (v : Verdict) → get_or (word_bytes v) 0 0 ≡ 100 → (i : ℕ) × (j : ℕ) × (v ≡ Dirty i j)
unfolding word_bytes
is_dirty (Orderly n) e = absurd (omega arith)
is_dirty (Knot n) e = absurd (omega arith)
is_dirty (Dirty i j) e = (i, j, refl)
is_dirty (No n why) e = absurd (omega arith)

is_refused : (v : Verdict) → get_or (word_bytes v) 0 0 ≡ 110 → (n : ℕ) × (why : Refusal) × (v ≡ No n why)
unfolding word_bytes
is_refused (Orderly n) e = absurd (omega arith)
is_refused (Knot n) e = absurd (omega arith)
is_refused (Dirty i j) e = absurd (omega arith)
is_refused (No n why) e = (n, why, refl)

module _ (text : List ℕ) where
  -- the judgement with the program's order buffer
  abbrev said : Verdict
  said = (judgement_of text (replicate 255 0)).said

  -- the history that the text says
  abbrev says : History
  says = events_in (readings_of text)

  -- the program's buffer has 255 places
  room : 255 ≤ length (replicate {A = ℕ} 255 0)
  room = omega (arith, length-replicate {A = ℕ} 255 0)

  -- for a text that is not too long the line is that of what the judge says
  short_line : length text ≤ 65_536 → verdict_of text ≡ say_line said (judgement_of text (replicate 255 0)).order
  unfolding verdict_of judged_line
  short_line h = rw (le-ltb judged_bytes (length text) h)

  -- a longer one gets no
  long_line : 65_536 < length text → BeginsWith (verdict_of text) no_bytes_lem
  unfolding verdict_of word_line
  long_line h = rw (lt-ltb judged_bytes (length text) h)

  -- the line begins with the word of what is said
  begins_said : length text ≤ 65_536 → (v : Verdict) → said ≡ v → BeginsWith (verdict_of text) (word_bytes v)
  begins_said h v e = rw (short_line h, ← e) (line_begins said (judgement_of text (replicate 255 0)).order)

  -- a line that does not begin with the first byte of no is for a text that is not too long, and what is said has that first byte
  said_first : (w : List ℕ) (a : ℕ) → BeginsWith (verdict_of text) (a ∷ w) → (a ≡ 110 → ⊥) → (length text ≤ 65_536) × (get_or (word_bytes said) 0 0 ≡ a)
  said_first w a e other =
      by_test (ltb 65_536 (length text))
      (λ t. absurd (other (sym (begins_first (verdict_of text) w a e) ∙ begins_first (verdict_of text) (111 ∷ []) 110 (long_line (ltb-true 65_536 (length text) t)))))
      (λ f.
      let h = ltb-false 65_536 (length text) f in
      (h, first_byte said (judgement_of text (replicate 255 0)).order a (ap (λ l. get_or l 0 0) (sym (short_line h)) ∙ begins_first (verdict_of text) w a e)))

  -- DIRTY: the line begins with it exactly if the text has at most 65,536 bytes, is faultless, and its history is dirty
  pub begins_dirty : BeginsWith (verdict_of text) dirty_bytes_lem ↔ ((length text ≤ 65_536) × SoundText text × IsDirty says)
  unfolding word_bytes
  begins_dirty = (
    λ e.
        let f = said_first _ 100 e (λ (q : ◌≡◌ {A = ℕ} 100 110). omega arith) in
        let v = is_dirty said f.1 in
        let d = (dirty_as_worded text (replicate 255 0) v.0 v.1).0 v.2 in
        (f.0, d.1, first_is_dirty says v.0 v.1 d.2),
    λ p. let f = dirty_first says p.2 in begins_said p.0 (Dirty f.0 f.1) ((dirty_as_worded text (replicate 255 0) f.0 f.1).1 (room, p.1, f.2)),
  )

  -- ORDERLY: exactly if the text has at most 65,536 bytes and is faultless, its history's committed part is conflict-serializable, and its history is not dirty
  pub begins_orderly : BeginsWith (verdict_of text) orderly_bytes_lem ↔ ((length text ≤ 65_536) × SoundText text × ConflictSerializable (committed_part says) × (IsDirty says → ⊥))
  unfolding word_bytes
  begins_orderly = (
    λ e.
        let f = said_first _ 111 e (λ (q : ◌≡◌ {A = ℕ} 111 110). omega arith) in
        let o = (orderly_as_worded text (replicate 255 0)).0 (is_orderly said f.1) in
        (f.0, o.1, o.2, o.3),
    λ p. let o = (orderly_as_worded text (replicate 255 0)).1 (room, p.1, p.2, p.3) in begins_said p.0 (Orderly o.0) o.1,
  )

  -- KNOT: exactly if the text has at most 65,536 bytes and is faultless, its history's committed part is not conflict-serializable, and its history is not dirty
  pub begins_knot : BeginsWith (verdict_of text) knot_bytes_lem ↔ ((length text ≤ 65_536) × SoundText text × (ConflictSerializable (committed_part says) → ⊥) × (IsDirty says → ⊥))
  unfolding word_bytes
  begins_knot = (
    λ e.
        let f = said_first _ 107 e (λ (q : ◌≡◌ {A = ℕ} 107 110). omega arith) in
        let k = (knot_as_worded text (replicate 255 0)).0 (is_knot said f.1) in
        (f.0, k.1, k.2, k.3),
    λ p. let k = (knot_as_worded text (replicate 255 0)).1 (room, p.1, p.2, p.3) in begins_said p.0 (Knot k.0) k.1,
  )

  -- for a text that is not too long, a refusal is said if its line begins with no
  refused_then : BeginsWith (verdict_of text) no_bytes_lem → length text ≤ 65_536 → SoundText text → ⊥
  refused_then e h s =
      let v = is_refused said (first_byte said (judgement_of text (replicate 255 0)).order 110 (ap (λ l. get_or l 0 0) (sym (short_line h)) ∙ begins_first (verdict_of text) (111 ∷ []) 110 e)) in
      ⊎_elim (λ (less : length (replicate {A = ℕ} 255 0) < 255). omega (arith, room)) (λ f. f s) ((no_as_worded text (replicate 255 0)).0 v)

  -- NO: exactly if the text has more than 65,536 bytes or is not faultless
  pub begins_no : BeginsWith (verdict_of text) no_bytes_lem ↔ ((65_536 < length text) ⊎ (SoundText text → ⊥))
  unfolding word_bytes
  begins_no = (
    λ e. by_test (ltb 65_536 (length text)) (λ t. inl (ltb-true 65_536 (length text) t)) (λ f. inr (refused_then e (ltb-false 65_536 (length text) f))),
    ⊎_elim long_line
        (λ faulty. by_test (ltb 65_536 (length text)) (λ t. long_line (ltb-true 65_536 (length text) t))
        (λ f. let r = (no_as_worded text (replicate 255 0)).1 (inr faulty) in begins_said (ltb-false 65_536 (length text) f) (No r.0 r.1) r.2)),
  )
