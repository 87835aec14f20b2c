-- What is kept of a part of a line: its first bytes, while there is room, from the place reached.
-- Assumes nothing.
use Prim.Native.Nat.{ℕ, suc, ◌+◌, ◌-◌, ◌≤◌, ◌<◌, min}
use mathlib.Core.Path.{◌≡◌, sym, ap, ◌∙◌}
use mathlib.Core.Bool.{true, false}
use mathlib.Core.List.{List, [], ◌∷◌, ◌++◌}
use native.Mathlib.Nat.{add-zero, add-suc, suc-add}
use native.Mathlib.Numerals.{add-one, sub-one}
use native.Mathlib.Omega.{arith}
use borrow.Author.Tests.{ltb-true, ltb-false}
use lib.Dec.{eqb, ltb}
use lib.ListN.{length, take, set, get_or}
use lib.Seq.{sets, take-suc, length-take-le}
use Rattle.laws.specs.Choice.{pick, by_test}
use Rattle.terms.specs.Words.{newline}
use Rattle.text_rules.specs.declared.splitter.Splitter.{Splitter}
use Rattle.text_rules.specs.Split.{kept, taken, under_way, through, used}

-- one more value at the end of a run of stores is one more store
sets_snoc : (l : List ℕ) (i : ℕ) (vs : List ℕ) (b : ℕ) → sets l i (vs ++ (b ∷ [])) ≡ set (sets l i vs) (i + length vs) b
sets_snoc l i [] b = rw add-zero
sets_snoc l i (v ∷ vs) b = sets_snoc (set l i v) (suc i) vs b ∙ rw (add-suc, suc-add)

-- after i stores, the next one stores byte i
pub stored_more : (l m : List ℕ) (at i : ℕ) (vs : List ℕ) → m ≡ sets l at (take i vs) → i < length vs → set m (at + i) (get_or vs i 0) ≡ sets l at (take (i + 1) vs)
stored_more l m at i vs h lt =
    let e : length (take i vs) ≡ i = length-take-le i vs (omega arith) in
    rw h (sym (rw (add-one i, take-suc vs i 0 lt) (sets_snoc l at (take i vs) (get_or vs i 0) ∙ rw e)))

-- a byte of a line under way that does not end it
taken_on : (bytes : List ℕ) (n line b : ℕ) → eqb b newline ≡ false → taken (under_way bytes n line) b ≡ pick (ltb n kept) (under_way (set bytes n b) (n + 1) line) (under_way bytes n line)
unfolding taken under_way
taken_on bytes n line b e = rw e

-- a line under way after its next m bytes; the last of them tells whether the line has ended
abbrev pub after : List ℕ → ℕ → ℕ → List ℕ → ℕ → Splitter
after bytes n line t m = record { kept = sets bytes n (take m t); len = n + m; ended = eqb (get_or t (length t - 1) 0) newline; line = line }

-- one byte alone is taken, a newline or not
through_one : (s : Splitter) (b : ℕ) → through s (b ∷ []) ≡ taken s b
unfolding through
through_one s b = by_test (eqb b newline) (λ e. rw e) (λ e. rw e)

-- a part of more than one byte that begins with a newline is not one line
begins : (b c : ℕ) (t : List ℕ) → used (b ∷ c ∷ t) ≡ suc (suc (length t)) → eqb b newline ≡ false
unfolding used
begins b c t h = by_test (eqb b newline) (λ e. absurd (omega (arith, rw e at h))) (λ e. e)

-- the rest of such a part is such a part too
goes_on : (b c : ℕ) (t : List ℕ) → eqb b newline ≡ false → used (b ∷ c ∷ t) ≡ suc (suc (length t)) → used (c ∷ t) ≡ suc (length t)
unfolding used
goes_on b c t e h = let g : suc (used (c ∷ t)) ≡ suc (suc (length t)) = rw e at h in omega arith

-- such a part's first byte is taken, and the rest goes on from there
through_on : (s : Splitter) (b : ℕ) (t : List ℕ) → eqb b newline ≡ false → through s (b ∷ t) ≡ through (taken s b) t
unfolding through
through_on s b t e = rw e

-- if there is room, the first byte is one more store, and there is room for one less
after_room : (bytes : List ℕ) (n line b c : ℕ) (t : List ℕ) → n < kept →
    after (set bytes n b) (n + 1) line (c ∷ t) (min (suc (length t)) (kept - (n + 1))) ≡ after bytes n line (b ∷ c ∷ t) (min (suc (suc (length t))) (kept - n))
after_room bytes n line b c t h =
    let m : min (suc (suc (length t))) (kept - n) ≡ suc (min (suc (length t)) (kept - (n + 1))) = omega arith in
    rw (m, add-one n, suc-add, add-suc) (simp sub-one)

-- if there is no room, nothing is stored
after_full : (bytes : List ℕ) (n line b c : ℕ) (t : List ℕ) → kept ≤ n →
    after bytes n line (c ∷ t) (min (suc (length t)) (kept - n)) ≡ after bytes n line (b ∷ c ∷ t) (min (suc (suc (length t))) (kept - n))
after_full bytes n line b c t h =
    let e : min (suc (length t)) (kept - n) ≡ 0 = omega arith in
    let f : min (suc (suc (length t))) (kept - n) ≡ 0 = omega arith in
    rw (e, f) (simp sub-one)

-- if one byte comes and there is room, it is stored
one_room : (bytes : List ℕ) (n line b : ℕ) → ltb n kept ≡ true → taken (under_way bytes n line) b ≡ after bytes n line (b ∷ []) (min 1 (kept - n))
unfolding taken under_way
one_room bytes n line b h =
    let m : min 1 (kept - n) ≡ 1 = omega (arith, ltb-true n kept h) in
    rw (h, m)

-- and if there is no room, it is not
one_full : (bytes : List ℕ) (n line b : ℕ) → ltb n kept ≡ false → taken (under_way bytes n line) b ≡ after bytes n line (b ∷ []) (min 1 (kept - n))
unfolding taken under_way
one_full bytes n line b h =
    let m : min 1 (kept - n) ≡ 0 = omega (arith, ltb-false n kept h) in
    rw (h, m, add-zero n)

-- a line under way after a part of it that has no newline before its last byte
pub through_part : (t : List ℕ) (bytes : List ℕ) (n line : ℕ) → 0 < length t → used t ≡ length t →
    through (under_way bytes n line) t ≡ after bytes n line t (min (length t) (kept - n))
through_part [] bytes n line h u = absurd (omega arith)
through_part (b ∷ []) bytes n line h u =
    through_one (under_way bytes n line) b ∙ by_test (ltb n kept) (one_room bytes n line b) (one_full bytes n line b)
through_part (b ∷ c ∷ t) bytes n line h u =
    let e : eqb b newline ≡ false = begins b c t u in
    let u' : used (c ∷ t) ≡ suc (length t) = goes_on b c t e u in
    through_on (under_way bytes n line) b (c ∷ t) e
    ∙ ap (λ (s : Splitter). through s (c ∷ t)) (taken_on bytes n line b e)
    ∙ by_test (ltb n kept)
    (λ r. rw r (through_part (c ∷ t) (set bytes n b) (n + 1) line (omega arith) u' ∙ after_room bytes n line b c t (ltb-true n kept r)))
    (λ r. rw r (through_part (c ∷ t) bytes n line (omega arith) u' ∙ after_full bytes n line b c t (ltb-false n kept r)))

-- the stores and the sum give that line
pub grown_is : (t bytes k : List ℕ) (n line m : ℕ) → m ≡ min (length t) (kept - n) → k ≡ sets bytes n (take m t) → (0 < length t) × (used t ≡ length t) →
    ◌≡◌ {A = Splitter} (record { kept = k; len = n + m; ended = eqb (get_or t (length t - 1) 0) newline; line = line }) (through (under_way bytes n line) t)
grown_is t bytes k n line m e f h = rw (f, e) (sym (through_part t bytes n line h.0 h.1))
