-- What the splitter holds after some bytes: it has room for 16 bytes, keeps no more, and these are the first of the line under way.
-- Assumes nothing.
use Prim.Native.Nat.{ℕ, ◌+◌, ◌≤◌, ◌<◌, min}
use mathlib.Core.Path.{◌≡◌, refl, sym, ◌∙◌}
use mathlib.Core.Bool.{true, false}
use mathlib.Core.List.{List, [], ◌∷◌, ◌++◌}
use native.Mathlib.Numerals.{add-one}
use native.Mathlib.Omega.{arith}
use borrow.Author.Tests.{ltb-true, ltb-false}
use lib.Dec.{ltb}
use lib.ListN.{length, take, drop, set, length-set, length-append}
use lib.Seq.{take_all, take-append-le, take-suc-set}
use Rattle.laws.specs.Choice.{by_test}
use Rattle.text_rules.specs.declared.splitter.Splitter.{Splitter}
use Rattle.text_rules.specs.Split.{kept, fresh, taken, used, cut_of, after_all, Sized}
use Rattle.text_rules.proofs.Cuts.{through_all}

-- a splitter that has seen no byte has this size
pub fresh_sized : Sized fresh
unfolding fresh
fresh_sized = record { within = omega arith; room = refl }

-- a byte does not change that
pub taken_sized : (s : Splitter) (b : ℕ) → Sized s → Sized (taken s b)
unfolding taken
taken_sized s b h =
    by_test s.ended
    (λ e. rw e (record { within = omega arith; room = length-set s.kept 0 b ∙ h.room }))
    (λ e.
    by_test (ltb s.len kept)
    (λ f. rw (e, f) (record { within = omega (arith, ltb-true s.len kept f); room = length-set s.kept s.len b ∙ h.room }))
    (λ f. rw (e, f) (record { within = h.within; room = h.room })))

-- nor do any bytes
pub after_sized : (s : Splitter) (t : List ℕ) → Sized s → Sized (after_all s t)
unfolding after_all
after_sized s [] h = h
after_sized s (b ∷ t) h = after_sized (taken s b) t (taken_sized s b h)

-- so it holds from the start on, whatever bytes have come
pub fits : (t : List ℕ) → Sized (after_all fresh t)
fits t = after_sized fresh t fresh_sized

-- nor does a cut
pub cut_sized : (s : Splitter) (chunk : List ℕ) (from : ℕ) → Sized s → Sized (cut_of s chunk from).splitter
unfolding cut_of
cut_sized s chunk from h = rw (through_all s (drop from chunk)) (after_sized s (take (used (drop from chunk)) (drop from chunk)) h)

-- the splitter holds the first bytes of a line, given those that have come
pub record Holds (s : Splitter) (p : List ℕ) : Type 0 where
  pub room : length s.kept ≡ kept
  pub many : s.len ≡ min kept (length p)
  pub bytes : take s.len s.kept ≡ take kept p

-- the first byte of a new line
pub holds_first : (s : Splitter) (b : ℕ) → s.ended ≡ true → length s.kept ≡ kept → Holds (taken s b) (b ∷ [])
unfolding taken
holds_first s b e h =
    rw e (record { room = length-set s.kept 0 b ∙ h; many = refl; bytes = take-suc-set s.kept 0 b (omega arith) })

-- one more byte, for which there is room
holds_room : (s : Splitter) (p : List ℕ) (b : ℕ) → s.len < kept → Holds s p → take (s.len + 1) (set s.kept s.len b) ≡ take kept (p ++ (b ∷ []))
holds_room s p b l h =
    let many : s.len ≡ min kept (length p) = h.many in
    let room : length s.kept ≡ kept = h.room in
    let long : length (p ++ (b ∷ [])) ≡ length p + 1 = length-append p (b ∷ []) in
    rw (add-one, take-suc-set s.kept s.len b (omega arith), h.bytes, take_all kept p (omega arith), take_all kept (p ++ (b ∷ [])) (omega arith))

-- one more byte of a line under way
pub holds_more : (s : Splitter) (p : List ℕ) (b : ℕ) → s.ended ≡ false → Holds s p → Holds (taken s b) (p ++ (b ∷ []))
unfolding taken
holds_more s p b e h =
    let many : s.len ≡ min kept (length p) = h.many in
    let long : length (p ++ (b ∷ [])) ≡ length p + 1 = length-append p (b ∷ []) in
    by_test (ltb s.len kept)
    (λ f.
    let l : s.len < kept = ltb-true s.len kept f in
    rw (e, f) (record { room = length-set s.kept s.len b ∙ h.room; many = omega arith; bytes = holds_room s p b l h }))
    (λ f.
    let l : kept ≤ s.len = ltb-false s.len kept f in
    rw (e, f) (record { room = h.room; many = omega arith; bytes = h.bytes ∙ sym (take-append-le kept p (b ∷ []) (omega arith)) }))
