-- Cutting a chunk line by line ends in the same state as going byte by byte, and finds the same lines.
-- Assumes nothing.
use Prim.Native.Nat.{ℕ, zero, suc, ◌+◌, ◌-◌, ◌≤◌, ◌<◌}
use mathlib.Core.Path.{◌≡◌, refl, sym, ap, ◌∙◌}
use mathlib.Core.Bool.{false}
use mathlib.Core.List.{List, [], ◌∷◌, ◌++◌}
use native.Mathlib.Omega.{arith}
use borrow.Author.Tests.{ltb-true, ltb-false}
use lib.Dec.{eqb, ltb}
use lib.ListN.{length, take, drop, length-drop, take-append-drop, drop_of_length-le}
use lib.Seq.{drop-drop}
use Rattle.laws.specs.Choice.{by_test}
use Rattle.terms.specs.Words.{newline}
use Rattle.text_rules.specs.declared.splitter.Splitter.{Splitter}
use Rattle.text_rules.specs.Split.{kept, taken, through, used, cut_of, after_all, Found, found_now, found_in, found_over, after_cuts, found_cuts, found_by_cuts}
use Rattle.text_rules.proofs.Cutting.{used_some, used_within}
use Rattle.text_rules.proofs.Chunks.{after_append}

-- a cut goes through the bytes up to the line's end, one after another
pub through_all : (s : Splitter) (t : List ℕ) → through s t ≡ after_all s (take (used t) t)
unfolding through after_all used
through_all s [] = refl
through_all s (b ∷ t) = by_test (eqb b newline) (λ e. simp e) (λ e. simp (e, through_all (taken s b) t))

-- after a byte the line has ended exactly if the byte is a newline
pub taken_ended : (s : Splitter) (b : ℕ) → (taken s b).ended ≡ eqb b newline
unfolding taken
taken_ended s b =
    by_test s.ended (λ e. rw e) (λ e. rw e (by_test (ltb s.len kept) (λ f. rw f) (λ f. rw f)))

-- so a byte that is not a newline ends no line
none_now : (s : Splitter) (b : ℕ) → eqb b newline ≡ false → found_now (taken s b) ≡ []
unfolding found_now
none_now s b e = rw (taken_ended s b, e)

-- within a cut, before its last byte, no line ends
pub none_inside : (s : Splitter) (t : List ℕ) (i : ℕ) → i < used t → found_in s (take i t) ≡ []
unfolding used found_in
none_inside s t zero h = refl
none_inside s [] (suc i) h = refl
none_inside s (b ∷ t) (suc i) h =
    by_test (eqb b newline)
    (λ e. absurd (omega (arith, rw e at h)))
    (λ e. let g : suc i < suc (used t) = rw e at h in rw (none_now s b e) (none_inside (taken s b) t i (omega arith)))

-- nor has the line ended there, once a byte has come
pub open_inside : (s : Splitter) (t : List ℕ) (i : ℕ) → suc i < used t → (after_all s (take (suc i) t)).ended ≡ false
unfolding used after_all
open_inside s [] i h = absurd (omega arith)
open_inside s (b ∷ t) zero h =
    by_test (eqb b newline) (λ e. absurd (omega (arith, rw e at h))) (λ e. taken_ended s b ∙ e)
open_inside s (b ∷ t) (suc i) h =
    by_test (eqb b newline)
    (λ e. absurd (omega (arith, rw e at h)))
    (λ e. let g : suc (suc i) < suc (used t) = rw e at h in open_inside (taken s b) t i (omega arith))

-- going on with the rest of the chunk after a cut leads where the whole chunk leads
pub after_cut : (s : Splitter) (t : List ℕ) → after_all s t ≡ after_all (through s t) (drop (used t) t)
after_cut s t =
    ap (after_all s) (sym (take-append-drop (used t) t))
    ∙ after_append s (take (used t) t) (drop (used t) t)
    ∙ ap (λ (x : Splitter). after_all x (drop (used t) t)) (sym (through_all s t))

-- the lines that end in a chunk are the line that the cut finds, if any, and those that end in the rest
pub found_cut : (s : Splitter) (t : List ℕ) → 0 < length t → found_in s t ≡ found_now (through s t) ++ found_in (through s t) (drop (used t) t)
unfolding found_in through used
found_cut s [] h = absurd (omega arith)
found_cut s (b ∷ []) h = by_test (eqb b newline) (λ e. simp e) (λ e. simp e)
found_cut s (b ∷ c ∷ t) h =
    by_test (eqb b newline)
    (λ e. simp e)
    (λ e. rw e (ap (λ (r : List Found). r ++ found_in (taken s b) (c ∷ t)) (none_now s b e) ∙ found_cut (taken s b) (c ∷ t) (omega arith)))

module _ (s : Splitter) (chunk : List ℕ) (from : ℕ) where
  -- the same for a cut from a place of a chunk
  pub cut_after : after_all s (drop from chunk) ≡ after_all (cut_of s chunk from).splitter (drop (cut_of s chunk from).next chunk)
  unfolding cut_of
  cut_after = after_cut s (drop from chunk) ∙ rw drop-drop

  -- and for the lines that it finds
  pub cut_found : from < length chunk →
      found_in s (drop from chunk) ≡ found_now (cut_of s chunk from).splitter ++ found_in (cut_of s chunk from).splitter (drop (cut_of s chunk from).next chunk)
  unfolding cut_of
  cut_found h = found_cut s (drop from chunk) (omega (arith, length-drop from chunk)) ∙ rw drop-drop

  -- a cut moves forward, and not past the chunk's end
  pub cut_ahead : from < length chunk → (from < (cut_of s chunk from).next) × ((cut_of s chunk from).next ≤ length chunk)
  unfolding cut_of
  cut_ahead h =
      let l : length (drop from chunk) ≡ length chunk - from = length-drop from chunk in
      omega (arith, used_some (drop from chunk) (omega arith), used_within (drop from chunk))

-- if nothing is left of the chunk, the splitter stays as it is
pub after_end : (s : Splitter) (chunk : List ℕ) (from : ℕ) → length chunk ≤ from → after_all s (drop from chunk) ≡ s
unfolding after_all
after_end s chunk from h = rw (drop_of_length-le chunk h)

-- and no line ends
pub found_end : (s : Splitter) (chunk : List ℕ) (from : ℕ) → length chunk ≤ from → found_in s (drop from chunk) ≡ []
unfolding found_in
found_end s chunk from h = rw (drop_of_length-le chunk h)

-- cuts from place to place until nothing is left lead where the bytes lead; one cut for each byte is enough
pub cuts_after : (n : ℕ) (s : Splitter) (chunk : List ℕ) (from : ℕ) → length chunk ≤ from + n → after_cuts n s chunk from ≡ after_all s (drop from chunk)
unfolding after_cuts
cuts_after zero s chunk from h = sym (after_end s chunk from (omega arith))
cuts_after (suc n) s chunk from h =
    by_test (ltb from (length chunk))
    (λ e.
    let p = cut_ahead s chunk from (ltb-true from (length chunk) e) in
    rw e (cuts_after n (cut_of s chunk from).splitter chunk (cut_of s chunk from).next (omega arith) ∙ sym (cut_after s chunk from)))
    (λ e. rw e (sym (after_end s chunk from (ltb-false from (length chunk) e))))

-- and they find exactly the lines that end in the chunk from the place on
pub cuts_find : (n : ℕ) (s : Splitter) (chunk : List ℕ) (from : ℕ) → length chunk ≤ from + n → found_cuts n s chunk from ≡ found_in s (drop from chunk)
unfolding found_cuts
cuts_find zero s chunk from h = sym (found_end s chunk from (omega arith))
cuts_find (suc n) s chunk from h =
    by_test (ltb from (length chunk))
    (λ e.
    let l : from < length chunk = ltb-true from (length chunk) e in
    let p = cut_ahead s chunk from l in
    let q = cuts_find n (cut_of s chunk from).splitter chunk (cut_of s chunk from).next (omega arith) in
    rw e (ap (λ (r : List Found). found_now (cut_of s chunk from).splitter ++ r) q ∙ sym (cut_found s chunk from l)))
    (λ e. rw e (sym (found_end s chunk from (ltb-false from (length chunk) e))))

-- so a caller that cuts every chunk finds what is found byte by byte
pub cuts_do_not_matter : (s : Splitter) (chunks : List (List ℕ)) → found_by_cuts s chunks ≡ found_over s chunks
unfolding found_by_cuts found_over
cuts_do_not_matter s [] = refl
cuts_do_not_matter s (c ∷ cs) =
    rw (cuts_find (length c) s c 0 (omega arith), cuts_after (length c) s c 0 (omega arith))
    (ap (λ (r : List Found). found_in s c ++ r) (cuts_do_not_matter (after_all s c) cs))
