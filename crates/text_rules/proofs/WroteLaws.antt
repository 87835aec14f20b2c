-- What field writers write, one after another, into the later parts that a buffer lends them.
-- Assumes nothing.
use Prim.Native.Nat.{ℕ, suc, ◌+◌, ◌-◌, ◌≤◌, ◌<◌}
use mathlib.Core.Path.{◌≡◌, sym, ap, subst, ◌∙◌}
use mathlib.Core.List.{List, [], ◌∷◌, ◌++◌, append_assoc, append-nil}
use native.Mathlib.Numerals.{add-one}
use native.Mathlib.Omega.{arith}
use borrow.Rule.Slice.PartMut.{mid_of, put_mid, post_of, Post-is}
use borrow.Author.Rules.{part_to_end}
use lib.ListN.{length, take, drop, set, get_or, length-append, length-drop, take-append-drop}
use lib.Seq.{take_at, drop_at, set_at, drop-cons, drop-drop, drop-length, length-take-le}
use Rattle.text_rules.specs.Wrote.{Wrote}

-- before anything is written
pub wrote_none : {at : ℕ} {b : List ℕ} → at ≤ length b → Wrote at at [] b b
wrote_none {at} {b} h = record { ends = omega arith; within = h; holds = sym (ap (λ l. l ++ drop at b) (append-nil (take at b)) ∙ take-append-drop at b) }

-- the same bytes under another name
pub wrote_as : {at a : ℕ} {bs cs b m : List ℕ} → Wrote at a bs b m → bs ≡ cs → Wrote at a cs b m
wrote_as {at} {a} {bs} {cs} {b} {m} w e = subst (λ l. Wrote at a l b m) e w

-- the list before the place reached has as many bytes as that place says
before_length : {at a : ℕ} {bs b m : List ℕ} → Wrote at a bs b m → length (take at b ++ bs) ≡ a
before_length {at} {a} {bs} {b} w =
    let e = w.ends in
    let h = w.within in
    length-append (take at b) bs ∙ ap (λ k. k + length bs) (length-take-le at b (omega arith)) ∙ sym w.ends

-- before the place given, every byte is as it was
pub wrote_before : {at a : ℕ} {bs b m : List ℕ} → Wrote at a bs b m → take at m ≡ take at b
wrote_before {at} {a} {bs} {b} w =
    let e = w.ends in
    let h = w.within in
    ap (take at) (w.holds ∙ append_assoc (take at b) bs (drop a b)) ∙ take_at (take at b) (bs ++ drop a b) at (length-take-le at b (omega arith))

-- before the place reached stand the bytes that were written, after what stood before them
pub wrote_take : {at a : ℕ} {bs b m : List ℕ} → Wrote at a bs b m → take a m ≡ take at b ++ bs
wrote_take {at} {a} {bs} {b} w = ap (λ l. take a l) w.holds ∙ take_at (take at b ++ bs) (drop a b) a (before_length w)

-- from the place reached, every byte is as it was
pub wrote_drop : {at a : ℕ} {bs b m : List ℕ} → Wrote at a bs b m → drop a m ≡ drop a b
wrote_drop {at} {a} {bs} {b} w = ap (λ l. drop a l) w.holds ∙ drop_at (take at b ++ bs) (drop a b) a (before_length w)

-- the list is as long as before
pub wrote_length : {at a : ℕ} {bs b m : List ℕ} → Wrote at a bs b m → length m ≡ length b
wrote_length {at} {a} {bs} {b} w =
    ap length w.holds
    ∙ length-append (take at b ++ bs) (drop a b)
    ∙ (let h = w.within in rw (before_length w, length-drop a b) (omega arith))

-- one more byte, at the place reached
pub wrote_byte : {at a : ℕ} {bs b m : List ℕ} (x : ℕ) → Wrote at a bs b m → a < length b → Wrote at (a + 1) (bs ++ x ∷ []) b (set m a x)
wrote_byte {at} {a} {bs} {b} {m} x w h =
    let e = w.ends in
    record {
      ends = rw length-append (omega arith);
      within = omega arith;
      holds =
          ap (λ l. set l a x) (w.holds ∙ ap (λ l. take at b ++ bs ++ l) (drop-cons b a 0 h))
          ∙ set_at (take at b ++ bs) (get_or b a 0) (drop (suc a) b) x a (before_length w)
          ∙ rw add-one (simp append_assoc);
    }

-- bytes written after others, from the place reached: all of them were written from the first place
pub wrote_then : {at a c : ℕ} {bs cs b m p : List ℕ} → Wrote at a bs b m → Wrote a c cs m p → Wrote at c (bs ++ cs) b p
wrote_then {at} {a} {c} {bs} {cs} {b} {m} {p} w v =
    let e = w.ends in
    let f = v.ends in
    let n = wrote_length w in
    record {
      ends = rw length-append (omega arith);
      within = omega (arith, v.within);
      holds = v.holds ∙ rw (wrote_take w, f, ← drop-drop (length cs) a m, wrote_drop w, drop-drop) (simp append_assoc);
    }

-- the part that is lent from the place reached
lent_part : {at a : ℕ} {bs b m : List ℕ} → Wrote at a bs b m → mid_of a (length m - a) m ≡ drop a b
lent_part {at} {a} {bs} {b} {m} w = part_to_end m a ∙ wrote_drop w

-- how many bytes that part has
lent_room : {at a : ℕ} {bs b m : List ℕ} → Wrote at a bs b m → length (mid_of a (length m - a) m) ≡ length b - a
lent_room {at} {a} {bs} {b} {m} w = ap length (lent_part w) ∙ length-drop a b

-- bytes fit into that part exactly if they fit into the whole from there
pub lent_fits : {at a k : ℕ} {bs b m : List ℕ} → Wrote at a bs b m → a + k ≤ length b → k ≤ length (mid_of a (length m - a) m)
lent_fits {at} {a} {k} {bs} {b} {m} w h = let n = lent_room w in omega arith

-- nothing lies after that part
lent_rest : {at a : ℕ} {bs b m : List ℕ} → Wrote at a bs b m → post_of a (length m - a) m ≡ []
lent_rest {at} {a} {bs} {b} {m} w =
    let h = w.within in
    let n = wrote_length w in
    Post-is a (length m) m (omega arith) ∙ drop-length m

-- one more field, by a writer that was lent the part from the place reached
pub wrote_more : {at a s : ℕ} {bs cs b m p : List ℕ} → Wrote at a bs b m → Wrote 0 s cs (mid_of a (length m - a) m) p →
    Wrote at (a + s) (bs ++ cs) b (put_mid a (length m - a) m p)
wrote_more {at} {a} {s} {bs} {cs} {b} {m} {p} w v =
    let e = w.ends in
    let h = w.within in
    let f = v.ends in
    let g = v.within in
    let n = lent_room w in
    record {
      ends = rw length-append (omega arith);
      within = omega arith;
      holds = rw (wrote_take w, lent_rest w) (rw (append-nil, v.holds, lent_part w, drop-drop) (simp append_assoc));
    }
