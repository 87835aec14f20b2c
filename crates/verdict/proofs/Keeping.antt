-- What is kept of chunks that come one after the other: a chunk is kept byte by byte, after what was kept before; and the line on all of them.
-- Assumes nothing.
use Prim.Native.Nat.{ℕ, ◌+◌, ◌-◌, ◌≤◌, ◌<◌, min}
use mathlib.Core.Path.{◌≡◌, sym, ap, ap₂, ◌∙◌}
use mathlib.Core.List.{List, [], ◌++◌}
use native.Mathlib.Nat.{zero-add}
use native.Mathlib.Omega.{arith}
use lib.ListN.{length, take, drop, length-append}
use lib.Dec.{leb}
use borrow.Author.Tests.{leb-true, leb-false}
use lib.Seq.{take_all, paste, paste-zero, take-paste, drop-paste, length-paste, take-length, take-append-add, drop-drop}
use Rattle.laws.specs.Choice.{by_test}
use Rattle.terms.specs.Limits.{judged_bytes}
use Rattle.judge_rules.specs.VerdictLine.{verdict_of}
use Rattle.judge_line.proofs.LongTexts.{first_bytes}
use Rattle.verdict.specs.Taking.{fitting, kept, Took, Judges}

-- putting bytes at a buffer's start and then others after them puts all of them there
paste_on : (d r s : List ℕ) (k : ℕ) → length r + k ≤ length d → paste (paste d 0 r (length r)) (length r) s k ≡ paste d 0 (r ++ s) (length r + k)
paste_on d r s k h = ap₂ (λ a b. a ++ take k s ++ b) front rest ∙ sym (ap₂ (λ a b. a ++ b) (take-append-add r s k) (ap (λ n. drop n d) (zero-add (length r + k))))
  where
    n : ℕ
    n = length r

    x : List ℕ
    x = paste d 0 r n

    front : take n x ≡ r
    front = ap (λ m. take m x) (sym (zero-add n)) ∙ take-paste d 0 r n (omega arith) (omega arith) ∙ take-length r

    back : drop n x ≡ drop n d
    back = ap (λ m. drop m x) (sym (zero-add n)) ∙ drop-paste d 0 r n (omega arith) (omega arith) ∙ ap (λ m. drop m d) (zero-add n)

    rest : drop (n + k) x ≡ drop (n + k) d
    rest = sym (drop-drop k n x) ∙ ap (drop k) back ∙ drop-drop k n d

-- nothing was read
pub took_none : (buffer : List ℕ) → Took buffer buffer 0
unfolding fitting kept
took_none buffer = let e : 0 ≡ fitting buffer 0 [] = omega arith in record { read = []; count = e; holds = paste-zero buffer 0 [] ∙ ap (paste buffer 0 []) e }

-- what is kept lies within the buffer
pub took_within : {buffer after : List ℕ} {len : ℕ} → Took buffer after len → len ≤ length buffer
unfolding fitting
took_within t = let c = t.count in omega arith

-- one more chunk, if there was room left
pub took_more : {buffer text : List ℕ} {len : ℕ} → Took buffer text len → len < length text → (chunk : List ℕ) {after : List ℕ} {to : ℕ} → length text ≡ length buffer →
    to ≡ len + fitting text len chunk → after ≡ kept text len chunk → Took buffer after to
unfolding fitting kept
took_more {buffer} {text} {len} t h chunk {after} {to} l e f =
    let c = t.count in
    let j = length-append t.read chunk in
    let n : len ≡ length t.read = omega arith in
    let k = fitting text len chunk in
    let count : to ≡ fitting buffer 0 (t.read ++ chunk) = omega arith in
    let p : text ≡ paste buffer 0 t.read (length t.read) = t.holds ∙ ap (paste buffer 0 t.read) (sym c ∙ n) in
    let q : length t.read + k ≡ fitting buffer 0 (t.read ++ chunk) = omega arith in
    record {
      read = t.read ++ chunk;
      count = count;
      holds = f ∙ ap₂ (λ x m. paste x m chunk k) p n ∙ paste_on buffer t.read chunk k (omega arith) ∙ ap (paste buffer 0 (t.read ++ chunk)) q;
    }

-- the first bytes of what was read are at the buffer's start
took_first : {buffer text : List ℕ} {len : ℕ} (t : Took buffer text len) → take len text ≡ take (length buffer) t.read
unfolding fitting kept
took_first {buffer} {text} {len} t =
    let c = t.count in
    let h = t.holds ∙ ap (paste buffer 0 t.read) (sym c) in
    ap₂ take (sym (zero-add len)) h ∙ take-paste buffer 0 t.read len (omega arith) (omega arith) ∙ take_most c
  where
    take_most : len ≡ min (length buffer - 0) (length t.read) → take len t.read ≡ take (length buffer) t.read
    take_most c =
        by_test (leb (length t.read) (length buffer))
        (λ y. let l = leb-true (length t.read) (length buffer) y in take_all len t.read (omega arith) ∙ sym (take_all (length buffer) t.read l))
        (λ n. let l = leb-false (length t.read) (length buffer) n in let e : len ≡ length buffer = omega arith in ap (λ m. take m t.read) e)

-- the buffer has as many bytes as before
took_length : {buffer text : List ℕ} {len : ℕ} → Took buffer text len → length buffer ≡ length text
unfolding fitting kept
took_length {buffer} t = sym (ap length t.holds ∙ length-paste buffer 0 t.read (fitting buffer 0 t.read) (omega arith) (omega arith))

-- the line on what a buffer of 65,537 bytes holds is the line on all that was read
pub took_judged : {text bytes : List ℕ} {len : ℕ} → length text ≡ judged_bytes + 1 → bytes ≡ verdict_of (take len text) → Judges text len bytes
took_judged {text} {len = len} l e buffer t = e ∙ ap verdict_of (took_first t ∙ ap (λ n. take n t.read) (took_length t ∙ l)) ∙ first_bytes t.read
