-- Where a call of the work ends, and where a chunk and a text end, call after call and chunk after chunk.
-- Assumes nothing.
use Rattle.std.specs.Prelude.{Result, Ok, Err, IsErrAnd}
use Prim.Native.Nat.{ℕ, ◌+◌, ◌-◌, ◌≤◌, ◌<◌}
use mathlib.Core.Path.{◌≡◌, sym, ap, ◌∙◌}
use mathlib.Core.List.{List, [], ◌++◌}
use native.Mathlib.Omega.{arith}
use lib.ListN.{length, take}
use lib.Seq.{take-add, take_all}
use borrow.Author.Tests.{le-leb}
use Rattle.laws.specs.Choice.{by_test}
use Rattle.program_rules.specs.declared.Worked.{Worked}
use Rattle.program_rules.specs.Work.{line_room, roomy, work_of}
use Rattle.text_rules.specs.Split.{part}
use Rattle.program_rules.proofs.Records.{clerk_append, clerk_none}
use Rattle.program_rules.proofs.Progress.{call_used, call_moved}
use Rattle.program_rules.proofs.AnyCourse.{call_did}
use Rattle.desk_io.specs.declared.Front.{Front}
use Rattle.desk_io.specs.declared.Called.{Called}
use Rattle.desk_io.specs.declared.Halt.{Halt}
use Rattle.desk_io.specs.declared.Halt.TheVariants.{NotTaken}
use Rattle.desk_io.specs.Serving.{front_after, Turned, HandsOn, Serves, Saw}

-- a front that has seen some bytes and then others has seen them joined
front_append : (f : Front) (a b : List ℕ) → front_after f (a ++ b) ≡ front_after (front_after f a) b
front_append f a b i = record { view = f.view; clerk = clerk_append f.clerk a b i }

-- after no bytes the front is as it was
pub front_none : (f : Front) → front_after f [] ≡ f
front_none f i = record { view = f.view; clerk = clerk_none f.clerk i }

-- a call from the buffer's first byte, with room for a line and at least one byte to work on
pub call_turned : (f : Front) (chunk : List ℕ) (from : ℕ) (out : List ℕ) {w : Worked} {after : List ℕ} → from < length chunk → line_room ≤ length out →
    w ≡ (work_of f.view f.clerk chunk from out 0).worked → after ≡ (work_of f.view f.clerk chunk from out 0).out →
    Turned f chunk from (record { front = record { view = f.view; clerk = w.clerk }; next = w.next; at = w.at }) after
unfolding roomy
call_turned f chunk from out {w} {after} h l e g =
    let d = call_did f.view f.clerk chunk from out 0 (omega arith) in
    let on : from < (work_of f.view f.clerk chunk from out 0).worked.next =
    by_test (work_of f.view f.clerk chunk from out 0).worked.full (call_moved f.view f.clerk chunk from out 0 (omega arith) (le-leb (0 + line_room) (length out) (omega arith)))
    (λ n. let u = call_used f.view f.clerk chunk from out 0 n in omega arith) in
    rw (e, g) (record { ahead = on; within = d.within; front = λ i. record { view = f.view; clerk = d.clerk i }; records = d.text })

-- the bytes before the place told are what is to be written out
pub handed_on : (c : Called) (out : List ℕ) {bytes : List ℕ} → bytes ≡ take c.at out → HandsOn c out bytes
handed_on c out e f chunk from t = e ∙ t.records

-- the bytes of a chunk up to a place, and then from there to another
up_to : (chunk : List ℕ) (from to : ℕ) → from ≤ to → take from chunk ++ part chunk from to ≡ take to chunk
up_to chunk from to h = let e : from + (to - from) ≡ to = omega arith in sym (take-add from (to - from) chunk) ∙ ap (λ n. take n chunk) e

-- a front that has seen a chunk up to a place has, after a call, seen it up to the place told
pub seen_more : (f : Front) {k : Front} {chunk out : List ℕ} {from : ℕ} {c : Called} → k ≡ front_after f (take from chunk) → Turned k chunk from c out → c.front ≡ front_after f (take c.next chunk)
seen_more f {chunk = chunk} {from = from} {c = c} e t =
    let h = t.ahead in
    t.front ∙ ap (λ (x : Front). front_after x (part chunk from c.next)) e ∙ sym (front_append f (take from chunk) (part chunk from c.next)) ∙ ap (front_after f) (up_to chunk from c.next (omega arith))

-- if output is not taken, the work ends there
pub serves_some : {f k : Front} {chunk : List ℕ} (from : ℕ) (r : Result (Unit {0}) Halt) {h : Halt} → k ≡ front_after f (take from chunk) → IsErrAnd r (λ x. x ≡ h) → h ≡ NotTaken → Serves f chunk k r
serves_some from (Ok u) e i w = absurd i
serves_some from (Err x) e i w = record { seen = from; some = e; all = λ t. absurd (cc); why = i ∙ w }

-- at the chunk's end the front has seen it all
pub serves_all : {f k : Front} {chunk : List ℕ} (from : ℕ) → k ≡ front_after f (take from chunk) → length chunk ≤ from → Serves f chunk k (Ok tt)
serves_all {f} {chunk = chunk} from e h = record { seen = from; some = e; all = λ t. e ∙ ap (front_after f) (take_all from chunk h); why = tt }

-- a front that has seen a text and then bytes has seen the text with them
saw_on : {first f k : Front} (s : Saw first f) (bytes : List ℕ) → k ≡ front_after f bytes → Saw first k
saw_on {first} s bytes e = record { text = s.text ++ bytes; front = e ∙ ap (λ (x : Front). front_after x bytes) s.front ∙ sym (front_append first s.text bytes) }

-- at first the front has seen nothing
pub saw_none : {f : Front} → Saw f f
saw_none {f} = record { text = []; front = sym (front_none f) }

-- the same, if the first front goes by another name
pub saw_since : {a b f : Front} → a ≡ b → Saw a f → Saw b f
saw_since e s = record { text = s.text; front = s.front ∙ ap (λ (x : Front). front_after x s.text) e }

-- a front that has seen a text, and then another, has seen both
pub saw_then : {a b f : Front} → Saw a b → Saw b f → Saw a f
saw_then s t = saw_on s t.text t.front

-- after a chunk the front has seen that chunk, all of it or as far as output was taken
pub saw_part : {f k : Front} {chunk : List ℕ} {r : Result (Unit {0}) Halt} → Serves f chunk k r → Saw f k
saw_part {chunk = chunk} t = record { text = take t.seen chunk; front = t.some }
