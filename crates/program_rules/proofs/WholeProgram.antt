-- The programs' caller uses up every chunk, and writes out the records of the text's run and then what the program writes last: chunks and buffers do not matter.
-- Assumes nothing.
use Prim.Native.Nat.{ℕ, zero, suc, ◌+◌, ◌-◌, ◌≤◌, ◌<◌}
use mathlib.Core.Path.{◌≡◌, sym, ap, ◌∙◌, subst}
use mathlib.Core.Bool.{true, false}
use mathlib.Core.List.{List, [], ◌∷◌, ◌++◌, append_assoc, append-nil}
use native.Mathlib.Omega.{arith}
use lib.ListN.{length, take, drop, take-append-drop}
use lib.Seq.{drop-drop}
use borrow.Author.Tests.{le-leb}
use Rattle.laws.specs.Choice.{by_test}
use Rattle.text_rules.specs.Split.{part, joined}
use Rattle.program_rules.specs.declared.Method.{Method}
use Rattle.program_rules.specs.declared.View.{View}
use Rattle.program_rules.specs.OverLines.{written}
use Rattle.program_rules.specs.Work.{started_clerk, viewed, line_room, roomy, work_of}
use Rattle.program_rules.specs.Closing.{closing, program_room}
use Rattle.program_rules.specs.Tellings.{clerk_after}
use Rattle.program_rules.specs.Callers.{Course, starts, works, empties, Calling, calls_on, calls_over, sent_over}
use Rattle.program_rules.specs.Programs.{desks_run}
use Rattle.program_rules.proofs.Parts.{part_all}
use Rattle.program_rules.proofs.Progress.{call_forward, call_used, call_moved, call_left}
use Rattle.program_rules.proofs.AnyCourse.{call_did, course_stands}
use Rattle.program_rules.proofs.Closings.{course_ends, line_room_lem}

-- there is room in an empty buffer that is long enough
roomy_empty : (view : View) (out : List ℕ) → program_room view ≤ length out → roomy out 0 ≡ true
unfolding roomy
roomy_empty view out h = le-leb (0 + line_room) (length out) (omega (arith, line_room_lem view))

-- the bytes up to a place and those from there on
part_rest : (chunk : List ℕ) (from to : ℕ) → from ≤ to → part chunk from to ++ drop to chunk ≡ drop from chunk
part_rest chunk from to h =
    let e : from + (to - from) ≡ to = omega arith in
    ap (λ n. take (to - from) (drop from chunk) ++ drop n chunk) (sym e) ∙ ap (λ l. take (to - from) (drop from chunk) ++ l) (sym (drop-drop (to - from) from chunk)) ∙ take-append-drop (to - from) (drop from chunk)

-- the programs' caller is on a course, with nothing in the buffer and room in it
pub record Called (m : Method) (view : View) (text : List ℕ) (s : Calling) : Type 0 where
  pub course : Course m view text s.sent s.clerk s.out 0
  pub room : program_room view ≤ length s.out

module _ (view : View) (s : Calling) (chunk : List ℕ) (from : ℕ) where
  -- where the caller has come to after one call
  abbrev next : ℕ
  next = (work_of view s.clerk chunk from s.out 0).worked.next

  -- the caller's state after that
  abbrev after : Calling
  after =
      let w = work_of view s.clerk chunk from s.out 0 in
      record { clerk = w.worked.clerk; sent = s.sent ++ take w.worked.at w.out; out = w.out }

  -- one call
  called_once : {m : Method} {text : List ℕ} → Called m view text s → Called m view (text ++ part chunk from next) after
  called_once k =
      let d = call_did view s.clerk chunk from s.out 0 (omega arith) in
      let l = d.long in
      let r = k.room in
      record { course = empties (works k.course chunk from) (work_of view s.clerk chunk from s.out 0).out; room = omega arith }

module _ (view : View) (s : Calling) (chunk : List ℕ) (from : ℕ) {m : Method} {text : List ℕ} (k : Called m view text s) where
  -- a call that is not full is the last, and has used up the chunk
  called_last : (n : ℕ) → (work_of view s.clerk chunk from s.out 0).worked.full ≡ false → Called m view (text ++ drop from chunk) (calls_on (suc n) view s chunk from)
  unfolding calls_on
  called_last n e =
      let f = call_forward view s.clerk chunk from s.out 0 (omega arith) in
      let u = call_used view s.clerk chunk from s.out 0 e in
      rw e (subst (λ p. Called m view (text ++ p) (after view s chunk from)) (part_all chunk from (next view s chunk from) f u) (called_once view s chunk from k))

  -- after a full one come the others
  called_again : (n : ℕ) → (work_of view s.clerk chunk from s.out 0).worked.full ≡ true →
      Called m view ((text ++ part chunk from (next view s chunk from)) ++ drop (next view s chunk from) chunk) (calls_on n view (after view s chunk from) chunk (next view s chunk from)) →
      Called m view (text ++ drop from chunk) (calls_on (suc n) view s chunk from)
  unfolding calls_on
  called_again n e r =
      let f = call_forward view s.clerk chunk from s.out 0 (omega arith) in
      rw e
      (subst (λ p. Called m view p (calls_on n view (after view s chunk from) chunk (next view s chunk from)))
      (append_assoc text (part chunk from (next view s chunk from)) (drop (next view s chunk from) chunk) ∙ ap (λ l. text ++ l) (part_rest chunk from (next view s chunk from) f))
      r)

  -- a full call has moved on, and has left a byte
  called_moved : (work_of view s.clerk chunk from s.out 0).worked.full ≡ true → (from < next view s chunk from) × (next view s chunk from < length chunk)
  called_moved e = (call_moved view s.clerk chunk from s.out 0 (omega arith) (roomy_empty view s.out k.room) e, call_left view s.clerk chunk from s.out 0 e)

-- all calls on a chunk: it is used up
called_on : (n : ℕ) (view : View) (s : Calling) (chunk : List ℕ) (from : ℕ) {m : Method} {text : List ℕ} → length chunk ≤ from + n → Called m view text s →
    Called m view (text ++ drop from chunk) (calls_on (suc n) view s chunk from)
called_on zero view s chunk from h k =
    by_test (work_of view s.clerk chunk from s.out 0).worked.full
    (λ e. let moved = called_moved view s chunk from k e in absurd (omega arith))
    (λ e. called_last view s chunk from k zero e)
called_on (suc n) view s chunk from h k =
    by_test (work_of view s.clerk chunk from s.out 0).worked.full
    (λ e.
    let moved = called_moved view s chunk from k e in
    called_again view s chunk from k (suc n) e (called_on n view (after view s chunk from) chunk (next view s chunk from) (omega arith) (called_once view s chunk from k)))
    (λ e. called_last view s chunk from k (suc n) e)

-- all chunks
called_over : (view : View) (s : Calling) (chunks : List (List ℕ)) {m : Method} {text : List ℕ} → Called m view text s → Called m view (text ++ joined chunks) (calls_over view s chunks)
unfolding calls_over joined
called_over view s [] {m} {text} k = subst (λ t. Called m view t s) (sym (append-nil text)) k
called_over view s (c ∷ cs) {m} {text} k =
    subst (λ t. Called m view t (calls_over view (calls_on (suc (length c)) view s c 0) cs)) (append_assoc text c (joined cs))
    (called_over view (calls_on (suc (length c)) view s c 0) cs (called_on (length c) view s c 0 (omega arith) k))

module _ (m : Method) (view : View) (out : List ℕ) (chunks : List (List ℕ)) (h : program_room view ≤ length out) where
  -- the programs' caller over all chunks
  pub caller_course : Called m view (joined chunks) (calls_over view (record { clerk = started_clerk m; sent = []; out = out }) chunks)
  caller_course = called_over view (record { clerk = started_clerk m; sent = []; out = out }) chunks (record { course = starts out; room = h })

  -- THE WHOLE PROGRAM: however the input is cut into chunks and whatever buffer has room enough, all that is written out is what is written of the run of the text, and then what the program writes last
  pub whole_program : sent_over m view out chunks ≡ written (viewed view) (desks_run m (joined chunks)) ++ closing view (clerk_after (started_clerk m) (joined chunks))
  unfolding sent_over
  whole_program =
      let k = caller_course in
      let r = k.room in
      course_ends k.course (omega arith) ∙ ap (λ c. written (viewed view) (desks_run m (joined chunks)) ++ closing view c) (course_stands k.course).clerk
