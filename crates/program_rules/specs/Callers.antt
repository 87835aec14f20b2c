-- The callers of the clerk, and what they have written out in all: any course of calls, and the one that the programs take (01, Lines).
use Rattle.std.specs.Prelude.{ℕ, zero, suc, ◌≤◌, ◌≡◌, List, [], ◌∷◌, ◌++◌, length, take}
use Rattle.laws.specs.Choice.{pick}
use Rattle.text_rules.specs.Split.{part}
use Rattle.program_rules.specs.declared.Clerk.{Clerk}
use Rattle.program_rules.specs.declared.Method.{Method}
use Rattle.program_rules.specs.declared.View.{View}
use Rattle.program_rules.specs.Work.{started_clerk, work_of}
use Rattle.program_rules.specs.Closing.{end_of}
use Rattle.program_rules.specs.Tellings.{clerk_after, records_in}

-- any course of calls: the bytes worked on, the bytes written out, the clerk, the buffer, and the place after its last record
pub data Course (m : Method) (view : View) : List ℕ → List ℕ → Clerk → List ℕ → ℕ → Type 0 where
  -- a caller starts with any buffer
  starts : (out : List ℕ) → Course m view [] [] (started_clerk m) out 0
  -- the caller may call the work on any chunk, from any place
  works : {text sent : List ℕ} {c : Clerk} {out : List ℕ} {at : ℕ} → Course m view text sent c out at → (chunk : List ℕ) (from : ℕ) →
      Course m view (text ++ part chunk from (work_of view c chunk from out at).worked.next) sent
      (work_of view c chunk from out at).worked.clerk
      (work_of view c chunk from out at).out
      (work_of view c chunk from out at).worked.at
  -- at any time the caller may write out what stands in the buffer, and go on with any buffer
  empties : {text sent : List ℕ} {c : Clerk} {out : List ℕ} {at : ℕ} → Course m view text sent c out at → (next : List ℕ) → Course m view text (sent ++ take at out) c next 0

-- how far a course has come: the clerk has seen all bytes; the bytes written out and those in the buffer are the records of the lines that have ended
pub record Standing (m : Method) (view : View) (text sent : List ℕ) (c : Clerk) (out : List ℕ) (at : ℕ) : Type 0 where
  pub clerk : c ≡ clerk_after (started_clerk m) text
  pub said : sent ++ take at out ≡ records_in view (started_clerk m) text
  pub within : at ≤ length out

-- the programs' caller between two calls: the clerk, what has been written out, and the buffer
pub record Calling : Type 0 where
  pub clerk : Clerk
  pub sent : List ℕ
  pub out : List ℕ

-- works on a chunk from a place on, writes out the buffer, and calls again if there was no room; at most n calls
unfoldable pub calls_on : ℕ → View → Calling → List ℕ → ℕ → Calling
calls_on zero view s chunk from = s
calls_on (suc n) view s chunk from =
    let w = work_of view s.clerk chunk from s.out 0 in
    let t : Calling = record { clerk = w.worked.clerk; sent = s.sent ++ take w.worked.at w.out; out = w.out } in
    let rest = calls_on n view t chunk w.worked.next in
    pick w.worked.full rest t

-- chunk after chunk; each call but the last takes at least one byte, so calls exceed bytes by at most one
unfoldable pub calls_over : View → Calling → List (List ℕ) → Calling
calls_over view s [] = s
calls_over view s (c ∷ cs) = calls_over view (calls_on (suc (length c)) view s c 0) cs

-- all that the caller has written out when the input has ended, for these chunks and this buffer
unfoldable pub sent_over : Method → View → List ℕ → List (List ℕ) → List ℕ
sent_over m view out chunks =
    let s = calls_over view (record { clerk = started_clerk m; sent = []; out = out }) chunks in
    let e = end_of view s.clerk s.out 0 in
    s.sent ++ take e.finished.at e.out
