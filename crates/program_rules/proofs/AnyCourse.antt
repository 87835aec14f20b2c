-- Whatever chunks and buffers a caller uses, and whenever it writes them out, it has written out the records of the run.
-- Assumes nothing.
use Prim.Native.Nat.{ℕ, ◌≤◌}
use mathlib.Core.Path.{◌≡◌, refl, sym, ap, ap₂, ◌∙◌}
use mathlib.Core.Bool.{Bool, true, false}
use mathlib.Core.List.{List, [], ◌∷◌, ◌++◌, append_assoc, append-nil}
use native.Mathlib.Omega.{arith}
use lib.ListN.{length, take}
use Rattle.laws.specs.Choice.{pick, by_test}
use Rattle.text_rules.specs.declared.splitter.Splitter.{Splitter}
use Rattle.text_rules.specs.Split.{part, following, fresh, lines_of, joined, after_all, found_in, found_last, found_over, numbered_on}
use Rattle.text_rules.proofs.Found.{finds_all}
use Rattle.text_rules.proofs.TextLines.{lines_one}
use Rattle.program_rules.specs.declared.Clerk.{Clerk}
use Rattle.program_rules.specs.declared.Method.{Method}
use Rattle.program_rules.specs.declared.View.{View}
use Rattle.program_rules.specs.OverLines.{Told, written}
use Rattle.program_rules.specs.Desks.{new_desks, on_desks}
use Rattle.program_rules.specs.Programs.{first_number, desks_run}
use Rattle.program_rules.specs.Work.{started_clerk, viewed, roomy, unended, owing, work_of, finish_of}
use Rattle.program_rules.specs.Callers.{Course, starts, works, empties, Standing}
use Rattle.program_rules.specs.Tellings.{tellings, desk_after, clerk_after, records_in}
use Rattle.program_rules.proofs.Tellings.{tellings_append, tellings_run}
use Rattle.program_rules.proofs.Records.{written_append, clerk_append, records_append, clerk_none, records_none}
use Rattle.program_rules.proofs.OneCall.{Did, called, put_take}
use Rattle.program_rules.proofs.LastLine.{open_always, last_told}

-- one call, whatever the chunk and the place
pub call_did : (view : View) (c : Clerk) (chunk : List ℕ) (from : ℕ) (out : List ℕ) (at : ℕ) → at ≤ length out →
    Did view c (part chunk from (work_of view c chunk from out at).worked.next) out at (work_of view c chunk from out at).worked.clerk (work_of view c chunk from out at).out (work_of view c chunk from out at).worked.at
unfolding work_of
call_did view c chunk from out at h = (called (length chunk) view c chunk from out at h).did

-- a call brings a course on
did_stands : {m : Method} {view : View} {text sent p out then : List ℕ} {c d : Clerk} {at to : ℕ} → Standing m view text sent c out at → Did view c p out at d then to → Standing m view (text ++ p) sent d then to
did_stands {m} {view} {text} {sent} {p} {out} {c = c} {at = at} s d =
    record {
      clerk = d.clerk ∙ ap (λ x. clerk_after x p) s.clerk ∙ sym (clerk_append (started_clerk m) text p);
      said =
          ap (λ l. sent ++ l) d.text
          ∙ sym (append_assoc sent (take at out) (records_in view c p))
          ∙ ap₂ (λ l x. l ++ records_in view x p) s.said s.clerk
          ∙ sym (records_append view (started_clerk m) text p);
      within = d.within;
    }

-- writing out does too
empty_stands : {m : Method} {view : View} {text sent out : List ℕ} {c : Clerk} {at : ℕ} → Standing m view text sent c out at → (next : List ℕ) → Standing m view text (sent ++ take at out) c next 0
empty_stands {sent = sent} {out} {at = at} s next = record { clerk = s.clerk; said = append-nil (sent ++ take at out) ∙ s.said; within = omega arith }

-- EVERY COURSE: what has been written out and what still stands in the buffer are the records of the lines that have ended, and the clerk has seen all bytes
pub course_stands : {m : Method} {view : View} {text sent : List ℕ} {c : Clerk} {out : List ℕ} {at : ℕ} → Course m view text sent c out at → Standing m view text sent c out at
course_stands {m} {view} (starts out) = record { clerk = sym (clerk_none (started_clerk m)); said = sym (records_none view (started_clerk m)); within = omega arith }
course_stands {m} {view} (works {c = c} {out = out} {at = at} k chunk from) = did_stands (course_stands k) (call_did view c chunk from out at (course_stands k).within)
course_stands (empties k next) = empty_stands (course_stands k) next

-- the lines that are found in a text and at its end are those of the text as one chunk
pub one_chunk : (text : List ℕ) → found_in fresh text ++ found_last (after_all fresh text) ≡ numbered_on 1 (lines_of text)
unfolding found_over joined following
one_chunk text = finds_all (text ∷ []) ∙ ap (λ t. numbered_on 1 (lines_of t)) (append-nil text)

-- told one after another they are the run
text_told : (m : Method) (text : List ℕ) → tellings on_desks (new_desks m first_number) (found_in fresh text ++ found_last (after_all fresh text)) ≡ desks_run m text
unfolding desks_run
text_told m text = ap (tellings on_desks (new_desks m first_number)) (one_chunk text) ∙ tellings_run on_desks (new_desks m first_number) 1 (lines_of text) (lines_one text)

-- what is written of a line that is owed, or of none
owed_written : (v : Told → List ℕ) (b : Bool) (t : Told) → written v (pick b (t ∷ []) []) ≡ pick b (v t) []
unfolding written
owed_written v true t = append-nil (v t)
owed_written v false t = refl

-- the record of a line under way that is to be answered although it lacks its newline, if there is one
abbrev pub owed : View → Splitter → List ℕ
owed view s = pick (owing s) (viewed view (unended s)) []

-- what the end of the input adds
pub last_records : (m : Method) (view : View) (text : List ℕ) → records_in view (started_clerk m) text ++ owed view (after_all fresh text) ≡ written (viewed view) (desks_run m text)
unfolding records_in started_clerk
last_records m view text =
    let d = new_desks m first_number in
    let fs = found_in fresh text in
    let s = after_all fresh text in
    ap (λ l. written (viewed view) (tellings on_desks d fs) ++ l)
    (sym (ap (written (viewed view)) (last_told on_desks (desk_after on_desks d fs) s (open_always text)) ∙ owed_written (viewed view) (owing s) (unended s)))
    ∙ sym (written_append (viewed view) (tellings on_desks d fs) (tellings on_desks (desk_after on_desks d fs) (found_last s)))
    ∙ ap (written (viewed view)) (sym (tellings_append on_desks d fs (found_last s)) ∙ text_told m text)

-- the splitter of a clerk that has seen the text
pub seen_splitter : (m : Method) {c : Clerk} (text : List ℕ) → c ≡ clerk_after (started_clerk m) text → c.splitter ≡ after_all fresh text
unfolding clerk_after started_clerk
seen_splitter m text e = ap (λ x. x.splitter) e

-- the end of the input: its record stands behind the others
pub finish_take : (view : View) (c : Clerk) (out : List ℕ) (at : ℕ) → at ≤ length out → roomy out at ≡ true →
    take (finish_of view c out at).finished.at (finish_of view c out at).out ≡ take at out ++ owed view c.splitter
unfolding finish_of
finish_take view c out at h g =
    by_test (owing c.splitter) (λ e. rw (e, g) (put_take out at (viewed view (unended c.splitter)) h)) (λ e. rw e (sym (append-nil (take at out))))

-- EVERY COURSE TO ITS END: all that has been written out, with what stands in the buffer once the input has ended, is what is written of the run of the text
pub course_finishes : {m : Method} {view : View} {text sent : List ℕ} {c : Clerk} {out : List ℕ} {at : ℕ} → Course m view text sent c out at → roomy out at ≡ true →
    sent ++ take (finish_of view c out at).finished.at (finish_of view c out at).out ≡ written (viewed view) (desks_run m text)
course_finishes {m} {view} {text} {sent} {c} {out} {at} k g =
    let s = course_stands k in
    ap (λ l. sent ++ l) (finish_take view c out at s.within g)
    ∙ sym (append_assoc sent (take at out) (owed view c.splitter))
    ∙ ap₂ (λ l x. l ++ owed view x) s.said (seen_splitter m text s.clerk)
    ∙ last_records m view text
