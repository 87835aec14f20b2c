-- The programs write what the papers say of the text, however it is cut into chunks, and may stop reading after line 1,000,000.
-- Assumes nothing.
use Prim.Native.Nat.{ℕ, ◌≤◌}
use mathlib.Core.Path.{◌≡◌, sym, ap, ap₂, ◌∙◌}
use mathlib.Core.Bool.{true}
use mathlib.Core.List.{List, [], ◌++◌}
use lib.ListN.{length}
use Rattle.text_rules.specs.Split.{joined}
use Rattle.program_rules.specs.declared.Method.{Method}
use Rattle.program_rules.specs.declared.Method.TheVariants.{Locks, Stamps}
use Rattle.program_rules.specs.declared.View.{View}
use Rattle.program_rules.specs.declared.View.TheVariants.{Answers, History, Chains}
use Rattle.program_rules.specs.Programs.{answers_of, history_of, chains_of, stamp_answers_of, stamp_history_of, program_of}
use Rattle.program_rules.specs.Work.{started_clerk, all_read}
use Rattle.program_rules.specs.Closing.{program_room}
use Rattle.program_rules.specs.Callers.{calls_over, sent_over}
use Rattle.program_rules.proofs.AnyCourse.{course_stands, seen_splitter}
use Rattle.program_rules.proofs.WholeProgram.{caller_course, whole_program}
use Rattle.program_rules.proofs.EarlyStop.{nothing_after}
use Rattle.program_rules.proofs.ChainsWritten.{program_is, closing_stays}

-- THE PROGRAMS: however the input comes in chunks and whatever buffer has room enough, all that is written out is what the papers say of the text
pub program_writes : (m : Method) (view : View) (out : List ℕ) (chunks : List (List ℕ)) → program_room view ≤ length out → sent_over m view out chunks ≡ program_of m view (joined chunks)
program_writes m view out chunks h = whole_program m view out chunks h ∙ program_is m view (joined chunks)

-- the answering program
pub answers_written : (out : List ℕ) (chunks : List (List ℕ)) → 792 ≤ length out → sent_over Locks Answers out chunks ≡ answers_of (joined chunks)
unfolding program_of
answers_written out chunks h = program_writes Locks Answers out chunks h

-- the history program
pub history_written : (out : List ℕ) (chunks : List (List ℕ)) → 792 ≤ length out → sent_over Locks History out chunks ≡ history_of (joined chunks)
unfolding program_of
history_written out chunks h = program_writes Locks History out chunks h

-- the chain program
pub chains_written : (out : List ℕ) (chunks : List (List ℕ)) → 11_264 ≤ length out → sent_over Locks Chains out chunks ≡ chains_of (joined chunks)
unfolding program_of
chains_written out chunks h = program_writes Locks Chains out chunks h

-- the answering program over timestamps (02, No. 6)
pub stamp_answers_written : (out : List ℕ) (chunks : List (List ℕ)) → 792 ≤ length out → sent_over Stamps Answers out chunks ≡ stamp_answers_of (joined chunks)
unfolding program_of
stamp_answers_written out chunks h = program_writes Stamps Answers out chunks h

-- the history program over timestamps (02, No. 6)
pub stamp_history_written : (out : List ℕ) (chunks : List (List ℕ)) → 792 ≤ length out → sent_over Stamps History out chunks ≡ stamp_history_of (joined chunks)
unfolding program_of
stamp_history_written out chunks h = program_writes Stamps History out chunks h

-- A PROGRAM MAY STOP READING: once the clerk has read every line, what has been written is what the papers say of the text with whatever would follow
pub program_stops : (m : Method) (view : View) (out : List ℕ) (chunks : List (List ℕ)) → program_room view ≤ length out →
    all_read (calls_over view (record { clerk = started_clerk m; sent = []; out = out }) chunks).clerk.splitter ≡ true → (more : List ℕ) → sent_over m view out chunks ≡ program_of m view (joined chunks ++ more)
program_stops m view out chunks h e more =
    let k = caller_course m view out chunks h in
    let r = ap all_read (sym (seen_splitter m (joined chunks) (course_stands k.course).clerk)) ∙ e in
    whole_program m view out chunks h
    ∙ ap₂ (λ a b. a ++ b) (nothing_after m view (joined chunks) more r) (closing_stays m view (joined chunks) more r)
    ∙ program_is m view (joined chunks ++ more)
