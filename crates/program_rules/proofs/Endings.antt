-- What is still to be written when no more is read: together with the records of the lines that have ended, it is all that the program writes for the text.
-- Assumes nothing.
use Prim.Native.Nat.{ℕ, ◌≤◌}
use mathlib.Core.Path.{◌≡◌, sym, ap, ap₂, ◌∙◌}
use mathlib.Core.Bool.{true}
use mathlib.Core.List.{List, ◌++◌, append_assoc}
use native.Mathlib.Omega.{arith}
use lib.ListN.{length, take}
use Rattle.program_rules.specs.declared.Clerk.{Clerk}
use Rattle.program_rules.specs.declared.Method.{Method}
use Rattle.program_rules.specs.declared.View.{View}
use Rattle.program_rules.specs.Programs.{program_of}
use Rattle.program_rules.specs.Work.{started_clerk, all_read}
use Rattle.program_rules.specs.Closing.{closing, closing_room, program_room, close_of, end_of}
use Rattle.program_rules.specs.Tellings.{clerk_after, records_in}
use Rattle.program_rules.proofs.AnyCourse.{owed, last_records, seen_splitter}
use Rattle.program_rules.proofs.EarlyStop.{more_written}
use Rattle.program_rules.proofs.Closings.{close_take, ends_take}
use Rattle.program_rules.proofs.ChainsWritten.{program_is, closing_stays}

module _ (m : Method) (view : View) (c : Clerk) (text : List ℕ) (e : c ≡ clerk_after (started_clerk m) text) where
  -- of a text that the clerk has seen: the records of the lines that have ended, that of a last line that lacks its newline, and what is written last
  all_parts : (records_in view (started_clerk m) text ++ owed view c.splitter) ++ closing view c ≡ program_of m view text
  all_parts =
      ap₂ (λ l x. l ++ closing view x) (ap (λ s. records_in view (started_clerk m) text ++ owed view s) (seen_splitter m text e) ∙ last_records m view text) e ∙ program_is m view text

  module _ (out : List ℕ) where
    -- the input has ended: what the end puts into the buffer makes it all
    pub ended_all : program_room view ≤ length out → records_in view (started_clerk m) text ++ take (end_of view c out 0).finished.at (end_of view c out 0).out ≡ program_of m view text
    ended_all h =
        ap (λ l. records_in view (started_clerk m) text ++ l) (ends_take view c out 0 (omega arith))
        ∙ sym (append_assoc (records_in view (started_clerk m) text) (owed view c.splitter) (closing view c))
        ∙ all_parts

    -- every line has been read: what is written last makes it all, whatever would follow
    pub closed_all : closing_room view ≤ length out → all_read c.splitter ≡ true → (more : List ℕ) →
        records_in view (started_clerk m) text ++ take (close_of view c out 0).finished.at (close_of view c out 0).out ≡ program_of m view (text ++ more)
    closed_all h r more =
        let s = ap all_read (sym (seen_splitter m text e)) ∙ r in
        ap (λ l. records_in view (started_clerk m) text ++ l) (close_take view c out 0 (omega arith))
        ∙ ap₂ (λ a b. a ++ b) (more_written m view text more s) (ap (closing view) e ∙ closing_stays m view text more s)
        ∙ program_is m view (text ++ more)
