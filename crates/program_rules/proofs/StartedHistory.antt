-- The history written is that of a started desk, so all that is proved of started desks and their histories holds of it.
-- Assumes nothing.
use Prim.Native.Nat.{ℕ, ◌+◌, ◌≤◌}
use mathlib.Core.Path.{◌≡◌, refl, sym, ap, ◌∙◌, subst}
use mathlib.Core.Bool.{true}
use mathlib.Core.List.{List, [], ◌∷◌, ◌++◌, append_assoc, append-nil}
use native.Mathlib.Omega.{arith}
use lib.Dec.{ltb}
use lib.ListN.{length, length-append}
use Rattle.std.specs.Prelude.{Err, Ok}
use Rattle.laws.specs.Choice.{by_test}
use Rattle.terms.specs.Letters.{byte_of, of_requests}
use Rattle.terms.specs.Limits.{request_lines}
use Rattle.conflict.specs.History.{History, line_of}
use Rattle.text_rules.specs.Lines.{read_line, Reading}
use Rattle.text_rules.specs.Split.{lines_of}
use Rattle.terms.specs.declared.refusals.Field.{Field}
use Rattle.terms.specs.declared.refusals.Refusal.TheVariants.{BadLine}
use Rattle.desks.specs.declared.Answer.TheVariants.{No}
use Rattle.desk_rules.specs.Desk.{Desk, fresh_desk}
use Rattle.desks.specs.Request.{Request}
use Rattle.desks.specs.Stepping.{Stepping}
use Rattle.desks.specs.Records.{own_records, wake_records, records_of, records_by}
use Rattle.desks.specs.Started.{StartedOn, fresh, after}
use Rattle.desk_rules.specs.Step.{Started, step}
use Rattle.desks.specs.Requests.{number_in, given_by}
use Rattle.desks.specs.Numbers.{Gives, none_given, one_given}
use Rattle.desk_rules.proofs.Numbers.{step_gives}
use Rattle.desk_rules.proofs.NoEventAfterEnd.{started_over}
use Rattle.program_rules.specs.OverLines.{Told, no_request, answered, line_by, run_of}
use Rattle.program_rules.specs.Chains.{desk_over}
use Rattle.program_rules.specs.Programs.{first_number, run_on, desk_on}
use Rattle.program_rules.specs.Shown.{history_of_run, given_in, history_on}

-- the history records of what is told
abbrev pub recorded : Told → History
recorded t = records_of t.request t.said t.wakes

-- a bad line has none
pub bad_records : (at : Field) → records_of no_request (No (BadLine at)) [] ≡ []
unfolding records_of own_records wake_records
bad_records at = refl

-- one line, on any desk: a bad one changes nothing, and a good one is a step
pub line_started : {S : Type 0} {does : Stepping S} {new : ℕ → S} {d : S} {h : History} → StartedOn does new d h → (n : ℕ) (r : Reading) → StartedOn does new (answered does d n r).desk (h ++ recorded (answered does d n r).told)
unfolding answered records_by
line_started {does = does} {new} {d} {h} s n (Err at) = subst (StartedOn does new d) (sym (append-nil h) ∙ ap (λ k. h ++ k) (sym (bad_records at))) s
line_started s n (Ok line) = after s (record { kind = byte_of line.letter; job = line.job; cell = line.cell })

-- all lines, on any desk: the desk after them is started, and has written what the run shows
pub run_started : {S : Type 0} {does : Stepping S} {new : ℕ → S} {d : S} {h : History} → StartedOn does new d h → (n : ℕ) (ls : List (List ℕ)) → StartedOn does new (desk_over does d n ls) (h ++ history_of_run (run_of does d n ls))
unfolding run_of desk_over line_by history_of_run
run_started {does = does} {new} {d} {h} s n [] = subst (StartedOn does new d) (sym (append-nil h)) s
run_started {S = S} {does = does} {new} {d} {h} s n (l ∷ ls) =
    let o = answered does d n (read_line of_requests l) in
    by_test (ltb request_lines n) (λ e. rw e (subst (StartedOn does new d) (sym (append-nil h)) s))
    (λ e. rw e (subst (StartedOn does new (desk_over does o.desk (n + 1) ls)) (append_assoc h (recorded o.told) (history_of_run (run_of does o.desk (n + 1) ls))) (run_started {d = o.desk} {h = h ++ recorded o.told} (line_started s n (read_line of_requests l)) (n + 1) ls)))

module _ {S : Type 0} (step : Stepping S) (next : S → ℕ) (each : (d : S) (r : Request) → Gives (next d) (given_by r (step d r).said) (next (step d r).desk)) where
  -- the next number grows by the numbers that a line gives, on any desk whose steps give the next number or none
  line_next : (d : S) (n : ℕ) (r : Reading) → let t = (answered step d n r).told in (next (answered step d n r).desk ≡ next d + length (given_by t.request t.said))
  unfolding answered
  line_next d n (Err at) = unfold given_by number_in no_request in omega arith
  line_next d n (Ok line) = by_gives (each d (record { kind = byte_of line.letter; job = line.job; cell = line.cell }))
    where
      by_gives : {ns : List ℕ} {m : ℕ} → Gives (next d) ns m → m ≡ next d + length ns
      by_gives (none_given q e) = rw q (omega (arith, e))
      by_gives (one_given q l e) = rw q (omega (arith, e))

  -- and by the numbers that all lines give
  pub run_next : (d : S) (n : ℕ) (ls : List (List ℕ)) → next (desk_over step d n ls) ≡ next d + length (given_in (run_of step d n ls))
  unfolding run_of desk_over line_by given_in
  run_next d n [] = omega arith
  run_next d n (l ∷ ls) =
      let o = answered step d n (read_line of_requests l) in
      let rest = run_of step o.desk (n + 1) ls in
      by_test (ltb request_lines n) (λ e. rw e (omega arith))
      (λ e. rw e (omega (arith, run_next o.desk (n + 1) ls, line_next d n (read_line of_requests l), length-append (given_by o.told.request o.told.said) (given_in rest))))

-- THE DESK AFTER A TEXT IS A STARTED DESK, and its history is what the history program writes
pub desk_started : (text : List ℕ) → Started (desk_on text) (history_on text)
unfolding run_on desk_on
desk_started text = run_started (fresh first_number (omega arith) (omega arith)) 1 (lines_of text)

-- its next number is 1, and one more for each number that the run gives
desk_next : (text : List ℕ) → (desk_on text).next ≡ first_number + length (given_in (run_on text))
unfolding run_on desk_on
desk_next text = unfold fresh_desk in run_next step (λ d. d.next) step_gives (fresh_desk first_number) 1 (lines_of text)

-- THE HISTORY IS A STARTED DESK'S: what the history program writes is the history of a started desk; that this desk was started at 1 is `history_from_one`
pub history_started : (text : List ℕ) → (D : Desk) × Started D (history_on text)
history_started text = (desk_on text, desk_started text)

-- its jobs are numbered from 1 on, one for each begin that goes: so no number is above how many they are
pub history_jobs : (text : List ℕ) (j : ℕ) → line_of j (history_on text) ≡ true → j ≤ length (given_in (run_on text))
history_jobs text j l = omega (arith, (started_over (desk_started text)).given j l, desk_next text)
