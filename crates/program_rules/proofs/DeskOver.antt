-- The desk after the lines that a splitter finds is the desk after the lines of the text; so the clerk's desks are those after all lines seen.
-- Assumes nothing.
use Prim.Native.Nat.{ℕ, ◌+◌, ◌-◌, ◌^◌, ◌≤◌, ◌<◌}
use mathlib.Core.Path.{◌≡◌, refl, sym, ap, ◌∙◌}
use mathlib.Core.Bool.{true}
use mathlib.Core.List.{List, [], ◌∷◌}
use native.Mathlib.Omega.{arith}
use lib.Dec.{ltb}
use borrow.Author.Tests.{ltb-true, ltb-false, le-leb, lt-leb}
use Rattle.laws.specs.Choice.{by_test}
use Rattle.terms.specs.Limits.{request_lines}
use Rattle.text_rules.specs.Split.{following, fresh, lines_of, one_line, every, numbered_on, after_all, found_in, found_last}
use Rattle.text_rules.proofs.TextLines.{lines_one}
use Rattle.desks.specs.Stepping.{Stepping}
use Rattle.program_rules.specs.declared.Method.{Method}
use Rattle.program_rules.specs.Desks.{new_desks, on_desks}
use Rattle.program_rules.specs.OverLines.{line_by}
use Rattle.program_rules.specs.Chains.{desk_over}
use Rattle.program_rules.specs.Programs.{first_number}
use Rattle.program_rules.specs.Work.{started_clerk}
use Rattle.program_rules.specs.Tellings.{telling, desk_after, clerk_after}
use Rattle.program_rules.proofs.Tellings.{desk_append, line_told, both, next_number}
use Rattle.program_rules.proofs.LastLine.{open_always, last_desk}
use Rattle.program_rules.proofs.AnyCourse.{one_chunk}

module _ {S : Type 0} (step : Stepping S) where
  -- after line 1,000,000 the desk stays as it is
  desk_past : (d : S) (n : ℕ) (ls : List (List ℕ)) → request_lines < n → desk_after step d (numbered_on n ls) ≡ d
  unfolding desk_after numbered_on following
  desk_past d n [] h = refl
  desk_past d n (l ∷ ls) h =
      rw (lt-leb n request_lines h)
      (by_test (ltb n (2 ^ 64 - 1))
      (λ e. rw e (desk_past d (n + 1) ls (omega arith)))
      (λ e. rw e (desk_past d n ls h)))

  -- the desk after the first line, and then after the others
  desk_first : (d : S) (n : ℕ) (l : List ℕ) (ls : List (List ℕ)) → one_line l ≡ true → n ≤ request_lines →
      desk_after step d (numbered_on n (l ∷ ls)) ≡ desk_after step (line_by step d n l).desk (numbered_on (n + 1) ls)
  unfolding desk_after telling numbered_on
  desk_first d n l ls o h = rw (le-leb n request_lines h, line_told step d n l o, next_number step n h)

  -- the desk after the lines of a text, as a splitter numbers them
  pub desk_run : (d : S) (n : ℕ) (ls : List (List ℕ)) → every one_line ls ≡ true → desk_after step d (numbered_on n ls) ≡ desk_over step d n ls
  unfolding desk_over
  desk_run d n [] o = unfold desk_after numbered_on in refl
  desk_run d n (l ∷ ls) o =
      let p = both step (one_line l) (every one_line ls) (unfold every in o) in
      by_test (ltb request_lines n)
      (λ e. rw e (desk_past d n (l ∷ ls) (ltb-true request_lines n e)))
      (λ e. rw e (desk_first d n l ls p.0 (ltb-false request_lines n e) ∙ desk_run (line_by step d n l).desk (n + 1) ls p.1))

-- THE CLERK'S DESKS: after some bytes they are the desks after the lines of the text, a last line that lacks its newline among them
pub clerk_desk : (m : Method) (text : List ℕ) → (clerk_after (started_clerk m) text).desks ≡ desk_over on_desks (new_desks m first_number) 1 (lines_of text)
unfolding clerk_after started_clerk
clerk_desk m text =
    let d = new_desks m first_number in
    let fs = found_in fresh text in
    let s = after_all fresh text in
    sym (last_desk on_desks (desk_after on_desks d fs) s (open_always text))
    ∙ sym (desk_append on_desks d fs (found_last s))
    ∙ ap (desk_after on_desks d) (one_chunk text)
    ∙ desk_run on_desks d 1 (lines_of text) (lines_one text)
