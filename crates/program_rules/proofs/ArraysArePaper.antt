-- A desk that follows another tells of every line what the other tells, and shows the other after all lines; so the desks that run tell what the paper's desk of the method tells, and show it.
-- Assumes nothing.
use Prim.Native.Nat.{ℕ, ◌+◌}
use mathlib.Core.Path.{◌≡◌, refl, ap, ap₂, ◌∙◌}
use mathlib.Core.List.{List, [], ◌∷◌, ◌++◌}
use native.Mathlib.Omega.{arith}
use lib.Dec.{ltb}
use Rattle.std.specs.Prelude.{Err, Ok}
use Rattle.laws.specs.Choice.{by_test}
use Rattle.terms.specs.Letters.{byte_of, of_requests}
use Rattle.terms.specs.Limits.{request_lines}
use Rattle.conflict.specs.History.{History}
use Rattle.text_rules.specs.Lines.{read_line, Reading}
use Rattle.text_rules.specs.Split.{lines_of}
use Rattle.desks.specs.Request.{Request}
use Rattle.desk_rules.specs.Desk.{fresh_desk}
use Rattle.desks.specs.Stepping.{Stepping}
use Rattle.desks.specs.Started.{StartedOn, fresh}
use Rattle.desk_rules.specs.Step.{step}
use Rattle.desks.specs.Follows.{Follows}
use Rattle.desks.proofs.Following.{follows_on}
use Rattle.desk_arrays.specs.Seen.{view}
use Rattle.desk_arrays.proofs.Faithful.{faithful}
use Rattle.stamp_rules.specs.Desk.{fresh_desk as stamp-fresh}
use Rattle.stamp_rules.specs.Step.{step as stamp-step}
use Rattle.stamp_arrays.specs.Seen.{view as stamp-view}
use Rattle.stamp_arrays.proofs.Faithful.{faithful as stamps-faithful}
use Rattle.program_rules.specs.declared.Method.{Method}
use Rattle.program_rules.specs.declared.Method.TheVariants.{Locks, Stamps}
use Rattle.program_rules.specs.OverLines.{Told, Lined, answered, line_by, run_of}
use Rattle.program_rules.specs.Chains.{desk_over}
use Rattle.program_rules.specs.Desks.{new_desks, on_desks}
use Rattle.program_rules.specs.Programs.{first_number, run_on, stamp_run_on, run_by, desks_run, desk_on}
use Rattle.program_rules.proofs.StartedHistory.{recorded, line_started}
use Rattle.program_rules.proofs.TwoDesks.{by_locks, by_stamps}

module _ {S T : Type 0} {see : S → T} {does : Stepping S} {new : ℕ → S} {theirs : Stepping T} {first : ℕ → T} (f : Follows see does new theirs first) where
  -- a line as it is seen
  abbrev seen_line : Lined S → Lined T
  seen_line l = record { desk = see l.desk; told = l.told }

  -- one line on both desks, by what it says
  same_line : {d : S} {h : History} → StartedOn does new d h → (n : ℕ) (r : Reading) → seen_line (answered does d n r) ≡ answered theirs (see d) n r
  unfolding answered
  same_line s n (Err at) = refl
  same_line {d} {h} s n (Ok its) =
      let r : Request = record { kind = byte_of its.letter; job = its.job; cell = its.cell } in
      ap (λ o. record { desk = o.desk; told = record { line = n; request = r; said = o.said; wakes = o.wakes } }) (f.same d h s r)

  -- all lines
  pub same_run : {d : S} {h : History} → StartedOn does new d h → (n : ℕ) (ls : List (List ℕ)) → run_of does d n ls ≡ run_of theirs (see d) n ls
  unfolding run_of line_by
  same_run s n [] = refl
  same_run {d = d} {h = h} s n (l ∷ ls) =
      let r = read_line of_requests l in
      let o = answered does d n r in
      let e = same_line s n r in
      by_test (ltb request_lines n) (λ t. rw t)
      (λ g. rw g (ap₂ (λ (t : Told) (ts : List Told). t ∷ ts) (ap (λ x. x.told) e)
      (same_run {d = o.desk} {h = h ++ recorded o.told} (line_started s n r) (n + 1) ls ∙ ap (λ x. run_of theirs x.desk (n + 1) ls) e)))

  -- the desk after them is seen as the other's
  pub same_desk : {d : S} {h : History} → StartedOn does new d h → (n : ℕ) (ls : List (List ℕ)) → see (desk_over does d n ls) ≡ desk_over theirs (see d) n ls
  unfolding desk_over line_by
  same_desk s n [] = refl
  same_desk {d = d} {h = h} s n (l ∷ ls) =
      let r = read_line of_requests l in
      let o = answered does d n r in
      by_test (ltb request_lines n) (λ t. rw t)
      (λ g. rw g (same_desk {d = o.desk} {h = h ++ recorded o.told} (line_started s n r) (n + 1) ls ∙ ap (λ x. desk_over theirs x.desk (n + 1) ls) (same_line s n r)))

  -- so from a start at 1 on it tells the same of any lines
  pub one_run : (ls : List (List ℕ)) → run_of does (new first_number) 1 ls ≡ run_of theirs (first first_number) 1 ls
  one_run ls = same_run (fresh first_number (omega arith) (omega arith)) 1 ls ∙ ap (λ d. run_of theirs d 1 ls) (f.starts first_number (omega arith) (omega arith))

  -- and is then seen as the other
  pub one_desk : (ls : List (List ℕ)) → see (desk_over does (new first_number) 1 ls) ≡ desk_over theirs (first first_number) 1 ls
  one_desk ls = same_desk (fresh first_number (omega arith) (omega arith)) 1 ls ∙ ap (λ d. desk_over theirs d 1 ls) (f.starts first_number (omega arith) (omega arith))

-- the clerk's desks under locks do as the paper's lock desk does
pub locks_tied : Follows (λ d. view d.locks) on_desks (new_desks Locks) step fresh_desk
locks_tied = follows_on by_locks faithful

-- THE BOARD IS THE PAPER: over any lines, on desks started at 1, the desks that run under locks and the paper's desk tell the same
pub arrays_are_paper : (ls : List (List ℕ)) → run_of on_desks (new_desks Locks first_number) 1 ls ≡ run_of step (fresh_desk first_number) 1 ls
arrays_are_paper ls = one_run locks_tied ls

-- and after the lines of a text their lock desk is seen as the paper's after them
pub text_desk : (text : List ℕ) → view (desk_over on_desks (new_desks Locks first_number) 1 (lines_of text)).locks ≡ desk_on text
unfolding desk_on
text_desk text = one_desk locks_tied (lines_of text)

-- under timestamps they do as the request's timestamp desk does
pub stamps_tied : Follows (λ d. stamp-view d.stamps) on_desks (new_desks Stamps) stamp-step stamp-fresh
stamps_tied = follows_on by_stamps stamps-faithful

-- THE BOARD IS THE REQUEST: under timestamps they tell what the request's desk tells (02, No. 6)
pub stamps_are_paper : (ls : List (List ℕ)) → run_of on_desks (new_desks Stamps first_number) 1 ls ≡ run_of stamp-step (stamp-fresh first_number) 1 ls
stamps_are_paper ls = one_run stamps_tied ls

-- so by either method the run of a text on the desks that run is the run on the paper's desk
pub text_run : (m : Method) (text : List ℕ) → desks_run m text ≡ run_by m text
unfolding desks_run run_by run_on stamp_run_on
text_run Locks text = arrays_are_paper (lines_of text)
text_run Stamps text = stamps_are_paper (lines_of text)
