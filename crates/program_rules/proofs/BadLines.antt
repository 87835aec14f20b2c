-- The desk programs answer a line with refusal 9 and a field exactly if it is bad at that field, and the desk does not see it (01, refusal 9; 01, Lines; 02, No. 5).
-- Assumes nothing.
use Rattle.std.specs.Prelude.{Some, Err, Ok}
use Prim.Native.Nat.{ℕ, ◌+◌}
use mathlib.Core.Path.{◌≡◌, refl, ap}
use mathlib.Core.Logic.{◌↔◌}
use mathlib.Core.List.{List, [], ◌∷◌}
use native.Mathlib.Omega.{arith}
use lib.Dec.{ltb}
use borrow.Author.Tests.{ltb-true, ltb-false}
use Rattle.laws.specs.Choice.{by_test, not_both}
use Rattle.laws.specs.Lists.{member}
use Rattle.terms.specs.declared.refusals.Field.{Field}
use Rattle.terms.specs.declared.refusals.Refusal.TheVariants.{BadLine}
use Rattle.terms.specs.Letters.{byte_of, of_requests}
use Rattle.terms.specs.Limits.{request_lines}
use Rattle.text_rules.specs.Lines.{refusal_of, read_line, Reading}
use Rattle.text_rules.specs.Split.{lines_of}
use Rattle.desks.specs.declared.Answer.TheVariants.{No}
use Rattle.desks.specs.Request.{Request}
use Rattle.desks.specs.Stepping.{Stepping}
use Rattle.desk_rules.specs.Desk.{Desk, fresh_desk}
use Rattle.desk_rules.proofs.Refusing.{refuses}
use Rattle.program_rules.specs.OverLines.{answered, line_by, run_of}
use Rattle.desk_rules.specs.Step.{step}
use Rattle.stamp_rules.specs.Desk as stamp
use Rattle.stamp_rules.specs.Step.{step as stamp-step}
use Rattle.stamp_rules.proofs.Refusing.{only_these}
use Rattle.program_rules.specs.Programs.{first_number, run_on, stamp_run_on}
use Rattle.program_rules.specs.LinesTold.{LinesTold, no_line, no_more, a_line}

module _ {S : Type 0} (step : Stepping S) where
  -- a bad line leaves the desk as it was, and nobody is woken
  pub bad_line_unseen : (d : S) (n : ℕ) (l : List ℕ) (at : Field) → read_line of_requests l ≡ Err at → ((line_by step d n l).desk ≡ d) × ((line_by step d n l).told.wakes ≡ [])
  unfolding line_by answered
  bad_line_unseen d n l at e = (ap (λ r. (answered step d n r).desk) e, ap (λ r. (answered step d n r).told.wakes) e)

  -- a line is told under its number
  line_number : (d : S) (n : ℕ) (r : Reading) → (answered step d n r).told.line ≡ n
  unfolding answered
  line_number d n (Err at) = refl
  line_number d n (Ok line) = refl

  module _ (never : (d : S) (r : Request) (at : Field) → (step d r).said ≡ No (BadLine at) → ⊥) where
    -- by what the line says: a step never answers 9
    answered_exactly : (d : S) (n : ℕ) (r : Reading) (at : Field) → ((answered step d n r).told.said ≡ No (BadLine at)) ↔ (refusal_of r ≡ Some (BadLine at))
    unfolding answered
    answered_exactly d n (Err field) at = (λ e. let q : field ≡ at = cc in ap (λ f. Some (BadLine f)) q, λ e. let q : field ≡ at = cc in ap (λ f. No (BadLine f)) q)
    answered_exactly d n (Ok line) at = (λ e. absurd (never d (record { kind = byte_of line.letter; job = line.job; cell = line.cell }) at e), λ e. let z : ◌≡◌ {A = ℕ} 0 1 = cc in absurd (omega arith))

    -- a line is answered with 9 and a field exactly where it is bad at that field
    pub line_9_exactly : (d : S) (n : ℕ) (l : List ℕ) (at : Field) → ((line_by step d n l).told.said ≡ No (BadLine at)) ↔ (refusal_of (read_line of_requests l) ≡ Some (BadLine at))
    unfolding line_by
    line_9_exactly d n l = answered_exactly d n (read_line of_requests l)

    -- all lines
    pub lines_told : (d : S) (n : ℕ) (ls : List (List ℕ)) → LinesTold n ls (run_of step d n ls)
    unfolding run_of line_by
    lines_told d n [] = no_line
    lines_told d n (l ∷ ls) =
        by_test (ltb request_lines n) (λ t. rw t (no_more (ltb-true request_lines n t)))
        (λ f. rw f (a_line (ltb-false request_lines n f) (line_number d n (read_line of_requests l)) (answered_exactly d n (read_line of_requests l)) (lines_told (answered step d n (read_line of_requests l)).desk (n + 1) ls)))

-- a step of the paper's desk never answers 9
never_9 : (d : Desk) (r : Request) (at : Field) → (step d r).said ≡ No (BadLine at) → ⊥
never_9 d r at e = let b = (refuses d).one_to_eight r (BadLine at) e in let h = b.1 in omega arith

-- NINE EXACTLY FOR A BAD LINE: each line of a text up to line 1,000,000 has its answer under its number, refusal 9 with a field exactly where the line is bad at that field
pub bad_line_exactly : (text : List ℕ) → LinesTold 1 (lines_of text) (run_on text)
unfolding run_on
bad_line_exactly text = lines_told step never_9 (fresh_desk first_number) 1 (lines_of text)

-- nor does a step of the timestamp desk
stamp_never_9 : (d : stamp.Desk) (r : Request) (at : Field) → (stamp-step d r).said ≡ No (BadLine at) → ⊥
unfolding member
stamp_never_9 d r at e = not_both (only_these d r (BadLine at) e) refl

-- so it is by timestamps too (02, No. 6)
pub stamp_bad_line_exactly : (text : List ℕ) → LinesTold 1 (lines_of text) (stamp_run_on text)
unfolding stamp_run_on
stamp_bad_line_exactly text = lines_told stamp-step stamp_never_9 (stamp.fresh_desk first_number) 1 (lines_of text)
