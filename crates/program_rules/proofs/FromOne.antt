-- The history written is that of a desk started at 1 that gets the good lines of the text as requests, in order; the chains are those of that desk (01, Lines; 02, No. 3).
-- Assumes nothing.
use Prim.Native.Nat.{ℕ, ◌+◌}
use mathlib.Core.Path.{◌≡◌, refl, ap, ◌∙◌}
use mathlib.Core.List.{List, [], ◌∷◌, ◌++◌}
use lib.Dec.{ltb}
use Rattle.std.specs.Prelude.{Err, Ok}
use Rattle.laws.specs.Choice.{by_test}
use Rattle.terms.specs.Letters.{byte_of, of_requests}
use Rattle.terms.specs.Limits.{request_lines}
use Rattle.conflict.specs.History.{History}
use Rattle.text_rules.specs.Lines.{read_line, Reading}
use Rattle.text_rules.specs.Split.{lines_of}
use Rattle.desks.specs.Request.{Request}
use Rattle.desk_rules.specs.Desk.{fresh_desk}
use Rattle.desks.specs.Stepping.{Stepping, through}
use Rattle.desk_rules.specs.Chain.{all_chains}
use Rattle.desks.specs.Records.{records_by, records_of, own_records, wake_records}
use Rattle.desk_rules.specs.Step.{step}
use Rattle.stamp_rules.specs.Desk.{fresh_desk as stamp-fresh}
use Rattle.stamp_rules.specs.Step.{step as stamp-step}
use Rattle.desks.specs.Requests.{writes}
use Rattle.desk_rules.specs.Requests.{history_of}
use Rattle.program_rules.specs.OverLines.{answered, line_by, run_of}
use Rattle.program_rules.specs.Chains.{desk_over, chain_text}
use Rattle.program_rules.specs.Programs.{run_on, stamp_run_on, desk_on, chains_of}
use Rattle.program_rules.specs.Shown.{history_of_run}
use Rattle.program_rules.specs.LinesTold.{request_of, requests_from}

module _ {S : Type 0} (step : Stepping S) where
  -- one line, on any desk: a bad one is no request and writes nothing, and a good one is a step
  line_history : (d : S) (n : ℕ) (r : Reading) (rs : List Request) (h : History) → h ≡ writes step (answered step d n r).desk rs →
      let t = (answered step d n r).told in (records_of t.request t.said t.wakes ++ h ≡ writes step d (request_of r ++ rs))
  unfolding answered request_of writes records_by
  line_history d n (Err at) rs h e = unfold records_of own_records wake_records in e
  line_history d n (Ok line) rs h e = ap (λ k. records_by step d (record { kind = byte_of line.letter; job = line.job; cell = line.cell }) ++ k) e

  -- all lines
  pub run_history : (d : S) (n : ℕ) (ls : List (List ℕ)) → history_of_run (run_of step d n ls) ≡ writes step d (requests_from n ls)
  unfolding run_of line_by history_of_run requests_from
  run_history d n [] = unfold writes in refl
  run_history d n (l ∷ ls) =
      by_test (ltb request_lines n) (λ t. rw t (unfold writes in refl))
      (λ f. rw f (line_history d n (read_line of_requests l) (requests_from (n + 1) ls) _ (run_history (answered step d n (read_line of_requests l)).desk (n + 1) ls)))

  -- the desk after one line: a bad one is no request and changes nothing, and a good one is a step
  line_desk_lem : (d : S) (n : ℕ) (r : Reading) (rs : List Request) → through step (answered step d n r).desk rs ≡ through step d (request_of r ++ rs)
  unfolding answered request_of
  line_desk_lem d n (Err at) rs = refl
  line_desk_lem d n (Ok line) rs = refl

  -- after all lines
  pub run_desk : (d : S) (n : ℕ) (ls : List (List ℕ)) → desk_over step d n ls ≡ through step d (requests_from n ls)
  unfolding desk_over line_by requests_from
  run_desk d n [] = refl
  run_desk d n (l ∷ ls) =
      by_test (ltb request_lines n) (λ t. rw t)
      (λ f. rw f (run_desk (answered step d n (read_line of_requests l)).desk (n + 1) ls ∙ line_desk_lem d n (read_line of_requests l) (requests_from (n + 1) ls)))

-- STARTED AT 1: what the history program writes is the history of a desk started at 1 after the requests that the text's lines say
pub history_from_one : (text : List ℕ) → history_of_run (run_on text) ≡ history_of (fresh_desk 1) (requests_from 1 (lines_of text))
unfolding run_on
history_from_one text = run_history step (fresh_desk 1) 1 (lines_of text)

-- CHAINS FROM 1: what the program `chain` writes is the chains of all jobs that wait on a desk started at 1 after the requests in the text's lines
pub chains_from_one : (text : List ℕ) → chains_of text ≡ chain_text (all_chains (through step (fresh_desk 1) (requests_from 1 (lines_of text))))
unfolding chains_of desk_on
chains_from_one text = ap (λ d. chain_text (all_chains d)) (run_desk step (fresh_desk 1) 1 (lines_of text))

-- STARTED AT 1, BY TIMESTAMPS: so it is of the timestamp desk's history program (02, No. 6)
pub stamp_history_from_one : (text : List ℕ) → history_of_run (stamp_run_on text) ≡ writes stamp-step (stamp-fresh 1) (requests_from 1 (lines_of text))
unfolding stamp_run_on
stamp_history_from_one text = run_history stamp-step (stamp-fresh 1) 1 (lines_of text)
