-- The desk programs as definitions from text to text, over the paper's lock desk and over the timestamp desk (01, What is delivered; 02, Nos. 3 and 6).
use Rattle.std.specs.Prelude.{ℕ, List, []}
use Rattle.text_rules.specs.Split.{lines_of}
use Rattle.desk_rules.specs.Desk.{Desk, fresh_desk}
use Rattle.desk_rules.specs.Step.{step}
use Rattle.desk_rules.specs.Chain.{all_chains}
use Rattle.stamp_rules.specs.Desk as stamp
use Rattle.stamp_rules.specs.Step as stamp-step
use Rattle.program_rules.specs.declared.Method.{Method}
use Rattle.program_rules.specs.declared.Method.TheVariants.{Locks, Stamps}
use Rattle.program_rules.specs.declared.View.{View}
use Rattle.program_rules.specs.declared.View.TheVariants.{Answers, History, Chains}
use Rattle.program_rules.specs.OverLines.{Told, run_of, answer_lines, history_lines, written}
use Rattle.program_rules.specs.Chains.{desk_over, chain_text}
use Rattle.program_rules.specs.Desks.{new_desks, on_desks}

-- the number that the desk programs start at (01, Lines)
abbrev pub first_number : ℕ
first_number = 1

-- the run of a text on a fresh desk of the paper
unfoldable pub run_on : List ℕ → List Told
run_on text = run_of step (fresh_desk first_number) 1 (lines_of text)

-- the run of a text on a fresh timestamp desk (02, No. 6)
unfoldable pub stamp_run_on : List ℕ → List Told
stamp_run_on text = run_of stamp-step.step (stamp.fresh_desk first_number) 1 (lines_of text)

-- the run of a text on the fresh desk of a method
unfoldable pub run_by : Method → List ℕ → List Told
run_by Locks text = run_on text
run_by Stamps text = stamp_run_on text

-- the run of a text on the desks that run
unfoldable pub desks_run : Method → List ℕ → List Told
desks_run m text = run_of on_desks (new_desks m first_number) 1 (lines_of text)

-- the paper's desk after the lines of a text
unfoldable pub desk_on : List ℕ → Desk
desk_on text = desk_over step (fresh_desk first_number) 1 (lines_of text)

-- the program `answers`
unfoldable pub answers_of : List ℕ → List ℕ
answers_of text = written answer_lines (run_on text)

-- the program `history`
unfoldable pub history_of : List ℕ → List ℕ
history_of text = written history_lines (run_on text)

-- the program `chain`: for each job that waits when the text has ended, in ascending order, a line with its chain (02, No. 3)
unfoldable pub chains_of : List ℕ → List ℕ
chains_of text = chain_text (all_chains (desk_on text))

-- the program `stamp_answers` (02, No. 6)
unfoldable pub stamp_answers_of : List ℕ → List ℕ
stamp_answers_of text = written answer_lines (stamp_run_on text)

-- the program `stamp_history` (02, No. 6)
unfoldable pub stamp_history_of : List ℕ → List ℕ
stamp_history_of text = written history_lines (stamp_run_on text)

-- what the program of a method and a view writes; nobody waits on a timestamp desk, so there it has no chains
unfoldable pub program_of : Method → View → List ℕ → List ℕ
program_of Locks Answers text = answers_of text
program_of Locks History text = history_of text
program_of Locks Chains text = chains_of text
program_of Stamps Answers text = stamp_answers_of text
program_of Stamps History text = stamp_history_of text
program_of Stamps Chains text = []
