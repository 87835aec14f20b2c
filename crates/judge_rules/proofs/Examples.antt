-- Histories and texts, computed. The histories: the empty one; one with a k and a committed job without actions; a walk that starts off its cycle; a knot of three that shows the direction;
-- and three with a choice: an order with two predecessors, a job with two remaining predecessors, and two cycles. The texts: specs/JudgedSet.antt.
-- Assumes nothing.
use Prim.Native.Nat.{ℕ}
use mathlib.Core.Path.{◌≡◌, refl}
use mathlib.Core.List.{List, [], ◌∷◌, map}
use Rattle.laws.specs.Lists.{member, put, filled}
use Rattle.laws.specs.Sorted.{insert, sorted}
use Rattle.conflict.specs.Modes.{recorded}
use Rattle.conflict.specs.declared.action.Kind.TheVariants.{Read, Write, Increment}
use Rattle.conflict.specs.declared.action.Mark.TheVariants.{Commit, Back}
use Rattle.conflict.specs.declared.action.Event.{Event}
use Rattle.conflict.specs.declared.action.Event.TheVariants.{Does, Ends}
use Rattle.conflict.specs.Schedule.{agree, conflicts, keep, touches, edge}
use Rattle.conflict.specs.History.{History, is_commit, is_back, marked, part_of, committed_part, commits, commit_order}
use Rattle.conflict.specs.Runs.{is_end, ended}
use Rattle.conflict.specs.Dirty.{changes, spoils, look_back, writer_of, read_or_later, dirty_from, dirty_of}
use Rattle.text_rules.specs.Quoted.{bytes}
use Rattle.text_rules.specs.Lines.{parts, field_ahead, after_field, is_digit, digits_only, value_from, shortest, is_number, number_then, ending, cell_part, job_part, letter_in, letter_part, read_line}
use Rattle.text_rules.specs.Split.{in_front, lines_of}
use Rattle.judge_rules.specs.Order.{preceded, first, ready, without, ends, leads, taken, order_of, stuck}
use Rattle.judge_rules.specs.Knot.{predecessor, up_to, from, walk, least, turn_to, turn, knot_in}
use Rattle.judge_rules.specs.Judged.{Finding, orderly, knotted, finding_by, judged, jobs_of, finding_of}
use Rattle.judge_rules.specs.HistoryText.{readings_of, fault_of_good, fault_of, line_fault, ended_after, or_later, first_faulty, event_of, events_in, bare}
use Rattle.judge_rules.specs.Judgement.{say_finding, say_history, say_lines, judgement_of, in_numbers}
use Rattle.judge_rules.specs.JudgedSet.{tells, told, cases}

-- cell A of the papers is 0
abbrev A : ℕ
A = 0

-- cell B of the papers is 1
abbrev B : ℕ
B = 1

-- job i reads cell c
abbrev r : ℕ → ℕ → Event
r i c = Does (record { kind = Read; job = i; cell = c })

-- job i writes cell c
abbrev w : ℕ → ℕ → Event
w i c = Does (record { kind = Write; job = i; cell = c })

-- job j increments cell c
abbrev i : ℕ → ℕ → Event
i j c = Does (record { kind = Increment; job = j; cell = c })

-- job j commits
abbrev c : ℕ → Event
c j = Ends Commit j

-- job j was sent back
abbrev k : ℕ → Event
k j = Ends Back j

-- 1 reads before and after 2 writes, and what it read before its k does not count; 9 commits without actions
abbrev sent_back : History
sent_back = r 1 A ∷ w 2 A ∷ k 1 ∷ r 1 A ∷ c 1 ∷ c 2 ∷ c 9 ∷ []

-- H1 between 3 and 7; 1 reads what 7 writes, and 5 writes what 3 reads last: 5 is behind the knot, and the walk starts at 1, off it
abbrev off_cycle : History
off_cycle = w 7 2 ∷ r 1 2 ∷ r 3 A ∷ r 7 A ∷ w 3 A ∷ w 7 A ∷ r 3 4 ∷ w 5 4 ∷ c 7 ∷ c 5 ∷ c 3 ∷ c 1 ∷ []

-- edges from 2 to 3, 3 to 5 and 5 to 2: the knot runs along the edges
abbrev three_round : History
three_round = w 3 0 ∷ w 5 0 ∷ w 5 1 ∷ w 2 1 ∷ w 2 2 ∷ w 3 2 ∷ c 5 ∷ c 3 ∷ c 2 ∷ []

-- 3 and then 2 have edges to 1, and 4 has none: at each place the smallest whose predecessors all stand, so 1 stands as soon as both do, and before 4
abbrev two_ahead : History
two_ahead = w 3 A ∷ r 2 B ∷ w 1 A ∷ w 1 B ∷ r 4 2 ∷ c 4 ∷ c 3 ∷ c 1 ∷ c 2 ∷ []

-- 1 and 2 have edges both ways, and so do 1 and 3: of the two remaining predecessors of 1 the walk takes 2
abbrev two_predecessors : History
two_predecessors = w 1 0 ∷ w 3 0 ∷ w 3 1 ∷ w 1 1 ∷ w 1 2 ∷ w 2 2 ∷ w 2 3 ∷ w 1 3 ∷ c 3 ∷ c 2 ∷ c 1 ∷ []

-- 2 and 3 have edges both ways, and later so do 1 and 4: of the two cycles the walk finds the one of the smallest job
abbrev two_cycles : History
two_cycles = w 2 0 ∷ w 3 0 ∷ w 3 1 ∷ w 2 1 ∷ c 2 ∷ c 3 ∷ w 1 2 ∷ w 4 2 ∷ w 4 3 ∷ w 1 3 ∷ c 4 ∷ c 1 ∷ []

-- a history and what is found for it
pub record Sample : Type 0 where
  pub history : History
  pub finding : Finding

-- the samples
abbrev pub samples : List Sample
samples =
    record { history = []; finding = orderly [] }
    ∷ record { history = sent_back; finding = orderly (2 ∷ 1 ∷ 9 ∷ []) }
    ∷ record { history = off_cycle; finding = knotted (3 ∷ 7 ∷ []) }
    ∷ record { history = three_round; finding = knotted (2 ∷ 3 ∷ 5 ∷ []) }
    ∷ record { history = two_ahead; finding = orderly (2 ∷ 3 ∷ 1 ∷ 4 ∷ []) }
    ∷ record { history = two_predecessors; finding = knotted (1 ∷ 2 ∷ []) }
    ∷ record { history = two_cycles; finding = knotted (1 ∷ 4 ∷ []) }
    ∷ []

-- each is judged as listed
pub tried : map (λ s. finding_of s.history) samples ≡ map (λ s. s.finding) samples
unfolding member agree conflicts keep touches edge is_commit is_back marked part_of committed_part put commit_order preceded first ready without ends leads taken order_of stuck predecessor up_to from walk least turn_to turn knot_in finding_by judged insert sorted jobs_of finding_of
tried = refl

-- each of these texts is told as listed
pub all_told : map tells cases ≡ map told cases
unfolding bytes parts field_ahead after_field is_digit digits_only value_from shortest is_number number_then ending cell_part job_part letter_in letter_part read_line in_front lines_of member put recorded agree conflicts keep touches edge is_commit is_back marked part_of committed_part commit_order preceded first ready without ends leads taken order_of stuck predecessor up_to from walk least turn_to turn knot_in finding_by judged insert sorted jobs_of finding_of readings_of fault_of_good fault_of line_fault ended_after or_later first_faulty event_of events_in bare commits is_end ended changes spoils look_back writer_of read_or_later dirty_from dirty_of filled say_finding say_history say_lines judgement_of in_numbers
all_told = refl
