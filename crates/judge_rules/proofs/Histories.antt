-- The verdict on a history: orderly exactly if its committed part is conflict-serializable, with a serial order of exactly the jobs with a c; otherwise a knot of such jobs (demand 2).
-- Assumes nothing.
use Prim.Native.Nat.{ℕ}
use mathlib.Core.Path.{◌≡◌, sym, ◌∙◌}
use mathlib.Core.Logic.{◌↔◌}
use mathlib.Core.Bool.{true}
use mathlib.Core.List.{List}
use Rattle.laws.specs.Choice.{by_test, not_both}
use Rattle.laws.specs.Lists.{member, distinct}
use Rattle.laws.specs.Sorted.{ascending}
use Rattle.laws.proofs.Sorted.{sorted_member, sorted_ascending, ascending_only}
use Rattle.conflict.specs.Schedule.{Equivalent, serial, ConflictSerializable, edge, names}
use Rattle.conflict.specs.History.{History, is_commit, marked, committed_part, commit_order}
use Rattle.conflict.proofs.Marks.{listed}
use Rattle.conflict.proofs.CommittedJobs.{committed_part_names}
use Rattle.judge_rules.specs.Judged.{Finding, orderly, knotted, is_orderly, jobs_of, finding_of}
use Rattle.judge_rules.specs.Meant.{Orderly, Knotted, SmallestFirst, Says}
use Rattle.judge_rules.proofs.Judging.{says_orderly, says_knot, says_smallest_first, judged_exactly}
use Rattle.judge_rules.proofs.Deciding.{by_finding, knotted_is, said_serial, decides}

-- the jobs judged are those with a c
pub jobs_committed : (h : History) (j : ℕ) → member j (jobs_of h) ≡ marked is_commit j h
unfolding jobs_of
jobs_committed h j = sorted_member (commit_order h) j ∙ listed j h

-- they ascend
pub jobs_ascending : (h : History) → ascending (jobs_of h) ≡ true
unfolding jobs_of
jobs_ascending h = sorted_ascending (commit_order h)

-- there is no other list of the jobs with a c in ascending order
pub jobs_only : (h : History) (js : List ℕ) → ascending js ≡ true → ((j : ℕ) → member j js ≡ marked is_commit j h) → js ≡ jobs_of h
jobs_only h js a m = ascending_only js (jobs_of h) a (jobs_ascending h) (λ j. m j ∙ sym (jobs_committed h j))

-- they name every job of the committed part
pub jobs_name : (h : History) → names (jobs_of h) (committed_part h) ≡ true
jobs_name h = committed_part_names (jobs_of h) h (λ j m. jobs_committed h j ∙ m)

-- orderly is said exactly if the committed part is conflict-serializable
pub orderly_exactly : (h : History) → (is_orderly (finding_of h) ≡ true) ↔ ConflictSerializable (committed_part h)
unfolding finding_of
orderly_exactly h = decides (committed_part h) (jobs_of h) (jobs_name h) (jobs_ascending h)

-- then it is said with an order
pub serializable_order : (h : History) → ConflictSerializable (committed_part h) → (order : List ℕ) × (finding_of h ≡ orderly order)
serializable_order h c =
    by_finding (finding_of h) (λ order v. (order, v)) (λ js v. not_both ((orderly_exactly h).1 c) (knotted_is js v))

-- if a knot is said, it is not
pub knot_refuses : (h : History) (js : List ℕ) → finding_of h ≡ knotted js → ConflictSerializable (committed_part h) → ⊥
knot_refuses h js v c = not_both ((orderly_exactly h).1 c) (knotted_is js v)

-- the order said is a serial order that the committed part is conflict-equivalent to
pub order_serial : (h : History) (order : List ℕ) → finding_of h ≡ orderly order → Equivalent (committed_part h) (serial order (committed_part h))
unfolding finding_of
order_serial h order v = said_serial (committed_part h) (jobs_of h) (jobs_name h) order v

-- the order names none twice
pub order_once : (h : History) (order : List ℕ) → finding_of h ≡ orderly order → distinct order ≡ true
unfolding finding_of
order_once h order v = (says_orderly (edge (committed_part h)) (jobs_of h) order v).once

-- the order names exactly the jobs with a c
pub order_names : (h : History) (order : List ℕ) → finding_of h ≡ orderly order → (j : ℕ) → member j order ≡ marked is_commit j h
unfolding finding_of
order_names h order v j =
    let o : Orderly (edge (committed_part h)) (jobs_of h) order = says_orderly (edge (committed_part h)) (jobs_of h) order v in
    by_test (member j order) (λ m. m ∙ sym (sym (jobs_committed h j) ∙ o.only j m))
    (λ f. by_test (marked is_commit j h) (λ m. not_both (o.all j (jobs_committed h j ∙ m)) f) (λ g. f ∙ sym g))

-- the order takes at each place the smallest number whose predecessors all stand already
pub order_smallest : (h : History) (order : List ℕ) → finding_of h ≡ orderly order → SmallestFirst (edge (committed_part h)) (jobs_of h) order
unfolding finding_of
order_smallest h order v = says_smallest_first (edge (committed_part h)) (jobs_of h) (jobs_ascending h) order v

-- a knot said is a cycle of conflicts between jobs with a c, none twice, the smallest first
pub knot_shows : (h : History) (js : List ℕ) → finding_of h ≡ knotted js → Knotted (edge (committed_part h)) (jobs_of h) js
unfolding finding_of
knot_shows h js v = says_knot (edge (committed_part h)) (jobs_of h) (jobs_ascending h) js v

-- the verdict is what the paper says of the jobs with a c and the edges between them, and there is no second one
pub finding_exactly : (h : History) (v : Finding) → Says (edge (committed_part h)) (jobs_of h) v ↔ (finding_of h ≡ v)
unfolding finding_of
finding_exactly h v = judged_exactly (edge (committed_part h)) (jobs_of h) (jobs_ascending h) v
