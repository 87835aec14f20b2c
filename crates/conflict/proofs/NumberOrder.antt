-- Conflicting actions in number order: if the history is in number order, so is its committed part; every edge rises; and ascending numbers are a serial order (02, No. 6).
-- Assumes nothing.
use Prim.Native.Nat.{ℕ, ◌<◌}
use mathlib.Core.Path.{◌≡◌, refl, sym, ap, ◌∙◌}
use mathlib.Core.Bool.{true}
use mathlib.Core.List.{List, [], ◌∷◌, ◌++◌, append_assoc}
use borrow.Author.Tests.{eqb-true}
use Rattle.laws.specs.Choice.{not_both}
use Rattle.laws.specs.Lists.{member, distinct}
use Rattle.laws.specs.Sorted.{ascending, sorted}
use Rattle.laws.proofs.Sorted.{sorted_member, sorted_ascending, ascending_once, ascending_ahead}
use Rattle.conflict.specs.declared.action.Action.{Action}
use Rattle.conflict.specs.declared.action.Event.TheVariants.{Does}
use Rattle.conflict.specs.Schedule.{Schedule, conflicts, Equivalent, serial, ConflictSerializable, names, touches, edge, Forward, knot}
use Rattle.conflict.specs.History.{History, is_commit, marked, committed_part, committed, commit_order}
use Rattle.conflict.specs.NumberOrder.{InNumberOrder, ActsInNumberOrder}
use Rattle.conflict.proofs.Edges.{touches_cases, edge_cases, edge_names}
use Rattle.conflict.proofs.Forward.{forward, forward_serializable}
use Rattle.conflict.proofs.Backward.{refuted}
use Rattle.conflict.proofs.Marks.{listed}
use Rattle.conflict.proofs.CommittedJobs.{committed_part_names}
use Rattle.conflict.proofs.Within.{Within, within_at, committed_part_within, committed_within}

-- actions that stand in a history in number order are in number order
within_order : {s : Schedule} {h : History} → Within s h → ActsInNumberOrder h → InNumberOrder s
within_order w o =
    record {
      rises = λ before a between b after e c. within_at w before a (between ++ b ∷ after) (e ∙ append_assoc before (a ∷ between) (b ∷ after))
          (λ x y p v. within_at v between b after refl
          (λ z u q _. o.rises x a z b u (p ∙ ap (λ g. x ++ Does a ∷ g) q ∙ sym (append_assoc x (Does a ∷ z) (Does b ∷ u))) c));
    }

-- the committed part of a history in number order is in number order
pub number_order_part : (h : History) → ActsInNumberOrder h → InNumberOrder (committed_part h)
number_order_part h o = within_order (committed_part_within h) o

-- and so are the actions whose run ends with a commit
pub number_order_committed : (h : History) → ActsInNumberOrder h → InNumberOrder (committed h)
number_order_committed h o = within_order (committed_within h) o

-- if every later action that conflicts with a is by a larger number than a's, a job with such an action has a larger number
touches_rises : (a : Action) (j : ℕ) (s : Schedule) → ((between : Schedule) (b : Action) (after : Schedule) → s ≡ between ++ b ∷ after → conflicts a b ≡ true → a.job < b.job) → touches a j s ≡ true → a.job < j
unfolding touches
touches_rises a j [] h t = not_both t refl
touches_rises a j (b ∷ s) h t =
    touches_cases a j b s t (λ m c. rw (eqb-true b.job j m) at (h [] b s refl c))
    (λ l. touches_rises a j s (λ between d after e. h (b ∷ between) d after (ap (λ r. b ∷ r) e)) l)

-- every edge of a schedule in number order goes from the smaller number to the larger
pub rising_edges : (s : Schedule) → InNumberOrder s → (i j : ℕ) → edge s i j ≡ true → i < j
unfolding edge
rising_edges [] o i j h = not_both h refl
rising_edges (a ∷ s) o i j h =
    edge_cases a s i j h
    (λ m t. rw (eqb-true a.job i m) at (touches_rises a j s (λ between b after e. o.rises [] a between b after (ap (λ r. a ∷ r) e)) t))
    (λ l. rising_edges s (record { rises = λ before b between d after e. o.rises (a ∷ before) b between d after (ap (λ r. a ∷ r) e) }) i j l)

-- so every edge goes forward in any ascending list of the jobs
pub ascending_forward : (order : List ℕ) (s : Schedule) → ascending order ≡ true → names order s ≡ true → InNumberOrder s → Forward order s
ascending_forward order s up all o =
    record {
      once = ascending_once order up;
      all = all;
      ahead = λ i j e. let ends = edge_names order s i j all e in ascending_ahead order up i j ends.0 ends.1 (rising_edges s o i j e);
    }

-- the ascending list of the jobs with a c has each once
pub ascending_commits_once : (h : History) → distinct (sorted (commit_order h)) ≡ true
ascending_commits_once h = ascending_once (sorted (commit_order h)) (sorted_ascending (commit_order h))

-- and has exactly these jobs
pub ascending_commits : (h : History) (j : ℕ) → member j (sorted (commit_order h)) ≡ marked is_commit j h
ascending_commits h j = sorted_member (commit_order h) j ∙ listed j h

module _ (h : History) (o : ActsInNumberOrder h) where
  -- every edge of the committed part goes forward in that order
  number_order_forward : Forward (sorted (commit_order h)) (committed_part h)
  number_order_forward =
      ascending_forward (sorted (commit_order h)) (committed_part h) (sorted_ascending (commit_order h))
      (committed_part_names (sorted (commit_order h)) h (λ j m. ascending_commits h j ∙ m)) (number_order_part h o)

  -- ASCENDING NUMBERS ARE A SERIAL ORDER: swaps turn the committed part of a history in number order into its jobs one after another in ascending numbers (02, No. 6)
  pub number_order_serial : Equivalent (committed_part h) (serial (sorted (commit_order h)) (committed_part h))
  number_order_serial = forward (sorted (commit_order h)) (committed_part h) number_order_forward

  -- so it is conflict-serializable
  pub number_order_serializable : ConflictSerializable (committed_part h)
  number_order_serializable = forward_serializable (sorted (commit_order h)) (committed_part h) number_order_forward

  -- and has no knot
  pub number_order_no_knot : (js : List ℕ) → knot (edge (committed_part h)) js ≡ true → ⊥
  number_order_no_knot js k = refuted (committed_part h) js k number_order_serializable
