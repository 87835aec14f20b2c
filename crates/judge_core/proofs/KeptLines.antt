-- The committed part of a history kept in arrays: the actions on the lines that count, in order.
-- Assumes nothing.
use Prim.Native.Nat.{ℕ, zero, suc, ◌+◌}
use mathlib.Core.Path.{◌≡◌, refl, sym, ap, ap₂, ◌∙◌}
use mathlib.Core.Bool.{Bool, true, false, not, ◌&&◌, ◌||◌}
use mathlib.Core.List.{List, map}
use native.Mathlib.Nat.{zero-add}
use native.Mathlib.Omega.{arith}
use lib.Dec.{ltb, leb, eqb}
use lib.ListN.{get_or}
use borrow.Author.Tests.{ltb-true, le-ltb}
use Rattle.laws.specs.Lists.{put}
use Rattle.conflict.specs.declared.action.Action.{Action}
use Rattle.conflict.specs.Schedule.{keep}
use Rattle.conflict.specs.History.{is_commit, is_back, marked, part_of, committed_part}
use Rattle.conflict.proofs.Clauses.{keep_it, keep_not}
use Rattle.conflict.proofs.OneEvent.{part_none, part_whole}
use Rattle.judge_rules.specs.Arrays.{history_by}
use Rattle.judge_core.specs.Lists.{listed}
use Rattle.judge_core.specs.Counted.{has_commit, counted_from}
use Rattle.judge_core.specs.Meeting.{action_at}
use Rattle.judge_core.specs.Kept.{event_at}
use Rattle.judge_core.proofs.Codes.{part_line, back_line}
use Rattle.judge_core.proofs.Events.{events_from, history_events}
use Rattle.judge_core.proofs.Marked.{has_commit_lem, counted_since}

-- a line that is put in front brings its action
pub put_map : (act : ℕ → Action) (b : Bool) (k : ℕ) (ks : List ℕ) → map act (put b k ks) ≡ keep b (act k) (map act ks)
unfolding put
put_map act true k ks = sym (keep_it (act k) (map act ks))
put_map act false k ks = sym (keep_not (act k) (map act ks))

-- where the first does not hold, the second need not be looked at
and_under : (a b c : Bool) → (a ≡ true → b ≡ c) → (a && b) ≡ (a && c)
and_under true b c h = h refl
and_under false b c h = refl

-- what cannot be is not
and_none : (a b : Bool) → ((a && false) || b) ≡ b
and_none true b = refl
and_none false b = refl

module _ (codes jobs cells : List ℕ) where
  -- line p is an action of a job with a c among the first n lines, and stands where that job's actions count
  unfoldable pub counts : ℕ → ℕ → Bool
  counts n p = ltb (get_or codes p 0) 3 && (has_commit codes jobs n (get_or jobs p 0) && leb (counted_from codes jobs n (get_or jobs p 0)) p)

  -- an action is no k
  act_no_back : (j k m : ℕ) → ltb (get_or codes k 0) 3 ≡ true → marked is_back j (events_from codes jobs cells k (suc m)) ≡ marked is_back j (events_from codes jobs cells (suc k) m)
  unfolding events_from event_at
  act_no_back j k m t =
      let low : ltb 4 (get_or codes k 0) ≡ false = le-ltb 4 (get_or codes k 0) (omega (arith, ltb-true (get_or codes k 0) 3 t)) in
      back_line (get_or codes k 0) (get_or jobs k 0) (get_or cells k 0) j (events_from codes jobs cells (suc k) m)
      ∙ ap (λ b. (eqb (get_or jobs k 0) j && b) || marked is_back j (events_from codes jobs cells (suc k) m)) low
      ∙ and_none (eqb (get_or jobs k 0) j) (marked is_back j (events_from codes jobs cells (suc k) m))

  -- a line counts where it is an action of a job with a c and no k of that job follows
  counts_is : (k m : ℕ) → (ltb (get_or codes k 0) 3 && (marked is_commit (get_or jobs k 0) (history_by codes jobs cells (k + suc m)) && not (marked is_back (get_or jobs k 0) (events_from codes jobs cells (suc k) m)))) ≡ counts (k + suc m) k
  unfolding counts
  counts_is k m =
      and_under (ltb (get_or codes k 0) 3)
      (marked is_commit (get_or jobs k 0) (history_by codes jobs cells (k + suc m)) && not (marked is_back (get_or jobs k 0) (events_from codes jobs cells (suc k) m)))
      (has_commit codes jobs (k + suc m) (get_or jobs k 0) && leb (counted_from codes jobs (k + suc m) (get_or jobs k 0)) k)
      (λ t. ap₂ (λ a b. a && b) (has_commit_lem codes jobs cells (get_or jobs k 0) (k + suc m))
      (ap not (sym (act_no_back (get_or jobs k 0) k m t)) ∙ sym (counted_since codes jobs cells (get_or jobs k 0) k (suc m))))

  -- of the lines from k on the committed part has those that count
  part_from : (n k m : ℕ) → k + m ≡ n → part_of (history_by codes jobs cells n) (events_from codes jobs cells k m) ≡ map (action_at codes jobs cells) (listed (counts n) k m)
  unfolding events_from event_at listed action_at
  part_from n k zero e = part_none (history_by codes jobs cells n)
  part_from n k (suc m) e =
      part_line (get_or codes k 0) (get_or jobs k 0) (get_or cells k 0) (history_by codes jobs cells n) (events_from codes jobs cells (suc k) m)
      ∙ ap₂ (λ b s. keep b (action_at codes jobs cells k) s) (rw (← e) (counts_is k m)) (part_from n (suc k) m (omega arith))
      ∙ sym (put_map (action_at codes jobs cells) (counts n k) k (listed (counts n) (suc k) m))

  -- the committed part is the actions on the lines that count
  pub part_lines : (n : ℕ) → committed_part (history_by codes jobs cells n) ≡ map (action_at codes jobs cells) (listed (counts n) 0 n)
  part_lines n =
      part_whole (history_by codes jobs cells n)
      ∙ ap (part_of (history_by codes jobs cells n)) (history_events codes jobs cells n)
      ∙ part_from n 0 n (zero-add n)
