-- The knot in words: what the judge finds for jobs and their edges, and for a history, is a knot exactly if the words have one, and there is no second list (01, The judge's rules: Knot).
-- Assumes nothing.
use Prim.Native.Nat.{ℕ, zero, suc, ◌+◌, ◌-◌, ◌≤◌, ◌<◌}
use mathlib.Core.Path.{◌≡◌, refl, sym, ap, ◌∙◌, subst}
use mathlib.Core.Logic.{◌↔◌}
use mathlib.Core.Bool.{true}
use mathlib.Core.List.{List, ◌∷◌}
use native.Mathlib.Omega.{arith}
use lib.ListN.{length, get_or, length-append, get_or-append}
use lib.Seq.{get_or-append_seam, get_or-append-add}
use Rattle.laws.specs.Choice.{not_both}
use Rattle.laws.specs.Lists.{member}
use Rattle.laws.specs.Sorted.{ascending}
use Rattle.conflict.specs.Schedule.{edge}
use Rattle.conflict.specs.History.{History, committed_part}
use Rattle.judge_rules.specs.Order.{Edges, stuck}
use Rattle.judge_rules.specs.Knot.{up_to}
use Rattle.judge_rules.specs.Judged.{orderly, knotted, judged, jobs_of, finding_of}
use Rattle.judge_rules.specs.Meant.{Shown}
use Rattle.judge_rules.specs.KnotWorded.{Remains, KnotTold}
use Rattle.judge_rules.proofs.Turns.{turned_member}
use Rattle.judge_rules.proofs.Places.{at_member, pos_at, up_to_size, up_to_at}
use Rattle.judge_rules.proofs.KnotPlaces.{remains_exactly, way, last, apart, first, from_last, comes_again}
use Rattle.judge_rules.proofs.Remains.{remains_stuck}
use Rattle.judge_rules.proofs.SmallestFirst.{smallest_first_takes}
use Rattle.judge_rules.proofs.Judging.{says_smallest_first, says_shown}
use Rattle.judge_rules.proofs.Deciding.{by_finding}
use Rattle.judge_rules.proofs.Histories.{jobs_ascending}
use Rattle.judge_rules.proofs.OneWorded.{told_only}

module _ (e : Edges) (jobs : List ℕ) {js : List ℕ} (s : Shown e (stuck e jobs) js) where
  -- the list before it is turned has as many jobs as stand between the two comings
  round_size : length s.round ≡ suc (apart e jobs s.closed)
  round_size = ap length s.closed.along ∙ ap suc (up_to_size s.closed.job s.closed.seen s.closed.again)

  parts_size : length s.ahead + suc (length s.rest) ≡ suc (apart e jobs s.closed)
  parts_size = sym (length-append s.ahead (s.leader ∷ s.rest)) ∙ sym (ap length s.parts) ∙ round_size

  -- the same job stands before it
  between : apart e jobs s.closed < last e jobs s.closed
  between = (pos_at s.closed.seen s.closed.job s.closed.again).0

  -- its places are counted back from the last coming
  round_place : (k m : ℕ) → k < length s.round → m + k ≡ last e jobs s.closed → get_or s.round k 0 ≡ get_or (way e jobs s.closed) m 0
  round_place k m h p =
      let c = s.closed in
      ap (λ l. get_or l k 0) c.along ∙ in_front k (subst (λ l. k < length l) c.along h) ∙ sym (from_last e jobs c m k p)
    where
      in_front : (k : ℕ) → k < length (s.closed.job ∷ up_to s.closed.job s.closed.seen) → get_or (s.closed.job ∷ up_to s.closed.job s.closed.seen) k 0 ≡ get_or (s.closed.job ∷ s.closed.seen) k 0
      in_front zero h = refl
      in_front (suc k) h = up_to_at s.closed.job s.closed.seen k (omega arith)

  -- a job that stands in the knot's cycle is one of the knot
  place_told : (k : ℕ) → k < length s.round → s.leader ≤ get_or s.round k 0
  place_told k h =
      let j : ℕ = get_or s.round k 0 in
      s.smallest j (ap (member j) s.turned ∙ turned_member j (s.leader ∷ s.rest) s.ahead ∙ sym (ap (member j) s.parts) ∙ at_member s.round k h)

  -- the place that the smallest of the cycle stands at
  abbrev from : ℕ
  from = last e jobs s.closed - length s.ahead

  at_from : get_or (way e jobs s.closed) from 0 ≡ s.leader
  at_from =
      sym (round_place (length s.ahead) from (omega (arith, round_size, parts_size)) (omega (arith, parts_size, between)))
      ∙ ap (λ r. get_or r (length s.ahead) 0) s.parts ∙ get_or-append_seam s.ahead s.leader s.rest 0

  -- up to the first coming it is told backwards from there
  goes_back : (k : ℕ) → k < suc (length s.rest) → get_or js k 0 ≡ get_or (way e jobs s.closed) (from - k) 0
  goes_back k h =
      ap (λ r. get_or r k 0) s.turned ∙ get_or-append (s.leader ∷ s.rest) s.ahead 0 k h
      ∙ sym (get_or-append-add s.ahead (s.leader ∷ s.rest) k 0) ∙ sym (ap (λ r. get_or r (length s.ahead + k) 0) s.parts)
      ∙ round_place (length s.ahead + k) (from - k) (omega (arith, round_size, parts_size)) (omega (arith, parts_size, between))

  -- and then backwards from the last
  goes_on : (k m : ℕ) → k < length s.ahead → m ≡ suc (length s.rest) + k → get_or js m 0 ≡ get_or (way e jobs s.closed) (last e jobs s.closed - k) 0
  goes_on k m h q =
      ap (λ r. get_or js r 0) q ∙ ap (λ r. get_or r (length (s.leader ∷ s.rest) + k) 0) s.turned ∙ get_or-append-add (s.leader ∷ s.rest) s.ahead k 0
      ∙ sym (get_or-append s.ahead (s.leader ∷ s.rest) 0 k h) ∙ sym (ap (λ r. get_or r k 0) s.parts)
      ∙ round_place k (last e jobs s.closed - k) (omega (arith, round_size, parts_size)) (omega (arith, parts_size, between))

  -- the paper's knot is that of the words
  pub shown_told : KnotTold e jobs js
  shown_told = record {
    way = way e jobs s.closed;
    first = first e jobs s.closed;
    last = last e jobs s.closed;
    comes = comes_again e jobs s.closed;
    from = from;
    behind = omega (arith, parts_size, between);
    within = omega arith;
    smallest = λ k a b.
        let place : ℕ = last e jobs s.closed - k in
        omega (arith, at_from, place_told place (omega (arith, round_size)), round_place place k (omega (arith, round_size)) (omega arith));
    size = ap length s.turned ∙ length-append (s.leader ∷ s.rest) s.ahead ∙ omega (arith, parts_size, between);
    back = λ k a. goes_back k (omega (arith, parts_size, between));
    on = λ k a. goes_on k _ (omega (arith, parts_size, between)) (omega (arith, parts_size, between));
  }

module _ (e : Edges) (jobs : List ℕ) (up : ascending jobs ≡ true) where
  -- if an order is found, no job remains
  order_none : (order : List ℕ) → judged e jobs ≡ orderly order → (j : ℕ) → Remains e jobs j → ⊥
  unfolding member
  order_none order h j r =
      not_both ((remains_exactly e jobs j).0 r) (ap (member j) (sym (remains_stuck e (smallest_first_takes e jobs order (says_smallest_first e jobs up order h)))))

  -- a knot is found exactly if the words have it
  pub knot_worded : (js : List ℕ) → (judged e jobs ≡ knotted js) ↔ KnotTold e jobs js
  knot_worded js = (
    λ h. shown_told e jobs (says_shown e jobs up js h),
    λ t. by_finding (judged e jobs) (λ order h. absurd (order_none order h (get_or t.way 0 0) t.comes.start.among))
        (λ ks h. h ∙ ap knotted (told_only (shown_told e jobs (says_shown e jobs up ks h)) t)),
  )

-- a knot is found for a history exactly if the words have it for its committed jobs and the edges of its committed part
pub knot_found : (h : History) (js : List ℕ) → (finding_of h ≡ knotted js) ↔ KnotTold (edge (committed_part h)) (jobs_of h) js
unfolding finding_of
knot_found h js = knot_worded (edge (committed_part h)) (jobs_of h) (jobs_ascending h) js
