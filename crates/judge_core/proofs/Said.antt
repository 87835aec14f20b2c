-- The verdict: an order if no job remains, else the knot, with the jobs that fill the buffer.
-- Assumes nothing.
use Prim.Native.Nat.{ℕ, ◌-◌, ◌≤◌, ◌<◌}
use mathlib.Core.Path.{◌≡◌, refl, sym, ap, ◌∙◌, subst}
use mathlib.Core.Bool.{Bool, true}
use mathlib.Core.List.{List, [], ◌∷◌, ◌++◌}
use native.Mathlib.Omega.{arith}
use lib.ListN.{length, take, drop, length-take, length-drop}
use Rattle.laws.specs.Lists.{member, filled}
use Rattle.laws.specs.Sorted.{ascending}
use Rattle.conflict.specs.Schedule.{edge}
use Rattle.conflict.specs.History.{History, committed_part}
use Rattle.judge_rules.specs.declared.verdict.Verdict.{Verdict}
use Rattle.judge_rules.specs.declared.verdict.Verdict.TheVariants.{Orderly, Knot}
use Rattle.judge_rules.specs.Order.{Edges, first, preceded, order_of, stuck}
use Rattle.judge_rules.specs.Knot.{walk, turn, knot_in}
use Rattle.judge_rules.specs.Judged.{orderly, knotted, finding_by, judged, jobs_of, finding_of}
use Rattle.judge_rules.specs.Meant.{Knotted}
use Rattle.judge_rules.specs.Judgement.{say_finding}
use Rattle.judge_rules.proofs.Firsts.{first_is}
use Rattle.judge_rules.proofs.Orders.{taken_only, taken_once, rest_ascending}
use Rattle.judge_rules.proofs.Remains.{rest_preceded}
use Rattle.judge_rules.proofs.Taking.{order_taken}
use Rattle.judge_rules.proofs.Walking.{no_more}
use Rattle.judge_rules.proofs.OneKnot.{looks_enough}
use Rattle.judge_rules.proofs.Histories.{jobs_ascending, knot_shows}
use Rattle.std.specs.Prelude.{None, Some, Option}
use Rattle.std.specs.List.{position}
use Rattle.judge_core.specs.Left.{left_of}
use Rattle.judge_core.specs.Preceding.{walk_by}
use Rattle.judge_core.specs.Taking.{Took}
use Rattle.judge_core.specs.Rounds.{RoundAt}
use Rattle.judge_core.proofs.Turning.{turn_length}
use Rattle.judge_core.proofs.Seeking.{left_position, found_small, left_few, left_is}
use Rattle.judge_core.proofs.Trail.{walk_known}

-- how many jobs a cycle on a trail has
round_length : (round trail : List ℕ) (a b : ℕ) → RoundAt round trail a b → length round ≡ b - a
round_length round trail a b r =
    sym (ap length r.listed) ∙ length-take (b - a) (drop a trail) ∙ rw (length-drop a trail) (omega (arith, r.starting, r.within))

module _ (round trail : List ℕ) (a b : ℕ) (r : RoundAt round trail a b) where
  -- the knot has room where the cycle turned has
  pub knot_room : (m : ℕ) → length (turn round) ≤ m → length (take (b - a) (drop a trail)) ≤ m
  knot_room m h = rw (r.listed, ← turn_length round) h

  -- its length is said
  pub knot_said : (buffer : List ℕ) → Knot (b - a) ≡ (say_finding buffer (knotted (turn round))).said
  unfolding say_finding
  knot_said buffer = rw (turn_length round, round_length round trail a b r)

  -- and its jobs fill the buffer
  pub knot_put : (buffer last : List ℕ) → last ≡ filled (turn (take (b - a) (drop a trail))) buffer → last ≡ (say_finding buffer (knotted (turn round))).order
  unfolding say_finding
  knot_put buffer last e = e ∙ rw r.listed

-- where nobody is the first there is nobody
first_nobody : (js : List ℕ) → first (λ j. true) js ≡ None → js ≡ []
unfolding first
first_nobody [] h = refl
first_nobody (j ∷ js) h =
    let here' : Some j ≡ None = h in
    let z : ◌≡◌ {A = ℕ} 0 1 = cc in
    absurd (omega arith)

-- and the first job leads the others
first_leads : (js : List ℕ) (s : ℕ) → first (λ j. true) js ≡ Some s → (rest : List ℕ) × (js ≡ s ∷ rest)
unfolding first
first_leads [] s h =
    let here' : ◌≡◌ {A = Option ℕ} None (Some s) = h in
    let z : ◌≡◌ {A = ℕ} 0 1 = cc in
    absurd (omega arith)
first_leads (j ∷ js) s h =
    let here' : Some j ≡ Some s = h in
    let e : j ≡ s = cc in
    (js, ap (λ i. i ∷ js) e)

-- where jobs remain, the verdict is the knot in which the walk back from the smallest ends, however many more may be looked at
stuck_knot : (e : Edges) (jobs : List ℕ) (s : ℕ) (rest : List ℕ) (n : ℕ) → ascending jobs ≡ true → stuck e jobs ≡ s ∷ rest → length (s ∷ rest) < n → judged e jobs ≡ knotted (turn (walk e (s ∷ rest) n [] s))
unfolding judged finding_by knot_in
stuck_knot e jobs s rest n up q b =
    let rising : ascending (s ∷ rest) ≡ true = subst (λ l. ascending l ≡ true) q (rest_ascending e (order_taken e jobs) up) in
    let each : (j : ℕ) → member j (s ∷ rest) ≡ true → preceded e (s ∷ rest) j ≡ true =
    subst (λ l. (j : ℕ) → member j l ≡ true → preceded e l j ≡ true) q (rest_preceded e (order_taken e jobs)) in
    rw q (ap (λ r. knotted (turn r)) (sym (looks_enough e s rest rising each n b)))

module _ (h : History) (left : List Bool) (placed predecessors : List ℕ) (k : ℕ) (t : Took h left placed predecessors k) where
  -- no more jobs are taken than the buffer has places
  pub took_few : k ≤ 255
  took_few =
      let e : Edges = edge (committed_part h) in
      let most : length (order_of e (jobs_of h)) ≤ length (jobs_of h) =
      no_more (order_of e (jobs_of h)) (jobs_of h) (taken_once e (order_taken e (jobs_of h))) (taken_only e (order_taken e (jobs_of h))) in
      omega (arith, t.few, t.count)

  -- the jobs taken are as many as are told
  pub took_long : length (take k placed) ≡ k
  took_long = ap length t.order ∙ sym t.count

  module _ (w : length left ≡ 256) where
    module _ (found : None ≡ position (λ b. b) left) where
      -- where nobody remains the verdict is the order
      took_order : finding_of h ≡ orderly (take k placed)
      unfolding finding_of judged finding_by
      took_order =
          let none' : stuck (edge (committed_part h)) (jobs_of h) ≡ [] = sym t.remains ∙ first_nobody (left_of left) (sym (found ∙ left_position left w)) in
          rw (none', t.order)

      -- the order's length is said
      pub said_order : (buffer : List ℕ) → Orderly k ≡ (say_finding buffer (finding_of h)).said
      unfolding say_finding
      said_order buffer = rw took_order (ap Orderly (t.count ∙ sym (ap length t.order)))

      -- and its jobs fill the buffer
      pub put_order : (buffer put : List ℕ) → put ≡ take k placed → put ++ drop k buffer ≡ (say_finding buffer (finding_of h)).order
      unfolding say_finding filled
      put_order buffer put e = rw (took_order, took_long, e)

    module _ (s : ℕ) (found : Some s ≡ position (λ b. b) left) where
      -- the first of the jobs that remain
      leads : first (λ j. true) (left_of left) ≡ Some s
      leads = sym (found ∙ left_position left w)

      -- where one remains the verdict is the knot
      pub took_knot : (s < 256) × (finding_of h ≡ knotted (turn (walk_by predecessors 257 [] s)))
      unfolding finding_of
      took_knot =
          let small = found_small left (λ j. true) s leads in
          let leads' = first_leads (left_of left) s leads in (
            small,
            stuck_knot (edge (committed_part h)) (jobs_of h) s leads'.0 257 (jobs_ascending h) (sym t.remains ∙ leads'.1)
                (subst (λ l. length l < 257) leads'.1 (omega (arith, left_few left)))
                ∙ ap (λ l. knotted (turn (walk (edge (committed_part h)) l 257 [] s))) (sym leads'.1)
                ∙ ap (λ r. knotted (turn r)) (sym (walk_known (edge (committed_part h)) left predecessors t.known 257 [] s small (left_is left s (first_is (λ j. true) (left_of left) s leads).0))),
          )

      -- and has room in the buffer
      pub took_room : length (turn (walk_by predecessors 257 [] s)) ≤ 255
      took_room =
          let shows : Knotted (edge (committed_part h)) (jobs_of h) (turn (walk_by predecessors 257 [] s)) = knot_shows h (turn (walk_by predecessors 257 [] s)) took_knot.1 in
          omega (arith, t.few, no_more (turn (walk_by predecessors 257 [] s)) (jobs_of h) shows.once shows.only)

      -- its length is said
      pub said_knot : (buffer : List ℕ) (r : Verdict) → r ≡ (say_finding buffer (knotted (turn (walk_by predecessors 257 [] s)))).said → r ≡ (say_finding buffer (finding_of h)).said
      said_knot buffer r e = e ∙ ap (λ v. (say_finding buffer v).said) (sym took_knot.1)

      -- and its jobs fill the buffer
      pub put_knot : (buffer last : List ℕ) → last ≡ (say_finding buffer (knotted (turn (walk_by predecessors 257 [] s)))).order → last ≡ (say_finding buffer (finding_of h)).order
      put_knot buffer last e = e ∙ ap (λ v. (say_finding buffer v).order) (sym took_knot.1)
