-- The job whose run ends and the jobs woken are named once and have places, of which there are 32. So at most 31 are woken in a step (01, rule 4; 01, What is delivered).
-- Assumes nothing.
use Prim.Native.Nat.{ℕ, ◌≤◌}
use mathlib.Core.Path.{◌≡◌, refl, sym, ap, ◌∙◌, subst}
use mathlib.Core.Logic.{◌≢◌, ◌⊎◌, inl, inr}
use mathlib.Core.Bool.{true, false, ◌||◌}
use mathlib.Core.List.{List, [], ◌∷◌, map}
use lib.ListN.{length, length-map}
use native.Mathlib.Omega.{arith}
use lib.Dec.{eqb}
use Rattle.laws.specs.Choice.{by_test}
use Rattle.laws.specs.Lists.{member, distinct}
use Rattle.laws.proofs.Lists.{member_split}
use Rattle.laws.proofs.Pigeonhole.{no_longer}
use Rattle.conflict.specs.declared.action.Action.{Action}
use Rattle.desks.specs.Request.{Request}
use Rattle.desk_rules.specs.Desk.{Desk, is_open}
use Rattle.desk_rules.specs.Rules.{is_woken}
use Rattle.desk_rules.specs.Step.{step}
use Rattle.desk_rules.specs.Effects.{RunEnds, by_commit, by_give_up, by_back}
use Rattle.desk_rules.specs.Invariant.{Inv}
use Rattle.desk_rules.specs.WakeOrder.{Before, next, further}
use Rattle.desk_rules.proofs.Statuses.{running_open, waiting_open}
use Rattle.desk_rules.proofs.AnswerTells.{commit_went, give_up_went, ask_back}
use Rattle.desk_rules.proofs.Wakes.{woken_in}
use Rattle.desk_rules.proofs.RunEnd.{wakes_after, woken_waited, self_not_woken}
use Rattle.desk_rules.proofs.RunEnded.{ran}

-- the jobs of some wakes
abbrev jobs_of : List Action → List ℕ
jobs_of xs = map (λ (x : Action). x.job) xs

-- a job is woken exactly if it is among these jobs
woken_named : (j : ℕ) (xs : List Action) → member j (jobs_of xs) ≡ is_woken j xs
unfolding member is_woken
woken_named j [] = refl
woken_named j (x ∷ xs) = ap (λ b. eqb x.job j || b) (woken_named j xs)

-- if no job is told twice, they are named once
named_once : (xs : List Action) → ((x y : Action) → Before x y xs → x.job ≢ y.job) → distinct (jobs_of xs) ≡ true
unfolding distinct
named_once [] apart = refl
named_once (x ∷ xs) apart =
    let f : member x.job (jobs_of xs) ≡ false = woken_named x.job xs ∙ by_test (is_woken x.job xs) (λ t. let (y, i, e) = woken_in x.job xs t in absurd (apart x y (next i) (sym e))) (λ g. g) in
    rw (f, named_once xs (λ y z b. apart y z (further b)))

-- the job whose run ends was open
ends_open : (d : Desk) (r : Request) → RunEnds (step d r).said r → is_open (d.stat r.job) ≡ true
ends_open d r (by_commit l g) = running_open (commit_went d r r.job l g).was
ends_open d r (by_give_up l g) = (give_up_went d r r.job l g).was
ends_open d r (by_back g) = running_open (ask_back d r r.job g).was.1.runs

module _ {d : Desk} (v : Inv d) (r : Request) where
  -- when its run ends, it and the woken jobs have places
  all_seated : RunEnds (step d r).said r → (i : ℕ) → member i (r.job ∷ jobs_of (wakes_after d r.job)) ≡ true → member i d.jobs ≡ true
  all_seated b i m =
      member_split r.job (jobs_of (wakes_after d r.job)) i m (λ e. subst (λ j. member j d.jobs ≡ true) e (v.seats r.job (ends_open d r b)))
      (λ t. let (c, a, q, _) = woken_waited v r.job i (sym (woken_named i (wakes_after d r.job)) ∙ t) in v.seats i (waiting_open q))

  -- so at most 31 are woken
  pub few_woken : ((x y : Action) → Before x y (wakes_after d r.job) → x.job ≢ y.job) → ((step d r).wakes ≡ []) ⊎ RunEnds (step d r).said r → length (step d r).wakes ≤ 31
  unfolding distinct
  few_woken apart (inl e) = subst (λ ws. length ws ≤ 31) (sym e) (omega arith)
  few_woken apart (inr b) =
      let ws = wakes_after d r.job in
      let once : distinct (r.job ∷ jobs_of ws) ≡ true = rw (woken_named r.job ws ∙ self_not_woken v r.job, named_once ws apart) in
      let l : length (r.job ∷ jobs_of ws) ≤ length d.jobs = no_longer (r.job ∷ jobs_of ws) d.jobs once (all_seated b) in
      let n : length (jobs_of ws) ≡ length ws = length-map ws (λ (x : Action). x.job) in
      let k : length ws ≤ 31 = omega (arith, v.size) in
      subst (λ xs. length xs ≤ 31) (sym (ran d r b).wakes) k
