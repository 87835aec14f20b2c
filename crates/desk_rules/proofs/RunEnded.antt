-- A commit, a give-up and a sending back carry out rule 4, and only they wake jobs (01, rule 4).
-- Assumes nothing.
use Prim.Native.Nat.{ℕ}
use mathlib.Core.Path.{◌≡◌, refl, ap, subst}
use mathlib.Core.Logic.{◌⊎◌, inl, inr}
use mathlib.Core.List.{[]}
use Rattle.terms.specs.Limits.{cells}
use Rattle.conflict.specs.declared.action.Action.{Action}
use Rattle.desks.specs.Request.{Request}
use Rattle.laws.specs.Standing.{In}
use Rattle.desk_rules.specs.Desk.{Desk}
use Rattle.desks.specs.Begin.{refused}
use Rattle.desk_rules.specs.Rules.{Outcome, rows_after, rule4, close, send_back}
use Rattle.desk_rules.specs.Step.{step}
use Rattle.desk_rules.specs.Moves.{Moved, refuses, begins, commits, gives_up, retries, has_it, promotes, waits_in_front, enters, waits_last, goes_back}
use Rattle.desk_rules.specs.Effects.{RunEnds, by_commit, by_give_up, by_back}
use Rattle.desk_rules.proofs.Moved.{step_moved}
use Rattle.laws.proofs.Standing.{in_none}
use Rattle.desk_rules.proofs.AnswerTells.{commit_went, give_up_went, ask_back}
use Rattle.desk_rules.proofs.RunEnd.{wakes_after}
use Rattle.desk_rules.proofs.WakeOrder.{GrantedAt, search_order}

-- a step that ends a run leaves the cells and tells the wakes of rule 4
pub record Ran (d : Desk) (r : Request) : Type 0 where
  pub wakes : (step d r).wakes ≡ wakes_after d r.job
  pub row : (c : ℕ) → (step d r).desk.row c ≡ (rows_after d r.job c).row

-- and every commit, give-up and sending back is such a step
pub ran : (d : Desk) (r : Request) → RunEnds (step d r).said r → Ran d r
unfolding close send_back rule4
ran d r (by_commit l g) = let e = (commit_went d r r.job l g).outcome in record { wakes = ap (λ o. o.wakes) e; row = λ c. ap (λ o. o.desk.row c) e }
ran d r (by_give_up l g) = let e = (give_up_went d r r.job l g).outcome in record { wakes = ap (λ o. o.wakes) e; row = λ c. ap (λ o. o.desk.row c) e }
ran d r (by_back g) = let e = (ask_back d r r.job g).outcome in record { wakes = ap (λ o. o.wakes) e; row = λ c. ap (λ o. o.desk.row c) e }

-- in any move, only a commit, a give-up or a sending back wakes jobs
pub only_rule_4 : {d : Desk} {r : Request} {o : Outcome} → Moved d r o → (o.wakes ≡ []) ⊎ RunEnds o.said r
only_rule_4 (refuses why _) = unfold refused in inl refl
only_rule_4 (begins l n m) = inl refl
only_rule_4 (commits l s) = inr (by_commit l (unfold rule4 in refl))
only_rule_4 (gives_up l s) = inr (by_give_up l (unfold rule4 in refl))
only_rule_4 (retries l s) = inl refl
only_rule_4 (has_it b k x) = inl refl
only_rule_4 (promotes b k x f z) = inl refl
only_rule_4 (waits_in_front b k x f z w) = inl refl
only_rule_4 (enters b k f z w) = inl refl
only_rule_4 (waits_last b k f z w u) = inl refl
only_rule_4 (goes_back b k x) = inr (by_back (unfold rule4 in refl))

-- so a wake comes from rule 4, and was granted at a cell that is searched
pub wake_ran : (d : Desk) (r : Request) (x : Action) → In x (step d r).wakes → Ran d r × GrantedAt (rows_after d r.job) cells x
wake_ran d r x m = by_side (only_rule_4 (step_moved d r))
  where
    by_side : ((step d r).wakes ≡ []) ⊎ RunEnds (step d r).said r → Ran d r × GrantedAt (rows_after d r.job) cells x
    by_side (inl e) = in_none (subst (In x) e m)
    by_side (inr b) = (ran d r b, (search_order (rows_after d r.job) cells).granted (subst (In x) (ran d r b).wakes m))
