-- No second result, and no second content of a field, meets the contract of a step in place, by letter or by byte; no second result meets that of the step by value or of the plan.
-- Assumes nothing.
use mathlib.Core.Path.{sym, ◌∙◌}
use Rattle.laws.specs.Unique.{Unique, UniqueLent}
use Rattle.stamp_arrays.specs.Steps.{stamps_of}
use Rattle.stamp_desk.proofs.plan.plan_for.Reads as plan-for
use Rattle.stamp_desk.proofs.plan.plan_for.Kinds as plan-forK
use Rattle.stamp_desk.proofs.step.step.Reads as step
use Rattle.stamp_desk.proofs.step.step.Kinds as stepK
use Rattle.stamp_desk.proofs.step.step_on.Reads as step_on
use Rattle.stamp_desk.proofs.step.step_on.Kinds as step-onK
use Rattle.stamp_desk.proofs.step.step_in.Reads as step-in
use Rattle.stamp_desk.proofs.step.step_in.Kinds as step-inK
use Rattle.stamp_desk.proofs.step.step_for.Reads as step-for
use Rattle.stamp_desk.proofs.step.step_for.Kinds as step-forK

pub plan_for_unique : Unique plan-forK.ps plan-forK.r plan-for.Post
plan_for_unique κs a x y e f p q = p ∙ sym q

pub step_for_unique : UniqueLent step-forK.ps step-forK.r step-for.Post (λ κs e. stamps_of e.0.now e.1.0.now e.1.1.0.now e.1.1.1.0.now)
step_for_unique κs a x y e f p q = (p.said ∙ sym q.said, p.desk ∙ sym q.desk)

pub step_on_unique : UniqueLent step-onK.ps step-onK.r step_on.Post (λ κs e. stamps_of e.0.now e.1.0.now e.1.1.0.now e.1.1.1.0.now)
step_on_unique κs a x y e f p q = (p.said ∙ sym q.said, p.desk ∙ sym q.desk)

pub step_in_unique : UniqueLent step-inK.ps step-inK.r step-in.Post (λ κs e. e.0.now)
step_in_unique κs a x y e f p q = (p.said ∙ sym q.said, p.desk ∙ sym q.desk)

pub step_unique : Unique stepK.ps stepK.r step.Post
step_unique κs a x y e f p q = p ∙ sym q
