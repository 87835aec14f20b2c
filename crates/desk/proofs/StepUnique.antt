-- No second result, and no second content of a field, of a whole desk or of the list, meets the contract of a step in place, by letter or by byte; no second result meets that of the step by value or of the wakes.
-- Assumes nothing.
use mathlib.Core.Path.{◌≡◌, sym, ◌∙◌}
use mathlib.Core.List.{List}
use Prim.Native.Nat.{ℕ}
use Rattle.laws.specs.Unique.{Unique, UniqueLent}
use Rattle.desk_arrays.specs.declared.state.Desk.{Desk}
use Rattle.desk_arrays.specs.declared.state.Told.{Told}
use Rattle.desk_arrays.specs.Steps.{desk_of}
use Rattle.desk.specs.InPlace.{StepsTo}
use Rattle.desk.proofs.step.step.Reads as step
use Rattle.desk.proofs.step.step.Kinds as stepK
use Rattle.desk.proofs.step.step_on.Reads as step_on
use Rattle.desk.proofs.step.step_on.Kinds as step-onK
use Rattle.desk.proofs.step.step_for.Reads as step-for
use Rattle.desk.proofs.step.step_for.Kinds as step-forK
use Rattle.desk.proofs.step.step_in.Reads as step-in
use Rattle.desk.proofs.step.step_in.Kinds as step-inK
use Rattle.desk.proofs.wakes.wake_at.Reads as wake-at
use Rattle.desk.proofs.wakes.wake_at.Kinds as wake-atK
use Rattle.desk.proofs.wakes.tell.Reads as tell
use Rattle.desk.proofs.wakes.tell.Kinds as tellK

-- what the fields and the list hold at the end of a step
pub record Lent : Type 0 where
  pub desk : Desk
  pub woken : List ℕ

-- both together
abbrev lent : Desk → List ℕ → Lent
lent d w = record { desk = d; woken = w }

-- two ends of the same step are the same
same_end : {d x y : Desk} {l v w : List ℕ} {kind job c : ℕ} {s t : Told} → StepsTo d l kind job c x v s → StepsTo d l kind job c y w t →
    (s ≡ t) × (lent x v ≡ lent y w)
same_end p q = (
  λ i. record { answer = (p.answer ∙ sym q.answer) i; count = (p.count ∙ sym q.count) i },
  λ i. record { desk = (p.desk ∙ sym q.desk) i; woken = (p.places ∙ sym q.places) i },
)

pub step_for_unique : UniqueLent step-forK.ps step-forK.r step-for.Post
    (λ κs e. lent (desk_of e.0.now e.1.0.now e.1.1.0.now e.1.1.1.0.now e.1.1.1.1.0.now e.1.1.1.1.1.0.now) e.1.1.1.1.1.1.0.now)
step_for_unique κs a x y e f p q = same_end p q

pub step_on_unique : UniqueLent step-onK.ps step-onK.r step_on.Post
    (λ κs e. lent (desk_of e.0.now e.1.0.now e.1.1.0.now e.1.1.1.0.now e.1.1.1.1.0.now e.1.1.1.1.1.0.now) e.1.1.1.1.1.1.0.now)
step_on_unique κs a x y e f p q = same_end p q

pub step_in_unique : UniqueLent step-inK.ps step-inK.r step-in.Post (λ κs e. lent e.0.now e.1.0.now)
step_in_unique κs a x y e f p q = same_end p q

pub step_unique : Unique stepK.ps stepK.r step.Post
step_unique κs a x y e f p q = p ∙ sym q

pub wake_at_unique : Unique wake-atK.ps wake-atK.r wake-at.Post
wake_at_unique κs a x y e f p q = p ∙ sym q

pub tell_unique : Unique tellK.ps tellK.r tell.Post
tell_unique κs a x y e f p q = p ∙ sym q
