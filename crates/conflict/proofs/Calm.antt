-- Strictness of a history made of two parts: each part is strict, and the second disturbs no action of the first whose run is still open.
-- Assumes nothing.
use Prim.Native.Nat.{ℕ}
use mathlib.Core.Path.{◌≡◌, refl, sym, ap, ap₂, ◌∙◌}
use mathlib.Core.Bool.{Bool, true, false, not, ◌&&◌, ◌||◌, and_assoc, and-true}
use mathlib.Core.List.{[], ◌∷◌, ◌++◌}
use lib.Dec.{eqb}
use Rattle.laws.specs.Choice.{by_test}
use Rattle.laws.proofs.Parts.{and_both, or_second}
use Rattle.conflict.specs.declared.action.Action.{Action}
use Rattle.conflict.specs.declared.action.Mark.{Mark}
use Rattle.conflict.specs.declared.action.Event.TheVariants.{Does, Ends}
use Rattle.conflict.specs.Schedule.{conflicts}
use Rattle.conflict.specs.History.{History, marked, undisturbed, strict}
use Rattle.conflict.specs.Runs.{is_end, ended}

-- nothing of the second part disturbs an action of the first whose run has not ended there
unfoldable pub calm : History → History → Bool
calm [] g = true
calm (Does a ∷ h) g = (ended a.job h || undisturbed a g) && calm h g
calm (Ends m i ∷ h) g = calm h g

-- nothing in the first part disturbs an action until its run ends; nor does anything in the second, if its run has not ended in the first
pub undisturbed_append : (a : Action) (h g : History) → undisturbed a (h ++ g) ≡ (undisturbed a h && (ended a.job h || undisturbed a g))
unfolding undisturbed ended marked is_end
undisturbed_append a [] g = refl
undisturbed_append a (Does b ∷ h) g =
    ap (λ u. not (conflicts a b) && u) (undisturbed_append a h g)
    ∙ sym (and_assoc (not (conflicts a b)) (undisturbed a h) (ended a.job h || undisturbed a g))
undisturbed_append a (Ends m i ∷ h) g = by_test (eqb i a.job) (λ t. rw t) (λ f. rw f (undisturbed_append a h g))

-- five tests regrouped
regroup : (u w s c t : Bool) → ((u && w) && ((s && c) && t)) ≡ (((u && s) && (w && c)) && t)
regroup false w s c t = refl
regroup true true s c t = refl
regroup true false true c t = refl
regroup true false false c t = refl

-- a history of two parts is strict exactly if both are and the second disturbs nothing of the first
pub strict_append : (h g : History) → strict (h ++ g) ≡ ((strict h && calm h g) && strict g)
unfolding strict calm
strict_append [] g = refl
strict_append (Does a ∷ h) g =
    ap₂ (λ u s. u && s) (undisturbed_append a h g) (strict_append h g)
    ∙ regroup (undisturbed a h) (ended a.job h || undisturbed a g) (strict h) (calm h g) (strict g)
strict_append (Ends m i ∷ h) g = strict_append h g

-- the end of a run disturbs nothing
pub calm_mark : (h : History) (m : Mark) (j : ℕ) → calm h (Ends m j ∷ []) ≡ true
unfolding calm undisturbed
calm_mark [] m j = refl
calm_mark (Does a ∷ h) m j =
    and_both (ended a.job h || undisturbed a (Ends m j ∷ [])) (calm h (Ends m j ∷ []))
    (or_second (ended a.job h) (undisturbed a (Ends m j ∷ [])) (by_test (eqb j a.job) (λ t. rw t) (λ f. rw f)))
    (calm_mark h m j)
calm_mark (Ends n i ∷ h) m j = calm_mark h m j

-- one more mark leaves a history as strict as it was
pub strict_mark : (h : History) (m : Mark) (j : ℕ) → strict (h ++ Ends m j ∷ []) ≡ strict h
unfolding strict
strict_mark h m j = strict_append h (Ends m j ∷ []) ∙ and-true (strict h && calm h (Ends m j ∷ [])) ∙ ap (λ b. strict h && b) (calm_mark h m j) ∙ and-true (strict h)

-- a history with one more action is strict if it was before and that action disturbs no open action
pub strict_action : (h : History) (b : Action) → strict (h ++ Does b ∷ []) ≡ (strict h && calm h (Does b ∷ []))
unfolding strict undisturbed
strict_action h b = strict_append h (Does b ∷ []) ∙ and-true (strict h && calm h (Does b ∷ []))
