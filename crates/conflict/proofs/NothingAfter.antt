-- Histories in which no line of a job follows any mark of it, not even a k, as where being sent back closes the job (02, No. 6): with one more event, and that jobs then end for good.
-- Assumes nothing.
use Prim.Native.Nat.{ℕ}
use mathlib.Core.Path.{◌≡◌, refl, sym, ap, ◌∙◌}
use mathlib.Core.Bool.{true, false, not, ◌||◌, and-true}
use mathlib.Core.List.{[], ◌∷◌, ◌++◌, append_assoc, append_cancel_left}
use lib.Dec.{eqb}
use Rattle.laws.specs.Choice.{by_test, not_both}
use Rattle.laws.proofs.Parts.{and_both, or_first, or_second}
use Rattle.laws.proofs.Lists.{same_refl}
use Rattle.laws.proofs.Joined.{tail_same, not_empty_mid, last_split}
use Rattle.conflict.specs.declared.action.Action.{Action}
use Rattle.conflict.specs.declared.action.Mark.{Mark}
use Rattle.conflict.specs.declared.action.Event.{Event}
use Rattle.conflict.specs.declared.action.Event.TheVariants.{Does, Ends}
use Rattle.conflict.specs.History.{History, is_back, marked, line_of, ends_for_good}
use Rattle.conflict.specs.Runs.{is_end, ended}
use Rattle.conflict.proofs.Marks.{unmarked}
use Rattle.conflict.proofs.OneEvent.{line_none, good_none, good_does, good_ends}
use Rattle.conflict.proofs.Appended.{line_append, ended_append}

-- in an empty history no job has ended
pub none_ended : (j : ℕ) → ended j [] ≡ false
unfolding ended marked
none_ended j = refl

-- an action ends no job
pub does_ends_not : (j : ℕ) (a : Action) (h : History) → ended j (Does a ∷ h) ≡ ended j h
unfolding ended marked
does_ends_not j a h = refl

-- a mark ends its job
pub mark_ends : (j : ℕ) (m : Mark) (i : ℕ) (h : History) → ended j (Ends m i ∷ h) ≡ (eqb i j || ended j h)
unfolding ended marked is_end
mark_ends j m i h = rw and-true

-- a job that has ended has a line
pub ended_line : (j : ℕ) (h : History) → ended j h ≡ true → line_of j h ≡ true
unfolding ended
ended_line j h t = by_test (line_of j h) (λ l. l) (λ n. not_both t (unmarked is_end j h n))

-- no line of a job follows a mark of it
abbrev pub NothingAfter : History → Type 0
NothingAfter h = (before : History) (m : Mark) (j : ℕ) (after : History) → h ≡ before ++ Ends m j ∷ after → line_of j after ≡ false

-- in an empty history there is no mark
pub nothing_after_none : NothingAfter []
nothing_after_none before m j after e = not_empty_mid before (Ends m j) after e

-- a job that has a mark in a history has ended there
mark_ended : (h before : History) (m : Mark) (j : ℕ) (after : History) → h ≡ before ++ Ends m j ∷ after → ended j h ≡ true
mark_ended h before m j after e =
    ap (ended j) e ∙ ended_append j before (Ends m j ∷ after)
    ∙ or_second (ended j before) (ended j (Ends m j ∷ after)) (mark_ends j m j after ∙ or_first (eqb j j) (ended j after) (same_refl j))

-- one more event keeps this, if its job has not ended
pub nothing_after_more : (h : History) (e : Event) → NothingAfter h → ((j : ℕ) → ended j h ≡ true → line_of j (e ∷ []) ≡ false) → NothingAfter (h ++ e ∷ [])
nothing_after_more h e k apart before m j after q =
    last_split h e before (Ends m j) after q
    (λ p _. ap (line_of j) (sym (tail_same (append_cancel_left before (e ∷ []) (Ends m j ∷ after) (ap (λ g. g ++ e ∷ []) (sym p) ∙ q)))) ∙ line_none j)
    (λ w p. ap (line_of j) (sym (rest w p)) ∙ line_append j w (e ∷ []) ∙ rw (k before m j w p, apart j (mark_ended h before m j w p)))
  where
    rest : (w : History) → h ≡ before ++ Ends m j ∷ w → w ++ e ∷ [] ≡ after
    rest w p =
        tail_same (append_cancel_left before (Ends m j ∷ w ++ e ∷ []) (Ends m j ∷ after) (sym (append_assoc before (Ends m j ∷ w) (e ∷ [])) ∙ ap (λ g. g ++ e ∷ []) (sym p) ∙ q))

-- if nothing follows a mark, jobs end for good
pub nothing_after_good : (h : History) → NothingAfter h → ends_for_good h ≡ true
nothing_after_good [] k = good_none
nothing_after_good (Does a ∷ h) k = good_does a h ∙ nothing_after_good h (λ before m j after e. k (Does a ∷ before) m j after (ap (λ g. Does a ∷ g) e))
nothing_after_good (Ends m i ∷ h) k =
    good_ends m i h
    ∙ and_both (is_back m || not (line_of i h)) (ends_for_good h) (or_second (is_back m) (not (line_of i h)) (ap not (k [] m i h refl)))
    (nothing_after_good h (λ before n j after e. k (Ends m i ∷ before) n j after (ap (λ g. Ends m i ∷ g) e)))
