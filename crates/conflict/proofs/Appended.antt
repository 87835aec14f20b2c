-- A history made of two parts: its lines, marks, ends of runs, and jobs that end for good, from those of each part.
-- Assumes nothing.
use Prim.Native.Nat.{ℕ}
use mathlib.Core.Path.{◌≡◌, refl, sym, ap, ◌∙◌}
use mathlib.Core.Bool.{Bool, true, false, not, ◌&&◌, ◌||◌, or_assoc}
use mathlib.Core.List.{[], ◌∷◌, ◌++◌}
use lib.Dec.{eqb}
use Rattle.laws.specs.Choice.{by_test}
use Rattle.laws.proofs.Lists.{same_refl}
use Rattle.laws.proofs.Parts.{and_both, or_second}
use Rattle.conflict.specs.declared.action.Mark.{Mark}
use Rattle.conflict.specs.declared.action.Mark.TheVariants.{Commit, GiveUp, Back}
use Rattle.conflict.specs.declared.action.Event.TheVariants.{Does, Ends}
use Rattle.conflict.specs.History.{History, is_back, marked, line_of, ends_for_good}
use Rattle.conflict.specs.Runs.{is_end, ended}
use Rattle.conflict.proofs.Marks.{ended_alone, ends_rest}
use Rattle.conflict.proofs.OneEvent.{is_last}

-- a line of a job stands in the first part or in the second
pub line_append : (j : ℕ) (h g : History) → line_of j (h ++ g) ≡ (line_of j h || line_of j g)
unfolding line_of
line_append j [] g = refl
line_append j (Does a ∷ h) g = ap (λ b. eqb a.job j || b) (line_append j h g) ∙ sym (or_assoc (eqb a.job j) (line_of j h) (line_of j g))
line_append j (Ends m i ∷ h) g = ap (λ b. eqb i j || b) (line_append j h g) ∙ sym (or_assoc (eqb i j) (line_of j h) (line_of j g))

-- and so does a mark
pub marked_append : (f : Mark → Bool) (j : ℕ) (h g : History) → marked f j (h ++ g) ≡ (marked f j h || marked f j g)
unfolding marked
marked_append f j [] g = refl
marked_append f j (Does a ∷ h) g = marked_append f j h g
marked_append f j (Ends m i ∷ h) g = ap (λ b. (eqb i j && f m) || b) (marked_append f j h g) ∙ sym (or_assoc (eqb i j && f m) (marked f j h) (marked f j g))

-- a run has ended in the whole if it has ended in one of the parts
pub ended_append : (j : ℕ) (h g : History) → ended j (h ++ g) ≡ (ended j h || ended j g)
unfolding ended
ended_append j h g = marked_append is_end j h g

-- a c and an a are the marks that are not a k
last_is : (m : Mark) → is_last m ≡ not (is_back m)
unfolding is_last is_back
last_is Commit = refl
last_is GiveUp = refl
last_is Back = refl

-- jobs end for good in the whole if they do in each part and no job with a c or an a in the first has a line in the second
pub ends_append : (h g : History) → ends_for_good h ≡ true → ends_for_good g ≡ true → ((j : ℕ) → marked is_last j h ≡ true → line_of j g ≡ false) → ends_for_good (h ++ g) ≡ true
unfolding ends_for_good marked
ends_append [] g e d apart = d
ends_append (Does a ∷ h) g e d apart = ends_append h g e d apart
ends_append (Ends m i ∷ h) g e d apart =
    and_both (is_back m || not (line_of i (h ++ g))) (ends_for_good (h ++ g))
    (by_test (is_back m) (λ t. rw t)
    (λ f. rw (f, line_append i h g, ended_alone m i h e f, apart i (rw (same_refl i, last_is m, f)))))
    (ends_append h g (ends_rest m i h e) d (λ j l. apart j (or_second (eqb i j && is_last m) (marked is_last j h) l)))
