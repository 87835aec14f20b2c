-- What the lines after a line say of the run that it is in: whether that run ends with a commit, and whether it has ended.
-- Assumes nothing.
use Prim.Native.Nat.{ℕ, zero, suc, ◌+◌, ◌-◌, ◌<◌}
use mathlib.Core.Path.{◌≡◌, refl, sym, ap, ◌∙◌, subst}
use mathlib.Core.Logic.{◌↔◌, ⊎_elim}
use mathlib.Core.Bool.{true, false}
use mathlib.Core.List.{[], ◌∷◌, ◌++◌}
use native.Mathlib.Omega.{arith}
use lib.Dec.{eqb}
use lib.ListN.{length}
use borrow.Author.Tests.{eqb-true}
use Rattle.laws.specs.Choice.{by_test, not_both}
use Rattle.laws.proofs.Lists.{same_refl}
use Rattle.conflict.specs.declared.action.Mark.{Mark}
use Rattle.conflict.specs.declared.action.Mark.TheVariants.{Commit, GiveUp, Back}
use Rattle.conflict.specs.declared.action.Event.{Event}
use Rattle.conflict.specs.declared.action.Event.TheVariants.{Does, Ends}
use Rattle.conflict.specs.History.{History, is_commit, marked, commits}
use Rattle.conflict.specs.Runs.{is_end, ended}
use Rattle.conflict.specs.DirtyRuns.{LineAt, MarkAt, Run, InRun}
use Rattle.conflict.proofs.RunLines.{act_no_mark, shifted, shifted_back}

-- the next mark of a job tells whether its run commits
commits_at : (j : ℕ) (l : History) (n : ℕ) (m : Mark) → ((k : ℕ) → k < n → MarkAt l k j → ⊥) → LineAt l n (Ends m j) → commits j l ≡ is_commit m
unfolding commits
commits_at j [] n m f a = absurd (omega (arith, a.0))
commits_at j (e ∷ l) zero m f a = ap (λ x. commits j (x ∷ l)) a.1 ∙ rw (same_refl j)
commits_at j (Does b ∷ l) (suc n) m f a = commits_at j l n m (λ k s x. f (suc k) (omega arith) (x.0, (omega (arith, x.1.0), x.1.1))) (omega (arith, a.0), a.1)
commits_at j (Ends o i ∷ l) (suc n) m f a =
    by_test (eqb i j) (λ t. absurd (f 0 (omega arith) (o, (omega arith, ap (Ends o) (eqb-true i j t)))))
    (λ g. rw g (commits_at j l n m (λ k s x. f (suc k) (omega arith) (x.0, (omega (arith, x.1.0), x.1.1))) (omega (arith, a.0), a.1)))

-- without a mark it does not commit
commits_none : (j : ℕ) (l : History) → ((k : ℕ) → MarkAt l k j → ⊥) → commits j l ≡ false
unfolding commits
commits_none j [] f = refl
commits_none j (Does b ∷ l) f = commits_none j l (λ k x. f (suc k) (x.0, (omega (arith, x.1.0), x.1.1)))
commits_none j (Ends o i ∷ l) f =
    by_test (eqb i j) (λ t. absurd (f 0 (o, (omega arith, ap (Ends o) (eqb-true i j t)))))
    (λ g. rw g (commits_none j l (λ k x. f (suc k) (x.0, (omega (arith, x.1.0), x.1.1)))))

-- if no line is a mark of a job, its run has not ended
pub ended_none : (j : ℕ) (l : History) → ((k : ℕ) → MarkAt l k j → ⊥) → ended j l ≡ false
unfolding ended marked is_end
ended_none j [] f = refl
ended_none j (Does b ∷ l) f = ended_none j l (λ k x. f (suc k) (x.0, (omega (arith, x.1.0), x.1.1)))
ended_none j (Ends o i ∷ l) f =
    by_test (eqb i j) (λ t. absurd (f 0 (o, (omega arith, ap (Ends o) (eqb-true i j t)))))
    (λ g. rw g (ended_none j l (λ k x. f (suc k) (x.0, (omega (arith, x.1.0), x.1.1)))))

pub none_ended : (j : ℕ) (l : History) → ended j l ≡ false → (k : ℕ) → MarkAt l k j → ⊥
unfolding ended marked is_end
none_ended j [] f k x = omega (arith, x.1.0)
none_ended j (Does b ∷ l) f zero x = act_no_mark x.1.1
none_ended j (Does b ∷ l) f (suc k) x = none_ended j l f k (x.0, (omega (arith, x.1.0), x.1.1))
none_ended j (Ends o i ∷ l) f zero x = let s : i ≡ j = let q = x.1.1 in cc in not_both refl (rw (s, same_refl j) at f)
none_ended j (Ends o i ∷ l) f (suc k) x =
    by_test (eqb i j) (λ t. not_both refl (rw t at f)) (λ g. none_ended j l (rw g at f) k (x.0, (omega (arith, x.1.0), x.1.1)))

-- the only mark that is a commit is `Commit`
commit_is : (m : Mark) → is_commit m ≡ true → m ≡ Commit
unfolding is_commit
commit_is Commit e = refl
commit_is GiveUp e = not_both e refl
commit_is Back e = not_both e refl

module _ (h u : History) (x : Event) (l : History) (p j b t : ℕ) (q : h ≡ u ++ x ∷ l) (s : length u ≡ p) (r : InRun h j p b t) where
  -- the end of the run that line p is in, counted in the lines after p
  pub end_behind : (m : Mark) → LineAt h t (Ends m j) → LineAt l (t - suc p) (Ends m j)
  end_behind m a = let n : t ≡ suc (p + (t - suc p)) = omega (arith, r.before) in shifted_back h u x l p q s (t - suc p) (Ends m j) (subst (λ k. LineAt h k (Ends m j)) n a)

  -- no mark stands before it
  none_before : (k : ℕ) → k < t - suc p → MarkAt l k j → ⊥
  none_before k g m = r.run.unbroken (suc (p + k)) (omega (arith, r.behind)) (omega arith) (m.0, shifted h u x l p q s k (Ends m.0 j) m.1)

  -- the run commits exactly if its end is a commit
  pub run_commits : (commits j l ≡ true) ↔ LineAt h t (Ends Commit j)
  unfolding is_commit
  run_commits = (
    λ c. ⊎_elim
        (λ e. not_both c (commits_none j l (λ k m. none_before k
        (let w : suc (p + k) < length h = (shifted h u x l p q s k (Ends m.0 j) m.1).0 in omega arith) m)))
        (λ m. subst (λ o. LineAt h t (Ends o j)) (commit_is m.0 (sym (commits_at j l (t - suc p) m.0 none_before (end_behind m.0 m.1)) ∙ c)) m.1)
        r.run.ends,
    λ a. commits_at j l (t - suc p) Commit none_before (end_behind Commit a),
  )
