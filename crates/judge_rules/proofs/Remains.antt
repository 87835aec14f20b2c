-- The jobs that remain do not depend on which job is taken away first: they are the largest set of jobs in which each has a predecessor.
-- Assumes nothing.
use Prim.Native.Nat.{ℕ}
use mathlib.Core.Path.{◌≡◌, refl, sym, ap, ◌∙◌}
use mathlib.Core.Bool.{Bool, true, false}
use mathlib.Core.List.{List, [], ◌∷◌}
use borrow.Author.Tests.{eqb-true}
use lib.Dec.{eqb}
use Rattle.laws.specs.Choice.{by_test, not_both, pick}
use Rattle.laws.specs.Lists.{member}
use Rattle.laws.proofs.Lists.{member_first, member_more}
use Rattle.judge_rules.specs.Order.{Edges, preceded, without, stuck}
use Rattle.judge_rules.specs.Meant.{Takes}
use Rattle.judge_rules.specs.Meant.Takes.{stops, takes}
use Rattle.judge_rules.proofs.Without.{gone}
use Rattle.judge_rules.proofs.Preceded.{preceded_by, precedes}
use Rattle.judge_rules.proofs.Orders.{still, rest_only}
use Rattle.judge_rules.proofs.Taking.{order_taken}

-- the jobs of a list that pass a test
passing : (ℕ → Bool) → List ℕ → List ℕ
passing f [] = []
passing f (k ∷ ks) = pick (f k) (k ∷ passing f ks) (passing f ks)

-- if all pass, that is the list
passing_all : (f : ℕ → Bool) (ks : List ℕ) → ((k : ℕ) → member k ks ≡ true → f k ≡ true) → passing f ks ≡ ks
unfolding passing
passing_all f [] h = refl
passing_all f (k ∷ ks) h = rw (h k (member_first k ks)) (ap (λ js. k ∷ js) (passing_all f ks (λ j m. h j (member_more k ks j m))))

-- a job that does not pass may be left out
passing_without : (f : ℕ → Bool) (j : ℕ) (ks : List ℕ) → f j ≡ false → passing f (without j ks) ≡ passing f ks
unfolding passing without
passing_without f j [] h = refl
passing_without f j (k ∷ ks) h =
    by_test (eqb k j) (λ t. let g : f k ≡ false = rw (eqb-true k j t) h in rw (t, g) (passing_without f j ks h))
    (λ n. rw n (ap (λ js. pick (f k) (k ∷ js) js) (passing_without f j ks h)))

-- equal tests pass the same jobs
passing_alike : (f g : ℕ → Bool) (ks : List ℕ) → ((k : ℕ) → f k ≡ g k) → passing f ks ≡ passing g ks
unfolding passing
passing_alike f g [] h = refl
passing_alike f g (k ∷ ks) h = rw (h k) (ap (λ js. pick (g k) (k ∷ js) js) (passing_alike f g ks h))

module _ (e : Edges) where
  -- each job that remains has a predecessor that remains
  pub rest_preceded : {left order rest : List ℕ} → Takes e left order rest → (j : ℕ) → member j rest ≡ true → preceded e rest j ≡ true
  rest_preceded (stops end) j m = end j m
  rest_preceded (takes here' free t) j m = rest_preceded t j m

  -- jobs each of which has a predecessor among them are never taken
  pub never_taken : {left order rest : List ℕ} → Takes e left order rest → (part : List ℕ) → ((j : ℕ) → member j part ≡ true → preceded e part j ≡ true) → ((j : ℕ) → member j part ≡ true → member j left ≡ true) → (j : ℕ) → member j part ≡ true → member j rest ≡ true
  never_taken (stops end) part each within j m = within j m
  never_taken (takes {j = k} {left = left} here' free t) part each within j m =
      never_taken t part each
      (λ i mi. still k left i (within i mi)
      (by_test (eqb k i)
      (λ s.
      let by = preceded_by e part i (each i mi) in
      not_both (precedes e left by.0 k (within by.0 by.1) (rw (eqb-true k i s) by.2)) free)
      (λ f. f)))
      j m

  -- two ways of taking away leave the same jobs
  pub same_jobs_remain : {left order rest order' rest' : List ℕ} → Takes e left order rest → Takes e left order' rest' → (j : ℕ) → member j rest ≡ member j rest'
  same_jobs_remain {rest = rest} {rest' = rest'} t u j =
      by_test (member j rest) (λ m. m ∙ sym (never_taken u rest (rest_preceded t) (rest_only e t) j m))
      (λ f. by_test (member j rest') (λ m. not_both (never_taken t rest' (rest_preceded u) (rest_only e u) j m) f) (λ g. f ∙ sym g))

  -- what remains is the list without the jobs that do not remain
  rest_is : {left order rest : List ℕ} → Takes e left order rest → rest ≡ passing (λ k. member k rest) left
  rest_is (stops {left = left} end) = sym (passing_all (λ k. member k left) left (λ k m. m))
  rest_is (takes {j = k} {left = left} {rest = rest} here' free t) =
      rest_is t
      ∙ passing_without (λ i. member i rest) k left (by_test (member k rest) (λ m. not_both (rest_only e t k m) (gone k left)) (λ f. f))

  -- so what remains is the same list
  pub same_remains : {left order rest order' rest' : List ℕ} → Takes e left order rest → Takes e left order' rest' → rest ≡ rest'
  same_remains {left = left} {rest = rest} {rest' = rest'} t u =
      rest_is t ∙ passing_alike (λ k. member k rest) (λ k. member k rest') left (same_jobs_remain t u) ∙ sym (rest_is u)

  -- whichever jobs are taken away first, the jobs that remain are those that remain when the smallest is taken each time
  pub remains_stuck : {jobs order rest : List ℕ} → Takes e jobs order rest → rest ≡ stuck e jobs
  remains_stuck {jobs = jobs} t = same_remains t (order_taken e jobs)
