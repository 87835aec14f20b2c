-- The order that the judge gives is the paper's, smallest first, and the only one.
-- Assumes nothing.
use Prim.Native.Nat.{ℕ, zero, suc, ◌≤◌}
use mathlib.Core.Path.{◌≡◌, refl, sym, ap, ap₂, ◌∙◌, subst}
use mathlib.Core.Bool.{true, not}
use mathlib.Core.List.{List, [], ◌∷◌, ◌++◌, append-nil, append_assoc}
use native.Mathlib.Omega.{arith}
use lib.ListN.{length}
use borrow.Author.Tests.{eqb-true, not-true}
use lib.Dec.{eqb}
use Rattle.laws.specs.Choice.{by_test, not_both}
use Rattle.laws.specs.Lists.{member}
use Rattle.laws.specs.Sorted.{ascending}
use Rattle.laws.proofs.Lists.{member_first, member_later, member_more}
use Rattle.judge_rules.specs.Order.{Edges, preceded, ready, without, ends, leads, taken, order_of, stuck}
use Rattle.judge_rules.specs.Meant.{Fits, SmallestFirst, Smallest, Takes}
use Rattle.judge_rules.specs.Meant.Takes.{stops, takes}
use Rattle.judge_rules.proofs.Without.{left_before, left_other, ascending_left}
use Rattle.judge_rules.proofs.Firsts.{by_one}
use Rattle.judge_rules.proofs.Preceded.{ready_smallest}
use Rattle.judge_rules.proofs.Orders.{still}
use Rattle.laws.proofs.Joined.{head_same, tail_same, not_empty_mid, nobody}
use Rattle.judge_rules.proofs.Fits.{fits_first, first_fits, fits_more, fits_less}

module _ (e : Edges) where
  -- if no job is left, the order is empty
  none_placed : SmallestFirst e [] []
  unfolding member
  none_placed =
      record {
        all = λ j m. m;
        fits = λ placed j rest q. not_empty_mid placed j rest q;
        smallest = λ placed j rest q. not_empty_mid placed j rest q;
      }

  -- the smallest that is ready stands first, before an order of the others
  one_more : (j : ℕ) (left order : List ℕ) → Smallest (λ k. not (preceded e left k)) left j → SmallestFirst e (without j left) order → SmallestFirst e left (j ∷ order)
  one_more j left order s o = record { all = every; fits = fits'; smallest = smallest' }
    where
      every : (k : ℕ) → member k left ≡ true → member k (j ∷ order) ≡ true
      every k m = by_test (eqb j k) (λ t. rw (← eqb-true j k t) (member_first j order)) (λ f. member_more j order k (o.all k (still j left k m f)))

      fits' : (placed : List ℕ) (k : ℕ) (rest : List ℕ) → j ∷ order ≡ placed ++ k ∷ rest → Fits e left placed k
      fits' [] k rest q = subst (Fits e left []) (head_same q) (first_fits e left j s.job (not-true (preceded e left j) s.passes))
      fits' (p ∷ placed) k rest q = subst (λ x. Fits e left (x ∷ placed) k) (head_same q) (fits_more e j left placed k (o.fits placed k rest (tail_same q)))

      smallest' : (placed : List ℕ) (k : ℕ) (rest : List ℕ) → j ∷ order ≡ placed ++ k ∷ rest → (i : ℕ) → Fits e left placed i → k ≤ i
      smallest' [] k rest q i f = subst (λ x. x ≤ i) (head_same q) (s.least i f.job (ap not (fits_first e left i f)))
      smallest' (p ∷ placed) k rest q i f = o.smallest placed k rest (tail_same q) i (fits_less e j left placed i (subst (λ x. Fits e left (x ∷ placed) i) (sym (head_same q)) f))

  -- an order of all jobs, without its first, is one of the others
  one_less : (j : ℕ) (left order : List ℕ) → SmallestFirst e left (j ∷ order) → SmallestFirst e (without j left) order
  one_less j left order o =
      record {
        all = λ k m. sym (member_later j order k (left_other j left k m)) ∙ o.all k (left_before j left k m);
        fits = λ placed k rest q. fits_less e j left placed k (o.fits (j ∷ placed) k rest (ap (λ js. j ∷ js) q));
        smallest = λ placed k rest q i f. o.smallest (j ∷ placed) k rest (ap (λ js. j ∷ js) q) i (fits_more e j left placed i f);
      }

  -- the jobs taken, the smallest that is ready each time, stand smallest first if none remains
  taken_smallest_first : (n : ℕ) (left : List ℕ) → ascending left ≡ true → (taken e n left).remaining ≡ [] → SmallestFirst e left (taken e n left).order
  unfolding taken ends leads
  taken_smallest_first zero left a q = rw q none_placed
  taken_smallest_first (suc n) left a q =
      by_one (ready e left)
      (λ h. let none' : left ≡ [] = rw h at q in rw h (rw none' none_placed))
      (λ j h. rw h (one_more j left (taken e n (without j left)).order (ready_smallest e left a j h)
      (taken_smallest_first n (without j left) (ascending_left j left a) (rw h at q))))

  -- the order given is the paper's, if all jobs stand in it
  pub order_smallest_first : (jobs : List ℕ) → ascending jobs ≡ true → stuck e jobs ≡ [] → SmallestFirst e jobs (order_of e jobs)
  unfolding order_of stuck
  order_smallest_first jobs a q = taken_smallest_first (length jobs) jobs a q

  -- of two such orders, one does not end before the other
  no_end : {P : Type 0} (jobs one two : List ℕ) → SmallestFirst e jobs one → SmallestFirst e jobs two → (placed : List ℕ) (k : ℕ) (rest : List ℕ) → one ≡ placed ++ [] → two ≡ placed ++ k ∷ rest → P
  no_end jobs one two s t placed k rest p q =
      let f : Fits e jobs placed k = t.fits placed k rest q in
      not_both (sym (ap (member k) (p ∙ append-nil placed)) ∙ s.all k f.job) f.free

  -- two such orders that begin alike go on alike
  goes_on : (jobs one two : List ℕ) → SmallestFirst e jobs one → SmallestFirst e jobs two → (placed x y : List ℕ) → one ≡ placed ++ x → two ≡ placed ++ y → x ≡ y
  goes_on jobs one two s t placed [] [] p q = refl
  goes_on jobs one two s t placed [] (k ∷ y) p q = no_end jobs one two s t placed k y p q
  goes_on jobs one two s t placed (j ∷ x) [] p q = no_end jobs two one t s placed j x q p
  goes_on jobs one two s t placed (j ∷ x) (k ∷ y) p q =
      let up : j ≤ k = s.smallest placed j x p k (t.fits placed k y q) in
      let down : k ≤ j = t.smallest placed k y q j (s.fits placed j x p) in
      let h : j ≡ k = omega arith in
      ap₂ (λ i rest. i ∷ rest) h
      (goes_on jobs one two s t (placed ++ j ∷ []) x y (p ∙ sym (append_assoc placed (j ∷ []) x))
      (q ∙ ap (λ i. placed ++ i ∷ y) (sym h) ∙ sym (append_assoc placed (j ∷ []) y)))

  -- no second order is smallest first
  pub smallest_first_unique : (jobs one two : List ℕ) → SmallestFirst e jobs one → SmallestFirst e jobs two → one ≡ two
  smallest_first_unique jobs one two s t = goes_on jobs one two s t [] one two refl refl

  -- an order that is smallest first takes away one job after another, and none remains
  pub smallest_first_takes : (jobs order : List ℕ) → SmallestFirst e jobs order → Takes e jobs order []
  unfolding member
  smallest_first_takes jobs [] o =
      rw (nobody jobs (λ j m. not_both (o.all j m) refl)) (stops (λ j m. not_both m refl))
  smallest_first_takes jobs (j ∷ order) o =
      let f : Fits e jobs [] j = o.fits [] j order refl in
      takes f.job (fits_first e jobs j f) (smallest_first_takes (without j jobs) order (one_less j jobs order o))
