-- A chain goes into a lent list job by job: one job into the first place, then the rest into the part behind it.
-- Assumes nothing.
use Prim.Native.Nat.{ℕ, suc, ◌+◌, ◌-◌, ◌≤◌, ◌<◌}
use mathlib.Core.Path.{◌≡◌, refl, sym, ap, subst, ◌∙◌}
use mathlib.Core.List.{List, [], ◌∷◌, ◌++◌, append-nil}
use native.Mathlib.Omega.{arith}
use borrow.Author.Tests.{lt-ltb, le-ltb}
use borrow.Rule.Slice.PartMut.{mid_of, put_mid, Post-is}
use borrow.Author.Rules.{part_to_end}
use lib.ListN.{length, get_or, drop, set}
use lib.Seq.{drop-length}
use Rattle.laws.specs.Lists.{filled}
use Rattle.terms.specs.Limits.{places}
use Rattle.desk_rules.specs.Chain.{younger_than}
use Rattle.desk_chain.specs.Chains.{next_at, chain_from}
use Rattle.desk_chain.proofs.Looks.{next_falls, chain_next}

-- what is lent of a list whose first place has been filled: the places behind that
abbrev pub later : ℕ → List ℕ → List ℕ
later x l = mid_of 1 (length (set l 0 x) - 1) (set l 0 x)

-- the list once that part has come back
abbrev pub joined : ℕ → List ℕ → List ℕ → List ℕ
joined x l ys = put_mid 1 (length (set l 0 x) - 1) (set l 0 x) ys

-- one job goes into the first place
filled_one : (x : ℕ) (l : List ℕ) → 0 < length l → set l 0 x ≡ filled (x ∷ []) l
unfolding filled
filled_one x [] h = absurd (omega arith)
filled_one x (k ∷ ks) h = refl

-- the part has one place fewer
later_length : (x : ℕ) (l : List ℕ) → 0 < length l → length l ≡ suc (length (later x l))
later_length x [] h = absurd (omega arith)
later_length x (k ∷ ks) h = ap (λ ys. suc (length ys)) (sym (part_to_end (x ∷ ks) 1))

-- the others go into the part
filled_more : (x : ℕ) (l js ys : List ℕ) → 0 < length l → ys ≡ filled js (later x l) → joined x l ys ≡ filled (x ∷ js) l
unfolding filled
filled_more x [] js ys h e = absurd (omega arith)
filled_more x (k ∷ ks) js ys h e =
    ap (λ zs. x ∷ ys ++ zs) (Post-is 1 (suc (length ks)) (x ∷ ks) (omega arith) ∙ drop-length (x ∷ ks))
    ∙ ap (λ zs. x ∷ zs) (append-nil ys ∙ e ∙ ap (λ zs. js ++ drop (length js) zs) (part_to_end (x ∷ ks) 1))

module _ (number status cell held : List ℕ) (p q : ℕ) (l : List ℕ) (n : length number ≡ places) (room : younger_than (get_or number p 0) number < length l) (e : q ≡ next_at number status cell held p) where
  module _ (h : q < places) where
    -- the next job has fewer younger jobs
    pub next_fewer : younger_than (get_or number q 0) number < younger_than (get_or number p 0) number
    next_fewer = rw e (next_falls number status cell held n p (subst (λ k. k < places) e h))

    -- so the part has room for what comes after the first job
    pub next_room : younger_than (get_or number q 0) number < length (later (get_or number p 0) l)
    next_room = omega (arith, next_fewer, later_length (get_or number p 0) l (omega arith))

    -- where somebody is next, that one's chain goes into the part
    pub filled_next : {r : ℕ} (ys : List ℕ) → r ≡ length (chain_from number status cell held q) → ys ≡ filled (chain_from number status cell held q) (later (get_or number p 0) l) →
        (1 + r ≡ length (chain_from number status cell held p)) × (joined (get_or number p 0) l ys ≡ filled (chain_from number status cell held p) l)
    filled_next {r} ys g f =
        let s : chain_from number status cell held p ≡ get_or number p 0 ∷ chain_from number status cell held q = chain_next number status cell held n p ∙ rw (← e, lt-ltb q places h) in
        (rw s (omega arith), rw s (filled_more (get_or number p 0) l (chain_from number status cell held q) ys (omega arith) f))

  -- where nobody is, the chain ends
  pub filled_last : places ≤ q → (1 ≡ length (chain_from number status cell held p)) × (set l 0 (get_or number p 0) ≡ filled (chain_from number status cell held p) l)
  filled_last h =
      let s : chain_from number status cell held p ≡ get_or number p 0 ∷ [] = chain_next number status cell held n p ∙ rw (← e, le-ltb q places h) in
      (rw s, rw s (filled_one (get_or number p 0) l (omega arith)))
