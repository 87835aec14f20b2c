-- The list of the waiting jobs names exactly the jobs that wait, in ascending order (02, No. 3).
-- Assumes nothing.
use Prim.Native.Nat.{ℕ, zero, suc, ◌<◌}
use mathlib.Core.Path.{◌≡◌, refl, sym, ap, subst, ◌∙◌}
use mathlib.Core.Bool.{Bool, true, false}
use mathlib.Core.List.{List, [], ◌∷◌, ◌++◌, append-nil}
use native.Mathlib.Omega.{arith}
use lib.Dec.{eqb, ltb}
use borrow.Author.Tests.{eqb-true, eqb-false, ltb-true, ltb-false}
use Rattle.laws.specs.Choice.{by_test, not_both}
use Rattle.laws.specs.Lists.{member, put}
use Rattle.laws.proofs.Parts.{or_either, or_first, or_second}
use Rattle.laws.proofs.Lists.{member_first, member_more, member_split, member_none}
use Rattle.laws.proofs.Joined.{member_append}
use Rattle.desk_rules.specs.Desk.{Status}
use Rattle.desk_rules.specs.Table.{is_waiting}
use Rattle.desks.specs.Requests.{Rising}
use Rattle.desk_rules.specs.Chain.{waiting_below}

-- a list that rises, followed by a number above all of it, rises
pub rising_last : (ns : List ℕ) (n : ℕ) → Rising ns → ((m : ℕ) → member m ns ≡ true → m < n) → Rising (ns ++ n ∷ [])
rising_last [] n r h = (λ m t. member_none m t, tt)
rising_last (k ∷ ns) n r h = (
  λ m t. or_either (member m ns) (member m (n ∷ [])) (sym (member_append m ns (n ∷ [])) ∙ t) (r.0 m) (λ s. member_split n [] m s (λ e. subst (λ x. k < x) e (h k (member_first k ns))) (member_none m)),
  rising_last ns n r.1 (λ m t. h m (member_more k ns m t)),
)

-- one more job, if it is to be listed
put_last : (b : Bool) (ns : List ℕ) (n : ℕ) → (b ≡ true → ns ++ put b n [] ≡ ns ++ n ∷ []) × (b ≡ false → ns ++ put b n [] ≡ ns)
unfolding put
put_last true ns n = (λ _. refl, λ f. not_both refl f)
put_last false ns n = (λ t. not_both t refl, λ _. append-nil ns)

module _ (stat : ℕ → Status) where
  -- with one more job: it is listed last if it waits, and otherwise nothing changes
  pub more_waits : (n : ℕ) → is_waiting (stat n) ≡ true → waiting_below stat (suc n) ≡ waiting_below stat n ++ n ∷ []
  unfolding waiting_below
  more_waits n t = (put_last (is_waiting (stat n)) (waiting_below stat n) n).0 t

  pub more_not : (n : ℕ) → is_waiting (stat n) ≡ false → waiting_below stat (suc n) ≡ waiting_below stat n
  unfolding waiting_below
  more_not n f = (put_last (is_waiting (stat n)) (waiting_below stat n) n).1 f

  -- a job that is listed is below n and waits
  pub listed_waits : (n j : ℕ) → member j (waiting_below stat n) ≡ true → (j < n) × (is_waiting (stat j) ≡ true)
  listed_waits zero j h = member_none j (unfold waiting_below in h)
  listed_waits (suc n) j h =
      by_test (is_waiting (stat n))
      (λ t. or_either (member j (waiting_below stat n)) (member j (n ∷ [])) (sym (member_append j (waiting_below stat n) (n ∷ [])) ∙ ap (member j) (sym (more_waits n t)) ∙ h)
      (λ m. let (l, w) = listed_waits n j m in (omega arith, w))
      (λ m. member_split n [] j m (λ e. (omega (arith, e), subst (λ x. is_waiting (stat x) ≡ true) e t)) (member_none j)))
      (λ f. let (l, w) = listed_waits n j (ap (member j) (sym (more_not n f)) ∙ h) in (omega arith, w))

  -- and a job that is below n and waits is listed
  pub waits_listed : (n j : ℕ) → j < n → is_waiting (stat j) ≡ true → member j (waiting_below stat n) ≡ true
  waits_listed zero j l w = absurd (omega arith)
  waits_listed (suc n) j l w =
      by_test (is_waiting (stat n))
      (λ t. ap (member j) (more_waits n t) ∙ member_append j (waiting_below stat n) (n ∷ [])
      ∙ by_test (eqb n j) (λ e. or_second (member j (waiting_below stat n)) (member j (n ∷ [])) (subst (λ x. member x (n ∷ []) ≡ true) (eqb-true n j e) (member_first n [])))
      (λ g. let o = eqb-false n j g in or_first (member j (waiting_below stat n)) (member j (n ∷ [])) (waits_listed n j (below n l o) w)))
      (λ f. ap (member j) (more_not n f) ∙ waits_listed n j (below n l (λ e. not_both w (subst (λ x. is_waiting (stat x) ≡ false) e f))) w)
    where
      below : (n : ℕ) → j < suc n → (n ≡ j → ⊥) → j < n
      below n l o = by_test (ltb j n) (λ t. ltb-true j n t) (λ f. let g = ltb-false j n f in absurd (o (omega arith)))

  -- in ascending order
  pub waiting_rises : (n : ℕ) → Rising (waiting_below stat n)
  waiting_rises zero = unfold waiting_below in tt
  waiting_rises (suc n) =
      by_test (is_waiting (stat n))
      (λ t. subst Rising (sym (more_waits n t)) (rising_last (waiting_below stat n) n (waiting_rises n) (λ m h. (listed_waits n m h).0)))
      (λ f. subst Rising (sym (more_not n f)) (waiting_rises n))
