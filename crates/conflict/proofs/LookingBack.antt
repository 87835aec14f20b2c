-- Looking back from a read over the lines before it finds the latest action that makes it dirty, or that there is none (02, No. 2).
-- Assumes nothing.
use Rattle.std.specs.Prelude.{Option, None, Some}
use Prim.Native.Nat.{ℕ, suc, ◌+◌, ◌≤◌}
use mathlib.Core.Path.{◌≡◌, refl, sym, ap, ◌∙◌, subst}
use mathlib.Core.Logic.{◌⊎◌, inl, inr}
use mathlib.Core.Bool.{true, false}
use mathlib.Core.List.{[], ◌∷◌, ◌++◌, append_assoc}
use native.Mathlib.Omega.{arith}
use lib.Dec.{eqb, leb}
use lib.ListN.{length}
use borrow.Author.Tests.{eqb-true, eqb-false, leb-true, leb-false}
use Rattle.laws.specs.Choice.{by_test, not_both}
use Rattle.conflict.specs.declared.action.Action.{Action}
use Rattle.conflict.specs.declared.action.Event.{Event}
use Rattle.conflict.specs.declared.action.Event.TheVariants.{Does, Ends}
use Rattle.conflict.specs.History.{History, commits}
use Rattle.conflict.specs.Dirty.{changes, DirtyRead, spoils, look_back}
use Rattle.conflict.proofs.DirtyReads.{parts, write_spoils, spoils_read}

-- the lines seen (kept last first), put back in order in front of the others
unfoldable pub in_order_lem : History → History → History
in_order_lem [] h = h
in_order_lem (e ∷ seen) h = in_order_lem seen (e ∷ h)

-- that is the lines seen, and then the others
pub order_append : (seen h : History) → in_order_lem seen h ≡ in_order_lem seen [] ++ h
unfolding in_order_lem
order_append [] h = refl
order_append (e ∷ seen) h =
    order_append seen (e ∷ h) ∙ sym (ap (λ x. x ++ h) (order_append seen (e ∷ [])) ∙ append_assoc (in_order_lem seen []) (e ∷ []) h)

-- as many lines as were seen
pub order_length : (seen h : History) → length (in_order_lem seen h) ≡ length seen + length h
unfolding in_order_lem
order_length [] h = omega arith
order_length (e ∷ seen) h = omega (arith, order_length seen (e ∷ h))

-- the latest action in the first n places that makes the read at place p dirty
pub record Latest (h : History) (p n reader writer : ℕ) : Type 0 where
  pub at : ℕ
  pub dirty_read : DirtyRead h p at reader writer
  pub last : (x i j : ℕ) → DirtyRead h p x i j → (x ≤ at) ⊎ (n ≤ x)

-- the latest such action, or that there is none
abbrev pub Back : History → ℕ → ℕ → ℕ → Option ℕ → Type 0
Back h p n reader None = (x i j : ℕ) → DirtyRead h p x i j → n ≤ x
Back h p n reader (Some writer) = Latest h p n reader writer

-- a number is at most n, or it is more
at_most : (x n : ℕ) → (x ≤ n) ⊎ (suc n ≤ x)
at_most x n = by_test (leb x n) (λ t. inl (leb-true x n t)) (λ f. inr (leb-false x n f))

module _ (h : History) (p n : ℕ) (apart : (x i j : ℕ) → DirtyRead h p x i j → x ≡ n → ⊥) where
  -- a place other than n
  past : (x i j : ℕ) → DirtyRead h p x i j → n ≤ x → suc n ≤ x
  past x i j d g = by_test (eqb x n) (λ t. absurd (apart x i j d (eqb-true x n t))) (λ f. omega (arith, eqb-false x n f))

  -- an answer for n places is one for n + 1 if the next place does not make the read at p dirty
  back_more : (reader : ℕ) (o : Option ℕ) → Back h p n reader o → Back h p (suc n) reader o
  back_more reader None b = λ x i j d. past x i j d (b x i j d)
  back_more reader (Some writer) b = record { at = b.at; dirty_read = b.dirty_read; last = λ x i j d. more x i j d (b.last x i j d) }
    where
      more : (x i j : ℕ) → DirtyRead h p x i j → (x ≤ b.at) ⊎ (n ≤ x) → (x ≤ b.at) ⊎ (suc n ≤ x)
      more x i j d (inl l) = inl l
      more x i j d (inr g) = inr (past x i j d g)

module _ (h : History) (p : ℕ) (read : Action) (after : History) (k : changes read.kind ≡ false) (c : commits read.job after ≡ true) where
  -- a line that is not an action making the read dirty is passed over
  passed_over : (seen : History) (e : Event) (between : History) → in_order_lem seen (e ∷ (between ++ Does read ∷ after)) ≡ h → p ≡ length seen + 1 + length between →
      ((a : Action) → Does a ≡ e → spoils a between read after ≡ false) → (x i j : ℕ) → DirtyRead h p x i j → x ≡ length seen → ⊥
  passed_over seen e between l s harmless x i j d q =
      let whole = sym l ∙ order_append seen (e ∷ (between ++ Does read ∷ after)) in
      let r = parts d (in_order_lem seen []) e between (Does read) after whole (omega (arith, order_length seen [])) (omega arith) in
      let b : d.between ≡ between = r.1 in
      let f : d.read ≡ read = let q = r.2 in cc in
      let g : d.after ≡ after = r.3 in
      let t = write_spoils d in
      not_both (subst (λ z. spoils d.write between read z ≡ true) g (subst (λ z. spoils d.write between z d.after ≡ true) f (subst (λ z. spoils d.write z d.read d.after ≡ true) b t))) (harmless d.write r.0)

  -- looking back over what was seen finds the latest action there that makes the read dirty, or that there is none
  pub looked : (seen between : History) → in_order_lem seen (between ++ Does read ∷ after) ≡ h → p ≡ length seen + length between → Back h p (length seen) read.job (look_back seen between read after)
  unfolding look_back in_order_lem
  looked [] between l s = λ x i j d. omega arith
  looked (Does a ∷ seen) between l s =
      by_test (spoils a between read after)
      (λ t. rw t (record {
        at = length seen;
        dirty_read = spoils_read h p (length seen) (in_order_lem seen []) a between read after
            (sym l ∙ order_append seen (Does a ∷ (between ++ Does read ∷ after)) ∙ sym (append_assoc (in_order_lem seen []) (Does a ∷ between) (Does read ∷ after)))
            (omega (arith, order_length seen [])) (omega (arith, order_length seen [])) t k c;
        last = λ x i j d. at_most x (length seen);
      }))
      (λ f. rw f (back_more h p (length seen) (passed_over seen (Does a) between l (omega arith) (λ b e. subst (λ z. spoils z between read after ≡ false) (let q : a ≡ b = cc in q) f)) read.job (look_back seen (Does a ∷ between) read after) (looked seen (Does a ∷ between) l (omega arith))))
  looked (Ends m j ∷ seen) between l s =
      back_more h p (length seen) (passed_over seen (Ends m j) between l (omega arith) (λ b e. absurd (let z : ◌≡◌ {A = ℕ} 0 1 = cc in omega arith))) read.job (look_back seen (Ends m j ∷ between) read after) (looked seen (Ends m j ∷ between) l (omega arith))
