-- The timestamp desk refuses a request with a number exactly if the words say so; and a refusal of one ask of a cell is given to every other (02, No. 6; 01, Refusals by number).
-- Assumes nothing.
use Rattle.std.specs.Prelude.{Option, None, Some}
use Prim.Native.Nat.{ℕ}
use mathlib.Core.Path.{◌≡◌, refl, sym, ap, ◌∙◌, subst}
use mathlib.Core.Bool.{Bool, true, false, not}
use mathlib.Core.List.{[], ◌∷◌, map}
use lib.Dec.{leb}
use borrow.Author.Tests.{le-leb, leb-true}
use Rattle.laws.specs.Choice.{pick, by_test, not_both}
use Rattle.laws.specs.Lists.{member, first_of}
use Rattle.terms.specs.declared.letters.Letter.{Letter}
use Rattle.terms.specs.declared.letters.Ask.{Ask}
use Rattle.terms.specs.declared.letters.Ask.TheVariants.{Read}
use Rattle.terms.specs.declared.letters.Letter.TheVariants.{Begin, Commit, GiveUp, Retry, Back, Asks}
use Rattle.terms.specs.declared.refusals.Refusal.{Refusal}
use Rattle.terms.specs.declared.refusals.Refusal.TheVariants.{UnknownKind, CellAbove, NotOpen, AllOpen, NoNumberLeft, NoRetry}
use Rattle.terms.specs.Letters.{letter_of}
use Rattle.terms.specs.Limits.{cells}
use Rattle.terms.specs.Refusals.{number_of}
use Rattle.terms.proofs.Alphabet.{byte_of_letter}
use Rattle.conflict.specs.History.{History}
use Rattle.desks.specs.Request.{Request}
use Rattle.desks.specs.DeskLimits.{DeskLimits}
use Rattle.desks.specs.Table.{other_kind}
use Rattle.desks.specs.AsWorded.{IsOneOf, RefusedAlike, of_other_kind, above, not_open, all_open, no_number_left, RefusesAs}
use Rattle.desks.proofs.RequestBytes.{asks, with_cat, listed, ask_listed, ask_with_cat, by_bytes, same_asks}
use Rattle.desks.proofs.AsWorded.{none_of_eight, other_kind_listed, same_why, some_not_none, none_free, begin_worded, seven_due, six_due}
use Rattle.stamp_rules.specs.Desk.{Desk, is_open}
use Rattle.stamp_rules.specs.Table.{holds, order, due_by, due_of, Due}
use Rattle.stamp_rules.specs.Step.{Started}
use Rattle.stamp_rules.specs.Course.{from}
use Rattle.stamp_rules.specs.AsWorded.{RefusedAs, alike, no_retry}
use Rattle.stamp_rules.proofs.Refusing.{refuses}
use Rattle.stamp_rules.proofs.NumberLimits.{limits}

-- 1 is due for a request of another kind, whatever else it says
other_due : (d : Desk) (x : Option Letter) (o : Bool) (c : ℕ) → other_kind x ≡ true → due_by d x o c ≡ Some UnknownKind
unfolding due_by holds order first_of
other_due d None o c t = refl
other_due d (Some Back) o c t = refl
other_due d (Some Begin) o c t = not_both t refl
other_due d (Some Commit) o c t = not_both t refl
other_due d (Some GiveUp) o c t = not_both t refl
other_due d (Some Retry) o c t = not_both t refl
other_due d (Some (Asks a)) o c t = not_both t refl

-- for one ask of a cell the same is due as for another
ask_due : (d : Desk) (o : Bool) (c : ℕ) → map (λ b. due_by d (letter_of b) o c) asks ≡ map (λ b. due_by d (Some (Asks Read)) o c) asks
unfolding due_by holds order first_of
ask_due d o c = refl

module _ (d : Desk) (r : Request) (why : Refusal) where
  -- the refusal that is due is the one of the words
  is_due : (x : Refusal) → RefusedAs d r (number_of x) → Some x ≡ Some why → RefusedAs d r (number_of why)
  is_due x w e = subst (λ y. RefusedAs d r (number_of y)) (same_why e) w

  -- the refusal of a commit and of a give-up, in words
  close_worded : IsOneOf r with_cat → (o : Bool) → is_open d r.job ≡ o → pick (not o) (Some NotOpen) None ≡ Some why → RefusedAs d r (number_of why)
  close_worded m true q t = some_not_none t
  close_worded m false q t = is_due NotOpen (alike (not_open m q)) t

  -- that of a retry
  retry_worded : letter_of r.kind ≡ Some Retry → (o : Bool) → is_open d r.job ≡ o → due_by d (Some Retry) o r.cell ≡ Some why → RefusedAs d r (number_of why)
  unfolding due_by holds order first_of member
  retry_worded e true q t = is_due NoRetry (no_retry (sym (byte_of_letter r.kind Retry e)) q) t
  retry_worded e false q t = is_due NotOpen (alike (not_open (listed r Retry with_cat e refl) q)) t

  -- and that of a read, a write, an increment and a u
  ask_worded : (a : Ask) → letter_of r.kind ≡ Some (Asks a) → (o : Bool) → is_open d r.job ≡ o → due_by d (Some (Asks a)) o r.cell ≡ Some why → RefusedAs d r (number_of why)
  unfolding due_by holds order first_of
  ask_worded a e false q t = is_due NotOpen (alike (not_open (ask_with_cat r a e) q)) t
  ask_worded a e true q t =
      by_test (leb cells r.cell)
      (λ u. is_due CellAbove (alike (above (ask_listed r a e) q (leb-true cells r.cell u))) (rw u at t))
      (λ f. some_not_none (rw f at t))

  -- for every letter
  due_worded : DeskLimits d.next d.jobs (is_open d) → (x : Option Letter) → letter_of r.kind ≡ x → due_by d x (is_open d r.job) r.cell ≡ Some why → RefusedAs d r (number_of why)
  unfolding due_by holds order first_of member
  due_worded l None e t = is_due UnknownKind (alike (of_other_kind (other_kind_listed r.kind (ap other_kind e)))) t
  due_worded l (Some Back) e t = is_due UnknownKind (alike (of_other_kind (other_kind_listed r.kind (ap other_kind e)))) t
  due_worded l (Some Begin) e t = alike (begin_worded l _ r why (sym (byte_of_letter r.kind Begin e)) t)
  due_worded l (Some Commit) e t = close_worded (listed r Commit with_cat e refl) (is_open d r.job) refl t
  due_worded l (Some GiveUp) e t = close_worded (listed r GiveUp with_cat e refl) (is_open d r.job) refl t
  due_worded l (Some Retry) e t = retry_worded e (is_open d r.job) refl t
  due_worded l (Some (Asks a)) e t = ask_worded a e (is_open d r.job) refl t

module _ (d : Desk) (r : Request) (l : DeskLimits d.next d.jobs (is_open d)) where
  -- what is due for a begin
  begin_due : r.kind ≡ 98 → due_of d r ≡ due_by d (Some Begin) (is_open d r.job) r.cell
  unfolding due_of
  begin_due b = ap (λ k. due_by d (letter_of k) (is_open d r.job) r.cell) b

  -- a refusal that every desk gives is due
  alike_due : {n : ℕ} → RefusedAlike (is_open d) d.next (is_open d r.job ≡ true) r n → (why : Refusal) × Due d r why × (number_of why ≡ n)
  unfolding due_of due_by holds order first_of
  alike_due (of_other_kind f) = (UnknownKind, other_due d (letter_of r.kind) (is_open d r.job) r.cell (none_of_eight r.kind f), refl)
  alike_due (above m q p) =
      (CellAbove, by_bytes (due_by d) r q asks CellAbove (ap (λ b. let x : Option Refusal = pick b (Some CellAbove) None in x ∷ x ∷ x ∷ x ∷ []) (le-leb cells r.cell p)) m, refl)
  alike_due (not_open m f) = (NotOpen, by_bytes (due_by d) r f with_cat NotOpen refl m, refl)
  alike_due (all_open b p o) = (AllOpen, begin_due b ∙ six_due d.next d.jobs p (none_free l o), refl)
  alike_due (no_number_left b p) = (NoNumberLeft, begin_due b ∙ seven_due d.next d.jobs p, refl)

  -- and so is a refusal of this desk
  worded_due : {n : ℕ} → RefusedAs d r n → (why : Refusal) × Due d r why × (number_of why ≡ n)
  unfolding due_of due_by holds order first_of
  worded_due (alike w) = alike_due w
  worded_due (no_retry b q) = (NoRetry, ap (λ k. due_by d (letter_of k) (is_open d r.job) r.cell) b ∙ ap (λ o. due_by d (Some Retry) o r.cell) q, refl)

-- THE WORDS AND THE STEP REFUSE ALIKE, in both directions, for every started timestamp desk
pub worded : {d : Desk} {h : History} → Started d h → RefusesAs RefusedAs (from d)
worded {d} s =
    let by = (refuses d).by_table in
    record {
      as_worded = λ r n. (
        λ (why, e, q). subst (RefusedAs d r) q (due_worded d r why (limits s) (letter_of r.kind) refl (unfold due_of in (by.refused_exactly r why).0 e)),
        λ w. let (why, e, q) = worded_due d r (limits s) w in (why, (by.refused_exactly r why).1 e, q),
      );
      asks_alike = λ r t m n j c why e. (by.refused_exactly t why).1 (unfold due_of in (sym (same_asks (due_by d) (ask_due d) (is_open d) r t m n j c) ∙ (by.refused_exactly r why).0 e));
    }
