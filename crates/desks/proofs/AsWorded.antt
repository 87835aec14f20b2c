-- What every desk refuses, in words, is what the rows that all tables share say: other kinds, and the two refusals of a begin (01, Refusals by number).
-- Assumes nothing.
use Rattle.std.specs.Prelude.{Option, None, Some}
use Prim.Native.Nat.{ℕ, ◌<◌, ◌≤◌}
use mathlib.Core.Path.{◌≡◌, refl, sym, ap, ◌∙◌}
use mathlib.Core.Bool.{Bool, true, false, not}
use mathlib.Core.List.{List, [], ◌∷◌}
use lib.Dec.{ltb}
use lib.ListN.{length}
use native.Mathlib.Omega.{arith}
use borrow.Author.Tests.{eqb-true, eq-eqb, ltb-true, ltb-false, lt-ltb, le-ltb, not-true}
use Rattle.laws.specs.Choice.{pick, by_test, not_both}
use Rattle.laws.specs.Lists.{member}
use Rattle.laws.proofs.Pigeonhole.{no_longer}
use Rattle.terms.specs.declared.letters.Letter.{Letter}
use Rattle.terms.specs.declared.letters.Letter.TheVariants.{Begin}
use Rattle.terms.specs.declared.refusals.Refusal.{Refusal}
use Rattle.terms.specs.declared.refusals.Refusal.TheVariants.{AllOpen, NoNumberLeft}
use Rattle.terms.specs.Letters.{letter_of, of_requests}
use Rattle.terms.specs.Limits.{last_number}
use Rattle.terms.specs.Refusals.{number_of}
use Rattle.terms.proofs.LetterBytes.{no_request_exactly}
use Rattle.desks.specs.Request.{Request}
use Rattle.desks.specs.Places.{open_among}
use Rattle.desks.specs.Table.{other_kind}
use Rattle.desks.specs.DeskLimits.{DeskLimits}
use Rattle.desks.specs.AsWorded.{Open32, RefusedAlike, all_open, no_number_left}
use Rattle.desks.proofs.OpenJobs.{only_open}

-- a byte that is not one of the eight is of another kind
pub none_of_eight : (b : ℕ) → member b (98 ∷ 99 ∷ 97 ∷ 116 ∷ 114 ∷ 119 ∷ 105 ∷ 117 ∷ []) ≡ false → other_kind (letter_of b) ≡ true
none_of_eight b f = by_letter (letter_of b) refl
  where
    by_letter : (x : Option Letter) → letter_of b ≡ x → other_kind x ≡ true
    by_letter None e = refl
    by_letter (Some l) e = ap not ((no_request_exactly b).1 f l e)

-- and the other way round
pub other_kind_listed : (b : ℕ) → other_kind (letter_of b) ≡ true → member b (98 ∷ 99 ∷ 97 ∷ 116 ∷ 114 ∷ 119 ∷ 105 ∷ 117 ∷ []) ≡ false
other_kind_listed b t = (no_request_exactly b).0 (λ l e. not-true (of_requests l) (ap other_kind (sym e) ∙ t))

-- the same refusal
pub same_why : {x y : Refusal} → ◌≡◌ {A = Option Refusal} (Some x) (Some y) → x ≡ y
same_why e = cc

-- whether nothing is due
abbrev nothing : Option Refusal → Bool
nothing None = true
nothing (Some x) = false

-- a refusal that is due is not "no refusal"
pub some_not_none : {P : Type 0} {x : Refusal} → ◌≡◌ {A = Option Refusal} None (Some x) → P
some_not_none e = not_both refl (ap nothing e)

module _ {next : ℕ} {jobs : List ℕ} {open' : ℕ → Bool} (l : DeskLimits next jobs open') where
  -- if no place is free, 32 jobs are open
  pub open_32 : member 0 jobs ≡ false → Open32 open'
  open_32 f = record {
    jobs = open_among open' jobs;
    many = eqb-true (length (open_among open' jobs)) 32 (sym (l.row_6 (Some Begin)) ∙ ap not f);
    once = l.open_once;
    each = only_open open' jobs;
  }

  -- and if 32 jobs are open, no place is free
  pub none_free : Open32 open' → member 0 jobs ≡ false
  none_free o =
      let few : length o.jobs ≤ length (open_among open' jobs) = no_longer o.jobs (open_among open' jobs) o.once (λ j m. l.open_listed j ∙ o.each j m) in
      let most : length (open_among open' jobs) ≤ 32 = l.at_most_32 in
      let all : length (open_among open' jobs) ≡ 32 = omega (arith, o.many) in
      not-true (member 0 jobs) (l.row_6 (Some Begin) ∙ eq-eqb _ _ all)

  -- what a begin is refused with, by the words
  pub begin_worded : (may_ask : Type 0) (r : Request) (why : Refusal) → r.kind ≡ 98 → pick (ltb last_number next) (Some NoNumberLeft) (pick (not (member 0 jobs)) (Some AllOpen) None) ≡ Some why → RefusedAlike open' next may_ask r (number_of why)
  begin_worded may_ask r why b e =
      by_test (ltb last_number next)
      (λ t. let q : NoNumberLeft ≡ why = same_why (rw t at e) in rw (← q) (no_number_left b (ltb-true last_number next t)))
      (λ f. by_test (member 0 jobs) (λ t. some_not_none (rw (f, t) at e))
      (λ g. let q : AllOpen ≡ why = same_why (rw (f, g) at e) in rw (← q) (all_open b (ltb-false last_number next f) (open_32 g))))

-- 7 is due if the last number has been given
pub seven_due : (next : ℕ) (jobs : List ℕ) → 4_294_967_295 < next → pick (ltb last_number next) (Some NoNumberLeft) (pick (not (member 0 jobs)) (Some AllOpen) None) ≡ Some NoNumberLeft
seven_due next jobs p = rw (lt-ltb last_number next p)

-- and 6 is due if it has not been given, and no place is free
pub six_due : (next : ℕ) (jobs : List ℕ) → next ≤ 4_294_967_295 → member 0 jobs ≡ false → pick (ltb last_number next) (Some NoNumberLeft) (pick (not (member 0 jobs)) (Some AllOpen) None) ≡ Some AllOpen
six_due next jobs p f = rw (le-ltb last_number next p, f)
