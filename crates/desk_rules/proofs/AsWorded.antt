-- The lock desk refuses a request with a number exactly if the paper's words say so; and a refusal of one ask of a cell is given to every other (01, Refusals by number; 02, No. 1).
-- Assumes nothing.
use Rattle.std.specs.Prelude.{Option, None, Some}
use Prim.Native.Nat.{ℕ}
use mathlib.Core.Path.{◌≡◌, refl, sym, ap, ◌∙◌, subst}
use mathlib.Core.Bool.{true, false}
use mathlib.Core.List.{[], ◌∷◌, map}
use borrow.Author.Tests.{le-leb}
use Rattle.laws.specs.Choice.{pick, not_both}
use Rattle.laws.specs.Lists.{first_of}
use Rattle.terms.specs.declared.letters.Letter.{Letter}
use Rattle.terms.specs.declared.letters.Ask.TheVariants.{Read}
use Rattle.terms.specs.declared.letters.Letter.TheVariants.{Begin, Commit, GiveUp, Retry, Back, Asks}
use Rattle.terms.specs.declared.refusals.Refusal.{Refusal}
use Rattle.terms.specs.declared.refusals.Refusal.TheVariants.{UnknownKind, CellAbove, NotOpen, Waiting, SentBack, AllOpen, NoNumberLeft, Running}
use Rattle.terms.specs.Letters.{letter_of}
use Rattle.terms.specs.Limits.{cells}
use Rattle.terms.specs.Refusals.{number_of}
use Rattle.conflict.specs.History.{History}
use Rattle.desks.specs.Request.{Request}
use Rattle.desks.specs.DeskLimits.{DeskLimits}
use Rattle.desks.specs.Table.{other_kind}
use Rattle.desks.specs.AsWorded.{RefusedAlike, of_other_kind, above, not_open, all_open, no_number_left, RefusesAs}
use Rattle.desks.proofs.RequestBytes.{asks, with_c, with_ct, with_cat, by_bytes, same_asks}
use Rattle.desks.proofs.AsWorded.{none_of_eight, none_free, seven_due, six_due}
use Rattle.desk_rules.specs.Desk.{Status, closed, running, waiting, sentback, is_open, Desk}
use Rattle.desk_rules.specs.Table.{holds, order, due_by, due_of, Due}
use Rattle.desk_rules.specs.Step.{Started}
use Rattle.desk_rules.specs.Course.{from}
use Rattle.desk_rules.specs.AsWorded.{RefusedAs, alike, still_waiting, was_sent_back, retry_while_running}
use Rattle.desk_rules.proofs.Refusing.{refuses}
use Rattle.desk_rules.proofs.NumberLimits.{limits}
use Rattle.desk_rules.proofs.DueAsWorded.{due_worded}

-- a job that is not open is closed
is_closed : (s : Status) → is_open s ≡ false → s ≡ closed
unfolding is_open
is_closed closed f = refl
is_closed running f = not_both refl f
is_closed (waiting c a) f = not_both refl f
is_closed sentback f = not_both refl f

-- 1 is due for a request of another kind, whatever else it says
other_due : (d : Desk) (x : Option Letter) (s : Status) (c : ℕ) → other_kind x ≡ true → due_by d x s c ≡ Some UnknownKind
unfolding due_by holds order first_of
other_due d None s c t = refl
other_due d (Some Back) s c t = refl
other_due d (Some Begin) s c t = not_both t refl
other_due d (Some Commit) s c t = not_both t refl
other_due d (Some GiveUp) s c t = not_both t refl
other_due d (Some Retry) s c t = not_both t refl
other_due d (Some (Asks a)) s c t = not_both t refl

-- for one ask of a cell the same is due as for another
ask_due : (d : Desk) (s : Status) (c : ℕ) → map (λ b. due_by d (letter_of b) s c) asks ≡ map (λ b. due_by d (Some (Asks Read)) s c) asks
unfolding due_by holds order first_of
ask_due d s c = refl

module _ (d : Desk) (r : Request) where
  -- what is due for a begin
  begin_due : r.kind ≡ 98 → due_of d r ≡ due_by d (Some Begin) (d.stat r.job) r.cell
  unfolding due_of
  begin_due b = ap (λ k. due_by d (letter_of k) (d.stat r.job) r.cell) b

  -- a refusal that every desk gives is due
  alike_due : DeskLimits d.next d.jobs (λ j. is_open (d.stat j)) → {n : ℕ} → RefusedAlike (λ j. is_open (d.stat j)) d.next (d.stat r.job ≡ running) r n → (why : Refusal) × Due d r why × (number_of why ≡ n)
  unfolding due_by holds order first_of is_open
  alike_due l (of_other_kind f) = (UnknownKind, unfold due_of in other_due d (letter_of r.kind) (d.stat r.job) r.cell (none_of_eight r.kind f), refl)
  alike_due l (above m q p) = (CellAbove, unfold due_of in by_bytes (due_by d) r q asks CellAbove (ap (λ b. let x : Option Refusal = pick b (Some CellAbove) None in x ∷ x ∷ x ∷ x ∷ []) (le-leb cells r.cell p)) m, refl)
  alike_due l (not_open m f) = (NotOpen, unfold due_of in by_bytes (due_by d) r (is_closed (d.stat r.job) f) with_cat NotOpen refl m, refl)
  alike_due l (all_open b p o) = (AllOpen, begin_due b ∙ six_due d.next d.jobs p (none_free l o), refl)
  alike_due l (no_number_left b p) = (NoNumberLeft, begin_due b ∙ seven_due d.next d.jobs p, refl)

  -- and so is a refusal of this desk
  worded_due : DeskLimits d.next d.jobs (λ j. is_open (d.stat j)) → {n : ℕ} → RefusedAs d r n → (why : Refusal) × Due d r why × (number_of why ≡ n)
  unfolding due_by holds order first_of is_open
  worded_due l (alike w) = alike_due l w
  worded_due l (still_waiting m c a q) = (Waiting, unfold due_of in by_bytes (due_by d) r q with_ct Waiting refl m, refl)
  worded_due l (was_sent_back m q) = (SentBack, unfold due_of in by_bytes (due_by d) r q with_c SentBack refl m, refl)
  worded_due l (retry_while_running b q) = (Running, unfold due_of in ap (λ k. due_by d (letter_of k) (d.stat r.job) r.cell) b ∙ ap (λ x. due_by d (Some Retry) x r.cell) q, refl)

-- THE WORDS AND THE STEP REFUSE ALIKE, in both directions, for every started desk
pub worded : {d : Desk} {h : History} → Started d h → RefusesAs RefusedAs (from d)
worded {d} s =
    let by = (refuses d).by_table in
    record {
      as_worded = λ r n. (
        λ (why, e, q). subst (RefusedAs d r) q (due_worded d r why (limits s) (letter_of r.kind) refl (unfold due_of in (by.refused_exactly r why).0 e)),
        λ w. let (why, e, q) = worded_due d r (limits s) w in (why, (by.refused_exactly r why).1 e, q),
      );
      asks_alike = λ r t m n j c why e. (by.refused_exactly t why).1 (unfold due_of in (sym (same_asks (due_by d) (ask_due d) d.stat r t m n j c) ∙ (by.refused_exactly r why).0 e));
    }
