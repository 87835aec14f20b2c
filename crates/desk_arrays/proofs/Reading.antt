-- Arrays that stand for a paper's desk are that desk except for the queues; a refusal is tied, and so are moves chosen by the same test.
-- Assumes nothing.
use Prim.Native.Nat.{ℕ}
use mathlib.Core.Path.{◌≡◌, refl, sym, subst, fun_ext}
use mathlib.Core.Bool.{Bool, true, false}
use mathlib.Core.List.{List}
use Rattle.std.specs.Prelude.{Result, Err}
use Rattle.laws.specs.Choice.{pick, by_test}
use Rattle.terms.specs.declared.refusals.Refusal.{Refusal}
use Rattle.desk_rules.specs.Desk as paper
use Rattle.desk_rules.specs.Desk.{Waiter}
use Rattle.desks.specs.Begin.{refused}
use Rattle.desk_rules.specs.Rules as rules
use Rattle.desk_arrays.specs.declared.state.Desk.{Desk}
use Rattle.desk_arrays.specs.declared.moves.Move.{Move}
use Rattle.desk_arrays.specs.Steps.{carried, answer_to, performed}
use Rattle.desk_arrays.specs.Stands.{status_by, mode_by, Plain, Stands, Tied}
use Rattle.desk_arrays.proofs.Telling.{quiet_tied}

-- the paper's desk as the arrays hold it, with the queues given
abbrev pub paper_of : Desk → (ℕ → List Waiter) → paper.Desk
paper_of d q =
    record { next = d.next; jobs = d.number; stat = status_by d; row = λ c. record { held = mode_by d c; queue = q c } }

-- arrays that stand for a paper's desk hold it, but for the queues
pub stands_path : {d : Desk} {D : paper.Desk} → Stands d D → D ≡ paper_of d (λ c. (D.row c).queue)
stands_path {d} {D} s =
    λ i. record {
      next = sym s.next i;
      jobs = sym s.jobs i;
      stat = fun_ext s.stat i;
      row = λ c. record { held = fun_ext (s.held c) i; queue = (D.row c).queue };
    }

-- so what is shown of the desk that arrays hold, whatever the queues, holds of every desk that they stand for
pub by_reading : {d : Desk} {D : paper.Desk} (P : paper.Desk → Type 0) → Stands d D → ((q : ℕ → List Waiter) → P (paper_of d q)) → P D
by_reading {D = D} P s h = subst P (sym (stands_path s)) (h (λ c. (D.row c).queue))

-- plain arrays stand for the desk that they hold
pub plain_stands : {d : Desk} → Plain d → (q : ℕ → List Waiter) → Stands d (paper_of d q)
plain_stands p q = record { next = refl; jobs = refl; stat = λ j. refl; held = λ c j. refl; plain = p }

module _ (d : Desk) (j c : ℕ) where
  -- a refusal is tied
  pub refuse_tied : {D : paper.Desk} (why : Refusal) → Stands d D → Tied (performed d j c (Err why)) (refused D why)
  unfolding performed carried answer_to refused
  refuse_tied why s = quiet_tied _ s

  -- moves, or moves and refusals, that are chosen by the same test are tied where each is
  pub pick_tied : {A : Type 0} (as_move : A → Result Move Refusal) (s t : Bool) (x y : A) {X Y : rules.Outcome} → s ≡ t → (t ≡ true → Tied (performed d j c (as_move x)) X) → (t ≡ false → Tied (performed d j c (as_move y)) Y) →
      Tied (performed d j c (as_move (pick s x y))) (pick t X Y)
  pick_tied as_move s t x y e f g = rw e (by_test t (λ h. rw h (f h)) (λ h. rw h (g h)))
