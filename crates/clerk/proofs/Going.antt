-- The loop of the work: the work left from here decides as the whole does.
-- Assumes nothing.
use Prim.Native.Nat.{ℕ, ◌+◌, ◌≤◌, ◌<◌}
use mathlib.Core.Path.{◌≡◌, refl, sym, ap, ◌∙◌, subst}
use mathlib.Core.Bool.{true, false}
use mathlib.Core.List.{List}
use native.Mathlib.Omega.{arith}
use lib.ListN.{length}
use Rattle.text_rules.specs.declared.splitter.Cut.{Cut}
use Rattle.text_rules.specs.Split.{cut_of}
use Rattle.text_rules.proofs.Cuts.{cut_ahead}
use Rattle.program_rules.specs.declared.Clerk.{Clerk}
use Rattle.program_rules.specs.declared.View.{View}
use Rattle.program_rules.specs.declared.Worked.{Worked}
use Rattle.program_rules.specs.Work.{roomy, due, Turn, turning, cutting, stopped, work_by, work_of}
use Rattle.program_rules.proofs.Turns.{work_done, work_full, Rest, work_on, turn_passes}

-- where the work has come to, and what the buffer then holds, for a call with these arguments
abbrev pub Works : View → Clerk → List ℕ → ℕ → List ℕ → ℕ → Worked → List ℕ → Type 0
Works view c chunk from out at w after = (w ≡ (work_of view c chunk from out at).worked) × (after ≡ (work_of view c chunk from out at).out)

module _ (view : View) (first : Clerk) (chunk : List ℕ) (from : ℕ) (before : List ℕ) (at : ℕ) where
  -- so much of the work is left
  pub record Left (c : Clerk) (next : ℕ) (out : List ℕ) (place : ℕ) : Type 0 where
    pub turns : ℕ
    pub enough : length chunk ≤ next + turns
    pub same : work_of view first chunk from before at ≡ work_by turns view c chunk next out place
    pub long : length out ≡ length before

  -- at first all of it
  pub left_all : Left first from before at
  unfolding work_of
  left_all = record { turns = length chunk; enough = omega arith; same = refl; long = refl }

  module _ (c : Clerk) (next : ℕ) (out : List ℕ) (place : ℕ) (l : Left c next out place) where
    -- at the chunk's end nothing
    pub left_none : length chunk ≤ next → Works view first chunk from before at (record { clerk = c; next = next; at = place; full = false }) out
    unfolding stopped
    left_none h =
        let e = l.same ∙ work_done view c chunk next out place l.turns h in
        (sym (ap (λ w. w.worked) e), sym (ap (λ w. w.out) e))

    -- and where there is no room none of it can be done
    pub left_full : next < length chunk → roomy out place ≡ false → Works view first chunk from before at (record { clerk = c; next = next; at = place; full = true }) out
    unfolding stopped
    left_full h f =
        let e = l.same ∙ work_full view c chunk next out place l.turns h l.enough f in
        (sym (ap (λ w. w.worked) e), sym (ap (λ w. w.out) e))

    -- a cut moves on
    pub cut_moves : (cut : Cut) → cut ≡ cut_of c.splitter chunk next → next < length chunk → next < cut.next
    cut_moves cut e h = rw e (cut_ahead c.splitter chunk next h).0

    -- one turn less
    left_less : (t : Turn) → next < length chunk → roomy out place ≡ true → turning view (cutting c chunk next) out place ≡ t → length t.out ≡ length out →
        Left t.clerk (cut_of c.splitter chunk next).next t.out t.at
    left_less t h f e g =
        let r : Rest view c chunk next out place l.turns t = subst (Rest view c chunk next out place l.turns) e (work_on view c chunk next out place l.turns h l.enough f) in
        record { turns = r.turns; enough = r.enough; same = l.same ∙ r.same; long = g ∙ l.long }

    module _ (cut : Cut) (is_cut : cut ≡ cut_of c.splitter chunk next) (within : next < length chunk) (room : roomy out place ≡ true) where
      -- the clerk after the cut
      abbrev with_cut : Clerk
      with_cut = record { desks = c.desks; splitter = cut.splitter }

      -- by whatever name the cut goes
      left_cut : (t : Turn) → turning view with_cut out place ≡ t → length t.out ≡ length out → Left t.clerk cut.next t.out t.at
      unfolding cutting
      left_cut t e g =
          subst (λ k. Left t.clerk k.next t.out t.at) (sym is_cut)
          (left_less t within room (subst (λ k. turning view (record { desks = c.desks; splitter = k.splitter }) out place ≡ t) is_cut e) g)

      -- no line is to be answered
      pub left_passes : due cut.splitter ≡ false → Left with_cut cut.next out place
      left_passes f = left_cut (record { clerk = with_cut; at = place; out = out }) (turn_passes view with_cut out place f) refl

      -- the line is answered
      pub left_answers : (t : Turn) → turning view with_cut out place ≡ t → length t.out ≡ length out → Left t.clerk cut.next t.out t.at
      left_answers = left_cut
