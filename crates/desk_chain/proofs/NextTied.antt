-- The next place after a waiting place, over the arrays, is the place of the paper's next job: the youngest job in the waiter's way holds its cell and is younger (02, No. 3).
-- Assumes nothing.
use Prim.Native.Nat.{ℕ, ◌<◌, ◌≤◌}
use mathlib.Core.Path.{◌≡◌, refl, sym, ap, subst, ◌∙◌}
use mathlib.Core.Logic.{◌≢◌, ◌⊎◌, inl, inr, ⊎_elim}
use mathlib.Core.Bool.{true, false, not, ◌&&◌}
use native.Mathlib.Omega.{arith}
use lib.Dec.{ltb}
use lib.ListN.{get_or, get_or-eq_default}
use borrow.Author.Tests.{ltb-true, lt-ltb, not-true}
use Rattle.laws.specs.Choice.{by_test, not_both}
use Rattle.laws.specs.Lists.{pos}
use Rattle.laws.proofs.Parts.{and_first, and_second, and_both}
use Rattle.laws.proofs.Lists.{any_default, above_within}
use Rattle.terms.specs.declared.letters.Ask.{Ask}
use Rattle.terms.specs.Limits.{places}
use Rattle.conflict.specs.declared.modes.Mode.TheVariants.{Free}
use Rattle.conflict.specs.Modes.{is_free}
use Rattle.desk_rules.specs.Desk.{waiting, Waiter, is_open}
use Rattle.desk_rules.specs.Waiting.{holds_it}
use Rattle.desk_rules.specs.Invariant.{Inv}
use Rattle.desk_rules.specs.Chain.{Next}
use Rattle.desk_rules.proofs.Statuses.{live_open, closed_not_open}
use Rattle.desk_rules.proofs.InTheWay.{way_younger, way_live}
use Rattle.desk_rules.proofs.YoungestHolds.{next_holds}
use Rattle.desk_arrays.specs.declared.state.Desk.{Desk}
use Rattle.desk_arrays.specs.Places.{mode_at}
use Rattle.desk_arrays.specs.Stands.{Plain, mode_by}
use Rattle.desk_arrays.specs.Seen.{view}
use Rattle.desk_arrays.proofs.Best.{best_found}
use Rattle.desk_arrays.proofs.Cases.{by_below}
use Rattle.desks.proofs.Seats.{Seat, seat_of, seat_only, seat_below, member_seated}
use Rattle.desk_arrays.proofs.ByNumber.{place_has}
use Rattle.desk_chain.specs.Chains.{holds_above, holder_above}

module _ {d : Desk} (v : Inv (view d)) (pl : Plain d) where
  -- an open job has a place
  pub open_seat : (j : ℕ) → is_open ((view d).stat j) ≡ true → Seat d.number j (pos d.number j)
  open_seat j o = seat_of d.number j (member_seated d.number j (λ e. not_both (subst (λ x. is_open ((view d).stat x) ≡ true) e o) (closed_not_open v.nobody)) (v.seats j o))

  -- the mode at a place is what the job there holds
  pub place_mode : (c p : ℕ) → p < places → mode_by d c (get_or d.number p 0) ≡ mode_at d.held c p
  unfolding mode_by
  place_mode c p l = place_has Free d.number (mode_at d.held c) v.once (λ q k z. pl.free_held q (omega (arith, k, pl.numbers)) z c) p (omega (arith, l, pl.numbers))

  module _ {j c : ℕ} {a : Ask} (k : (view d).stat j ≡ waiting c a) {i : ℕ} (n : Next (view d) c (record { job = j; ask = a }) i) where
    -- the waiter
    abbrev who : Waiter
    who = record { job = j; ask = a }

    -- the place of the next job
    abbrev there : ℕ
    there = pos d.number i

    -- the next job is younger
    above : j < i
    above = way_younger v c who k i n.way

    -- and has its place
    pub next_seat : Seat d.number i there
    next_seat = open_seat i (live_open ((view d).stat i) (way_live v c who k i n.way))

    -- which holds the cell
    holds_there : is_free (mode_at d.held c there) ≡ false
    holds_there = ap is_free (sym (place_mode c there (seat_below next_seat places pl.numbers)) ∙ ap (mode_by d c) next_seat.sits) ∙ (next_holds v c who k i n).1

    -- no other holder of the cell is younger than the next job
    others_older : (p : ℕ) → p < places → is_free (mode_at d.held c p) ≡ false → get_or d.number p 0 ≢ j → get_or d.number p 0 ≤ i
    others_older p l f o = n.youngest (get_or d.number p 0) (holds_it o (ap is_free (place_mode c p l) ∙ f))

    -- the search has found nobody yet, or a place that holds the cell under a number above the waiter's
    abbrev Kept : ℕ → Type 0
    Kept b = (b ≡ places) ⊎ ((b < places) × (holds_above d.number d.held c j b ≡ true))

    -- the number that a further place has to exceed
    kept_age : (b : ℕ) → Kept b → (get_or d.number b j ≡ j) ⊎ ((b < places) × (is_free (mode_at d.held c b) ≡ false) × (j < get_or d.number b 0) × (get_or d.number b j ≡ get_or d.number b 0))
    unfolding holds_above
    kept_age b (inl e) = inl (get_or-eq_default d.number j {n = b} (omega (arith, e, pl.numbers)))
    kept_age b (inr (l, t)) =
        inr (
          l,
          not-true (is_free (mode_at d.held c b)) (and_first (not (is_free (mode_at d.held c b))) (ltb j (get_or d.number b 0)) t),
          ltb-true j (get_or d.number b 0) (and_second (not (is_free (mode_at d.held c b))) (ltb j (get_or d.number b 0)) t),
          any_default d.number b j 0 (omega (arith, l, pl.numbers)),
        )

    -- a place that takes over holds the cell under a number above the waiter's
    kept_on : (b p : ℕ) → Kept b → holds_above d.number d.held c (get_or d.number b j) p ≡ true → Kept p
    unfolding holds_above
    kept_on b p h t =
        let f = and_first (not (is_free (mode_at d.held c p))) (ltb (get_or d.number b j) (get_or d.number p 0)) t in
        let l : get_or d.number b j < get_or d.number p 0 = ltb-true (get_or d.number b j) (get_or d.number p 0) (and_second (not (is_free (mode_at d.held c p))) (ltb (get_or d.number b j) (get_or d.number p 0)) t) in
        let g : j < get_or d.number p 0 = ⊎_elim (λ e. omega (arith, e, l)) (λ x. omega (arith, x.2, x.3, l)) (kept_age b h) in
        inr (omega (arith, above_within d.number p j g, pl.numbers), and_both (not (is_free (mode_at d.held c p))) (ltb j (get_or d.number p 0)) f (lt-ltb j (get_or d.number p 0) g))

    -- the next job takes over from every other
    takes_over : (b : ℕ) → Kept b → b ≢ there → holds_above d.number d.held c (get_or d.number b j) there ≡ true
    unfolding holds_above
    takes_over b h o =
        and_both (not (is_free (mode_at d.held c there))) (ltb (get_or d.number b j) (get_or d.number there 0)) (ap not holds_there)
        (lt-ltb (get_or d.number b j) (get_or d.number there 0)
        (⊎_elim (λ e. omega (arith, e, above, next_seat.sits))
        (λ x. let y = others_older b x.0 x.1 (λ e. omega (arith, e, x.2)) in
        lesser (get_or d.number b 0) x.3 y (λ e. o (seat_only next_seat v.once b (omega (arith, x.0, pl.numbers)) e)))
        (kept_age b h)))
      where
        lesser : (m : ℕ) → get_or d.number b j ≡ m → m ≤ i → (m ≡ i → ⊥) → get_or d.number b j < get_or d.number there 0
        lesser m e l z = by_below m i (λ g. omega (arith, e, g, next_seat.sits)) (λ g. absurd (z (omega arith)))

    -- and nobody from it
    stays_there : (p : ℕ) → holds_above d.number d.held c (get_or d.number there j) p ≡ false
    unfolding holds_above
    stays_there p =
        by_test (not (is_free (mode_at d.held c p)) && ltb (get_or d.number there j) (get_or d.number p 0))
        (λ t.
        let e : get_or d.number there j ≡ get_or d.number there 0 = any_default d.number there j 0 next_seat.within in
        let l : get_or d.number there j < get_or d.number p 0 = ltb-true (get_or d.number there j) (get_or d.number p 0) (and_second (not (is_free (mode_at d.held c p))) (ltb (get_or d.number there j) (get_or d.number p 0)) t) in
        let f = not-true (is_free (mode_at d.held c p)) (and_first (not (is_free (mode_at d.held c p))) (ltb (get_or d.number there j) (get_or d.number p 0)) t) in
        let s = next_seat.sits in
        let y = others_older p (omega (arith, above_within d.number p (get_or d.number there j) l, pl.numbers)) f (λ z. omega (arith, z, l, e, s, above)) in
        absurd (omega (arith, y, l, e, s)))
        (λ f. f)

    -- so it is found
    pub holder_is_next : holder_above d.number d.held c j places ≡ there
    holder_is_next =
        best_found (holder_above d.number d.held c j) (λ b p. holds_above d.number d.held c (get_or d.number b j) p) (unfold holder_above in refl) (λ m. unfold holder_above in refl)
        Kept (inl refl) kept_on there takes_over stays_there places (seat_below next_seat places pl.numbers)
