-- The waiting places in ascending order of their numbers: the first above a number is the place of the first waiting job above it (02, No. 3).
-- Assumes nothing.
use Prim.Native.Nat.{ℕ, suc, ◌<◌, ◌≤◌}
use mathlib.Core.Path.{◌≡◌, refl, sym, ap, ◌∙◌}
use mathlib.Core.Logic.{◌≢◌, ◌⊎◌, inl, inr, ⊎_elim}
use mathlib.Core.Bool.{true, false, ◌&&◌}
use mathlib.Core.List.{List}
use native.Mathlib.Omega.{arith}
use lib.Dec.{eqb, ltb}
use lib.ListN.{length, get_or, get_or-eq_default}
use borrow.Author.Tests.{eqb-true, eq-eqb, ltb-true, lt-ltb}
use Rattle.laws.specs.Choice.{by_test, not_both}
use Rattle.laws.specs.Lists.{pos}
use Rattle.laws.proofs.Parts.{and_first, and_second}
use Rattle.laws.proofs.Lists.{any_default}
use Rattle.terms.specs.declared.letters.Ask.{Ask}
use Rattle.terms.specs.Limits.{places, last_number}
use Rattle.desk_rules.specs.Desk.{Status, closed, running, waiting, sentback, is_open}
use Rattle.desk_rules.specs.Table.{is_waiting}
use Rattle.desk_rules.specs.Invariant.{Inv}
use Rattle.desk_rules.proofs.ChainsKept.{waits_open}
use Rattle.desk_arrays.specs.declared.state.Desk.{Desk}
use Rattle.desk_arrays.specs.Codes.{waiting_code}
use Rattle.desk_arrays.specs.Places.{waits_at}
use Rattle.desk_arrays.specs.Stands.{Plain}
use Rattle.desk_arrays.specs.Seen.{view}
use Rattle.desk_arrays.proofs.Best.{best_found, none_found}
use Rattle.desk_arrays.proofs.Cases.{by_below}
use Rattle.desks.proofs.Seats.{Seat, seat_at, seat_below, seat_only}
use Rattle.desk_arrays.proofs.StatusCodes.{waits_status, status_waits}
use Rattle.desk_chain.specs.Chains.{waits_within, waiter_above}
use Rattle.desk_chain.proofs.NextTied.{open_seat}
use Rattle.desk_chain.proofs.ChainTied.{place_status}

-- a waiting job waits for a cell with what it asked
pub waits_for : {P : Type 0} (s : Status) → is_waiting s ≡ true → ((c : ℕ) (a : Ask) → s ≡ waiting c a → P) → P
waits_for closed h f = not_both h refl
waits_for running h f = not_both h refl
waits_for (waiting c a) h f = f c a refl
waits_for sentback h f = not_both h refl

-- a place that waits is one of the 32
waits_there : (l : List ℕ) (p : ℕ) → get_or l p 0 ≡ waiting_code → p < length l
waits_there l p e = by_below p (length l) (λ h. h) (λ h. let z = get_or-eq_default l 0 {n = p} h in absurd (omega arith))

module _ {d : Desk} (v : Inv (view d)) (pl : Plain d) where
  -- the job at a place that waits is a waiting job
  place_waits : (p : ℕ) → get_or d.status p 0 ≡ waiting_code → Seat d.number (get_or d.number p 0) p × (is_waiting ((view d).stat (get_or d.number p 0)) ≡ true)
  place_waits p e =
      let l = waits_there d.status p e in
      let s = seat_at {ks = d.number} v.once p (omega (arith, l, pl.statuses, pl.numbers)) (λ z. omega (arith, pl.free_status p (omega (arith, l, pl.statuses)) z, e)) in
      (s, ap is_waiting (place_status v pl s ∙ waits_status d.status d.cell d.ask (get_or d.cell p 0) p (unfold waits_at in rw (eq-eqb (get_or d.status p 0) waiting_code e, eq-eqb (get_or d.cell p 0) (get_or d.cell p 0) refl))))

  -- and the place of a waiting job waits
  job_waits : (j : ℕ) → is_waiting ((view d).stat j) ≡ true → Seat d.number j (pos d.number j) × (get_or d.status (pos d.number j) 0 ≡ waiting_code)
  job_waits j h =
      let s = open_seat v pl j (waits_open ((view d).stat j) h) in (
        s,
        waits_for ((view d).stat j) h (λ c a e. let t : (eqb (get_or d.status (pos d.number j) 0) waiting_code && eqb (get_or d.cell (pos d.number j) 0) c) ≡ true = unfold waits_at in (status_waits d.status d.cell d.ask (pos d.number j) (sym (place_status v pl s) ∙ e)).0 in
            eqb-true (get_or d.status (pos d.number j) 0) waiting_code (and_first (eqb (get_or d.status (pos d.number j) 0) waiting_code) (eqb (get_or d.cell (pos d.number j) 0) c) t)),
      )

  module _ (last : ℕ) where
    -- a place that waits under a number above `last`
    abbrev Above : ℕ → Type 0
    Above p = (get_or d.status p 0 ≡ waiting_code) × (last < get_or d.number p 0)

    -- what the test of a place says
    within_says : (least p : ℕ) → waits_within d.number d.status last least p ≡ true → Above p × (get_or d.number p 0 < least)
    unfolding waits_within
    within_says least p t =
        let r = and_second (eqb (get_or d.status p 0) waiting_code) (ltb last (get_or d.number p 0) && ltb (get_or d.number p 0) least) t in (
          (
            eqb-true (get_or d.status p 0) waiting_code (and_first (eqb (get_or d.status p 0) waiting_code) (ltb last (get_or d.number p 0) && ltb (get_or d.number p 0) least) t),
            ltb-true last (get_or d.number p 0) (and_first (ltb last (get_or d.number p 0)) (ltb (get_or d.number p 0) least) r),
          ),
          ltb-true (get_or d.number p 0) least (and_second (ltb last (get_or d.number p 0)) (ltb (get_or d.number p 0) least) r),
        )

    -- and what makes it hold
    says_within : (least p : ℕ) → Above p → get_or d.number p 0 < least → waits_within d.number d.status last least p ≡ true
    unfolding waits_within
    says_within least p (e, l) g = rw (eq-eqb (get_or d.status p 0) waiting_code e, lt-ltb last (get_or d.number p 0) l, lt-ltb (get_or d.number p 0) least g)

    -- where no job above `last` waits, nobody is found
    pub nobody_above : ((j : ℕ) → last < j → is_waiting ((view d).stat j) ≡ true → ⊥) → waiter_above d.number d.status last places ≡ places
    nobody_above h =
        none_found (waiter_above d.number d.status last) (λ b p. waits_within d.number d.status last (get_or d.number b (suc last_number)) p) (unfold waiter_above in refl) (λ m. unfold waiter_above in refl)
        (λ b. Unit {0}) tt (λ b n _ _. tt) places
        (λ p l. by_test (waits_within d.number d.status last (get_or d.number places (suc last_number)) p)
        (λ t. let ((e, g), k) = within_says (get_or d.number places (suc last_number)) p t in absurd (h (get_or d.number p 0) g (place_waits p e).1)) (λ f. f))

    module _ (few : (j : ℕ) → is_open ((view d).stat j) ≡ true → j ≤ last_number) (w : ℕ) (above : last < w) (waits : is_waiting ((view d).stat w) ≡ true)
        (least : (j : ℕ) → last < j → is_waiting ((view d).stat j) ≡ true → w ≤ j) where
      -- its place
      abbrev there : ℕ
      there = pos d.number w

      -- the first waiting job takes over from everybody else
      takes_over : (b : ℕ) → (b ≡ places) ⊎ Above b → b ≢ there → waits_within d.number d.status last (get_or d.number b (suc last_number)) there ≡ true
      takes_over b k o =
          let (s, e) = job_waits w waits in
          let z = s.sits in
          let u = few w (waits_open ((view d).stat w) waits) in
          says_within (get_or d.number b (suc last_number)) there (e, omega (arith, z, above))
          (⊎_elim (λ g. let y = get_or-eq_default d.number (suc last_number) {n = b} (omega (arith, g, pl.numbers)) in omega (arith, y, z, u))
          (λ g. let (t, m) = place_waits b g.0 in
          let y = any_default d.number b (suc last_number) 0 t.within in
          by_below w (get_or d.number b 0) (λ x. omega (arith, x, y, z)) (λ x. let r = least (get_or d.number b 0) g.1 m in absurd (o (seat_only s v.once b t.within (omega (arith, x, r))))))
          k)

      -- and nobody from it
      stays_there : (p : ℕ) → waits_within d.number d.status last (get_or d.number there (suc last_number)) p ≡ false
      stays_there p =
          let s = (job_waits w waits).0 in
          let y = any_default d.number there (suc last_number) 0 s.within in
          let z = s.sits in
          by_test (waits_within d.number d.status last (get_or d.number there (suc last_number)) p)
          (λ t. let ((e, g), k) = within_says (get_or d.number there (suc last_number)) p t in let r = least (get_or d.number p 0) g (place_waits p e).1 in absurd (omega (arith, k, y, z, r))) (λ f. f)

      -- so it is found
      pub waiter_found : waiter_above d.number d.status last places ≡ there
      waiter_found =
          best_found (waiter_above d.number d.status last) (λ b p. waits_within d.number d.status last (get_or d.number b (suc last_number)) p) (unfold waiter_above in refl) (λ m. unfold waiter_above in refl)
          (λ b. (b ≡ places) ⊎ Above b) (inl refl) (λ b p _ t. inr (within_says (get_or d.number b (suc last_number)) p t).0) there takes_over stays_there places (seat_below (job_waits w waits).0 places pl.numbers)
