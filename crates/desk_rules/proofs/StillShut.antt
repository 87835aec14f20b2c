-- Through any requests beside a job that holds U or X, while its run has not ended: it still holds U or X, and its other holders only become fewer. So a job in its way when it is sent back held S since before it got its U (02, No. 1).
-- Assumes nothing.
use Prim.Native.Nat.{ℕ}
use mathlib.Core.Path.{◌≡◌, refl, sym, ap, ◌∙◌}
use mathlib.Core.Logic.{◌≢◌, ⊎_elim}
use mathlib.Core.Bool.{true, false}
use mathlib.Core.List.{List, [], ◌∷◌, ◌++◌}
use Rattle.laws.specs.Choice.{not_both}
use Rattle.laws.proofs.Parts.{nor_first, nor_second}
use Rattle.conflict.specs.Modes.{shuts_out, is_free}
use Rattle.conflict.specs.Runs.{ended}
use Rattle.conflict.specs.History.{History}
use Rattle.conflict.proofs.Appended.{ended_append}
use Rattle.conflict.proofs.Shutting.{shut_grows}
use Rattle.desks.specs.Request.{Request}
use Rattle.desk_rules.specs.Desk.{Desk}
use Rattle.desk_rules.specs.Step.{step, events}
use Rattle.desks.specs.Requests.{writes}
use Rattle.desk_rules.specs.Requests.{desk_after, history_of}
use Rattle.desk_rules.specs.Invariant.{Inv}
use Rattle.desk_rules.proofs.Kept.{step_inv}
use Rattle.desk_rules.proofs.Moved.{step_moved}
use Rattle.desk_rules.proofs.Holding.{moved_held}
use Rattle.desks.proofs.StartedThrough.{after_both, wrote_both}
use Rattle.desk_rules.proofs.ShutOut.{moved_beside}

-- if no run of the job ends in a history of two parts, none ends in either
neither : (j : ℕ) (g h : History) → ended j (g ++ h) ≡ false → (ended j g ≡ false) × (ended j h ≡ false)
neither j g h e =
    let f = sym (ended_append j g h) ∙ e in
    (nor_first (ended j g) (ended j h) f, nor_second (ended j g) (ended j h) f)

-- the invariant holds after any requests
pub run_inv : {d : Desk} → Inv d → (rs : List Request) → Inv (desk_after d rs)
run_inv v [] = v
run_inv {d} v (r ∷ rs) = run_inv {d = (step d r).desk} (step_inv v r) rs

module _ (c j : ℕ) where
  -- after a step that does not end its run, a job that shuts others out still does
  pub step_shuts : {d : Desk} → Inv d → (r : Request) → ended j (events d r) ≡ false → shuts_out ((d.row c).held j) ≡ true → shuts_out (((step d r).desk.row c).held j) ≡ true
  step_shuts {d} v r e h =
      ⊎_elim (λ k. shut_grows ((d.row c).held j) (((step d r).desk.row c).held j) k h) (λ t. not_both t e) (moved_held v r j c (step_moved d r) refl)

  -- and so after any requests
  pub still_shuts : {d : Desk} → Inv d → (rs : List Request) → ended j (history_of d rs) ≡ false → shuts_out ((d.row c).held j) ≡ true → shuts_out (((desk_after d rs).row c).held j) ≡ true
  unfolding writes
  still_shuts v [] e h = h
  still_shuts {d} v (r ∷ rs) e h =
      let (p, q) = neither j (events d r) (history_of (step d r).desk rs) e in
      still_shuts {d = (step d r).desk} (step_inv v r) rs q (step_shuts v r p h)

  -- and every other holder of the cell after them held it before them, in the same mode
  pub fewer_through : {d : Desk} → Inv d → (rs : List Request) (i : ℕ) → i ≢ j → shuts_out ((d.row c).held j) ≡ true → ended j (history_of d rs) ≡ false → is_free (((desk_after d rs).row c).held i) ≡ false → ((desk_after d rs).row c).held i ≡ (d.row c).held i
  unfolding writes
  fewer_through v [] i n h e f = refl
  fewer_through {d} v (r ∷ rs) i n h e f =
      let (p, q) = neither j (events d r) (history_of (step d r).desk rs) e in
      let g = step_shuts v r p h in
      let z = fewer_through {d = (step d r).desk} (step_inv v r) rs i n g q f in
      z ∙ moved_beside v r c i j (step_moved d r) n h g (rw z at f)

  -- at each moment in between, too
  pub same_between : {d : Desk} → Inv d → (some more : List Request) (i : ℕ) → i ≢ j → shuts_out ((d.row c).held j) ≡ true → ended j (history_of d (some ++ more)) ≡ false → is_free (((desk_after d (some ++ more)).row c).held i) ≡ false →
      ((desk_after d some).row c).held i ≡ ((desk_after d (some ++ more)).row c).held i
  same_between {d} v some more i n h e f =
      let (p, q) = neither j (history_of d some) (history_of (desk_after d some) more) (sym (ap (ended j) (wrote_both step d some more)) ∙ e) in
      let z = ap (λ x. (x.row c).held i) (after_both step d some more) in
      sym (z ∙ fewer_through (run_inv v some) more i n (still_shuts v some p h) q (rw z at f))
