-- A plan names only places and cells that exist: an open job has a place, and rules 1 to 3 are asked only for a cell below 64.
-- Assumes nothing.
use Rattle.std.specs.Prelude.{Option, None, Some}
use Prim.Native.Nat.{ℕ, ◌<◌}
use mathlib.Core.Path.{◌≡◌, refl}
use mathlib.Core.Bool.{Bool, true, false, ◌&&◌}
use mathlib.Core.List.{List}
use lib.Dec.{eqb, ltb}
use lib.ListN.{length}
use borrow.Author.Tests.{ltb-true}
use Rattle.std.specs.Prelude.{Result, Ok}
use Rattle.laws.specs.Choice.{pick, by_test}
use Rattle.laws.specs.Lists.{pos}
use Rattle.terms.specs.declared.letters.Letter.{Letter}
use Rattle.terms.specs.declared.letters.Ask.{Ask}
use Rattle.terms.specs.declared.letters.Letter.TheVariants.{Begin as begins, Commit, GiveUp, Retry as retries, Back as no-request, Asks}
use Rattle.terms.specs.declared.refusals.Refusal.{Refusal}
use Rattle.terms.specs.Limits.{places, cells, last_number}
use Rattle.conflict.specs.declared.modes.Mode.{Mode}
use Rattle.conflict.specs.Modes.{needed, covers, asked, is_free}
use Rattle.desk_arrays.specs.declared.moves.Ending.TheVariants.{SentBack}
use Rattle.desk_arrays.specs.declared.moves.Move.{Move}
use Rattle.desk_arrays.specs.declared.moves.Move.TheVariants.{Keep, Take, Stay, End}
use Rattle.desk_arrays.specs.Codes.{free_code, waiting_code, sent_back_code}
use Rattle.desk_arrays.specs.Places.{mode_at, agrees_at, older_at, nobody_waits, oldest_of}
use Rattle.desk_arrays.proofs.Beginning.{begin_picks}
use Rattle.desk_arrays.specs.Moves.{status_of, found_at, standing_of, if_runs, commit_move, give_up_move, retry_move, promotes, enters, decided, ask_move, move_for}
use Rattle.desk_plan.specs.Fits.{Fits}
use Rattle.desk_plan.proofs.Open.{open_inside}

-- a choice of two plans that fit
fits_pick : {A : Type 0} (c : ℕ) (as_move : A → Result Move Refusal) (b : Bool) (x y : A) → (b ≡ true → Fits c (as_move x)) → (b ≡ false → Fits c (as_move y)) → Fits c (as_move (pick b x y))
fits_pick c as_move true x y f g = f refl
fits_pick c as_move false x y f g = g refl

-- what only a running job may do fits, if it does where the job is open
fits_runs : (c code : ℕ) (goes : Result Move Refusal) → (eqb code free_code ≡ false → Fits c goes) → Fits c (if_runs (standing_of code) goes)
unfolding if_runs standing_of
fits_runs c code goes g =
    by_test (eqb code free_code) (λ t. rw t tt)
    (λ f. rw f (by_test (eqb code waiting_code) (λ t. rw t tt) (λ h. rw h (by_test (eqb code sent_back_code) (λ t. rw t tt) (λ k. rw k (g f))))))

-- a mode taken, a wait or a run that ends, by two tests
fits_either : (p c : ℕ) (a : Ask) (m : Mode) (x y : Bool) → p < places → c < cells → Fits c (Ok (pick x (Take p m) (pick y (Stay p a) (End p SentBack))))
fits_either p c a m true y h l = (h, l)
fits_either p c a m false true h l = (h, l)
fits_either p c a m false false h l = h

module _ (number status cell held : List ℕ) (p c job : ℕ) (a : Ask) (place : p < places) (below : c < cells) where
  -- what rule 3 decides fits
  fits_enters : Fits c (Ok (enters number status cell held p c job a))
  unfolding enters
  fits_enters =
      fits_either p c a (needed a) (nobody_waits status cell c && agrees_at held c p (needed a)) (older_at held number c p job && oldest_of number status cell c job) place below

  -- what rule 2 decides fits
  fits_promotes : Fits c (Ok (promotes number held p c job a))
  unfolding promotes
  fits_promotes =
      let m : Mode = asked (mode_at held c p) (needed a) in
      fits_either p c a m (agrees_at held c p m) (older_at held number c p job) place below

  -- what rules 1 to 3 decide for a place and a cell that there are fits
  fits_decided : Fits c (Ok (decided number status cell held p c job a))
  unfolding decided
  fits_decided =
      fits_pick c Ok (covers (mode_at held c p) (needed a)) Keep (pick (is_free (mode_at held c p)) (enters number status cell held p c job a) (promotes number held p c job a)) (λ _. tt)
      (λ _. fits_pick c Ok (is_free (mode_at held c p)) (enters number status cell held p c job a) (promotes number held p c job a) (λ _. fits_enters) (λ _. fits_promotes))

-- every plan fits
pub plan_fits : (next : ℕ) (number status cell held : List ℕ) (job c : ℕ) (l : Option Letter) → length status ≡ places → Fits c (move_for next number status cell held job c l)
unfolding move_for commit_move give_up_move retry_move ask_move found_at
plan_fits next number status cell held job c None e = tt
plan_fits next number status cell held job c (Some no-request) e = tt
plan_fits next number status cell held job c (Some begins) e =
    rw (begin_picks next number) (fits_pick c (λ m. m) (ltb last_number next) _ _ (λ t. tt) (λ f. fits_pick c (λ m. m) (ltb (pos number 0) places) _ _ (λ t. ltb-true (pos number 0) places t) (λ t. tt)))
plan_fits next number status cell held job c (Some Commit) e = fits_runs c _ _ (open_inside number status job e)
plan_fits next number status cell held job c (Some GiveUp) e = fits_pick c (λ m. m) _ _ _ (λ t. tt) (open_inside number status job e)
plan_fits next number status cell held job c (Some retries) e =
    let code = status_of number status job in
    by_test (eqb code free_code) (λ t. rw t tt)
    (λ f. rw f (by_test (eqb code waiting_code) (λ t. rw t tt) (λ g. rw g (by_test (eqb code sent_back_code) (λ t. rw t tt) (λ h. rw h tt)))))
plan_fits next number status cell held job c (Some (Asks a)) e =
    fits_runs c _ _ (λ o. fits_pick c (λ m. m) (ltb c cells) _ _ (λ t. fits_decided number status cell held _ c job a (open_inside number status job e o) (ltb-true c cells t)) (λ t. tt))
