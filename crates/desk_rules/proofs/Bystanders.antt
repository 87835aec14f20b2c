-- A step changes the status and place of no job but the one that the answer names and the woken ones (01, The desk's rules).
-- Assumes nothing.
use Rattle.std.specs.Prelude.{Some}
use Prim.Native.Nat.{ℕ}
use mathlib.Core.Path.{◌≡◌, refl, ◌∙◌}
use mathlib.Core.Logic.{◌≢◌}
use mathlib.Core.Bool.{false}
use mathlib.Core.List.{List}
use Rattle.terms.specs.declared.letters.Letter.{Letter}
use Rattle.terms.specs.declared.letters.Letter.TheVariants.{Begin}
use Rattle.terms.specs.Letters.{letter_of}
use Rattle.laws.specs.Lists.{member}
use Rattle.desks.specs.declared.Answer.{Answer}
use Rattle.desks.specs.declared.Answer.TheVariants.{Go, Back}
use Rattle.desks.specs.Request.{Request}
use Rattle.laws.specs.Functions.{at}
use Rattle.desks.specs.Places.{vacated}
use Rattle.desk_rules.specs.Desk.{Status, closed, running, sentback, waiting, Desk}
use Rattle.desks.specs.Begin.{refused}
use Rattle.desk_rules.specs.Rules.{Outcome, with_row, with_status, is_woken, rule4}
use Rattle.desks.specs.Table.{is_begin}
use Rattle.desk_rules.specs.Table.{named}
use Rattle.desk_rules.specs.Moves.{Moved, refuses, begins, commits, gives_up, retries, has_it, promotes, waits_in_front, enters, waits_last, goes_back}
use Rattle.laws.proofs.Functions.{at_other}
use Rattle.desks.proofs.Places.{seated_others, vacated_others}
use Rattle.desk_rules.proofs.Wakes.{others_stay}
use Rattle.desk_rules.proofs.RunEnd.{wakes_after}

-- at the end of a job's run, another job that is not woken stays as it was
ended_others : (d : Desk) (j : ℕ) (s : Status) (js : List ℕ) (said : Answer) (i : ℕ) → i ≢ j → is_woken i (rule4 d j s js said).wakes ≡ false → (rule4 d j s js said).desk.stat i ≡ d.stat i
unfolding rule4
ended_others d j s js said i n f = others_stay (at d.stat j s) (wakes_after d j) i f ∙ at_other d.stat j s i n

module _ (d : Desk) (r : Request) (i : ℕ) (n : i ≢ named d r) where
  -- a job that the answer does not name is not the request's, unless the request is a begin
  pub not_job : {l : Letter} → letter_of r.kind ≡ Some l → is_begin l ≡ false → i ≢ r.job
  unfolding named
  not_job e f q = n (q ∙ rw (e, f))

  -- nor is it the new job of a begin
  not_next : letter_of r.kind ≡ Some Begin → i ≢ d.next
  unfolding named
  not_next e q = n (q ∙ rw e)

  -- a job that the answer does not name and that is not woken stays as it was
  pub moved_status : {o : Outcome} → Moved d r o → is_woken i o.wakes ≡ false → o.desk.stat i ≡ d.stat i
  moved_status (refuses why _) h = unfold refused in refl
  moved_status (begins l m k) h = at_other d.stat d.next running i (not_next l)
  moved_status (commits l s) h = ended_others d r.job closed (vacated r.job d.jobs) (Go r.job) i (not_job l refl) h
  moved_status (gives_up l s) h = ended_others d r.job closed (vacated r.job d.jobs) (Go r.job) i (not_job l refl) h
  moved_status (retries l s) h = unfold with_status in at_other d.stat r.job running i (not_job l refl)
  moved_status (has_it b k x) h = refl
  moved_status (promotes b k x f z) h = unfold with_row in refl
  moved_status (waits_in_front b k x f z w) h = unfold with_status with_row in at_other d.stat r.job (waiting r.cell b) i (not_job k.letter refl)
  moved_status (enters b k f z w) h = unfold with_row in refl
  moved_status (waits_last b k f z w u) h = unfold with_status with_row in at_other d.stat r.job (waiting r.cell b) i (not_job k.letter refl)
  moved_status (goes_back b k x) h = ended_others d r.job sentback d.jobs (Back r.job) i (not_job k.letter refl) h

  -- and keeps its place
  pub moved_place : i ≢ 0 → {o : Outcome} → Moved d r o → member i o.desk.jobs ≡ member i d.jobs
  moved_place z (refuses why _) = unfold refused in refl
  moved_place z (begins l m k) = seated_others d.next d.jobs i (not_next l) z
  moved_place z (commits l s) = unfold rule4 in vacated_others r.job d.jobs i (not_job l refl) z
  moved_place z (gives_up l s) = unfold rule4 in vacated_others r.job d.jobs i (not_job l refl) z
  moved_place z (retries l s) = unfold with_status in refl
  moved_place z (has_it b k x) = refl
  moved_place z (promotes b k x f y) = unfold with_row in refl
  moved_place z (waits_in_front b k x f y w) = unfold with_status with_row in refl
  moved_place z (enters b k f y w) = unfold with_row in refl
  moved_place z (waits_last b k f y w u) = unfold with_status with_row in refl
  moved_place z (goes_back b k x) = unfold rule4 in refl
