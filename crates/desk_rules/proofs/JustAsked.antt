-- The desk right after a job asked and was answered wait: the job waits for that cell with what it asked. In its way are exactly the other jobs that held the cell, or stood ahead, when it asked (demand 3).
-- Assumes nothing.
use Rattle.std.specs.Prelude.{Some}
use Prim.Native.Nat.{ℕ}
use mathlib.Core.Path.{◌≡◌, refl, sym, subst}
use mathlib.Core.Bool.{true, false}
use mathlib.Core.List.{List}
use Rattle.laws.specs.Choice.{not_both}
use Rattle.terms.specs.declared.letters.Ask.{Ask}
use Rattle.terms.specs.declared.letters.Letter.TheVariants.{Asks}
use Rattle.terms.specs.Letters.{letter_of}
use Rattle.conflict.specs.Modes.{is_free}
use Rattle.conflict.specs.History.{History}
use Rattle.desks.specs.declared.Answer.TheVariants.{Wait}
use Rattle.desks.specs.Request.{Request}
use Rattle.laws.specs.Standing.{In}
use Rattle.desk_rules.specs.Desk.{Waiter, Desk}
use Rattle.desk_rules.specs.Step.{step, Started}
use Rattle.desk_rules.specs.Waiting.{Ahead, InWay, holds_it, ahead, WasInWay, held_it, stood_ahead}
use Rattle.desk_rules.specs.Asked.{asker}
use Rattle.desk_rules.specs.Effects.{promotion, newcomer, StartsToWait}
use Rattle.desk_rules.proofs.Kept.{started_inv}
use Rattle.desk_rules.proofs.Statuses.{running_not_waiting}
use Rattle.desk_rules.proofs.AnswerTells.{same_ask, Joins}
use Rattle.desk_rules.proofs.StepEffects.{effects}
use Rattle.desk_rules.proofs.KeptStatus.{no_place}
use Rattle.desk_rules.proofs.AheadLaws.{ahead_split, ahead_of_lem, before_last, ahead_before_last}

module _ {d : Desk} {h : History} (s : Started d h) (r : Request) (a : Ask) (l : letter_of r.kind ≡ Some (Asks a)) (e : (step d r).said ≡ Wait r.job) where
  -- a job that asks and is answered wait
  pub just_asked : StartsToWait d (step d r).desk r a r.job
  just_asked = let w = (effects s).waits r r.job e in subst (λ b. StartsToWait d (step d r).desk r b r.job) (same_ask w.1.asking.letter l) w.1

  -- it was not in the queue
  no_place_yet : In (asker r a) (d.row r.cell).queue → ⊥
  no_place_yet m = no_place ((started_inv s).rows r.cell) r.job (λ a. running_not_waiting just_asked.asking.runs) (asker r a) m refl

  -- a job that stands ahead of it stood in the queue when it asked, and it holds nothing
  ahead_stood : (v : Waiter) (q : List Waiter) → Joins d r a q → Ahead v (asker r a) q → WasInWay d r v.job
  ahead_stood v q (promotion f) b = absurd (ahead_split b (λ _ m. no_place_yet m) (λ m. no_place_yet (ahead_of_lem m)))
  ahead_stood v q (newcomer f) b = stood_ahead f v refl (ahead_before_last (d.row r.cell).queue b)

  -- and a job that stood in the queue when it asked stands ahead of it, if it holds nothing
  stood_is_ahead : (v : Waiter) (q : List Waiter) → Joins d r a q → is_free ((d.row r.cell).held r.job) ≡ true → In v (d.row r.cell).queue → Ahead v (asker r a) q
  stood_is_ahead v q (promotion f) t m = not_both t f
  stood_is_ahead v q (newcomer f) t m = before_last m

  -- a job that is in its way right after it asked was in its way when it asked
  pub way_was : (i : ℕ) → InWay ((step d r).desk.row r.cell) (asker r a) i → WasInWay d r i
  way_was i (holds_it n f) = held_it n (subst (λ m. is_free m ≡ false) (just_asked.holds r.cell i) f)
  way_was i (ahead v p b) = subst (WasInWay d r) p (ahead_stood v ((step d r).desk.row r.cell).queue just_asked.queue b)

  -- and a job that was in its way then is in its way now
  pub was_way : (i : ℕ) → WasInWay d r i → InWay ((step d r).desk.row r.cell) (asker r a) i
  was_way i (held_it n f) = holds_it n (subst (λ m. is_free m ≡ false) (sym (just_asked.holds r.cell i)) f)
  was_way i (stood_ahead f v p m) = ahead v p (stood_is_ahead v ((step d r).desk.row r.cell).queue just_asked.queue f m)
