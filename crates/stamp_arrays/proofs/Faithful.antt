-- THE TIMESTAMP DESK THAT RUNS DOES AS THE REQUEST'S DESK DOES: new arrays show a fresh desk, and each step of started arrays is the step of the desk that they show (02, No. 6).
-- Assumes nothing.
use Prim.Native.Nat.{ℕ}
use mathlib.Core.Path.{◌≡◌, refl, sym, subst, ◌∙◌, fun_ext}
use mathlib.Core.List.{[], ◌++◌}
use lib.ListN.{length, get_or, length-set, length-replicate, replicate}
use Rattle.std.specs.Prelude.{Result, Ok, Err}
use Rattle.laws.proofs.Copies.{copies_at}
use Rattle.terms.specs.declared.letters.Ask.{Ask}
use Rattle.terms.specs.declared.letters.Ask.TheVariants.{Read, Write, Increment, Update}
use Rattle.terms.specs.Letters.{letter_of}
use Rattle.terms.specs.Limits.{places, cells}
use Rattle.terms.specs.declared.refusals.Refusal.{Refusal}
use Rattle.conflict.specs.History.{History}
use Rattle.desks.specs.Request.{Request}
use Rattle.desks.specs.Records.{records_of, records_by}
use Rattle.desks.specs.Started.{fresh, after}
use Rattle.desks.specs.Course.{shown}
use Rattle.stamp_rules.specs.Desk.{fresh_desk}
use Rattle.stamp_rules.specs.Step as paper
use Rattle.stamp_rules.specs.Step.{step}
use Rattle.stamp_rules.specs.Faithful.{Faithful}
use Rattle.stamp_rules.proofs.Kept.{started_seats}
use Rattle.stamp_arrays.specs.declared.state.Stamps.{Stamps}
use Rattle.stamp_arrays.specs.declared.moves.Move.{Move}
use Rattle.stamp_arrays.specs.declared.moves.Move.TheVariants.{Begin, Close, SendBack, Act}
use Rattle.stamp_arrays.specs.Steps.{empty_stamps, readers_after, writers_after, carried, move_of, step_of}
use Rattle.stamp_arrays.specs.Seen.{view, on_stamps, Started}
use Rattle.stamp_arrays.proofs.Tied.{Plain, letter_tied}

-- new arrays are seen as a fresh desk
fresh_seen : (n : ℕ) → view (empty_stamps n) ≡ fresh_desk n
unfolding empty_stamps fresh_desk
fresh_seen n = let e : ◌≡◌ {A = ℕ → ℕ} (λ c. get_or (replicate cells 0) c 0) (λ c. 0) = fun_ext (λ c. copies_at {A = ℕ} cells 0 c) in λ i. record { next = n; jobs = replicate places 0; reader = e i; writer = e i }

-- and have as many numbers as there are places and cells
fresh_plain : (n : ℕ) → Plain (empty_stamps n)
unfolding empty_stamps
fresh_plain n = record { numbers = length-replicate {A = ℕ} places 0; readers = length-replicate {A = ℕ} cells 0; writers = length-replicate {A = ℕ} cells 0 }

-- a move leaves as many
plain_kept : (d : Stamps) → Plain d → (job c : ℕ) (m : Result Move Refusal) → Plain (carried d job c m)
unfolding carried
plain_kept d p job c (Err why) = p
plain_kept d p job c (Ok (Begin q n)) = record { numbers = length-set d.number q n ∙ p.numbers; readers = p.readers; writers = p.writers }
plain_kept d p job c (Ok (Close q)) = record { numbers = length-set d.number q 0 ∙ p.numbers; readers = p.readers; writers = p.writers }
plain_kept d p job c (Ok (SendBack q)) = record { numbers = length-set d.number q 0 ∙ p.numbers; readers = p.readers; writers = p.writers }
plain_kept d p job c (Ok (Act a)) = record { numbers = p.numbers; readers = many_readers a ∙ p.readers; writers = many_writers a ∙ p.writers }
  where
    many_readers : (a : Ask) → length (readers_after d.reader c job a) ≡ length d.reader
    many_readers Read = unfold readers_after in length-set d.reader c _
    many_readers Write = unfold readers_after in refl
    many_readers Increment = unfold readers_after in length-set d.reader c _
    many_readers Update = unfold readers_after in length-set d.reader c _

    many_writers : (a : Ask) → length (writers_after d.writer c job a) ≡ length d.writer
    many_writers Read = unfold writers_after in refl
    many_writers Write = unfold writers_after in length-set d.writer c job
    many_writers Increment = unfold writers_after in length-set d.writer c job
    many_writers Update = unfold writers_after in refl

-- and so does a step
step_plain : (d : Stamps) → Plain d → (r : Request) → Plain (on_stamps d r).desk
unfolding step_of
step_plain d p r = plain_kept d p r.job r.cell (move_of d r.kind r.job r.cell)

-- the step of plain arrays, where the desk that is seen in them is started, is the step of that desk
step_seen : (d : Stamps) (h : History) → Plain d → paper.Started (view d) h → (r : Request) → shown view (on_stamps d r) ≡ step (view d) r
unfolding step step_of move_of
step_seen d h p s r = letter_tied d p (started_seats s).once r (letter_of r.kind)

-- started arrays are plain, and the desk that is seen in them is started and has written the same history
pub started_seen : {d : Stamps} {h : History} → Started d h → Plain d × paper.Started (view d) h
unfolding records_by
started_seen (fresh n l u) = (fresh_plain n, subst (λ e. paper.Started e []) (sym (fresh_seen n)) (fresh n l u))
started_seen (after {d = d} {h = h} s r) =
    let (p, k) = started_seen s in
    let e = step_seen d h p k r in (
      step_plain d p r,
      subst (λ o. paper.Started o.desk (h ++ records_of r o.said o.wakes)) (sym e) (after k r),
    )

-- so the arrays do as the request's desk does
pub faithful : Faithful view on_stamps empty_stamps
faithful = record { starts = λ n l u. fresh_seen n; same = λ d h s r. let (p, k) = started_seen s in step_seen d h p k r }
