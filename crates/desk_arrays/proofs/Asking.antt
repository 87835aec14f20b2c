-- Rules 1 to 3 over the arrays are the paper's: the same tests decide the move, and the move leaves what the rule leaves.
-- Assumes nothing.
use Prim.Native.Nat.{ℕ, ◌<◌}
use mathlib.Core.Path.{◌≡◌, refl, sym, ap}
use mathlib.Core.Bool.{◌&&◌}
use mathlib.Core.List.{List, [], ◌∷◌, ◌++◌}
use lib.Dec.{ltb}
use borrow.Author.Tests.{ltb-true}
use Rattle.std.specs.Prelude.{Ok, Err}
use Rattle.laws.specs.Choice.{pick}
use Rattle.terms.specs.declared.letters.Ask.{Ask}
use Rattle.terms.specs.declared.refusals.Refusal.TheVariants.{CellAbove}
use Rattle.terms.specs.Limits.{cells}
use Rattle.conflict.specs.declared.modes.Mode.{Mode}
use Rattle.conflict.specs.declared.modes.Mode.TheVariants.{Free}
use Rattle.conflict.specs.Modes.{needed, covers, asked, is_free}
use Rattle.desks.specs.declared.Answer.TheVariants.{Go, Wait}
use Rattle.desk_rules.specs.Desk.{closed, running, Waiter}
use Rattle.desk_rules.specs.Locks.{agrees, older_than_holders, older_than_waiters, is_empty}
use Rattle.desk_rules.specs.Rules.{grant, queued, send_back, rule1, rule2, rule3, ask}
use Rattle.desk_rules.specs.Step.{step_ask}
use Rattle.desk_rules.specs.Invariant.{Inv}
use Rattle.desk_arrays.specs.declared.state.Desk.{Desk}
use Rattle.desk_arrays.specs.declared.moves.Ending.TheVariants.{SentBack}
use Rattle.desk_arrays.specs.declared.moves.Move.TheVariants.{Keep, Take, Stay, End}
use Rattle.desk_arrays.specs.Places.{mode_at, agrees_at, older_at, nobody_waits, oldest_of}
use Rattle.desk_arrays.specs.Moves.{promotes, enters, decided}
use Rattle.desk_arrays.specs.Steps.{carried, answer_to, performed}
use Rattle.desk_arrays.specs.Stands.{by_number, status_at, status_by, mode_by, Plain, Tied}
use Rattle.desks.proofs.Seats.{Seat}
use Rattle.desk_arrays.proofs.ByNumber.{FreeHas, seat_has}
use Rattle.desk_arrays.proofs.FreePlaces.{free_closed, free_none}
use Rattle.desk_arrays.proofs.HolderTests.{agrees_at_lem, older_at_lem}
use Rattle.desk_arrays.proofs.Queues.{QueueOf, nobody_waits_lem, oldest_of_lem}
use Rattle.desk_arrays.proofs.Telling.{quiet_tied}
use Rattle.desk_arrays.proofs.Reading.{paper_of, plain_stands, refuse_tied, pick_tied}
use Rattle.desk_arrays.proofs.Changes.{holding_stands, waiting_stands}
use Rattle.desk_arrays.proofs.Ending.{sent_tied}

module _ {d : Desk} {q : ℕ → List Waiter} (plain : Plain d) (v : Inv (paper_of d q)) {j p : ℕ} (seat : Seat d.number j p) (c : ℕ) (a : Ask) where
  -- a free place holds nothing
  none_held : FreeHas Free d.number (mode_at d.held c)
  none_held = free_none d.number plain.numbers d.held c plain.free_held

  -- and its status is closed
  all_closed : FreeHas closed d.number (status_at d.status d.cell d.ask)
  all_closed = free_closed d.number plain.numbers d.status d.cell d.ask plain.free_status

  -- the cell's queue is its waiters
  line : QueueOf (by_number closed d.number (status_at d.status d.cell d.ask)) c (q c)
  unfolding status_by
  line = record { falls = (v.rows c).down; stands = (v.rows c).stands; queued = λ i k. v.queues i c k }

  -- what the place holds is what the job holds
  mine : mode_at d.held c p ≡ mode_by d c j
  unfolding mode_by
  mine = sym (seat_has Free d.number (mode_at d.held c) seat)

  -- nothing changes
  keep_tied : Tied (performed d j c (Ok Keep)) (rule1 (paper_of d q) j)
  unfolding performed carried answer_to rule1
  keep_tied = quiet_tied (Go j) (plain_stands plain q)

  -- the mode is taken
  take_tied : (m : Mode) → c < cells → Tied (performed d j c (Ok (Take p m))) (grant (paper_of d q) j c m)
  unfolding performed carried answer_to grant
  take_tied m b = quiet_tied (Go j) (holding_stands q plain seat c m b)

  -- the job waits
  stay_tied : (l : List Waiter) → Tied (performed d j c (Ok (Stay p a))) (queued (paper_of d q) j c a l)
  unfolding performed carried answer_to queued
  stay_tied l = quiet_tied (Wait j) (waiting_stands q plain seat c a l)

  -- the job goes back
  away_tied : Tied (performed d j c (Ok (End p SentBack))) (send_back (paper_of d q) j)
  away_tied = sent_tied plain v seat c

  -- a promotion
  promotion_tied : c < cells → Tied (performed d j c (Ok (promotes d.number d.held p c j a))) (rule2 (paper_of d q) j c a)
  unfolding promotes rule2 mode_by
  promotion_tied b =
      let m : Mode = asked (mode_by d c j) (needed a) in
      rw mine
      (pick_tied d j c Ok (agrees_at d.held c p m) (agrees d.number (mode_by d c) j m) _ _
      (agrees_at_lem d.number d.held c plain.numbers v.once none_held seat m) (λ _. take_tied m b)
      (λ _. pick_tied d j c Ok (older_at d.held d.number c p j) (older_than_holders d.number (mode_by d c) j) _ _
      (older_at_lem d.number d.held c plain.numbers v.once none_held seat) (λ _. stay_tied (record { job = j; ask = a } ∷ q c)) (λ _. away_tied)))

  -- a job new to the cell
  entry_tied : c < cells → Tied (performed d j c (Ok (enters d.number d.status d.cell d.held p c j a))) (rule3 (paper_of d q) j c a)
  unfolding enters rule3 mode_by
  entry_tied b =
      pick_tied d j c Ok (nobody_waits d.status d.cell c && agrees_at d.held c p (needed a)) (is_empty (q c) && agrees d.number (mode_by d c) j (needed a)) _ _
      (rw (nobody_waits_lem d.number d.status d.cell d.ask v.once all_closed plain.numbers plain.statuses line, agrees_at_lem d.number d.held c plain.numbers v.once none_held seat (needed a))) (λ _. take_tied (needed a) b)
      (λ _. pick_tied d j c Ok (older_at d.held d.number c p j && oldest_of d.number d.status d.cell c j) (older_than_holders d.number (mode_by d c) j && older_than_waiters (q c) j) _ _
      (rw (older_at_lem d.number d.held c plain.numbers v.once none_held seat, oldest_of_lem d.number d.status d.cell d.ask v.once all_closed plain.numbers plain.statuses line j)) (λ _. stay_tied (q c ++ record { job = j; ask = a } ∷ [])) (λ _. away_tied))

  -- rules 1 to 3
  rules_tied : c < cells → Tied (performed d j c (Ok (decided d.number d.status d.cell d.held p c j a))) (ask (paper_of d q) j c a)
  unfolding decided ask
  rules_tied b =
      pick_tied d j c Ok (covers (mode_at d.held c p) (needed a)) (covers (mode_by d c j) (needed a)) _ _ (ap (λ m. covers m (needed a)) mine) (λ _. keep_tied)
      (λ _. pick_tied d j c Ok (is_free (mode_at d.held c p)) (is_free (mode_by d c j)) _ _ (ap is_free mine) (λ _. entry_tied b) (λ _. promotion_tied b))

  -- read, write, increment and u of a running job: 2 for a cell above 63, else by the rules
  pub ask_tied : Tied (performed d j c (pick (ltb c cells) (Ok (decided d.number d.status d.cell d.held p c j a)) (Err CellAbove))) (step_ask (paper_of d q) j c a running)
  unfolding step_ask
  ask_tied = pick_tied d j c (λ m. m) (ltb c cells) (ltb c cells) _ _ refl (λ t. rules_tied (ltb-true c cells t)) (λ _. refuse_tied d j c _ (plain_stands plain q))
