-- What a request for a job's chain is answered, by what the job is doing: the refusal that is due, or the chain.
-- Assumes nothing.
use Rattle.std.specs.Prelude.{Option, None, Some}
use Prim.Native.Nat.{ℕ, ◌≤◌, ◌<◌}
use mathlib.Core.Path.{◌≡◌, refl, ap, ◌∙◌}
use mathlib.Core.List.{List}
use native.Mathlib.Omega.{arith}
use lib.Dec.{eqb, ltb}
use lib.ListN.{length, get_or}
use borrow.Author.Tests.{eqb-true, ne_eqb, lt-ltb, le-ltb}
use Rattle.laws.specs.Choice.{pick, by_test}
use Rattle.laws.specs.Lists.{member, pos, first_of, filled}
use Rattle.terms.specs.Limits.{places}
use Rattle.terms.specs.declared.letters.Ask.{Ask}
use Rattle.terms.specs.declared.refusals.Refusal.{Refusal}
use Rattle.terms.specs.declared.refusals.Refusal.TheVariants.{NotOpen, SentBack, ShortList}
use Rattle.std.specs.Prelude.{Ok, Err}
use Rattle.desk_rules.specs.Desk.{is_open}
use Rattle.desk_rules.specs.AskedChain.{chain_holds, chain_order, chain_due, chain_told}
use Rattle.desk_arrays.specs.declared.state.Desk.{Desk}
use Rattle.desk_arrays.specs.declared.moves.Found.{Found}
use Rattle.desk_arrays.specs.Codes.{free_code, waiting_code, sent_back_code, ask_of}
use Rattle.desk_arrays.specs.Moves.{status_of, found_at}
use Rattle.desks.specs.Places.{is_seated}
use Rattle.desk_arrays.specs.Stands.{by_number, status_for, status_at, status_by}
use Rattle.desks.proofs.Seats.{pos_end}
use Rattle.desk_plan.proofs.Open.{nowhere_free, open_inside}
use Rattle.desk_chain.specs.Chains.{chain_from, asked_on, waiter_above, next_chain}

-- what a job is doing, by the code that it was found with
status_found : (d : Desk) (job : ℕ) → length d.status ≤ length d.number →
    status_by d job ≡ status_for (status_of d.number d.status job) (get_or d.cell (pos d.number job) 0) (ask_of (get_or d.ask (pos d.number job) 0))
unfolding status_by by_number is_seated status_at
status_found d job h =
    by_test (eqb job 0) (λ t. rw t (unfold status_of status_for in rw t))
    (λ f. rw f (by_test (member job d.number) (λ m. rw m (unfold status_of in rw f))
    (λ m. rw (m, nowhere_free d.number d.status job (omega (arith, pos_end d.number job m))) (unfold status_for in refl))))

-- a job found open stands at a place
pub open_place : (number status : List ℕ) (job : ℕ) {f : Found} → length status ≡ places → f ≡ found_at number status job → (f.code ≡ free_code → ⊥) → f.place < places
unfolding found_at
open_place number status job {f} s e c = rw e (open_inside number status job s (rw e at (ne_eqb f.code free_code c)))

-- which refusal is due, by the code that a job was found with: 3, then 5, then 18
abbrev due_by : ℕ → ℕ → Option Refusal
due_by code n = pick (eqb code free_code) (Some NotOpen) (pick (eqb code sent_back_code) (Some SentBack) (pick (ltb n places) (Some ShortList) None))

-- it is the one that is due by what the job is doing
due_code : (code c n : ℕ) (a : Ask) → chain_due (status_for code c a) n ≡ due_by code n
unfolding chain_due chain_holds chain_order first_of status_for is_open
due_code code c n a =
    by_test (eqb code free_code) (λ t. rw t)
    (λ f. rw f (by_test (eqb code waiting_code) (λ t. rw (t, eqb-true code waiting_code t))
    (λ g. rw g (by_test (eqb code sent_back_code) (λ t. rw t) (λ h. rw h)))))

module _ (d : Desk) (job : ℕ) (list : List ℕ) (n : length d.number ≡ places) (s : length d.status ≡ places) {f : Found} (e : f ≡ found_at d.number d.status job) where
  -- what is answered, by where the job was found and what it was found doing
  asked_by : asked_on d job list ≡ chain_told (chain_from d.number d.status d.cell d.held f.place) list (due_by f.code (length list))
  unfolding asked_on found_at
  asked_by =
      ap (chain_told (chain_from d.number d.status d.cell d.held (pos d.number job)) list)
      (ap (λ t. chain_due t (length list)) (status_found d job (omega arith)) ∙ due_code (status_of d.number d.status job) _ (length list) _)
      ∙ rw e

  -- a refusal leaves the list
  asked_refused : (why : Refusal) → due_by f.code (length list) ≡ Some why → (Err why ≡ (asked_on d job list).said) × (list ≡ (asked_on d job list).list)
  unfolding chain_told
  asked_refused why h = let a = asked_by in (rw (a, h), rw (a, h))

  -- 3: the job is not open
  pub asked_closed : f.code ≡ free_code → (Err NotOpen ≡ (asked_on d job list).said) × (list ≡ (asked_on d job list).list)
  asked_closed h = asked_refused NotOpen (rw h)

  -- 5: the job was sent back
  pub asked_sent_back : f.code ≡ sent_back_code → (Err SentBack ≡ (asked_on d job list).said) × (list ≡ (asked_on d job list).list)
  asked_sent_back h = asked_refused SentBack (rw h)

  module _ (c : f.code ≡ free_code → ⊥) (b : f.code ≡ sent_back_code → ⊥) where
    -- 18: too few places are lent
    pub asked_short : length list < places → (Err ShortList ≡ (asked_on d job list).said) × (list ≡ (asked_on d job list).list)
    asked_short h = asked_refused ShortList (rw (ne_eqb f.code free_code c, ne_eqb f.code sent_back_code b, lt-ltb (length list) places h))

    -- else the chain
    pub asked_told : {r : ℕ} {m : List ℕ} → places ≤ length list → (r ≡ length (chain_from d.number d.status d.cell d.held f.place)) × (m ≡ filled (chain_from d.number d.status d.cell d.held f.place) list) →
        (Ok r ≡ (asked_on d job list).said) × (m ≡ (asked_on d job list).list)
    unfolding chain_told
    asked_told h t =
        let a = asked_by in
        let due : due_by f.code (length list) ≡ None = rw (ne_eqb f.code free_code c, ne_eqb f.code sent_back_code b, le-ltb (length list) places h) in
        (rw (a, due) (ap Ok t.0), rw (a, due) t.1)

module _ (d : Desk) (last : ℕ) (list : List ℕ) {p : ℕ} (e : p ≡ waiter_above d.number d.status last places) where
  -- the chain of the waiter that was found
  pub next_told : {r : ℕ} {m : List ℕ} → p < places → (r ≡ length (chain_from d.number d.status d.cell d.held p)) × (m ≡ filled (chain_from d.number d.status d.cell d.held p) list) →
      (r ≡ length (next_chain d last)) × (m ≡ filled (next_chain d last) list)
  unfolding next_chain
  next_told h t = rw (← e, lt-ltb p places h) t

  -- none where none was found
  pub next_nobody : places ≤ p → (0 ≡ length (next_chain d last)) × (list ≡ filled (next_chain d last) list)
  unfolding next_chain filled
  next_nobody h = rw (← e, le-ltb p places h) (refl, refl)
