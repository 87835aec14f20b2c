-- THE CHAINS OVER THE ARRAYS ARE THE PAPER'S, for every started desk that runs: those of all waiting jobs, in ascending order (02, No. 3).
-- Assumes nothing.
use Prim.Native.Nat.{ℕ, zero, suc, ◌<◌, ◌≤◌}
use mathlib.Core.Path.{◌≡◌, refl, sym, ap, ◌∙◌}
use mathlib.Core.Bool.{true}
use mathlib.Core.List.{List, [], ◌∷◌, map}
use native.Mathlib.Omega.{arith}
use lib.ListN.{length}
use borrow.Author.Tests.{lt-ltb}
use Rattle.laws.specs.Choice.{not_both}
use Rattle.laws.specs.Lists.{member, pos}
use Rattle.laws.proofs.Lists.{member_first, member_more, member_split, member_none}
use Rattle.terms.specs.Limits.{places, last_number}
use Rattle.conflict.specs.History.{History}
use Rattle.desk_rules.specs.Desk.{is_open, is_live}
use Rattle.desk_rules.specs.Table.{is_waiting}
use Rattle.desks.specs.Requests.{Rising}
use Rattle.desk_rules.specs.Invariant.{Inv}
use Rattle.desk_rules.specs.Chain.{chain_of, waiting_below, all_chains}
use Rattle.desk_rules.specs.AskedChain.{ask_chain}
use Rattle.desk_rules.proofs.Statuses.{waiting_live}
use Rattle.desks.proofs.Numbers.{rising_distinct}
use Rattle.laws.proofs.Pigeonhole.{no_longer}
use Rattle.desk_rules.proofs.ChainIs.{is_chain}
use Rattle.desk_rules.proofs.AlongChain.{chain_begins}
use Rattle.desk_rules.proofs.WaitingList.{listed_waits, waits_listed, waiting_rises}
use Rattle.desk_rules.proofs.ChainsKept.{waits_open}
use Rattle.desk_arrays.specs.declared.state.Desk.{Desk}
use Rattle.desk_arrays.specs.Stands.{Plain}
use Rattle.desk_arrays.specs.Seen.{view, Started}
use Rattle.desks.proofs.Seats.{seat_below}
use Rattle.desk_arrays.proofs.DeskPromises.{desk_promises}
use Rattle.desk_chain.specs.Chains.{asked_on, next_chain, first_job, chain_and, chains_by, chains_on}
use Rattle.desk_chain.proofs.NextTied.{open_seat}
use Rattle.desk_chain.proofs.ChainTied.{chain_is, asked_is, started_view}
use Rattle.desk_chain.proofs.WaiterFound.{waits_for, nobody_above, waiter_found}

-- a chain and then the others, where there is one
chain_first : (n : ℕ) (d : Desk) (last w : ℕ) (rest : List ℕ) → next_chain d last ≡ w ∷ rest → chains_by (suc n) d last ≡ (w ∷ rest) ∷ chains_by n d w
unfolding chains_by chain_and first_job
chain_first n d last w rest e = rw e

-- and no other, where there is none
chain_none : (n : ℕ) (d : Desk) (last : ℕ) → next_chain d last ≡ [] → chains_by n d last ≡ []
unfolding chains_by chain_and
chain_none zero d last e = refl
chain_none (suc n) d last e = rw e

module _ {d : Desk} (v : Inv (view d)) (pl : Plain d) (few : (j : ℕ) → is_open ((view d).stat j) ≡ true → j ≤ last_number) where
  -- a waiting job is live
  waits_live : (j : ℕ) → is_waiting ((view d).stat j) ≡ true → is_live ((view d).stat j) ≡ true
  waits_live j h = waits_for ((view d).stat j) h (λ c a e. waiting_live e)

  -- where nobody above `last` waits there is no chain
  no_chain : (last : ℕ) → ((j : ℕ) → last < j → is_waiting ((view d).stat j) ≡ true → ⊥) → next_chain d last ≡ []
  unfolding next_chain
  no_chain last h = rw (nobody_above v pl last h)

  -- the chain of the first waiting job above `last`
  first_chain : (last w : ℕ) → last < w → is_waiting ((view d).stat w) ≡ true → ((j : ℕ) → last < j → is_waiting ((view d).stat j) ≡ true → w ≤ j) → next_chain d last ≡ chain_of (view d) w
  unfolding next_chain
  first_chain last w l h least =
      rw (waiter_found v pl last few w l h least, lt-ltb (pos d.number w) places (seat_below (open_seat v pl w (waits_open ((view d).stat w) h)) places pl.numbers)) (chain_is v pl w (waits_live w h))

  -- the chains of the waiting jobs above `last`, in order
  chains_above : (n last : ℕ) (ws : List ℕ) → Rising ws → ((j : ℕ) → member j ws ≡ true → (last < j) × (is_waiting ((view d).stat j) ≡ true)) → ((j : ℕ) → last < j → is_waiting ((view d).stat j) ≡ true → member j ws ≡ true) → length ws ≤ n →
      chains_by n d last ≡ map (chain_of (view d)) ws
  chains_above n last [] r listed all l = chain_none n d last (no_chain last (λ j g h. member_none j (all j g h)))
  chains_above zero last (w ∷ ws) r listed all l = absurd (omega arith)
  chains_above (suc n) last (w ∷ ws) r listed all l =
      let (g, h) = listed w (member_first w ws) in
      let (rest, e) = chain_begins (is_chain v w (waits_live w h)) in
      chain_first n d last w rest (first_chain last w g h least ∙ e)
      ∙ ap (λ js. js ∷ chains_by n d w) (sym e)
      ∙ ap (λ cs. chain_of (view d) w ∷ cs) (chains_above n w ws r.1 (λ j m. (r.0 j m, (listed j (member_more w ws j m)).1)) others (omega arith))
    where
      least : (j : ℕ) → last < j → is_waiting ((view d).stat j) ≡ true → w ≤ j
      least j g h = member_split w ws j (all j g h) (λ e. omega (arith, e)) (λ m. let k = r.0 j m in omega arith)

      others : (j : ℕ) → w < j → is_waiting ((view d).stat j) ≡ true → member j ws ≡ true
      others j k h = let g = (listed w (member_first w ws)).0 in member_split w ws j (all j (omega arith) h) (λ e. absurd (omega (arith, e))) (λ m. m)

  -- nobody waits under the number 0
  waits_above : (j : ℕ) → is_waiting ((view d).stat j) ≡ true → 0 < j
  waits_above zero h = not_both h (ap is_waiting v.nobody)
  waits_above (suc j) h = omega arith

  -- all chains
  pub chains_are : chains_on d ≡ all_chains (view d)
  unfolding chains_on all_chains
  chains_are =
      chains_above places 0 (waiting_below (view d).stat d.next) (waiting_rises (view d).stat d.next)
      (λ j m. let h = (listed_waits (view d).stat d.next j m).1 in (waits_above j h, h))
      (λ j _ h. waits_listed (view d).stat d.next j (v.below j (waits_open ((view d).stat j) h)) h)
      (no_more (no_longer (waiting_below (view d).stat d.next) d.number (rising_distinct (waiting_below (view d).stat d.next) (waiting_rises (view d).stat d.next)) (λ j m. v.seats j (waits_open ((view d).stat j) (listed_waits (view d).stat d.next j m).1))))
    where
      no_more : length (waiting_below (view d).stat d.next) ≤ length d.number → length (waiting_below (view d).stat d.next) ≤ places
      no_more h = omega (arith, h, pl.numbers)

module _ {d : Desk} {h : History} (s : Started d h) where
  -- a request to a started desk that runs for a chain is told what the paper says
  pub asked_tied : (j : ℕ) (list : List ℕ) → asked_on d j list ≡ ask_chain (view d) j list
  asked_tied = asked_is (started_view s).0 (started_view s).1

  -- and its chains are those of all waiting jobs
  pub chains_tied : chains_on d ≡ all_chains (view d)
  chains_tied = chains_are (started_view s).0 (started_view s).1 (λ j o. ((desk_promises s).limits.open_within j o).1)
