-- The chains of all waiting jobs, one after another as the code writes them, each in the first places of a list.
-- Assumes nothing.
use Prim.Native.Nat.{ℕ, zero, suc, ◌+◌, ◌*◌, ◌≤◌, ◌<◌}
use mathlib.Core.Path.{◌≡◌, refl, sym, ap, subst, ◌∙◌}
use mathlib.Core.List.{List, [], ◌∷◌, ◌++◌, append_assoc, append-nil}
use native.Mathlib.Omega.{arith}
use lib.Dec.{ltb}
use lib.ListN.{length, take, drop, get_or, length-append}
use borrow.Author.Tests.{ltb-true}
use Rattle.laws.specs.Choice.{by_test}
use Rattle.laws.specs.Lists.{filled}
use Rattle.laws.proofs.Filled.{filled_first}
use Rattle.terms.specs.Limits.{places}
use Rattle.text_rules.specs.Records.{jobs_line}
use Rattle.text_rules.specs.Wrote.{Wrote}
use Rattle.text_rules.proofs.WroteLaws.{wrote_none, wrote_then, wrote_as, wrote_length}
use Rattle.desk_arrays.specs.declared.state.Desk.{Desk}
use Rattle.desk_chain.specs.Chains.{waiter_above, next_chain, first_job, chain_and, chains_by, chains_on}
use Rattle.desk_chain.proofs.Looks.{places_enough, chain_most}
use Rattle.program_rules.specs.Chains.{chain_text}
use Rattle.program_rules.specs.Closing.{job_room, chain_room, chains_room}
use Rattle.clerk.specs.Parts.{Added}

-- no chain has more jobs than there are places
chain_few : (d : Desk) (last : ℕ) → length d.number ≡ places → length (next_chain d last) ≤ places
unfolding next_chain
chain_few d last n =
    let p = waiter_above d.number d.status last places in
    by_test (ltb p places)
    (λ t. rw t (omega (arith, chain_most d.number d.status d.cell d.held p, places_enough d.number d.number p n (omega arith) (ltb-true p places t))))
    (λ f. rw f (omega arith))

-- a chain that fills the first places of a list is not longer than the list
pub chain_fits : {n : ℕ} {list : List ℕ} (js before : List ℕ) → n ≡ length js → list ≡ filled js before → n ≤ length list
unfolding filled
chain_fits js before h e = omega (arith, ap length e, length-append js (drop (length js) before))

-- and is what stands there
chain_there : {n : ℕ} {list : List ℕ} (js before : List ℕ) → n ≡ length js → list ≡ filled js before → take n list ≡ js
chain_there {n} {list} js before h e = ap (λ m. take m list) h ∙ ap (take (length js)) e ∙ filled_first js before

-- and its first job stands in the first place
chain_head : {list : List ℕ} (js before : List ℕ) → list ≡ filled js before → 0 < length js → get_or list 0 0 ≡ first_job js
chain_head [] before e h = absurd (omega arith)
chain_head (j ∷ js) before e h = ap (λ l. get_or l 0 0) e ∙ (unfold filled first_job in refl)

-- a chain, and then the others
chain_and_lem : (js : List ℕ) (rest : List (List ℕ)) → 0 < length js → chain_text (chain_and js rest) ≡ jobs_line js ++ chain_text rest
unfolding chain_text chain_and
chain_and_lem [] rest h = absurd (omega arith)
chain_and_lem (j ∷ js) rest h = refl

-- no chain, and no others
none_and : (js : List ℕ) (rest : List (List ℕ)) → length js ≤ 0 → chain_text (chain_and js rest) ≡ []
unfolding chain_text chain_and
none_and [] rest h = refl
none_and (j ∷ js) rest h = absurd (omega arith)

-- the chains written so far and those left from here are all
pub record ChainsPut (d : Desk) (at next last i : ℕ) (before after : List ℕ) : Type 0 where
  pub turns : ℕ
  pub count : i + turns ≡ places
  pub few : next ≤ at + chain_room * i
  pub bytes : List ℕ
  pub wrote : Wrote at next bytes before after
  pub same : bytes ++ chain_text (chains_by turns d last) ≡ chain_text (chains_on d)

-- before the first
pub chained_none : (d : Desk) {at : ℕ} {b : List ℕ} → at ≤ length b → ChainsPut d at at 0 0 b b
unfolding chains_on
chained_none d h = record { turns = places; count = omega arith; few = omega arith; bytes = []; wrote = wrote_none h; same = refl }

-- one more
chained_next : {d : Desk} {at next to last i : ℕ} {b m p : List ℕ} → ChainsPut d at next last i b m → i < places → 0 < length (next_chain d last) → length (next_chain d last) ≤ places →
    Added (job_room * length (next_chain d last)) next to (jobs_line (next_chain d last)) m p → ChainsPut d at to (first_job (next_chain d last)) (i + 1) b p
chained_next {d} {at} {next} {to} {last} {i} {b} {m} {p} c h some fits a = go c.turns c.count c.same
  where
    js : List ℕ
    js = next_chain d last

    more : (t : ℕ) → chain_text (chains_by (suc t) d last) ≡ jobs_line js ++ chain_text (chains_by t d (first_job js))
    more t = unfold chains_by in chain_and_lem js (chains_by t d (first_job js)) some

    go : (turns : ℕ) → i + turns ≡ places → c.bytes ++ chain_text (chains_by turns d last) ≡ chain_text (chains_on d) → ChainsPut d at to (first_job js) (i + 1) b p
    go zero e s = absurd (omega arith)
    go (suc t) e s =
        let f = c.few in
        let g = a.few in
        let k = a.wrote.ends in
        record {
          turns = t;
          count = omega arith;
          few = omega arith;
          bytes = c.bytes ++ jobs_line js;
          wrote = wrote_then c.wrote a.wrote;
          same = append_assoc c.bytes (jobs_line js) (chain_text (chains_by t d (first_job js))) ∙ ap (λ l. c.bytes ++ l) (sym (more t)) ∙ s;
        }

module _ {d : Desk} {at next last i n : ℕ} {b m list : List ℕ} (before : List ℕ) (c : ChainsPut d at next last i b m) (h : i < places) (size : length d.number ≡ places) (e : n ≡ length (next_chain d last)) (f : list ≡ filled (next_chain d last) before) (some : n ≡ 0 → ⊥) where
  -- there is room for the chain that the list tells
  pub room_for_chain : at + chains_room ≤ length b → (0 < length (take n list)) × (next + job_room * length (take n list) ≤ length m)
  room_for_chain r =
      let t = ap length (chain_there (next_chain d last) before e f) in
      let g = chain_few d last size in
      let k = c.few in
      let w = wrote_length c.wrote in
      (omega arith, omega arith)

  -- and once it is written, one more has been
  pub chained_more : {to : ℕ} {p : List ℕ} → Added (job_room * length (take n list)) next to (jobs_line (take n list)) m p → ChainsPut d at to (get_or list 0 0) (i + 1) b p
  chained_more {to} {p} a =
      let s : 0 < length (next_chain d last) = omega arith in
      subst (λ k. ChainsPut d at to k (i + 1) b p) (sym (chain_head (next_chain d last) before f s))
      (chained_next c h s (chain_few d last size) (subst (λ js. Added (job_room * length js) next to (jobs_line js) m p) (chain_there (next_chain d last) before e f) a))

-- if no waiting job is left, they are all
pub chained_over : {d : Desk} {at next last i : ℕ} {b m : List ℕ} → ChainsPut d at next last i b m → length (next_chain d last) ≤ 0 → Wrote at next (chain_text (chains_on d)) b m
chained_over {d} {last = last} c h = wrote_as c.wrote (sym (append-nil c.bytes) ∙ ap (λ l. c.bytes ++ l) (sym (none_left c.turns)) ∙ c.same)
  where
    none_left : (turns : ℕ) → chain_text (chains_by turns d last) ≡ []
    none_left zero = unfold chains_by chain_text in refl
    none_left (suc t) = unfold chains_by in none_and (next_chain d last) (chains_by t d (first_job (next_chain d last))) h

-- and so they are after as many as there are places
pub chained_all : {d : Desk} {at next last i : ℕ} {b m : List ℕ} → ChainsPut d at next last i b m → places ≤ i → Wrote at next (chain_text (chains_on d)) b m
chained_all {d} {last = last} c h = wrote_as c.wrote (sym (append-nil c.bytes) ∙ ap (λ l. c.bytes ++ l) (sym (none_left c.turns (omega (arith, c.count)))) ∙ c.same)
  where
    none_left : (turns : ℕ) → turns ≤ 0 → chain_text (chains_by turns d last) ≡ []
    none_left zero g = unfold chains_by chain_text in refl
    none_left (suc t) g = absurd (omega arith)
