-- A CHAIN ASKED OF A DESK THAT RUNS: refused exactly when a refusal is due, else told, for every started desk, every job number and every list (02, No. 3).
-- Assumes nothing.
use Prim.Native.Nat.{ℕ, ◌≤◌}
use mathlib.Core.Path.{◌≡◌, sym, subst}
use mathlib.Core.Bool.{true}
use mathlib.Core.List.{List}
use lib.ListN.{length}
use Rattle.laws.specs.Lists.{Fills}
use Rattle.conflict.specs.History.{History}
use Rattle.std.specs.Prelude.{Ok}
use Rattle.desk_rules.specs.Desk.{is_live}
use Rattle.desk_rules.specs.Chain.{chain_of, IsChain}
use Rattle.desk_rules.specs.Chains.{AsksChain}
use Rattle.desk_arrays.specs.declared.state.Desk.{Desk}
use Rattle.desk_arrays.specs.Seen.{view, Started}
use Rattle.desk_arrays.proofs.DeskPromises.{desk_promises}
use Rattle.desk_chain.specs.Chains.{asked_on}
use Rattle.desk_chain.proofs.ChainsTied.{asked_tied}

module _ {d : Desk} {h : History} (s : Started d h) (j : ℕ) (list : List ℕ) where
  -- what it tells keeps every promise: refusals exactly and in their order, the chain in the first places, the rest as it was
  pub desk_asks : AsksChain (view d) j list (asked_on d j list)
  desk_asks = subst (AsksChain (view d) j list) (sym (asked_tied s j list)) ((desk_promises s).chains.asks j list)

  -- a live job, and a list of 32 places or more: how many jobs its chain has, which fill the first places
  pub desk_told : is_live ((view d).stat j) ≡ true → 32 ≤ length list → (js : List ℕ) × IsChain (view d) j js × ((asked_on d j list).said ≡ Ok (length js)) × Fills js list (asked_on d j list).list
  desk_told l n =
      let (e, f) = desk_asks.answered l n in
      let (r, z) = desk_asks.unused_stay (length (chain_of (view d) j)) e in
      (chain_of (view d) j, (desk_promises s).chains.is_chain j l, e, record { first = f; rest = r; size = z })
