-- What is promised of chains, for every started desk of the paper (02, No. 3).
-- Assumes nothing.
use Prim.Native.Nat.{ℕ}
use mathlib.Core.Path.{◌≡◌, refl, sym, ◌∙◌}
use mathlib.Core.Bool.{true}
use Rattle.laws.specs.Choice.{by_test, not_both}
use Rattle.laws.specs.Lists.{member}
use Rattle.conflict.specs.History.{History}
use Rattle.desk_rules.specs.Desk.{Status, closed, running, waiting, sentback, Desk, is_open}
use Rattle.desk_rules.specs.Table.{is_waiting}
use Rattle.desk_rules.specs.Step.{Started}
use Rattle.desk_rules.specs.Invariant.{Inv}
use Rattle.desk_rules.specs.Chain.{youngest_of, in_way_of, runs, waiting_below}
use Rattle.desk_rules.specs.Chains.{Chains}
use Rattle.desk_rules.proofs.Kept.{started_inv}
use Rattle.desk_rules.proofs.Statuses.{running_live}
use Rattle.desk_rules.proofs.InWayList.{next_is}
use Rattle.desk_rules.proofs.YoungestHolds.{next_holds}
use Rattle.desk_rules.proofs.ChainIs.{is_chain, chain_live, one_chain, fewer_younger}
use Rattle.desk_rules.proofs.AlongChain.{along_chain}
use Rattle.desk_rules.proofs.AskingChain.{asks_chain}
use Rattle.desk_rules.proofs.WaitingList.{listed_waits, waits_listed, waiting_rises}

-- a job that waits is open
pub waits_open : (s : Status) → is_waiting s ≡ true → is_open s ≡ true
unfolding is_open
waits_open closed h = not_both h refl
waits_open running h = refl
waits_open (waiting c a) h = refl
waits_open sentback h = refl

module _ {d : Desk} (v : Inv d) where
  -- the list has exactly the waiting jobs
  all_listed : (j : ℕ) → member j (waiting_below d.stat d.next) ≡ is_waiting (d.stat j)
  all_listed j =
      by_test (is_waiting (d.stat j))
      (λ t. waits_listed d.stat d.next j (v.below j (waits_open (d.stat j) t)) t ∙ sym t)
      (λ f. by_test (member j (waiting_below d.stat d.next)) (λ t. not_both (listed_waits d.stat d.next j t).1 f) (λ g. g ∙ sym f))

  -- what is promised of chains
  pub chains_of_lem : Chains d
  chains_of_lem =
      record {
        is_chain = is_chain v;
        only_chain = λ j js k. one_chain v k (is_chain v j (chain_live k));
        running_alone = λ j e. one_chain v (is_chain v j (running_live e)) (runs e);
        along = λ j h. along_chain v (is_chain v j h);
        someone_next = λ c w k. (youngest_of (in_way_of d w.job c), next_is v c w k);
        next_holds = λ c w k i n. next_holds v c w k i n;
        fewer_younger = λ c w k i n. fewer_younger v c w k i n;
        asks = asks_chain v;
        waiting_listed = all_listed;
        ascending = waiting_rises d.stat d.next;
      }

-- for every started desk
pub chains : {d : Desk} {h : History} → Started d h → Chains d
chains s = chains_of_lem (started_inv s)
