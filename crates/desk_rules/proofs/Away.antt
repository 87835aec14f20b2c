-- A job that has no part in any cell: a job that is not live, and a job whose run has just ended.
-- Assumes nothing.
use Prim.Native.Nat.{ℕ}
use mathlib.Core.Path.{◌≡◌, sym, ap, ◌∙◌}
use mathlib.Core.Bool.{false}
use mathlib.Core.List.{List}
use Rattle.laws.specs.Choice.{by_test, not_both}
use Rattle.conflict.specs.Modes.{is_free}
use Rattle.conflict.proofs.ModeLaws.{is_free_lem}
use Rattle.desks.specs.declared.Answer.{Answer}
use Rattle.desk_rules.specs.Desk.{Status, Desk, is_live}
use Rattle.desk_rules.specs.Rules.{rule4}
use Rattle.desk_rules.specs.Invariant.{Inv}
use Rattle.desk_rules.specs.Effects.{Away}
use Rattle.desk_rules.proofs.Statuses.{waiting_live}
use Rattle.desk_rules.proofs.RunEnd.{row_releases, self_after}

-- a job that is not live holds nothing and stands in no queue
pub not_live_away : {d : Desk} → Inv d → (j : ℕ) → is_live (d.stat j) ≡ false → Away d j
not_live_away {d} v j n = record {
  holds_nothing = λ c. by_test (is_free ((d.row c).held j)) (is_free_lem ((d.row c).held j)) (λ f. not_both ((v.rows c).holds j f) n);
  waits_nowhere = λ c w h e. not_both (ap (λ i. is_live (d.stat i)) (sym e) ∙ waiting_live ((v.rows c).stands w h)) n;
}

module _ {d : Desk} (v : Inv d) (j : ℕ) (s : Status) (js : List ℕ) (said : Answer) where
  -- a job whose run has ended holds nothing and stands in no queue
  pub ended_away : Away (rule4 d j s js said).desk j
  unfolding rule4
  ended_away = record {
    holds_nothing = λ c. (row_releases v j c).dropped;
    waits_nowhere = λ c w h. (row_releases v j c).left_other w h;
  }

  -- and has the status given to it, since it is not among its own wakes
  pub ended_status : (rule4 d j s js said).desk.stat j ≡ s
  unfolding rule4
  ended_status = self_after v j s
