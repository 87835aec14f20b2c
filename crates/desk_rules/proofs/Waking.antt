-- Each woken job was waiting for its cell with its kind, runs after the step, stands in no queue and holds a mode that covers its need (01, rule 4; 01, Refusals by number).
-- Assumes nothing.
use Prim.Native.Nat.{ℕ, ◌<◌}
use mathlib.Core.Path.{refl, sym, ap, ◌∙◌, subst}
use mathlib.Core.List.{List}
use Rattle.laws.specs.Choice.{not_both}
use Rattle.terms.specs.Limits.{cells}
use Rattle.conflict.specs.declared.action.Action.{Action}
use Rattle.desks.specs.declared.Answer.{Answer}
use Rattle.desks.specs.declared.Answer.TheVariants.{Go, Back}
use Rattle.desks.specs.Places.{vacated}
use Rattle.desks.specs.Request.{Request}
use Rattle.laws.specs.Standing.{In}
use Rattle.desk_rules.specs.Desk.{Status, closed, sentback, Waiter, Desk}
use Rattle.desks.specs.Begin.{refused}
use Rattle.desk_rules.specs.Rules.{Outcome, wake, is_woken, rows_after, rule4}
use Rattle.desk_rules.specs.Moves.{Moved, refuses, begins, commits, gives_up, retries, has_it, promotes, waits_in_front, enters, waits_last, goes_back}
use Rattle.desk_rules.specs.Invariant.{Inv}
use Rattle.desk_rules.specs.Effects.{WakeTells}
use Rattle.desk_rules.proofs.Release.{woken_covers}
use Rattle.desk_rules.proofs.WakeOrder.{search_order}
use Rattle.desk_rules.proofs.RunEnd.{wakes_after, row_releases, granted_woken, left_not_woken, woken_after}
use Rattle.laws.proofs.Standing.{in_none}

module _ {d : Desk} (v : Inv d) (j : ℕ) (s : Status) (js : List ℕ) (said : Answer) where
  -- a job that is granted at a cell when job j's run ends
  granted_wakes : (c : ℕ) (w : Waiter) → c < cells → In w (rows_after d j c).woken → WakeTells d (rule4 d j s js said).desk (wake c w)
  unfolding rule4 wake
  granted_wakes c w l h = record {
    ask = w.ask;
    kind = refl;
    within = l;
    waited = (v.rows c).stands w ((row_releases v j c).woken_was w h);
    stood = (row_releases v j c).woken_was w h;
    runs = woken_after v j s w.job (granted_woken v j c w h);
    holds = woken_covers (row_releases v j c) w h;
    gone = λ b x k e. not_both (ap (λ i. is_woken i (wakes_after d j)) e ∙ granted_woken v j c w h) (left_not_woken v j b x k);
  }

  -- a job that is woken when job j's run ends
  pub rule4_wakes : (a : Action) → In a (wakes_after d j) → WakeTells d (rule4 d j s js said).desk a
  rule4_wakes a h =
      let g = (search_order (rows_after d j) cells).granted h in
      subst (WakeTells d (rule4 d j s js said).desk) (sym g.is) (granted_wakes g.cell g.waiter g.below g.granted)

module _ {d : Desk} (v : Inv d) {r : Request} where
  -- in any move, each woken job was waiting for that cell with that kind before it, and runs after it with what it asked for
  pub moved_wakes : {o : Outcome} (a : Action) → Moved d r o → In a o.wakes → WakeTells d o.desk a
  moved_wakes a (refuses why _) h = unfold refused in in_none h
  moved_wakes a (begins l n m) h = in_none h
  moved_wakes a (commits l q) h = rule4_wakes v r.job closed (vacated r.job d.jobs) (Go r.job) a (unfold rule4 in h)
  moved_wakes a (gives_up l q) h = rule4_wakes v r.job closed (vacated r.job d.jobs) (Go r.job) a (unfold rule4 in h)
  moved_wakes a (retries l q) h = in_none h
  moved_wakes a (has_it b k x) h = in_none h
  moved_wakes a (promotes b k x f z) h = in_none h
  moved_wakes a (waits_in_front b k x f z w) h = in_none h
  moved_wakes a (enters b k f z w) h = in_none h
  moved_wakes a (waits_last b k f z w u) h = in_none h
  moved_wakes a (goes_back b k x) h = rule4_wakes v r.job sentback d.jobs (Back r.job) a (unfold rule4 in h)
