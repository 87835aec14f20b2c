-- What is promised of locks: modes held at once may be held together, every action is done under a mode that covers it, and nothing is released before the run ends (01, The desk's rules; demand 2).
use Rattle.std.specs.Prelude.{ℕ, ◌≡◌, ◌≢◌, ◌⊎◌, true, false, ◌∷◌, ◌++◌}
use Rattle.terms.specs.declared.letters.Ask.{Ask}
use Rattle.conflict.specs.declared.action.Kind.{Kind}
use Rattle.conflict.specs.declared.action.Action.{Action}
use Rattle.conflict.specs.declared.action.Event.TheVariants.{Does}
use Rattle.conflict.specs.Modes.{beside, lets, is_free}
use Rattle.conflict.specs.Schedule.{agree}
use Rattle.conflict.specs.History.{History}
use Rattle.conflict.specs.Runs.{ended}
use Rattle.desks.specs.Request.{Request}
use Rattle.laws.specs.Standing.{In}
use Rattle.desk_rules.specs.Desk.{is_live}
use Rattle.desk_rules.specs.Effects.{Keeps}
use Rattle.desk_rules.specs.Histories.{AskedBy, UnderLock}
use Rattle.desks.specs.Course.{now, to, records}
use Rattle.desk_rules.specs.Course.{Course}

pub record Locking (k : Course) (h : History) : Type 0 where
  -- modes held by different jobs on a cell may be held together, and every holder is live
  pub besides : (c i j : ℕ) → i ≢ j → beside (((now k).row c).held i) (((now k).row c).held j) ≡ true
  pub holder_live : (c j : ℕ) → is_free (((now k).row c).held j) ≡ false → is_live ((now k).stat j) ≡ true
  -- in every step a job's mode on a cell only grows, or the step ends that job's run
  pub held_till_end : (r : Request) (i c : ℕ) → Keeps (now k) (to k r).desk i c ⊎ (ended i (records k r) ≡ true)
  -- every action that a step writes, its own or a wake's, is under a lock after that step (01, rules 1 to 4)
  pub under_lock : (r : Request) (x : Action) → In (Does x) (records k r) → (a : Ask) × AskedBy (now k) r x a × UnderLock (to k r).desk x a
  -- and after that step no other job holds the cell in a mode that lets it do a disagreeing action: a read stands only while no other job holds the cell for writing or adding (02, No. 2)
  pub others_kept_out : (r : Request) (x : Action) → In (Does x) (records k r) → (i : ℕ) → i ≢ x.job → (l : Kind) → agree x.kind l ≡ false → lets (((to k r).desk.row x.cell).held i) l ≡ false
  -- an action whose run has not ended is still under a mode that lets it be done
  pub still_under_lock : (g i : History) (x : Action) → h ≡ g ++ Does x ∷ i → ended x.job i ≡ false → lets (((now k).row x.cell).held x.job) x.kind ≡ true
