-- What is promised of wakes and bystanders: which jobs are woken, in what order, with what mode; that no other job's status, place or lock changes; and that no job is recorded twice (01, rule 4; 01, Lines).
use Rattle.std.specs.Prelude.{ℕ, ◌≤◌, ◌≡◌, ◌≢◌, ◌⊎◌, false, [], length}
use Rattle.laws.specs.Lists.{member}
use Rattle.terms.specs.declared.letters.Ask.{Ask}
use Rattle.conflict.specs.declared.action.Action.{Action}
use Rattle.desks.specs.Request.{Request}
use Rattle.laws.specs.Standing.{In}
use Rattle.desk_rules.specs.Desk.{waiting}
use Rattle.desk_rules.specs.Rules.{is_woken}
use Rattle.desk_rules.specs.Table.{named}
use Rattle.desk_rules.specs.Effects.{RunEnds, WakeTells, WokenWith}
use Rattle.desk_rules.specs.WakeOrder.{Before, Sooner}
use Rattle.desk_rules.specs.Releasing.{AllReleased}
use Rattle.desk_rules.specs.Histories.{records_for}
use Rattle.desks.specs.Course.{now, to, records}
use Rattle.desk_rules.specs.Course.{Course}

pub record Wakes (k : Course) (r : Request) : Type 0 where
  -- only a commit, a give-up or a sending back wakes jobs, and then rule 4 is carried out
  pub wakes_only_rule_4 : ((to k r).wakes ≡ []) ⊎ RunEnds (to k r).said r
  pub rule_4 : RunEnds (to k r).said r → AllReleased (now k) (to k r) r
  -- each wake was waiting for that cell with that kind before the step, and runs after it with what it asked for
  pub wake_tells : (x : Action) → In x (to k r).wakes → WakeTells (now k) (to k r).desk x
  pub wakes_exactly : (x : Action) → In x (to k r).wakes → (a : Ask) → (now k).stat x.job ≡ waiting x.cell a → WokenWith (((now k).row x.cell).held x.job) (((to k r).desk.row x.cell).held x.job) a
  -- wakes come cell by cell and from the front of each queue, and no job is woken twice
  pub wakes_in_order : (x y : Action) → Before x y (to k r).wakes → Sooner (now k) x y
  pub woken_once : (x y : Action) → Before x y (to k r).wakes → x.job ≢ y.job
  -- so at most 31 jobs are woken in a step, and the step writes at most 32 records, its own and theirs
  pub at_most_31 : length (to k r).wakes ≤ 31
  pub records_at_most_32 : length (records k r) ≤ 32
  -- a job that the answer does not name and that is not woken stays as it was, keeps its place, and holds what it held
  pub bystander : (i : ℕ) → i ≢ named (now k) r → is_woken i (to k r).wakes ≡ false → (to k r).desk.stat i ≡ (now k).stat i
  pub bystander_place : (i : ℕ) → i ≢ named (now k) r → i ≢ 0 → member i (to k r).desk.jobs ≡ member i (now k).jobs
  pub bystander_locks : (i : ℕ) → i ≢ named (now k) r → is_woken i (to k r).wakes ≡ false → (c : ℕ) → ((to k r).desk.row c).held i ≡ ((now k).row c).held i
  -- a woken job holds on every cell but the wake's exactly what it held
  pub woken_locks : (x : Action) → In x (to k r).wakes → (c : ℕ) → c ≢ x.cell → ((to k r).desk.row c).held x.job ≡ ((now k).row c).held x.job
  -- a request has at most one record: in a step each job has at most one, its request's own or its wake's, and none while it waits (01, Lines)
  pub one_record_each : (j : ℕ) → records_for j (records k r) ≤ 1
  pub none_while_waiting : (j c : ℕ) (a : Ask) → (now k).stat j ≡ waiting c a → (to k r).desk.stat j ≡ waiting c a → records_for j (records k r) ≡ 0
