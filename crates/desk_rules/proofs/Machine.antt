-- Every step of the desk is a run of the lock machine: locks only grow until a run ends, the modes of different jobs may be held together, and each action is done under a mode that lets it be done (01, The desk's rules).
-- Assumes nothing.
use Prim.Native.Nat.{ℕ}
use mathlib.Core.Path.{◌≡◌, refl, subst}
use mathlib.Core.Bool.{true}
use mathlib.Core.List.{List, [], ◌∷◌, ◌++◌, append-nil, append_assoc}
use Rattle.terms.specs.Limits.{cells}
use Rattle.conflict.specs.declared.action.Action.{Action}
use Rattle.conflict.specs.declared.action.Event.TheVariants.{Does, Ends}
use Rattle.conflict.specs.Modes.{lets}
use Rattle.conflict.specs.History.{History}
use Rattle.conflict.proofs.LockTable.{Table, allows, Ran}
use Rattle.conflict.proofs.LockTable.Ran.{start, grows, acts, stops}
use Rattle.conflict.proofs.ModeLaws.{covers_lets}
use Rattle.desks.specs.Request.{Request}
use Rattle.laws.specs.Standing.{In, first, later}
use Rattle.desk_rules.specs.Desk.{Desk, fresh_desk, idle}
use Rattle.desk_rules.specs.Rules.{Outcome, wake, rows_after, rule4}
use Rattle.desks.specs.Records.{wake_records}
use Rattle.desk_rules.specs.Step.{step, events, Started}
use Rattle.desks.specs.Started.StartedOn.{fresh, after}
use Rattle.desk_rules.specs.Invariant.{Inv}
use Rattle.desk_rules.proofs.Release.{woken_covers}
use Rattle.desk_rules.proofs.RunEnd.{row_releases, wakes_after}
use Rattle.desk_rules.proofs.Kept.{started_inv}
use Rattle.desk_rules.proofs.Written.{asking, Wrote, nothing, action, mark, step_wrote}
use Rattle.desk_rules.proofs.WakeOrder.{GrantedAt, search_order}
use Rattle.desk_rules.proofs.WakeRecords.{recorded_wake}

-- the desk's locks as the machine's table: what each job holds on each cell
abbrev pub table_of : Desk → Table
table_of d = λ j c. (d.row c).held j

-- wakes that a table allows are actions done one after another
acts_all : {t : Table} {h : History} → Ran t h → (xs : List Action) → ((a : Action) → In (Does a) (wake_records xs) → allows t a ≡ true) → Ran t (h ++ wake_records xs)
unfolding wake_records
acts_all {h = h} k [] f = rw (append-nil h) k
acts_all {t} {h} k (a ∷ xs) f =
    subst (λ g. Ran t g) (append_assoc h (Does a ∷ []) (wake_records xs)) (acts_all (acts k a (f a first)) xs (λ b m. f b (later m)))

-- when a run ends, each woken job holds a mode that lets it do what it asked
wakes_allowed : {d : Desk} → Inv d → (j : ℕ) (a : Action) → GrantedAt (rows_after d j) cells a → lets ((rows_after d j a.cell).row.held a.job) a.kind ≡ true
unfolding wake
wakes_allowed {d} v j a w =
    rw w.is (covers_lets ((rows_after d j w.cell).row.held w.waiter.job) w.waiter.ask (woken_covers (row_releases v j w.cell) w.waiter w.granted))

-- what a step writes is what the machine writes on the way to the new table
wrote_ran : {d : Desk} {r : Request} {o : Outcome} {h g : History} → Inv d → Wrote d r o g → Ran (table_of d) h → Ran (table_of o.desk) (h ++ g)
unfolding rule4 asking
wrote_ran {h = h} v (nothing w) k = rw (append-nil h) (grows k w.grown (λ i j c. w.pairs c i j))
wrote_ran {r = r} {o = o} v (action a q w c) k = acts (grows k w.grown (λ i j c. w.pairs c i j)) (asking r a) (covers_lets ((o.desk.row r.cell).held r.job) a c)
wrote_ran {d} {r} {h = h} v (mark m s js said open' last' _) k =
    let j = r.job in
    let rows = row_releases v j in
    subst (Ran (λ i c. (rows_after d j c).row.held i)) (append_assoc h (Ends m j ∷ []) (wake_records (wakes_after d j)))
    (acts_all (stops k m j (λ c. (rows c).dropped) (λ i n c. (rows c).grown i n) (λ i k c. (rows c).pairs i k)) (wakes_after d j)
    (λ a p. wakes_allowed v j a ((search_order (rows_after d j) cells).granted (recorded_wake (wakes_after d j) p))))

-- a step of the desk is a run of the machine
pub step_machine : {d : Desk} {h : History} → Inv d → (r : Request) → Ran (table_of d) h → Ran (table_of (step d r).desk) (h ++ events d r)
step_machine {d} v r k = wrote_ran v (step_wrote d r v) k

-- on a fresh desk no job holds anything
fresh_machine : (n : ℕ) → Ran (table_of (fresh_desk n)) []
unfolding fresh_desk idle
fresh_machine n = start (λ j c. refl)

-- the locks of a started desk and the history it has written are a run of the lock machine (01, The desk's rules)
pub started_machine : {d : Desk} {h : History} → Started d h → Ran (table_of d) h
started_machine (fresh n _ _) = fresh_machine n
started_machine (after s r) = step_machine (started_inv s) r (started_machine s)
