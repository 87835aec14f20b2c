-- EVERY PROMISE, THROUGH THE LIBRARY: after any list of calls on a started desk, each call has told, in numbers, what the step by value gives in its turn, so every promise of the desk's rules holds. What start leaves is a started desk, and from there on each call says what the paper's desk says (02, No. 7).
-- Assumes nothing.
use Prim.Native.Nat.{ℕ, ◌<◌, ◌≤◌}
use mathlib.Core.Path.{◌≡◌, refl, sym, ap, subst, ◌∙◌}
use mathlib.Core.List.{List, [], ◌∷◌, ◌++◌, map}
use native.Mathlib.Omega.{arith}
use Rattle.terms.specs.Limits.{last_number}
use Rattle.conflict.specs.declared.action.Action.{Action}
use Rattle.conflict.specs.History.{History}
use Rattle.desks.specs.declared.Answer.{Answer}
use Rattle.desks.specs.Request.{Request}
use Rattle.desks.specs.Started.{StartedOn, fresh, after}
use Rattle.desks.specs.Stepping.{Stepped, Stepping}
use Rattle.desks.specs.Records.{records_by}
use Rattle.desks.specs.Follows.{Follows}
use Rattle.desk_rules.specs.Promises as by_locks
use Rattle.desk_rules.specs.Desk as paper
use Rattle.desk_rules.specs.Step as paper-step
use Rattle.desk_arrays.specs.declared.state.Desk.{Desk}
use Rattle.desk_arrays.specs.declared.state.Outcome.{Outcome}
use Rattle.desk_arrays.specs.Steps as locks
use Rattle.desk_arrays.specs.Stands.{wakes_told}
use Rattle.desk_arrays.specs.Seen as arrays
use Rattle.desk_arrays.proofs.Faithful as arrays-follow
use Rattle.desk.proofs.Woken.{count_told}
use Rattle.stamp_rules.specs.Promises as by_stamps
use Rattle.stamp_rules.specs.Desk as request
use Rattle.stamp_rules.specs.Step as request-step
use Rattle.stamp_arrays.specs.declared.state.Stamps.{Stamps}
use Rattle.stamp_arrays.specs.declared.state.Stamped.{Stamped}
use Rattle.stamp_arrays.specs.Steps as by_number_lem
use Rattle.stamp_arrays.specs.Seen as stamps
use Rattle.stamp_arrays.proofs.Faithful as stamps-follow
use Rattle.lent.specs.Entries.{locks_told, stamps_told}
use Rattle.lent.specs.Entries as entries
use Rattle.lent.specs.Calls.{Lent, over, next, left_by, wrote_by, steps_of, AsSteps}
use Rattle.lent.proofs.Calling.{calls_for}
use Rattle.lent.proofs.LentPromises.{lent_locks, lent_stamps}
use Rattle.tuyenlomac.specs.Numbers.{in_three}
use Rattle.tuyenlomac.specs.Desks.{Lists, wakes_in, start_number, start_leaves, stamps_number, stamps_leaves}
use Rattle.tuyenlomac.specs.Calls.{LocksCall, locks_call, OnLocks, TellsLocks, StampsCall, stamps_call, OnStamps, TellsStamps, SaysLocks, SaysStamps, Each, none_left, one_more}
use Rattle.tuyenlomac.proofs.Starting.{locks_started, stamps_started}

-- the call that tells what a step by value gives
abbrev telling_locks : Lists → Outcome → LocksCall
telling_locks lists o = locks_call o.desk lists (wakes_in (wakes_told o.said) lists) (in_three o.said.answer o.said.count)

abbrev telling_stamps : Stamped → StampsCall
telling_stamps o = stamps_call o.stamps (in_three o.answer 0)

-- any requests to any desk have such calls, whatever lists are lent for the wakes
pub locks_calls : (lists : Lists) (d : Desk) (rs : List Request) → (ks : List LocksCall) × Lent (λ k. k.desk) OnLocks d rs ks
locks_calls lists = calls_for (λ k. k.desk) (λ d r. telling_locks lists (locks.step_of d r.kind r.job r.cell)) (λ d r. record { desk = refl; answer = refl; wakes = refl })

pub stamps_calls : (d : Stamps) (rs : List Request) → (ks : List StampsCall) × Lent (λ k. k.desk) OnStamps d rs ks
stamps_calls = calls_for (λ k. k.desk) (λ d r. telling_stamps (by_number_lem.step_of d r.kind r.job r.cell)) (λ d r. record { desk = refl; answer = refl })

-- if each call tells what an entry of the lent desk gives, the calls are calls of that entry
module _ {S O K : Type 0} {leaves : O → S} {entry : S → Request → O → Type 0} {left : K → S} {call : S → Request → K → Type 0} {tells : O → K → Type 0}
    (one : (d : S) (r : Request) (k : K) → call d r k → (o : O) × entry d r o × tells o k) (same : (o : O) (k : K) → tells o k → left k ≡ leaves o) where
  called_lent : {d : S} {rs : List Request} {ks : List K} → Lent left call d rs ks → (os : List O) × Lent leaves entry d rs os × Each tells os ks
  called_lent (over d) = ([], over d, none_left)
  called_lent (next {d = d} {r = r} {o = k} {rs = rs} c more) =
      let (o, e, t) = one d r k c in
      let (os, l, ts) = called_lent more in
      (o ∷ os, next e (subst (λ x. Lent leaves entry x rs os) (same o k t) l), one_more t ts)

-- a call on a lock desk tells what the entry of the lent desk gives; so does one on a timestamp desk
locks_one : (d : Desk) (r : Request) (k : LocksCall) → OnLocks d r k → (o : Outcome) × entries.OnLocks d r o × TellsLocks o k
locks_one d r k s = (locks.step_of d r.kind r.job r.cell, refl, s)

stamps_one : (d : Stamps) (r : Request) (k : StampsCall) → OnStamps d r k → (o : Stamped) × entries.OnStamps d r o × TellsStamps o k
stamps_one d r k s = (by_number_lem.step_of d r.kind r.job r.cell, refl, s)

-- so calls through the library are calls of the lent desk, told in numbers
locks_lent : {d : Desk} {rs : List Request} {ks : List LocksCall} → Lent (λ k. k.desk) OnLocks d rs ks → (os : List Outcome) × Lent (λ o. o.desk) entries.OnLocks d rs os × Each TellsLocks os ks
locks_lent = called_lent locks_one (λ o k t. t.desk)

stamps_lent : {d : Stamps} {rs : List Request} {ks : List StampsCall} → Lent (λ k. k.desk) OnStamps d rs ks → (os : List Stamped) × Lent (λ o. o.stamps) entries.OnStamps d rs os × Each TellsStamps os ks
stamps_lent = called_lent stamps_one (λ o k t. t.desk)

-- every promise of the lock desk, after any calls
pub library_locks : {d : Desk} {h : History} {rs : List Request} {ks : List LocksCall} → arrays.Started d h → Lent (λ k. k.desk) OnLocks d rs ks →
    (os : List Outcome) × Each TellsLocks os ks × AsSteps arrays.on_arrays d rs (map locks_told os) × by_locks.Promises (h ++ wrote_by rs (map locks_told os)) (arrays.running (left_by d (map locks_told os)))
library_locks s c =
    let (os, l, t) = locks_lent c in
    let p = lent_locks s l in
    (os, t, p.0, p.1)

-- every promise of the timestamp desk, after any calls
pub library_stamps : {d : Stamps} {h : History} {rs : List Request} {ks : List StampsCall} → stamps.Started d h → Lent (λ k. k.desk) OnStamps d rs ks →
    (os : List Stamped) × Each TellsStamps os ks × AsSteps stamps.on_stamps d rs (map stamps_told os) × by_stamps.Promises (h ++ wrote_by rs (map stamps_told os)) (stamps.running (left_by d (map stamps_told os)))
library_stamps s c =
    let (os, l, t) = stamps_lent c in
    let p = lent_stamps s l in
    (os, t, p.0, p.1)

-- calls on a started desk that follows another say what the steps of the other say, one after another
module _ {S T K : Type 0} {see : S → T} {does : Stepping S} {new : ℕ → S} {theirs : Stepping T} {first : ℕ → T} (f : Follows see does new theirs first) {left : K → S} {call : S → Request → K → Type 0}
    (says : Answer → List Action → K → Type 0) (one : (d : S) (r : Request) (k : K) → call d r k → (left k ≡ (does d r).desk) × says (does d r).said (does d r).wakes k) where
  called_says : {d : S} {h : History} {rs : List Request} {ks : List K} → StartedOn does new d h → Lent left call d rs ks → Each (λ (o : Stepped T). says o.said o.wakes) (steps_of theirs (see d) rs) ks
  unfolding steps_of
  called_says s (over d) = none_left
  called_says {h = h} s (next {d = d} {r = r} {o = k} {rs = rs} {os = ks} c more) =
      let (e, t) = one d r k c in
      let p = f.same d h s r in
      let further = called_says (subst (λ x. StartedOn does new x (h ++ records_by does d r)) (sym e) (after s r)) more in
      one_more (subst (λ o. says o.said o.wakes k) p t)
      (subst (λ x. Each (λ (o : Stepped T). says o.said o.wakes) (steps_of theirs x rs) ks) (ap see e ∙ ap (λ o. o.desk) p) further)

-- a call on a lock desk says what the step of the arrays says; so does one on a timestamp desk
locks_says : (d : Desk) (r : Request) (k : LocksCall) → OnLocks d r k → (k.desk ≡ (arrays.on_arrays d r).desk) × SaysLocks (arrays.on_arrays d r).said (arrays.on_arrays d r).wakes k
locks_says d r k t =
    (t.desk, record { answer = t.answer ∙ ap (in_three (locks.step_of d r.kind r.job r.cell).said.answer) (count_told d r.kind r.job r.cell); wakes = t.wakes })

stamps_says : (d : Stamps) (r : Request) (k : StampsCall) → OnStamps d r k → (k.desk ≡ (stamps.on_stamps d r).desk) × SaysStamps (stamps.on_stamps d r).said (stamps.on_stamps d r).wakes k
stamps_says d r k t = (t.desk, t.answer)

module _ (n : ℕ) (some : 0 < n) (last : n ≤ last_number) where
  not_zero : n ≡ 0 → ⊥
  not_zero z = omega (arith, z)

  -- a start at any number other than 0 is not refused, and what it leaves is a started desk that has written nothing
  pub locks_start : (d : Desk) → (start_number (locks.start_of n) ≡ 0) × arrays.Started (start_leaves d (locks.start_of n)) []
  locks_start d = let s = locks_started d n not_zero in (sym s.0, subst (λ e. arrays.Started e []) s.1 (fresh n some last))

  pub stamps_start : (d : Stamps) → (stamps_number (by_number_lem.start_of n) ≡ 0) × stamps.Started (stamps_leaves d (by_number_lem.start_of n)) []
  stamps_start d = let s = stamps_started d n not_zero in (sym s.0, subst (λ e. stamps.Started e []) s.1 (fresh n some last))

  -- from a start on, each call on the lock desk says, in numbers, what the paper's desk says in its turn: the answer, and which jobs it wakes
  pub library_says : (d : Desk) {rs : List Request} {ks : List LocksCall} → Lent (λ k. k.desk) OnLocks (start_leaves d (locks.start_of n)) rs ks →
      Each (λ o. SaysLocks o.said o.wakes) (steps_of paper-step.step (paper.fresh_desk n) rs) ks
  library_says d {rs} {ks} c =
      subst (λ e. Each (λ o. SaysLocks o.said o.wakes) (steps_of paper-step.step e rs) ks) ((arrays-follow.faithful).starts n some last)
      (called_says arrays-follow.faithful SaysLocks locks_says (fresh n some last) (subst (λ e. Lent (λ k. k.desk) OnLocks e rs ks) (sym (locks_started d n not_zero).1) c))

  -- and each call on the timestamp desk says what the request's desk says
  pub library_stamp_says : (d : Stamps) {rs : List Request} {ks : List StampsCall} → Lent (λ k. k.desk) OnStamps (stamps_leaves d (by_number_lem.start_of n)) rs ks →
      Each (λ o. SaysStamps o.said o.wakes) (steps_of request-step.step (request.fresh_desk n) rs) ks
  library_stamp_says d {rs} {ks} c =
      subst (λ e. Each (λ o. SaysStamps o.said o.wakes) (steps_of request-step.step e rs) ks) ((stamps-follow.faithful).starts n some last)
      (called_says stamps-follow.faithful SaysStamps stamps_says (fresh n some last) (subst (λ e. Lent (λ k. k.desk) OnStamps e rs ks) (sym (stamps_started d n not_zero).1) c))
