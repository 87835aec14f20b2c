-- The update lock, for every started desk: what goes beside what, what a mode becomes, that no job gets in beside a U or an X, when the holder of a U is sent back, how u is recorded and when it is refused (02, No. 1).
-- Assumes nothing.
use Rattle.std.specs.Prelude.{Some}
use Prim.Native.Nat.{ℕ, ◌<◌}
use mathlib.Core.Path.{◌≡◌, refl, sym, ap, ap₂, subst, subst₂, ◌∙◌}
use mathlib.Core.Logic.{◌≢◌, ◌⊎◌, inl, inr, ⊎_elim}
use mathlib.Core.Bool.{true, false}
use mathlib.Core.List.{List, []}
use native.Mathlib.Omega.{arith}
use Rattle.laws.specs.Choice.{by_test, not_both}
use Rattle.terms.specs.declared.letters.Ask.{Ask}
use Rattle.terms.specs.declared.letters.Ask.TheVariants.{Read as asks_read, Update}
use Rattle.terms.specs.declared.letters.Letter.TheVariants.{Asks}
use Rattle.terms.specs.Letters.{letter_of}
use Rattle.laws.specs.Lists.{first_of}
use Rattle.conflict.specs.declared.action.Kind.TheVariants.{Read}
use Rattle.conflict.specs.declared.action.Event.TheVariants.{Does}
use Rattle.conflict.specs.declared.modes.Mode.{Mode}
use Rattle.conflict.specs.declared.modes.Mode.TheVariants.{S, U}
use Rattle.conflict.specs.History.{History}
use Rattle.conflict.specs.Runs.{ended}
use Rattle.conflict.specs.Modes.{needed, recorded as kind_of, covers, shuts_out, is_free, Becomes}
use Rattle.conflict.proofs.ModeLaws.{free_is_free, covers_free, asked_free, asked_covers, covers_not_free}
use Rattle.conflict.proofs.Matrix.{beside_held_s, i_and_u_never}
use Rattle.conflict.proofs.ExactNeeds.{needs_exactly, u_covers, x_covers, promotion_asks, promotion_to_u, becomes_one}
use Rattle.conflict.proofs.Shutting.{shut_grants, shut_alone, shut_beside, shut_held, u_shuts}
use Rattle.conflict.proofs.Clauses.{records_update}
use Rattle.desks.specs.declared.Answer.TheVariants.{Go, Back}
use Rattle.desks.specs.Request.{Request}
use Rattle.laws.specs.Standing.{In, first}
use Rattle.desk_rules.specs.Desk.{Status, Desk}
use Rattle.desks.specs.Records.{records_by, records_of, own_records, wake_records}
use Rattle.desk_rules.specs.Step.{step, events, Started}
use Rattle.desk_rules.specs.Asked.{Asking, OtherHolder, Enters, Elder, holder, waiter, held_there, own_mode, asked_there, queue_there}
use Rattle.desk_rules.specs.Table.{holds, order, due_by, due_of}
use Rattle.desk_rules.specs.Course.{from}
use Rattle.desk_rules.specs.UpdateLock.{Gets, by_go, by_wake, GoesUnchanged, HasU, HeldSince, UpdateLock}
use Rattle.desk_rules.specs.Requests.{desk_after, history_of}
use Rattle.desk_rules.specs.Invariant.{Inv}
use Rattle.desk_rules.proofs.Kept.{step_inv, started_inv}
use Rattle.laws.proofs.Standing.{in_right}
use Rattle.desk_rules.proofs.Statuses.{one_ask}
use Rattle.desk_rules.proofs.Tests.{not_older_holders}
use Rattle.desk_rules.proofs.Moved.{step_moved}
use Rattle.desk_rules.proofs.AnswerTells.{ask_back}
use Rattle.desk_rules.proofs.WakeRecords.{wake_recorded}
use Rattle.desk_rules.proofs.StepEffects.{effects}
use Rattle.desk_rules.proofs.Refusing.{refuses}
use Rattle.desk_rules.proofs.Deciding.{decides}
use Rattle.desk_rules.proofs.WakesTold.{wakes}
use Rattle.desk_rules.proofs.Records.{recorded}
use Rattle.desk_rules.proofs.ShutOut.{moved_beside, moved_got}
use Rattle.desk_rules.proofs.StillShut.{step_shuts, still_shuts, run_inv, fewer_through, same_between}

-- the table has the same due for a u as for a read
same_row : (d : Desk) (s : Status) (c : ℕ) → due_by d (Some (Asks Update)) s c ≡ due_by d (Some (Asks asks_read)) s c
unfolding due_by holds order first_of
same_row d s c = refl

-- so the same for two requests with the same job and cell
same_due : (d : Desk) (r s : Request) → letter_of r.kind ≡ Some (Asks Update) → letter_of s.kind ≡ Some (Asks asks_read) → r.job ≡ s.job → r.cell ≡ s.cell → due_of d r ≡ due_of d s
unfolding due_of
same_due d r s e f p q =
    ap (λ l. due_by d l (d.stat r.job) r.cell) e ∙ same_row d (d.stat r.job) r.cell
    ∙ ap₂ (λ j c. due_by d (Some (Asks asks_read)) (d.stat j) c) p q ∙ sym (ap (λ l. due_by d l (d.stat s.job) s.cell) f)

module _ {d : Desk} {h : History} (s : Started d h) where
  v : Inv d
  v = started_inv s

  -- u is granted beside S and beside nothing else that is held
  beside_s : (r : Request) → Enters d r Update → (step d r).said ≡ Go r.job → (i : ℕ) → OtherHolder d r i → held_there d r i ≡ S
  beside_s r e g i o =
      let n : covers (own_mode d r) (needed Update) ≡ false = covers_free (own_mode d r) Update e.holds_nothing in
      let a = (decides s r Update).goes_agreeing e.asking n g i o in
      let m : asked_there d r Update ≡ U = asked_free (own_mode d r) (needed Update) e.holds_nothing ∙ needs_exactly.3 in
      ⊎_elim (λ f. not_both (rw f free_is_free) o.holds) (λ f. f) ((promotion_to_u (held_there d r i)).0 (rw m at a))

  -- if every other holder has S, u goes
  goes_beside_s : (r : Request) → Enters d r Update → queue_there d r ≡ [] → ((i : ℕ) → OtherHolder d r i → held_there d r i ≡ S) → (step d r).said ≡ Go r.job
  goes_beside_s r e q all = (decides s r Update).entry_goes e q (λ i o. rw (all i o, needs_exactly.3) ((beside_held_s U).1 (inr (inr refl))))

  -- no job goes beside a U or an X with a mode that it did not have
  not_beside : (r : Request) (a : Ask) → Asking d r a → covers (own_mode d r) (needed a) ≡ false → (i : ℕ) → OtherHolder d r i → shuts_out (held_there d r i) ≡ true → (step d r).said ≢ Go r.job
  not_beside r a k n i o t g =
      not_both (sym (shut_grants (held_there d r i) (asked_there d r a) t) ∙ (decides s r a).goes_agreeing k n g i o)
      (covers_not_free (asked_there d r a) a (asked_covers (own_mode d r) (needed a)))

  -- a request that a held mode covers goes by rule 1
  goes_covered : (r : Request) (a : Ask) → Asking d r a → covers (own_mode d r) (needed a) ≡ true → GoesUnchanged (from d) r
  goes_covered r a k c = let t = (decides s r a).has_it k c in record { goes = t.0; desk = t.1; wakes = t.2 }

  -- what a job gets is what its mode becomes
  becomes : (r : Request) (j c : ℕ) (a : Ask) (m : Mode) → Gets (from d) r j c a → Becomes ((d.row c).held j) a m → ((step d r).desk.row c).held j ≡ m
  becomes r j c a m (by_go l e f g) b =
      let t = (promotion_asks ((d.row c).held j) m a).0 b in
      becomes_one (subst₂ (λ x y. Becomes ((d.row x).held y) a (((step d r).desk.row x).held y)) f e (((effects s).grants_exactly r a j l g).promoted (rw (e, f) t.1) (rw (e, f) t.0))) b
  becomes r j c a m (by_wake x k e f w) b =
      let t = (promotion_asks ((d.row c).held j) m a).0 b in
      becomes_one (subst₂ (λ x y. Becomes ((d.row x).held y) a (((step d r).desk.row x).held y)) f e (((wakes s r).wakes_exactly x k a (rw (e, f) w)).promoted (rw (e, f) t.0))) b

  -- u is recorded as a read
  as_read : (r : Request) (j c : ℕ) → Gets (from d) r j c Update → In (Does (record { kind = Read; job = j; cell = c })) (events d r)
  unfolding records_by records_of
  as_read r j c (by_go l e f g) = rw ((recorded d r).ask_records Update j l g, records_update, f) first
  as_read r j c (by_wake x k e f w) =
      let t = (wakes s r).wake_tells x k in
      let a : t.ask ≡ Update = one_ask t.waited (ap d.stat e ∙ w) in
      let kind : x.kind ≡ Read = t.kind ∙ ap kind_of a ∙ records_update in
      let same : x ≡ record { kind = Read; job = j; cell = c } = λ i. record { kind = kind i; job = e i; cell = f i } in
      in_right (own_records r (step d r).said) (subst (λ y. In (Does y) (wake_records (step d r).wakes)) same (wake_recorded k))

  -- every other holder of a cell whose holder shuts others out is as before, or that holder's run ended
  no_new : (r : Request) (c i j : ℕ) → i ≢ j → shuts_out ((d.row c).held j) ≡ true → is_free (((step d r).desk.row c).held i) ≡ false → (((step d r).desk.row c).held i ≡ (d.row c).held i) ⊎ (ended j (events d r) ≡ true)
  no_new r c i j n t f =
      by_test (ended j (events d r)) inr (λ e. inl (moved_beside v r c i j (step_moved d r) n t (step_shuts c j v r e t) f))

  -- an older job that holds the cell of a job sent back from its U
  elder_holder : {e : Desk} → Inv e → (j c : ℕ) → shuts_out ((e.row c).held j) ≡ true → Elder e j c → (i : ℕ) × (i < j) × (is_free ((e.row c).held i) ≡ false)
  elder_holder {e} w j c t (holder o) = let (i, n, f, l) = not_older_holders e.jobs (e.row c).held j o in (i, l, f)
  elder_holder {e} w j c t (waiter f o) = not_both f (shut_held ((e.row c).held j) t)

  -- an older holder of the cell where a job has its U has held S since before that job got it
  held_since : (got : Request) (rest : List Request) (j c i : ℕ) → HasU (from d) got rest j c → i < j → is_free (((desk_after (step d got).desk rest).row c).held i) ≡ false → HeldSince (from d) got rest i c
  held_since got rest j c i u l g =
      let mid = (step d got).desk in
      let w = step_inv v got in
      let t = u_shuts ((mid.row c).held j) u.got_it in
      let n : i ≢ j = λ q. omega (arith, l, q) in
      let z = fewer_through c j w rest i n t u.goes_on g in
      let f : is_free ((mid.row c).held i) ≡ false = rw z at g in
      let here : (mid.row c).held i ≡ S = (shut_beside ((mid.row c).held j) ((mid.row c).held i) t ((w.rows c).pairs i j n) f).0 in
      record {
        before = sym (moved_got v got c i j (step_moved d got) l u.had_none u.got_it f) ∙ here;
        since = λ some more q.
            subst (λ x. ended j (history_of mid x) ≡ false → is_free (((desk_after mid x).row c).held i) ≡ false → ((desk_after mid some).row c).held i ≡ ((desk_after mid x).row c).held i) (sym q)
            (same_between c j w some more i n t) u.goes_on g ∙ z ∙ here;
      }

  -- a job is sent back from its U only if there is such a job
  behind_s : (got : Request) (rest : List Request) (r : Request) (j c : ℕ) → HasU (from d) got rest j c → r.job ≡ j → r.cell ≡ c → (step (desk_after (step d got).desk rest) r).said ≡ Back j → (i : ℕ) × (i < j) × HeldSince (from d) got rest i c
  behind_s got rest r j c u e f b =
      let w = step_inv v got in
      let t = still_shuts c j w rest u.goes_on (u_shuts _ u.got_it) in
      let back = ask_back (desk_after (step d got).desk rest) r j b in
      let (i, l, g) = elder_holder (run_inv w rest) j c t (subst₂ (Elder (desk_after (step d got).desk rest)) e f back.was.2) in
      (i, l, held_since got rest j c i u l g)

-- what is promised of the update lock
pub update : {d : Desk} {h : History} → Started d h → UpdateLock (from d)
unfolding records_by
update {d} s =
    let v = started_inv s in
    record {
      u_beside_s = λ r e q. (beside_s s r e, goes_beside_s s r e q);
      nothing_beside_u_or_x = not_beside s;
      never_i_and_u = λ c i j n e f. not_both (rw (e, f) at ((v.rows c).pairs i j n)) i_and_u_never.2;
      u_covers_reads = λ r a k e o. goes_covered s r a k (rw e ((u_covers a).1 o));
      x_covers_all = λ r a k e. goes_covered s r a k (rw e (x_covers a));
      becomes_so = becomes s;
      nobody_gets_in = no_new s;
      only_fewer = λ rs c i j n t e f. fewer_through c j v rs i n t e f;
      one_at_a_time = λ c i j n t. by_test (shuts_out ((d.row c).held j)) (λ u. not_both ((v.rows c).pairs i j n) (shut_alone ((d.row c).held i) ((d.row c).held j) t u)) (λ f. f);
      back_only_behind_s = behind_s s;
      recorded_as_read = as_read s;
      refused_as_a_read = λ r t e f p q why.
          let same = same_due d r t e f p q in (
            λ g. ((refuses d).by_table.refused_exactly t why).1 (sym same ∙ ((refuses d).by_table.refused_exactly r why).0 g),
            λ g. ((refuses d).by_table.refused_exactly r why).1 (same ∙ ((refuses d).by_table.refused_exactly t why).0 g),
          );
    }
