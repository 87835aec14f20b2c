-- Refusals and answers, on any desk whose step does what its table says: a refusal exactly if it is due, and then nothing changes; else go, wait or back, with the job (01, Refusals by number; 01, Lines).
-- Assumes nothing.
use Rattle.std.specs.Prelude.{Option, None, Some}
use Prim.Native.Nat.{ℕ}
use mathlib.Core.Path.{◌≡◌, refl, sym, ap, ◌∙◌, subst}
use mathlib.Core.Bool.{true}
use Rattle.laws.specs.Choice.{not_both}
use Rattle.terms.specs.declared.refusals.Refusal.{Refusal}
use Rattle.terms.specs.Letters.{letter_of}
use Rattle.terms.specs.Refusals.{number_of}
use Rattle.desks.specs.declared.Answer.{Answer}
use Rattle.desks.specs.declared.Answer.TheVariants.{Go, No}
use Rattle.desks.specs.AnswerWords.{word_of, number_beside}
use Rattle.desks.specs.Request.{Request, Alike}
use Rattle.desks.specs.Stepping.{Stepped, Stepping}
use Rattle.desks.specs.Begin.{refused}
use Rattle.desks.specs.Records.{records_of, own_records, wake_records}
use Rattle.desks.specs.Table.{Answers, goes, waits, goes_back, letter_is, asks_no_cell}
use Rattle.desks.specs.Course.{course}
use Rattle.desks.specs.Refuses.{RefusesBy}
use Rattle.desks.proofs.Answers.{goes_or_refuses}
use Rattle.desks.proofs.AnswerNumbers.{beside_is_job, no_field}
use Rattle.desks.proofs.Fields.{records_alike}
use Rattle.desks.proofs.TableMeant.{Meant}

-- a refusal is not go, wait or back
never : {P : Type 0} (why : Refusal) (j : ℕ) → Answers (No why) j → P
never why j h = elim h [ ]

-- equal answers refuse for the same reason
same_refusal : (x y : Refusal) → No x ≡ No y → x ≡ y
same_refusal x y e = cc

-- an answer names one job
one_job : {x : Answer} {i j : ℕ} → Answers x i → Answers x j → i ≡ j
one_job (goes i) (goes _) = refl
one_job (waits i) (waits _) = refl
one_job (goes_back i) (goes_back _) = refl

-- an answer with a job that is go or a refusal is go
only_go : {x : Answer} {j : ℕ} → goes_or_refuses x ≡ true → Answers x j → x ≡ Go j
only_go e (goes j) = refl
only_go e (waits j) = not_both e refl
only_go e (goes_back j) = not_both e refl

module _ {D : Type 0} where
  -- the answer that a refusal gives
  refused_said : (d : D) (why : Refusal) {o : Stepped D} → o ≡ refused d why → o.said ≡ No why
  unfolding refused
  refused_said d why e = ap (λ o. o.said) e

  -- if an outcome that the table means is a refusal, that refusal is due
  meant_refuses : (d : D) (j : ℕ) (v : Option Refusal) (o : Stepped D) → Meant d j v o → (why : Refusal) → o.said ≡ No why → v ≡ Some why
  meant_refuses d j (Some x) o m why e = ap Some (same_refusal x why (sym (refused_said d x m) ∙ e))
  meant_refuses d j None o m why e = never why j (subst (λ x. Answers x j) e m)

  -- if it is go, wait or back, none is due, and the job is the one meant
  meant_answers : (d : D) (i : ℕ) (v : Option Refusal) (o : Stepped D) → Meant d i v o → (j : ℕ) → Answers o.said j → (v ≡ None) × (j ≡ i)
  meant_answers d i (Some x) o m j h = never x j (subst (λ y. Answers y j) (refused_said d x m) h)
  meant_answers d i None o m j h = (refl, one_job h m)

module _ {D : Type 0} (step : Stepping D) (due : D → Request → Option Refusal) (named : D → Request → ℕ) (meant : (d : D) (r : Request) → Meant d (named d r) (due d r) (step d r)) where
  -- if a refusal is due, the desk is as it was, and no job is woken
  pub due_refused : (d : D) (r : Request) (why : Refusal) → due d r ≡ Some why → step d r ≡ refused d why
  due_refused d r why e = subst (λ v. Meant d (named d r) v (step d r)) e (meant d r)

  -- and if the step refuses, that refusal is due
  pub refused_due : (d : D) (r : Request) (why : Refusal) → (step d r).said ≡ No why → due d r ≡ Some why
  refused_due d r = meant_refuses d (named d r) (due d r) (step d r) (meant d r)

  -- if none is due, the answer names the job that the request names
  not_due : (d : D) (r : Request) → due d r ≡ None → Answers (step d r).said (named d r)
  not_due d r e = subst (λ v. Meant d (named d r) v (step d r)) e (meant d r)

  -- REFUSED BY THE TABLE: a desk keeps what is promised of refusals and answers if only requests for a cell are answered wait or back, no 9 is due, and requests that are alike make the same step
  pub refuses-by :
      ((d : D) (r : Request) → letter_is asks_no_cell (letter_of r.kind) ≡ true → goes_or_refuses (step d r).said ≡ true) →
      ((d : D) (r : Request) (why : Refusal) → due d r ≡ Some why → number_of why ≡ 9 → ⊥) →
      ((d : D) (r s : Request) → r.kind ≡ s.kind → Alike (letter_of r.kind) r s → step d r ≡ step d s) →
      (d : D) → RefusesBy due named (course (λ e. e) step d)
  unfolding refused records_of own_records wake_records word_of number_beside
  refuses-by only_cells no_nine alike d = record {
    refused_exactly = λ r why. (refused_due d r why, λ e. ap (λ o. o.said) (due_refused d r why e));
    refusal_kept = λ r why e.
        let q = due_refused d r why (refused_due d r why e) in
        (ap (λ o. o.desk) q, ap (λ o. o.wakes) q, ap (λ o. records_of r o.said o.wakes) q);
    not_due = not_due d;
    answered_not_due = λ r j h. (meant_answers d (named d r) (due d r) (step d r) (meant d r) j h).0;
    answer_names = λ r j h. (meant_answers d (named d r) (due d r) (step d r) (meant d r) j h).1;
    answers_go = λ r k e. only_go (only_cells d r k) (not_due d r e);
    no_with_number = λ r why e. let q = due_refused d r why e in (ap (λ o. word_of o.said) q, ap (λ o. number_beside o.said) q);
    job_beside = λ r e. beside_is_job (not_due d r e);
    no_field = λ r. no_field (step d r).said (λ why e. no_nine d r why (refused_due d r why e));
    unread = λ r s k e. let q : step d r ≡ step d s = alike d r s k e in (q, rw (q, records_alike r s (step d s).said k e));
  }
