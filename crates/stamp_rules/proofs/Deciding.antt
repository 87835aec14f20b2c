-- Reads, writes, increments and u in the request's words: when each goes, when its job is sent back, and what it leaves if it goes; for every desk, started or not (02, No. 6).
-- Assumes nothing.
use mathlib.Core.Path.{◌≡◌, refl, sym, ap, ◌∙◌, subst}
use mathlib.Core.Logic.{◌⊎◌, inl, inr}
use mathlib.Core.Bool.{true, false}
use Rattle.laws.specs.Choice.{pick, by_test}
use Rattle.terms.specs.declared.letters.Ask.{Ask}
use Rattle.desks.specs.declared.Answer.TheVariants.{Go, Back}
use Rattle.desks.specs.Request.{Request}
use Rattle.desks.proofs.Answers.{other-answer}
use Rattle.stamp_rules.specs.Desk.{Desk}
use Rattle.stamp_rules.specs.Rules.{late, done, close, ask}
use Rattle.stamp_rules.specs.Step.{step}
use Rattle.stamp_rules.specs.Course.{from}
use Rattle.stamp_rules.specs.Asked.{Asking, SameJobs, ReadBy, WrittenBy}
use Rattle.stamp_rules.specs.Decides.{GoesWhere, Decides}
use Rattle.stamp_rules.proofs.OneMove.{asking_step}
use Rattle.stamp_rules.proofs.Late.{Decided, read_late, update_late, write_late, increment_late}
use Rattle.stamp_rules.proofs.Done.{done_jobs, read_done, update_done, write_done, increment_done}

module _ (d : Desk) (r : Request) (a : Ask) (k : Asking d r a) where
  -- the answer, by whether the job is late
  said_by : (step d r).said ≡ pick (late d r.job r.cell a) (Back r.job) (Go r.job)
  unfolding ask close
  said_by = ap (λ o. o.said) (asking_step a k) ∙ by_test (late d r.job r.cell a) (λ t. rw t) (λ f. rw f)

  -- a job that goes was not late
  went : (step d r).said ≡ Go r.job → late d r.job r.cell a ≡ false
  went g = by_test (late d r.job r.cell a) (λ t. let e : Back r.job ≡ Go r.job = rw t at (sym said_by ∙ g) in other-answer e refl) (λ f. f)

  -- a job that is sent back was late
  went_back : (step d r).said ≡ Back r.job → late d r.job r.cell a ≡ true
  went_back g = by_test (late d r.job r.cell a) (λ t. t) (λ f. let e : Go r.job ≡ Back r.job = rw f at (sym said_by ∙ g) in other-answer e refl)

  -- so it goes if it is not late, in the words that say so, and is sent back if it is
  goes_where : {this that : Type 0} → Decided (late d r.job r.cell a) this that → GoesWhere (from d) r this that
  goes_where t = record {
    goes = (λ g. t.in_time (went g), λ p. said_by ∙ rw (t.so_in_time p));
    goes_back = (λ g. t.too_late (went_back g), λ p. said_by ∙ rw (t.so_too_late p));
  }

  -- and there is no other answer
  one_of_two : ((step d r).said ≡ Go r.job) ⊎ ((step d r).said ≡ Back r.job)
  one_of_two = by_test (late d r.job r.cell a) (λ t. inr (said_by ∙ rw t)) (λ f. inl (said_by ∙ rw f))

  -- what a go leaves
  desk_done : (step d r).said ≡ Go r.job → (step d r).desk ≡ done d r.job r.cell a
  unfolding ask
  desk_done g = ap (λ o. o.desk) (asking_step a k) ∙ rw (went g)

-- what is promised of them
pub decides : (d : Desk) (r : Request) → Decides (from d) r
decides d r =
    let j = r.job in
    let c = r.cell in
    record {
      reads = λ k. goes_where d r _ k (read_late d j c);
      updates = λ k. goes_where d r _ k (update_late d j c);
      writes = λ k. goes_where d r _ k (write_late d j c);
      increments = λ k. goes_where d r _ k (increment_late d j c);
      one_of_two = one_of_two d r;
      read_leaves = λ k g. subst (λ e. ReadBy d e j c × (e.writer ≡ d.writer)) (sym (desk_done d r _ k g)) (read_done d j c);
      update_leaves = λ k g. subst (λ e. ReadBy d e j c × (e.writer ≡ d.writer)) (sym (desk_done d r _ k g)) (update_done d j c);
      write_leaves = λ k g. subst (λ e. WrittenBy d e j c × (e.reader ≡ d.reader)) (sym (desk_done d r _ k g)) (write_done d j c);
      increment_leaves = λ k g. subst (λ e. ReadBy d e j c × WrittenBy d e j c) (sym (desk_done d r _ k g)) (increment_done d j c);
      jobs_stay = λ a k g. subst (SameJobs d) (sym (desk_done d r a k g)) (done_jobs d j c a);
    }
