-- A new status keeps the invariant of started desks: an open job that does not wait gets another open status, by a retry (rule 5) or when it begins to wait.
-- Assumes nothing.
use Prim.Native.Nat.{ℕ, ◌<◌}
use mathlib.Core.Path.{◌≡◌, refl, sym, ap, ◌∙◌}
use mathlib.Core.Logic.{◌≢◌}
use mathlib.Core.Bool.{true}
use Rattle.laws.specs.Choice.{not_both}
use Rattle.terms.specs.declared.letters.Ask.{Ask}
use Rattle.laws.specs.Lists.{member}
use Rattle.laws.specs.Functions.{at}
use Rattle.laws.specs.Standing.{In}
use Rattle.desk_rules.specs.Desk.{Status, running, waiting, sentback, Waiter, Row, Desk, is_open, is_live}
use Rattle.desk_rules.specs.Rules.{retry, with_status}
use Rattle.desk_rules.specs.Invariant.{Inv, RowInv}
use Rattle.desk_rules.proofs.Statuses.{running_live, running_open, sentback_open, closed_not_open, running_not_waiting, sentback_not_waiting}
use Rattle.laws.proofs.Functions.{at_other, at_each, at_all}

-- an open job is not number 0
pub open_number : {d : Desk} → Inv d → (j : ℕ) → is_open (d.stat j) ≡ true → j ≢ 0
open_number {d} v j h e = not_both h (closed_not_open (ap d.stat e ∙ v.nobody))

-- a job that does not wait for a cell is not in its queue
pub no_place : {stat : ℕ → Status} {c : ℕ} {r : Row} → RowInv stat c r → (j : ℕ) → ((a : Ask) → stat j ≢ waiting c a) → (w : Waiter) → In w r.queue → w.job ≢ j
no_place {stat} v j n w h e = n w.ask (ap stat (sym e) ∙ v.stands w h)

-- a row's invariant is kept if a job that does not wait gets a live status
pub status_row : {stat : ℕ → Status} {c : ℕ} {r : Row} → RowInv stat c r → (j : ℕ) (s : Status) → ((a : Ask) → stat j ≢ waiting c a) → is_live s ≡ true → RowInv (at stat j s) c r
status_row {stat} v j s n l = record {
  pairs = v.pairs;
  elder = v.elder;
  down = v.down;
  blocked = v.blocked;
  lacks = v.lacks;
  stands = λ w h. at_other stat j s w.job (no_place v j n w h) ∙ v.stands w h;
  holds = λ i f. at_each (λ x. is_live x ≡ true) stat j s i (λ _. l) (λ _. v.holds i f);
  within = v.within;
}

-- an open job gets another open status that fits rows and queues: the rest of the invariant is kept
pub status_inv : {d : Desk} → Inv d → (j : ℕ) (s : Status) (rows : ℕ → Row) → is_open (d.stat j) ≡ true → is_open s ≡ true → ((c : ℕ) → RowInv (at d.stat j s) c (rows c)) → ((i c : ℕ) (a : Ask) → at d.stat j s i ≡ waiting c a → In (record { job = i; ask = a }) (rows c).queue) → Inv (record { next = d.next; jobs = d.jobs; stat = at d.stat j s; row = rows })
status_inv {d} v j s rows o p r q = record {
  rows = r;
  queues = q;
  seats = at_all (λ i x. is_open x ≡ true → member i d.jobs ≡ true) d.stat j s (λ _. v.seats j o) (λ i _. v.seats i);
  opens = λ i z m. at_each (λ x. is_open x ≡ true) d.stat j s i (λ _. p) (λ _. v.opens i z m);
  nobody = at_other d.stat j s 0 (λ e. open_number v j o (sym e)) ∙ v.nobody;
  once = v.once;
  size = v.size;
  below = at_all (λ i x. is_open x ≡ true → i < d.next) d.stat j s (λ _. v.below j o) (λ i _. v.below i);
  some = v.some;
}

-- a retry keeps the invariant
pub retry_inv : {d : Desk} → Inv d → (j : ℕ) → d.stat j ≡ sentback → Inv (retry d j).desk
unfolding retry with_status
retry_inv {d} v j e =
    status_inv v j running d.row (sentback_open e) (running_open refl)
    (λ c. status_row (v.rows c) j running (λ a. sentback_not_waiting e) (running_live refl))
    (λ i c a. at_all (λ i x. x ≡ waiting c a → In (record { job = i; ask = a }) (d.row c).queue) d.stat j running (λ h. absurd (running_not_waiting refl h)) (λ i _. v.queues i c a) i)
