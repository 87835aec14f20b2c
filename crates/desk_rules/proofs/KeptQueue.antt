-- Waiting keeps the invariant of started desks: a running job joins a queue, in front or last (rules 2 and 3).
-- Assumes nothing.
use Prim.Native.Nat.{ℕ, ◌<◌}
use mathlib.Core.Path.{◌≡◌, refl, sym, subst, ◌∙◌}
use mathlib.Core.Logic.{◌≢◌, ◌⊎◌, inl, inr}
use mathlib.Core.Bool.{true, false}
use mathlib.Core.List.{List, [], ◌∷◌, ◌++◌}
use Rattle.terms.specs.declared.letters.Ask.{Ask}
use Rattle.terms.specs.Limits.{cells}
use Rattle.conflict.specs.Modes.{needed, covers, is_free}
use Rattle.laws.specs.Functions.{at}
use Rattle.laws.specs.Standing.{In, first, later}
use Rattle.desk_rules.specs.Desk.{Status, running, waiting, Waiter, Row, Desk, is_live}
use Rattle.desk_rules.specs.Rules.{queued, with_row, with_status}
use Rattle.desk_rules.specs.Invariant.{Falling, FirstBlocked, Inv, RowInv}
use Rattle.desk_rules.proofs.Statuses.{running_open, waiting_live, waiting_open, running_not_waiting, one_cell, one_ask}
use Rattle.laws.proofs.Standing.{in_none, in_split, in_left, in_right, in_either}
use Rattle.laws.proofs.Functions.{at_same, at_other, at_each, at_all}
use Rattle.desk_rules.proofs.KeptStatus.{no_place, status_row, status_inv}

-- a queue with one more waiter, wherever it stands
pub record Joins (old : List Waiter) (w : Waiter) (q : List Waiter) : Type 0 where
  pub new : In w q
  pub stay : (v : Waiter) → In v old → In v q
  pub either : (v : Waiter) → In v q → (v ≡ w) ⊎ In v old

-- in front
pub joins_front : (q : List Waiter) (w : Waiter) → Joins q w (w ∷ q)
joins_front q w = record { new = first; stay = λ v h. later h; either = λ v h. in_split h inl inr }

-- last
pub joins_last : (q : List Waiter) (w : Waiter) → Joins q w (q ++ w ∷ [])
joins_last q w = record {
  new = in_right q first;
  stay = λ v h. in_left (w ∷ []) h;
  either = λ v h. in_either q (w ∷ []) h inr (λ k. in_split k inl in_none);
}

-- what holds for the new waiter and for each old one holds for each
joins_each : {old : List Waiter} {w : Waiter} {q : List Waiter} → Joins old w q → (P : Waiter → Type 0) → P w → ((v : Waiter) → In v old → P v) → (v : Waiter) → In v q → P v
joins_each {old} {w} k P new stay v h = by_side (k.either v h)
  where
    by_side : (v ≡ w) ⊎ In v old → P v
    by_side (inl e) = subst P (sym e) new
    by_side (inr l) = stay v l

-- the row of the queue that a job joins, if the job is older than every other holder, the queue falls with it, and its first waiter is blocked
joined_row : {stat : ℕ → Status} {c : ℕ} {r : Row} → RowInv stat c r → (w : Waiter) (q : List Waiter) → Joins r.queue w q → stat w.job ≡ running → c < cells → ((i : ℕ) → i ≢ w.job → is_free (r.held i) ≡ false → w.job < i) → Falling q → FirstBlocked r.held q → covers (r.held w.job) (needed w.ask) ≡ false → RowInv (at stat w.job (waiting c w.ask)) c (record { held = r.held; queue = q })
joined_row {stat} {c} {r} v w q k runs l o f b x = record {
  pairs = v.pairs;
  elder = λ u i h. joins_each k (λ u. i ≢ u.job → is_free (r.held i) ≡ false → u.job < i) (o i) (λ u g. v.elder u i g) u h;
  down = f;
  blocked = b;
  lacks = joins_each k (λ u. covers (r.held u.job) (needed u.ask) ≡ false) x v.lacks;
  stands = joins_each k (λ u. at stat w.job (waiting c w.ask) u.job ≡ waiting c u.ask) (at_same stat w.job (waiting c w.ask))
      (λ u h. at_other stat w.job (waiting c w.ask) u.job (no_place v w.job (λ a. running_not_waiting runs) u h) ∙ v.stands u h);
  holds = λ i g. at_each (λ x. is_live x ≡ true) stat w.job (waiting c w.ask) i (λ _. waiting_live refl) (λ _. v.holds i g);
  within = λ _ _. l;
}

-- joining a queue keeps the invariant
pub queued_inv : {d : Desk} → Inv d → (j c : ℕ) (a : Ask) (q : List Waiter) → Joins (d.row c).queue (record { job = j; ask = a }) q → d.stat j ≡ running → c < cells → ((i : ℕ) → i ≢ j → is_free ((d.row c).held i) ≡ false → j < i) → Falling q → FirstBlocked (d.row c).held q → covers ((d.row c).held j) (needed a) ≡ false → Inv (queued d j c a q).desk
unfolding queued with_status with_row
queued_inv {d} v j c a q k runs l o f b x =
    status_inv v j (waiting c a) (at d.row c (record { held = (d.row c).held; queue = q })) (running_open runs) (waiting_open refl)
    (at_all (RowInv (at d.stat j (waiting c a))) d.row c (record { held = (d.row c).held; queue = q })
    (joined_row (v.rows c) (record { job = j; ask = a }) q k runs l o f b x)
    (λ b _. status_row (v.rows b) j (waiting c a) (λ a. running_not_waiting runs) (waiting_live refl)))
    (λ i b e. at_all (λ b x. at d.stat j (waiting c a) i ≡ waiting b e → In (record { job = i; ask = e }) x.queue) d.row c (record { held = (d.row c).held; queue = q }) (there i e) (λ b n. elsewhere i b e n) b)
  where
    there : (i : ℕ) (e : Ask) → at d.stat j (waiting c a) i ≡ waiting c e → In (record { job = i; ask = e }) q
    there i e =
        at_all (λ i x. x ≡ waiting c e → In (record { job = i; ask = e }) q) d.stat j (waiting c a)
        (λ h. subst (λ x. In (record { job = j; ask = x }) q) (one_ask refl h) k.new) (λ i _ h. k.stay (record { job = i; ask = e }) (v.queues i c e h)) i

    elsewhere : (i b : ℕ) (e : Ask) → b ≢ c → at d.stat j (waiting c a) i ≡ waiting b e → In (record { job = i; ask = e }) (d.row b).queue
    elsewhere i b e n =
        at_all (λ i x. x ≡ waiting b e → In (record { job = i; ask = e }) (d.row b).queue) d.stat j (waiting c a)
        (λ h. absurd (n (sym (one_cell refl h)))) (λ i _. v.queues i b e) i
