-- A grant keeps the invariant of started desks: a running job takes a mode that agrees with every other holder, and every waiter is older (rules 2 and 3).
-- Assumes nothing.
use Prim.Native.Nat.{ℕ, ◌<◌}
use mathlib.Core.Path.{◌≡◌, subst}
use mathlib.Core.Logic.{◌≢◌}
use mathlib.Core.Bool.{true, false}
use mathlib.Core.List.{List, [], ◌∷◌}
use Rattle.conflict.specs.declared.modes.Mode.{Mode}
use Rattle.conflict.specs.Modes.{covers, grants, is_free}
use Rattle.conflict.proofs.ModeLaws.{stays_in_way}
use Rattle.laws.specs.Functions.{at}
use Rattle.laws.specs.Standing.{In, first}
use Rattle.desk_rules.specs.Desk.{Status, running, waiting, Waiter, Row, Desk, is_live}
use Rattle.desk_rules.specs.Locks.{wants}
use Rattle.desk_rules.specs.Rules.{grant, with_row}
use Rattle.desk_rules.specs.Invariant.{FirstBlocked, Inv, RowInv}
use Rattle.desk_rules.proofs.Statuses.{running_live, running_not_waiting}
use Rattle.laws.proofs.Functions.{at_other, at_each, at_all}
use Rattle.desk_rules.proofs.KeptStatus.{no_place}
use Rattle.desk_rules.proofs.Settle.{wants_same, taking_pairs}

-- a job in the first waiter's way stays there when a job that is not in the queue takes a mode that covers what it held
pub still_blocked : (held : ℕ → Mode) (q : List Waiter) (j : ℕ) (m : Mode) → covers m (held j) ≡ true → ((w : Waiter) → In w q → w.job ≢ j) → FirstBlocked held q → FirstBlocked (at held j m) q
still_blocked held [] j m g n b = tt
still_blocked held (w ∷ q) j m g n (i, d, f) =
    (i, d, rw (wants_same (at held j m) held w (at_other held j m w.job (n w first))) in_way)
  where
    in_way : grants (at held j m i) (wants held w) ≡ false
    in_way =
        at_each (λ x. grants x (wants held w) ≡ false) held j m i
        (λ e. stays_in_way m (held j) (wants held w) g (subst (λ k. grants (held k) (wants held w) ≡ false) e f)) (λ _. f)

-- one row after a running job takes a mode that covers what it held and is granted beside every other job
granted_row : {stat : ℕ → Status} {c : ℕ} {r : Row} → RowInv stat c r → (j : ℕ) (m : Mode) → stat j ≡ running → covers m (r.held j) ≡ true → ((i : ℕ) → i ≢ j → grants (r.held i) m ≡ true) → ((w : Waiter) → In w r.queue → w.job < j) → RowInv stat c (record { held = at r.held j m; queue = r.queue })
granted_row {stat} {c} {r} v j m runs g a l = record {
  pairs = taking_pairs r.held j m a v.pairs;
  elder = λ w i h n. at_all (λ i x. i ≢ w.job → is_free x ≡ false → w.job < i) r.held j m (λ _ _. l w h) (λ i _ n. v.elder w i h n) i n;
  down = v.down;
  blocked = still_blocked r.held r.queue j m g (no_place v j (λ a. running_not_waiting runs)) v.blocked;
  lacks = λ w h. rw (at_other r.held j m w.job (no_place v j (λ a. running_not_waiting runs) w h)) (v.lacks w h);
  stands = v.stands;
  holds = at_all (λ i x. is_free x ≡ false → is_live (stat i) ≡ true) r.held j m (λ _. running_live runs) (λ i _. v.holds i);
  within = v.within;
}

-- a grant keeps the invariant
pub grant_inv : {d : Desk} → Inv d → (j c : ℕ) (m : Mode) → d.stat j ≡ running → covers m ((d.row c).held j) ≡ true → ((i : ℕ) → i ≢ j → grants ((d.row c).held i) m ≡ true) → ((w : Waiter) → In w (d.row c).queue → w.job < j) → Inv (grant d j c m).desk
unfolding grant with_row
grant_inv {d} v j c m runs g a l = record {
  rows = at_all (RowInv d.stat) d.row c (record { held = at (d.row c).held j m; queue = (d.row c).queue }) (granted_row (v.rows c) j m runs g a l) (λ b _. v.rows b);
  queues = λ i b k h. at_all (λ b x. d.stat i ≡ waiting b k → In (record { job = i; ask = k }) x.queue) d.row c (record { held = at (d.row c).held j m; queue = (d.row c).queue }) (v.queues i c k) (λ b _. v.queues i b k) b h;
  seats = v.seats;
  opens = v.opens;
  nobody = v.nobody;
  once = v.once;
  size = v.size;
  below = v.below;
  some = v.some;
}
