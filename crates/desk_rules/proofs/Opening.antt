-- Begin opens a running job that holds nothing, under the next number; retry makes a sent back job running again, holding nothing (01, The desk's rules; 01, rule 5).
-- Assumes nothing.
use Prim.Native.Nat.{ℕ}
use mathlib.Core.Path.{◌≡◌, refl}
use mathlib.Core.Bool.{true, false}
use Rattle.laws.specs.Choice.{not_both}
use Rattle.laws.specs.Lists.{member}
use Rattle.desk_rules.specs.Desk.{Status, closed, running, waiting, sentback, Desk, is_open, is_live}
use Rattle.desk_rules.specs.Rules.{begin, retry, with_status}
use Rattle.desk_rules.specs.Effects.{Away, Begins, Retries}
use Rattle.desk_rules.specs.Invariant.{Inv}
use Rattle.laws.proofs.Functions.{at_same, at_other}
use Rattle.desks.proofs.Places.{seated_others, seated_there}
use Rattle.desk_rules.proofs.KeptBegin.{next_not_open}
use Rattle.desk_rules.proofs.Away.{not_live_away}

-- a job that is not open is closed
pub not_open_closed : (s : Status) → is_open s ≡ false → s ≡ closed
unfolding is_open
not_open_closed closed f = refl
not_open_closed running f = not_both refl f
not_open_closed (waiting c a) f = not_both refl f
not_open_closed sentback f = not_both refl f

-- the next number's job is not open yet
next_closed : {d : Desk} → Inv d → d.stat d.next ≡ closed
next_closed {d} v = not_open_closed (d.stat d.next) (next_not_open v)

-- opening the next job
pub begin_begins : {d : Desk} → Inv d → member 0 d.jobs ≡ true → Begins d (begin d).desk d.next
unfolding begin
begin_begins {d} v m =
    let a : Away d d.next = not_live_away v d.next (unfold is_live in rw (next_closed v)) in
    record {
      number = refl;
      next = refl;
      new = next_closed v;
      status = at_same d.stat d.next running;
      away = record { holds_nothing = a.holds_nothing; waits_nowhere = a.waits_nowhere };
      place = seated_there d.next d.jobs m;
      statuses = at_other d.stat d.next running;
      places = seated_others d.next d.jobs;
      rows = refl;
    }

-- retrying a sent back job
pub retry_retries : {d : Desk} → Inv d → (j : ℕ) → d.stat j ≡ sentback → Retries d (retry d j).desk j
unfolding retry with_status
retry_retries {d} v j s =
    let a : Away d j = not_live_away v j (unfold is_live in rw s) in
    record {
      was = s;
      status = at_same d.stat j running;
      away = record { holds_nothing = a.holds_nothing; waits_nowhere = a.waits_nowhere };
      statuses = at_other d.stat j running;
      places = refl;
      next = refl;
      rows = refl;
    }
