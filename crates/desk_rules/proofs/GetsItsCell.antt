-- The second sentence of demand 3, whole: what is promised of a waiter right after it asked, said of the desk as it was when it asked.
-- Assumes nothing.
use Rattle.std.specs.Prelude.{Some}
use Prim.Native.Nat.{ℕ, ◌<◌}
use mathlib.Core.Path.{◌≡◌, subst}
use mathlib.Core.Bool.{true}
use mathlib.Core.List.{List}
use native.Mathlib.Omega.{arith}
use Rattle.terms.specs.declared.letters.Ask.{Ask}
use Rattle.terms.specs.declared.letters.Letter.TheVariants.{Asks}
use Rattle.terms.specs.Letters.{letter_of}
use Rattle.conflict.specs.History.{History}
use Rattle.desks.specs.declared.Answer.TheVariants.{Wait}
use Rattle.desks.specs.Request.{Request}
use Rattle.desk_rules.specs.Desk.{Desk, is_live}
use Rattle.desk_rules.specs.Locks.{wants}
use Rattle.desk_rules.specs.Asked.{asker, asked_there}
use Rattle.desk_rules.specs.Step.{step, Started}
use Rattle.desk_rules.specs.Requests.{desk_after}
use Rattle.desk_rules.specs.Course.{from}
use Rattle.desk_rules.specs.Waiting.{WasInWay, Granted, Served}
use Rattle.desk_rules.specs.Service.{Waiters}
use Rattle.desk_rules.specs.GetsItsCell.{GotItsCell, GetsItsCell}
use Rattle.desk_rules.proofs.Settle.{wants_same}
use Rattle.desk_rules.proofs.JustAsked.{just_asked, way_was, was_way}

module _ {d : Desk} {h : History} (s : Started d h) (r : Request) (a : Ask) (l : letter_of r.kind ≡ Some (Asks a)) (e : (step d r).said ≡ Wait r.job) (w : Waiters (from (step d r).desk) r.cell (asker r a)) where
  -- a job that was in its way when it asked was in a run
  was_live : (i : ℕ) → WasInWay d r i → is_live (d.stat i) ≡ true
  was_live i was =
      let older : r.job < i = w.is_older i (was_way s r a l e i was) in
      subst (λ x. is_live x ≡ true) ((just_asked s r a l e).statuses i (λ p. let p' : i ≡ r.job = p in absurd (omega arith)))
      (w.in_way_live i (was_way s r a l e i was))

  -- the mode it wants while it waits is the mode that it asked for
  wants_asked : wants ((step d r).desk.row r.cell).held (asker r a) ≡ asked_there d r a
  unfolding wants
  wants_asked = wants_same ((step d r).desk.row r.cell).held (d.row r.cell).held (asker r a) ((just_asked s r a l e).holds r.cell r.job)

  -- a waiter that is served got its cell in that mode, in time
  got_by : (rs : List Request) → Served (from (step d r).desk) r.cell (asker r a) rs → GotItsCell (from d) r a rs
  got_by rs g =
      let (i, way, late) = g.in_time in
      record {
        before = g.before;
        request = g.request;
        rest = g.rest;
        split = g.split;
        in_time = (i, way_was s r a l e i way, late);
        granted = subst (Granted (step (desk_after (step d r).desk g.before) g.request) r.cell (asker r a)) wants_asked g.granted;
      }

  -- THE SECOND SENTENCE OF DEMAND 3, for a request that is answered wait
  pub gets_its_cell : GetsItsCell (from d) r
  gets_its_cell =
      record {
        ask = a;
        asks = l;
        in_a_run = was_live;
        at_most_31 = λ is o ways. w.at_most_31 is o (λ i m. was_way s r a l e i (ways i m));
        got = λ rs p all. got_by rs (w.waiter_served rs p (λ i way. all i (way_was s r a l e i way)));
      }
