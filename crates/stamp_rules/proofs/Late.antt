-- When a request is late: the tests of the rules as the request words them, by the cell's two numbers; equal numbers go (02, No. 6).
-- Assumes nothing.
use Prim.Native.Nat.{ℕ, ◌<◌, ◌≤◌}
use mathlib.Core.Path.{◌≡◌, refl, ap, ◌∙◌}
use mathlib.Core.Logic.{◌⊎◌, inl, inr, ⊎_elim}
use mathlib.Core.Bool.{Bool, true, false, ◌||◌}
use lib.Dec.{ltb}
use borrow.Author.Tests.{ltb-true, ltb-false, lt-ltb, le-ltb}
use Rattle.laws.specs.Choice.{not_both}
use Rattle.laws.proofs.Parts.{or_either, or_first, or_second, nor_first, nor_second}
use Rattle.terms.specs.declared.letters.Ask.{Ask}
use Rattle.terms.specs.declared.letters.Ask.TheVariants.{Read, Write, Increment, Update}
use Rattle.conflict.specs.Modes.{recorded}
use Rattle.conflict.specs.Dirty.{changes}
use Rattle.conflict.proofs.Clauses.{records_read, records_update, read_changes_not}
use Rattle.stamp_rules.specs.Desk.{Desk}
use Rattle.stamp_rules.specs.Rules.{late_to_read, late_to_write, late}

-- a test fails exactly if the first holds, and passes exactly if the second does
pub record Decided (test : Bool) (this that : Type 0) : Type 0 where
  pub in_time : test ≡ false → this
  pub so_in_time : this → test ≡ false
  pub too_late : test ≡ true → that
  pub so_too_late : that → test ≡ true

-- a number is smaller than another, or is not
smaller : (m n : ℕ) → Decided (ltb m n) (n ≤ m) (m < n)
smaller m n = record { in_time = ltb-false m n; so_in_time = le-ltb m n; too_late = ltb-true m n; so_too_late = lt-ltb m n }

-- of two tests neither holds, or one does
neither : {a b : Bool} {p q s t : Type 0} → Decided a p q → Decided b s t → Decided (a || b) (p × s) (q ⊎ t)
neither {a} {b} x y = record {
  in_time = λ e. (x.in_time (nor_first a b e), y.in_time (nor_second a b e));
  so_in_time = λ e. rw (x.so_in_time e.0, y.so_in_time e.1);
  too_late = λ e. or_either a b e (λ t. inl (x.too_late t)) (λ t. inr (y.too_late t));
  so_too_late = ⊎_elim (λ t. or_first a b (x.so_too_late t)) (λ t. or_second a b (y.so_too_late t));
}

-- a test that is repeated after another one
said_twice : (a b : Bool) → (a || (b || a)) ≡ (b || a)
said_twice true true = refl
said_twice true false = refl
said_twice false b = refl

module _ (d : Desk) (j c : ℕ) where
  -- a read is late if its job is smaller than the writer number
  pub read_late : Decided (late d j c Read) (d.writer c ≤ j) (j < d.writer c)
  unfolding late late_to_read
  read_late = smaller j (d.writer c)

  -- and so is a u
  pub update_late : Decided (late d j c Update) (d.writer c ≤ j) (j < d.writer c)
  unfolding late late_to_read
  update_late = smaller j (d.writer c)

  -- a write is late if its job is smaller than either number
  pub write_late : Decided (late d j c Write) ((d.reader c ≤ j) × (d.writer c ≤ j)) ((j < d.reader c) ⊎ (j < d.writer c))
  unfolding late late_to_write
  write_late = neither (smaller j (d.reader c)) (smaller j (d.writer c))

  -- an increment is late if a write is
  as_write : late d j c Increment ≡ late d j c Write
  unfolding late late_to_read late_to_write
  as_write = said_twice (ltb j (d.writer c)) (ltb j (d.reader c))

  -- so an increment is late if its job is smaller than either number
  pub increment_late : Decided (late d j c Increment) ((d.reader c ≤ j) × (d.writer c ≤ j)) ((j < d.reader c) ⊎ (j < d.writer c))
  increment_late = rw as_write write_late

  -- a request that is not late has a job that is not below the writer number
  pub over_writer : (a : Ask) → late d j c a ≡ false → d.writer c ≤ j
  over_writer Read f = read_late.in_time f
  over_writer Write f = (write_late.in_time f).1
  over_writer Increment f = (increment_late.in_time f).1
  over_writer Update f = update_late.in_time f

  -- nor, if it changes the cell, below the reader number
  pub over_reader : (a : Ask) → late d j c a ≡ false → changes (recorded a) ≡ true → d.reader c ≤ j
  over_reader Read f w = not_both w (ap changes records_read ∙ read_changes_not)
  over_reader Write f w = (write_late.in_time f).0
  over_reader Increment f w = (increment_late.in_time f).0
  over_reader Update f w = not_both w (ap changes records_update ∙ read_changes_not)
