-- The desk after a request for a cell has gone: jobs and their numbers as before, and the cell's two numbers as the request says (02, No. 6).
-- Assumes nothing.
use Prim.Native.Nat.{ℕ}
use mathlib.Core.Path.{◌≡◌, refl, ap, ◌∙◌}
use Rattle.laws.specs.Functions.{at}
use Rattle.laws.specs.Larger.{larger}
use Rattle.laws.proofs.Functions.{at_same, at_other}
use Rattle.terms.specs.declared.letters.Ask.{Ask}
use Rattle.terms.specs.declared.letters.Ask.TheVariants.{Read, Write, Increment, Update}
use Rattle.stamp_rules.specs.Desk.{Desk}
use Rattle.stamp_rules.specs.Rules.{has_read, has_written, done}
use Rattle.stamp_rules.specs.Asked.{SameJobs, ReadBy, WrittenBy}

module _ (d : Desk) (j c : ℕ) where
  -- jobs and their numbers are as before
  pub done_jobs : (a : Ask) → SameJobs d (done d j c a)
  unfolding done has_read has_written
  done_jobs Read = record { places = refl; next = refl }
  done_jobs Write = record { places = refl; next = refl }
  done_jobs Increment = record { places = refl; next = refl }
  done_jobs Update = record { places = refl; next = refl }

  -- only the cell's reader number changes
  read_by : (e : Desk) → e.reader ≡ at d.reader c (larger (d.reader c) j) → ReadBy d e j c
  read_by e q = record {
    there = ap (λ f. f c) q ∙ at_same d.reader c _;
    elsewhere = λ b n. ap (λ f. f b) q ∙ at_other d.reader c _ b n;
  }

  -- and only its writer number
  written_by : (e : Desk) → e.writer ≡ at d.writer c j → WrittenBy d e j c
  written_by e q = record {
    there = ap (λ f. f c) q ∙ at_same d.writer c j;
    elsewhere = λ b n. ap (λ f. f b) q ∙ at_other d.writer c j b n;
  }

  -- a read has read the cell, and no cell's writer number is changed
  pub read_done : ReadBy d (done d j c Read) j c × ((done d j c Read).writer ≡ d.writer)
  unfolding done has_read
  read_done = (read_by _ refl, refl)

  -- and so has a u
  pub update_done : ReadBy d (done d j c Update) j c × ((done d j c Update).writer ≡ d.writer)
  unfolding done has_read
  update_done = (read_by _ refl, refl)

  -- a write has written it, and no cell's reader number is changed
  pub write_done : WrittenBy d (done d j c Write) j c × ((done d j c Write).reader ≡ d.reader)
  unfolding done has_written
  write_done = (written_by _ refl, refl)

  -- an increment has done both
  pub increment_done : ReadBy d (done d j c Increment) j c × WrittenBy d (done d j c Increment) j c
  unfolding done has_read has_written
  increment_done = (read_by _ refl, written_by _ refl)
