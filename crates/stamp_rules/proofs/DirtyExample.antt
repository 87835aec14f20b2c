-- Histories of the timestamp desk may be dirty under No. 2, as the request says: here is one (02, No. 6).
-- A computed example: it opens definitions of conflict too, which no other proof of this crate does. Assumes nothing.
use mathlib.Core.Path.{◌≡◌, refl}
use mathlib.Core.List.{List, [], ◌∷◌}
use native.Mathlib.Omega.{arith}
use Rattle.laws.specs.Functions.{at}
use Rattle.laws.specs.Larger.{larger}
use Rattle.laws.specs.Lists.{member}
use Rattle.conflict.specs.declared.action.Kind.TheVariants.{Read, Write}
use Rattle.conflict.specs.declared.action.Mark.TheVariants.{Commit, GiveUp}
use Rattle.conflict.specs.declared.action.Event.TheVariants.{Does, Ends}
use Rattle.conflict.specs.Modes.{recorded}
use Rattle.conflict.specs.History.{History, is_commit, marked, commits}
use Rattle.conflict.specs.Runs.{is_end, ended}
use Rattle.conflict.specs.Dirty.{changes, IsDirty}
use Rattle.desks.specs.Request.{Request}
use Rattle.desks.specs.Told.{request}
use Rattle.desks.specs.Places.{seated, vacated}
use Rattle.desks.specs.Begin.{beginning}
use Rattle.desks.specs.Records.{went_by, own_records, wake_records, records_of, records_by}
use Rattle.desks.specs.Requests.{writes}
use Rattle.stamp_rules.specs.Desk.{fresh_desk, is_open}
use Rattle.stamp_rules.specs.Rules.{late_to_read, late_to_write, late, has_read, has_written, done, close, ask, begin}
use Rattle.stamp_rules.specs.Step.{step_begin, step_close, step_ask, step_by, step}

-- two begins; 1 writes cell 0, 2 reads it and commits, and then 1 gives up
abbrev pub dirty_requests : List Request
dirty_requests = request 98 0 0 ∷ request 98 0 0 ∷ request 119 1 0 ∷ request 114 2 0 ∷ request 99 2 0 ∷ request 97 1 0 ∷ []

-- what a desk started at 1 writes for them
abbrev pub dirty_history : History
dirty_history =
    Does (record { kind = Write; job = 1; cell = 0 }) ∷ Does (record { kind = Read; job = 2; cell = 0 }) ∷ Ends Commit 2 ∷ Ends GiveUp 1 ∷ []

-- it does write that history
pub dirty_written : writes step (fresh_desk 1) dirty_requests ≡ dirty_history
unfolding writes records_by records_of own_records wake_records went_by step step_by step_begin step_close step_ask beginning begin close ask late late_to_read late_to_write done has_read has_written at larger member seated vacated is_open fresh_desk recorded
dirty_written = refl

-- THERE IS A DIRTY HISTORY: 2, which commits, has read what 1, which does not commit, had written
pub may_be_dirty : IsDirty (writes step (fresh_desk 1) dirty_requests)
unfolding changes commits is_commit ended marked is_end
may_be_dirty =
    rw dirty_written
    (record {
      read_at = 1;
      write_at = 0;
      reader = 2;
      writer = 1;
      dirty_read = record {
        before = [];
        write = record { kind = Write; job = 1; cell = 0 };
        between = [];
        read = record { kind = Read; job = 2; cell = 0 };
        after = Ends Commit 2 ∷ Ends GiveUp 1 ∷ [];
        lines = refl;
        write_place = refl;
        read_place = refl;
        reads = refl;
        reads_by = refl;
        writes = refl;
        writes_by = refl;
        one_cell = refl;
        two_jobs = λ e. omega arith;
        reader_commits = refl;
        writer_does_not = refl;
        not_ended = refl;
      };
    })
