-- The sizes of the judge's arrays: a slot for each byte value, so that a job's byte is its slot; slot 0 belongs to no job.
use Rattle.std.specs.Prelude.{ℕ}

-- the slots of jobs
abbrev pub slots : ℕ
slots = 256

-- where each slot's lines start, and where the last end
abbrev pub stops : ℕ
stops = 257

-- every slot and kind of action
abbrev pub kind_sets : ℕ
kind_sets = 768

-- every cell, slot and kind of last line
abbrev pub keys : ℕ
keys = 65_536
