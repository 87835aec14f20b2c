-- Requests by numbers and a desk's answers: the paper's samples S11 and S12, the first and last cells, which of two refusals comes first, the update lock's own cases, and cases that tell a rule from its near misses (01, Samples to hold it against; 01, Refusals by number; 02, No. 1).
use Rattle.std.specs.Prelude.{ℕ, List, [], ◌∷◌, ◌++◌, replicate}
use Rattle.desks.specs.Request.{Request}
use Rattle.desks.specs.Told.{Example, request, begins, go, wait, back, no, wake, go_from}

-- read, write, increment and u of a cell by one job
abbrev pub asks : ℕ → ℕ → List Request
asks j c = request 114 j c ∷ request 119 j c ∷ request 105 j c ∷ request 117 j c ∷ []

-- the examples
abbrev pub examples : List Example
examples =
    -- S11: started at 4,294,967,295 one begin goes, and the next gets 7
    record { start = 4294967295; requests = begins 2; answers = go 4294967295 ∷ no 7 ∷ [] }
    -- S12: 32 begins go, the 33rd gets 6; after one give-up it goes
    ∷ record {
      start = 1;
      requests = begins 33 ++ request 97 7 0 ∷ request 98 0 0 ∷ request 98 0 0 ∷ [];
      answers = go_from 1 32 ++ no 6 ∷ go 7 ∷ go 33 ∷ no 6 ∷ [];
    }
    -- begin tests 7, then 6: with 32 jobs open and the last number given it gets 7, and also with a place free
    ∷ record {
      start = 4294967264;
      requests = begins 33 ++ request 97 4294967264 0 ∷ request 98 0 0 ∷ [];
      answers = go_from 4294967264 32 ++ no 7 ∷ go 4294967264 ∷ no 7 ∷ [];
    }
    -- cells go from 0 to 63; above 63 a running job gets 2 for a read, a write and an increment; a commit does not read the cell
    ∷ record {
      start = 1;
      requests = request 98 0 0 ∷ request 114 1 0 ∷ request 114 1 63 ∷ request 114 1 64 ∷ request 119 1 64 ∷ request 105 1 4294967295 ∷ request 99 1 64 ∷ [];
      answers = go 1 ∷ go 1 ∷ go 1 ∷ no 2 ∷ no 2 ∷ no 2 ∷ go 1 ∷ [];
    }
    -- 3 before 2: for a job that has closed, one that was never begun, and 0; every other request of theirs gets 3 too
    ∷ record {
      start = 1;
      requests = request 98 0 0 ∷ request 99 1 0 ∷ request 114 1 64 ∷ request 119 2 64 ∷ request 105 0 64 ∷ request 99 1 0 ∷ request 97 1 0 ∷ request 116 1 0 ∷ [];
      answers = go 1 ∷ go 1 ∷ no 3 ∷ no 3 ∷ no 3 ∷ no 3 ∷ no 3 ∷ no 3 ∷ [];
    }
    -- 4 before 2: for a waiting job; its commit and its retry get 4 too, and it may give up
    ∷ record {
      start = 1;
      requests = begins 2 ++ request 114 2 5 ∷ request 119 1 5 ∷ request 114 1 64 ∷ request 119 1 5 ∷ request 99 1 0 ∷ request 116 1 0 ∷ request 97 1 0 ∷ [];
      answers = go_from 1 2 ++ go 2 ∷ wait 1 ∷ no 4 ∷ no 4 ∷ no 4 ∷ no 4 ∷ go 1 ∷ [];
    }
    -- 5 before 2: for a sent back job; its commit gets 5 too, and it may retry; then a retry gets 8, whatever its cell, and a read of cell 64 gets 2
    ∷ record {
      start = 1;
      requests = begins 2 ++ request 114 1 5 ∷ request 119 2 5 ∷ request 114 2 64 ∷ request 105 2 5 ∷ request 99 2 0 ∷ request 116 2 64 ∷ request 116 2 64 ∷ request 114 2 64 ∷ [];
      answers = go_from 1 2 ++ go 1 ∷ back 2 ∷ no 5 ∷ no 5 ∷ no 5 ∷ go 2 ∷ no 8 ∷ no 2 ∷ [];
    }
    -- a sent back job may give up
    ∷ record {
      start = 1;
      requests = begins 2 ++ request 114 1 5 ∷ request 119 2 5 ∷ request 97 2 0 ∷ request 116 2 0 ∷ [];
      answers = go_from 1 2 ++ go 1 ∷ back 2 ∷ go 2 ∷ no 3 ∷ [];
    }
    -- two jobs read with intent to write: the younger first, and the older waits until it commits; no job is sent back
    ∷ record {
      start = 1;
      requests = begins 2 ++ request 117 2 5 ∷ request 117 1 5 ∷ request 119 2 5 ∷ request 99 2 0 ∷ request 119 1 5 ∷ request 99 1 0 ∷ [];
      answers = go_from 1 2 ++ go 2 ∷ wait 1 ∷ go 2 ∷ go 2 ∷ wake 1 ∷ go 1 ∷ go 1 ∷ [];
    }
    -- with a plain read instead, the write costs a sending back
    ∷ record {
      start = 1;
      requests = begins 2 ++ request 114 2 5 ∷ request 114 1 5 ∷ request 119 2 5 ∷ request 119 1 5 ∷ request 99 1 0 ∷ [];
      answers = go_from 1 2 ++ go 2 ∷ go 1 ∷ back 2 ∷ go 1 ∷ go 1 ∷ [];
    }
    -- if the older asks first, the younger is sent back at once
    ∷ record { start = 1; requests = begins 2 ++ request 117 1 5 ∷ request 117 2 5 ∷ []; answers = go_from 1 2 ++ go 1 ∷ back 2 ∷ [] }
    -- a promotion that may not go compares its age with every other holder: 3 has the U that is in the way of 2, and 1, which only reads, is older
    ∷ record {
      start = 1;
      requests = begins 3 ++ request 114 1 5 ∷ request 114 2 5 ∷ request 117 3 5 ∷ request 117 2 5 ∷ [];
      answers = go_from 1 3 ++ go 1 ∷ go 2 ∷ go 3 ∷ back 2 ∷ [];
    }
    -- S to U goes past a waiting write, beside another S; beside a U it does not; a job new to the cell gets U only if no job waits
    ∷ record {
      start = 1;
      requests = begins 4 ++ request 114 4 5 ∷ request 114 3 5 ∷ request 119 2 5 ∷ request 117 3 5 ∷ request 117 4 5 ∷ request 117 1 5 ∷ [];
      answers = go_from 1 4 ++ go 4 ∷ go 3 ∷ wait 2 ∷ go 3 ∷ back 4 ∷ wait 1 ∷ [];
    }
    -- beside S a U goes, beside U neither a read nor an increment
    ∷ record {
      start = 1;
      requests = begins 4 ++ request 114 4 5 ∷ request 117 3 5 ∷ request 114 2 5 ∷ request 105 1 5 ∷ [];
      answers = go_from 1 4 ++ go 4 ∷ go 3 ∷ wait 2 ∷ wait 1 ∷ [];
    }
    -- beside I a U does not go
    ∷ record { start = 1; requests = begins 2 ++ request 105 2 5 ∷ request 117 1 5 ∷ []; answers = go_from 1 2 ++ go 2 ∷ wait 1 ∷ [] }
    -- U covers reads and u: on cell 5; S with u becomes U, beside which a read waits: on cell 6; I with u becomes X, beside which an increment waits: on cell 7
    ∷ record {
      start = 1;
      requests = begins 4 ++ request 117 4 5 ∷ request 114 4 5 ∷ request 117 4 5 ∷ request 114 4 6 ∷ request 117 4 6 ∷ request 105 4 7 ∷ request 117 4 7 ∷ request 114 3 6 ∷ request 105 2 7 ∷ [];
      answers = go_from 1 4 ++ go 4 ∷ go 4 ∷ go 4 ∷ go 4 ∷ go 4 ∷ go 4 ∷ go 4 ∷ wait 3 ∷ wait 2 ∷ [];
    }
    -- u is refused as a read is: 3 for a job that is not open, 4 for one that waits, 5 for one that was sent back, then 2 for a cell above 63
    ∷ record {
      start = 1;
      requests = begins 3 ++ request 117 4 64 ∷ request 117 0 5 ∷ request 117 2 64 ∷ request 117 2 5 ∷ request 117 1 5 ∷ request 117 1 64 ∷ request 117 3 5 ∷ request 117 3 64 ∷ [];
      answers = go_from 1 3 ++ no 3 ∷ no 3 ∷ no 2 ∷ go 2 ∷ wait 1 ∷ no 4 ∷ back 3 ∷ no 5 ∷ [];
    }
    -- cases that tell rules 2 to 4 from their near misses. S to U goes beside an older reader: if the mode agrees, age is not asked
    ∷ record { start = 1; requests = begins 2 ++ request 114 1 5 ∷ request 114 2 5 ∷ request 117 2 5 ∷ []; answers = go_from 1 2 ++ go 1 ∷ go 2 ∷ go 2 ∷ [] }
    -- a waiter's give-up wakes the job behind it that agrees with the holders: 2 gives up its write, and the read of 1 is granted
    ∷ record {
      start = 1;
      requests = begins 3 ++ request 114 3 5 ∷ request 119 2 5 ∷ request 114 1 5 ∷ request 97 2 0 ∷ request 114 1 5 ∷ [];
      answers = go_from 1 3 ++ go 3 ∷ wait 2 ∷ wait 1 ∷ go 2 ∷ wake 1 ∷ go 1 ∷ [];
    }
    -- a promotion compares its age with the holders alone and waits at the front: 2 waits though 1, which waits already, is older; and 2 is woken first
    ∷ record {
      start = 1;
      requests = begins 3 ++ request 114 2 5 ∷ request 114 3 5 ∷ request 119 1 5 ∷ request 119 2 5 ∷ request 99 3 0 ∷ request 119 2 5 ∷ [];
      answers = go_from 1 3 ++ go 2 ∷ go 3 ∷ wait 1 ∷ wait 2 ∷ go 3 ∷ wake 2 ∷ go 2 ∷ [];
    }
    -- a job new to the cell compares its age with the waiters too: 2 is older than the holder 3, and the waiter 1 is older than 2
    ∷ record { start = 1; requests = begins 3 ++ request 114 3 5 ∷ request 119 1 5 ∷ request 114 2 5 ∷ []; answers = go_from 1 3 ++ go 3 ∷ wait 1 ∷ back 2 ∷ [] }
    -- u does not pass a waiting write, though it would agree with the holder
    ∷ record { start = 1; requests = begins 3 ++ request 114 3 5 ∷ request 119 2 5 ∷ request 117 1 5 ∷ []; answers = go_from 1 3 ++ go 3 ∷ wait 2 ∷ wait 1 ∷ [] }
    -- a u that waited is woken with U and no more: beside the reader 3 its write has to wait again
    ∷ record {
      start = 1;
      requests = begins 3 ++ request 114 3 5 ∷ request 117 2 5 ∷ request 117 1 5 ∷ request 99 2 0 ∷ request 119 1 5 ∷ [];
      answers = go_from 1 3 ++ go 3 ∷ go 2 ∷ wait 1 ∷ go 2 ∷ wake 1 ∷ wait 1 ∷ [];
    }
    -- rows 2 to 5 and 8 of the table for every kind, each with cell 5 and with cell 64. A job that is not open gets 3 whatever it asks: 2 was never begun, 1 has closed, and 0 is never open
    ∷ record {
      start = 1;
      requests = begins 1 ++ request 99 1 0 ∷ asks 2 5 ++ asks 2 64 ++ asks 1 5 ++ asks 1 64 ++ asks 0 5 ++ asks 0 64 ++ request 99 1 64 ∷ request 116 1 64 ∷ request 97 1 64 ∷ [];
      answers = go_from 1 1 ++ go 1 ∷ replicate 27 (no 3);
    }
    -- a waiting job gets 4 whatever it asks, even if the cell is above 63, and its commit and its retry get 4; its give-up goes
    ∷ record {
      start = 1;
      requests = begins 2 ++ request 114 2 5 ∷ request 119 1 5 ∷ asks 1 5 ++ asks 1 64 ++ request 99 1 64 ∷ request 116 1 64 ∷ request 97 1 64 ∷ [];
      answers = go_from 1 2 ++ go 2 ∷ wait 1 ∷ replicate 10 (no 4) ++ go 1 ∷ [];
    }
    -- a sent back job gets 5 whatever it asks, even if the cell is above 63, and its commit gets 5; its retry goes
    ∷ record {
      start = 1;
      requests = begins 2 ++ request 114 1 5 ∷ request 119 2 5 ∷ asks 2 5 ++ asks 2 64 ++ request 99 2 64 ∷ request 116 2 64 ∷ [];
      answers = go_from 1 2 ++ go 1 ∷ back 2 ∷ replicate 9 (no 5) ++ go 2 ∷ [];
    }
    -- a running job gets 2 for a cell above 63 whatever it asks, and 8 for a retry; its commit does not read the cell
    ∷ record {
      start = 1;
      requests = begins 1 ++ asks 1 64 ++ asks 1 4294967295 ++ request 116 1 5 ∷ request 116 1 64 ∷ request 99 1 64 ∷ [];
      answers = go_from 1 1 ++ replicate 8 (no 2) ++ no 8 ∷ no 8 ∷ go 1 ∷ [];
    }
    -- 1 first, whatever the job and the cell: k is not a request, nor is 0 or 255
    ∷ record { start = 1; requests = request 107 1 64 ∷ request 0 0 0 ∷ request 255 1 5 ∷ []; answers = no 1 ∷ no 1 ∷ no 1 ∷ [] }
    ∷ []
