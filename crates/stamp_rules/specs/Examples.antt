-- Requests by numbers and a timestamp desk's answers: which requests are late and which are not, what a sending back leaves, the paper's samples S11 and S12, the first and last cells, and which of two refusals comes first (02, No. 6; 01, Samples to hold it against; 01, Refusals by number).
use Rattle.std.specs.Prelude.{List, [], ◌∷◌, ◌++◌}
use Rattle.desks.specs.Told.{Example, request, begins, go, back, no, go_from}

-- the examples
abbrev pub examples : List Example
examples =
    -- i 1, i 2, i 1 on one cell: the second increment of 1 is late
    record { start = 1; requests = begins 2 ++ request 105 1 5 ∷ request 105 2 5 ∷ request 105 1 5 ∷ []; answers = go_from 1 2 ++ go 1 ∷ go 2 ∷ back 1 ∷ [] }
    -- equal numbers go: a job writes, reads, increments, reads by u and writes a cell that it has written and read itself
    ∷ record {
      start = 1;
      requests = request 98 0 0 ∷ request 119 1 5 ∷ request 114 1 5 ∷ request 119 1 5 ∷ request 105 1 5 ∷ request 117 1 5 ∷ request 105 1 5 ∷ request 119 1 5 ∷ [];
      answers = go 1 ∷ go 1 ∷ go 1 ∷ go 1 ∷ go 1 ∷ go 1 ∷ go 1 ∷ go 1 ∷ [];
    }
    -- a larger number goes, whatever a smaller one has done there
    ∷ record {
      start = 1;
      requests = begins 3 ++ request 119 1 5 ∷ request 114 2 5 ∷ request 119 2 5 ∷ request 105 3 5 ∷ [];
      answers = go_from 1 3 ++ go 1 ∷ go 2 ∷ go 2 ∷ go 3 ∷ [];
    }
    -- a read below the writer number is late; on another cell it is not
    ∷ record { start = 1; requests = begins 2 ++ request 119 2 5 ∷ request 114 1 6 ∷ request 114 1 5 ∷ []; answers = go_from 1 2 ++ go 2 ∷ go 1 ∷ back 1 ∷ [] }
    -- a write below the reader number is late
    ∷ record { start = 1; requests = begins 2 ++ request 114 2 5 ∷ request 119 1 5 ∷ []; answers = go_from 1 2 ++ go 2 ∷ back 1 ∷ [] }
    -- a write below the writer number is late
    ∷ record { start = 1; requests = begins 2 ++ request 119 2 5 ∷ request 119 1 5 ∷ []; answers = go_from 1 2 ++ go 2 ∷ back 1 ∷ [] }
    -- an increment below the reader number is late, and so is one below the writer number
    ∷ record { start = 1; requests = begins 3 ++ request 114 3 5 ∷ request 119 3 6 ∷ request 105 1 5 ∷ request 105 2 6 ∷ []; answers = go_from 1 3 ++ go 3 ∷ go 3 ∷ back 1 ∷ back 2 ∷ [] }
    -- an increment counts as a write and as a read: after it a smaller number's read is late, and so is its write
    ∷ record { start = 1; requests = begins 3 ++ request 105 3 5 ∷ request 114 1 5 ∷ request 119 2 5 ∷ []; answers = go_from 1 3 ++ go 3 ∷ back 1 ∷ back 2 ∷ [] }
    -- a read is never late because of a read, and the reader number is the largest that read, not the last: 1 reads after 2, and its write is late
    ∷ record { start = 1; requests = begins 2 ++ request 114 2 5 ∷ request 114 1 5 ∷ request 119 1 5 ∷ []; answers = go_from 1 2 ++ go 2 ∷ go 1 ∷ back 1 ∷ [] }
    -- u counts as a read: after the u of 2 a read and a u of 1 go, and its write is late
    ∷ record {
      start = 1;
      requests = begins 2 ++ request 117 2 5 ∷ request 114 1 5 ∷ request 117 1 5 ∷ request 119 1 5 ∷ [];
      answers = go_from 1 2 ++ go 2 ∷ go 1 ∷ go 1 ∷ back 1 ∷ [];
    }
    -- and a u below the writer number is late
    ∷ record { start = 1; requests = begins 2 ++ request 119 2 5 ∷ request 117 1 5 ∷ []; answers = go_from 1 2 ++ go 2 ∷ back 1 ∷ [] }
    -- a sent back job is closed: each of its requests then gets 3, its commit too, and the next begin gives a new number, which goes
    ∷ record {
      start = 1;
      requests = begins 2 ++ request 119 2 5 ∷ request 114 1 5 ∷ request 114 1 5 ∷ request 119 1 6 ∷ request 99 1 0 ∷ request 97 1 0 ∷ request 116 1 0 ∷ request 98 0 0 ∷ request 114 3 5 ∷ request 99 3 0 ∷ [];
      answers = go_from 1 2 ++ go 2 ∷ back 1 ∷ no 3 ∷ no 3 ∷ no 3 ∷ no 3 ∷ no 3 ∷ go 3 ∷ go 3 ∷ go 3 ∷ [];
    }
    -- the numbers stay after a give-up: 2 wrote, and 1 is late because of it; and after a commit
    ∷ record { start = 1; requests = begins 2 ++ request 119 2 5 ∷ request 97 2 0 ∷ request 114 1 5 ∷ []; answers = go_from 1 2 ++ go 2 ∷ go 2 ∷ back 1 ∷ [] }
    ∷ record { start = 1; requests = begins 2 ++ request 114 2 5 ∷ request 99 2 0 ∷ request 119 1 5 ∷ []; answers = go_from 1 2 ++ go 2 ∷ go 2 ∷ back 1 ∷ [] }
    -- and after a sending back: 3 has written cell 5 and read cell 7 when it is sent back, and 2 and 1 are late because of that
    ∷ record {
      start = 1;
      requests = begins 4 ++ request 119 3 5 ∷ request 114 3 7 ∷ request 119 4 6 ∷ request 114 3 6 ∷ request 114 2 5 ∷ request 119 1 7 ∷ [];
      answers = go_from 1 4 ++ go 3 ∷ go 3 ∷ go 4 ∷ back 3 ∷ back 2 ∷ back 1 ∷ [];
    }
    -- S11: started at 4,294,967,295 one begin goes, and the next gets 7
    ∷ record { start = 4294967295; requests = begins 2; answers = go 4294967295 ∷ no 7 ∷ [] }
    -- S12: 32 begins go, the 33rd gets 6; after one give-up it goes, and after one sending back too
    ∷ record {
      start = 1;
      requests = begins 33 ++ request 97 7 0 ∷ request 98 0 0 ∷ request 98 0 0 ∷ request 119 2 5 ∷ request 114 1 5 ∷ request 98 0 0 ∷ request 98 0 0 ∷ [];
      answers = go_from 1 32 ++ no 6 ∷ go 7 ∷ go 33 ∷ no 6 ∷ go 2 ∷ back 1 ∷ go 34 ∷ no 6 ∷ [];
    }
    -- begin tests 7, then 6: with 32 jobs open and the last number given it gets 7, and also with a place free
    ∷ record {
      start = 4294967264;
      requests = begins 33 ++ request 97 4294967264 0 ∷ request 98 0 0 ∷ [];
      answers = go_from 4294967264 32 ++ no 7 ∷ go 4294967264 ∷ no 7 ∷ [];
    }
    -- cells go from 0 to 63; above 63 an open job gets 2 for a read, a write, an increment and a u; a commit does not read the cell
    ∷ record {
      start = 1;
      requests = request 98 0 0 ∷ request 114 1 0 ∷ request 114 1 63 ∷ request 114 1 64 ∷ request 119 1 64 ∷ request 105 1 4294967295 ∷ request 117 1 64 ∷ request 99 1 64 ∷ [];
      answers = go 1 ∷ go 1 ∷ go 1 ∷ no 2 ∷ no 2 ∷ no 2 ∷ no 2 ∷ go 1 ∷ [];
    }
    -- 3 before 2: for a job that has closed, one that was never begun, and 0; every other request of theirs gets 3 too
    ∷ record {
      start = 1;
      requests = request 98 0 0 ∷ request 99 1 0 ∷ request 114 1 64 ∷ request 119 2 64 ∷ request 105 0 64 ∷ request 117 0 5 ∷ request 99 1 0 ∷ request 97 0 0 ∷ [];
      answers = go 1 ∷ go 1 ∷ no 3 ∷ no 3 ∷ no 3 ∷ no 3 ∷ no 3 ∷ no 3 ∷ [];
    }
    -- a retry of an open job gets 19, whatever its cell; 3 before 19: for a job that has closed, one that was never begun, and 0
    ∷ record {
      start = 1;
      requests = request 98 0 0 ∷ request 116 1 0 ∷ request 116 1 64 ∷ request 99 1 0 ∷ request 116 1 0 ∷ request 116 2 64 ∷ request 116 0 0 ∷ [];
      answers = go 1 ∷ no 19 ∷ no 19 ∷ go 1 ∷ no 3 ∷ no 3 ∷ no 3 ∷ [];
    }
    -- 1 first, whatever the job and the cell: k is not a request, nor is 0 or 255
    ∷ record { start = 1; requests = request 98 0 0 ∷ request 107 1 5 ∷ request 107 2 64 ∷ request 0 0 0 ∷ request 255 1 5 ∷ []; answers = go 1 ∷ no 1 ∷ no 1 ∷ no 1 ∷ no 1 ∷ [] }
    ∷ []
