-- The paper's starred samples S1 to S9, the update lock's case, the chains of a night, the timestamp desk, and samples of ours: program, input text, output text (01, Samples to hold it against; 02, Nos. 1, 3 and 6).
use Rattle.std.specs.Prelude.{ℕ, List, [], ◌∷◌}
use Prim.Native.String.{String}
use Rattle.judge_rules.specs.VerdictLine.{verdict_of}
use Rattle.program_rules.specs.Programs.{answers_of, history_of, chains_of, stamp_answers_of, stamp_history_of}

-- the six programs (01, What is delivered; 02, Nos. 3 and 6)
pub data Program : Type 0 where
  answers : Program
  history : Program
  verdict : Program
  chain : Program
  stamp_answers : Program
  stamp_history : Program

-- what a program writes, given a text
unfoldable pub writes : Program → List ℕ → List ℕ
writes answers = answers_of
writes history = history_of
writes verdict = verdict_of
writes chain = chains_of
writes stamp_answers = stamp_answers_of
writes stamp_history = stamp_history_of

-- a sample
pub record Sample : Type 0 where
  pub program : Program
  pub input : String
  pub output : String

-- the input lines of S1
abbrev pub s1 : String
s1 = "b\nb\nr\t2\t5\nw\t1\t5\nw\t2\t5\nr\t1\t5\nc\t2\nr\t2\t5\nc\t1\n"

-- the history of S1
abbrev pub s1_history : String
s1_history = "r\t2\t5\nw\t2\t5\nc\t2\nw\t1\t5\nc\t1\n"

-- ours: one commit wakes three jobs: job 1 on cell 3, and on cell 5 first job 3, then job 2, which reads beside it (01, rule 4)
abbrev pub wakes : String
wakes = "b\nb\nb\nb\nw\t4\t5\nw\t4\t3\nr\t3\t5\nr\t2\t5\nw\t1\t3\nc\t4\n"

-- ours: a job is sent back and retries; a give-up wakes an older job; a retry is refused; a read under X (01, rule 1); and k, which is no request
abbrev pub returns : String
returns = "b\nb\nr\t1\t5\nw\t2\t5\nt\t2\nr\t2\t5\nw\t1\t5\na\t2\nt\t1\nr\t1\t5\nk\t1\n"

-- ours, with u: 2 has U beside 3's S; 1 waits for U; 3 may not have U beside U and goes back; 2 reads under U (01, rule 1) and is promoted to X; its commit wakes 1 (02, No. 1)
abbrev pub updates : String
updates = "b\nb\nb\nr\t3\t5\nu\t2\t5\nu\t1\t5\nu\t3\t5\nr\t2\t5\nw\t2\t5\nc\t2\n"

-- two jobs read a cell with intent to write, then write it: 1 waits, the commit of 2 wakes it, and nobody is sent back (02, No. 1)
abbrev pub scorers : String
scorers = "b\nb\nu\t2\t5\nu\t1\t5\nw\t2\t5\nc\t2\nw\t1\t5\nc\t1\n"

-- the history of `scorers`
abbrev pub scorers_history : String
scorers_history = "r\t2\t5\nw\t2\t5\nc\t2\nr\t1\t5\nw\t1\t5\nc\t1\n"

-- ours, on the timestamp desk: 1 reads the picture and 2 writes the next; 2 reads and writes its own again (ties go); 1 comes too late and is closed; 2 may not retry, and job 3, begun anew, goes (02, No. 6)
abbrev pub pictures : String
pictures = "b\nb\nr\t1\t9\nw\t2\t9\nr\t2\t9\nw\t2\t9\nu\t1\t9\nr\t1\t9\nt\t2\nb\nw\t3\t9\nc\t2\nc\t3\n"

-- the history of `pictures`; its committed jobs are 2 and 3
abbrev pub pictures_history : String
pictures_history = "r\t1\t9\nw\t2\t9\nr\t2\t9\nw\t2\t9\nk\t1\nw\t3\t9\nc\t2\nc\t3\n"

-- 2 reads what 1 has written and commits, then 1 gives up: on the timestamp desk both go, and the history is dirty (02, No. 6)
abbrev pub taken_back : String
taken_back = "b\nb\nw\t1\t0\nr\t2\t0\nc\t2\na\t1\n"

-- the history of `taken_back`
abbrev pub taken_back_history : String
taken_back_history = "w\t1\t0\nr\t2\t0\nc\t2\na\t1\n"

-- bad lines, three or four for each field at fault; the last lacks its newline (02, No. 5)
abbrev pub spoilt : String
spoilt = "\nb \nk\t1\nc\nc\t1 \nr\t7x\t5\nr\t1\t5x\nr\t1\t5\r\nr\t1\nr\t1\t100\nb\t\nc\t1\t5\nb"

-- the starred samples S1 to S9, then the update lock's case, the chains and the timestamp desk, then ours; jobs are begun first, cell 5 unless said
abbrev pub samples : List Sample
samples =
    -- S1, whole
    record {
      program = answers;
      input = s1;
      output = "1\tgo\t1\n2\tgo\t2\n3\tgo\t2\n4\twait\t1\n5\tgo\t2\n6\tno\t4\n7\tgo\t2\n7\twake\t1\n8\tno\t3\n9\tgo\t1\n";
    }
    ∷ record { program = history; input = s1; output = s1_history }
    ∷ record { program = verdict; input = s1_history; output = "orderly\t2\t1\n" }
    -- S2: job 1 reads, job 2 writes: back 2
    ∷ record { program = answers; input = "b\nb\nr\t1\t5\nw\t2\t5\n"; output = "1\tgo\t1\n2\tgo\t2\n3\tgo\t1\n4\tback\t2\n" }
    -- S3: jobs 1 and 2 read; 1 writes: wait 1; 2 writes: back 2, wake 1
    ∷ record {
      program = answers;
      input = "b\nb\nr\t1\t5\nr\t2\t5\nw\t1\t5\nw\t2\t5\n";
      output = "1\tgo\t1\n2\tgo\t2\n3\tgo\t1\n4\tgo\t2\n5\twait\t1\n6\tback\t2\n6\twake\t1\n";
    }
    -- S4: jobs 1 and 2 increment: both go; 1 reads: wait; commit 2: wake 1
    ∷ record {
      program = answers;
      input = "b\nb\ni\t1\t5\ni\t2\t5\nr\t1\t5\nc\t2\n";
      output = "1\tgo\t1\n2\tgo\t2\n3\tgo\t1\n4\tgo\t2\n5\twait\t1\n6\tgo\t2\n6\twake\t1\n";
    }
    -- S5: job 3 reads, 2 writes: wait, 1 reads: wait, 4 reads: back. Commit 3 wakes 2 alone; commit 2 wakes 1
    ∷ record {
      program = answers;
      input = "b\nb\nb\nb\nr\t3\t5\nw\t2\t5\nr\t1\t5\nr\t4\t5\nc\t3\nc\t2\n";
      output = "1\tgo\t1\n2\tgo\t2\n3\tgo\t3\n4\tgo\t4\n5\tgo\t3\n6\twait\t2\n7\twait\t1\n8\tback\t4\n9\tgo\t3\n9\twake\t2\n10\tgo\t2\n10\twake\t1\n";
    }
    -- S6: document 002, example 18.7
    ∷ record {
      program = verdict;
      input = "r\t2\t0\nr\t1\t1\nw\t2\t0\nr\t3\t0\nw\t1\t1\nw\t3\t0\nr\t2\t1\nw\t2\t1\nc\t1\nc\t2\nc\t3\n";
      output = "orderly\t1\t2\t3\n";
    }
    -- S7: its example 18.9
    ∷ record {
      program = verdict;
      input = "r\t2\t0\nr\t1\t1\nw\t2\t0\nr\t2\t1\nr\t3\t0\nw\t1\t1\nw\t3\t0\nw\t2\t1\nc\t1\nc\t2\nc\t3\n";
      output = "knot\t1\t2\n";
    }
    -- S8: document 001's history H1
    ∷ record { program = verdict; input = "r\t1\t0\nr\t2\t0\nw\t1\t0\nw\t2\t0\nc\t1\nc\t2\n"; output = "knot\t1\t2\n" }
    -- S9: increments of two jobs; then with a read put in after the second line
    ∷ record { program = verdict; input = "i\t1\t0\ni\t2\t0\ni\t1\t0\nc\t1\nc\t2\n"; output = "orderly\t1\t2\n" }
    ∷ record { program = verdict; input = "i\t1\t0\ni\t2\t0\nr\t2\t0\ni\t1\t0\nc\t1\nc\t2\n"; output = "knot\t1\t2\n" }
    -- the update lock: u 2, u 1, w 2, c 2, w 1, c 1; with r in place of u, w 2 goes back; if the older job asks first, u 2 goes back at once (02, No. 1)
    ∷ record {
      program = answers;
      input = scorers;
      output = "1\tgo\t1\n2\tgo\t2\n3\tgo\t2\n4\twait\t1\n5\tgo\t2\n6\tgo\t2\n6\twake\t1\n7\tgo\t1\n8\tgo\t1\n";
    }
    ∷ record { program = history; input = scorers; output = scorers_history }
    ∷ record { program = verdict; input = scorers_history; output = "orderly\t2\t1\n" }
    ∷ record {
      program = answers;
      input = "b\nb\nr\t2\t5\nr\t1\t5\nw\t2\t5\n";
      output = "1\tgo\t1\n2\tgo\t2\n3\tgo\t2\n4\tgo\t1\n5\tback\t2\n";
    }
    ∷ record { program = answers; input = "b\nb\nu\t1\t5\nu\t2\t5\n"; output = "1\tgo\t1\n2\tgo\t2\n3\tgo\t1\n4\tback\t2\n" }
    -- the shipped night up to its line 6: 3 has read cell 9, 2 waits to write it, and 1 waits behind 2 to read it; 3 is the youngest in the way of both (02, No. 3)
    ∷ record { program = chain; input = "b\nb\nb\nr\t3\t9\nw\t2\t9\nr\t1\t9\n"; output = "1\t3\n2\t3\n" }
    -- the timestamp desk: after i 1, i 2, a further i 1 sends 1 back; a tie goes; a job that comes too late is closed; ascending numbers; a dirty history (02, No. 6)
    ∷ record { program = stamp_answers; input = "b\nb\ni\t1\t5\ni\t2\t5\ni\t1\t5\n"; output = "1\tgo\t1\n2\tgo\t2\n3\tgo\t1\n4\tgo\t2\n5\tback\t1\n" }
    ∷ record {
      program = stamp_answers;
      input = pictures;
      output = "1\tgo\t1\n2\tgo\t2\n3\tgo\t1\n4\tgo\t2\n5\tgo\t2\n6\tgo\t2\n7\tback\t1\n8\tno\t3\n9\tno\t19\n10\tgo\t3\n11\tgo\t3\n12\tgo\t2\n13\tgo\t3\n";
    }
    ∷ record { program = stamp_history; input = pictures; output = pictures_history }
    ∷ record { program = verdict; input = pictures_history; output = "orderly\t2\t3\n" }
    ∷ record { program = stamp_history; input = taken_back; output = taken_back_history }
    ∷ record { program = verdict; input = taken_back_history; output = "dirty\t2\t1\n" }
    -- ours: three wakes in one step, on two cells, two of them from one queue
    ∷ record {
      program = answers;
      input = wakes;
      output = "1\tgo\t1\n2\tgo\t2\n3\tgo\t3\n4\tgo\t4\n5\tgo\t4\n6\tgo\t4\n7\twait\t3\n8\twait\t2\n9\twait\t1\n10\tgo\t4\n10\twake\t1\n10\twake\t3\n10\twake\t2\n";
    }
    ∷ record { program = history; input = wakes; output = "w\t4\t5\nw\t4\t3\nc\t4\nw\t1\t3\nr\t3\t5\nr\t2\t5\n" }
    -- ours: back, retry and give-up; refusal 8, a go by rule 1, and refusal 9
    ∷ record {
      program = answers;
      input = returns;
      output = "1\tgo\t1\n2\tgo\t2\n3\tgo\t1\n4\tback\t2\n5\tgo\t2\n6\tgo\t2\n7\twait\t1\n8\tgo\t2\n8\twake\t1\n9\tno\t8\n10\tgo\t1\n11\tno\t9\t1\n";
    }
    ∷ record { program = history; input = returns; output = "r\t1\t5\nk\t2\nr\t2\t5\na\t2\nw\t1\t5\nr\t1\t5\n" }
    -- ours: u beside a read, against another u, and as a wake; its history has r for u (02, No. 1)
    ∷ record {
      program = answers;
      input = updates;
      output = "1\tgo\t1\n2\tgo\t2\n3\tgo\t3\n4\tgo\t3\n5\tgo\t2\n6\twait\t1\n7\tback\t3\n8\tgo\t2\n9\tgo\t2\n10\tgo\t2\n10\twake\t1\n";
    }
    ∷ record { program = history; input = updates; output = "r\t3\t5\nr\t2\t5\nk\t3\nr\t2\t5\nw\t2\t5\nc\t2\nr\t1\t5\n" }
    -- bad lines, each with its field; the last lacks its newline after a letter that stands alone, then after one that does not, then after no letter (02, No. 5)
    ∷ record {
      program = answers;
      input = spoilt;
      output = "1\tno\t9\t1\n2\tno\t9\t1\n3\tno\t9\t1\n4\tno\t9\t2\n5\tno\t9\t2\n6\tno\t9\t2\n7\tno\t9\t3\n8\tno\t9\t3\n9\tno\t9\t3\n10\tno\t9\t3\n11\tno\t9\t4\n12\tno\t9\t4\n13\tno\t9\t4\n";
    }
    ∷ record { program = answers; input = "r"; output = "1\tno\t9\t2\n" }
    ∷ record { program = answers; input = "r\t1"; output = "1\tno\t9\t3\n" }
    ∷ record { program = answers; input = "x"; output = "1\tno\t9\t1\n" }
    ∷ record { program = verdict; input = "r\t1\t0\nr\t7x\t5\n"; output = "no\t2\t9\t2\n" }
    -- ours: what job 1 read before its k does not count; no line may follow an a; no history has t or u
    ∷ record { program = verdict; input = "r\t1\t0\nw\t2\t0\nk\t1\nr\t1\t0\nc\t1\nc\t2\n"; output = "orderly\t2\t1\n" }
    ∷ record { program = verdict; input = "r\t1\t0\na\t1\nc\t1\n"; output = "no\t3\t13\n" }
    ∷ record { program = verdict; input = "r\t1\t0\nt\t1\nc\t1\n"; output = "no\t2\t9\t1\n" }
    ∷ record { program = verdict; input = "r\t1\t0\nu\t1\t0\nc\t1\n"; output = "no\t2\t9\t1\n" }
    ∷ []
