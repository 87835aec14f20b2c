-- What the front of the desk programs does with the bytes it reads, and what it writes once it reads no more (01, What is delivered; 01, Lines; 02, Nos. 3 and 6).
use Rattle.std.specs.Prelude.{ℕ, ◌≤◌, ◌<◌, ◌≡◌, true, List, [], ◌++◌, length, take, Result, IsOk, IfErr}
use Rattle.text_rules.specs.declared.splitter.Splitter.{Splitter}
use Rattle.program_rules.specs.declared.Method.{Method}
use Rattle.program_rules.specs.declared.View.{View}
use Rattle.program_rules.specs.declared.View.TheVariants.{Answers, History, Chains}
use Rattle.program_rules.specs.Programs.{program_of}
use Rattle.program_rules.specs.Work.{started_clerk, all_read}
use Rattle.program_rules.specs.Tellings.{clerk_after, records_in}
use Rattle.text_rules.specs.Split.{part}
use Rattle.desk_io.specs.declared.Program.{Program}
use Rattle.desk_io.specs.declared.Front.{Front}
use Rattle.desk_io.specs.declared.Called.{Called}
use Rattle.desk_io.specs.declared.Halted.{Halted}
use Rattle.desk_io.specs.declared.Halt.{Halt}
use Rattle.desk_io.specs.declared.Halt.TheVariants.{Ended, NotRead, AllRead, NotTaken}

-- the program of a method and a view (01, What is delivered; 02, Nos. 3 and 6)
abbrev pub program_by : Method → View → Program
program_by m view = record { method = m; view = view }

-- the front of a program that has read nothing (01, Lines)
abbrev pub started_front : Method → View → Front
started_front m view = record { view = view; clerk = started_clerk m }

-- the front after some bytes: it writes the same view, and its clerk has seen them (01, Lines)
abbrev pub front_after : Front → List ℕ → Front
front_after f bytes = record { view = f.view; clerk = clerk_after f.clerk bytes }

-- the records, in the front's view, of the lines that end in some bytes (01, Lines)
abbrev pub records_by : Front → List ℕ → List ℕ
records_by f bytes = records_in f.view f.clerk bytes

-- one call of the clerk's work from a place of a chunk: it has seen at least one byte, and the buffer holds, to be written out, the records of the lines that end in what it has seen
pub record Turned (f : Front) (chunk : List ℕ) (from : ℕ) (c : Called) (out : List ℕ) : Type 0 where
  pub ahead : from < c.next
  pub within : c.at ≤ length out
  pub front : c.front ≡ front_after f (part chunk from c.next)
  pub records : take c.at out ≡ records_by f (part chunk from c.next)

-- what is to be written out after a call of the work: whatever the front and the chunk of the call, these bytes are the records of the lines that end in what it has seen (01, Lines). No contract can say that they go to standard output: the call of `write_all` is left to the comparison of programs
abbrev pub HandsOn : Called → List ℕ → List ℕ → Type 0
HandsOn c out bytes = (f : Front) (chunk : List ℕ) (from : ℕ) → Turned f chunk from c out → bytes ≡ records_by f (part chunk from c.next)

-- a chunk: the front has then seen this many of its bytes, and all of them if all output was taken; else no more is read for that reason
pub record Serves (f : Front) (chunk : List ℕ) (g : Front) (r : Result (Unit {0}) Halt) : Type 0 where
  pub seen : ℕ
  pub some : g ≡ front_after f (take seen chunk)
  pub all : IsOk r → g ≡ front_after f chunk
  pub why : IfErr r (λ h. h ≡ NotTaken)

-- reading stops before a text's end only if every line to be read has been read, or a read or a write failed
abbrev pub Over : Halt → Splitter → Type 0
Over Ended s = Unit {0}
Over NotRead s = Unit {0}
Over AllRead s = all_read s ≡ true
Over NotTaken s = Unit {0}

-- for some text that was read, the front is the first one after it has seen that text, byte by byte
pub record Saw (first f : Front) : Type 0 where
  pub text : List ℕ
  pub front : f ≡ front_after first text

-- the input: the front, started with the method and the view, has seen what was read, and reading stopped for a reason
abbrev pub Halts : Method → View → Halted → Type 0
Halts m view h = (Saw (started_front m view) h.front) × (Over h.why h.front.clerk.splitter)

-- after the records of the lines that have ended, these bytes complete what the program of the method and the view writes for the text
abbrev pub MakesAll : Method → View → List ℕ → List ℕ → Type 0
MakesAll m view text rest = records_in view (started_clerk m) text ++ rest ≡ program_of m view text

-- after a read that failed, answers and history end as at the end of the input; chains are not told, since half a text has none
abbrev pub MakesUnread : Method → View → List ℕ → List ℕ → Type 0
MakesUnread m Answers text rest = MakesAll m Answers text rest
MakesUnread m History text rest = MakesAll m History text rest
MakesUnread m Chains text rest = rest ≡ []

-- what these bytes must complete, by why no more is read: after line 1,000,000 all that the program writes for the text with anything that would follow; after a write that failed nothing
abbrev pub Makes : Method → View → Halt → List ℕ → List ℕ → Type 0
Makes m view Ended text rest = MakesAll m view text rest
Makes m view NotRead text rest = MakesUnread m view text rest
Makes m view AllRead text rest = (more : List ℕ) → records_in view (started_clerk m) text ++ rest ≡ program_of m view (text ++ more)
Makes m view NotTaken text rest = rest ≡ []

-- what is to be written last: for every method and view that the front was started with and every text that it has seen, these bytes complete that output (01, What is delivered; 02, Nos. 3 and 6). The call of `write_all` that gets them is left to the comparison of programs
abbrev pub HandsOnLast : Halted → List ℕ → Type 0
HandsOnLast h bytes = (m : Method) (view : View) (text : List ℕ) → h.front ≡ front_after (started_front m view) text → Makes m view h.why text bytes

-- once no more is read: the bytes of the buffer before a place are what is to be written last
pub record Rests (h : Halted) (at : ℕ) (out : List ℕ) : Type 0 where
  pub within : at ≤ length out
  pub rest : HandsOnLast h (take at out)
