-- The history record of an event, and the text of a history: its records, one after another (01, Lines: History records).
use Rattle.std.specs.Prelude.{ℕ, Bool, true, ◌&&◌, List, [], ◌∷◌, ◌++◌, leb, ltb}
use Rattle.terms.specs.declared.letters.Ask.{Ask}
use Rattle.terms.specs.declared.letters.Ask.TheVariants.{Read as asks_read, Write as asks_write, Increment as asks-increment}
use Rattle.terms.specs.declared.letters.Letter.{Letter}
use Rattle.terms.specs.declared.letters.Letter.TheVariants.{Commit, GiveUp, Back, Asks}
use Rattle.terms.specs.Limits.{cells}
use Rattle.conflict.specs.declared.action.Kind.{Kind}
use Rattle.conflict.specs.declared.action.Kind.TheVariants.{Read, Write, Increment}
use Rattle.conflict.specs.declared.action.Mark.{Mark}
use Rattle.conflict.specs.declared.action.Mark.TheVariants.{Commit as commits, GiveUp as gives_up, Back as goes_back}
use Rattle.conflict.specs.declared.action.Event.{Event}
use Rattle.conflict.specs.declared.action.Event.TheVariants.{Does, Ends}
use Rattle.conflict.specs.History.{History}
use Rattle.text_rules.specs.Records.{line_record}

-- r, w or i, by the kind of the action
unfoldable pub ask_by : Kind → Ask
ask_by Read = asks_read
ask_by Write = asks_write
ask_by Increment = asks-increment

-- c, a or k, by the mark that ends the run
unfoldable pub mark_letter : Mark → Letter
mark_letter commits = Commit
mark_letter gives_up = GiveUp
mark_letter goes_back = Back

-- the history record of an event: r, w, i with job and cell; c, a, k with a job
unfoldable pub event_line : Event → List ℕ
event_line (Does a) = line_record (Asks (ask_by a.kind)) a.job a.cell
event_line (Ends m j) = line_record (mark_letter m) j 0

-- the text of a history: the record of each event, one after another
unfoldable pub text_of : History → List ℕ
text_of [] = []
text_of (e ∷ h) = event_line e ++ text_of h

-- the job of an event is from 1 to the last one, and its cell is 0 to 63
unfoldable pub within : ℕ → Event → Bool
within last (Does a) = (leb 1 a.job && leb a.job last) && ltb a.cell cells
within last (Ends m j) = leb 1 j && leb j last

-- every event of a history is within those limits
unfoldable pub all_within : ℕ → History → Bool
all_within last [] = true
all_within last (e ∷ h) = within last e && all_within last h
