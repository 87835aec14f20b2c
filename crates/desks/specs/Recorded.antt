-- What is promised of the history records of a step, on any desk, by its request and its answer (01, Lines; 01, Slips to rule out, 5).
use Rattle.std.specs.Prelude.{ℕ, ◌≡◌, Bool, true, false, [], ◌∷◌, Some}
use Rattle.terms.specs.declared.letters.Ask.{Ask}
use Rattle.terms.specs.declared.letters.Letter.TheVariants.{Begin, Commit as commit, GiveUp as give-up, Retry, Asks}
use Rattle.terms.specs.Letters.{letter_of}
use Rattle.conflict.specs.declared.action.Mark.{Mark}
use Rattle.conflict.specs.declared.action.Mark.TheVariants.{Commit, GiveUp, Back}
use Rattle.conflict.specs.declared.action.Event.TheVariants.{Does, Ends}
use Rattle.conflict.specs.Modes.{recorded}
use Rattle.conflict.specs.History.{History}
use Rattle.desks.specs.declared.Answer.TheVariants.{Go, Wait, Back as sent_back}
use Rattle.desks.specs.Request.{Request}
use Rattle.desks.specs.Records.{wake_records}
use Rattle.desks.specs.Course.{Course, to, records}

-- the history has only actions, and no mark
unfoldable pub only_actions : History → Bool
only_actions [] = true
only_actions (Does a ∷ h) = only_actions h
only_actions (Ends m j ∷ h) = false

-- a history without a mark, or with one mark that comes first
pub data MarkFirst : History → Type 0 where
  no_mark : {h : History} → only_actions h ≡ true → MarkFirst h
  mark : (m : Mark) (j : ℕ) {h : History} → only_actions h ≡ true → MarkFirst (Ends m j ∷ h)

pub record Recorded {D : Type 0} (k : Course D) (r : Request) : Type 0 where
  -- c, a and k stand before the wakes of their step, and no other step writes a mark
  pub mark_first : MarkFirst (records k r)
  -- a commit, a give-up and a sending back write their mark, and then the wakes
  pub commit_records : (j : ℕ) → letter_of r.kind ≡ Some commit → (to k r).said ≡ Go j → records k r ≡ Ends Commit j ∷ wake_records (to k r).wakes
  pub give_up_records : (j : ℕ) → letter_of r.kind ≡ Some give-up → (to k r).said ≡ Go j → records k r ≡ Ends GiveUp j ∷ wake_records (to k r).wakes
  pub back_records : (j : ℕ) → (to k r).said ≡ sent_back j → records k r ≡ Ends Back j ∷ wake_records (to k r).wakes
  -- a read, a write, an increment or a u that goes writes its action; begin, retry and a wait write nothing
  pub ask_records : (a : Ask) (j : ℕ) → letter_of r.kind ≡ Some (Asks a) → (to k r).said ≡ Go j → records k r ≡ Does (record { kind = recorded a; job = j; cell = r.cell }) ∷ []
  pub begin_records : (j : ℕ) → letter_of r.kind ≡ Some Begin → (to k r).said ≡ Go j → records k r ≡ []
  pub retry_records : (j : ℕ) → letter_of r.kind ≡ Some Retry → (to k r).said ≡ Go j → records k r ≡ []
  pub wait_records : (j : ℕ) → (to k r).said ≡ Wait j → records k r ≡ []
