-- The rules as a relation: one move for each rule, with what the rule tests and what it leaves written out (01, The desk's rules; 01, Refusals by number).
use Rattle.std.specs.Prelude.{ℕ, suc, ◌≤◌, ◌≡◌, Bool, true, false, ◌&&◌, List, [], ◌∷◌, ◌++◌, Some}
use Rattle.laws.specs.Lists.{member}
use Rattle.terms.specs.declared.letters.Ask.{Ask}
use Rattle.terms.specs.declared.letters.Letter.TheVariants.{Begin, Commit, GiveUp, Retry}
use Rattle.terms.specs.declared.refusals.Refusal.{Refusal}
use Rattle.terms.specs.Letters.{letter_of}
use Rattle.terms.specs.Limits.{last_number}
use Rattle.conflict.specs.declared.modes.Mode.{Mode}
use Rattle.conflict.specs.Modes.{needed, covers, is_free}
use Rattle.desks.specs.declared.Answer.TheVariants.{Go, Wait, Back}
use Rattle.desks.specs.Request.{Request}
use Rattle.laws.specs.Functions.{at}
use Rattle.desks.specs.Places.{seated, vacated}
use Rattle.desk_rules.specs.Desk.{closed, running, waiting, sentback, is_open, Waiter, Desk}
use Rattle.desk_rules.specs.Locks.{agrees, older_than_holders, older_than_waiters, is_empty}
use Rattle.desks.specs.Begin.{refused}
use Rattle.desk_rules.specs.Rules.{Outcome, with_row, with_status, rule4}
use Rattle.desk_rules.specs.Table.{Due}
use Rattle.desk_rules.specs.Asked.{Asking, asker, held_there, own_mode, asked_there, queue_there}

-- go: the desk is this one, and no job is woken
abbrev pub goes : Desk → ℕ → Outcome
goes e j = record { desk = e; said = Go j; wakes = [] }

-- the job gets the mode, and every queue stays
abbrev pub taking : Desk → ℕ → ℕ → Mode → Outcome
taking d j c m = goes (with_row d c (record { held = at (d.row c).held j m; queue = (d.row c).queue })) j

-- the job waits in this queue, and every job holds what it held
abbrev pub standing : Desk → ℕ → ℕ → Ask → List Waiter → Outcome
standing d j c a q =
    record {
      desk = with_status (with_row d c (record { held = (d.row c).held; queue = q })) j (waiting c a);
      said = Wait j;
      wakes = [];
    }

-- the job is older than every other holder of that cell
abbrev pub eldest : Desk → Request → Bool
eldest d r = older_than_holders d.jobs (held_there d r) r.job

-- the mode agrees with every other holder of that cell
abbrev pub fits_in : Desk → Request → Mode → Bool
fits_in d r m = agrees d.jobs (held_there d r) r.job m

-- neither go nor wait: the rest of rules 2 and 3, where they say "otherwise"
pub data Otherwise (d : Desk) (r : Request) (a : Ask) : Type 0 where
  -- rule 2: a promotion whose new mode disagrees with another holder, and the job is not older than every other holder
  no_promotion : covers (own_mode d r) (needed a) ≡ false → is_free (own_mode d r) ≡ false → fits_in d r (asked_there d r a) ≡ false → eldest d r ≡ false → Otherwise d r a
  -- rule 3: a newcomer, the queue is not empty or its mode disagrees with a holder, and it is not older than every holder and every waiter
  no_entry : is_free (own_mode d r) ≡ true → (is_empty (queue_there d r) && fits_in d r (needed a)) ≡ false →
      (eldest d r && older_than_waiters (queue_there d r) r.job) ≡ false → Otherwise d r a

-- the moves, with what each leaves and tells written out. What rule 4 does is left to its own definition, and the promises of wakes say what that is
pub data Moved (d : Desk) (r : Request) : Outcome → Type 0 where
  -- a refusal that the table says is due
  refuses : (why : Refusal) → Due d r why → Moved d r (refused d why)
  -- begin gives the next number to a running job that holds nothing
  begins : letter_of r.kind ≡ Some Begin → d.next ≤ last_number → member 0 d.jobs ≡ true →
      Moved d r (goes (record { next = suc d.next; jobs = seated d.next d.jobs; stat = at d.stat d.next running; row = d.row }) d.next)
  -- rule 4: commit and give-up close the job
  commits : letter_of r.kind ≡ Some Commit → d.stat r.job ≡ running →
      Moved d r (rule4 d r.job closed (vacated r.job d.jobs) (Go r.job))
  gives_up : letter_of r.kind ≡ Some GiveUp → is_open (d.stat r.job) ≡ true →
      Moved d r (rule4 d r.job closed (vacated r.job d.jobs) (Go r.job))
  -- rule 5: retry makes a sent back job running again
  retries : letter_of r.kind ≡ Some Retry → d.stat r.job ≡ sentback → Moved d r (goes (with_status d r.job running) r.job)
  -- rule 1: the job holds a covering mode, and nothing changes
  has_it : (a : Ask) → Asking d r a → covers (own_mode d r) (needed a) ≡ true → Moved d r (goes d r.job)
  -- rule 2: a promotion goes if its new mode agrees with the other holders
  promotes : (a : Ask) → Asking d r a → covers (own_mode d r) (needed a) ≡ false → is_free (own_mode d r) ≡ false → fits_in d r (asked_there d r a) ≡ true →
      Moved d r (taking d r.job r.cell (asked_there d r a))
  -- rule 2: older than every other holder it waits at the front
  waits_in_front : (a : Ask) → Asking d r a → covers (own_mode d r) (needed a) ≡ false → is_free (own_mode d r) ≡ false → fits_in d r (asked_there d r a) ≡ false → eldest d r ≡ true →
      Moved d r (standing d r.job r.cell a (asker r a ∷ queue_there d r))
  -- rule 3: a newcomer goes if the queue is empty and its mode agrees with every holder
  enters : (a : Ask) → Asking d r a → is_free (own_mode d r) ≡ true → is_empty (queue_there d r) ≡ true → fits_in d r (needed a) ≡ true →
      Moved d r (taking d r.job r.cell (needed a))
  -- rule 3: older than every holder and every waiter it waits at the end
  waits_last : (a : Ask) → Asking d r a → is_free (own_mode d r) ≡ true → (is_empty (queue_there d r) && fits_in d r (needed a)) ≡ false →
      eldest d r ≡ true → older_than_waiters (queue_there d r) r.job ≡ true →
      Moved d r (standing d r.job r.cell a (queue_there d r ++ asker r a ∷ []))
  -- rules 2 and 3, otherwise: sent back by rule 4
  goes_back : (a : Ask) → Asking d r a → Otherwise d r a → Moved d r (rule4 d r.job sentback d.jobs (Back r.job))
