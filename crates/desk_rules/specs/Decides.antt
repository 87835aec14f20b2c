-- What is promised of rules 2 and 3, over all jobs: when an asking job goes, waits or is sent back (01, rules 2 and 3).
use Rattle.std.specs.Prelude.{ℕ, ◌<◌, ◌≡◌, true, false, [], ◌∷◌, ◌++◌}
use Rattle.terms.specs.declared.letters.Ask.{Ask}
use Rattle.conflict.specs.Modes.{needed, covers, grants}
use Rattle.desks.specs.declared.Answer.TheVariants.{Go, Wait, Back}
use Rattle.desks.specs.Request.{Request}
use Rattle.laws.specs.Standing.{In}
use Rattle.desk_rules.specs.Desk.{Waiter}
use Rattle.desk_rules.specs.Asked.{Asking, OtherHolder, Opposed, Promotes, Enters, Hindered, asker, held_there, own_mode, asked_there, queue_there}
use Rattle.desks.specs.Course.{now, to}
use Rattle.desk_rules.specs.Course.{Course}

pub record Decides (k : Course) (r : Request) (a : Ask) : Type 0 where
  -- a job that holds a covering mode: go. Nothing changes (01, rule 1)
  pub has_it : Asking (now k) r a → covers (own_mode (now k) r) (needed a) ≡ true → ((to k r).said ≡ Go r.job) × ((to k r).desk ≡ now k) × ((to k r).wakes ≡ [])
  -- a promotion whose new mode agrees with the other holders: go; otherwise, older than every other holder: wait, in front; otherwise, with an older holder: back (01, rule 2; 02, No. 1)
  pub promotion_goes : Promotes (now k) r a → ((i : ℕ) → OtherHolder (now k) r i → grants (held_there (now k) r i) (asked_there (now k) r a) ≡ true) → (to k r).said ≡ Go r.job
  pub promotion_waits : Promotes (now k) r a → (i : ℕ) → Opposed (now k) r (asked_there (now k) r a) i → ((i : ℕ) → OtherHolder (now k) r i → r.job < i) → (to k r).said ≡ Wait r.job
  pub promotion_in_front : Promotes (now k) r a → (i : ℕ) → Opposed (now k) r (asked_there (now k) r a) i → ((i : ℕ) → OtherHolder (now k) r i → r.job < i) → (to k r).desk.row r.cell ≡ record { held = held_there (now k) r; queue = asker r a ∷ queue_there (now k) r }
  pub promotion_back : Promotes (now k) r a → (i : ℕ) → Opposed (now k) r (asked_there (now k) r a) i → (o : ℕ) → OtherHolder (now k) r o → o < r.job → (to k r).said ≡ Back r.job
  -- and a job that goes with a mode it did not have agrees with the other holders (01, rules 2 and 3)
  pub goes_agreeing : Asking (now k) r a → covers (own_mode (now k) r) (needed a) ≡ false → (to k r).said ≡ Go r.job → (i : ℕ) → OtherHolder (now k) r i → grants (held_there (now k) r i) (asked_there (now k) r a) ≡ true
  -- a job new to the cell, if no job waits and every holder agrees: go; otherwise, older than every holder and every waiter: wait, at the end; otherwise, with an older holder or an older waiter: back (01, rule 3)
  pub entry_goes : Enters (now k) r a → queue_there (now k) r ≡ [] → ((i : ℕ) → OtherHolder (now k) r i → grants (held_there (now k) r i) (needed a) ≡ true) → (to k r).said ≡ Go r.job
  pub entry_waits : Enters (now k) r a → Hindered (now k) r a → ((i : ℕ) → OtherHolder (now k) r i → r.job < i) → ((w : Waiter) → In w (queue_there (now k) r) → r.job < w.job) → (to k r).said ≡ Wait r.job
  pub entry_at_end : Enters (now k) r a → Hindered (now k) r a → ((i : ℕ) → OtherHolder (now k) r i → r.job < i) → ((w : Waiter) → In w (queue_there (now k) r) → r.job < w.job) → (to k r).desk.row r.cell ≡ record { held = held_there (now k) r; queue = queue_there (now k) r ++ asker r a ∷ [] }
  pub entry_back : Enters (now k) r a → Hindered (now k) r a → (i : ℕ) → OtherHolder (now k) r i → i < r.job → (to k r).said ≡ Back r.job
  pub entry_back_waiter : Enters (now k) r a → (w : Waiter) → In w (queue_there (now k) r) → w.job < r.job → (to k r).said ≡ Back r.job
