-- What is promised of the update lock: what goes beside a held S, U or X; what U and X cover; what a mode becomes; that no job gets in beside a U; when its holder is sent back; how u is recorded; and that u is refused as a read is (02, No. 1).
use Rattle.std.specs.Prelude.{ℕ, ◌<◌, ◌≡◌, ◌≢◌, ◌↔◌, ◌⊎◌, true, false, List, [], ◌++◌, Some}
use Rattle.terms.specs.declared.letters.Ask.{Ask}
use Rattle.terms.specs.declared.letters.Ask.TheVariants.{Read as asks_read, Update}
use Rattle.terms.specs.declared.letters.Letter.TheVariants.{Asks}
use Rattle.terms.specs.declared.refusals.Refusal.{Refusal}
use Rattle.terms.specs.Letters.{letter_of}
use Rattle.conflict.specs.declared.action.Action.{Action}
use Rattle.conflict.specs.declared.action.Kind.TheVariants.{Read}
use Rattle.conflict.specs.declared.action.Event.TheVariants.{Does}
use Rattle.conflict.specs.declared.modes.Mode.{Mode}
use Rattle.conflict.specs.declared.modes.Mode.TheVariants.{S, X, I, U}
use Rattle.conflict.specs.Modes.{needed, covers, shuts_out, is_free, Becomes}
use Rattle.conflict.specs.Runs.{ended}
use Rattle.desks.specs.declared.Answer.TheVariants.{Go, Back, No}
use Rattle.desks.specs.Request.{Request}
use Rattle.laws.specs.Standing.{In}
use Rattle.desk_rules.specs.Desk.{waiting}
use Rattle.desk_rules.specs.Asked.{Asking, OtherHolder, Enters, held_there, own_mode, queue_there}
use Rattle.desks.specs.Course.{now, to, later, records}
use Rattle.desk_rules.specs.Course.{Course}

-- what a job holds on a cell now
abbrev pub holding : Course → ℕ → ℕ → Mode
holding k c j = ((now k).row c).held j

-- what it holds there after the step of a request
abbrev pub holding_after : Course → Request → ℕ → ℕ → Mode
holding_after k r c j = ((to k r).desk.row c).held j

-- in the step of a request job j gets cell c with what it asked for: the request goes, or the job is woken
pub data Gets (k : Course) (r : Request) (j c : ℕ) (a : Ask) : Type 0 where
  by_go : letter_of r.kind ≡ Some (Asks a) → r.job ≡ j → r.cell ≡ c → (to k r).said ≡ Go j → Gets k r j c a
  by_wake : (x : Action) → In x (to k r).wakes → x.job ≡ j → x.cell ≡ c → (now k).stat j ≡ waiting c a → Gets k r j c a

-- the request goes, and nothing changes (01, rule 1)
pub record GoesUnchanged (k : Course) (r : Request) : Type 0 where
  pub goes : (to k r).said ≡ Go r.job
  pub desk : (to k r).desk ≡ now k
  pub wakes : (to k r).wakes ≡ []

-- job j got its U on cell c in the step of the first request, and its run has not ended in the requests since
pub record HasU (k : Course) (got : Request) (rest : List Request) (j c : ℕ) : Type 0 where
  pub had_none : shuts_out (holding k c j) ≡ false
  pub got_it : holding_after k got c j ≡ U
  pub goes_on : ended j ((later k got).wrote [] rest) ≡ false

-- job i held S on cell c before the step of the first request, and at each moment since
pub record HeldSince (k : Course) (got : Request) (rest : List Request) (i c : ℕ) : Type 0 where
  pub before : holding k c i ≡ S
  pub since : (some more : List Request) → rest ≡ some ++ more → (((later k got).seen some).row c).held i ≡ S

pub record UpdateLock (k : Course) : Type 0 where
  -- beside a held S a U may be granted: a u of a job new to a cell that no job waits for goes exactly if every other holder has S
  pub u_beside_s : (r : Request) → Enters (now k) r Update → queue_there (now k) r ≡ [] → (to k r).said ≡ Go r.job ↔ ((i : ℕ) → OtherHolder (now k) r i → held_there (now k) r i ≡ S)
  -- beside a held U or X nothing may: a job that does not already have what it asks does not go there, whatever it asks
  pub nothing_beside_u_or_x : (r : Request) (a : Ask) → Asking (now k) r a → covers (own_mode (now k) r) (needed a) ≡ false → (i : ℕ) → OtherHolder (now k) r i → shuts_out (held_there (now k) r i) ≡ true → (to k r).said ≢ Go r.job
  -- I and U never go together
  pub never_i_and_u : (c i j : ℕ) → i ≢ j → holding k c i ≡ I → holding k c j ≢ U
  -- U covers reads and u, X covers all
  pub u_covers_reads : (r : Request) (a : Ask) → Asking (now k) r a → own_mode (now k) r ≡ U → (a ≡ asks_read) ⊎ (a ≡ Update) → GoesUnchanged k r
  pub x_covers_all : (r : Request) (a : Ask) → Asking (now k) r a → own_mode (now k) r ≡ X → GoesUnchanged k r
  -- S with u becomes U, U with write or increment X, I with u X, and so on, as `Becomes` lists them: for a go and for a wake
  pub becomes_so : (r : Request) (j c : ℕ) (a : Ask) (m : Mode) → Gets k r j c a → Becomes (holding k c j) a m → holding_after k r c j ≡ m
  -- while a job holds U or X on a cell, no other job gets a lock there: every other holder after a step held the cell before in the same mode, or that step ended the job's run
  pub nobody_gets_in : (r : Request) (c i j : ℕ) → i ≢ j → shuts_out (holding k c j) ≡ true → is_free (holding_after k r c i) ≡ false → (holding_after k r c i ≡ holding k c i) ⊎ (ended j (records k r) ≡ true)
  -- so its other holders only become fewer until its run ends
  pub only_fewer : (rs : List Request) (c i j : ℕ) → i ≢ j → shuts_out (holding k c j) ≡ true → ended j (k.wrote [] rs) ≡ false → is_free (((k.seen rs).row c).held i) ≡ false → ((k.seen rs).row c).held i ≡ holding k c i
  -- and of two jobs that read with intent to write, only one at a time holds U
  pub one_at_a_time : (c i j : ℕ) → i ≢ j → shuts_out (holding k c i) ≡ true → shuts_out (holding k c j) ≡ false
  -- a job that holds U and asks for more is sent back only if an older job has held S there since before it got its U
  pub back_only_behind_s : (got : Request) (rest : List Request) (r : Request) (j c : ℕ) → HasU k got rest j c → r.job ≡ j → r.cell ≡ c → ((later k got).does rest r).said ≡ Back j → (i : ℕ) × (i < j) × HeldSince k got rest i c
  -- u is recorded as a read: at once, by rule 1, and as a wake
  pub recorded_as_read : (r : Request) (j c : ℕ) → Gets k r j c Update → In (Does (record { kind = Read; job = j; cell = c })) (records k r)
  -- refusals apply to u as to r: of a u and an r with the same job and cell, one is refused exactly if the other is, with the same refusal
  pub refused_as_a_read : (r s : Request) → letter_of r.kind ≡ Some (Asks Update) → letter_of s.kind ≡ Some (Asks asks_read) → r.job ≡ s.job → r.cell ≡ s.cell → (why : Refusal) → (to k r).said ≡ No why ↔ (to k s).said ≡ No why
