-- What a request is to do, decided over the arrays before anything changes: the refusals in their order, then rules 1 to 3 (01, The desk's rules; 01, Refusals by number).
use Rattle.std.specs.Prelude.{ℕ, ◌&&◌, List, Result, Ok, Err, eqb, ltb, get_or, Option, None, Some}
use Rattle.laws.specs.Choice.{pick}
use Rattle.laws.specs.Lists.{pos}
use Rattle.terms.specs.declared.letters.Letter.{Letter}
use Rattle.terms.specs.declared.letters.Ask.{Ask}
use Rattle.terms.specs.declared.letters.Letter.TheVariants.{Begin as begins, Commit, GiveUp, Retry as retries, Back as no-request, Asks}
use Rattle.terms.specs.declared.refusals.Refusal.{Refusal}
use Rattle.terms.specs.declared.refusals.Refusal.TheVariants.{UnknownKind, CellAbove, NotOpen, Waiting, SentBack as was_sent_back, Running}
use Rattle.terms.specs.Limits.{cells}
use Rattle.conflict.specs.Modes.{needed, covers, asked, is_free}
use Rattle.desks.specs.declared.finding.Opening.{Opening}
use Rattle.desks.specs.Opening.{opening_of}
use Rattle.desk_arrays.specs.declared.moves.Found.{Found}
use Rattle.desk_arrays.specs.declared.moves.Ending.TheVariants.{Closed, SentBack}
use Rattle.desk_arrays.specs.declared.moves.Move.{Move}
use Rattle.desk_arrays.specs.declared.moves.Move.TheVariants.{Begin, Keep, Take, Stay, End, Retry}
use Rattle.desk_arrays.specs.Codes.{free_code, waiting_code, sent_back_code}
use Rattle.desk_arrays.specs.Places.{mode_at, agrees_at, older_at, nobody_waits, oldest_of}

-- what a job is doing; free, for 0 and for a number at no place
unfoldable pub status_of : List ℕ → List ℕ → ℕ → ℕ
status_of number status job = pick (eqb job 0) free_code (get_or status (pos number job) free_code)

-- where a job stands, and what the job is doing
unfoldable pub found_at : List ℕ → List ℕ → ℕ → Found
found_at number status job = record { place = pos number job; code = status_of number status job }

-- whether the job runs: refusals 3, 4 and 5, by what it is doing (01, Refusals by number)
unfoldable pub standing_of : ℕ → Result (Unit {0}) Refusal
standing_of code =
    pick (eqb code free_code) (Err NotOpen)
    (pick (eqb code waiting_code) (Err Waiting) (pick (eqb code sent_back_code) (Err was_sent_back) (Ok tt)))

-- the move of a request that only a running job may make, or why it is refused
unfoldable pub if_runs : Result (Unit {0}) Refusal → Result Move Refusal → Result Move Refusal
if_runs (Err why) goes = Err why
if_runs (Ok u) goes = goes

-- begin, given where the new job is opened (01, Refusals by number)
unfoldable pub opened : Result Opening Refusal → Result Move Refusal
opened (Ok o) = Ok (Begin o.place o.number)
opened (Err why) = Err why

-- begin: refusal 7, then 6, else the next number at the first free place (01, Refusals by number)
unfoldable pub begin_move : ℕ → List ℕ → Result Move Refusal
begin_move next number = opened (opening_of next number)

-- commit: refusals 3, 4, 5, else the run ends
unfoldable pub commit_move : Found → Result Move Refusal
commit_move f = if_runs (standing_of f.code) (Ok (End f.place Closed))

-- give-up: refusal 3, else the run ends
unfoldable pub give_up_move : Found → Result Move Refusal
give_up_move f = pick (eqb f.code free_code) (Err NotOpen) (Ok (End f.place Closed))

-- retry: refusals 3, 4, 8, else the job runs again (01, rule 5)
unfoldable pub retry_move : Found → Result Move Refusal
retry_move f =
    pick (eqb f.code free_code) (Err NotOpen)
    (pick (eqb f.code waiting_code) (Err Waiting) (pick (eqb f.code sent_back_code) (Ok Retry) (Err Running)))

-- rule 2, for a job that holds another mode: go if the new mode agrees with the other holders; wait if older than each of them; else back (01, rule 2; 02, No. 1)
unfoldable pub promotes : List ℕ → List ℕ → ℕ → ℕ → ℕ → Ask → Move
promotes number held p c job a =
    let m = asked (mode_at held c p) (needed a) in
    pick (agrees_at held c p m) (Take p m)
    (pick (older_at held number c p job) (Stay p a) (End p SentBack))

module _ (number status cell held : List ℕ) where
  -- rule 3, for a job new to the cell: go if the queue is empty and the mode agrees; wait if older than every holder and waiter; else back (01, rule 3)
  unfoldable pub enters : ℕ → ℕ → ℕ → Ask → Move
  enters p c job a =
      pick (nobody_waits status cell c && agrees_at held c p (needed a)) (Take p (needed a))
      (pick (older_at held number c p job && oldest_of number status cell c job) (Stay p a) (End p SentBack))

  -- a request for a cell: rule 1 if a covering mode is held, else rule 3 or rule 2 (01, rules 1 to 3)
  unfoldable pub decided : ℕ → ℕ → ℕ → Ask → Move
  decided p c job a =
      pick (covers (mode_at held c p) (needed a)) Keep
      (pick (is_free (mode_at held c p)) (enters p c job a) (promotes number held p c job a))

  -- read, write, increment and u: refusals 3, 4, 5, 2, else what rules 1 to 3 decide
  unfoldable pub ask_move : ℕ → ℕ → Ask → Result Move Refusal
  ask_move job c a =
      let f = found_at number status job in
      if_runs (standing_of f.code) (pick (ltb c cells) (Ok (decided f.place c job a)) (Err CellAbove))

-- the move of a request, by its letter; refusal 1 if no request has the letter
unfoldable pub move_for : ℕ → List ℕ → List ℕ → List ℕ → List ℕ → ℕ → ℕ → Option Letter → Result Move Refusal
move_for next number status cell held job c None = Err UnknownKind
move_for next number status cell held job c (Some no-request) = Err UnknownKind
move_for next number status cell held job c (Some begins) = begin_move next number
move_for next number status cell held job c (Some Commit) = commit_move (found_at number status job)
move_for next number status cell held job c (Some GiveUp) = give_up_move (found_at number status job)
move_for next number status cell held job c (Some retries) = retry_move (found_at number status job)
move_for next number status cell held job c (Some (Asks a)) = ask_move number status cell held job c a
