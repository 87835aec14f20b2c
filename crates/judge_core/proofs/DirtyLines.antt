-- The dirty reads of a history kept in arrays, by the places of their two lines and the ends of these lines' runs (02, No. 2).
-- Assumes nothing.
use Prim.Native.Nat.{ℕ, suc, ◌+◌, ◌-◌, ◌<◌}
use mathlib.Core.Path.{◌≡◌, refl, sym, ap, ◌∙◌}
use mathlib.Core.Bool.{Bool, true, false}
use mathlib.Core.List.{List, ◌∷◌, ◌++◌, append_assoc}
use native.Mathlib.Omega.{arith}
use lib.Dec.{eqb, ltb}
use lib.ListN.{length, get_or}
use borrow.Author.Tests.{eqb-true, eqb-false, eq-eqb, ne_eqb, ltb-true, ltb-false}
use Rattle.laws.specs.Choice.{by_test}
use Rattle.laws.proofs.Parts.{or_either}
use Rattle.conflict.specs.declared.action.Kind.{Kind}
use Rattle.conflict.specs.declared.action.Kind.TheVariants.{Read, Write, Increment}
use Rattle.conflict.specs.declared.action.Action.{Action}
use Rattle.conflict.specs.declared.action.Event.TheVariants.{Does}
use Rattle.conflict.specs.History.{History, commits}
use Rattle.conflict.specs.Runs.{ended}
use Rattle.conflict.specs.Dirty.{changes, DirtyRead}
use Rattle.conflict.proofs.DirtyReads.{read_keeps, keeps_read, read_within, write_ahead, parts}
use Rattle.judge_rules.specs.Arrays.{event_by, history_by}
use Rattle.judge_core.specs.Meeting.{kind_by, action_by}
use Rattle.judge_core.specs.Kept.{event_at}
use Rattle.judge_core.specs.RunEnds.{run_end, end_at, changing}
use Rattle.judge_core.proofs.Codes.{act_event, end_event}
use Rattle.judge_core.proofs.Events.{events_from, history_events, events_length, events_parted}
use Rattle.judge_core.proofs.Ending.{run_commits, run_low, run_past, run_there, run_action}

-- a line that says an action has a number below 3, and is the action that it stands for
does_code : (c job cell : ℕ) (a : Action) → Does a ≡ event_by c job cell → (c < 3) × (a ≡ action_by c job cell)
does_code c job cell a e =
    by_test (ltb c 3)
    (λ t. let g = e ∙ act_event c job cell (ltb-true c 3 t) in (ltb-true c 3 t, cc))
    (λ f. let g = e ∙ end_event c job cell (ltb-false c 3 f) in absurd (let z : ◌≡◌ {A = ℕ} 0 1 = cc in omega arith))

-- what is no read changes its cell
changes_other : (k : Kind) → (k ≡ Read → ⊥) → changes k ≡ true
changes_other k n = by_test (changes k) (λ t. t) (λ f. absurd (n (keeps_read k f)))

-- of the numbers below 3, 0 alone is a read
read_code : (c : ℕ) → kind_by c ≡ Read → c ≡ 0
unfolding kind_by
read_code c e =
    by_test (eqb c 0) (λ t. eqb-true c 0 t)
    (λ f. by_test (eqb c 1)
    (λ t. let g : Write ≡ Read = rw (f, t) at e in absurd (let z : ◌≡◌ {A = ℕ} 0 1 = cc in omega arith))
    (λ t. let g : Increment ≡ Read = rw (f, t) at e in absurd (let z : ◌≡◌ {A = ℕ} 0 1 = cc in omega arith)))

code_read : (c : ℕ) → c ≡ 0 → kind_by c ≡ Read
unfolding kind_by
code_read c e = rw e

-- and the others write or increment
change_code : (c : ℕ) → c < 3 → changes (kind_by c) ≡ true → changing c ≡ true
unfolding changing
change_code c l e = by_test (eqb c 0)
    (λ t. let g = read_keeps (kind_by c) (code_read c (eqb-true c 0 t)) in absurd (let z : ◌≡◌ {A = Bool} true false = sym e ∙ g in let y : ◌≡◌ {A = ℕ} 0 1 = cc in omega arith))
    (λ f. by_test (eqb c 1) (λ t. rw t) (λ g. rw (g, eq-eqb c 2 (omega (arith, eqb-false c 0 f, eqb-false c 1 g)))))

code_change : (c : ℕ) → changing c ≡ true → (c < 3) × (changes (kind_by c) ≡ true)
unfolding changing
code_change c e =
    let low : (c < 3) × (c ≡ 0 → ⊥) = or_either (eqb c 1) (eqb c 2) e
    (λ t. let q = eqb-true c 1 t in (omega arith, λ z. omega arith))
    (λ t. let q = eqb-true c 2 t in (omega arith, λ z. omega arith)) in
    (low.0, changes_other (kind_by c) (λ r. low.1 (read_code c r)))

-- line q makes the read on line p dirty, by what stands on the lines and where their runs end
pub record Placed (codes jobs cells : List ℕ) (n p q : ℕ) : Type 0 where
  pub later : q < p
  pub within : p < n
  pub reads : get_or codes p 0 ≡ 0
  pub changes : changing (get_or codes q 0) ≡ true
  pub one_cell : get_or cells q 0 ≡ get_or cells p 0
  pub commits : end_at codes jobs n p ≡ 0
  pub still : p < end_at codes jobs n q

module _ (codes jobs cells : List ℕ) (n p q : ℕ) (l : q < p) (w : p < n) where
  -- the lines between the two, and those behind
  between : History
  between = events_from codes jobs cells (suc q) (p - suc q)

  after : History
  after = events_from codes jobs cells (suc p) (n - suc p)

  between_length : p ≡ q + 1 + length between
  unfolding between
  between_length = omega (arith, events_length codes jobs cells (suc q) (p - suc q))

  -- the lines behind the first
  rest : events_from codes jobs cells (suc q) (n - suc q) ≡ between ++ event_at codes jobs cells p ∷ after
  unfolding between after
  rest = events_parted codes jobs cells (suc q) (n - suc q) (p - suc q) p (n - suc p) (omega arith) (omega arith)

  -- all lines
  whole : history_by codes jobs cells n ≡ events_from codes jobs cells 0 q ++ event_at codes jobs cells q ∷ (between ++ event_at codes jobs cells p ∷ after)
  whole =
      history_events codes jobs cells n
      ∙ events_parted codes jobs cells 0 n q q (n - suc q) (omega arith) (omega arith)
      ∙ ap (λ h. events_from codes jobs cells 0 q ++ event_at codes jobs cells q ∷ h) rest

  module _ (j : ℕ) (act : get_or codes p 0 < 3) where
    -- a run that has not ended between the two, the second being an action, ends as seen from behind it
    past_line : ended j between ≡ false → run_end codes jobs j (suc q) (n - suc q) ≡ run_end codes jobs j (suc p) (n - suc p)
    unfolding between
    past_line f =
        let here' : suc q + (p - suc q) ≡ p = omega arith in
        let more' : n - p ≡ suc (n - suc p) = omega arith in
        run_past codes jobs cells j (suc q) (p - suc q) (n - suc q) (n - p) (omega arith) f
        ∙ rw (here', more') (run_action codes jobs cells j p act (n - suc p))

    -- a run that does not commit, and has not ended between the two, ends behind the second
    runs_on : commits j (between ++ event_at codes jobs cells p ∷ after) ≡ false → ended j between ≡ false → p < run_end codes jobs j (suc q) (n - suc q)
    runs_on c f =
        let z = sym (run_commits codes jobs cells j (suc q) (n - suc q) (omega arith)) ∙ ap (commits j) rest ∙ c in
        let e = past_line f in
        let s = run_low codes jobs cells j (suc p) (n - suc p) (λ y. eqb-false (run_end codes jobs j (suc q) (n - suc q)) 0 z (e ∙ y)) in
        omega arith

    -- and the other way round
    on_runs : p < run_end codes jobs j (suc q) (n - suc q) → (commits j (between ++ event_at codes jobs cells p ∷ after) ≡ false) × (ended j between ≡ false)
    unfolding between
    on_runs s = (
      ap (commits j) (sym rest) ∙ run_commits codes jobs cells j (suc q) (n - suc q) (omega arith) ∙ ne_eqb (run_end codes jobs j (suc q) (n - suc q)) 0 (λ e. omega arith),
      by_test (ended j between) (λ t. absurd (omega (arith, run_there codes jobs cells j (suc q) (p - suc q) (n - suc q) (n - p) (omega arith) t))) (λ f. f),
    )

module _ (codes jobs cells : List ℕ) (n p q : ℕ) where
  -- a dirty read is one by the lines, and its jobs are theirs
  pub dirty_placed : (i j : ℕ) → DirtyRead (history_by codes jobs cells n) p q i j → Placed codes jobs cells n p q × (i ≡ get_or jobs p 0) × (j ≡ get_or jobs q 0)
  unfolding event_at action_by end_at after
  dirty_placed i j d =
      let l : q < p = write_ahead d in
      let w : p < n = omega (arith, read_within d, ap length (history_events codes jobs cells n), events_length codes jobs cells 0 n) in
      let t = parts d (events_from codes jobs cells 0 q) (event_at codes jobs cells q) (between codes jobs cells n p q l w) (event_at codes jobs cells p) (after codes jobs cells n p q l w) (whole codes jobs cells n p q l w) (events_length codes jobs cells 0 q) (between_length codes jobs cells n p q l w) in
      let write = does_code (get_or codes q 0) (get_or jobs q 0) (get_or cells q 0) d.write t.0 in
      let read = does_code (get_or codes p 0) (get_or jobs p 0) (get_or cells p 0) d.read t.2 in
      let i' : i ≡ get_or jobs p 0 = sym d.reads_by ∙ ap (λ (a : Action). a.job) read.1 in
      let j' : j ≡ get_or jobs q 0 = sym d.writes_by ∙ ap (λ (a : Action). a.job) write.1 in
      let b : d.between ≡ between codes jobs cells n p q l w = t.1 in
      let f : d.after ≡ after codes jobs cells n p q l w = t.3 in
      let e : Does d.read ≡ event_at codes jobs cells p = t.2 in (
        record {
          later = l;
          within = w;
          reads = read_code (get_or codes p 0) (ap (λ (a : Action). a.kind) (sym read.1) ∙ d.reads);
          changes = change_code (get_or codes q 0) write.0 (ap (λ (a : Action). changes a.kind) (sym write.1) ∙ d.writes);
          one_cell = ap (λ (a : Action). a.cell) (sym write.1) ∙ sym d.one_cell ∙ ap (λ (a : Action). a.cell) read.1;
          commits = eqb-true (run_end codes jobs (get_or jobs p 0) (suc p) (n - suc p)) 0 (sym (run_commits codes jobs cells (get_or jobs p 0) (suc p) (n - suc p) (omega arith)) ∙ rw (← i', ← f) d.reader_commits);
          still = runs_on codes jobs cells n p q l w (get_or jobs q 0) read.0 (rw (← j', ← b, ← f, ← e) d.writer_does_not) (rw (← j', ← b) d.not_ended);
        },
        i',
        j',
      )

  -- what is one by the lines is a dirty read of their jobs
  pub placed_dirty : Placed codes jobs cells n p q → DirtyRead (history_by codes jobs cells n) p q (get_or jobs p 0) (get_or jobs q 0)
  unfolding event_at action_by end_at after
  placed_dirty d =
      let l = d.later in
      let w = d.within in
      let ahead = events_from codes jobs cells 0 q in
      let read = action_by (get_or codes p 0) (get_or jobs p 0) (get_or cells p 0) in
      let write = action_by (get_or codes q 0) (get_or jobs q 0) (get_or cells q 0) in
      let act : get_or codes p 0 < 3 = omega (arith, d.reads) in
      let change = code_change (get_or codes q 0) d.changes in
      let open' = on_runs codes jobs cells n p q l w (get_or jobs q 0) act d.still in
      let e : event_at codes jobs cells p ≡ Does read = act_event (get_or codes p 0) (get_or jobs p 0) (get_or cells p 0) act in
      let f : event_at codes jobs cells q ≡ Does write = act_event (get_or codes q 0) (get_or jobs q 0) (get_or cells q 0) change.0 in
      record {
        before = ahead;
        write = write;
        between = between codes jobs cells n p q l w;
        read = read;
        after = after codes jobs cells n p q l w;
        lines = whole codes jobs cells n p q l w ∙ rw (e, f) (sym (append_assoc ahead (Does write ∷ between codes jobs cells n p q l w) (Does read ∷ after codes jobs cells n p q l w)));
        write_place = sym (events_length codes jobs cells 0 q);
        read_place = rw (events_length codes jobs cells 0 q) (between_length codes jobs cells n p q l w);
        reads = code_read (get_or codes p 0) d.reads;
        reads_by = refl;
        writes = change.1;
        writes_by = refl;
        one_cell = sym d.one_cell;
        two_jobs = λ x. let y = past_line codes jobs cells n p q l w (get_or jobs q 0) act open'.1 in let z = d.still in let s = d.commits in let v : run_end codes jobs (get_or jobs p 0) (suc p) (n - suc p) ≡ run_end codes jobs (get_or jobs q 0) (suc p) (n - suc p) = rw x in omega arith;
        reader_commits = run_commits codes jobs cells (get_or jobs p 0) (suc p) (n - suc p) (omega arith) ∙ eq-eqb (run_end codes jobs (get_or jobs p 0) (suc p) (n - suc p)) 0 d.commits;
        writer_does_not = rw (← e) open'.0;
        not_ended = open'.1;
      }
