-- What a request's letter and its answer tell of the step: which rule it was, and for which job.
-- Assumes nothing.
use Rattle.std.specs.Prelude.{Option, Some}
use Prim.Native.Nat.{ℕ, ◌≤◌}
use mathlib.Core.Path.{◌≡◌, refl, sym, ap, ◌∙◌, subst}
use mathlib.Core.Bool.{true, false}
use mathlib.Core.List.{List}
use lib.Dec.{ltb}
use borrow.Author.Tests.{ltb-false}
use Rattle.laws.specs.Choice.{by_test, not_both}
use Rattle.terms.specs.declared.letters.Ask.{Ask}
use Rattle.terms.specs.declared.letters.Letter.{Letter}
use Rattle.terms.specs.declared.letters.Letter.TheVariants.{Begin, Commit, GiveUp, Retry, Asks}
use Rattle.terms.specs.Letters.{letter_of, has_cell}
use Rattle.terms.specs.Limits.{last_number}
use Rattle.conflict.specs.declared.modes.Mode.{Mode}
use Rattle.conflict.specs.Modes.{needed, covers, asked, is_free}
use Rattle.laws.specs.Lists.{member}
use Rattle.conflict.proofs.ModeLaws.{covers_refl, covers_none, asked_covers, asked_grows}
use Rattle.desks.specs.declared.Answer.TheVariants.{Go, Wait, Back}
use Rattle.desks.specs.Request.{Request}
use Rattle.desk_rules.specs.Desk.{Status, closed, running, waiting, sentback, Waiter, Desk, is_open}
use Rattle.desks.specs.Begin.{beginning, refused}
use Rattle.desk_rules.specs.Rules.{Outcome, rule4, close, send_back, grant, queued, rule1, retry, begin}
use Rattle.desk_rules.specs.Step.{step_commit, step_give_up, step_retry, step_begin, step_by, step}
use Rattle.desks.specs.Table.{letter_is}
use Rattle.desk_rules.specs.Asked.{Asking, Elder, asker}
use Rattle.desk_rules.specs.Moves.{standing, Moved, refuses, begins, commits, gives_up, retries, has_it, promotes, waits_in_front, enters, waits_last, goes_back}
use Rattle.desk_rules.specs.Effects.{Joined, promotion, newcomer}
use Rattle.desks.proofs.Answers.{other-answer, goes_or_refuses}
use Rattle.desk_rules.proofs.Moved.{step_moved, elder_of}

-- what an answer tells: its job, the rule's outcome, and what held before
pub record Tells (d : Desk) (r : Request) (i j : ℕ) (o : Outcome) (P : Type 0) : Type 0 where
  pub job : j ≡ i
  pub outcome : step d r ≡ o
  pub was : P

-- two equal goes name one job
same_go : {i j : ℕ} → Go i ≡ Go j → j ≡ i
same_go e = cc

-- a commit that goes is of a running job, and closes it
pub commit_went : (d : Desk) (r : Request) (j : ℕ) → letter_of r.kind ≡ Some Commit → (step d r).said ≡ Go j → Tells d r r.job j (close d r.job) (d.stat r.job ≡ running)
unfolding step_commit refused close rule4
commit_went d r j e g = by_status (d.stat r.job) refl (unfold step step_by in ap (step_by d r) e)
  where
    by_status : (s : Status) → d.stat r.job ≡ s → step d r ≡ step_commit d r.job s → Tells d r r.job j (close d r.job) (d.stat r.job ≡ running)
    by_status closed q h = other-answer (sym (ap (λ o. o.said) h) ∙ g) refl
    by_status running q h = record { job = same_go (sym (ap (λ o. o.said) h) ∙ g); outcome = h; was = q }
    by_status (waiting c a) q h = other-answer (sym (ap (λ o. o.said) h) ∙ g) refl
    by_status sentback q h = other-answer (sym (ap (λ o. o.said) h) ∙ g) refl

-- a give-up that goes is of an open job, and closes it
pub give_up_went : (d : Desk) (r : Request) (j : ℕ) → letter_of r.kind ≡ Some GiveUp → (step d r).said ≡ Go j → Tells d r r.job j (close d r.job) (is_open (d.stat r.job) ≡ true)
unfolding step_give_up refused close rule4 is_open
give_up_went d r j e g = by_status (d.stat r.job) refl (unfold step step_by in ap (step_by d r) e)
  where
    by_status : (s : Status) → d.stat r.job ≡ s → step d r ≡ step_give_up d r.job s → Tells d r r.job j (close d r.job) (is_open (d.stat r.job) ≡ true)
    by_status closed q h = other-answer (sym (ap (λ o. o.said) h) ∙ g) refl
    by_status running q h = record { job = same_go (sym (ap (λ o. o.said) h) ∙ g); outcome = h; was = rw q }
    by_status (waiting c a) q h = record { job = same_go (sym (ap (λ o. o.said) h) ∙ g); outcome = h; was = rw q }
    by_status sentback q h = record { job = same_go (sym (ap (λ o. o.said) h) ∙ g); outcome = h; was = rw q }

-- a retry that goes is of a sent back job, and makes it run
pub retry_went : (d : Desk) (r : Request) (j : ℕ) → letter_of r.kind ≡ Some Retry → (step d r).said ≡ Go j → Tells d r r.job j (retry d r.job) (d.stat r.job ≡ sentback)
unfolding step_retry refused retry
retry_went d r j e g = by_status (d.stat r.job) refl (unfold step step_by in ap (step_by d r) e)
  where
    by_status : (s : Status) → d.stat r.job ≡ s → step d r ≡ step_retry d r.job s → Tells d r r.job j (retry d r.job) (d.stat r.job ≡ sentback)
    by_status closed q h = other-answer (sym (ap (λ o. o.said) h) ∙ g) refl
    by_status running q h = other-answer (sym (ap (λ o. o.said) h) ∙ g) refl
    by_status (waiting c a) q h = other-answer (sym (ap (λ o. o.said) h) ∙ g) refl
    by_status sentback q h = record { job = same_go (sym (ap (λ o. o.said) h) ∙ g); outcome = h; was = q }

-- a begin that goes gives the next number, which had not been given, to a new job, and a place was free for it
pub begin_went : (d : Desk) (r : Request) (j : ℕ) → letter_of r.kind ≡ Some Begin → (step d r).said ≡ Go j → Tells d r d.next j (begin d) ((d.next ≤ last_number) × (member 0 d.jobs ≡ true))
unfolding step_begin beginning refused begin
begin_went d r j e g = by_tests (unfold step step_by in ap (step_by d r) e)
  where
    by_tests : step d r ≡ step_begin d → Tells d r d.next j (begin d) ((d.next ≤ last_number) × (member 0 d.jobs ≡ true))
    by_tests h =
        by_test (ltb last_number d.next) (λ t. other-answer (sym (ap (λ o. o.said) (rw t at h)) ∙ g) refl)
        (λ f. by_test (member 0 d.jobs) (λ t. let q : step d r ≡ begin d = rw (f, t) at h in record { job = same_go (sym (ap (λ o. o.said) q) ∙ g); outcome = q; was = (ltb-false last_number d.next f, t) })
        (λ n. other-answer (sym (ap (λ o. o.said) (rw (f, n) at h)) ∙ g) refl))

-- a request for a cell that goes: the job has a covering mode, or it gets one that covers what it needs and what it held
pub data AskWent (d : Desk) (r : Request) (a : Ask) : Type 0 where
  had : covers ((d.row r.cell).held r.job) (needed a) ≡ true → step d r ≡ rule1 d r.job → AskWent d r a
  got : (m : Mode) → covers m (needed a) ≡ true → covers m ((d.row r.cell).held r.job) ≡ true → step d r ≡ grant d r.job r.cell m → AskWent d r a

-- a letter without a cell asks for none
pub no_ask : {P : Type 0} {x : Option Letter} {l : Letter} {a : Ask} → x ≡ Some l → has_cell l ≡ false → x ≡ Some (Asks a) → P
no_ask p n q = not_both (ap (letter_is has_cell) q) (ap (letter_is has_cell) p ∙ n)

-- a letter asks for one thing
pub same_ask : {x : Option Letter} {a b : Ask} → x ≡ Some (Asks a) → x ≡ Some (Asks b) → a ≡ b
same_ask p q = cc

-- a request for a cell that goes is of the request's job
pub ask_went : (d : Desk) (r : Request) (a : Ask) (j : ℕ) → letter_of r.kind ≡ Some (Asks a) → (step d r).said ≡ Go j → (j ≡ r.job) × AskWent d r a
ask_went d r a j e g = by_move (step_moved d r) refl g
  where
    by_move : {o : Outcome} → Moved d r o → step d r ≡ o → o.said ≡ Go j → (j ≡ r.job) × AskWent d r a
    by_move (refuses why _) h q = unfold refused in other-answer q refl
    by_move (begins l n m) h q = no_ask l refl e
    by_move (commits l s) h q = no_ask l refl e
    by_move (gives_up l s) h q = no_ask l refl e
    by_move (retries l s) h q = no_ask l refl e
    by_move (has_it b k c) h q = unfold rule1 in (same_go q, subst (AskWent d r) (same_ask k.letter e) (had c h))
    by_move (promotes b k c f z) h q = unfold grant in (same_go q, subst (AskWent d r) (same_ask k.letter e) (got (asked ((d.row r.cell).held r.job) (needed b)) (asked_covers _ (needed b)) (asked_grows _ (needed b)) h))
    by_move (waits_in_front b k c f z w) h q = other-answer q refl
    by_move (enters b k f z w) h q = unfold grant in (same_go q, subst (AskWent d r) (same_ask k.letter e) (got (needed b) (covers_refl (needed b)) (covers_none (needed b) _ f) h))
    by_move (waits_last b k f z w v) h q = other-answer q refl
    by_move (goes_back b k x) h q = unfold rule4 in other-answer q refl

-- the request's job joins the queue of the cell, which is then q
abbrev pub Joins : Desk → Request → Ask → List Waiter → Type 0
Joins d r a q = Joined (is_free ((d.row r.cell).held r.job)) (asker r a) (d.row r.cell).queue q

-- a move that holds an asking job up: the job waits in the queue that it joins, or is sent back
data HeldUp (d : Desk) (r : Request) : Outcome → Type 0 where
  waits : (a : Ask) (q : List Waiter) → Asking d r a → Joins d r a q → HeldUp d r (standing d r.job r.cell a q)
  leaves : (a : Ask) → Asking d r a → Elder d r.job r.cell → HeldUp d r (rule4 d r.job sentback d.jobs (Back r.job))

-- every move that answers neither go nor a refusal is of this kind
held_up : {d : Desk} {r : Request} {o : Outcome} → Moved d r o → goes_or_refuses o.said ≡ false → HeldUp d r o
unfolding refused rule4
held_up (refuses why _) e = not_both refl e
held_up (begins l n m) e = not_both refl e
held_up (commits l s) e = not_both refl e
held_up (gives_up l s) e = not_both refl e
held_up (retries l s) e = not_both refl e
held_up (has_it b k c) e = not_both refl e
held_up (promotes b k c f z) e = not_both refl e
held_up (waits_in_front b k c f z w) e = waits b _ k (promotion f)
held_up (enters b k f z w) e = not_both refl e
held_up (waits_last b k f z w v) e = waits b _ k (newcomer f)
held_up (goes_back b k x) e = leaves b k (elder_of x)

-- what a wait tells: its job, what was asked, and the queue that the job joined
pub record Waited (d : Desk) (r : Request) (j : ℕ) : Type 0 where
  pub job : j ≡ r.job
  pub ask : Ask
  pub asking : Asking d r ask
  pub queue : List Waiter
  pub joins : Joins d r ask queue
  pub outcome : step d r ≡ queued d r.job r.cell ask queue

-- two equal waits name one job
same_wait : {i j : ℕ} → Wait i ≡ Wait j → j ≡ i
same_wait e = cc

-- a wait is of the request's job, which runs and asks
pub ask_waited : (d : Desk) (r : Request) (j : ℕ) → (step d r).said ≡ Wait j → Waited d r j
ask_waited d r j g = by_move (held_up (step_moved d r) (ap goes_or_refuses g)) refl g
  where
    by_move : {o : Outcome} → HeldUp d r o → step d r ≡ o → o.said ≡ Wait j → Waited d r j
    by_move (waits a q k p) h e = record { job = same_wait e; ask = a; asking = k; queue = q; joins = p; outcome = unfold queued in h }
    by_move (leaves a k x) h e = unfold rule4 in other-answer e refl

-- two equal sendings back name one job
same_back : {i j : ℕ} → Back i ≡ Back j → j ≡ i
same_back e = cc

-- a job that is sent back was running, and an older job stood in its way
pub ask_back : (d : Desk) (r : Request) (j : ℕ) → (step d r).said ≡ Back j → Tells d r r.job j (send_back d r.job) ((a : Ask) × Asking d r a × Elder d r.job r.cell)
ask_back d r j g = by_move (held_up (step_moved d r) (ap goes_or_refuses g)) refl g
  where
    by_move : {o : Outcome} → HeldUp d r o → step d r ≡ o → o.said ≡ Back j → Tells d r r.job j (send_back d r.job) ((a : Ask) × Asking d r a × Elder d r.job r.cell)
    by_move (waits a q k p) h e = other-answer e refl
    by_move (leaves a k x) h e = record { job = unfold rule4 in same_back e; outcome = unfold send_back in h; was = (a, k, x) }
