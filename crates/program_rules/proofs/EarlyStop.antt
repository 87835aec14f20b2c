-- After line 1,000,000 nothing more is written and the desk does not change, whatever follows: a program may stop reading there (01, Lines).
-- Assumes nothing.
use Prim.Native.Nat.{ℕ, ◌-◌, ◌^◌, ◌≤◌, ◌<◌}
use mathlib.Core.Path.{◌≡◌, refl, sym, ap, ◌∙◌}
use mathlib.Core.Bool.{true, false}
use mathlib.Core.List.{List, [], ◌∷◌, ◌++◌, append-nil}
use native.Mathlib.Omega.{arith}
use lib.Dec.{ltb}
use borrow.Author.Tests.{leb-true, ltb-true, ltb-false, le-leb, lt-ltb, lt-leb}
use Rattle.laws.specs.Choice.{pick, by_test}
use Rattle.terms.specs.Limits.{request_lines}
use Rattle.text_rules.specs.declared.splitter.Splitter.{Splitter}
use Rattle.text_rules.specs.Split.{kept, following, fresh, taken, after_all, Found, found_at, found_now, found_in}
use Rattle.text_rules.proofs.Chunks.{after_append}
use Rattle.program_rules.specs.declared.Clerk.{Clerk}
use Rattle.program_rules.specs.declared.Method.{Method}
use Rattle.program_rules.specs.declared.View.{View}
use Rattle.desks.specs.Stepping.{Stepping}
use Rattle.program_rules.specs.OverLines.{written}
use Rattle.program_rules.specs.Desks.{on_desks}
use Rattle.program_rules.specs.Programs.{desks_run}
use Rattle.program_rules.specs.Work.{started_clerk, viewed, unended, owing, all_read}
use Rattle.program_rules.specs.Tellings.{tellings, desk_after, clerk_after, records_in}
use Rattle.program_rules.proofs.Records.{records_append}
use Rattle.program_rules.proofs.AnyCourse.{last_records}

-- the number of the next line is past 1,000,000 where that of this one has come to it
past_next : (n : ℕ) → request_lines ≤ n → request_lines < following n
unfolding following
past_next n h = by_test (ltb n (2 ^ 64 - 1)) (λ e. rw e (omega arith)) (λ e. rw e (omega (arith, ltb-false n (2 ^ 64 - 1) e)))

-- where every line has been read, the next byte belongs to a line past the 1,000,000th
past_taken : (s : Splitter) (b : ℕ) → all_read s ≡ true → request_lines < (taken s b).line
unfolding all_read taken
past_taken s b h =
    by_test s.ended
    (λ e. rw e (past_next s.line (leb-true request_lines s.line (rw e at h))))
    (λ e. let l = ltb-true request_lines s.line (rw e at h) in rw e (by_test (ltb s.len kept) (λ f. rw f l) (λ f. rw f l)))

-- so every line has been read then too
past_read : (s : Splitter) → request_lines < s.line → all_read s ≡ true
unfolding all_read
past_read s h = by_test s.ended (λ e. rw e (le-leb request_lines s.line (omega arith))) (λ e. rw e (lt-ltb request_lines s.line h))

-- however many bytes follow
read_after : (s : Splitter) (t : List ℕ) → all_read s ≡ true → all_read (after_all s t) ≡ true
unfolding after_all
read_after s [] h = h
read_after s (b ∷ t) h = read_after (taken s b) t (past_read (taken s b) (past_taken s b h))

-- of a line past the 1,000,000th nothing is told
past_told : {S : Type 0} (step : Stepping S) (d : S) (s : Splitter) (fs : List Found) → request_lines < s.line → tellings step d (found_now s ++ fs) ≡ tellings step d fs
unfolding found_now found_at
past_told step d s fs h = by_test s.ended (λ e. rw e (unfold tellings in rw (lt-leb s.line request_lines h))) (λ e. rw e)

-- nor of any line that follows
none_told : {S : Type 0} (step : Stepping S) (d : S) (s : Splitter) (t : List ℕ) → all_read s ≡ true → tellings step d (found_in s t) ≡ []
unfolding found_in
none_told step d s [] h = unfold tellings in refl
none_told step d s (b ∷ t) h =
    past_told step d (taken s b) (found_in (taken s b) t) (past_taken s b h) ∙ none_told step d (taken s b) t (past_read (taken s b) (past_taken s b h))

-- by a line past the 1,000,000th the desk is not changed
past_moved : {S : Type 0} (step : Stepping S) (d : S) (s : Splitter) (fs : List Found) → request_lines < s.line → desk_after step d (found_now s ++ fs) ≡ desk_after step d fs
unfolding found_now found_at
past_moved step d s fs h = by_test s.ended (λ e. rw e (unfold desk_after in rw (lt-leb s.line request_lines h))) (λ e. rw e)

-- nor by any line that follows
none_moved : {S : Type 0} (step : Stepping S) (d : S) (s : Splitter) (t : List ℕ) → all_read s ≡ true → desk_after step d (found_in s t) ≡ d
unfolding found_in
none_moved step d s [] h = unfold desk_after in refl
none_moved step d s (b ∷ t) h =
    past_moved step d (taken s b) (found_in (taken s b) t) (past_taken s b h) ∙ none_moved step d (taken s b) t (past_read (taken s b) (past_taken s b h))

-- so the desk of a clerk that has read every line stays as it is
pub desk_stays : (c : Clerk) (t : List ℕ) → all_read c.splitter ≡ true → (clerk_after c t).desks ≡ c.desks
unfolding clerk_after
desk_stays c t h = none_moved on_desks c.desks c.splitter t h

-- and no line is owed
none_owed : (s : Splitter) → all_read s ≡ true → owing s ≡ false
unfolding all_read owing
none_owed s h = by_test s.ended (λ e. rw e) (λ e. rw (e, lt-leb s.line request_lines (ltb-true request_lines s.line (rw e at h))))

-- a clerk that has read every line writes nothing more
pub writes_no_more : (view : View) (c : Clerk) (t : List ℕ) → all_read c.splitter ≡ true → records_in view c t ≡ []
unfolding records_in
writes_no_more view c t h = ap (written (viewed view)) (none_told on_desks c.desks c.splitter t h) ∙ unfold written in refl

-- what a clerk that has read every line has written is all that is written for the text
read_written : (m : Method) (view : View) (text : List ℕ) → all_read (after_all fresh text) ≡ true → records_in view (started_clerk m) text ≡ written (viewed view) (desks_run m text)
read_written m view text h =
    sym (append-nil (records_in view (started_clerk m) text))
    ∙ ap (λ b. records_in view (started_clerk m) text ++ pick b (viewed view (unended (after_all fresh text))) []) (sym (none_owed (after_all fresh text) h))
    ∙ last_records m view text

-- and of the text with whatever follows
pub more_written : (m : Method) (view : View) (text more : List ℕ) → all_read (after_all fresh text) ≡ true → records_in view (started_clerk m) text ≡ written (viewed view) (desks_run m (text ++ more))
more_written m view text more h =
    sym (append-nil (records_in view (started_clerk m) text))
    ∙ ap (λ l. records_in view (started_clerk m) text ++ l) (sym (writes_no_more view (clerk_after (started_clerk m) text) more (unfold clerk_after started_clerk in h)))
    ∙ sym (records_append view (started_clerk m) text more)
    ∙ read_written m view (text ++ more) (rw (after_append fresh text more) (read_after (after_all fresh text) more h))

-- so what follows writes nothing
pub nothing_after : (m : Method) (view : View) (text more : List ℕ) → all_read (after_all fresh text) ≡ true → written (viewed view) (desks_run m text) ≡ written (viewed view) (desks_run m (text ++ more))
nothing_after m view text more h = sym (read_written m view text h) ∙ more_written m view text more h
