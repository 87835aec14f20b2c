-- What a program writes last: the chains of the jobs that wait on the paper's desk after the text's lines; nothing under timestamps. What follows line 1,000,000 does not change it (02, Nos. 3 and 6).
-- Assumes nothing.
use Prim.Native.Nat.{ℕ}
use mathlib.Core.Path.{◌≡◌, refl, sym, ap, ◌∙◌}
use mathlib.Core.Bool.{true}
use mathlib.Core.List.{List, [], ◌∷◌, ◌++◌, append-nil}
use native.Mathlib.Omega.{arith}
use Rattle.text_rules.specs.Split.{fresh, lines_of, after_all}
use Rattle.desks.specs.Started.{StartedOn, fresh as at_start}
use Rattle.desks.proofs.Following.{seen_started}
use Rattle.desk_rules.specs.Chain.{all_chains}
use Rattle.desk_chain.proofs.ChainsTied.{chains_tied}
use Rattle.program_rules.specs.declared.Clerk.{Clerk}
use Rattle.program_rules.specs.declared.Desks.{Desks}
use Rattle.program_rules.specs.declared.Method.{Method}
use Rattle.program_rules.specs.declared.Method.TheVariants.{Locks, Stamps}
use Rattle.program_rules.specs.declared.View.{View}
use Rattle.program_rules.specs.declared.View.TheVariants.{Answers, History, Chains}
use Rattle.program_rules.specs.OverLines.{Told, run_of, written}
use Rattle.program_rules.specs.Chains.{desk_over, chain_text}
use Rattle.program_rules.specs.Desks.{new_desks, on_desks}
use Rattle.program_rules.specs.Shown.{history_of_run}
use Rattle.program_rules.specs.Programs.{first_number, run_by, desks_run, answers_of, history_of, chains_of, stamp_answers_of, stamp_history_of, program_of}
use Rattle.program_rules.specs.Work.{started_clerk, viewed, all_read}
use Rattle.program_rules.specs.Closing.{chains_by, closing}
use Rattle.program_rules.specs.Tellings.{clerk_after}
use Rattle.program_rules.proofs.Records.{clerk_append}
use Rattle.program_rules.proofs.StartedHistory.{run_started}
use Rattle.program_rules.proofs.DeskOver.{clerk_desk}
use Rattle.program_rules.proofs.ArraysArePaper.{text_desk, text_run}
use Rattle.program_rules.proofs.TwoDesks.{by_locks, started_method}
use Rattle.program_rules.proofs.EarlyStop.{desk_stays}

-- the desks after lines are started ones
after_started : (m : Method) (ls : List (List ℕ)) → StartedOn on_desks (new_desks m) (desk_over on_desks (new_desks m first_number) 1 ls) ([] ++ history_of_run (run_of on_desks (new_desks m first_number) 1 ls))
after_started m ls = run_started (at_start first_number (omega arith) (omega arith)) 1 ls

-- a clerk keeps the method that it was started with, and what it writes last is by that method
by_method : (m : Method) (text : List ℕ) → closing Chains (clerk_after (started_clerk m) text) ≡ chains_by m (desk_over on_desks (new_desks m first_number) 1 (lines_of text))
unfolding closing
by_method m text =
    ap (λ (d : Desks). chains_by d.method d) (clerk_desk m text) ∙ ap (λ k. chains_by k (desk_over on_desks (new_desks m first_number) 1 (lines_of text))) (started_method (after_started m (lines_of text)))

-- THE CHAINS OF A TEXT: what a clerk that has seen it writes of its desk is what the paper says of the text's lines, and under timestamps nobody waits
pub chains_closing : (m : Method) (text : List ℕ) → closing Chains (clerk_after (started_clerk m) text) ≡ program_of m Chains text
unfolding chains_by program_of chains_of
chains_closing Locks text =
    by_method Locks text
    ∙ ap chain_text (chains_tied (seen_started by_locks (after_started Locks (lines_of text))) ∙ ap all_chains (text_desk text))
chains_closing Stamps text = by_method Stamps text

-- of the lines the program `chain` writes nothing
none_of_lines : (ts : List Told) → written (viewed Chains) ts ≡ []
unfolding written viewed
none_of_lines [] = refl
none_of_lines (t ∷ ts) = none_of_lines ts

-- what is written of the run, and then last, is what the program writes
pub program_is : (m : Method) (view : View) (text : List ℕ) → written (viewed view) (desks_run m text) ++ closing view (clerk_after (started_clerk m) text) ≡ program_of m view text
unfolding program_of answers_of history_of stamp_answers_of stamp_history_of run_by viewed closing
program_is Locks Answers text = append-nil _ ∙ ap (written (viewed Answers)) (text_run Locks text)
program_is Locks History text = append-nil _ ∙ ap (written (viewed History)) (text_run Locks text)
program_is Stamps Answers text = append-nil _ ∙ ap (written (viewed Answers)) (text_run Stamps text)
program_is Stamps History text = append-nil _ ∙ ap (written (viewed History)) (text_run Stamps text)
program_is m Chains text = ap (λ l. l ++ closing Chains (clerk_after (started_clerk m) text)) (none_of_lines (desks_run m text)) ∙ chains_closing m text

-- what is written last is told by the desks alone
by_desk : (view : View) (c e : Clerk) → c.desks ≡ e.desks → closing view c ≡ closing view e
unfolding closing
by_desk Answers c e h = refl
by_desk History c e h = refl
by_desk Chains c e h = ap (λ (d : Desks). chains_by d.method d) h

-- so it stays what it is once every line has been read, whatever follows
pub closing_stays : (m : Method) (view : View) (text more : List ℕ) → all_read (after_all fresh text) ≡ true → closing view (clerk_after (started_clerk m) text) ≡ closing view (clerk_after (started_clerk m) (text ++ more))
closing_stays m view text more h =
    let c = clerk_after (started_clerk m) text in
    sym (ap (closing view) (clerk_append (started_clerk m) text more) ∙ by_desk view (clerk_after c more) c (desk_stays c more (unfold clerk_after started_clerk in h)))
