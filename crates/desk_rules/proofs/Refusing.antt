-- Refusals and answers: a refusal of the table exactly if it is the first that is due, and then nothing changes; otherwise go, wait or back, with the job (01, Refusals by number; 01, Lines).
-- Assumes nothing.
use Rattle.std.specs.Prelude.{Option}
use Prim.Native.Nat.{ℕ, ◌≤◌}
use mathlib.Core.Path.{◌≡◌, refl, ap}
use mathlib.Core.Bool.{true}
use native.Mathlib.Omega.{arith}
use Rattle.laws.specs.Choice.{not_both}
use Rattle.laws.proofs.Lists.{first_holds}
use Rattle.terms.specs.declared.letters.Letter.{Letter}
use Rattle.terms.specs.declared.refusals.Refusal.{Refusal}
use Rattle.terms.specs.declared.refusals.Refusal.TheVariants.{UnknownKind, CellAbove, NotOpen, Waiting, SentBack, AllOpen, NoNumberLeft, Running, BadLine, StartedAtZero, TooManyLines, JobOutside, Ended, ShortOrder, NoRoom, TooLong, ShortList, NoRetry}
use Rattle.terms.specs.Letters.{letter_of}
use Rattle.terms.specs.Refusals.{number_of}
use Rattle.desks.specs.declared.Answer.{Answer}
use Rattle.desks.specs.declared.Answer.TheVariants.{Go, Wait, Back, No}
use Rattle.desks.specs.Request.{Request}
use Rattle.desk_rules.specs.Desk.{Status, Desk}
use Rattle.desks.specs.Begin.{refused}
use Rattle.desk_rules.specs.Step.{step}
use Rattle.desks.specs.Table.{letter_is, asks_no_cell}
use Rattle.desk_rules.specs.Table.{holds, order, due_by, due_of, Due, named}
use Rattle.desk_rules.specs.Course.{from}
use Rattle.desk_rules.specs.Refuses.{Refuses}
use Rattle.desk_rules.proofs.TableMeant.{step_meant}
use Rattle.desks.proofs.Answers.{goes_or_refuses}
use Rattle.desks.proofs.Refusing as by_table
use Rattle.desks.proofs.Refusing.{refused_due, refuses-by}
use Rattle.desk_rules.proofs.Fields.{step_alike}
use Rattle.desk_rules.proofs.AnswerTells.{ask_waited, ask_back}

-- if a refusal is due, the desk is as it was, and no job is woken
pub due_refused : (d : Desk) (r : Request) (why : Refusal) → Due d r why → step d r ≡ refused d why
due_refused = by_table.due_refused step due_of named step_meant

-- rows from 9 on never hold for a step
row_number : (l : Option Letter) (s : Status) (c : ℕ) (d : Desk) (why : Refusal) → holds l s c d why ≡ true → (1 ≤ number_of why) × (number_of why ≤ 8)
unfolding holds
row_number l s c d UnknownKind h = omega arith
row_number l s c d CellAbove h = omega arith
row_number l s c d NotOpen h = omega arith
row_number l s c d Waiting h = omega arith
row_number l s c d SentBack h = omega arith
row_number l s c d AllOpen h = omega arith
row_number l s c d NoNumberLeft h = omega arith
row_number l s c d Running h = omega arith
row_number l s c d (BadLine field) h = not_both h refl
row_number l s c d StartedAtZero h = not_both h refl
row_number l s c d TooManyLines h = not_both h refl
row_number l s c d JobOutside h = not_both h refl
row_number l s c d Ended h = not_both h refl
row_number l s c d ShortOrder h = not_both h refl
row_number l s c d NoRoom h = not_both h refl
row_number l s c d TooLong h = not_both h refl
row_number l s c d ShortList h = not_both h refl
row_number l s c d NoRetry h = not_both h refl

-- the row of a refusal that is due holds
row_holds : (d : Desk) (r : Request) (why : Refusal) → Due d r why → holds (letter_of r.kind) (d.stat r.job) r.cell d why ≡ true
unfolding due_of due_by
row_holds d r why e = first_holds (holds (letter_of r.kind) (d.stat r.job) r.cell d) (order (letter_of r.kind)) why e

-- so only the refusals 1 to 8 are due
due_number : (d : Desk) (r : Request) (why : Refusal) → Due d r why → (1 ≤ number_of why) × (number_of why ≤ 8)
due_number d r why e = row_number (letter_of r.kind) (d.stat r.job) r.cell d why (row_holds d r why e)

-- only requests for a cell are answered wait or back
only_cells : (d : Desk) (r : Request) → letter_is asks_no_cell (letter_of r.kind) ≡ true → goes_or_refuses (step d r).said ≡ true
only_cells d r k = by_answer (step d r).said refl
  where
    by_answer : (x : Answer) → (step d r).said ≡ x → goes_or_refuses x ≡ true
    by_answer (Go j) q = refl
    by_answer (Wait j) q = not_both k (ap (letter_is asks_no_cell) (ask_waited d r j q).asking.letter)
    by_answer (Back j) q = not_both k (ap (letter_is asks_no_cell) (ask_back d r j q).was.1.letter)
    by_answer (No why) q = refl

-- what is promised of refusals and answers
pub refuses : (d : Desk) → Refuses (from d)
refuses d = record {
  by_table = refuses-by step due_of named step_meant only_cells (λ e r why q n. let b = (due_number e r why q).1 in omega arith) step_alike d;
  due_holds = row_holds d;
  one_to_eight = λ r why e. due_number d r why (refused_due step due_of named step_meant d r why e);
}
