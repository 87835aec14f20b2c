-- A faultless text has at most 4,096 lines and says at most as many events, and a faulty line is at most line 4,097.
-- Assumes nothing.
use Rattle.std.specs.Prelude.{Option, None, Some}
use Prim.Native.Nat.{ℕ, suc, ◌+◌, ◌≤◌}
use mathlib.Core.Path.{◌≡◌, refl, sym, ap}
use mathlib.Core.List.{List, [], ◌∷◌}
use native.Mathlib.Omega.{arith}
use lib.ListN.{length, length-append}
use Rattle.std.specs.Prelude.{Err, Ok}
use Rattle.terms.specs.declared.letters.Letter.{Letter}
use Rattle.terms.specs.declared.letters.Letter.TheVariants.{Begin, Commit, GiveUp, Retry, Back, Asks}
use Rattle.terms.specs.declared.refusals.Refusal.{Refusal}
use Rattle.terms.specs.Limits.{judged_lines}
use Rattle.judge_rules.proofs.LineFaults.{few_lines}
use Rattle.judge_rules.specs.HistoryText.{Faulty, line_fault, or_later, ended_after, first_faulty, event_of, events_in}
use Rattle.text_rules.specs.Lines.{Reading, good}

-- nothing found is not something found
not_found : {A P : Type 0} {x : A} → Some x ≡ None → P
not_found {x = x} e = let z : ◌≡◌ {A = ℕ} 0 1 = cc in absurd (omega arith)

-- where no line is faulty, this one is not
this_none : (o : Option Refusal) (n : ℕ) (later : Option Faulty) → or_later o n later ≡ None → (o ≡ None) × (later ≡ None)
unfolding or_later
this_none None n later e = (refl, e)
this_none (Some why) n later e = not_found e

-- where a line is faulty, it is this one or a later one
this_some : (o : Option Refusal) (n : ℕ) (later : Option Faulty) (f : Faulty) {P : Type 0} → or_later o n later ≡ Some f → (f.number ≡ n → P) → (o ≡ None → later ≡ Some f → P) → P
unfolding or_later
this_some None n later f e this next = next refl e
this_some (Some why) n later f e this next =
    let g : ◌≡◌ {A = Faulty} (record { number = n; why = why }) f = cc in this (sym (ap (λ x. x.number) g))

-- faultless lines that are numbered from n on
pub lines_few : (n : ℕ) (ended : List ℕ) (ls : List Reading) → n ≤ suc judged_lines → first_faulty n ended ls ≡ None → length ls + n ≤ suc judged_lines
unfolding first_faulty
lines_few n ended [] h e = omega arith
lines_few n ended (l ∷ ls) h e =
    let p = this_none (line_fault n ended l) n (first_faulty (suc n) (ended_after ended l) ls) e in
    let k : n ≤ judged_lines = few_lines n ended l p.0 in
    omega (arith, lines_few (suc n) (ended_after ended l) ls (omega arith) p.1)

-- the number of a faulty line among lines that are numbered from n on
pub number_few : (n : ℕ) (ended : List ℕ) (ls : List Reading) (f : Faulty) → n ≤ suc judged_lines → first_faulty n ended ls ≡ Some f → f.number ≤ suc judged_lines
unfolding first_faulty
number_few n ended [] f h e = not_found (sym e)
number_few n ended (l ∷ ls) f h e =
    this_some (line_fault n ended l) n (first_faulty (suc n) (ended_after ended l) ls) f e
    (λ q. omega arith)
    (λ p q.
    let k : n ≤ judged_lines = few_lines n ended l p in
    number_few (suc n) (ended_after ended l) ls f (omega arith) q)

-- a good line says at most one event
one_of_good : (l : Letter) (job cell : ℕ) → length (event_of (good l job cell)) ≤ 1
unfolding event_of
one_of_good Begin job cell = omega arith
one_of_good Commit job cell = omega arith
one_of_good GiveUp job cell = omega arith
one_of_good Retry job cell = omega arith
one_of_good Back job cell = omega arith
one_of_good (Asks a) job cell = omega arith

-- a line says at most one event
one_event : (r : Reading) → length (event_of r) ≤ 1
unfolding event_of
one_event (Err at) = omega arith
one_event (Ok line) = one_of_good line.letter line.job line.cell

-- lines say at most as many events as they are
pub events_few : (ls : List Reading) → length (events_in ls) ≤ length ls
unfolding events_in
events_few [] = omega arith
events_few (l ∷ ls) =
    omega (arith, length-append (event_of l) (events_in ls), one_event l, events_few ls)
