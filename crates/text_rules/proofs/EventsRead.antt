-- An event's record reads as its letter and fields, and the text of a history is short (01, Lines).
-- Assumes nothing.
use Prim.Native.Nat.{ℕ, ◌*◌, ◌≤◌, ◌<◌}
use mathlib.Core.Path.{◌≡◌, refl}
use mathlib.Core.Bool.{true, ◌&&◌}
use mathlib.Core.List.{[], ◌∷◌}
use native.Mathlib.Omega.{arith}
use lib.Dec.{leb, ltb}
use lib.ListN.{length, length-append}
use borrow.Author.Tests.{leb-true, ltb-true, le-leb, lt-ltb}
use Rattle.laws.specs.Choice.{not_both}
use Rattle.laws.proofs.Parts.{and_first, and_second, and_both}
use Rattle.terms.specs.declared.letters.Letter.TheVariants.{Commit, GiveUp, Back, Asks}
use Rattle.terms.specs.Letters.{of_histories}
use Rattle.terms.specs.Limits.{cells, last_number}
use Rattle.conflict.specs.declared.action.Action.{Action}
use Rattle.conflict.specs.declared.action.Kind.{Kind}
use Rattle.conflict.specs.declared.action.Kind.TheVariants.{Read, Write, Increment}
use Rattle.conflict.specs.declared.action.Mark.{Mark}
use Rattle.conflict.specs.declared.action.Mark.TheVariants.{Commit as commits, GiveUp as gives_up, Back as goes_back}
use Rattle.conflict.specs.declared.action.Event.{Event}
use Rattle.conflict.specs.declared.action.Event.TheVariants.{Does, Ends}
use Rattle.conflict.specs.History.{History}
use Rattle.text_rules.specs.Lines.{read_line, good}
use Rattle.text_rules.specs.EventRecords.{ask_by, mark_letter, event_line, text_of, within, all_within}
use Rattle.text_rules.proofs.ReadBack.{reads_record}
use Rattle.text_rules.proofs.Length.{line_at_most_16}

-- the bounds of an action within the limits
pub action_within : (last : ℕ) (a : Action) → within last (Does a) ≡ true → (1 ≤ a.job) × (a.job ≤ last) × (a.cell < cells)
unfolding within
action_within last a w =
    let j : (leb 1 a.job && leb a.job last) ≡ true = and_first (leb 1 a.job && leb a.job last) (ltb a.cell cells) w in (
      leb-true 1 a.job (and_first (leb 1 a.job) (leb a.job last) j),
      leb-true a.job last (and_second (leb 1 a.job) (leb a.job last) j),
      ltb-true a.cell cells (and_second (leb 1 a.job && leb a.job last) (ltb a.cell cells) w),
    )

-- and of a mark
pub mark_within : (last : ℕ) (m : Mark) (j : ℕ) → within last (Ends m j) ≡ true → (1 ≤ j) × (j ≤ last)
unfolding within
mark_within last m j w = (leb-true 1 j (and_first (leb 1 j) (leb j last) w), leb-true j last (and_second (leb 1 j) (leb j last) w))

-- an action within those bounds is within the limits
pub within_action : (last : ℕ) (a : Action) → 1 ≤ a.job → a.job ≤ last → a.cell < cells → within last (Does a) ≡ true
unfolding within
within_action last a h g c = rw (le-leb 1 a.job h, le-leb a.job last g, lt-ltb a.cell cells c)

-- and so is such a mark
pub within_mark : (last : ℕ) (m : Mark) (j : ℕ) → 1 ≤ j → j ≤ last → within last (Ends m j) ≡ true
unfolding within
within_mark last m j h g = rw (le-leb 1 j h, le-leb j last g)

-- a history within a limit is within a larger one
pub within_more : (few many : ℕ) → few ≤ many → (h : History) → all_within few h ≡ true → all_within many h ≡ true
unfolding all_within
within_more few many le [] w = refl
within_more few many le (Does a ∷ h) w =
    let b = action_within few a (and_first (within few (Does a)) (all_within few h) w) in
    and_both (within many (Does a)) (all_within many h) (within_action many a b.0 (omega (arith, b.1)) b.2) (within_more few many le h (and_second (within few (Does a)) (all_within few h) w))
within_more few many le (Ends m j ∷ h) w =
    let b = mark_within few m j (and_first (within few (Ends m j)) (all_within few h) w) in
    and_both (within many (Ends m j)) (all_within many h) (within_mark many m j b.0 (omega (arith, b.1))) (within_more few many le h (and_second (within few (Ends m j)) (all_within few h) w))

-- the letter of an action is one of histories: r, w or i, and never u (02, No. 1)
of_history : (k : Kind) → of_histories (Asks (ask_by k)) ≡ true
unfolding ask_by
of_history Read = refl
of_history Write = refl
of_history Increment = refl

-- an action's record reads as that action
pub reads_action : (a : Action) → within last_number (Does a) ≡ true → read_line of_histories (event_line (Does a)) ≡ good (Asks (ask_by a.kind)) a.job a.cell
unfolding event_line
reads_action a w =
    let b = action_within last_number a w in
    reads_record of_histories (Asks (ask_by a.kind)) a.job a.cell (of_history a.kind) (omega arith) (omega arith) (λ e. not_both refl e) (λ e. not_both refl e)

-- a mark's record reads as that mark
pub reads_mark : (m : Mark) (j : ℕ) → within last_number (Ends m j) ≡ true → read_line of_histories (event_line (Ends m j)) ≡ good (mark_letter m) j 0
unfolding event_line mark_letter
reads_mark commits j w = let b = mark_within last_number commits j w in reads_record of_histories Commit j 0 refl (omega arith) (omega arith) (λ e. not_both refl e) (λ e. refl)
reads_mark gives_up j w = let b = mark_within last_number gives_up j w in reads_record of_histories GiveUp j 0 refl (omega arith) (omega arith) (λ e. not_both refl e) (λ e. refl)
reads_mark goes_back j w = let b = mark_within last_number goes_back j w in reads_record of_histories Back j 0 refl (omega arith) (omega arith) (λ e. not_both refl e) (λ e. refl)

-- an event's record is short
line_short : (e : Event) → within last_number e ≡ true → length (event_line e) ≤ 16
unfolding event_line
line_short (Does a) w = let b = action_within last_number a w in line_at_most_16 (Asks (ask_by a.kind)) a.job a.cell (omega arith) (omega arith)
line_short (Ends m j) w = let b = mark_within last_number m j w in line_at_most_16 (mark_letter m) j 0 (omega arith) (omega arith)

-- and the text of a history is short: 16 bytes for each record are enough
pub text_short : (h : History) → all_within last_number h ≡ true → length (text_of h) ≤ 16 * length h
unfolding text_of all_within
text_short [] w = omega arith
text_short (e ∷ h) w =
    let one : length (event_line e) ≤ 16 = line_short e (and_first (within last_number e) (all_within last_number h) w) in
    let others : length (text_of h) ≤ 16 * length h = text_short h (and_second (within last_number e) (all_within last_number h) w) in
    omega (arith, length-append (event_line e) (text_of h))
