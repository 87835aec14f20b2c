-- The lines of a history's text are its records: each is one line with its newline (01, Lines).
-- Assumes nothing.
use Prim.Native.Nat.{ℕ, ◌≤◌}
use mathlib.Core.Path.{◌≡◌, refl, sym, ap, ◌∙◌}
use mathlib.Core.Bool.{Bool, true, false, not, ◌&&◌}
use mathlib.Core.List.{List, [], ◌∷◌, ◌++◌, append_assoc, map, drop_last}
use native.Mathlib.Omega.{arith}
use lib.Dec.{eqb, leb}
use borrow.Author.Tests.{leb-true, ne_eqb}
use Rattle.laws.proofs.Parts.{and_first, and_second, and_both}
use Rattle.terms.specs.declared.letters.Ask.TheVariants.{Read as asks_read, Write as asks_write, Increment as asks-increment, Update as asks-update}
use Rattle.terms.specs.declared.letters.Letter.{Letter}
use Rattle.terms.specs.declared.letters.Letter.TheVariants.{Begin, Commit, GiveUp, Retry, Back, Asks}
use Rattle.terms.specs.Letters.{byte_of, has_job, has_cell}
use Rattle.terms.specs.Words.{newline}
use Rattle.conflict.specs.declared.action.Event.{Event}
use Rattle.conflict.specs.declared.action.Event.TheVariants.{Does, Ends}
use Rattle.conflict.specs.History.{History}
use Rattle.text_rules.specs.Lines.{is_digit, digits_only}
use Rattle.text_rules.specs.Decimal.{decimal}
use Rattle.text_rules.specs.Records.{field, line_record}
use Rattle.text_rules.specs.Split.{lines_of, joined, one_line, has_newline, no_newline, every}
use Rattle.text_rules.proofs.DecimalLaws.{decimal_digits}
use Rattle.text_rules.proofs.TextLines.{lines_only}
use Rattle.text_rules.specs.EventRecords.{ask_by, mark_letter, event_line, text_of}

-- digits are not newlines
pub digits_plain : (ds : List ℕ) → digits_only ds ≡ true → no_newline ds ≡ true
unfolding digits_only no_newline is_digit
digits_plain [] h = refl
digits_plain (d ∷ ds) h =
    let digit : (leb 48 d && leb d 57) ≡ true = and_first (leb 48 d && leb d 57) (digits_only ds) h in
    let low : 48 ≤ d = leb-true 48 d (and_first (leb 48 d) (leb d 57) digit) in
    rw (ne_eqb d newline (λ e. omega arith)) (digits_plain ds (and_second (leb 48 d && leb d 57) (digits_only ds) h))

-- two parts without a newline have none together
pub plain_append : (l m : List ℕ) → no_newline l ≡ true → no_newline m ≡ true → no_newline (l ++ m) ≡ true
unfolding no_newline
plain_append [] m h g = g
plain_append (b ∷ l) m h g =
    and_both (not (eqb b newline)) (no_newline (l ++ m)) (and_first (not (eqb b newline)) (no_newline l) h)
    (plain_append l m (and_second (not (eqb b newline)) (no_newline l) h) g)

-- a further field has no newline
field_plain : (there : Bool) (n : ℕ) → no_newline (field there n) ≡ true
unfolding field no_newline
field_plain true n = digits_plain (decimal n) (decimal_digits n)
field_plain false n = refl

-- a letter is not a newline
letter_plain : (l : Letter) → eqb (byte_of l) newline ≡ false
letter_plain Begin = refl
letter_plain Commit = refl
letter_plain GiveUp = refl
letter_plain Retry = refl
letter_plain Back = refl
letter_plain (Asks asks_read) = refl
letter_plain (Asks asks_write) = refl
letter_plain (Asks asks-increment) = refl
letter_plain (Asks asks-update) = refl

-- bytes without a newline, and then one, are one line
plain_one : (l : List ℕ) → no_newline l ≡ true → one_line (l ++ newline ∷ []) ≡ true
unfolding no_newline one_line
plain_one [] h = refl
plain_one (b ∷ []) h = h
plain_one (b ∷ c ∷ l) h =
    and_both (not (eqb b newline)) (one_line ((c ∷ l) ++ newline ∷ [])) (and_first (not (eqb b newline)) (no_newline (c ∷ l)) h)
    (plain_one (c ∷ l) (and_second (not (eqb b newline)) (no_newline (c ∷ l)) h))

-- and end with their newline
plain_ends : (l : List ℕ) → has_newline (l ++ newline ∷ []) ≡ true
unfolding has_newline
plain_ends [] = refl
plain_ends (b ∷ []) = refl
plain_ends (b ∷ c ∷ l) = plain_ends (c ∷ l)

-- a record is one line, and has its newline
pub record_line : (l : Letter) (job cell : ℕ) → (one_line (line_record l job cell) ≡ true) × (has_newline (line_record l job cell) ≡ true)
unfolding line_record no_newline
record_line l job cell =
    let bytes : List ℕ = byte_of l ∷ (field (has_job l) job ++ field (has_cell l) cell) in
    (plain_one bytes (rw (letter_plain l) (plain_append (field (has_job l) job) (field (has_cell l) cell) (field_plain (has_job l) job) (field_plain (has_cell l) cell))), plain_ends bytes)

-- so is an event's record
event_line_lem : (e : Event) → (one_line (event_line e) ≡ true) × (has_newline (event_line e) ≡ true)
unfolding event_line
event_line_lem (Does a) = record_line (Asks (ask_by a.kind)) a.job a.cell
event_line_lem (Ends m j) = record_line (mark_letter m) j 0

-- what holds for every line holds for all but the last
but_last : (f : List ℕ → Bool) (ls : List (List ℕ)) → every f ls ≡ true → every f (drop_last ls) ≡ true
unfolding every
but_last f [] h = refl
but_last f (l ∷ []) h = refl
but_last f (l ∷ m ∷ ls) h =
    and_both (f l) (every f (drop_last (m ∷ ls))) (and_first (f l) (every f (m ∷ ls)) h) (but_last f (m ∷ ls) (and_second (f l) (every f (m ∷ ls)) h))

-- a test that every record passes
every_event : (f : List ℕ → Bool) → ((e : Event) → f (event_line e) ≡ true) → (h : History) → every f (map event_line h) ≡ true
unfolding every
every_event f each [] = refl
every_event f each (e ∷ h) = and_both (f (event_line e)) (every f (map event_line h)) (each e) (every_event f each h)

-- the text of some events followed by others
pub text_append : (h k : History) → text_of (h ++ k) ≡ text_of h ++ text_of k
unfolding text_of
text_append [] k = refl
text_append (e ∷ h) k = ap (λ t. event_line e ++ t) (text_append h k) ∙ sym (append_assoc (event_line e) (text_of h) (text_of k))

-- the text is its records, joined
text_joined : (h : History) → text_of h ≡ joined (map event_line h)
unfolding text_of joined
text_joined [] = refl
text_joined (e ∷ h) = ap (λ t. event_line e ++ t) (text_joined h)

-- the lines of a history's text are its records
pub text_lines : (h : History) → lines_of (text_of h) ≡ map event_line h
text_lines h =
    ap lines_of (text_joined h)
    ∙ lines_only (map event_line h) (every_event one_line (λ e. (event_line_lem e).0) h) (but_last has_newline (map event_line h) (every_event has_newline (λ e. (event_line_lem e).1) h))
