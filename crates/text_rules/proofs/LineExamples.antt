-- The paper's sentences on lines, each shown on a line of bytes: one list for each reader, and one for both, with what each line says (01, Lines; 02, No. 1 and No. 5).
-- Assumes nothing.
use Prim.Native.Nat.{ℕ}
use mathlib.Core.Path.{◌≡◌, refl}
use mathlib.Core.List.{List, [], ◌∷◌, map}
use Rattle.std.specs.Prelude.{Err}
use Rattle.terms.specs.declared.letters.Ask.TheVariants.{Read, Write, Increment, Update}
use Rattle.terms.specs.declared.letters.Letter.TheVariants.{Begin, Commit, GiveUp, Retry, Back, Asks}
use Rattle.terms.specs.declared.refusals.Field.TheVariants.{First, Second, Third, Fourth}
use Rattle.terms.specs.Letters.{of_requests, of_histories}
use Rattle.text_rules.specs.Lines.{parts, field_ahead, after_field, is_digit, digits_only, value_from, shortest, is_number, number_then, ending, cell_part, job_part, letter_in, letter_part, read_line, Reading, good}

-- a line and what it says
pub record Example : Type 0 where
  pub line : List ℕ
  pub says : Reading

-- bad lines, each at the same field for both readers
abbrev pub either : List Example
either =
    -- an empty line, and x with no newline
    record { line = 10 ∷ []; says = Err First }
    ∷ record { line = 120 ∷ []; says = Err First }
    -- too few fields: c alone
    ∷ record { line = 99 ∷ 10 ∷ []; says = Err Second }
    -- no blank: c, 1 with one after it
    ∷ record { line = 99 ∷ 9 ∷ 49 ∷ 32 ∷ 10 ∷ []; says = Err Second }
    -- the lowest field at fault counts: r with no job, no cell and no newline
    ∷ record { line = 114 ∷ []; says = Err Second }
    -- digits only, up to the tab: r, 7x, 5
    ∷ record { line = 114 ∷ 9 ∷ 55 ∷ 120 ∷ 9 ∷ 53 ∷ 10 ∷ []; says = Err Second }
    -- digits only, up to the newline: r, 1, 5x, and r, 1, 5 with a carriage return
    ∷ record { line = 114 ∷ 9 ∷ 49 ∷ 9 ∷ 53 ∷ 120 ∷ 10 ∷ []; says = Err Third }
    ∷ record { line = 114 ∷ 9 ∷ 49 ∷ 9 ∷ 53 ∷ 13 ∷ 10 ∷ []; says = Err Third }
    -- a cell is missing, with the newline and without it: r, 1
    ∷ record { line = 114 ∷ 9 ∷ 49 ∷ 10 ∷ []; says = Err Third }
    ∷ record { line = 114 ∷ 9 ∷ 49 ∷ []; says = Err Third }
    -- a cell of three digits: r, 1, 100
    ∷ record { line = 114 ∷ 9 ∷ 49 ∷ 9 ∷ 49 ∷ 48 ∷ 48 ∷ 10 ∷ []; says = Err Third }
    -- a field too many: c, 1, 5
    ∷ record { line = 99 ∷ 9 ∷ 49 ∷ 9 ∷ 53 ∷ 10 ∷ []; says = Err Fourth }
    -- letter, job and cell are right, and only the newline is missing: r, 1, 5
    ∷ record { line = 114 ∷ 9 ∷ 49 ∷ 9 ∷ 53 ∷ []; says = Err Fourth }
    ∷ []

abbrev pub requests : List Example
requests =
    -- r, 7, 64 is well formed
    record { line = 114 ∷ 9 ∷ 55 ∷ 9 ∷ 54 ∷ 52 ∷ 10 ∷ []; says = good (Asks Read) 7 64 }
    -- b stands alone
    ∷ record { line = 98 ∷ 10 ∷ []; says = good Begin 0 0 }
    -- c, 4294967295: the largest job
    ∷ record { line = 99 ∷ 9 ∷ 52 ∷ 50 ∷ 57 ∷ 52 ∷ 57 ∷ 54 ∷ 55 ∷ 50 ∷ 57 ∷ 53 ∷ 10 ∷ []; says = good Commit 4_294_967_295 0 }
    -- c, 4294967296
    ∷ record { line = 99 ∷ 9 ∷ 52 ∷ 50 ∷ 57 ∷ 52 ∷ 57 ∷ 54 ∷ 55 ∷ 50 ∷ 57 ∷ 54 ∷ 10 ∷ []; says = Err Second }
    -- a, 1 gives up, and t, 1 retries
    ∷ record { line = 97 ∷ 9 ∷ 49 ∷ 10 ∷ []; says = good GiveUp 1 0 }
    ∷ record { line = 116 ∷ 9 ∷ 49 ∷ 10 ∷ []; says = good Retry 1 0 }
    -- w, 1, 99 and i, 1, 0: a cell has one or two digits
    ∷ record { line = 119 ∷ 9 ∷ 49 ∷ 9 ∷ 57 ∷ 57 ∷ 10 ∷ []; says = good (Asks Write) 1 99 }
    ∷ record { line = 105 ∷ 9 ∷ 49 ∷ 9 ∷ 48 ∷ 10 ∷ []; says = good (Asks Increment) 1 0 }
    -- u, 7, 5: a read with intent to write
    ∷ record { line = 117 ∷ 9 ∷ 55 ∷ 9 ∷ 53 ∷ 10 ∷ []; says = good (Asks Update) 7 5 }
    -- k is not a request: k, 1
    ∷ record { line = 107 ∷ 9 ∷ 49 ∷ 10 ∷ []; says = Err First }
    -- a field too many: b, 1
    ∷ record { line = 98 ∷ 9 ∷ 49 ∷ 10 ∷ []; says = Err Fourth }
    -- too few fields: r, 7
    ∷ record { line = 114 ∷ 9 ∷ 55 ∷ 10 ∷ []; says = Err Third }
    -- an empty field is a field: c and nothing after its tab
    ∷ record { line = 99 ∷ 9 ∷ 10 ∷ []; says = Err Second }
    -- a last line without its newline: c, 1
    ∷ record { line = 99 ∷ 9 ∷ 49 ∷ []; says = Err Fourth }
    -- a blank belongs to the first field: b with one after it
    ∷ record { line = 98 ∷ 32 ∷ 10 ∷ []; says = Err First }
    -- an empty field is a field too many: b and nothing after its tab
    ∷ record { line = 98 ∷ 9 ∷ 10 ∷ []; says = Err Fourth }
    -- a letter that stands alone, without its newline: b
    ∷ record { line = 98 ∷ []; says = Err Fourth }
    -- and the lines that are bad for both readers
    ∷ either

abbrev pub histories : List Example
histories =
    -- r, 7, 64 is well formed, and 100 as a cell is bad
    record { line = 114 ∷ 9 ∷ 55 ∷ 9 ∷ 54 ∷ 52 ∷ 10 ∷ []; says = good (Asks Read) 7 64 }
    ∷ record { line = 114 ∷ 9 ∷ 55 ∷ 9 ∷ 49 ∷ 48 ∷ 48 ∷ 10 ∷ []; says = Err Third }
    -- no leading zero, as in 05, except the single 0
    ∷ record { line = 114 ∷ 9 ∷ 55 ∷ 9 ∷ 48 ∷ 53 ∷ 10 ∷ []; says = Err Third }
    ∷ record { line = 114 ∷ 9 ∷ 48 ∷ 9 ∷ 48 ∷ 10 ∷ []; says = good (Asks Read) 0 0 }
    -- no sign, as in c, +1
    ∷ record { line = 99 ∷ 9 ∷ 43 ∷ 49 ∷ 10 ∷ []; says = Err Second }
    -- w, 1, 99 and i, 1, 0
    ∷ record { line = 119 ∷ 9 ∷ 49 ∷ 9 ∷ 57 ∷ 57 ∷ 10 ∷ []; says = good (Asks Write) 1 99 }
    ∷ record { line = 105 ∷ 9 ∷ 49 ∷ 9 ∷ 48 ∷ 10 ∷ []; says = good (Asks Increment) 1 0 }
    -- c, a and k belong to a history, and t, b and u do not
    ∷ record { line = 99 ∷ 9 ∷ 49 ∷ 10 ∷ []; says = good Commit 1 0 }
    ∷ record { line = 97 ∷ 9 ∷ 49 ∷ 10 ∷ []; says = good GiveUp 1 0 }
    ∷ record { line = 107 ∷ 9 ∷ 49 ∷ 10 ∷ []; says = good Back 1 0 }
    ∷ record { line = 116 ∷ 9 ∷ 49 ∷ 10 ∷ []; says = Err First }
    ∷ record { line = 98 ∷ 10 ∷ []; says = Err First }
    ∷ record { line = 117 ∷ 9 ∷ 55 ∷ 9 ∷ 53 ∷ 10 ∷ []; says = Err First }
    -- b is at fault whatever follows it: a blank, a tab, or no newline
    ∷ record { line = 98 ∷ 32 ∷ 10 ∷ []; says = Err First }
    ∷ record { line = 98 ∷ 9 ∷ 10 ∷ []; says = Err First }
    ∷ record { line = 98 ∷ []; says = Err First }
    -- and the lines that are bad for both readers
    ∷ either

-- each of these requests says what stands beside it
pub requests_say : map (λ e. read_line of_requests e.line) requests ≡ map (λ e. e.says) requests
unfolding parts field_ahead after_field is_digit digits_only value_from shortest is_number number_then ending cell_part job_part letter_in letter_part read_line
requests_say = refl

-- each of these lines of a history says what stands beside it
pub histories_say : map (λ e. read_line of_histories e.line) histories ≡ map (λ e. e.says) histories
unfolding parts field_ahead after_field is_digit digits_only value_from shortest is_number number_then ending cell_part job_part letter_in letter_part read_line
histories_say = refl
