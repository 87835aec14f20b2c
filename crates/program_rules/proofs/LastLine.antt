-- A line without its newline is a bad line, and so is answered as the end of the input answers it (01, Lines).
-- Assumes nothing.
use Prim.Native.Nat.{ℕ, ◌+◌, ◌<◌}
use mathlib.Core.Path.{◌≡◌, refl, sym, ap, ◌∙◌}
use mathlib.Core.Bool.{Bool, true, false}
use mathlib.Core.List.{List, [], ◌∷◌, ◌++◌}
use native.Mathlib.Omega.{arith}
use native.Mathlib.Numerals.{add-one}
use lib.Dec.{eqb, ltb, leb}
use lib.ListN.{take, set}
use lib.Seq.{take-suc-set}
use borrow.Author.Tests.{ltb-true}
use Rattle.std.specs.Prelude.{Err, Ok}
use Rattle.laws.specs.Choice.{pick, by_test, not_both}
use Rattle.terms.specs.declared.letters.Letter.{Letter}
use Rattle.terms.specs.declared.refusals.Field.{Field}
use Rattle.terms.specs.Letters.{byte_of, has_job, has_cell, of_requests}
use Rattle.terms.specs.Words.{newline}
use Rattle.terms.specs.Limits.{request_lines}
use Rattle.text_rules.specs.declared.splitter.Splitter.{Splitter}
use Rattle.text_rules.specs.Fields.{lacking}
use Rattle.text_rules.specs.Lines.{read_line, Reading}
use Rattle.text_rules.specs.Records.{field, line_record}
use Rattle.text_rules.specs.Split.{kept, fresh, taken, after_all, Sized, found_at, found_last, has_newline}
use Rattle.text_rules.proofs.Cuts.{taken_ended}
use Rattle.text_rules.proofs.Held.{fresh_sized, taken_sized}
use Rattle.text_rules.proofs.GoodLine.{good_is_record}
use Rattle.desks.specs.Stepping.{Stepping}
use Rattle.program_rules.specs.OverLines.{answered, line_by}
use Rattle.program_rules.specs.Work.{told_bad, unended, owing}
use Rattle.program_rules.specs.Tellings.{telling, tellings, desk_after}

-- what ends in a byte ends in a newline where that byte is one
last_byte : (l : List ℕ) (b : ℕ) → has_newline (l ++ b ∷ []) ≡ eqb b newline
unfolding has_newline
last_byte [] b = refl
last_byte (x ∷ []) b = refl
last_byte (x ∷ y ∷ l) b = last_byte (y ∷ l) b

-- a good line ends in a newline, so what does not is a bad line
no_newline_bad : (which : Letter → Bool) (bytes : List ℕ) → has_newline bytes ≡ false → (at : Field) × (read_line which bytes ≡ Err at)
no_newline_bad which bytes f = go (read_line which bytes) refl
  where
    ends : (l : Letter) (job cell : ℕ) → has_newline (line_record l job cell) ≡ true
    ends l job cell = unfold line_record in last_byte (byte_of l ∷ (field (has_job l) job ++ field (has_cell l) cell)) newline

    go : (r : Reading) → read_line which bytes ≡ r → (at : Field) × (read_line which bytes ≡ Err at)
    go (Ok line) e = not_both (ap has_newline (good_is_record which bytes line.letter line.job line.cell e).0 ∙ ends line.letter line.job line.cell) f
    go (Err at) e = (at, e)

-- a line under way does not end in a newline
pub record Open (s : Splitter) : Type 0 where
  pub sized : Sized s
  pub ends : s.ended ≡ false → has_newline (take s.len s.kept) ≡ false

-- the bytes kept so far, and one byte more
kept_more : (s : Splitter) (b : ℕ) → Sized s → s.len < kept → take (s.len + 1) (set s.kept s.len b) ≡ take s.len s.kept ++ b ∷ []
kept_more s b h l = let r = h.room in rw add-one (take-suc-set s.kept s.len b (omega arith))

-- after a byte that is no newline
still_open : (s : Splitter) (b : ℕ) → Open s → eqb b newline ≡ false → has_newline (take (taken s b).len (taken s b).kept) ≡ false
unfolding taken
still_open s b h f =
    by_test s.ended
    (λ e. let r = h.sized.room in rw (e, take-suc-set s.kept 0 b (omega arith)) (last_byte [] b ∙ f))
    (λ e.
    by_test (ltb s.len kept)
    (λ g. rw (e, g, kept_more s b h.sized (ltb-true s.len kept g)) (last_byte (take s.len s.kept) b ∙ f))
    (λ g. rw (e, g) (h.ends e)))

-- one byte more
open_taken : (s : Splitter) (b : ℕ) → Open s → Open (taken s b)
open_taken s b h = record { sized = taken_sized s b h.sized; ends = λ e. still_open s b h (sym (taken_ended s b) ∙ e) }

-- any bytes
open_after : (s : Splitter) (t : List ℕ) → Open s → Open (after_all s t)
unfolding after_all
open_after s [] h = h
open_after s (b ∷ t) h = open_after (taken s b) t (open_taken s b h)

-- before any byte no line is under way
fresh_ended : fresh.ended ≡ true
unfolding fresh
fresh_ended = refl

-- so from the start on
pub open_always : (t : List ℕ) → Open (after_all fresh t)
open_always t = open_after fresh t (record { sized = fresh_sized; ends = λ e. not_both fresh_ended e })

-- what is told of a line that lacks its newline when the input has ended
pub last_told : {S : Type 0} (step : Stepping S) (d : S) (s : Splitter) → Open s → tellings step d (found_last s) ≡ pick (owing s) (unended s ∷ []) []
unfolding tellings telling found_last found_at line_by answered told_bad lacking unended owing
last_told step d s h =
    by_test s.ended (λ e. rw e)
    (λ e. by_test (leb s.line request_lines) (λ g. let b = no_newline_bad of_requests (take s.len s.kept) (h.ends e) in rw (e, g, b.1)) (λ g. rw (e, g)))

-- and the desk stays as it is, since the line is bad
pub last_desk : {S : Type 0} (step : Stepping S) (d : S) (s : Splitter) → Open s → desk_after step d (found_last s) ≡ d
unfolding desk_after telling found_last found_at line_by answered
last_desk step d s h =
    by_test s.ended (λ e. rw e)
    (λ e. by_test (leb s.line request_lines) (λ g. let b = no_newline_bad of_requests (take s.len s.kept) (h.ends e) in rw (e, g, b.1)) (λ g. rw (e, g)))
