-- What the history notes of a request, by its letter and its answer, is what the paper's desk records of it (01, Lines).
-- Assumes nothing.
use Rattle.std.specs.Prelude.{◌⊎◌, Option, None, Some}
use Prim.Native.Nat.{ℕ}
use Rattle.std.proofs.Common.{inl, inr}
use mathlib.Core.Path.{◌≡◌, sym, ap, ◌∙◌}
use mathlib.Core.List.{append-nil}
use Rattle.terms.specs.declared.letters.Ask.{Ask}
use Rattle.terms.specs.declared.letters.Letter.{Letter}
use Rattle.terms.specs.declared.letters.Letter.TheVariants.{Begin, Commit, GiveUp, Retry, Back, Asks}
use Rattle.terms.specs.declared.refusals.Refusal.{Refusal}
use Rattle.terms.proofs.Alphabet.{letter_of_byte}
use Rattle.conflict.specs.declared.action.Kind.{Kind}
use Rattle.conflict.specs.Modes.{recorded}
use Rattle.text_rules.specs.declared.Line.{Line}
use Rattle.text_rules.specs.EventRecords.{ask_by, mark_letter, event_line, text_of}
use Rattle.desks.specs.declared.Answer.{Answer}
use Rattle.desks.specs.declared.Answer.TheVariants.{Go, Wait, Back as goes_back, No}
use Rattle.desks.specs.Records.{went_by, own_records}
use Rattle.clerk.specs.Parts.{asking, noted_bytes}

-- a line of a letter, a job and a cell
abbrev line_of : Letter → ℕ → ℕ → Line
line_of l job cell = record { letter = l; job = job; cell = cell }

-- what is noted of a request that goes
abbrev Went : Option Line → Letter → ℕ → ℕ → Type 0
Went n l job cell = noted_bytes n ≡ text_of (went_by (asking l cell) job (Some l))

module _ (l : Letter) (job cell : ℕ) where
  -- nothing of a begin, a retry, and of k, which is no request
  pub went_untold : (l ≡ Begin) ⊎ ((l ≡ Retry) ⊎ (l ≡ Back)) → Went None l job cell
  unfolding noted_bytes went_by text_of
  went_untold (inl e) = rw e
  went_untold (inr (inl e)) = rw e
  went_untold (inr (inr e)) = rw e

  -- c and a with the job
  pub went_ended : (l ≡ Commit) ⊎ (l ≡ GiveUp) → Went (Some (line_of l job 0)) l job cell
  unfolding noted_bytes went_by text_of event_line mark_letter
  went_ended (inl e) = rw e (sym (append-nil _))
  went_ended (inr e) = rw e (sym (append-nil _))

  -- r, w and i with job and cell, by the kind that is recorded: r for u (02, No. 1)
  pub went_asks : (a b : Ask) (k : Kind) → l ≡ Asks a → k ≡ recorded a → b ≡ ask_by k → Went (Some (line_of (Asks b) job cell)) l job cell
  unfolding noted_bytes went_by text_of event_line
  went_asks a b k e f g = rw (e, g, f) (sym (append-nil _))

module _ (l : Letter) (cell : ℕ) (a : Answer) where
  -- a go notes what its letter does
  pub own_go : (n : Option Line) (j : ℕ) → a ≡ Go j → Went n l j cell → noted_bytes n ≡ text_of (own_records (asking l cell) a)
  unfolding own_records
  own_go n j e w = rw e (w ∙ ap (λ k. text_of (went_by (asking l cell) j k)) (sym (letter_of_byte l)))

  -- a back notes k
  pub own_back : (j : ℕ) → a ≡ goes_back j → noted_bytes (Some (line_of Back j 0)) ≡ text_of (own_records (asking l cell) a)
  unfolding own_records noted_bytes text_of event_line mark_letter
  own_back j e = rw e (sym (append-nil _))

  -- a wait and a refusal note nothing
  pub own_wait : (j : ℕ) → a ≡ Wait j → noted_bytes None ≡ text_of (own_records (asking l cell) a)
  unfolding own_records noted_bytes text_of
  own_wait j e = rw e

  pub own_no : (why : Refusal) → a ≡ No why → noted_bytes None ≡ text_of (own_records (asking l cell) a)
  unfolding own_records noted_bytes text_of
  own_no why e = rw e
