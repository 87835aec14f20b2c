-- What a good line is, with no way to read it: the record of a letter and its fields (01, Lines).
use Rattle.std.specs.Prelude.{ℕ, ◌≤◌, ◌≡◌, Bool, true, false, List}
use Rattle.terms.specs.declared.letters.Letter.{Letter}
use Rattle.terms.specs.Letters.{has_job, has_cell}
use Rattle.terms.specs.Limits.{last_number}
use Rattle.text_rules.specs.Lines.{last_cell}
use Rattle.text_rules.specs.Records.{line_record}

-- a good line: the record of a letter that such lines may begin with, with fields that are not too large, and 0 for a field that the letter does not have
abbrev pub GoodLine : (Letter → Bool) → List ℕ → Letter → ℕ → ℕ → Type 0
GoodLine which bytes l job cell =
    (bytes ≡ line_record l job cell) × (which l ≡ true) × (job ≤ last_number) × (cell ≤ last_cell) × (has_job l ≡ false → job ≡ 0) × (has_cell l ≡ false → cell ≡ 0)
