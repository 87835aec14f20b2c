-- What a run tells of the lines of its text, line by line, and the requests in the lines (01, Lines; 01, refusal 9).
use Rattle.std.specs.Prelude.{ℕ, ◌+◌, ◌<◌, ◌≤◌, ◌≡◌, ◌↔◌, List, [], ◌∷◌, ◌++◌, ltb, Some, Err, Ok}
use Rattle.laws.specs.Choice.{pick}
use Rattle.terms.specs.declared.refusals.Field.{Field}
use Rattle.terms.specs.declared.refusals.Refusal.TheVariants.{BadLine}
use Rattle.terms.specs.Letters.{of_requests}
use Rattle.terms.specs.Limits.{request_lines}
use Rattle.text_rules.specs.Lines.{refusal_of, read_line, Reading}
use Rattle.desks.specs.declared.Answer.TheVariants.{No}
use Rattle.desks.specs.Request.{Request}
use Rattle.program_rules.specs.OverLines.{Told, request_in}

-- for lines numbered from n on: each line up to 1,000,000 has its answer under its number, refusal 9 with a field exactly if the line is bad at that field; later lines have none (01, Lines; 02, No. 5)
pub data LinesTold : ℕ → List (List ℕ) → List Told → Type 0 where
  no_line : {n : ℕ} → LinesTold n [] []
  no_more : {n : ℕ} {ls : List (List ℕ)} → request_lines < n → LinesTold n ls []
  a_line : {n : ℕ} {l : List ℕ} {ls : List (List ℕ)} {t : Told} {ts : List Told} → n ≤ request_lines → t.line ≡ n →
      ((at : Field) → (t.said ≡ No (BadLine at)) ↔ (refusal_of (read_line of_requests l) ≡ Some (BadLine at))) → LinesTold (n + 1) ls ts → LinesTold n (l ∷ ls) (t ∷ ts)

-- the request in a line; a bad line has none
unfoldable pub request_of : Reading → List Request
request_of (Err at) = []
request_of (Ok line) = request_in (Ok line) ∷ []

-- the requests in lines numbered from n on, up to line 1,000,000
unfoldable pub requests_from : ℕ → List (List ℕ) → List Request
requests_from n [] = []
requests_from n (l ∷ ls) = pick (ltb request_lines n) [] (request_of (read_line of_requests l) ++ requests_from (n + 1) ls)
