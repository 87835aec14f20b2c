-- What the program `chain` tells: the desk after the lines of a text, and the chains of its waiting jobs, one line each (02, No. 3).
use Rattle.std.specs.Prelude.{ℕ, ◌+◌, List, [], ◌∷◌, ◌++◌, ltb}
use Rattle.laws.specs.Choice.{pick}
use Rattle.terms.specs.Limits.{request_lines}
use Rattle.text_rules.specs.Records.{jobs_line}
use Rattle.desks.specs.Stepping.{Stepping}
use Rattle.program_rules.specs.OverLines.{line_by}

-- the desk after the lines, numbered from n on; nothing is read after line 1,000,000 (01, Lines)
unfoldable pub desk_over : {S : Type 0} → Stepping S → S → ℕ → List (List ℕ) → S
desk_over step d n [] = d
desk_over step d n (l ∷ ls) =
    let rest = desk_over step (line_by step d n l).desk (n + 1) ls in
    pick (ltb request_lines n) d rest

-- chains as text: one line each, with a tab between jobs (02, No. 3)
unfoldable pub chain_text : List (List ℕ) → List ℕ
chain_text [] = []
chain_text (js ∷ rest) = jobs_line js ++ chain_text rest
