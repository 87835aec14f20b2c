-- What the program `chain` writes, line by line: for each waiting job, in ascending order, the line of its chain; `chain_bytes` of `text_rules` gives such a line byte by byte (02, No. 3).
-- Assumes nothing.
use Prim.Native.Nat.{ℕ}
use mathlib.Core.Path.{◌≡◌, refl, ap, ◌∙◌}
use mathlib.Core.List.{List, [], ◌∷◌, ◌++◌, map}
use Rattle.text_rules.specs.Records.{jobs_line}
use Rattle.text_rules.specs.Split.{joined}
use Rattle.desk_rules.specs.Chain.{chain_of, waiting_below, all_chains}
use Rattle.program_rules.specs.Chains.{chain_text}
use Rattle.program_rules.specs.Programs.{desk_on, chains_of}

-- chains as text are their lines, one after another
lines_joined : (chains : List (List ℕ)) → chain_text chains ≡ joined (map jobs_line chains)
unfolding chain_text joined
lines_joined [] = refl
lines_joined (js ∷ rest) = ap (λ l. jobs_line js ++ l) (lines_joined rest)

-- the chains of some jobs, each as a line
chains_of_lem : (jobs : List ℕ) (chain : ℕ → List ℕ) → map jobs_line (map chain jobs) ≡ map (λ j. jobs_line (chain j)) jobs
chains_of_lem [] chain = refl
chains_of_lem (j ∷ jobs) chain = ap (λ (l : List (List ℕ)). jobs_line (chain j) ∷ l) (chains_of_lem jobs chain)

-- the program writes, for each job that waits on the desk after the lines of the text, the line of its chain, in their order
pub chains_joined : (text : List ℕ) → let d = desk_on text in (chains_of text ≡ joined (map (λ j. jobs_line (chain_of d j)) (waiting_below d.stat d.next)))
unfolding chains_of all_chains
chains_joined text =
    let d = desk_on text in
    lines_joined (map (chain_of d) (waiting_below d.stat d.next)) ∙ ap joined (chains_of_lem (waiting_below d.stat d.next) (chain_of d))
