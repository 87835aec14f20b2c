-- The remaining jobs, kept as a flag for each number; and the result of a search among them, which may find none.
use Rattle.std.specs.Prelude.{ℕ, ◌-◌, Bool, false, List, get_or, Option, None, Some}
use Rattle.judge_core.specs.Lists.{listed}
use Rattle.judge_core.specs.Sizes.{slots}

-- the remaining jobs, in ascending order
unfoldable pub left_of : List Bool → List ℕ
left_of left = listed (λ j. get_or left j false) 0 slots

-- the remaining jobs from job i on
unfoldable pub left_from : List Bool → ℕ → List ℕ
left_from left i = listed (λ j. get_or left j false) i (slots - i)

-- the job found, or one above the largest if there is none
unfoldable pub or_nobody : Option ℕ → ℕ
or_nobody None = slots
or_nobody (Some j) = j
