-- The jobs of the committed part are jobs with a c; and a list that has all jobs of a list that names a schedule's jobs names them too.
-- Assumes nothing.
use Prim.Native.Nat.{ℕ}
use mathlib.Core.Path.{◌≡◌, refl}
use mathlib.Core.Bool.{true, not, ◌&&◌}
use mathlib.Core.List.{List, [], ◌∷◌}
use Rattle.laws.specs.Choice.{by_test}
use Rattle.laws.specs.Lists.{member}
use Rattle.laws.proofs.Parts.{and_first, and_second, and_both}
use Rattle.conflict.specs.declared.action.Event.TheVariants.{Does, Ends}
use Rattle.conflict.specs.Schedule.{Schedule, keep, names}
use Rattle.conflict.specs.History.{History, is_commit, is_back, marked, part_of, committed_part}

-- a list that has every job of one that names a schedule's jobs names them too
pub names_wider : (part order : List ℕ) (s : Schedule) → ((j : ℕ) → member j part ≡ true → member j order ≡ true) → names part s ≡ true → names order s ≡ true
unfolding names
names_wider part order [] wider h = refl
names_wider part order (a ∷ s) wider h =
    and_both (member a.job order) (names order s) (wider a.job (and_first (member a.job part) (names part s) h))
    (names_wider part order s wider (and_second (member a.job part) (names part s) h))

-- among the lines that are left, only actions of jobs with a c in the whole are kept
part_names : (order : List ℕ) (whole h : History) → ((j : ℕ) → marked is_commit j whole ≡ true → member j order ≡ true) → names order (part_of whole h) ≡ true
unfolding names part_of keep
part_names order whole [] listed' = refl
part_names order whole (Does a ∷ h) listed' =
    by_test (marked is_commit a.job whole && not (marked is_back a.job h))
    (λ t. rw t (and_both (member a.job order) (names order (part_of whole h))
    (listed' a.job (and_first (marked is_commit a.job whole) (not (marked is_back a.job h)) t)) (part_names order whole h listed')))
    (λ f. rw f (part_names order whole h listed'))
part_names order whole (Ends m i ∷ h) listed' = part_names order whole h listed'

-- a list that has every job with a c names the jobs of the committed part
pub committed_part_names : (order : List ℕ) (h : History) → ((j : ℕ) → marked is_commit j h ≡ true → member j order ≡ true) → names order (committed_part h) ≡ true
unfolding committed_part
committed_part_names order h listed' = part_names order h h listed'
