-- Quick tests on two jobs' lines: on which cells each has actions of a kind, and where its last one stands (01, The judge's rules).
use Rattle.std.specs.Prelude.{ℕ, ◌+◌, ◌-◌, ◌*◌, ◌≤◌, ◌<◌, ◌≡◌, Bool, true, ◌&&◌, List, ltb, length, get_or}
use Rattle.laws.specs.Lists.{member}
use Rattle.conflict.specs.declared.cells.Touched.{Touched}
use Rattle.conflict.specs.Schedule.{conflicts}
use Rattle.conflict.specs.Cells.{in_set, can_conflict}
use Rattle.judge_core.specs.Meeting.{action_by, action_at, clashing}
use Rattle.judge_core.specs.Grouped.{part_at, Parted}
use Rattle.judge_core.specs.Sizes.{slots, kind_sets, keys}

-- each owned line is an action of its owner, on a cell
pub record Acting (codes jobs cells owners : List ℕ) (n : ℕ) : Type 0 where
  pub small : (p : ℕ) → p < n → get_or owners p 0 < slots
  pub job : (p : ℕ) → p < n → (get_or owners p 0 ≡ 0 → ⊥) → get_or jobs p 0 ≡ get_or owners p 0
  pub code : (p : ℕ) → p < n → (get_or owners p 0 ≡ 0 → ⊥) → get_or codes p 0 < 3
  pub cell : (p : ℕ) → p < n → (get_or owners p 0 ≡ 0 → ⊥) → get_or cells p 0 < 64

-- the index of the set of cells of job j's actions of a kind
abbrev pub set_key : ℕ → ℕ → ℕ
set_key j k = k * 256 + j

-- each job's set of a kind has the cells of its lines of that kind
pub record Covered (codes cells owners : List ℕ) (n : ℕ) (sets : List ℕ) : Type 0 where
  pub wide : length sets ≡ kind_sets
  pub has : (p : ℕ) → p < n → get_or codes p 0 < 3 → get_or cells p 0 < 64 → in_set (get_or sets (set_key (get_or owners p 0) (get_or codes p 0)) 0) (get_or cells p 0) ≡ true

-- the sets of job j
unfoldable pub touched_at : List ℕ → ℕ → Touched
touched_at sets j = record { reads = get_or sets (set_key j 0) 0; writes = get_or sets (set_key j 1) 0; increments = get_or sets (set_key j 2) 0 }

-- the index of job j's last action of a kind on cell c; kind 3 stands for its last action of any kind
abbrev pub last_key : ℕ → ℕ → ℕ → ℕ
last_key j k c = c * 1024 + j * 4 + k

-- each entry is one more than the last line of that job, kind and cell, or 0 if there is none; no line of the job on the cell stands after the entry for any kind
pub record Lasts (codes cells owners : List ℕ) (n : ℕ) (lasts : List ℕ) : Type 0 where
  pub wide : length lasts ≡ keys
  pub far : (p : ℕ) → p < n → (get_or owners p 0 ≡ 0 → ⊥) → p < get_or lasts (last_key (get_or owners p 0) (get_or codes p 0) (get_or cells p 0)) 0
  pub any : (p : ℕ) → p < n → (get_or owners p 0 ≡ 0 → ⊥) → p < get_or lasts (last_key (get_or owners p 0) 3 (get_or cells p 0)) 0
  pub line : (j k c : ℕ) → j < slots → k < 3 → c < 64 → 0 < get_or lasts (last_key j k c) 0 → get_or lasts (last_key j k c) 0 ≤ n
  pub owner : (j k c : ℕ) → j < slots → k < 3 → c < 64 → 0 < get_or lasts (last_key j k c) 0 → get_or owners (get_or lasts (last_key j k c) 0 - 1) 0 ≡ j
  pub code : (j k c : ℕ) → j < slots → k < 3 → c < 64 → 0 < get_or lasts (last_key j k c) 0 → get_or codes (get_or lasts (last_key j k c) 0 - 1) 0 ≡ k
  pub cell : (j k c : ℕ) → j < slots → k < 3 → c < 64 → 0 < get_or lasts (last_key j k c) 0 → get_or cells (get_or lasts (last_key j k c) 0 - 1) 0 ≡ c

-- the lines ys are actions of job j, and the last of each kind on each cell is in the table
pub record Reach (codes jobs cells lasts : List ℕ) (j : ℕ) (ys : List ℕ) : Type 0 where
  pub job : (y : ℕ) → member y ys ≡ true → get_or jobs y 0 ≡ j
  pub code : (y : ℕ) → member y ys ≡ true → get_or codes y 0 < 3
  pub cell : (y : ℕ) → member y ys ≡ true → get_or cells y 0 < 64
  pub far : (y : ℕ) → member y ys ≡ true → y < get_or lasts (last_key j (get_or codes y 0) (get_or cells y 0)) 0
  pub any : (y : ℕ) → member y ys ≡ true → y < get_or lasts (last_key j 3 (get_or cells y 0)) 0
  pub there : (k c : ℕ) → k < 3 → c < 64 → 0 < get_or lasts (last_key j k c) 0 → member (get_or lasts (last_key j k c) 0 - 1) ys ≡ true
  pub there_code : (k c : ℕ) → k < 3 → c < 64 → 0 < get_or lasts (last_key j k c) 0 → get_or codes (get_or lasts (last_key j k c) 0 - 1) 0 ≡ k
  pub there_cell : (k c : ℕ) → k < 3 → c < 64 → 0 < get_or lasts (last_key j k c) 0 → get_or cells (get_or lasts (last_key j k c) 0 - 1) 0 ≡ c

-- whether job j's last action of a kind on line x's cell stands after line x and conflicts with its action
unfoldable pub last_met : List ℕ → List ℕ → List ℕ → List ℕ → ℕ → ℕ → ℕ → Bool
last_met codes jobs cells lasts j x k = ltb (x + 1) (get_or lasts (last_key j k (get_or cells x 0)) 0) && conflicts (action_at codes jobs cells x) (action_by k j (get_or cells x 0))

-- whether line x is on a cell of the set, and job j's last action on that cell stands after it
unfoldable pub may_meet : List ℕ → List ℕ → ℕ → ℕ → ℕ → Bool
may_meet cells lasts mask j x = (ltb (get_or cells x 0) 64 && in_set mask (get_or cells x 0)) && ltb (x + 1) (get_or lasts (last_key j 3 (get_or cells x 0)) 0)

-- lines of xs conflict with lines of ys only on cells of the set
abbrev pub Masked : List ℕ → List ℕ → List ℕ → ℕ → List ℕ → List ℕ → Type 0
Masked codes jobs cells mask xs ys = (x y : ℕ) → member x xs ≡ true → member y ys ≡ true → clashing codes jobs cells x y ≡ true → in_set mask (get_or cells x 0) ≡ true

-- everything from which the edges are worked out
pub record Worked (codes jobs cells lines starts lasts sets : List ℕ) : Type 0 where
  pub parts : Parted lines starts
  pub reach : (j : ℕ) → j < slots → (j ≡ 0 → ⊥) → Reach codes jobs cells lasts j (part_at lines starts j)
  pub masks : (i j m : ℕ) → i < slots → j < slots → (i ≡ 0 → ⊥) → (j ≡ 0 → ⊥) → ((c : ℕ) → in_set m c ≡ can_conflict (touched_at sets i) (touched_at sets j) c) → Masked codes jobs cells m (part_at lines starts i) (part_at lines starts j)
