-- Status codes: the code of each status; a waiting place waits for one cell with one ask; how a change of codes changes the status.
-- Assumes nothing.
use Prim.Native.Nat.{ℕ, ◌<◌}
use mathlib.Core.Path.{◌≡◌, refl, ap}
use mathlib.Core.Logic.{◌≢◌}
use mathlib.Core.Bool.{true}
use mathlib.Core.List.{List}
use native.Mathlib.Omega.{arith}
use lib.Dec.{eqb}
use lib.ListN.{length, get_or, set, get_or-eq_default}
use lib.Seq.{get_or-set_same, get_or-set_other}
use borrow.Author.Tests.{eqb-true, eqb-false, eq-eqb}
use Rattle.laws.specs.Choice.{by_test, not_both}
use Rattle.laws.proofs.Parts.{and_first, and_second, and_both}
use Rattle.terms.specs.declared.letters.Ask.{Ask}
use Rattle.terms.specs.declared.letters.Ask.TheVariants.{Read, Write, Increment, Update}
use Rattle.laws.specs.Functions.{at}
use Rattle.desk_rules.specs.Desk.{Status, closed, running, waiting, sentback, is_open}
use Rattle.desk_rules.proofs.Statuses.{running_open, waiting_open, sentback_open, closed_not_open, running_not_waiting, sentback_not_waiting, not_open_not_waiting, one_cell, one_ask}
use Rattle.laws.proofs.Functions.{at_all}
use Rattle.desk_arrays.specs.Codes.{free_code, waiting_code, sent_back_code, ask_code, ask_of}
use Rattle.desk_arrays.specs.Places.{waits_at}
use Rattle.desk_arrays.specs.Stands.{status_for, status_at}
use Rattle.desk_arrays.proofs.Cases.{by_below}

-- what was asked is read back from its number
pub ask_code_lem : (a : Ask) → ask_of (ask_code a) ≡ a
ask_code_lem Read = refl
ask_code_lem Write = refl
ask_code_lem Increment = refl
ask_code_lem Update = refl

-- a proof by what the code says
pub by_code : (P : Status → Type 0) (code c : ℕ) (a : Ask) → (code ≡ free_code → P closed) → (code ≡ waiting_code → P (waiting c a)) → (code ≡ sent_back_code → P sentback) → (code ≢ waiting_code → P running) → P (status_for code c a)
unfolding status_for
by_code P code c a f w b r =
    by_test (eqb code free_code) (λ t. rw t (f (eqb-true code free_code t)))
    (λ n. rw n (by_test (eqb code waiting_code) (λ t. rw t (w (eqb-true code waiting_code t)))
    (λ m. rw m (by_test (eqb code sent_back_code) (λ t. rw t (b (eqb-true code sent_back_code t))) (λ k. rw k (r (eqb-false code waiting_code m)))))))

-- only the free code is closed
pub closed_code : (code c : ℕ) (a : Ask) → status_for code c a ≡ closed → code ≡ free_code
closed_code code c a =
    by_code (λ s. s ≡ closed → code ≡ free_code) code c a (λ e _. e) (λ _ h. opened (waiting_open refl) h) (λ _ h. opened (sentback_open refl) h) (λ _ h. opened (running_open refl) h)
  where
    opened : {s : Status} → is_open s ≡ true → s ≡ closed → code ≡ free_code
    opened o h = not_both o (closed_not_open h)

-- only the waiting code waits, for the cell and with the ask beside it
waiting_code_lem : (code c : ℕ) (a : Ask) {b : ℕ} {k : Ask} → status_for code c a ≡ waiting b k → (code ≡ waiting_code) × (c ≡ b) × (a ≡ k)
waiting_code_lem code c a {b} {k} =
    by_code (λ s. s ≡ waiting b k → (code ≡ waiting_code) × (c ≡ b) × (a ≡ k)) code c a
    (λ _ h. absurd (not_open_not_waiting (closed_not_open refl) h)) (λ e h. (e, one_cell refl h, one_ask refl h))
    (λ _ h. absurd (sentback_not_waiting refl h)) (λ _ h. absurd (running_not_waiting refl h))

module _ (status cell ask : List ℕ) where
  -- a place that waits for a cell has a job that does, with what was asked
  pub waits_status : (c q : ℕ) → waits_at status cell c q ≡ true → status_at status cell ask q ≡ waiting c (ask_of (get_or ask q 0))
  unfolding waits_at status_at status_for
  waits_status c q h =
      rw (eqb-true (get_or status q 0) waiting_code (and_first (eqb (get_or status q 0) waiting_code) (eqb (get_or cell q 0) c) h), eqb-true (get_or cell q 0) c (and_second (eqb (get_or status q 0) waiting_code) (eqb (get_or cell q 0) c) h))

  -- only a place within the list waits
  pub waits_below : (c q : ℕ) → waits_at status cell c q ≡ true → q < length status
  unfolding waits_at
  waits_below c q h =
      by_below q (length status) (λ l. l)
      (λ l. absurd (none' (get_or-eq_default status 0 l) (eqb-true (get_or status q 0) waiting_code (and_first (eqb (get_or status q 0) waiting_code) (eqb (get_or cell q 0) c) h))))
    where
      none' : {x : ℕ} → x ≡ 0 → x ≡ waiting_code → ⊥
      none' e g = omega arith

  -- a job that waits for a cell has a place that does
  pub status_waits : (q : ℕ) {c : ℕ} {a : Ask} → status_at status cell ask q ≡ waiting c a → (waits_at status cell c q ≡ true) × (ask_of (get_or ask q 0) ≡ a)
  unfolding waits_at status_at
  status_waits q {c} h =
      let (e, f, g) = waiting_code_lem (get_or status q 0) (get_or cell q 0) (ask_of (get_or ask q 0)) h in
      (and_both (eqb (get_or status q 0) waiting_code) (eqb (get_or cell q 0) c) (eq-eqb (get_or status q 0) waiting_code e) (eq-eqb (get_or cell q 0) c f), g)

  -- a code set at one place is the status it says there, and no other place's changes
  pub set_status : (p code : ℕ) → p < length status → (q : ℕ) → status_at (set status p code) cell ask q ≡ at (status_at status cell ask) p (status_for code (get_or cell p 0) (ask_of (get_or ask p 0))) q
  unfolding status_at
  set_status p code h =
      at_all (λ q s. status_at (set status p code) cell ask q ≡ s) (status_at status cell ask) p (status_for code (get_or cell p 0) (ask_of (get_or ask p 0)))
      (rw (get_or-set_same status p code 0 h)) (λ q n. rw (get_or-set_other status p q code 0 n))

  -- a place set to wait for a cell
  pub set_waiting : (p c : ℕ) (a : Ask) → p < length status → p < length cell → p < length ask → (q : ℕ) → status_at (set status p waiting_code) (set cell p c) (set ask p (ask_code a)) q ≡ at (status_at status cell ask) p (waiting c a) q
  unfolding status_at status_for
  set_waiting p c a h g k =
      at_all (λ q s. status_at (set status p waiting_code) (set cell p c) (set ask p (ask_code a)) q ≡ s) (status_at status cell ask) p (waiting c a)
      (rw (get_or-set_same status p waiting_code 0 h, get_or-set_same cell p c 0 g, get_or-set_same ask p (ask_code a) 0 k) (ap (waiting c) (ask_code_lem a)))
      (λ q n. rw (get_or-set_other status p q waiting_code 0 n, get_or-set_other cell p q c 0 n, get_or-set_other ask p q (ask_code a) 0 n))
