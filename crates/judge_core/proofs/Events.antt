-- A history kept in arrays, from its front: its events line by line, and the marks among them.
-- Assumes nothing.
use Prim.Native.Nat.{ℕ, zero, suc, ◌+◌}
use mathlib.Core.Path.{◌≡◌, refl, sym, ap, ◌∙◌}
use mathlib.Core.List.{List, [], ◌∷◌, ◌++◌}
use native.Mathlib.Nat.{add-zero, zero-add}
use native.Mathlib.Omega.{arith}
use lib.ListN.{length}
use Rattle.conflict.specs.History.{History}
use Rattle.judge_rules.specs.Arrays.{history_by}
use Rattle.judge_core.specs.Kept.{event_at}

module _ (codes jobs cells : List ℕ) where
  -- the events of the m lines from k on
  unfoldable pub events_from : ℕ → ℕ → History
  events_from k zero = []
  events_from k (suc m) = event_at codes jobs cells k ∷ events_from (suc k) m

  -- one line more stands at the end
  pub events_more : (k m : ℕ) → events_from k (suc m) ≡ events_from k m ++ event_at codes jobs cells (k + m) ∷ []
  unfolding events_from
  events_more k zero = rw (add-zero k)
  events_more k (suc m) = ap (λ h. event_at codes jobs cells k ∷ h) (events_more (suc k) m ∙ ap (λ n. events_from (suc k) m ++ event_at codes jobs cells n ∷ []) (omega arith))

  -- the history of the first n lines is their events
  pub history_events : (n : ℕ) → history_by codes jobs cells n ≡ events_from 0 n
  unfolding history_by events_from event_at
  history_events zero = refl
  history_events (suc n) =
      ap (λ h. h ++ event_at codes jobs cells n ∷ []) (history_events n) ∙ sym (events_more 0 n ∙ ap (λ p. events_from 0 n ++ event_at codes jobs cells p ∷ []) (zero-add n))

  -- as many as there are lines
  pub events_length : (k m : ℕ) → length (events_from k m) ≡ m
  unfolding events_from
  events_length k zero = refl
  events_length k (suc m) = ap suc (events_length (suc k) m)

  -- parted at line k
  pub events_parted : (j m b k r : ℕ) → m ≡ b + suc r → k ≡ j + b → events_from j m ≡ events_from j b ++ event_at codes jobs cells k ∷ events_from (suc k) r
  unfolding events_from
  events_parted j m zero k r e l =
      let one' : m ≡ suc r = omega arith in
      let two' : k ≡ j = omega arith in
      rw (one', two')
  events_parted j m (suc b) k r e l =
      let one' : m ≡ suc (b + suc r) = omega arith in
      rw one' (ap (λ h. event_at codes jobs cells j ∷ h) (events_parted (suc j) (b + suc r) b k r refl (omega arith)))
