-- Rules 1 to 3, branch by branch: each branch of the code, with the tests that lead there, gives the move that the definition decides.
-- Assumes nothing.
use Prim.Native.Nat.{ℕ}
use mathlib.Core.Path.{◌≡◌}
use mathlib.Core.Bool.{Bool, true, false, ◌&&◌}
use mathlib.Core.List.{List}
use Rattle.terms.specs.declared.letters.Ask.{Ask}
use Rattle.conflict.specs.declared.modes.Mode.{Mode}
use Rattle.conflict.specs.Modes.{needed, covers, asked, is_free}
use Rattle.desk_arrays.specs.declared.moves.Ending.TheVariants.{SentBack}
use Rattle.desk_arrays.specs.declared.moves.Move.{Move}
use Rattle.desk_arrays.specs.declared.moves.Move.TheVariants.{Keep, Take, Stay, End}
use Rattle.desk_arrays.specs.Places.{mode_at, agrees_at, older_at, nobody_waits, oldest_of}
use Rattle.desk_arrays.specs.Moves.{promotes, enters, decided}

module _ (number status cell held : List ℕ) (p c job : ℕ) (a : Ask) where
  module _ {need : Mode} (needs : need ≡ needed a) {t : Bool} (taking : t ≡ (nobody_waits status cell c && agrees_at held c p need)) where
    -- rule 3: the queue is empty, and the mode agrees
    pub takes : t ≡ true → Take p need ≡ enters number status cell held p c job a
    unfolding enters
    takes h = rw (← needs, ← taking, h)

    module _ (not-now : t ≡ false) {u : Bool} (older : u ≡ (older_at held number c p job && oldest_of number status cell c job)) where
      -- rule 3: older than every holder and every waiter
      pub waits : u ≡ true → Stay p a ≡ enters number status cell held p c job a
      unfolding enters
      waits h = rw (← needs, ← taking, not-now, ← older, h)

      -- rule 3: not so
      pub leaves : u ≡ false → End p SentBack ≡ enters number status cell held p c job a
      unfolding enters
      leaves h = rw (← needs, ← taking, not-now, ← older, h)

  module _ {mine need m : Mode} (has : mine ≡ mode_at held c p) (needs : need ≡ needed a) (wants : m ≡ asked mine need) {t : Bool} (agreeing : t ≡ agrees_at held c p m) where
    -- rule 2: the new mode agrees with the other holders
    pub promoted : t ≡ true → Take p m ≡ promotes number held p c job a
    unfolding promotes
    promoted h = rw (← has, ← needs, ← wants, ← agreeing, h)

    module _ (others : t ≡ false) {u : Bool} (older : u ≡ older_at held number c p job) where
      -- rule 2: older than every other holder
      pub waits_promoted : u ≡ true → Stay p a ≡ promotes number held p c job a
      unfolding promotes
      waits_promoted h = rw (← has, ← needs, ← wants, ← agreeing, others, ← older, h)

      -- rule 2: not so
      pub leaves_promoted : u ≡ false → End p SentBack ≡ promotes number held p c job a
      unfolding promotes
      leaves_promoted h = rw (← has, ← needs, ← wants, ← agreeing, others, ← older, h)

  module _ {mine need : Mode} (has : mine ≡ mode_at held c p) (needs : need ≡ needed a) {r : Bool} (covering : r ≡ covers mine need) where
    -- rule 1: a covering mode is held
    pub keeps : r ≡ true → Keep ≡ decided number status cell held p c job a
    unfolding decided
    keeps h = rw (← has, ← needs, ← covering, h)

    module _ (uncovered : r ≡ false) {s : Bool} (freely : s ≡ is_free mine) {m : Move} where
      -- else a job that holds nothing enters
      pub goes_in : s ≡ true → m ≡ enters number status cell held p c job a → m ≡ decided number status cell held p c job a
      unfolding decided
      goes_in h e = rw (← has, ← needs, ← covering, uncovered, ← freely, h) e

      -- and one that holds another mode is promoted
      pub goes_up : s ≡ false → m ≡ promotes number held p c job a → m ≡ decided number status cell held p c job a
      unfolding decided
      goes_up h e = rw (← has, ← needs, ← covering, uncovered, ← freely, h) e
