-- What it means to stand in a list.
-- Nothing here comes from the paper; the definition is open to every crate.
use Rattle.std.specs.Prelude.{List, ◌∷◌}

-- it stands in the list: a waiter in a queue, an action among the wakes, an event in a history
pub data In {A : Type 0} (w : A) : List A → Type 0 where
  first : {q : List A} → In w (w ∷ q)
  later : {v : A} {q : List A} → In w q → In w (v ∷ q)
