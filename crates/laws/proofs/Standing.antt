-- Laws of standing in a list: nothing stands in the empty list; one element more; two lists joined.
-- Assumes nothing.
use mathlib.Core.Path.{◌≡◌, refl, subst}
use mathlib.Core.List.{List, [], ◌∷◌, ◌++◌}
use Rattle.laws.specs.Standing.{In, first, later}

-- nobody stands in an empty list
pub in_none : {P A : Type 0} {w : A} → In w [] → P
in_none = elim [ ]

-- what stands in a list is its first or stands in the rest
pub in_split : {P A : Type 0} {w v : A} {q : List A} → In w (v ∷ q) → (w ≡ v → P) → (In w q → P) → P
in_split first f g = f refl
in_split (later h) f g = g h

-- a list's first stands in it
pub is_first : {A : Type 0} {w v : A} {q : List A} → w ≡ v → In w (v ∷ q)
is_first {w = w} {q = q} e = subst (λ x. In w (x ∷ q)) e first

-- an element of the first of two lists stands in both put together
pub in_left : {A : Type 0} {w : A} {p : List A} (q : List A) → In w p → In w (p ++ q)
in_left q first = first
in_left q (later h) = later (in_left q h)

-- and so does an element of the second
pub in_right : {A : Type 0} {w : A} (p : List A) {q : List A} → In w q → In w (p ++ q)
in_right [] h = h
in_right (v ∷ p) h = later (in_right p h)

-- an element of two lists put together stands in one of them
pub in_either : {P A : Type 0} {w : A} (p q : List A) → In w (p ++ q) → (In w p → P) → (In w q → P) → P
in_either [] q h f g = g h
in_either (v ∷ p) q h f g = in_split h (λ e. f (is_first e)) (λ l. in_either p q l (λ k. f (later k)) g)
