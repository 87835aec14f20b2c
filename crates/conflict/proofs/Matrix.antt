-- The matrix of lock modes, row by row and both ways: what is granted beside each held mode, and what may be held together (01, The desk's rules; 02, No. 1; 000, 18.4.4).
-- Assumes nothing.
use mathlib.Core.Path.{◌≡◌, refl}
use mathlib.Core.Logic.{◌↔◌, ◌⊎◌, inl, inr, ⊎_elim}
use mathlib.Core.Bool.{true, false}
use mathlib.Core.List.{[], ◌∷◌}
use Rattle.laws.specs.Choice.{not_both}
use Rattle.laws.proofs.Parts.{or_either}
use Rattle.conflict.specs.declared.modes.Mode.{Mode}
use Rattle.conflict.specs.declared.modes.Mode.TheVariants.{Free, S, X, I, U}
use Rattle.conflict.specs.Modes.{beside, grants}
use Rattle.conflict.proofs.EachMode.{alike, of_modes, equal}
use Rattle.conflict.proofs.ModeLaws.{free_beside, beside_free}

-- what is granted beside a held S
only_beside_s : (m : Mode) → grants S m ≡ true → (m ≡ Free) ⊎ (m ≡ S) ⊎ (m ≡ U)
unfolding grants
only_beside_s Free h = inl refl
only_beside_s S h = inr (inl refl)
only_beside_s X h = not_both h refl
only_beside_s I h = not_both h refl
only_beside_s U h = inr (inr refl)

-- beside a held S an S or a U is granted, and nothing else is (02, No. 1)
pub beside_held_s : (m : Mode) → grants S m ≡ true ↔ (m ≡ Free) ⊎ (m ≡ S) ⊎ (m ≡ U)
unfolding grants
beside_held_s m = (only_beside_s m, ⊎_elim (λ e. rw e) (⊎_elim (λ e. rw e) (λ e. rw e)))

-- what is granted beside a held U
only_beside_u : (m : Mode) → grants U m ≡ true → m ≡ Free
unfolding grants
only_beside_u Free h = refl
only_beside_u S h = not_both h refl
only_beside_u X h = not_both h refl
only_beside_u I h = not_both h refl
only_beside_u U h = not_both h refl

-- beside a held U nothing is granted (02, No. 1)
pub beside_held_u : (m : Mode) → grants U m ≡ true ↔ (m ≡ Free)
unfolding grants
beside_held_u m = (only_beside_u m, λ e. rw e)

-- what is granted beside a held X
only_beside_x : (m : Mode) → grants X m ≡ true → m ≡ Free
unfolding grants
only_beside_x Free h = refl
only_beside_x S h = not_both h refl
only_beside_x X h = not_both h refl
only_beside_x I h = not_both h refl
only_beside_x U h = not_both h refl

-- beside a held X nothing is granted (01, The desk's rules; 02, No. 1)
pub beside_held_x : (m : Mode) → grants X m ≡ true ↔ (m ≡ Free)
unfolding grants
beside_held_x m = (only_beside_x m, λ e. rw e)

-- what is granted beside a held I
only_beside_i : (m : Mode) → grants I m ≡ true → (m ≡ Free) ⊎ (m ≡ I)
unfolding grants
only_beside_i Free h = inl refl
only_beside_i S h = not_both h refl
only_beside_i X h = not_both h refl
only_beside_i I h = inr refl
only_beside_i U h = not_both h refl

-- beside a held I an I is granted, and nothing else is (01, The desk's rules)
pub beside_held_i : (m : Mode) → grants I m ≡ true ↔ (m ≡ Free) ⊎ (m ≡ I)
unfolding grants
beside_held_i m = (only_beside_i m, ⊎_elim (λ e. rw e) (λ e. rw e))

-- I and U never go together: neither is granted beside the other, and they are not held at once (02, No. 1)
pub i_and_u_never : (grants I U ≡ false) × (grants U I ≡ false) × (beside I U ≡ false) × (beside U I ≡ false)
unfolding beside grants
i_and_u_never = (refl, refl, refl, refl)

-- Figure 18.19 of the book: a row for each held mode, S, X and U, and in it whether S, X and U are granted beside it (000, 18.4.4)
pub figure_18_19 :
    (grants S S ∷ grants S X ∷ grants S U ∷ [])
    ∷ (grants X S ∷ grants X X ∷ grants X U ∷ [])
    ∷ (grants U S ∷ grants U X ∷ grants U U ∷ [])
    ∷ []
    ≡ (true ∷ false ∷ true ∷ []) ∷ (false ∷ false ∷ false ∷ []) ∷ (false ∷ false ∷ false ∷ []) ∷ []
unfolding grants
figure_18_19 = refl

-- Figure 18.22 of the book, the same for S, X and I (000, 18.4.5)
pub figure_18_22 :
    (grants S S ∷ grants S X ∷ grants S I ∷ [])
    ∷ (grants X S ∷ grants X X ∷ grants X I ∷ [])
    ∷ (grants I S ∷ grants I X ∷ grants I I ∷ [])
    ∷ []
    ≡ (true ∷ false ∷ false ∷ []) ∷ (false ∷ false ∷ false ∷ []) ∷ (false ∷ false ∷ true ∷ []) ∷ []
unfolding grants
figure_18_22 = refl

-- a U looks like an S when it is asked for, and like an X to a job that asks later: the columns of U and S are the same, and so are the rows of U and X (000, 18.4.4)
pub u_asked_as_s : (m : Mode) → grants m U ≡ grants m S
unfolding grants
u_asked_as_s m = equal (grants m U) (grants m S) (of_modes (λ m. alike (grants m U) (grants m S)) refl m)

pub u_held_as_x : (m : Mode) → grants U m ≡ grants X m
unfolding grants
u_held_as_x m = equal (grants U m) (grants X m) (of_modes (λ m. alike (grants U m) (grants X m)) refl m)

-- one of two jobs holds nothing, or both hold S, or both hold I, or one holds S and the other U
abbrev pub Agreeing : Mode → Mode → Type 0
Agreeing m n = (m ≡ Free) ⊎ (n ≡ Free) ⊎ ((m ≡ S) × (n ≡ S)) ⊎ ((m ≡ I) × (n ≡ I)) ⊎ ((m ≡ S) × (n ≡ U)) ⊎ ((m ≡ U) × (n ≡ S))

-- what is granted beside a held mode makes such a pair
granted_agrees : (m n : Mode) → grants m n ≡ true → Agreeing m n
granted_agrees Free n h = inl refl
granted_agrees S n h =
    ⊎_elim (λ e. inr (inl e)) (⊎_elim (λ e. inr (inr (inl (refl, e)))) (λ e. inr (inr (inr (inr (inl (refl, e))))))) ((beside_held_s n).0 h)
granted_agrees X n h = inr (inl ((beside_held_x n).0 h))
granted_agrees I n h = ⊎_elim (λ e. inr (inl e)) (λ e. inr (inr (inr (inl (refl, e))))) ((beside_held_i n).0 h)
granted_agrees U n h = inr (inl ((beside_held_u n).0 h))

-- the two of a pair may change places
turned : (m n : Mode) → Agreeing n m → Agreeing m n
turned m n =
    ⊎_elim (λ e. inr (inl e)) (⊎_elim (λ e. inl e)
    (⊎_elim (λ e. inr (inr (inl (e.1, e.0)))) (⊎_elim (λ e. inr (inr (inr (inl (e.1, e.0)))))
    (⊎_elim (λ e. inr (inr (inr (inr (inr (e.1, e.0)))))) (λ e. inr (inr (inr (inr (inl (e.1, e.0))))))))))

-- no other pair may be held together
only_agreeing : (m n : Mode) → beside m n ≡ true → Agreeing m n
unfolding beside
only_agreeing m n h = or_either (grants m n) (grants n m) h (granted_agrees m n) (λ g. turned m n (granted_agrees n m g))

-- these pairs may
all_agreeing : (m n : Mode) → Agreeing m n → beside m n ≡ true
unfolding beside grants
all_agreeing m n =
    ⊎_elim (λ e. rw e (free_beside n))
    (⊎_elim (λ e. rw e (beside_free m))
    (⊎_elim (λ e. rw (e.0, e.1)) (⊎_elim (λ e. rw (e.0, e.1)) (⊎_elim (λ e. rw (e.0, e.1)) (λ e. rw (e.0, e.1))))))

-- two jobs may hold a cell together exactly if one of them holds nothing, both hold S, both hold I, or one holds S and the other U
pub together : (m n : Mode) → beside m n ≡ true ↔ Agreeing m n
together m n = (only_agreeing m n, all_agreeing m n)
