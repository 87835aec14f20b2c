-- The modes U and X: beside them nothing is granted, no two of them are held at once, and a job that holds a cell beside one of them holds S, beside a U (02, No. 1).
-- Assumes nothing.
use mathlib.Core.Path.{◌≡◌, refl, sym, ◌∙◌}
use mathlib.Core.Logic.{◌↔◌, ◌⊎◌, inl, inr, ⊎_elim}
use mathlib.Core.Bool.{true, false, ◌&&◌}
use Rattle.laws.specs.Choice.{not_both}
use Rattle.laws.proofs.Parts.{and_both}
use Rattle.conflict.specs.declared.modes.Mode.{Mode}
use Rattle.conflict.specs.declared.modes.Mode.TheVariants.{Free, S, X, I, U}
use Rattle.conflict.specs.Modes.{covers, beside, grants, asked, shuts_out, is_free}
use Rattle.conflict.proofs.EachMode.{implies, alike, of_modes, of_two, of_three, follows, equal}

-- which modes shut others out
only_shuts : (m : Mode) → shuts_out m ≡ true → (m ≡ U) ⊎ (m ≡ X)
unfolding shuts_out
only_shuts Free h = not_both h refl
only_shuts S h = not_both h refl
only_shuts X h = inr refl
only_shuts I h = not_both h refl
only_shuts U h = inl refl

-- U and X shut others out, and no other mode does
pub shuts_exactly : (m : Mode) → shuts_out m ≡ true ↔ (m ≡ U) ⊎ (m ≡ X)
unfolding shuts_out
shuts_exactly m = (only_shuts m, ⊎_elim (λ e. rw e) (λ e. rw e))

-- so U does
pub u_shuts : (m : Mode) → m ≡ U → shuts_out m ≡ true
u_shuts m e = (shuts_exactly m).1 (inl e)

-- beside such a mode nothing is granted
pub shut_grants : (m a : Mode) → shuts_out m ≡ true → grants m a ≡ is_free a
unfolding shuts_out grants is_free
shut_grants m a h = equal (grants m a) (is_free a) (follows (of_two (λ m a. implies (shuts_out m) (alike (grants m a) (is_free a))) refl m a) h)

-- so what is granted beside it is nothing
pub shut_free : (m a : Mode) → shuts_out m ≡ true → grants m a ≡ true → is_free a ≡ true
shut_free m a h g = sym (shut_grants m a h) ∙ g

-- a mode that covers such a mode is one
pub shut_grows : (m n : Mode) → covers n m ≡ true → shuts_out m ≡ true → shuts_out n ≡ true
unfolding shuts_out covers
shut_grows m n h g =
    follows (of_two (λ m n. implies (covers n m && shuts_out m) (shuts_out n)) refl m n) (and_both (covers n m) (shuts_out m) h g)

-- no two of these modes are held together
pub shut_alone : (m n : Mode) → shuts_out m ≡ true → shuts_out n ≡ true → beside m n ≡ false
unfolding shuts_out beside grants
shut_alone m n h g =
    equal (beside m n) false (follows (of_two (λ m n. implies (shuts_out m && shuts_out n) (alike (beside m n) false)) refl m n) (and_both (shuts_out m) (shuts_out n) h g))

-- if such a mode does not cover a need, the mode it is promoted to is held alone
pub shut_promoted : (m need n : Mode) → shuts_out m ≡ true → covers m need ≡ false → beside n (asked m need) ≡ true → is_free n ≡ true
unfolding shuts_out covers beside grants asked is_free
shut_promoted m need n h f b =
    follows (of_three (λ m need n. implies (shuts_out m && (alike (covers m need) false && beside n (asked m need))) (is_free n)) refl m need n)
    (and_both (shuts_out m) (alike (covers m need) false && beside n (asked m need)) h (and_both (alike (covers m need) false) (beside n (asked m need)) (rw f) b))

-- a job with such a mode holds something
pub shut_held : (m : Mode) → shuts_out m ≡ true → is_free m ≡ false
unfolding shuts_out is_free
shut_held m h = equal (is_free m) false (follows (of_modes (λ m. implies (shuts_out m) (alike (is_free m) false)) refl m) h)

-- a job that holds a cell beside one of them holds S, and that one is a U
pub shut_beside : (m n : Mode) → shuts_out m ≡ true → beside n m ≡ true → is_free n ≡ false → (n ≡ S) × (m ≡ U)
unfolding shuts_out beside grants is_free
shut_beside Free n h b f = not_both h refl
shut_beside S n h b f = not_both h refl
shut_beside I n h b f = not_both h refl
shut_beside X Free h b f = not_both refl f
shut_beside X S h b f = not_both b refl
shut_beside X X h b f = not_both b refl
shut_beside X I h b f = not_both b refl
shut_beside X U h b f = not_both b refl
shut_beside U Free h b f = not_both refl f
shut_beside U S h b f = (refl, refl)
shut_beside U X h b f = not_both b refl
shut_beside U I h b f = not_both b refl
shut_beside U U h b f = not_both b refl
