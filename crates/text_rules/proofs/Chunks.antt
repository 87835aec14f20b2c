-- How a text is cut into chunks does not matter: several runs of bytes, one after another, act as one run.
-- Assumes nothing.
use mathlib.Core.Path.{◌≡◌, refl, sym, ap, ap₂, ◌∙◌}
use mathlib.Core.List.{List, [], ◌∷◌, ◌++◌, append_assoc}
use Prim.Native.Nat.{ℕ}
use Rattle.text_rules.specs.declared.splitter.Splitter.{Splitter}
use Rattle.text_rules.specs.Split.{taken, joined, after_all, Found, found_now, found_last, found_in, found_over}

-- going through one run and then another is the same as going through both as one
pub after_append : (s : Splitter) (a b : List ℕ) → after_all s (a ++ b) ≡ after_all (after_all s a) b
unfolding after_all
after_append s [] b = refl
after_append s (x ∷ a) b = after_append (taken s x) a b

-- the lines that end in both are those that end in the first and then those that end in the second
pub found_append : (s : Splitter) (a b : List ℕ) → found_in s (a ++ b) ≡ found_in s a ++ found_in (after_all s a) b
unfolding after_all found_in
found_append s [] b = refl
found_append s (x ∷ a) b =
    ap (λ (r : List Found). found_now (taken s x) ++ r) (found_append (taken s x) a b)
    ∙ sym (append_assoc (found_now (taken s x)) (found_in (taken s x) a) (found_in (after_all (taken s x) a) b))

-- whatever the chunks are, the lines found are those of all the bytes as one chunk
pub chunks_do_not_matter : (s : Splitter) (chunks : List (List ℕ)) → found_over s chunks ≡ found_over s (joined chunks ∷ [])
unfolding found_over joined after_all found_in
chunks_do_not_matter s [] = refl
chunks_do_not_matter s (c ∷ cs) =
    ap (λ (r : List Found). found_in s c ++ r) (chunks_do_not_matter (after_all s c) cs)
    ∙ sym (append_assoc (found_in s c) (found_in (after_all s c) (joined cs)) (found_last (after_all (after_all s c) (joined cs))))
    ∙ ap₂ (λ (r : List Found) (x : Splitter). r ++ found_last x) (sym (found_append s c (joined cs))) (sym (after_append s c (joined cs)))
