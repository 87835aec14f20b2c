-- The words of answer records and verdict lines, letter by letter; the bytes that separate fields and end lines (01, Lines).
use Rattle.std.specs.Prelude.{ℕ, List, [], ◌∷◌}
use Rattle.terms.specs.declared.words.Word.{Word}
use Rattle.terms.specs.declared.words.Word.TheVariants.{Go, Wait, Back, No, Wake, Orderly, Knot, Dirty}

-- one tab separates fields (01, Lines)
abbrev pub tab : ℕ
tab = 9

-- one newline ends a line (01, Lines)
abbrev pub newline : ℕ
newline = 10

-- each word's bytes: go, wait, back, no, wake, orderly, knot, and dirty (02, No. 2)
abbrev pub spelt : Word → List ℕ
spelt Go = 103 ∷ 111 ∷ []
spelt Wait = 119 ∷ 97 ∷ 105 ∷ 116 ∷ []
spelt Back = 98 ∷ 97 ∷ 99 ∷ 107 ∷ []
spelt No = 110 ∷ 111 ∷ []
spelt Wake = 119 ∷ 97 ∷ 107 ∷ 101 ∷ []
spelt Orderly = 111 ∷ 114 ∷ 100 ∷ 101 ∷ 114 ∷ 108 ∷ 121 ∷ []
spelt Knot = 107 ∷ 110 ∷ 111 ∷ 116 ∷ []
spelt Dirty = 100 ∷ 105 ∷ 114 ∷ 116 ∷ 121 ∷ []
