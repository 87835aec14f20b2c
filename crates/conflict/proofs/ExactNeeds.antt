-- The modes by their names: what each request needs, what covers it, what a promotion asks for, and what a history records of it (01, The desk's rules; 01, rule 2; 02, No. 1).
-- Assumes nothing.
use mathlib.Core.Path.{◌≡◌, refl, sym, ◌∙◌}
use mathlib.Core.Logic.{◌↔◌, ◌⊎◌, inl, inr, ⊎_elim}
use mathlib.Core.Bool.{Bool, true, false, ◌&&◌, ◌||◌}
use Rattle.laws.specs.Choice.{not_both}
use Rattle.laws.proofs.Parts.{and_first, and_second, or_either}
use Rattle.terms.specs.declared.letters.Ask.{Ask}
use Rattle.terms.specs.declared.letters.Ask.TheVariants.{Read, Write, Increment, Update}
use Rattle.conflict.specs.declared.modes.Mode.{Mode}
use Rattle.conflict.specs.declared.modes.Mode.TheVariants.{Free, S, X, I, U}
use Rattle.conflict.specs.Schedule.{agree}
use Rattle.conflict.specs.Modes.{needed, recorded, covers, beside, grants, asked, is_free, Becomes, s_write, s_increment, s_update, i_read, i_write, i_update, u_write, u_increment}
use Rattle.conflict.proofs.EachMode.{alike, each_ask, of_asks, equal}
use Rattle.conflict.proofs.ModeLaws.{covers_all}

-- read needs S, write X, increment I, and a read with intent to write U
pub needs_exactly : (needed Read ≡ S) × (needed Write ≡ X) × (needed Increment ≡ I) × (needed Update ≡ U)
unfolding needed
needs_exactly = (refl, refl, refl, refl)

-- what U covers
only_u_covers : (a : Ask) → covers U (needed a) ≡ true → (a ≡ Read) ⊎ (a ≡ Update)
unfolding covers needed
only_u_covers Read h = inl refl
only_u_covers Write h = not_both h refl
only_u_covers Increment h = not_both h refl
only_u_covers Update h = inr refl

-- U covers reads and u, and nothing else (02, No. 1)
pub u_covers : (a : Ask) → covers U (needed a) ≡ true ↔ (a ≡ Read) ⊎ (a ≡ Update)
unfolding covers needed
u_covers a = (only_u_covers a, ⊎_elim (λ e. rw e) (λ e. rw e))

-- X covers all
pub x_covers : (a : Ask) → covers X (needed a) ≡ true
x_covers a = covers_all (needed a)

-- a held mode that does not cover the request becomes the mode named
becomes_asked : (held : Mode) (a : Ask) → is_free held ≡ false → covers held (needed a) ≡ false → Becomes held a (asked held (needed a))
unfolding asked covers needed is_free
becomes_asked Free a f n = not_both refl f
becomes_asked S Read f n = not_both refl n
becomes_asked S Write f n = s_write
becomes_asked S Increment f n = s_increment
becomes_asked S Update f n = s_update
becomes_asked X Read f n = not_both refl n
becomes_asked X Write f n = not_both refl n
becomes_asked X Increment f n = not_both refl n
becomes_asked X Update f n = not_both refl n
becomes_asked I Read f n = i_read
becomes_asked I Write f n = i_write
becomes_asked I Increment f n = not_both refl n
becomes_asked I Update f n = i_update
becomes_asked U Read f n = not_both refl n
becomes_asked U Write f n = u_write
becomes_asked U Increment f n = u_increment
becomes_asked U Update f n = not_both refl n

-- and the mode named is the one asked for, if the held mode does not cover the need
asked_becomes : {held new : Mode} {a : Ask} → Becomes held a new → (is_free held ≡ false) × (covers held (needed a) ≡ false) × (new ≡ asked held (needed a))
unfolding asked covers needed is_free
asked_becomes s_write = (refl, refl, refl)
asked_becomes s_increment = (refl, refl, refl)
asked_becomes s_update = (refl, refl, refl)
asked_becomes i_read = (refl, refl, refl)
asked_becomes i_write = (refl, refl, refl)
asked_becomes i_update = (refl, refl, refl)
asked_becomes u_write = (refl, refl, refl)
asked_becomes u_increment = (refl, refl, refl)

-- a promotion asks for exactly the mode named: U for S with u, and X for every other (02, No. 1)
pub promotion_asks : (held new : Mode) (a : Ask) → Becomes held a new ↔ (is_free held ≡ false) × (covers held (needed a) ≡ false) × (new ≡ asked held (needed a))
promotion_asks held new a = (asked_becomes, λ h. rw h.2 (becomes_asked held a h.0 h.1))

-- so a held mode and a request fix the mode it becomes
pub becomes_one : {held new other : Mode} {a : Ask} → Becomes held a new → Becomes held a other → new ≡ other
becomes_one p q = (asked_becomes p).2 ∙ sym (asked_becomes q).2

-- a promotion to X is granted beside another job exactly if that job holds nothing: this is "no other holder" of rule 2
pub promotion_alone : (other : Mode) → grants other X ≡ is_free other
unfolding grants is_free
promotion_alone Free = refl
promotion_alone S = refl
promotion_alone X = refl
promotion_alone I = refl
promotion_alone U = refl

-- beside which modes a promotion to U is granted
only_to_u : (other : Mode) → grants other U ≡ true → (other ≡ Free) ⊎ (other ≡ S)
unfolding grants
only_to_u Free h = inl refl
only_to_u S h = inr refl
only_to_u X h = not_both h refl
only_to_u I h = not_both h refl
only_to_u U h = not_both h refl

-- a promotion to U is granted beside another job exactly if that job holds nothing or S (02, No. 1)
pub promotion_to_u : (other : Mode) → grants other U ≡ true ↔ (other ≡ Free) ⊎ (other ≡ S)
unfolding grants
promotion_to_u other = (only_to_u other, ⊎_elim (λ e. rw e) (λ e. rw e))

-- whether a read with intent to write is asked for
unfoldable intends : Ask → Bool
intends Read = false
intends Write = false
intends Increment = false
intends Update = true

-- only u is one
only_intends : (a : Ask) → intends a ≡ true → a ≡ Update
unfolding intends
only_intends Read h = not_both h refl
only_intends Write h = not_both h refl
only_intends Increment h = not_both h refl
only_intends Update h = refl

-- two actions agree if their needs may be held together, or both are reads with intent to write
agrees_by : (a b : Ask) → agree (recorded a) (recorded b) ≡ (beside (needed a) (needed b) || (intends a && intends b))
unfolding agree recorded beside grants needed intends
agrees_by a b = equal _ _ (of_asks (test a) (of_asks (λ a. each_ask (test a)) refl a) b)
  where
    test : Ask → Ask → Bool
    test a b = alike (agree (recorded a) (recorded b)) (beside (needed a) (needed b) || (intends a && intends b))

-- two actions agree in a history exactly if their needs may be held together, or both are reads with intent to write, which the desk keeps apart: one account of conflicts for desk and judge (01, The judge's rules; 02, No. 1)
pub needs_agree : (a b : Ask) → agree (recorded a) (recorded b) ≡ true ↔ (beside (needed a) (needed b) ≡ true) ⊎ ((a ≡ Update) × (b ≡ Update))
needs_agree a b = (λ h. or_either (beside (needed a) (needed b)) (intends a && intends b) (sym (agrees_by a b) ∙ h) inl both, ⊎_elim (λ h. agrees_by a b ∙ rw h) reads)
  where
    both : (intends a && intends b) ≡ true → (beside (needed a) (needed b) ≡ true) ⊎ ((a ≡ Update) × (b ≡ Update))
    both h = inr (only_intends a (and_first (intends a) (intends b) h), only_intends b (and_second (intends a) (intends b) h))

    reads : (a ≡ Update) × (b ≡ Update) → agree (recorded a) (recorded b) ≡ true
    reads e = unfold agree recorded in rw (e.0, e.1)
