-- The test finds the first dirty read, with the latest action that makes it dirty, exactly if the history is dirty in the request's words. There is only one such answer (02, No. 2).
-- Assumes nothing.
use Rattle.std.specs.Prelude.{Option, None, Some}
use Prim.Native.Nat.{ℕ, suc, ◌≤◌, ◌<◌}
use mathlib.Core.Path.{◌≡◌, refl, sym, ap, ◌∙◌, subst}
use mathlib.Core.Logic.{◌↔◌, ◌⊎◌, inl, inr, ⊎_elim}
use mathlib.Core.Bool.{true, false, not, ◌&&◌}
use mathlib.Core.List.{[], ◌∷◌, append_assoc}
use native.Mathlib.Omega.{arith}
use lib.Dec.{eqb, leb}
use lib.ListN.{length}
use borrow.Author.Tests.{eqb-true, eqb-false, leb-true, leb-false, not-true}
use Rattle.laws.specs.Choice.{by_test, not_both}
use Rattle.laws.proofs.Parts.{and_first, and_second, and_both}
use Rattle.conflict.specs.declared.action.Action.{Action}
use Rattle.conflict.specs.declared.action.Event.{Event}
use Rattle.conflict.specs.declared.action.Event.TheVariants.{Does, Ends}
use Rattle.conflict.specs.History.{History, commits}
use Rattle.conflict.specs.Dirty.{changes, DirtyRead, IsDirty, FirstDirty, ReadOf, look_back, writer_of, read_or_later, dirty_from, dirty_of}
use Rattle.conflict.proofs.DirtyReads.{read_within, write_ahead, read_parts, parts, is_read, read_commits}
use Rattle.conflict.proofs.LookingBack.{in_order_lem, order_append, order_length, Latest, Back, looked}

-- the first dirty read of those that stand at place n or later
pub record FirstFrom (h : History) (n reader writer : ℕ) : Type 0 where
  pub at : ℕ
  pub latest : Latest h at at reader writer
  pub first : (y x i j : ℕ) → DirtyRead h y x i j → (at ≤ y) ⊎ (y < n)

-- the first one, or that there is none
abbrev From : History → ℕ → Option ReadOf → Type 0
From h n None = (y x i j : ℕ) → DirtyRead h y x i j → y < n
From h n (Some d) = FirstFrom h n d.reader d.writer

module _ (h : History) (n : ℕ) where
  -- what is known of the read at place n
  abbrev Here : ℕ → Option ℕ → Type 0
  Here reader None = (x i j : ℕ) → DirtyRead h n x i j → ⊥
  Here reader (Some writer) = Latest h n n reader writer

  -- a place other than n
  before_it : ((x i j : ℕ) → DirtyRead h n x i j → ⊥) → (y x i j : ℕ) → DirtyRead h y x i j → y < suc n → y < n
  before_it apart y x i j d l = by_test (eqb y n) (λ t. absurd (apart x i j (subst (λ z. DirtyRead h z x i j) (eqb-true y n t) d))) (λ f. omega (arith, eqb-false y n f))

  -- if nothing is dirty at place n, what comes later decides
  from_later : ((x i j : ℕ) → DirtyRead h n x i j → ⊥) → (later : Option ReadOf) → From h (suc n) later → From h n later
  from_later apart None f = λ y x i j d. before_it apart y x i j d (f y x i j d)
  from_later apart (Some r) f = record {
    at = f.at;
    latest = f.latest;
    first = λ y x i j d. ⊎_elim inl (λ l. inr (before_it apart y x i j d l)) (f.first y x i j d);
  }

  -- a line, and those after it
  from_line : (reader : ℕ) (o : Option ℕ) (later : Option ReadOf) → Here reader o → From h (suc n) later → From h n (read_or_later reader o later)
  unfolding read_or_later
  from_line reader None later b f = from_later b later f
  from_line reader (Some writer) later b f = record {
    at = n;
    latest = b;
    first = λ y x i j d. by_test (leb n y) (λ t. inl (leb-true n y t)) (λ g. inr (leb-false n y g));
  }

  -- an action that stands at place n
  module _ (seen : History) (a : Action) (rest : History) (l : in_order_lem seen (Does a ∷ rest) ≡ h) (s : length seen ≡ n) where
    -- looking back from the read finds every action that makes it dirty
    from_back : (reader : ℕ) (o : Option ℕ) → Back h n (length seen) reader o → Here reader o
    from_back reader None b = λ x i j d. omega (arith, b x i j d, write_ahead d)
    from_back reader (Some writer) b = subst (λ m. Latest h n m reader writer) s b

    -- if it is not a read in a run that commits, nothing makes it dirty
    unread : (not (changes a.kind) && commits a.job rest) ≡ false → (x i j : ℕ) → DirtyRead h n x i j → ⊥
    unread f x i j d =
        let r = read_parts d (in_order_lem seen []) (Does a) rest (sym l ∙ order_append seen (Does a ∷ rest)) (omega (arith, order_length seen [])) in
        let e : d.read ≡ a = let q = r.0 in cc in
        let keeps : changes a.kind ≡ false = subst (λ z. changes z.kind ≡ false) e (is_read d) in
        let done : commits a.job rest ≡ true = subst (λ z. commits a.job z ≡ true) r.1 (subst (λ z. commits z.job d.after ≡ true) e (read_commits d)) in
        not_both (and_both (not (changes a.kind)) (commits a.job rest) (ap not keeps) done) f

    -- the writer told for the read is the right one
    told : Here a.job (writer_of seen a rest)
    unfolding writer_of
    told =
        by_test (not (changes a.kind) && commits a.job rest)
        (λ t. rw t
        (from_back a.job (look_back seen [] a rest)
        (looked h n a rest (not-true (changes a.kind) (and_first (not (changes a.kind)) (commits a.job rest) t)) (and_second (not (changes a.kind)) (commits a.job rest) t) seen [] l (omega arith))))
        (λ f. rw f (unread f))

  -- a mark is not a read
  mark_unread : (seen : History) (e : Event) (rest : History) → in_order_lem seen (e ∷ rest) ≡ h → length seen ≡ n → ((a : Action) → Does a ≡ e → ⊥) → (x i j : ℕ) → DirtyRead h n x i j → ⊥
  mark_unread seen e rest l s no' x i j d =
      no' d.read (read_parts d (in_order_lem seen []) e rest (sym l ∙ order_append seen (e ∷ rest)) (omega (arith, order_length seen []))).0

-- among the lines that are left, the first dirty read is found
found : (h seen rest : History) → in_order_lem seen rest ≡ h → From h (length seen) (dirty_from seen rest)
unfolding dirty_from in_order_lem
found h seen [] l = λ y x i j d. omega (arith, read_within d, ap length l, order_length seen [])
found h seen (Does a ∷ rest) l = from_line h (length seen) a.job (writer_of seen a rest) (dirty_from (Does a ∷ seen) rest) (told h (length seen) seen a rest l refl) (found h (Does a ∷ seen) rest l)
found h seen (Ends m k ∷ rest) l =
    from_later h (length seen) (mark_unread h (length seen) seen (Ends m k) rest l refl (λ a e. let z : ◌≡◌ {A = ℕ} 0 1 = cc in omega arith)) (dirty_from (Ends m k ∷ seen) rest) (found h (Ends m k ∷ seen) rest l)

-- what is found over all lines is the first dirty read
from_first : (h : History) (i j : ℕ) → FirstFrom h 0 i j → FirstDirty h i j
from_first h i j f = record {
  read_at = f.at;
  write_at = f.latest.at;
  dirty_read = f.latest.dirty_read;
  first = λ p q x y d. ⊎_elim (λ l. l) (λ (z : p < 0). absurd (omega arith)) (f.first p q x y d);
  latest = λ q x y d. ⊎_elim (λ l. l) (λ (g : f.at ≤ q). absurd (omega (arith, write_ahead d))) (f.latest.last q x y d);
}

-- dirty reads at the same two places have one reader and one writer
one_pair : (h : History) (p q i j k l : ℕ) → DirtyRead h p q i j → DirtyRead h p q k l → (i ≡ k) × (j ≡ l)
one_pair h p q i j k l d e =
    let r = parts d e.before (Does e.write) e.between (Does e.read) e.after
    (e.lines ∙ append_assoc e.before (Does e.write ∷ e.between) (Does e.read ∷ e.after)) (sym e.write_place) (omega (arith, e.read_place, e.write_place)) in
    let w : d.write ≡ e.write = let g = r.0 in cc in
    let f : d.read ≡ e.read = let g = r.2 in cc in
    (sym d.reads_by ∙ ap (λ (a : Action). a.job) f ∙ e.reads_by, sym d.writes_by ∙ ap (λ (a : Action). a.job) w ∙ e.writes_by)

-- there is one first dirty read, with one latest writer
pub first_dirty_one : (h : History) (i j k l : ℕ) → FirstDirty h i j → FirstDirty h k l → (i ≡ k) × (j ≡ l)
first_dirty_one h i j k l f g =
    let p : f.read_at ≡ g.read_at = omega (arith, f.first g.read_at g.write_at k l g.dirty_read, g.first f.read_at f.write_at i j f.dirty_read) in
    let d : DirtyRead h g.read_at f.write_at i j = subst (λ y. DirtyRead h y f.write_at i j) p f.dirty_read in
    let e : DirtyRead h f.read_at g.write_at k l = subst (λ y. DirtyRead h y g.write_at k l) (sym p) g.dirty_read in
    let q : f.write_at ≡ g.write_at = omega (arith, f.latest g.write_at k l e, g.latest f.write_at i j d) in
    one_pair h g.read_at g.write_at i j k l (subst (λ y. DirtyRead h g.read_at y i j) q d) g.dirty_read

module _ (h : History) where
  -- the test finds the first dirty read of a history, or there is none
  by_found : (o : Option ReadOf) → dirty_of h ≡ o → From h 0 o
  unfolding dirty_of in_order_lem
  by_found o e = subst (From h 0) e (found h [] h refl)

  -- if the test tells a dirty read, it is the first
  told_first : (i j : ℕ) → dirty_of h ≡ Some (record { reader = i; writer = j }) → FirstDirty h i j
  told_first i j e = from_first h i j (by_found (Some (record { reader = i; writer = j })) e)

  -- if there is none, the test tells none
  told_none : dirty_of h ≡ None → IsDirty h → ⊥
  told_none e d = let l : d.read_at < 0 = by_found None e d.read_at d.write_at d.reader d.writer d.dirty_read in omega arith

  -- a history with a first dirty read is dirty
  pub first_is_dirty : (i j : ℕ) → FirstDirty h i j → IsDirty h
  first_is_dirty i j f = record { read_at = f.read_at; write_at = f.write_at; reader = i; writer = j; dirty_read = f.dirty_read }

  -- a proof by what the test tells
  by_told : {P : Type 0} (o : Option ReadOf) → dirty_of h ≡ o → (dirty_of h ≡ None → P) → ((i j : ℕ) → dirty_of h ≡ Some (record { reader = i; writer = j }) → P) → P
  by_told None e one' two' = one' e
  by_told (Some r) e one' two' = two' r.reader r.writer e

  -- THE TEST: it tells reader and writer exactly if they are those of the first dirty read
  pub dirty_exactly : (i j : ℕ) → FirstDirty h i j ↔ (dirty_of h ≡ Some (record { reader = i; writer = j }))
  dirty_exactly i j = (
    λ f. by_told (dirty_of h) refl (λ n. absurd (told_none n (first_is_dirty i j f)))
        (λ k l e. let s = first_dirty_one h k l i j (told_first k l e) f in e ∙ λ t. Some (record { reader = s.0 t; writer = s.1 t })),
    told_first i j,
  )

  -- and it tells nothing exactly if the history is not dirty
  pub clean_exactly : (IsDirty h → ⊥) ↔ (dirty_of h ≡ None)
  clean_exactly = (
    λ c. by_told (dirty_of h) refl (λ n. n) (λ i j e. absurd (c (first_is_dirty i j (told_first i j e)))),
    told_none,
  )

  -- a dirty history has a first dirty read
  pub dirty_first : IsDirty h → (i : ℕ) × (j : ℕ) × FirstDirty h i j
  dirty_first d = by_told (dirty_of h) refl (λ n. absurd (told_none n d)) (λ i j e. (i, j, told_first i j e))
