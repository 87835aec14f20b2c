-- What it means that a step does what a refusal table says, on any desk; that a begin does; and which cells are above 63 (01, Refusals by number).
-- Assumes nothing.
use Rattle.std.specs.Prelude.{Option, None, Some}
use Prim.Native.Nat.{ℕ}
use mathlib.Core.Path.{◌≡◌, refl}
use mathlib.Core.Bool.{Bool, true, false, not}
use mathlib.Core.List.{List}
use lib.Dec.{ltb, leb}
use borrow.Author.Tests.{ltb-true, ltb-false, lt-leb, le-leb}
use Rattle.laws.specs.Choice.{pick, by_test}
use Rattle.laws.specs.Lists.{member}
use Rattle.terms.specs.declared.refusals.Refusal.{Refusal}
use Rattle.terms.specs.declared.refusals.Refusal.TheVariants.{AllOpen, NoNumberLeft}
use Rattle.terms.specs.Limits.{cells, last_number}
use Rattle.desks.specs.Stepping.{Stepped}
use Rattle.desks.specs.Begin.{refused, beginning}
use Rattle.desks.specs.Table.{Answers}

-- the table's word on an outcome: a refusal that leaves all as it was, or an answer with the job given
abbrev pub Meant : {D : Type 0} → D → ℕ → Option Refusal → Stepped D → Type 0
Meant d j (Some why) o = o ≡ refused d why
Meant d j None o = Answers o.said j

-- an outcome that a test picks is answered if both are
pub answered : {D : Type 0} (b : Bool) (x y : Stepped D) (j : ℕ) → Answers x.said j → Answers y.said j → Answers (pick b x y).said j
answered true x y j f g = f
answered false x y j f g = g

-- a begin does what the table says: 7, then 6, else it is answered with the job that it begins
pub begin_means : {D : Type 0} (d : D) (next : ℕ) (jobs : List ℕ) (begun : Stepped D) (j : ℕ) → Answers begun.said j → Meant d j (pick (ltb last_number next) (Some NoNumberLeft) (pick (not (member 0 jobs)) (Some AllOpen) None)) (beginning d next jobs begun)
unfolding beginning
begin_means d next jobs begun j a =
    by_test (ltb last_number next) (λ t. rw t refl)
    (λ f. by_test (member 0 jobs) (λ t. rw (f, t) a) (λ g. rw (f, g) refl))

-- a cell is above 63 exactly if it is not one of the 64
pub above : (c : ℕ) → leb cells c ≡ not (ltb c cells)
above c = by_test (ltb c cells) (λ t. rw t (lt-leb cells c (ltb-true c cells t))) (λ f. rw f (le-leb cells c (ltb-false c cells f)))
