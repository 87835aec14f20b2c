-- "No second result meets the contract": what that says of a function, over the contract that Rattle itself reads off the source.
-- Assumes nothing.
use Rattle.std.specs.Prelude.{ℕ, ◌≡◌, List}
use borrow.Fn.Kinds.{Out, Dens, res_t, ended_of, ParamKind, ResultKind}
use denote.Triple.Clauses.{AtExit}
use contract.Lifetimes.{Lfts}

-- any two results that meet the contract on the same arguments are equal
abbrev pub Unique : {n : ℕ} (ps : List (ParamKind n)) (r : ResultKind n) → Out n ps r → Type 0
Unique {n} ps r post = (κs : Lfts n) (a : Dens κs ps) (x y : (res_t r κs).Denot) (e f : AtExit (ended_of n ps r) κs) → post κs a x e → post κs a y f → x ≡ y

-- any two results that meet the contract on the same arguments are equal, and so is what a lent buffer holds at the exit;
-- `lent` says which buffer: `λ κs e. now e.0` for the first parameter, `λ κs e. now e.1.0` for the second
abbrev pub UniqueLent : {n : ℕ} (ps : List (ParamKind n)) (r : ResultKind n) → Out n ps r → {B : Type 0} → ((κs : Lfts n) → AtExit (ended_of n ps r) κs → B) → Type 0
UniqueLent {n} ps r post lent =
    (κs : Lfts n) (a : Dens κs ps) (x y : (res_t r κs).Denot) (e f : AtExit (ended_of n ps r) κs) → post κs a x e → post κs a y f → (x ≡ y) × (lent κs e ≡ lent κs f)

-- the same where the function hands back a reference: what any two of them point at is the same; `held` reads it, as `λ κs x. now x`
abbrev pub UniqueShown : {n : ℕ} (ps : List (ParamKind n)) (r : ResultKind n) → Out n ps r → {A : Type 0} → ((κs : Lfts n) → (res_t r κs).Denot → A) → Type 0
UniqueShown {n} ps r post held =
    (κs : Lfts n) (a : Dens κs ps) (x y : (res_t r κs).Denot) (e f : AtExit (ended_of n ps r) κs) → post κs a x e → post κs a y f → held κs x ≡ held κs y

-- the same where the function hands back a part of an argument and borrows two buffers: any two parts hold the same, and so does each buffer at the exit;
-- `held` reads a part, as `λ κs x. now x`; `first` and `second` read the buffers
abbrev pub UniquePart : {n : ℕ} (ps : List (ParamKind n)) (r : ResultKind n) → Out n ps r → {A B C : Type 0} → ((κs : Lfts n) → (res_t r κs).Denot → A) →
    ((κs : Lfts n) → AtExit (ended_of n ps r) κs → B) → ((κs : Lfts n) → AtExit (ended_of n ps r) κs → C) → Type 0
UniquePart {n} ps r post held first second =
    (κs : Lfts n) (a : Dens κs ps) (x y : (res_t r κs).Denot) (e f : AtExit (ended_of n ps r) κs) → post κs a x e → post κs a y f →
    (held κs x ≡ held κs y) × (first κs e ≡ first κs f) × (second κs e ≡ second κs f)
