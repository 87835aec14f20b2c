-- Runs as pairs of lines: what stands in a line, whether it is a mark of a job, and that for each job every action is in one of its runs.
-- Assumes nothing.
use Prim.Native.Nat.{ℕ, zero, suc, ◌+◌, ◌-◌, ◌≤◌, ◌<◌}
use mathlib.Core.Path.{◌≡◌, refl, sym, ap, ◌∙◌, subst}
use mathlib.Core.Logic.{◌⊎◌, inl, inr}
use mathlib.Core.List.{[], ◌∷◌, ◌++◌}
use native.Mathlib.Omega.{arith}
use lib.Dec.{eqb, ltb}
use lib.ListN.{length, get_or, length-append, get_or-append}
use lib.Seq.{get_or-append-add, get_or_at}
use borrow.Author.Tests.{eqb-true, eqb-false, ltb-true, ltb-false}
use Rattle.laws.specs.Choice.{by_test}
use Rattle.conflict.specs.declared.action.Action.{Action}
use Rattle.conflict.specs.declared.action.Mark.{Mark}
use Rattle.conflict.specs.declared.action.Mark.TheVariants.{Commit}
use Rattle.conflict.specs.declared.action.Event.{Event}
use Rattle.conflict.specs.declared.action.Event.TheVariants.{Does, Ends}
use Rattle.conflict.specs.History.{History}
use Rattle.conflict.specs.DirtyRuns.{LineAt, MarkAt, Run, InRun}

-- an action is not a mark
pub act_no_mark : {P : Type 0} {a : Action} {m : Mark} {j : ℕ} → Does a ≡ Ends m j → P
act_no_mark e = let z : ◌≡◌ {A = ℕ} 0 1 = cc in absurd (omega arith)

-- a line within the history reads the same whatever the default for a missing line
any_line : (h : History) (k : ℕ) (x y : Event) → k < length h → get_or h k x ≡ get_or h k y
any_line [] k x y l = absurd (omega arith)
any_line (e ∷ h) zero x y l = refl
any_line (e ∷ h) (suc k) x y l = any_line h k x y (omega arith)

-- a line holds one event
pub line_one : (h : History) (k : ℕ) (x y : Event) → LineAt h k x → LineAt h k y → x ≡ y
line_one h k x y a b = sym a.1 ∙ any_line h k x y a.0 ∙ b.1

-- every line within the history is some event
line_some : (h : History) (k : ℕ) → k < length h → (e : Event) × LineAt h k e
line_some h k l =
    let none' : Event = Ends Commit 0 in
    (get_or h k none', (l, any_line h k (get_or h k none') none' l))

-- a line that is an action is not a mark
pub act_unmarked : (h : History) (k : ℕ) (a : Action) (j : ℕ) → LineAt h k (Does a) → MarkAt h k j → ⊥
act_unmarked h k a j l m = act_no_mark (line_one h k (Does a) (Ends m.0 j) l m.1)

-- the lines after one are found that many places further on in the whole
pub shifted : (h u : History) (x : Event) (l : History) (p : ℕ) → h ≡ u ++ x ∷ l → length u ≡ p → (k : ℕ) (e : Event) → LineAt l k e → LineAt h (suc (p + k)) e
shifted h u x l p q s k e a =
    let n : suc (p + k) ≡ length u + suc k = omega arith in
    rw (q, n)
    (omega (arith, a.0, length-append u (x ∷ l)), get_or-append-add u (x ∷ l) (suc k) e ∙ a.1)

pub shifted_back : (h u : History) (x : Event) (l : History) (p : ℕ) → h ≡ u ++ x ∷ l → length u ≡ p → (k : ℕ) (e : Event) → LineAt h (suc (p + k)) e → LineAt l k e
shifted_back h u x l p q s k e a =
    let n : suc (p + k) ≡ length u + suc k = omega arith in
    let size : length h ≡ length u + suc (length l) = ap length q ∙ length-append u (x ∷ l) in
    (omega (arith, a.0), sym (get_or-append-add u (x ∷ l) (suc k) e) ∙ sym (ap (λ g. get_or g (length u + suc k) e) q) ∙ ap (λ m. get_or h m e) (sym n) ∙ a.1)

-- the event between two parts is the line at that place
pub mid_line : (h u : History) (x : Event) (l : History) (p : ℕ) → h ≡ u ++ x ∷ l → length u ≡ p → LineAt h p x
mid_line h u x l p q s = (omega (arith, s, ap length q, length-append u (x ∷ l)), ap (λ g. get_or g p x) q ∙ get_or_at u x l x p s)

-- a line of the first part of two
pub first_part : (u l : History) (k : ℕ) (e : Event) → k < length u → LineAt (u ++ l) k e → LineAt u k e
first_part u l k e g a = (g, sym (get_or-append u l e k g) ∙ a.1)

-- equal marks belong to one job
same_job : {m n : Mark} {i j : ℕ} → Ends m i ≡ Ends n j → i ≡ j
same_job e = cc

-- whether an event is a mark of a job
by_event : {P : Type 0} (h : History) (k j : ℕ) (e : Event) → LineAt h k e → (MarkAt h k j → P) → ((MarkAt h k j → ⊥) → P) → P
by_event h k j (Does a) s one' two' = two' (act_unmarked h k a j s)
by_event h k j (Ends m i) s one' two' =
    by_test (eqb i j) (λ t. one' (m, subst (λ x. LineAt h k (Ends m x)) (eqb-true i j t) s))
    (λ f. two' (λ n. eqb-false i j f (same_job (line_one h k (Ends m i) (Ends n.0 j) s n.1))))

-- whether a line is a mark of a job
pub by_mark : {P : Type 0} (h : History) (k j : ℕ) → k < length h → (MarkAt h k j → P) → ((MarkAt h k j → ⊥) → P) → P
by_mark h k j l one' two' = by_event h k j (line_some h k l).0 (line_some h k l).1 one' two'

-- where the run that line p is in begins
run_begin : (h : History) (j p : ℕ) → p ≤ length h → (b : ℕ) × (b ≤ p) × ((b ≡ 0) ⊎ ((k : ℕ) × (b ≡ suc k) × MarkAt h k j)) × ((k : ℕ) → b ≤ k → k < p → MarkAt h k j → ⊥)
run_begin h j zero l = (0, omega arith, inl refl, λ k g s m. omega arith)
run_begin h j (suc p) l =
    by_mark h p j (omega arith) (λ m. (suc p, omega arith, inr (p, refl, m), λ k g s n. omega arith))
    (λ f.
    let r = run_begin h j p (omega arith) in (
      r.0,
      omega (arith, r.1),
      r.2,
      λ k g s m. by_test (ltb k p) (λ t. r.3 k g (ltb-true k p t) m)
          (λ n. let e : k ≡ p = omega (arith, ltb-false k p n) in f (subst (λ x. MarkAt h x j) e m)),
    ))

-- where it ends
run_end_lem : (h : History) (j n p : ℕ) → p + n ≡ length h → (t : ℕ) × (p ≤ t) × ((k : ℕ) → p ≤ k → k < t → MarkAt h k j → ⊥) × ((t ≡ length h) ⊎ MarkAt h t j)
run_end_lem h j zero p l = (p, omega arith, (λ k g s m. omega arith), inl (omega arith))
run_end_lem h j (suc n) p l =
    by_mark h p j (omega arith) (λ m. (p, omega arith, (λ k g s n. omega arith), inr m))
    (λ f.
    let r = run_end_lem h j n (suc p) (omega arith) in (
      r.0,
      omega (arith, r.1),
      (λ k g s m. by_test (ltb p k) (λ t. r.2 k (omega (arith, ltb-true p k t)) s m)
          (λ o. let e : k ≡ p = omega (arith, ltb-false p k o) in f (subst (λ x. MarkAt h x j) e m))),
      r.3,
    ))

-- so for any job an action is in one of its runs
pub in_run : (h : History) (j p : ℕ) (a : Action) → LineAt h p (Does a) → (b : ℕ) × (t : ℕ) × InRun h j p b t
in_run h j p a s =
    let x = run_begin h j p (omega (arith, s.0)) in
    let y = run_end_lem h j (length h - suc p) (suc p) (omega (arith, s.0)) in (
      x.0,
      y.0,
      record {
        run = record {
          begins = x.2;
          unbroken = λ k g l m. by_test (ltb k p) (λ t. x.3 k g (ltb-true k p t) m)
              (λ n. by_test (ltb p k) (λ t. y.2 k (omega (arith, ltb-true p k t)) l m)
              (λ o. let e : k ≡ p = omega (arith, ltb-false k p n, ltb-false p k o) in act_unmarked h p a j s (subst (λ z. MarkAt h z j) e m)));
          ends = y.3;
        };
        behind = x.1;
        before = omega (arith, y.1);
      },
    )
