-- In a strict history every edge of the committed part goes forward in the order of commits. So that part is conflict-equivalent to its jobs run one after another in that order.
-- Assumes nothing.
use Prim.Native.Nat.{ℕ, ◌<◌}
use mathlib.Core.Path.{◌≡◌, refl, ◌∙◌}
use mathlib.Core.Bool.{Bool, true, false, not}
use mathlib.Core.List.{[], ◌∷◌}
use borrow.Author.Tests.{eqb-true, not-true}
use lib.Dec.{eqb}
use Rattle.laws.specs.Choice.{by_test, not_both}
use Rattle.laws.specs.Lists.{member, distinct, pos, put}
use Rattle.laws.proofs.Lists.{same_refl, first_ahead, put_once, put_ahead}
use Rattle.laws.proofs.Parts.{and_first, and_second, and_both}
use Rattle.conflict.specs.declared.action.Action.{Action}
use Rattle.conflict.specs.declared.action.Event.TheVariants.{Does, Ends}
use Rattle.conflict.specs.Schedule.{Schedule, conflicts, Equivalent, ConflictSerializable, keep, serial, touches, edge, names, Forward}
use Rattle.conflict.specs.History.{History, is_commit, committed_part, commits, committed, commit_order, ends_for_good, undisturbed, strict}
use Rattle.conflict.proofs.Forward.{forward, forward_serializable}
use Rattle.conflict.proofs.Edges.{touches_cases, touches_other, edge_here, edge_cases, edge_names}
use Rattle.conflict.proofs.Marks.{listed, commits_marked}
use Rattle.conflict.proofs.Committed.{committed_is, committed_has, commit_order_once}

-- an action that does not conflict with the first conflicts only with later ones
touches_rest : (a : Action) (j : ℕ) (b : Action) (kept : Bool) (s : Schedule) → conflicts a b ≡ false → touches a j (keep kept b s) ≡ true → touches a j s ≡ true
unfolding keep
touches_rest a j b true s n t = touches_cases a j b s t (λ m c. not_both c n) (λ l. l)
touches_rest a j b false s n t = t

-- an action whose run commits, and each job of the committed part that it touches, are in the order of commits
both_listed : (a : Action) (j : ℕ) (h : History) → commits a.job h ≡ true → touches a j (committed h) ≡ true → (member a.job (commit_order h) ≡ true) × (member j (commit_order h) ≡ true)
unfolding names
both_listed a j h c t =
    edge_names (commit_order h) (a ∷ committed h) a.job j
    (and_both (member a.job (commit_order h)) (names (commit_order h) (committed h)) (listed a.job h ∙ commits_marked a.job h c) (committed_has h))
    (edge_here a (committed h) a.job j (same_refl a.job) t)

-- an action whose run commits undisturbed is ahead, by its job's commit, of every job of the committed part that it touches
commits_ahead : (a : Action) (j : ℕ) (h : History) → distinct (commit_order h) ≡ true → undisturbed a h ≡ true → commits a.job h ≡ true → touches a j (committed h) ≡ true → pos (commit_order h) a.job < pos (commit_order h) j
unfolding commit_order undisturbed commits committed put
commits_ahead a j [] d u c t = not_both c refl
commits_ahead a j (Does b ∷ h) d u c t =
    commits_ahead a j h d (and_second (not (conflicts a b)) (undisturbed a h) u) c
    (touches_rest a j b (commits b.job h) (committed h) (not-true (conflicts a b) (and_first (not (conflicts a b)) (undisturbed a h) u)) t)
commits_ahead a j (Ends m i ∷ h) d u c t =
    by_test (eqb i a.job)
    (λ e.
    let now : is_commit m ≡ true = rw e at c in
    rw now (first_ahead i (commit_order h) a.job j e (rw (eqb-true i a.job e) (touches_other a j (committed h) t))))
    (λ f.
    let later' : commits a.job h ≡ true = rw f at c in
    put_ahead (is_commit m) i (commit_order h) a.job j d (both_listed a j h later' t).0 (both_listed a j h later' t).1
    (commits_ahead a j h (put_once (is_commit m) i (commit_order h) d) (rw f at u) later' t))

-- every edge of the committed part goes forward
edges_ahead : (h : History) → strict h ≡ true → distinct (commit_order h) ≡ true → (i j : ℕ) → edge (committed h) i j ≡ true → pos (commit_order h) i < pos (commit_order h) j
unfolding strict commit_order committed edge keep
edges_ahead [] s d i j e = not_both e refl
edges_ahead (Does a ∷ h) s d i j e =
    let rest : strict h ≡ true = and_second (undisturbed a h) (strict h) s in
    by_test (commits a.job h)
    (λ c.
    edge_cases a (committed h) i j (rw c at e)
    (λ m t. rw (← eqb-true a.job i m) (commits_ahead a j h d (and_first (undisturbed a h) (strict h) s) c t))
    (λ l. edges_ahead h rest d i j l))
    (λ f. edges_ahead h rest d i j (rw f at e))
edges_ahead (Ends m k ∷ h) s d i j e =
    let both = edge_names (commit_order h) (committed h) i j (committed_has h) e in
    put_ahead (is_commit m) k (commit_order h) i j d both.0 both.1 (edges_ahead h s (put_once (is_commit m) k (commit_order h) d) i j e)

-- in a strict history every conflict between committed actions goes forward in the order of commits
pub strict_forward : (h : History) → strict h ≡ true → distinct (commit_order h) ≡ true → Forward (commit_order h) (committed h)
strict_forward h s d = record { once = d; all = committed_has h; ahead = edges_ahead h s d }

-- the committed part of a strict history is conflict-equivalent to its jobs run one after another in the order of their commits
pub strict_serial : (h : History) → strict h ≡ true → distinct (commit_order h) ≡ true → Equivalent (committed h) (serial (commit_order h) (committed h))
strict_serial h s d = forward (commit_order h) (committed h) (strict_forward h s d)

-- and so is the committed part in the paper's words, if no line of a job follows its c or a
pub strict_serial_paper : (h : History) → strict h ≡ true → ends_for_good h ≡ true → Equivalent (committed_part h) (serial (commit_order h) (committed_part h))
strict_serial_paper h s e = rw (committed_is h e) (strict_serial h s (commit_order_once h e))

-- so it is conflict-serializable
pub strict_serializable : (h : History) → strict h ≡ true → ends_for_good h ≡ true → ConflictSerializable (committed_part h)
strict_serializable h s e = rw (committed_is h e) (forward_serializable (commit_order h) (committed h) (strict_forward h s (commit_order_once h e)))
