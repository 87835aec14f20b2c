-- A call that does not end full has used up the chunk; a full call that had room for a line at first has moved on.
-- Assumes nothing.
use Prim.Native.Nat.{ℕ, zero, suc, ◌+◌, ◌≤◌, ◌<◌}
use mathlib.Core.Path.{◌≡◌, refl}
use mathlib.Core.Bool.{true, false}
use mathlib.Core.List.{List}
use native.Mathlib.Omega.{arith}
use lib.Dec.{ltb}
use lib.ListN.{length}
use borrow.Author.Tests.{ltb-true, ltb-false}
use Rattle.laws.specs.Choice.{by_test, not_both}
use Rattle.text_rules.specs.Split.{cut_of}
use Rattle.text_rules.proofs.Cuts.{cut_ahead}
use Rattle.program_rules.specs.declared.Clerk.{Clerk}
use Rattle.program_rules.specs.declared.View.{View}
use Rattle.program_rules.specs.Work.{roomy, turning, cutting, stopped, work_by, work_of}
use Rattle.program_rules.proofs.OneCall.{turn_did, called}

-- a call that is not full has used up the chunk
used_up : (n : ℕ) (view : View) (c : Clerk) (chunk : List ℕ) (from : ℕ) (out : List ℕ) (at : ℕ) → length chunk ≤ from + n →
    (work_by n view c chunk from out at).worked.full ≡ false → length chunk ≤ (work_by n view c chunk from out at).worked.next
unfolding work_by stopped
used_up zero view c chunk from out at l e = omega arith
used_up (suc n) view c chunk from out at l e =
    by_test (ltb from (length chunk))
    (λ f.
    by_test (roomy out at)
    (λ g.
    let t = turning view (cutting c chunk from) out at in
    let m = (cut_ahead c.splitter chunk from (ltb-true from (length chunk) f)).0 in
    rw (f, g) (used_up n view t.clerk chunk (cut_of c.splitter chunk from).next t.out t.at (omega arith) (rw (f, g) at e)))
    (λ g. not_both (rw (f, g)) e))
    (λ f. rw f (ltb-false from (length chunk) f))

-- a call with a byte to work on and room for a line moves on
moved_on : (n : ℕ) (view : View) (c : Clerk) (chunk : List ℕ) (from : ℕ) (out : List ℕ) (at : ℕ) → at ≤ length out → roomy out at ≡ true →
    (work_by n view c chunk from out at).worked.full ≡ true → from < (work_by n view c chunk from out at).worked.next
unfolding work_by stopped
moved_on zero view c chunk from out at h g e = not_both e refl
moved_on (suc n) view c chunk from out at h g e =
    by_test (ltb from (length chunk))
    (λ f.
    let t = turning view (cutting c chunk from) out at in
    let l = ltb-true from (length chunk) f in
    let m = (cut_ahead c.splitter chunk from l).0 in
    let r = (called n view t.clerk chunk (cut_of c.splitter chunk from).next t.out t.at (turn_did view c chunk from l out at h).within).forward in
    rw (f, g) (omega arith))
    (λ f. not_both e (rw f))

-- a full call has left a byte
left_over : (n : ℕ) (view : View) (c : Clerk) (chunk : List ℕ) (from : ℕ) (out : List ℕ) (at : ℕ) →
    (work_by n view c chunk from out at).worked.full ≡ true → (work_by n view c chunk from out at).worked.next < length chunk
unfolding work_by stopped
left_over zero view c chunk from out at e = not_both e refl
left_over (suc n) view c chunk from out at e =
    by_test (ltb from (length chunk))
    (λ f.
    by_test (roomy out at)
    (λ g.
    let t = turning view (cutting c chunk from) out at in
    rw (f, g) (left_over n view t.clerk chunk (cut_of c.splitter chunk from).next t.out t.at (rw (f, g) at e)))
    (λ g. rw (f, g) (ltb-true from (length chunk) f)))
    (λ f. not_both e (rw f))

module _ (view : View) (c : Clerk) (chunk : List ℕ) (from : ℕ) (out : List ℕ) (at : ℕ) where
  -- a call goes forward
  pub call_forward : at ≤ length out → from ≤ (work_of view c chunk from out at).worked.next
  unfolding work_of
  call_forward h = (called (length chunk) view c chunk from out at h).forward

  -- a call that is not full has used up the chunk
  pub call_used : (work_of view c chunk from out at).worked.full ≡ false → length chunk ≤ (work_of view c chunk from out at).worked.next
  unfolding work_of
  call_used e = used_up (length chunk) view c chunk from out at (omega arith) e

  -- a full call that had room for a line has moved on
  pub call_moved : at ≤ length out → roomy out at ≡ true → (work_of view c chunk from out at).worked.full ≡ true → from < (work_of view c chunk from out at).worked.next
  unfolding work_of
  call_moved h g e = moved_on (length chunk) view c chunk from out at h g e

  -- and has left a byte
  pub call_left : (work_of view c chunk from out at).worked.full ≡ true → (work_of view c chunk from out at).worked.next < length chunk
  unfolding work_of
  call_left e = left_over (length chunk) view c chunk from out at e
