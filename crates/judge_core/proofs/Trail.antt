-- The walk back along smallest predecessors, with its jobs written from the end of a trail to its front.
-- Assumes nothing.
use Prim.Native.Nat.{ℕ, zero, suc, ◌+◌, ◌-◌, ◌≤◌, ◌<◌}
use mathlib.Core.Path.{◌≡◌, refl, sym, ap, ◌∙◌, subst}
use mathlib.Core.Bool.{Bool, true, false}
use mathlib.Core.List.{List, [], ◌∷◌}
use native.Mathlib.Numerals.{add-one}
use native.Mathlib.Omega.{arith}
use lib.ListN.{length, get_or, set, take, drop, length-set, length-drop, drop_of_length-le}
use lib.Seq.{take_all, drop-cons, drop-set-lt, get_or-set_same}
use borrow.Author.Tests.{lt-ltb, le-ltb, ltb-true, ltb-false}
use lib.Dec.{eqb, ltb}
use Rattle.std.specs.Prelude.{Option, None, Some, ◌==◌}
use Rattle.std.specs.List.{position, position_or_len}
use Rattle.std.proofs.lemmas.List.Recursion.{is_position_or_len}
use Rattle.laws.specs.Choice.{pick, by_test}
use Rattle.laws.specs.Lists.{member, pos}
use Rattle.laws.proofs.Lists.{pos_later}
use Rattle.judge_rules.specs.Order.{Edges}
use Rattle.judge_rules.specs.Knot.{predecessor, up_to, walk}
use Rattle.judge_rules.proofs.Firsts.{by_one, first_is}
use Rattle.judge_core.specs.Left.{left_of, or_nobody}
use Rattle.judge_core.specs.Preceding.{Known, walk_by}
use Rattle.judge_core.specs.Rounds.{RoundAt}
use Rattle.judge_core.proofs.Seeking.{left_small, left_is}

-- as many elements stand before the first that is job j as before the first that passes the test for it
pos_is : (j : ℕ) (ks : List ℕ) → pos ks j ≡ position_or_len (λ n. n == j) ks
unfolding pos
pos_is j ks =
    is_position_or_len (λ l. pos l j) (λ n. n == j) refl (λ k l. by_test (eqb k j) (λ t. rw t) (λ f. rw f (omega arith))) ks

-- where a job is found, and where it is not
place_found : (j p : ℕ) (ks : List ℕ) → Some p ≡ position (λ n. n == j) ks → (p ≡ pos ks j) × (pos ks j < length ks)
place_found j p ks e =
    rw (pos_is j ks)
    (by_test (ltb (position_or_len (λ n. n == j) ks) (length ks))
    (λ t. let q : Some p ≡ Some (position_or_len (λ n. n == j) ks) = rw t at e in (cc, ltb-true (position_or_len (λ n. n == j) ks) (length ks) t))
    (λ f. let q : Some p ≡ None = rw f at e in absurd (let z : ◌≡◌ {A = ℕ} 0 1 = cc in omega arith)))

place_none : (j : ℕ) (ks : List ℕ) → None ≡ position (λ n. n == j) ks → length ks ≤ pos ks j
place_none j ks e =
    rw (pos_is j ks)
    (by_test (ltb (position_or_len (λ n. n == j) ks) (length ks))
    (λ t. let q : ◌≡◌ {A = Option ℕ} None (Some (position_or_len (λ n. n == j) ks)) = rw t at e in absurd (let z : ◌≡◌ {A = ℕ} 0 1 = cc in omega arith))
    (λ f. ltb-false (position_or_len (λ n. n == j) ks) (length ks) f))

-- as many jobs as stand before its first place stand up to it
take_pos : (j : ℕ) (ks : List ℕ) → take (pos ks j) ks ≡ up_to j ks
unfolding pos up_to
take_pos j [] = refl
take_pos j (k ∷ ks) = by_test (eqb k j) (λ t. rw t) (λ f. rw f (ap (λ l. k ∷ l) (take_pos j ks)))

-- a job that stands before the list's end is in it
pos_member : (j : ℕ) (ks : List ℕ) → pos ks j < length ks → member j ks ≡ true
unfolding member
pos_member j [] h = absurd (omega arith)
pos_member j (k ∷ ks) h =
    by_test (eqb k j) (λ t. rw t) (λ f. rw f (pos_member j ks (omega (arith, pos_later k ks j f))))

-- and one that does not is not
pos_none : (j : ℕ) (ks : List ℕ) → length ks ≤ pos ks j → member j ks ≡ false
unfolding member pos
pos_none j [] h = refl
pos_none j (k ∷ ks) h =
    by_test (eqb k j)
    (λ t.
    let here' : pos (k ∷ ks) j ≡ 0 = rw t in
    absurd (omega arith))
    (λ f. rw f (pos_none j ks (omega (arith, pos_later k ks j f))))

-- a job put in front of what stands from a place on
put_front : (trail : List ℕ) (m j : ℕ) → m < length trail → drop m (set trail m j) ≡ j ∷ drop (suc m) trail
put_front trail m j h =
    drop-cons (set trail m j) m 0 (rw (length-set trail m j) h)
    ∙ rw (get_or-set_same trail m j 0 h, drop-set-lt (suc m) trail m j (omega arith))

-- where no job may be looked at there is no walk
no_walk : (predecessors : List ℕ) (at : ℕ) (seen : List ℕ) (j : ℕ) → at ≡ 0 → walk_by predecessors at seen j ≡ []
unfolding walk_by
no_walk predecessors at seen j h = rw h

-- the walk has come to job j, and those that it came by stand on the trail, the last first; at jobs more may be looked at
pub record Walked (predecessors : List ℕ) (start : ℕ) (trail : List ℕ) (at j : ℕ) : Type 0 where
  pub wide : length trail ≡ 257
  pub low : at ≤ 257
  pub small : j < 256
  pub same : walk_by predecessors at (drop at trail) j ≡ walk_by predecessors 257 [] start

module _ (predecessors : List ℕ) (start : ℕ) (trail : List ℕ) where
  -- the walk starts
  pub walked_none : length trail ≡ 257 → start < 256 → Walked predecessors start trail 257 start
  walked_none w b =
      let all : length trail ≤ 257 = omega arith in
      record { wide = w; low = omega arith; small = b; same = rw (drop_of_length-le trail all) }

  module _ (at j : ℕ) (h : 0 < at) (walked : Walked predecessors start trail at j) where
    -- the job before the next place
    stepped : Walked predecessors start trail (suc (at - 1)) j
    stepped = let q : at ≡ suc (at - 1) = omega arith in subst (λ k. Walked predecessors start trail k j) q walked

    -- the places behind it
    behind : take (257 - (at - 1 + 1)) (drop (at - 1 + 1) trail) ≡ drop (suc (at - 1)) trail
    behind =
        take_all (257 - (at - 1 + 1)) (drop (at - 1 + 1) trail) (rw (length-drop (at - 1 + 1) trail) (omega (arith, walked.wide)))
        ∙ ap (λ k. drop k trail) (add-one (at - 1))

    -- how many have been seen
    seen_count : length (drop (suc (at - 1)) trail) ≡ 257 - at
    seen_count = rw (length-drop (suc (at - 1)) trail) (omega (arith, walked.wide))

    -- a job that comes again closes the cycle
    pub walked_round : (p : ℕ) → Some p ≡ position (λ n. n == j) (take (257 - (at - 1 + 1)) (drop (at - 1 + 1) trail)) → RoundAt (walk_by predecessors 257 [] start) (set trail (at - 1) j) (at - 1) (at - 1 + 1 + p)
    unfolding walk_by
    walked_round p again =
        let seen = drop (suc (at - 1)) trail in
        let found = place_found j p seen (rw behind at again) in
        let parts : at - 1 + 1 + p - (at - 1) ≡ suc (pos seen j) = omega (arith, found.0) in
        record {
          starting = omega arith;
          within = rw (length-set trail (at - 1) j) (omega (arith, walked.wide, walked.low, found.0, found.1, seen_count));
          listed = rw (parts, put_front trail (at - 1) j (omega (arith, walked.wide, walked.low)), take_pos j seen) (sym (sym stepped.same ∙ rw (pos_member j seen found.1)));
        }

    module _ (again : None ≡ position (λ n. n == j) (take (257 - (at - 1 + 1)) (drop (at - 1 + 1) trail))) where
      -- a job that has not been seen goes on
      fresh : member j (drop (suc (at - 1)) trail) ≡ false
      fresh = pos_none j (drop (suc (at - 1)) trail) (place_none j (drop (suc (at - 1)) trail) (rw behind at again))

      -- to its smallest predecessor
      pub walked_more : get_or predecessors j 0 < 256 → Walked predecessors start (set trail (at - 1) j) (at - 1) (get_or predecessors j 0)
      unfolding walk_by
      walked_more n =
          record {
            wide = length-set trail (at - 1) j ∙ walked.wide;
            low = omega (arith, walked.low);
            small = n;
            same = rw (put_front trail (at - 1) j (omega (arith, walked.wide, walked.low))) (sym (sym stepped.same ∙ rw (fresh, lt-ltb (get_or predecessors j 0) 256 n)));
          }

      -- and if it had none there would be no cycle
      pub walked_off : 256 ≤ get_or predecessors j 0 → (trail' : List ℕ) → RoundAt (walk_by predecessors 257 [] start) trail' 0 0
      unfolding walk_by
      walked_off n trail' =
          record {
            starting = omega arith;
            within = omega arith;
            listed = sym (sym stepped.same ∙ rw (fresh, le-ltb (get_or predecessors j 0) 256 n));
          }

  -- when no more jobs may be looked at there is none
  pub walked_out : (at j : ℕ) → at ≡ 0 → Walked predecessors start trail at j → RoundAt (walk_by predecessors 257 [] start) trail 0 0
  walked_out at j h w =
      record { starting = omega arith; within = omega arith; listed = sym (sym w.same ∙ no_walk predecessors at (drop at trail) j h) }

-- where the smallest predecessors of the jobs that are left are known, the walk is that of the judge's rules
pub walk_known : (e : Edges) (left : List Bool) (predecessors : List ℕ) → Known e left predecessors 256 → (n : ℕ) (seen : List ℕ) (j : ℕ) → j < 256 → get_or left j false ≡ true → walk_by predecessors n seen j ≡ walk e (left_of left) n seen j
unfolding walk_by walk predecessor or_nobody
walk_known e left predecessors h zero seen j b l = refl
walk_known e left predecessors h (suc n) seen j b l =
    ap (λ further. pick (member j seen) (j ∷ up_to j seen) further)
    (by_one (predecessor e (left_of left) j)
    (λ q. let nobody : get_or predecessors j 0 ≡ 256 = h j b l ∙ ap or_nobody q in rw (nobody, q))
    (λ i q.
    let there : get_or predecessors j 0 ≡ i = h j b l ∙ ap or_nobody q in
    let is = (first_is (λ k. e k j) (left_of left) i q).0 in
    let small : i < 256 = left_small left i is in
    rw (there, q, lt-ltb i 256 small) (walk_known e left predecessors h n (j ∷ seen) i small (left_is left i is))))
