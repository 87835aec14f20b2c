-- What the buffer holds to be written out last, by why no more is read.
-- Assumes nothing.
use Rattle.std.specs.Prelude.{◌⊎◌}
use Rattle.std.proofs.Common.{inl, inr}
use Prim.Native.Nat.{ℕ, ◌≤◌}
use mathlib.Core.Path.{◌≡◌, refl, sym, ap, ap₂, ◌∙◌, subst}
use mathlib.Core.List.{List, []}
use native.Mathlib.Omega.{arith}
use lib.ListN.{length, take}
use Rattle.program_rules.specs.declared.Clerk.{Clerk}
use Rattle.program_rules.specs.declared.Method.{Method}
use Rattle.program_rules.specs.declared.View.{View}
use Rattle.program_rules.specs.declared.View.TheVariants.{Answers, History, Chains}
use Rattle.program_rules.specs.declared.Finished.{Finished}
use Rattle.program_rules.specs.Work.{started_clerk, finish_of}
use Rattle.program_rules.specs.Closing.{closing_room, program_room, close_of, end_of}
use Rattle.program_rules.specs.Tellings.{clerk_after}
use Rattle.program_rules.proofs.Closings.{close_within, ends_within}
use Rattle.program_rules.proofs.Endings.{ended_all, closed_all}
use Rattle.desk_io.specs.declared.Front.{Front}
use Rattle.desk_io.specs.declared.Halted.{Halted}
use Rattle.desk_io.specs.declared.Halt.{Halt}
use Rattle.desk_io.specs.declared.Halt.TheVariants.{Ended, NotRead, AllRead, NotTaken}
use Rattle.desk_io.specs.Serving.{MakesAll, MakesUnread, Makes, Over, Rests}

-- the record of a last line, and then what is written last, are the end of the input
pub end_is : (view : View) (c : Clerk) (out : List ℕ) {f g : Finished} {mid after : List ℕ} → f ≡ (finish_of view c out 0).finished → mid ≡ (finish_of view c out 0).out →
    g ≡ (close_of view c mid f.at).finished → after ≡ (close_of view c mid f.at).out → (g.at ≡ (end_of view c out 0).finished.at) × (after ≡ (end_of view c out 0).out)
end_is view c out {f} {g} {mid} {after} e m k a =
    let t = ap₂ (λ (x : Finished) y. close_of view c y x.at) e m in
    (ap (λ x. x.at) k ∙ ap (λ x. x.finished.at) t, a ∙ ap (λ x. x.out) t)

-- no program needs more room than 11,264 bytes
pub room_at_most : (view : View) → program_room view ≤ 11_264
room_at_most Answers = omega arith
room_at_most History = omega arith
room_at_most Chains = omega arith

-- there is room for what a program needs at its end
closing_fits : (view : View) → closing_room view ≤ program_room view
closing_fits Answers = omega arith
closing_fits History = omega arith
closing_fits Chains = omega arith

-- a proof by why no more is read
by_why : {h : Halted} {why : Halt} {at : ℕ} {out : List ℕ} → h.why ≡ why → at ≤ length out → ((m : Method) (text : List ℕ) → h.front.clerk ≡ clerk_after (started_clerk m) text → Makes m h.front.view why text (take at out)) → Rests h at out
by_why {h} {at = at} {out} e w r =
    record {
      within = w;
      rest = λ m view text k. subst (λ v. Makes m v h.why text (take at out)) (ap (λ (x : Front). x.view) k) (subst (λ y. Makes m h.front.view y text (take at out)) (sym e) (r m text (ap (λ (x : Front). x.clerk) k)));
    }

module _ (h : Halted) (out : List ℕ) (room : program_room h.front.view ≤ length out) where
  module _ {at : ℕ} {after : List ℕ} (e : at ≡ (end_of h.front.view h.front.clerk out 0).finished.at) (f : after ≡ (end_of h.front.view h.front.clerk out 0).out) where
    -- what the end of the input puts into the buffer completes the output
    makes_all : (m : Method) (text : List ℕ) → h.front.clerk ≡ clerk_after (started_clerk m) text → MakesAll m h.front.view text (take at after)
    makes_all m text k = rw (e, f) (ended_all m h.front.view h.front.clerk text k out room)

    -- and lies within it
    ends_there : at ≤ length after
    ends_there = rw (e, f) (ends_within h.front.view h.front.clerk out 0 (omega arith))

    -- the case that the input has ended
    pub rests_ended : h.why ≡ Ended → Rests h at after
    rests_ended w = by_why w ends_there makes_all

    -- a read failed, and answers or the history are written
    pub rests_told : h.why ≡ NotRead → (h.front.view ≡ Answers) ⊎ (h.front.view ≡ History) → Rests h at after
    rests_told w (inl v) = by_why w ends_there (λ m text k. subst (λ x. MakesAll m x text (take at after) → MakesUnread m x text (take at after)) (sym v) (λ y. y) (makes_all m text k))
    rests_told w (inr v) = by_why w ends_there (λ m text k. subst (λ x. MakesAll m x text (take at after) → MakesUnread m x text (take at after)) (sym v) (λ y. y) (makes_all m text k))

  -- the case that every line has been read
  pub rests_read : {at : ℕ} {after : List ℕ} → at ≡ (close_of h.front.view h.front.clerk out 0).finished.at → after ≡ (close_of h.front.view h.front.clerk out 0).out → Over h.why h.front.clerk.splitter → h.why ≡ AllRead → Rests h at after
  rests_read e f s w =
      let r = closing_fits h.front.view in
      by_why w (rw (e, f) (close_within h.front.view h.front.clerk out 0 (omega arith)))
      (λ m text k more. rw (e, f) (closed_all m h.front.view h.front.clerk text k out (omega arith) (subst (λ y. Over y h.front.clerk.splitter) w s) more))

-- after a write that failed nothing more is written
pub rests_untaken : {h : Halted} {out : List ℕ} → h.why ≡ NotTaken → Rests h 0 out
rests_untaken w = by_why w (omega arith) (λ m text k. refl)

-- after a read that failed no chains are written
pub rests_chains : {h : Halted} {out : List ℕ} → h.why ≡ NotRead → h.front.view ≡ Chains → Rests h 0 out
rests_chains w v = by_why w (omega arith) (λ m text k. subst (λ x. MakesUnread m x text []) (sym v) refl)

-- what is to be written after a read that failed
pub rests_unread : {h : Halted} {f : Front} {at : ℕ} {out : List ℕ} → h.why ≡ NotRead → h.front ≡ f → Rests (record { front = f; why = NotRead }) at out → Rests h at out
rests_unread {at = at} {out} w e r = record { within = r.within; rest = λ m view text k. subst (λ y. Makes m view y text (take at out)) (sym w) (r.rest m view text (sym e ∙ k)) }
