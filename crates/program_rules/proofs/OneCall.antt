-- One call of the work: the records of the lines that end in the bytes worked on stand behind what stood in the buffer.
-- Assumes nothing.
use Prim.Native.Nat.{ℕ, zero, suc, ◌+◌, ◌≤◌, ◌<◌}
use mathlib.Core.Path.{◌≡◌, refl, sym, ap, ap₂, ◌∙◌, subst}
use mathlib.Core.Bool.{Bool, true, false}
use mathlib.Core.List.{List, [], ◌∷◌, ◌++◌, append_assoc, append-nil}
use native.Mathlib.Omega.{arith}
use lib.Dec.{ltb}
use lib.ListN.{length, take, drop, length-append, length-drop}
use lib.Seq.{length-take-le, take_at}
use borrow.Author.Tests.{ltb-true}
use Rattle.laws.specs.Choice.{by_test}
use Rattle.text_rules.specs.declared.splitter.Splitter.{Splitter}
use Rattle.text_rules.specs.Split.{part, cut_of, found_at, found_now}
use Rattle.text_rules.specs.Wrote.{put_from}
use Rattle.text_rules.proofs.Cuts.{cut_ahead}
use Rattle.program_rules.specs.declared.Clerk.{Clerk}
use Rattle.program_rules.specs.declared.Desks.{Desks}
use Rattle.program_rules.specs.declared.View.{View}
use Rattle.program_rules.specs.OverLines.{Told, Lined, written}
use Rattle.program_rules.specs.Desks.{on_desks}
use Rattle.program_rules.specs.Work.{viewed, roomy, due, answering, turning, cutting, Working, stopped, work_by}
use Rattle.program_rules.specs.Tellings.{telling, tellings, desk_after, clerk_after, records_in}
use Rattle.program_rules.proofs.Parts.{part_none, part_split, cut_leads, cut_finds}
use Rattle.program_rules.proofs.Records.{clerk_append, records_append, clerk_none, records_none, due_told, due_desk, not_due_told, not_due_desk}

-- what bytes put into a buffer leave in front of the place after them
pub put_take : (out : List ℕ) (at : ℕ) (bytes : List ℕ) → at ≤ length out → take (at + length bytes) (put_from out at bytes) ≡ take at out ++ bytes
put_take out at bytes h =
    take_at (take at out ++ bytes) (drop (at + length bytes) out) (at + length bytes) (length-append (take at out) bytes ∙ ap (λ n. n + length bytes) (length-take-le at out h))

-- and how long the buffer then is
pub put_length : (out : List ℕ) (at : ℕ) (bytes : List ℕ) → at ≤ length out → (at + length bytes ≤ length (put_from out at bytes)) × (length out ≤ length (put_from out at bytes))
put_length out at bytes h =
    let e = length-append (take at out ++ bytes) (drop (at + length bytes) out) in
    let f = length-append (take at out) bytes in
    let g = length-take-le at out h in
    let k = length-drop (at + length bytes) out in
    (omega arith, omega arith)

-- a call, or a turn of it, worked on some bytes of the chunk, and did with them what is to be done
pub record Did (view : View) (c : Clerk) (bytes out : List ℕ) (at : ℕ) (after : Clerk) (then : List ℕ) (to : ℕ) : Type 0 where
  pub clerk : after ≡ clerk_after c bytes
  pub text : take to then ≡ take at out ++ records_in view c bytes
  pub within : to ≤ length then
  pub long : length out ≤ length then

-- no bytes
pub did_none : (view : View) (c : Clerk) (out : List ℕ) (at : ℕ) → at ≤ length out → Did view c [] out at c out at
did_none view c out at h =
    record {
      clerk = sym (clerk_none c);
      text = sym (ap (λ l. take at out ++ l) (records_none view c) ∙ append-nil (take at out));
      within = h;
      long = omega arith;
    }

-- some bytes and then others
pub did_more : {view : View} {c d e : Clerk} {p q out mid then : List ℕ} {at a to : ℕ} → Did view c p out at d mid a → Did view d q mid a e then to → Did view c (p ++ q) out at e then to
did_more {view} {c} {d} {e} {p} {q} {out} {mid} {then} {at} {a} {to} x y =
    record {
      clerk = y.clerk ∙ ap (λ k. clerk_after k q) x.clerk ∙ sym (clerk_append c p q);
      text =
          y.text
          ∙ ap₂ (λ l k. l ++ records_in view k q) x.text x.clerk
          ∙ append_assoc (take at out) (records_in view c p) (records_in view (clerk_after c p) q)
          ∙ ap (λ l. take at out ++ l) (sym (records_append view c p q));
      within = y.within;
      long = let f = x.long in let g = y.long in omega arith;
    }

-- what is written of one line
written_one : (v : Told → List ℕ) (t : Told) → written v (t ∷ []) ≡ v t
unfolding written
written_one v t = append-nil (v t)

-- what is written of none
written_none : (v : Told → List ℕ) → written v [] ≡ []
unfolding written
written_none v = refl

module _ (view : View) (c : Clerk) (chunk : List ℕ) (from : ℕ) (h : from < length chunk) where
  -- the splitter after a cut
  abbrev cut : Splitter
  cut = (cut_of c.splitter chunk from).splitter

  -- the bytes that the cut takes
  abbrev line : List ℕ
  line = part chunk from (cut_of c.splitter chunk from).next

  -- the line that ends in them, answered
  abbrev told : Lined Desks
  told = telling on_desks c.desks (found_at cut)

  -- the records of the bytes are those of the line that the cut finds
  line_records_lem : records_in view c line ≡ written (viewed view) (tellings on_desks c.desks (found_now cut))
  unfolding records_in
  line_records_lem = ap (λ fs. written (viewed view) (tellings on_desks c.desks fs)) (cut_finds c.splitter chunk from h)

  -- and so is the clerk
  line_clerk : clerk_after c line ≡ record { desks = desk_after on_desks c.desks (found_now cut); splitter = cut }
  unfolding clerk_after
  line_clerk = λ i. record { desks = desk_after on_desks c.desks (cut_finds c.splitter chunk from h i); splitter = cut_leads c.splitter chunk from i }

  module _ (out : List ℕ) (at : ℕ) (g : at ≤ length out) where
    -- a line that is answered
    answered_did : due cut ≡ true → Did view c line out at (record { desks = told.desk; splitter = cut }) (put_from out at (viewed view told.told)) (at + length (viewed view told.told))
    answered_did e =
        let l = put_length out at (viewed view told.told) g in
        record {
          clerk = (λ i. record { desks = sym (due_desk c.desks cut e) i; splitter = cut }) ∙ sym line_clerk;
          text =
              put_take out at (viewed view told.told) g
              ∙ ap (λ r. take at out ++ r) (sym (line_records_lem ∙ ap (written (viewed view)) (due_told c.desks cut e) ∙ written_one (viewed view) told.told));
          within = l.0;
          long = l.1;
        }

    -- a line that is not
    passed_did : due cut ≡ false → Did view c line out at (record { desks = c.desks; splitter = cut }) out at
    passed_did e =
        record {
          clerk = (λ i. record { desks = sym (not_due_desk c.desks cut e) i; splitter = cut }) ∙ sym line_clerk;
          text =
              sym (append-nil (take at out))
              ∙ ap (λ r. take at out ++ r) (sym (line_records_lem ∙ ap (written (viewed view)) (not_due_told c.desks cut e) ∙ written_none (viewed view)));
          within = g;
          long = omega arith;
        }

    -- a turn
    pub turn_did : Did view c line out at (turning view (cutting c chunk from) out at).clerk (turning view (cutting c chunk from) out at).out (turning view (cutting c chunk from) out at).at
    unfolding turning cutting answering telling found_at
    turn_did = by_test (due cut) (λ e. rw e (answered_did e)) (λ e. rw e (passed_did e))

-- a call, whatever the fuel
pub record Called (view : View) (c : Clerk) (chunk : List ℕ) (from : ℕ) (out : List ℕ) (at : ℕ) (w : Working) : Type 0 where
  pub forward : from ≤ w.worked.next
  pub did : Did view c (part chunk from w.worked.next) out at w.worked.clerk w.out w.worked.at

-- the work ends here
called_stopped : (view : View) (c : Clerk) (chunk : List ℕ) (from : ℕ) (out : List ℕ) (at : ℕ) (full : Bool) → at ≤ length out → Called view c chunk from out at (stopped c from out at full)
unfolding stopped
called_stopped view c chunk from out at full h =
    record { forward = omega arith; did = subst (λ p. Did view c p out at c out at) (sym (part_none chunk from)) (did_none view c out at h) }

-- a turn, and then the rest
called_on : {view : View} {c d : Clerk} {chunk out mid : List ℕ} {from next at a : ℕ} {w : Working} → from ≤ next → Did view c (part chunk from next) out at d mid a → Called view d chunk next mid a w →
    Called view c chunk from out at w
called_on {view} {c} {chunk = chunk} {out} {from = from} {next} {at} {w = w} h t r =
    let f = r.forward in
    record {
      forward = omega arith;
      did = subst (λ p. Did view c p out at w.worked.clerk w.out w.worked.at) (sym (part_split chunk from next w.worked.next h f)) (did_more t r.did);
    }

-- EVERY CALL: behind what stood in the buffer stand the records of the lines that end in the bytes worked on, and the clerk has seen these bytes
pub called : (n : ℕ) (view : View) (c : Clerk) (chunk : List ℕ) (from : ℕ) (out : List ℕ) (at : ℕ) → at ≤ length out → Called view c chunk from out at (work_by n view c chunk from out at)
unfolding work_by
called zero view c chunk from out at h = called_stopped view c chunk from out at false h
called (suc n) view c chunk from out at h =
    by_test (ltb from (length chunk))
    (λ e.
    by_test (roomy out at)
    (λ f.
    let l : from < length chunk = ltb-true from (length chunk) e in
    let t = turning view (cutting c chunk from) out at in
    let d = turn_did view c chunk from l out at h in
    let r = called n view t.clerk chunk (cut_of c.splitter chunk from).next t.out t.at d.within in
    let m = (cut_ahead c.splitter chunk from l).0 in
    rw (e, f) (called_on (omega arith) d r))
    (λ f. rw (e, f) (called_stopped view c chunk from out at true h)))
    (λ e. rw e (called_stopped view c chunk from out at false h))
