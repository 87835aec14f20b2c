-- The clerk after some bytes, and what it writes: the lines that end in them are answered, one after another.
-- Assumes nothing.
use Prim.Native.Nat.{ℕ}
use mathlib.Core.Path.{◌≡◌, refl, sym, ap, ◌∙◌}
use mathlib.Core.Bool.{true, false}
use mathlib.Core.List.{List, [], ◌∷◌, ◌++◌, append_assoc}
use lib.Dec.{leb}
use Rattle.laws.specs.Choice.{by_test, not_both}
use Rattle.terms.specs.Limits.{request_lines}
use Rattle.text_rules.specs.declared.splitter.Splitter.{Splitter}
use Rattle.text_rules.specs.Split.{after_all, found_at, found_now, found_in}
use Rattle.text_rules.proofs.Chunks.{after_append, found_append}
use Rattle.program_rules.specs.declared.Clerk.{Clerk}
use Rattle.program_rules.specs.declared.Desks.{Desks}
use Rattle.program_rules.specs.declared.View.{View}
use Rattle.program_rules.specs.OverLines.{Told, written}
use Rattle.program_rules.specs.Desks.{on_desks}
use Rattle.program_rules.specs.Work.{viewed, due}
use Rattle.program_rules.specs.Tellings.{telling, tellings, desk_after, clerk_after, records_in}
use Rattle.program_rules.proofs.Tellings.{desk_append, tellings_append}

-- what is written of some lines and then of others
pub written_append : (v : Told → List ℕ) (ts us : List Told) → written v (ts ++ us) ≡ written v ts ++ written v us
unfolding written
written_append v [] us = refl
written_append v (t ∷ ts) us = ap (λ l. v t ++ l) (written_append v ts us) ∙ sym (append_assoc (v t) (written v ts) (written v us))

-- the clerk after some bytes and then others
pub clerk_append : (c : Clerk) (a b : List ℕ) → clerk_after c (a ++ b) ≡ clerk_after (clerk_after c a) b
unfolding clerk_after
clerk_append c a b =
    λ i. record {
      desks = (ap (desk_after on_desks c.desks) (found_append c.splitter a b) ∙ desk_append on_desks c.desks (found_in c.splitter a) (found_in (after_all c.splitter a) b)) i;
      splitter = after_append c.splitter a b i;
    }

-- the records of both
pub records_append : (view : View) (c : Clerk) (a b : List ℕ) → records_in view c (a ++ b) ≡ records_in view c a ++ records_in view (clerk_after c a) b
unfolding records_in clerk_after
records_append view c a b =
    ap (λ fs. written (viewed view) (tellings on_desks c.desks fs)) (found_append c.splitter a b)
    ∙ ap (written (viewed view)) (tellings_append on_desks c.desks (found_in c.splitter a) (found_in (after_all c.splitter a) b))
    ∙ written_append (viewed view) (tellings on_desks c.desks (found_in c.splitter a)) (tellings on_desks (desk_after on_desks c.desks (found_in c.splitter a)) (found_in (after_all c.splitter a) b))

-- before any byte nothing has changed
pub clerk_none : (c : Clerk) → clerk_after c [] ≡ c
unfolding clerk_after found_in after_all desk_after
clerk_none c = refl

-- and nothing is written
pub records_none : (view : View) (c : Clerk) → records_in view c [] ≡ []
unfolding records_in found_in tellings written
records_none view c = refl

module _ (d : Desks) (s : Splitter) where
  -- a line that is to be answered is told
  pub due_told : due s ≡ true → tellings on_desks d (found_now s) ≡ (telling on_desks d (found_at s)).told ∷ []
  unfolding due found_now tellings found_at
  due_told e =
      by_test s.ended (λ f. by_test (leb s.line request_lines) (λ g. rw (f, g)) (λ g. not_both e (rw (f, g)))) (λ f. not_both e (rw f))

  -- and the desk has made its step
  pub due_desk : due s ≡ true → desk_after on_desks d (found_now s) ≡ (telling on_desks d (found_at s)).desk
  unfolding due found_now desk_after found_at
  due_desk e =
      by_test s.ended (λ f. by_test (leb s.line request_lines) (λ g. rw (f, g)) (λ g. not_both e (rw (f, g)))) (λ f. not_both e (rw f))

  -- otherwise nothing is told
  pub not_due_told : due s ≡ false → tellings on_desks d (found_now s) ≡ []
  unfolding due found_now tellings found_at
  not_due_told e =
      by_test s.ended (λ f. by_test (leb s.line request_lines) (λ g. not_both (rw (f, g)) e) (λ g. rw (f, g))) (λ f. rw f)

  -- and the desk is as it was
  pub not_due_desk : due s ≡ false → desk_after on_desks d (found_now s) ≡ d
  unfolding due found_now desk_after found_at
  not_due_desk e =
      by_test s.ended (λ f. by_test (leb s.line request_lines) (λ g. not_both (rw (f, g)) e) (λ g. rw (f, g))) (λ f. rw f)
