-- The started desks, however they are kept, are those reached by requests from a fresh desk, with the history that the requests write (01, How much a contract says).
-- Assumes nothing.
use Prim.Native.Nat.{ℕ}
use mathlib.Core.Path.{◌≡◌, refl, sym, ap, ap₂, ◌∙◌, subst, subst₂}
use mathlib.Core.List.{List, [], ◌∷◌, ◌++◌, append-nil, append_assoc}
use Rattle.conflict.specs.History.{History}
use Rattle.desks.specs.Request.{Request}
use Rattle.desks.specs.Stepping.{Stepping, through}
use Rattle.desks.specs.Started.{StartedOn, fresh, after as one_more, ReachedOn}
use Rattle.desks.specs.Records.{records_by}
use Rattle.desks.specs.Requests.{writes}

module _ {S : Type 0} (step : Stepping S) where
  -- some requests and then more lead to the desk that all of them lead to
  pub after_both : (d : S) (rs more : List Request) → through step d (rs ++ more) ≡ through step (through step d rs) more
  after_both d [] more = refl
  after_both d (x ∷ rs) more = after_both (step d x).desk rs more

  -- and write what the first and then the second write
  pub wrote_both : (d : S) (rs more : List Request) → writes step d (rs ++ more) ≡ writes step d rs ++ writes step (through step d rs) more
  unfolding writes
  wrote_both d [] more = refl
  wrote_both d (x ∷ rs) more = ap (λ h. records_by step d x ++ h) (wrote_both (step d x).desk rs more) ∙ sym (append_assoc (records_by step d x) (writes step (step d x).desk rs) (writes step (through step (step d x).desk rs) more))

module _ {S : Type 0} {step : Stepping S} {new : ℕ → S} where
  -- after any requests a started desk is still started, and has written what they write
  pub run_started : {d : S} {h : History} → StartedOn step new d h → (rs : List Request) → StartedOn step new (through step d rs) (h ++ writes step d rs)
  unfolding writes
  run_started {d} {h} s [] = rw (append-nil h) s
  run_started {d} {h} s (r ∷ rs) = subst (StartedOn step new (through step (step d r).desk rs)) (append_assoc h (records_by step d r) (writes step (step d r).desk rs)) (run_started {d = (step d r).desk} {h = h ++ records_by step d r} (one_more s r) rs)

  -- every started desk is reached in this way
  pub started_reached : {d : S} {h : History} → StartedOn step new d h → ReachedOn step new d h
  started_reached (fresh n l u) = record { first = n; least = l; most = u; requests = []; desk = refl; history = sym (nothing_written (new n)) }
    where
      nothing_written : (e : S) → writes step e [] ≡ []
      nothing_written e = unfold writes in refl
  started_reached (one_more {d = d} {h = h} s r) = more (started_reached s)
    where
      one_written : (e : S) → writes step e (r ∷ []) ≡ records_by step e r
      one_written e = unfold writes in append-nil (records_by step e r)

      more : ReachedOn step new d h → ReachedOn step new (step d r).desk (h ++ records_by step d r)
      more q = record {
        first = q.first;
        least = q.least;
        most = q.most;
        requests = q.requests ++ r ∷ [];
        desk = ap (λ x. (step x r).desk) q.desk ∙ sym (after_both step (new q.first) q.requests (r ∷ []));
        history = ap₂ (λ x y. x ++ records_by step y r) q.history q.desk ∙ sym (wrote_both step (new q.first) q.requests (r ∷ []) ∙ ap (λ g. writes step (new q.first) q.requests ++ g) (one_written (through step (new q.first) q.requests)));
      }

  -- and every desk reached in this way is started
  pub reached_started : {d : S} {h : History} → ReachedOn step new d h → StartedOn step new d h
  reached_started q = subst₂ (StartedOn step new) (sym q.desk) (sym q.history) (run_started (fresh q.first q.least q.most) q.requests)
