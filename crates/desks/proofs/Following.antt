-- A desk that follows another, kept in another way, shows what the other shows: the same desk after any requests, the same answers, wakes, numbers and histories.
-- Assumes nothing.
use Prim.Native.Nat.{ℕ, ◌<◌, ◌≤◌}
use mathlib.Core.Path.{◌≡◌, refl, sym, ap, ap₂, subst, ◌∙◌}
use mathlib.Core.List.{List, [], ◌∷◌, ◌++◌}
use Rattle.terms.specs.Limits.{last_number}
use Rattle.conflict.specs.History.{History}
use Rattle.desks.specs.Request.{Request}
use Rattle.desks.specs.Stepping.{Stepping, through}
use Rattle.desks.specs.Records.{records_of, records_by}
use Rattle.desks.specs.Started.{StartedOn, fresh, after}
use Rattle.desks.specs.Requests.{gives, given_by, writes}
use Rattle.desks.specs.Course.{Course, shown, course}
use Rattle.desks.specs.Told.{step_told, answers_of}
use Rattle.desks.specs.Follows.{Follows}
use Rattle.desks.proofs.StartedThrough.{run_started}

module _ {S T : Type 0} {see : S → T} {does : Stepping S} {new : ℕ → S} {theirs : Stepping T} {first : ℕ → T} (f : Follows see does new theirs first) where
  -- the desk that is seen in a started desk is started, with the same history
  pub seen_started : {d : S} {h : History} → StartedOn does new d h → StartedOn theirs first (see d) h
  unfolding records_by
  seen_started (fresh n l u) = subst (λ e. StartedOn theirs first e []) (sym (f.starts n l u)) (fresh n l u)
  seen_started (after {d = d} {h = h} s r) =
      subst (λ o. StartedOn theirs first o.desk (h ++ records_of r o.said o.wakes)) (sym (f.same d h s r)) (after (seen_started s) r)

  -- the desk that is seen after any requests is the other desk after them
  run_seen : (d : S) (h : History) → StartedOn does new d h → (rs : List Request) → see (through does d rs) ≡ through theirs (see d) rs
  run_seen d h s [] = refl
  run_seen d h s (r ∷ rs) = run_seen (does d r).desk (h ++ records_by does d r) (after s r) rs ∙ ap (λ o. through theirs o.desk rs) (f.same d h s r)

  -- what the requests write is what they write on the other desk
  run_writes : (d : S) (h : History) → StartedOn does new d h → (rs : List Request) → writes does d rs ≡ writes theirs (see d) rs
  unfolding writes records_by
  run_writes d h s [] = refl
  run_writes d h s (r ∷ rs) =
      ap₂ (λ x y. x ++ y) (ap (λ o. records_of r o.said o.wakes) (f.same d h s r))
      (run_writes (does d r).desk (h ++ records_by does d r) (after s r) rs ∙ ap (λ o. writes theirs o.desk rs) (f.same d h s r))

  -- and so are the numbers that they give
  run_gives : (d : S) (h : History) → StartedOn does new d h → (rs : List Request) → gives does d rs ≡ gives theirs (see d) rs
  unfolding gives
  run_gives d h s [] = refl
  run_gives d h s (r ∷ rs) =
      ap₂ (λ x y. x ++ y) (ap (λ o. given_by r o.said) (f.same d h s r))
      (run_gives (does d r).desk (h ++ records_by does d r) (after s r) rs ∙ ap (λ o. gives theirs o.desk rs) (f.same d h s r))

  -- and their answers and wakes
  run_answers : (d : S) (h : History) → StartedOn does new d h → (rs : List Request) → answers_of does d rs ≡ answers_of theirs (see d) rs
  unfolding answers_of
  run_answers d h s [] = refl
  run_answers d h s (r ∷ rs) =
      ap₂ (λ x y. x ++ y) (ap (λ o. step_told o.said o.wakes) (f.same d h s r))
      (run_answers (does d r).desk (h ++ records_by does d r) (after s r) rs ∙ ap (λ o. answers_of theirs o.desk rs) (f.same d h s r))

  -- so it shows what the desk that is seen in it shows
  pub one_course : (d : S) (h : History) → StartedOn does new d h → course see does d ≡ course (λ e. e) theirs (see d)
  one_course d h s =
      λ i. record {
        seen = λ rs. run_seen d h s rs i;
        does = λ rs r. (f.same (through does d rs) (h ++ writes does d rs) (run_started s rs) r ∙ ap (λ e. theirs e r) (run_seen d h s rs)) i;
        wrote = λ rs more. (run_writes (through does d rs) (h ++ writes does d rs) (run_started s rs) more ∙ ap (λ e. writes theirs e more) (run_seen d h s rs)) i;
        gave = λ rs more. (run_gives (through does d rs) (h ++ writes does d rs) (run_started s rs) more ∙ ap (λ e. gives theirs e more) (run_seen d h s rs)) i;
      }

  -- from a start on it shows what the other shows: the same answers, wakes and histories for every sequence of requests
  pub started_course : (n : ℕ) → 0 < n → n ≤ last_number → course see does (new n) ≡ course (λ e. e) theirs (first n)
  started_course n l u = one_course (new n) [] (fresh n l u) ∙ ap (course (λ e. e) theirs) (f.starts n l u)

  -- so it too keeps what every started desk of the other kind keeps
  pub keeps_too : {d : S} {h : History} (P : History → Course T → Type 0) → ((e : T) → StartedOn theirs first e h → P h (course (λ e. e) theirs e)) → StartedOn does new d h → P h (course see does d)
  keeps_too {d} {h} P kept s = subst (P h) (sym (one_course d h s)) (kept (see d) (seen_started s))

  -- it gives the same answers and wakes to any requests
  pub same_answers : (n : ℕ) → 0 < n → n ≤ last_number → (rs : List Request) → answers_of does (new n) rs ≡ answers_of theirs (first n) rs
  same_answers n l u rs = run_answers (new n) [] (fresh n l u) rs ∙ ap (λ e. answers_of theirs e rs) (f.starts n l u)

-- two desks that follow the same desk show the same, however they are kept
pub show_the_same : {S S' T : Type 0} {see : S → T} {does : Stepping S} {new : ℕ → S} {see' : S' → T} {does' : Stepping S'} {new' : ℕ → S'} {theirs : Stepping T} {first : ℕ → T} →
    Follows see does new theirs first → Follows see' does' new' theirs first → (n : ℕ) → 0 < n → n ≤ last_number → course see does (new n) ≡ course see' does' (new' n)
show_the_same f g n l u = started_course f n l u ∙ sym (started_course g n l u)

-- following is transitive: a desk that follows one that follows a third follows the third
pub follows_on : {S T U : Type 0} {see : S → T} {does : Stepping S} {new : ℕ → S} {theirs : Stepping T} {first : ℕ → T} {look : T → U} {thirds : Stepping U} {one : ℕ → U} →
    Follows see does new theirs first → Follows look theirs first thirds one → Follows (λ d. look (see d)) does new thirds one
follows_on {see = see} {look = look} f g = record {
  starts = λ n l u. ap look (f.starts n l u) ∙ g.starts n l u;
  same = λ d h s r. ap (shown look) (f.same d h s r) ∙ g.same (see d) h (seen_started f s) r;
}
