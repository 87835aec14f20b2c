-- What is told of the lines that a splitter finds, one after another, is the run over the lines of the text.
-- Assumes nothing.
use Prim.Native.Nat.{ℕ, ◌+◌, ◌-◌, ◌^◌, ◌≤◌, ◌<◌}
use mathlib.Core.Path.{◌≡◌, refl, ap, ◌∙◌}
use mathlib.Core.Bool.{Bool, true, false, ◌&&◌}
use mathlib.Core.List.{List, [], ◌∷◌, ◌++◌}
use native.Mathlib.Omega.{arith}
use lib.Dec.{leb, ltb}
use lib.ListN.{take}
use borrow.Author.Tests.{ltb-true, ltb-false, le-leb, lt-leb, lt-ltb}
use Rattle.laws.specs.Choice.{by_test, not_both}
use Rattle.terms.specs.Letters.{of_requests}
use Rattle.terms.specs.Limits.{request_lines}
use Rattle.text_rules.specs.Split.{kept, following, one_line, every, Found, numbered_on}
use Rattle.text_rules.proofs.ShortLines.{short_reads}
use Rattle.desks.specs.Stepping.{Stepping}
use Rattle.program_rules.specs.OverLines.{answered, line_by, run_of}
use Rattle.program_rules.specs.Tellings.{telling, tellings, desk_after}

module _ {S : Type 0} (step : Stepping S) where
  -- the desk after some lines and then others
  pub desk_append : (d : S) (fs gs : List Found) → desk_after step d (fs ++ gs) ≡ desk_after step (desk_after step d fs) gs
  unfolding desk_after
  desk_append d [] gs = refl
  desk_append d (f ∷ fs) gs =
      by_test (leb f.number request_lines) (λ e. rw e (desk_append (telling step d f).desk fs gs)) (λ e. rw e (desk_append d fs gs))

  -- what is told of some lines and then of others
  pub tellings_append : (d : S) (fs gs : List Found) → tellings step d (fs ++ gs) ≡ tellings step d fs ++ tellings step (desk_after step d fs) gs
  unfolding tellings desk_after
  tellings_append d [] gs = refl
  tellings_append d (f ∷ fs) gs =
      by_test (leb f.number request_lines)
      (λ e. rw e (ap (λ ts. (telling step d f).told ∷ ts) (tellings_append (telling step d f).desk fs gs)))
      (λ e. rw e (tellings_append d fs gs))

  -- after line 1,000,000 nothing is told
  tellings_past : (d : S) (n : ℕ) (ls : List (List ℕ)) → request_lines < n → tellings step d (numbered_on n ls) ≡ []
  unfolding tellings numbered_on following
  tellings_past d n [] h = refl
  tellings_past d n (l ∷ ls) h =
      rw (lt-leb n request_lines h)
      (by_test (ltb n (2 ^ 64 - 1))
      (λ e. rw e (tellings_past d (n + 1) ls (omega arith)))
      (λ e. rw e (tellings_past d n ls h)))

  -- a line is told as its first bytes tell it
  pub line_told : (d : S) (n : ℕ) (l : List ℕ) → one_line l ≡ true → line_by step d n (take kept l) ≡ line_by step d n l
  unfolding line_by
  line_told d n l o = ap (answered step d n) (short_reads of_requests l o)

  -- both parts of a test that holds
  pub both : (a b : Bool) → (a && b) ≡ true → (a ≡ true) × (b ≡ true)
  both true b h = (refl, h)
  both false b h = not_both h refl

  -- up to line 1,000,000 the next number is larger by one
  pub next_number : (n : ℕ) → n ≤ request_lines → following n ≡ n + 1
  unfolding following
  next_number n h = rw (lt-ltb n (2 ^ 64 - 1) (omega arith))

  -- the first line is told, and then the others
  tellings_first : (d : S) (n : ℕ) (l : List ℕ) (ls : List (List ℕ)) → one_line l ≡ true → n ≤ request_lines →
      tellings step d (numbered_on n (l ∷ ls)) ≡ (line_by step d n l).told ∷ tellings step (line_by step d n l).desk (numbered_on (n + 1) ls)
  unfolding tellings telling numbered_on
  tellings_first d n l ls o h = rw (le-leb n request_lines h, line_told d n l o, next_number n h)

  -- what is told of the lines of a text is the run over them
  pub tellings_run : (d : S) (n : ℕ) (ls : List (List ℕ)) → every one_line ls ≡ true → tellings step d (numbered_on n ls) ≡ run_of step d n ls
  unfolding run_of
  tellings_run d n [] o = unfold tellings numbered_on in refl
  tellings_run d n (l ∷ ls) o =
      let p = both (one_line l) (every one_line ls) (unfold every in o) in
      by_test (ltb request_lines n)
      (λ e. rw e (tellings_past d n (l ∷ ls) (ltb-true request_lines n e)))
      (λ e.
      rw e
      (tellings_first d n l ls p.0 (ltb-false request_lines n e)
      ∙ ap (λ ts. (line_by step d n l).told ∷ ts) (tellings_run (line_by step d n l).desk (n + 1) ls p.1)))
