-- The records of the wakes, one after another: each has at most 24 bytes, and there are at most 32.
-- Assumes nothing.
use Prim.Native.Nat.{ℕ, ◌+◌, ◌*◌, ◌≤◌, ◌<◌}
use mathlib.Core.Path.{◌≡◌, refl, sym, ap, ◌∙◌}
use mathlib.Core.List.{List, [], ◌∷◌, ◌++◌, append_assoc, append-nil, map}
use native.Mathlib.Omega.{arith}
use native.Mathlib.Numerals.{add-one}
use lib.ListN.{length, take, get_or, length-append, length-map, get_or-map}
use lib.Seq.{take-suc, take_all}
use Rattle.terms.specs.declared.letters.Letter.{Letter}
use Rattle.conflict.specs.declared.action.Action.{Action}
use Rattle.text_rules.specs.Records.{longest_record}
use Rattle.text_rules.specs.Wrote.{Wrote}
use Rattle.text_rules.proofs.WroteLaws.{wrote_then, wrote_as}
use Rattle.desks.specs.declared.Answer.{Answer}
use Rattle.program_rules.specs.declared.View.{View}
use Rattle.clerk.specs.Parts.{Added, first_record, wake_record, wake_records, line_records}
use Rattle.clerk.proofs.Adding.{added_none, added_as}

-- the records of some wakes and then of others
wakes_append : (view : View) (line : ℕ) (a b : List Action) → wake_records view line (a ++ b) ≡ wake_records view line a ++ wake_records view line b
unfolding wake_records
wakes_append view line [] b = refl
wakes_append view line (x ∷ a) b =
    ap (λ l. wake_record view line x ++ l) (wakes_append view line a b) ∙ sym (append_assoc (wake_record view line x) (wake_records view line a) (wake_records view line b))

-- one wake alone
wakes_one : (view : View) (line : ℕ) (a : Action) → wake_records view line (a ∷ []) ≡ wake_record view line a
unfolding wake_records
wakes_one view line a = append-nil (wake_record view line a)

-- one wake more
wakes_suc : (view : View) (line : ℕ) (ws : List Action) (i : ℕ) (d : Action) → i < length ws →
    wake_records view line (take i ws) ++ wake_record view line (get_or ws i d) ≡ wake_records view line (take (i + 1) ws)
wakes_suc view line ws i d h =
    ap (λ l. wake_records view line (take i ws) ++ l) (sym (wakes_one view line (get_or ws i d)))
    ∙ sym (wakes_append view line (take i ws) (get_or ws i d ∷ []))
    ∙ ap (wake_records view line) (sym (take-suc ws i d h) ∙ ap (λ n. take n ws) (sym (add-one i)))

module _ (view : View) (line : ℕ) (f : ℕ → Action) (ps : List ℕ) where
  -- the records of the first woken places
  abbrev pub first_wakes : ℕ → List ℕ
  first_wakes i = wake_records view line (take i (map f ps))

  -- before the first
  pub wakes_none : {at : ℕ} {b : List ℕ} → at ≤ length b → Added 0 at at (first_wakes 0) b b
  unfolding wake_records
  wakes_none h = added_none h

  -- one more is written behind the others
  pub wakes_more : (i : ℕ) {at a e : ℕ} {b m p : List ℕ} → i < length ps →
      Added (longest_record * i) at a (first_wakes i) b m → Added longest_record a e (wake_record view line (f (get_or ps i 0))) m p →
      Added (longest_record * (i + 1)) at e (first_wakes (i + 1)) b p
  wakes_more i {a = a} {e} {m = m} {p} h w v =
      let n = length-map ps f in
      let v' = added_as v (ap (wake_record view line) (sym (get_or-map f ps i 0))) in
      added_as
      (record { wrote = wrote_then w.wrote v'.wrote; few = simp length-append (let k = w.few in let g = v'.few in omega arith) })
      (wakes_suc view line (map f ps) i (f 0) (omega arith))

  -- all that there are
  pub wakes_all : (i : ℕ) {most at e : ℕ} {b m : List ℕ} → length ps ≤ i → Added most at e (first_wakes i) b m → Wrote at e (wake_records view line (map f ps)) b m
  wakes_all i h w = let n = length-map ps f in wrote_as w.wrote (ap (wake_records view line) (take_all i (map f ps) (omega arith)))

-- all records of a line: the first, and those of the wakes behind it
pub records_woken : (view : View) (line : ℕ) (l : Letter) (cell : ℕ) (answer : Answer) (ws : List Action) {at a e : ℕ} {b m p : List ℕ} →
    Added longest_record at a (first_record view line l cell answer) b m → Wrote a e (wake_records view line ws) m p → Wrote at e (line_records view line l cell answer ws) b p
unfolding line_records
records_woken view line l cell answer ws w v = wrote_then w.wrote v
