-- Histories in number order: the judge's order is the committed jobs in ascending numbers, and it never finds a knot (01, The judge's rules; 02, No. 6).
-- Assumes nothing.
use Rattle.std.specs.Prelude.{Some}
use Prim.Native.Nat.{ℕ, ◌≤◌, ◌<◌}
use mathlib.Core.Path.{◌≡◌, refl, ap, ◌∙◌, subst}
use mathlib.Core.Bool.{true, false}
use mathlib.Core.List.{List, [], ◌∷◌, ◌++◌, map}
use native.Mathlib.Omega.{arith}
use lib.ListN.{length}
use lib.Dec.{eqb}
use Rattle.laws.specs.Choice.{by_test}
use Rattle.laws.specs.Lists.{member, Fills}
use Rattle.laws.specs.Sorted.{under, ascending}
use Rattle.laws.proofs.Lists.{same_refl, once_first}
use Rattle.laws.proofs.Parts.{and_second, nor_first, nor_second}
use Rattle.laws.proofs.Sorted.{head_least, ascending_once}
use Rattle.conflict.specs.Schedule.{edge}
use Rattle.conflict.specs.History.{History, committed_part}
use Rattle.conflict.specs.Dirty.{IsDirty}
use Rattle.conflict.specs.NumberOrder.{ActsInNumberOrder}
use Rattle.conflict.proofs.NumberOrder.{number_order_part, rising_edges, number_order_serializable}
use Rattle.text_rules.specs.Decimal.{decimal}
use Rattle.text_rules.specs.Split.{joined}
use Rattle.judge_rules.specs.declared.verdict.Verdict.TheVariants.{Orderly, Knot}
use Rattle.judge_rules.specs.Order.{Edges, preceded, first, ready, without, Taken, ends, leads, taken, order_of, stuck}
use Rattle.judge_rules.specs.Judged.{orderly, finding_by, judged, jobs_of, finding_of}
use Rattle.judge_rules.specs.Judgement.{judgement_of}
use Rattle.judge_rules.specs.HistoryText.{readings_of, events_in}
use Rattle.judge_rules.specs.LineTable.{AllFaultless}
use Rattle.judge_rules.specs.Meant.{SmallestFirst}
use Rattle.judge_rules.specs.VerdictLine.{verdict_of}
use Rattle.judge_rules.proofs.Preceded.{preceded_by}
use Rattle.judge_rules.proofs.SmallestFirst.{smallest_first_unique}
use Rattle.judge_rules.proofs.Histories.{jobs_ascending, order_smallest}
use Rattle.judge_rules.proofs.JudgedTexts.{orderly_said, orderly_said_exactly, knot_said, knot_said_exactly}
use Rattle.judge_rules.proofs.Printed.{printed_orderly}

-- leaving out a job that is not there leaves all jobs
without_none : (j : ℕ) (ks : List ℕ) → member j ks ≡ false → without j ks ≡ ks
unfolding without member
without_none j [] f = refl
without_none j (k ∷ ks) f = rw (nor_first (eqb k j) (member j ks) f) (ap (λ l. k ∷ l) (without_none j ks (nor_second (eqb k j) (member j ks) f)))

-- leaving out the first, if it does not come again, leaves the rest
without_first : (j : ℕ) (js : List ℕ) → member j js ≡ false → without j (j ∷ js) ≡ js
unfolding without
without_first j js f = rw (same_refl j) (without_none j js f)

module _ (e : Edges) (rises : (i j : ℕ) → e i j ≡ true → i < j) where
  -- if edges only rise, the smallest of the jobs left is ready
  smallest_ready : (j : ℕ) (js : List ℕ) → ascending (j ∷ js) ≡ true → ready e (j ∷ js) ≡ Some j
  unfolding ready first
  smallest_ready j js up =
      let free : preceded e (j ∷ js) j ≡ false =
      by_test (preceded e (j ∷ js) j)
      (λ p. let by = preceded_by e (j ∷ js) j p in absurd (omega (arith, rises by.0 j by.2, head_least j js up by.0 by.1))) (λ f. f) in
      rw free

  -- so the jobs are taken away in ascending order, and none remains
  taken_ascending : (jobs : List ℕ) → ascending jobs ≡ true → taken e (length jobs) jobs ≡ record { order = jobs; remaining = [] }
  unfolding taken ends leads ascending
  taken_ascending [] up = refl
  taken_ascending (j ∷ js) up =
      rw (smallest_ready j js up) (ap (λ l. leads j (taken e (length js) l)) (without_first j js (once_first j js (ascending_once (j ∷ js) up)))
      ∙ ap (leads j) (taken_ascending js (and_second (under j js) (ascending js) up)))

  module _ (jobs : List ℕ) (up : ascending jobs ≡ true) where
    -- ASCENDING: the order that takes the smallest first is the jobs in ascending order
    pub order_ascending : order_of e jobs ≡ jobs
    unfolding order_of
    order_ascending = ap (λ (t : Taken). t.order) (taken_ascending jobs up)

    -- and no job remains
    pub none_stuck : stuck e jobs ≡ []
    unfolding stuck
    none_stuck = ap (λ (t : Taken). t.remaining) (taken_ascending jobs up)

    -- so they are found orderly
    pub judged_ascending : judged e jobs ≡ orderly jobs
    unfolding judged finding_by
    judged_ascending = rw (none_stuck, order_ascending)

-- FOR A HISTORY IN NUMBER ORDER it is found that its committed jobs in ascending numbers are a serial order (02, No. 6)
pub number_order_found : (h : History) → ActsInNumberOrder h → finding_of h ≡ orderly (jobs_of h)
unfolding finding_of
number_order_found h o =
    judged_ascending (edge (committed_part h)) (rising_edges (committed_part h) (number_order_part h o)) (jobs_of h) (jobs_ascending h)

module _ (text : List ℕ) where
  -- the history that the text says
  abbrev says : History
  says = events_in (readings_of text)

  module _ (o : ActsInNumberOrder says) where
    -- no other order is smallest first
    only_ascending : (order : List ℕ) → SmallestFirst (edge (committed_part says)) (jobs_of says) order → order ≡ jobs_of says
    only_ascending order s =
        smallest_first_unique (edge (committed_part says)) (jobs_of says) order (jobs_of says) s (order_smallest says (jobs_of says) (number_order_found says o))

    -- NEVER A KNOT: whatever the buffer, the judge finds none in a text whose history is in number order; if it is dirty, that is said (`dirty_said_exactly` in JudgedTexts.antt)
    pub number_order_never_knot : (buffer : List ℕ) (n : ℕ) → (judgement_of text buffer).said ≡ Knot n → ⊥
    number_order_never_knot buffer n e =
        let k = knot_said text buffer n e in ((knot_said_exactly text buffer k.0 k.1).0 (n, e)).0 (number_order_serializable says o)

    -- whenever orderly is said, it is said with the number of committed jobs, and they fill the buffer's first places in ascending numbers
    pub number_order_told : (buffer : List ℕ) (n : ℕ) → (judgement_of text buffer).said ≡ Orderly n → (n ≡ length (jobs_of says)) × Fills (jobs_of says) buffer (judgement_of text buffer).order
    number_order_told buffer n e =
        let i = (orderly_said text buffer n e).2 in
        let q : i.order ≡ jobs_of says = only_ascending i.order i.smallest in
        (i.count ∙ ap length q, subst (λ js. Fills js buffer (judgement_of text buffer).order) q i.fills)

    module _ (all : AllFaultless (readings_of text)) (clean : IsDirty says → ⊥) where
      -- ORDERLY: it is said for a faultless text that is not dirty, with the number of committed jobs
      pub number_order_orderly : (buffer : List ℕ) → 255 ≤ length buffer → (judgement_of text buffer).said ≡ Orderly (length (jobs_of says))
      number_order_orderly buffer room =
          let s = (orderly_said_exactly text buffer room all).1 (number_order_serializable says o, clean) in
          s.1 ∙ ap Orderly (number_order_told buffer s.0 s.1).0

      -- and they fill the buffer's first places in ascending numbers
      pub number_order_fills : (buffer : List ℕ) → 255 ≤ length buffer → Fills (jobs_of says) buffer (judgement_of text buffer).order
      number_order_fills buffer room = (number_order_told buffer (length (jobs_of says)) (number_order_orderly buffer room)).1

      -- THE VERDICT: the program `verdict` prints `orderly` and the committed jobs in ascending numbers, a tab before each
      pub number_order_verdict : length text ≤ 65_536 → verdict_of text ≡ 111 ∷ 114 ∷ 100 ∷ 101 ∷ 114 ∷ 108 ∷ 121 ∷ joined (map (λ j. 9 ∷ decimal j) (jobs_of says)) ++ 10 ∷ []
      number_order_verdict short =
          let p = printed_orderly text short all (number_order_serializable says o) clean in
          subst (λ js. verdict_of text ≡ 111 ∷ 114 ∷ 100 ∷ 101 ∷ 114 ∷ 108 ∷ 121 ∷ joined (map (λ j. 9 ∷ decimal j) js) ++ 10 ∷ []) (only_ascending p.0 p.1) p.2
