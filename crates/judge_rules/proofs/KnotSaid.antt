-- For a faultless text a knot is said exactly if its history is not dirty and has the knot in words, and then with these jobs in the buffer's first places (01, The judge's rules: Knot).
-- Assumes nothing.
use Prim.Native.Nat.{ℕ, ◌≤◌}
use mathlib.Core.Path.{◌≡◌, sym, ap, ◌∙◌, subst}
use mathlib.Core.Logic.{◌↔◌}
use mathlib.Core.List.{List}
use lib.ListN.{length, take}
use Rattle.laws.specs.Lists.{Fills}
use Rattle.conflict.specs.Schedule.{edge}
use Rattle.conflict.specs.History.{History, committed_part}
use Rattle.conflict.specs.Dirty.{IsDirty}
use Rattle.judge_rules.specs.declared.verdict.Verdict.TheVariants.{Knot}
use Rattle.judge_rules.specs.Judged.{Finding, knotted, jobs_of, finding_of}
use Rattle.judge_rules.specs.Meant.Says.{says_cycle}
use Rattle.judge_rules.specs.HistoryText.{readings_of, events_in}
use Rattle.judge_rules.specs.Judgement.{judgement_of}
use Rattle.judge_rules.specs.LineTable.{AllFaultless}
use Rattle.judge_rules.specs.Answers.{InKnot}
use Rattle.judge_rules.specs.KnotWorded.{KnotTold}
use Rattle.judge_rules.proofs.Histories.{knot_refuses, finding_exactly}
use Rattle.judge_rules.proofs.KnotWorded.{knot_found}
use Rattle.judge_rules.proofs.JudgedTexts.{knot_said, knot_said_exactly}

-- two lists of one length that fill the first places are equal
same_filled : {js ks before after : List ℕ} → length js ≡ length ks → Fills js before after → Fills ks before after → js ≡ ks
same_filled {after = after} e f g = sym f.first ∙ ap (λ n. take n after) e ∙ g.first

-- equal knots have the same jobs
same_knot : {js ks : List ℕ} → ◌≡◌ {A = Finding} (knotted js) (knotted ks) → js ≡ ks
same_knot e = cc

-- the knot of an answer is the one that is found
knot_is : (h : History) {before after : List ℕ} {n : ℕ} (k : InKnot h before after n) → finding_of h ≡ knotted k.knot
knot_is h k = (finding_exactly h (knotted k.knot)).0 (says_cycle k.takes k.walked)

module _ (text buffer : List ℕ) where
  -- the history that the text says
  abbrev says : History
  says = events_in (readings_of text)

  -- the jobs of a knot that is told are those of the knot in words
  pub knot_told : (n : ℕ) → (judgement_of text buffer).said ≡ Knot n → (js : List ℕ) × (n ≡ length js) × Fills js buffer (judgement_of text buffer).order × KnotTold (edge (committed_part says)) (jobs_of says) js
  knot_told n e =
      let k = (knot_said text buffer n e).2 in
      (k.knot, k.count, k.fills, (knot_found says k.knot).0 (knot_is says k))

  -- THE KNOT: these jobs are told exactly if they are the knot in words of a history that is not dirty
  pub knot_told_exactly : 255 ≤ length buffer → AllFaultless (readings_of text) → (js : List ℕ) →
      (((judgement_of text buffer).said ≡ Knot (length js)) × Fills js buffer (judgement_of text buffer).order) ↔ (KnotTold (edge (committed_part says)) (jobs_of says) js × (IsDirty says → ⊥))
  knot_told_exactly room all js = (
    λ s.
        let t = knot_told (length js) s.0 in
        (subst (KnotTold (edge (committed_part says)) (jobs_of says)) (sym (same_filled t.1 s.1 t.2)) t.3, (knot_said text buffer (length js) s.0).2.clean),
    λ t.
        let v : finding_of says ≡ knotted js = (knot_found says js).1 t.0 in
        let e = (knot_said_exactly text buffer room all).1 (knot_refuses says js v, t.1) in
        let k = (knot_said text buffer e.0 e.1).2 in
        let q : k.knot ≡ js = same_knot (sym (knot_is says k) ∙ v) in
        (e.1 ∙ ap Knot (k.count ∙ ap length q), subst (λ l. Fills l buffer (judgement_of text buffer).order) q k.fills),
  )
