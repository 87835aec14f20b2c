-- The verdict on the lines that a faultless text leaves in the arrays is the judgement on the text.
-- Assumes nothing.
use Rattle.std.specs.Prelude.{Result, Ok}
use Prim.Native.Nat.{ℕ, ◌≤◌, ◌<◌}
use mathlib.Core.Path.{◌≡◌, sym, ap, ◌∙◌, subst}
use mathlib.Core.List.{List, []}
use borrow.Author.Tests.{ltb-true, ltb-false}
use lib.Dec.{ltb}
use lib.ListN.{length}
use Rattle.laws.specs.Choice.{by_test}
use Rattle.terms.specs.declared.refusals.Refusal.TheVariants.{ShortOrder}
use Rattle.terms.specs.Limits.{judged_jobs}
use Rattle.judge_rules.specs.HistoryText.{readings_of}
use Rattle.judge_rules.specs.declared.verdict.Verdict.{Verdict}
use Rattle.judge_rules.specs.declared.verdict.Verdict.TheVariants.{No}
use Rattle.judge_core.specs.Kept.{first_fault, kept_judgement}
use Rattle.judge_core.proofs.KeptLaws.{kept_short, kept_decided}
use Rattle.judge.specs.declared.lines.KeptLines.{KeptLines}
use Rattle.judge.specs.declared.scan.Faulty.{Faulty}
use Rattle.judge.specs.Scanned.{Clean, ScannedAs}
use Rattle.judge.specs.Judged.{JudgedAs}
use Rattle.judge.proofs.Handing.{judged_short, judged_clean}
use Rattle.judge.proofs.KeptSound.{text_sound}

module _ (text : List ℕ) (lines : KeptLines) (buffer : List ℕ) (x : Result ℕ Faulty) (s : ScannedAs text lines x) (n : ℕ) (said : Verdict) (after : List ℕ) (e : x ≡ Ok n)
    (p : said ≡ (kept_judgement lines.codes lines.jobs lines.cells buffer n).said) (q : after ≡ (kept_judgement lines.codes lines.jobs lines.cells buffer n).order) where
  -- a short buffer is told of as the judge tells of it
  kept_too_short : length buffer < judged_jobs → JudgedAs text buffer after (record { said = said; place = record { start = 0; end = 0 } })
  kept_too_short h =
      let k = kept_short lines.codes lines.jobs lines.cells buffer n h in
      subst (λ v. JudgedAs text buffer after (record { said = v; place = record { start = 0; end = 0 } })) (k.0 ∙ sym p)
      (subst (λ a. JudgedAs text buffer a (record { said = No 0 ShortOrder; place = record { start = 0; end = 0 } })) (k.1 ∙ sym q) (judged_short text buffer h))

  -- for any other the lines decide, and none of them is refused
  kept_long_enough : judged_jobs ≤ length buffer → JudgedAs text buffer after (record { said = said; place = record { start = 0; end = 0 } })
  kept_long_enough h =
      let c : Clean text lines.codes lines.jobs lines.cells n = subst (ScannedAs text lines) e s in
      let d = kept_decided lines.codes lines.jobs lines.cells buffer n h (sym (ap (first_fault 1 []) c.says ∙ text_sound (readings_of text) c.faultless)) in
      judged_clean text lines buffer x h s n said after e (p ∙ ap (λ j. j.said) d) (q ∙ ap (λ j. j.order) d)

  -- the judge hands on what is said of the lines
  pub judged_kept : JudgedAs text buffer after (record { said = said; place = record { start = 0; end = 0 } })
  judged_kept =
      by_test (ltb (length buffer) judged_jobs) (λ t. kept_too_short (ltb-true (length buffer) judged_jobs t))
      (λ f. kept_long_enough (ltb-false (length buffer) judged_jobs f))
