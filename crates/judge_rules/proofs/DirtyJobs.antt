-- The reader and the writer of a dirty read in a faultless text are 1 to 255, as every job that acts in one is (01, refusal 12; 02, No. 2).
-- Assumes nothing.
use Prim.Native.Nat.{ℕ, suc, ◌-◌, ◌≤◌, ◌<◌}
use mathlib.Core.Path.{◌≡◌, ◌∙◌, subst}
use mathlib.Core.Bool.{false}
use mathlib.Core.List.{List, [], ◌∷◌, ◌++◌, append_assoc}
use native.Mathlib.Omega.{arith}
use lib.ListN.{length, get_or}
use Rattle.std.specs.Prelude.{Err, Ok}
use Rattle.terms.specs.declared.letters.Letter.{Letter}
use Rattle.terms.specs.declared.letters.Letter.TheVariants.{Begin, Commit, GiveUp, Retry, Back, Asks}
use Rattle.terms.specs.declared.refusals.Field.TheVariants.{First}
use Rattle.terms.specs.Limits.{judged_jobs}
use Rattle.conflict.specs.declared.action.Action.{Action}
use Rattle.conflict.specs.declared.action.Mark.{Mark}
use Rattle.conflict.specs.declared.action.Event.{Event}
use Rattle.conflict.specs.declared.action.Event.TheVariants.{Does, Ends}
use Rattle.conflict.specs.History.{History}
use Rattle.conflict.specs.Dirty.{FirstDirty}
use Rattle.judge_rules.specs.HistoryText.{event_of, events_in}
use Rattle.judge_rules.specs.LineTable.{outside, reading_at, lines_before, AllFaultless}
use Rattle.judge_rules.proofs.CleanLines.{clean_line}
use Rattle.judge_rules.proofs.FewJobs.{not_outside}
use Rattle.text_rules.specs.Lines.{Reading, good}

-- a job that the judge takes
abbrev Judged : ℕ → Type 0
Judged j = (1 ≤ j) × (j ≤ judged_jobs)

module _ {P : Type 0} (h before : History) (a : Action) (after : History) (later : (ahead : History) → h ≡ ahead ++ Does a ∷ after → P) where
  -- an action that stands in a history is its first event, or stands after it
  first_or_later : (e : Event) → e ∷ h ≡ before ++ Does a ∷ after → (e ≡ Does a → P) → P
  first_or_later e q first = by_front before q
    where
      by_front : (front : History) → e ∷ h ≡ front ++ Does a ∷ after → P
      by_front [] r = first cc
      by_front (b ∷ front) r = later front cc

  -- a mark is not an action
  not_a_mark : (m : Mark) (job : ℕ) → Ends m job ∷ h ≡ before ++ Does a ∷ after → P
  not_a_mark m job q = first_or_later (Ends m job) q (λ e. let z : ◌≡◌ {A = ℕ} 0 1 = cc in absurd (omega arith))

  -- the event of a good line comes before the rest
  good_or_later : (l : Letter) (job cell : ℕ) → outside (good l job cell) ≡ false → event_of (good l job cell) ++ h ≡ before ++ Does a ∷ after → (Judged a.job → P) → P
  unfolding event_of
  good_or_later Begin job cell o q one = later before q
  good_or_later Commit job cell o q one = not_a_mark _ job q
  good_or_later GiveUp job cell o q one = not_a_mark _ job q
  good_or_later Retry job cell o q one = later before q
  good_or_later Back job cell o q one = not_a_mark _ job q
  good_or_later (Asks x) job cell o q one =
      first_or_later _ q (λ e. let j : job ≡ a.job = cc in one (subst Judged j (not_outside job o)))

  -- the event of a line comes before the rest
  line_or_later : (r : Reading) → outside r ≡ false → event_of r ++ h ≡ before ++ Does a ∷ after → (Judged a.job → P) → P
  unfolding event_of
  line_or_later (Err at) o q one = later before q
  line_or_later (Ok line) o q one = good_or_later line.letter line.job line.cell o q one

-- if no line has a job outside, a job that acts on them is 1 to 255
acts_within : (rs : List Reading) → ((k : ℕ) → k < length rs → outside (get_or rs k (Err First)) ≡ false) → (before : History) (a : Action) (after : History) → events_in rs ≡ before ++ Does a ∷ after → Judged a.job
unfolding events_in
acts_within [] all [] a after q = let z : ◌≡◌ {A = ℕ} 0 1 = cc in absurd (omega arith)
acts_within [] all (b ∷ before) a after q = let z : ◌≡◌ {A = ℕ} 0 1 = cc in absurd (omega arith)
acts_within (r ∷ rs) all before a after q =
    line_or_later (events_in rs) before a after (λ ahead e. acts_within rs (λ k h. all (suc k) (omega arith)) ahead a after e) r (all 0 (omega arith)) q (λ w. w)

-- no line of a faultless text has a job outside
all_inside : (rs : List Reading) → AllFaultless rs → (k : ℕ) → k < length rs → outside (get_or rs k (Err First)) ≡ false
all_inside rs all k h =
    let less_one : suc k - 1 ≡ k = omega arith in
    subst (λ i. outside (get_or rs i (Err First)) ≡ false) less_one (clean_line (suc k) (lines_before rs (suc k)) (reading_at rs (suc k)) (all (suc k) (omega arith) h)).inside

-- reader and writer of a faultless text's first dirty read are 1 to 255
pub dirty_within : (rs : List Reading) → AllFaultless rs → (reader writer : ℕ) → FirstDirty (events_in rs) reader writer → Judged reader × Judged writer
dirty_within rs all reader writer f =
    let d = f.dirty_read in (
      subst Judged d.reads_by (acts_within rs (all_inside rs all) (d.before ++ Does d.write ∷ d.between) d.read d.after d.lines),
      subst Judged d.writes_by
          (acts_within rs (all_inside rs all) d.before d.write (d.between ++ Does d.read ∷ d.after)
          (d.lines ∙ append_assoc d.before (Does d.write ∷ d.between) (Does d.read ∷ d.after))),
    )
