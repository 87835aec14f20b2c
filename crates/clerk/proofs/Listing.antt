-- The jobs of a chain, one after another, on a line: each has at most ten digits, and a tab or the newline beside them.
-- Assumes nothing.
use Prim.Native.Nat.{ℕ, ◌+◌, ◌-◌, ◌*◌, ◌≤◌, ◌<◌}
use mathlib.Core.Path.{◌≡◌, ap, ◌∙◌}
use mathlib.Core.List.{List, [], ◌∷◌}
use native.Mathlib.Omega.{arith}
use lib.ListN.{length, take, drop, get_or}
use Rattle.std.proofs.lemmas.List.{get_or-take}
use Rattle.std.proofs.lemmas.Grind.{get_or_after_one}
use Rattle.terms.specs.Limits.{last_number}
use Rattle.terms.specs.Words.{tab, newline}
use Rattle.text_rules.specs.Decimal.{decimal}
use Rattle.text_rules.specs.Records.{tabs_between, jobs_line}
use Rattle.text_rules.specs.Wrote.{Wrote}
use Rattle.text_rules.proofs.DigitLaws.{digits_at_most}
use Rattle.text_rules.proofs.TabbedLaws.{between_first, between_next, jobs_line_is}
use Rattle.text_rules.proofs.WroteLaws.{wrote_then, wrote_as}
use Rattle.program_rules.specs.Closing.{job_room}
use Rattle.clerk.specs.Parts.{Added}

-- a job has at most ten digits
pub job_digits : (n : ℕ) → n ≤ last_number → length (decimal n) ≤ 10
job_digits n h = digits_at_most 9 n (omega arith)

-- a job behind the first
pub job_behind : (jobs : List ℕ) (i : ℕ) → i < length jobs - 1 → get_or (take (length jobs - 1) (drop 1 jobs)) i 0 ≡ get_or jobs (i + 1) 0
job_behind jobs i h =
    let e : 1 + i ≡ i + 1 = omega arith in
    get_or-take (length jobs - 1) (drop 1 jobs) i 0 h ∙ get_or_after_one jobs i 0 ∙ ap (λ k. get_or jobs k 0) e

-- the jobs of a chain written so far: at most eleven bytes each, apart from the newline to come
pub record Listed (jobs : List ℕ) (at next i : ℕ) (before after : List ℕ) : Type 0 where
  pub some : 0 < i
  pub within : i ≤ length jobs
  pub few : next + 1 ≤ at + job_room * i
  pub wrote : Wrote at next (tabs_between (take i jobs)) before after

-- the first
pub listed_first : {jobs b m : List ℕ} {at next n : ℕ} → 0 < length jobs → n ≡ get_or jobs 0 0 → Added 10 at next (decimal n) b m → Listed jobs at next 1 b m
listed_first {jobs} h k a =
    let f = a.few in
    let e = a.wrote.ends in
    record { some = omega arith; within = h; few = omega arith; wrote = wrote_as a.wrote (ap decimal k ∙ between_first jobs h) }

-- one more
pub listed_next : {jobs b m p : List ℕ} {at next to i n : ℕ} → Listed jobs at next i b m → i < length jobs → n ≡ get_or jobs i 0 → Added job_room next to (tab ∷ decimal n) m p → Listed jobs at to (i + 1) b p
listed_next {jobs} {i = i} l h k a =
    let f = a.few in
    let g = l.few in
    let e = a.wrote.ends in
    let s = l.some in
    record { some = omega arith; within = omega arith; few = omega arith; wrote = wrote_as (wrote_then l.wrote (wrote_as a.wrote (ap (λ x. tab ∷ decimal x) k))) (between_next jobs i s h) }

-- all of them, and the newline
pub listed_line : {jobs b m p : List ℕ} {at next to i : ℕ} → Listed jobs at next i b m → length jobs ≤ i → Added 1 next to (newline ∷ []) m p → Added (job_room * length jobs) at to (jobs_line jobs) b p
listed_line {jobs} {i = i} l h a =
    let f = a.few in
    let g = l.few in
    let k = l.within in
    let w = wrote_as (wrote_then l.wrote a.wrote) (jobs_line_is jobs i h) in
    let e = w.ends in
    let n = a.wrote.ends in
    record { wrote = w; few = omega arith }
