-- `clerk::chains::put_chain` meets its contract. The loop's invariant: the jobs passed stand on the line, with tabs between.
-- Assumes nothing.
use native.Mathlib.Omega.{arith}
use mathlib.Core.Path.{◌∙◌}
use Prim.Native.Nat.{◌+◌, ◌≤◌}
use Rattle.terms.specs.Limits.{last_number}
use Rattle.text_rules.proofs.WroteLaws.{wrote_length}
use Rattle.program_rules.specs.Closing.{job_room}
use Rattle.clerk.proofs.Adding.{added_next, fits_told}
use Rattle.clerk.proofs.Listing.{job_digits, job_behind, listed_first, listed_next, listed_line}
use Rattle.clerk.proofs.chains.put_chain.Goals as goal

pub unwrap-next-requires : goal.unwrap-next-requires
unwrap-next-requires c =
    let f : c.from.result ≤ last_number = omega (arith, c.type_inv.jobs 0) in
    fits_told _ _ _ 10 c.write_number.ensures.0 (job_digits c.from.result f) (omega arith)

pub loop-job-init : goal.loop-job-init
loop-job-init c =
    let e = c.write_number.ensures in
    let f : c.from.result ≤ last_number = omega (arith, c.type_inv.jobs 0) in
    listed_first c.requires.0 c.from.ensures (added_next e.0 c.unwrap-next.ensures e.1 (job_digits c.from.result f))

pub unwrap-next-requires-in-loop-job : goal.unwrap-next-requires-in-loop-job
unwrap-next-requires-in-loop-job c =
    let a = c.args in
    let l = c.loop-job.invariant in
    let k = c.from-in-loop-job.ensures ∙ job_behind a.jobs.now c.loop-job.job-index (omega arith) in
    let f : c.from-in-loop-job.result ≤ last_number = omega (arith, c.type_inv.jobs (c.loop-job.job-index + 1)) in
    let d = job_digits c.from-in-loop-job.result f in
    let n = wrote_length l.wrote in
    let g = l.few in
    fits_told _ _ _ job_room c.write_field.ensures.0 (omega arith) (omega arith)

pub loop-job-preserved : goal.loop-job-preserved
loop-job-preserved c =
    let a = c.args in
    let l = c.loop-job.invariant in
    let k = c.from-in-loop-job.ensures ∙ job_behind a.jobs.now c.loop-job.job-index (omega arith) in
    let f : c.from-in-loop-job.result ≤ last_number = omega (arith, c.type_inv.jobs (c.loop-job.job-index + 1)) in
    let d = job_digits c.from-in-loop-job.result f in
    let e = c.write_field.ensures in
    listed_next l (omega arith) k (added_next e.0 c.unwrap-next-in-loop-job.ensures e.1 (omega arith))

pub unwrap-requires : goal.unwrap-requires
unwrap-requires c =
    let l = c.loop-job.invariant in
    let n = wrote_length l.wrote in
    let g = l.few in
    let w = l.within in
    fits_told _ _ _ 1 c.write_end.ensures.0 (omega arith) (omega arith)

pub returns : goal.returns
returns c =
    let l = c.loop-job.invariant in
    let e = c.write_end.ensures in
    listed_line l (omega arith) (added_next e.0 c.unwrap.ensures e.1 (omega arith))
