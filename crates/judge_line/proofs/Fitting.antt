-- A part of a line that fits is written: the writer does not refuse it.
-- Assumes nothing.
use Rattle.std.specs.Prelude.{Result, Ok}
use Rattle.std.specs.Result.{result_unwrap_or}
use Prim.Native.Nat.{ℕ, ◌+◌, ◌≤◌}
use mathlib.Core.Path.{◌≡◌, sym, ap, ◌∙◌}
use mathlib.Core.List.{List}
use borrow.Author.Tests.{le-leb}
use lib.ListN.{length}
use Rattle.terms.specs.declared.refusals.Refusal.{Refusal}
use Rattle.text_rules.specs.Records.{fits, told, left}
use Rattle.text_rules.specs.Wrote.{Wrote}
use Rattle.text_rules.proofs.WriterLaws.{told_next, next_wrote}

-- the place told, in which a refusal would leave the place given
pub fitting_wrote : {w : Result ℕ Refusal} {b : List ℕ} {at n : ℕ} {bs m : List ℕ} → w ≡ told b at bs → m ≡ left b at bs → n ≡ result_unwrap_or w at → at + length bs ≤ length b → Wrote at n bs b m
unfolding fits
fitting_wrote {w} {b} {at} {n} {bs} e f g h =
    let k : w ≡ Ok (at + length bs) = e ∙ told_next b at bs (le-leb (at + length bs) (length b) h) in
    let q : n ≡ at + length bs = g ∙ ap (λ r. result_unwrap_or r at) k in
    next_wrote e (k ∙ ap Ok (sym q)) f
