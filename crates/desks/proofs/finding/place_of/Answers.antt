-- `desks::finding::place_of` meets its contract: what the library's search gives is `pos`.
-- Assumes nothing.
use Rattle.std.proofs.Common.{◌≡◌, ◌==◌, unwrap_or, sym, ◌∙◌, ap}
use Rattle.std.specs.List.{position}
use Rattle.laws.proofs.Places.{place_found}
use Rattle.desks.proofs.finding.place_of.Goals as goal

pub returns : goal.returns
returns c =
    let found = position (λ n. n == c.args.job) c.args.number.now in
    let here : c.unwrap_or.result ≡ unwrap_or found 32 = c.unwrap_or.ensures ∙ ap (λ r. unwrap_or r 32) c.first_with.ensures in
    here ∙ ap (λ n. unwrap_or found n) (sym c.told-number) ∙ place_found c.args.number.now c.args.job
