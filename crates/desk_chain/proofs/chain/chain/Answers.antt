-- `desk_chain::chain::chain` meets its contract: where no refusal is due, the chain stands in the list.
-- Assumes nothing.
use mathlib.Core.Path.{◌≡◌}
use borrow.Author.Rules.{rules}
use lib.ListN.{length}
use Rattle.terms.specs.Limits.{places}
use Rattle.desk_chain.proofs.Answering.{asked_told}
use Rattle.desk_chain.proofs.chain.chain.Goals as goal

pub returns : goal.returns
returns c =
    let n : length c.args.d.number ≡ places = search rules in
    let s : length c.args.d.status ≡ places = search rules in
    asked_told _ _ _ n s c.find-f.ensures.found c.if-f-eq-FREE.false c.if-f-eq-SENT_BACK.false c.if-list-lt-PLACES.false c.follow.ensures
