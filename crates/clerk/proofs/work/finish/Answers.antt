-- `clerk::work::finish` meets its contract: the same two tests decide as in the definition.
-- Assumes nothing.
use borrow.Author.Rules.{rules}
use borrow.Author.Tests.{not-true, not-false}
use Rattle.laws.specs.Choice.{was_true, was_false}
use Rattle.program_rules.specs.Work.{roomy}
use Rattle.program_rules.proofs.Ends.{ends_put}
use Rattle.clerk.proofs.work.finish.Goals as goal

-- what a test that a callee made says
ruleset tests = (rules, was_true, was_false, not-true, not-false)

pub returns : goal.returns
unfolding roomy
returns c =
    let a = c.args in
    ends_put a.view a.c a.out.now a.at (search tests) (search tests) c.put_unended.ensures
