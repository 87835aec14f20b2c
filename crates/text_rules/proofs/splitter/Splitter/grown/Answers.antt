-- `text_rules::splitter::Splitter::grown` meets its contract: what it stores and adds up is the line after the part.
-- Assumes nothing.
use Rattle.text_rules.proofs.Keeping.{grown_is}
use Rattle.text_rules.proofs.splitter.Splitter.grown.Goals as goal

pub returns : goal.returns
returns c = search grown_is
