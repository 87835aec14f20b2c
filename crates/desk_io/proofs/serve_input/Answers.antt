-- `desk_io::serve_input` meets its contract: at the end the front still belongs to the program asked for, and there is room for each line's records and for what is written last.
-- Assumes nothing.
use Rattle.desk_io.proofs.OneProgram.{program_kept}
use Rattle.desk_io.proofs.serve_input.Goals as goal

pub returns : goal.returns
returns c = program_kept c.serve_all-halted.ensures.0 c.program_of.ensures
