-- What is told of the lines that a splitter finds, and the clerk after some bytes (01, Lines).
use Rattle.std.specs.Prelude.{ℕ, List, [], ◌∷◌, leb}
use Rattle.laws.specs.Choice.{pick}
use Rattle.terms.specs.Limits.{request_lines}
use Rattle.text_rules.specs.Split.{Found, after_all, found_in}
use Rattle.program_rules.specs.declared.Clerk.{Clerk}
use Rattle.program_rules.specs.declared.View.{View}
use Rattle.desks.specs.Stepping.{Stepping}
use Rattle.program_rules.specs.OverLines.{Told, Lined, line_by, written}
use Rattle.program_rules.specs.Desks.{on_desks}
use Rattle.program_rules.specs.Work.{viewed}

module _ {S : Type 0} (step : Stepping S) where
  -- a line found, answered
  unfoldable pub telling : S → Found → Lined S
  telling d f = line_by step d f.number f.bytes

  -- what is told of the lines found; nothing for those after line 1,000,000 (01, Lines)
  unfoldable pub tellings : S → List Found → List Told
  tellings d [] = []
  tellings d (f ∷ fs) = pick (leb f.number request_lines) ((telling d f).told ∷ tellings (telling d f).desk fs) (tellings d fs)

  -- the desk after the lines found
  unfoldable pub desk_after : S → List Found → S
  desk_after d [] = d
  desk_after d (f ∷ fs) = pick (leb f.number request_lines) (desk_after (telling d f).desk fs) (desk_after d fs)

-- the clerk after some bytes
unfoldable pub clerk_after : Clerk → List ℕ → Clerk
clerk_after c bytes = record { desks = desk_after on_desks c.desks (found_in c.splitter bytes); splitter = after_all c.splitter bytes }

-- the records of the lines that end in these bytes
unfoldable pub records_in : View → Clerk → List ℕ → List ℕ
records_in view c bytes = written (viewed view) (tellings on_desks c.desks (found_in c.splitter bytes))
