-- A front keeps the method and the view that it was started with, whatever it has seen: so it belongs to one program.
-- Assumes nothing.
use Prim.Native.Nat.{ℕ}
use mathlib.Core.Path.{◌≡◌, ap, ◌∙◌}
use mathlib.Core.List.{List}
use native.Mathlib.Omega.{arith}
use Rattle.text_rules.specs.Split.{lines_of}
use Rattle.desks.specs.Started.{fresh as at_start}
use Rattle.program_rules.specs.declared.Desks.{Desks}
use Rattle.program_rules.specs.declared.Method.{Method}
use Rattle.program_rules.specs.declared.View.{View}
use Rattle.program_rules.specs.Programs.{first_number}
use Rattle.program_rules.specs.Work.{started_clerk}
use Rattle.program_rules.specs.Closing.{program_room}
use Rattle.program_rules.specs.Tellings.{clerk_after}
use Rattle.program_rules.proofs.StartedHistory.{run_started}
use Rattle.program_rules.proofs.DeskOver.{clerk_desk}
use Rattle.program_rules.proofs.TwoDesks.{started_method}
use Rattle.desk_io.specs.declared.Front.{Front}
use Rattle.desk_io.specs.declared.Program.{Program}
use Rattle.desk_io.specs.Serving.{program_by, started_front, Saw}

-- a clerk keeps its method
method_kept : (m : Method) (text : List ℕ) → (clerk_after (started_clerk m) text).desks.method ≡ m
method_kept m text = ap (λ (d : Desks). d.method) (clerk_desk m text) ∙ started_method (run_started (at_start first_number (omega arith) (omega arith)) 1 (lines_of text))

-- so the program of a front is the one that it was started for
pub program_kept : {m : Method} {view : View} {f : Front} {p : Program} → Saw (started_front m view) f → p ≡ program_by f.clerk.desks.method f.view → p ≡ program_by m view
program_kept {m} {view} s e = e ∙ ap (λ (x : Front). program_by x.clerk.desks.method x.view) s.front ∙ ap (λ k. program_by k view) (method_kept m s.text)

-- and it needs the room that that program needs
pub room_kept : {first f : Front} → Saw first f → program_room f.view ≡ program_room first.view
room_kept s = ap (λ (x : Front). program_room x.view) s.front
