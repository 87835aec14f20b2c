-- No second result meets the contract of a function of the line reader.
-- Assumes nothing.
use mathlib.Core.Path.{sym, ◌∙◌}
use Rattle.laws.specs.Unique.{Unique}
use Rattle.text.proofs.reader.read_request.Reads as read-request
use Rattle.text.proofs.reader.read_request.Kinds as read-requestK
use Rattle.text.proofs.reader.read_history.Reads as read_history
use Rattle.text.proofs.reader.read_history.Kinds as read-historyK
use Rattle.text.proofs.reader.torn_request.Reads as torn-request
use Rattle.text.proofs.reader.torn_request.Kinds as torn-requestK
use Rattle.text.proofs.held.read_held.Reads as read_held
use Rattle.text.proofs.held.read_held.Kinds as read-heldK
use Rattle.text.proofs.held.torn_held.Reads as torn-held
use Rattle.text.proofs.held.torn_held.Kinds as torn-heldK

pub read_request_unique : Unique read-requestK.ps read-requestK.r read-request.Post
read_request_unique κs a x y e f p q = p ∙ sym q

pub read_history_unique : Unique read-historyK.ps read-historyK.r read_history.Post
read_history_unique κs a x y e f p q = p ∙ sym q

pub torn_request_unique : Unique torn-requestK.ps torn-requestK.r torn-request.Post
torn_request_unique κs a x y e f p q = p ∙ sym q

pub read_held_unique : Unique read-heldK.ps read-heldK.r read_held.Post
read_held_unique κs a x y e f p q = p ∙ sym q

pub torn_held_unique : Unique torn-heldK.ps torn-heldK.r torn-held.Post
torn_held_unique κs a x y e f p q = p ∙ sym q
