-- When the timestamp desk refuses a request, and with which number, in words and numbers: by the byte, whether the job is open, the cell and the next number alone, without rows or an order of tests (02, No. 6; 01, Refusals by number).
-- The numbers are written out, since these are the words of a promise.
use Rattle.std.specs.Prelude.{ℕ, ◌≡◌, true}
use Rattle.desks.specs.Request.{Request}
use Rattle.desks.specs.AsWorded.{RefusedAlike}
use Rattle.stamp_rules.specs.Desk.{Desk, is_open}

-- the refusal by its number. 1, 2, 3, 6 and 7: as on every desk; every open job may ask. 19: the byte is t, and the job is open
pub data RefusedAs (d : Desk) (r : Request) : ℕ → Type 0 where
  alike : {n : ℕ} → RefusedAlike (is_open d) d.next (is_open d r.job ≡ true) r n → RefusedAs d r n
  no_retry : r.kind ≡ 116 → is_open d r.job ≡ true → RefusedAs d r 19
