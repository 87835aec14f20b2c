-- When the lock desk refuses a request, and with which number, in the paper's words and numbers: by the byte, what the job is doing, the cell and the next number alone, without rows or an order of tests (01, Refusals by number; 02, No. 1).
-- The numbers are written out, since these are the words of a promise.
use Rattle.std.specs.Prelude.{ℕ, ◌≡◌, [], ◌∷◌}
use Rattle.terms.specs.declared.letters.Ask.{Ask}
use Rattle.desks.specs.Request.{Request}
use Rattle.desks.specs.AsWorded.{IsOneOf, RefusedAlike}
use Rattle.desk_rules.specs.Desk.{running, waiting, sentback, is_open, Desk}

-- the refusal by its number. 1, 2, 3, 6 and 7: as on every desk; a job may ask if it is running. 4: the byte is one of the eight other than b and a, and the job waits. 5: the byte is c, r, w, i or u, and the job was sent back. 8: the byte is t, and the job runs
pub data RefusedAs (d : Desk) (r : Request) : ℕ → Type 0 where
  alike : {n : ℕ} → RefusedAlike (λ j. is_open (d.stat j)) d.next (d.stat r.job ≡ running) r n → RefusedAs d r n
  still_waiting : IsOneOf r (99 ∷ 116 ∷ 114 ∷ 119 ∷ 105 ∷ 117 ∷ []) → (c : ℕ) (a : Ask) → d.stat r.job ≡ waiting c a → RefusedAs d r 4
  was_sent_back : IsOneOf r (99 ∷ 114 ∷ 119 ∷ 105 ∷ 117 ∷ []) → d.stat r.job ≡ sentback → RefusedAs d r 5
  retry_while_running : r.kind ≡ 116 → d.stat r.job ≡ running → RefusedAs d r 8
