-- Requests that are alike for their letter write the same: fields that a kind does not use are not read (01, Refusals by number).
-- Assumes nothing.
use Rattle.std.specs.Prelude.{Option, None, Some}
use Prim.Native.Nat.{ℕ}
use mathlib.Core.Path.{◌≡◌, refl, ap, ◌∙◌}
use Rattle.terms.specs.declared.letters.Letter.{Letter}
use Rattle.terms.specs.declared.letters.Letter.TheVariants.{Begin, Commit, GiveUp, Retry, Back, Asks}
use Rattle.terms.specs.Letters.{letter_of}
use Rattle.desks.specs.declared.Answer.{Answer}
use Rattle.desks.specs.declared.Answer.TheVariants.{Go, Wait, Back as sent_back, No}
use Rattle.desks.specs.Request.{Request, Alike}
use Rattle.desks.specs.Records.{went_by, own_records}

-- requests that are alike for a letter have the same record if they go
went_alike : (r s : Request) (j : ℕ) (l : Option Letter) → Alike l r s → went_by r j l ≡ went_by s j l
unfolding went_by
went_alike r s j None e = refl
went_alike r s j (Some Back) e = refl
went_alike r s j (Some Begin) e = refl
went_alike r s j (Some Commit) e = refl
went_alike r s j (Some GiveUp) e = refl
went_alike r s j (Some Retry) e = refl
went_alike r s j (Some (Asks a)) e = rw (e.cell refl)

-- and have the same record under any answer
pub records_alike : (r s : Request) (x : Answer) → r.kind ≡ s.kind → Alike (letter_of r.kind) r s → own_records r x ≡ own_records s x
unfolding own_records
records_alike r s (Go j) k e = went_alike r s j (letter_of r.kind) e ∙ ap (λ b. went_by s j (letter_of b)) k
records_alike r s (Wait j) k e = refl
records_alike r s (sent_back j) k e = refl
records_alike r s (No why) k e = refl
