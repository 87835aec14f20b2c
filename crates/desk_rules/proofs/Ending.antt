-- A run's end. Commit and give-up close a job and free its place; a sent back job keeps its number and its place; both drop all locks and every place in a queue (01, Jobs and their numbers; 01, rule 4).
-- Assumes nothing.
use Rattle.std.specs.Prelude.{Some}
use Prim.Native.Nat.{ℕ}
use mathlib.Core.Path.{◌≡◌, refl}
use mathlib.Core.Logic.{◌⊎◌, inl, inr}
use mathlib.Core.Bool.{true}
use Rattle.terms.specs.declared.letters.Letter.TheVariants.{Commit, GiveUp}
use Rattle.terms.specs.Letters.{letter_of}
use Rattle.desks.specs.declared.Answer.TheVariants.{Go, Back}
use Rattle.desks.specs.Request.{Request}
use Rattle.desks.specs.Places.{vacated}
use Rattle.desk_rules.specs.Desk.{closed, sentback, Desk, is_open}
use Rattle.desk_rules.specs.Rules.{rule4, close, send_back}
use Rattle.desk_rules.specs.Step.{step}
use Rattle.desk_rules.specs.Effects.{Closes, SendsBack}
use Rattle.desk_rules.specs.Invariant.{Inv}
use Rattle.desk_rules.proofs.Statuses.{running_open}
use Rattle.desks.proofs.Places.{vacated_others, vacated_gone, vacated_free}
use Rattle.desk_rules.proofs.Seats.{open_not_zero}
use Rattle.desk_rules.proofs.Away.{ended_away, ended_status}
use Rattle.desk_rules.proofs.AnswerTells.{Tells, commit_went, give_up_went}

-- closing an open job
pub close_closes : {d : Desk} → Inv d → (j : ℕ) → is_open (d.stat j) ≡ true → Closes d (close d j).desk j
unfolding close
close_closes {d} v j o = record {
  status = ended_status v j closed (vacated j d.jobs) (Go j);
  away = ended_away v j closed (vacated j d.jobs) (Go j);
  gone = unfold rule4 in vacated_gone j d.jobs (open_not_zero v j o);
  free = unfold rule4 in vacated_free j d.jobs (v.seats j o);
  others = unfold rule4 in vacated_others j d.jobs;
  next = unfold rule4 in refl;
}

-- sending an open job back
pub back_sends : {d : Desk} → Inv d → (j : ℕ) → is_open (d.stat j) ≡ true → SendsBack d (send_back d j).desk j
unfolding send_back
back_sends {d} v j o = record {
  status = ended_status v j sentback d.jobs (Back j);
  away = ended_away v j sentback d.jobs (Back j);
  place = unfold rule4 in v.seats j o;
  places = unfold rule4 in refl;
  next = unfold rule4 in refl;
}

-- a commit or a give-up that goes is of an open job, and closes it
pub close_went : (d : Desk) (r : Request) (j : ℕ) → (letter_of r.kind ≡ Some Commit) ⊎ (letter_of r.kind ≡ Some GiveUp) → (step d r).said ≡ Go j → Tells d r r.job j (close d r.job) (is_open (d.stat r.job) ≡ true)
close_went d r j (inl e) g = let c = commit_went d r j e g in record { job = c.job; outcome = c.outcome; was = running_open c.was }
close_went d r j (inr e) g = give_up_went d r j e g
