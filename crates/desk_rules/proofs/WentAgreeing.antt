-- A job that goes with a mode that it did not have before agrees with every other holder of the cell (01, rules 2 and 3; 02, No. 1).
-- Assumes nothing.
use Rattle.std.specs.Prelude.{Some}
use mathlib.Core.Path.{◌≡◌, refl, subst}
use mathlib.Core.Bool.{true, false}
use Rattle.laws.specs.Choice.{not_both}
use Rattle.terms.specs.declared.letters.Ask.{Ask}
use Rattle.terms.specs.declared.letters.Letter.TheVariants.{Asks}
use Rattle.terms.specs.Letters.{letter_of}
use Rattle.conflict.specs.Modes.{needed, covers}
use Rattle.conflict.proofs.ModeLaws.{asked_free}
use Rattle.desks.specs.declared.Answer.TheVariants.{Go}
use Rattle.desks.specs.Request.{Request}
use Rattle.desk_rules.specs.Desk.{Desk}
use Rattle.desks.specs.Begin.{refused}
use Rattle.desk_rules.specs.Rules.{Outcome, rule4}
use Rattle.desk_rules.specs.Asked.{own_mode, asked_there}
use Rattle.desk_rules.specs.Moves.{fits_in, Moved, refuses, begins, commits, gives_up, retries, has_it, promotes, waits_in_front, enters, waits_last, goes_back}
use Rattle.desks.proofs.Answers.{other-answer}
use Rattle.desk_rules.proofs.AnswerTells.{no_ask, same_ask}

module _ (d : Desk) (r : Request) (a : Ask) (l : letter_of r.kind ≡ Some (Asks a)) (n : covers (own_mode d r) (needed a) ≡ false) where
  -- in any move, a go agrees
  pub went_agrees : {o : Outcome} → Moved d r o → o.said ≡ Go r.job → fits_in d r (asked_there d r a) ≡ true
  went_agrees (refuses why _) q = unfold refused in other-answer q refl
  went_agrees (begins e m x) q = no_ask e refl l
  went_agrees (commits e x) q = no_ask e refl l
  went_agrees (gives_up e x) q = no_ask e refl l
  went_agrees (retries e x) q = no_ask e refl l
  went_agrees (has_it b k x) q = not_both (subst (λ y. covers (own_mode d r) (needed y) ≡ true) (same_ask k.letter l) x) n
  went_agrees (promotes b k x f z) q = subst (λ y. fits_in d r (asked_there d r y) ≡ true) (same_ask k.letter l) z
  went_agrees (waits_in_front b k x f z w) q = other-answer q refl
  went_agrees (enters b k f z w) q = rw (asked_free (own_mode d r) (needed a) f) (subst (λ y. fits_in d r (needed y) ≡ true) (same_ask k.letter l) w)
  went_agrees (waits_last b k f z w u) q = other-answer q refl
  went_agrees (goes_back b k x) q = unfold rule4 in other-answer q refl
