-- One line answered on a desk's fields in place is a turn of the work: the desk that the step of the method's desk leaves, and the records of what it says.
-- Assumes nothing.
use Prim.Native.Nat.{ℕ, ◌≤◌}
use mathlib.Core.Path.{◌≡◌, refl, sym, ap, ◌∙◌}
use mathlib.Core.Bool.{true}
use mathlib.Core.List.{List, [], map, append-nil}
use native.Mathlib.Omega.{arith}
use lib.ListN.{length, take, drop, length-append}
use Rattle.laws.specs.Lists.{filled}
use Rattle.std.specs.Prelude.{Err}
use Rattle.terms.specs.declared.letters.Letter.{Letter}
use Rattle.terms.specs.declared.refusals.Field.{Field}
use Rattle.terms.specs.Letters.{byte_of, of_requests}
use Rattle.text_rules.specs.declared.splitter.Splitter.{Splitter}
use Rattle.text_rules.specs.Lines.{read_line, Reading, good}
use Rattle.text_rules.specs.Records.{longest_record}
use Rattle.text_rules.specs.Split.{found_at}
use Rattle.text_rules.specs.Wrote.{Wrote}
use Rattle.text_rules.proofs.WroteLaws.{wrote_as}
use Rattle.desk_arrays.specs.declared.state.Desk.{Desk}
use Rattle.desk_arrays.specs.declared.state.Told.{Told}
use Rattle.desk_arrays.specs.Steps.{wake_at, step_of}
use Rattle.desk_arrays.specs.Stands.{wakes_told}
use Rattle.desk_arrays.specs.Seen.{on_arrays}
use Rattle.desk.specs.InPlace.{woken_by, StepsTo}
use Rattle.desk.proofs.Woken.{count_of, wakes_first}
use Rattle.desks.specs.declared.Answer.{Answer}
use Rattle.desks.specs.Request.{Request}
use Rattle.stamp_arrays.specs.declared.state.Stamps.{Stamps}
use Rattle.stamp_arrays.specs.Steps as stamp
use Rattle.stamp_arrays.specs.Seen.{on_stamps}
use Rattle.stamp_desk.specs.InPlace as stamped
use Rattle.program_rules.specs.declared.Desks.{Desks}
use Rattle.program_rules.specs.declared.Method.{Method}
use Rattle.program_rules.specs.declared.Method.TheVariants.{Locks, Stamps as by_stamps}
use Rattle.program_rules.specs.declared.View.{View}
use Rattle.program_rules.specs.OverLines.{asked}
use Rattle.program_rules.specs.Desks.{desks_of, step_by, on_desks}
use Rattle.program_rules.specs.Work.{viewed, told_bad, due, turning}
use Rattle.program_rules.proofs.Turns.{turn_bad, turn_good}
use Rattle.clerk.specs.Parts.{Added, first_record, wake_records, line_records, Answered}
use Rattle.clerk.proofs.Telling.{records_told}

-- the places that a step wakes are at most those that the list has
pub woken_few : {d e : Desk} {l w : List ℕ} {kind job c : ℕ} {t : Told} → StepsTo d l kind job c e w t → t.count ≤ length w
unfolding filled
woken_few {d} {l = l} {kind = kind} {job} {c} s =
    let ps = woken_by d kind job c in
    omega (arith, s.count, count_of d kind job c, ap length s.places, length-append ps (drop (length ps) l))

module _ {view : View} {line : ℕ} (letter : Letter) {job cell at to : ℕ} {before after : List ℕ} where
  -- a good line answered on the lock desk: the first record, and one for each wake
  pub on_locks : {d e : Desk} {l w : List ℕ} {t : Told} → StepsTo d l (byte_of letter) job cell e w t →
      Wrote at to (line_records view line letter cell t.answer (map (wake_at e.number e.cell e.ask) (take t.count w))) before after →
      Answered on_arrays view line (asked letter job cell) d e at to before after
  unfolding wakes_told
  on_locks {d} {e} {l} {w} {t} s wrote =
      let said = (step_of d (byte_of letter) job cell).said in
      record {
        desk = s.desk;
        records =
            wrote_as wrote
            (ap (λ x. line_records view line letter cell x (map (wake_at e.number e.cell e.ask) (take t.count w))) s.answer
            ∙ ap (line_records view line letter cell said.answer) (wakes_first s)
            ∙ records_told view line letter job cell said.answer (take said.count said.wakes));
      }

  -- a good line answered on the timestamp desk: nobody is woken, so the first record is all
  pub on_stamps_lem : {d e : Stamps} {a : Answer} → stamped.StepsTo d (byte_of letter) job cell e a → Added longest_record at to (first_record view line letter cell a) before after →
      Answered on_stamps view line (asked letter job cell) d e at to before after
  unfolding line_records wake_records
  on_stamps_lem {d} {e} {a} s added =
      let said = (stamp.step_of d (byte_of letter) job cell).answer in
      record {
        desk = s.desk;
        records = wrote_as added.wrote (ap (first_record view line letter cell) s.said ∙ sym (append-nil (first_record view line letter cell said)) ∙ records_told view line letter job cell said []);
      }

module _ {view : View} {line at to : ℕ} {r : Request} {before after : List ℕ} {m : Method} where
  -- what is answered on the lock desk is answered on both, under locks
  pub under_locks : {d e : Desk} {s : Stamps} → m ≡ Locks → Answered on_arrays view line r d e at to before after → Answered on_desks view line r (desks_of m d s) (desks_of m e s) at to before after
  unfolding on_desks step_by
  under_locks {d} {e} {s} k a = rw k (record { desk = ap (λ x. desks_of Locks x s) a.desk; records = a.records })

  -- and what is answered on the timestamp desk is, under timestamps
  pub under_stamps : {d : Desk} {s t : Stamps} → m ≡ by_stamps → Answered on_stamps view line r s t at to before after → Answered on_desks view line r (desks_of m d s) (desks_of m d t) at to before after
  unfolding on_desks step_by
  under_stamps {d} {s} {t} k a = rw k (record { desk = ap (desks_of by_stamps d) a.desk; records = a.records })

module _ (view : View) (splitter : Splitter) (out : List ℕ) (at : ℕ) (ended : due splitter ≡ true) {r : Reading} (reads : r ≡ read_line of_requests (found_at splitter).bytes) where
  -- a bad line is answered
  pub answered_bad : {d : Desks} {to : ℕ} {after : List ℕ} {field : Field} → r ≡ Err field → Wrote at to (viewed view (told_bad splitter.line field)) out after →
      turning view (record { desks = d; splitter = splitter }) out at ≡ record { clerk = record { desks = d; splitter = splitter }; at = to; out = after }
  answered_bad {d} e w = turn_bad view (record { desks = d; splitter = splitter }) out at ended (sym reads ∙ e) w

  -- a good line is answered
  pub answered_good : {d e : Desks} {letter : Letter} {job cell to : ℕ} {after : List ℕ} → r ≡ good letter job cell → Answered on_desks view splitter.line (asked letter job cell) d e at to out after →
      turning view (record { desks = d; splitter = splitter }) out at ≡ record { clerk = record { desks = e; splitter = splitter }; at = to; out = after }
  answered_good {to = to} {after} good a =
      turn_good view _ out at ended (sym reads ∙ good) refl a.records ∙ ap (λ x. record { clerk = record { desks = x; splitter = splitter }; at = to; out = after }) (sym a.desk)
