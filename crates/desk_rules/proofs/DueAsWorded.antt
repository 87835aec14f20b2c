-- What the table of the lock desk has due is what the paper's words say, letter by letter and by what the job is doing (01, Refusals by number; 02, No. 1).
-- Assumes nothing.
use Rattle.std.specs.Prelude.{Option, None, Some}
use mathlib.Core.Path.{◌≡◌, refl, sym, ap, subst}
use mathlib.Core.Bool.{true}
use lib.Dec.{leb}
use borrow.Author.Tests.{leb-true}
use Rattle.laws.specs.Choice.{by_test}
use Rattle.laws.specs.Lists.{member, first_of}
use Rattle.terms.specs.declared.letters.Letter.{Letter}
use Rattle.terms.specs.declared.letters.Ask.{Ask}
use Rattle.terms.specs.declared.letters.Letter.TheVariants.{Begin, Commit, GiveUp, Retry, Back, Asks}
use Rattle.terms.specs.declared.refusals.Refusal.{Refusal}
use Rattle.terms.specs.declared.refusals.Refusal.TheVariants.{UnknownKind, CellAbove, NotOpen, Waiting, SentBack, Running}
use Rattle.terms.specs.Letters.{letter_of}
use Rattle.terms.specs.Limits.{cells}
use Rattle.terms.specs.Refusals.{number_of}
use Rattle.terms.proofs.Alphabet.{byte_of_letter}
use Rattle.desks.specs.Request.{Request}
use Rattle.desks.specs.DeskLimits.{DeskLimits}
use Rattle.desks.specs.Table.{other_kind}
use Rattle.desks.specs.AsWorded.{of_other_kind, above, not_open}
use Rattle.desks.proofs.RequestBytes.{with_c, with_ct, with_cat, listed, ask_listed, ask_with_c, ask_with_ct, ask_with_cat}
use Rattle.desks.proofs.AsWorded.{other_kind_listed, same_why, some_not_none, begin_worded}
use Rattle.desk_rules.specs.Desk.{Status, closed, running, waiting, sentback, is_open, Desk}
use Rattle.desk_rules.specs.Table.{holds, order, due_by}
use Rattle.desk_rules.specs.AsWorded.{RefusedAs, alike, still_waiting, was_sent_back, retry_while_running}

module _ (d : Desk) (r : Request) where
  -- the refusal that is due is the one of the words
  is_due : (x why : Refusal) → RefusedAs d r (number_of x) → Some x ≡ Some why → RefusedAs d r (number_of why)
  is_due x why w e = subst (λ y. RefusedAs d r (number_of y)) (same_why e) w

  -- 3, for a request that names a job
  shut : member r.kind with_cat ≡ true → d.stat r.job ≡ closed → RefusedAs d r 3
  shut m q = alike (not_open m (unfold is_open in ap is_open q))

  module _ (why : Refusal) where
    -- a commit's refusal, in words
    commit_worded : letter_of r.kind ≡ Some Commit → (s : Status) → d.stat r.job ≡ s → due_by d (Some Commit) s r.cell ≡ Some why → RefusedAs d r (number_of why)
    unfolding due_by holds order first_of is_open member
    commit_worded e closed q t = is_due NotOpen why (shut (listed r Commit with_cat e refl) q) t
    commit_worded e running q t = some_not_none t
    commit_worded e (waiting c a) q t = is_due Waiting why (still_waiting (listed r Commit with_ct e refl) c a q) t
    commit_worded e sentback q t = is_due SentBack why (was_sent_back (listed r Commit with_c e refl) q) t

    -- a give-up's
    give_up_worded : letter_of r.kind ≡ Some GiveUp → (s : Status) → d.stat r.job ≡ s → due_by d (Some GiveUp) s r.cell ≡ Some why → RefusedAs d r (number_of why)
    unfolding due_by holds order first_of is_open member
    give_up_worded e closed q t = is_due NotOpen why (shut (listed r GiveUp with_cat e refl) q) t
    give_up_worded e running q t = some_not_none t
    give_up_worded e (waiting c a) q t = some_not_none t
    give_up_worded e sentback q t = some_not_none t

    -- a retry's
    retry_worded : letter_of r.kind ≡ Some Retry → (s : Status) → d.stat r.job ≡ s → due_by d (Some Retry) s r.cell ≡ Some why → RefusedAs d r (number_of why)
    unfolding due_by holds order first_of is_open member
    retry_worded e closed q t = is_due NotOpen why (shut (listed r Retry with_cat e refl) q) t
    retry_worded e running q t = is_due Running why (retry_while_running (sym (byte_of_letter r.kind Retry e)) q) t
    retry_worded e (waiting c a) q t = is_due Waiting why (still_waiting (listed r Retry with_ct e refl) c a q) t
    retry_worded e sentback q t = some_not_none t

    -- and that of a read, a write, an increment and a u
    ask_worded : (a : Ask) → letter_of r.kind ≡ Some (Asks a) → (s : Status) → d.stat r.job ≡ s → due_by d (Some (Asks a)) s r.cell ≡ Some why → RefusedAs d r (number_of why)
    unfolding due_by holds order first_of is_open
    ask_worded a e closed q t =
        is_due NotOpen why (shut (ask_with_cat r a e) q) t
    ask_worded a e running q t =
        by_test (leb cells r.cell)
        (λ u. is_due CellAbove why (alike (above (ask_listed r a e) q (leb-true cells r.cell u))) (rw u at t))
        (λ f. some_not_none (rw f at t))
    ask_worded a e (waiting c b) q t =
        is_due Waiting why (still_waiting (ask_with_ct r a e) c b q) t
    ask_worded a e sentback q t = is_due SentBack why (was_sent_back (ask_with_c r a e) q) t

    -- what is due is what the words say, for every letter
    pub due_worded : DeskLimits d.next d.jobs (λ j. is_open (d.stat j)) → (x : Option Letter) → letter_of r.kind ≡ x → due_by d x (d.stat r.job) r.cell ≡ Some why → RefusedAs d r (number_of why)
    due_worded l None e t = is_due UnknownKind why (alike (of_other_kind (other_kind_listed r.kind (ap other_kind e)))) (unfold due_by holds order first_of in t)
    due_worded l (Some Back) e t = is_due UnknownKind why (alike (of_other_kind (other_kind_listed r.kind (ap other_kind e)))) (unfold due_by holds order first_of in t)
    due_worded l (Some Begin) e t = alike (begin_worded l _ r why (sym (byte_of_letter r.kind Begin e)) (unfold due_by holds order first_of in t))
    due_worded l (Some Commit) e t = commit_worded e (d.stat r.job) refl t
    due_worded l (Some GiveUp) e t = give_up_worded e (d.stat r.job) refl t
    due_worded l (Some Retry) e t = retry_worded e (d.stat r.job) refl t
    due_worded l (Some (Asks a)) e t = ask_worded a e (d.stat r.job) refl t
