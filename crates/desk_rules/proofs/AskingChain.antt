-- A question for a chain: which refusal is due, by what the job is doing and the places lent, and what the answer and the list then are (02, No. 3).
-- Assumes nothing.
use Rattle.std.specs.Prelude.{None, Some}
use Prim.Native.Nat.{ℕ, ◌<◌, ◌≤◌}
use mathlib.Core.Path.{◌≡◌, refl, sym, ap, subst, ◌∙◌}
use mathlib.Core.Logic.{◌≢◌, inl, inr}
use mathlib.Core.Bool.{true}
use mathlib.Core.List.{List}
use native.Mathlib.Omega.{arith}
use lib.Dec.{ltb}
use lib.ListN.{length, take, drop}
use borrow.Author.Tests.{ltb-true, ltb-false}
use Rattle.laws.specs.Choice.{pick, by_test, not_both}
use Rattle.laws.specs.Lists.{first_of, filled}
use Rattle.terms.specs.declared.refusals.Refusal.{Refusal}
use Rattle.terms.specs.declared.refusals.Refusal.TheVariants.{NotOpen, SentBack, ShortList}
use Rattle.terms.specs.Limits.{places}
use Rattle.terms.specs.Refusals.{number_of}
use Rattle.laws.proofs.Filled.{fills}
use Rattle.std.specs.Prelude.{Result, Ok, Err}
use Rattle.desk_rules.specs.Desk.{Status, closed, running, waiting, sentback, Desk, is_open, is_live}
use Rattle.desk_rules.specs.Invariant.{Inv}
use Rattle.desk_rules.specs.Chain.{chain_of}
use Rattle.desk_rules.specs.AskedChain.{chain_holds, chain_order, chain_due, chain_told, ask_chain}
use Rattle.desk_rules.specs.Chains.{AsksChain}
use Rattle.desk_rules.proofs.Statuses.{running_live, waiting_live, sentback_open, live_open}
use Rattle.desk_rules.proofs.ChainIs.{is_chain}
use Rattle.desk_rules.proofs.AlongChain.{along_chain}

-- the four outcomes of a question
pub data Way (d : Desk) (j : ℕ) (list : List ℕ) : Type 0 where
  not_there : d.stat j ≡ closed → ask_chain d j list ≡ record { said = Err NotOpen; list = list } → Way d j list
  went_back : d.stat j ≡ sentback → ask_chain d j list ≡ record { said = Err SentBack; list = list } → Way d j list
  too_short : is_live (d.stat j) ≡ true → length list < 32 → ask_chain d j list ≡ record { said = Err ShortList; list = list } → Way d j list
  told : is_live (d.stat j) ≡ true → 32 ≤ length list → ask_chain d j list ≡ record { said = Ok (length (chain_of d j)); list = filled (chain_of d j) list } → Way d j list

-- for a job that runs or waits, the places lent decide
pub live_due : (s : Status) (n : ℕ) → is_live s ≡ true → chain_due s n ≡ pick (ltb n places) (Some ShortList) None
unfolding chain_due chain_order first_of chain_holds is_live is_open
live_due closed n h = not_both h refl
live_due running n h = refl
live_due (waiting c a) n h = refl
live_due sentback n h = not_both h refl

module _ (d : Desk) (j : ℕ) (list : List ℕ) where
  -- a live job is refused 18 or told
  live_way : is_live (d.stat j) ≡ true → Way d j list
  unfolding ask_chain chain_told
  live_way h =
      by_test (ltb (length list) places)
      (λ t. too_short h (ltb-true (length list) places t) (rw (live_due (d.stat j) (length list) h, t)))
      (λ f. told h (ltb-false (length list) places f) (rw (live_due (d.stat j) (length list) h, f)))

  -- every question has one of the four
  pub by_way : Way d j list
  by_way = go (d.stat j) refl
    where
      closed_due : d.stat j ≡ closed → ask_chain d j list ≡ record { said = Err NotOpen; list = list }
      closed_due e = unfold ask_chain chain_told chain_due chain_order first_of chain_holds is_open in rw e

      back_due : d.stat j ≡ sentback → ask_chain d j list ≡ record { said = Err SentBack; list = list }
      back_due e = unfold ask_chain chain_told chain_due chain_order first_of chain_holds is_open in rw e

      go : (s : Status) → d.stat j ≡ s → Way d j list
      go closed e = not_there e (closed_due e)
      go running e = live_way (running_live e)
      go (waiting c a) e = live_way (waiting_live e)
      go sentback e = went_back e (back_due e)

-- equal refusals have equal numbers
same_refusal : {x y : Refusal} → ◌≡◌ {A = Result ℕ Refusal} (Err x) (Err y) → number_of x ≡ number_of y
same_refusal e = cc

-- a count of jobs is not a refusal
jobs_no : {P : Type 0} {n : ℕ} {x : Refusal} → ◌≡◌ {A = Result ℕ Refusal} (Ok n) (Err x) → P
jobs_no e = let z : ◌≡◌ {A = ℕ} 0 1 = cc in absurd (omega arith)

-- a closed job was not sent back
other_status : {P : Type 0} → closed ≡ sentback → P
other_status e = let z : ◌≡◌ {A = ℕ} 0 1 = cc in absurd (omega arith)

-- equal answers tell equal counts
same_jobs : {n m : ℕ} → ◌≡◌ {A = Result ℕ Refusal} (Ok n) (Ok m) → n ≡ m
same_jobs e = cc

module _ {d : Desk} (v : Inv d) (j : ℕ) (list : List ℕ) where
  -- what the answer to a refused question is like
  module _ (x : Refusal) (e : ask_chain d j list ≡ record { said = Err x; list = list }) where
    -- it is not another refusal
    other_refusal : {P : Type 0} {y : Refusal} → (ask_chain d j list).said ≡ Err y → number_of x ≢ number_of y → P
    other_refusal h n = absurd (n (same_refusal (sym (ap (λ o. o.said) e) ∙ h)))

    -- nor a count of jobs
    not_answered : {P : Type 0} {n : ℕ} → (ask_chain d j list).said ≡ Ok n → P
    not_answered h = jobs_no (sym h ∙ ap (λ o. o.said) e)

    -- and the list is as it was
    list_left : (ask_chain d j list).list ≡ list
    list_left = ap (λ o. o.list) e

  asks_by : Way d j list → AsksChain d j list (ask_chain d j list)
  unfolding is_open is_live
  asks_by (not_there s e) =
      record {
        not_open = (λ _. rw s, λ _. ap (λ o. o.said) e);
        was_sent_back = (λ h. other_refusal NotOpen e h (λ z. omega (arith, z)), λ h. other_status (sym s ∙ h));
        short_list = (λ h. other_refusal NotOpen e h (λ z. omega (arith, z)), λ h. not_both h.0 (rw s));
        no_other = λ why h. inl (sym (same_refusal (sym (ap (λ o. o.said) e) ∙ h)));
        refusal_leaves = λ why h. list_left NotOpen e;
        answered = λ h l. not_both h (rw s);
        unused_stay = λ n h. not_answered NotOpen e h;
      }
  asks_by (went_back s e) =
      record {
        not_open = (λ h. other_refusal SentBack e h (λ z. omega (arith, z)), λ h. not_both (sentback_open s) h);
        was_sent_back = (λ _. s, λ _. ap (λ o. o.said) e);
        short_list = (λ h. other_refusal SentBack e h (λ z. omega (arith, z)), λ h. not_both h.0 (rw s));
        no_other = λ why h. inr (inl (sym (same_refusal (sym (ap (λ o. o.said) e) ∙ h))));
        refusal_leaves = λ why h. list_left SentBack e;
        answered = λ h l. not_both h (rw s);
        unused_stay = λ n h. not_answered SentBack e h;
      }
  asks_by (too_short s l e) =
      record {
        not_open = (λ h. other_refusal ShortList e h (λ z. omega (arith, z)), λ h. not_both (live_open (d.stat j) s) h);
        was_sent_back = (λ h. other_refusal ShortList e h (λ z. omega (arith, z)), λ h. not_both s (rw h));
        short_list = (λ _. (s, l), λ _. ap (λ o. o.said) e);
        no_other = λ why h. inr (inr (sym (same_refusal (sym (ap (λ o. o.said) e) ∙ h))));
        refusal_leaves = λ why h. list_left ShortList e;
        answered = λ h k. absurd (omega arith);
        unused_stay = λ n h. not_answered ShortList e h;
      }
  asks_by (told s l e) =
      let a = (along_chain v (is_chain v j s)).at_most_32 in
      let f = fills (chain_of d j) list (omega arith) in
      record {
        not_open = (λ h. jobs_no (sym (ap (λ o. o.said) e) ∙ h), λ h. not_both (live_open (d.stat j) s) h);
        was_sent_back = (λ h. jobs_no (sym (ap (λ o. o.said) e) ∙ h), λ h. not_both s (rw h));
        short_list = (λ h. jobs_no (sym (ap (λ o. o.said) e) ∙ h), λ h. let k = h.1 in absurd (omega arith));
        no_other = λ why h. jobs_no (sym (ap (λ o. o.said) e) ∙ h);
        refusal_leaves = λ why h. jobs_no (sym (ap (λ o. o.said) e) ∙ h);
        answered = λ _ _. (ap (λ o. o.said) e, ap (λ o. take (length (chain_of d j)) o.list) e ∙ f.first);
        unused_stay = λ n h.
            let q : length (chain_of d j) ≡ n = same_jobs (sym (ap (λ o. o.said) e) ∙ h) in
            (subst (λ m. drop m (ask_chain d j list).list ≡ drop m list) q (ap (λ o. drop (length (chain_of d j)) o.list) e ∙ f.rest), ap (λ o. length o.list) e ∙ f.size);
      }

  -- what is promised of a question
  pub asks_chain : AsksChain d j list (ask_chain d j list)
  asks_chain = asks_by (by_way d j list)
