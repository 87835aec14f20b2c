-- The end of a run keeps the invariant of started desks: rule 4, for a job that is closed and for one that is sent back.
-- Assumes nothing.
use Prim.Native.Nat.{ℕ, ◌<◌}
use mathlib.Core.Path.{◌≡◌, refl, sym, ap, subst, ◌∙◌}
use mathlib.Core.Logic.{◌≢◌}
use mathlib.Core.Bool.{true, false}
use mathlib.Core.List.{List}
use lib.ListN.{length}
use Rattle.laws.specs.Choice.{not_both}
use Rattle.terms.specs.Limits.{places}
use Rattle.laws.specs.Lists.{member}
use Rattle.desks.specs.declared.Answer.{Answer}
use Rattle.desks.specs.Places.{vacated, Once}
use Rattle.laws.specs.Standing.{In}
use Rattle.desk_rules.specs.Desk.{Status, closed, waiting, sentback, Desk, is_open, is_live}
use Rattle.desk_rules.specs.Rules.{rows_after, rule4, close, send_back}
use Rattle.desk_rules.specs.Invariant.{Inv, RowInv}
use Rattle.desk_rules.proofs.Statuses.{running_live, running_open, waiting_live, waiting_open, running_not_waiting}
use Rattle.desk_rules.proofs.Release.{woken_or_left, holder_was, left_kept}
use Rattle.desk_rules.proofs.RunEnd.{status_after, row_releases, granted_woken, left_not_woken, woken_after, others_after, after_each}
use Rattle.desk_rules.proofs.KeptStatus.{open_number}
use Rattle.desks.proofs.Places.{vacated_others, vacated_gone, vacated_once, vacated_size}

-- a job whose run ends: it was open, its new status is not live, and the places afterwards are those of the others, and its own if it stays open
record Ends (d : Desk) (j : ℕ) (s : Status) (js : List ℕ) : Type 0 where
  open_before : is_open (d.stat j) ≡ true
  not_live : is_live s ≡ false
  others : (i : ℕ) → i ≢ j → i ≢ 0 → member i js ≡ member i d.jobs
  own : member j js ≡ is_open s
  once : Once js
  size : length js ≡ places

module _ {d : Desk} (v : Inv d) (j : ℕ) (s : Status) (js : List ℕ) (k : Ends d j s js) where
  -- each row afterwards
  rule4_row : (c : ℕ) → RowInv (status_after d j s) c (rows_after d j c).row
  rule4_row c = record {
    pairs = (row_releases v j c).pairs;
    elder = (row_releases v j c).elder;
    down = (row_releases v j c).down;
    blocked = (row_releases v j c).blocked;
    lacks = λ w h. rw (left_kept (row_releases v j c) w h) ((v.rows c).lacks w ((row_releases v j c).left_was w h));
    stands = λ w h. others_after v j s w.job ((row_releases v j c).left_other w h) (left_not_woken v j c w h) ∙ (v.rows c).stands w ((row_releases v j c).left_was w h);
    holds = λ i f. holder_was (row_releases v j c) i f
        (λ n g. after_each v j s (λ x. is_live x ≡ true) i (λ _ _ _ _. running_live refl) (λ e. absurd (n e)) (λ _ _. (v.rows c).holds i g))
        (λ w h e. subst (λ i. is_live (status_after d j s i) ≡ true) e (running_live (woken_after v j s w.job (granted_woken v j c w h))));
    within = λ w h. (v.rows c).within w ((row_releases v j c).left_was w h);
  }

  -- a run's end keeps the invariant
  rule4_inv : (said : Answer) → Inv (rule4 d j s js said).desk
  unfolding rule4
  rule4_inv said = record {
    rows = rule4_row;
    queues = λ i c a. after_each v j s (λ x. x ≡ waiting c a → In (record { job = i; ask = a }) (rows_after d j c).row.queue) i
        (λ _ _ _ _ q. absurd (running_not_waiting refl q)) (λ e q. not_both (waiting_live q) k.not_live)
        (λ n f q. woken_or_left (row_releases v j c) (record { job = i; ask = a }) (v.queues i c a q) n (λ h. not_both (granted_woken v j c (record { job = i; ask = a }) h) f) (λ h. h));
    seats = λ i. after_each v j s (λ x. is_open x ≡ true → member i js ≡ true) i
        (λ c a n e _. k.others i n (open_number v i (waiting_open e)) ∙ v.seats i (waiting_open e))
        (λ e o. ap (λ x. member x js) e ∙ k.own ∙ o) (λ n _ o. k.others i n (open_number v i o) ∙ v.seats i o);
    opens = λ i z m. after_each v j s (λ x. is_open x ≡ true) i
        (λ _ _ _ _. running_open refl) (λ e. sym k.own ∙ ap (λ x. member x js) (sym e) ∙ m) (λ n _. v.opens i z (sym (k.others i n z) ∙ m));
    nobody = after_each v j s (λ x. x ≡ closed) 0
        (λ c a n e. absurd (open_number v 0 (waiting_open e) refl)) (λ e. absurd (open_number v j k.open_before (sym e))) (λ n _. v.nobody);
    once = k.once;
    size = k.size;
    below = λ i. after_each v j s (λ x. is_open x ≡ true → i < d.next) i
        (λ c a n e _. v.below i (waiting_open e)) (λ e _. subst (λ x. x < d.next) (sym e) (v.below j k.open_before)) (λ n _ o. v.below i o);
    some = v.some;
  }

-- a job that is closed: commit and give-up
pub close_inv : {d : Desk} → Inv d → (j : ℕ) → is_open (d.stat j) ≡ true → Inv (close d j).desk
unfolding close
close_inv {d} v j o = rule4_inv v j closed (vacated j d.jobs) ends _
  where
    ends : Ends d j closed (vacated j d.jobs)
    ends = unfold is_open is_live in record {
      open_before = o;
      not_live = refl;
      others = vacated_others j d.jobs;
      own = vacated_gone j d.jobs (open_number v j o);
      once = vacated_once j d.jobs v.once;
      size = vacated_size j d.jobs ∙ v.size;
    }

-- a job that is sent back
pub send_back_inv : {d : Desk} → Inv d → (j : ℕ) → is_open (d.stat j) ≡ true → Inv (send_back d j).desk
unfolding send_back
send_back_inv {d} v j o = rule4_inv v j sentback d.jobs ends _
  where
    ends : Ends d j sentback d.jobs
    ends = unfold is_open is_live in record {
      open_before = o;
      not_live = refl;
      others = λ _ _ _. refl;
      own = v.seats j o;
      once = v.once;
      size = v.size;
    }
