-- Settling cell after cell: at each stage the cells passed are as the rules leave them, the others keep their queues, and the wakes told are those of the cells passed.
-- Assumes nothing.
use Prim.Native.Nat.{ℕ, zero, suc, ◌<◌, ◌≤◌}
use mathlib.Core.Path.{◌≡◌, refl, sym, ap, subst, ◌∙◌}
use mathlib.Core.Logic.{◌≢◌}
use mathlib.Core.Bool.{false}
use mathlib.Core.List.{List, ◌++◌}
use native.Mathlib.Omega.{arith}
use Rattle.laws.specs.Choice.{by_test}
use Rattle.terms.specs.declared.letters.Ask.{Ask}
use Rattle.terms.specs.Limits.{places, cells}
use Rattle.conflict.specs.declared.modes.Mode.TheVariants.{Free}
use Rattle.laws.specs.Functions.{at}
use Rattle.laws.specs.Standing.{In}
use Rattle.desk_rules.specs.Desk.{Status, waiting, Desk}
use Rattle.desk_rules.specs.Locks.{without, settle, released}
use Rattle.desk_rules.specs.Rules.{is_woken, wakes_at, wakes_of, run_again, rows_after}
use Rattle.desk_rules.specs.Invariant.{Inv}
use Rattle.desk_rules.proofs.Queue.{without_in, without_other, in_without, without_falling}
use Rattle.desk_rules.proofs.Statuses.{running_not_waiting, one_cell}
use Rattle.laws.proofs.Functions.{at_other, at_each}
use Rattle.desk_rules.proofs.Wakes.{WokenAt, woken_at, others_stay, wakened_each}
use Rattle.desk_rules.proofs.RunEnd.{row_releases}
use Rattle.desk_arrays.specs.Settling.{Settling, settle_cell, settle_all}
use Rattle.desk_arrays.proofs.Cases.{by_last}
use Rattle.desk_arrays.proofs.Queues.{QueueOf}
use Rattle.desk_arrays.proofs.Granting.{statuses_of, modes_of, wakes_so_far, Sound}
use Rattle.desk_arrays.proofs.SettleCell.{CellDone, settle_cell_lem}
use Rattle.desk_arrays.proofs.Wakened.{wakened_twice}

-- job j's run has ended with a status, and the first k cells have been settled
pub record Stage (d : Desk) (j : ℕ) (st : Status) (cell ask : List ℕ) (k : ℕ) (s : Settling) : Type 0 where
  pub sound : Sound d.jobs s
  pub done : (c : ℕ) → c < k → modes_of d.jobs s c ≡ (rows_after d j c).row.held
  pub left : (c : ℕ) → k ≤ c → modes_of d.jobs s c ≡ at (d.row c).held j Free
  pub statuses : statuses_of d.jobs cell ask s ≡ run_again (at d.stat j st) (wakes_of (rows_after d j) k)
  pub told : wakes_so_far d.jobs cell ask s ≡ wakes_of (rows_after d j) k

module _ {d : Desk} (v : Inv d) (j : ℕ) (st : Status) (ends : (c : ℕ) (a : Ask) → st ≢ waiting c a) (cell ask : List ℕ) where
  -- a waiter of a cell that is not yet reached is not among the wakes
  not_yet : (k c : ℕ) → k ≤ c → (i : ℕ) (a : Ask) → d.stat i ≡ waiting c a → is_woken i (wakes_of (rows_after d j) k) ≡ false
  not_yet k c l i a e =
      by_test (is_woken i (wakes_of (rows_after d j) k)) (λ t. absurd (elsewhere (woken_at (rows_after d j) k i t))) (λ f. f)
    where
      elsewhere : WokenAt (rows_after d j) k i → ⊥
      elsewhere w =
          let g : w.cell ≡ c = one_cell (ap d.stat (sym w.is) ∙ (v.rows w.cell).stands w.waiter ((row_releases v j w.cell).woken_was w.waiter w.granted)) e in
          let h : w.cell < k = w.within in
          omega arith

  -- the queue of a cell that is not reached
  stage_queue : (k : ℕ) (s : Settling) → Stage d j st cell ask k s → (c : ℕ) → k ≤ c → QueueOf (statuses_of d.jobs cell ask s) c (without j (d.row c).queue)
  stage_queue k s g c l =
      subst (λ f. QueueOf f c (without j (d.row c).queue)) (sym g.statuses)
      (record {
        falls = without_falling j (d.row c).queue (v.rows c).down;
        stands = λ w h.
            let e : d.stat w.job ≡ waiting c w.ask = (v.rows c).stands w (without_in j (d.row c).queue h) in
            others_stay (at d.stat j st) (wakes_of (rows_after d j) k) w.job (not_yet k c l w.job w.ask e)
            ∙ at_other d.stat j st w.job (without_other j (d.row c).queue h) ∙ e;
        queued = λ i a. wakened_each (λ x. x ≡ waiting c a → In (record { job = i; ask = a }) (without j (d.row c).queue)) (at d.stat j st) (wakes_of (rows_after d j) k) i
            (λ _ h. absurd (running_not_waiting refl h))
            (λ _. at_each (λ x. x ≡ waiting c a → In (record { job = i; ask = a }) (without j (d.row c).queue)) d.stat j st i
            (λ _ h. absurd (ends c a h)) (λ n h. in_without j (v.queues i c a h) n));
      })

  -- the cell that is reached is settled as its row is
  stage_cell : (k : ℕ) (s : Settling) → k < cells → Stage d j st cell ask k s → CellDone d.jobs cell ask k s (rows_after d j k) (settle_cell d.jobs cell ask k places s)
  unfolding rows_after released
  stage_cell k s b g =
      subst (λ f. CellDone d.jobs cell ask k s (settle d.jobs f (without j (d.row k).queue)) (settle_cell d.jobs cell ask k places s)) (g.left k (omega arith))
      (settle_cell_lem d.jobs cell ask k v.size v.once b (without j (d.row k).queue) places s g.sound (stage_queue k s g k (omega arith)) (omega (arith, g.sound.room)))

  -- so one cell more is settled
  stage_more : (k : ℕ) (s t : Settling) → Stage d j st cell ask k s → CellDone d.jobs cell ask k s (rows_after d j k) t → Stage d j st cell ask (suc k) t
  unfolding wakes_of
  stage_more k s t g h = record {
    sound = h.sound;
    done = λ c l. by_last c k l (λ e. subst (λ b. modes_of d.jobs t b ≡ (rows_after d j b).row.held) (sym e) h.modes) (λ m. h.others c (λ e. omega arith) ∙ g.done c m);
    left = λ c l. h.others c (λ e. omega arith) ∙ g.left c (omega arith);
    statuses = h.statuses ∙ ap (λ f. run_again f (wakes_at k (rows_after d j k).woken)) g.statuses ∙ wakened_twice (at d.stat j st) (wakes_of (rows_after d j) k) (wakes_at k (rows_after d j k).woken);
    told = h.told ∙ ap (λ l. l ++ wakes_at k (rows_after d j k).woken) g.told;
  }

  -- and in the end all that are asked for
  pub stage_all : (s : Settling) → Stage d j st cell ask 0 s → (n : ℕ) → n ≤ cells → Stage d j st cell ask n (settle_all d.jobs cell ask n s)
  unfolding settle_all
  stage_all s g zero l = g
  stage_all s g (suc n) l =
      let h : Stage d j st cell ask n (settle_all d.jobs cell ask n s) = stage_all s g n (omega arith) in
      stage_more n (settle_all d.jobs cell ask n s) (settle_cell d.jobs cell ask n places (settle_all d.jobs cell ask n s)) h (stage_cell n (settle_all d.jobs cell ask n s) (omega arith) h)
