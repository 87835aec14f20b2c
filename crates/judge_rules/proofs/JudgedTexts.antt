-- The whole judge, for a faultless text: dirty is said exactly if its history is dirty; orderly exactly if it is not and its committed part is conflict-serializable in the book's sense, with a serial order in the buffer; otherwise a knot (demand 2; 01, The judge's rules; 02, No. 2).
-- Assumes nothing.
use Prim.Native.Nat.{ℕ, ◌≤◌}
use mathlib.Core.Path.{◌≡◌, refl, ap₂, ◌∙◌}
use mathlib.Core.Logic.{◌↔◌}
use mathlib.Core.List.{List}
use native.Mathlib.Omega.{arith}
use lib.ListN.{length}
use Rattle.conflict.specs.Schedule.{ConflictSerializable, edge}
use Rattle.conflict.specs.History.{History, committed_part}
use Rattle.conflict.specs.Dirty.{IsDirty, FirstDirty}
use Rattle.conflict.proofs.DirtyFound.{first_dirty_one, first_is_dirty, dirty_first}
use Rattle.judge_rules.specs.declared.verdict.Verdict.TheVariants.{Orderly, Knot, Dirty}
use Rattle.judge_rules.specs.Judged.{orderly, knotted, jobs_of}
use Rattle.judge_rules.specs.Meant.{SmallestFirst}
use Rattle.judge_rules.specs.Meant.Says.{says_order, says_cycle}
use Rattle.judge_rules.specs.HistoryText.{readings_of, events_in}
use Rattle.judge_rules.specs.Judgement.{Judgement, judgement_of}
use Rattle.judge_rules.specs.LineTable.{AllFaultless}
use Rattle.judge_rules.specs.Answers.{InDirt, InOrder, InKnot, Answers}
use Rattle.judge_rules.specs.Answers.Answers.{short, faulty, in-dirt, in_order, in-knot}
use Rattle.judge_rules.proofs.SmallestFirst.{smallest_first_unique}
use Rattle.judge_rules.proofs.Deciding.{orderly_is}
use Rattle.judge_rules.proofs.Histories.{orderly_exactly, knot_refuses, finding_exactly}
use Rattle.judge_rules.proofs.Answering.{answers}
use Rattle.judge_rules.proofs.OneAnswer.{no_fault}

-- an order told for a history is a serial one, so its committed part is conflict-serializable
order_serializable : (h : History) (before after : List ℕ) (n : ℕ) → InOrder h before after n → ConflictSerializable (committed_part h)
order_serializable h before after n o =
    (orderly_exactly h).0 (orderly_is o.order ((finding_exactly h (orderly o.order)).0 (says_order o.smallest)))

-- a knot told for a history shows that it is not
knot_not_serializable : (h : History) (before after : List ℕ) (n : ℕ) → InKnot h before after n → ConflictSerializable (committed_part h) → ⊥
knot_not_serializable h before after n k = knot_refuses h k.knot ((finding_exactly h (knotted k.knot)).0 (says_cycle k.takes k.walked))

-- no second order is smallest first
pub order_only : (h : History) (before after : List ℕ) (n : ℕ) (o : InOrder h before after n) (two : List ℕ) → SmallestFirst (edge (committed_part h)) (jobs_of h) two → two ≡ o.order
order_only h before after n o two s = smallest_first_unique (edge (committed_part h)) (jobs_of h) two o.order s o.smallest

module _ (text buffer : List ℕ) where
  -- the history that the text says
  abbrev says : History
  says = events_in (readings_of text)

  -- the cases of an answer that is dirty
  dirt_case : (v : Judgement) → Answers text buffer v → (i j : ℕ) → v.said ≡ Dirty i j → (255 ≤ length buffer) × AllFaultless (readings_of text) × InDirt says buffer v.order i j
  dirt_case v (short h) i j e = let z : ◌≡◌ {A = ℕ} 0 1 = cc in absurd (omega arith)
  dirt_case v (faulty room f s) i j e = let z : ◌≡◌ {A = ℕ} 0 1 = cc in absurd (omega arith)
  dirt_case v (in-dirt {reader = k} {writer = l} room all d) i j e = let p : k ≡ i = cc in let q : l ≡ j = cc in (room, all, rw (← p, ← q) d)
  dirt_case v (in_order room all o) i j e = let z : ◌≡◌ {A = ℕ} 0 1 = cc in absurd (omega arith)
  dirt_case v (in-knot room all k) i j e = let z : ◌≡◌ {A = ℕ} 0 1 = cc in absurd (omega arith)

  -- the cases of an answer that is orderly
  order_case : (v : Judgement) → Answers text buffer v → (n : ℕ) → v.said ≡ Orderly n → (255 ≤ length buffer) × AllFaultless (readings_of text) × InOrder says buffer v.order n
  order_case v (short h) n e = let z : ◌≡◌ {A = ℕ} 0 1 = cc in absurd (omega arith)
  order_case v (faulty room f s) n e = let z : ◌≡◌ {A = ℕ} 0 1 = cc in absurd (omega arith)
  order_case v (in-dirt room all d) n e = let z : ◌≡◌ {A = ℕ} 0 1 = cc in absurd (omega arith)
  order_case v (in_order {n = m} {after = after} room all o) n e = let q : m ≡ n = cc in (room, all, rw (← q) o)
  order_case v (in-knot room all k) n e = let z : ◌≡◌ {A = ℕ} 0 1 = cc in absurd (omega arith)

  -- the cases of an answer that is a knot
  knot_case : (v : Judgement) → Answers text buffer v → (n : ℕ) → v.said ≡ Knot n → (255 ≤ length buffer) × AllFaultless (readings_of text) × InKnot says buffer v.order n
  knot_case v (short h) n e = let z : ◌≡◌ {A = ℕ} 0 1 = cc in absurd (omega arith)
  knot_case v (faulty room f s) n e = let z : ◌≡◌ {A = ℕ} 0 1 = cc in absurd (omega arith)
  knot_case v (in-dirt room all d) n e = let z : ◌≡◌ {A = ℕ} 0 1 = cc in absurd (omega arith)
  knot_case v (in_order room all o) n e = let z : ◌≡◌ {A = ℕ} 0 1 = cc in absurd (omega arith)
  knot_case v (in-knot {n = m} room all k) n e = let q : m ≡ n = cc in (room, all, rw (← q) k)

  -- dirty is said only of a faultless text, and then reader and writer of its first dirty read fill the buffer's first two places
  pub dirty_said : (i j : ℕ) → (judgement_of text buffer).said ≡ Dirty i j → (255 ≤ length buffer) × AllFaultless (readings_of text) × InDirt says buffer (judgement_of text buffer).order i j
  dirty_said i j e = dirt_case (judgement_of text buffer) (answers text buffer) i j e

  -- orderly is said only of a faultless text that is not dirty, and then a serial order of its committed jobs, each once, smallest first, fills the buffer's first places; the length told is that of the order, at most 255
  pub orderly_said : (n : ℕ) → (judgement_of text buffer).said ≡ Orderly n → (255 ≤ length buffer) × AllFaultless (readings_of text) × InOrder says buffer (judgement_of text buffer).order n
  orderly_said n e = order_case (judgement_of text buffer) (answers text buffer) n e

  -- a knot is said only of a faultless text that is not dirty, and then a knot of conflicts between committed jobs, none twice, from its smallest, fills the buffer's first places; the length told is that of the knot, at most 255
  pub knot_said : (n : ℕ) → (judgement_of text buffer).said ≡ Knot n → (255 ≤ length buffer) × AllFaultless (readings_of text) × InKnot says buffer (judgement_of text buffer).order n
  knot_said n e = knot_case (judgement_of text buffer) (answers text buffer) n e

  module _ (room : 255 ≤ length buffer) (all : AllFaultless (readings_of text)) where
    -- a faultless text is answered by dirty, by orderly or by a knot
    by_answer : {P : Type 0} (v : Judgement) → Answers text buffer v → ((i j : ℕ) → v.said ≡ Dirty i j → InDirt says buffer v.order i j → P) →
        ((n : ℕ) → v.said ≡ Orderly n → InOrder says buffer v.order n → P) → ((n : ℕ) → v.said ≡ Knot n → InKnot says buffer v.order n → P) → P
    by_answer v (short h) one' two' three' = absurd (omega arith)
    by_answer v (faulty {n = n} {why = why} room' f s) one' two' three' = no_fault (readings_of text) n why all f
    by_answer v (in-dirt {reader = i} {writer = j} room' all' d) one' two' three' = one' i j refl d
    by_answer v (in_order {n = n} room' all' o) one' two' three' = two' n refl o
    by_answer v (in-knot {n = n} room' all' k) one' two' three' = three' n refl k

    -- DIRTY: it is said with this reader and this writer exactly if they are those of the first dirty read of the history that the lines say
    pub dirty_said_exactly : (i j : ℕ) → ((judgement_of text buffer).said ≡ Dirty i j) ↔ FirstDirty says i j
    dirty_said_exactly i j = (
      λ e. (dirty_said i j e).2.first,
      λ f. by_answer (judgement_of text buffer) (answers text buffer)
          (λ k l e d. let s = first_dirty_one says k l i j d.first f in e ∙ ap₂ Dirty s.0 s.1)
          (λ n e o. absurd (o.clean (first_is_dirty says i j f))) (λ n e k. absurd (k.clean (first_is_dirty says i j f))),
    )

    -- so it is said exactly if that history is dirty
    pub dirty_said_where : ((i : ℕ) × (j : ℕ) × ((judgement_of text buffer).said ≡ Dirty i j)) ↔ IsDirty says
    dirty_said_where = (
      λ s. first_is_dirty says s.0 s.1 ((dirty_said_exactly s.0 s.1).0 s.2),
      λ d. let f = dirty_first says d in (f.0, f.1, (dirty_said_exactly f.0 f.1).1 f.2),
    )

    -- ORDERLY: it is said exactly if the committed part of the history that the lines say is conflict-serializable and the history is not dirty (demand 2; 02, No. 2)
    pub orderly_said_exactly : ((n : ℕ) × ((judgement_of text buffer).said ≡ Orderly n)) ↔ (ConflictSerializable (committed_part says) × (IsDirty says → ⊥))
    orderly_said_exactly = (
      λ s. let o = (orderly_said s.0 s.1).2 in (order_serializable says buffer (judgement_of text buffer).order s.0 o, o.clean),
      λ c. by_answer (judgement_of text buffer) (answers text buffer) (λ i j e d. absurd (c.1 (first_is_dirty says i j d.first))) (λ n e o. (n, e))
          (λ n e k. absurd (knot_not_serializable says buffer (judgement_of text buffer).order n k c.0)),
    )

    -- A KNOT: it is said exactly if neither dirty nor orderly is
    pub knot_said_exactly : ((n : ℕ) × ((judgement_of text buffer).said ≡ Knot n)) ↔ ((ConflictSerializable (committed_part says) → ⊥) × (IsDirty says → ⊥))
    knot_said_exactly = (
      λ s. let k = (knot_said s.0 s.1).2 in (knot_not_serializable says buffer (judgement_of text buffer).order s.0 k, k.clean),
      λ c. by_answer (judgement_of text buffer) (answers text buffer) (λ i j e d. absurd (c.1 (first_is_dirty says i j d.first)))
          (λ n e o. absurd (c.0 (order_serializable says buffer (judgement_of text buffer).order n o))) (λ n e k. (n, e)),
    )
