-- The answer to a question for a chain, in numbers: no other answer keeps the promises, and the numbers tell answers apart (02, No. 3).
-- Assumes nothing.
use Prim.Native.Nat.{ℕ, ◌<◌, ◌≤◌}
use mathlib.Core.Path.{◌≡◌, sym, ap, ◌∙◌}
use mathlib.Core.Bool.{true, false}
use mathlib.Core.List.{List, [], ◌∷◌}
use native.Mathlib.Omega.{arith}
use lib.ListN.{length}
use Rattle.laws.specs.Lists.{filled}
use Rattle.laws.proofs.Filled.{fills_only}
use Rattle.laws.proofs.Joined.{head_same, tail_same}
use Rattle.terms.specs.declared.refusals.Refusal.{Refusal}
use Rattle.terms.specs.declared.refusals.Refusal.TheVariants.{NotOpen, SentBack, ShortList}
use Rattle.terms.proofs.Numbers.{same_number, within_table}
use Rattle.std.specs.Prelude.{Result, Ok, Err}
use Rattle.desk_rules.specs.Desk.{sentback, Desk, is_open, is_live}
use Rattle.desk_rules.specs.Chain.{chain_of}
use Rattle.desk_rules.specs.AskedChain.{ChainTold, ask_chain, chain_numbers}
use Rattle.desk_rules.specs.Chains.{AsksChain}
use Rattle.desk_rules.proofs.AskingChain.{Way, not_there, went_back, too_short, told, by_way}

-- an answer is fixed by its two parts
told_path : (t : ChainTold) (x : Result ℕ Refusal) (l : List ℕ) → t.said ≡ x → t.list ≡ l → t ≡ record { said = x; list = l }
told_path t x l e f = λ i. record { said = e i; list = f i }

module _ {d : Desk} (j : ℕ) (list : List ℕ) (t : ChainTold) (k : AsksChain d j list t) where
  -- a refusal, with the list as it was
  refused_so : (why : Refusal) → t.said ≡ Err why → t ≡ record { said = Err why; list = list }
  refused_so why e = told_path t (Err why) list e (k.refusal_leaves why e)

  -- an answer, with the chain in the first places and the rest as it was
  answered_so : is_live (d.stat j) ≡ true → 32 ≤ length list → t ≡ record { said = Ok (length (chain_of d j)); list = filled (chain_of d j) list }
  answered_so h l =
      let (e, f) = k.answered h l in
      let (r, z) = k.unused_stay (length (chain_of d j)) e in
      told_path t (Ok (length (chain_of d j))) (filled (chain_of d j) list) e (fills_only (chain_of d j) list t.list (record { first = f; rest = r; size = z }))

  -- so an answer that keeps the promises is the one that the definition gives
  pub only_told : t ≡ ask_chain d j list
  only_told = go (by_way d j list)
    where
      go : Way d j list → t ≡ ask_chain d j list
      go (not_there s e) = refused_so NotOpen (k.not_open.1 (unfold is_open in rw s)) ∙ sym e
      go (went_back s e) = refused_so SentBack (k.was_sent_back.1 s) ∙ sym e
      go (too_short s l e) = refused_so ShortList (k.short_list.1 (s, l)) ∙ sym e
      go (told s l e) = answered_so s l ∙ sym e

-- the answer in the paper's numbers: 3, 5 or 18 and no job, or 0 and how many jobs the chain has
module _ {d : Desk} (j : ℕ) (list : List ℕ) (t : ChainTold) (k : AsksChain d j list t) where
  pub tells_3 : is_open (d.stat j) ≡ false → chain_numbers t.said ≡ 3 ∷ 0 ∷ []
  unfolding chain_numbers
  tells_3 h = ap chain_numbers (k.not_open.1 h)

  pub tells_5 : d.stat j ≡ sentback → chain_numbers t.said ≡ 5 ∷ 0 ∷ []
  unfolding chain_numbers
  tells_5 h = ap chain_numbers (k.was_sent_back.1 h)

  pub tells_18 : is_live (d.stat j) ≡ true → length list < 32 → chain_numbers t.said ≡ 18 ∷ 0 ∷ []
  unfolding chain_numbers
  tells_18 h l = ap chain_numbers (k.short_list.1 (h, l))

  pub tells_how_many : is_live (d.stat j) ≡ true → 32 ≤ length list → chain_numbers t.said ≡ 0 ∷ length (chain_of d j) ∷ []
  unfolding chain_numbers
  tells_how_many h l = ap chain_numbers (k.answered h l).0

-- the answers' numbers tell them apart
pub same_chained : (a b : Result ℕ Refusal) → chain_numbers a ≡ chain_numbers b → a ≡ b
unfolding chain_numbers
same_chained (Ok n) (Ok m) e = ap Ok (head_same (tail_same e))
same_chained (Ok n) (Err y) e = let h = head_same e in let w = within_table y in absurd (omega arith)
same_chained (Err x) (Ok m) e = let h = head_same e in let w = within_table x in absurd (omega arith)
same_chained (Err x) (Err y) e = ap Err (same_number x y (head_same e) (head_same (tail_same e)))
