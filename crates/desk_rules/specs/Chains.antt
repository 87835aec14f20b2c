-- What is promised of chains, and of a question for one (02, No. 3).
use Rattle.std.specs.Prelude.{ℕ, ◌<◌, ◌≤◌, ◌≡◌, ◌≢◌, ◌↔◌, ◌⊎◌, true, false, List, [], ◌∷◌, ◌++◌, length, take, drop}
use Rattle.laws.specs.Lists.{member, distinct}
use Rattle.terms.specs.declared.letters.Ask.{Ask}
use Rattle.terms.specs.declared.refusals.Refusal.{Refusal}
use Rattle.terms.specs.declared.refusals.Refusal.TheVariants.{NotOpen, SentBack, ShortList}
use Rattle.terms.specs.Refusals.{number_of}
use Rattle.conflict.specs.Modes.{is_free}
use Rattle.std.specs.Prelude.{Ok, Err}
use Rattle.desk_rules.specs.Desk.{running, waiting, sentback, Waiter, Desk, is_open, is_live}
use Rattle.desk_rules.specs.Table.{is_waiting}
use Rattle.desks.specs.Requests.{Rising}
use Rattle.desk_rules.specs.Waiting.{IsWaiting}
use Rattle.desk_rules.specs.Chain.{younger_than, chain_of, Next, IsChain, waiting_below}
use Rattle.desk_rules.specs.AskedChain.{ChainTold, ask_chain}

-- one job and the next after it: the first waits, and the next is the youngest of the jobs in its way
pub record Followed (d : Desk) (i k : ℕ) : Type 0 where
  pub cell : ℕ
  pub ask : Ask
  pub waits : d.stat i ≡ waiting cell ask
  pub next : Next d cell (record { job = i; ask = ask }) k

-- for the chain of a live job
pub record Along (d : Desk) (j : ℕ) (js : List ℕ) : Type 0 where
  -- it begins with the job and ends with a running one
  pub begins : (rest : List ℕ) × (js ≡ j ∷ rest)
  pub ends : (before : List ℕ) × (i : ℕ) × (js ≡ before ++ i ∷ []) × (d.stat i ≡ running)
  -- every job in it but the last waits; the next is in its way, the youngest of those there, and younger than the job itself
  pub followed : (before : List ℕ) (i k : ℕ) (after : List ℕ) → js ≡ before ++ i ∷ k ∷ after → Followed d i k × (i < k)
  -- numbers rise along it, no job is in it twice, and it has at most 32 jobs
  pub rises : Rising js
  pub once : distinct js ≡ true
  pub at_most_32 : length js ≤ 32

-- for the answer to a question for the chain of job j with a list lent for it
pub record AsksChain (d : Desk) (j : ℕ) (list : List ℕ) (t : ChainTold) : Type 0 where
  -- 3 exactly if the job is not open; 5 exactly if it was sent back; 18 exactly if it runs or waits and fewer than 32 places are lent; and no other refusal
  pub not_open : (t.said ≡ Err NotOpen) ↔ (is_open (d.stat j) ≡ false)
  pub was_sent_back : (t.said ≡ Err SentBack) ↔ (d.stat j ≡ sentback)
  pub short_list : (t.said ≡ Err ShortList) ↔ ((is_live (d.stat j) ≡ true) × (length list < 32))
  pub no_other : (why : Refusal) → t.said ≡ Err why → (number_of why ≡ 3) ⊎ ((number_of why ≡ 5) ⊎ (number_of why ≡ 18))
  -- a refusal leaves the list as it was
  pub refusal_leaves : (why : Refusal) → t.said ≡ Err why → t.list ≡ list
  -- otherwise the answer is how many jobs the chain has, and the chain is in the first places of the list
  pub answered : is_live (d.stat j) ≡ true → 32 ≤ length list → (t.said ≡ Ok (length (chain_of d j))) × (take (length (chain_of d j)) t.list ≡ chain_of d j)
  -- the unused places stay
  pub unused_stay : (n : ℕ) → t.said ≡ Ok n → (drop n t.list ≡ drop n list) × (length t.list ≡ length list)

pub record Chains (d : Desk) : Type 0 where
  -- the chain of a live job is a chain in the request's words, and the only one; a running job's chain is itself
  pub is_chain : (j : ℕ) → is_live (d.stat j) ≡ true → IsChain d j (chain_of d j)
  pub only_chain : (j : ℕ) (js : List ℕ) → IsChain d j js → js ≡ chain_of d j
  pub running_alone : (j : ℕ) → d.stat j ≡ running → chain_of d j ≡ j ∷ []
  pub along : (j : ℕ) → is_live (d.stat j) ≡ true → Along d j (chain_of d j)
  -- after every waiter there is a next job, which holds its cell; and each further look has fewer younger jobs left
  pub someone_next : (c : ℕ) (w : Waiter) → IsWaiting d c w → (i : ℕ) × Next d c w i
  pub next_holds : (c : ℕ) (w : Waiter) → IsWaiting d c w → (i : ℕ) → Next d c w i → (i ≢ w.job) × (is_free ((d.row c).held i) ≡ false)
  pub fewer_younger : (c : ℕ) (w : Waiter) → IsWaiting d c w → (i : ℕ) → Next d c w i → younger_than i d.jobs < younger_than w.job d.jobs
  pub asks : (j : ℕ) (list : List ℕ) → AsksChain d j list (ask_chain d j list)
  -- the list has exactly the waiting jobs, in ascending order
  pub waiting_listed : (j : ℕ) → member j (waiting_below d.stat d.next) ≡ is_waiting (d.stat j)
  pub ascending : Rising (waiting_below d.stat d.next)
