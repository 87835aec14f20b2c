-- The records and lines that go out, byte by byte: 9 is the tab, 10 the newline, and every word and letter stands in its bytes (01, Lines; 01, The judge's rules; 02, No. 2 and No. 3).
-- Assumes nothing.
use Prim.Native.Nat.{ℕ, ◌+◌}
use mathlib.Core.Path.{◌≡◌, refl, ap}
use mathlib.Core.List.{List, [], ◌∷◌, ◌++◌, map, append_assoc, append-nil}
use Rattle.terms.specs.declared.words.Word.TheVariants.{Go, Wait, Back, No, Wake, Orderly, Knot, Dirty}
use Rattle.terms.specs.declared.refusals.Field.{Field}
use Rattle.terms.specs.declared.refusals.Field.TheVariants.{First, Second, Third, Fourth}
use Rattle.terms.specs.declared.refusals.Refusal.TheVariants.{BadLine}
use Rattle.terms.specs.Refusals.{number_of, field_number}
use Rattle.conflict.specs.declared.action.Kind.TheVariants.{Read, Write, Increment}
use Rattle.conflict.specs.declared.action.Mark.TheVariants.{Commit as commits, GiveUp as gives_up, Back as goes_back}
use Rattle.conflict.specs.declared.action.Event.TheVariants.{Does, Ends}
use Rattle.text_rules.specs.Decimal.{decimal, digits_in}
use Rattle.text_rules.specs.EventRecords.{ask_by, mark_letter, event_line}
use Rattle.text_rules.specs.Records.{given, answer_record, field, line_record, tabbed, word_line, tabs_between, jobs_line}
use Rattle.text_rules.specs.Split.{joined}

-- an answer record: the line number, a tab, the word, a tab, the number, a newline (01, Lines)
module _ (line number : ℕ) where
  -- what follows the word, if there is no fourth field
  three_fields : (word : List ℕ) → decimal line ++ 9 ∷ (word ++ (9 ∷ decimal number ++ []) ++ 10 ∷ []) ≡ decimal line ++ 9 ∷ word ++ 9 ∷ decimal number ++ 10 ∷ []
  three_fields word = rw append-nil (simp append_assoc)

  -- the word go
  pub go_bytes : answer_record line Go number 0 ≡ decimal line ++ 9 ∷ 103 ∷ 111 ∷ [] ++ 9 ∷ decimal number ++ 10 ∷ []
  unfolding answer_record word_line tabbed given
  go_bytes = three_fields (103 ∷ 111 ∷ [])

  -- the word wait
  pub wait_bytes : answer_record line Wait number 0 ≡ decimal line ++ 9 ∷ 119 ∷ 97 ∷ 105 ∷ 116 ∷ [] ++ 9 ∷ decimal number ++ 10 ∷ []
  unfolding answer_record word_line tabbed given
  wait_bytes = three_fields (119 ∷ 97 ∷ 105 ∷ 116 ∷ [])

  -- the word back
  pub back_bytes : answer_record line Back number 0 ≡ decimal line ++ 9 ∷ 98 ∷ 97 ∷ 99 ∷ 107 ∷ [] ++ 9 ∷ decimal number ++ 10 ∷ []
  unfolding answer_record word_line tabbed given
  back_bytes = three_fields (98 ∷ 97 ∷ 99 ∷ 107 ∷ [])

  -- the word no
  pub no_bytes : answer_record line No number 0 ≡ decimal line ++ 9 ∷ 110 ∷ 111 ∷ [] ++ 9 ∷ decimal number ++ 10 ∷ []
  unfolding answer_record word_line tabbed given
  no_bytes = three_fields (110 ∷ 111 ∷ [])

  -- the word wake
  pub wake_bytes : answer_record line Wake number 0 ≡ decimal line ++ 9 ∷ 119 ∷ 97 ∷ 107 ∷ 101 ∷ [] ++ 9 ∷ decimal number ++ 10 ∷ []
  unfolding answer_record word_line tabbed given
  wake_bytes = three_fields (119 ∷ 97 ∷ 107 ∷ 101 ∷ [])

-- the record of a refusal 9: the line number, a tab, no, a tab, 9, a tab, the number of the field at fault, a newline (02, No. 5)
pub nine_bytes : (line : ℕ) (at : Field) → answer_record line No (number_of (BadLine at)) (field_number at) ≡ decimal line ++ 9 ∷ 110 ∷ 111 ∷ 9 ∷ 57 ∷ 9 ∷ (48 + field_number at) ∷ 10 ∷ []
unfolding answer_record word_line tabbed given decimal digits_in
nine_bytes line First = refl
nine_bytes line Second = refl
nine_bytes line Third = refl
nine_bytes line Fourth = refl

-- a history record of an action: r, w or i, a tab, the job, a tab, the cell, a newline (01, Lines)
module _ (job cell : ℕ) where
  -- a read
  pub read_bytes : event_line (Does (record { kind = Read; job = job; cell = cell })) ≡ 114 ∷ 9 ∷ decimal job ++ 9 ∷ decimal cell ++ 10 ∷ []
  unfolding event_line ask_by line_record field
  read_bytes = refl

  -- a write
  pub write_bytes : event_line (Does (record { kind = Write; job = job; cell = cell })) ≡ 119 ∷ 9 ∷ decimal job ++ 9 ∷ decimal cell ++ 10 ∷ []
  unfolding event_line ask_by line_record field
  write_bytes = refl

  -- an increment
  pub increment_bytes : event_line (Does (record { kind = Increment; job = job; cell = cell })) ≡ 105 ∷ 9 ∷ decimal job ++ 9 ∷ decimal cell ++ 10 ∷ []
  unfolding event_line ask_by line_record field
  increment_bytes = refl

-- a history record of an end: c, a or k, a tab, the job, a newline (01, Lines)
module _ (job : ℕ) where
  -- a commit
  pub commit_bytes : event_line (Ends commits job) ≡ 99 ∷ 9 ∷ decimal job ++ 10 ∷ []
  unfolding event_line mark_letter line_record field
  commit_bytes = ap (λ t. 99 ∷ 9 ∷ t ++ 10 ∷ []) (append-nil (decimal job))

  -- a give-up
  pub give_up_bytes : event_line (Ends gives_up job) ≡ 97 ∷ 9 ∷ decimal job ++ 10 ∷ []
  unfolding event_line mark_letter line_record field
  give_up_bytes = ap (λ t. 97 ∷ 9 ∷ t ++ 10 ∷ []) (append-nil (decimal job))

  -- a sending back
  pub sent_back_bytes : event_line (Ends goes_back job) ≡ 107 ∷ 9 ∷ decimal job ++ 10 ∷ []
  unfolding event_line mark_letter line_record field
  sent_back_bytes = ap (λ t. 107 ∷ 9 ∷ t ++ 10 ∷ []) (append-nil (decimal job))

-- numbers, a tab before each
tabbed_bytes : (ns : List ℕ) → tabbed ns ≡ joined (map (λ n. 9 ∷ decimal n) ns)
unfolding tabbed joined
tabbed_bytes [] = refl
tabbed_bytes (n ∷ ns) = ap (λ t. 9 ∷ decimal n ++ t) (tabbed_bytes ns)

-- orderly, and then each job with a tab before it, and a newline (01, The judge's rules)
pub orderly_bytes : (js : List ℕ) → word_line Orderly js ≡ 111 ∷ 114 ∷ 100 ∷ 101 ∷ 114 ∷ 108 ∷ 121 ∷ joined (map (λ j. 9 ∷ decimal j) js) ++ 10 ∷ []
unfolding word_line
orderly_bytes js = ap (λ t. 111 ∷ 114 ∷ 100 ∷ 101 ∷ 114 ∷ 108 ∷ 121 ∷ t ++ 10 ∷ []) (tabbed_bytes js)

-- knot, and then the jobs the same way
pub knot_bytes : (js : List ℕ) → word_line Knot js ≡ 107 ∷ 110 ∷ 111 ∷ 116 ∷ joined (map (λ j. 9 ∷ decimal j) js) ++ 10 ∷ []
unfolding word_line
knot_bytes js = ap (λ t. 107 ∷ 110 ∷ 111 ∷ 116 ∷ t ++ 10 ∷ []) (tabbed_bytes js)

-- dirty, a tab, the reader, a tab, the writer, and a newline (02, No. 2)
pub dirty_bytes : (reader writer : ℕ) → word_line Dirty (reader ∷ writer ∷ []) ≡ 100 ∷ 105 ∷ 114 ∷ 116 ∷ 121 ∷ 9 ∷ decimal reader ++ 9 ∷ decimal writer ++ 10 ∷ []
unfolding word_line tabbed
dirty_bytes reader writer = ap (λ t. 100 ∷ 105 ∷ 114 ∷ 116 ∷ 121 ∷ 9 ∷ (decimal reader ++ 9 ∷ t) ++ 10 ∷ []) (append-nil (decimal writer))

-- no, a tab, the line number, a tab, the refusal's number, and a newline
pub refusal_bytes : (line number : ℕ) → word_line No (line ∷ number ∷ []) ≡ 110 ∷ 111 ∷ 9 ∷ decimal line ++ 9 ∷ decimal number ++ 10 ∷ []
unfolding word_line tabbed
refusal_bytes line number = ap (λ t. 110 ∷ 111 ∷ 9 ∷ (decimal line ++ 9 ∷ t) ++ 10 ∷ []) (append-nil (decimal number))

-- after refusal 9 comes the field at fault (02, No. 5)
pub nine_line_bytes : (line : ℕ) (at : Field) → word_line No (line ∷ number_of (BadLine at) ∷ given (field_number at)) ≡ 110 ∷ 111 ∷ 9 ∷ decimal line ++ 9 ∷ 57 ∷ 9 ∷ (48 + field_number at) ∷ 10 ∷ []
unfolding word_line tabbed given decimal digits_in
nine_line_bytes line First = append_assoc (110 ∷ 111 ∷ 9 ∷ decimal line) (9 ∷ 57 ∷ 9 ∷ 49 ∷ []) (10 ∷ [])
nine_line_bytes line Second = append_assoc (110 ∷ 111 ∷ 9 ∷ decimal line) (9 ∷ 57 ∷ 9 ∷ 50 ∷ []) (10 ∷ [])
nine_line_bytes line Third = append_assoc (110 ∷ 111 ∷ 9 ∷ decimal line) (9 ∷ 57 ∷ 9 ∷ 51 ∷ []) (10 ∷ [])
nine_line_bytes line Fourth = append_assoc (110 ∷ 111 ∷ 9 ∷ decimal line) (9 ∷ 57 ∷ 9 ∷ 52 ∷ []) (10 ∷ [])

-- a chain: the first job, each further one with a tab before it, and a newline (02, No. 3)
pub chain_bytes : (j : ℕ) (js : List ℕ) → jobs_line (j ∷ js) ≡ decimal j ++ joined (map (λ i. 9 ∷ decimal i) js) ++ 10 ∷ []
unfolding jobs_line tabs_between
chain_bytes j js = ap (λ t. (decimal j ++ t) ++ 10 ∷ []) (tabbed_bytes js)
