-- Numbers of any size in shortest decimal (01, Lines: no sign, no blank, no leading zero except the single 0).
use Rattle.std.specs.Prelude.{ℕ, zero, suc, ◌+◌, ◌/◌, ◌%◌, Bool, true, false, List, [], ◌∷◌, ◌++◌, ltb}

-- the byte of a digit: 0 to 9 stand at 48 to 57
abbrev pub digit : ℕ → ℕ
digit d = 48 + d

-- n below ten is its one digit; otherwise the digits of its tenth come before its last digit
abbrev pub tenth_first : (ℕ → List ℕ) → ℕ → Bool → List ℕ
tenth_first digits n true = digit n ∷ []
tenth_first digits n false = digits (n / 10) ++ digit (n % 10) ∷ []

-- the digits of n, in at most this many places
unfoldable pub digits_in : ℕ → ℕ → List ℕ
digits_in zero n = []
digits_in (suc places) n = tenth_first (digits_in places) n (ltb n 10)

-- n in shortest decimal: no number has more than n + 1 digits, so there are always enough places
unfoldable pub decimal : ℕ → List ℕ
decimal n = digits_in (suc n) n
