-- The paper's bytes and limits, computed: beside each name stands the paper's number (01, Lines; 01, Refusals by number; 01, What is delivered).
-- Assumes nothing.
use Prim.Native.Nat.{ℕ}
use mathlib.Core.Path.{◌≡◌, refl}
use mathlib.Core.Bool.{Bool, true, false}
use mathlib.Core.List.{List, [], ◌∷◌, map}
use Rattle.terms.specs.declared.letters.Ask.TheVariants.{Read, Write, Increment, Update}
use Rattle.terms.specs.declared.letters.Letter.{Letter}
use Rattle.terms.specs.declared.letters.Letter.TheVariants.{Begin, Commit, GiveUp, Retry, Back, Asks}
use Rattle.terms.specs.Letters.{byte_of, of_requests, of_histories, has_job, has_cell}
use Rattle.terms.specs.Limits.{cells, places, last_number, judged_jobs, judged_lines, judged_bytes, request_lines}
use Rattle.terms.specs.Words.{tab, newline}

-- a letter with its byte, whether requests and histories have it, and whether a job and a cell follow it
pub record Row : Type 0 where
  pub letter : Letter
  pub byte : ℕ
  pub asked : Bool
  pub told : Bool
  pub job : Bool
  pub cell : Bool

-- b alone; c, a, t with a job; r, w, i, u with job and cell; and k, of histories alone, as b, t and u are of requests (01, Lines; 02, No. 1)
abbrev pub letters : List Row
letters =
    record { letter = Begin; byte = 98; asked = true; told = false; job = false; cell = false }
    ∷ record { letter = Commit; byte = 99; asked = true; told = true; job = true; cell = false }
    ∷ record { letter = GiveUp; byte = 97; asked = true; told = true; job = true; cell = false }
    ∷ record { letter = Retry; byte = 116; asked = true; told = false; job = true; cell = false }
    ∷ record { letter = Asks Read; byte = 114; asked = true; told = true; job = true; cell = true }
    ∷ record { letter = Asks Write; byte = 119; asked = true; told = true; job = true; cell = true }
    ∷ record { letter = Asks Increment; byte = 105; asked = true; told = true; job = true; cell = true }
    ∷ record { letter = Asks Update; byte = 117; asked = true; told = false; job = true; cell = true }
    ∷ record { letter = Back; byte = 107; asked = false; told = true; job = true; cell = false }
    ∷ []

-- each letter is so
pub letters_are : map (λ r. record { letter = r.letter; byte = byte_of r.letter; asked = of_requests r.letter; told = of_histories r.letter; job = has_job r.letter; cell = has_cell r.letter }) letters ≡ letters
letters_are = refl

-- 64 cells, 32 open jobs, the last number; the judge's jobs, lines and bytes; the lines that the desk programs read; tab and newline
pub limits_are :
    cells ∷ places ∷ last_number ∷ judged_jobs ∷ judged_lines ∷ judged_bytes ∷ request_lines ∷ tab ∷ newline ∷ []
    ≡ 64 ∷ 32 ∷ 4_294_967_295 ∷ 255 ∷ 4_096 ∷ 65_536 ∷ 1_000_000 ∷ 9 ∷ 10 ∷ []
limits_are = refl
