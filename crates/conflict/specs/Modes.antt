-- Lock modes: what each kind needs; what covers what, and what is granted beside what, both as printed tables; and what may be held together (01, The desk's rules; 02, No. 1 and No. 4).
use Rattle.std.specs.Prelude.{ℕ, Bool, true, false, ◌||◌, eqb}
use Rattle.laws.specs.Choice.{pick}
use Rattle.terms.specs.declared.letters.Ask.{Ask}
use Rattle.terms.specs.declared.letters.Ask.TheVariants.{Read as asks_read, Write as asks_write, Increment as asks-increment, Update as asks-update}
use Rattle.conflict.specs.declared.action.Kind.{Kind}
use Rattle.conflict.specs.declared.action.Kind.TheVariants.{Read, Write, Increment}
use Rattle.conflict.specs.declared.modes.Mode.{Mode}
use Rattle.conflict.specs.declared.modes.Mode.TheVariants.{Free, S, X, I, U}

-- read needs S, write X, increment I (01, The desk's rules); a read with intent to write needs U (02, No. 1)
unfoldable pub needed : Ask → Mode
needed asks_read = S
needed asks_write = X
needed asks-increment = I
needed asks-update = U

-- the kind of action that a history records for a request (01, Lines: the history's letters); for a read with intent to write it records a read (02, No. 1)
unfoldable pub recorded : Ask → Kind
recorded asks_read = Read
recorded asks_write = Write
recorded asks-increment = Increment
recorded asks-update = Read

-- yes and no, as the printed matrix has them
abbrev pub Y : Bool
Y = true

abbrev pub N : Bool
N = false

-- a row of a printed table, with the columns S, X, I and U: what it says of a mode. `Free` has no column, and every row says yes to it
abbrev pub row : Bool → Bool → Bool → Bool → Mode → Bool
row s x i u Free = Y
row s x i u S = s
row s x i u X = x
row s x i u I = i
row s x i u U = u

-- what covers what: a row for each mode that a job holds, a column for each mode that it needs. S covers S, I covers I, X covers every need (01, The desk's rules), U covers U and S (02, No. 1).
-- Holding nothing covers no need; needing nothing is covered by anything
unfoldable pub covers : Mode → Mode → Bool
covers Free m = row N N N N m
--               S X I U   needed
covers S m = row Y N N N m
covers X m = row Y Y Y Y m
covers I m = row N N Y N m
covers U m = row Y N N Y m

-- the compatibility matrix as it is printed: a row for each mode that another job holds, a column for each mode that is asked for (02, No. 4; 000, 18.4.2).
-- Beside a held S an S or a U is granted, beside a held I an I, beside a held X or U nothing (01, The desk's rules; 02, No. 1; 000, 18.4.4). Beside a job that holds nothing everything is granted, and a job that asks for nothing gets it
unfoldable pub grants : Mode → Mode → Bool
grants Free m = Y
--               S X I U   asked for
grants S m = row Y N N Y m
grants X m = row N N N N m
grants I m = row N N Y N m
grants U m = row N N N N m

-- two jobs may hold together what one of them may be granted beside the other (02, No. 1: holders of one cell are no longer all of one mode)
unfoldable pub beside : Mode → Mode → Bool
beside m n = grants m n || grants n m

-- what a job asks for: the mode it holds if that covers its need, the mode it needs if that covers what it holds, else X (01, rules 2 and 3; 02, No. 1)
unfoldable pub asked : Mode → Mode → Mode
asked held need = pick (covers held need) held (pick (covers need held) need X)

-- what a held mode becomes if it does not cover the request, by names: S with u becomes U, with write or increment X; U with write or increment becomes X; I with read, write or u becomes X (01, rule 2; 02, No. 1)
pub data Becomes : Mode → Ask → Mode → Type 0 where
  s_write : Becomes S asks_write X
  s_increment : Becomes S asks-increment X
  s_update : Becomes S asks-update U
  i_read : Becomes I asks_read X
  i_write : Becomes I asks_write X
  i_update : Becomes I asks-update X
  u_write : Becomes U asks_write X
  u_increment : Becomes U asks-increment X

-- the kinds of action that may be done under a held mode: any under X, reads under S and under U, increments under I
unfoldable pub lets : Mode → Kind → Bool
lets Free k = false
lets S Read = true
lets S Write = false
lets S Increment = false
lets X k = true
lets I Read = false
lets I Write = false
lets I Increment = true
lets U Read = true
lets U Write = false
lets U Increment = false

-- whether a mode keeps every other job from getting a lock: U and X do (02, No. 1)
unfoldable pub shuts_out : Mode → Bool
shuts_out Free = false
shuts_out S = false
shuts_out X = true
shuts_out I = false
shuts_out U = true

-- whether a job holds nothing
unfoldable pub is_free : Mode → Bool
is_free Free = true
is_free S = false
is_free X = false
is_free I = false
is_free U = false

-- the number that stands for a mode in the desk's table
unfoldable pub code_of : Mode → ℕ
code_of Free = 0
code_of S = 1
code_of X = 2
code_of I = 3
code_of U = 4

-- the mode that a number stands for: the mode with that code, or nothing held for any other number
unfoldable pub mode_of : ℕ → Mode
mode_of n =
    pick (eqb n (code_of S)) S (pick (eqb n (code_of X)) X (pick (eqb n (code_of I)) I (pick (eqb n (code_of U)) U Free)))
