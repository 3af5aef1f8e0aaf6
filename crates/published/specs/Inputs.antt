-- The rules, tables, plans and lines of files that the worked cases are about. Assumes nothing.
use Rattle.std.specs.Prelude.{ℕ, zero, suc, ◌+◌, ◌-◌, List, [], ◌∷◌, ◌++◌, map, replicate}

-- ---- rules and tables
abbrev pub row : ℕ → ℕ → ℕ → ℕ → ℕ → ℕ → List ℕ
row device at up deep name value = device ∷ at ∷ up ∷ deep ∷ name ∷ value ∷ []

abbrev pub entry : ℕ → ℕ → ℕ → ℕ → List ℕ
entry kind a b c = kind ∷ a ∷ b ∷ c ∷ []

abbrev pub D1 : List ℕ
D1 = row 1 1 0 0 1 11 ++ row 1 2 1 1 2 2 ++ row 1 3 1 1 3 101

abbrev pub D2 : List ℕ
D2 = row 2 1 0 0 1 12 ++ row 2 2 1 1 2 1

abbrev pub D3 : List ℕ
D3 = row 3 1 0 0 1 13 ++ row 3 2 1 1 2 3

abbrev pub D4 : List ℕ
D4 = row 4 1 0 0 1 14 ++ row 4 2 1 1 2 2

-- client or server
abbrev pub rule_a : List ℕ
rule_a = entry 5 1 0 1 ++ entry 3 2 4 0 ++ entry 6 3 1 2 ++ entry 7 1 1 1 ++ entry 6 5 1 2 ++ entry 7 1 1 2

-- at most one server
abbrev pub rule_b : List ℕ
rule_b =
    entry 5 1 0 1 ++ entry 5 2 0 1 ++ entry 4 3 8 0 ++ entry 2 4 6 0 ++ entry 6 5 1 2 ++ entry 7 2 1 2 ++ entry 6 7 2 2
    ++ entry 7 2 1 2 ++ entry 7 0 0 1

-- n quantifiers around a comparison, from entry i on
abbrev pub nested : ℕ → ℕ → List ℕ
nested i zero = entry 7 0 1 0
nested i (suc n) = entry 5 (suc i) 0 1 ++ nested (suc i) n

-- n + 1 quantifiers side by side, from entry i on
abbrev pub beside : ℕ → ℕ → List ℕ
beside i zero = entry 6 (i + 1) 0 1 ++ entry 7 0 1 0
beside i (suc n) = entry 3 (i + 1) (i + 3) 0 ++ entry 6 (i + 2) 0 1 ++ entry 7 0 1 0 ++ beside (i + 3) n

-- every a is k (name 1 is a, name 2 is b)
abbrev pub every_is : ℕ → List ℕ
every_is k = entry 5 1 0 1 ++ entry 7 0 1 k

-- every a compares so with k
abbrev pub every_compares : ℕ → ℕ → List ℕ
every_compares kind k = entry 5 1 0 1 ++ entry kind 0 1 k

-- every a is 1 or 2
abbrev pub every_is_either : List ℕ
every_is_either = entry 5 1 0 1 ++ entry 3 2 3 0 ++ entry 7 0 1 1 ++ entry 7 0 1 2

-- some b is 1, or every a is 1
abbrev pub some_or_every : List ℕ
some_or_every = entry 3 1 3 0 ++ entry 6 2 0 2 ++ entry 7 0 1 1 ++ entry 5 4 0 1 ++ entry 7 0 1 1

-- every a equals some b
abbrev pub every_equals_some : List ℕ
every_equals_some = entry 5 1 0 1 ++ entry 6 2 0 2 ++ entry 7 0 0 1

-- some a is 1, and some b is 2
abbrev pub some_and_some : List ℕ
some_and_some = entry 2 1 3 0 ++ entry 6 2 0 1 ++ entry 7 0 1 1 ++ entry 6 4 0 2 ++ entry 7 0 1 2

-- some b, every a: b is 1 or a is 1
abbrev pub pulled_to_front : List ℕ
pulled_to_front = entry 6 1 0 2 ++ entry 5 2 0 1 ++ entry 3 3 4 0 ++ entry 7 0 1 1 ++ entry 7 1 1 1

-- every a has some b equal to 1
abbrev pub every_has_one : List ℕ
every_has_one = entry 5 1 0 1 ++ entry 6 2 1 2 ++ entry 7 1 1 1

-- every c has under it only a's that have some b equal to 1 (name 9 is c)
abbrev pub every_below_has_one : List ℕ
every_below_has_one = entry 5 1 0 9 ++ entry 5 2 1 1 ++ entry 6 3 2 2 ++ entry 7 2 1 1

-- one kind over a, one over b, and then: a is 5
abbrev pub a_then_b : ℕ → ℕ → List ℕ
a_then_b kind_a kind_b = entry kind_a 1 0 1 ++ entry kind_b 2 0 2 ++ entry 7 0 1 5

-- no router (name 1) has the same address (name 3) for more than one interface (name 2)
abbrev pub rule_addresses : List ℕ
rule_addresses =
    entry 5 1 0 1 ++ entry 5 2 1 2 ++ entry 5 3 1 2 ++ entry 5 4 2 3 ++ entry 5 5 3 3 ++ entry 4 6 8 0 ++ entry 1 7 0 0
    ++ entry 7 1 0 2 ++ entry 1 9 0 0 ++ entry 7 3 0 4

-- nothing under an interface (name 3) of a device equals 0: rows of any name
abbrev pub nothing_zero : List ℕ
nothing_zero = entry 5 1 0 1 ++ entry 5 2 1 3 ++ entry 5 3 2 0 ++ entry 1 4 0 0 ++ entry 7 2 1 0

-- a device with an interface that has two rows under it, of two names, the second with that value
abbrev pub interface_with : ℕ → List ℕ
interface_with k = row 1 1 0 0 1 11 ++ row 1 2 1 1 3 101 ++ row 1 3 2 2 4 7 ++ row 1 4 2 2 5 k

-- some root, of any name, is k
abbrev pub some_root_is : ℕ → List ℕ
some_root_is k = entry 6 1 0 0 ++ entry 7 0 1 k

-- every row under a root has some row under it that is 1, all three of any name
abbrev pub every_child_has_one : List ℕ
every_child_has_one = entry 5 1 0 0 ++ entry 5 2 1 0 ++ entry 6 3 2 0 ++ entry 7 2 1 1

-- a root with two children of one value, of which the first has a row 1 under it: with these names
abbrev pub two_children : ℕ → ℕ → ℕ → List ℕ
two_children first below second = row 1 1 0 0 1 11 ++ row 1 2 1 1 first 5 ++ row 1 3 2 2 below 1 ++ row 1 4 1 1 second 5

-- some root, of any name, equals each b under it
abbrev pub some_equals_below : List ℕ
some_equals_below = entry 6 1 0 0 ++ entry 5 2 1 2 ++ entry 7 0 0 1

-- a router with two interfaces, the second with that address
abbrev pub router : ℕ → List ℕ
router address = row 1 1 0 0 1 10 ++ row 1 2 1 1 2 1 ++ row 1 3 2 2 3 77 ++ row 1 4 1 1 2 2 ++ row 1 5 4 2 3 address

-- some a has under it only a's with smaller values
abbrev pub some_above : List ℕ
some_above = entry 6 1 0 1 ++ entry 5 2 1 1 ++ entry 8 1 0 0

-- every a is at most 0 or at most itself, and there is an a
abbrev pub keeps_roots : List ℕ
keeps_roots = entry 2 1 5 0 ++ entry 5 2 0 1 ++ entry 3 4 3 0 ++ entry 9 0 0 0 ++ entry 9 0 1 0 ++ entry 6 6 0 1 ++ entry 7 0 0 0

-- three roots, an a among them with an a under it
abbrev pub roots_and_child : List ℕ
roots_and_child = row 2 1 0 0 3 1 ++ row 2 2 0 0 3 3 ++ row 2 3 0 0 1 0 ++ row 2 4 3 1 1 3

-- ---- templates
-- every a is the parameter with that number
abbrev pub every_is_blank : ℕ → List ℕ
every_is_blank p = entry 5 1 0 1 ++ entry 7 0 2 p

-- under every device (1), every 2 is the one, and every 3 at most the other; the b and c of both comparisons are given
abbrev pub house : ℕ → ℕ → ℕ → ℕ → List ℕ
house b c b' c' =
    entry 2 1 2 0 ++ entry 5 3 0 1 ++ entry 5 4 0 1 ++ entry 5 5 1 2 ++ entry 5 6 1 3 ++ entry 7 1 b c ++ entry 9 1 b' c'

-- every 3 under a 2 under a 1 is that
abbrev pub below_second : ℕ → ℕ → List ℕ
below_second b c = entry 5 1 0 1 ++ entry 5 2 1 2 ++ entry 5 3 2 3 ++ entry 7 2 b c

-- from entry i on, n + 1 comparisons of which some one is to hold; c of each is given, by its number
abbrev pub either_of : ℕ → (ℕ → ℕ) → ℕ → ℕ → List ℕ
either_of b c i zero = entry 7 0 b (c 0)
either_of b c i (suc n) = entry 3 (i + 1) (i + 2) 0 ++ entry 7 0 b (c (suc n)) ++ either_of b c (i + 2) n

-- every a is one of n parameters, each in a blank of its own; is the constant k, n times
abbrev pub each_blank : ℕ → List ℕ
each_blank n = entry 5 1 0 1 ++ either_of 2 (λ p. p) 1 (n - 1)

abbrev pub each_constant : ℕ → ℕ → List ℕ
each_constant n k = entry 5 1 0 1 ++ either_of 1 (λ p. k) 1 (n - 1)

-- ---- plans
abbrev pub set_step : ℕ → ℕ → ℕ → List ℕ
set_step device at value = 1 ∷ row device at 9 9 9 value

abbrev pub add_step : ℕ → ℕ → ℕ → ℕ → ℕ → ℕ → List ℕ
add_step device at up deep name value = 2 ∷ row device at up deep name value

abbrev pub remove_step : ℕ → ℕ → List ℕ
remove_step device at = 3 ∷ row device at 9 9 9 9

-- a switch more, which is a second server; then the first server becomes client, and a row goes
abbrev pub second_server : List ℕ
second_server = add_step 4 1 0 0 1 14 ++ add_step 4 2 1 1 2 2 ++ set_step 1 2 1 ++ remove_step 1 3

-- the digits of 10 ^ n, n nines; digits as text, with the byte after them
abbrev pub ten_to : ℕ → List ℕ
ten_to n = 1 ∷ replicate n 0

abbrev pub nines : ℕ → List ℕ
nines n = replicate n 9

abbrev pub text_then : ℕ → List ℕ → List ℕ
text_then byte digits = map (λ d. 48 + d) digits ++ byte ∷ []

-- a line of digits as text, and the same with a minus sign before its last number
abbrev pub line : List (List ℕ) → List ℕ
line [] = []
line (ds ∷ []) = text_then 10 ds
line (ds ∷ es ∷ rest) = text_then 32 ds ++ line (es ∷ rest)

abbrev pub line_below : List (List ℕ) → List ℕ
line_below [] = []
line_below (ds ∷ []) = 45 ∷ text_then 10 ds
line_below (ds ∷ es ∷ rest) = text_then 32 ds ++ line_below (es ∷ rest)

-- a number of one digit; 2,147,483,640 with another last digit
abbrev pub digit : ℕ → List ℕ
digit d = d ∷ []

abbrev pub limit_with : ℕ → List ℕ
limit_with d = 2 ∷ 1 ∷ 4 ∷ 7 ∷ 4 ∷ 8 ∷ 3 ∷ 6 ∷ 4 ∷ d ∷ []

-- a row's line up to its value, an entry's line up to its c
abbrev pub row_to : List ℕ → List (List ℕ)
row_to value = digit 1 ∷ digit 1 ∷ digit 0 ∷ digit 0 ∷ digit 1 ∷ value ∷ []

abbrev pub entry_to : ℕ → ℕ → ℕ → List ℕ → List (List ℕ)
entry_to kind a b c = digit kind ∷ digit a ∷ digit b ∷ c ∷ []

-- a line that is none in any file: one number
abbrev pub short_line : List ℕ
short_line = line (digit 1 ∷ [])
