-- 01, Around the engine: rule and pool files; 02, wish 4, their signs. A file is a line of names, then a line of values per entry or row:
-- one space between, no leading zeros, every line ended by byte 10. What both kinds share is stated for any line of names and any format.
-- specs/Lines has what a line is. Assumes nothing.
use Rattle.std.specs.Prelude.{ℕ, zero, suc, ◌+◌, ◌-◌, ◌*◌, ◌/◌, ◌%◌, Bool, true, false, cond, not, ◌&&◌, List, [], ◌∷◌, ◌++◌, length, drop, ltb, leb, eqb}
use Rattle.tables.specs.Answers.{is_done, and_then, fitting, output}
use Rattle.tables.specs.Words.{word_limit, entry_words, row_words}
use Rattle.tables.specs.Values.{value_limit, is_below_zero, opposite}
use Rattle.tables.specs.Rules.{comparison_kind, to_constant, check_rule}
use Rattle.tables.specs.Tables.{check_table}
use Rattle.tables.specs.Answers.{Answer}
use Rattle.tables.specs.Answers.{Done, Refused}
use Rattle.tables.specs.declared.columns.Signs.{Signs}
use Rattle.tables.specs.declared.columns.Signs.TheVariants.{Nowhere, Values, Constants}
use Rattle.tables.specs.declared.columns.Column.{Column}
use Rattle.tables.specs.declared.reading.Phase.{Phase}
use Rattle.tables.specs.declared.reading.Phase.TheVariants.{BeforeNumber, AfterMinus, InDigits, AtFault}
use Rattle.tables.specs.declared.reading.Scan.{Scan}
use Rattle.tables.specs.declared.refusals.Fault.TheVariants.{FirstLine, Line}

-- ---- the line of names, with its byte 10
-- kind a b c
abbrev pub rule_names : List ℕ
rule_names = 107 ∷ 105 ∷ 110 ∷ 100 ∷ 32 ∷ 97 ∷ 32 ∷ 98 ∷ 32 ∷ 99 ∷ 10 ∷ []

-- device at up deep name value
abbrev pub pool_names : List ℕ
pool_names =
    100 ∷ 101 ∷ 118 ∷ 105 ∷ 99 ∷ 101 ∷ 32 ∷ 97 ∷ 116 ∷ 32 ∷ 117 ∷ 112 ∷ 32
    ∷ 100 ∷ 101 ∷ 101 ∷ 112 ∷ 32 ∷ 110 ∷ 97 ∷ 109 ∷ 101 ∷ 32 ∷ 118 ∷ 97 ∷ 108 ∷ 117 ∷ 101 ∷ 10 ∷ []

-- verdict rows branch full marks
abbrev pub count_names : List ℕ
count_names = 118 ∷ 101 ∷ 114 ∷ 100 ∷ 105 ∷ 99 ∷ 116 ∷ 32 ∷ 114 ∷ 111 ∷ 119 ∷ 115 ∷ 32 ∷ 98 ∷ 114 ∷ 97 ∷ 110 ∷ 99 ∷ 104 ∷ 32 ∷ 102 ∷ 117 ∷ 108 ∷ 108 ∷ 32 ∷ 109 ∷ 97 ∷ 114 ∷ 107 ∷ 115 ∷ 10 ∷ []

-- refused place
abbrev pub refusal_names : List ℕ
refusal_names = 114 ∷ 101 ∷ 102 ∷ 117 ∷ 115 ∷ 101 ∷ 100 ∷ 32 ∷ 112 ∷ 108 ∷ 97 ∷ 99 ∷ 101 ∷ 10 ∷ []

-- ---- the format of a line of values: how many columns it has, and whether its last number may have a sign. That is told by the numbers
-- before it: `tells c w told` once w stands in column c, where `told` is what those before it told, and false before the first.
pub record Format : Type 0 where
  pub columns : ℕ
  pub tells : ℕ → ℕ → Bool → Bool

-- the value column of a pool file; c of a rule file, where a comparison has b = 1; none of the program's text
abbrev pub tells_of : Signs → ℕ → ℕ → Bool → Bool
tells_of Values c w told = true
tells_of Constants c w told = cond (eqb c 0) (comparison_kind w) (cond (eqb c 2) (told && eqb w to_constant) told)
tells_of Nowhere c w told = false

abbrev pub format : ℕ → Signs → Format
format k signs = record { columns = k; tells = tells_of signs }

-- column c is the last of k
abbrev pub is_last : ℕ → ℕ → Bool
is_last k c = eqb (c + 1) k

-- the byte after the number in column c of k: one space between, byte 10 at the end
unfoldable pub byte_after : ℕ → ℕ → ℕ
byte_after k c = cond (is_last k c) 10 32

-- the column of the next number
abbrev pub next_column : ℕ → ℕ → ℕ
next_column k c = cond (is_last k c) 0 (c + 1)

-- what the next number is told; each line starts anew
abbrev pub told_next : Format → ℕ → ℕ → Bool → Bool
told_next f c w told = cond (is_last f.columns c) false (f.tells c w told)

-- the next number's column, and what that is told
abbrev pub column_after : Format → Column → ℕ → Column
column_after f c w = record { index = next_column f.columns c.index; told = told_next f c.index w c.told }

-- the number in column c may have a sign
abbrev pub may_sign : ℕ → ℕ → Bool → Bool
may_sign k c told = is_last k c && told

-- ---- numbers
-- the byte of a digit
abbrev pub digit_byte : ℕ → ℕ
digit_byte d = 48 + d

-- the minus sign
abbrev pub minus_byte : ℕ
minus_byte = 45

-- the digit of a byte, 10 for a byte that is none
unfoldable pub digit_of : ℕ → ℕ
digit_of b = cond (leb 48 b && leb b 57) (b - 48) 10

-- the number v with the digit d after its own
abbrev pub with_digit : ℕ → ℕ → ℕ
with_digit v d = 10 * v + d

-- the digit d may stand after the number v: no leading zeros, and up to the limit
abbrev pub may_grow : ℕ → ℕ → Bool
may_grow v d = ltb 0 v && leb (with_digit v d) word_limit

-- the number v, with a minus sign or without, is within its limits: those of a value where it may have a sign, and -0 is not; elsewhere it
-- has none, and its digits went no further than the largest word
abbrev pub is_within : Bool → Bool → ℕ → Bool
is_within signed minus v = cond signed (cond minus (ltb 0 v && leb v (value_limit + 1)) (leb v value_limit)) (not minus)

-- the word that it is
abbrev pub word_of : Bool → ℕ → ℕ
word_of minus v = cond minus (opposite v) v

-- the decimal digits of w, n of them at most
unfoldable pub digits_up_to : ℕ → ℕ → List ℕ
digits_up_to zero w = []
digits_up_to (suc n) w = cond (ltb w 10) (digit_byte w ∷ []) (digits_up_to n (w / 10) ++ (digit_byte (w % 10) ∷ []))

-- the decimal text of a number; no word has more than ten digits
abbrev pub number_text : ℕ → List ℕ
number_text w = digits_up_to 10 w

-- the text of a word, where it may have a sign or not
unfoldable pub word_text : Bool → ℕ → List ℕ
word_text signed w = cond (signed && is_below_zero w) (minus_byte ∷ number_text (opposite w)) (number_text w)

-- ---- the text of a run of words
-- from column c on, each number with the byte after it
unfoldable pub text_from : Format → ℕ → Bool → List ℕ → List ℕ
text_from f c told [] = []
text_from f c told (w ∷ ws) =
    word_text (may_sign f.columns c told) w
    ++ (byte_after f.columns c ∷ text_from f (next_column f.columns c) (told_next f c w told) ws)

-- the lines of values
abbrev pub lines_text : Format → List ℕ → List ℕ
lines_text f ws = text_from f 0 false ws

-- the whole file
unfoldable pub write_text : List ℕ → Format → List ℕ → List ℕ
write_text names f ws = names ++ lines_text f ws

-- ---- reading the lines of values, byte by byte. A state has its phase, the number (whether it has a minus sign, and its value so far
-- without that), its column and what that is told, its line, and how many numbers have ended.
abbrev pub after_minus : Scan → Scan
after_minus s = record { phase = AfterMinus; number = record { minus = true; value = s.number.value }; column = s.column; line = s.line; count = s.count }

abbrev pub in_number : Scan → ℕ → Scan
in_number s v = record { phase = InDigits; number = record { minus = s.number.minus; value = v }; column = s.column; line = s.line; count = s.count }

abbrev pub at_fault : Scan → Scan
at_fault s = record { phase = AtFault; number = s.number; column = s.column; line = s.line; count = s.count }

-- the word of the number read
abbrev pub word_read : Scan → ℕ
word_read s = word_of s.number.minus s.number.value

-- past a number, before the next one
abbrev pub past_number : Format → Scan → Scan
past_number f s = record {
  phase = BeforeNumber;
  number = record { minus = false; value = 0 };
  column = column_after f s.column (word_read s);
  line = cond (is_last f.columns s.column.index) (s.line + 1) s.line;
  count = s.count + 1;
}

-- before a number; before its first digit; behind a digit
abbrev pub is_before : Phase → Bool
is_before BeforeNumber = true
is_before AfterMinus = false
is_before InDigits = false
is_before AtFault = false

abbrev pub may_begin : Phase → Bool
may_begin BeforeNumber = true
may_begin AfterMinus = true
may_begin InDigits = false
may_begin AtFault = false

abbrev pub in_digits : Phase → Bool
in_digits BeforeNumber = false
in_digits AfterMinus = false
in_digits InDigits = true
in_digits AtFault = false

-- a digit begins a number, or stands after its digits if it may
unfoldable pub digit_step : Scan → ℕ → Scan
digit_step s d =
    cond (may_begin s.phase) (in_number s d)
    (cond (in_digits s.phase && may_grow s.number.value d) (in_number s (with_digit s.number.value d)) (at_fault s))

-- the byte b ends the number: it is the one after its column, and the number is within its limits
abbrev pub may_end : ℕ → Scan → ℕ → Bool
may_end k s b =
    in_digits s.phase && eqb b (byte_after k s.column.index)
    && is_within (may_sign k s.column.index s.column.told) s.number.minus s.number.value

-- any other byte ends a number, or is the minus sign before its first digit
unfoldable pub other_step : Format → Scan → ℕ → Scan
other_step f s b = cond (may_end f.columns s b) (past_number f s) (cond (is_before s.phase && eqb b minus_byte) (after_minus s) (at_fault s))

-- the state after a byte
unfoldable pub step_of : Format → Scan → ℕ → Scan
step_of f s b = cond (ltb (digit_of b) 10) (digit_step s (digit_of b)) (other_step f s b)

-- the first line of values is line 2
abbrev pub at_start : Scan
at_start = record {
  phase = BeforeNumber;
  number = record { minus = false; value = 0 };
  column = record { index = 0; told = false };
  line = 2;
  count = 0;
}

-- the state after some bytes
unfoldable pub scan_all : Format → Scan → List ℕ → Scan
scan_all f s [] = s
scan_all f s (b ∷ bs) = scan_all f (step_of f s b) bs

-- the words of the numbers that end in some bytes
unfoldable pub words_from : Format → Scan → List ℕ → List ℕ
words_from f s [] = []
words_from f s (b ∷ bs) =
    cond (ltb s.count (step_of f s b).count) (word_read s ∷ words_from f (step_of f s b) bs) (words_from f (step_of f s b) bs)

-- every line is ended
abbrev pub at_line : Scan → Bool
at_line s = is_before s.phase && eqb s.column.index 0

-- ---- a file
-- the bytes start with the line of names
unfoldable pub starts_with : List ℕ → List ℕ → Bool
starts_with [] bs = true
starts_with (x ∷ xs) [] = false
starts_with (x ∷ xs) (b ∷ bs) = eqb x b && starts_with xs bs

-- the lines of values
abbrev pub lines : List ℕ → List ℕ → List ℕ
lines names file = drop (length names) file

-- the state at the end of the file
abbrev pub at_end : List ℕ → Format → List ℕ → Scan
at_end names f file = scan_all f at_start (lines names file)

-- the words of the file
unfoldable pub read_words : List ℕ → Format → List ℕ → List ℕ
read_words names f file = words_from f at_start (lines names file)

-- 18, first line wrong or not ended; 19, a line not ended, or not that many such numbers; else the number of words
unfoldable pub check_file : List ℕ → Format → List ℕ → Answer
check_file names f file =
    cond (starts_with names file)
    (cond (at_line (at_end names f file)) (Done (length (read_words names f file))) (Refused Line (at_end names f file).line))
    (Refused FirstLine 1)

-- ---- the calls
-- reading a file into a buffer of that many words: 18, 19, 17
unfoldable pub read_answer : List ℕ → Format → List ℕ → ℕ → Answer
read_answer names f file room = and_then (check_file names f file) (fitting (read_words names f file) room)

unfoldable pub read_out : List ℕ → Format → List ℕ → List ℕ → List ℕ
read_out names f file out = output (read_answer names f file (length out)) (read_words names f file) out

-- writing a table with that answer of its checks into a buffer of that many bytes: its refusals, 17
unfoldable pub write_answer : List ℕ → Format → Answer → List ℕ → ℕ → Answer
write_answer names f checked ws room = and_then checked (fitting (write_text names f ws) room)

unfoldable pub write_out : List ℕ → Format → Answer → List ℕ → List ℕ → List ℕ
write_out names f checked ws out = output (write_answer names f checked ws (length out)) (write_text names f ws) out

-- a file is accepted if it passes 18 and 19 and the table read from it is accepted
abbrev pub accepted_file : List ℕ → Format → (List ℕ → Answer) → List ℕ → Bool
accepted_file names f check file = is_done (and_then (check_file names f file) (check (read_words names f file)))

-- ---- rule files
abbrev pub rule_format : Format
rule_format = format entry_words Constants

abbrev pub read_rule : List ℕ → ℕ → Answer
read_rule file room = read_answer rule_names rule_format file room

abbrev pub read_rule_out : List ℕ → List ℕ → List ℕ
read_rule_out file out = read_out rule_names rule_format file out

abbrev pub write_rule : List ℕ → ℕ → Answer
write_rule rule room = write_answer rule_names rule_format (check_rule rule) rule room

abbrev pub write_rule_out : List ℕ → List ℕ → List ℕ
write_rule_out rule out = write_out rule_names rule_format (check_rule rule) rule out

-- ---- pool files
abbrev pub pool_format : Format
pool_format = format row_words Values

abbrev pub read_pool : List ℕ → ℕ → Answer
read_pool file room = read_answer pool_names pool_format file room

abbrev pub read_pool_out : List ℕ → List ℕ → List ℕ
read_pool_out file out = read_out pool_names pool_format file out

abbrev pub write_pool : List ℕ → ℕ → Answer
write_pool table room = write_answer pool_names pool_format (check_table table) table room

abbrev pub write_pool_out : List ℕ → List ℕ → List ℕ
write_pool_out table out = write_out pool_names pool_format (check_table table) table out

-- ---- the program's text: a line of names and a line of values, as in a file, of any words
abbrev pub count_format : Format
count_format = format 5 Nowhere

abbrev pub refusal_format : Format
refusal_format = format 2 Nowhere

abbrev pub write_counts : List ℕ → ℕ → Answer
write_counts words room = write_answer count_names count_format (Done 0) words room

abbrev pub write_counts_out : List ℕ → List ℕ → List ℕ
write_counts_out words out = write_out count_names count_format (Done 0) words out

abbrev pub write_refusal : List ℕ → ℕ → Answer
write_refusal words room = write_answer refusal_names refusal_format (Done 0) words room

abbrev pub write_refusal_out : List ℕ → List ℕ → List ℕ
write_refusal_out words out = write_out refusal_names refusal_format (Done 0) words out
