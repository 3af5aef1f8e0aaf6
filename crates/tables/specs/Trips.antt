-- Accepted tables come back from their files, accepted files byte for byte from their tables. Assumes nothing.
use Rattle.std.specs.Prelude.{ℕ, ◌≤◌, ◌<◌, ◌≡◌, true, List, length, take}
use Rattle.tables.specs.Answers.{is_done, value}
use Rattle.tables.specs.Words.{AllWords, whole}
use Rattle.tables.specs.Rules.{check_rule}
use Rattle.tables.specs.Tables.{check_table}
use Rattle.tables.specs.Files.{Format, rule_names, rule_format, pool_names, pool_format, write_text, read_words, read_answer}
use Rattle.tables.specs.Files.{read_out, write_answer, write_out, accepted_file}
use Rattle.tables.specs.Answers.{Answer}
use Rattle.tables.specs.Answers.{Done}

-- what an accepted call wrote: its output up to the answer
abbrev pub up_to : Answer → List ℕ → List ℕ
up_to answer out = take (value answer) out

-- the file that writing the table ws leaves in the buffer `bytes`
abbrev pub file_in : List ℕ → Format → Answer → List ℕ → List ℕ → List ℕ
file_in names f checked ws bytes = up_to (write_answer names f checked ws (length bytes)) (write_out names f checked ws bytes)

-- the table that reading the file leaves in the buffer `words`
abbrev pub table_in : List ℕ → Format → List ℕ → List ℕ → List ℕ
table_in names f file words = up_to (read_answer names f file (length words)) (read_out names f file words)

-- the table ws is written into the buffer `bytes`, and what was written is read into the buffer `words`
pub record TableReturns (names : List ℕ) (f : Format) (checked : Answer) (ws bytes words : List ℕ) : Type 0 where
  pub written : write_answer names f checked ws (length bytes) ≡ Done (length (write_text names f ws))
  pub read : read_answer names f (file_in names f checked ws bytes) (length words) ≡ Done (length ws)
  pub same : table_in names f (file_in names f checked ws bytes) words ≡ ws

-- the file is read into the buffer `words`, and what was read is written into the buffer `bytes`
pub record FileReturns (names : List ℕ) (f : Format) (check : List ℕ → Answer) (file words bytes : List ℕ) : Type 0 where
  pub read : read_answer names f file (length words) ≡ Done (length (read_words names f file))
  pub written : write_answer names f (check (table_in names f file words)) (table_in names f file words) (length bytes) ≡ Done (length file)
  pub same : file_in names f (check (table_in names f file words)) (table_in names f file words) bytes ≡ file

-- every table that its checks accept comes back, through any buffers that are long enough
abbrev pub TablesReturn : List ℕ → Format → (List ℕ → Answer) → Type 0
TablesReturn names f check =
    (ws bytes words : List ℕ) → AllWords ws → is_done (check ws) ≡ true
    → length (write_text names f ws) ≤ length bytes → length ws ≤ length words
    → TableReturns names f (check ws) ws bytes words

-- every accepted file comes back, through any buffers that are long enough
abbrev pub FilesReturn : List ℕ → Format → (List ℕ → Answer) → Type 0
FilesReturn names f check =
    (file words bytes : List ℕ) → accepted_file names f check file ≡ true
    → length (read_words names f file) ≤ length words → length file ≤ length bytes
    → FileReturns names f check file words bytes

-- for any line of names, any format, and any check that wants whole lines; so for rules and pools
pub record RoundTrips : Type 0 where
  pub tables : (names : List ℕ) (f : Format) (check : List ℕ → Answer) → 0 < f.columns
      → ((ws : List ℕ) → is_done (check ws) ≡ true → whole f.columns ws ≡ true) → TablesReturn names f check
  pub files : (names : List ℕ) (f : Format) (check : List ℕ → Answer) → FilesReturn names f check
  pub rules : TablesReturn rule_names rule_format check_rule
  pub rule_files : FilesReturn rule_names rule_format check_rule
  pub pools : TablesReturn pool_names pool_format check_table
  pub pool_files : FilesReturn pool_names pool_format check_table
