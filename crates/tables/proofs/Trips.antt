-- The round trips of specs/Trips.antt, for any line of names, any format and any check that wants whole lines. Assumes nothing.
use Prim.Native.Nat.{ℕ, ◌≤◌, ◌<◌}
use mathlib.Core.Path.{◌≡◌, ap, ◌∙◌}
use mathlib.Core.Bool.{true}
use mathlib.Core.List.{List}
use native.Mathlib.Omega.{arith}
use lib.ListN.{length}
use Rattle.tables.specs.Answers.{Answer}
use Rattle.tables.specs.Answers.{Done}
use Rattle.tables.specs.Answers.{is_done, in_order}
use Rattle.tables.specs.Words.{whole, entry_words, entry_count, row_words, row_count}
use Rattle.tables.specs.Rules.{to_constant, entry_fault, rule_length, rule_checks, check_entries, check_rule}
use Rattle.tables.specs.Tables.{check_table, row_fault, table_length, table_checks}
use Rattle.tables.specs.Files.{Format, rule_names, rule_format, pool_names, pool_format, write_text, read_words, check_file}
use Rattle.tables.specs.Trips.{file_in, table_in, TablesReturn, FilesReturn, RoundTrips}
use Rattle.tables.proofs.Answers.{unless_ok, and_then_first, and_then_next}
use Rattle.tables.proofs.Whole.{rule_whole, table_whole}
use Rattle.tables.proofs.Calls.{read_accepted, read_table, write_accepted, write_file}
use Rattle.tables.proofs.WriteBack.{write_read}
use Rattle.tables.proofs.ReadBack.{read_write, write_passes}
use Rattle.tables.specs.declared.refusals.Fault.TheVariants.{RuleLength, TableLength}

module _ (names : List ℕ) (f : Format) (check : List ℕ → Answer) where
  pub tables_return : 0 < f.columns → ((ws : List ℕ) → is_done (check ws) ≡ true → whole f.columns ws ≡ true) → TablesReturn names f check
  tables_return pos lines ws bytes words small ok hb hw =
      let file : file_in names f (check ws) ws bytes ≡ write_text names f ws = write_file names f (check ws) ws ok bytes hb in
      let passed : is_done (check_file names f (write_text names f ws)) ≡ true = write_passes names f ws pos small (lines ws ok) in
      let same : read_words names f (write_text names f ws) ≡ ws = read_write names f ws pos small in
      let fits : length (read_words names f (write_text names f ws)) ≤ length words = rw same hw in
      record {
        written = write_accepted names f (check ws) ws ok (length bytes) hb;
        read = rw file (read_accepted names f (write_text names f ws) (length words) passed fits ∙ ap (λ (l : List ℕ). Done (length l)) same);
        same = rw file (read_table names f (write_text names f ws) words passed fits ∙ same);
      }

  pub files_return : FilesReturn names f check
  files_return file words bytes ok hw hb =
      let passed : is_done (check_file names f file) ≡ true = and_then_first (check_file names f file) (check (read_words names f file)) ok in
      let good : is_done (check (read_words names f file)) ≡ true = and_then_next (check_file names f file) (check (read_words names f file)) ok in
      let table : table_in names f file words ≡ read_words names f file = read_table names f file words passed hw in
      let same : write_text names f (read_words names f file) ≡ file = write_read names f file passed in
      let fits : length (write_text names f (read_words names f file)) ≤ length bytes = rw same hb in
      record {
        read = read_accepted names f file (length words) passed hw;
        written = rw table (write_accepted names f (check (read_words names f file)) (read_words names f file) good (length bytes) fits ∙ ap (λ (l : List ℕ). Done (length l)) same);
        same = rw table (write_file names f (check (read_words names f file)) (read_words names f file) good bytes fits ∙ same);
      }

rule_lines : (r : List ℕ) → is_done (check_rule r) ≡ true → whole entry_words r ≡ true
unfolding check_entries
rule_lines r ok = rule_whole r (unless_ok (rule_length r) RuleLength (in_order (entry_fault to_constant r) (entry_count r) rule_checks) ok)

table_lines : (t : List ℕ) → is_done (check_table t) ≡ true → whole row_words t ≡ true
unfolding check_table
table_lines t ok = table_whole t (unless_ok (table_length t) TableLength (in_order (row_fault t) (row_count t) table_checks) ok)

pub round_trips : RoundTrips
round_trips = record {
  tables = tables_return;
  files = files_return;
  rules = tables_return rule_names rule_format check_rule (omega arith) rule_lines;
  rule_files = files_return rule_names rule_format check_rule;
  pools = tables_return pool_names pool_format check_table (omega arith) table_lines;
  pool_files = files_return pool_names pool_format check_table;
}
