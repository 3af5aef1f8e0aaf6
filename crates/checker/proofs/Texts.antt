-- Which text the program prints, from the answers of loading both files. Assumes nothing.
use Prim.Native.Nat.{ℕ, ◌+◌, ◌≤◌}
use mathlib.Core.Path.{◌≡◌, refl, sym, ap, subst, ◌∙◌}
use mathlib.Core.Bool.{Bool, true, false, cond}
use mathlib.Core.List.{List}
use native.Mathlib.Omega.{arith}
use lib.ListN.{length, take}
use lib.Dec.{leb}
use Rattle.tables.specs.Answers.{is_done, place, and_then, unless, value}
use Rattle.tables.specs.Rules.{check_rule, accepted_rule}
use Rattle.tables.specs.Tables.{row_limit, check_table, accepted_table}
use Rattle.tables.specs.Files.{Format, check_file, write_text, write_answer, write_out}
use Rattle.tables.specs.Answers.{Answer}
use Rattle.tables.specs.Answers.{Done}
use Rattle.tables.specs.Refusals.{number_of}
use Rattle.tables.specs.declared.Fault.{Fault}
use Rattle.tables.specs.declared.Refusal.{Refusal}
use Rattle.std.specs.Prelude.{Result, Ok, Err}
use Rattle.std.specs.Result.{result_unwrap_or}
use Rattle.tables.proofs.Answers.{and_then_next, unless_next}
use Rattle.checker.specs.Files.{rule_of, pool_of, rule_file, pool_file}
use Rattle.checker.specs.Loading.{Loaded}
use Rattle.checker.specs.Report.{file_limit, sized, report_answer, counts, counts_text, refusal_text, text_of, report_text, printed, printed_out}
use Rattle.checker.proofs.Loads.{refusal}
use Rattle.checker.proofs.Values.{value_is}
use Rattle.checker.proofs.Sizes.{Small, small_rule_file, small_pool_file, small_sized}
use Rattle.checker.proofs.Steps.{loaded_done, loaded_refused}
use Rattle.tables.specs.declared.Fault.TheVariants.{RuleLength, TableLength}

-- ---- what a call that prints a text does
abbrev pub Prints : List ℕ → List ℕ → ℕ → List ℕ → Type 0
Prints text out r out' = (r ≡ printed text (length out)) × (out' ≡ printed_out text out)

pub prints_same : {text text' : List ℕ} (out : List ℕ) (r : ℕ) (out' : List ℕ) → text ≡ text' → Prints text out r out' → Prints text' out r out'
prints_same out r out' e h = subst (λ (t : List ℕ). Prints t out r out') e h

pub wrote : (names : List ℕ) (f : Format) (ws out out' : List ℕ) (a : Answer) (r : ℕ) → a ≡ write_answer names f (Done 0) ws (length out) → out' ≡ write_out names f (Done 0) ws out → r ≡ result_unwrap_or a 0
    → Prints (write_text names f ws) out r out'
unfolding write_answer write_out
wrote names f ws out out' a r ea eo er = (er ∙ value_is a ∙ ap value ea, eo)

-- ---- files that are not too long
module _ (k : Fault) (file : List ℕ) (s : Result (Unit {0}) Refusal) (es : s ≡ cond (leb (length file) file_limit) (Ok tt) (Err (record { fault = k; place = 0 }))) where
  pub too_long : (next : Answer) (words out : List ℕ) (r : Refusal) → s ≡ Err r → Loaded (sized k file next) words (Err r) out
  too_long next words out r e = refusal _ words out r (go (leb (length file) file_limit) (sym es ∙ e))
    where
      go : (b : Bool) → ◌≡◌ {A = Result (Unit {0}) Refusal} (cond b (Ok tt) (Err (record { fault = k; place = 0 }))) (Err r) → unless b k next ≡ Err r
      go true z = let w : ◌≡◌ {A = ℕ} 0 1 = cc in absurd (omega arith)
      go false z = ap (λ (x : Refusal). Err x) cc

  pub not_long : {next a : Answer} {words out : List ℕ} → s ≡ Ok tt → Loaded next words a out → Loaded (sized k file next) words a out
  not_long {next} {a} {words} {out} e l = go (leb (length file) file_limit) (sym es ∙ e)
    where
      go : (b : Bool) → ◌≡◌ {A = Result (Unit {0}) Refusal} (cond b (Ok tt) (Err (record { fault = k; place = 0 }))) (Ok tt) → Loaded (unless b k next) words a out
      go true z = l
      go false z = let w : ◌≡◌ {A = ℕ} 0 1 = cc in absurd (omega arith)

-- ---- after a file is loaded
module _ {checked a : Answer} {words out : List ℕ} (l : Loaded checked words a out) where
  module _ (n : ℕ) (e : a ≡ Done n) (f : List ℕ → List ℕ) where
    held : f (take n out) ≡ f words
    held = ap f (l.held n e)

    -- the counts of an accepted pool
    pub text_counts : counts_text (f (take n out)) ≡ text_of checked (f words)
    text_counts = ap counts_text held ∙ sym (go checked (loaded_done l n e))
      where
        go : (c : Answer) → is_done c ≡ true → text_of c (f words) ≡ counts_text (f words)
        go (Done m) z = refl
        go (Err r) z = let w : ◌≡◌ {A = ℕ} 0 1 = cc in absurd (omega arith)

    -- what comes after an accepted rule
    pub text_next : (b : Answer) → text_of b (f (take n out)) ≡ text_of (and_then checked b) (f words)
    text_next b = ap (text_of b) held ∙ sym (go checked (loaded_done l n e))
      where
        go : (c : Answer) → is_done c ≡ true → text_of (and_then c b) (f words) ≡ text_of b (f words)
        go (Done m) z = refl
        go (Err r) z = let w : ◌≡◌ {A = ℕ} 0 1 = cc in absurd (omega arith)

  module _ (r : Refusal) (e : a ≡ Err r) (ws : List ℕ) where
    pub text_refused : refusal_text (number_of r.fault) r.place ≡ text_of checked ws
    text_refused = sym (ap (λ (c : Answer). text_of c ws) (loaded_refused l r e))

    pub text_refused_first : (b : Answer) → refusal_text (number_of r.fault) r.place ≡ text_of (and_then checked b) ws
    text_refused_first b = sym (ap (λ (c : Answer). text_of (and_then c b) ws) (loaded_refused l r e))

  -- a refusal's place is small
  pub place_small : (q : ℕ) (r : Refusal) → Small q checked → a ≡ Err r → r.place ≤ q
  place_small q r s e = omega (arith, s.place_le, ap place (loaded_refused l r e))

-- ---- the rule file, then the pool file
module _ (rf : List ℕ) {a : Answer} {out : List ℕ} (l : Loaded (sized RuleLength rf (rule_file rf)) (rule_of rf) a out) where
  pub rule_accepted : (n : ℕ) → a ≡ Done n → accepted_rule (take n out) ≡ true
  rule_accepted n e =
      rw (l.held n e) (and_then_next (check_file _ _ rf) (check_rule (rule_of rf)) (unless_next (leb (length rf) file_limit) RuleLength (rule_file rf) (loaded_done l n e)))

  pub rule_place : (r : Refusal) → a ≡ Err r → r.place ≤ file_limit + row_limit
  rule_place r e = place_small l (file_limit + row_limit) r (small_sized RuleLength rf (rule_file rf) (omega arith) (small_rule_file rf)) e

  pub rule_next : (pf : List ℕ) (n : ℕ) → a ≡ Done n → text_of (sized TableLength pf (pool_file pf)) (counts (take n out) (pool_of pf)) ≡ report_text rf pf
  unfolding report_text report_answer
  rule_next pf n e = text_next l n e (λ r. counts r (pool_of pf)) (sized TableLength pf (pool_file pf))

  pub rule_refused : (pf : List ℕ) (r : Refusal) → a ≡ Err r → refusal_text (number_of r.fault) r.place ≡ report_text rf pf
  unfolding report_text report_answer
  rule_refused pf r e = text_refused_first l r e (counts (rule_of rf) (pool_of pf)) (sized TableLength pf (pool_file pf))

module _ (pf : List ℕ) {a : Answer} {out : List ℕ} (l : Loaded (sized TableLength pf (pool_file pf)) (pool_of pf) a out) where
  pub pool_accepted : (n : ℕ) → a ≡ Done n → accepted_table (take n out) ≡ true
  pool_accepted n e =
      rw (l.held n e) (and_then_next (check_file _ _ pf) (check_table (pool_of pf)) (unless_next (leb (length pf) file_limit) TableLength (pool_file pf) (loaded_done l n e)))

  pub pool_place : (r : Refusal) → a ≡ Err r → r.place ≤ file_limit + row_limit
  pool_place r e = place_small l (file_limit + row_limit) r (small_sized TableLength pf (pool_file pf) (omega arith) (small_pool_file pf)) e
