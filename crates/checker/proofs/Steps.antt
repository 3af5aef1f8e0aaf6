-- What comes after a file is loaded. Assumes nothing.
use Prim.Native.Nat.{ℕ}
use mathlib.Core.Path.{◌≡◌, refl, sym, ap, ◌∙◌}
use mathlib.Core.Bool.{true}
use mathlib.Core.List.{List}
use native.Mathlib.Omega.{arith}
use lib.ListN.{take}
use Rattle.tables.specs.Answers.{is_done, and_then}
use Rattle.tables.specs.Rules.{check_rule}
use Rattle.tables.specs.Tables.{check_table}
use Rattle.tables.specs.Files.{check_file}
use Rattle.tables.specs.Answers.{Answer}
use Rattle.tables.specs.Answers.{Done}
use Rattle.tables.specs.declared.Refusal.{Refusal}
use Rattle.std.specs.Prelude.{Err}
use Rattle.tables.proofs.Answers.{and_then_next}
use Rattle.logic.specs.Verdict.{verdict_answer}
use Rattle.logic.proofs.Calls.{verdict_is}
use Rattle.checker.specs.Files.{rule_of, pool_of, rule_file, pool_file, files_answer}
use Rattle.checker.specs.Loading.{Loaded}

module _ {checked a : Answer} {words out : List ℕ} (l : Loaded checked words a out) where
  -- the file was accepted
  pub loaded_done : (n : ℕ) → a ≡ Done n → is_done checked ≡ true
  loaded_done n e = go checked _ (sym l.answer ∙ e)
    where
      go : (c next : Answer) → and_then c next ≡ Done n → is_done c ≡ true
      go (Done m) next z = refl
      go (Err r) next z = let w : ◌≡◌ {A = ℕ} 0 1 = cc in absurd (omega arith)

  -- or refused so
  pub loaded_refused : (r : Refusal) → a ≡ Err r → checked ≡ Err r
  loaded_refused r e = go checked _ (sym l.answer ∙ e)
    where
      go : (c : Answer) (x : ℕ) → and_then c (Done x) ≡ Err r → c ≡ Err r
      go (Done n) x z = let w : ◌≡◌ {A = ℕ} 0 1 = cc in absurd (omega arith)
      go (Err q) x z = z

  -- the answer of the next step on the words loaded
  pub then_next : (f : List ℕ → Answer) (n : ℕ) (v : Answer) → a ≡ Done n → v ≡ f (take n out) → v ≡ and_then checked (f words)
  then_next f n v e h = h ∙ ap f (l.held n e) ∙ sym (go checked (loaded_done n e))
    where
      go : (c : Answer) → is_done c ≡ true → and_then c (f words) ≡ f words
      go (Done m) z = refl
      go (Err r) z = let w : ◌≡◌ {A = ℕ} 0 1 = cc in absurd (omega arith)

  pub then_refused : (next : Answer) (r : Refusal) → a ≡ Err r → Err r ≡ and_then checked next
  then_refused next r e = sym (ap (λ (c : Answer). and_then c next) (loaded_refused r e))

-- after both files the verdict call has nothing more to refuse
pub files_is : (rf pf : List ℕ) → and_then (rule_file rf) (and_then (pool_file pf) (verdict_answer (rule_of rf) (pool_of pf))) ≡ files_answer rf pf
unfolding files_answer
files_is rf pf =
    go (rule_file rf) (pool_file pf) _ _ (λ r p. verdict_is (rule_of rf) (pool_of pf) (and_then_next (check_file _ _ rf) (check_rule (rule_of rf)) r) (and_then_next (check_file _ _ pf) (check_table (pool_of pf)) p))
  where
    go : (a b x y : Answer) → (is_done a ≡ true → is_done b ≡ true → x ≡ y) → and_then a (and_then b x) ≡ and_then a (and_then b y)
    go (Done n) (Done m) x y h = h refl refl
    go (Done n) (Err r) x y h = refl
    go (Err r) b x y h = refl
