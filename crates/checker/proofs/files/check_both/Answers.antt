-- `checker::files::check_both` meets its contract, by the laws of proofs/Steps.antt. Assumes nothing.
use Prim.Native.Nat.{ℕ}
use Rattle.std.proofs.Common.{rules, Err}
use mathlib.Core.List.{List}
use mathlib.Core.Path.{◌≡◌, ◌∙◌}
use Rattle.tables.specs.Answers.{and_then}
use Rattle.logic.specs.Verdict.{verdict_answer}
use Rattle.checker.specs.Files.{pool_of, pool_file}
use Rattle.checker.proofs.Steps.{then_next, then_refused, files_is}
use Rattle.checker.proofs.files.check_both.Goals as goal

pub returns-in_err-n : goal.returns-in_err-n
returns-in_err-n c =
    let e : c.from_residual.result ≡ Err c.in_err-n.field-0.0 = search rules in
    e ∙ then_refused c.load_rule.ensures _ _ c.in_err-n.was ∙ files_is _ _

pub returns : goal.returns
returns c = then_next c.load_rule.ensures (λ (r : List ℕ). and_then (pool_file c.args.pool.now) (verdict_answer r (pool_of c.args.pool.now))) _ _ c.in_ok-n.was c.check_pool.ensures ∙ files_is _ _
