-- `engine::pool::Question::first_deciding` meets its contract. Assumes nothing.
use Prim.Native.Nat.{ℕ, ◌+◌}
use mathlib.Core.Path.{sym, ap, ◌∙◌}
use native.Mathlib.Omega.{arith}
use borrow.Author.Rules.{rules}
use Rattle.std.proofs.Common.{tests}
use Rattle.base.proofs.Ranges.{found_by_find}
use Rattle.engine.specs.Marked.{decides_by}
use Rattle.engine.proofs.Rows.{found_some, is_found}
use Rattle.engine.proofs.pool.Question.first_deciding.Goals as goal

pub unwrap-requires : goal.unwrap-requires
unwrap-requires c = is_found _ _ (found_by_find (λ (j : ℕ). decides_by c.args.self.now.rule.now c.args.self.now.pool.words.now c.args.b c.args.q.now (c.args.run.start + j)) c.args.run.rows _ _ _ c.find-skipped.ensures.ran (λ x b q k. search (rules, tests))) c.requires.decided

pub overflow_add-result : goal.overflow_add-result
overflow_add-result c =
    let f = found_some _ _ _ (sym (found_by_find (λ (j : ℕ). decides_by c.args.self.now.rule.now c.args.self.now.pool.words.now c.args.b c.args.q.now (c.args.run.start + j)) c.args.run.rows _ _ _ c.find-skipped.ensures.ran (λ x b q k. search (rules, tests))) ∙ c.unwrap.ensures) in
    omega (arith, f.1, c.requires.ready.place)

pub returns : goal.returns
returns c = ap (◌+◌ c.args.run.start) (found_some _ _ _ (sym (found_by_find (λ (j : ℕ). decides_by c.args.self.now.rule.now c.args.self.now.pool.words.now c.args.b c.args.q.now (c.args.run.start + j)) c.args.run.rows _ _ _ c.find-skipped.ensures.ran (λ x b q k. search (rules, tests))) ∙ c.unwrap.ensures)).0
