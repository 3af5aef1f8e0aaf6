-- `parts::omitting::omits_each` meets its contract. The loop's invariant: what is left to ask is that of the rules left. Assumes nothing.
use Rattle.std.proofs.Common.{rules}
use Rattle.parts.proofs.Each.{ask_begin, ask_ready, rule_ok, ask_needed, ask_more, ask_end}
use Rattle.parts.proofs.omitting.omits_each.Goals as goal

pub loop-rule-init : goal.loop-rule-init
loop-rule-init c = ask_begin _ _ _ _ _ c.args.set.now.accepted (search rules)

pub invariant_of-q : goal.invariant_of-q
invariant_of-q c = record { accepted = rule_ok _ _ _ _ c.loop-rule.invariant c.in-Some.ensures.steps }

pub omits-omitted-requires : goal.omits-omitted-requires
omits-omitted-requires c = ask_ready _ _ _ _ c.loop-rule.invariant c.in-Some.ensures.steps c.none.ensures c.requires

pub returns-then-not-omitted : goal.returns-then-not-omitted
returns-then-not-omitted c = ask_needed _ _ _ _ c.loop-rule.invariant c.in-Some.ensures.steps c.none.ensures c.omits-omitted.ensures c.if-not-omitted.true

pub loop-rule-preserved : goal.loop-rule-preserved
loop-rule-preserved c = ask_more _ _ _ _ c.loop-rule.invariant c.in-Some.ensures.steps c.none.ensures c.omits-omitted.ensures c.if-not-omitted.false

pub returns : goal.returns
returns c = ask_end _ _ _ _ c.loop-rule.invariant c.in-None.ensures.steps.0
