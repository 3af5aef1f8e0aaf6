-- `parts::omitting::omits`, which calls itself, meets its contract. Assumes nothing.
use Rattle.parts.specs.Modes.{word_of}
use Rattle.parts.proofs.Omits as laws
use Rattle.parts.proofs.omitting.+omits.Goals as goal

pub omits-requires : goal.omits-requires
omits-requires t c = laws.not_call c.args.q.now.rule.now c.args.q.now.accepted c.requires (word_of c.args.mode) c.entry_at.ensures c.in-Not.ensures.parts c.decreases

pub returns-in-Not : goal.returns-in-Not
returns-in-Not t c = laws.omit_not c.args.q.now.rule.now c.args.q.now.accepted c.requires (word_of c.args.mode) c.entry_at.ensures c.in-Not.ensures.parts c.omits.ensures

pub omits-requires-in-Connective : goal.omits-requires-in-Connective
omits-requires-in-Connective t c = laws.left_call c.args.q.now.rule.now c.args.q.now.accepted c.requires (word_of c.args.mode) c.entry_at.ensures c.in-Connective.ensures.parts c.decreases

pub omits-requires-then-omits : goal.omits-requires-then-omits
omits-requires-then-omits t c = laws.right_call c.args.q.now.rule.now c.args.q.now.accepted c.requires (word_of c.args.mode) c.entry_at.ensures c.in-Connective.ensures.parts c.decreases

pub returns-then-omits : goal.returns-then-omits
returns-then-omits t c = laws.omit_right c.args.q.now.rule.now c.args.q.now.accepted c.requires (word_of c.args.mode) c.entry_at.ensures c.in-Connective.ensures.parts c.omits-in-Connective.ensures c.if-omits.true c.omits-then-omits.ensures

pub returns-else-omits : goal.returns-else-omits
returns-else-omits t c = laws.omit_left c.args.q.now.rule.now c.args.q.now.accepted c.requires (word_of c.args.mode) c.entry_at.ensures c.in-Connective.ensures.parts c.omits-in-Connective.ensures c.if-omits.false

pub returns-in-Comparison : goal.returns-in-Comparison
returns-in-Comparison t c = laws.omit_compared c.args.q.now.rule.now c.args.q.now.accepted c.requires (word_of c.args.mode) c.entry_at.ensures c.in-Comparison.ensures.parts

pub climb-chain-requires : goal.climb-chain-requires
climb-chain-requires t c = laws.climb_ready c.args.q.now.rule.now c.args.q.now.accepted c.requires (word_of c.args.mode) c.entry_at.ensures c.in-Quantifier.ensures.parts

pub lets_out-requires : goal.lets_out-requires
lets_out-requires t c = laws.body_ready c.args.q.now.rule.now c.args.q.now.accepted c.requires (word_of c.args.mode) c.entry_at.ensures c.in-Quantifier.ensures.parts c.climb-chain.ensures c.args.q.now.device.accepted

pub with-requires : goal.with-requires
with-requires t c = laws.with_room c.args.q.now.rule.now c.args.q.now.accepted c.requires (word_of c.args.mode) c.entry_at.ensures c.in-Quantifier.ensures.parts

pub omits-requires-then-lets_out : goal.omits-requires-then-lets_out
omits-requires-then-lets_out t c = laws.body_call c.args.q.now.rule.now c.args.q.now.accepted c.requires (word_of c.args.mode) c.entry_at.ensures c.in-Quantifier.ensures.parts c.climb-chain.ensures c.lets_out.ensures c.with.ensures c.decreases

pub returns-then-lets_out : goal.returns-then-lets_out
returns-then-lets_out t c = laws.omit_body c.args.q.now.rule.now c.args.q.now.accepted c.requires (word_of c.args.mode) c.entry_at.ensures c.in-Quantifier.ensures.parts c.climb-chain.ensures c.lets_out.ensures c.with.ensures c.if-lets_out.true c.omits-then-lets_out.ensures

pub returns-else-lets_out : goal.returns-else-lets_out
returns-else-lets_out t c = laws.omit_own c.args.q.now.rule.now c.args.q.now.accepted c.requires (word_of c.args.mode) c.entry_at.ensures c.in-Quantifier.ensures.parts c.climb-chain.ensures c.lets_out.ensures c.if-lets_out.false
