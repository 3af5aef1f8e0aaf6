-- `tables::rules::check_entries` meets its contract: each check refuses, or the next one is made. Assumes nothing.
use Rattle.std.proofs.Common.{rules, tests, ◌≡◌, Err, true, false, sym, ap, ◌∙◌}
use Rattle.base.proofs.Ranges.{found_by_find}
use Rattle.tables.specs.Words.{entry_at, entry_count}
use Rattle.tables.specs.Rules.{unknown_kind, bad_word, bad_child, bad_naming, too_deep, unbound, around, rule_length}
use Rattle.tables.proofs.Checks.{bad_length, entries_in_turn}
use Rattle.tables.proofs.rules.check_entries.Goals as goal
use Rattle.tables.proofs.rules.check_entries.Goals.{then-rule-ne0-via-then-rule-ne0, then-rule-ne0-via-else-rule-ne0+then-n-lt1, then-rule-ne0-via-else-rule-ne0+else-n-lt1+then-n-gt-ENTRY_LIMIT}

pub returns-then-rule-ne0 : goal.returns-then-rule-ne0
returns-then-rule-ne0 c =
    let r = c.args.rule.now in
    let bad : rule_length r ≡ false = elim c.then-rule-ne0.branch [
      | then-rule-ne0-via-then-rule-ne0 w ↦ search (rules, tests, w.if-rule-ne0.true)
      | then-rule-ne0-via-else-rule-ne0+then-n-lt1 w ↦ search (rules, tests, w.if-n-lt1.true, w.if-rule-ne0.false)
      | then-rule-ne0-via-else-rule-ne0+else-n-lt1+then-n-gt-ENTRY_LIMIT w ↦ search (rules, tests, w.if-n-gt-ENTRY_LIMIT.true, w.if-n-lt1.false, w.if-rule-ne0.false)
    ] in
    ap Err c.of.ensures ∙ sym (bad_length c.args.most r bad)

pub returns-in_err-refuse_at : goal.returns-in_err-refuse_at
returns-in_err-refuse_at c =
    let r = c.args.rule.now in
    let most = c.args.most in
    let e : c.from_residual.result ≡ Err c.in_err-refuse_at.field-0.0 = search rules in
    let whole : rule_length r ≡ true = search (rules, tests) in
    let kind = found_by_find (λ i. unknown_kind (entry_at r i)) (entry_count r) _ _ _ c.find-kind.ensures.ran (λ x b q k. search (rules, tests)) in
    e ∙ sym (entries_in_turn most r whole ∙ rw (← kind, ← c.refuse_at.ensures, c.in_err-refuse_at.was))

pub returns-in_err-refuse_at-2 : goal.returns-in_err-refuse_at-2
returns-in_err-refuse_at-2 c =
    let r = c.args.rule.now in
    let most = c.args.most in
    let e : c.from_residual-in_err-refuse_at-2.result ≡ Err c.in_err-refuse_at-2.field-0.0 = search rules in
    let whole : rule_length r ≡ true = search (rules, tests) in
    let kind = found_by_find (λ i. unknown_kind (entry_at r i)) (entry_count r) _ _ _ c.find-kind.ensures.ran (λ x b q k. search (rules, tests)) in
    let word = found_by_find (λ i. bad_word most (entry_at r i)) (entry_count r) _ _ _ c.find-word.ensures.ran (λ x b q k. search (rules, tests)) in
    e ∙ sym (entries_in_turn most r whole ∙ rw (← kind, ← c.refuse_at.ensures, c.in_ok-refuse_at.was, ← word, ← c.refuse_at-2.ensures, c.in_err-refuse_at-2.was))

pub returns-in_err-refuse_at-3 : goal.returns-in_err-refuse_at-3
returns-in_err-refuse_at-3 c =
    let r = c.args.rule.now in
    let most = c.args.most in
    let e : c.from_residual-in_err-refuse_at-3.result ≡ Err c.in_err-refuse_at-3.field-0.0 = search rules in
    let whole : rule_length r ≡ true = search (rules, tests) in
    let kind = found_by_find (λ i. unknown_kind (entry_at r i)) (entry_count r) _ _ _ c.find-kind.ensures.ran (λ x b q k. search (rules, tests)) in
    let word = found_by_find (λ i. bad_word most (entry_at r i)) (entry_count r) _ _ _ c.find-word.ensures.ran (λ x b q k. search (rules, tests)) in
    let child = found_by_find (λ i. bad_child (entry_count r) i (entry_at r i)) (entry_count r) _ _ _ c.find-child.ensures.ran (λ x b q k. search (rules, tests)) in
    e ∙ sym (entries_in_turn most r whole ∙ rw (← kind, ← c.refuse_at.ensures, c.in_ok-refuse_at.was, ← word, ← c.refuse_at-2.ensures, c.in_ok-refuse_at-2.was, ← child, ← c.refuse_at-3.ensures, c.in_err-refuse_at-3.was))

pub returns-in_err-refuse_at-4 : goal.returns-in_err-refuse_at-4
returns-in_err-refuse_at-4 c =
    let r = c.args.rule.now in
    let most = c.args.most in
    let e : c.from_residual-in_err-refuse_at-4.result ≡ Err c.in_err-refuse_at-4.field-0.0 = search rules in
    let whole : rule_length r ≡ true = search (rules, tests) in
    let kind = found_by_find (λ i. unknown_kind (entry_at r i)) (entry_count r) _ _ _ c.find-kind.ensures.ran (λ x b q k. search (rules, tests)) in
    let word = found_by_find (λ i. bad_word most (entry_at r i)) (entry_count r) _ _ _ c.find-word.ensures.ran (λ x b q k. search (rules, tests)) in
    let child = found_by_find (λ i. bad_child (entry_count r) i (entry_at r i)) (entry_count r) _ _ _ c.find-child.ensures.ran (λ x b q k. search (rules, tests)) in
    let naming = found_by_find (bad_naming r) (entry_count r) _ _ _ c.find-naming.ensures.ran (λ x b q k. search (rules, tests)) in
    e ∙ sym (entries_in_turn most r whole ∙ rw (← kind, ← c.refuse_at.ensures, c.in_ok-refuse_at.was, ← word, ← c.refuse_at-2.ensures, c.in_ok-refuse_at-2.was, ← child, ← c.refuse_at-3.ensures, c.in_ok-refuse_at-3.was, ← naming, ← c.refuse_at-4.ensures, c.in_err-refuse_at-4.was))

pub returns-in_err-refuse_at-5 : goal.returns-in_err-refuse_at-5
returns-in_err-refuse_at-5 c =
    let r = c.args.rule.now in
    let most = c.args.most in
    let e : c.from_residual-in_err-refuse_at-5.result ≡ Err c.in_err-refuse_at-5.field-0.0 = search rules in
    let whole : rule_length r ≡ true = search (rules, tests) in
    let kind = found_by_find (λ i. unknown_kind (entry_at r i)) (entry_count r) _ _ _ c.find-kind.ensures.ran (λ x b q k. search (rules, tests)) in
    let word = found_by_find (λ i. bad_word most (entry_at r i)) (entry_count r) _ _ _ c.find-word.ensures.ran (λ x b q k. search (rules, tests)) in
    let child = found_by_find (λ i. bad_child (entry_count r) i (entry_at r i)) (entry_count r) _ _ _ c.find-child.ensures.ran (λ x b q k. search (rules, tests)) in
    let naming = found_by_find (bad_naming r) (entry_count r) _ _ _ c.find-naming.ensures.ran (λ x b q k. search (rules, tests)) in
    let nesting = found_by_find (too_deep r) (entry_count r) _ _ _ c.find-nesting.ensures.ran (λ x b q k. search (rules, tests)) in
    e ∙ sym (entries_in_turn most r whole ∙ rw (← kind, ← c.refuse_at.ensures, c.in_ok-refuse_at.was, ← word, ← c.refuse_at-2.ensures, c.in_ok-refuse_at-2.was, ← child, ← c.refuse_at-3.ensures, c.in_ok-refuse_at-3.was, ← naming, ← c.refuse_at-4.ensures, c.in_ok-refuse_at-4.was, ← nesting, ← c.refuse_at-5.ensures, c.in_err-refuse_at-5.was))

pub returns-in_err-refuse_at-6 : goal.returns-in_err-refuse_at-6
returns-in_err-refuse_at-6 c =
    let r = c.args.rule.now in
    let most = c.args.most in
    let e : c.from_residual-in_err-refuse_at-6.result ≡ Err c.in_err-refuse_at-6.field-0.0 = search rules in
    let whole : rule_length r ≡ true = search (rules, tests) in
    let kind = found_by_find (λ i. unknown_kind (entry_at r i)) (entry_count r) _ _ _ c.find-kind.ensures.ran (λ x b q k. search (rules, tests)) in
    let word = found_by_find (λ i. bad_word most (entry_at r i)) (entry_count r) _ _ _ c.find-word.ensures.ran (λ x b q k. search (rules, tests)) in
    let child = found_by_find (λ i. bad_child (entry_count r) i (entry_at r i)) (entry_count r) _ _ _ c.find-child.ensures.ran (λ x b q k. search (rules, tests)) in
    let naming = found_by_find (bad_naming r) (entry_count r) _ _ _ c.find-naming.ensures.ran (λ x b q k. search (rules, tests)) in
    let nesting = found_by_find (too_deep r) (entry_count r) _ _ _ c.find-nesting.ensures.ran (λ x b q k. search (rules, tests)) in
    let unbound = found_by_find (λ i. unbound (around r i) (entry_at r i)) (entry_count r) _ _ _ c.find-unbound.ensures.ran (λ x b q k. search (rules, tests)) in
    e ∙ sym (entries_in_turn most r whole ∙ rw (← kind, ← c.refuse_at.ensures, c.in_ok-refuse_at.was, ← word, ← c.refuse_at-2.ensures, c.in_ok-refuse_at-2.was, ← child, ← c.refuse_at-3.ensures, c.in_ok-refuse_at-3.was, ← naming, ← c.refuse_at-4.ensures, c.in_ok-refuse_at-4.was, ← nesting, ← c.refuse_at-5.ensures, c.in_ok-refuse_at-5.was, ← unbound, ← c.refuse_at-6.ensures, c.in_err-refuse_at-6.was))

pub returns : goal.returns
returns c =
    let r = c.args.rule.now in
    let most = c.args.most in
    let whole : rule_length r ≡ true = search (rules, tests) in
    let kind = found_by_find (λ i. unknown_kind (entry_at r i)) (entry_count r) _ _ _ c.find-kind.ensures.ran (λ x b q k. search (rules, tests)) in
    let word = found_by_find (λ i. bad_word most (entry_at r i)) (entry_count r) _ _ _ c.find-word.ensures.ran (λ x b q k. search (rules, tests)) in
    let child = found_by_find (λ i. bad_child (entry_count r) i (entry_at r i)) (entry_count r) _ _ _ c.find-child.ensures.ran (λ x b q k. search (rules, tests)) in
    let naming = found_by_find (bad_naming r) (entry_count r) _ _ _ c.find-naming.ensures.ran (λ x b q k. search (rules, tests)) in
    let nesting = found_by_find (too_deep r) (entry_count r) _ _ _ c.find-nesting.ensures.ran (λ x b q k. search (rules, tests)) in
    let unbound = found_by_find (λ i. unbound (around r i) (entry_at r i)) (entry_count r) _ _ _ c.find-unbound.ensures.ran (λ x b q k. search (rules, tests)) in
    sym (entries_in_turn most r whole ∙ rw (← kind, ← c.refuse_at.ensures, c.in_ok-refuse_at.was, ← word, ← c.refuse_at-2.ensures, c.in_ok-refuse_at-2.was, ← child, ← c.refuse_at-3.ensures, c.in_ok-refuse_at-3.was, ← naming, ← c.refuse_at-4.ensures, c.in_ok-refuse_at-4.was, ← nesting, ← c.refuse_at-5.ensures, c.in_ok-refuse_at-5.was, ← unbound, ← c.refuse_at-6.ensures, c.in_ok-refuse_at-6.was))
