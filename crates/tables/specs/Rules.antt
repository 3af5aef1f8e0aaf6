-- 01, the refusals of a rule: 1 to 7; 02, wish 5, of a template, where 3 lets b of a comparison be 2, too. Assumes nothing.
use Rattle.std.specs.Prelude.{ℕ, zero, suc, ◌+◌, Bool, true, false, cond, not, ◌&&◌, ◌||◌, List, [], ◌∷◌, ltb, leb, eqb}
use Rattle.base.specs.Search.{sum_below}
use Rattle.tables.specs.Answers.{Answer, unless, in_order, is_done}
use Rattle.tables.specs.Words.{whole, not_identifier, entry_words, entry_at, entry_count}
use Rattle.tables.specs.declared.Entry.{Entry}
use Rattle.tables.specs.declared.refusals.Fault.{Fault}
use Rattle.tables.specs.declared.refusals.Fault.TheVariants.{RuleLength, Kind, Word, Child, Naming, Nesting, Unbound}

-- how many quantifiers may stand around one another
abbrev pub nesting_limit : ℕ
nesting_limit = 6

-- ---- kinds
abbrev pub is_not : Entry → Bool
is_not e = eqb e.kind 1

abbrev pub is_connective : Entry → Bool
is_connective e = leb 2 e.kind && leb e.kind 4

abbrev pub is_quantifier : Entry → Bool
is_quantifier e = leb 5 e.kind && leb e.kind 6

abbrev pub comparison_kind : ℕ → Bool
comparison_kind k = leb 7 k && leb k 9

abbrev pub is_comparison : Entry → Bool
is_comparison e = comparison_kind e.kind

-- ---- child places: a of all but comparisons, b of connectives
abbrev pub has_child : Entry → Bool
has_child e = leb 1 e.kind && leb e.kind 6

abbrev pub one : Bool → ℕ
one true = 1
one false = 0

-- how many child places of entry e name entry j
abbrev pub namings : Entry → ℕ → ℕ
namings e j = one (has_child e && eqb e.a j) + one (is_connective e && eqb e.b j)

-- entry j is a child of entry e
abbrev pub is_child : Entry → ℕ → Bool
is_child e j = (has_child e && eqb e.a j) || (is_connective e && eqb e.b j)

-- how many child places of the rule name entry j
abbrev pub times_named : List ℕ → ℕ → ℕ
times_named r j = sum_below (λ i. namings (entry_at r i) j) (entry_count r)

-- the number of quantifiers around entry j, where the entries that may hold it are those below i
unfoldable pub around_from : List ℕ → ℕ → ℕ → ℕ
around_from r zero j = 0
around_from r (suc i) j =
    cond (is_child (entry_at r i) j) (one (is_quantifier (entry_at r i)) + around_from r i i) (around_from r i j)

-- the number of quantifiers around entry j: it is the number of the variable that a quantifier there binds
abbrev pub around : List ℕ → ℕ → ℕ
around r j = around_from r j j

-- ---- the faults of entry i
-- 2: unknown kind
abbrev pub unknown_kind : Entry → Bool
unknown_kind e = ltb e.kind 1 || ltb 9 e.kind

-- the name word of a quantifier that takes rows of any name (02, wish 2)
abbrev pub any_name : ℕ
any_name = 0

-- b of a comparison to a constant; and to a parameter, whose number is c: a blank, in templates only (02, wish 5)
abbrev pub to_constant : ℕ
to_constant = 1

abbrev pub to_parameter : ℕ
to_parameter = 2

-- 3: a word due 0 isn't; b of a comparison above `most`; a quantifier's name neither that of any name nor in range
abbrev pub bad_word : ℕ → Entry → Bool
bad_word most e =
    (is_not e && not (eqb e.b 0))
    || ((is_not e || is_connective e) && not (eqb e.c 0))
    || (is_comparison e && ltb most e.b)
    || (is_quantifier e && not (eqb e.c any_name) && not_identifier e.c)

-- 4: child not later, or beyond the end
abbrev pub bad_place : ℕ → ℕ → ℕ → Bool
bad_place n i j = leb j i || leb n j

abbrev pub bad_child : ℕ → ℕ → Entry → Bool
bad_child n i e = (has_child e && bad_place n i e.a) || (is_connective e && bad_place n i e.b)

-- 5: an entry but 0 named never or twice
abbrev pub bad_naming : List ℕ → ℕ → Bool
bad_naming r i = ltb 0 i && not (eqb (times_named r i) 1)

-- 6: one quantifier more than may stand around one another
abbrev pub too_deep : List ℕ → ℕ → Bool
too_deep r i = is_quantifier (entry_at r i) && leb nesting_limit (around r i)

-- 7: a variable, also in b, not bound there; d variables are
abbrev pub unbound : ℕ → Entry → Bool
unbound d e =
    (is_quantifier e && ltb d e.b)
    || (is_comparison e && (leb d e.a || (eqb e.b 0 && leb d e.c)))

-- entry i has that fault
unfoldable pub entry_fault : ℕ → List ℕ → Fault → ℕ → Bool
entry_fault most r Kind i = unknown_kind (entry_at r i)
entry_fault most r Word i = bad_word most (entry_at r i)
entry_fault most r Child i = bad_child (entry_count r) i (entry_at r i)
entry_fault most r Naming i = bad_naming r i
entry_fault most r Nesting i = too_deep r i
entry_fault most r k i = unbound (around r i) (entry_at r i)

-- a rule has 1 to 128 entries
abbrev pub entry_limit : ℕ
entry_limit = 128

-- 1: not 1 to 128 whole entries
abbrev pub rule_length : List ℕ → Bool
rule_length r = whole entry_words r && (leb 1 (entry_count r) && leb (entry_count r) entry_limit)

-- the checks of entries, in the order in which they are made
abbrev pub rule_checks : List Fault
rule_checks = Kind ∷ Word ∷ Child ∷ Naming ∷ Nesting ∷ Unbound ∷ []

-- the answer of 1 to 7, where b of a comparison is at most `most`: the number of entries, or the first refusal
unfoldable pub check_entries : ℕ → List ℕ → Answer
check_entries most r = unless (rule_length r) RuleLength (in_order (entry_fault most r) (entry_count r) rule_checks)

-- the checks of a rule, and of a template (02, wish 5)
abbrev pub check_rule : List ℕ → Answer
check_rule = check_entries to_constant

abbrev pub check_template : List ℕ → Answer
check_template = check_entries to_parameter

-- a rule is accepted if its checks find no fault
abbrev pub accepted_rule : List ℕ → Bool
accepted_rule r = is_done (check_rule r)
