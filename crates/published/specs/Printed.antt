-- Two rules as 004 prints them, and two over any name in that form. Assumes nothing.
use Rattle.std.specs.Prelude.{◌≡◌, [], ◌∷◌}
use Rattle.logic.specs.Formulas.{formula}
use Rattle.published.specs.Inputs.{rule_a, rule_addresses, nothing_zero, every_child_has_one}
use Rattle.published.specs.Published.{CL, NOT, OR, IMPLIES, SOME, EACH, EQUAL, SOMEPAIR, EACHPAIR, ◌is◌}
use Rattle.published.specs.Stated.{no_standing, stated}

-- ---- rule A as 004 prints it, CL Constraint 1 (with the parentheses of section 4.2.2): [device = s₁]
-- (⟨device = s₁; vtp mode = x⟩ x = client ∨ ⟨device = s₁; vtp mode = x⟩ x = server), with name 1 device, 2 VTP mode; mode 1 client, 2 server
unfoldable pub constraint1 : CL
constraint1 =
    EACH [] 1 (λ s₁. OR
    (SOME ((1 is s₁) ∷ []) 2 (λ x. EQUAL x 1))
    (SOME ((1 is s₁) ∷ []) 2 (λ x. EQUAL x 2)))

-- ---- section 4.2.2: [router = r₁] [router = r₁; interface = i₁] [router = r₁; interface = i₂]
-- [router = r₁, interface = i₁; ip-address = ip₁] [router = r₁, interface = i₂; ip-address = ip₂] (i₁ ≠ i₂ → ip₁ ≠ ip₂)
unfoldable pub addresses : CL
addresses =
    EACH [] 1 (λ r₁. EACH ((1 is r₁) ∷ []) 2 (λ i₁. EACH ((1 is r₁) ∷ []) 2 (λ i₂.
    EACH ((1 is r₁) ∷ (2 is i₁) ∷ []) 3 (λ ip₁. EACH ((1 is r₁) ∷ (2 is i₂) ∷ []) 3 (λ ip₂.
    IMPLIES (NOT (EQUAL i₁ i₂)) (NOT (EQUAL ip₁ ip₂)))))))

-- the claim
pub record AsPrinted : Type 0 where
  pub first : stated (formula rule_a) 0 no_standing ≡ constraint1
  pub second : stated (formula rule_addresses) 0 no_standing ≡ addresses

-- ---- rules over any name in that form: [device = s] [device = s; interface = i] [device = s, interface = i; any x] ¬ x = 0
unfoldable pub none_is_zero : CL
none_is_zero =
    EACH [] 1 (λ s. EACH ((1 is s) ∷ []) 3 (λ i. EACHPAIR ((1 is s) ∷ (3 is i) ∷ []) (λ x. NOT (EQUAL x.value 0))))

-- [any x] [x; any y] ⟨x, y; any z⟩ z = 1: the path goes on with the name and the value
unfoldable pub each_has_one : CL
each_has_one = EACHPAIR [] (λ x. EACHPAIR (x ∷ []) (λ y. SOMEPAIR (x ∷ y ∷ []) (λ z. EQUAL z.value 1)))

-- the claim
pub record WithAnyName : Type 0 where
  pub first : stated (formula nothing_zero) 0 no_standing ≡ none_is_zero
  pub second : stated (formula every_child_has_one) 0 no_standing ≡ each_has_one
