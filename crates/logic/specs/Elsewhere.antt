-- 02, wish 9: a reading over roots can't come out both ways. Assumes nothing.
use Rattle.std.specs.Prelude.{ℕ, suc, ◌≡◌, Bool, false, ◌&&◌, List}
use Rattle.tables.specs.declared.Row.{Row}
use Rattle.logic.specs.Formulas.{Formula}
use Rattle.tables.specs.declared.Quantifier.{Quantifier}
use Rattle.logic.specs.Verdict.{Place, nothing, bound, Bindings, bind}
use Rattle.logic.specs.Reading.{Reading, certain, first_test, second_test, reading}

-- a quantifier's body on the rows D, with its own variable, of number d, at a place and all others as b has them
abbrev pub body_reading : Formula → List Row → ℕ → Bindings → Place → Reading
body_reading φ D d b p = reading φ D (suc d) (bind d p b)

pub record OneWay (φ : Formula) (D : List Row) (d : ℕ) (b : Bindings) : Type 0 where
  -- what the body reads with the variable elsewhere, true or false, it reads for each row, and so for each own root
  pub same_for_each : (r : Row) (a : Bool) → body_reading φ D d b nothing ≡ certain a → body_reading φ D d b (bound r) ≡ certain a
  -- so one quantifier over roots does not meet both its first and its second test, whatever roots are its own
  pub not_both : (q : Quantifier) (own : List Row) → (first_test q (body_reading φ D d b) own && second_test q (body_reading φ D d b)) ≡ false

-- the claim: so it is for every formula and every list of rows, accepted or not, whatever the variables around the quantifier are bound to
abbrev pub ReadsOneWay : Type 0
ReadsOneWay = (φ : Formula) (D : List Row) (d : ℕ) (b : Bindings) → OneWay φ D d b
