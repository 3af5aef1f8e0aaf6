-- Two truth values that the code compares. Assumes nothing.
use mathlib.Core.Path.{◌≡◌, refl, sym}
use mathlib.Core.Bool.{Bool, true, false, beq, true≢false, false≢true}

pub same_true : (x y : Bool) → beq x y ≡ true → x ≡ y
same_true true true h = refl
same_true true false h = sym h
same_true false true h = h
same_true false false h = refl

pub same_false : (x y : Bool) → beq x y ≡ false → x ≡ y → ⊥
same_false true true h e = true≢false h
same_false true false h e = true≢false e
same_false false true h e = false≢true e
same_false false false h e = true≢false h
