-- Joining in place, in a buffer that begins with the first table, is joining the two tables in a buffer of that length. Assumes nothing.
use Prim.Native.Nat.{ℕ}
use native.Mathlib.Omega.{arith}
use mathlib.Core.Path.{◌≡◌, ap, ◌∙◌}
use mathlib.Core.Bool.{Bool, true, false, cond}
use mathlib.Core.List.{List, ◌++◌}
use lib.ListN.{length, take, drop, length-append}
use lib.Seq.{take-append_seam}
use lib.Dec.{leb}
use borrow.Author.Tests.{le-leb}
use Rattle.tables.specs.Answers.{is_done}
use Rattle.tables.specs.Joining.{join_tables, join_answer, join_pool}
use Rattle.tables.specs.Answers.{Answer}
use Rattle.tables.proofs.Answers.{unless_passed}
use Rattle.tables.specs.declared.refusals.Fault.TheVariants.{TableLength}

module _ (t rest u : List ℕ) where
  pub in_place_answer : join_answer (t ++ rest) (length t) u ≡ join_tables t u (length (t ++ rest))
  unfolding join_answer
  in_place_answer =
      unless_passed (leb (length t) (length (t ++ rest))) TableLength _ (le-leb (length t) (length (t ++ rest)) (omega (arith, length-append t rest)))
      ∙ ap (λ (s : List ℕ). join_tables s u (length (t ++ rest))) (take-append_seam t rest)

  -- the buffer then begins with the table that the joining leaves
  pub in_place_table : (a : Answer) → join_answer (t ++ rest) (length t) u ≡ a
      → take (length (cond (is_done a) (t ++ u) t)) (join_pool (t ++ rest) (length t) u) ≡ cond (is_done a) (t ++ u) t
  unfolding join_pool
  in_place_table a e = rw e (go (is_done a))
    where
      go : (b : Bool) → take (length (cond b (t ++ u) t)) (cond b ((take (length t) (t ++ rest) ++ u) ++ drop (length (take (length t) (t ++ rest) ++ u)) (t ++ rest)) (t ++ rest)) ≡ cond b (t ++ u) t
      go true = rw (take-append_seam t rest) (take-append_seam (t ++ u) (drop (length (t ++ u)) (t ++ rest)))
      go false = take-append_seam t rest
