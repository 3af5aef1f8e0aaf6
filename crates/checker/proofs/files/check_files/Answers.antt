-- `checker::files::check_files` meets its contract, by the laws of proofs/Sizes.antt. Assumes nothing.
use mathlib.Core.Path.{sym, subst}
use Prim.Native.Nat.{◌+◌, ◌≤◌}
use Rattle.tables.specs.Answers.{Answer}
use Rattle.checker.specs.Files.{returned}
use Rattle.checker.specs.Loading.{largest_refusal}
use Rattle.checker.proofs.Sizes.{returned_le}
use Rattle.checker.proofs.files.check_files.Goals as goal

pub returned-requires : goal.returned-requires
returned-requires c = subst (λ (a : Answer). returned a ≤ 100 + largest_refusal) (sym c.check_both.ensures) (returned_le _ _)
