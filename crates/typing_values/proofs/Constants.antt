-- Constants that may be valued, and their numbers.
use Rattle.std.proofs.Common.{◌≡◌, ℤ, true, List, arith}
use Rattle.std.specs.Prelude.{◌≤ℤ◌, int_le, IfOk, Result, Ok, Err, pos}
use Rattle.std.proofs.lemmas.Int.{ints}
use Rattle.sv_types.specs.declared.statement.Function.{Function}
use Rattle.constant_types.specs.EvalRuns.{AllCanRun}
use Rattle.typing_parts.proofs.RoutineFits.{all-run}
use Rattle.select_types.specs.Selected.{IsWidth}
use Rattle.expr_type.specs.declared.halt.Halt.{Halt}
use Rattle.expr_type.specs.declared.operand.Number.{Number}
use Rattle.expr_type.specs.declared.operand.Valued.{Valued}
use Rattle.expr_type.specs.Answers.{Gives}
use Rattle.expr_type.specs.Names.{Source}
use Rattle.expr_type.specs.Operands.{is_number_in}
use Rattle.typing_parts.specs.declared.known.Known.{Known}
use Rattle.typing_parts.specs.Typists.{IsReady}
use Rattle.typing_walks.proofs.Operands.{range-of}
use Rattle.typing_values.specs.Numbers.{NumberIsWithin}

pub ready-runs : (k : Known) → IsReady k → AllCanRun k.functions
ready-runs k r = all-run k.functions r.sound

-- numbers in a range
least : (low n : ℤ) → int_le low n ≡ true → low ≤ℤ n
least low n h = grind (arith, ints)

pub number-within : (k : Source) (low high : ℤ) (v : Valued) (fs : List Function) (r : Result Number Halt) → Gives r (is_number_in k low high v fs) → IfOk r (NumberIsWithin low high)
number-within k low high v fs (Ok n) g =
    let p = range-of k low high v fs n g in
    record { least = least low n.number p.0; most = least n.number high p.1 }
number-within k low high v fs (Err h) g = tt

pub width-within : (r : Result Number Halt) → IfOk r (NumberIsWithin (pos 1) (pos 4294967295)) → IfOk r (λ n. IsWidth n.number)
width-within (Ok n) w = record { least = w.least; most = w.most }
width-within (Err h) w = tt
