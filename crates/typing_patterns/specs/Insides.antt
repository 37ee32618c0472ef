-- What stands behind the tick of a cast.
use Rattle.std.specs.Prelude.{ℕ, cond, Ok, Err}
use Rattle.sv_tree.specs.declared.expressions.Cast.{Cast}
use Rattle.expr_type.specs.declared.operand.Valued.{Valued}
use Rattle.expr_type.specs.Breaks.{At}
use Rattle.expr_type.specs.Forms as F
use Rattle.expr_type.specs.Names.{Context, Source, position}
use Rattle.expr_type.specs.Operands.{Operand, has_bits, is_value}
use Rattle.expr_type.specs.Typings.{Checked, Typing, where_whole}
use Rattle.pattern_types.specs.Meaning.{operand_of}
use Rattle.typing_patterns.specs.declared.cast_insides.Bits.{Bits}
use Rattle.typing_patterns.specs.declared.cast_insides.Inside.{Inside}
use Rattle.typing_patterns.specs.TypingValues.{cast_meaning}

abbrev pub inside_of : Context → Cast → Typing F.Inside
inside_of k c = cast_meaning c k

abbrev pub bits_of : Context → Cast → Typing (ℕ × Valued)
bits_of k c = F.bits_inside k.source (cast_meaning c k)

-- the same by what stands there
abbrev pub operand_bits : Source → Operand → Checked Valued
operand_bits k o = where_whole (is_value k o) (has_bits k)

abbrev pub inside_bits : Source → F.Inside → Checked (ℕ × Valued)
inside_bits k i = cond i.is_pattern (Err (At (position k i.tick) 505)) (where_whole (operand_bits k i.of) (λ u. Ok (i.tick, u)))

-- as the code has it
abbrev pub as_inside : Source → Inside → F.Inside
as_inside k i = record { tick = i.tick; is_pattern = i.is_pattern; of = operand_of k i.of }

abbrev pub as_bits : Bits → ℕ × Valued
as_bits b = (b.tick, b.of)
