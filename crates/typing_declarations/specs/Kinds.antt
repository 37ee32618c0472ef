-- What parameters are, as the code has it.
use Rattle.std.specs.Prelude.{◌≡◌, None, Result, Ok, Err}
use Rattle.expr_type.specs.declared.halt.Halt.{Halt}
use Rattle.expr_type.specs.Statements as S
use Rattle.typing_declarations.specs.declared.block.Part.{Part}
use Rattle.typing_declarations.specs.declared.block_types.WrittenType.{WrittenType}
use Rattle.typing_declarations.specs.declared.block_types.WrittenType.TheVariants as W
use Rattle.typing_declarations.specs.declared.bodies.Kind.{Kind}
use Rattle.typing_declarations.specs.declared.bodies.Kind.TheVariants as K
use Rattle.typing_declarations.specs.declared.bodies.Parameter.{Parameter}
use Rattle.typing_declarations.specs.Blocks.{declares}

abbrev pub written_of : WrittenType → S.WrittenType
written_of (W.OfValue s) = S.OfValue s
written_of (W.OfType t) = S.OfType t

abbrev pub kind_of : Kind → S.Kind
kind_of K.Type = S.IsType
kind_of (K.Value t) = S.IsValue (written_of t)

abbrev pub parameter_of : Parameter → S.Parameter
parameter_of p = record { kind = kind_of p.kind; declared = declares p.part }

-- a parameter that isn't whole gives nothing to the next one
abbrev pub parted : Result Parameter Halt → Kind × Result Part Halt → Type 0
parted (Ok p) q = (q.0 ≡ p.kind) × (q.1 ≡ Ok p.part)
parted (Err h) q = (q.0 ≡ K.Value (W.OfValue None)) × (q.1 ≡ Err h)
