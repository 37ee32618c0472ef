-- How many bits a slice of a stream has.
use Rattle.std.specs.Prelude.{ℕ, unsigned_abs, pos, List, Some, None, Ok}
use Rattle.sv_tree.specs.Extents.{qualified_first}
use Rattle.sv_tree.specs.declared.names.QualifiedName.{QualifiedName}
use Rattle.sv_types.specs.declared.statement.Function.{Function}
use Rattle.expr_type.specs.declared.operand.Valued.{Valued}
use Rattle.sv_types.specs.Layouts.{width_of}
use Rattle.expr_type.specs.Forms.{slice_of, type_of_thing}
use Rattle.expr_type.specs.Names.{Context, Source, Thing}
use Rattle.expr_type.specs.Operands.{is_number_in}
use Rattle.expr_type.specs.Shapes.{most_bits}
use Rattle.expr_type.specs.Typings.{Checked, where_whole}
use Rattle.typing_values.specs.Leaves.{named_alone}

-- the number of a value
abbrev pub slice_in : Source → List Function → Valued → Checked ℕ
slice_in k fs v = where_whole (is_number_in k (pos 1) (pos most_bits) v fs) (λ n. Ok (unsigned_abs n.number))

abbrev pub slice_of_constant : Context → QualifiedName → List Function → Checked ℕ
slice_of_constant k of fs = where_whole (named_alone k of) (slice_in k.source fs)

-- as many bits as the type has that a name stands for, or the number of a constant
abbrev pub slice_of_thing : Context → QualifiedName → List Function → Thing → Checked ℕ
slice_of_thing k of fs x = elim (type_of_thing x) [
  | Some t ↦ slice_of k.source (qualified_first of) (width_of t)
  | None ↦ slice_of_constant k of fs
]
