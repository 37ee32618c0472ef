-- The rules on what stands in `inside`, and what it is where none is broken.
use Rattle.std.specs.Prelude.{ℕ, List, ◌∷◌, ◌++◌, map, flat_map, Ok}
use Rattle.expr_type.specs.declared.operand.Valued.{Valued}
use Rattle.expr_type.specs.Names.{Source}
use Rattle.expr_type.specs.Operands.{too_wide}
use Rattle.expr_type.specs.Operators.{Alternative, by_itself, choice, compared, in_alternative, ordered, over, taking, wide_in}
use Rattle.expr_type.specs.Shapes.{one_bit}
use Rattle.expr_type.specs.Typings.{Checked, at_all, unless}
use Rattle.sv_types.specs.declared.expression.Form.TheVariants as F
use Rattle.sv_types.specs.Meanings.{most}

-- the operators that are too wide, in the order of the text
abbrev pub wide_inside : ℕ → Valued → List Alternative → List ℕ
wide_inside at v as' =
    too_wide (most (map (compared v) as')) v.arithmetic ++ (over at (most (map (ordered v) as')) ++ flat_map (wide_in v) as')

-- E508 and E502
abbrev pub inside_rule : Source → ℕ → Valued → List Alternative → Checked (Unit {0})
inside_rule k at v as' = taking k at (v ∷ flat_map in_alternative as') (unless (at_all k.instance 502 (wide_inside at v as')) tt)

abbrev pub made : Source → Valued → List Alternative → Checked Valued
made k v as' = Ok (by_itself k v.begins one_bit (F.Inside v.expr (map choice as')))
