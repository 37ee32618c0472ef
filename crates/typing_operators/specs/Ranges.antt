-- What stands on the right of `inside`, over whole texts.
use Rattle.std.specs.Prelude.{List, map}
use Rattle.sv_tree.specs.declared.expressions.ValueRange.{ValueRange}
use Rattle.expr_type.specs.Names.{Context}
use Rattle.expr_type.specs.Operators.{Alternative}
use Rattle.expr_type.specs.Typings.{Typing, all}
use Rattle.typing_values.specs.Parts.{range_meaning}

abbrev pub range_of : Context → ValueRange → Typing Alternative
range_of k r = range_meaning r k

abbrev pub ranges_of : Context → List ValueRange → Typing (List Alternative)
ranges_of k rs = all (map (range_of k) rs)
