-- How far a loop over the items of a block has come.
use Rattle.std.specs.Prelude.{List, ◌++◌, map, Option, Some, None, Vec}
use Rattle.std.specs.declared.alloc.Global.{Global}
use Rattle.sv_tree.specs.declared.statements.BlockItem.{BlockItem}
use Rattle.sv_types.specs.declared.statement.Function.{Function}
use Rattle.expr_type.specs.Names.{Context}
use Rattle.expr_type.specs.Statements as D
use Rattle.expr_type.specs.Statements.{block_parts, item_meaning}
use Rattle.expr_type.specs.Typings.{Typed, Typing, checked, whole}
use Rattle.stmt_types.specs.Blocks.{part_of}
use Rattle.stmt_types.specs.declared.blocks.BlockPart.{BlockPart}
use Rattle.typing_scopes.specs.Ahead.{AheadQuiet, AheadWhole}

-- parts without the names that they declare
abbrev pub as_parts : List D.BlockPart → List BlockPart
as_parts qs = map part_of qs

abbrev pub put_behind : List BlockPart → List D.BlockPart → List BlockPart
put_behind made qs = made ++ as_parts qs

abbrev pub rest_of : Context → List BlockItem → Typing (List D.BlockPart)
rest_of k items = block_parts k (map item_meaning items)

abbrev pub made_row : Context → List BlockItem → Typing (List BlockPart)
made_row k items = checked (rest_of k items) (λ qs. whole (as_parts qs))

-- what is made so far, where these items are left, these functions are known and the text is this
abbrev pub MadeOf : Option (Vec BlockPart Global) → Context → List BlockItem → Typed (List BlockPart) → List Function → Type 0
MadeOf (Some v) k rest row fs = AheadWhole (put_behind v.items) (rest_of k rest) row fs
MadeOf None k rest row fs = AheadQuiet (rest_of k rest) row fs
