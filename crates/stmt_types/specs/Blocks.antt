-- Parts of a block as the code has them.
use Rattle.std.specs.Prelude.{List, [], ◌∷◌, ◌++◌, reverse}
use Rattle.sv_types.specs.declared.statement.Stmt.{Stmt}
use Rattle.sv_types.specs.declared.statement.Stmt.TheVariants as S
use Rattle.expr_type.specs.Statements as D
use Rattle.stmt_types.specs.declared.blocks.BlockPart.{BlockPart}
use Rattle.stmt_types.specs.declared.blocks.BlockPart.TheVariants as B
use Rattle.stmt_types.specs.declared.blocks.Open.{Open}

-- a part in front of what stands behind it
abbrev pub part_built : BlockPart → D.Block → D.Block
part_built (B.Statement s) rest = record { locals = []; body = s ∷ D.in_block rest.locals rest.body }
part_built (B.Declared ls) rest = record { locals = ls ++ rest.locals; body = rest.body }

abbrev pub built_on : List BlockPart → D.Block → D.Block
built_on [] rest = rest
built_on (p ∷ ps) rest = part_built p (built_on ps rest)

abbrev pub nothing_built : D.Block
nothing_built = record { locals = []; body = [] }

abbrev pub built_of : List BlockPart → D.Block
built_of ps = built_on ps nothing_built

abbrev pub block_stmt : D.Block → Stmt
block_stmt b = S.Block b.locals b.body

abbrev pub open_block : Open → D.Block
open_block o = record { locals = reverse o.locals.items; body = reverse o.body.items }

-- a part of a block without the names that it declares
abbrev pub part_of : D.BlockPart → BlockPart
part_of (D.IsStatement s) = B.Statement s
part_of (D.IsDeclared d) = B.Declared d.locals
