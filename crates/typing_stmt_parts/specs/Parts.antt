-- Items of blocks as the code has them.
use Rattle.std.specs.Prelude.{◌≡◌, ⊤, List, [], ◌∷◌, ◌++◌, Option, Some, None, Result, Ok, Err, Vec}
use Rattle.std.specs.declared.alloc.Global.{Global}
use Rattle.sv_types.specs.declared.statement.Function.{Function}
use Rattle.sv_types.specs.declared.statement.Stmt as R
use Rattle.expr_type.specs.declared.halt.Halt.{Halt}
use Rattle.expr_type.specs.declared.halt.Halt.TheVariants as H
use Rattle.expr_type.specs.Names.{Context}
use Rattle.expr_type.specs.Statements as D
use Rattle.expr_type.specs.Typings.{Typing, checked, whole}
use Rattle.stmt_laws.specs.Sound.{SoundDeclared}
use Rattle.stmt_types.specs.Blocks.{block_stmt, built_of, part_of}
use Rattle.stmt_types.specs.declared.blocks.BlockPart.{BlockPart}
use Rattle.typing_scopes.specs.Scopes.{means}
use Rattle.typing_stmt_parts.specs.declared.parts.Part.{Part}
use Rattle.typing_stmt_parts.specs.declared.parts.Part.TheVariants as P

abbrev pub part_meant : Part → D.BlockPart
part_meant (P.Statement s) = D.IsStatement s
part_meant (P.Declared d) = D.IsDeclared (means d)

-- statements and declarations as items
abbrev pub statement_part : Typing R.Stmt → Typing D.BlockPart
statement_part x = checked x (λ t. whole (D.IsStatement t))

abbrev pub declared_part : Typing D.Declared → Typing D.BlockPart
declared_part x = checked x (λ d. whole (D.IsDeclared d))

-- what is declared is sound
abbrev pub SoundIn : List Function → Part → Type 0
SoundIn fs (P.Statement s) = ⊤
SoundIn fs (P.Declared d) = SoundDeclared (means d) fs

-- what a part is in a block, and the text behind it
abbrev pub GoesIn : Context → Context → Part → Result BlockPart Halt → Type 0
GoesIn k j p (Ok b) = (b ≡ part_of (part_meant p)) × (j ≡ D.behind_part k (Some (part_meant p)))
GoesIn k j p (Err h) = h ≡ H.Memory

-- one part more
abbrev pub AddsPart : {A : Type 0} → Option (Vec A Global) → A → Result (Option (Vec A Global)) Halt → Type 0
AddsPart None b r = r ≡ Ok None
AddsPart (Some v) b (Ok None) = ⊥
AddsPart (Some v) b (Ok (Some w)) = w.items ≡ v.items ++ b ∷ []
AddsPart (Some v) b (Err h) = h ≡ H.Memory

-- parts with one more behind them, and the text behind it
abbrev pub JoinsPart : Option (Vec BlockPart Global) → Context → Context → Part → Result (Option (Vec BlockPart Global)) Halt → Type 0
JoinsPart made k j p (Err h) = h ≡ H.Memory
JoinsPart made k j p (Ok o) = (j ≡ D.behind_part k (Some (part_meant p))) × AddsPart made (part_of (part_meant p)) (Ok o)

abbrev pub Joins : Option (Vec BlockPart Global) → Context → Context → Result Part Halt → Result (Option (Vec BlockPart Global)) Halt → Type 0
Joins made k j (Ok p) r = JoinsPart made k j p r
Joins made k j (Err H.Quiet) r = (j ≡ k) × (r ≡ Ok None)
Joins made k j (Err H.Memory) r = r ≡ Err H.Memory
Joins made k j (Err (H.Breaks at rule)) r = r ≡ Err (H.Breaks at rule)

-- the block of parts
abbrev pub BlockBy : Option (Vec BlockPart Global) → Result R.Stmt Halt → Type 0
BlockBy None r = r ≡ Err H.Quiet
BlockBy (Some v) (Ok s) = s ≡ block_stmt (built_of v.items)
BlockBy (Some v) (Err h) = h ≡ H.Memory
