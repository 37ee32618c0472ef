-- What targets for a select path promise, whether it is written in a vector or in the words of a memory (IEEE 1800-2017 clauses
-- 9.4.2.2, 10.4 and 11.5.1, IEEE 1364-2005 clause 4.9).
use Rattle.std.specs.Prelude.{◌≡◌, ℕ, true, List, Option, Some, None}
use Rattle.row_machine.specs.Valuation.{Valuation}
use Rattle.sv_types.specs.declared.expression.Expr.{Expr}
use Rattle.sv_types.specs.declared.statement.Function.{Function}
use Rattle.sv_types.specs.Surroundings.{Around}
use Rattle.sv_types.specs.Meanings as S
use Rattle.sv_types.specs.Expressions.{meaning}
use Rattle.v_tree.specs.declared.names.Helper.{Helper}
use Rattle.v_tree.specs.declared.names.NameMap.{NameMap}
use Rattle.v_meaning.specs.Scopes.{Scope}
use Rattle.lowering_laws.specs.Agreeing.{Images, AreDistinct, Agree}
use Rattle.lowering_laws.specs.NamedImages.{AreImages}
use Rattle.lowering_laws.proofs.Changes.{HasPieces}
use Rattle.path_flatten.specs.Helping.{EachHelps}
use Rattle.target_flatten.specs.Owning.{AllWrite}
use Rattle.target_flatten.specs.Writing.{pieces}
use Rattle.target_walk.specs.declared.never.Targets.{Targets}
use Rattle.target_walk.specs.Naming.{target_names}
use Rattle.expr_lower.specs.Leaves.{leaves, Each}
use Rattle.expr_lower.specs.Lowering.{LeafStands}
use Rattle.name_maps.specs.Named.{is_memory, OneSignal}
use Rattle.target_lower.specs.declared.within.Within.{Within}
use Rattle.target_lower.specs.Made.{CallsFrom}
use Rattle.target_lower.specs.Targets.{StandsOnVector}
use Rattle.element_paths.specs.Elements.{GoesOn}
use Rattle.element_paths.specs.declared.elements.Element.{Element}

-- an element of a memory from which a path goes on; else the path stands on none
pub record IsInMemory (names : NameMap) (e : Expr) (x : Element) : Type 0 where
  pub goes : GoesOn x.signal x.of.now x.index.now e
  pub memory : OneSignal names.signals x.signal → is_memory names.signals x.signal ≡ true

abbrev pub FindsInMemory : NameMap → Expr → Option Element → Type 0
FindsInMemory names e None = StandsOnVector names (leaves e)
FindsInMemory names e (Some x) = IsInMemory names e x

-- On all valuations that agree, images change as signals and locals do by an assignment to the path. The targets, and an expression
-- apart, name the images of what the path's indices name, all of them and no other. Each of them writes the image of what the path
-- stands on alone.
pub record StandsWritten (im : Images) (a : Around) (sc : Scope) (e : S.Meaning) (x : Targets) : Type 0 where
  pub changes : (now v : Valuation) → Agree im now v → HasPieces im e (pieces x.writes) (record a { now = now }) sc v
  pub names : AreImages im.number e.index_names (target_names x sc)
  pub own : (r : ℕ) → e.root ≡ Some r → AllWrite (im.number r) (pieces x.writes) sc

-- so they do wherever the text has what the path's leaves need and these helpers, and no two things have one image
abbrev pub LowersWritten : Within → NameMap → List Function → List Helper → Expr → Targets → Type 0
LowersWritten within names fs hs e x = (im : Images) (a : Around) (sc : Scope) → CallsFrom within fs a.callee → AreDistinct im → Each (LeafStands names fs im a sc) (leaves e) → EachHelps hs sc → StandsWritten im a sc (meaning e) x
