-- What reads a select path of an expression (IEEE 1800-2017 clause 11.5.1).
use Rattle.std.specs.Prelude.{◌≡◌, ℕ, Bool, List}
use Rattle.row_machine.specs.Valuation.{Valuation}
use Rattle.sv_types.specs.declared.expression.Expr.{Expr}
use Rattle.sv_types.specs.declared.statement.Function.{Function}
use Rattle.sv_types.specs.Surroundings.{Around}
use Rattle.sv_types.specs.Meanings as S
use Rattle.sv_types.specs.Expressions.{meaning}
use Rattle.v_tree.specs.declared.names.Helper.{Helper}
use Rattle.v_tree.specs.declared.names.NameMap.{NameMap}
use Rattle.v_meaning.specs.Scopes.{Scope}
use Rattle.v_meaning.specs.Values as T
use Rattle.lowering_laws.specs.Agreeing.{Images, Agree}
use Rattle.lowering_laws.specs.NamedImages.{AreImages}
use Rattle.path_flatten.specs.declared.offsets.Index.{Index}
use Rattle.path_flatten.specs.declared.readings.Reading.{Reading}
use Rattle.path_flatten.specs.Helping.{EachHelps}
use Rattle.path_flatten.specs.Naming.{root_names}
use Rattle.path_flatten.specs.Reading.{Reads}
use Rattle.path_steps.specs.Stands.{stand_names}
use Rattle.expr_lower.specs.Leaves.{leaves, Each}
use Rattle.expr_lower.specs.Lowering.{LeafStands, Lowers}

-- A reading reads a path on all valuations that agree, and what it stands on names the images of what the path does.
pub record Found (im : Images) (a : Around) (sc : Scope) (e : S.Meaning) (r : Reading) : Type 0 where
  pub reads : (now v : Valuation) → Agree im now v → Reads r e (record a { now = now }) sc v
  pub names : AreImages im.number (stand_names e) (root_names r.root sc)

-- so it is wherever the text has what the leaves need and these helpers
abbrev pub Finds : NameMap → List Function → List Helper → Expr → Reading → Type 0
Finds names fs hs e r = (im : Images) (a : Around) (sc : Scope) → Each (LeafStands names fs im a sc) (leaves e) → EachHelps hs sc → Found im a sc (meaning e) r

-- an index that is lowered alone
pub record Indexes (names : NameMap) (fs : List Function) (hs : List Helper) (e : Expr) (x : Index) : Type 0 where
  pub width : x.width ≡ S.wide (meaning e)
  pub sign : x.signed ≡ S.signed (meaning e)
  pub lowers : Lowers names fs hs e (S.wide (meaning e)) (S.signed (meaning e)) (T.meaning x.expr)

-- it stands for an expression at each width and sign
abbrev pub LowersAnywhere : NameMap → List Function → List Helper → Expr → T.Meaning → Type 0
LowersAnywhere names fs hs e m = (w : ℕ) (s : Bool) → Lowers names fs hs e w s m
