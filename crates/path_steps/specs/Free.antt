-- Expressions that read nothing, no function among it: what they mean is the same in all surroundings.
use Rattle.std.specs.Prelude.{◌≡◌, ⊤, ◌<◌, List, [], ◌∷◌, map}
use Rattle.sv_types.specs.declared.expression.Expr.{Expr}
use Rattle.sv_types.specs.declared.expression.Choice.{Choice}
use Rattle.sv_types.specs.Surroundings.{Around}
use Rattle.sv_types.specs.Meanings.{Meaning, total}
use Rattle.sv_types.specs.Operators.{Alternative}
use Rattle.sv_types.specs.Expressions.{meaning}
use Rattle.sv_types.proofs.Levels.{alternative}
use Rattle.flow_laws.specs.Hangs.{Same}
use Rattle.eval_parts.proofs.Nodes.{nodes, choice_nodes}
use Rattle.path_steps.specs.declared.inner.Inner.{Inner}
use Rattle.path_steps.specs.declared.inner.Inner.TheVariants as I

pub record Free (m : Meaning) : Type 0 where
  pub same : (a b : Around) → Same m a b
  pub base : (a b : Around) → m.base a ≡ m.base b
  pub window : (a b : Around) → m.window a ≡ m.window b
  pub none : m.names ≡ []
  pub index_none : m.index_names ≡ []

abbrev pub IsFree : Expr → Type 0
IsFree e = Free (meaning e)

abbrev pub AllFree : List Expr → Type 0
AllFree [] = ⊤
AllFree (e ∷ es) = IsFree e × AllFree es

-- what a value may be on the right of `inside`
abbrev pub FreeIn : Alternative → Type 0
FreeIn (Alternative.Only m) = Free m
FreeIn (Alternative.From low high) = Free low × Free high

abbrev pub ChoiceFree : Choice → Type 0
ChoiceFree c = FreeIn (alternative c)

abbrev pub AllChoicesFree : List Choice → Type 0
AllChoicesFree [] = ⊤
AllChoicesFree (c ∷ cs) = ChoiceFree c × AllChoicesFree cs

-- an expression is free where what stands in it is
abbrev pub IsInner : Inner → Expr → Type 0
IsInner I.Nothing e = IsFree e
IsInner (I.One x) e = (IsFree x.now → IsFree e) × (nodes x.now < nodes e)
IsInner (I.Two x y) e = (IsFree x.now → IsFree y.now → IsFree e) × (nodes x.now < nodes e) × (nodes y.now < nodes e)
IsInner (I.Three z x y) e = (IsFree z.now → IsFree x.now → IsFree y.now → IsFree e) × (nodes z.now < nodes e) × (nodes x.now < nodes e) × (nodes y.now < nodes e)
IsInner (I.All es) e = (AllFree es.now → IsFree e) × (total (map nodes es.now) < nodes e)
IsInner (I.Choices x cs) e = (IsFree x.now → AllChoicesFree cs.now → IsFree e) × (nodes x.now < nodes e) × (total (map choice_nodes cs.now) < nodes e)
IsInner I.Reads e = ⊤
