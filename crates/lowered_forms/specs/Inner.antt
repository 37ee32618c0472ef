-- What an expression is made of, as far as its lowering goes.
use Rattle.std.specs.Prelude.{⊤, ◌<◌, List, [], ◌∷◌, map}
use Rattle.sv_types.specs.declared.expression.Expr.{Expr}
use Rattle.sv_types.specs.declared.expression.Choice.{Choice, fold-Choice}
use Rattle.sv_types.specs.Layouts.{Layout}
use Rattle.sv_types.specs.Meanings.{total}
use Rattle.eval_parts.proofs.Nodes.{nodes, choice_nodes}
use Rattle.expr_lower.specs.Leaves.{Leaf, leaves, onto, Each, IsLowered, choice_step, form_step, expr_step}
use Rattle.lowered_forms.specs.declared.inner.Inner.{Inner}
use Rattle.lowered_forms.specs.declared.inner.Inner.TheVariants as I

-- all forms of an expression, of each of several, and of what a value may be
abbrev pub AreLowered : Expr → Type 0
AreLowered e = Each IsLowered (leaves e)

abbrev pub AllLowered : List Expr → Type 0
AllLowered [] = ⊤
AllLowered (e ∷ es) = AreLowered e × AllLowered es

abbrev pub ChoiceLowered : Choice → Type 0
ChoiceLowered c = Each IsLowered (fold-Choice (List Leaf) (Layout → List Leaf) (List Leaf) choice_step form_step expr_step c)

abbrev pub AllChoicesLowered : List Choice → Type 0
AllChoicesLowered [] = ⊤
AllChoicesLowered (c ∷ cs) = ChoiceLowered c × AllChoicesLowered cs

-- an expression is lowered where what stands in it is
abbrev pub Lowered : Expr → Type 0 → Type 0
Lowered e P = P → AreLowered e

-- it is no concatenation: a select may stand on it
abbrev pub IsBase : Expr → Type 0
IsBase e = AreLowered e → Each IsLowered (onto (leaves e))

abbrev pub IsInner : Inner → Expr → Type 0
IsInner I.Nothing e = AreLowered e × IsBase e
IsInner (I.One x) e = Lowered e (AreLowered x.now) × IsBase e × (nodes x.now < nodes e)
IsInner (I.Two x y) e = Lowered e (AreLowered x.now × AreLowered y.now) × IsBase e × (nodes x.now < nodes e) × (nodes y.now < nodes e)
IsInner (I.Three z x y) e = Lowered e (AreLowered z.now × AreLowered x.now × AreLowered y.now) × IsBase e × (nodes z.now < nodes e) × (nodes x.now < nodes e) × (nodes y.now < nodes e)
IsInner (I.All es) e = Lowered e (AllLowered es.now) × IsBase e × (total (map nodes es.now) < nodes e)
IsInner (I.Joined es) e = Lowered e (AllLowered es.now) × (total (map nodes es.now) < nodes e)
IsInner (I.Choices x cs) e = Lowered e (AreLowered x.now × AllChoicesLowered cs.now) × IsBase e × (nodes x.now < nodes e) × (total (map choice_nodes cs.now) < nodes e)
IsInner (I.From x) e = Lowered e (Each IsLowered (onto (leaves x.now))) × IsBase e × (nodes x.now < nodes e)
IsInner (I.At x y) e = Lowered e (Each IsLowered (onto (leaves x.now)) × AreLowered y.now) × IsBase e × (nodes x.now < nodes e) × (nodes y.now < nodes e)
IsInner I.Stream e = ⊤
