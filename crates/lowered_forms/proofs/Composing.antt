-- What each form is made of.
use Rattle.std.proofs.Common.{◌≡◌, ℕ, ◌<◌, Bool, ℤ, List, [], ◌∷◌, ◌++◌, map, arith, sym, subst}
use Rattle.b4_core.specs.declared.bit.Bit4.{Bit4}
use Rattle.b4_core.specs.declared.operators.UnOp.{UnOp}
use Rattle.b4_core.specs.declared.operators.BinOp.{BinOp}
use Rattle.b4_core.specs.declared.operators.RedOp.{RedOp}
use Rattle.b4_core.specs.declared.operators.ShiftOp.{ShiftOp}
use Rattle.b4_core.specs.declared.operators.OrdOp.{OrdOp}
use Rattle.b4_core.specs.declared.operators.EqOp.{EqOp}
use Rattle.sv_types.specs.declared.types.Value.{Value}
use Rattle.sv_types.specs.declared.expression.Expr.{Expr}
use Rattle.sv_types.specs.declared.expression.Choice.{Choice}
use Rattle.sv_types.specs.declared.expression.Choice.TheVariants as C
use Rattle.sv_types.specs.declared.expression.Form.TheVariants as V
use Rattle.sv_types.specs.Meanings.{total}
use Rattle.eval_parts.proofs.Nodes as N
use Rattle.eval_parts.proofs.Nodes.{nodes, choice_nodes}
use Rattle.expr_lower.specs.Leaves.{Leaf, Signals, Elements, Inside, Locals, Calls, Valued, Joined, Unlowered, together, leaves, onto, indexed, Each, IsLowered}
use Rattle.expr_lower.proofs.AskedLeaves as A
use Rattle.expr_lower.proofs.AskedLeaves.{choice_leaves}
use Rattle.lowered_forms.specs.Inner.{AreLowered, AllLowered, ChoiceLowered, AllChoicesLowered, Lowered, IsBase}

each-both : (xs ys : List Leaf) → Each IsLowered xs → Each IsLowered ys → Each IsLowered (xs ++ ys)
each-both [] ys h g = g
each-both (x ∷ xs) ys h g = (h.0, each-both xs ys h.1 g)

all-each : (es : List Expr) → AllLowered es → Each IsLowered (together (map leaves es))
all-each [] h = tt
all-each (e ∷ es) h = each-both (leaves e) (together (map leaves es)) h.0 (all-each es h.1)

choices-each : (cs : List Choice) → AllChoicesLowered cs → Each IsLowered (together (map choice_leaves cs))
choices-each [] h = tt
choices-each (c ∷ cs) h = each-both (choice_leaves c) (together (map choice_leaves cs)) h.0 (choices-each cs h.1)

lowered-as : (e : Expr) (ls : List Leaf) → leaves e ≡ ls → Each IsLowered ls → AreLowered e
lowered-as e ls is h = subst (Each IsLowered) (sym is) h

base-as : (e : Expr) (ls : List Leaf) → leaves e ≡ ls → (Each IsLowered ls → Each IsLowered (onto ls)) → IsBase e
base-as e ls is h = subst (λ l. Each IsLowered l → Each IsLowered (onto l)) (sym is) h

-- a select stands on a select
onto-again : (l r : List Leaf) → Each IsLowered (onto l ++ r) → Each IsLowered (onto (onto l ++ r))
onto-again [] r h = h
onto-again (Signals n of ∷ l) r h = h
onto-again (Elements n of ∷ l) r h = h
onto-again (Inside n of ∷ l) r h = h
onto-again (Locals n of ∷ l) r h = h
onto-again (Calls f of n ∷ l) r h = h
onto-again (Valued ∷ l) r h = h
onto-again (Joined ∷ l) r h = h
onto-again (Unlowered ∷ l) r h = h

onto-twice : (l : List Leaf) → Each IsLowered (onto l) → Each IsLowered (onto (onto l))
onto-twice [] h = h
onto-twice (Signals n of ∷ l) h = h
onto-twice (Elements n of ∷ l) h = h
onto-twice (Inside n of ∷ l) h = h
onto-twice (Locals n of ∷ l) h = h
onto-twice (Calls f of n ∷ l) h = h
onto-twice (Valued ∷ l) h = h
onto-twice (Joined ∷ l) h = h
onto-twice (Unlowered ∷ l) h = h

onto-indexed : (l r : List Leaf) → Each IsLowered (indexed l ++ r) → Each IsLowered (onto (indexed l ++ r))
onto-indexed [] r h = h
onto-indexed (Signals n of ∷ []) r h = h
onto-indexed (Signals n of ∷ k ∷ l) r h = h
onto-indexed (Elements n of ∷ l) r h = h
onto-indexed (Inside n of ∷ l) r h = h
onto-indexed (Locals n of ∷ l) r h = h
onto-indexed (Calls f of n ∷ l) r h = h
onto-indexed (Valued ∷ l) r h = h
onto-indexed (Joined ∷ l) r h = h
onto-indexed (Unlowered ∷ l) r h = h

-- what a choice has
pub choice-value : (e : Expr) → AreLowered e → ChoiceLowered (C.Value e)
choice-value e h = subst (Each IsLowered) (sym (A.leaves-value e)) h

pub choice-range : (a b : Expr) → AreLowered a → AreLowered b → ChoiceLowered (C.Range a b)
choice-range a b h g = subst (Each IsLowered) (sym (A.leaves-range a b)) (each-both (leaves a) (leaves b) h g)

pub inner-Literal : (e : Expr) (v : List Bit4) (goes_on : Bool) → e.form ≡ V.Literal v goes_on → AreLowered e × IsBase e
inner-Literal e v goes_on is = (lowered-as e _ (A.leaves-Literal e v goes_on is) (tt, tt), base-as e _ (A.leaves-Literal e v goes_on is) (λ h. h))

pub inner-Fill : (e : Expr) (b : Bit4) → e.form ≡ V.Fill b → AreLowered e × IsBase e
inner-Fill e b is = (lowered-as e _ (A.leaves-Fill e b is) (tt, tt), base-as e _ (A.leaves-Fill e b is) (λ h. h))

pub inner-Constant : (e : Expr) (v : Value) → e.form ≡ V.Constant v → AreLowered e × IsBase e
inner-Constant e v is = (lowered-as e _ (A.leaves-Constant e v is) (tt, tt), base-as e _ (A.leaves-Constant e v is) (λ h. h))

pub inner-Signal : (e : Expr) (n : ℕ) → e.form ≡ V.Signal n → AreLowered e × IsBase e
inner-Signal e n is = (lowered-as e _ (A.leaves-Signal e n is) (tt, tt), base-as e _ (A.leaves-Signal e n is) (λ h. h))

pub inner-Local : (e : Expr) (n : ℕ) → e.form ≡ V.Local n → AreLowered e × IsBase e
inner-Local e n is = (lowered-as e _ (A.leaves-Local e n is) (tt, tt), base-as e _ (A.leaves-Local e n is) (λ h. h))

pub inner-Member : (e : Expr) (x : Expr) (k : ℕ) → e.form ≡ V.Member x k → Lowered e (Each IsLowered (onto (leaves x))) × IsBase e × (nodes x < nodes e)
inner-Member e x k is = (λ h. lowered-as e _ (A.leaves-Member e x k is) h, base-as e _ (A.leaves-Member e x k is) (onto-twice (leaves x)), omega (arith, N.nodes-Member e x k is))

pub inner-Index : (e : Expr) (x y : Expr) → e.form ≡ V.Index x y → Lowered e (Each IsLowered (onto (leaves x)) × AreLowered y) × IsBase e × (nodes x < nodes e) × (nodes y < nodes e)
inner-Index e x y is = (λ h. lowered-as e _ (A.leaves-Index e x y is) (each-both (indexed (leaves x)) (leaves y) (A.lowered-index (leaves x) h.0) h.1), base-as e _ (A.leaves-Index e x y is) (onto-indexed (leaves x) (leaves y)), omega (arith, N.nodes-Index e x y is), omega (arith, N.nodes-Index e x y is))

pub inner-Part : (e : Expr) (x : Expr) (left right : ℤ) → e.form ≡ V.Part x left right → Lowered e (Each IsLowered (onto (leaves x))) × IsBase e × (nodes x < nodes e)
inner-Part e x left right is = (λ h. lowered-as e _ (A.leaves-Part e x left right is) h, base-as e _ (A.leaves-Part e x left right is) (onto-twice (leaves x)), omega (arith, N.nodes-Part e x left right is))

pub inner-Slide : (e : Expr) (x y : Expr) (n : ℕ) (up : Bool) → e.form ≡ V.Slide x y n up → Lowered e (Each IsLowered (onto (leaves x)) × AreLowered y) × IsBase e × (nodes x < nodes e) × (nodes y < nodes e)
inner-Slide e x y n up is = (λ h. lowered-as e _ (A.leaves-Slide e x y n up is) (each-both (onto (leaves x)) (leaves y) h.0 h.1), base-as e _ (A.leaves-Slide e x y n up is) (onto-again (leaves x) (leaves y)), omega (arith, N.nodes-Slide e x y n up is), omega (arith, N.nodes-Slide e x y n up is))

pub inner-Unary : (e : Expr) (op : UnOp) (x : Expr) → e.form ≡ V.Unary op x → Lowered e (AreLowered x) × IsBase e × (nodes x < nodes e)
inner-Unary e op x is = (λ h. lowered-as e _ (A.leaves-Unary e op x is) (tt, h), base-as e _ (A.leaves-Unary e op x is) (λ h. h), omega (arith, N.nodes-Unary e x op is))

pub inner-Reduce : (e : Expr) (op : RedOp) (x : Expr) → e.form ≡ V.Reduce op x → Lowered e (AreLowered x) × IsBase e × (nodes x < nodes e)
inner-Reduce e op x is = (λ h. lowered-as e _ (A.leaves-Reduce e op x is) (tt, h), base-as e _ (A.leaves-Reduce e op x is) (λ h. h), omega (arith, N.nodes-Reduce e x op is))

pub inner-Negate : (e : Expr) (x : Expr) → e.form ≡ V.Negate x → Lowered e (AreLowered x) × IsBase e × (nodes x < nodes e)
inner-Negate e x is = (λ h. lowered-as e _ (A.leaves-Negate e x is) (tt, h), base-as e _ (A.leaves-Negate e x is) (λ h. h), omega (arith, N.nodes-Negate e x is))

pub inner-Binary : (e : Expr) (op : BinOp) (x y : Expr) → e.form ≡ V.Binary op x y → Lowered e (AreLowered x × AreLowered y) × IsBase e × (nodes x < nodes e) × (nodes y < nodes e)
inner-Binary e op x y is = (λ h. lowered-as e _ (A.leaves-Binary e op x y is) (tt, each-both (leaves x) (leaves y) h.0 h.1), base-as e _ (A.leaves-Binary e op x y is) (λ h. h), omega (arith, N.nodes-Binary e x y op is), omega (arith, N.nodes-Binary e x y op is))

pub inner-Shift : (e : Expr) (op : ShiftOp) (x y : Expr) → e.form ≡ V.Shift op x y → Lowered e (AreLowered x × AreLowered y) × IsBase e × (nodes x < nodes e) × (nodes y < nodes e)
inner-Shift e op x y is = (λ h. lowered-as e _ (A.leaves-Shift e op x y is) (tt, each-both (leaves x) (leaves y) h.0 h.1), base-as e _ (A.leaves-Shift e op x y is) (λ h. h), omega (arith, N.nodes-Shift e x y op is), omega (arith, N.nodes-Shift e x y op is))

pub inner-Power : (e : Expr) (x y : Expr) → e.form ≡ V.Power x y → Lowered e (AreLowered x × AreLowered y) × IsBase e × (nodes x < nodes e) × (nodes y < nodes e)
inner-Power e x y is = (λ h. lowered-as e _ (A.leaves-Power e x y is) (tt, each-both (leaves x) (leaves y) h.0 h.1), base-as e _ (A.leaves-Power e x y is) (λ h. h), omega (arith, N.nodes-Power e x y is), omega (arith, N.nodes-Power e x y is))

pub inner-Order : (e : Expr) (op : OrdOp) (x y : Expr) → e.form ≡ V.Order op x y → Lowered e (AreLowered x × AreLowered y) × IsBase e × (nodes x < nodes e) × (nodes y < nodes e)
inner-Order e op x y is = (λ h. lowered-as e _ (A.leaves-Order e op x y is) (tt, each-both (leaves x) (leaves y) h.0 h.1), base-as e _ (A.leaves-Order e op x y is) (λ h. h), omega (arith, N.nodes-Order e x y op is), omega (arith, N.nodes-Order e x y op is))

pub inner-Equal : (e : Expr) (op : EqOp) (negated : Bool) (x y : Expr) → e.form ≡ V.Equal op negated x y → Lowered e (AreLowered x × AreLowered y) × IsBase e × (nodes x < nodes e) × (nodes y < nodes e)
inner-Equal e op negated x y is = (λ h. lowered-as e _ (A.leaves-Equal e op negated x y is) (tt, each-both (leaves x) (leaves y) h.0 h.1), base-as e _ (A.leaves-Equal e op negated x y is) (λ h. h), omega (arith, N.nodes-Equal e x y op negated is), omega (arith, N.nodes-Equal e x y op negated is))

pub inner-Both : (e : Expr) (x y : Expr) → e.form ≡ V.Both x y → Lowered e (AreLowered x × AreLowered y) × IsBase e × (nodes x < nodes e) × (nodes y < nodes e)
inner-Both e x y is = (λ h. lowered-as e _ (A.leaves-Both e x y is) (tt, each-both (leaves x) (leaves y) h.0 h.1), base-as e _ (A.leaves-Both e x y is) (λ h. h), omega (arith, N.nodes-Both e x y is), omega (arith, N.nodes-Both e x y is))

pub inner-Either : (e : Expr) (x y : Expr) → e.form ≡ V.Either x y → Lowered e (AreLowered x × AreLowered y) × IsBase e × (nodes x < nodes e) × (nodes y < nodes e)
inner-Either e x y is = (λ h. lowered-as e _ (A.leaves-Either e x y is) (tt, each-both (leaves x) (leaves y) h.0 h.1), base-as e _ (A.leaves-Either e x y is) (λ h. h), omega (arith, N.nodes-Either e x y is), omega (arith, N.nodes-Either e x y is))

pub inner-Choose : (e : Expr) (z x y : Expr) → e.form ≡ V.Choose z x y → Lowered e (AreLowered z × AreLowered x × AreLowered y) × IsBase e × (nodes z < nodes e) × (nodes x < nodes e) × (nodes y < nodes e)
inner-Choose e z x y is = (λ h. lowered-as e _ (A.leaves-Choose e z x y is) (tt, each-both (leaves z) (leaves x ++ leaves y) h.0 (each-both (leaves x) (leaves y) h.1 h.2)), base-as e _ (A.leaves-Choose e z x y is) (λ h. h), omega (arith, N.nodes-Choose e z x y is), omega (arith, N.nodes-Choose e z x y is), omega (arith, N.nodes-Choose e z x y is))

pub inner-Concat : (e : Expr) (es : List Expr) → e.form ≡ V.Concat es → Lowered e (AllLowered es) × (total (map nodes es) < nodes e)
inner-Concat e es is = (λ h. lowered-as e _ (A.leaves-Concat e es is) (tt, all-each es h), omega (arith, N.nodes-Concat e es is))

pub inner-Repeat : (e : Expr) (n : ℕ) (es : List Expr) → e.form ≡ V.Repeat n es → Lowered e (AllLowered es) × IsBase e × (total (map nodes es) < nodes e)
inner-Repeat e n es is = (λ h. lowered-as e _ (A.leaves-Repeat e n es is) (tt, all-each es h), base-as e _ (A.leaves-Repeat e n es is) (λ h. h), omega (arith, N.nodes-Repeat e n es is))

pub inner-Inside : (e : Expr) (x : Expr) (cs : List Choice) → e.form ≡ V.Inside x cs → Lowered e (AreLowered x × AllChoicesLowered cs) × IsBase e × (nodes x < nodes e) × (total (map choice_nodes cs) < nodes e)
inner-Inside e x cs is = (λ h. lowered-as e _ (A.leaves-Inside e x cs is) (tt, each-both (leaves x) (together (map choice_leaves cs)) h.0 (choices-each cs h.1)), base-as e _ (A.leaves-Inside e x cs is) (λ h. h), omega (arith, N.nodes-Inside e x cs is), omega (arith, N.nodes-Inside e x cs is))

pub inner-Cast : (e : Expr) (x : Expr) → e.form ≡ V.Cast x → Lowered e (AreLowered x) × IsBase e × (nodes x < nodes e)
inner-Cast e x is = (λ h. lowered-as e _ (A.leaves-Cast e x is) (tt, h), base-as e _ (A.leaves-Cast e x is) (λ h. h), omega (arith, N.nodes-Cast e x is))

pub inner-Clog2 : (e : Expr) (x : Expr) → e.form ≡ V.Clog2 x → Lowered e (AreLowered x) × IsBase e × (nodes x < nodes e)
inner-Clog2 e x is = (λ h. lowered-as e _ (A.leaves-Clog2 e x is) (tt, h), base-as e _ (A.leaves-Clog2 e x is) (λ h. h), omega (arith, N.nodes-Clog2 e x is))

pub inner-Pattern : (e : Expr) (es : List Expr) → e.form ≡ V.Pattern es → Lowered e (AllLowered es) × IsBase e × (total (map nodes es) < nodes e)
inner-Pattern e es is = (λ h. lowered-as e _ (A.leaves-Pattern e es is) (tt, all-each es h), base-as e _ (A.leaves-Pattern e es is) (λ h. h), omega (arith, N.nodes-Pattern e es is))

pub inner-Call : (e : Expr) (f : ℕ) (es : List Expr) → e.form ≡ V.Call f es → Lowered e (AllLowered es) × IsBase e × (total (map nodes es) < nodes e)
inner-Call e f es is = (λ h. lowered-as e _ (A.leaves-Call e f es is) (tt, all-each es h), base-as e _ (A.leaves-Call e f es is) (λ h. h), omega (arith, N.nodes-Call e f es is))

pub ruleset inner = (inner-Literal, inner-Fill, inner-Constant, inner-Signal, inner-Local, inner-Member, inner-Index, inner-Part, inner-Slide, inner-Unary, inner-Reduce, inner-Negate, inner-Binary, inner-Shift, inner-Power, inner-Order, inner-Equal, inner-Both, inner-Either, inner-Choose, inner-Concat, inner-Repeat, inner-Inside, inner-Cast, inner-Clog2, inner-Pattern, inner-Call)
