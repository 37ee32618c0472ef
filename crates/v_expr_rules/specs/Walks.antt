-- What is kept of an expression that begins at a token, where names stand for things.
use Rattle.std.specs.Prelude.{ℕ, suc, List, [], ◌∷◌, Option, Some, None, length, slice_get}
use Rattle.v_tree.specs.Names.{Name}
use Rattle.v_tree.specs.ExprRules.{kind_of, spreads, is_negative}
use Rattle.v_tree.specs.declared.expressions.VExpr.{VExpr, VExpr-F, fold-VExpr}
use Rattle.v_tree.specs.declared.expressions.VPrim.{VPrim, VPrim-F, fold-VPrim}
use Rattle.v_tree.specs.declared.expressions.VSel.{VSel, VSel-F, fold-VSel}
use Rattle.v_tree.specs.declared.items.VItem.{VItem}
use Rattle.v_tree.specs.declared.items.VItem.TheVariants as I
use Rattle.v_tree.specs.declared.items.VLocal.{VLocal}
use Rattle.v_scopes.specs.Env.{Env}
use Rattle.v_scopes.specs.declared.entry.Entry.{Entry}
use Rattle.v_scopes.specs.declared.entry.Entry.TheVariants as N
use Rattle.v_expr_rules.specs.declared.seen.Seen.{Seen}
use Rattle.v_expr_rules.specs.declared.sels.SelSeen.{SelSeen}
use Rattle.v_expr_rules.specs.declared.sels.SelsSeen.{SelsSeen}
use Rattle.v_expr_rules.specs.declared.lists.ListSeen.{ListSeen}
use Rattle.v_expr_rules.specs.Seen.{plus, number_seen, paren_seen, sign_seen, decimal_sel, moving_sel, no_sels, sel_added, name_seen, no_items, commas, input_wide, item_added, concat_seen, repeat_seen, call_seen, binary_seen, unary_seen, choose_seen}

-- the inputs of the function at an item
abbrev pub inputs_in : Option VItem → List VLocal
inputs_in None = []
inputs_in (Some (I.Signal s)) = []
inputs_in (Some (I.Initial i)) = []
inputs_in (Some (I.Process p)) = []
inputs_in (Some (I.Function f)) = f.inputs
inputs_in (Some (I.Instance i)) = []

abbrev pub inputs_of : List VItem → Option Entry → List VLocal
inputs_of items None = []
inputs_of items (Some (N.Value kind left)) = []
inputs_of items (Some (N.Memory left)) = []
inputs_of items (Some (N.Function left item)) = inputs_in (slice_get items item)
inputs_of items (Some (N.Result left item)) = inputs_in (slice_get items item)
inputs_of items (Some N.Part) = []

abbrev pub Walk : Type 0
Walk = Env → List VItem → ℕ → Seen

abbrev pub SelWalk : Type 0
SelWalk = Env → List VItem → ℕ → SelSeen

-- selects one behind the other, where the first one begins at a token
abbrev pub sels_from : List SelWalk → Env → List VItem → ℕ → SelsSeen → SelsSeen
sels_from [] env items start ss = ss
sels_from (w ∷ ws) env items start ss =
    sels_from ws env items start (sel_added ss (plus start ss.size) (w env items (plus start ss.size)))

-- a list with commas, of which so many items are seen, as arguments for these inputs
abbrev pub list_from : List Walk → Env → List VItem → List VLocal → ℕ → ℕ → ListSeen → ListSeen
list_from [] env items inputs start i l = l
list_from (w ∷ ws) env items inputs start i l =
    list_from ws env items inputs start (suc i)
    (item_added (input_wide (slice_get inputs i)) l (commas i l.size) (w env items (plus start (commas i l.size))))

abbrev pub sel_walk : VSel-F Walk Walk SelWalk → SelWalk
sel_walk (VSel-F.Decimal base extent) env items at = decimal_sel base extent at
sel_walk (VSel-F.Expr base extent) env items at = moving_sel (base env items (plus at 1)) extent at

abbrev pub prim_walk : VPrim-F Walk Walk SelWalk → Walk
prim_walk (VPrim-F.Number bits) env items at = number_seen bits
prim_walk (VPrim-F.Paren inner) env items at = paren_seen (inner env items (plus at 1))
prim_walk (VPrim-F.Name name sels) env items at = name_seen (env name) (sels_from sels env items (plus at 1) no_sels) at
prim_walk (VPrim-F.Call name args) env items at =
    let inputs = inputs_of items (env name) in
    call_seen (env name) (length inputs) (length args) (list_from args env items inputs (plus at 2) 0 no_items) at
prim_walk (VPrim-F.Repeat count parts) env items at = repeat_seen count (list_from parts env items [] (plus at 3) 0 no_items) at
prim_walk (VPrim-F.Concat parts) env items at = concat_seen (list_from parts env items [] (plus at 1) 0 no_items)
prim_walk (VPrim-F.Sign signed of) env items at = sign_seen (of env items (plus at 2))

abbrev pub expr_walk : VExpr-F Walk Walk SelWalk → Walk
expr_walk (VExpr-F.Prim a) env items at = a env items at
expr_walk (VExpr-F.Unary op a) env items at = unary_seen (spreads op) (is_negative op) (a env items (plus at 1)) at
expr_walk (VExpr-F.Binary op a b) env items at =
    let left = a env items at in binary_seen (kind_of op) left (b env items (plus at (plus 1 left.size))) at
expr_walk (VExpr-F.Choose on a b) env items at =
    let test = on env items at in
    let arm = a env items (plus at (plus 1 test.size)) in
    choose_seen test arm (b env items (plus at (plus (plus 1 test.size) (plus 1 arm.size))))

abbrev pub expr_seen : VExpr → Walk
expr_seen = fold-VExpr Walk Walk SelWalk expr_walk prim_walk sel_walk

abbrev pub prim_seen : VPrim → Walk
prim_seen = fold-VPrim Walk Walk SelWalk expr_walk prim_walk sel_walk

abbrev pub sel_seen : VSel → SelWalk
sel_seen = fold-VSel Walk Walk SelWalk expr_walk prim_walk sel_walk
