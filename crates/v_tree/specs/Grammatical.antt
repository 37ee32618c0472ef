-- Which trees are trees of the target grammar: each has a text, and the text that the layout gives it reads as it again.
use Rattle.std.specs.Prelude.{ℕ, suc, max, nat_le, nat_lt, Bool, true, false, not, ◌&&◌, List, [], ◌∷◌, length, map, Option, Some, None, if◌then◌else◌}
use Rattle.std.specs.List.{list_all}
use Rattle.b4_core.specs.declared.bit.Bit4.{Bit4}
use Rattle.v_tree.specs.Tokens.{is_name}
use Rattle.v_tree.specs.Reading.{nesting_limit}
use Rattle.v_tree.specs.declared.expressions.VExpr.{VExpr, VExpr-F, fold-VExpr}
use Rattle.v_tree.specs.declared.expressions.VExtent.{VExtent}
use Rattle.v_tree.specs.declared.expressions.VExtent.TheVariants.{Down, Up}
use Rattle.v_tree.specs.declared.expressions.VPrim.{VPrim-F}
use Rattle.v_tree.specs.declared.expressions.VSel.{VSel, VSel-F, fold-VSel}
use Rattle.v_tree.specs.declared.items.VConnection.{VConnection}
use Rattle.v_tree.specs.declared.items.VDesign.{VDesign}
use Rattle.v_tree.specs.declared.items.VEdge.{VEdge}
use Rattle.v_tree.specs.declared.items.VFunction.{VFunction}
use Rattle.v_tree.specs.declared.items.VInit.{VInit}
use Rattle.v_tree.specs.declared.items.VInit.TheVariants as V
use Rattle.v_tree.specs.declared.items.VInstance.{VInstance}
use Rattle.v_tree.specs.declared.items.VItem.{VItem}
use Rattle.v_tree.specs.declared.items.VItem.TheVariants as I
use Rattle.v_tree.specs.declared.items.VLocal.{VLocal}
use Rattle.v_tree.specs.declared.items.VModule.{VModule}
use Rattle.v_tree.specs.declared.items.VProcess.{VProcess}
use Rattle.v_tree.specs.declared.items.VProcess.TheVariants.{Assign, Always}
use Rattle.v_tree.specs.declared.items.VRegRest.{VRegRest}
use Rattle.v_tree.specs.declared.items.VRegRest.TheVariants as R
use Rattle.v_tree.specs.declared.items.VSensitivity.{VSensitivity}
use Rattle.v_tree.specs.declared.items.VSensitivity.TheVariants.{Star, Edges}
use Rattle.v_tree.specs.declared.items.VSignal.{VSignal}
use Rattle.v_tree.specs.declared.items.VSignal.TheVariants.{Input, Output, OutputReg, Wire, Reg}
use Rattle.v_tree.specs.declared.statements.VBranch.{VBranch, VBranch-F, fold-VBranch}
use Rattle.v_tree.specs.declared.statements.VCaseItem.{VCaseItem-F}
use Rattle.v_tree.specs.declared.statements.VLabel.{VLabel}
use Rattle.v_tree.specs.declared.statements.VLval.{VLval, VLval-F, fold-VLval}
use Rattle.v_tree.specs.declared.statements.VStmt.{VStmt, VStmt-F, fold-VStmt}

-- a number has from 1 to 128 bits
abbrev pub is_number : List Bit4 → Bool
is_number bits = nat_le 1 (length bits) && nat_le (length bits) 128

-- a decimal number is below 2^32
abbrev pub is_decimal : ℕ → Bool
is_decimal n = nat_lt n 4294967296

abbrev pub has_some : {A : Type 0} → List A → Bool
has_some [] = false
has_some (x ∷ xs) = true

abbrev pub is_perhaps : {A : Type 0} → (A → Bool) → Option A → Bool
is_perhaps test None = true
is_perhaps test (Some x) = test x

-- What an expression, a target or a select needs: that it is of the grammar, and how deep it nests.
pub record Fit : Type 0 where
  pub fits : Bool
  pub depth : ℕ

abbrev pub all_fit : List Fit → Bool
all_fit fs = list_all (λ (f : Fit). f.fits) fs

abbrev pub deepest : List Fit → ℕ
deepest [] = 0
deepest (f ∷ fs) = max f.depth (deepest fs)

abbrev pub is_extent : VExtent → Bool
is_extent (Down right) = is_decimal right
is_extent (Up width) = is_decimal width

abbrev pub sel_fit : VSel-F Fit Fit Fit → Fit
sel_fit (VSel-F.Decimal base extent) = record { fits = is_decimal base && is_perhaps is_extent extent; depth = 0 }
sel_fit (VSel-F.Expr base extent) = record { fits = base.fits && is_perhaps is_extent extent; depth = base.depth }

abbrev pub prim_fit : VPrim-F Fit Fit Fit → Fit
prim_fit (VPrim-F.Number bits) = record { fits = is_number bits; depth = 0 }
prim_fit (VPrim-F.Paren inner) = inner
prim_fit (VPrim-F.Name name sels) = record { fits = is_name name && nat_le (length sels) 2 && all_fit sels; depth = deepest sels }
prim_fit (VPrim-F.Call name args) = record { fits = is_name name && has_some args && all_fit args; depth = deepest args }
prim_fit (VPrim-F.Repeat count items) = record { fits = is_decimal count && has_some items && all_fit items; depth = deepest items }
prim_fit (VPrim-F.Concat items) = record { fits = has_some items && all_fit items; depth = deepest items }
prim_fit (VPrim-F.Sign signed of) = of

abbrev pub expr_fit : VExpr-F Fit Fit Fit → Fit
expr_fit (VExpr-F.Prim a) = record { fits = a.fits; depth = suc a.depth }
expr_fit (VExpr-F.Unary op a) = record { fits = a.fits; depth = suc a.depth }
expr_fit (VExpr-F.Binary op a b) = record { fits = a.fits && b.fits; depth = suc (max a.depth b.depth) }
expr_fit (VExpr-F.Choose on a b) = record { fits = on.fits && a.fits && b.fits; depth = suc (max on.depth (max a.depth b.depth)) }

abbrev pub fit : VExpr → Fit
fit = fold-VExpr Fit Fit Fit expr_fit prim_fit sel_fit

abbrev pub fit_of_sel : VSel → Fit
fit_of_sel = fold-VSel Fit Fit Fit expr_fit prim_fit sel_fit

abbrev pub lval_fit : VLval-F Fit → Fit
lval_fit (VLval-F.Name name sels) =
    record { fits = is_name name && nat_le (length sels) 2 && all_fit (map fit_of_sel sels); depth = deepest (map fit_of_sel sels) }
lval_fit (VLval-F.Concat parts) = record { fits = has_some parts && all_fit parts; depth = suc (deepest parts) }

abbrev pub fit_of_lval : VLval → Fit
fit_of_lval = fold-VLval Fit lval_fit

abbrev pub is_local : VLocal → Bool
is_local l = is_perhaps is_decimal l.range && is_name l.name

abbrev pub is_label : VLabel → Bool
is_label l = is_name l.name && list_all is_local l.locals

-- What a statement needs: also whether an `else` behind it would not be taken for its own, and whether it is a `default`.
pub record Form : Type 0 where
  pub fits : Bool
  pub depth : ℕ
  pub closed : Bool
  pub default : Bool

abbrev pub all_of_form : List Form → Bool
all_of_form fs = list_all (λ (f : Form). f.fits) fs

abbrev pub deepest_form : List Form → ℕ
deepest_form [] = 0
deepest_form (f ∷ fs) = max f.depth (deepest_form fs)

abbrev pub no_default : List Form → Bool
no_default fs = list_all (λ (f : Form). not f.default) fs

-- at most one is a `default`
abbrev pub one_default : List Form → Bool
one_default [] = true
one_default (f ∷ fs) = if f.default then no_default fs else one_default fs

abbrev pub a_form : Bool → ℕ → Bool → Form
a_form fits depth closed = record { fits = fits; depth = depth; closed = closed; default = false }

abbrev pub branch_form : VBranch-F Form Form Form → Form
branch_form (VBranch-F.Statement f) = f
branch_form VBranch-F.Empty = a_form true 0 true

abbrev pub item_form : VCaseItem-F Form Form Form → Form
item_form (VCaseItem-F.Item values body) =
    a_form (has_some values && all_fit (map fit values) && body.fits) (max (deepest (map fit values)) body.depth) true
item_form (VCaseItem-F.Default body) = record { fits = body.fits; depth = body.depth; closed = true; default = true }

-- an `if` with an `else` keeps it from an `if` that ends what it governs
abbrev pub if_form : Fit → Form → Option Form → Form
if_form on taken None = a_form (on.fits && taken.fits) (suc (max on.depth taken.depth)) false
if_form on taken (Some other) =
    a_form (on.fits && taken.fits && taken.closed && other.fits) (suc (max on.depth (max taken.depth other.depth))) other.closed

abbrev pub stmt_form : VStmt-F Form Form Form → Form
stmt_form (VStmt-F.Block label fs) = a_form (is_perhaps is_label label && all_of_form fs) (suc (deepest_form fs)) true
stmt_form (VStmt-F.If on taken other) = if_form (fit on) taken other
stmt_form (VStmt-F.Case kind on items) =
    a_form ((fit on).fits && has_some items && one_default items && all_of_form items) (suc (max (fit on).depth (deepest_form items))) true
stmt_form (VStmt-F.Assign target value later) =
    a_form ((fit_of_lval target).fits && (fit value).fits) (suc (max (fit_of_lval target).depth (fit value).depth)) true

abbrev pub form_of_stmt : VStmt → Form
form_of_stmt = fold-VStmt Form Form Form branch_form item_form stmt_form

abbrev pub form_of_branch : VBranch → Form
form_of_branch = fold-VBranch Form Form Form branch_form item_form stmt_form

-- of the grammar, and within the limit of nesting
abbrev pub is_expr : VExpr → Bool
is_expr x = (fit x).fits && nat_le (fit x).depth nesting_limit

abbrev pub is_lval : VLval → Bool
is_lval l = (fit_of_lval l).fits && nat_le (fit_of_lval l).depth nesting_limit

abbrev pub is_stmt : VStmt → Bool
is_stmt s = (form_of_stmt s).fits && nat_le (form_of_stmt s).depth nesting_limit

abbrev pub is_branch : VBranch → Bool
is_branch b = (form_of_branch b).fits && nat_le (form_of_branch b).depth nesting_limit

abbrev pub is_init : VInit → Bool
is_init (V.Number bits) = is_number bits
is_init (V.Concat pieces) = has_some pieces && list_all is_number pieces

abbrev pub is_rest : VRegRest → Bool
is_rest (R.Memory left) = is_decimal left
is_rest (R.Initial value) = is_init value

abbrev pub is_declared : Option ℕ → List ℕ → Bool
is_declared range name = is_perhaps is_decimal range && is_name name

abbrev pub is_signal : VSignal → Bool
is_signal (Input range name) = is_declared range name
is_signal (Output range name) = is_declared range name
is_signal (OutputReg range name initial) = is_declared range name && is_perhaps is_init initial
is_signal (Wire range name) = is_declared range name
is_signal (Reg range name rest) = is_declared range name && is_perhaps is_rest rest

-- there is an edge, and each stands on a name
abbrev pub is_sensitivity : VSensitivity → Bool
is_sensitivity Star = true
is_sensitivity (Edges edges) = has_some edges && list_all (λ (e : VEdge). is_name e.name) edges

abbrev pub is_process : VProcess → Bool
is_process (Assign target value) = is_lval target && is_expr value
is_process (Always on body) = is_sensitivity on && is_branch body

abbrev pub is_function : VFunction → Bool
is_function f =
    is_declared f.range f.name && has_some f.inputs && list_all is_local f.inputs && list_all is_local f.locals && is_stmt f.body

abbrev pub is_connection : VConnection → Bool
is_connection c = is_name c.port && is_perhaps is_expr c.value

abbrev pub is_instance : VInstance → Bool
is_instance i = is_name i.of && is_name i.name && list_all is_connection i.connections

abbrev pub is_item : VItem → Bool
is_item (I.Signal s) = is_signal s
is_item (I.Initial i) = is_name i.name && is_number i.value
is_item (I.Process p) = is_process p
is_item (I.Function f) = is_function f
is_item (I.Instance i) = is_instance i

abbrev pub is_module : VModule → Bool
is_module m = is_name m.name && list_all is_name m.ports && list_all is_item m.items

-- the tree is one of the grammar
abbrev pub is_of_grammar : VDesign → Bool
is_of_grammar e = list_all is_module e.modules
