-- The core form of an elaborated design, where it has one: the forms that are translated.
use Rattle.std.specs.Prelude.{ℕ, nat_le, Bool, true, false, List, [], ◌∷◌, map, Option, Some, None, if◌then◌else◌}
use Rattle.b4_core.specs.declared.bit.Bit4.{Bit4}
use Rattle.b4_core.specs.declared.operators.UnOp.{UnOp}
use Rattle.b4_core.specs.declared.operators.UnOp.TheVariants as U
use Rattle.sv_types.specs.declared.types.SvType.{SvType}
use Rattle.sv_types.specs.declared.expression.Expr as X
use Rattle.sv_types.specs.declared.expression.Form.{Form, Form-F, out-Form}
use Rattle.sv_types.specs.declared.expression.Choice.{Choice}
use Rattle.sv_types.specs.declared.statement.Local.{Local}
use Rattle.sv_types.specs.declared.statement.Stmt as Y
use Rattle.sv_types.specs.declared.statement.CaseItem.{CaseItem-F}
use Rattle.sv_types.specs.declared.design.SignalKind as K
use Rattle.sv_types.specs.declared.design.SignalKind.TheVariants as KV
use Rattle.sv_types.specs.declared.design.Signal as G
use Rattle.sv_types.specs.declared.design.EdgeOn as E
use Rattle.sv_types.specs.declared.design.ProcessKind as Q
use Rattle.sv_types.specs.declared.design.ProcessKind.TheVariants as QV
use Rattle.sv_types.specs.declared.design.Process as R
use Rattle.sv_types.specs.declared.design.Instance.{Instance}
use Rattle.sv_types.specs.declared.design.Design as D
use Rattle.sv_types.specs.Layouts.{width_of}
use Rattle.sv_core.specs.declared.design.SignalKind.{SignalKind}
use Rattle.sv_core.specs.declared.design.SignalKind.TheVariants.{InputNet, OutputVar, Variable}
use Rattle.sv_core.specs.declared.design.Signal.{Signal}
use Rattle.sv_core.specs.declared.design.Primary.{Primary}
use Rattle.sv_core.specs.declared.design.Primary.TheVariants as P
use Rattle.sv_core.specs.declared.design.Operand.{Operand}
use Rattle.sv_core.specs.declared.design.Expr.{Expr}
use Rattle.sv_core.specs.declared.design.Expr.TheVariants.{Single, Binary}
use Rattle.b4_core.specs.declared.operators.BinOp.{BinOp}
use Rattle.sv_core.specs.declared.design.Stmt.{Stmt}
use Rattle.sv_core.specs.declared.design.Stmt.TheVariants.{Block, If, Assign}
use Rattle.sv_core.specs.declared.design.EdgeOn.{EdgeOn}
use Rattle.sv_core.specs.declared.design.ProcessKind.{ProcessKind}
use Rattle.sv_core.specs.declared.design.ProcessKind.TheVariants.{Continuous, Comb, Edges}
use Rattle.sv_core.specs.declared.design.Process.{Process}
use Rattle.sv_core.specs.declared.design.Design.{Design}

-- what f makes of the value, of both values, of each
abbrev pub then_one : {A B : Type 0} → (A → B) → Option A → Option B
then_one f None = None
then_one f (Some x) = Some (f x)

abbrev pub then_two : {A B C : Type 0} → (A → B → C) → Option A → Option B → Option C
then_two f None b = None
then_two f (Some x) None = None
then_two f (Some x) (Some y) = Some (f x y)

abbrev pub each : {A B : Type 0} → (A → Option B) → List A → Option (List B)
each f [] = Some []
each f (x ∷ xs) = then_two (λ y ys. y ∷ ys) (f x) (each f xs)

abbrev pub FormLayer : Type 0
FormLayer = Form-F Choice Form X.Expr

-- a whole signal, or a literal of its own width
abbrev pub literal_of : List Bit4 → Bool → Option Primary
literal_of bits goes_on = if goes_on then None else Some (P.Literal bits)

abbrev pub primary_in : FormLayer → Option Primary
primary_in (Form-F.Signal n) = Some (P.Signal n)
primary_in (Form-F.Literal bits goes_on) = literal_of bits goes_on
primary_in _ = None

abbrev pub primary_of : X.Expr → Option Primary
primary_of e = primary_in (out-Form e.form)

-- a primary, or `~` and a primary
abbrev pub operand_with : Bool → Primary → Operand
operand_with inverted primary = record { inverted = inverted; primary = primary }

abbrev pub inverted_of : UnOp → X.Expr → Option Operand
inverted_of U.Not e = then_one (operand_with true) (primary_of e)
inverted_of U.Neg e = None

abbrev pub operand_in : X.Expr → FormLayer → Option Operand
operand_in e (Form-F.Unary op a) = inverted_of op a
operand_in e _ = then_one (operand_with false) (primary_of e)

abbrev pub operand_of : X.Expr → Option Operand
operand_of e = operand_in e (out-Form e.form)

-- an operand, or an operator whose operands take the width of the context between two operands
abbrev pub binary_with : BinOp → Operand → Operand → Expr
binary_with op a b = Binary op a b

abbrev pub expr_in : X.Expr → FormLayer → Option Expr
expr_in e (Form-F.Binary op a b) = then_two (binary_with op) (operand_of a) (operand_of b)
expr_in e _ = then_one Single (operand_of e)

abbrev pub expr_of : X.Expr → Option Expr
expr_of e = expr_in e (out-Form e.form)

-- one whole signal
abbrev pub target_in : FormLayer → Option ℕ
target_in (Form-F.Signal n) = Some n
target_in _ = None

abbrev pub target_of : List X.Expr → Option ℕ
target_of [] = None
target_of (t ∷ []) = target_in (out-Form t.form)
target_of (t ∷ u ∷ ts) = None

-- blocks without locals, `if`s and assignments
abbrev pub block_of : List Local → Option (List Stmt) → Option Stmt
block_of [] ss = then_one Block ss
block_of (l ∷ ls) ss = None

abbrev pub other_of : Option (Option Stmt) → Option (Option Stmt)
other_of None = Some None
other_of (Some s) = then_one Some s

abbrev pub applied : {A B : Type 0} → (A → B) → A → B
applied f x = f x

abbrev pub if_of : Option Expr → Option Stmt → Option (Option Stmt) → Option Stmt
if_of on body other = then_two applied (then_two If on body) other

abbrev pub assign_with : Bool → ℕ → Expr → Stmt
assign_with later to value = Assign to value later

abbrev pub stmt_step : Y.Stmt-F (Option Stmt) (Option Stmt) → Option Stmt
stmt_step (Y.Stmt-F.Block locals body) = block_of locals (each (λ s. s) body)
stmt_step (Y.Stmt-F.If on body other) = if_of (expr_of on) body (other_of other)
stmt_step (Y.Stmt-F.Case kind on items other) = None
stmt_step (Y.Stmt-F.Loop n first test step body spot) = None
stmt_step (Y.Stmt-F.Assign to value later spot) = then_two (assign_with later) (target_of to) (expr_of value)
stmt_step (Y.Stmt-F.Call f actuals spot) = None
stmt_step (Y.Stmt-F.Made locals before body) = None
stmt_step Y.Stmt-F.Break = None
stmt_step Y.Stmt-F.Continue = None
stmt_step Y.Stmt-F.Return = None

abbrev pub item_step : CaseItem-F (Option Stmt) (Option Stmt) → Option Stmt
item_step i = i.body

abbrev pub stmt_of : Y.Stmt → Option Stmt
stmt_of = Y.fold-Stmt (Option Stmt) (Option Stmt) stmt_step item_step

-- continuous assignments, `always_comb` and edge processes
abbrev pub edge_of : E.EdgeOn → EdgeOn
edge_of e = record { signal = e.signal; rising = e.rising }

abbrev pub kind_of : Q.ProcessKind → Option ProcessKind
kind_of QV.Continuous = Some Continuous
kind_of (QV.Link port) = None
kind_of QV.Comb = Some Comb
kind_of QV.Latch = None
kind_of QV.Star = None
kind_of (QV.Edges es) = Some (Edges (map edge_of es))

abbrev pub process_with : ProcessKind → Stmt → Process
process_with kind body = record { kind = kind; body = body }

abbrev pub process_of : R.Process → Option Process
process_of p = then_two process_with (kind_of p.kind) (stmt_of p.body)

-- nets that are inputs, variables that are outputs, and variables inside
abbrev pub signal_kind_of : K.SignalKind → Option SignalKind
signal_kind_of KV.InputNet = Some InputNet
signal_kind_of KV.InputVar = None
signal_kind_of KV.OutputNet = None
signal_kind_of KV.OutputVar = Some OutputVar
signal_kind_of KV.Net = None
signal_kind_of KV.Variable = Some Variable

abbrev pub signal_with : G.Signal → SignalKind → Signal
signal_with s kind = record { path = s.path; width = width_of s.of; kind = kind }

abbrev pub signal_of : G.Signal → Option Signal
signal_of s = if nat_le (width_of s.of) 4194304 then then_one (signal_with s) (signal_kind_of s.kind) else None

-- the name of the top's module
abbrev pub top_of : List Instance → List ℕ
top_of [] = []
top_of (i ∷ is) = i.module

abbrev pub design_with : List ℕ → List Signal → List Process → Design
design_with top signals processes = record { top = top; signals = signals; processes = processes }

abbrev pub core_of : D.Design → Option Design
core_of d = then_two (design_with (top_of d.instances)) (each signal_of d.signals) (each process_of d.processes)
