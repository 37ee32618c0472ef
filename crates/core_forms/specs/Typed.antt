-- A core design as a design of the elaborated language. Where its parts stood in the source isn't known.
use Rattle.std.specs.Prelude.{ℕ, suc, ◌-◌, ◌==◌, min, max, Bool, true, false, pos, List, [], ◌∷◌, length, map, Option, Some, None, if◌then◌else◌}
use Rattle.b4_core.specs.declared.bit.Bit4.{Bit4}
use Rattle.b4_core.specs.declared.operators.UnOp.TheVariants.{Not}
use Rattle.sv_source.specs.declared.token.Spot.{Spot}
use Rattle.sv_types.specs.declared.types.SvType.{SvType}
use Rattle.sv_types.specs.declared.types.SvType.TheVariants.{Scalar, PackedArray}
use Rattle.sv_types.specs.declared.expression.Expr.{Expr}
use Rattle.sv_types.specs.declared.expression.Form.{Form}
use Rattle.sv_types.specs.declared.expression.Form.TheVariants as V
use Rattle.sv_types.specs.declared.statement.Stmt.{Stmt}
use Rattle.sv_types.specs.declared.statement.Stmt.TheVariants as Y
use Rattle.sv_types.specs.declared.design.SignalKind.{SignalKind}
use Rattle.sv_types.specs.declared.design.SignalKind.TheVariants as K
use Rattle.sv_types.specs.declared.design.Signal.{Signal}
use Rattle.sv_types.specs.declared.design.EdgeOn.{EdgeOn}
use Rattle.sv_types.specs.declared.design.ProcessKind.{ProcessKind}
use Rattle.sv_types.specs.declared.design.ProcessKind.TheVariants.{Continuous, Comb, Edges}
use Rattle.sv_types.specs.declared.design.Process.{Process}
use Rattle.sv_types.specs.declared.design.InstancePort.{InstancePort}
use Rattle.sv_types.specs.declared.design.InstancePort.TheVariants as I
use Rattle.sv_types.specs.declared.design.Instance.{Instance}
use Rattle.sv_types.specs.declared.design.Design.{Design}
use Rattle.sv_types.specs.Values.{default}
use Rattle.sv_core.specs.declared.design.SignalKind as CoreKind
use Rattle.sv_core.specs.declared.design.SignalKind.TheVariants.{InputNet, OutputVar, Variable}
use Rattle.sv_core.specs.declared.design.Signal as CoreSignal
use Rattle.sv_core.specs.declared.design.Primary.{Primary}
use Rattle.sv_core.specs.declared.design.Primary.TheVariants as P
use Rattle.sv_core.specs.declared.design.Operand.{Operand}
use Rattle.sv_core.specs.declared.design.Expr as CoreExpr
use Rattle.sv_core.specs.declared.design.Expr.TheVariants.{Single, Binary}
use Rattle.sv_core.specs.declared.design.Stmt as CoreStmt
use Rattle.sv_core.specs.declared.design.EdgeOn as CoreEdge
use Rattle.sv_core.specs.declared.design.ProcessKind as CoreProcessKind
use Rattle.sv_core.specs.declared.design.ProcessKind.TheVariants as Q
use Rattle.sv_core.specs.declared.design.Process as CoreProcess
use Rattle.sv_core.specs.declared.design.Design as Core
use Rattle.sv_core.specs.Value.{primary_width}
use Rattle.sv_core.specs.Statements.{width_of}

abbrev pub nowhere : Spot
nowhere = record { at = 0; place = record { file = 0; line = 0; col = 0 }; word = [] }

-- `logic`, and `logic [w - 1:0]`
abbrev pub bit_type : SvType
bit_type = Scalar true false

abbrev pub vector_of : ℕ → SvType
vector_of w = if w == 1 then bit_type else PackedArray (pos (min w 4194304 - 1)) (pos 0) false bit_type

abbrev pub node : ℕ → Form → Expr
node w form = record { of = vector_of w; spot = nowhere; form = form }

abbrev pub typed_form : Primary → Form
typed_form (P.Signal n) = V.Signal n
typed_form (P.Literal bits) = V.Literal bits false

abbrev pub typed_edge : CoreEdge.EdgeOn → EdgeOn
typed_edge e = record { signal = e.signal; rising = e.rising; spot = nowhere }

abbrev pub typed_kind : CoreProcessKind.ProcessKind → ProcessKind
typed_kind Q.Continuous = Continuous
typed_kind Q.Comb = Comb
typed_kind (Q.Edges es) = Edges (map typed_edge es)

abbrev pub inverted_if : Bool → ℕ → Expr → Expr
inverted_if true w e = node w (V.Unary Not e)
inverted_if false w e = e

module _ (signals : List CoreSignal.Signal) where
  abbrev pub bits_of : Primary → ℕ
  bits_of p = primary_width (width_of signals) p

  abbrev pub typed_primary : Primary → Expr
  typed_primary p = node (bits_of p) (typed_form p)

  abbrev pub typed_operand : Operand → Expr
  typed_operand a = inverted_if a.inverted (bits_of a.primary) (typed_primary a.primary)

  abbrev pub typed_expr : CoreExpr.Expr → Expr
  typed_expr (Single a) = typed_operand a
  typed_expr (Binary op a b) = node (max (bits_of a.primary) (bits_of b.primary)) (V.Binary op (typed_operand a) (typed_operand b))

  abbrev pub assigned : ℕ → CoreExpr.Expr → Bool → Stmt
  assigned to value later = Y.Assign (typed_primary (P.Signal to) ∷ []) (typed_expr value) later nowhere

  abbrev pub typed_step : CoreStmt.Stmt-F Stmt → Stmt
  typed_step (CoreStmt.Stmt-F.Block ss) = Y.Block [] ss
  typed_step (CoreStmt.Stmt-F.If on body other) = Y.If (typed_expr on) body other
  typed_step (CoreStmt.Stmt-F.Assign to value later) = assigned to value later

  abbrev pub typed_stmt : CoreStmt.Stmt → Stmt
  typed_stmt = CoreStmt.fold-Stmt Stmt typed_step

  abbrev pub typed_process : CoreProcess.Process → Process
  typed_process p = record { instance = 1; kind = typed_kind p.kind; body = typed_stmt p.body; spot = nowhere }

abbrev pub typed_signal_kind : CoreKind.SignalKind → SignalKind
typed_signal_kind InputNet = K.InputNet
typed_signal_kind OutputVar = K.OutputVar
typed_signal_kind Variable = K.Variable

abbrev pub typed_signal : CoreSignal.Signal → Signal
typed_signal s = record {
  instance = 1;
  path = s.path;
  of = vector_of s.width;
  kind = typed_signal_kind s.kind;
  initial = default (vector_of s.width);
  declared = false;
  spot = nowhere;
}

-- the ports, of signals that are numbered from n on
abbrev pub port_if : CoreKind.SignalKind → ℕ → List InstancePort → List InstancePort
port_if InputNet n rest = I.Signal n ∷ rest
port_if OutputVar n rest = I.Signal n ∷ rest
port_if Variable n rest = rest

abbrev pub ports_from : ℕ → List CoreSignal.Signal → List InstancePort
ports_from n [] = []
ports_from n (s ∷ ss) = port_if s.kind n (ports_from (suc n) ss)

abbrev pub top_instance : Core.Design → Instance
top_instance d = record { parent = 0; name = []; «module» = d.top; binding = 0; interface = false; ports = ports_from 0 d.signals }

abbrev pub typed : Core.Design → Design
typed d = record {
  instances = top_instance d ∷ [];
  signals = map typed_signal d.signals;
  processes = map (typed_process d.signals) d.processes;
  functions = [];
}
