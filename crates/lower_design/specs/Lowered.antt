-- The target design that this crate makes of a source design.
use Rattle.std.specs.Prelude.{ℕ, suc, ◌-◌, ◌==◌, Bool, true, false, List, [], ◌∷◌, ◌++◌, map, filter, Option, Some, None, if◌then◌else◌}
use Rattle.std.specs.List.{list_any}
use Rattle.std.specs.Option.{option_map}
use Rattle.b4_core.specs.declared.bit.Bit4.TheVariants.{Zero}
use Rattle.b4_core.specs.declared.operators.BinOp.{BinOp}
use Rattle.b4_core.specs.declared.operators.BinOp.TheVariants as B
use Rattle.row_machine.specs.Valuation.{Member}
use Rattle.sv_core.specs.declared.design.SignalKind.{SignalKind}
use Rattle.sv_core.specs.declared.design.SignalKind.TheVariants.{InputNet, OutputVar, Variable}
use Rattle.sv_core.specs.declared.design.Signal.{Signal}
use Rattle.sv_core.specs.declared.design.Primary.{Primary}
use Rattle.sv_core.specs.declared.design.Primary.TheVariants as P
use Rattle.sv_core.specs.declared.design.Operand.{Operand}
use Rattle.sv_core.specs.declared.design.Expr.{Expr}
use Rattle.sv_core.specs.declared.design.Expr.TheVariants as E
use Rattle.sv_core.specs.declared.design.Stmt.{Stmt, Stmt-F, fold-Stmt, out-Stmt}
use Rattle.sv_core.specs.declared.design.EdgeOn.{EdgeOn}
use Rattle.sv_core.specs.declared.design.ProcessKind.{ProcessKind}
use Rattle.sv_core.specs.declared.design.ProcessKind.TheVariants.{Continuous, Comb, Edges}
use Rattle.sv_core.specs.declared.design.Process.{Process}
use Rattle.sv_core.specs.declared.design.Design.{Design}
use Rattle.v_tree.specs.declared.operators.VBinaryOp.{VBinaryOp}
use Rattle.v_tree.specs.declared.operators.VBinaryOp.TheVariants as W
use Rattle.v_tree.specs.declared.operators.VUnaryOp.TheVariants as V
use Rattle.v_tree.specs.declared.expressions.VPrim.{VPrim}
use Rattle.v_tree.specs.declared.expressions.VPrim.TheVariants.{Number, Name, Paren}
use Rattle.v_tree.specs.declared.expressions.VExpr.{VExpr}
use Rattle.v_tree.specs.declared.expressions.VExpr.TheVariants.{Prim, Unary, Binary}
use Rattle.v_tree.specs.declared.statements.VLval.{VLval}
use Rattle.v_tree.specs.declared.statements.VLval.TheVariants as L
use Rattle.v_tree.specs.declared.statements.VBranch.{VBranch}
use Rattle.v_tree.specs.declared.statements.VBranch.TheVariants.{Statement, Empty}
use Rattle.v_tree.specs.declared.statements.VCaseItem.{VCaseItem}
use Rattle.v_tree.specs.declared.statements.VStmt.{VStmt, VStmt-F, out-VStmt}
use Rattle.v_tree.specs.declared.statements.VStmt.TheVariants.{Block, If, Assign}
use Rattle.v_tree.specs.declared.items.VEdge.{VEdge}
use Rattle.v_tree.specs.declared.items.VSensitivity.TheVariants.{Star, Edges as OnEdges}
use Rattle.v_tree.specs.declared.items.VSignal.{VSignal}
use Rattle.v_tree.specs.declared.items.VSignal.TheVariants as S
use Rattle.v_tree.specs.declared.items.VProcess.{VProcess}
use Rattle.v_tree.specs.declared.items.VProcess.TheVariants.{Assign as Drive, Always}
use Rattle.v_tree.specs.declared.items.VItem.{VItem}
use Rattle.v_tree.specs.declared.items.VItem.TheVariants as I
use Rattle.v_tree.specs.declared.items.VModule.{VModule}
use Rattle.v_tree.specs.declared.items.VDesign.{VDesign}
use Rattle.v_tree.specs.Names as Names
use Rattle.lower_design.specs.Translatable.{path_of, KindFits}
use Rattle.lower_design.specs.Shape.{name_of, trigger, is_port}

-- one bit is declared without a range
abbrev pub range_of : ℕ → Option ℕ
range_of width = if width == 1 then None else Some (width - 1)

-- a whole name, and as a target
abbrev pub whole_name : Names.Name → VPrim
whole_name n = Name n []

abbrev pub whole_target : Names.Name → VLval
whole_target n = L.Name n []

abbrev pub lowered_primary : List Signal → Primary → VPrim
lowered_primary all (P.Signal n) = whole_name (name_of all n)
lowered_primary all (P.Literal bits) = Number bits

-- an operand of an operator stands in parentheses where it is an operation itself
abbrev pub parenthesized : Bool → VPrim → VPrim
parenthesized true p = Paren (Unary V.Not p)
parenthesized false p = p

abbrev pub alone : Bool → VPrim → VExpr
alone true p = Unary V.Not p
alone false p = Prim p

abbrev pub lowered_operand : List Signal → Operand → VPrim
lowered_operand all a = parenthesized a.inverted (lowered_primary all a.primary)

abbrev pub operator_of : BinOp → VBinaryOp
operator_of B.And = W.And
operator_of B.Or = W.Or
operator_of B.Xor = W.Xor
operator_of B.Xnor = W.Xnor
operator_of B.Add = W.Add
operator_of B.Sub = W.Sub
operator_of B.Mul = W.Mul
operator_of B.Div = W.Div
operator_of B.Rem = W.Rem

abbrev pub lowered_expr : List Signal → Expr → VExpr
lowered_expr all (E.Single a) = alone a.inverted (lowered_primary all a.primary)
lowered_expr all (E.Binary op a b) = Binary (operator_of op) (lowered_operand all a) (lowered_operand all b)

-- the statements of a block without a name, or a statement alone
abbrev pub lines_of : VStmt → VStmt-F VBranch VCaseItem VStmt → List VStmt
lines_of s (VStmt-F.Block None ss) = ss
lines_of s (VStmt-F.Block (Some label) ss) = s ∷ []
lines_of s (VStmt-F.If on body other) = s ∷ []
lines_of s (VStmt-F.Case kind on items) = s ∷ []
lines_of s (VStmt-F.Assign target value later) = s ∷ []

abbrev pub lines : VStmt → List VStmt
lines s = lines_of s (out-VStmt s)

-- a block that the statement is, or of it alone
abbrev pub branch : VStmt → VBranch
branch s = Statement (Block None (lines s))

-- the branches of an `if` are blocks, so that each `else` belongs to its own
abbrev pub lowered_level : List Signal → Stmt-F VStmt → VStmt
lowered_level all (Stmt-F.Block ss) = Block None ss
lowered_level all (Stmt-F.If on body other) = If (lowered_expr all on) (branch body) (option_map branch other)
lowered_level all (Stmt-F.Assign to value later) = Assign (whole_target (name_of all to)) (lowered_expr all value) later

abbrev pub lowered_stmt : List Signal → Stmt → VStmt
lowered_stmt all = fold-Stmt VStmt (lowered_level all)

-- `if (sv2v_t) ;`
abbrev pub reads_trigger : VStmt
reads_trigger = If (Prim (whole_name trigger)) Empty None

abbrev pub triggered : VStmt → VBranch
triggered s = Statement (Block None (reads_trigger ∷ lines s))

abbrev pub lowered_edge : List Signal → EdgeOn → VEdge
lowered_edge all e = record { rising = e.rising; name = name_of all e.signal }

-- a continuous assignment is one assignment, and never another statement
abbrev pub driver_in : List Signal → Stmt-F Stmt → VProcess
driver_in all (Stmt-F.Block ss) = Always Star Empty
driver_in all (Stmt-F.If on body other) = Always Star Empty
driver_in all (Stmt-F.Assign to value later) = Drive (whole_target (name_of all to)) (lowered_expr all value)

abbrev pub driver_of : List Signal → Stmt → VProcess
driver_of all body = driver_in all (out-Stmt body)

abbrev pub process_by : List Signal → ProcessKind → Stmt → VProcess
process_by all Continuous body = driver_of all body
process_by all Comb body = Always Star (triggered (lowered_stmt all body))
process_by all (Edges es) body = Always (OnEdges (map (lowered_edge all) es)) (branch (lowered_stmt all body))

-- the processes have statements of their kinds
abbrev pub AllFit : List Signal → List Process → Type 0
AllFit all ps = (p : Process) → Member ps p → KindFits all p.kind p.body

abbrev pub lowered_process : List Signal → Process → VProcess
lowered_process all p = process_by all p.kind p.body

abbrev pub process_items : List Signal → List Process → List VItem
process_items all ps = map (λ p. I.Process (lowered_process all p)) ps

-- whether a continuous assignment drives the signal with the number
abbrev pub drives_in : ℕ → Stmt-F Stmt → Bool
drives_in n (Stmt-F.Block ss) = false
drives_in n (Stmt-F.If on body other) = false
drives_in n (Stmt-F.Assign to value later) = to == n

abbrev pub drives_by : ProcessKind → Stmt → ℕ → Bool
drives_by Continuous body n = drives_in n (out-Stmt body)
drives_by Comb body n = false
drives_by (Edges es) body n = false

abbrev pub drives : Process → ℕ → Bool
drives p n = drives_by p.kind p.body n

abbrev pub is_driven : List Process → ℕ → Bool
is_driven ps n = list_any (λ p. drives p n) ps

-- what a continuous assignment drives is a net, any other variable a `reg`
abbrev pub declared_as : SignalKind → Bool → Option ℕ → List ℕ → VSignal
declared_as InputNet driven range name = S.Input range name
declared_as OutputVar true range name = S.Output range name
declared_as OutputVar false range name = S.OutputReg range name None
declared_as Variable true range name = S.Wire range name
declared_as Variable false range name = S.Reg range name None

abbrev pub declaration_of : Bool → Signal → VSignal
declaration_of driven s = declared_as s.kind driven (range_of s.width) s.path

-- of signals that are numbered from n on
abbrev pub declarations : (ℕ → Bool) → ℕ → List Signal → List VItem
declarations driven n [] = []
declarations driven n (s ∷ rest) = I.Signal (declaration_of (driven n) s) ∷ declarations driven (suc n) rest

-- whether a process is an `always_comb`, which needs the trigger
abbrev pub is_triggered : ProcessKind → Bool
is_triggered Continuous = false
is_triggered Comb = true
is_triggered (Edges es) = false

abbrev pub trigger_items : Bool → List VItem
trigger_items true = I.Signal (S.Reg None trigger None) ∷ I.Initial (record { name = trigger; value = Zero ∷ [] }) ∷ []
trigger_items false = []

abbrev pub lowered_items : List Signal → List Process → List VItem
lowered_items signals ps =
    (declarations (is_driven ps) 0 signals ++ trigger_items (list_any (λ (p : Process). is_triggered p.kind) ps)) ++ process_items signals ps

abbrev pub lowered_module : Design → VModule
lowered_module d = record {
  name = d.top;
  ports = map path_of (filter (λ (s : Signal). is_port s.kind) d.signals);
  items = lowered_items d.signals d.processes;
}

abbrev pub lowered : Design → VDesign
lowered d = record { modules = lowered_module d ∷ [] }
