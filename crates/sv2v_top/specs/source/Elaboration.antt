-- The design that a module elaborates to (IEEE 1800-2017 clauses 3.12, 6.9.1 and 23.2).
use Rattle.std.specs.Prelude.{ℕ, Bool, true, false, List, [], ◌∷◌, map, flat_map}
use Rattle.built_forms.specs.declared.forms.Primary as Source
use Rattle.built_forms.specs.declared.forms.Primary.TheVariants.{Name, Literal}
use Rattle.built_forms.specs.declared.forms.Operand as SourceOperand
use Rattle.built_forms.specs.declared.forms.Expr as SourceExpr
use Rattle.built_forms.specs.declared.forms.Expr.TheVariants as E
use Rattle.built_forms.specs.declared.forms.Assign.{Assign}
use Rattle.built_forms.specs.declared.forms.Stmt as SourceStmt
use Rattle.built_forms.specs.declared.forms.Item.{Item}
use Rattle.built_forms.specs.declared.forms.Item.TheVariants as I
use Rattle.built_forms.specs.declared.forms.Module.{Module}
use Rattle.sv_core.specs.declared.design.Primary.{Primary}
use Rattle.sv_core.specs.declared.design.Primary.TheVariants as P
use Rattle.sv_core.specs.declared.design.Operand.{Operand}
use Rattle.sv_core.specs.declared.design.Expr.{Expr}
use Rattle.sv_core.specs.declared.design.Expr.TheVariants as D
use Rattle.sv_core.specs.declared.design.Stmt.{Stmt}
use Rattle.sv_core.specs.declared.design.Stmt.TheVariants as T
use Rattle.sv_core.specs.declared.design.EdgeOn.{EdgeOn}
use Rattle.sv_core.specs.declared.design.ProcessKind.{ProcessKind}
use Rattle.sv_core.specs.declared.design.ProcessKind.TheVariants.{Continuous, Comb, Edges}
use Rattle.sv_core.specs.declared.design.Process.{Process}
use Rattle.sv_core.specs.declared.design.Design.{Design}
use Rattle.sv2v_top.specs.source.Literals.{literal_bits}
use Rattle.sv2v_top.specs.source.Names.{declared, signal_names}
use Rattle.v_tree.specs.Names.{position}
use Rattle.sv2v_top.specs.source.Rules.{signal_of}

-- a name stands for the signal of that name, by its number
abbrev pub primary_of : List (List ℕ) → Source.Primary → Primary
primary_of names (Name name) = P.Signal (position names name.word)
primary_of names (Literal size digits) = P.Literal (literal_bits digits.word)

abbrev pub operand_of : List (List ℕ) → SourceOperand.Operand → Operand
operand_of names a = record { inverted = a.inverted; primary = primary_of names a.primary }

abbrev pub expr_of : List (List ℕ) → SourceExpr.Expr → Expr
expr_of names (E.Single a) = D.Single (operand_of names a)
expr_of names (E.Binary op a b) = D.Binary op (operand_of names a) (operand_of names b)

-- a statement; the assignments of an edge process are nonblocking
abbrev pub assign_of : List (List ℕ) → Bool → Assign → Stmt
assign_of names later a = T.Assign (position names a.target.word) (expr_of names a.value) later

abbrev pub stmt_step : List (List ℕ) → Bool → SourceStmt.Stmt-F Stmt → Stmt
stmt_step names later (SourceStmt.Stmt-F.Block ss) = T.Block ss
stmt_step names later (SourceStmt.Stmt-F.If on body other) = T.If (expr_of names on) body other
stmt_step names later (SourceStmt.Stmt-F.Assign a) = assign_of names later a

abbrev pub stmt_of : List (List ℕ) → Bool → SourceStmt.Stmt → Stmt
stmt_of names later = SourceStmt.fold-Stmt Stmt (stmt_step names later)

-- the edge of a clock
abbrev pub clock_of : List (List ℕ) → List ℕ → List EdgeOn
clock_of names clock = record { signal = position names clock; rising = true } ∷ []

-- the process of an item, if it is one
abbrev pub process : ProcessKind → Stmt → Process
process kind body = record { kind = kind; body = body }

abbrev pub process_of : List (List ℕ) → Item → List Process
process_of names (I.Assign a) = process Continuous (assign_of names false a) ∷ []
process_of names (I.Logic d) = []
process_of names (I.Comb body) = process Comb (stmt_of names false body) ∷ []
process_of names (I.Edge clock body) = process (Edges (clock_of names clock.word)) (stmt_of names true body) ∷ []

abbrev pub processes_of : List (List ℕ) → List Item → List Process
processes_of names items = flat_map (process_of names) items

abbrev pub design_of : Module → Design
design_of m = record {
  top = m.name.word;
  signals = map signal_of (declared m);
  processes = processes_of (signal_names m) m.items;
}
