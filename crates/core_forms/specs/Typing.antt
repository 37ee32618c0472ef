-- The designs of one instance whose types are vectors of four-state bits.
use Rattle.std.specs.Prelude.{◌≡◌, ℕ, max, Bool, true, false, List, [], ◌∷◌, ◌++◌, length, replicate, slice_get, Option, Some, None}
use Rattle.row_machine.specs.Valuation.{Member}
use Rattle.sv_types.specs.declared.types.SvType.{SvType}
use Rattle.sv_types.specs.declared.expression.Expr.{Expr}
use Rattle.sv_types.specs.declared.expression.Form.{Form-F, out-Form}
use Rattle.sv_types.specs.declared.statement.Stmt.{Stmt, Stmt-F, fold-Stmt}
use Rattle.sv_types.specs.declared.statement.CaseItem.{CaseItem-F}
use Rattle.sv_types.specs.declared.design.Signal.{Signal}
use Rattle.sv_types.specs.declared.design.Process.{Process}
use Rattle.sv_types.specs.declared.design.Design.{Design}
use Rattle.sv_types.specs.Layouts.{layout, width_of}
use Rattle.core_forms.specs.Forms.{FormLayer}

-- a type of w four-state bits without a sign, as `logic` and `logic [w - 1:0]` are (IEEE 1800-2017 clauses 6.11 and 7.4.1)
pub record IsVector (of : SvType) (w : ℕ) : Type 0 where
  pub four_state : (layout of).two_state ≡ replicate w false
  pub unsigned : (layout of).signed ≡ false

abbrev pub width_or_zero : Option Signal → ℕ
width_or_zero (Some s) = width_of s.of
width_or_zero None = 0

-- the width of the signal with a number, 0 where there is none
abbrev pub width_in : List Signal → ℕ → ℕ
width_in signals n = width_or_zero (slice_get signals n)

module _ (widths : ℕ → ℕ) where
  -- A signal's name has the width of its signal and a literal that of its digits; an operation has the width of its widest
  -- operand (clause 11.6.1).
  abbrev pub PrimaryIn : SvType → FormLayer → Type 0
  PrimaryIn of (Form-F.Signal n) = IsVector of (widths n)
  PrimaryIn of (Form-F.Literal bits goes_on) = IsVector of (length bits)
  PrimaryIn of _ = Unit {0}

  abbrev pub PrimaryTyped : Expr → Type 0
  PrimaryTyped e = PrimaryIn e.of (out-Form e.form)

  abbrev pub OperandIn : SvType → FormLayer → Type 0
  OperandIn of (Form-F.Unary op a) = IsVector of (width_of a.of) × PrimaryTyped a
  OperandIn of x = PrimaryIn of x

  abbrev pub OperandTyped : Expr → Type 0
  OperandTyped e = OperandIn e.of (out-Form e.form)

  abbrev pub ExprIn : SvType → FormLayer → Type 0
  ExprIn of (Form-F.Binary op a b) = IsVector of (max (width_of a.of) (width_of b.of)) × OperandTyped a × OperandTyped b
  ExprIn of x = OperandIn of x

  abbrev pub ExprTyped : Expr → Type 0
  ExprTyped e = ExprIn e.of (out-Form e.form)

-- the expressions of a statement of these forms, targets among them
abbrev pub all_of : List (List Expr) → List Expr
all_of [] = []
all_of (xs ∷ rest) = xs ++ all_of rest

abbrev pub none_or : Option (List Expr) → List Expr
none_or None = []
none_or (Some xs) = xs

abbrev pub stmt_step : Stmt-F (List Expr) (List Expr) → List Expr
stmt_step (Stmt-F.Block locals body) = all_of body
stmt_step (Stmt-F.If on body other) = on ∷ (body ++ none_or other)
stmt_step (Stmt-F.Assign to value later spot) = value ∷ to
stmt_step (Stmt-F.Case kind on items other) = []
stmt_step (Stmt-F.Loop n first test step body spot) = []
stmt_step (Stmt-F.Call f actuals spot) = []
stmt_step (Stmt-F.Made locals before body) = []
stmt_step Stmt-F.Break = []
stmt_step Stmt-F.Continue = []
stmt_step Stmt-F.Return = []

abbrev pub item_step : CaseItem-F (List Expr) (List Expr) → List Expr
item_step i = i.body

abbrev pub exprs_in : Stmt → List Expr
exprs_in = fold-Stmt (List Expr) (List Expr) stmt_step item_step

-- a design of one instance, without functions and declared values, all of whose types are vectors
pub record IsPlain (d : Design) : Type 0 where
  pub one_instance : length d.instances ≡ 1
  pub no_functions : d.functions ≡ []
  pub of_top : (s : Signal) → Member d.signals s → s.instance ≡ 1
  pub undeclared : (s : Signal) → Member d.signals s → s.declared ≡ false
  pub vectors : (s : Signal) → Member d.signals s → IsVector s.of (width_of s.of)
  pub typed : (p : Process) → Member d.processes p → (e : Expr) → Member (exprs_in p.body) e → ExprTyped (width_in d.signals) e
