-- The elaborated designs that are translated: typed, within the limits, and without a break of the rules on processes.
use Rattle.std.specs.Prelude.{◌≡◌, ◌≢◌, ◌≤◌, ◌<◌, ◌^◌, ℕ, suc, max, Bool, true, false, List, [], ◌∷◌, ◌++◌, take, map, sum, length, codes, slice_get, Option, Some, None}
use Rattle.std.specs.Str.{bytes_eq}
use Rattle.b4_core.specs.declared.operators.BinOp.{BinOp}
use Rattle.b4_core.specs.declared.operators.BinOp.TheVariants.{And, Or, Xor, Xnor, Add, Sub, Mul, Div, Rem}
use Rattle.row_machine.specs.Valuation.{Member}
use Rattle.sv_core.specs.declared.design.SignalKind.{SignalKind}
use Rattle.sv_core.specs.declared.design.SignalKind.TheVariants.{InputNet, OutputVar, Variable}
use Rattle.sv_core.specs.declared.design.Signal.{Signal}
use Rattle.sv_core.specs.declared.design.Primary.{Primary}
use Rattle.sv_core.specs.declared.design.Primary.TheVariants as P
use Rattle.sv_core.specs.declared.design.Expr.{Expr}
use Rattle.sv_core.specs.declared.design.Expr.TheVariants.{Single, Binary}
use Rattle.sv_core.specs.declared.design.EdgeOn.{EdgeOn}
use Rattle.sv_core.specs.declared.design.ProcessKind.{ProcessKind}
use Rattle.sv_core.specs.declared.design.ProcessKind.TheVariants.{Continuous, Comb, Edges}
use Rattle.sv_core.specs.declared.design.Process.{Process}
use Rattle.sv_core.specs.declared.design.Stmt.{Stmt, Stmt-F, fold-Stmt}
use Rattle.sv_core.specs.declared.design.Stmt.TheVariants.{Assign}
use Rattle.sv_core.specs.declared.design.Design.{Design}
use Rattle.sv_core.specs.Statements.{doing}
use Rattle.v_tree.specs.Names.{Name, distinct}
use Rattle.v_tree.specs.Tokens.{is_simple}

-- names that begin so are kept for what the lowering adds
abbrev pub is_helper_name : Name → Bool
is_helper_name name = bytes_eq (take 5 name) (codes "sv2v_")

abbrev pub path_of : Signal → Name
path_of s = s.path

-- the signal with the number may be assigned: it is no input
abbrev pub is_input : SignalKind → Bool
is_input InputNet = true
is_input OutputVar = false
is_input Variable = false

pub record IsVariable (signals : List Signal) (n : ℕ) : Type 0 where
  pub signal : Signal
  pub is_there : slice_get signals n ≡ Some signal
  pub no_input : is_input signal.kind ≡ false

-- the signal with the number is there
abbrev pub IsSignal : List Signal → ℕ → Type 0
IsSignal signals n = n < length signals

-- a literal has from 1 to 128 bits
abbrev pub PrimaryFits : Primary → Type 0
PrimaryFits (P.Signal n) = Unit {0}
PrimaryFits (P.Literal bits) = (1 ≤ length bits) × (length bits ≤ 128)

-- the operators are `&`, `|` and `^`
abbrev pub OperatorFits : BinOp → Type 0
OperatorFits And = Unit {0}
OperatorFits Or = Unit {0}
OperatorFits Xor = Unit {0}
OperatorFits Xnor = ⊥
OperatorFits Add = ⊥
OperatorFits Sub = ⊥
OperatorFits Mul = ⊥
OperatorFits Div = ⊥
OperatorFits Rem = ⊥

abbrev pub ExprFits : Expr → Type 0
ExprFits (Single a) = PrimaryFits a.primary
ExprFits (Binary op a b) = OperatorFits op × PrimaryFits a.primary × PrimaryFits b.primary

-- the expressions of a statement, and how deep statements nest in it
pub record Inside : Type 0 where
  pub exprs : List Expr
  pub depth : ℕ

abbrev pub all_exprs : List Inside → List Expr
all_exprs [] = []
all_exprs (i ∷ is) = i.exprs ++ all_exprs is

abbrev pub deepest : List Inside → ℕ
deepest [] = 0
deepest (i ∷ is) = max i.depth (deepest is)

abbrev pub inside_or : Option Inside → Inside
inside_or (Some i) = i
inside_or None = record { exprs = []; depth = 0 }

abbrev pub stmt_inside : Stmt-F Inside → Inside
stmt_inside (Stmt-F.Block is) = record { exprs = all_exprs is; depth = suc (deepest is) }
stmt_inside (Stmt-F.If on body other) = record { exprs = on ∷ (body.exprs ++ (inside_or other).exprs); depth = suc (max body.depth (inside_or other).depth) }
stmt_inside (Stmt-F.Assign to value later) = record { exprs = value ∷ []; depth = 1 }

abbrev pub inside : Stmt → Inside
inside = fold-Stmt Inside stmt_inside

-- what a process may write
abbrev pub targets_by : ProcessKind → Stmt → List ℕ
targets_by Continuous body = (doing body).targets
targets_by Comb body = (doing body).targets
targets_by (Edges edges) body = (doing body).later_targets

abbrev pub targets_of : Process → List ℕ
targets_of p = targets_by p.kind p.body

-- no two processes write one signal
abbrev pub OneDriver : List Process → Type 0
OneDriver [] = Unit {0}
OneDriver (p ∷ ps) = ((n : ℕ) → Member (targets_of p) n → (q : Process) → Member ps q → Member (targets_of q) n → ⊥) × OneDriver ps

-- the edge stands on a signal of one bit
abbrev pub EdgeFits : List Signal → EdgeOn → Type 0
EdgeFits signals e = (s : Signal) × (slice_get signals e.signal ≡ Some s) × (s.width ≡ 1)

-- A process has statements of its kind: a continuous assignment is one blocking assignment, a combinational process
-- assigns at once, an edge process later and at one edge at least.
abbrev pub KindFits : List Signal → ProcessKind → Stmt → Type 0
KindFits signals Continuous body = (to : ℕ) × (value : Expr) × (body ≡ Assign to value false)
KindFits signals Comb body = (doing body).later_targets ≡ []
KindFits signals (Edges edges) body =
    ((doing body).targets ≡ []) × (edges ≢ []) × ((e : EdgeOn) → Member edges e → EdgeFits signals e)

-- whether a process is combinational
abbrev pub is_comb : ProcessKind → Bool
is_comb Continuous = true
is_comb Comb = true
is_comb (Edges edges) = false

pub record Translatable (d : Design) : Type 0 where
  -- names are simple, no two signals have one, and none is a helper's
  pub top : is_simple d.top ≡ true
  pub names : distinct (map path_of d.signals) ≡ true
  pub simple : (s : Signal) → Member d.signals s → is_simple s.path ≡ true
  pub own : (s : Signal) → Member d.signals s → is_helper_name s.path ≡ false
  -- each signal has from 1 to 65,536 bits, and all together have at most 2^22
  pub some_bits : (s : Signal) → Member d.signals s → 1 ≤ s.width
  pub few_bits : (s : Signal) → Member d.signals s → s.width ≤ 65536
  pub all_bits : sum (map (λ (s : Signal). s.width) d.signals) ≤ 2 ^ 22
  -- what processes write are variables, each written by one process
  pub targets : (p : Process) → Member d.processes p → (n : ℕ) → Member (targets_of p) n → IsVariable d.signals n
  pub one_driver : OneDriver d.processes
  -- what they read is there
  pub reads : (p : Process) → Member d.processes p → (n : ℕ) → Member (doing p.body).reads n → IsSignal d.signals n
  -- no combinational process reads what one writes
  pub independent : (p q : Process) → Member d.processes p → Member d.processes q → is_comb p.kind ≡ true → is_comb q.kind ≡ true
      → (n : ℕ) → Member (doing p.body).reads n → Member (targets_of q) n → ⊥
  -- statements, expressions and nesting
  pub kinds : (p : Process) → Member d.processes p → KindFits d.signals p.kind p.body
  pub exprs : (p : Process) → Member d.processes p → (x : Expr) → Member (inside p.body).exprs x → ExprFits x
  pub nesting : (p : Process) → Member d.processes p → (inside p.body).depth ≤ 256
