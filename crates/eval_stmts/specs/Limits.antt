-- What a statement keeps that is run.
use Rattle.std.specs.Prelude.{◌≡◌, ◌≤◌, ⊤, ℕ, Bool, max, List, [], ◌∷◌, map, Option, Some, None}
use Rattle.sv_types.specs.declared.statement.Local.{Local}
use Rattle.sv_types.specs.declared.statement.Stmt.{Stmt, Stmt-F, fold-Stmt}
use Rattle.sv_types.specs.declared.statement.CaseItem.{CaseItem, CaseItem-F}
use Rattle.sv_types.specs.Layouts.{width_of}
use Rattle.sv_types.specs.Surroundings.{Parameter}
use Rattle.sv_types.specs.Meanings.{Meaning, most}
use Rattle.sv_types.specs.Operators.{assigned_width, width_of_all}
use Rattle.sv_types.specs.Expressions.{meaning}
use Rattle.sv_types.specs.Statements.{Doing, doing, initial_of, marks_of}
use Rattle.eval_parts.specs.Limits.{Fits}
use Rattle.eval_stmts.specs.Environments.{AllHeld}

-- the greatest width of a local or of a whole target
abbrev pub or_zero : Option ℕ → ℕ
or_zero None = 0
or_zero (Some n) = n

abbrev pub width_of_locals : List Local → ℕ
width_of_locals ls = most (map (λ (l : Local). width_of l.of) ls)

abbrev pub place_step : Stmt-F ℕ ℕ → ℕ
place_step (Stmt-F.Block locals body) = max (width_of_locals locals) (most body)
place_step (Stmt-F.If on body other) = max body (or_zero other)
place_step (Stmt-F.Case kind on items other) = max (most items) (or_zero other)
place_step (Stmt-F.Loop n first test step body spot) = body
place_step (Stmt-F.Assign to value later spot) = width_of_all (map meaning to)
place_step (Stmt-F.Call f actuals spot) = 0
place_step (Stmt-F.Made locals before body) = max (width_of_locals locals) (max (most before) (or_zero body))
place_step Stmt-F.Break = 0
place_step Stmt-F.Continue = 0
place_step Stmt-F.Return = 0

abbrev pub item_step : CaseItem-F ℕ ℕ → ℕ
item_step i = i.body

abbrev pub widest_place : Stmt → ℕ
widest_place = fold-Stmt ℕ ℕ place_step item_step

-- its types are those that the rules give, none has more than 2^22 bits, arithmetic has at most 128 and an index at most 64
pub record Keeps (d : Doing) (fs : ℕ → List Parameter) : Type 0 where
  pub typed : d.misfits ≡ 0
  pub narrow : d.widest ≤ 4194304
  pub arithmetic : d.arithmetic fs ≤ 128
  pub indexing : d.indexing ≤ 64

-- A statement, for the formals of functions and the signals that are held: no local and no whole target has more than 2^22
-- bits, and each signal that it names as a target is held.
pub record StmtFits (s : Stmt) (fs : ℕ → List Parameter) (holds : ℕ → Bool) : Type 0 where
  pub keeps : Keeps (doing s) fs
  pub places : widest_place s ≤ 4194304
  pub held : AllHeld ((doing s).targets fs) holds

abbrev pub AllStmtsFit : List Stmt → (ℕ → List Parameter) → (ℕ → Bool) → Type 0
AllStmtsFit [] fs holds = ⊤
AllStmtsFit (s ∷ ss) fs holds = StmtFits s fs holds × AllStmtsFit ss fs holds

-- what a local starts with
abbrev pub StartFits : Option Meaning → List Bool → (ℕ → List Parameter) → Type 0
StartFits None marks fs = ⊤
StartFits (Some m) marks fs = Fits m fs (assigned_width marks m)

pub record LocalFits (l : Local) (fs : ℕ → List Parameter) : Type 0 where
  pub narrow : width_of l.of ≤ 4194304
  pub start : StartFits (initial_of l) (marks_of l) fs

abbrev pub AllLocalsFit : List Local → (ℕ → List Parameter) → Type 0
AllLocalsFit [] fs = ⊤
AllLocalsFit (l ∷ ls) fs = LocalFits l fs × AllLocalsFit ls fs

-- statements in a scope of these locals
pub record ScopeFits (ls : List Local) (ss : List Stmt) (fs : ℕ → List Parameter) (h : ℕ → Bool) : Type 0 where
  pub locals : AllLocalsFit ls fs
  pub body : AllStmtsFit ss fs h

-- a statement that may be left out
abbrev pub PerhapsFits : Option Stmt → (ℕ → List Parameter) → (ℕ → Bool) → Type 0
PerhapsFits None fs holds = ⊤
PerhapsFits (Some s) fs holds = StmtFits s fs holds

abbrev pub perhaps : Option Stmt → Option Doing
perhaps None = None
perhaps (Some s) = Some (doing s)

-- the items of a `case`
abbrev pub AllItemsFit : List CaseItem → (ℕ → List Parameter) → (ℕ → Bool) → Type 0
AllItemsFit [] fs holds = ⊤
AllItemsFit (i ∷ is) fs holds = StmtFits i.body fs holds × AllItemsFit is fs holds
