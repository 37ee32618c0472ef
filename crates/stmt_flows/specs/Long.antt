-- Where a statement holds a constant whose value takes too long, and at what sight.
use Rattle.std.specs.Prelude.{◌≡◌, ◌⊎◌, ℕ, Bool, true, List, [], ◌∷◌, ◌++◌, map, flat_map, Option, Some, None}
use Rattle.row_machine.specs.Valuation.{Member}
use Rattle.sv_source.specs.declared.token.Spot.{Spot}
use Rattle.sv_types.specs.declared.expression.Expr.{Expr}
use Rattle.sv_types.specs.declared.statement.CaseKind.{CaseKind}
use Rattle.sv_types.specs.declared.statement.CaseItem.{CaseItem}
use Rattle.sv_types.specs.declared.statement.Local.{Local}
use Rattle.sv_types.specs.declared.statement.Stmt.{Stmt}
use Rattle.sv_types.specs.declared.statement.Stmt.TheVariants as V
use Rattle.sv_types.specs.Surroundings.{Sight}
use Rattle.sv_types.specs.Operators.{assigned_to}
use Rattle.sv_types.specs.Expressions.{meaning}
use Rattle.sv_types.specs.Runs.{is_true}
use Rattle.sv_types.specs.Flows.{knowing}
use Rattle.expr_flows.specs.declared.known.Known.{Known}
use Rattle.expr_flows.specs.Known.{sight}
use Rattle.expr_flows.specs.Reads.{LongAt}
use Rattle.expr_flows.specs.Targets.{LongInSome}
use Rattle.stmt_flows.specs.Full.{written_starts}

abbrev pub those : {A : Type 0} → Option A → List A
those None = []
those (Some x) = x ∷ []

abbrev pub item_values : List CaseItem → List Expr
item_values is = flat_map (λ (i : CaseItem). i.values) is

abbrev pub item_bodies : List CaseItem → List Stmt
item_bodies is = map (λ (i : CaseItem). i.body) is

-- the expressions of a statement that are valued once, and of a target those of its indices
pub data HasExprs (s : Stmt) : List Expr → Type 0 where
  OfBlock : (ls : List Local) (ss : List Stmt) → s ≡ V.Block ls ss → HasExprs s (written_starts ls)
  OfIf : (on : Expr) (body : Stmt) (other : Option Stmt) → s ≡ V.If on body other → HasExprs s (on ∷ [])
  OfCase : (kind : CaseKind) (on : Expr) (is : List CaseItem) (other : Option Stmt) → s ≡ V.Case kind on is other → HasExprs s (on ∷ item_values is)
  OfLoop : (n : ℕ) (first test step : Expr) (body : Stmt) (spot : Spot) → s ≡ V.Loop n first test step body spot → HasExprs s (first ∷ [])
  OfAssign : (to : List Expr) (value : Expr) (later : Bool) (spot : Spot) → s ≡ V.Assign to value later spot → HasExprs s (value ∷ to)
  OfCall : (f : ℕ) (es : List Expr) (spot : Spot) → s ≡ V.Call f es spot → HasExprs s es
  OfMade : (ls : List Local) (before : List Stmt) (body : Option Stmt) → s ≡ V.Made ls before body → HasExprs s (written_starts ls)

-- the statements in a statement that aren't in turns of a loop
pub data HasParts (s : Stmt) : List Stmt → Type 0 where
  InBlock : (ls : List Local) (ss : List Stmt) → s ≡ V.Block ls ss → HasParts s ss
  InIf : (on : Expr) (body : Stmt) (other : Option Stmt) → s ≡ V.If on body other → HasParts s (body ∷ those other)
  InCase : (kind : CaseKind) (on : Expr) (is : List CaseItem) (other : Option Stmt) → s ≡ V.Case kind on is other → HasParts s (item_bodies is ++ those other)
  InMade : (ls : List Local) (before : List Stmt) (body : Option Stmt) → s ≡ V.Made ls before body → HasParts s (before ++ those body)

-- one of some expressions holds a constant index whose value takes too long
pub record SomeHoldLong (h : Sight) (es : List Expr) (at : ℕ) : Type 0 where
  pub known : Known
  pub sees : sight known ≡ h
  pub some : LongInSome known es at

-- the value of a constant takes too long, or that of an index in it
pub record TakesLong (h : Sight) (e : Expr) (at : ℕ) : Type 0 where
  pub known : Known
  pub sees : sight known ≡ h
  pub long : LongAt known e at

-- a loop
pub record Loop : Type 0 where
  pub variable : ℕ
  pub first : Expr
  pub test : Expr
  pub step : Expr
  pub body : Stmt

abbrev pub IsLoop : Stmt → Loop → Type 0
IsLoop s l = (spot : Spot) × (s ≡ V.Loop l.variable l.first l.test l.step l.body spot)

abbrev pub marks_in : Loop → List Bool
marks_in l = (meaning l.first).of.two_state

-- what is known in its first turn, and in the next one
abbrev pub entered : Loop → Sight → Sight
entered l h = knowing l.variable (marks_in l) (assigned_to (marks_in l) (meaning l.first) h.around) h

abbrev pub stepped : Loop → Sight → Sight
stepped l h = knowing l.variable (marks_in l) (assigned_to (marks_in l) (meaning l.step) h.around) h

-- a turn is made
pub record Makes (l : Loop) (h : Sight) : Type 0 where
  pub constant : (meaning l.test).constant h ≡ true
  pub goes : is_true (meaning l.test) h.around ≡ true

-- what is known in this turn or a later one
pub data Later (l : Loop) : Sight → Sight → Type 0 where
  Now : (h : Sight) → Later l h h
  Next : (h j : Sight) → Makes l h → (meaning l.step).constant h ≡ true → Later l (stepped l h) j → Later l h j

-- At this token a constant stands in a statement whose value takes too long: an index, or a bound of a loop.
pub data LongIn : Sight → Stmt → ℕ → Type 0 where
  Own : (h : Sight) (s : Stmt) (at : ℕ) (es : List Expr) → HasExprs s es → SomeHoldLong h es at → LongIn h s at
  Part : (h : Sight) (s : Stmt) (at : ℕ) (ss : List Stmt) (t : Stmt) → HasParts s ss → Member ss t → LongIn h t at → LongIn h s at
  First : (h : Sight) (s : Stmt) (at : ℕ) (l : Loop) → IsLoop s l → TakesLong h l.first at → LongIn h s at
  Test : (h : Sight) (s : Stmt) (at : ℕ) (l : Loop) (j : Sight) → IsLoop s l → (meaning l.first).constant h ≡ true → Later l (entered l h) j → TakesLong j l.test at → LongIn h s at
  Body : (h : Sight) (s : Stmt) (at : ℕ) (l : Loop) (j : Sight) → IsLoop s l → (meaning l.first).constant h ≡ true → Later l (entered l h) j → Makes l j → LongIn j l.body at → LongIn h s at
  Step : (h : Sight) (s : Stmt) (at : ℕ) (l : Loop) (j : Sight) → IsLoop s l → (meaning l.first).constant h ≡ true → Later l (entered l h) j → Makes l j → TakesLong j l.step at → LongIn h s at

-- in one of some statements
pub record LongInOne (h : Sight) (ss : List Stmt) (at : ℕ) : Type 0 where
  pub stmt : Stmt
  pub stands : Member ss stmt
  pub long : LongIn h stmt at

-- in a turn, and in this one or a later one
abbrev pub LongInTurn : Loop → Sight → ℕ → Type 0
LongInTurn l j at = TakesLong j l.test at ⊎ (Makes l j × (LongIn j l.body at ⊎ TakesLong j l.step at))

pub record LongFrom (l : Loop) (h : Sight) (at : ℕ) : Type 0 where
  pub turn : Sight
  pub later : Later l h turn
  pub long : LongInTurn l turn at
