-- Turns of a loop, as the code has them.
use Rattle.std.specs.Prelude.{◌≡◌, ◌+◌, ◌≤◌, ◌<◌, ⊤, ℕ, Bool, true, false, not, ◌||◌, List, [], ◌∷◌, Option, Some, None, Result, Ok, Err}
use Rattle.row_machine.specs.Valuation.{Place}
use Rattle.sv_types.specs.declared.expression.Expr.{Expr}
use Rattle.sv_types.specs.declared.statement.Outcome.TheVariants as O
use Rattle.sv_types.specs.declared.statement.Stmt.{Stmt}
use Rattle.sv_types.specs.Layouts.{width_of}
use Rattle.sv_types.specs.Surroundings.{Parameter, Sight}
use Rattle.sv_types.specs.Expressions.{meaning}
use Rattle.sv_types.specs.Runs.{is_true}
use Rattle.sv_types.specs.Flows as F
use Rattle.sv_types.specs.Flows.{Flow, covers}
use Rattle.sv_types.specs.Statements.{doing}
use Rattle.eval_stmts.specs.declared.controls.Control.{Control}
use Rattle.eval_stmts.specs.Controls.{ControlFits}
use Rattle.eval_stmts.specs.Limits.{StmtFits}
use Rattle.flow_sets.specs.declared.found.Found.{Found}
use Rattle.flow_sets.specs.Ends.{AreKnown}
use Rattle.flow_sets.specs.Flows.{IsFlow}
use Rattle.expr_flows.specs.declared.known.Known.{Known}
use Rattle.expr_flows.specs.declared.known.Variable.{Variable}
use Rattle.expr_flows.specs.Full.{all_full}
use Rattle.expr_flows.specs.Known.{bits_of_variable, sure_of, sight, sight_in}
use Rattle.stmt_flows.specs.declared.fails.StmtFail.{StmtFail}
use Rattle.stmt_flows.specs.declared.fails.StmtFail.TheVariants as S
use Rattle.stmt_flows.specs.declared.turns.Inside.{Inside}
use Rattle.stmt_flows.specs.declared.turns.Turned.{Turned}
use Rattle.stmt_flows.specs.Fails.{Fails}
use Rattle.stmt_flows.specs.Full.{stmt_full}
use Rattle.stmt_flows.specs.Gives.{FoundGives, most_statements}
use Rattle.stmt_flows.specs.Long.{Loop, LongFrom, TakesLong, Later, marks_in, entered, stepped}

abbrev pub loop_of : Control → Stmt → Loop
loop_of c body = record { variable = c.local; first = c.first.now; test = c.test.now; step = c.step.now; body = body }

abbrev pub variable_of : Control → Variable
variable_of c = record { local = c.local; width = width_of c.first.now.of }

-- what a loop keeps that is looked at
pub record LoopFits (c : Control) (body : Stmt) (fs : ℕ → List Parameter) : Type 0 where
  pub control : ControlFits c fs
  pub narrow : width_of c.first.now.of ≤ 4194304
  pub turn : StmtFits body fs (λ n. true)
  pub full_control : all_full fs (c.first.now ∷ c.test.now ∷ c.step.now ∷ []) ≡ true
  pub full_body : stmt_full fs body ≡ true

-- a variable is among those that are known
abbrev pub IsInside : Variable → List Variable → Type 0
IsInside v vs = (q : Place) → (sure_of vs q || covers (bits_of_variable v) q) ≡ sure_of vs q

abbrev pub turns_of : Loop → ℕ → Sight → Flow
turns_of l m h = F.turns m l.variable (marks_in l) (meaning l.test) (meaning l.step) (doing l.body).flow h

-- a test is known, and whether the loop stops by it
abbrev pub StopsHere : Expr → Bool → Sight → Type 0
StopsHere e stops h = ((meaning e).constant h ≡ true) × (stops ≡ not (is_true (meaning e) h.around))

-- the loop ends within so many turns
pub record EndsWithin (r : Found) (l : Loop) (n : ℕ) (h : Sight) : Type 0 where
  pub flow : Flow
  pub is : IsFlow r flow
  pub all : (m : ℕ) → turns_of l (n + m) h ≡ flow

-- it makes so many turns, and goes on
pub record GoesOn (r : Found) (l : Loop) (n : ℕ) (h j : Sight) : Type 0 where
  pub flow : Flow
  pub is : IsFlow r flow
  pub all : (m : ℕ) → turns_of l (n + m) h ≡ F.and_then flow (turns_of l m j)
  pub later : Later l h j

abbrev pub AreTurns : Bool → Found → Loop → ℕ → Sight → Sight → Type 0
AreTurns true r l n h j = EndsWithin r l n h
AreTurns false r l n h j = GoesOn r l n h j

abbrev pub TurnsGive : Result Turned StmtFail → Bool → Loop → ℕ → Sight → Sight → Type 0
TurnsGive (Ok t) counting l n h j = AreKnown t.found.ends × AreTurns t.ended t.found l n h j
TurnsGive (Err S.Memory) counting l n h j = ⊤
TurnsGive (Err (S.TooLong at)) counting l n h j = LongFrom l h at
TurnsGive (Err S.TooMany) counting l n h j = (counting ≡ true) × ((m : ℕ) → most_statements < (turns_of l (n + m) h).statements)

-- what follows the body of a turn: the variable's next value isn't known, or it is written
abbrev pub IsAfter : Bool → Found → Loop → Flow → Sight → Sight → Type 0
IsAfter true r l g h j = ((meaning l.step).constant h ≡ false) × IsFlow r (F.and_then g F.endless)
IsAfter false r l g h j = ((meaning l.step).constant h ≡ true) × IsFlow r (F.and_then g (F.setting l.variable (marks_in l))) × (j ≡ stepped l h)

abbrev pub AfterGives : Result Turned StmtFail → Loop → Flow → Sight → Sight → Type 0
AfterGives (Ok t) l g h j = AreKnown t.found.ends × IsAfter t.ended t.found l g h j
AfterGives (Err S.Memory) l g h j = ⊤
AfterGives (Err (S.TooLong at)) l g h j = TakesLong h l.step at
AfterGives (Err S.TooMany) l g h j = ⊥

abbrev pub marks_of_control : Control → List Bool
marks_of_control c = (meaning c.first.now).of.two_state

pub record IsEntered (i : Inside) (k : Known) (c : Control) : Type 0 where
  pub constant : (meaning c.first.now).constant (sight k) ≡ true
  pub sees : (b : Stmt) → sight_in k.functions.now i.locals.items i.variables.items ≡ entered (loop_of c b) (sight k)
  pub inside : IsInside (variable_of c) i.variables.items

-- what is known in the first turn, if the variable's first value is
abbrev pub EnterGives : Result (Option Inside) StmtFail → Known → Control → Type 0
EnterGives (Ok None) k c = (meaning c.first.now).constant (sight k) ≡ false
EnterGives (Ok (Some i)) k c = IsEntered i k c
EnterGives (Err x) k c = Fails x (TakesLong (sight k) c.first.now)

-- no further turn
abbrev pub LastGives : Result Found StmtFail → Loop → Sight → Type 0
LastGives (Ok r) l h = AreKnown r.ends × IsFlow r (turns_of l 0 h)
LastGives (Err x) l h = Fails x (TakesLong h l.test)

-- all turns
abbrev pub FinalGives : Result Found StmtFail → Loop → Sight → Type 0
FinalGives (Ok r) l h = AreKnown r.ends × IsFlow r (F.catching O.Break (turns_of l 65536 h))
FinalGives (Err x) l h = Fails x (LongFrom l h)

abbrev pub LoopGives : Result Found StmtFail → Bool → Loop → Sight → Type 0
LoopGives r counting l h = FoundGives r counting (LongFrom l h) (F.catching O.Break (turns_of l 65536 h))
