-- What is known of a statement, or why it isn't.
use Rattle.std.specs.Prelude.{◌≡◌, ◌^◌, ◌<◌, ⊤, ℕ, Bool, true, List, map, Option, Result, Ok, Err}
use Rattle.sv_types.specs.declared.statement.CaseItem.{CaseItem}
use Rattle.sv_types.specs.declared.statement.Stmt.{Stmt}
use Rattle.sv_types.specs.Surroundings.{Sight}
use Rattle.sv_types.specs.Flows as F
use Rattle.sv_types.specs.Flows.{Flow, Flows}
use Rattle.sv_types.specs.Statements.{doing, flows, flow_or_nothing}
use Rattle.eval_stmts.specs.Limits.{perhaps}
use Rattle.flow_sets.specs.declared.found.Found.{Found}
use Rattle.flow_sets.specs.Ends.{AreKnown}
use Rattle.flow_sets.specs.Flows.{IsFlow}
use Rattle.stmt_flows.specs.declared.fails.StmtFail.{StmtFail}
use Rattle.stmt_flows.specs.declared.fails.StmtFail.TheVariants as S

-- a process or function has no more statements, each counted by itself
abbrev pub most_statements : ℕ
most_statements = 2 ^ 20

-- A flow, or a failure: the token of a constant that takes too long, or, where statements are counted, that they are too many.
abbrev pub FoundGives : Result Found StmtFail → Bool → (ℕ → Type 0) → Flow → Type 0
FoundGives (Ok r) counting long f = AreKnown r.ends × IsFlow r f
FoundGives (Err S.Memory) counting long f = ⊤
FoundGives (Err (S.TooLong at)) counting long f = long at
FoundGives (Err S.TooMany) counting long f = (counting ≡ true) × (most_statements < f.statements)

abbrev pub no_token : ℕ → Type 0
no_token at = ⊥

-- the flows of statements, of one that may be left out, and of the items of a `case`
abbrev pub flows_of : List Stmt → List Flows
flows_of ss = flows (map doing ss)

abbrev pub perhaps_flow : Option Stmt → Flows
perhaps_flow o h = flow_or_nothing (perhaps o) h

abbrev pub item_flows : List CaseItem → List Flows
item_flows is = map (λ (i : CaseItem). (doing i.body).flow) is

-- one of some branches, whatever stands for none of them
pub record IsAnyOf (r : Found) (fs : List Flows) (h : Sight) : Type 0 where
  pub flow : Flow
  pub is : IsFlow r flow
  pub any : (g : Flow) → F.or_else flow g ≡ F.any_of fs g h

abbrev pub AnyGives : Result Found StmtFail → Bool → (ℕ → Type 0) → List Flows → Sight → Type 0
AnyGives (Ok r) counting long fs h = AreKnown r.ends × IsAnyOf r fs h
AnyGives (Err S.Memory) counting long fs h = ⊤
AnyGives (Err (S.TooLong at)) counting long fs h = long at
AnyGives (Err S.TooMany) counting long fs h = (counting ≡ true) × ((g : Flow) → most_statements < (F.any_of fs g h).statements)
