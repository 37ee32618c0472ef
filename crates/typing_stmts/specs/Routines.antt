-- Functions and tasks part by part, as they are looked at.
use Rattle.std.specs.Prelude.{◌≡◌, ℕ, Bool, List, map, Result, Ok, Err}
use Rattle.sv_tree.specs.declared.functions.Formal as G
use Rattle.sv_tree.specs.declared.statements.BlockItem.{BlockItem}
use Rattle.sv_types.specs.declared.statement.Formal.{Formal}
use Rattle.sv_types.specs.declared.statement.Function.{Function}
use Rattle.sv_types.specs.declared.statement.Stmt.{Stmt}
use Rattle.sv_types.specs.declared.types.SvType.{SvType}
use Rattle.expr_type.specs.declared.halt.Halt.{Halt}
use Rattle.expr_type.specs.declared.halt.Halt.TheVariants as H
use Rattle.expr_type.specs.Functions as F
use Rattle.expr_type.specs.Functions.{Head, behind_head, formals_of, function_path, function_result, head, typed_routine}
use Rattle.expr_type.specs.Names as N
use Rattle.expr_type.specs.Names.{Context, Home, RoutineText, OfFunction, OfTask}
use Rattle.expr_type.specs.Statements.{block, item_meaning}
use Rattle.expr_type.specs.Typings.{Typed, Typing, beside_by, whole}
use Rattle.typing_steps.specs.Steps.{StopsBy, TypesTo}
use Rattle.typing_values.specs.Values.{behind}
use Rattle.typing_declarations.specs.FormalRows.{formal_in}
use Rattle.typing_declarations.specs.Giving.{kind_by, no_result}
use Rattle.typing_stmts.specs.declared.identity.Identity.{Identity}

-- what the function is known by whose name stands at a token of a text
pub record IsIdentity (i : Identity) (k : Context) (h : Home) (name : ℕ) : Type 0 where
  pub instance : h.instance ≡ i.instance
  pub path : function_path h (N.word k.source name) ≡ i.path
  pub spot : N.spot k.source name ≡ i.spot

-- a function as it is made
abbrev pub function_by : Identity → Bool → SvType → List Formal → Stmt → Function
function_by i plain of formals body = record { instance = i.instance; path = i.path; spot = i.spot; kind = kind_by plain; of = of; formals = formals; body = body }

-- the head and the body of a function
abbrev pub body_typed : Context → ℕ → Typing F.ResultFound → List G.Formal → List BlockItem → Typing (Head × Stmt)
body_typed k name x gs items = beside_by (head k name x gs) (λ o. block (behind_head k name o) (map item_meaning items))

-- formals and a body, of a head with this result
pub record AreParts (made : List Formal) (body : Stmt) (r : F.ResultFound) (t : Typed (Head × Stmt)) (fs : List Function) : Type 0 where
  pub head : Head
  pub gives : t ≡ record { result = Ok (head, body); functions = fs }
  pub result : head.result ≡ r
  pub formals : map formal_in head.formals ≡ made

abbrev pub PartsTo : Result (List Formal × Stmt) Halt → F.ResultFound → Typed (Head × Stmt) → List Function → Type 0
PartsTo (Ok p) r t fs = AreParts p.0 p.1 r t fs
PartsTo (Err h) r t fs = StopsBy h t fs

-- a body behind formals
abbrev pub BodyTo : List Formal → Result (List Formal × Stmt) Halt → Context → List BlockItem → List Function → List Function → Type 0
BodyTo made (Ok p) j items fs gs = (p.0 ≡ made) × (block j (map item_meaning items) fs ≡ record { result = Ok p.1; functions = gs })
BodyTo made (Err h) j items fs gs = StopsBy h (block j (map item_meaning items) fs) gs

-- what stops behind a head that stopped: where that breaks nothing, the body is looked at for its breaks
pub record LooksOn (stop : Halt) (k : Context) (items : List BlockItem) (fs gs : List Function) : Type 0 where
  pub body : Result Stmt Halt
  pub is : stop ≡ behind body
  pub gives : TypesTo body (block k (map item_meaning items) fs) gs

abbrev pub StopsOn : Halt → Halt → Context → List BlockItem → List Function → List Function → Type 0
StopsOn H.Memory stop k items fs gs = stop ≡ H.Memory
StopsOn (H.Breaks at rule) stop k items fs gs = stop ≡ H.Breaks at rule
StopsOn H.Quiet stop k items fs gs = LooksOn stop k items fs gs

-- a body behind formals, or what stops behind what stopped them
abbrev pub BehindTo : Result (List Formal) Halt → Result (List Formal × Stmt) Halt → Context → Context → List BlockItem → List Function → List Function → Type 0
BehindTo (Ok made) r j k items fs gs = BodyTo made r j items fs gs
BehindTo (Err h) (Ok p) j k items fs gs = ⊥
BehindTo (Err h) (Err stop) j k items fs gs = StopsOn h stop k items fs gs

-- a function or task by its text, where it is typed
abbrev pub routine_of : Context → Home → RoutineText → Typing Function
routine_of k h (OfFunction f) = typed_routine k h f.name (function_result k f.name f.unpacked f.of) (formals_of f.formals) f.items
routine_of k h (OfTask t) = typed_routine k h t.name (whole no_result) (formals_of t.formals) t.items
