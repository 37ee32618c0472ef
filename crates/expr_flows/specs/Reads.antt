-- What expressions read, and why it isn't known.
use Rattle.std.specs.Prelude.{◌≡◌, ⊤, ◌⊎◌, ℕ, Bool, true, List, [], map, flat_map, Result, Ok, Err}
use Rattle.std.specs.List.{list_all}
use Rattle.row_machine.specs.Valuation.{Member}
use Rattle.bit_sets.specs.declared.span.Use.{Use}
use Rattle.sv_types.specs.declared.expression.Expr.{Expr}
use Rattle.sv_types.specs.declared.expression.Form.{out-Form}
use Rattle.sv_types.specs.declared.expression.Form.TheVariants as V
use Rattle.sv_types.specs.Layouts.{layout}
use Rattle.sv_types.specs.Surroundings as S
use Rattle.sv_types.specs.Surroundings.{Parameter, Sight}
use Rattle.sv_types.specs.Meanings.{Meaning}
use Rattle.sv_types.specs.Paths.{reads_from}
use Rattle.sv_types.specs.Expressions.{meaning}
use Rattle.eval_forms.specs.declared.asked.Ask.TheVariants as A
use Rattle.eval_forms.specs.Asked.{Asked, form_asked}
use Rattle.expr_flows.specs.declared.fails.FlowFail.{FlowFail}
use Rattle.expr_flows.specs.declared.fails.FlowFail.TheVariants as F
use Rattle.expr_flows.specs.declared.known.Known.{Known}
use Rattle.expr_flows.specs.declared.traced.Traced.{Traced}
use Rattle.expr_flows.specs.declared.traced.Index.{Index}
use Rattle.expr_flows.specs.Known.{sight, takes_too_long}
use Rattle.expr_flows.specs.Traces.{IsTraced, IsIndex, IsShort, Adds}

-- the last index of a select path
abbrev pub IsIndexOf : Expr → Expr → Type 0
IsIndexOf i e = ((x : Expr) × (e.form ≡ V.Index x i)) ⊎ ((x : Expr) × (n : ℕ) × (up : Bool) × (e.form ≡ V.Slide x i n up))

-- a direct operand, at some width and sign and for some formals
pub record IsOperand (x e : Expr) : Type 0 where
  pub formals : ℕ → List Parameter
  pub width : ℕ
  pub signed : Bool
  pub here : Member (map (λ (q : Asked). q.of) (form_asked (layout e.of) formals width signed (out-Form e.form))) x

-- At this token a constant index stands in an expression whose value takes too long.
pub data LongIndex (k : Known) : Expr → ℕ → Type 0 where
  Here : (e i : Expr) → IsIndexOf i e → (meaning i).constant (sight k) ≡ true → takes_too_long k i ≡ true → LongIndex k e i.spot.at
  Inside : (e x : Expr) (at : ℕ) → IsOperand x e → LongIndex k x at → LongIndex k e at

abbrev pub ReadFails : FlowFail → Known → Expr → Type 0
ReadFails F.Memory k e = ⊤
ReadFails (F.TooLong at) k e = LongIndex k e at

-- whether its value is known, and what it reads
pub record Reads (known : Bool) (k : Known) (m : Meaning) (old new : List Use) : Type 0 where
  pub constant : known ≡ m.constant (sight k)
  pub adds : Adds old new (m.reads (sight k))

abbrev pub ReadsGive : Result Bool FlowFail → Known → Expr → List Use → List Use → Type 0
ReadsGive (Ok constant) k e old new = Reads constant k (meaning e) old new
ReadsGive (Err f) k e old new = ReadFails f k e

-- of an operand, where one that was valued before isn't counted again
abbrev pub reads_asked : Sight → Asked → List S.Use
reads_asked k q = elim q.ask [ A.Bits w s ↦ (meaning q.of).reads k | A.Again w s ↦ [] | A.Place ↦ (meaning q.of).reads k ]

abbrev pub constant_asked : Sight → Asked → Bool
constant_asked k q = elim q.ask [ A.Bits w s ↦ (meaning q.of).constant k | A.Again w s ↦ true | A.Place ↦ (meaning q.of).constant k ]

pub record OperandsRead (known : Bool) (k : Known) (qs : List Asked) (old new : List Use) : Type 0 where
  pub constant : known ≡ list_all (constant_asked (sight k)) qs
  pub adds : Adds old new (flat_map (reads_asked (sight k)) qs)

abbrev pub AskedGives : Result Bool FlowFail → Known → Asked → List Use → List Use → Type 0
AskedGives (Ok constant) k q old new = (constant ≡ constant_asked (sight k) q) × Adds old new (reads_asked (sight k) q)
AskedGives (Err f) k q old new = ReadFails f k q.of

-- what a step selects from, and what it takes to find it
abbrev pub TraceGives : Result Traced FlowFail → Known → Expr → List Use → List Use → Type 0
TraceGives (Ok t) k e old new = IsTraced t k (meaning e) × Adds old new (reads_from (meaning e).root (meaning e) (sight k))
TraceGives (Err f) k e old new = ReadFails f k e

-- a constant index whose value takes too long, or that holds one
pub data LongAt (k : Known) : Expr → ℕ → Type 0 where
  Itself : (i : Expr) → (meaning i).constant (sight k) ≡ true → takes_too_long k i ≡ true → LongAt k i i.spot.at
  Within : (i : Expr) (at : ℕ) → LongIndex k i at → LongAt k i at

abbrev pub IndexFails : FlowFail → Known → Expr → Type 0
IndexFails F.Memory k e = ⊤
IndexFails (F.TooLong at) k e = LongAt k e at

abbrev pub FixedGives : Result Index FlowFail → Known → Expr → Type 0
FixedGives (Ok i) k e = IsIndex i k (meaning e) × IsShort i
FixedGives (Err f) k e = IndexFails f k e

abbrev pub IndexGives : Result Index FlowFail → Known → Expr → List Use → List Use → Type 0
IndexGives (Ok i) k e old new = IsIndex i k (meaning e) × IsShort i × Adds old new ((meaning e).reads (sight k))
IndexGives (Err f) k e old new = IndexFails f k e
