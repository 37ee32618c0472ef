-- Functions by their parts, and by their texts.
use Rattle.std.proofs.Common.{◌≡◌, List, map, Bool, ℕ, sym, ap, ◌∙◌, subst}
use Rattle.std.specs.Prelude.{Result, Ok, Err}
use Rattle.sv_source.specs.declared.token.Spot.{Spot}
use Rattle.sv_tree.specs.declared.functions.Formal as G
use Rattle.sv_tree.specs.declared.statements.BlockItem.{BlockItem}
use Rattle.sv_types.specs.declared.frame.ParamValue.{ParamValue}
use Rattle.sv_types.specs.declared.statement.Formal.{Formal}
use Rattle.sv_types.specs.declared.statement.Function.{Function}
use Rattle.sv_types.specs.declared.statement.Stmt.{Stmt}
use Rattle.sv_types.specs.declared.types.SvType.{SvType}
use Rattle.expr_type.specs.declared.halt.Halt.{Halt}
use Rattle.expr_type.specs.declared.halt.Halt.TheVariants as H
use Rattle.expr_type.specs.Functions.{ResultFound, Head, function_of, function_path, name_of, typed_routine}
use Rattle.expr_type.specs.Names.{Context, Home, RoutineText, Source, spot, word}
use Rattle.expr_type.specs.Typings.{Typed, Typing, whole}
use Rattle.typing_scopes.specs.Ahead.{mapped}
use Rattle.typing_steps.specs.Steps.{StopsBy, TypesTo}
use Rattle.typing_steps.proofs.Combining.{checked-fine, checked-stops}
use Rattle.typing_declarations.specs.declared.results.ResultFound as C
use Rattle.typing_declarations.specs.FormalRows.{formal_in}
use Rattle.typing_declarations.specs.Giving.{kind_by, no_result, plain_result, result_of}
use Rattle.typing_stmts.specs.declared.identity.Identity.{Identity}
use Rattle.typing_stmts.specs.Routines.{IsIdentity, PartsTo, body_typed, function_by, routine_of}
use Rattle.typing_stmts.proofs.Bodied.{result-broken}

-- what a function gives, as it was found
pub found-is : (x : Typing ResultFound) (r s : Result C.ResultFound Halt) (fs gs : List Function) → r ≡ s → TypesTo (mapped result_of r) (x fs) gs → TypesTo (mapped result_of s) (x fs) gs
found-is x r s fs gs e p = subst (λ (z : Result C.ResultFound Halt). TypesTo (mapped result_of z) (x fs) gs) e p

pub nothing-found : (r : C.ResultFound) (fs : List Function) → result_of r ≡ no_result → TypesTo (mapped result_of (Ok r)) (whole no_result fs) fs
nothing-found r fs e = ap (λ (z : ResultFound). let t : Typed ResultFound = record { result = Ok z; functions = fs } in t) (sym e)

module _ (k : Context) (h : Home) (name : ℕ) (x : Typing ResultFound) (gs : List G.Formal) (items : List BlockItem) where
  abbrev put_function : Head × Stmt → Typing Function
  put_function p = whole (function_of k h name p.0 p.1)

  made-is : (z : Head) (body : Stmt) (s : Spot) (plain : Bool) (of : SvType) (formals' : List Formal) (instance : ℕ) (path : List ℕ) → h.instance ≡ instance → function_path h (word k.source name) ≡ path → spot k.source name ≡ s
      → z.result.kind ≡ kind_by plain → z.result.of ≡ of → map formal_in z.formals ≡ formals' → function_of k h name z body ≡ function_by (record { instance = instance; path = path; spot = s }) plain of formals' body
  made-is z body s plain of formals' instance path a b c d e f = cc

  function-fine : (f : Function) (z : Head) (body : Stmt) (fs js : List Function) → TypesTo (Ok (z, body)) (body_typed k name x gs items fs) js → function_of k h name z body ≡ f → TypesTo (Ok f) (typed_routine k h name x gs items fs) js
  function-fine f z body fs js p is = checked-fine (body_typed k name x gs items) put_function fs js js (z, body) (Ok f) p (ap (λ (g : Function). let t : Typed Function = record { result = Ok g; functions = js } in t) is)

  -- of its parts
  pub function-is : (f : Function) (i : Identity) (plain : Bool) (of : SvType) (names : List ParamValue) (p : List Formal × Stmt) (fs js : List Function) → f ≡ function_by i plain of p.0 p.1 → IsIdentity i k h name
      → PartsTo (Ok p) (plain_result plain of names) (body_typed k name x gs items fs) js → TypesTo (Ok f) (typed_routine k h name x gs items fs) js
  function-is f i plain of names p fs js e known a =
      function-fine f a.head p.1 fs js a.gives
      (made-is a.head p.1 i.spot plain of p.0 i.instance i.path known.instance known.path known.spot (ap (λ (q : ResultFound). q.kind) a.result) (ap (λ (q : ResultFound). q.of) a.result) a.formals ∙ sym e)

  pub function-stops : (fs js : List Function) (stop : Halt) → StopsBy stop (body_typed k name x gs items fs) js → TypesTo {A = Function} (Err stop) (typed_routine k h name x gs items fs) js
  function-stops fs js stop s = checked-stops (body_typed k name x gs items) put_function fs js stop s

  pub function-broken : (r : Result C.ResultFound Halt) (fs gs' js : List Function) (at n : ℕ) → r ≡ Err (H.Breaks at n) → TypesTo (mapped result_of r) (x fs) gs' → TypesTo {A = Function} (Err (H.Breaks at n)) (typed_routine k h name x gs items fs) js
  function-broken r fs gs' js at n e p = function-stops fs js (H.Breaks at n) (result-broken k name x gs items fs gs' js at n (found-is x r (Err (H.Breaks at n)) fs gs' e p))

  -- of formals and items as they are found in the text
  pub function-there : (gs' : List G.Formal) (items' : List BlockItem) (r : Result Function Halt) (fs js : List Function) → gs ≡ gs' → items ≡ items' → TypesTo r (typed_routine k h name x gs items fs) js → TypesTo r (typed_routine k h name x gs' items' fs) js
  function-there gs' items' r fs js e f p =
      subst (λ (ys : List BlockItem). TypesTo r (typed_routine k h name x gs' ys fs) js) f (subst (λ (y : List G.Formal). TypesTo r (typed_routine k h name x y items fs) js) e p)

-- a text, where it is typed
pub text-there : (k j : Context) (h : Home) (s t : RoutineText) (r : Result Function Halt) (fs js : List Function) → j ≡ k → s ≡ t → TypesTo r (routine_of j h t fs) js → TypesTo r (routine_of k h s fs) js
text-there k j h s t r fs js e f p =
    subst (λ (z : Context). TypesTo r (routine_of z h s fs) js) e (subst (λ (y : RoutineText). TypesTo r (routine_of j h y fs) js) (sym f) p)

pub spot-there : (k : Context) (z : Source) (s : RoutineText) (n : ℕ) (at : Spot) → at ≡ spot z n → z ≡ k.source → n ≡ name_of s → at ≡ spot k.source (name_of s)
spot-there k z s n at a e f = a ∙ ap (λ (q : Source). spot q n) e ∙ ap (spot k.source) f

pub known-by : (k j : Context) (h : Home) (s t : RoutineText) (instance : ℕ) (path : List ℕ) (at : Spot) → j ≡ k → s ≡ t → at ≡ spot k.source (name_of s) → h.instance ≡ instance → function_path h (word k.source (name_of s)) ≡ path
    → IsIdentity (record { instance = instance; path = path; spot = at }) j h (name_of t)
known-by k j h s t instance path at e f same a b =
    let here : IsIdentity (record { instance = instance; path = path; spot = at }) k h (name_of s) = record { instance = a; path = b; spot = sym same } in
    subst (λ (z : Context). IsIdentity (record { instance = instance; path = path; spot = at }) z h (name_of t)) (sym e)
    (subst (λ (y : RoutineText). IsIdentity (record { instance = instance; path = path; spot = at }) k h (name_of y)) f here)
