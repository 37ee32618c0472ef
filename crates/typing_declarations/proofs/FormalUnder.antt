-- Types with the dimensions behind a name, and what is made of them.
use Rattle.std.proofs.Common.{◌≡◌, List, [], ◌∷◌, ◌++◌, Option, Some, None, Bool, true, false, cond, nat_lt, ℕ, refl, sym, ap, ◌∙◌, subst}
use Rattle.std.specs.Prelude.{Result, Ok, Err}
use Rattle.sv_tree.specs.declared.expressions.Dimension.{Dimension}
use Rattle.sv_types.specs.declared.frame.ParamValue.{ParamValue}
use Rattle.sv_types.specs.declared.statement.Function.{Function}
use Rattle.sv_types.specs.declared.statement.Way.{Way}
use Rattle.sv_types.specs.declared.types.SvType.{SvType}
use Rattle.sv_types.specs.Layouts.{width_of}
use Rattle.expr_type.specs.declared.halt.Halt.{Halt}
use Rattle.expr_type.specs.declared.halt.Halt.TheVariants as H
use Rattle.expr_type.specs.Answers.{Gives}
use Rattle.expr_type.specs.Functions as F
use Rattle.expr_type.specs.Functions.{formal_found}
use Rattle.expr_type.specs.Names.{Context, Source, local_id, position, with_values}
use Rattle.expr_type.specs.Operators.{not_too_long}
use Rattle.expr_type.specs.Shapes.{most_bits}
use Rattle.expr_type.specs.Types.{TypeFound, declared_type}
use Rattle.expr_type.specs.Typings.{Checked, Typed, Typing, applied, checked, joined, known, rule}
use Rattle.routine_fits.specs.Sound.{AllSoundFunctions}
use Rattle.typing_fits.specs.Operands.{AllValuesSound}
use Rattle.typing_fits.proofs.Names.{values-behind}
use Rattle.typing_scopes.specs.Ahead.{halted, mapped}
use Rattle.typing_steps.specs.Steps.{TypesTo}
use Rattle.typing_steps.proofs.Combining.{checked-fine, checked-stops, rule-types}
use Rattle.typing_steps.proofs.Following.{by-breaks}
use Rattle.typing_values.specs.Values.{behind}
use Rattle.typing_walks.specs.Keeps.{Surrounded}
use Rattle.typing_declarations.specs.Formals.{formal_at}
use Rattle.typing_declarations.specs.Giving.{dims_by, plain_result, result_rule, result_typed, whole_dims, with_dims, with_type}
use Rattle.typing_declarations.specs.FormalRows.{formal_typed}
use Rattle.typing_declarations.proofs.Parts.{beside-quiet, kept-by}

-- values behind others
pub sound-inside : (k j : Context) (vs : List ParamValue) → j ≡ with_values vs k → Surrounded AllSoundFunctions k → AllValuesSound vs → Surrounded AllSoundFunctions j
sound-inside k j vs e r s =
    let inside : Surrounded AllSoundFunctions (with_values vs k) = record { context = values-behind vs k s r.context; routines = r.routines } in
    subst (λ (x : Context). Surrounded AllSoundFunctions x) (sym e) inside

pub nil-behind : {A : Type 0} (xs : List A) → xs ++ [] ≡ xs
nil-behind [] = refl
nil-behind (x ∷ xs) = ap (λ ys. x ∷ ys) (nil-behind xs)

abbrev pub found_by : SvType → List ParamValue → TypeFound
found_by of vs = record { of = of; names = vs }

-- a type that is whole, by its parts
pub same-found : (of : SvType) (ns vs : List ParamValue) (f : TypeFound) → ns ≡ vs → found_by of vs ≡ f → found_by of ns ≡ f
same-found of ns vs f e is = ap (found_by of) e ∙ is

pub found-sound : (of : SvType) (vs : List ParamValue) (f : TypeFound) → found_by of vs ≡ f → AllValuesSound f.names → AllValuesSound vs
found-sound of vs f is s = subst (λ (x : TypeFound). AllValuesSound x.names) (sym is) s

-- the dimensions behind it
pub dims-stop : (j k : Context) (f : TypeFound) (ds : List Dimension) (h : Halt) (fs gs : List Function) → j ≡ with_values f.names k → TypesTo {A = SvType} (Err h) (declared_type j (Some f.of) ds fs) gs
    → TypesTo {A = TypeFound × SvType} (Err h) (whole_dims k f ds fs) gs
dims-stop j k f ds h fs gs is p =
    checked-stops (declared_type (with_values f.names k) (Some f.of) ds) (with_type f) fs gs h (subst (λ (c : Context). TypesTo {A = SvType} (Err h) (declared_type c (Some f.of) ds fs) gs) is p)

pub dims-types : (j k : Context) (f : TypeFound) (ds : List Dimension) (t : SvType) (fs gs : List Function) → j ≡ with_values f.names k → TypesTo (Ok t) (declared_type j (Some f.of) ds fs) gs → TypesTo (Ok (f, t)) (whole_dims k f ds fs) gs
dims-types j k f ds t fs gs is p =
    checked-fine (declared_type (with_values f.names k) (Some f.of) ds) (with_type f) fs gs gs t (Ok (f, t)) (subst (λ (c : Context). TypesTo (Ok t) (declared_type c (Some f.of) ds fs) gs) is p) refl

pub dims-stopped : (j k : Context) (f : TypeFound) (of : SvType) (vs : List ParamValue) (ds : List Dimension) (h : Halt) (fs gs : List Function) → found_by of vs ≡ f → j ≡ with_values vs k
    → TypesTo {A = SvType} (Err h) (declared_type j (Some of) ds fs) gs → TypesTo {A = TypeFound × SvType} (Err h) (whole_dims k f ds fs) gs
dims-stopped j k f of vs ds h fs gs same is p =
    subst (λ (x : TypeFound). TypesTo {A = TypeFound × SvType} (Err h) (whole_dims k x ds fs) gs) same (dims-stop j k (found_by of vs) ds h fs gs is p)

pub dims-made : (j k : Context) (f : TypeFound) (of : SvType) (vs own : List ParamValue) (ds : List Dimension) (t : SvType) (fs gs : List Function) → found_by of vs ≡ f → own ≡ vs → j ≡ with_values vs k
    → TypesTo (Ok t) (declared_type j (Some of) ds fs) gs → TypesTo (Ok (found_by of own, t)) (whole_dims k f ds fs) gs
dims-made j k f of vs own ds t fs gs same kept is p =
    subst (λ (ws : List ParamValue). TypesTo (Ok (found_by of ws, t)) (whole_dims k f ds fs) gs) (sym kept)
    (subst (λ (x : TypeFound). TypesTo (Ok (found_by of vs, t)) (whole_dims k x ds fs) gs) same (dims-types j k (found_by of vs) ds t fs gs is p))

-- the type before them
joined-by : (f : TypeFound) (c : Checked SvType) (gs : List Function) → applied c (with_type f) gs ≡ rule (joined (Ok f) c) gs
joined-by f (Ok t) gs = refl
joined-by f (Err b) gs = refl

dims-are : (k : Context) (x : Typing TypeFound) (ds : List Dimension) (f : TypeFound) (fs gs : List Function) → TypesTo (Ok f) (x fs) gs → with_dims k x ds fs ≡ whole_dims k f ds gs
dims-are k x ds f fs gs p =
    let s = dims_by k ds (Some f) gs in
    ap (λ (r : Typed TypeFound). let t = dims_by k ds (known r.result) r.functions in rule (joined r.result t.result) t.functions) p ∙ sym (joined-by f s.result s.functions)

pub dims-whole : (k : Context) (x : Typing TypeFound) (ds : List Dimension) (o : Result TypeFound Halt) (f : TypeFound) (r : Result (TypeFound × SvType) Halt) (fs gs hs : List Function) → o ≡ Ok f → TypesTo o (x fs) gs
    → TypesTo r (whole_dims k f ds gs) hs → TypesTo r (with_dims k x ds fs) hs
dims-whole k x ds o f r fs gs hs is p q =
    subst (λ (t : Typed (TypeFound × SvType)). TypesTo r t hs) (sym (dims-are k x ds f fs gs (subst (λ (y : Result TypeFound Halt). TypesTo y (x fs) gs) is p))) q

pub dims-breaks : (k : Context) (x : Typing TypeFound) (ds : List Dimension) (o : Result TypeFound Halt) (at n : ℕ) (fs gs hs : List Function) → o ≡ Err (H.Breaks at n) → TypesTo o (x fs) gs
    → TypesTo {A = TypeFound × SvType} (Err (H.Breaks at n)) (with_dims k x ds fs) hs
dims-breaks k x ds o at n fs gs hs is p = by-breaks x (dims_by k ds) fs gs hs at n (subst (λ (y : Result TypeFound Halt). TypesTo y (x fs) gs) is p)

behind-is : (r : Result SvType Halt) → halted r ≡ behind r
behind-is (Ok t) = refl
behind-is (Err h) = refl

pub dims-quiet : (k : Context) (x : Typing TypeFound) (ds : List Dimension) (o : Result TypeFound Halt) (r : Result SvType Halt) (h : Halt) (fs gs hs : List Function) → o ≡ Err H.Quiet → h ≡ behind r
    → TypesTo o (x fs) gs → TypesTo r (declared_type k None ds gs) hs → TypesTo {A = TypeFound × SvType} (Err h) (with_dims k x ds fs) hs
dims-quiet k x ds o r h fs gs hs is e p q =
    subst (λ (g : Halt). TypesTo {A = TypeFound × SvType} (Err g) (with_dims k x ds fs) hs) (behind-is r ∙ sym e)
    (beside-quiet x (dims_by k ds) fs gs hs r (subst (λ (y : Result TypeFound Halt). TypesTo y (x fs) gs) is p) q)

pub ruleset unders = (dims-stop, dims-types, sound-inside, found-sound)

-- a formal of a type that is whole: it isn't too long
abbrev pub found_at : Context → Way → TypeFound → ℕ → List ParamValue → SvType → F.FormalFound
found_at k way f at names t = record { before = record { way = way; of = Some f }; id = local_id k at t; formal = formal_at k way at t; names = names }

pub narrow-found : (k : Context) (way : Way) (f : TypeFound) (at : ℕ) (t : SvType) (names : List ParamValue) (r : Result SvType Halt) → Gives r (not_too_long k.source at (width_of t) (Ok t))
    → Gives (mapped (found_at k way f at names) r) (formal_found k way f at t names)
narrow-found k way f at t names r g = kept-by (found_at k way f at names) (nat_lt most_bits (width_of t)) (position k.source at) 701 t r g

pub formal-types : (k : Context) (way : Way) (at : ℕ) (declares : Bool) (x : Typing (TypeFound × SvType)) (fs gs : List Function) (o : Result (TypeFound × SvType) Halt) (p : TypeFound × SvType) (r : Result F.FormalFound Halt) → o ≡ Ok p
    → TypesTo o (x fs) gs → Gives r (formal_found k way p.0 at p.1 (cond declares p.0.names [])) → TypesTo r (formal_typed k way at declares x fs) gs
formal-types k way at declares x fs gs o p r is t g =
    checked-fine x (λ (q : TypeFound × SvType). rule (formal_found k way q.0 at q.1 (cond declares q.0.names []))) fs gs gs p r (subst (λ (z : Result (TypeFound × SvType) Halt). TypesTo z (x fs) gs) is t)
    (rule-types r (formal_found k way p.0 at p.1 (cond declares p.0.names [])) gs g)

pub formal-stops : (k : Context) (way : Way) (at : ℕ) (declares : Bool) (x : Typing (TypeFound × SvType)) (fs gs : List Function) (o : Result (TypeFound × SvType) Halt) (h : Halt) → o ≡ Err h → TypesTo o (x fs) gs
    → TypesTo {A = F.FormalFound} (Err h) (formal_typed k way at declares x fs) gs
formal-stops k way at declares x fs gs o h is t =
    checked-stops x (λ (q : TypeFound × SvType). rule (formal_found k way q.0 at q.1 (cond declares q.0.names []))) fs gs h (subst (λ (z : Result (TypeFound × SvType) Halt). TypesTo z (x fs) gs) is t)

-- a result of a type that is whole
abbrev pub result_by : List ParamValue → SvType → F.ResultFound
result_by names t = plain_result true t names

pub narrow-result : (k : Source) (f : TypeFound) (at : ℕ) (t : SvType) (r : Result SvType Halt) → Gives r (not_too_long k at (width_of t) (Ok t)) → Gives (mapped (result_by f.names) r) (result_rule k at f t)
narrow-result k f at t r g = kept-by (result_by f.names) (nat_lt most_bits (width_of t)) (position k at) 701 t r g

pub result-types : (k : Source) (at : ℕ) (x : Typing (TypeFound × SvType)) (fs gs : List Function) (o : Result (TypeFound × SvType) Halt) (p : TypeFound × SvType) (r : Result F.ResultFound Halt) → o ≡ Ok p → TypesTo o (x fs) gs
    → Gives r (result_rule k at p.0 p.1) → TypesTo r (result_typed k at x fs) gs
result-types k at x fs gs o p r is t g =
    checked-fine x (λ (q : TypeFound × SvType). rule (result_rule k at q.0 q.1)) fs gs gs p r (subst (λ (z : Result (TypeFound × SvType) Halt). TypesTo z (x fs) gs) is t) (rule-types r (result_rule k at p.0 p.1) gs g)

pub result-stops : (k : Source) (at : ℕ) (x : Typing (TypeFound × SvType)) (fs gs : List Function) (o : Result (TypeFound × SvType) Halt) (h : Halt) → o ≡ Err h → TypesTo o (x fs) gs
    → TypesTo {A = F.ResultFound} (Err h) (result_typed k at x fs) gs
result-stops k at x fs gs o h is t = checked-stops x (λ (q : TypeFound × SvType). rule (result_rule k at q.0 q.1)) fs gs h (subst (λ (z : Result (TypeFound × SvType) Halt). TypesTo z (x fs) gs) is t)
