-- Dimensions behind a type.
use Rattle.std.proofs.Common.{◌≡◌, ℕ, List, refl, sym, ap, ◌∙◌, subst}
use Rattle.std.specs.Prelude.{Result, Ok, Err}
use Rattle.sv_tree.specs.declared.expressions.Dimension.{Dimension}
use Rattle.sv_types.specs.declared.frame.ParamValue.{ParamValue}
use Rattle.sv_types.specs.declared.statement.Function.{Function}
use Rattle.sv_types.specs.declared.types.SvType.{SvType}
use Rattle.expr_type.specs.declared.halt.Halt.{Halt}
use Rattle.expr_type.specs.declared.halt.Halt.TheVariants as H
use Rattle.expr_type.specs.Answers.{Gives}
use Rattle.expr_type.specs.Forms as F
use Rattle.expr_type.specs.Forms.{dimensioned}
use Rattle.expr_type.specs.KeywordTypes.{Dim}
use Rattle.expr_type.specs.Names.{Context, with_values}
use Rattle.expr_type.specs.Types.{TypeFound, dims}
use Rattle.expr_type.specs.Typings.{Checked, Typed, Typing, applied, beside_by, checked, joined, known, whole}
use Rattle.typing_fits.specs.Operands.{AllValuesSound}
use Rattle.typing_walks.specs.Keeps.{Surrounded}
use Rattle.typing_walks.proofs.Types.{names-known}
use Rattle.typing_steps.specs.Steps.{TypesTo}
use Rattle.typing_steps.proofs.Combining.{checked-fine, checked-stops, rule-types}
use Rattle.typing_steps.proofs.Following.{by-behind-quiet, by-breaks, by-quiet}
use Rattle.typing_values.specs.Values.{behind}
use Rattle.typing_declarations.specs.Texts.{behind_found, packed_by, under_by}

-- behind values that are sound names are so too
pub values-surrounded : (Q : List Function → Type 0) (j k : Context) (vs : List ParamValue) → j ≡ with_values vs k → Surrounded Q k → AllValuesSound vs → Surrounded Q j
values-surrounded Q j k vs is s v = subst (λ (c : Context). Surrounded Q c) (sym is) (names-known Q k vs s v)

pub routine-kept : (j k : Context) (vs : List ParamValue) → j ≡ with_values vs k → j.routine ≡ k.routine
routine-kept j k vs is = ap (λ (c : Context). c.routine) is

abbrev with_type : TypeFound → SvType → TypeFound
with_type f t = record f { of = t }

abbrev under_dims : Context → TypeFound → List Dim → Typing TypeFound
under_dims k f d = checked (dimensioned k.source f.of (whole d)) (λ t. whole (with_type f t))

-- dimensions that stop
pub dims-stop : (j k : Context) (f : TypeFound) (ds : List Dimension) (h : Halt) (fs gs : List Function) → j ≡ with_values f.names k → TypesTo {A = List Dim} (Err h) (dims j ds fs) gs
    → TypesTo {A = TypeFound} (Err h) (under_by k f ds fs) gs
dims-stop j k f ds h fs gs is p =
    checked-stops (dims (with_values f.names k) ds) (under_dims k f) fs gs h (subst (λ (c : Context). TypesTo {A = List Dim} (Err h) (dims c ds fs) gs) is p)

under-types : (k : Context) (f : TypeFound) (d : List Dim) (r : Result SvType Halt) (gs : List Function) → Gives r (F.under k.source f.of d) → TypesTo r (dimensioned k.source f.of (whole d) gs) gs
under-types k f d r gs g = rule-types r (F.under k.source f.of d) gs g

-- the type under them
pub dims-types : (j k : Context) (f : TypeFound) (ds : List Dimension) (d : List Dim) (t : SvType) (fs gs : List Function) → j ≡ with_values f.names k → TypesTo (Ok d) (dims j ds fs) gs
    → Gives (Ok t) (F.under k.source f.of d) → TypesTo (Ok (with_type f t)) (under_by k f ds fs) gs
dims-types j k f ds d t fs gs is p g =
    checked-fine (dims (with_values f.names k) ds) (under_dims k f) fs gs gs d (Ok (with_type f t)) (subst (λ (c : Context). TypesTo (Ok d) (dims c ds fs) gs) is p)
    (checked-fine (dimensioned k.source f.of (whole d)) (λ t. whole (with_type f t)) gs gs gs t (Ok (with_type f t)) (under-types k f d (Ok t) gs g) refl)

pub under-stops : (j k : Context) (f : TypeFound) (ds : List Dimension) (d : List Dim) (h : Halt) (fs gs : List Function) → j ≡ with_values f.names k → TypesTo (Ok d) (dims j ds fs) gs
    → Gives {A = SvType} (Err h) (F.under k.source f.of d) → TypesTo {A = TypeFound} (Err h) (under_by k f ds fs) gs
under-stops j k f ds d h fs gs is p g =
    checked-fine (dims (with_values f.names k) ds) (under_dims k f) fs gs gs d (Err h) (subst (λ (c : Context). TypesTo (Ok d) (dims c ds fs) gs) is p)
    (checked-stops (dimensioned k.source f.of (whole d)) (λ t. whole (with_type f t)) gs gs h (under-types k f d (Err h) gs g))

-- the whole, by the type before its dimensions
abbrev put_both : Context → TypeFound × List Dim → Typing TypeFound
put_both k p = under_dims k p.0 p.1

joined-by : (k : Context) (f : TypeFound) (c : Checked (List Dim)) (gs : List Function) → applied (joined (Ok f) c) (put_both k) gs ≡ applied c (under_dims k f) gs
joined-by k f (Ok d) gs = refl
joined-by k f (Err b) gs = refl

packed-is : (k : Context) (x : Typing TypeFound) (ds : List Dimension) (f : TypeFound) (fs gs : List Function) → TypesTo (Ok f) (x fs) gs → packed_by k x ds fs ≡ under_by k f ds gs
packed-is k x ds f fs gs p =
    let s = dims (with_values f.names k) ds gs in
    ap (λ (r : Typed TypeFound). let t = dims (behind_found k (known r.result)) ds r.functions in applied (joined r.result t.result) (put_both k) t.functions) p
    ∙ joined-by k f s.result s.functions

pub packed-whole : (k : Context) (x : Typing TypeFound) (ds : List Dimension) (o : Result TypeFound Halt) (f : TypeFound) (r : Result TypeFound Halt) (fs gs hs : List Function) → o ≡ Ok f → TypesTo o (x fs) gs
    → TypesTo r (under_by k f ds gs) hs → TypesTo r (packed_by k x ds fs) hs
packed-whole k x ds o f r fs gs hs is p q =
    subst (λ (t : Typed TypeFound). TypesTo r t hs) (sym (packed-is k x ds f fs gs (subst (λ (y : Result TypeFound Halt). TypesTo y (x fs) gs) is p))) q

quiet-by : (k : Context) (x : Typing TypeFound) (ds : List Dimension) (r : Result (List Dim) Halt) (fs gs hs : List Function) → TypesTo {A = TypeFound} (Err H.Quiet) (x fs) gs → TypesTo r (dims k ds gs) hs
    → TypesTo {A = TypeFound} (Err (behind r)) (packed_by k x ds fs) hs
quiet-by k x ds (Ok d) fs gs hs p q =
    checked-stops (beside_by x (λ o. dims (behind_found k o) ds)) (put_both k) fs hs H.Quiet (by-quiet x (λ o. dims (behind_found k o) ds) fs gs hs d p q)
quiet-by k x ds (Err h) fs gs hs p q =
    checked-stops (beside_by x (λ o. dims (behind_found k o) ds)) (put_both k) fs hs h (by-behind-quiet x (λ o. dims (behind_found k o) ds) fs gs hs h p q)

pub packed-quiet : (k : Context) (x : Typing TypeFound) (ds : List Dimension) (o : Result TypeFound Halt) (r : Result (List Dim) Halt) (h : Halt) (fs gs hs : List Function) → o ≡ Err H.Quiet → h ≡ behind r
    → TypesTo o (x fs) gs → TypesTo r (dims k ds gs) hs → TypesTo {A = TypeFound} (Err h) (packed_by k x ds fs) hs
packed-quiet k x ds o r h fs gs hs is e p q =
    subst (λ (g : Halt). TypesTo {A = TypeFound} (Err g) (packed_by k x ds fs) hs) (sym e)
    (quiet-by k x ds r fs gs hs (subst (λ (y : Result TypeFound Halt). TypesTo y (x fs) gs) is p) q)

pub packed-breaks : (k : Context) (x : Typing TypeFound) (ds : List Dimension) (o : Result TypeFound Halt) (at n : ℕ) (fs gs hs : List Function) → o ≡ Err (H.Breaks at n) → TypesTo o (x fs) gs
    → TypesTo {A = TypeFound} (Err (H.Breaks at n)) (packed_by k x ds fs) hs
packed-breaks k x ds o at n fs gs hs is p =
    checked-stops (beside_by x (λ o. dims (behind_found k o) ds)) (put_both k) fs hs (H.Breaks at n)
    (by-breaks x (λ o. dims (behind_found k o) ds) fs gs hs at n (subst (λ (y : Result TypeFound Halt). TypesTo y (x fs) gs) is p))

pub ruleset under = (dims-stop, dims-types, under-stops, values-surrounded, routine-kept)
