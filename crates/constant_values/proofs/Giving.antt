-- Parameters by what they are given.
use Rattle.std.proofs.Common.{◌≡◌, ℕ, max, Bool, true, false, List, [], Option, Some, None, refl, sym, ap, ◌∙◌, subst, arith}
use Rattle.std.specs.Prelude.{Result, Ok, Err, nat_lt, ◌||◌, slice_index_or}
use Rattle.std.specs.List.{list_any}
use Rattle.sv_tree.specs.declared.names.Signing.{Signing}
use Rattle.sv_types.specs.declared.expression.Expr.{Expr}
use Rattle.sv_types.specs.declared.frame.ParamValue.{ParamValue}
use Rattle.sv_types.specs.declared.statement.Function.{Function}
use Rattle.sv_types.specs.declared.types.SvType.{SvType}
use Rattle.sv_types.specs.declared.types.Value.{Value}
use Rattle.sv_types.specs.Expressions.{meaning}
use Rattle.sv_types.specs.Layouts.{layout, width_of}
use Rattle.sv_types.specs.Operators.{assigned_width}
use Rattle.eval_forms.specs.Callees.{formals_in}
use Rattle.eval_parts.specs.Limits.{Fits, FitsAlone}
use Rattle.expr_type.specs.declared.halt.Halt.{Halt}
use Rattle.expr_type.specs.declared.halt.Halt.TheVariants as H
use Rattle.expr_type.specs.declared.operand.Valued.{Valued}
use Rattle.expr_type.specs.Answers.{Gives, HaltsBy, reason}
use Rattle.expr_type.specs.Breaks.{At}
use Rattle.expr_type.specs.Forms.{is_signed_by}
use Rattle.expr_type.specs.Names.{Context, Source, position}
use Rattle.expr_type.specs.Operands.{Operand, constant_alone, constant_given, constant_of, constant_pattern, constant_stream, is_constant, is_constant_value, is_given, passed, stops, value_by, Plain, width}
use Rattle.expr_type.specs.Operators.{not_too_long}
use Rattle.expr_type.specs.Shapes.{vector}
use Rattle.expr_type.specs.Statements as S
use Rattle.expr_type.specs.Typings.{Checked, lesser, refused, where_whole}
use Rattle.expr_type.specs.Uses.{holds_stream, names_any, nothing, stream_marks, uses}
use Rattle.given_types.specs.Admitting.{Admits}
use Rattle.pattern_laws.proofs.Order.{HereIf}
use Rattle.pattern_types.specs.Meaning.{fitted_in, operand_of, pattern_of}
use Rattle.pattern_types.specs.declared.operand.Item as J
use Rattle.pattern_types.specs.declared.operand.Operand.TheVariants as OV
use Rattle.pattern_types.proofs.Here.{given-so}
use Rattle.pattern_types.proofs.Levels.{operand-Pattern, operand-Plain, operand-Stream}
use Rattle.typing_fits.specs.Operands.{SoundOperand, SoundPattern}
use Rattle.typing_fits.specs.Sound.{LimitedAt, Sound}
use Rattle.typing_fits.specs.Types.{is_full}
use Rattle.typing_fits.proofs.Given.{alone-fits, for-fits, knows-itself, pattern-for, plain-given, sound-alone}
use Rattle.typing_fits.proofs.Limits.{at-width}
use Rattle.stmt_laws.proofs.Values.{NoStream}
use Rattle.constant_values.specs.declared.parameters.Place.{Place}
use Rattle.constant_values.specs.Parameters.{AllGiven, IsGiven, IsGivenIf, limited, of_own_type, of_range, of_type, param, parameter_value, short}
use Rattle.constant_values.specs.Rules.{IsFree}
use Rattle.constant_values.specs.Valuing.{runs_on, valued}

-- E608 and E701
abbrev by_tests : Source → Place → ℕ → SvType → List Function → Expr → Bool → Bool → Checked ParamValue
by_tests k p first t fs e stop wide = refused stop (position k first) 608 (refused wide (position k p.name) 701 (Ok (param p t fs e)))

halts-too : (k : Source) (p : Place) (first : ℕ) (t : SvType) (fs : List Function) (e : Expr) (h : Halt) (stop wide : Bool)
    → HaltsBy h (reason (refused {A = Unit {0}} stop (position k first) 608 (Ok tt))) → HaltsBy h (reason (by_tests k p first t fs e stop wide))
halts-too k p first t fs e h true wide s = s
halts-too k p first t fs e H.Memory false wide s = tt
halts-too k p first t fs e (H.Breaks at n) false wide s = absurd (cc)
halts-too k p first t fs e H.Quiet false wide s = absurd (cc)

pub limit-halts : (k : Source) (p : Place) (first : ℕ) (t : SvType) (fs : List Function) (e : Expr) (h : Halt) → HaltsBy h (reason (runs_on k first fs e)) → HaltsBy h (reason (limited k p first t fs e))
limit-halts k p first t fs e h s = halts-too k p first t fs e h (stops fs e) (nat_lt 65536 (width_of t)) s

wide-by : (k : Source) (p : Place) (first : ℕ) (t : SvType) (fs : List Function) (e : Expr) (stop wide : Bool) → refused {A = Unit {0}} stop (position k first) 608 (Ok tt) ≡ Ok tt → wide ≡ true
    → reason (by_tests k p first t fs e stop wide) ≡ Some (Some (record { at = p.name; rule = 701 }))
wide-by k p first t fs e true wide s w = absurd (cc)
wide-by k p first t fs e false true s w = refl
wide-by k p first t fs e false false s w = absurd (cc)

pub limit-wide : (k : Source) (p : Place) (first : ℕ) (t : SvType) (fs : List Function) (e : Expr) → runs_on k first fs e ≡ Ok tt → nat_lt 65536 (width_of t) ≡ true
    → reason (limited k p first t fs e) ≡ Some (Some (record { at = p.name; rule = 701 }))
limit-wide k p first t fs e s w = wide-by k p first t fs e (stops fs e) (nat_lt 65536 (width_of t)) s w

value-by : (k : Source) (p : Place) (first : ℕ) (t : SvType) (fs : List Function) (e : Expr) (v : Value) (stop wide : Bool) → refused {A = Value} stop (position k first) 608 (Ok (value_by fs t e)) ≡ Ok v
    → wide ≡ false → by_tests k p first t fs e stop wide ≡ Ok (record { decl = p.declaration; of = t; value = v })
value-by k p first t fs e v true wide s w = absurd (cc)
value-by k p first t fs e v false true s w = absurd (cc)
value-by k p first t fs e v false false s w = let same : value_by fs t e ≡ v = cc in ap (λ (x : Value). made x) same
  where
    made : Value → Checked ParamValue
    made x = Ok (record { decl = p.declaration; of = t; value = x })

pub limit-value : (k : Source) (p : Place) (first : ℕ) (t : SvType) (fs : List Function) (e : Expr) (v : Value) → valued k first fs t e ≡ Ok v → nat_lt 65536 (width_of t) ≡ false
    → limited k p first t fs e ≡ Ok (record { decl = p.declaration; of = t; value = v })
limit-value k p first t fs e v s w = value-by k p first t fs e v (stops fs e) (nat_lt 65536 (width_of t)) s w

value-halts : (k : Source) (p : Place) (first : ℕ) (t : SvType) (fs : List Function) (e : Expr) (h : Halt) (stop wide : Bool)
    → HaltsBy h (reason (refused {A = Value} stop (position k first) 608 (Ok (value_by fs t e)))) → HaltsBy h (reason (by_tests k p first t fs e stop wide))
value-halts k p first t fs e h true wide s = s
value-halts k p first t fs e H.Memory false wide s = tt
value-halts k p first t fs e (H.Breaks at n) false wide s = absurd (cc)
value-halts k p first t fs e H.Quiet false wide s = absurd (cc)

pub limit-stops : (k : Source) (p : Place) (first : ℕ) (t : SvType) (fs : List Function) (e : Expr) (h : Halt) → HaltsBy h (reason (valued k first fs t e)) → HaltsBy h (reason (limited k p first t fs e))
limit-stops k p first t fs e h s = value-halts k p first t fs e h (stops fs e) (nat_lt 65536 (width_of t)) s

-- what may be valued
pub alone-fit : (e : Expr) (t : SvType) (fs : List Function) → IsGiven e t fs → FitsAlone (meaning e) (formals_in fs)
alone-fit e t fs g = alone-fits e fs (formals_in fs) g.alone (knows-itself fs)

pub given-fit : (e : Expr) (t : SvType) (fs : List Function) → IsGiven e t fs → Fits (meaning e) (formals_in fs) (assigned_width (layout t).two_state (meaning e))
given-fit e t fs g = for-fits e t fs (formals_in fs) g.given (knows-itself fs)

pub ruleset limits = (limit-halts, limit-wide, limit-value, limit-stops, alone-fit, given-fit)

-- what is made of something that isn't whole
pub where-stops : {A B : Type 0} (c : Checked A) (f : A → Checked B) (h : Halt) → HaltsBy h (reason c) → HaltsBy h (reason (where_whole c f))
where-stops (Ok a) f H.Memory p = tt
where-stops (Ok a) f (H.Breaks at n) p = absurd (cc)
where-stops (Ok a) f H.Quiet p = absurd (cc)
where-stops (Err b) f h p = p

-- a constant that keeps the other rules
module _ (k : Source) (first : ℕ) (e : Expr) (f : Expr → Checked ParamValue) where
  abbrev rules_by : Bool → Bool → Bool → Checked Expr → Checked ParamValue
  rules_by n s stop m =
      where_whole
      (refused n (position k first) 406 (where_whole (lesser m (refused {A = Expr} s (position k first) 512 (Ok e))) (λ q. refused stop (position k first) 608 (Ok q.0)))) f

  behind : (stop : Bool) → where_whole (refused stop (position k first) 608 (Ok e)) f ≡ refused stop (position k first) 608 (f e)
  behind true = refl
  behind false = refl

  free-by : (n s stop : Bool) (m : Checked Expr) → n ≡ false → s ≡ false → m ≡ Ok e → rules_by n s stop m ≡ refused stop (position k first) 608 (f e)
  free-by true s stop m a b c = absurd (cc)
  free-by false true stop m a b c = absurd (cc)
  free-by false false stop (Ok x) a b c = let same : x ≡ e = cc in ap (λ (y : Expr). where_whole (refused stop (position k first) 608 (Ok y)) f) same ∙ behind stop
  free-by false false stop (Err x) a b c = absurd (cc)

pub stands-then : (k : Source) (p : Place) (first : ℕ) (t : SvType) (fs : List Function) (e : Expr) (other : Result (Unit {0}) Halt) (m : Checked Expr) (r : Result ParamValue Halt) → IsFree fs e other → Admits other e m
    → Gives r (limited k p first t fs e) → Gives r (where_whole (is_constant k first fs e m) (short k p t fs))
stands-then k p first t fs e other m r free a g =
    let fine : m ≡ Ok e = subst (λ (o : Result (Unit {0}) Halt). Admits o e m) free.fine a in
    subst (λ (c : Checked ParamValue). Gives r c) (sym (free-by k first e (short k p t fs) (names_any e) (holds_stream fs e) (stops fs e) m free.names free.stream fine)) g

-- it holds no stream by itself
no-left : (a b : Bool) → (a || b) ≡ false → a ≡ false
no-left false b h = refl
no-left true b h = absurd (cc)

pub free-plain : (fs : List Function) (e : Expr) (other : Result (Unit {0}) Halt) → IsFree fs e other → NoStream e
free-plain fs e other f = no-left (uses e nothing).streams (list_any (λ n. slice_index_or (stream_marks fs) n false) (uses e nothing).calls) f.stream

pub free-given : (fs : List Function) (e : Expr) (t : SvType) (other : Result (Unit {0}) Halt) → IsFree fs e other → IsGivenIf other e t fs → IsGiven e t fs
free-given fs e t other f g = subst (λ (o : Result (Unit {0}) Halt). IsGivenIf o e t fs) f.fine g

pub ruleset standings = (stands-then, free-plain, free-given)

-- what may be given to a type
same-max : (n : ℕ) → max n n ≡ n
same-max n = omega arith

pub own-given : (v : Valued) (fs : List Function) → Sound v fs → IsGiven v.expr v.expr.of fs
own-given v fs s =
    let alone = sound-alone v fs s in
    record {
      alone = alone;
      given = record { of = alone.of; limits = subst (λ (w : ℕ). LimitedAt (meaning v.expr) w fs) (sym (same-max (width_of v.expr.of))) alone.limits };
    }

pub plain-if : (k : Source) (t : SvType) (v : Valued) (fs : List Function) (other : Result (Unit {0}) Halt) → Sound v fs → Admits other v.expr (is_given k t v) → IsGivenIf other v.expr t fs
plain-if k t v fs (Ok u) s a = record { alone = sound-alone v fs s; given = plain-given k t v v.expr fs a s }
plain-if k t v fs (Err h) s a = tt

pub plain-here : (k : Source) (t : SvType) (v : Valued) → HereIf k (is_given k t v)
plain-here k t v = subst (λ (o : Operand). HereIf k (passed k t o)) (operand-Plain k v) (given-so k (OV.Plain v) t)

pattern-is : (e : Expr) (t : SvType) (fs : List Function) → SoundPattern e t fs → IsGiven e t fs
pattern-is e t fs s = record {
  alone = record { of = s.sound.of; limits = at-width (meaning e) [] fs (width_of e.of) s.sound.limits s.sound.own };
  given = pattern-for e t fs s;
}

pub pattern-if : (k : Source) (tick times : ℕ) (is : List J.Item) (t : SvType) (fs : List Function) (made : Result Expr Halt) → SoundOperand (operand_of k (OV.Pattern tick times is)) fs → is_full t ≡ true
    → Gives made (fitted_in k (pattern_of k (record { tick = tick; times = times; items = is })) tick t) → AllGiven made t fs
pattern-if k tick times is t fs (Ok e) sound full g = pattern-is e t fs ((subst (λ (o : Operand). SoundOperand o fs) (operand-Pattern k tick times is) sound) tick t e full g)
pattern-if k tick times is t fs (Err h) sound full g = tt

pub plain-sound : (k : Source) (v : Valued) (fs : List Function) → SoundOperand (operand_of k (OV.Plain v)) fs → Sound v fs
plain-sound k v fs s = subst (λ (o : Operand). SoundOperand o fs) (operand-Plain k v) s

-- a pattern
pub pattern-then : (k : Source) (p : Place) (tick : ℕ) (t : SvType) (fs : List Function) (made : Result Expr Halt) (m : Checked Expr) (e : Expr) (r : Result ParamValue Halt) → made ≡ Ok e → Gives made m
    → Gives r (where_whole (is_constant k tick fs e (Ok e)) (short k p t fs)) → Gives r (where_whole (constant_pattern k tick m fs) (short k p t fs))
pattern-then k p tick t fs made m e r is g h =
    let whole : m ≡ Ok e = subst (λ (x : Result Expr Halt). Gives x m) is g in
    subst (λ (n : Checked Expr). Gives r (where_whole (constant_pattern k tick n fs) (short k p t fs))) (sym whole) h

inner-stops : (k : Source) (tick : ℕ) (fs : List Function) (m : Checked Expr) (h : Halt) → HaltsBy h (reason m) → HaltsBy h (reason (constant_pattern k tick m fs))
inner-stops k tick fs m h s = where-stops m (λ e. is_constant k tick fs e (Ok e)) h s

pub pattern-stops : (k : Source) (p : Place) (tick : ℕ) (t : SvType) (fs : List Function) (made : Result Expr Halt) (m : Checked Expr) (h : Halt) → made ≡ Err h → Gives made m
    → HaltsBy h (reason (where_whole (constant_pattern k tick m fs) (short k p t fs)))
pattern-stops k p tick t fs made m h is g =
    where-stops (constant_pattern k tick m fs) (short k p t fs) h (inner-stops k tick fs m h (subst (λ (x : Result Expr Halt). Gives x m) is g))

-- a stream
stream-by : (k : Source) (at : ℕ) (f : Expr → Checked ParamValue) (r : Result ParamValue Halt) (b : Bool)
    → Gives r (refused {A = ParamValue} b (position k at) 406 (Err (At (position k at) 512))) → Gives r (where_whole (refused {A = Expr} b (position k at) 406 (Err (At (position k at) 512))) f)
stream-by k at f (Ok x) true g = absurd (cc)
stream-by k at f (Ok x) false g = absurd (cc)
stream-by k at f (Err h) true g = g
stream-by k at f (Err h) false g = g

valued-by : (k : Source) (at : ℕ) (f : Valued → Checked ParamValue) (r : Result ParamValue Halt) (b : Bool)
    → Gives r (refused {A = ParamValue} b (position k at) 406 (Err (At (position k at) 512))) → Gives r (where_whole (refused {A = Valued} b (position k at) 406 (Err (At (position k at) 512))) f)
valued-by k at f (Ok x) true g = absurd (cc)
valued-by k at f (Ok x) false g = absurd (cc)
valued-by k at f (Err h) true g = g
valued-by k at f (Err h) false g = g

-- by the operand
pub type-plain : (k : Source) (p : Place) (t : SvType) (fs : List Function) (v : Valued) (r : Result ParamValue Halt) → Gives r (where_whole (constant_given k t v fs) (short k p t fs))
    → Gives r (of_type k p t (operand_of k (OV.Plain v)) fs)
type-plain k p t fs v r g = subst (λ (o : Operand). Gives r (of_type k p t o fs)) (sym (operand-Plain k v)) g

pub type-pattern : (k : Source) (p : Place) (t : SvType) (fs : List Function) (tick times : ℕ) (is : List J.Item) (r : Result ParamValue Halt)
    → Gives r (where_whole (constant_pattern k tick (fitted_in k (pattern_of k (record { tick = tick; times = times; items = is })) tick t) fs) (short k p t fs))
    → Gives r (of_type k p t (operand_of k (OV.Pattern tick times is)) fs)
type-pattern k p t fs tick times is r g = subst (λ (o : Operand). Gives r (of_type k p t o fs)) (sym (operand-Pattern k tick times is)) g

pub type-stream : (k : Source) (p : Place) (t : SvType) (fs : List Function) (v : Valued) (r : Result ParamValue Halt) → Gives r (constant_stream {A = ParamValue} k v)
    → Gives r (of_type k p t (operand_of k (OV.Stream v)) fs)
type-stream k p t fs v r g = subst (λ (o : Operand). Gives r (of_type k p t o fs)) (sym (operand-Stream k v)) (stream-by k v.first (short k p t fs) r (names_any v.expr) g)

abbrev by_value : Source → Place → List Function → Valued → Checked ParamValue
by_value k p fs v = where_whole (constant_alone k v fs) (short k p v.expr.of fs)

pub own-plain : (k : Source) (p : Place) (fs : List Function) (v : Valued) (r : Result ParamValue Halt) → Gives r (where_whole (is_constant k v.first fs v.expr (Ok v.expr)) (short k p v.expr.of fs))
    → Gives r (of_own_type k p (operand_of k (OV.Plain v)) fs)
own-plain k p fs v r g = subst (λ (o : Operand). Gives r (of_own_type k p o fs)) (sym (operand-Plain k v)) g

pub own-pattern : (k : Source) (p : Place) (fs : List Function) (tick times : ℕ) (is : List J.Item) → HaltsBy (H.Breaks tick 505) (reason (of_own_type k p (operand_of k (OV.Pattern tick times is)) fs))
own-pattern k p fs tick times is = subst (λ (o : Operand). HaltsBy (H.Breaks tick 505) (reason (of_own_type k p o fs))) (sym (operand-Pattern k tick times is)) refl

pub own-stream : (k : Source) (p : Place) (fs : List Function) (v : Valued) (r : Result ParamValue Halt) → Gives r (constant_stream {A = ParamValue} k v) → Gives r (of_own_type k p (operand_of k (OV.Stream v)) fs)
own-stream k p fs v r g = subst (λ (o : Operand). Gives r (of_own_type k p o fs)) (sym (operand-Stream k v)) (valued-by k v.first (by_value k p fs) r (names_any v.expr) g)

abbrev by_range : Source → Place → Bool → List Function → Valued → Checked ParamValue
by_range k p signed fs v = of_type k p (vector (width v) signed) (Plain v) fs

pub range-plain : (k : Source) (p : Place) (signed : Bool) (fs : List Function) (v : Valued) (r : Result ParamValue Halt) → Gives r (by_range k p signed fs v) → Gives r (of_range k p signed (operand_of k (OV.Plain v)) fs)
range-plain k p signed fs v r g = subst (λ (o : Operand). Gives r (of_range k p signed o fs)) (sym (operand-Plain k v)) g

pub range-pattern : (k : Source) (p : Place) (signed : Bool) (fs : List Function) (tick times : ℕ) (is : List J.Item) → HaltsBy (H.Breaks tick 505) (reason (of_range k p signed (operand_of k (OV.Pattern tick times is)) fs))
range-pattern k p signed fs tick times is = subst (λ (o : Operand). HaltsBy (H.Breaks tick 505) (reason (of_range k p signed o fs))) (sym (operand-Pattern k tick times is)) refl

pub range-stream : (k : Source) (p : Place) (signed : Bool) (fs : List Function) (v : Valued) (r : Result ParamValue Halt) → Gives r (constant_stream {A = ParamValue} k v) → Gives r (of_range k p signed (operand_of k (OV.Stream v)) fs)
range-stream k p signed fs v r g = subst (λ (o : Operand). Gives r (of_range k p signed o fs)) (sym (operand-Stream k v)) (valued-by k v.first (by_range k p signed fs) r (names_any v.expr) g)

-- A parameter of a text, which has at most 65,536 bits.
abbrev pub short_value : Context → ℕ → Option SvType → Operand → List Function → Checked ParamValue
short_value k at t o fs = where_whole (S.constant_value k at t o fs) (λ (v : ParamValue). not_too_long k.source at (width_of v.of) (Ok v))

abbrev place_at : Context → ℕ → Place
place_at k at = record { name = at; declaration = k.declared at }

made-short : (k : Context) (at : ℕ) (t : SvType) (fs : List Function) (c : Checked Expr)
    → where_whole (where_whole c (S.param_value k at t fs)) (λ (v : ParamValue). not_too_long k.source at (width_of v.of) (Ok v)) ≡ where_whole c (short k.source (place_at k at) t fs)
made-short k at t fs (Ok e) = refl
made-short k at t fs (Err b) = refl

own-short : (k : Context) (at : ℕ) (fs : List Function) (c : Checked Valued)
    → where_whole (where_whole c (λ (v : Valued). where_whole (constant_alone k.source v fs) (S.param_value k at v.expr.of fs))) (λ (v : ParamValue). not_too_long k.source at (width_of v.of) (Ok v))
    ≡ where_whole c (by_value k.source (place_at k at) fs)
own-short k at fs (Ok v) = made-short k at v.expr.of fs (constant_alone k.source v fs)
own-short k at fs (Err b) = refl

pub short-is : (k : Context) (at : ℕ) (t : Option SvType) (o : Operand) (fs : List Function) → short_value k at t o fs ≡ parameter_value k.source (place_at k at) t o fs
short-is k at None o fs = own-short k at fs (is_constant_value k.source o)
short-is k at (Some t) o fs = made-short k at t fs (constant_of k.source t o fs)

range-short : (k : Context) (at : ℕ) (s : Signing) (fs : List Function) (c : Checked Valued)
    → where_whole (where_whole c (λ (v : Valued). S.constant_value k at (Some (vector (width v) (is_signed_by s))) (Plain v) fs)) (λ (v : ParamValue). not_too_long k.source at (width_of v.of) (Ok v))
    ≡ where_whole c (by_range k.source (place_at k at) (is_signed_by s) fs)
range-short k at s fs (Ok v) = made-short k at (vector (width v) (is_signed_by s)) fs (constant_of k.source (vector (width v) (is_signed_by s)) (Plain v) fs)
range-short k at s fs (Err b) = refl

pub range-is : (k : Context) (at : ℕ) (s : Signing) (o : Operand) (fs : List Function)
    → where_whole (S.ranged_value k at s o fs) (λ (v : ParamValue). not_too_long k.source at (width_of v.of) (Ok v)) ≡ of_range k.source (place_at k at) (is_signed_by s) o fs
range-is k at s o fs = range-short k at s fs (is_constant_value k.source o)
