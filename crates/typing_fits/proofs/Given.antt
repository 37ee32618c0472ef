-- Operands alone, and as they are given to targets; and what valuing them asks.
use Rattle.std.proofs.Common.{◌≡◌, ℕ, zero, suc, ◌<◌, max, true, not, List, [], ◌∷◌, ◌++◌, Some, refl, arith, ap, sym, ◌∙◌, subst}
use Rattle.std.specs.Prelude.{nat_lt, slice_get, Ok}
use Rattle.sv_types.specs.declared.expression.Expr.{Expr}
use Rattle.sv_types.specs.declared.statement.Function.{Function}
use Rattle.sv_types.specs.declared.types.SvType.{SvType}
use Rattle.sv_types.specs.Layouts.{layout, width_of}
use Rattle.sv_types.specs.Surroundings.{Parameter}
use Rattle.sv_types.specs.Meanings.{Meaning}
use Rattle.sv_types.specs.Operators.{assigned_width}
use Rattle.sv_types.specs.Expressions.{meaning}
use Rattle.eval_parts.specs.Limits.{Fits, FitsAlone}
use Rattle.eval_parts.proofs.TypeKinds.{wide-is}
use Rattle.eval_forms.specs.Callees.{formals_in, formals_or_none}
use Rattle.expr_type.specs.declared.operand.Valued.{Valued}
use Rattle.expr_type.specs.Typings.{Checked, refused, at_all, where_whole, lesser}
use Rattle.expr_type.specs.Shapes.{is_assignable, is_plain_to_enum, is_unpacked}
use Rattle.expr_type.specs.Names.{Source, position}
use Rattle.expr_type.specs.Uses.{names_any}
use Rattle.expr_type.specs.Operands.{Operand, Plain, Pattern, Stream, too_wide, width, is_value, parenthesized, sized, has_bits, is_plain, is_given, is_streamed, given, passed, no_stream, stops, calls_no_stream, is_constant, is_constant_value, constant_stream, constant_of, constant_alone}
use Rattle.typing_fits.specs.Types.{is_full}
use Rattle.typing_fits.specs.Sound.{Extends, Knows, Limited, LimitedAt, Sound, SoundAlone, SoundFor}
use Rattle.typing_fits.specs.Operands.{SoundPattern, SoundStream, SoundOperand}
use Rattle.typing_fits.proofs.Contexts.{refused-then, none-there, unless-none, whole-part, lesser-both}
use Rattle.typing_fits.proofs.Full.{full-bits}
use Rattle.typing_fits.proofs.Limits.{at-width}
use Rattle.typing_fits.proofs.Operators.{as-is, ok-is}

-- functions that are known stay known
pub extends-itself : (gs : List Function) → Extends gs gs
extends-itself gs = record { keeps = λ n f h. h }

pub extends-on : (fs gs hs : List Function) → Extends fs gs → Extends gs hs → Extends fs hs
extends-on fs gs hs x y = record { keeps = λ n f h. y.keeps n f (x.keeps n f h) }

get-more : (gs hs : List Function) (n : ℕ) (f : Function) → slice_get gs n ≡ Some f → slice_get (gs ++ hs) n ≡ Some f
get-more [] hs n f h = absurd (cc)
get-more (g ∷ gs) hs zero f h = h
get-more (g ∷ gs) hs (suc n) f h = get-more gs hs n f h

pub extends-more : (gs hs : List Function) → Extends gs (gs ++ hs)
extends-more gs hs = record { keeps = λ n f h. get-more gs hs n f h }

pub knows-itself : (gs : List Function) → Knows gs (formals_in gs)
knows-itself gs = record { formals = λ n f h. ap formals_or_none h }

pub knows-fewer : (gs hs : List Function) (fs : ℕ → List Parameter) → Extends gs hs → Knows hs fs → Knows gs fs
knows-fewer gs hs fs e k = record { formals = λ n f h. k.formals n f (e.keeps n f h) }

limited-later : (m : Meaning) (ops : List ℕ) (gs hs : List Function) → Extends gs hs → Limited m ops gs → Limited m ops hs
limited-later m ops gs hs e l = record { typed = l.typed; narrow = l.narrow; indexing = l.indexing; arithmetic = λ fs k w h. l.arithmetic fs (knows-fewer gs hs fs e k) w h }

at-later : (m : Meaning) (w : ℕ) (gs hs : List Function) → Extends gs hs → LimitedAt m w gs → LimitedAt m w hs
at-later m w gs hs e l = record { typed = l.typed; narrow = l.narrow; indexing = l.indexing; arithmetic = λ fs k. l.arithmetic fs (knows-fewer gs hs fs e k) }

pub sound-later : (v : Valued) (gs hs : List Function) → Extends gs hs → Sound v gs → Sound v hs
sound-later v gs hs e s = record { of = s.of; own = s.own; limits = limited-later (meaning v.expr) v.arithmetic gs hs e s.limits }

pub for-later : (x : Expr) (t : SvType) (gs hs : List Function) → Extends gs hs → SoundFor x t gs → SoundFor x t hs
for-later x t gs hs e s = record { of = s.of; limits = at-later (meaning x) (max (width_of t) (width_of x.of)) gs hs e s.limits }

pub alone-later : (x : Expr) (gs hs : List Function) → Extends gs hs → SoundAlone x gs → SoundAlone x hs
alone-later x gs hs e s = record { of = s.of; limits = at-later (meaning x) (width_of x.of) gs hs e s.limits }

pattern-later : (x : Expr) (t : SvType) (gs hs : List Function) → Extends gs hs → SoundPattern x t gs → SoundPattern x t hs
pattern-later x t gs hs e s = record { is = s.is; sound = record { of = s.sound.of; own = s.sound.own; limits = limited-later (meaning x) [] gs hs e s.sound.limits } }

pub operand-later : (o : Operand) (gs hs : List Function) → Extends gs hs → SoundOperand o gs → SoundOperand o hs
operand-later (Plain v) gs hs e s = sound-later v gs hs e s
operand-later (Pattern tick of) gs hs e s = λ at t x full is. pattern-later x t gs hs e (s at t x full is)
operand-later (Stream v) gs hs e s = record { none = s.none; sound = sound-later v gs hs e s.sound; short = s.short }

-- what valuing asks
fits-at : (e : Expr) (w : ℕ) (gs : List Function) (fs : ℕ → List Parameter) → 0 < w → LimitedAt (meaning e) w gs → Knows gs fs → Fits (meaning e) fs w
fits-at e w gs fs some l k = record { some = some; typed = l.typed; narrow = omega (arith, l.narrow); arithmetic = l.arithmetic fs k; indexing = l.indexing }

pub alone-fits : (e : Expr) (gs : List Function) (fs : ℕ → List Parameter) → SoundAlone e gs → Knows gs fs → FitsAlone (meaning e) fs
alone-fits e gs fs s k = subst (λ w. Fits (meaning e) fs w) (sym (wide-is e)) (fits-at e (width_of e.of) gs fs (full-bits e.of s.of.full) s.limits k)

pub for-fits : (e : Expr) (t : SvType) (gs : List Function) (fs : ℕ → List Parameter) → SoundFor e t gs → Knows gs fs → Fits (meaning e) fs (assigned_width (layout t).two_state (meaning e))
for-fits e t gs fs s k =
    subst (λ w. Fits (meaning e) fs (max (width_of t) w)) (sym (wide-is e))
    (fits-at e (max (width_of t) (width_of e.of)) gs fs (omega (arith, full-bits e.of s.of.full)) s.limits k)

-- a typed expression alone, and in a context that its operators allow
pub sound-alone : (v : Valued) (gs : List Function) → Sound v gs → SoundAlone v.expr gs
sound-alone v gs s = record { of = s.of; limits = at-width (meaning v.expr) v.arithmetic gs (width v) s.limits s.own }

pub sound-fits : (v : Valued) (gs : List Function) → Sound v gs → FitsAlone (meaning v.expr) (formals_in gs)
sound-fits v gs s = alone-fits v.expr gs (formals_in gs) (sound-alone v gs s) (knows-itself gs)

pub sound-for : (v : Valued) (t : SvType) (gs : List Function) → Sound v gs → too_wide (max (width_of t) (width v)) v.arithmetic ≡ [] → SoundFor v.expr t gs
sound-for v t gs s h = record { of = s.of; limits = at-width (meaning v.expr) v.arithmetic gs (max (width_of t) (width v)) s.limits h }

-- operands alone
pub value-sound : (k : Source) (o : Operand) (v : Valued) (gs : List Function) → is_value k o ≡ Ok v → SoundOperand o gs → Sound v gs
value-sound k (Plain u) v gs h s = as-is u v gs (ok-is u v h) s
value-sound k (Pattern tick of) v gs h s = absurd (cc)
value-sound k (Stream u) v gs h s = absurd (cc)

pub bits-sound : (k : Source) (v u : Valued) (gs : List Function) → has_bits k v ≡ Ok u → Sound v gs → Sound u gs
bits-sound k v u gs h s = as-is v u gs (ok-is v u (refused-then (is_unpacked v.expr.of) (position k v.first) 508 (Ok v) u h)) s

pub parenthesized-sound : (opening : ℕ) (o : Operand) (gs : List Function) → SoundOperand o gs → SoundOperand (parenthesized opening o) gs
parenthesized-sound opening (Plain v) gs s = s
parenthesized-sound opening (Pattern tick of) gs s = s
parenthesized-sound opening (Stream v) gs s = s

abbrev operand_ok : Operand → Checked Operand
operand_ok o = Ok o

operand-is : (o p : Operand) (gs : List Function) → operand_ok o ≡ Ok p → SoundOperand o gs → SoundOperand p gs
operand-is o p gs h s = let e : o ≡ p = cc in subst (λ x. SoundOperand x gs) e s

pub unstreamed-sound : (k : Source) (o p : Operand) (gs : List Function) → no_stream k o ≡ Ok p → SoundOperand o gs → SoundOperand p gs
unstreamed-sound k (Plain v) p gs h s = operand-is (Plain v) p gs h s
unstreamed-sound k (Pattern tick of) p gs h s = operand-is (Pattern tick of) p gs h s
unstreamed-sound k (Stream v) p gs h s = absurd (cc)

stream-none : (k : Source) (u v : Valued) → constant_stream {A = Valued} k u ≡ Ok v → ⊥
stream-none k u v h = let e = refused-then (names_any u.expr) (position k u.first) 406 _ v h in absurd (cc)

pub constant-value-sound : (k : Source) (o : Operand) (v : Valued) (gs : List Function) → is_constant_value k o ≡ Ok v → SoundOperand o gs → Sound v gs
constant-value-sound k (Plain u) v gs h s = as-is u v gs (ok-is u v h) s
constant-value-sound k (Pattern tick of) v gs h s = absurd (cc)
constant-value-sound k (Stream u) v gs h s = absurd (stream-none k u v h)

-- what is given to a target
abbrev expr_ok : Expr → Checked Expr
expr_ok e = Ok e

for-is : (a e : Expr) (t : SvType) (gs : List Function) → expr_ok a ≡ Ok e → SoundFor a t gs → SoundFor e t gs
for-is a e t gs h s = let is : a ≡ e = cc in subst (λ x. SoundFor x t gs) is s

plain-is : (k : Source) (t : SvType) (v : Valued) (e : Expr) → is_plain k t v ≡ Ok e → expr_ok v.expr ≡ Ok e
plain-is k t v e h = refused-then (is_plain_to_enum t v.expr.of) (position k v.first) 503 (Ok v.expr) e h

sized-none : (k : Source) (w : ℕ) (v u : Valued) → sized k w v v ≡ Ok u → too_wide w v.arithmetic ≡ []
sized-none k w v u h = none-there k.instance 502 (too_wide w v.arithmetic) (unless-none (at_all k.instance 502 (too_wide w v.arithmetic)) v u h)

pub plain-given : (k : Source) (t : SvType) (v : Valued) (e : Expr) (gs : List Function) → is_given k t v ≡ Ok e → Sound v gs → SoundFor e t gs
plain-given k t v e gs h s =
    let w = max (width_of t) (width v) in
    let inner = where_whole (lesser (is_plain k t v) (sized k w v v)) (λ p. Ok p.0) in
    let p = whole-part (lesser (is_plain k t v) (sized k w v v)) (λ p. Ok p.0) e (refused-then (not (is_assignable t v.expr.of)) (position k v.first) 501 inner e h) in
    let b = lesser-both (is_plain k t v) (sized k w v v) p.part p.is in
    for-is p.part.0 e t gs p.made (for-is v.expr p.part.0 t gs (plain-is k t v p.part.0 b.left) (sound-for v t gs s (sized-none k w v p.part.1 b.right)))

pub pattern-for : (e : Expr) (t : SvType) (gs : List Function) → SoundPattern e t gs → SoundFor e t gs
pattern-for e t gs s = record { of = s.sound.of; limits = at-width (meaning e) [] gs (max (width_of t) (width_of e.of)) s.sound.limits refl }

streamed-given : (k : Source) (t : SvType) (v : Valued) (e : Expr) (gs : List Function) → is_streamed k t v ≡ Ok e → SoundStream v gs → SoundFor e t gs
streamed-given k t v e gs h s =
    let w = max (width_of t) (width v) in
    let one = refused-then (nat_lt (width_of t) (width v)) (position k v.first) 501 (refused (nat_lt 65536 (width_of t)) (position k v.first) 701 (Ok v.expr)) e h in
    for-is v.expr e t gs (refused-then (nat_lt 65536 (width_of t)) (position k v.first) 701 (Ok v.expr) e one)
    (sound-for v t gs s.sound (ap (λ xs. too_wide w xs) s.none))

pub given-sound : (k : Source) (t : SvType) (o : Operand) (e : Expr) (gs : List Function) → given k t o ≡ Ok e → is_full t ≡ true → SoundOperand o gs → SoundFor e t gs
given-sound k t (Plain v) e gs h full s = plain-given k t v e gs h s
given-sound k t (Pattern tick of) e gs h full s = pattern-for e t gs (s tick t e full h)
given-sound k t (Stream v) e gs h full s = streamed-given k t v e gs h s

pub passed-sound : (k : Source) (t : SvType) (o : Operand) (e : Expr) (gs : List Function) → passed k t o ≡ Ok e → is_full t ≡ true → SoundOperand o gs → SoundFor e t gs
passed-sound k t (Plain v) e gs h full s = plain-given k t v e gs h s
passed-sound k t (Pattern tick of) e gs h full s = pattern-for e t gs (s tick t e full h)
passed-sound k t (Stream v) e gs h full s = absurd (cc)

-- constants
pub constant-is : {A : Type 0} (k : Source) (first : ℕ) (fs : List Function) (e : Expr) (other : Checked A) (a : A) → is_constant k first fs e other ≡ Ok a → other ≡ Ok a
constant-is {A = A} k first fs e other a h =
    let inner = where_whole (lesser other (calls_no_stream k first fs e)) (λ p. refused (stops fs e) (position k first) 608 (Ok p.0)) in
    let p = whole-part (lesser other (calls_no_stream k first fs e)) (λ p. refused (stops fs e) (position k first) 608 (Ok p.0)) a (refused-then (names_any e) (position k first) 406 inner a h) in
    let b = lesser-both other (calls_no_stream k first fs e) p.part p.is in
    b.left ∙ refused-then (stops fs e) (position k first) 608 (Ok p.part.0) a p.made

pub constant-sound : (k : Source) (t : SvType) (o : Operand) (e : Expr) (gs : List Function) → constant_of k t o gs ≡ Ok e → is_full t ≡ true → SoundOperand o gs → SoundFor e t gs
constant-sound k t (Plain v) e gs h full s = plain-given k t v e gs (constant-is k v.first gs v.expr (is_given k t v) e h) s
constant-sound k t (Pattern tick of) e gs h full s =
    let p = whole-part (of tick t) (λ x. is_constant k tick gs x (Ok x)) e h in
    for-is p.part e t gs (constant-is k tick gs p.part (Ok p.part) e p.made) (pattern-for p.part t gs (s tick t p.part full p.is))
constant-sound k t (Stream v) e gs h full s = absurd (let r = refused-then (names_any v.expr) (position k v.first) 406 _ e h in cc)

pub constant-alone-sound : (k : Source) (v : Valued) (e : Expr) (gs : List Function) → constant_alone k v gs ≡ Ok e → Sound v gs → SoundAlone e gs
constant-alone-sound k v e gs h s =
    let one : expr_ok v.expr ≡ Ok e = constant-is k v.first gs v.expr (Ok v.expr) e h in
    let is : v.expr ≡ e = cc in
    subst (λ x. SoundAlone x gs) is (sound-alone v gs s)
