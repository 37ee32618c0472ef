-- Selects of what is sound, and what names stand for.
use Rattle.std.proofs.Common.{◌≡◌, ℕ, ◌≤◌, ℤ, Bool, true, false, not, List, Option, Some, None, refl, arith, sym, subst}
use Rattle.std.specs.Prelude.{nat_lt, slice_get, pos, ◌-ℤ◌, int_le, unsigned_abs, Ok}
use Rattle.std.proofs.lemmas.Bool.Decides.{nat_tests}
use Rattle.sv_types.specs.declared.expression.Form.TheVariants as F
use Rattle.sv_types.specs.declared.statement.Function.{Function}
use Rattle.sv_types.specs.declared.types.SvType.{SvType}
use Rattle.sv_types.specs.Layouts.{Layout, layout, width_of, count_of}
use Rattle.sv_types.specs.Meanings.{wide}
use Rattle.sv_types.specs.Paths.{unlike, unlike_part, elements_marks}
use Rattle.sv_types.specs.Expressions.{meaning}
use Rattle.sv_types.proofs.Levels as L
use Rattle.sv_types.proofs.Heads.{heads}
use Rattle.eval_parts.proofs.TypeKinds.{wide-is}
use Rattle.expr_type.specs.declared.operand.Number.{Number}
use Rattle.expr_type.specs.declared.operand.Valued.{Valued}
use Rattle.expr_type.specs.declared.step.Step.{Step}
use Rattle.expr_type.specs.declared.step.Step.TheVariants as T
use Rattle.expr_type.specs.Typings.{Checked, refused}
use Rattle.expr_type.specs.Shapes.{element_of, members_of, is_unpacked, is_indexed}
use Rattle.expr_type.specs.Names.{Source, position, word}
use Rattle.expr_type.specs.Operands.{width}
use Rattle.expr_type.specs.Operators.{by_itself, not_too_long}
use Rattle.expr_type.specs.Selects.{Place, named, member_or, member_of, part_type, goes_wrong, element, part, slide, stepped, is_index}
use Rattle.typing_fits.specs.Sound.{IsNarrowType, Sound}
use Rattle.typing_fits.specs.Selects.{SoundIndex, SoundStep}
use Rattle.typing_fits.proofs.Contexts.{refused-no, refused-then}
use Rattle.typing_fits.proofs.Vectors.{has-bits}
use Rattle.typing_fits.proofs.Elements.{element-is, element-like, full-part, part-like, count-slide, member-is}
use Rattle.typing_fits.proofs.Operators.{alone-of, made-alone, as-is, ok-is}
use Rattle.typing_fits.proofs.PathLimits as M
use Rattle.typing_fits.proofs.PathLimits.{HasBits}

pub bits-in : (t : SvType) → IsNarrowType t → HasBits (layout t)
bits-in t h = record { some = has-bits t h.full; narrow = h.narrow }

-- what isn't too long
short-by : (n : ℕ) (b : Bool) → nat_lt 65536 n ≡ b → b ≡ false → n ≤ 65536
short-by n true is h = absurd (cc)
short-by n false is h = grind (arith, nat_tests, is)

pub short-no : {A : Type 0} (k : Source) (at n : ℕ) (other : Checked A) (a : A) → not_too_long k at n other ≡ Ok a → n ≤ 65536
short-no k at n other a h = short-by n (nat_lt 65536 n) refl (refused-no (nat_lt 65536 n) (position k at) 701 other a h)

pub long-no : {A : Type 0} (k : Source) (at n : ℕ) (other : Checked A) (a : A) → not_too_long k at n other ≡ Ok a → n ≤ 4194304
long-no k at n other a h = omega (arith, short-no k at n other a h)

pub long-then : {A : Type 0} (k : Source) (at n : ℕ) (other : Checked A) (a : A) → not_too_long k at n other ≡ Ok a → other ≡ Ok a
long-then k at n other a h = refused-then (nat_lt 65536 n) (position k at) 701 other a h

-- names of signals and locals
pub signal-sound : (k : Source) (first : ℕ) (t : SvType) (n : ℕ) (gs : List Function) → IsNarrowType t → Sound (by_itself k first t (F.Signal n)) gs
signal-sound k first t n gs h = made-alone k first t (F.Signal n) gs _ (L.form-Signal n) h (M.signal-limits (layout t) first n gs (bits-in t h))

pub local-sound : (k : Source) (first : ℕ) (t : SvType) (n : ℕ) (gs : List Function) → IsNarrowType t → Sound (by_itself k first t (F.Local n)) gs
local-sound k first t n gs h = made-alone k first t (F.Local n) gs _ (L.form-Local n) h (M.local-limits (layout t) first n gs (bits-in t h))

-- selects
member-by : (k : Source) (at : ℕ) (v u : Valued) (gs : List Function) (name : List ℕ) (o : Option Place) → named 0 (members_of v.expr.of) name ≡ o → member_or k at v o ≡ Ok u → Sound v gs → Sound u gs
member-by k at v u gs name None is h s = absurd (cc)
member-by k at v u gs name (Some m) is h s =
    let p = member-is v.expr.of s.of.full name m is in
    let a = by_itself k v.first m.of (F.Member v.expr m.number) in
    let narrow : IsNarrowType m.of = record { full = p.full; narrow = long-no k at (width_of m.of) (Ok a) u h } in
    as-is a u gs (ok-is a u (long-then k at (width_of m.of) (Ok a) u h))
    (made-alone k v.first m.of (F.Member v.expr m.number) gs _ (L.form-Member v.expr m.number) narrow
    (M.member-limits (layout m.of) v.first (meaning v.expr) m.number gs (bits-in m.of narrow)
    (subst (λ (l : Layout). unlike_part (layout m.of) (slice_get l.members m.number) ≡ 0) (sym (heads v.expr).kind) p.like) (alone-of v gs s)))

pub member-sound : (k : Source) (at : ℕ) (v u : Valued) (gs : List Function) → member_of k at v ≡ Ok u → Sound v gs → Sound u gs
member-sound k at v u gs h s = member-by k at v u gs (word k at) (named 0 (members_of v.expr.of) (word k at)) refl h s

short-index : (i : Valued) (gs : List Function) → SoundIndex i gs → wide (meaning i.expr) ≤ 64
short-index i gs s = let h = s.short in let e = wide-is i.expr in omega arith

pub element-sound : (k : Source) (opening : ℕ) (v i u : Valued) (gs : List Function) → element k opening v i ≡ Ok u → Sound v gs → SoundIndex i gs → Sound u gs
element-sound k opening v i u gs h s t =
    let of = element_of v.expr.of in
    let a = by_itself k v.first of (F.Index v.expr i.expr) in
    let rest = refused-then (not (is_indexed v.expr.of)) (position k opening) 508 (not_too_long k opening (width_of of) (Ok a)) u h in
    let narrow : IsNarrowType of = record { full = (element-is v.expr.of s.of.full).full; narrow = long-no k opening (width_of of) (Ok a) u rest } in
    as-is a u gs (ok-is a u (long-then k opening (width_of of) (Ok a) u rest))
    (made-alone k v.first of (F.Index v.expr i.expr) gs _ (L.form-Index v.expr i.expr) narrow
    (M.index-limits (layout of) v.first (meaning v.expr) (meaning i.expr) gs (bits-in of narrow)
    (subst (λ (l : Layout). unlike (layout of) l.element.two_state l.element.signed ≡ 0) (sym (heads v.expr).kind) (element-like v.expr.of s.of.full))
    (short-index i gs t) (alone-of v gs s) (alone-of i gs t.sound)))

pub part-sound : (k : Source) (opening : ℕ) (v u : Valued) (left right : Number) (gs : List Function) → part k opening v left right ≡ Ok u → Sound v gs → Sound u gs
part-sound k opening v u left right gs h s =
    let of = part_type v.expr.of left.number right.number in
    let a = by_itself k v.first of (F.Part v.expr left.number right.number) in
    let inner = not_too_long k opening (width_of of) (Ok a) in
    let rest = refused-then (goes_wrong v.expr.of left.number right.number) (position k left.first) 411 inner u
    (refused-then (is_unpacked v.expr.of) (position k opening) 508 (refused (goes_wrong v.expr.of left.number right.number) (position k left.first) 411 inner) u h) in
    let narrow : IsNarrowType of = record { full = full-part v.expr.of left.number right.number s.of.full; narrow = long-no k opening (width_of of) (Ok a) u rest } in
    as-is a u gs (ok-is a u (long-then k opening (width_of of) (Ok a) u rest))
    (made-alone k v.first of (F.Part v.expr left.number right.number) gs _ (L.form-Part v.expr left.number right.number) narrow
    (M.part-limits (layout of) v.first (meaning v.expr) left.number right.number gs (bits-in of narrow)
    (subst (λ (l : Layout). unlike (layout of) (elements_marks l (count_of left.number right.number)) false ≡ 0) (sym (heads v.expr).kind)
    (part-like v.expr.of left.number right.number (count_of left.number right.number) s.of.full refl))
    (alone-of v gs s)))

pub slide-sound : (k : Source) (opening : ℕ) (up : Bool) (v i u : Valued) (n : ℤ) (gs : List Function) → slide k opening up v i n ≡ Ok u → Sound v gs → SoundIndex i gs → int_le (pos 1) n ≡ true → Sound u gs
slide-sound k opening up v i u n gs h s t some =
    let of = part_type v.expr.of (n -ℤ pos 1) (pos 0) in
    let a = by_itself k v.first of (F.Slide v.expr i.expr (unsigned_abs n) up) in
    let rest = refused-then (is_unpacked v.expr.of) (position k opening) 508 (not_too_long k opening (width_of of) (Ok a)) u h in
    let narrow : IsNarrowType of = record { full = full-part v.expr.of (n -ℤ pos 1) (pos 0) s.of.full; narrow = long-no k opening (width_of of) (Ok a) u rest } in
    as-is a u gs (ok-is a u (long-then k opening (width_of of) (Ok a) u rest))
    (made-alone k v.first of (F.Slide v.expr i.expr (unsigned_abs n) up) gs _ (L.form-Slide v.expr i.expr (unsigned_abs n) up) narrow
    (M.slide-limits (layout of) v.first (meaning v.expr) (meaning i.expr) (unsigned_abs n) up gs (bits-in of narrow)
    (subst (λ (l : Layout). unlike (layout of) (elements_marks l (unsigned_abs n)) false ≡ 0) (sym (heads v.expr).kind)
    (part-like v.expr.of (n -ℤ pos 1) (pos 0) (unsigned_abs n) s.of.full (count-slide n some)))
    (short-index i gs t) (alone-of v gs s) (alone-of i gs t.sound)))

pub stepped-sound : (k : Source) (v u : Valued) (t : Step) (gs : List Function) → stepped k v t ≡ Ok u → Sound v gs → SoundStep t gs → Sound u gs
stepped-sound k v u (T.Member name) gs h s t = member-sound k name v u gs h s
stepped-sound k v u (T.Index opening i) gs h s t = element-sound k opening v i u gs h s t
stepped-sound k v u (T.Part opening left right) gs h s t = part-sound k opening v u left right gs h s
stepped-sound k v u (T.Slide opening up i n) gs h s t = slide-sound k opening up v i u n.number gs h s t.0 t.1

-- an index of at most 64 bits
index-by : (n : ℕ) (b : Bool) → nat_lt 64 n ≡ b → b ≡ false → n ≤ 64
index-by n true is h = absurd (cc)
index-by n false is h = grind (arith, nat_tests, is)

pub index-sound : (k : Source) (v u : Valued) (gs : List Function) → is_index k v ≡ Ok u → Sound v gs → SoundIndex u gs
index-sound k v u gs h s =
    let no = refused-no (nat_lt 64 (width v)) (position k v.first) 507 (Ok v) u h in
    let is = ok-is v u (refused-then (nat_lt 64 (width v)) (position k v.first) 507 (Ok v) u h) in
    subst (λ (x : Valued). SoundIndex x gs) is (record { sound = s; short = index-by (width v) (nat_lt 64 (width v)) refl no })
