-- Types that have the same bits.
use Rattle.std.proofs.Common.{◌≡◌, ℕ, zero, suc, ◌+◌, ◌<◌, ◌≤◌, Bool, true, false, ◌&&◌, cond, ℤ, List, [], ◌∷◌, length, map, drop, get_or, Option, Some, None, refl, arith, ap, sym, ◌∙◌, subst}
use Rattle.std.specs.Prelude.{slice_get}
use Rattle.expr_fits.proofs.Walks.{at-front, drop-none}
use Rattle.sv_types.specs.declared.types.SvType.{SvType, SvType-F}
use Rattle.sv_types.specs.declared.types.SvType.TheVariants.{Scalar, PackedArray, Struct, Union, Enum, UnpackedArray}
use Rattle.sv_types.specs.declared.types.Member.{Member}
use Rattle.sv_types.specs.declared.types.EnumName.{EnumName}
use Rattle.sv_types.specs.Layouts.{Layout, Part, layout, member_layout, type_step, count_of, repeated, above_the_next, at_the_bottom, stacked_marks}
use Rattle.sv_types.specs.Meanings.{same_sign}
use Rattle.sv_types.specs.Paths.{unlike, unlike_part, same_marks, elements_marks}
use Rattle.sv_types.proofs.Lengths.{layout-Scalar, layout-PackedArray, layout-Struct, layout-Union, layout-Enum, layout-UnpackedArray}
use Rattle.sv_types.proofs.Components.{member-layout}
use Rattle.expr_fits.specs.declared.alike.Elements.{Elements}
use Rattle.expr_fits.specs.Results.{AlikeIf, AllAlikeIf, PartIf, MadeOf, ElementIf, SameElementsIf, ElementsIf}

pub alike-PackedArray : (r : Bool) (left right : ℤ) (s : Bool) (t u : SvType) → AlikeIf r t u → AlikeIf r (PackedArray left right s t) (PackedArray left right s u)
alike-PackedArray false left right s t u h = tt
alike-PackedArray true left right s t u h =
    layout-PackedArray left right s t ∙ ap (λ l. type_step (SvType-F.PackedArray left right s l)) h ∙ sym (layout-PackedArray left right s u)

pub alike-UnpackedArray : (r : Bool) (left right : ℤ) (t u : SvType) → AlikeIf r t u → AlikeIf r (UnpackedArray left right t) (UnpackedArray left right u)
alike-UnpackedArray false left right t u h = tt
alike-UnpackedArray true left right t u h =
    layout-UnpackedArray left right t ∙ ap (λ l. type_step (SvType-F.UnpackedArray left right l)) h ∙ sym (layout-UnpackedArray left right u)

pub alike-Struct : (r : Bool) (i j : ℕ) (packed s : Bool) (ms ns : List Member) → AllAlikeIf r ms ns → AlikeIf r (Struct i packed s ms) (Struct j packed s ns)
alike-Struct false i j packed s ms ns h = tt
alike-Struct true i j packed s ms ns h =
    layout-Struct i packed s ms ∙ ap (λ ls. type_step (SvType-F.Struct 0 packed s ls)) h ∙ sym (layout-Struct j packed s ns)

pub alike-Union : (r : Bool) (i j : ℕ) (s : Bool) (ms ns : List Member) → AllAlikeIf r ms ns → AlikeIf r (Union i s ms) (Union j s ns)
alike-Union false i j s ms ns h = tt
alike-Union true i j s ms ns h = layout-Union i s ms ∙ ap (λ ls. type_step (SvType-F.Union 0 s ls)) h ∙ sym (layout-Union j s ns)

pub alike-Enum : (r : Bool) (i j : ℕ) (t u : SvType) (ms ns : List EnumName) → AlikeIf r t u → AlikeIf r (Enum i t ms) (Enum j u ns)
alike-Enum false i j t u ms ns h = tt
alike-Enum true i j t u ms ns h = layout-Enum i t ms ∙ h ∙ sym (layout-Enum j u ns)

pub ruleset kinds = (alike-PackedArray, alike-UnpackedArray, alike-Struct, alike-Union, alike-Enum)

-- a type is like its own bits
marks-same : (xs : List Bool) → same_marks xs xs ≡ true
marks-same [] = refl
marks-same (true ∷ xs) = marks-same xs
marks-same (false ∷ xs) = marks-same xs

sign-same : (s : Bool) → same_sign s s ≡ true
sign-same true = refl
sign-same false = refl

like-itself : (of : Layout) → unlike of of.two_state of.signed ≡ 0
like-itself of = ap (λ b. cond {A = ℕ} (b && same_sign of.signed of.signed) 0 1) (marks-same of.two_state) ∙ ap (λ b. cond {A = ℕ} b 0 1) (sign-same of.signed)

-- members
struct-part : (of : Layout) (ms : List Member) (k : ℕ) (m : Member) → k < length ms → m ≡ get_or ms k m → of ≡ layout m.of → unlike_part of (slice_get (above_the_next (map member_layout ms)) k) ≡ 0
struct-part of [] k m h is like = absurd (omega arith)
struct-part of (x ∷ ms) zero m h is like =
    subst (λ (l : Layout). unlike of l.two_state l.signed ≡ 0) (like ∙ sym (member-layout m) ∙ ap member_layout is) (like-itself of)
struct-part of (x ∷ ms) (suc k) m h is like = struct-part of ms k m (omega arith) is like

pub struct-like : (r : Bool) (t : SvType) (ms : List Member) (k : ℕ) (m : Member) → k < length ms → m ≡ get_or ms k m → AlikeIf r t m.of → PartIf r (layout t) (slice_get (above_the_next (map member_layout ms)) k)
struct-like false t ms k m h is like = tt
struct-like true t ms k m h is like = struct-part (layout t) ms k m h is like

union-part : (of : Layout) (ms : List Member) (k : ℕ) (m : Member) → k < length ms → m ≡ get_or ms k m → of ≡ layout m.of → unlike_part of (slice_get (map at_the_bottom (map member_layout ms)) k) ≡ 0
union-part of [] k m h is like = absurd (omega arith)
union-part of (x ∷ ms) zero m h is like =
    subst (λ (l : Layout). unlike of l.two_state l.signed ≡ 0) (like ∙ sym (member-layout m) ∙ ap member_layout is) (like-itself of)
union-part of (x ∷ ms) (suc k) m h is like = union-part of ms k m (omega arith) is like

pub union-like : (r : Bool) (t : SvType) (ms : List Member) (k : ℕ) (m : Member) → k < length ms → m ≡ get_or ms k m → AlikeIf r t m.of → PartIf r (layout t) (slice_get (map at_the_bottom (map member_layout ms)) k)
union-like false t ms k m h is like = tt
union-like true t ms k m h is like = union-part (layout t) ms k m h is like

part-Struct : (id : ℕ) (packed s : Bool) (ms : List Member) → (layout (Struct id packed s ms)).members ≡ above_the_next (map member_layout ms)
part-Struct id packed s ms = ap (λ (l : Layout). l.members) (layout-Struct id packed s ms)

pub from-Struct : (r : Bool) (of : Layout) (id k : ℕ) (packed s : Bool) (ms : List Member) → PartIf r of (slice_get (above_the_next (map member_layout ms)) k) → PartIf r of (slice_get (layout (Struct id packed s ms)).members k)
from-Struct r of id k packed s ms h = subst (λ ps. PartIf r of (slice_get ps k)) (sym (part-Struct id packed s ms)) h

part-Union : (id : ℕ) (s : Bool) (ms : List Member) → (layout (Union id s ms)).members ≡ map at_the_bottom (map member_layout ms)
part-Union id s ms = ap (λ (l : Layout). l.members) (layout-Union id s ms)

pub from-Union : (r : Bool) (of : Layout) (id k : ℕ) (s : Bool) (ms : List Member) → PartIf r of (slice_get (map at_the_bottom (map member_layout ms)) k) → PartIf r of (slice_get (layout (Union id s ms)).members k)
from-Union r of id k s ms h = subst (λ ps. PartIf r of (slice_get ps k)) (sym (part-Union id s ms)) h

pub ruleset members = (from-Struct, from-Union)

-- arrays
pub made-PackedArray : (e : Elements) (left right : ℤ) (s : Bool) → e.count ≡ count_of left right → MadeOf e (layout (PackedArray left right s e.item.now))
made-PackedArray e left right s is =
    let l = layout-PackedArray left right s e.item.now in
    record {
      marks = ap (λ (x : Layout). x.two_state) l ∙ ap (λ n. repeated n (layout e.item.now).two_state) (sym is);
      element = ap (λ (x : Layout). x.element) l;
    }

pub made-UnpackedArray : (e : Elements) (left right : ℤ) → e.count ≡ count_of left right → MadeOf e (layout (UnpackedArray left right e.item.now))
made-UnpackedArray e left right is =
    let l = layout-UnpackedArray left right e.item.now in
    record {
      marks = ap (λ (x : Layout). x.two_state) l ∙ ap (λ n. repeated n (layout e.item.now).two_state) (sym is);
      element = ap (λ (x : Layout). x.element) l;
    }

pub ruleset arrays = (made-PackedArray, made-UnpackedArray)

pub element-like : (r : Bool) (t : SvType) (from : Layout) (e : Elements) → MadeOf e from → AlikeIf r t e.item.now → ElementIf r (layout t) from
element-like false t from e made like = tt
element-like true t from e made like =
    subst (λ (p : Part). unlike (layout t) p.two_state p.signed ≡ 0) (sym made.element)
    (subst (λ (l : Layout). unlike (layout t) l.two_state l.signed ≡ 0) like (like-itself (layout t)))

pub elements-like : (r : Bool) (of from : Layout) (e f : Elements) (n : ℕ) → of.signed ≡ false → MadeOf e of → MadeOf f from → SameElementsIf r (layout e.item.now) (layout f.item.now) e.count n → ElementsIf r of from n
elements-like false of from e f n sign made other same = tt
elements-like true of from e f n sign made other same =
    let marks : of.two_state ≡ elements_marks from n =
    made.marks ∙ ap (λ k. repeated k (layout e.item.now).two_state) same.0 ∙ ap (λ (l : Layout). repeated n l.two_state) same.1 ∙ ap (λ (p : Part). repeated n p.two_state) (sym other.element) in
    subst (λ bs. unlike of bs false ≡ 0) marks (subst (λ s. unlike of of.two_state s ≡ 0) sign (like-itself of))

pub ruleset struct_like = (struct-like)

pub ruleset union_like = (union-like)

pub ruleset element_like = (element-like)

pub ruleset elements_like = (elements-like)

-- members, one by one
same-layout : (m : Member) (n : Member) → layout m.of ≡ layout n.of → member_layout m ≡ member_layout n
same-layout m n like = member-layout m ∙ like ∙ sym (member-layout n)

pub alike-next : (ms ns : List Member) (i : ℕ) (m n : Member) → i < length ms → i < length ns → m ≡ get_or ms i m → n ≡ get_or ns i n → layout (get_or ms i m).of ≡ layout (get_or ns i n).of
    → (map member_layout (drop i ms) ≡ map member_layout (drop i ns) → map member_layout ms ≡ map member_layout ns) → map member_layout (drop (i + 1) ms) ≡ map member_layout (drop (i + 1) ns) → map member_layout ms ≡ map member_layout ns
alike-next ms ns i m n h k is at like all rest =
    all (
    ap (map member_layout) (at-front ms i m h is) ∙ ap (λ l. l ∷ map member_layout (drop (i + 1) ms)) (same-layout m n (ap (λ (x : Member). layout x.of) is ∙ like ∙ sym (ap (λ (x : Member). layout x.of) at))) ∙ ap (λ ls. member_layout n ∷ ls) rest
    ∙ sym (ap (map member_layout) (at-front ns i n k at))
    )

pub alike-done : (ms ns : List Member) (i : ℕ) → length ms ≤ i → length ns ≤ i → (map member_layout (drop i ms) ≡ map member_layout (drop i ns) → map member_layout ms ≡ map member_layout ns) → map member_layout ms ≡ map member_layout ns
alike-done ms ns i h k all = all (ap (map member_layout) (drop-none ms i h) ∙ sym (ap (map member_layout) (drop-none ns i k)))
