-- Slices have bits.
use Rattle.std.proofs.Common.{◌≡◌, ◌<◌, ℕ, Bool, true, false, List, [], Some, None, arith, refl, sym, ap, ◌∙◌, subst}
use Rattle.std.specs.Prelude.{Result, Ok, Err, IfOk, ◌==◌, ◌||◌, nat_lt, Option, pos, unsigned_abs}
use Rattle.std.proofs.lemmas.Bool.Decides.{nat_tests}
use Rattle.sv_tree.specs.Extents.{qualified_first}
use Rattle.sv_tree.specs.declared.expressions.Cast.{Cast}
use Rattle.sv_tree.specs.declared.expressions.Dimension.{Dimension}
use Rattle.sv_tree.specs.declared.expressions.Expr.{Expr}
use Rattle.sv_tree.specs.declared.expressions.Pattern.{Pattern}
use Rattle.sv_tree.specs.declared.expressions.PatternItem.{PatternItem}
use Rattle.sv_tree.specs.declared.expressions.Select.{Select}
use Rattle.sv_tree.specs.declared.expressions.ValueRange.{ValueRange}
use Rattle.sv_tree.specs.declared.expressions.SliceSize.{SliceSize, SliceSize-F, fold_out-SliceSize, map-SliceSize, out-SliceSize}
use Rattle.sv_types.specs.declared.statement.Function.{Function}
use Rattle.sv_types.specs.declared.types.SvType.{SvType}
use Rattle.sv_types.specs.Layouts.{width_of}
use Rattle.expr_type.specs.declared.halt.Halt.{Halt}
use Rattle.expr_type.specs.Breaks.{Position}
use Rattle.expr_type.specs.Expressions as E
use Rattle.expr_type.specs.Expressions.{slice_meaning}
use Rattle.expr_type.specs.Forms.{SelectMeaning, named, plain, slice_of, slice_within, type_of_thing}
use Rattle.expr_type.specs.KeywordTypes.{keyword_type}
use Rattle.expr_type.specs.Literals as L
use Rattle.expr_type.specs.Names.{Context, Source, position, thing, word}
use Rattle.expr_type.specs.Operands.{Operand, constant_in, is_number_in, number_within}
use Rattle.expr_type.specs.Shapes.{most_bits}
use Rattle.expr_type.specs.Typings.{Checked, Typed, Typing, applied, by_functions, checked, refused, rule, whole}
use Rattle.typing_steps.specs.Steps.{TypesTo}
use Rattle.typing_walks.proofs.Operands.{at-least-one, range-of}
use Rattle.typing_walks.proofs.Walk.{cast_meaning, item_meaning, pattern_meaning, range_meaning}

-- a rule that refuses no bits
cut-by : (p : Position) (n m : ℕ) (c b : Bool) → (n == 0) ≡ c → refused (c || b) p 411 (Ok n) ≡ Ok m → 0 < m
cut-by p n m true b e h = absurd (cc)
cut-by p n m false true e h = absurd (cc)
cut-by p n m false false e h =
    let is : n ≡ m = cc in
    let some : 0 < n = grind (arith, nat_tests) in
    subst (λ (x : ℕ). 0 < x) is some

cut-some : (k : Source) (at n m : ℕ) → slice_of k at n ≡ Ok m → 0 < m
cut-some k at n m h = cut-by (position k at) n m (n == 0) (nat_lt most_bits n) refl h

-- what came before what is whole
record Came {A B : Type 0} (x : Typing A) (f : A → Typing B) (fs : List Function) (b : B) : Type 0 where
  part : A
  known : List Function
  came : (x fs).result ≡ Ok part
  behind : (f part known).result ≡ Ok b

came-from : {A B : Type 0} (x : Typing A) (f : A → Typing B) (fs : List Function) (b : B) → (checked x f fs).result ≡ Ok b → Came x f fs b
came-from {A = A} {B = B} x f fs b h = by (x fs).result (x fs).functions refl h
  where
    by : (r : Checked A) (hs : List Function) → (x fs).result ≡ r → (applied r f hs).result ≡ Ok b → Came x f fs b
    by (Ok a) hs e h = record { part = a; known = hs; came = e; behind = h }
    by (Err c) hs e h = absurd (cc)

within-some : (k : Source) (x : Typing Operand) (fs : List Function) (m : ℕ) → (slice_within k x fs).result ≡ Ok m → 0 < m
within-some k x fs m h =
    let c = came-from (number_within k (pos 1) (pos most_bits) x) (λ n. whole (unsigned_abs n.number)) fs m h in
    let d = came-from (constant_in k x) (λ v. by_functions (is_number_in k (pos 1) (pos most_bits) v)) fs c.part c.came in
    let r = range-of k (pos 1) (pos most_bits) d.part d.known c.part d.behind in
    let b = c.behind in
    let e : unsigned_abs c.part.number ≡ m = cc in
    subst (λ (z : ℕ). 0 < z) e (at-least-one c.part.number r.0)

named-some : (k : Context) (of : _) (o : Option SvType) (fs : List Function) (m : ℕ)
    → (elim o as (λ x. Typing ℕ) [ Some t ↦ rule (slice_of k.source (qualified_first of) (width_of t)) | None ↦ slice_within k.source (plain (named k of [])) ] fs).result ≡ Ok m → 0 < m
named-some k of (Some t) fs m h = cut-some k.source (qualified_first of) (width_of t) m h
named-some k of None fs m h = within-some k.source (plain (named k of [])) fs m h

abbrev layer : SliceSize-F Cast Dimension Expr Pattern PatternItem Select SliceSize ValueRange → E.SliceMeaning
layer y = E.slice_size_step (map-SliceSize Cast Dimension Expr Pattern PatternItem Select SliceSize ValueRange E.CastMeaning E.DimensionMeaning E.Meaning E.PatternMeaning E.ItemMeaning SelectMeaning E.SliceMeaning E.RangeMeaning cast_meaning E.dimension_meaning E.meaning pattern_meaning item_meaning E.select_meaning slice_meaning range_meaning y)

layer-some : (y : SliceSize-F Cast Dimension Expr Pattern PatternItem Select SliceSize ValueRange) (k : Context) (fs : List Function) (m : ℕ) → (layer y k fs).result ≡ Ok m → 0 < m
layer-some (SliceSize-F.«SliceSize::Decimal» digits) k fs m h = cut-some k.source digits (L.decimal (word k.source digits)) m h
layer-some (SliceSize-F.Keyword of) k fs m h = cut-some k.source of.at (width_of (keyword_type of [])) m h
layer-some (SliceSize-F.«SliceSize::Name» of) k fs m h = named-some k of (type_of_thing (thing k of)) fs m h
layer-some (SliceSize-F.«SliceSize::Parenthesized» opening size closing) k fs m h = within-some k.source ((E.meaning size).typed k) fs m h

some-bits : (z : SliceSize) (k : Context) (fs : List Function) (m : ℕ) → (slice_meaning z k fs).result ≡ Ok m → 0 < m
some-bits z k fs m h =
    layer-some (out-SliceSize z) k fs m
    (ap (λ (s : E.SliceMeaning). (s k fs).result)
    (sym (fold_out-SliceSize E.CastMeaning E.DimensionMeaning E.Meaning E.PatternMeaning E.ItemMeaning SelectMeaning E.SliceMeaning E.RangeMeaning E.cast_step E.dimension_step E.expr_step E.pattern_step E.pattern_item_step E.select_step E.slice_size_step E.value_range_step z))
    ∙ h)

pub size-some : (z : SliceSize) (k : Context) (fs gs : List Function) (r : Result ℕ Halt) → TypesTo r (slice_meaning z k fs) gs → IfOk r (λ n. 0 < n)
size-some z k fs gs (Ok n) h = some-bits z k fs n (ap (λ (t : Typed ℕ). t.result) h)
size-some z k fs gs (Err e) h = tt

pub ruleset sizes = (size-some)
