-- Dimensions, selects, and sizes of slices keep the order of the text.
use Rattle.std.proofs.Common.{ℕ, suc, ◌≤◌, ◌<◌, ◌||◌, ◌==◌, true, false, List, [], ◌∷◌, map, Option, Some, None, arith}
use Rattle.std.specs.Prelude.{◌^◌, ◌-ℤ◌, Ok, Err, nat_lt, neg_ℤ, pos, unsigned_abs}
use Rattle.std.specs.Option.{option_map}
use Rattle.sv_tree.specs.Extents.{qualified_first}
use Rattle.sv_tree.specs.declared.expressions.Dimension.{Dimension-F}
use Rattle.sv_tree.specs.declared.expressions.Select.{Select-F}
use Rattle.sv_tree.specs.declared.expressions.SliceSize.{SliceSize-F}
use Rattle.sv_tree.specs.declared.names.QualifiedName.{QualifiedName}
use Rattle.sv_tree.specs.declared.operators.PartOperator.{PartOperator}
use Rattle.sv_tree.specs.declared.operators.PartOperator.TheVariants as W
use Rattle.sv_tree.specs.declared.types.KeywordType.{KeywordType}
use Rattle.sv_types.specs.declared.types.SvType.{SvType}
use Rattle.sv_types.specs.Layouts.{width_of}
use Rattle.expr_type.specs.Expressions.{DimensionMeaning, Meaning, between, bounds, dimension_step, most_of_unpacked, part_dimension, part_step, select_step, slice_size_step, type_of_name}
use Rattle.expr_type.specs.Forms as F
use Rattle.expr_type.specs.Forms.{SelectMeaning, dimensioned, dimensions, slice_by_name, slice_of, slice_within, type_of_thing, under}
use Rattle.expr_type.specs.KeywordTypes.{Dim, keyword_type, named_type}
use Rattle.expr_type.specs.Literals as L
use Rattle.expr_type.specs.Names.{Context, Source, position, thing, word}
use Rattle.expr_type.specs.Operands.{Operand, number_within}
use Rattle.expr_type.specs.Placed.{OperandTyping, RoutinesInOrder, SelectsInOrder, Stands, StepIf, StepStands}
use Rattle.expr_type.specs.Selects.{bound_in, index_in, width_in}
use Rattle.expr_type.specs.Shapes.{is_unpacked, most_bits}
use Rattle.expr_type.specs.Typings.{Checked, Typing, all, rule, whole}
use Rattle.expr_type.specs.declared.step.Step.{Step}
use Rattle.expr_type.specs.declared.step.Step.TheVariants as S
use Rattle.expr_type.proofs.Forms.{name}
use Rattle.expr_type.proofs.Ordering.{place}
use Rattle.order_laws.specs.Meanings.{DimsStand, ExprInOrder, TypeIf}
use Rattle.order_laws.proofs.Meant.{Anything, DimStands, DimensionInOrder, NumberStands, SelectStands, SliceInOrder}
use Rattle.order_laws.proofs.Operands.{index-typing, number-typing, placed-from, typed-wider}
use Rattle.order_laws.proofs.Parts.{each-of}
use Rattle.order_laws.proofs.Typings.{Each, PlacedAs, TypedAs, as-all, as-both, as-checked, as-refused, as-wider}

-- bounds, each a constant
bound : (k : Context) (e : Meaning) (low high low' high' : ℕ) → low' ≤ low → high ≤ high' → RoutinesInOrder k → ExprInOrder low high e
    → TypedAs (NumberStands low high) k.source.instance low' high' (bound_in k.source (e.typed k))
bound k e low high low' high' h m rs p =
    typed-wider k.source.instance (NumberStands low high) (bound_in k.source (e.typed k)) low high low' high' h m (number-typing k.source low high (neg_ℤ (pos (2 ^ 63))) (pos (2 ^ 63) -ℤ pos 1) (e.typed k) (p.typed k rs))

bounds-typing : (k : Context) (opening : ℕ) (left right : Meaning) (low middle high : ℕ) → low ≤ opening → opening < middle → middle ≤ high → RoutinesInOrder k
    → ExprInOrder (suc opening) middle left → ExprInOrder middle high right → TypedAs (DimStands low high) k.source.instance low high (bounds k opening left right)
bounds-typing k opening left right low middle high h m n rs p q =
    as-both k.source.instance (NumberStands (suc opening) middle) (NumberStands middle high) (DimStands low high) (bound_in k.source (left.typed k)) (bound_in k.source (right.typed k))
    (λ l r. whole (between opening l r)) low middle high (omega arith) n
    (bound k left (suc opening) middle low middle (omega arith) (omega arith) rs p) (bound k right middle high middle high (omega arith) (omega arith) rs q)
    (λ l r s t fs. (h, omega arith))

-- dimensions
pub size-dimension : (opening : ℕ) (size : Meaning) (closing low high : ℕ) → low ≤ opening → opening < high → ExprInOrder (suc opening) high size
    → DimensionInOrder low high (dimension_step (Dimension-F.Size opening size closing))
size-dimension opening size closing low high h m p k rs =
    as-checked k.source.instance (NumberStands (suc opening) high) (DimStands low high) (number_within k.source (pos 1) most_of_unpacked (size.typed k)) _ low high
    (typed-wider k.source.instance (NumberStands (suc opening) high) (number_within k.source (pos 1) most_of_unpacked (size.typed k)) (suc opening) high low high (omega arith) (omega arith)
    (number-typing k.source (suc opening) high (pos 1) most_of_unpacked (size.typed k) (p.typed k rs)))
    (λ n s fs. (h, m))

pub range-dimension : (opening : ℕ) (left : Meaning) (colon : ℕ) (right : Meaning) (closing low middle high : ℕ) → low ≤ opening → opening < middle → middle ≤ high
    → ExprInOrder (suc opening) middle left → ExprInOrder middle high right → DimensionInOrder low high (dimension_step (Dimension-F.«Dimension::Range» opening left colon right closing))
range-dimension opening left colon right closing low middle high h m n p q k rs = bounds-typing k opening left right low middle high h m n rs p q

pub first-dim : (ds : List Dim) (low high : ℕ) → Each DimStands low high ds → DimsStand low high ds
first-dim [] low high p = tt
first-dim (d ∷ ds) low high p = let a = p.2 in (p.3.0, let b = p.3.1 in omega arith)

pub dims-typing : {A : Type 0} (k : Context) (of : A → DimensionMeaning) (ds : List A) (low high : ℕ) → RoutinesInOrder k → Each (λ l h d. DimensionInOrder l h (of d)) low high ds
    → TypedAs (DimsStand low high) k.source.instance low high (all (map (λ d. of d k) ds))
dims-typing k of ds low high rs p fs =
    as-wider k.source.instance (Each DimStands low high) (DimsStand low high) (all (map (λ d. of d k) ds) fs).result low high low high (omega arith) (omega arith)
    (λ es s. first-dim es low high s)
    (as-all k.source.instance DimStands (map (λ d. of d k) ds) low high
    (each-of (λ d. of d k) (λ l h d. DimensionInOrder l h (of d)) (λ l h x. TypedAs (DimStands l h) k.source.instance l h x) (λ l h d q. q k rs) ds low high p) fs)

-- a named type under dimensions
under-placed : (k : Source) (t : SvType) (ds : List Dim) (low high : ℕ) → DimsStand low high ds → PlacedAs Anything k.instance low high (under k t ds)
under-placed k t [] low high s = tt
under-placed k t (d ∷ ds) low high s =
    as-refused k.instance Anything (is_unpacked t) (position k d.opening) 404 (Ok (named_type t (d ∷ ds))) low high (place k d.opening low high s.0 s.1) tt

pub dimensioned-typing : (k : Source) (t : SvType) (x : Typing (List Dim)) (low high : ℕ) → TypedAs (DimsStand low high) k.instance low high x
    → TypedAs Anything k.instance low high (dimensioned k t x)
dimensioned-typing k t x low high p =
    as-checked k.instance (DimsStand low high) Anything x (λ d. rule (under k t d)) low high p (λ d s fs. under-placed k t d low high s)

-- selects
step-as : (i low high : ℕ) (x : Checked Step) → PlacedAs (StepStands low high) i low high x → StepIf i low high x
step-as i low high (Ok t) s = s
step-as i low high (Err b) s = s

pub member-select : (dot name low high : ℕ) → low ≤ dot → dot < name → name < high → SelectStands low high (select_step (Select-F.Member dot name))
member-select dot name low high h m n = record {
  select = record { step = λ k rs fs. (omega arith, n); member = (omega arith, n) };
  dimension = λ k rs fs. tt;
}

pub index-select : (opening : ℕ) (e : Meaning) (closing low high : ℕ) → low ≤ opening → opening < high → ExprInOrder (suc opening) high e
    → SelectStands low high (select_step (Select-F.Index opening e closing))
index-select opening e closing low high h m p = record {
  select = record {
    step = λ k rs fs.
        step-as k.source.instance low high _
        (as-checked k.source.instance (Stands (suc opening) high) (StepStands low high) (index_in k.source (e.typed k)) (λ v. whole (S.Index opening v)) low high
        (typed-wider k.source.instance (Stands (suc opening) high) (index_in k.source (e.typed k)) (suc opening) high low high (omega arith) (omega arith)
        (index-typing k.source (suc opening) high (e.typed k) (p.typed k rs)))
        (λ v s gs. (h, m)) fs);
    member = tt;
  };
  dimension = λ k rs fs. tt;
}

module _ (opening : ℕ) (left : Meaning) (at : ℕ) (right : Meaning) (low high : ℕ) (h : low ≤ opening) (m : opening < at) (n : at < high)
    (p : ExprInOrder (suc opening) at left) (q : ExprInOrder (suc at) high right) where
  base : (k : Context) → RoutinesInOrder k → TypedAs (Stands (suc opening) at) k.source.instance low at (index_in k.source (left.typed k))
  base k rs =
      typed-wider k.source.instance (Stands (suc opening) at) (index_in k.source (left.typed k)) (suc opening) at low at (omega arith) (omega arith)
      (index-typing k.source (suc opening) at (left.typed k) (p.typed k rs))

  size : (k : Context) → RoutinesInOrder k → TypedAs (NumberStands (suc at) high) k.source.instance at high (width_in k.source (right.typed k))
  size k rs =
      typed-wider k.source.instance (NumberStands (suc at) high) (width_in k.source (right.typed k)) (suc at) high at high (omega arith) (omega arith)
      (number-typing k.source (suc at) high (pos 1) (pos (2 ^ 32) -ℤ pos 1) (right.typed k) (q.typed k rs))

  part-typing : (op : PartOperator) (k : Context) → RoutinesInOrder k → TypedAs (StepStands low high) k.source.instance low high (part_step op k opening left right)
  part-typing W.Range k rs =
      as-both k.source.instance (NumberStands (suc opening) at) (NumberStands (suc at) high) (StepStands low high) (bound_in k.source (left.typed k)) (bound_in k.source (right.typed k))
      (λ l r. whole (S.Part opening l r)) low at high (omega arith) (omega arith)
      (bound k left (suc opening) at low at (omega arith) (omega arith) rs p) (bound k right (suc at) high at high (omega arith) (omega arith) rs q)
      (λ l r s t fs. (h, s.0, let a = s.1 in omega arith))
  part-typing W.Up k rs =
      as-both k.source.instance (Stands (suc opening) at) (NumberStands (suc at) high) (StepStands low high) (index_in k.source (left.typed k)) (width_in k.source (right.typed k))
      (λ i w. whole (S.Slide opening true i w)) low at high (omega arith) (omega arith) (base k rs) (size k rs) (λ i w s t fs. (h, omega arith))
  part-typing W.Down k rs =
      as-both k.source.instance (Stands (suc opening) at) (NumberStands (suc at) high) (StepStands low high) (index_in k.source (left.typed k)) (width_in k.source (right.typed k))
      (λ i w. whole (S.Slide opening false i w)) low at high (omega arith) (omega arith) (base k rs) (size k rs) (λ i w s t fs. (h, omega arith))

  part-dimension : (op : PartOperator) (k : Context) → RoutinesInOrder k → TypedAs (DimStands low high) k.source.instance low high (part_dimension op k opening left right)
  part-dimension W.Range k rs =
      as-both k.source.instance (NumberStands (suc opening) at) (NumberStands (suc at) high) (DimStands low high) (bound_in k.source (left.typed k)) (bound_in k.source (right.typed k))
      (λ l r. whole (between opening l r)) low at high (omega arith) (omega arith)
      (bound k left (suc opening) at low at (omega arith) (omega arith) rs p) (bound k right (suc at) high at high (omega arith) (omega arith) rs q)
      (λ l r s t fs. (h, omega arith))
  part-dimension W.Up k rs = λ fs. tt
  part-dimension W.Down k rs = λ fs. tt

  pub part-select : (op : PartOperator) (closing : ℕ) → SelectStands low high (select_step (Select-F.Part opening left op at right closing))
  part-select op closing = record {
    select = record { step = λ k rs fs. step-as k.source.instance low high _ (part-typing op k rs fs); member = tt };
    dimension = λ k rs. part-dimension op k rs;
  }

pub selects-in-order : (ss : List SelectMeaning) (low high : ℕ) → Each SelectStands low high ss → SelectsInOrder low high ss
selects-in-order [] low high p = p
selects-in-order (s ∷ ss) low high p = (p.0, p.1, p.2, p.3.select, selects-in-order ss p.0 high p.4)

-- a type that a name stands for, with selects in the place of dimensions
pub type-named : (k : Context) (of : QualifiedName) (ss : List SelectMeaning) (low high : ℕ) → RoutinesInOrder k → Each SelectStands low high ss → TypeIf k.source.instance low high (type_of_name k of ss)
type-named k of ss low high rs p = by (type_of_thing (thing k of))
  where
    by : (o : Option SvType) → TypeIf k.source.instance low high (option_map (λ t. dimensioned k.source t (dimensions k ss)) o)
    by None = tt
    by (Some t) =
        placed-from k.source.instance low high Anything (dimensioned k.source t (dimensions k ss))
        (dimensioned-typing k.source t (dimensions k ss) low high
        (dims-typing k (λ (s : SelectMeaning). s.dimension) ss low high rs (each-dimension ss low high p)))
      where
        each-dimension : (us : List SelectMeaning) (l h : ℕ) → Each SelectStands l h us → Each (λ l h (s : SelectMeaning). DimensionInOrder l h s.dimension) l h us
        each-dimension [] l h q = q
        each-dimension (u ∷ us) l h q = (q.0, q.1, q.2, q.3.dimension, each-dimension us q.0 h q.4)

-- sizes of slices
slice-of : (k : Source) (at n low high : ℕ) → low ≤ at → at < high → PlacedAs Anything k.instance low high (slice_of k at n)
slice-of k at n low high h m = as-refused k.instance Anything (n == 0 || nat_lt most_bits n) (position k at) 411 (Ok n) low high (place k at low high h m) tt

slice-within : (k : Source) (x : Typing Operand) (low high : ℕ) → OperandTyping k.instance low high x → TypedAs Anything k.instance low high (slice_within k x)
slice-within k x low high p =
    as-checked k.instance (NumberStands low high) Anything (number_within k (pos 1) (pos most_bits) x) (λ n. whole (unsigned_abs n.number)) low high
    (number-typing k low high (pos 1) (pos most_bits) x p) (λ n s fs. tt)

pub decimal-slice : (digits low high : ℕ) → low ≤ digits → digits < high → SliceInOrder low high (slice_size_step (SliceSize-F.«SliceSize::Decimal» digits))
decimal-slice digits low high h m k rs fs = slice-of k.source digits (L.decimal (word k.source digits)) low high h m

pub keyword-slice : (of : KeywordType) (low high : ℕ) → low ≤ of.at → of.at < high → SliceInOrder low high (slice_size_step (SliceSize-F.Keyword of))
keyword-slice of low high h m k rs fs = slice-of k.source of.at (width_of (keyword_type of [])) low high h m

pub name-slice : (of : QualifiedName) (low high : ℕ) → low ≤ qualified_first of → qualified_first of ≤ of.name → of.name < high
    → SliceInOrder low high (slice_size_step (SliceSize-F.«SliceSize::Name» of))
name-slice of low high h m n k rs = by (type_of_thing (thing k of))
  where
    by : (o : Option SvType) → TypedAs Anything k.source.instance low high (elim o [
      | Some t ↦ rule (slice_of k.source (qualified_first of) (width_of t))
      | None ↦ slice_within k.source (F.plain (F.named k of []))
    ])
    by None =
        typed-wider k.source.instance Anything (slice_within k.source (F.plain (F.named k of []))) (qualified_first of) high low high h (omega arith)
        (slice-within k.source (F.plain (F.named k of [])) (qualified_first of) high (name of [] high m n k rs))
    by (Some t) = λ fs. slice-of k.source (qualified_first of) (width_of t) low high h (omega arith)

pub value-slice : (opening : ℕ) (e : Meaning) (closing low high : ℕ) → ExprInOrder low high e → SliceInOrder low high (slice_size_step (SliceSize-F.«SliceSize::Parenthesized» opening e closing))
value-slice opening e closing low high p k rs = slice-within k.source (e.typed k) low high (p.typed k rs)
