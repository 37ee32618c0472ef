-- Expressions whose parts stand in the order of the text stand in it: `inside`, streams, patterns, types, casts and system functions.
use Rattle.std.proofs.Common.{ℕ, suc, ◌≤◌, ◌<◌, ◌++◌, Bool, true, false, cond, List, [], ◌∷◌, map, Option, Some, None, arith}
use Rattle.std.specs.Prelude.{Ok, codes, flat_map, nat_lt}
use Rattle.std.specs.List.{list_any}
use Rattle.sv_tree.specs.Extents.{qualified_first, signing_token}
use Rattle.sv_tree.specs.declared.expressions.Cast.{Cast-F}
use Rattle.sv_tree.specs.declared.expressions.Expr.{Expr-F}
use Rattle.sv_tree.specs.declared.expressions.ValueRange.{ValueRange-F}
use Rattle.sv_tree.specs.declared.names.QualifiedName.{QualifiedName}
use Rattle.sv_tree.specs.declared.names.Signing.{Signing}
use Rattle.sv_tree.specs.declared.operators.StreamOperator.{StreamOperator}
use Rattle.sv_tree.specs.declared.types.KeywordType.{KeywordType}
use Rattle.sv_types.specs.declared.expression.Form.TheVariants as T
use Rattle.sv_types.specs.declared.types.SvType.{SvType}
use Rattle.sv_types.specs.Layouts.{width_of}
use Rattle.sv_types.specs.Meanings.{most}
use Rattle.expr_type.specs.Breaks.{Breaks}
use Rattle.expr_type.specs.Expressions.{CastMeaning, DimensionMeaning, Meaning, PatternMeaning, RangeMeaning, SliceMeaning, actuals, cast_step, cast_to_name, expr_step, keyword_dimensions, of_operand, of_value, pattern_operand, slice_or_one, stream, type_of_name, value_range_step}
use Rattle.expr_type.specs.Forms as F
use Rattle.expr_type.specs.Forms.{Inside, SelectMeaning, bits_number, bits_of, by_sign, by_size, by_type, by_written_size, is_word, is_signed_by, is_streamed_part, reverses, stream_of, streamed_part, system_call, with_sign}
use Rattle.expr_type.specs.KeywordTypes.{keyword_type}
use Rattle.expr_type.specs.Names.{Context, Source, position}
use Rattle.expr_type.specs.Operands.{Operand, Plain, Pattern, Stream, bits_in, too_wide, value, width}
use Rattle.expr_type.specs.Operators.{Alternative, From, Only, all_bits, both_wide, by_itself, compared, exprs, in_alternative, inside_of, ordered, over, wide_in}
use Rattle.expr_type.specs.Patterns.{Parts}
use Rattle.expr_type.specs.Placed.{AllInOrder, Ascend, OperandStands, OperandTyping, RoutinesInOrder, Stands}
use Rattle.expr_type.specs.Shapes.{integer, is_unpacked, most_arithmetic, one_bit}
use Rattle.expr_type.specs.Typings.{Typing, all, at_all, both, checked, rule, unless, whole}
use Rattle.expr_type.specs.declared.operand.Valued.{Valued}
use Rattle.expr_type.proofs.Calls as C
use Rattle.expr_type.proofs.Forms as E
use Rattle.expr_type.proofs.Forms.{leaf}
use Rattle.expr_type.proofs.Ordering.{WithinIf, all-within, ascend-append, ascend-wide, place}
use Rattle.order_laws.specs.Meanings.{DimsStand, ExprInOrder, TypeIf}
use Rattle.order_laws.proofs.Casts.{sign-typing, size-typing, type-typing, written-typing}
use Rattle.order_laws.proofs.Given.{bits-stand, operand-typing}
use Rattle.order_laws.proofs.Meant.{AlternativeStands, Anything, CastInOrder, DimensionInOrder, InsideStands, PatternInOrder, PartsStand, RangeInOrder, SelectStands, SliceInOrder}
use Rattle.order_laws.proofs.Operands.{operands, placed-from, plain-typing, too-long, typed-wider, value-typing}
use Rattle.order_laws.proofs.Parts.{each-of}
use Rattle.order_laws.proofs.Patterns.{fitted-placed}
use Rattle.order_laws.proofs.Selects.{dims-typing, selects-in-order, type-named}
use Rattle.order_laws.proofs.Typings.{Each, PlacedAs, TypedAs, any-from, any-typing, as-all, as-both, as-checked, as-refused}

-- an expression that is a value alone
pub of-value : (f : Context → Typing Valued) (low high : ℕ) → ((k : Context) → RoutinesInOrder k → TypedAs (Stands low high) k.source.instance low high (f k)) → ExprInOrder low high (of_value f)
of-value f low high p = record {
  typed = λ k rs. plain-typing k.source low high (f k) (p k rs);
  as_type = λ k rs. tt;
  as_target = λ k rs. tt;
  alone = tt;
}

pub of-operand : (f : Context → Typing Operand) (low high : ℕ) → ((k : Context) → RoutinesInOrder k → OperandTyping k.source.instance low high (f k)) → ExprInOrder low high (of_operand f)
of-operand f low high p = record { typed = p; as_type = λ k rs. tt; as_target = λ k rs. tt; alone = tt }

-- `inside`
ascend-over : (at w low high : ℕ) → low ≤ at → at < high → Ascend low high (over at w)
ascend-over at w low high h m = by (nat_lt most_arithmetic w)
  where
    by : (b : Bool) → Ascend low high (cond b (at ∷ []) [])
    by true = (h, m, tt)
    by false = tt

module _ (v : Valued) where
  alternative : (a : Alternative) (low high : ℕ) → low ≤ high → AlternativeStands low high a → Ascend low high (wide_in v a)
  alternative (Only u) low high h s = ascend-append (too_wide (both_wide v u) u.arithmetic) [] low high high h (omega arith) (ascend-wide (both_wide v u) u.arithmetic low high s.operators) tt
  alternative (From l u) low high h s =
      ascend-append (too_wide (both_wide v l) l.arithmetic) (too_wide (both_wide v u) u.arithmetic ++ []) low s.0 high s.1 s.2 (ascend-wide (both_wide v l) l.arithmetic low s.0 s.3.operators)
      (ascend-append (too_wide (both_wide v u) u.arithmetic) [] s.0 high high s.2 (omega arith) (ascend-wide (both_wide v u) u.arithmetic s.0 high s.4.operators) tt)

  alternatives : (as' : List Alternative) (low high : ℕ) → Each AlternativeStands low high as' → Ascend low high (flat_map (wide_in v) as')
  alternatives [] low high p = tt
  alternatives (a ∷ as') low high p = ascend-append (wide_in v a) (flat_map (wide_in v) as') low p.0 high p.1 p.2 (alternative a low p.0 p.1 p.3) (alternatives as' p.0 high p.4)

unless-stands : (i low high : ℕ) (o : Option Breaks) (v : Valued) → WithinIf o i low high → Stands low high v → PlacedAs (Stands low high) i low high (unless o v)
unless-stands i low high None v w s = s
unless-stands i low high (Some b) v w s = w

inside-stands : (k : Source) (at : ℕ) (v : Valued) (as' : List Alternative) (low high : ℕ) → at < high → Stands low at v → Each AlternativeStands (suc at) high as'
    → PlacedAs (Stands low high) k.instance low high (inside_of k at v as')
inside-stands k at v as' low high h s q =
    let from : low ≤ at = let a = s.from in let b = s.before in omega arith in
    let w = most (map (compared v) as') in
    let u = most (map (ordered v) as') in
    let ats = too_wide w v.arithmetic ++ (over at u ++ flat_map (wide_in v) as') in
    as-refused k.instance (Stands low high) (list_any (λ (x : Valued). is_unpacked x.expr.of) (v ∷ flat_map in_alternative as')) (position k at) 508 _ low high (place k at low high from h)
    (unless-stands k.instance low high (at_all k.instance 502 ats) _
    (all-within k.instance 502 ats low high
    (ascend-append (too_wide w v.arithmetic) (over at u ++ flat_map (wide_in v) as') low at high from (omega arith) (ascend-wide w v.arithmetic low at s.operators)
    (ascend-append (over at u) (flat_map (wide_in v) as') at (suc at) high (omega arith) (omega arith) (ascend-over at u at (suc at) (omega arith) (omega arith))
    (alternatives v as' (suc at) high q))))
    (leaf k v.begins low high one_bit _ s.begins (let a = s.inner in let b = s.before in omega arith)))

pub inside-form : (sought : Meaning) (keyword opening : ℕ) (rs : List RangeMeaning) (closing low high : ℕ) → low ≤ keyword → keyword < high
    → ExprInOrder low keyword sought → Each RangeInOrder (suc keyword) high rs → ExprInOrder low high (expr_step (Expr-F.Inside sought keyword opening rs closing))
inside-form sought keyword opening rs closing low high h m p q =
    of-value (λ k. both (value k.source (sought.typed k)) (all (map (λ (r : RangeMeaning). r k) rs)) (λ v as'. rule (inside_of k.source keyword v as'))) low high
    (λ k ok. as-both k.source.instance (Stands low keyword) (Each AlternativeStands (suc keyword) high) (Stands low high) (value k.source (sought.typed k)) (all (map (λ (r : RangeMeaning). r k) rs))
    (λ v as'. rule (inside_of k.source keyword v as')) low keyword high h (omega arith) (value-typing k.source low keyword (sought.typed k) (p.typed k ok))
    (typed-wider k.source.instance (Each AlternativeStands (suc keyword) high) (all (map (λ (r : RangeMeaning). r k) rs)) (suc keyword) high keyword high (omega arith) (omega arith)
    (as-all k.source.instance AlternativeStands (map (λ (r : RangeMeaning). r k) rs) (suc keyword) high
    (each-of (λ (r : RangeMeaning). r k) RangeInOrder (λ l h x. TypedAs (AlternativeStands l h) k.source.instance l h x) (λ l h r s. s k ok) rs (suc keyword) high q)))
    (λ v as' s t fs. inside-stands k.source keyword v as' low high m s t))

pub value-range : (e : Meaning) (low high : ℕ) → ExprInOrder low high e → RangeInOrder low high (value_range_step (ValueRange-F.«ValueRange::Value» e))
value-range e low high p k rs =
    as-checked k.source.instance (Stands low high) (AlternativeStands low high) (value k.source (e.typed k)) (λ u. whole (Only u)) low high
    (value-typing k.source low high (e.typed k) (p.typed k rs)) (λ u s fs. s)

pub both-range : (opening : ℕ) (from : Meaning) (colon : ℕ) (to : Meaning) (closing low middle high : ℕ) → low ≤ middle → middle ≤ high
    → ExprInOrder low middle from → ExprInOrder middle high to → RangeInOrder low high (value_range_step (ValueRange-F.«ValueRange::Range» opening from colon to closing))
both-range opening from colon to closing low middle high h m p q k rs =
    as-both k.source.instance (Stands low middle) (Stands middle high) (AlternativeStands low high) (value k.source (from.typed k)) (value k.source (to.typed k)) (λ l u. whole (From l u)) low middle high h m
    (value-typing k.source low middle (from.typed k) (p.typed k rs)) (value-typing k.source middle high (to.typed k) (q.typed k rs)) (λ l u s t fs. (middle, h, m, s, t))

-- streams
streamed-stands : (k : Source) (low high : ℕ) (o : Operand) → OperandStands k.instance low high o → PlacedAs Anything k.instance low high (is_streamed_part k o)
streamed-stands k low high (Plain v) s = as-refused k.instance Anything v.is_unsized (position k v.first) 501 (Ok v) low high (place k v.first low high s.from s.before) tt
streamed-stands k low high (Pattern tick of) s = place k tick low high s.0 s.1
streamed-stands k low high (Stream v) s = tt

abbrev pub SliceIf : ℕ → ℕ → Option SliceMeaning → Type 0
SliceIf low high None = Unit {0}
SliceIf low high (Some z) = SliceInOrder low high z

slice-typing : (k : Context) (size : Option SliceMeaning) (low high : ℕ) → RoutinesInOrder k → SliceIf low high size → TypedAs Anything k.source.instance low high (slice_or_one k size)
slice-typing k None low high rs p = λ fs. tt
slice-typing k (Some z) low high rs p = p k rs

pub stream-form : (opening : ℕ) (op : StreamOperator) (at : ℕ) (size : Option SliceMeaning) (inner : ℕ) (es : List Meaning) (inner_closing closing low middle high : ℕ)
    → low ≤ opening → opening < high → suc opening ≤ middle → middle ≤ high → SliceIf (suc opening) middle size → Each ExprInOrder middle high es
    → ExprInOrder low high (expr_step (Expr-F.Stream opening op at size inner es inner_closing closing))
stream-form opening op at size inner es inner_closing closing low middle high h m n l p q =
    of-operand (λ k. checked (both (slice_or_one k size) (items k) (stream-of k)) (stream k)) low high
    (λ k rs. operands k.source.instance low high (checked (both (slice_or_one k size) (items k) (stream-of k)) (stream k))
    (as-checked k.source.instance (Stands low high) (OperandStands k.source.instance low high) (both (slice_or_one k size) (items k) (stream-of k)) (stream k) low high
    (as-both k.source.instance Anything Anything (Stands low high) (slice_or_one k size) (items k) (stream-of k) low middle high (omega arith) l
    (typed-wider k.source.instance Anything (slice_or_one k size) (suc opening) middle low middle (omega arith) (omega arith) (slice-typing k size (suc opening) middle rs p))
    (all-typing k rs)
    (λ x vs s t fs. too-long k.source low high (Stands low high) opening (all_bits (exprs vs)) _ h m (leaf k.source opening low high _ _ h m)))
    (λ v s fs. s)))
  where
    items : Context → Typing (List Valued)
    items k = all (map (λ (e : Meaning). streamed_part k.source (e.typed k)) es)

    stream-of : Context → ℕ → List Valued → Typing Valued
    stream-of k n vs = rule (stream_of k.source opening (reverses op) n (exprs vs))

    one : (k : Context) → RoutinesInOrder k → (low high : ℕ) (e : Meaning) → ExprInOrder low high e → TypedAs Anything k.source.instance low high (streamed_part k.source (e.typed k))
    one k rs low high e p =
        as-checked k.source.instance (OperandStands k.source.instance low high) Anything (e.typed k) (λ o. rule (is_streamed_part k.source o)) low high
        (operand-typing k.source low high (e.typed k) (p.typed k rs)) (λ o s fs. streamed-stands k.source low high o s)

    all-typing : (k : Context) → RoutinesInOrder k → TypedAs Anything k.source.instance middle high (items k)
    all-typing k rs =
        any-from k.source.instance (Each (λ l h x. Anything x) middle high) (items k) middle high middle high (omega arith) (omega arith)
        (as-all k.source.instance (λ l h x. Anything x) (map (λ (e : Meaning). streamed_part k.source (e.typed k)) es) middle high
        (each-of (λ (e : Meaning). streamed_part k.source (e.typed k)) ExprInOrder (λ l h x. TypedAs Anything k.source.instance l h x) (one k rs) es middle high q))

-- patterns
pattern-stands : (k : Context) (tick : ℕ) (p : Parts) (low high : ℕ) → low ≤ tick → tick < high → PartsStand k.source.instance low high p
    → OperandStands k.source.instance low high (pattern_operand k tick p)
pattern-stands k tick p low high h m s = (h, m, λ at t. fitted-placed k tick p at t low high h m s)

pub pattern-form : (tick opening : ℕ) (pattern : PatternMeaning) (closing low high : ℕ) → low ≤ tick → tick < high → PatternInOrder low high pattern
    → ExprInOrder low high (expr_step (Expr-F.«Expr::Pattern» tick opening pattern closing))
pattern-form tick opening pattern closing low high h m p =
    of-operand (λ k. checked (pattern k) (λ x. whole (pattern_operand k tick x))) low high
    (λ k rs. operands k.source.instance low high (checked (pattern k) (λ x. whole (pattern_operand k tick x)))
    (as-checked k.source.instance (PartsStand k.source.instance low high) (OperandStands k.source.instance low high) (pattern k) (λ x. whole (pattern_operand k tick x)) low high
    (p k rs) (λ x s fs. pattern-stands k tick x low high h m s)))

-- what stands behind the tick of a cast
pub value-cast : (tick opening : ℕ) (e : Meaning) (closing low high : ℕ) → low ≤ tick → tick < high → ExprInOrder low high e → CastInOrder low high (cast_step (Cast-F.«Cast::Value» tick opening e closing))
value-cast tick opening e closing low high h m p k rs =
    as-checked k.source.instance (OperandStands k.source.instance low high) (InsideStands k.source.instance low high) (e.typed k) _ low high
    (operand-typing k.source low high (e.typed k) (p.typed k rs)) (λ o s fs. (h, m, s))

pub pattern-cast : (tick opening : ℕ) (pattern : PatternMeaning) (closing low high : ℕ) → low ≤ tick → tick < high → PatternInOrder low high pattern
    → CastInOrder low high (cast_step (Cast-F.«Cast::Pattern» tick opening pattern closing))
pattern-cast tick opening pattern closing low high h m p k rs =
    as-checked k.source.instance (PartsStand k.source.instance low high) (InsideStands k.source.instance low high) (pattern k) _ low high
    (p k rs) (λ x s fs. (h, m, pattern-stands k tick x low high h m s))

-- types
type-typing-of : (k : Context) (of : KeywordType) (ds : List DimensionMeaning) (low high : ℕ) → RoutinesInOrder k → Each DimensionInOrder low high ds
    → TypedAs Anything k.source.instance low high (checked (keyword_dimensions k ds) (λ d. whole (keyword_type of d)))
type-typing-of k of ds low high rs p =
    as-checked k.source.instance (DimsStand low high) Anything (keyword_dimensions k ds) (λ d. whole (keyword_type of d)) low high (dims-typing k (λ (d : DimensionMeaning). d) ds low high rs p) (λ d s fs. tt)

pub type-form : (of : KeywordType) (ds : List DimensionMeaning) (low high : ℕ) → Each DimensionInOrder low high ds → ExprInOrder low high (expr_step (Expr-F.Type of ds None))
type-form of ds low high p = record {
  typed = λ k rs fs. tt;
  as_type = λ k rs. placed-from k.source.instance low high Anything (checked (keyword_dimensions k ds) (λ d. whole (keyword_type of d))) (type-typing-of k of ds low high rs p);
  as_target = λ k rs. tt;
  alone = tt;
}

pub type-cast : (of : KeywordType) (ds : List DimensionMeaning) (c : CastMeaning) (low middle high : ℕ) → low ≤ of.at → of.at < high → low ≤ middle → middle ≤ high
    → Each DimensionInOrder low middle ds → CastInOrder middle high c → ExprInOrder low high (expr_step (Expr-F.Type of ds (Some c)))
type-cast of ds c low middle high h m n l p q =
    of-value (λ k. by_type k.source of.at (checked (keyword_dimensions k ds) (λ d. whole (keyword_type of d))) (c k)) low high
    (λ k rs. type-typing k.source of.at (checked (keyword_dimensions k ds) (λ d. whole (keyword_type of d))) (c k) low middle high h m n l (type-typing-of k of ds low middle rs p) (q k rs))

-- other casts
pub written-cast : (size : ℕ) (c : CastMeaning) (high : ℕ) → size < high → CastInOrder (suc size) high c → ExprInOrder size high (expr_step (Expr-F.SizeCast size c))
written-cast size c high h q = of-value (λ k. by_written_size k.source size (c k)) size high (λ k rs. written-typing k.source size (c k) high h (q k rs))

pub signing-cast : (signing : Signing) (c : CastMeaning) (low high : ℕ) → low ≤ signing_token signing → signing_token signing < high → CastInOrder low high c
    → ExprInOrder low high (expr_step (Expr-F.SigningCast signing c))
signing-cast signing c low high h m q =
    of-value (λ k. by_sign k.source (signing_token signing) (is_signed_by signing) (c k)) low high
    (λ k rs. sign-typing k.source (signing_token signing) (is_signed_by signing) (c k) low high h m (q k rs))

pub parenthesized-cast : (opening : ℕ) (inner : Meaning) (closing : ℕ) (c : CastMeaning) (low middle high : ℕ) → low ≤ opening → opening < high → low ≤ middle → middle ≤ high
    → ExprInOrder low middle inner → CastInOrder middle high c → ExprInOrder low high (expr_step (Expr-F.«Expr::Parenthesized» opening inner closing (Some c)))
parenthesized-cast opening inner closing c low middle high h m n l p q =
    of-value (λ k. by_size k.source opening (inner.typed k) (c k)) low high
    (λ k rs. size-typing k.source opening (inner.typed k) (c k) low middle high h m n l (p.typed k rs) (q k rs))

-- system functions
module _ (k : Source) (name low high : ℕ) (h : low ≤ name) (m : name < high) where
  bits-typing : (t : Option (Typing SvType)) (x : Typing Operand) → TypeIf k.instance low high t → OperandTyping k.instance low high x → TypedAs (Stands low high) k.instance low high (bits_of k name t x)
  bits-typing (Some t) x p q =
      as-checked k.instance Anything (Stands low high) t (λ u. whole (bits_number k name (width_of u))) low high (any-typing k.instance t low high p) (λ u s fs. leaf k name low high integer _ h m)
  bits-typing None x p q =
      as-checked k.instance (Stands low high) (Stands low high) (value k x) (λ v. whole (bits_number k name (width v))) low high (value-typing k low high x q) (λ v s fs. leaf k name low high integer _ h m)

  system-by : (a : Bool) (t : Option (Typing SvType)) (x : Typing Operand) → TypeIf k.instance low high t → OperandTyping k.instance low high x
      → TypedAs (Stands low high) k.instance low high (cond a (bits_of k name t x) (checked (bits_in k x) (λ v.
      cond (is_word k name (codes "$clog2")) (whole (by_itself k name integer (T.Clog2 v.expr))) (whole (with_sign k name (is_word k name (codes "$signed")) v)))))
  system-by true t x p q = bits-typing t x p q
  system-by false t x p q =
      as-checked k.instance (Stands low high) (Stands low high) (bits_in k x) _ low high (bits-stand k low high x q) (λ v s. other v (is_word k name (codes "$clog2")))
    where
      other : (v : Valued) (b : Bool) → TypedAs (Stands low high) k.instance low high
          (cond b (whole (by_itself k name integer (T.Clog2 v.expr))) (whole (with_sign k name (is_word k name (codes "$signed")) v)))
      other v true = λ fs. leaf k name low high integer (T.Clog2 v.expr) h m
      other v false = λ fs. leaf k name low high _ (T.Cast v.expr) h m

pub system-form : (name opening : ℕ) (e : Meaning) (closing low high : ℕ) → low ≤ name → name < high → ExprInOrder low high e
    → ExprInOrder low high (expr_step (Expr-F.SystemCall name opening e closing))
system-form name opening e closing low high h m p =
    of-value (λ k. system_call k.source name (e.as_type k) (e.typed k)) low high
    (λ k rs. system-by k.source name low high h m (is_word k.source name (codes "$bits")) (e.as_type k) (e.typed k) (p.as_type k rs) (p.typed k rs))

-- casts to what calls and names stand for
pub all-in-order : (es : List Meaning) (low high : ℕ) → Each ExprInOrder low high es → AllInOrder low high es
all-in-order [] low high p = p
all-in-order (e ∷ es) low high p = (p.0, p.1, p.2, p.3.typed, all-in-order es p.0 high p.4)

pub call-cast : (of : QualifiedName) (opening : ℕ) (es : List Meaning) (closing : ℕ) (c : CastMeaning) (high : ℕ)
    → qualified_first of ≤ of.name → of.name < opening → opening < closing → suc closing ≤ high → Each ExprInOrder (suc opening) closing es → CastInOrder (suc closing) high c
    → ExprInOrder (qualified_first of) high (expr_step (Expr-F.Call of opening es closing (Some c)))
call-cast of opening es closing c high h m n l p q =
    of-value (λ k. by_size k.source (qualified_first of) (F.plain (F.call k of (actuals k es))) (c k)) (qualified_first of) high
    (λ k rs. size-typing k.source (qualified_first of) (F.plain (F.call k of (actuals k es))) (c k) (qualified_first of) (suc closing) high (omega arith) (omega arith) (omega arith) l
    (C.call of opening es closing h m n (all-in-order es (suc opening) closing p) k rs) (q k rs))

pub name-cast : (of : QualifiedName) (ss : List SelectMeaning) (c : CastMeaning) (middle high : ℕ) → qualified_first of ≤ of.name → suc of.name ≤ middle → middle ≤ high
    → Each SelectStands (suc of.name) middle ss → CastInOrder middle high c → ExprInOrder (qualified_first of) high (expr_step (Expr-F.«Expr::Name» of ss (Some c)))
name-cast of ss c middle high h m n p q =
    of-value (λ k. cast_to_name k of ss c) (qualified_first of) high (λ k rs. by k rs (type_of_name k of ss) (type-named k of ss (suc of.name) middle rs p))
  where
    by : (k : Context) → RoutinesInOrder k → (o : Option (Typing SvType)) → TypeIf k.source.instance (suc of.name) middle o
        → TypedAs (Stands (qualified_first of) high) k.source.instance (qualified_first of) high (elim o [
          | Some t ↦ by_type k.source (qualified_first of) t (c k)
          | None ↦ by_size k.source (qualified_first of) (F.plain (F.named k of ss)) (c k)
        ])
    by k rs (Some t) s =
        type-typing k.source (qualified_first of) t (c k) (qualified_first of) middle high (omega arith) (omega arith) (omega arith) n
        (typed-wider k.source.instance Anything t (suc of.name) middle (qualified_first of) middle (omega arith) (omega arith) (any-typing k.source.instance t (suc of.name) middle s)) (q k rs)
    by k rs None s =
        size-typing k.source (qualified_first of) (F.plain (F.named k of ss)) (c k) (qualified_first of) middle high (omega arith) (omega arith) (omega arith) n
        (E.name of ss middle h (selects-in-order ss (suc of.name) middle p) k rs) (q k rs)
