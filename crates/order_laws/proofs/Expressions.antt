-- Expressions whose tokens ascend in a part of a text stand in its order.
use Rattle.std.proofs.Common.{ℕ, suc, ◌≤◌, ◌++◌, List, [], ◌∷◌, map, Some, None, sym, subst, arith}
use Rattle.sv_tree.specs.declared.expressions.Cast.{Cast, Cast-F, fold-Cast, roll-Cast, map-Cast, fold-roll-Cast}
use Rattle.sv_tree.specs.declared.expressions.Dimension.{Dimension, Dimension-F, roll-Dimension, map-Dimension, ind-Dimension, fold-roll-Dimension}
use Rattle.sv_tree.specs.declared.expressions.Expr.{Expr, Expr-F, roll-Expr, map-Expr, ind-Expr, fold-roll-Expr}
use Rattle.sv_tree.specs.declared.expressions.Pattern.{Pattern, Pattern-F, fold-Pattern, roll-Pattern, map-Pattern, fold-roll-Pattern}
use Rattle.sv_tree.specs.declared.expressions.PatternItem.{PatternItem, PatternItem-F, fold-PatternItem, roll-PatternItem, map-PatternItem, fold-roll-PatternItem}
use Rattle.sv_tree.specs.declared.expressions.Select.{Select, Select-F, roll-Select, map-Select, ind-Select, fold-roll-Select}
use Rattle.sv_tree.specs.declared.expressions.SliceSize.{SliceSize, SliceSize-F, roll-SliceSize, map-SliceSize, ind-SliceSize, fold-roll-SliceSize}
use Rattle.sv_tree.specs.declared.expressions.ValueRange.{ValueRange, ValueRange-F, fold-ValueRange, roll-ValueRange, map-ValueRange, fold-roll-ValueRange}
use Rattle.sv_tree.specs.Extents.{qualified_first, signing_token}
use Rattle.expr_type.specs.Forms.{SelectMeaning}
use Rattle.expr_type.specs.Expressions as E
use Rattle.expr_type.specs.Expressions.{CastMeaning, DimensionMeaning, ItemMeaning, Meaning, PatternMeaning, RangeMeaning, SliceMeaning, dimension_meaning, meaning, select_meaning, slice_meaning}
use Rattle.expr_type.specs.Placed.{Ascend}
use Rattle.order_laws.specs.Meanings.{ExprInOrder}
use Rattle.order_laws.specs.Ordered as O
use Rattle.order_laws.specs.Ordered.{Tokens, cast_tokens, dimension_tokens, expr_tokens, if_there, in_row, name_tokens, pattern_item_tokens, pattern_tokens, range_tokens, select_tokens, slice_tokens}
use Rattle.order_laws.proofs.Forms as F
use Rattle.order_laws.proofs.Items as I
use Rattle.order_laws.proofs.Meant.{CastInOrder, DimensionInOrder, ItemInOrder, PatternInOrder, RangeInOrder, SelectStands, SliceInOrder}
use Rattle.order_laws.proofs.Names as N
use Rattle.order_laws.proofs.Plain as P
use Rattle.order_laws.proofs.Selects as S
use Rattle.order_laws.proofs.Tokens.{front, lower, split, split-at}
use Rattle.order_laws.proofs.Typings.{Each}

-- the other parts of expressions, as they are typed
abbrev pub cast_meaning : Cast → CastMeaning
cast_meaning = fold-Cast CastMeaning DimensionMeaning Meaning PatternMeaning ItemMeaning SelectMeaning SliceMeaning RangeMeaning E.cast_step E.dimension_step E.expr_step E.pattern_step E.pattern_item_step E.select_step E.slice_size_step E.value_range_step

abbrev pub pattern_meaning : Pattern → PatternMeaning
pattern_meaning = fold-Pattern CastMeaning DimensionMeaning Meaning PatternMeaning ItemMeaning SelectMeaning SliceMeaning RangeMeaning E.cast_step E.dimension_step E.expr_step E.pattern_step E.pattern_item_step E.select_step E.slice_size_step E.value_range_step

abbrev pub item_meaning : PatternItem → ItemMeaning
item_meaning = fold-PatternItem CastMeaning DimensionMeaning Meaning PatternMeaning ItemMeaning SelectMeaning SliceMeaning RangeMeaning E.cast_step E.dimension_step E.expr_step E.pattern_step E.pattern_item_step E.select_step E.slice_size_step E.value_range_step

abbrev pub range_meaning : ValueRange → RangeMeaning
range_meaning = fold-ValueRange CastMeaning DimensionMeaning Meaning PatternMeaning ItemMeaning SelectMeaning SliceMeaning RangeMeaning E.cast_step E.dimension_step E.expr_step E.pattern_step E.pattern_item_step E.select_step E.slice_size_step E.value_range_step

-- what stands in the order of the text where its tokens ascend
abbrev OfPart : {X M : Type 0} → (X → Tokens) → (X → M) → (ℕ → ℕ → M → Type 0) → X → Type 0
OfPart tokens means P x = (low high : ℕ) → low ≤ high → Ascend low high (tokens x) → P low high (means x)

abbrev OfCast : Cast → Type 0
OfCast x = OfPart cast_tokens cast_meaning CastInOrder x

abbrev OfDimension : Dimension → Type 0
OfDimension x = OfPart dimension_tokens dimension_meaning DimensionInOrder x

abbrev OfExpr : Expr → Type 0
OfExpr x = OfPart expr_tokens meaning ExprInOrder x

abbrev OfPattern : Pattern → Type 0
OfPattern x = OfPart pattern_tokens pattern_meaning PatternInOrder x

abbrev OfItem : PatternItem → Type 0
OfItem x = OfPart pattern_item_tokens item_meaning ItemInOrder x

abbrev OfSelect : Select → Type 0
OfSelect x = OfPart select_tokens select_meaning SelectStands x

abbrev OfSlice : SliceSize → Type 0
OfSlice x = OfPart slice_tokens slice_meaning SliceInOrder x

abbrev OfRange : ValueRange → Type 0
OfRange x = OfPart range_tokens range_meaning RangeInOrder x

abbrev ACast : Type 0
ACast = (x : Cast) × OfCast x

abbrev ADimension : Type 0
ADimension = (x : Dimension) × OfDimension x

abbrev AnExpr : Type 0
AnExpr = (x : Expr) × OfExpr x

abbrev APattern : Type 0
APattern = (x : Pattern) × OfPattern x

abbrev AnItem : Type 0
AnItem = (x : PatternItem) × OfItem x

abbrev ASelect : Type 0
ASelect = (x : Select) × OfSelect x

abbrev ASlice : Type 0
ASlice = (x : SliceSize) × OfSlice x

abbrev ARange : Type 0
ARange = (x : ValueRange) × OfRange x

-- parts in a row
rows : {X M : Type 0} (tokens : X → Tokens) (means : X → M) (P : ℕ → ℕ → M → Type 0) (ys : List ((x : X) × OfPart tokens means P x)) (low high : ℕ)
    → low ≤ high → Ascend low high (in_row (map tokens (map (λ e. e.0) ys))) → Each P low high (map means (map (λ e. e.0) ys))
rows tokens means P [] low high h a = h
rows tokens means P (y ∷ ys) low high h a =
    let s = split (tokens y.0) (in_row (map tokens (map (λ e. e.0) ys))) low high h a in
    (s.between, s.from, s.to, y.1 low s.between s.from s.before, rows tokens means P ys s.between high s.to s.behind)

abbrev exprs : List AnExpr → List Expr
exprs ys = map (λ e. e.0) ys

-- a form over trees, its tokens, and what it means
abbrev expr_in : Expr-F ACast ADimension AnExpr APattern AnItem ASelect ASlice ARange → Expr-F Cast Dimension Expr Pattern PatternItem Select SliceSize ValueRange
expr_in = map-Expr ACast ADimension AnExpr APattern AnItem ASelect ASlice ARange Cast Dimension Expr Pattern PatternItem Select SliceSize ValueRange (λ e. e.0) (λ e. e.0) (λ e. e.0) (λ e. e.0) (λ e. e.0) (λ e. e.0) (λ e. e.0) (λ e. e.0)

abbrev expr_row : Expr-F Cast Dimension Expr Pattern PatternItem Select SliceSize ValueRange → Tokens
expr_row z = O.expr_step (map-Expr Cast Dimension Expr Pattern PatternItem Select SliceSize ValueRange Tokens Tokens Tokens Tokens Tokens Tokens Tokens Tokens cast_tokens dimension_tokens expr_tokens pattern_tokens pattern_item_tokens select_tokens slice_tokens range_tokens z)

abbrev meant_expr : Expr-F Cast Dimension Expr Pattern PatternItem Select SliceSize ValueRange → Meaning
meant_expr z = E.expr_step (map-Expr Cast Dimension Expr Pattern PatternItem Select SliceSize ValueRange CastMeaning DimensionMeaning Meaning PatternMeaning ItemMeaning SelectMeaning SliceMeaning RangeMeaning cast_meaning dimension_meaning meaning pattern_meaning item_meaning select_meaning slice_meaning range_meaning z)

expr-case : (y : Expr-F ACast ADimension AnExpr APattern AnItem ASelect ASlice ARange) (low high : ℕ) → low ≤ high → Ascend low high (expr_row (expr_in y)) → ExprInOrder low high (meant_expr (expr_in y))
expr-case (Expr-F.Conditional test question first colon second) low high h a =
    let s = split-at (expr_tokens test.0) question (expr_tokens first.0 ++ (colon ∷ expr_tokens second.0)) low high h a in
    let t = split-at (expr_tokens first.0) colon (expr_tokens second.0) (suc question) high s.to s.behind in
    P.conditional-form (meaning test.0) question (meaning first.0) colon (meaning second.0) low high s.from t.from t.to (test.1 low question s.from s.before)
    (first.1 (suc question) colon t.from t.before) (second.1 (suc colon) high t.to t.behind)
expr-case (Expr-F.Binary left op at right) low high h a =
    let s = split-at (expr_tokens left.0) at (expr_tokens right.0) low high h a in
    P.binary-form (meaning left.0) op at (meaning right.0) low high s.from s.to (left.1 low at s.from s.before) (right.1 (suc at) high s.to s.behind)
expr-case (Expr-F.Inside sought keyword opening rs closing) low high h a =
    let s = split-at (expr_tokens sought.0) keyword (in_row (map range_tokens (map (λ e. e.0) rs))) low high h a in
    F.inside-form (meaning sought.0) keyword opening (map range_meaning (map (λ e. e.0) rs)) closing low high s.from s.to (sought.1 low keyword s.from s.before)
    (rows range_tokens range_meaning RangeInOrder rs (suc keyword) high s.to s.behind)
expr-case (Expr-F.Unary op at operand) low high h a =
    N.expr-wider (E.expr_step (Expr-F.Unary op at (meaning operand.0))) at high low high a.0 (omega arith) (P.unary-form op at (meaning operand.0) high (operand.1 (suc at) high a.1 a.2))
expr-case (Expr-F.«Expr::Decimal» digits) low high h a =
    N.expr-wider (E.expr_step (Expr-F.«Expr::Decimal» digits)) digits (suc digits) low high a.0 a.1 (P.decimal-form digits)
expr-case (Expr-F.Sized size digits) low high h a =
    N.expr-wider (E.expr_step (Expr-F.Sized size digits)) size (suc digits) low high a.0 a.2.1 (P.sized-form size digits a.2.0)
expr-case (Expr-F.SizeCast size cast) low high h a =
    N.expr-wider (E.expr_step (Expr-F.SizeCast size (cast_meaning cast.0))) size high low high a.0 (omega arith)
    (F.written-cast size (cast_meaning cast.0) high a.1 (cast.1 (suc size) high a.1 a.2))
expr-case (Expr-F.Based digits) low high h a = N.expr-wider (E.expr_step (Expr-F.Based digits)) digits (suc digits) low high a.0 a.1 (P.based-form digits)
expr-case (Expr-F.Fill digit) low high h a = N.expr-wider (E.expr_step (Expr-F.Fill digit)) digit (suc digit) low high a.0 a.1 (P.fill-form digit)
expr-case (Expr-F.«Expr::Parenthesized» opening inner closing None) low high h a =
    let s = split-at (expr_tokens inner.0) closing [] (suc opening) high a.1 a.2 in
    N.expr-wider (E.expr_step (Expr-F.«Expr::Parenthesized» opening (meaning inner.0) closing None)) opening (suc closing) low high a.0 s.to
    (P.parenthesized-form opening (meaning inner.0) closing (inner.1 (suc opening) closing s.from s.before))
expr-case (Expr-F.«Expr::Parenthesized» opening inner closing (Some cast)) low high h a =
    let s = split (expr_tokens inner.0) (closing ∷ cast_tokens cast.0) low high h (lower (expr_tokens inner.0 ++ (closing ∷ cast_tokens cast.0)) opening low high a.0 a.2) in
    F.parenthesized-cast opening (meaning inner.0) closing (cast_meaning cast.0) low s.between high a.0 a.1 s.from s.to (inner.1 low s.between s.from s.before)
    (cast.1 s.between high s.to (lower (cast_tokens cast.0) closing s.between high s.behind.0 s.behind.2))
expr-case (Expr-F.«Expr::Replication» opening times inner es inner_closing closing) low high h a =
    let s = split-at (expr_tokens times.0) inner (in_row (map expr_tokens (exprs es)) ++ (inner_closing ∷ closing ∷ [])) (suc opening) high a.1 a.2 in
    let t = split-at (in_row (map expr_tokens (exprs es))) inner_closing (closing ∷ []) (suc inner) high s.to s.behind in
    N.expr-wider (E.expr_step (Expr-F.«Expr::Replication» opening (meaning times.0) inner (map meaning (exprs es)) inner_closing closing)) opening (suc closing) low high a.0 t.behind.1
    (P.replication-form opening (meaning times.0) inner (map meaning (exprs es)) inner_closing closing s.from t.from t.behind.0 (times.1 (suc opening) inner s.from s.before)
    (rows expr_tokens meaning ExprInOrder es (suc inner) inner_closing t.from t.before))
expr-case (Expr-F.Concatenation opening es closing) low high h a =
    let s = split-at (in_row (map expr_tokens (exprs es))) closing [] (suc opening) high a.1 a.2 in
    N.concatenation-form opening (map meaning (exprs es)) closing low high a.0 s.from s.to (rows expr_tokens meaning ExprInOrder es (suc opening) closing s.from s.before)
expr-case (Expr-F.Stream opening op at None inner es inner_closing closing) low high h a =
    F.stream-form opening op at None inner (map meaning (exprs es)) inner_closing closing low (suc opening) high a.0 a.1 (omega arith) a.1 tt
    (rows expr_tokens meaning ExprInOrder es (suc opening) high a.1 a.2)
expr-case (Expr-F.Stream opening op at (Some size) inner es inner_closing closing) low high h a =
    let s = split (slice_tokens size.0) (in_row (map expr_tokens (exprs es))) (suc opening) high a.1 a.2 in
    F.stream-form opening op at (Some (slice_meaning size.0)) inner (map meaning (exprs es)) inner_closing closing low s.between high a.0 a.1 s.from s.to
    (size.1 (suc opening) s.between s.from s.before) (rows expr_tokens meaning ExprInOrder es s.between high s.to s.behind)
expr-case (Expr-F.«Expr::Pattern» tick opening pattern closing) low high h a =
    F.pattern-form tick opening (pattern_meaning pattern.0) closing low high a.0 a.1 (pattern.1 low high h (lower (pattern_tokens pattern.0) tick low high a.0 a.2))
expr-case (Expr-F.Type of ds None) low high h a =
    let row = in_row (map dimension_tokens (map (λ e. e.0) ds)) in
    F.type-form of (map dimension_meaning (map (λ e. e.0) ds)) low high
    (rows dimension_tokens dimension_meaning DimensionInOrder ds low high h (front row [] low high h (lower (row ++ []) of.at low high a.0 a.2)))
expr-case (Expr-F.Type of ds (Some cast)) low high h a =
    let row = in_row (map dimension_tokens (map (λ e. e.0) ds)) in
    let s = split row (cast_tokens cast.0) low high h (lower (row ++ cast_tokens cast.0) of.at low high a.0 a.2) in
    F.type-cast of (map dimension_meaning (map (λ e. e.0) ds)) (cast_meaning cast.0) low s.between high a.0 a.1 s.from s.to
    (rows dimension_tokens dimension_meaning DimensionInOrder ds low s.between s.from s.before) (cast.1 s.between high s.to s.behind)
expr-case (Expr-F.SigningCast signing cast) low high h a =
    F.signing-cast signing (cast_meaning cast.0) low high a.0 a.1 (cast.1 low high h (lower (cast_tokens cast.0) (signing_token signing) low high a.0 a.2))
expr-case (Expr-F.SystemCall name opening e closing) low high h a =
    F.system-form name opening (meaning e.0) closing low high a.0 a.1 (e.1 low high h (lower (expr_tokens e.0) name low high a.0 a.2))
expr-case (Expr-F.Call of opening es closing None) low high h a =
    let row = in_row (map expr_tokens (exprs es)) in
    let n = N.name-stands of.scope of.name (opening ∷ (row ++ (closing ∷ []))) low high a in
    let s = split-at row closing [] (suc opening) high n.behind.1 n.behind.2 in
    N.expr-wider (E.expr_step (Expr-F.Call of opening (map meaning (exprs es)) closing None)) (qualified_first of) (suc closing) low high n.from s.to
    (P.call-form of opening (map meaning (exprs es)) closing n.inner n.behind.0 s.from (rows expr_tokens meaning ExprInOrder es (suc opening) closing s.from s.before))
expr-case (Expr-F.Call of opening es closing (Some cast)) low high h a =
    let row = in_row (map expr_tokens (exprs es)) in
    let n = N.name-stands of.scope of.name (opening ∷ (row ++ (closing ∷ cast_tokens cast.0))) low high a in
    let s = split-at row closing (cast_tokens cast.0) (suc opening) high n.behind.1 n.behind.2 in
    N.expr-wider (E.expr_step (Expr-F.Call of opening (map meaning (exprs es)) closing (Some (cast_meaning cast.0)))) (qualified_first of) high low high n.from (omega arith)
    (F.call-cast of opening (map meaning (exprs es)) closing (cast_meaning cast.0) high n.inner n.behind.0 s.from s.to (rows expr_tokens meaning ExprInOrder es (suc opening) closing s.from s.before)
    (cast.1 (suc closing) high s.to s.behind))
expr-case (Expr-F.«Expr::Name» of ss None) low high h a =
    let row = in_row (map select_tokens (map (λ e. e.0) ss)) in
    let n = N.name-stands of.scope of.name (row ++ []) low high a in
    N.name-form of (map select_meaning (map (λ e. e.0) ss)) low high n.from n.inner n.before
    (rows select_tokens select_meaning SelectStands ss (suc of.name) high n.before (front row [] (suc of.name) high n.before n.behind))
expr-case (Expr-F.«Expr::Name» of ss (Some cast)) low high h a =
    let row = in_row (map select_tokens (map (λ e. e.0) ss)) in
    let n = N.name-stands of.scope of.name (row ++ cast_tokens cast.0) low high a in
    let s = split row (cast_tokens cast.0) (suc of.name) high n.before n.behind in
    N.expr-wider (E.expr_step (Expr-F.«Expr::Name» of (map select_meaning (map (λ e. e.0) ss)) (Some (cast_meaning cast.0)))) (qualified_first of) high low high n.from (omega arith)
    (F.name-cast of (map select_meaning (map (λ e. e.0) ss)) (cast_meaning cast.0) s.between high n.inner s.from s.to
    (rows select_tokens select_meaning SelectStands ss (suc of.name) s.between s.from s.before) (cast.1 s.between high s.to s.behind))

expr-level : (y : Expr-F ACast ADimension AnExpr APattern AnItem ASelect ASlice ARange) → OfExpr (roll-Expr (expr_in y))
expr-level y low high h a =
    subst (λ m. ExprInOrder low high m) (sym (fold-roll-Expr CastMeaning DimensionMeaning Meaning PatternMeaning ItemMeaning SelectMeaning SliceMeaning RangeMeaning E.cast_step E.dimension_step E.expr_step E.pattern_step E.pattern_item_step E.select_step E.slice_size_step E.value_range_step (expr_in y)))
    (expr-case y low high h (subst (λ ts. Ascend low high ts) (fold-roll-Expr Tokens Tokens Tokens Tokens Tokens Tokens Tokens Tokens O.cast_step O.dimension_step O.expr_step O.pattern_step O.pattern_item_step O.select_step O.slice_step O.range_step (expr_in y)) a))

abbrev cast_in : Cast-F ACast ADimension AnExpr APattern AnItem ASelect ASlice ARange → Cast-F Cast Dimension Expr Pattern PatternItem Select SliceSize ValueRange
cast_in = map-Cast ACast ADimension AnExpr APattern AnItem ASelect ASlice ARange Cast Dimension Expr Pattern PatternItem Select SliceSize ValueRange (λ e. e.0) (λ e. e.0) (λ e. e.0) (λ e. e.0) (λ e. e.0) (λ e. e.0) (λ e. e.0) (λ e. e.0)

abbrev cast_row : Cast-F Cast Dimension Expr Pattern PatternItem Select SliceSize ValueRange → Tokens
cast_row z = O.cast_step (map-Cast Cast Dimension Expr Pattern PatternItem Select SliceSize ValueRange Tokens Tokens Tokens Tokens Tokens Tokens Tokens Tokens cast_tokens dimension_tokens expr_tokens pattern_tokens pattern_item_tokens select_tokens slice_tokens range_tokens z)

abbrev meant_cast : Cast-F Cast Dimension Expr Pattern PatternItem Select SliceSize ValueRange → CastMeaning
meant_cast z = E.cast_step (map-Cast Cast Dimension Expr Pattern PatternItem Select SliceSize ValueRange CastMeaning DimensionMeaning Meaning PatternMeaning ItemMeaning SelectMeaning SliceMeaning RangeMeaning cast_meaning dimension_meaning meaning pattern_meaning item_meaning select_meaning slice_meaning range_meaning z)

cast-case : (y : Cast-F ACast ADimension AnExpr APattern AnItem ASelect ASlice ARange) (low high : ℕ) → low ≤ high → Ascend low high (cast_row (cast_in y)) → CastInOrder low high (meant_cast (cast_in y))
cast-case (Cast-F.«Cast::Value» tick opening e closing) low high h a =
    F.value-cast tick opening (meaning e.0) closing low high a.0 a.1 (e.1 low high h (lower (expr_tokens e.0) tick low high a.0 a.2))
cast-case (Cast-F.«Cast::Pattern» tick opening pattern closing) low high h a =
    F.pattern-cast tick opening (pattern_meaning pattern.0) closing low high a.0 a.1 (pattern.1 low high h (lower (pattern_tokens pattern.0) tick low high a.0 a.2))

cast-level : (y : Cast-F ACast ADimension AnExpr APattern AnItem ASelect ASlice ARange) → OfCast (roll-Cast (cast_in y))
cast-level y low high h a =
    subst (λ m. CastInOrder low high m) (sym (fold-roll-Cast CastMeaning DimensionMeaning Meaning PatternMeaning ItemMeaning SelectMeaning SliceMeaning RangeMeaning E.cast_step E.dimension_step E.expr_step E.pattern_step E.pattern_item_step E.select_step E.slice_size_step E.value_range_step (cast_in y)))
    (cast-case y low high h (subst (λ ts. Ascend low high ts) (fold-roll-Cast Tokens Tokens Tokens Tokens Tokens Tokens Tokens Tokens O.cast_step O.dimension_step O.expr_step O.pattern_step O.pattern_item_step O.select_step O.slice_step O.range_step (cast_in y)) a))

abbrev dimension_in : Dimension-F ACast ADimension AnExpr APattern AnItem ASelect ASlice ARange → Dimension-F Cast Dimension Expr Pattern PatternItem Select SliceSize ValueRange
dimension_in = map-Dimension ACast ADimension AnExpr APattern AnItem ASelect ASlice ARange Cast Dimension Expr Pattern PatternItem Select SliceSize ValueRange (λ e. e.0) (λ e. e.0) (λ e. e.0) (λ e. e.0) (λ e. e.0) (λ e. e.0) (λ e. e.0) (λ e. e.0)

abbrev dimension_row : Dimension-F Cast Dimension Expr Pattern PatternItem Select SliceSize ValueRange → Tokens
dimension_row z = O.dimension_step (map-Dimension Cast Dimension Expr Pattern PatternItem Select SliceSize ValueRange Tokens Tokens Tokens Tokens Tokens Tokens Tokens Tokens cast_tokens dimension_tokens expr_tokens pattern_tokens pattern_item_tokens select_tokens slice_tokens range_tokens z)

abbrev meant_dimension : Dimension-F Cast Dimension Expr Pattern PatternItem Select SliceSize ValueRange → DimensionMeaning
meant_dimension z = E.dimension_step (map-Dimension Cast Dimension Expr Pattern PatternItem Select SliceSize ValueRange CastMeaning DimensionMeaning Meaning PatternMeaning ItemMeaning SelectMeaning SliceMeaning RangeMeaning cast_meaning dimension_meaning meaning pattern_meaning item_meaning select_meaning slice_meaning range_meaning z)

dimension-case : (y : Dimension-F ACast ADimension AnExpr APattern AnItem ASelect ASlice ARange) (low high : ℕ) → low ≤ high → Ascend low high (dimension_row (dimension_in y)) → DimensionInOrder low high (meant_dimension (dimension_in y))
dimension-case (Dimension-F.Size opening size closing) low high h a = S.size-dimension opening (meaning size.0) closing low high a.0 a.1 (size.1 (suc opening) high a.1 a.2)
dimension-case (Dimension-F.«Dimension::Range» opening left colon right closing) low high h a =
    let s = split (expr_tokens left.0) (expr_tokens right.0) (suc opening) high a.1 a.2 in
    S.range-dimension opening (meaning left.0) colon (meaning right.0) closing low s.between high a.0 s.from s.to (left.1 (suc opening) s.between s.from s.before) (right.1 s.between high s.to s.behind)

dimension-level : (y : Dimension-F ACast ADimension AnExpr APattern AnItem ASelect ASlice ARange) → OfDimension (roll-Dimension (dimension_in y))
dimension-level y low high h a =
    subst (λ m. DimensionInOrder low high m) (sym (fold-roll-Dimension CastMeaning DimensionMeaning Meaning PatternMeaning ItemMeaning SelectMeaning SliceMeaning RangeMeaning E.cast_step E.dimension_step E.expr_step E.pattern_step E.pattern_item_step E.select_step E.slice_size_step E.value_range_step (dimension_in y)))
    (dimension-case y low high h (subst (λ ts. Ascend low high ts) (fold-roll-Dimension Tokens Tokens Tokens Tokens Tokens Tokens Tokens Tokens O.cast_step O.dimension_step O.expr_step O.pattern_step O.pattern_item_step O.select_step O.slice_step O.range_step (dimension_in y)) a))

abbrev pattern_in : Pattern-F ACast ADimension AnExpr APattern AnItem ASelect ASlice ARange → Pattern-F Cast Dimension Expr Pattern PatternItem Select SliceSize ValueRange
pattern_in = map-Pattern ACast ADimension AnExpr APattern AnItem ASelect ASlice ARange Cast Dimension Expr Pattern PatternItem Select SliceSize ValueRange (λ e. e.0) (λ e. e.0) (λ e. e.0) (λ e. e.0) (λ e. e.0) (λ e. e.0) (λ e. e.0) (λ e. e.0)

abbrev pattern_row : Pattern-F Cast Dimension Expr Pattern PatternItem Select SliceSize ValueRange → Tokens
pattern_row z = O.pattern_step (map-Pattern Cast Dimension Expr Pattern PatternItem Select SliceSize ValueRange Tokens Tokens Tokens Tokens Tokens Tokens Tokens Tokens cast_tokens dimension_tokens expr_tokens pattern_tokens pattern_item_tokens select_tokens slice_tokens range_tokens z)

abbrev meant_pattern : Pattern-F Cast Dimension Expr Pattern PatternItem Select SliceSize ValueRange → PatternMeaning
meant_pattern z = E.pattern_step (map-Pattern Cast Dimension Expr Pattern PatternItem Select SliceSize ValueRange CastMeaning DimensionMeaning Meaning PatternMeaning ItemMeaning SelectMeaning SliceMeaning RangeMeaning cast_meaning dimension_meaning meaning pattern_meaning item_meaning select_meaning slice_meaning range_meaning z)

pattern-case : (y : Pattern-F ACast ADimension AnExpr APattern AnItem ASelect ASlice ARange) (low high : ℕ) → low ≤ high → Ascend low high (pattern_row (pattern_in y)) → PatternInOrder low high (meant_pattern (pattern_in y))
pattern-case (Pattern-F.Items is) low high h a =
    I.items-pattern (map item_meaning (map (λ e. e.0) is)) low high (rows pattern_item_tokens item_meaning ItemInOrder is low high h a)
pattern-case (Pattern-F.«Pattern::Replication» times opening es closing) low high h a =
    let s = split (expr_tokens times.0) (in_row (map expr_tokens (exprs es))) low high h a in
    I.replicated-pattern (meaning times.0) opening (map meaning (exprs es)) closing low s.between high s.from s.to (times.1 low s.between s.from s.before)
    (rows expr_tokens meaning ExprInOrder es s.between high s.to s.behind)

pattern-level : (y : Pattern-F ACast ADimension AnExpr APattern AnItem ASelect ASlice ARange) → OfPattern (roll-Pattern (pattern_in y))
pattern-level y low high h a =
    subst (λ m. PatternInOrder low high m) (sym (fold-roll-Pattern CastMeaning DimensionMeaning Meaning PatternMeaning ItemMeaning SelectMeaning SliceMeaning RangeMeaning E.cast_step E.dimension_step E.expr_step E.pattern_step E.pattern_item_step E.select_step E.slice_size_step E.value_range_step (pattern_in y)))
    (pattern-case y low high h (subst (λ ts. Ascend low high ts) (fold-roll-Pattern Tokens Tokens Tokens Tokens Tokens Tokens Tokens Tokens O.cast_step O.dimension_step O.expr_step O.pattern_step O.pattern_item_step O.select_step O.slice_step O.range_step (pattern_in y)) a))

abbrev item_in : PatternItem-F ACast ADimension AnExpr APattern AnItem ASelect ASlice ARange → PatternItem-F Cast Dimension Expr Pattern PatternItem Select SliceSize ValueRange
item_in = map-PatternItem ACast ADimension AnExpr APattern AnItem ASelect ASlice ARange Cast Dimension Expr Pattern PatternItem Select SliceSize ValueRange (λ e. e.0) (λ e. e.0) (λ e. e.0) (λ e. e.0) (λ e. e.0) (λ e. e.0) (λ e. e.0) (λ e. e.0)

abbrev item_row : PatternItem-F Cast Dimension Expr Pattern PatternItem Select SliceSize ValueRange → Tokens
item_row z = O.pattern_item_step (map-PatternItem Cast Dimension Expr Pattern PatternItem Select SliceSize ValueRange Tokens Tokens Tokens Tokens Tokens Tokens Tokens Tokens cast_tokens dimension_tokens expr_tokens pattern_tokens pattern_item_tokens select_tokens slice_tokens range_tokens z)

abbrev meant_item : PatternItem-F Cast Dimension Expr Pattern PatternItem Select SliceSize ValueRange → ItemMeaning
meant_item z = E.pattern_item_step (map-PatternItem Cast Dimension Expr Pattern PatternItem Select SliceSize ValueRange CastMeaning DimensionMeaning Meaning PatternMeaning ItemMeaning SelectMeaning SliceMeaning RangeMeaning cast_meaning dimension_meaning meaning pattern_meaning item_meaning select_meaning slice_meaning range_meaning z)

item-case : (y : PatternItem-F ACast ADimension AnExpr APattern AnItem ASelect ASlice ARange) (low high : ℕ) → low ≤ high → Ascend low high (item_row (item_in y)) → ItemInOrder low high (meant_item (item_in y))
item-case (PatternItem-F.Default keyword colon e) low high h a = I.default-item keyword colon (meaning e.0) low high (e.1 low high h a)
item-case (PatternItem-F.Keyed key colon e) low high h a =
    let s = split (expr_tokens key.0) (expr_tokens e.0) low high h a in
    I.keyed-item (meaning key.0) colon (meaning e.0) low s.between high s.from s.to (key.1 low s.between s.from s.before) (e.1 s.between high s.to s.behind)
item-case (PatternItem-F.«PatternItem::Value» e) low high h a = I.value-item (meaning e.0) low high (e.1 low high h a)

item-level : (y : PatternItem-F ACast ADimension AnExpr APattern AnItem ASelect ASlice ARange) → OfItem (roll-PatternItem (item_in y))
item-level y low high h a =
    subst (λ m. ItemInOrder low high m) (sym (fold-roll-PatternItem CastMeaning DimensionMeaning Meaning PatternMeaning ItemMeaning SelectMeaning SliceMeaning RangeMeaning E.cast_step E.dimension_step E.expr_step E.pattern_step E.pattern_item_step E.select_step E.slice_size_step E.value_range_step (item_in y)))
    (item-case y low high h (subst (λ ts. Ascend low high ts) (fold-roll-PatternItem Tokens Tokens Tokens Tokens Tokens Tokens Tokens Tokens O.cast_step O.dimension_step O.expr_step O.pattern_step O.pattern_item_step O.select_step O.slice_step O.range_step (item_in y)) a))

abbrev select_in : Select-F ACast ADimension AnExpr APattern AnItem ASelect ASlice ARange → Select-F Cast Dimension Expr Pattern PatternItem Select SliceSize ValueRange
select_in = map-Select ACast ADimension AnExpr APattern AnItem ASelect ASlice ARange Cast Dimension Expr Pattern PatternItem Select SliceSize ValueRange (λ e. e.0) (λ e. e.0) (λ e. e.0) (λ e. e.0) (λ e. e.0) (λ e. e.0) (λ e. e.0) (λ e. e.0)

abbrev select_row : Select-F Cast Dimension Expr Pattern PatternItem Select SliceSize ValueRange → Tokens
select_row z = O.select_step (map-Select Cast Dimension Expr Pattern PatternItem Select SliceSize ValueRange Tokens Tokens Tokens Tokens Tokens Tokens Tokens Tokens cast_tokens dimension_tokens expr_tokens pattern_tokens pattern_item_tokens select_tokens slice_tokens range_tokens z)

abbrev meant_select : Select-F Cast Dimension Expr Pattern PatternItem Select SliceSize ValueRange → SelectMeaning
meant_select z = E.select_step (map-Select Cast Dimension Expr Pattern PatternItem Select SliceSize ValueRange CastMeaning DimensionMeaning Meaning PatternMeaning ItemMeaning SelectMeaning SliceMeaning RangeMeaning cast_meaning dimension_meaning meaning pattern_meaning item_meaning select_meaning slice_meaning range_meaning z)

select-case : (y : Select-F ACast ADimension AnExpr APattern AnItem ASelect ASlice ARange) (low high : ℕ) → low ≤ high → Ascend low high (select_row (select_in y)) → SelectStands low high (meant_select (select_in y))
select-case (Select-F.Member dot name) low high h a = S.member-select dot name low high a.0 a.2.0 a.2.1
select-case (Select-F.Index opening e closing) low high h a =
    S.index-select opening (meaning e.0) closing low high a.0 a.1 (e.1 (suc opening) high a.1 (front (expr_tokens e.0) (closing ∷ []) (suc opening) high a.1 a.2))
select-case (Select-F.Part opening left op at right closing) low high h a =
    let s = split-at (expr_tokens left.0) at (expr_tokens right.0) (suc opening) high a.1 a.2 in
    S.part-select opening (meaning left.0) at (meaning right.0) low high a.0 s.from s.to (left.1 (suc opening) at s.from s.before) (right.1 (suc at) high s.to s.behind) op closing

select-level : (y : Select-F ACast ADimension AnExpr APattern AnItem ASelect ASlice ARange) → OfSelect (roll-Select (select_in y))
select-level y low high h a =
    subst (λ m. SelectStands low high m) (sym (fold-roll-Select CastMeaning DimensionMeaning Meaning PatternMeaning ItemMeaning SelectMeaning SliceMeaning RangeMeaning E.cast_step E.dimension_step E.expr_step E.pattern_step E.pattern_item_step E.select_step E.slice_size_step E.value_range_step (select_in y)))
    (select-case y low high h (subst (λ ts. Ascend low high ts) (fold-roll-Select Tokens Tokens Tokens Tokens Tokens Tokens Tokens Tokens O.cast_step O.dimension_step O.expr_step O.pattern_step O.pattern_item_step O.select_step O.slice_step O.range_step (select_in y)) a))

abbrev slice_in : SliceSize-F ACast ADimension AnExpr APattern AnItem ASelect ASlice ARange → SliceSize-F Cast Dimension Expr Pattern PatternItem Select SliceSize ValueRange
slice_in = map-SliceSize ACast ADimension AnExpr APattern AnItem ASelect ASlice ARange Cast Dimension Expr Pattern PatternItem Select SliceSize ValueRange (λ e. e.0) (λ e. e.0) (λ e. e.0) (λ e. e.0) (λ e. e.0) (λ e. e.0) (λ e. e.0) (λ e. e.0)

abbrev slice_row : SliceSize-F Cast Dimension Expr Pattern PatternItem Select SliceSize ValueRange → Tokens
slice_row z = O.slice_step (map-SliceSize Cast Dimension Expr Pattern PatternItem Select SliceSize ValueRange Tokens Tokens Tokens Tokens Tokens Tokens Tokens Tokens cast_tokens dimension_tokens expr_tokens pattern_tokens pattern_item_tokens select_tokens slice_tokens range_tokens z)

abbrev meant_slice : SliceSize-F Cast Dimension Expr Pattern PatternItem Select SliceSize ValueRange → SliceMeaning
meant_slice z = E.slice_size_step (map-SliceSize Cast Dimension Expr Pattern PatternItem Select SliceSize ValueRange CastMeaning DimensionMeaning Meaning PatternMeaning ItemMeaning SelectMeaning SliceMeaning RangeMeaning cast_meaning dimension_meaning meaning pattern_meaning item_meaning select_meaning slice_meaning range_meaning z)

slice-case : (y : SliceSize-F ACast ADimension AnExpr APattern AnItem ASelect ASlice ARange) (low high : ℕ) → low ≤ high → Ascend low high (slice_row (slice_in y)) → SliceInOrder low high (meant_slice (slice_in y))
slice-case (SliceSize-F.«SliceSize::Decimal» digits) low high h a = S.decimal-slice digits low high a.0 a.1
slice-case (SliceSize-F.Keyword of) low high h a = S.keyword-slice of low high a.0 a.1
slice-case (SliceSize-F.«SliceSize::Name» of) low high h a = let n = N.name-alone of.scope of.name low high a in S.name-slice of low high n.from n.inner n.before
slice-case (SliceSize-F.«SliceSize::Parenthesized» opening e closing) low high h a = S.value-slice opening (meaning e.0) closing low high (e.1 low high h a)

slice-level : (y : SliceSize-F ACast ADimension AnExpr APattern AnItem ASelect ASlice ARange) → OfSlice (roll-SliceSize (slice_in y))
slice-level y low high h a =
    subst (λ m. SliceInOrder low high m) (sym (fold-roll-SliceSize CastMeaning DimensionMeaning Meaning PatternMeaning ItemMeaning SelectMeaning SliceMeaning RangeMeaning E.cast_step E.dimension_step E.expr_step E.pattern_step E.pattern_item_step E.select_step E.slice_size_step E.value_range_step (slice_in y)))
    (slice-case y low high h (subst (λ ts. Ascend low high ts) (fold-roll-SliceSize Tokens Tokens Tokens Tokens Tokens Tokens Tokens Tokens O.cast_step O.dimension_step O.expr_step O.pattern_step O.pattern_item_step O.select_step O.slice_step O.range_step (slice_in y)) a))

abbrev range_in : ValueRange-F ACast ADimension AnExpr APattern AnItem ASelect ASlice ARange → ValueRange-F Cast Dimension Expr Pattern PatternItem Select SliceSize ValueRange
range_in = map-ValueRange ACast ADimension AnExpr APattern AnItem ASelect ASlice ARange Cast Dimension Expr Pattern PatternItem Select SliceSize ValueRange (λ e. e.0) (λ e. e.0) (λ e. e.0) (λ e. e.0) (λ e. e.0) (λ e. e.0) (λ e. e.0) (λ e. e.0)

abbrev range_row : ValueRange-F Cast Dimension Expr Pattern PatternItem Select SliceSize ValueRange → Tokens
range_row z = O.range_step (map-ValueRange Cast Dimension Expr Pattern PatternItem Select SliceSize ValueRange Tokens Tokens Tokens Tokens Tokens Tokens Tokens Tokens cast_tokens dimension_tokens expr_tokens pattern_tokens pattern_item_tokens select_tokens slice_tokens range_tokens z)

abbrev meant_range : ValueRange-F Cast Dimension Expr Pattern PatternItem Select SliceSize ValueRange → RangeMeaning
meant_range z = E.value_range_step (map-ValueRange Cast Dimension Expr Pattern PatternItem Select SliceSize ValueRange CastMeaning DimensionMeaning Meaning PatternMeaning ItemMeaning SelectMeaning SliceMeaning RangeMeaning cast_meaning dimension_meaning meaning pattern_meaning item_meaning select_meaning slice_meaning range_meaning z)

range-case : (y : ValueRange-F ACast ADimension AnExpr APattern AnItem ASelect ASlice ARange) (low high : ℕ) → low ≤ high → Ascend low high (range_row (range_in y)) → RangeInOrder low high (meant_range (range_in y))
range-case (ValueRange-F.«ValueRange::Value» e) low high h a = F.value-range (meaning e.0) low high (e.1 low high h a)
range-case (ValueRange-F.«ValueRange::Range» opening from colon to closing) low high h a =
    let s = split (expr_tokens from.0) (expr_tokens to.0) low high h a in
    F.both-range opening (meaning from.0) colon (meaning to.0) closing low s.between high s.from s.to (from.1 low s.between s.from s.before) (to.1 s.between high s.to s.behind)

range-level : (y : ValueRange-F ACast ADimension AnExpr APattern AnItem ASelect ASlice ARange) → OfRange (roll-ValueRange (range_in y))
range-level y low high h a =
    subst (λ m. RangeInOrder low high m) (sym (fold-roll-ValueRange CastMeaning DimensionMeaning Meaning PatternMeaning ItemMeaning SelectMeaning SliceMeaning RangeMeaning E.cast_step E.dimension_step E.expr_step E.pattern_step E.pattern_item_step E.select_step E.slice_size_step E.value_range_step (range_in y)))
    (range-case y low high h (subst (λ ts. Ascend low high ts) (fold-roll-ValueRange Tokens Tokens Tokens Tokens Tokens Tokens Tokens Tokens O.cast_step O.dimension_step O.expr_step O.pattern_step O.pattern_item_step O.select_step O.slice_step O.range_step (range_in y)) a))

-- each expression, dimension, select and size of a slice
pub expr-in-order : (x : Expr) → OfPart expr_tokens meaning ExprInOrder x
expr-in-order =
    ind-Expr OfCast OfDimension OfExpr OfPattern OfItem OfSelect OfSlice OfRange
    (λ x y is. subst (λ z. OfCast (roll-Cast z)) is (cast-level y))
    (λ x y is. subst (λ z. OfDimension (roll-Dimension z)) is (dimension-level y))
    (λ x y is. subst (λ z. OfExpr (roll-Expr z)) is (expr-level y))
    (λ x y is. subst (λ z. OfPattern (roll-Pattern z)) is (pattern-level y))
    (λ x y is. subst (λ z. OfItem (roll-PatternItem z)) is (item-level y))
    (λ x y is. subst (λ z. OfSelect (roll-Select z)) is (select-level y))
    (λ x y is. subst (λ z. OfSlice (roll-SliceSize z)) is (slice-level y))
    (λ x y is. subst (λ z. OfRange (roll-ValueRange z)) is (range-level y))

pub dimension-in-order : (x : Dimension) → OfPart dimension_tokens dimension_meaning DimensionInOrder x
dimension-in-order =
    ind-Dimension OfCast OfDimension OfExpr OfPattern OfItem OfSelect OfSlice OfRange
    (λ x y is. subst (λ z. OfCast (roll-Cast z)) is (cast-level y))
    (λ x y is. subst (λ z. OfDimension (roll-Dimension z)) is (dimension-level y))
    (λ x y is. subst (λ z. OfExpr (roll-Expr z)) is (expr-level y))
    (λ x y is. subst (λ z. OfPattern (roll-Pattern z)) is (pattern-level y))
    (λ x y is. subst (λ z. OfItem (roll-PatternItem z)) is (item-level y))
    (λ x y is. subst (λ z. OfSelect (roll-Select z)) is (select-level y))
    (λ x y is. subst (λ z. OfSlice (roll-SliceSize z)) is (slice-level y))
    (λ x y is. subst (λ z. OfRange (roll-ValueRange z)) is (range-level y))

pub select-in-order : (x : Select) → OfPart select_tokens select_meaning SelectStands x
select-in-order =
    ind-Select OfCast OfDimension OfExpr OfPattern OfItem OfSelect OfSlice OfRange
    (λ x y is. subst (λ z. OfCast (roll-Cast z)) is (cast-level y))
    (λ x y is. subst (λ z. OfDimension (roll-Dimension z)) is (dimension-level y))
    (λ x y is. subst (λ z. OfExpr (roll-Expr z)) is (expr-level y))
    (λ x y is. subst (λ z. OfPattern (roll-Pattern z)) is (pattern-level y))
    (λ x y is. subst (λ z. OfItem (roll-PatternItem z)) is (item-level y))
    (λ x y is. subst (λ z. OfSelect (roll-Select z)) is (select-level y))
    (λ x y is. subst (λ z. OfSlice (roll-SliceSize z)) is (slice-level y))
    (λ x y is. subst (λ z. OfRange (roll-ValueRange z)) is (range-level y))

pub slice-in-order : (x : SliceSize) → OfPart slice_tokens slice_meaning SliceInOrder x
slice-in-order =
    ind-SliceSize OfCast OfDimension OfExpr OfPattern OfItem OfSelect OfSlice OfRange
    (λ x y is. subst (λ z. OfCast (roll-Cast z)) is (cast-level y))
    (λ x y is. subst (λ z. OfDimension (roll-Dimension z)) is (dimension-level y))
    (λ x y is. subst (λ z. OfExpr (roll-Expr z)) is (expr-level y))
    (λ x y is. subst (λ z. OfPattern (roll-Pattern z)) is (pattern-level y))
    (λ x y is. subst (λ z. OfItem (roll-PatternItem z)) is (item-level y))
    (λ x y is. subst (λ z. OfSelect (roll-Select z)) is (select-level y))
    (λ x y is. subst (λ z. OfSlice (roll-SliceSize z)) is (slice-level y))
    (λ x y is. subst (λ z. OfRange (roll-ValueRange z)) is (range-level y))
