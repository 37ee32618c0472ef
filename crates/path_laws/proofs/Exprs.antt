-- Expressions as types and as targets.
use Rattle.std.proofs.Common.{◌≡◌, ℕ, false, List, [], ◌∷◌, map, Option, Some, None, sym, subst}
use Rattle.std.specs.Prelude.{Ok}
use Rattle.std.specs.Option.{option_map}
use Rattle.sv_tree.specs.declared.expressions.Cast.{Cast}
use Rattle.sv_tree.specs.declared.expressions.Dimension.{Dimension}
use Rattle.sv_tree.specs.declared.expressions.Expr.{Expr, Expr-F, roll-Expr, map-Expr, ind-Expr, fold-roll-Expr}
use Rattle.sv_tree.specs.declared.expressions.Pattern.{Pattern}
use Rattle.sv_tree.specs.declared.expressions.PatternItem.{PatternItem}
use Rattle.sv_tree.specs.declared.expressions.Select.{Select}
use Rattle.sv_tree.specs.declared.expressions.SliceSize.{SliceSize}
use Rattle.sv_tree.specs.declared.expressions.ValueRange.{ValueRange}
use Rattle.sv_tree.specs.declared.names.QualifiedName.{QualifiedName}
use Rattle.sv_tree.specs.declared.types.KeywordType.{KeywordType}
use Rattle.sv_types.specs.declared.statement.Function.{Function}
use Rattle.sv_types.specs.declared.types.SvType.{SvType}
use Rattle.expr_type.specs.declared.operand.Valued.{Valued}
use Rattle.expr_type.specs.Typings.{Typing, whole, rule, checked, all}
use Rattle.expr_type.specs.Shapes.{is_unpacked}
use Rattle.expr_type.specs.Names.{Context, Source, position, thing}
use Rattle.expr_type.specs.Operators.{concat_of, exprs}
use Rattle.expr_type.specs.KeywordTypes.{Dim, keyword_type}
use Rattle.expr_type.specs.TargetNames.{actual_target, packed_target, is_packed_target}
use Rattle.expr_type.specs.Forms.{SelectMeaning, dimensioned, dimensions, type_of_thing}
use Rattle.expr_type.specs.Expressions as E
use Rattle.expr_type.specs.Expressions.{Meaning, CastMeaning, DimensionMeaning, PatternMeaning, ItemMeaning, SliceMeaning, RangeMeaning, keyword_dimensions, type_of_name, if_all, joined_targets, expr_step, meaning, dimension_meaning, select_meaning, slice_meaning}
use Rattle.typing_fits.proofs.Contexts.{refused-then}
use Rattle.typing_fits.proofs.Operators.{ok-is}
use Rattle.typing_walks.proofs.Walk.{cast_meaning, pattern_meaning, item_meaning, range_meaning}
use Rattle.path_laws.specs.Names.{AllTypesPlain, PlainNames}
use Rattle.path_laws.specs.Targets.{AreTargets, none}
use Rattle.path_laws.proofs.Typings.{Gives, AllGive, Each, Anything, anything, whole-gives, rule-gives, checked-gives, all-gives}
use Rattle.path_laws.proofs.Paths.{actual-gives, typed-of}
use Rattle.path_laws.proofs.Targets.{GoesValued, joined, concat-is, path-goes, concat-goes}
use Rattle.path_laws.proofs.Types.{Plain, TypeIf, found-plain, plain-keyword, dimensioned-plain}

-- types
abbrev pub TypingIf : Option (Typing SvType) → Type 0
TypingIf None = Unit {0}
TypingIf (Some x) = Gives Plain x

typing-by : (k : Context) (ds : Typing (List Dim)) (o : Option SvType) → TypeIf o → TypingIf (option_map (λ t. dimensioned k.source t ds) o)
typing-by k ds None p = tt
typing-by k ds (Some t) p = dimensioned-plain k.source t ds p

pub name-type : (k : Context) (of : QualifiedName) (ss : List SelectMeaning) → AllTypesPlain k.types → TypingIf (type_of_name k of ss)
name-type k of ss p = typing-by k (dimensions k ss) (type_of_thing (thing k of)) (found-plain k (k.finds of) p)

abbrev OfType : Meaning → Type 0
OfType m = (k : Context) → AllTypesPlain k.types → TypingIf (m.as_type k)

-- targets
abbrev TargetIf : Option (Typing Valued) → Type 0
TargetIf None = Unit {0}
TargetIf (Some x) = Gives (GoesValued false) x

abbrev OfTarget : Meaning → Type 0
OfTarget m = (k : Context) → PlainNames k → TargetIf (m.as_target k)

pub record OfMeaning (m : Meaning) : Type 0 where
  pub type : OfType m
  pub target : OfTarget m

abbrev AllMeanings : List Meaning → Type 0
AllMeanings [] = Unit {0}
AllMeanings (m ∷ ms) = OfMeaning m × AllMeanings ms

packed-goes : (k : Source) (v u : Valued) → is_packed_target k v ≡ Ok u → GoesValued false v → GoesValued false u
packed-goes k v u h g = subst (GoesValued false) (ok-is v u (refused-then (is_unpacked v.expr.of) (position k v.first) 508 (Ok v) u h)) g

each-packed : (k : Source) (xs : List (Typing Valued)) → AllGive (GoesValued false) xs → AllGive (GoesValued false) (map (packed_target k) xs)
each-packed k [] g = tt
each-packed k (x ∷ xs) g =
    (checked-gives (GoesValued false) (GoesValued false) x (λ v. rule (is_packed_target k v)) g.0 (λ v q. rule-gives (GoesValued false) (is_packed_target k v) (λ u h. packed-goes k v u h q)), each-packed k xs g.1)

abbrev TargetsIf : Option (List (Typing Valued)) → Type 0
TargetsIf None = Unit {0}
TargetsIf (Some xs) = AllGive (GoesValued false) xs

more-targets : (x : Typing Valued) (o : Option (List (Typing Valued))) → Gives (GoesValued false) x → TargetsIf o → TargetsIf (option_map (λ ys. x ∷ ys) o)
more-targets x None g r = tt
more-targets x (Some ys) g r = (g, r)

next-target : (o : Option (Typing Valued)) (os : List (Option (Typing Valued))) → TargetIf o → TargetsIf (if_all os) → TargetsIf (if_all (o ∷ os))
next-target None os g r = tt
next-target (Some x) os g r = more-targets x (if_all os) g r

all-targets : (k : Context) (ms : List Meaning) → PlainNames k → AllMeanings ms → TargetsIf (if_all (map (λ (e : Meaning). e.as_target k) ms))
all-targets k [] p h = tt
all-targets k (m ∷ ms) p h = next-target (m.as_target k) (map (λ (e : Meaning). e.as_target k) ms) (h.0.target k p) (all-targets k ms p h.1)

concat-part : (k : Source) (opening : ℕ) (vs : List Valued) (v : Valued) → concat_of k opening (exprs vs) ≡ Ok v → Each (GoesValued false) vs → GoesValued false v
concat-part k opening vs v h g = concat-goes false v.expr (exprs vs) (record { is = concat-is k opening (exprs vs) v h; parts = joined false vs g })

joined-by : (k : Context) (opening : ℕ) (o : Option (List (Typing Valued))) → TargetsIf o → TargetIf (option_map (λ xs. checked (all (map (packed_target k.source) xs)) (λ vs. rule (concat_of k.source opening (exprs vs)))) o)
joined-by k opening None g = tt
joined-by k opening (Some xs) g =
    checked-gives (Each (GoesValued false)) (GoesValued false) (all (map (packed_target k.source) xs)) (λ vs. rule (concat_of k.source opening (exprs vs)))
    (all-gives (GoesValued false) (map (packed_target k.source) xs) (each-packed k.source xs g)) (λ vs q. rule-gives (GoesValued false) (concat_of k.source opening (exprs vs)) (λ v h. concat-part k.source opening vs v h q))

-- form by form
name-target : (k : Context) (of : QualifiedName) (ss : List Select) → PlainNames k → Gives (GoesValued false) (actual_target k of (map select_meaning ss))
name-target k of ss p fs v h = path-goes false v.expr (typed-of k.signals (thing k of) v.expr (actual-gives k of ss p fs v h))

abbrev ACast : Type 0
ACast = Cast × Unit {0}

abbrev ADimension : Type 0
ADimension = Dimension × Unit {0}

abbrev AnExpr : Type 0
AnExpr = (x : Expr) × OfMeaning (meaning x)

abbrev APattern : Type 0
APattern = Pattern × Unit {0}

abbrev AnItem : Type 0
AnItem = PatternItem × Unit {0}

abbrev ASelect : Type 0
ASelect = Select × Unit {0}

abbrev ASlice : Type 0
ASlice = SliceSize × Unit {0}

abbrev ARange : Type 0
ARange = ValueRange × Unit {0}

abbrev expr_in : Expr-F ACast ADimension AnExpr APattern AnItem ASelect ASlice ARange → Expr-F Cast Dimension Expr Pattern PatternItem Select SliceSize ValueRange
expr_in = map-Expr ACast ADimension AnExpr APattern AnItem ASelect ASlice ARange Cast Dimension Expr Pattern PatternItem Select SliceSize ValueRange (λ e. e.0) (λ e. e.0) (λ e. e.0) (λ e. e.0) (λ e. e.0) (λ e. e.0) (λ e. e.0) (λ e. e.0)

abbrev meant_expr : Expr-F Cast Dimension Expr Pattern PatternItem Select SliceSize ValueRange → Meaning
meant_expr z = expr_step (map-Expr Cast Dimension Expr Pattern PatternItem Select SliceSize ValueRange CastMeaning DimensionMeaning Meaning PatternMeaning ItemMeaning SelectMeaning SliceMeaning RangeMeaning cast_meaning dimension_meaning meaning pattern_meaning item_meaning select_meaning slice_meaning range_meaning z)

each-expr : (ys : List AnExpr) → AllMeanings (map meaning (map (λ e. e.0) ys))
each-expr [] = tt
each-expr (y ∷ ys) = (y.1, each-expr ys)

keyword-gives : (k : Context) (of : KeywordType) (ds : List DimensionMeaning) → Gives Plain (checked (keyword_dimensions k ds) (λ d. whole (keyword_type of d)))
keyword-gives k of ds = checked-gives Anything Plain (keyword_dimensions k ds) (λ d. whole (keyword_type of d)) (anything (keyword_dimensions k ds)) (λ d q. whole-gives Plain (keyword_type of d) (plain-keyword of d))

expr-case : (y : Expr-F ACast ADimension AnExpr APattern AnItem ASelect ASlice ARange) → OfMeaning (meant_expr (expr_in y))
expr-case (Expr-F.Concatenation opening items closing) = record {
  type = λ k p. tt;
  target = λ k p. joined-by k opening (if_all (map (λ (e : Meaning). e.as_target k) (map meaning (map (λ e. e.0) items)))) (all-targets k (map meaning (map (λ e. e.0) items)) p (each-expr items));
}
expr-case (Expr-F.Type of packed None) = record { type = λ k p. keyword-gives k of (map dimension_meaning (map (λ e. e.0) packed)); target = λ k p. tt }
expr-case (Expr-F.«Expr::Name» of selects None) = record { type = λ k p. name-type k of (map select_meaning (map (λ e. e.0) selects)) p; target = λ k p. name-target k of (map (λ e. e.0) selects) p }
expr-case (Expr-F.Conditional test question first colon second) = record { type = λ k p. tt; target = λ k p. tt }
expr-case (Expr-F.Binary left operator at right) = record { type = λ k p. tt; target = λ k p. tt }
expr-case (Expr-F.Inside sought keyword opening ranges closing) = record { type = λ k p. tt; target = λ k p. tt }
expr-case (Expr-F.Unary operator at operand) = record { type = λ k p. tt; target = λ k p. tt }
expr-case (Expr-F.«Expr::Decimal» digits) = record { type = λ k p. tt; target = λ k p. tt }
expr-case (Expr-F.Sized size digits) = record { type = λ k p. tt; target = λ k p. tt }
expr-case (Expr-F.SizeCast size cast) = record { type = λ k p. tt; target = λ k p. tt }
expr-case (Expr-F.Based digits) = record { type = λ k p. tt; target = λ k p. tt }
expr-case (Expr-F.Fill digit) = record { type = λ k p. tt; target = λ k p. tt }
expr-case (Expr-F.«Expr::Parenthesized» opening inner closing None) = record { type = λ k p. tt; target = λ k p. tt }
expr-case (Expr-F.«Expr::Parenthesized» opening inner closing (Some cast)) = record { type = λ k p. tt; target = λ k p. tt }
expr-case (Expr-F.«Expr::Replication» opening times inner_opening items inner_closing closing) = record { type = λ k p. tt; target = λ k p. tt }
expr-case (Expr-F.Stream opening operator at size inner_opening items inner_closing closing) = record { type = λ k p. tt; target = λ k p. tt }
expr-case (Expr-F.«Expr::Pattern» tick opening pattern closing) = record { type = λ k p. tt; target = λ k p. tt }
expr-case (Expr-F.Type of packed (Some cast)) = record { type = λ k p. tt; target = λ k p. tt }
expr-case (Expr-F.SigningCast signing cast) = record { type = λ k p. tt; target = λ k p. tt }
expr-case (Expr-F.SystemCall name opening argument closing) = record { type = λ k p. tt; target = λ k p. tt }
expr-case (Expr-F.Call of opening arguments closing None) = record { type = λ k p. tt; target = λ k p. tt }
expr-case (Expr-F.Call of opening arguments closing (Some cast)) = record { type = λ k p. tt; target = λ k p. tt }
expr-case (Expr-F.«Expr::Name» of selects (Some cast)) = record { type = λ k p. tt; target = λ k p. tt }

expr-level : (y : Expr-F ACast ADimension AnExpr APattern AnItem ASelect ASlice ARange) → OfMeaning (meaning (roll-Expr (expr_in y)))
expr-level y =
    subst OfMeaning (sym (fold-roll-Expr CastMeaning DimensionMeaning Meaning PatternMeaning ItemMeaning SelectMeaning SliceMeaning RangeMeaning E.cast_step E.dimension_step E.expr_step E.pattern_step E.pattern_item_step E.select_step E.slice_size_step E.value_range_step (expr_in y)))
    (expr-case y)

abbrev AnyOf : {A : Type 0} → A → Type 0
AnyOf a = Unit {0}

-- each expression of a text
pub expr-typed : (e : Expr) → OfMeaning (meaning e)
expr-typed =
    ind-Expr AnyOf AnyOf (λ e. OfMeaning (meaning e)) AnyOf AnyOf AnyOf AnyOf AnyOf
    (λ x y is. tt) (λ x y is. tt) (λ x y is. subst (λ z. OfMeaning (meaning (roll-Expr z))) is (expr-level y)) (λ x y is. tt) (λ x y is. tt) (λ x y is. tt) (λ x y is. tt) (λ x y is. tt)

abbrev some_typing : Typing Valued → Option (Typing Valued)
some_typing x = Some x

actual-by : (o : Option (Typing Valued)) (x : Typing Valued) → TargetIf o → o ≡ Some x → Gives (GoesValued false) x
actual-by None x g h = absurd (cc)
actual-by (Some y) x g h = let is : y ≡ x = cc in subst (λ z. Gives (GoesValued false) z) is g

pub actual-typed : (k : Context) (e : Expr) (x : Typing Valued) (fs : List Function) (v : Valued) → PlainNames k → (meaning e).as_target k ≡ Some x → (x fs).result ≡ Ok v → AreTargets false (v.expr ∷ [])
actual-typed k e x fs v p is h = actual-by ((meaning e).as_target k) x ((expr-typed e).target k p) is fs v h [] (none false)
