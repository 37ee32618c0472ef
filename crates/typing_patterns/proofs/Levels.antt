-- Items and patterns, one level at a time.
use Rattle.std.proofs.Common.{◌≡◌, ℕ, List, [], ◌∷◌, map, Option, Some, None, refl, sym, ap, ◌∙◌, subst}
use Rattle.std.specs.Prelude.{Result}
use Rattle.sv_tree.specs.declared.expressions.Expr.{Expr}
use Rattle.sv_tree.specs.declared.expressions.Pattern.{Pattern, Pattern-F, fold-roll-Pattern}
use Rattle.sv_tree.specs.declared.expressions.Pattern.TheVariants as P
use Rattle.sv_tree.specs.declared.expressions.PatternItem.{PatternItem, PatternItem-F, fold-roll-PatternItem}
use Rattle.sv_tree.specs.declared.expressions.PatternItem.TheVariants as I
use Rattle.sv_tree.specs.declared.names.QualifiedName.{QualifiedName}
use Rattle.sv_types.specs.declared.statement.Function.{Function}
use Rattle.expr_type.specs.declared.halt.Halt.{Halt}
use Rattle.expr_type.specs.Expressions as E
use Rattle.expr_type.specs.Expressions.{CastMeaning, DimensionMeaning, ItemMeaning, Meaning, PatternMeaning, RangeMeaning, SliceMeaning, count, meaning}
use Rattle.expr_type.specs.Forms.{SelectMeaning}
use Rattle.expr_type.specs.Names.{Context}
use Rattle.expr_type.specs.Operands.{Operand, unstreamed}
use Rattle.expr_type.specs.Patterns.{ByDefault, InPlace, Item, Named, Parts}
use Rattle.expr_type.specs.Typings.{Typing, all, both, checked, whole}
use Rattle.typing_steps.specs.Steps.{TypesTo}
use Rattle.typing_values.specs.Numbers.{count_of}
use Rattle.typing_values.specs.Parts.{pattern_meaning}
use Rattle.typing_patterns.specs.Keyed.{alone}
use Rattle.typing_patterns.specs.Written.{item_by, item_meaning, items_by, keyed_at, keyed_by, numbered_by, valued_by, values_by}

item-Default : (k : Context) (keyword colon : ℕ) (value : Expr) → item_by k (I.Default keyword colon value) ≡ valued_by k ByDefault value
item-Default k keyword colon value =
    ap (item_by k) (sym (I.rolls-Default keyword colon value))
    ∙ ap (λ (m : ItemMeaning). m k) (fold-roll-PatternItem CastMeaning DimensionMeaning Meaning PatternMeaning ItemMeaning SelectMeaning SliceMeaning RangeMeaning E.cast_step E.dimension_step E.expr_step E.pattern_step E.pattern_item_step E.select_step E.slice_size_step E.value_range_step (PatternItem-F.Default keyword colon value))

item-Keyed : (k : Context) (key : Expr) (colon : ℕ) (value : Expr) → item_by k (I.Keyed key colon value) ≡ keyed_by k key value
item-Keyed k key colon value =
    ap (item_by k) (sym (I.rolls-Keyed key colon value))
    ∙ ap (λ (m : ItemMeaning). m k) (fold-roll-PatternItem CastMeaning DimensionMeaning Meaning PatternMeaning ItemMeaning SelectMeaning SliceMeaning RangeMeaning E.cast_step E.dimension_step E.expr_step E.pattern_step E.pattern_item_step E.select_step E.slice_size_step E.value_range_step (PatternItem-F.Keyed key colon value))

item-Value : (k : Context) (value : Expr) → item_by k (I.Value value) ≡ valued_by k InPlace value
item-Value k value =
    ap (item_by k) (sym (I.rolls-Value value))
    ∙ ap (λ (m : ItemMeaning). m k) (fold-roll-PatternItem CastMeaning DimensionMeaning Meaning PatternMeaning ItemMeaning SelectMeaning SliceMeaning RangeMeaning E.cast_step E.dimension_step E.expr_step E.pattern_step E.pattern_item_step E.select_step E.slice_size_step E.value_range_step (PatternItem-F.«PatternItem::Value» value))

by-level : (x y : Typing Item) (fs gs : List Function) (r : Result Item Halt) → x ≡ y → TypesTo r (y fs) gs → TypesTo r (x fs) gs
by-level x y fs gs r is h = subst (λ (z : Typing Item). TypesTo r (z fs) gs) (sym is) h

pub default-types : (k : Context) (i : PatternItem) (keyword colon : ℕ) (value : Expr) (fs gs : List Function) (r : Result Item Halt) → i ≡ I.Default keyword colon value
    → TypesTo r (valued_by k ByDefault value fs) gs → TypesTo r (item_by k i fs) gs
default-types k i keyword colon value fs gs r is h = by-level (item_by k i) (valued_by k ByDefault value) fs gs r (ap (item_by k) is ∙ item-Default k keyword colon value) h

pub keyed-types : (k : Context) (i : PatternItem) (key : Expr) (colon : ℕ) (value : Expr) (fs gs : List Function) (r : Result Item Halt) → i ≡ I.Keyed key colon value
    → TypesTo r (keyed_by k key value fs) gs → TypesTo r (item_by k i fs) gs
keyed-types k i key colon value fs gs r is h = by-level (item_by k i) (keyed_by k key value) fs gs r (ap (item_by k) is ∙ item-Keyed k key colon value) h

pub value-types : (k : Context) (i : PatternItem) (value : Expr) (fs gs : List Function) (r : Result Item Halt) → i ≡ I.Value value
    → TypesTo r (valued_by k InPlace value fs) gs → TypesTo r (item_by k i fs) gs
value-types k i value fs gs r is h = by-level (item_by k i) (valued_by k InPlace value) fs gs r (ap (item_by k) is ∙ item-Value k value) h

-- a key is a name, or a constant index
pub named-types : (k : Context) (key value : Expr) (of : QualifiedName) (o : Option QualifiedName) (fs gs : List Function) (r : Result Item Halt) → o ≡ alone key → o ≡ Some of
    → TypesTo r (valued_by k (Named of) value fs) gs → TypesTo r (keyed_by k key value fs) gs
named-types k key value of o fs gs r is some h = by-level (keyed_by k key value) (valued_by k (Named of) value) fs gs r (ap (keyed_at k key value) (sym is ∙ some)) h

pub numbered-types : (k : Context) (key value : Expr) (o : Option QualifiedName) (fs gs : List Function) (r : Result Item Halt) → o ≡ alone key → o ≡ None
    → TypesTo r (numbered_by k key value fs) gs → TypesTo r (keyed_by k key value fs) gs
numbered-types k key value o fs gs r is none h = by-level (keyed_by k key value) (numbered_by k key value) fs gs r (ap (keyed_at k key value) (sym is ∙ none)) h

-- patterns
pub map-map : {A B C : Type 0} (f : B → C) (g : A → B) (xs : List A) → map f (map g xs) ≡ map (λ x. f (g x)) xs
map-map f g [] = refl
map-map f g (x ∷ xs) = ap (λ ys. f (g x) ∷ ys) (map-map f g xs)

abbrev whole_items : List Item → Typing Parts
whole_items is = whole (record { times = 1; items = is })

abbrev placed : List Operand → List Item
placed os = map (λ o. record { key = InPlace; value = o }) os

abbrev repeated_items : ℕ → List Operand → Typing Parts
repeated_items n os = whole (record { times = n; items = placed os })

pattern-level : (k : Context) (is : List PatternItem) → pattern_meaning (P.Items is) k ≡ checked (all (map (λ (i : ItemMeaning). i k) (map item_meaning is))) whole_items
pattern-level k is =
    ap (λ (p : Pattern). pattern_meaning p k) (sym (P.rolls-Items is))
    ∙ ap (λ (m : PatternMeaning). m k) (fold-roll-Pattern CastMeaning DimensionMeaning Meaning PatternMeaning ItemMeaning SelectMeaning SliceMeaning RangeMeaning E.cast_step E.dimension_step E.expr_step E.pattern_step E.pattern_item_step E.select_step E.slice_size_step E.value_range_step (Pattern-F.Items is))

pub pattern-Items : (k : Context) (is : List PatternItem) → pattern_meaning (P.Items is) k ≡ checked (items_by k is) whole_items
pattern-Items k is = pattern-level k is ∙ ap (λ xs. checked (all xs) whole_items) (map-map (λ (i : ItemMeaning). i k) item_meaning is)

repeated-level : (k : Context) (times : Expr) (opening closing : ℕ) (es : List Expr)
    → pattern_meaning (P.Replication times opening es closing) k ≡ both (count k (meaning times)) (all (map (λ (e : Meaning). unstreamed k.source (e.typed k)) (map meaning es))) repeated_items
repeated-level k times opening closing es =
    ap (λ (p : Pattern). pattern_meaning p k) (sym (P.rolls-Replication times opening es closing))
    ∙ ap (λ (m : PatternMeaning). m k) (fold-roll-Pattern CastMeaning DimensionMeaning Meaning PatternMeaning ItemMeaning SelectMeaning SliceMeaning RangeMeaning E.cast_step E.dimension_step E.expr_step E.pattern_step E.pattern_item_step E.select_step E.slice_size_step E.value_range_step (Pattern-F.«Pattern::Replication» times opening es closing))

pub pattern-Replication : (k : Context) (times : Expr) (opening closing : ℕ) (es : List Expr) → pattern_meaning (P.Replication times opening es closing) k ≡ both (count_of k times) (values_by k es) repeated_items
pattern-Replication k times opening closing es =
    repeated-level k times opening closing es ∙ ap (λ xs. both (count_of k times) (all xs) repeated_items) (map-map (λ (e : Meaning). unstreamed k.source (e.typed k)) meaning es)
