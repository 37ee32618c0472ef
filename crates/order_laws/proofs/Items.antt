-- Patterns and their items keep the order of the text.
use Rattle.std.proofs.Common.{ℕ, ◌≤◌, List, [], ◌∷◌, map, Option, Some, None, arith}
use Rattle.std.specs.Prelude.{Ok, nat_lt, pos, unsigned_abs, ◌==◌}
use Rattle.sv_tree.specs.declared.expressions.Pattern.{Pattern-F}
use Rattle.sv_tree.specs.declared.expressions.PatternItem.{PatternItem-F}
use Rattle.sv_tree.specs.declared.names.QualifiedName.{QualifiedName}
use Rattle.sv_types.specs.declared.statement.Function.{Function}
use Rattle.expr_type.specs.Expressions.{ItemMeaning, Meaning, count, is_count, is_key, key_number, keyed_item, pattern_item_step, pattern_step}
use Rattle.expr_type.specs.Forms as F
use Rattle.expr_type.specs.Names.{Context, Source, position}
use Rattle.expr_type.specs.Operands.{Operand, constant_in, has_bits, is_constant, is_constant_value, number_of, number_within, unstreamed, width}
use Rattle.expr_type.specs.Patterns.{ByDefault, InPlace, Named, Numbered}
use Rattle.expr_type.specs.Placed.{OperandStands, RoutinesInOrder, Stands}
use Rattle.expr_type.specs.Selects.{is_index, most_of_index}
use Rattle.expr_type.specs.Shapes.{is_unpacked}
use Rattle.expr_type.specs.Typings.{all, both, by_functions, checked, rule, where_whole, whole}
use Rattle.expr_type.specs.declared.operand.Valued.{Valued}
use Rattle.expr_type.proofs.Ordering.{place}
use Rattle.order_laws.specs.Meanings.{AloneIf, ExprInOrder}
use Rattle.order_laws.proofs.Given.{constant-ours, constant-value, operand-typing, operand-wider, unstreamed-stands}
use Rattle.order_laws.proofs.Meant.{Anything, ItemInOrder, ItemStands, NumberStands, PartsStand, PatternInOrder}
use Rattle.order_laws.proofs.Operands.{number-typing, typed-wider}
use Rattle.order_laws.proofs.Parts.{each-of}
use Rattle.order_laws.proofs.Typings.{Each, PlacedAs, TypedAs, as-all, as-both, as-checked, as-refused, as-then}

-- how often something is repeated
count-typing : (k : Context) (e : Meaning) (low high : ℕ) → RoutinesInOrder k → ExprInOrder low high e → TypedAs Anything k.source.instance low high (count k e)
count-typing k e low high rs p =
    as-checked k.source.instance (NumberStands low high) Anything (number_within k.source (pos 0) F.most_of_size (e.typed k)) (λ n. rule (is_count k.source n)) low high
    (number-typing k.source low high (pos 0) F.most_of_size (e.typed k) (p.typed k rs))
    (λ n s fs. as-refused k.source.instance Anything (unsigned_abs n.number == 0) (position k.source n.first) 510 (Ok (unsigned_abs n.number)) low high (place k.source n.first low high s.0 s.1) tt)

-- an item's value
item-value : (k : Context) (e : Meaning) (low high : ℕ) → RoutinesInOrder k → ExprInOrder low high e
    → TypedAs (OperandStands k.source.instance low high) k.source.instance low high (unstreamed k.source (e.typed k))
item-value k e low high rs p = unstreamed-stands k.source low high (e.typed k) (p.typed k rs)

-- whole patterns
pub items-pattern : (is : List ItemMeaning) (low high : ℕ) → Each ItemInOrder low high is → PatternInOrder low high (pattern_step (Pattern-F.Items is))
items-pattern is low high p k rs =
    as-checked k.source.instance (Each (ItemStands k.source.instance) low high) (PartsStand k.source.instance low high) (all (map (λ (i : ItemMeaning). i k) is)) _ low high
    (as-all k.source.instance (ItemStands k.source.instance) (map (λ (i : ItemMeaning). i k) is) low high
    (each-of (λ (i : ItemMeaning). i k) ItemInOrder (λ l h x. TypedAs (ItemStands k.source.instance l h) k.source.instance l h x) (λ l h i s. s k rs) is low high p))
    (λ xs s fs. s)

-- the items behind a count
from-count : (i : ℕ) (os : List Operand) (low low' high : ℕ) → low' ≤ low → Each (OperandStands i) low high os → Each (ItemStands i) low' high (map (λ o. record { key = InPlace; value = o }) os)
from-count i [] low low' high h p = omega arith
from-count i (o ∷ os) low low' high h p =
    let a = p.1 in
    (p.0, omega arith, p.2, (tt, operand-wider i o low p.0 low' p.0 h (omega arith) p.3), from-count i os p.0 p.0 high (omega arith) p.4)

pub replicated-pattern : (times : Meaning) (opening : ℕ) (es : List Meaning) (closing low middle high : ℕ) → low ≤ middle → middle ≤ high
    → ExprInOrder low middle times → Each ExprInOrder middle high es → PatternInOrder low high (pattern_step (Pattern-F.«Pattern::Replication» times opening es closing))
replicated-pattern times opening es closing low middle high h m p q k rs =
    as-both k.source.instance Anything (Each (OperandStands k.source.instance) middle high) (PartsStand k.source.instance low high) (count k times)
    (all (map (λ (e : Meaning). unstreamed k.source (e.typed k)) es)) _ low middle high h m (count-typing k times low middle rs p)
    (as-all k.source.instance (OperandStands k.source.instance) (map (λ (e : Meaning). unstreamed k.source (e.typed k)) es) middle high
    (each-of (λ (e : Meaning). unstreamed k.source (e.typed k)) ExprInOrder (λ l h x. TypedAs (OperandStands k.source.instance l h) k.source.instance l h x)
    (λ l h e s. item-value k e l h rs s) es middle high q))
    (λ n os s t fs. from-count k.source.instance os middle low high h t)

-- items
pub default-item : (keyword colon : ℕ) (e : Meaning) (low high : ℕ) → ExprInOrder low high e → ItemInOrder low high (pattern_item_step (PatternItem-F.Default keyword colon e))
default-item keyword colon e low high p k rs =
    as-checked k.source.instance (OperandStands k.source.instance low high) (ItemStands k.source.instance low high) (unstreamed k.source (e.typed k)) (λ o. whole (keyed_item ByDefault o)) low high
    (item-value k e low high rs p) (λ o s fs. (tt, s))

pub value-item : (e : Meaning) (low high : ℕ) → ExprInOrder low high e → ItemInOrder low high (pattern_item_step (PatternItem-F.«PatternItem::Value» e))
value-item e low high p k rs =
    as-checked k.source.instance (OperandStands k.source.instance low high) (ItemStands k.source.instance low high) (unstreamed k.source (e.typed k)) (λ o. whole (keyed_item InPlace o)) low high
    (item-value k e low high rs p) (λ o s fs. (tt, s))

-- a constant index
is-key : (k : Source) (v : Valued) (fs : List Function) (low high : ℕ) → Stands low high v → PlacedAs Anything k.instance low high (is_key k v fs)
is-key k v fs low high s =
    as-then k.instance Anything Anything (is_constant k v.first fs v.expr (where_whole (has_bits k v) (is_index k))) (λ u. Ok (number_of fs u.expr)) low high
    (constant-ours k low high v.first fs v.expr (where_whole (has_bits k v) (is_index k)) s.from s.before
    (as-then k.instance (Stands low high) Anything (has_bits k v) (is_index k) low high
    (as-refused k.instance (Stands low high) (is_unpacked v.expr.of) (position k v.first) 508 (Ok v) low high (place k v.first low high s.from s.before) s)
    (λ u r. as-refused k.instance Anything (nat_lt most_of_index (width u)) (position k u.first) 507 (Ok u) low high (place k u.first low high r.from r.before) tt)))
    (λ u r. tt)

key-typing : (k : Context) (e : Meaning) (low high : ℕ) → RoutinesInOrder k → ExprInOrder low high e → TypedAs Anything k.source.instance low high (key_number k e)
key-typing k e low high rs p =
    as-checked k.source.instance (Stands low high) Anything (constant_in k.source (e.typed k)) (λ v. by_functions (is_key k.source v)) low high
    (as-checked k.source.instance (OperandStands k.source.instance low high) (Stands low high) (e.typed k) (λ o. rule (is_constant_value k.source o)) low high
    (operand-typing k.source low high (e.typed k) (p.typed k rs)) (λ o s fs. constant-value k.source low high o s))
    (λ v s fs. is-key k.source v fs low high s)

pub keyed-item : (key : Meaning) (colon : ℕ) (e : Meaning) (low middle high : ℕ) → low ≤ middle → middle ≤ high → ExprInOrder low middle key → ExprInOrder middle high e
    → ItemInOrder low high (pattern_item_step (PatternItem-F.Keyed key colon e))
keyed-item key colon e low middle high h m p q k rs = by key.alone p.alone
  where
    value-typing : TypedAs (OperandStands k.source.instance middle high) k.source.instance middle high (unstreamed k.source (e.typed k))
    value-typing = item-value k e middle high rs q

    wide : (o : Operand) → OperandStands k.source.instance middle high o → OperandStands k.source.instance low high o
    wide o s = operand-wider k.source.instance o middle high low high h (omega arith) s

    by : (o : Option QualifiedName) → AloneIf low middle o → TypedAs (ItemStands k.source.instance low high) k.source.instance low high (elim o [
      | Some of ↦ checked (unstreamed k.source (e.typed k)) (λ o. whole (keyed_item (Named of) o))
      | None ↦ both (key_number k key) (unstreamed k.source (e.typed k)) (λ n o. whole (keyed_item (Numbered n) o))
    ])
    by (Some of) s =
        as-checked k.source.instance (OperandStands k.source.instance middle high) (ItemStands k.source.instance low high) (unstreamed k.source (e.typed k)) (λ o. whole (keyed_item (Named of) o)) low high
        (typed-wider k.source.instance (OperandStands k.source.instance middle high) (unstreamed k.source (e.typed k)) middle high low high h (omega arith) value-typing)
        (λ o t fs. ((s.0, let a = s.1 in omega arith), wide o t))
    by None s =
        as-both k.source.instance Anything (OperandStands k.source.instance middle high) (ItemStands k.source.instance low high) (key_number k key) (unstreamed k.source (e.typed k))
        (λ n o. whole (keyed_item (Numbered n) o)) low middle high h m (key-typing k key low middle rs p) value-typing (λ n o r t fs. (tt, wide o t))
