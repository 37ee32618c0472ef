-- Items of patterns, and patterns, over whole texts.
use Rattle.std.specs.Prelude.{◌≡◌, ⊤, ℕ, List, [], ◌∷◌, map, Option, Some, None}
use Rattle.sv_tree.specs.declared.expressions.Expr.{Expr}
use Rattle.sv_tree.specs.declared.expressions.Pattern.{Pattern}
use Rattle.sv_tree.specs.declared.expressions.PatternItem.{PatternItem, fold-PatternItem}
use Rattle.sv_tree.specs.declared.names.QualifiedName.{QualifiedName}
use Rattle.expr_type.specs.Expressions as E
use Rattle.expr_type.specs.Expressions.{CastMeaning, DimensionMeaning, ItemMeaning, Meaning, PatternMeaning, RangeMeaning, SliceMeaning, keyed_item, pattern_operand}
use Rattle.expr_type.specs.Forms.{SelectMeaning}
use Rattle.expr_type.specs.Names.{Context, Source}
use Rattle.expr_type.specs.Operands.{Operand}
use Rattle.expr_type.specs.Patterns.{Item, ItemKey, Named, Numbered}
use Rattle.expr_type.specs.Typings.{Typing, all, both, checked, whole}
use Rattle.pattern_types.specs.declared.operand.Item as J
use Rattle.pattern_types.specs.declared.operand.ItemKey.TheVariants as I
use Rattle.pattern_types.specs.Meaning.{filled, item_of, operand_of}
use Rattle.pattern_types.specs.Named.{IsFound}
use Rattle.typing_values.specs.Parts.{pattern_meaning}
use Rattle.typing_values.specs.Values.{unstreamed_of}
use Rattle.typing_patterns.specs.Keyed.{alone, key_number_of}

abbrev pub item_meaning : PatternItem → ItemMeaning
item_meaning = fold-PatternItem CastMeaning DimensionMeaning Meaning PatternMeaning ItemMeaning SelectMeaning SliceMeaning RangeMeaning E.cast_step E.dimension_step E.expr_step E.pattern_step E.pattern_item_step E.select_step E.slice_size_step E.value_range_step

abbrev pub item_by : Context → PatternItem → Typing Item
item_by k i = item_meaning i k

abbrev pub items_by : Context → List PatternItem → Typing (List Item)
items_by k is = all (map (item_by k) is)

-- a value with a key that is there already
abbrev pub valued_by : Context → ItemKey → Expr → Typing Item
valued_by k key value = checked (unstreamed_of k value) (λ o. whole (keyed_item key o))

-- one behind a constant index
abbrev pub numbered_by : Context → Expr → Expr → Typing Item
numbered_by k key value = both (key_number_of k key) (unstreamed_of k value) (λ n o. whole (keyed_item (Numbered n) o))

abbrev pub keyed_at : Context → Expr → Expr → Option QualifiedName → Typing Item
keyed_at k key value o = elim o [ Some of ↦ valued_by k (Named of) value | None ↦ numbered_by k key value ]

abbrev pub keyed_by : Context → Expr → Expr → Typing Item
keyed_by k key value = keyed_at k key value (alone key)

-- values that are repeated
abbrev pub values_by : Context → List Expr → Typing (List Operand)
values_by k es = all (map (unstreamed_of k) es)

-- a pattern behind its tick
abbrev pub pattern_by : Context → ℕ → Pattern → Typing Operand
pattern_by k tick p = checked (pattern_meaning p k) (λ x. whole (pattern_operand k tick x))

-- items as the code has them
abbrev pub as_item : Source → J.Item → Item
as_item k i = item_of (filled k i)

abbrev pub as_value : Source → J.Item → Operand
as_value k i = operand_of k i.value

-- a name before an item stands for what it finds
abbrev pub IsFoundIn : Context → J.Item → Type 0
IsFoundIn k i = IsFound k i.key

abbrev pub AllFoundIn : Context → List J.Item → Type 0
AllFoundIn k [] = ⊤
AllFoundIn k (i ∷ is) = IsFoundIn k i × AllFoundIn k is

-- items without keys
abbrev pub IsInPlace : J.Item → Type 0
IsInPlace i = i.key ≡ I.InPlace

abbrev pub AllInPlace : List J.Item → Type 0
AllInPlace [] = ⊤
AllInPlace (i ∷ is) = IsInPlace i × AllInPlace is
