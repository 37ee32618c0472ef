-- Assignment patterns (IEEE 1800-2017 clause 10.9), by the items that members and elements take.
use Rattle.std.specs.Prelude.{ℕ, zero, suc, ◌*◌, ◌%◌, Bool, true, false, ◌&&◌, ◌||◌, ◌==◌, nat_lt, not, cond, ℤ, List, [], ◌∷◌, ◌++◌, length, map, flat_map, filter, zip, Option, Some, None, Ok, Err, slice_get}
use Rattle.sv_tree.specs.declared.names.QualifiedName.{QualifiedName}
use Rattle.sv_tree.specs.Extents.{qualified_first}
use Rattle.sv_types.specs.declared.expression.Expr.{Expr}
use Rattle.sv_types.specs.declared.expression.Form.TheVariants as F
use Rattle.sv_types.specs.declared.types.Member.{Member-F}
use Rattle.sv_types.specs.declared.types.SvType.{SvType, SvType-F, out-SvType, fold-SvType}
use Rattle.sv_types.specs.Meanings.{most}
use Rattle.pattern_fit.specs.declared.pattern.Key.{Key}
use Rattle.pattern_fit.specs.declared.pattern.Key.TheVariants as K
use Rattle.pattern_fit.specs.declared.pattern.PatternItem.{PatternItem}
use Rattle.pattern_fit.specs.declared.pattern.PatternItem.TheVariants as I
use Rattle.pattern_fit.specs.declared.pattern.Rest.{Rest}
use Rattle.pattern_fit.specs.declared.pattern.Rest.TheVariants.{Absent, Plain, Typed}
use Rattle.pattern_fit.specs.Fits.{fits, places_of, by_default}
use Rattle.expr_type.specs.Breaks.{At, Quiet}
use Rattle.expr_type.specs.Typings.{Checked, where_whole, all_of, least_of_all}
use Rattle.expr_type.specs.Names.{Context, Source, Thing, Signal, Local, Constant, TypeName, Interface, Other, Nothing, position, thing, word}
use Rattle.expr_type.specs.declared.operand.Valued.{Valued}
use Rattle.expr_type.specs.Operands.{Operand, passed, has_bits, is_value, number_of}
use Rattle.expr_type.specs.Operands as V
use Rattle.sv_types.specs.Layouts.{width_of}
use Rattle.expr_type.specs.Operators.{expr_at, by_itself, not_too_long}
use Rattle.expr_type.specs.Selects.{is_index}

-- What stands before an item: nothing, `default`, a name, which is a member's or that of a constant, or a constant index, which
-- has no number where a bit of it is x or z.
pub data ItemKey : Type 0 where
  InPlace : ItemKey
  ByDefault : ItemKey
  Named : QualifiedName → ItemKey
  Numbered : Option ℤ → ItemKey

pub record Item : Type 0 where
  pub key : ItemKey
  pub value : Operand

-- the items of a pattern in the order of the text, and how often they are repeated
pub record Parts : Type 0 where
  pub times : ℕ
  pub items : List Item

abbrev pub is_default : ItemKey → Bool
is_default InPlace = false
is_default ByDefault = true
is_default (Named of) = false
is_default (Numbered n) = false

-- The key of an item in a pattern of a type, if it stands for anything there.
abbrev pub has_members : SvType → Bool
has_members t = elim (out-SvType t) [ SvType-F.Struct id packed s ms ↦ true | SvType-F.Union id s ms ↦ true | other ↦ false ]

abbrev pub key_of_number : Option ℤ → Option Key
key_of_number None = None
key_of_number (Some n) = Some (K.Index n)

abbrev pub constant_key : Source → Valued → Checked (Option Key)
constant_key k v = where_whole (has_bits k v) (λ u. where_whole (is_index k u) (λ i. Ok (key_of_number (number_of [] i.expr))))

abbrev pub other_key : Source → ℕ → Option ℕ → Checked (Option Key)
other_key k at None = Err Quiet
other_key k at (Some rule) = Err (At (position k at) rule)

abbrev pub named_key : Context → ℕ → Thing → Checked (Option Key)
named_key k at (Signal n t) = Err (At (position k.source at) 406)
named_key k at (Local n t) = Err (At (position k.source at) 406)
named_key k at (Constant t v) = constant_key k.source (by_itself k.source at t (F.Constant v))
named_key k at (TypeName t) = Err (At (position k.source at) 404)
named_key k at (Interface n) = Err (At (position k.source at) 404)
named_key k at (Other n) = other_key k.source at (k.key_rule n)
named_key k at Nothing = Ok None

abbrev pub key_in : Context → SvType → ItemKey → Checked (Option Key)
key_in k t InPlace = Ok (Some K.Place)
key_in k t ByDefault = Ok None
key_in k t (Named of) = cond (has_members t) (Ok (Some (K.Member (word k.source of.name)))) (named_key k (qualified_first of) (thing k of))
key_in k t (Numbered n) = Ok (key_of_number n)

-- all keys, if each stands for something
abbrev pub and_key : Option Key → Option (List Key) → Option (List Key)
and_key None ks = None
and_key (Some key) None = None
and_key (Some key) (Some ks) = Some (key ∷ ks)

abbrev pub all_keys : List (Option Key) → Option (List Key)
all_keys [] = Some []
all_keys (key ∷ ks) = and_key key (all_keys ks)

-- `default` stands at most once
abbrev pub keyed : List Item → List Item
keyed items = filter (λ (i : Item). not (is_default i.key)) items

abbrev pub defaults : List Item → List Item
defaults items = filter (λ (i : Item). is_default i.key) items

abbrev pub rest_by : Operand → Rest
rest_by (V.Plain v) = Typed v.expr.of
rest_by (V.Pattern tick of) = Plain
rest_by (V.Stream v) = Plain

abbrev pub rest_of : List Item → Rest
rest_of [] = Absent
rest_of (i ∷ is) = rest_by i.value

abbrev pub times_over : {A : Type 0} → ℕ → List A → List A
times_over zero xs = []
times_over (suc n) xs = xs ++ times_over n xs

abbrev pub types_in : SvType → List SvType
types_in t = elim (places_of (out-SvType t)) [ None ↦ [] | Some p ↦ p.types ]

-- a repeated pattern has as many items as its type has members or elements
abbrev pub count_fits : SvType → Parts → Bool
count_fits t p = (p.times == 1) || (p.times * length p.items == length (types_in t))

abbrev pub taken : SvType → Parts → List Key → Option (List PatternItem)
taken t p ks =
    cond (count_fits t p && not (nat_lt 1 (length (defaults p.items))))
    (fits t (record { keys = times_over p.times ks; rest = rest_of (defaults p.items) })) None

-- What is given from one value of `default` on its way into members: the types that take it itself, and the pattern that it
-- makes, through so many levels of types.
abbrev pub levels : SvType → ℕ
levels = fold-SvType ℕ ℕ level_step member_level
  where
    member_level : Member-F ℕ ℕ → ℕ
    member_level m = m.of

    level_step : SvType-F ℕ ℕ → ℕ
    level_step (SvType-F.Scalar four s) = 1
    level_step (SvType-F.PackedArray l r s item) = suc item
    level_step (SvType-F.Struct id packed s ms) = suc (most ms)
    level_step (SvType-F.Union id s ms) = 1
    level_step (SvType-F.Enum id base names) = 1
    level_step (SvType-F.UnpackedArray l r item) = suc item

abbrev pub takes_itself : Rest → SvType → Bool
takes_itself rest t = elim (by_default rest t) [ None ↦ true | Some i ↦ elim i [ I.Item n ↦ true | I.Default ↦ true | I.Spread ↦ false ] ]

abbrev pub leaves : ℕ → Rest → SvType → List SvType
leaves zero rest t = t ∷ []
leaves (suc n) rest t = cond (takes_itself rest t) (t ∷ []) (flat_map (leaves n rest) (types_in t))

abbrev pub spread : Source → ℕ → ℕ → Rest → (SvType → Checked Expr) → SvType → Checked Expr
spread k tick zero rest give t = give t
spread k tick (suc n) rest give t =
    cond (takes_itself rest t) (give t)
    (where_whole (all_of (map (spread k tick n rest give) (types_in t))) (λ es. Ok (expr_at k tick t (F.Pattern es))))

-- a member or element with what it takes
abbrev pub Taken : Type 0
Taken = PatternItem × SvType

-- the types that an item is given to, and those that `default` is given to itself
abbrev pub is_item : ℕ → ℕ → PatternItem → Bool
is_item count n (I.Item m) = m % count == n
is_item count n I.Default = false
is_item count n I.Spread = false

abbrev pub by_item : ℕ → ℕ → List Taken → List SvType
by_item count n ps = flat_map (λ (p : Taken). cond (is_item count n p.0) (p.1 ∷ []) []) ps

abbrev pub default_types : Rest → Taken → List SvType
default_types rest p = elim p.0 [
  | I.Item m ↦ []
  | I.Default ↦ leaves (levels p.1) rest p.1
  | I.Spread ↦ leaves (levels p.1) rest p.1
]

-- what is given to each of some types, of whose breaks the least counts; or to none, where it is looked at by itself
abbrev pub tried : Source → Operand → List SvType → Checked (List Expr)
tried k v [] = where_whole (is_value k v) (λ u. Ok [])
tried k v (t ∷ ts) = least_of_all (map (λ u. passed k u v) (t ∷ ts))

-- all items in the order of the text
abbrev pub tries : Source → ℕ → Rest → List Taken → ℕ → List Item → List (Checked (List Expr))
tries k count rest ps n [] = []
tries k count rest ps n (i ∷ is) =
    cond (is_default i.key)
    (tried k i.value (flat_map (default_types rest) ps) ∷ tries k count rest ps n is)
    (tried k i.value (by_item count n ps) ∷ tries k count rest ps (suc n) is)

-- what each member or element is given
abbrev pub value_of : Option Item → Source → SvType → Checked Expr
value_of None k t = Err Quiet
value_of (Some i) k t = passed k t i.value

abbrev pub made : Source → ℕ → List Item → Taken → Checked Expr
made k tick items p =
    let by_default = spread k tick (levels p.1) (rest_of (defaults items)) (value_of (slice_get (defaults items) 0) k) p.1 in
    elim p.0 [
      | I.Item m ↦ value_of (slice_get (keyed items) (m % length (keyed items))) k p.1
      | I.Default ↦ by_default
      | I.Spread ↦ by_default
    ]

abbrev pub fitted_by : Source → ℕ → ℕ → SvType → List Item → Option (List PatternItem) → Checked Expr
fitted_by k tick at t items None = Err (At (position k tick) 505)
fitted_by k tick at t items (Some takes) =
    let ps = zip takes (types_in t) in
    where_whole (all_of (tries k (length (keyed items)) (rest_of (defaults items)) ps 0 items))
    (λ x. where_whole (all_of (map (made k tick items) ps))
    (λ es. not_too_long k tick (width_of t) (Ok (expr_at k at t (F.Pattern es)))))

abbrev pub taken_by : SvType → Parts → Option (List Key) → Option (List PatternItem)
taken_by t p None = None
taken_by t p (Some ks) = taken t p ks

-- A pattern that is given to a type: where its items cover the members or elements once each (E505), each item is given to those
-- that take it.
abbrev pub fitted : Context → ℕ → Parts → ℕ → SvType → Checked Expr
fitted k tick p at t =
    where_whole (all_of (map (λ (i : Item). key_in k t i.key) (keyed p.items)))
    (λ ks. fitted_by k.source tick at t p.items (taken_by t p (all_keys ks)))
