-- Operands as they are typed, of those that the code has.
use Rattle.std.specs.Prelude.{ℕ, Bool, not, cond, List, map, filter, Option, Some, None, Ok, Err}
use Rattle.sv_types.specs.declared.expression.Expr.{Expr}
use Rattle.sv_types.specs.declared.types.SvType.{SvType}
use Rattle.pattern_fit.specs.declared.pattern.Key.{Key}
use Rattle.pattern_fit.specs.declared.pattern.Key.TheVariants as K
use Rattle.expr_type.specs.Breaks.{At, Quiet}
use Rattle.expr_type.specs.Names.{Source, position, word}
use Rattle.expr_type.specs.Operands.{Operand}
use Rattle.expr_type.specs.Operands as V
use Rattle.expr_type.specs.Patterns.{ItemKey, Item, has_members, key_of_number, all_keys, taken_by, fitted_by}
use Rattle.expr_type.specs.Patterns as P
use Rattle.expr_type.specs.Typings.{Checked, where_whole, all_of}
use Rattle.pattern_types.specs.declared.operand.NameKey as N
use Rattle.pattern_types.specs.declared.operand.NameKey.TheVariants as NV
use Rattle.pattern_types.specs.declared.operand.ItemKey as I
use Rattle.pattern_types.specs.declared.operand.ItemKey.TheVariants as IV
use Rattle.pattern_types.specs.declared.operand.Operand as O
use Rattle.pattern_types.specs.declared.operand.Operand.{Operand-F, fold-Operand}
use Rattle.pattern_types.specs.declared.operand.Parts as R
use Rattle.pattern_types.specs.declared.operand.Item as J
use Rattle.pattern_types.specs.declared.operand.Item.{Item-F}

-- what a name stands for in a pattern of a type without members
abbrev pub key_of_name : Source → N.NameKey → Checked (Option Key)
key_of_name k (NV.Number n) = Ok (key_of_number n)
key_of_name k NV.Nothing = Ok None
key_of_name k (NV.Breaks at rule) = Err (At (position k at) rule)
key_of_name k NV.Quiet = Err Quiet

-- the key of an item in a pattern of a type, if it stands for anything there
abbrev pub key_of : Source → SvType → I.ItemKey → Checked (Option Key)
key_of k t IV.InPlace = Ok (Some K.Place)
key_of k t IV.ByDefault = Ok None
key_of k t (IV.Named of otherwise) = cond (has_members t) (Ok (Some (K.Member (word k of.name)))) (key_of_name k otherwise)
key_of k t (IV.Numbered n) = Ok (key_of_number n)

abbrev pub written : I.ItemKey → ItemKey
written IV.InPlace = P.InPlace
written IV.ByDefault = P.ByDefault
written (IV.Named of otherwise) = P.Named of
written (IV.Numbered n) = P.Numbered n

abbrev pub is_default : I.ItemKey → Bool
is_default key = P.is_default (written key)

-- a pattern with its keys and the meanings of its values
pub record Filled : Type 0 where
  pub key : I.ItemKey
  pub value : Operand

pub record Pattern : Type 0 where
  pub tick : ℕ
  pub times : ℕ
  pub items : List Filled

abbrev pub item_of : Filled → Item
item_of i = record { key = written i.key; value = i.value }

abbrev pub items_of : List Filled → List Item
items_of is = map item_of is

abbrev pub keyed_keys : List I.ItemKey → List I.ItemKey
keyed_keys keys = filter (λ (key : I.ItemKey). not (is_default key)) keys

abbrev pub keys_of : List Filled → List I.ItemKey
keys_of is = keyed_keys (map (λ (i : Filled). i.key) is)

abbrev pub parts_of : Pattern → P.Parts
parts_of p = record { times = p.times; items = items_of p.items }

-- a pattern that is given to a type: `fitted` of expr_type, with names that are looked up already
abbrev pub fitted_in : Source → Pattern → ℕ → SvType → Checked Expr
fitted_in k p at t =
    where_whole (all_of (map (key_of k t) (keys_of p.items)))
    (λ ks. fitted_by k p.tick at t (items_of p.items) (taken_by t (parts_of p) (all_keys ks)))

abbrev pub operand_step : Source → Operand-F Operand Filled → Operand
operand_step k (Operand-F.Plain v) = V.Plain v
operand_step k (Operand-F.Pattern tick times items) = V.Pattern tick (fitted_in k (record { tick = tick; times = times; items = items }))
operand_step k (Operand-F.Stream v) = V.Stream v

abbrev pub item_step : Item-F Operand Filled → Filled
item_step i = record { key = i.key; value = i.value }

abbrev pub operand_of : Source → O.Operand → Operand
operand_of k = fold-Operand Operand Filled (operand_step k) item_step

abbrev pub filled : Source → J.Item → Filled
filled k i = record { key = i.key; value = operand_of k i.value }

-- a pattern as the code has it
pub record Parts : Type 0 where
  pub tick : ℕ
  pub times : ℕ
  pub items : List J.Item

abbrev pub parts_in : R.Parts → Parts
parts_in p = record { tick = p.tick; times = p.times; items = p.items.now }

abbrev pub tick_of : Parts → ℕ
tick_of p = p.tick

abbrev pub times_of : Parts → ℕ
times_of p = p.times

abbrev pub items_in : Parts → List J.Item
items_in p = p.items

abbrev pub pattern_of : Source → Parts → Pattern
pattern_of k p = record { tick = tick_of p; times = times_of p; items = map (filled k) (items_in p) }

abbrev pub item_keys : List J.Item → List I.ItemKey
item_keys is = map (λ (i : J.Item). i.key) is

abbrev pub values_of : Source → List J.Item → List Operand
values_of k is = map (λ (i : J.Item). operand_of k i.value) is

abbrev pub written_items : Source → List J.Item → List Item
written_items k is = items_of (map (filled k) is)
