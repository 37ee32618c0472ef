-- Keys by themselves: their breaks, and what they are where they break nothing and stand for something.
use Rattle.std.specs.Prelude.{◌^◌, Bool, true, false, ◌&&◌, ◌||◌, cond, ℤ, pos, neg_ℤ, ◌-ℤ◌, int_le, List, [], ◌∷◌, Option, Some, None, is_some}
use Rattle.std.specs.List.{list_all}
use Rattle.pattern_fit.specs.declared.pattern.Key.{Key}
use Rattle.pattern_fit.specs.declared.pattern.Key.TheVariants as K
use Rattle.expr_type.specs.Names.{Source, word}
use Rattle.pattern_types.specs.declared.operand.NameKey.{NameKey}
use Rattle.pattern_types.specs.declared.operand.NameKey.TheVariants as N
use Rattle.pattern_types.specs.declared.operand.ItemKey.{ItemKey}
use Rattle.pattern_types.specs.declared.operand.ItemKey.TheVariants as I
use Rattle.pattern_laws.specs.Reasons.{Reason, followed_by}
use Rattle.pattern_types.specs.Reasons.{break_at}

abbrev pub reason_of_name : NameKey → Reason
reason_of_name (N.Number n) = None
reason_of_name N.Nothing = None
reason_of_name (N.Breaks at rule) = Some (Some (break_at at rule))
reason_of_name N.Quiet = Some None

abbrev pub reason_of_key : Bool → ItemKey → Reason
reason_of_key members I.InPlace = None
reason_of_key members I.ByDefault = None
reason_of_key members (I.Named of otherwise) = cond members None (reason_of_name otherwise)
reason_of_key members (I.Numbered n) = None

abbrev pub reason_of_keys : Bool → List ItemKey → Reason
reason_of_keys members [] = None
reason_of_keys members (key ∷ keys) = followed_by (reason_of_key members key) (reason_of_keys members keys)

abbrev pub number_of_name : NameKey → Option ℤ
number_of_name (N.Number n) = n
number_of_name N.Nothing = None
number_of_name (N.Breaks at rule) = None
number_of_name N.Quiet = None

abbrev pub stands : Bool → ItemKey → Bool
stands members I.InPlace = true
stands members I.ByDefault = false
stands members (I.Named of otherwise) = members || is_some (number_of_name otherwise)
stands members (I.Numbered n) = is_some n

abbrev pub all_stand : Bool → List ItemKey → Bool
all_stand members keys = list_all (stands members) keys

-- a number that lies between the bounds that an array may have, which are of 64 bits
abbrev pub is_near : ℤ → Bool
is_near n = int_le (neg_ℤ (pos (2 ^ 63))) n && int_le n (pos (2 ^ 63) -ℤ pos 1)

abbrev pub is_near_if : Option ℤ → Bool
is_near_if None = true
is_near_if (Some n) = is_near n

abbrev pub is_near_key : Bool → ItemKey → Bool
is_near_key members I.InPlace = true
is_near_key members I.ByDefault = true
is_near_key members (I.Named of otherwise) = members || is_near_if (number_of_name otherwise)
is_near_key members (I.Numbered n) = is_near_if n

abbrev pub all_near : Bool → List ItemKey → Bool
all_near members keys = list_all (is_near_key members) keys

abbrev pub index_key : Option ℤ → Key
index_key None = K.Place
index_key (Some n) = K.Index n

abbrev pub plain_key : Source → Bool → ItemKey → Key
plain_key k members I.InPlace = K.Place
plain_key k members I.ByDefault = K.Place
plain_key k members (I.Named of otherwise) = cond members (K.Member (word k of.name)) (index_key (number_of_name otherwise))
plain_key k members (I.Numbered n) = index_key n
