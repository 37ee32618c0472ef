-- Which item of a pattern each member or element takes.
use Rattle.std.specs.Prelude.{◌≡◌, ⊤, Vec, Result, Ok, Err, ℕ, suc, Bool, true, false, not, ◌&&◌, ◌||◌, ◌==◌, cond, ℤ, ◌-ℤ◌, int_le, unsigned_abs, List, [], ◌∷◌, ◌++◌, length, map, replicate, Option, Some, None, is_some, slice_index_or, ◌<◌}
use Rattle.std.specs.Global.{Global}
use Rattle.std.specs.List.{list_all, list_any}
use Rattle.std.specs.Str.{bytes_eq}
use Rattle.sv_types.specs.declared.types.SvType.{SvType, SvType-F, out-SvType}
use Rattle.sv_types.specs.declared.types.Member.{Member}
use Rattle.sv_types.specs.Layouts.{count_of}
use Rattle.sv_types.specs.Windows.{tabulated}
use Rattle.pattern_fit.specs.declared.pattern.Key.{Key}
use Rattle.pattern_fit.specs.declared.pattern.Key.TheVariants as K
use Rattle.pattern_fit.specs.declared.pattern.Rest.{Rest}
use Rattle.pattern_fit.specs.declared.pattern.Rest.TheVariants.{Absent, Plain, Typed}
use Rattle.pattern_fit.specs.declared.pattern.Pattern.{Pattern}
use Rattle.pattern_fit.specs.declared.pattern.PatternItem.{PatternItem}
use Rattle.pattern_fit.specs.declared.pattern.PatternItem.TheVariants.{Item, Default, Spread}
use Rattle.pattern_fit.specs.declared.pattern.FitFail.{FitFail}
use Rattle.pattern_fit.specs.declared.pattern.FitFail.TheVariants as F
use Rattle.pattern_fit.specs.Same.{same_type}

-- what a pattern of a type covers: the types of the members or elements, and which one a key stands for
pub record Places : Type 0 where
  pub types : List SvType
  pub number : Key → Option ℕ

-- the first member with a name
abbrev pub named : ℕ → List Member → List ℕ → Option ℕ
named n [] name = None
named n (m ∷ ms) name = cond (bytes_eq m.name name) (Some n) (named (suc n) ms name)

abbrev pub member_number : List Member → Key → Option ℕ
member_number ms K.Place = None
member_number ms (K.Member name) = named 0 ms name
member_number ms (K.Index i) = None

-- the element with an index: how far it stands from the left bound, if it lies between the bounds
abbrev pub between : ℤ → ℤ → ℤ → Bool
between left right i = (int_le right i && int_le i left) || (int_le left i && int_le i right)

abbrev pub element_number : ℤ → ℤ → Key → Option ℕ
element_number left right K.Place = None
element_number left right (K.Member name) = None
element_number left right (K.Index i) = cond (between left right i) (Some (unsigned_abs (left -ℤ i))) None

abbrev pub struct_places : List Member → Places
struct_places ms = record { types = map (λ (m : Member). m.of) ms; number = member_number ms }

abbrev pub array_places : ℤ → ℤ → SvType → Places
array_places left right item = record { types = replicate (count_of left right) item; number = element_number left right }

-- a pattern covers the members of a struct or the elements of an array
abbrev pub places_of : SvType-F SvType Member → Option Places
places_of (SvType-F.Scalar f t) = None
places_of (SvType-F.PackedArray l r t item) = Some (array_places l r item)
places_of (SvType-F.Struct id packed t ms) = Some (struct_places ms)
places_of (SvType-F.Union id t ms) = None
places_of (SvType-F.Enum id base names) = None
places_of (SvType-F.UnpackedArray l r item) = Some (array_places l r item)

-- what takes the value of `default` itself whatever its type is: scalars, enums, unions, and packed arrays of one dimension
abbrev pub is_plain : SvType-F SvType Member → Bool
is_plain (SvType-F.Scalar f t) = true
is_plain (SvType-F.PackedArray l r t item) = elim (out-SvType item) [ SvType-F.Scalar f s ↦ true | SvType-F.PackedArray l r s i ↦ false | SvType-F.Struct id packed s ms ↦ false | SvType-F.Union id s ms ↦ false | SvType-F.Enum id base names ↦ false | SvType-F.UnpackedArray l r i ↦ false ]
is_plain (SvType-F.Struct id packed t ms) = false
is_plain (SvType-F.Union id t ms) = true
is_plain (SvType-F.Enum id base names) = true
is_plain (SvType-F.UnpackedArray l r item) = false

-- what a member that no item names takes
abbrev pub by_default : Rest → SvType → Option PatternItem
by_default Absent t = None
by_default Plain t = Some (cond (is_plain (out-SvType t)) Default Spread)
by_default (Typed u) t = Some (cond (is_plain (out-SvType t) || same_type t u) Default Spread)

abbrev pub is_place : Key → Bool
is_place K.Place = true
is_place (K.Member name) = false
is_place (K.Index i) = false

-- the first item, from number n on, that stands for a place
abbrev pub item_at : ℕ → List (Option ℕ) → ℕ → Option ℕ
item_at n [] place = None
item_at n (None ∷ ks) place = item_at (suc n) ks place
item_at n (Some k ∷ ks) place = cond (k == place) (Some n) (item_at (suc n) ks place)

-- each key stands for a place, and no two for one
abbrev pub is_once : List (Option ℕ) → Bool
is_once [] = true
is_once (None ∷ ks) = false
is_once (Some k ∷ ks) = not (is_some (item_at 0 ks k)) && is_once ks

abbrev pub item_or : Option ℕ → Option PatternItem → Option PatternItem
item_or (Some n) rest = Some (Item n)
item_or None rest = rest

-- all of them, if each is there
abbrev pub and_all : {A : Type 0} → Option A → Option (List A) → Option (List A)
and_all (Some x) (Some xs) = Some (x ∷ xs)
and_all (Some x) None = None
and_all None rest = None

abbrev pub covers : Rest → List (Option ℕ) → ℕ → List SvType → Option (List PatternItem)
covers rest ks n [] = Some []
covers rest ks n (t ∷ ts) = and_all (item_or (item_at 0 ks n) (by_default rest t)) (covers rest ks (suc n) ts)

-- items without keys, in the order of the members, and without `default`
abbrev pub by_place : Rest → ℕ → ℕ → Option (List PatternItem)
by_place Absent n count = cond (n == count) (Some (tabulated n (λ k. Item k))) None
by_place Plain n count = None
by_place (Typed t) n count = None

abbrev pub by_key : Rest → List (Option ℕ) → List SvType → Option (List PatternItem)
by_key rest ks ts = cond (is_once ks) (covers rest ks 0 ts) None

-- a pattern has keys at all of its items or at none; one without items is one of keys
abbrev pub fit_in : Pattern → Places → Option (List PatternItem)
fit_in p places =
    cond (list_any is_place p.keys)
    (cond (list_all is_place p.keys) (by_place p.rest (length p.keys) (length places.types)) None)
    (by_key p.rest (map places.number p.keys) places.types)

abbrev pub fit_places : Pattern → Option Places → Option (List PatternItem)
fit_places p None = None
fit_places p (Some places) = fit_in p places

-- what each member or element of a type takes, if the pattern fits
abbrev pub fits : SvType → Pattern → Option (List PatternItem)
fits t p = fit_places p (places_of (out-SvType t))

-- what a call may answer
abbrev pub Gives : {A : Type 0} → Result A FitFail → Option A → Type 0
Gives (Ok x) m = m ≡ Some x
Gives (Err F.Memory) m = ⊤
Gives (Err F.NoFit) m = m ≡ None

-- the list, exactly where the keys stand for one place each
abbrev pub OnceGives : Result (Vec (Option ℕ) Global) FitFail → Bool → List (Option ℕ) → Type 0
OnceGives (Ok v) once items = (once ≡ true) × (v.items ≡ items)
OnceGives (Err F.Memory) once items = ⊤
OnceGives (Err F.NoFit) once items = once ≡ false

-- each of these stands for one of so many places, if for any
abbrev pub AllWithin : ℕ → List (Option ℕ) → Type 0
AllWithin count ks = (i n : ℕ) → slice_index_or ks i None ≡ Some n → n < count

-- more items behind those that are there
abbrev pub behind : List PatternItem → Option (List PatternItem) → Option (List PatternItem)
behind made None = None
behind made (Some items) = Some (made ++ items)
