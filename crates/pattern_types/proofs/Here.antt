-- All breaks of what is given stand in one text.
use Rattle.std.proofs.Common.{ℕ, zero, suc, ◌%◌, max, Bool, true, false, not, cond, List, [], ◌∷◌, length, map, Option, Some, None, refl, sym, subst}
use Rattle.std.specs.Prelude.{Ok, Err, flat_map, filter, slice_get, zip, nat_lt}
use Rattle.sv_types.specs.declared.expression.Expr.{Expr}
use Rattle.sv_types.specs.declared.expression.Form.TheVariants as F
use Rattle.sv_types.specs.declared.types.SvType.{SvType}
use Rattle.sv_types.specs.Layouts.{width_of}
use Rattle.pattern_fit.specs.declared.pattern.Key.{Key}
use Rattle.pattern_fit.specs.declared.pattern.PatternItem.{PatternItem}
use Rattle.pattern_fit.specs.declared.pattern.PatternItem.TheVariants as I
use Rattle.pattern_fit.specs.declared.pattern.Rest.{Rest}
use Rattle.expr_type.specs.declared.operand.Valued.{Valued}
use Rattle.expr_type.specs.Breaks.{Breaks}
use Rattle.expr_type.specs.Names.{Source, position}
use Rattle.expr_type.specs.Operands.{Operand, Plain, Pattern, Stream, is_given, is_plain, is_value, sized, too_wide, width}
use Rattle.expr_type.specs.Operators.{expr_at, not_too_long}
use Rattle.expr_type.specs.Patterns.{Item, Taken, all_keys, by_item, default_types, defaults, fitted_by, has_members, is_default, keyed, levels, made, rest_of, spread, taken_by, takes_itself, tried, tries, types_in, value_of}
use Rattle.expr_type.specs.Shapes.{is_assignable, is_plain_to_enum}
use Rattle.expr_type.specs.Typings.{Checked, all_of, and_at, at_all, joined, lesser, refused, unless, where_whole}
use Rattle.pattern_types.specs.declared.operand.NameKey.{NameKey}
use Rattle.pattern_types.specs.declared.operand.NameKey.TheVariants as N
use Rattle.pattern_types.specs.declared.operand.ItemKey.{ItemKey}
use Rattle.pattern_types.specs.declared.operand.ItemKey.TheVariants as IK
use Rattle.pattern_types.specs.declared.operand.Operand as O
use Rattle.pattern_types.specs.declared.operand.Operand.{Operand-F, roll-Operand, map-Operand, ind-Operand, the_lemmas}
use Rattle.pattern_types.specs.declared.operand.Operand.TheVariants as OV
use Rattle.pattern_types.specs.declared.operand.Item as J
use Rattle.pattern_types.specs.declared.operand.Item.{Item-F, roll-Item, map-Item}
use Rattle.pattern_types.specs.Meaning as M
use Rattle.pattern_types.specs.Meaning.{filled, fitted_in, item_of, items_in, items_of, key_of, key_of_name, keys_of, operand_of, parts_of, pattern_of, tick_of, written_items}
use Rattle.pattern_types.proofs.Levels.{operand-Pattern, operand-Plain, operand-Stream}
use Rattle.pattern_laws.proofs.Order.{Here, HereIf, lesser-here}
use Rattle.pattern_laws.proofs.Tried.{HereGiven, least-here}

-- rules and what is put together
refused-here : {A : Type 0} (k : Source) (b : Bool) (at rule : ℕ) (x : Checked A) → HereIf k x → HereIf k (refused b (position k at) rule x)
refused-here k true at rule x h = refl
refused-here k false at rule x h = h

where-here : {A B : Type 0} (k : Source) (m : Checked A) (f : A → Checked B) → HereIf k m → ((a : A) → HereIf k (f a)) → HereIf k (where_whole m f)
where-here k (Ok a) f h g = g a
where-here k (Err b) f h g = h

joined-here : {A B : Type 0} (k : Source) (x : Checked A) (y : Checked B) → HereIf k x → HereIf k y → HereIf k (joined x y)
joined-here k (Ok a) (Ok b) h g = tt
joined-here k (Ok a) (Err y) h g = g
joined-here k (Err x) (Ok b) h g = h
joined-here k (Err x) (Err y) h g = (h, g)

abbrev AllHere : {A : Type 0} → Source → List (Checked A) → Type 0
AllHere k [] = Unit {0}
AllHere k (x ∷ xs) = HereIf k x × AllHere k xs

all-here : {A : Type 0} (k : Source) (xs : List (Checked A)) → AllHere k xs → HereIf k (all_of xs)
all-here k [] h = tt
all-here k (x ∷ xs) h = where-here k (joined x (all_of xs)) (λ p. Ok (p.0 ∷ p.1)) (joined-here k x (all_of xs) h.0 (all-here k xs h.1)) (λ p. tt)

mapped-here : {A B : Type 0} (k : Source) (f : A → Checked B) (xs : List A) → ((x : A) → HereIf k (f x)) → AllHere k (map f xs)
mapped-here k f [] h = tt
mapped-here k f (x ∷ xs) h = (h x, mapped-here k f xs h)

abbrev HereAll : Source → Option Breaks → Type 0
HereAll k None = Unit {0}
HereAll k (Some b) = Here k b

row-here : (k : Source) (at rule : ℕ) (o : Option Breaks) → HereAll k o → HereAll k (and_at (record { instance = k.instance; at = at }) rule o)
row-here k at rule None h = refl
row-here k at rule (Some b) h = (refl, h)

rows-here : (k : Source) (rule : ℕ) (ats : List ℕ) → HereAll k (at_all k.instance rule ats)
rows-here k rule [] = tt
rows-here k rule (at ∷ ats) = row-here k at rule (at_all k.instance rule ats) (rows-here k rule ats)

unless-here : {A : Type 0} (k : Source) (o : Option Breaks) (a : A) → HereAll k o → HereIf k (unless o a)
unless-here k None a h = tt
unless-here k (Some b) a h = h

-- values
given-here : (k : Source) (t : SvType) (v : Valued) → HereIf k (is_given k t v)
given-here k t v =
    let w = max (width_of t) (width v) in
    let plain = refused-here k (is_plain_to_enum t v.expr.of) v.first 503 (Ok v.expr) tt in
    let narrow = unless-here k (at_all k.instance 502 (too_wide w v.arithmetic)) v (rows-here k 502 (too_wide w v.arithmetic)) in
    refused-here k (not (is_assignable t v.expr.of)) v.first 501 (where_whole (lesser (is_plain k t v) (sized k w v v)) (λ (p : Expr × Valued). Ok p.0))
    (where-here k (lesser (is_plain k t v) (sized k w v v)) (λ (p : Expr × Valued). Ok p.0) (lesser-here k (is_plain k t v) (sized k w v v) plain narrow) (λ p. tt))

value-here : (k : Source) (v : Operand) → HereIf k (is_value k v)
value-here k (Plain v) = tt
value-here k (Pattern tick of) = refl
value-here k (Stream v) = refl

-- items
abbrev AllGiven : Source → List Item → Type 0
AllGiven k [] = Unit {0}
AllGiven k (i ∷ is) = HereGiven k i.value × AllGiven k is

abbrev GivenIf : Source → Option Item → Type 0
GivenIf k None = Unit {0}
GivenIf k (Some i) = HereGiven k i.value

given-at : (k : Source) (is : List Item) (n : ℕ) → AllGiven k is → GivenIf k (slice_get is n)
given-at k [] n h = tt
given-at k (i ∷ is) zero h = h.0
given-at k (i ∷ is) (suc n) h = given-at k is n h.1

filtered-by : (k : Source) (f : Item → Bool) (i : Item) (is : List Item) (b : Bool) → HereGiven k i.value → AllGiven k (filter f is) → AllGiven k (cond b (i ∷ filter f is) (filter f is))
filtered-by k f i is true h g = (h, g)
filtered-by k f i is false h g = g

filtered : (k : Source) (f : Item → Bool) (is : List Item) → AllGiven k is → AllGiven k (filter f is)
filtered k f [] h = tt
filtered k f (i ∷ is) h = filtered-by k f i is (f i) h.0 (filtered k f is h.1)

tried-here : (k : Source) (v : Operand) (ts : List SvType) → HereGiven k v → HereIf k (tried k v ts)
tried-here k v [] h = where-here k (is_value k v) (λ u. Ok []) (value-here k v) (λ u. tt)
tried-here k v (t ∷ ts) h = least-here k v (t ∷ ts) h

tries-by : (k : Source) (count : ℕ) (rest : Rest) (ps : List Taken) (n : ℕ) (i : Item) (is : List Item) (b : Bool) → HereGiven k i.value → ((m : ℕ) → AllHere k (tries k count rest ps m is))
    → AllHere k (cond b (tried k i.value (flat_map (default_types rest) ps) ∷ tries k count rest ps n is) (tried k i.value (by_item count n ps) ∷ tries k count rest ps (suc n) is))
tries-by k count rest ps n i is true h g = (tried-here k i.value (flat_map (default_types rest) ps) h, g n)
tries-by k count rest ps n i is false h g = (tried-here k i.value (by_item count n ps) h, g (suc n))

tries-here : (k : Source) (count : ℕ) (rest : Rest) (ps : List Taken) (n : ℕ) (is : List Item) → AllGiven k is → AllHere k (tries k count rest ps n is)
tries-here k count rest ps n [] h = tt
tries-here k count rest ps n (i ∷ is) h = tries-by k count rest ps n i is (is_default i.key) h.0 (λ m. tries-here k count rest ps m is h.1)

give-here : (k : Source) (o : Option Item) (t : SvType) → GivenIf k o → HereIf k (value_of o k t)
give-here k None t h = tt
give-here k (Some i) t h = h t

spread-by : (k : Source) (tick : ℕ) (t : SvType) (x : Checked Expr) (m : Checked (List Expr)) (b : Bool) → HereIf k x → HereIf k m → HereIf k (cond b x (where_whole m (λ es. Ok (expr_at k tick t (F.Pattern es)))))
spread-by k tick t x m true h g = h
spread-by k tick t x m false h g = where-here k m (λ es. Ok (expr_at k tick t (F.Pattern es))) g (λ es. tt)

spread-here : (k : Source) (tick n : ℕ) (rest : Rest) (give : SvType → Checked Expr) (t : SvType) → ((u : SvType) → HereIf k (give u)) → HereIf k (spread k tick n rest give t)
spread-here k tick zero rest give t h = h t
spread-here k tick (suc n) rest give t h =
    spread-by k tick t (give t) (all_of (map (spread k tick n rest give) (types_in t))) (takes_itself rest t) (h t)
    (all-here k (map (spread k tick n rest give) (types_in t)) (mapped-here k (spread k tick n rest give) (types_in t) (λ u. spread-here k tick n rest give u h)))

made-here : (k : Source) (tick : ℕ) (is : List Item) (x : PatternItem) (t : SvType) → AllGiven k is → HereIf k (made k tick is (x, t))
made-here k tick is (I.Item m) t h =
    give-here k (slice_get (keyed is) (m % length (keyed is))) t (given-at k (keyed is) (m % length (keyed is)) (filtered k (λ (i : Item). not (is_default i.key)) is h))
made-here k tick is I.Default t h =
    spread-here k tick (levels t) (rest_of (defaults is)) (value_of (slice_get (defaults is) 0) k) t (λ u. give-here k (slice_get (defaults is) 0) u (given-at k (defaults is) 0 (filtered k (λ (i : Item). is_default i.key) is h)))
made-here k tick is I.Spread t h =
    spread-here k tick (levels t) (rest_of (defaults is)) (value_of (slice_get (defaults is) 0) k) t (λ u. give-here k (slice_get (defaults is) 0) u (given-at k (defaults is) 0 (filtered k (λ (i : Item). is_default i.key) is h)))

by-here : (k : Source) (tick at : ℕ) (t : SvType) (is : List Item) (o : Option (List PatternItem)) → AllGiven k is → HereIf k (fitted_by k tick at t is o)
by-here k tick at t is None h = refl
by-here k tick at t is (Some xs) h =
    let ps = zip xs (types_in t) in
    let looked = tries k (length (keyed is)) (rest_of (defaults is)) ps 0 is in
    let end : (es : List Expr) → HereIf k (not_too_long k tick (width_of t) (Ok (expr_at k at t (F.Pattern es)))) = λ es. refused-here k (nat_lt 65536 (width_of t)) tick 701 (Ok (expr_at k at t (F.Pattern es))) tt in
    where-here k (all_of looked) (λ x. where_whole (all_of (map (made k tick is) ps)) (λ es. not_too_long k tick (width_of t) (Ok (expr_at k at t (F.Pattern es)))))
    (all-here k looked (tries-here k (length (keyed is)) (rest_of (defaults is)) ps 0 is h))
    (λ x. where-here k (all_of (map (made k tick is) ps)) (λ es. not_too_long k tick (width_of t) (Ok (expr_at k at t (F.Pattern es))))
    (all-here k (map (made k tick is) ps) (mapped-here k (made k tick is) ps (λ p. made-here k tick is p.0 p.1 h))) end)

-- keys
name-here : (k : Source) (n : NameKey) → HereIf k (key_of_name k n)
name-here k (N.Number n) = tt
name-here k N.Nothing = tt
name-here k (N.Breaks at rule) = refl
name-here k N.Quiet = tt

named-here : (k : Source) (b : Bool) (key : Key) (n : NameKey) → HereIf k (cond {A = Checked (Option Key)} b (Ok (Some key)) (key_of_name k n))
named-here k true key n = tt
named-here k false key n = name-here k n

key-here : (k : Source) (t : SvType) (key : ItemKey) → HereIf k (key_of k t key)
key-here k t IK.InPlace = tt
key-here k t IK.ByDefault = tt
key-here k t (IK.Named of otherwise) = named-here k (has_members t) _ otherwise
key-here k t (IK.Numbered n) = tt

pub fitted-here : (k : Source) (p : M.Pattern) (at : ℕ) (t : SvType) → AllGiven k (items_of p.items) → HereIf k (fitted_in k p at t)
fitted-here k p at t h =
    where-here k (all_of (map (key_of k t) (keys_of p.items))) (λ ks. fitted_by k p.tick at t (items_of p.items) (taken_by t (parts_of p) (all_keys ks)))
    (all-here k (map (key_of k t) (keys_of p.items)) (mapped-here k (key_of k t) (keys_of p.items) (key-here k t)))
    (λ ks. by-here k p.tick at t (items_of p.items) (taken_by t (parts_of p) (all_keys ks)) h)

-- operands
module _ (k : Source) where
  abbrev OfItem : J.Item → Type 0
  OfItem i = HereGiven k (operand_of k i.value)

  abbrev OfOperand : O.Operand → Type 0
  OfOperand v = HereGiven k (operand_of k v)

  abbrev AnItem : Type 0
  AnItem = (x : J.Item) × OfItem x

  abbrev AnOperand : Type 0
  AnOperand = (x : O.Operand) × OfOperand x

  each-item : (ys : List AnItem) → AllGiven k (written_items k (map (λ e. e.0) ys))
  each-item [] = tt
  each-item (y ∷ ys) = (y.1, each-item ys)

  item-level : (y : Item-F AnOperand AnItem) → OfItem (roll-Item (map-Item AnOperand AnItem O.Operand J.Item (λ e. e.0) (λ e. e.0) y))
  item-level y = y.value.1

  plain-level : (v : Valued) → OfOperand (OV.Plain v)
  plain-level v = subst (HereGiven k) (sym (operand-Plain k v)) (λ t. given-here k t v)

  pattern-level : (tick times : ℕ) (is : List J.Item) → AllGiven k (written_items k is) → OfOperand (OV.Pattern tick times is)
  pattern-level tick times is h = subst (HereGiven k) (sym (operand-Pattern k tick times is)) (λ t. fitted-here k (pattern_of k (record { tick = tick; times = times; items = is })) tick t h)

  stream-level : (v : Valued) → OfOperand (OV.Stream v)
  stream-level v = subst (HereGiven k) (sym (operand-Stream k v)) (λ t. refl)

  operand-level : (y : Operand-F AnOperand AnItem) → OfOperand (roll-Operand (map-Operand AnOperand AnItem O.Operand J.Item (λ e. e.0) (λ e. e.0) y))
  operand-level (Operand-F.Plain v) = subst OfOperand (sym (OV.rolls-Plain v)) (plain-level v)
  operand-level (Operand-F.Pattern tick times is) = subst OfOperand (sym (OV.rolls-Pattern tick times (map (λ e. e.0) is))) (pattern-level tick times (map (λ e. e.0) is) (each-item is))
  operand-level (Operand-F.Stream v) = subst OfOperand (sym (OV.rolls-Stream v)) (stream-level v)

  pub operand-here : (v : O.Operand) → HereGiven k (operand_of k v)
  operand-here =
      ind-Operand OfOperand OfItem
      (λ x y is. subst (λ z. OfOperand (roll-Operand z)) is (operand-level y))
      (λ x y is. subst (λ z. OfItem (roll-Item z)) is (item-level y))

  pub given-so : (v : O.Operand) → HereGiven k (operand_of k v)
  given-so v = operand-here v

pub ruleset here = (given-so)
