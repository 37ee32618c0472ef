-- Operands and types, one level at a time.
use Rattle.std.proofs.Common.{◌≡◌, ℕ, ℤ, Bool, List, [], ◌∷◌, map, replicate, refl, ap, ◌∙◌, rules}
use Rattle.sv_types.specs.declared.types.EnumName.{EnumName}
use Rattle.sv_types.specs.declared.types.Member.{Member}
use Rattle.sv_types.specs.declared.types.SvType.{SvType}
use Rattle.sv_types.specs.declared.types.SvType as S
use Rattle.sv_types.specs.declared.types.SvType.TheVariants as T
use Rattle.sv_types.specs.Layouts.{count_of}
use Rattle.expr_type.specs.declared.operand.Valued.{Valued}
use Rattle.expr_type.specs.Names.{Source}
use Rattle.expr_type.specs.Operands.{Operand}
use Rattle.expr_type.specs.Operands as V
use Rattle.expr_type.specs.Patterns.{types_in}
use Rattle.pattern_types.specs.declared.operand.Operand.{the_lemmas}
use Rattle.pattern_types.specs.declared.operand.Operand.TheVariants as OV
use Rattle.pattern_types.specs.declared.operand.Item as J
use Rattle.pattern_types.specs.declared.operand.Item.{fold-Item}
use Rattle.pattern_types.specs.Meaning.{Filled, filled, fitted_in, item_step, operand_of, operand_step, pattern_of}
use Rattle.pattern_types.specs.Leaves.{member_types}

abbrev pub item_meaning : Source → J.Item → Filled
item_meaning k = fold-Item Operand Filled (operand_step k) item_step

pub map-same : {A B : Type 0} (f g : A → B) → ((x : A) → f x ≡ g x) → (xs : List A) → map f xs ≡ map g xs
map-same f g h [] = refl
map-same f g h (x ∷ xs) = ap (λ y. y ∷ map f xs) (h x) ∙ ap (λ ys. g x ∷ ys) (map-same f g h xs)

pub operand-Plain : (k : Source) (v : Valued) → operand_of k (OV.Plain v) ≡ V.Plain v
operand-Plain k v = search (rules, the_lemmas)

pub operand-Stream : (k : Source) (v : Valued) → operand_of k (OV.Stream v) ≡ V.Stream v
operand-Stream k v = search (rules, the_lemmas)

item-level : (k : Source) (i : J.Item) → item_meaning k i ≡ filled k i
item-level k i = search (rules, the_lemmas)

pattern-level : (k : Source) (tick times : ℕ) (is : List J.Item) → operand_of k (OV.Pattern tick times is) ≡ V.Pattern tick (fitted_in k (record { tick = tick; times = times; items = map (item_meaning k) is }))
pattern-level k tick times is = search (rules, the_lemmas)

pub operand-Pattern : (k : Source) (tick times : ℕ) (is : List J.Item) → operand_of k (OV.Pattern tick times is) ≡ V.Pattern tick (fitted_in k (pattern_of k (record { tick = tick; times = times; items = is })))
operand-Pattern k tick times is =
    pattern-level k tick times is
    ∙ ap (λ xs. V.Pattern tick (fitted_in k (record { tick = tick; times = times; items = xs }))) (map-same (item_meaning k) (filled k) (item-level k) is)

pub ruleset operands = (operand-Plain, operand-Stream, operand-Pattern)

-- types
pub types-Scalar : (four s : Bool) → types_in (T.Scalar four s) ≡ []
types-Scalar four s = search (rules, S.the_lemmas)

pub types-Union : (id : ℕ) (s : Bool) (ms : List Member) → types_in (T.Union id s ms) ≡ []
types-Union id s ms = search (rules, S.the_lemmas)

pub types-Enum : (id : ℕ) (base : SvType) (names : List EnumName) → types_in (T.Enum id base names) ≡ []
types-Enum id base names = search (rules, S.the_lemmas)

pub types-PackedArray : (l r : ℤ) (s : Bool) (item : SvType) → types_in (T.PackedArray l r s item) ≡ replicate (count_of l r) item
types-PackedArray l r s item = search (rules, S.the_lemmas)

pub types-UnpackedArray : (l r : ℤ) (item : SvType) → types_in (T.UnpackedArray l r item) ≡ replicate (count_of l r) item
types-UnpackedArray l r item = search (rules, S.the_lemmas)

pub types-Struct : (id : ℕ) (packed s : Bool) (ms : List Member) → types_in (T.Struct id packed s ms) ≡ member_types ms
types-Struct id packed s ms = search (rules, S.the_lemmas)

pub ruleset type_levels = (types-Scalar, types-Union, types-Enum, types-PackedArray, types-UnpackedArray, types-Struct)
