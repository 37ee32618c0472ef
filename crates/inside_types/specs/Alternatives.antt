-- What stands on the right of `inside`, item by item.
use Rattle.std.specs.Prelude.{⊤, ℕ, Bool, false, ◌||◌, List, [], ◌∷◌, Option, Some, None}
use Rattle.expr_type.specs.declared.operand.Valued.{Valued}
use Rattle.expr_type.specs.Operators as O
use Rattle.expr_type.specs.Shapes.{is_unpacked}
use Rattle.operand_types.specs.Allowed.{IsNarrow}
use Rattle.inside_types.specs.declared.alternatives.Alternative.{Alternative}
use Rattle.inside_types.specs.declared.alternatives.Alternative.TheVariants.{Only, Between}

abbrev pub alternative : Alternative → O.Alternative
alternative (Only v) = O.Only v
alternative (Between low high) = O.From low high

abbrev pub IsNarrowIn : Alternative → Type 0
IsNarrowIn (Only v) = IsNarrow v
IsNarrowIn (Between low high) = IsNarrow low × IsNarrow high

abbrev pub AllNarrowIn : List Alternative → Type 0
AllNarrowIn [] = ⊤
AllNarrowIn (a ∷ as') = IsNarrowIn a × AllNarrowIn as'

abbrev pub unpacked_in : Alternative → Bool
unpacked_in (Only v) = is_unpacked v.expr.of
unpacked_in (Between low high) = is_unpacked low.expr.of || is_unpacked high.expr.of

abbrev pub any_unpacked : List Alternative → Bool
any_unpacked [] = false
any_unpacked (a ∷ as') = unpacked_in a || any_unpacked as'

-- the operators in an item that are too wide beside a value
abbrev pub wide_in : Valued → Alternative → List ℕ
wide_in v a = O.wide_in v (alternative a)

abbrev pub first_of : List ℕ → Option ℕ
first_of [] = None
first_of (n ∷ ns) = Some n

abbrev pub or_first : Option ℕ → Option ℕ → Option ℕ
or_first None n = n
or_first (Some m) n = Some m

abbrev pub first_wide_among : Valued → List Alternative → Option ℕ
first_wide_among v [] = None
first_wide_among v (a ∷ as') = or_first (first_of (wide_in v a)) (first_wide_among v as')
