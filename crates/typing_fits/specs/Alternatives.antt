-- What the rules on several operands ask besides.
use Rattle.std.specs.Prelude.{⊤, List, [], ◌∷◌}
use Rattle.sv_types.specs.declared.statement.Function.{Function}
use Rattle.expr_type.specs.Operators.{Alternative, in_alternative}
use Rattle.typing_fits.specs.Sound.{AllSound}

-- the alternatives of `inside`
abbrev pub AllSoundIn : List Alternative → List Function → Type 0
AllSoundIn [] gs = ⊤
AllSoundIn (a ∷ as') gs = AllSound (in_alternative a) gs × AllSoundIn as' gs
