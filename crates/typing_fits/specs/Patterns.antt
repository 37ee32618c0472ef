-- What the items of patterns keep.
use Rattle.std.specs.Prelude.{⊤, List, [], ◌∷◌}
use Rattle.sv_types.specs.declared.statement.Function.{Function}
use Rattle.expr_type.specs.Patterns.{Item}
use Rattle.typing_fits.specs.Operands.{SoundOperand}

abbrev pub AllSoundItems : List Item → List Function → Type 0
AllSoundItems [] gs = ⊤
AllSoundItems (i ∷ is) gs = SoundOperand i.value gs × AllSoundItems is gs
