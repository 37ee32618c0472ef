-- The reading of so many elements from a known index on, from that of what they are selected from.
use Rattle.std.specs.Prelude.{◌≡◌, ◌*◌, ℕ, ℤ, Bool, length, Option}
use Rattle.row_machine.specs.Valuation.{Valuation}
use Rattle.sv_types.specs.declared.types.SvType.{SvType}
use Rattle.sv_types.specs.Layouts.{layout}
use Rattle.sv_types.specs.Windows.{slide}
use Rattle.sv_types.specs.Surroundings.{Around}
use Rattle.sv_types.specs.Meanings as S
use Rattle.v_meaning.specs.Scopes.{Scope}
use Rattle.path_flatten.specs.declared.readings.Reading.{Reading}
use Rattle.path_flatten.specs.Reading.{Reads}
use Rattle.path_flatten.specs.Stepping.{IsStep}

abbrev pub ReadsKnownSlide : Reading → SvType → Bool → ℕ → Option ℤ → Reading → Type 0
ReadsKnownSlide old t up n z r = (e from : S.Meaning) (a : Around) (sc : Scope) (v : Valuation) → from.of ≡ layout t
    → IsStep e from a (slide from.of up n z) → S.wide e ≡ n * length from.of.element.two_state → Reads old from a sc v → Reads r e a sc v
