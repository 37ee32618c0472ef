-- Bits of signals and locals as numbers, and uses of them as spans of numbers.
use Rattle.std.specs.Prelude.{◌≡◌, ℕ, ◌+◌, ◌*◌, ◌^◌, ◌<◌, ⊤, List, [], ◌∷◌, map}
use Rattle.row_machine.specs.Valuation.{Place}
use Rattle.bit_sets.specs.declared.span.Span.{Span}
use Rattle.bit_sets.specs.declared.span.Use.{Use}
use Rattle.flow_sets.specs.declared.uses.Write.{Write}
use Rattle.sv_types.specs.Surroundings as S
use Rattle.sv_types.specs.Flows.{uses_of}

-- the bits of a signal or local stand together, the bits of the next one behind them
abbrev pub position : ℕ → ℕ → ℕ
position n k = n * 2 ^ 32 + k

abbrev pub number_of : Place → ℕ
number_of q = position q.signal q.bit

abbrev pub span_of : S.Use → Span
span_of u = record { low = position u.number u.low; high = position u.number u.high }

abbrev pub use_of : S.Use → Use
use_of u = record { span = span_of u; at = u.at }

abbrev pub write_of : S.Write → Write
write_of w = record { of = use_of w.of; exact = w.exact }

-- no signal or local has more bits than there are numbers for
unfoldable pub AllShort : List S.Use → Type 0
AllShort [] = ⊤
AllShort (u ∷ us) = (u.high < 2 ^ 32) × AllShort us

-- the uses as the code has them
pub record AreUses (r : List Use) (us : List S.Use) : Type 0 where
  pub same : r ≡ map use_of us
  pub short : AllShort us

pub record AreWrites (r : List Write) (ws : List S.Write) : Type 0 where
  pub same : r ≡ map write_of ws
  pub short : AllShort (uses_of ws)
