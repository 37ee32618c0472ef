-- Memories, by what is known of them.
use Rattle.std.specs.Prelude.{ℕ, ◌-◌, Bool, true, false, ◌&&◌, not, cond, List, slice_get}
use Rattle.std.specs.List.{list_all}
use Rattle.b4_core.specs.declared.bit.Bit4.{Bit4}
use Rattle.b4_core.specs.declared.bit.Bit4.TheVariants.{Zero, One, X, Z}
use Rattle.sv_types.specs.declared.design.Instance.{Instance}
use Rattle.sv_types.specs.declared.design.Signal.{Signal}
use Rattle.sv_types.specs.Layouts.{layout}
use Rattle.design_breaks.specs.Memories as M
use Rattle.memory_breaks.specs.declared.memories.Known.{Known}

abbrev pub is_unknown : Bit4 → Bool
is_unknown Zero = false
is_unknown One = false
is_unknown X = true
is_unknown Z = false

-- instances are numbered from 1
abbrev pub in_interface : List Instance → ℕ → Bool
in_interface instances n = M.is_interface (slice_get instances (n - 1))

abbrev pub is_kept_by_edges : List Instance → Signal → Known → Bool
is_kept_by_edges instances s k = not s.declared && (not (M.is_port s.kind) && (not (in_interface instances s.instance) && (k.edged && (not k.other && not k.whole))))

abbrev pub is_memory : List Instance → Signal → Known → Bool
is_memory instances s k = cond (is_kept_by_edges instances s k) (list_all not (layout s.of).two_state) false
