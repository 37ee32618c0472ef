-- Signals that are memories: arrays of which each place selects an element, that edge processes write.
use Rattle.std.specs.Prelude.{ℕ, Bool, true, false, ◌&&◌, ◌||◌, ◌==◌, ◌-◌, nat_lt, cond, not, List, Option, Some, None, slice_get}
use Rattle.std.specs.List.{list_any, list_all}
use Rattle.sv_types.specs.declared.types.SvType.{SvType, SvType-F, out-SvType}
use Rattle.sv_types.specs.declared.design.Design.{Design}
use Rattle.sv_types.specs.declared.design.Instance.{Instance}
use Rattle.sv_types.specs.declared.design.Process.{Process}
use Rattle.sv_types.specs.declared.design.ProcessKind.{ProcessKind}
use Rattle.sv_types.specs.declared.design.ProcessKind.TheVariants.{Continuous, Link, Comb, Latch, Star, Edges}
use Rattle.sv_types.specs.declared.design.Signal.{Signal}
use Rattle.sv_types.specs.declared.design.SignalKind.{SignalKind}
use Rattle.sv_types.specs.declared.design.SignalKind.TheVariants.{InputNet, InputVar, OutputNet, OutputVar, Net, Variable}
use Rattle.sv_types.specs.Layouts.{layout}
use Rattle.sv_types.specs.Surroundings.{Use}
use Rattle.sv_types.specs.Flows.{Flow, uses_of}
use Rattle.sv_types.specs.Statements.{doing}
use Rattle.sv_types.specs.Machine.{parts, unseen}
use Rattle.design_breaks.specs.Actions.{actions}

abbrev pub is_unpacked_array : SvType → Bool
is_unpacked_array t = elim (out-SvType t) [
  | SvType-F.Scalar four s ↦ false
  | SvType-F.PackedArray l r s i ↦ false
  | SvType-F.Struct id packed s ms ↦ false
  | SvType-F.Union id s ms ↦ false
  | SvType-F.Enum id base names ↦ false
  | SvType-F.UnpackedArray l r i ↦ true
]

abbrev pub is_edged : ProcessKind → Bool
is_edged Continuous = false
is_edged (Link port) = false
is_edged Comb = false
is_edged Latch = false
is_edged Star = false
is_edged (Edges es) = true

abbrev pub is_port : SignalKind → Bool
is_port InputNet = true
is_port InputVar = true
is_port OutputNet = true
is_port OutputVar = true
is_port Net = false
is_port Variable = false

abbrev pub is_interface : Option Instance → Bool
is_interface None = false
is_interface (Some i) = i.interface

module _ (d : Design) where
  -- what is known of a process before it runs
  abbrev pub flow : Process → Flow
  flow p = (doing p.body).flow (unseen (parts d))

  -- instances are numbered from 1
  abbrev pub in_interface : ℕ → Bool
  in_interface n = is_interface (slice_get d.instances (n - 1))

  -- The bits that a process may write. What is assigned by the wrong operator, which is a break of its own, is no write.
  abbrev pub writes_of : Process → List Use
  writes_of p = cond (is_edged p.kind) (uses_of (flow p).later) (uses_of (flow p).writes)

  abbrev pub may_write : ℕ → Process → Bool
  may_write n p = list_any (λ (u : Use). (u.number == n) && nat_lt u.low u.high) (writes_of p)

  abbrev pub mentions_whole : ℕ → Process → Bool
  mentions_whole n p = list_any (λ (m : ℕ). m == n) (actions p.body).said.whole

  -- the signal with this number
  abbrev pub is_memory : ℕ → Signal → Bool
  is_memory n s =
      is_unpacked_array s.of
      && (list_all not (layout s.of).two_state
      && (not s.declared && (not (is_port s.kind) && (not (in_interface s.instance)
      && (list_any (λ (p : Process). is_edged p.kind && may_write n p) d.processes
      && (list_all (λ (p : Process). is_edged p.kind || not (may_write n p)) d.processes
      && list_all (λ (p : Process). not (mentions_whole n p)) d.processes))))))
