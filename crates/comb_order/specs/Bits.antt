-- Numbers as bits of signals, and what processes read and write of them.
use Rattle.std.specs.Prelude.{◌≡◌, ℕ, ◌/◌, ◌%◌, ◌^◌, ◌<◌, ◌≤◌, min, false, ◌&&◌, not, List, length, map, slice_get, slice_index_or, Option, Some, None}
use Rattle.row_machine.specs.Valuation.{Place, has}
use Rattle.bit_sets.specs.declared.span.Span.{Span}
use Rattle.bit_sets.specs.declared.span.Use.{Use}
use Rattle.bit_sets.specs.Sets.{in_spans}
use Rattle.bit_needs.specs.declared.footprints.Footprint.{Footprint}
use Rattle.bit_needs.specs.Uses.{spans_in}
use Rattle.bit_needs.specs.Needs.{footprint_at}
use Rattle.flow_sets.specs.declared.found.Found.{Found}
use Rattle.flow_sets.specs.declared.uses.Write.{Write}
use Rattle.flow_sets.specs.Bits.{position}
use Rattle.flow_sets.specs.Flows.{IsFlow}
use Rattle.sv_types.specs.declared.design.Design.{Design}
use Rattle.sv_types.specs.declared.design.Process.{Process}
use Rattle.sv_types.specs.declared.design.Signal.{Signal}
use Rattle.sv_types.specs.Layouts.{width_of}
use Rattle.sv_types.specs.Statements.{doing}
use Rattle.sv_types.specs.Machine.{parts, reads_of, writes_of}
use Rattle.design_breaks.specs.Memories.{is_edged, flow}
use Rattle.comb_order.specs.Combs.{numbers_from, number_at}

-- the bit that a number stands for
abbrev pub place_of : ℕ → Place
place_of n = record { signal = n / 2 ^ 32; bit = n % 2 ^ 32 }

abbrev pub widths_of : List Signal → List ℕ
widths_of ss = map (λ (s : Signal). width_of s.of) ss

-- the number behind the last bit of the signal that a number lies in
abbrev pub end_at : List ℕ → ℕ → ℕ
end_at widths n = position (n / 2 ^ 32) (slice_index_or widths (n / 2 ^ 32) 0)

-- what of a span lies in bits that are there of the signal that it begins in
abbrev pub kept : List ℕ → Span → Span
kept widths s = record { low = s.low; high = min s.high (end_at widths s.low) }

abbrev pub kept_use : List ℕ → Use → Use
kept_use widths u = record { span = kept widths u.span; at = u.at }

abbrev pub kept_reads : List ℕ → Found → List Span
kept_reads widths f = spans_in (map (kept_use widths) f.reads)

abbrev pub kept_writes : List ℕ → Found → List Span
kept_writes widths f = map (λ (w : Write). kept widths w.of.span) f.writes

-- the footprint of what is found of a process
pub record IsFound (widths : List ℕ) (f : Found) (r : Footprint) : Type 0 where
  pub reads : (n : ℕ) → in_spans r.reads n ≡ (in_spans (kept_reads widths f) n && not (in_spans (kept_writes widths f) n))
  pub writes : (n : ℕ) → in_spans r.writes n ≡ in_spans (kept_writes widths f) n

abbrev pub IsFoundAt : List ℕ → Option Found → Footprint → Type 0
IsFoundAt widths None r = ⊥
IsFoundAt widths (Some f) r = IsFound widths f r

-- the footprints of what is found of the processes with these numbers
pub record AreFound (widths : List ℕ) (flows : List Found) (numbers : List ℕ) (rs : List Footprint) : Type 0 where
  pub count : length rs ≡ length numbers
  pub each : (k : ℕ) → k < length numbers → IsFoundAt widths (slice_get flows (number_at numbers k)) (footprint_at rs k)

-- no signal has more than 2^22 bits
abbrev pub AreNarrow : List Signal → Type 0
AreNarrow ss = (k : ℕ) (s : Signal) → slice_get ss k ≡ Some s → width_of s.of ≤ 4194304

module _ (d : Design) where
  -- what the limits on a design give: all signals together have at most 2^22 bits (E702), and processes have numbers of 32 bits
  pub record KeepsLimits : Type 0 where
    pub narrow : AreNarrow d.signals
    pub processes : length d.processes ≤ 2 ^ 32

  -- what is found of each combinational process, at its number
  pub record AreFlows (flows : List Found) : Type 0 where
    pub count : length flows ≡ length d.processes
    pub each : (n : ℕ) (p : Process) (f : Found) → slice_get d.processes n ≡ Some p → is_edged p.kind ≡ false → slice_get flows n ≡ Some f → IsFlow f (flow d p)

  -- the footprint of a process by its bits
  pub record IsFootprintOf (p : Process) (r : Footprint) : Type 0 where
    pub reads : (n : ℕ) → in_spans r.reads n ≡ has (reads_of (parts d) (doing p.body)) (place_of n)
    pub writes : (n : ℕ) → in_spans r.writes n ≡ has (writes_of (parts d) (doing p.body)) (place_of n)

  -- those of the combinational processes, in the order of the design
  pub record AreFootprintsOf (rs : List Footprint) : Type 0 where
    pub count : length rs ≡ length (numbers_from 0 d.processes)
    pub each : (k : ℕ) (p : Process) → k < length (numbers_from 0 d.processes) → slice_get d.processes (number_at (numbers_from 0 d.processes) k) ≡ Some p → IsFootprintOf p (footprint_at rs k)
