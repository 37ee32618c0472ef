-- The breaks of the rule on wide signals, by marks.
use Rattle.std.specs.Prelude.{◌≡◌, ℕ, ◌<◌, Bool, true, false, ◌&&◌, ◌||◌, not, nat_le, cond, List, length, flat_map, replicate, Option, Some, None, slice_index_or}
use Rattle.std.specs.List.{list_any}
use Rattle.sv_types.specs.declared.design.Design.{Design}
use Rattle.sv_types.specs.declared.design.Instance.{Instance}
use Rattle.sv_types.specs.declared.design.Process.{Process}
use Rattle.sv_types.specs.declared.design.Signal.{Signal}
use Rattle.sv_types.specs.Layouts.{width_of}
use Rattle.flow_sets.specs.declared.found.Found.{Found}
use Rattle.design_breaks.specs.declared.Break.{Break}
use Rattle.design_breaks.specs.Memories.{is_edged, is_unpacked_array, may_write, mentions_whole}
use Rattle.design_breaks.specs.Breaks as B
use Rattle.memory_breaks.specs.declared.memories.Known.{Known}
use Rattle.memory_breaks.specs.declared.processes.Written.{Written}
use Rattle.memory_breaks.specs.Memories.{is_memory}
use Rattle.memory_breaks.specs.Processes as P

abbrev pub wide_break : List Instance → Signal → Known → Option Break
wide_break instances s k =
    cond (not (is_unpacked_array s.of) || (nat_le (width_of s.of) 65536 || k.unsettled)) None
    (cond (is_memory instances s k) None (Some (record { instance = s.instance; at = s.spot.at; rule = 701 })))

abbrev pub known_of : ℕ → List Bool → List Bool → Written → Known
known_of n whole unsettled w = record {
  whole = slice_index_or whole n false;
  edged = slice_index_or w.edged n false;
  other = slice_index_or w.other n false;
  unsettled = slice_index_or unsettled n false;
}

module _ (d : Design) where
  abbrev pub wide_breaks : List Break
  wide_breaks = flat_map (B.too_wide d) (B.numbered d 0 d.signals)

  -- what is known of a signal, as the rule has it: where a process can't be unrolled that names it, nothing is asked of writes
  pub record IsKnown (n : ℕ) (k : Known) : Type 0 where
    pub settled : B.is_settled d n ≡ not k.unsettled
    pub whole : list_any (mentions_whole d n) d.processes ≡ k.whole
    pub edged : B.is_settled d n ≡ true → list_any (λ (p : Process). is_edged p.kind && may_write d n p) d.processes ≡ k.edged
    pub other : B.is_settled d n ≡ true → list_any (λ (p : Process). not (is_edged p.kind) && may_write d n p) d.processes ≡ k.other

  pub record AreMarked (whole unsettled : List Bool) (w : Written) : Type 0 where
    pub all_whole : length whole ≡ length d.signals
    pub all_unsettled : length unsettled ≡ length d.signals
    pub all_edged : length w.edged ≡ length d.signals
    pub all_other : length w.other ≡ length d.signals
    pub each : (n : ℕ) → n < length d.signals → IsKnown n (known_of n whole unsettled w)

  abbrev pub whole_marks : List Bool
  whole_marks = P.all_whole d.processes (replicate (length d.signals) false)

  abbrev pub unsettled_marks : List (Option Found) → List Bool
  unsettled_marks found = P.all_unsettled d.functions d.processes found (replicate (length d.signals) false)
