-- From what is found of processes to their footprints.
use Rattle.std.proofs.Common.{◌≡◌, ℕ, ◌<◌, Bool, true, false, ◌&&◌, not, List, length, map, Option, Some, None, refl, sym, ap, ◌∙◌, subst}
use Rattle.std.specs.Prelude.{slice_get}
use Rattle.row_machine.specs.Machine as M
use Rattle.bit_sets.specs.Sets.{in_spans}
use Rattle.bit_needs.specs.declared.footprints.Footprint.{Footprint}
use Rattle.bit_needs.specs.Uses.{spans_in}
use Rattle.bit_needs.specs.Needs.{footprint_at}
use Rattle.flow_sets.specs.declared.found.Found.{Found}
use Rattle.flow_sets.specs.declared.uses.Write.{Write}
use Rattle.flow_sets.specs.Flows.{IsFlow}
use Rattle.sv_types.specs.declared.design.Design.{Design}
use Rattle.sv_types.specs.declared.design.Process.{Process}
use Rattle.sv_types.specs.Flows.{covered, uses_of}
use Rattle.sv_types.specs.Machine.{parts, places, machine}
use Rattle.design_breaks.specs.Memories.{is_edged, flow}
use Rattle.comb_order.specs.Combs.{numbers_from, number_at}
use Rattle.comb_order.specs.Bits.{place_of, widths_of, kept, kept_reads, kept_writes, kept_use, IsFound, IsFoundAt, AreFound, AreFlows, IsFootprintOf, AreFootprintsOf}
use Rattle.comb_order.proofs.Standing.{Stands, processes-stand, zip-at, no_process}
use Rattle.comb_order.proofs.Positions.{is_there, reads-are, writes-are}
use Rattle.comb_order.proofs.Places.{has-there, has-filter}

both-there : (r w t : Bool) → ((r && t) && not (w && t)) ≡ (t && (r && not w))
both-there true true true = refl
both-there true true false = refl
both-there true false true = refl
both-there true false false = refl
both-there false true true = refl
both-there false true false = refl
both-there false false true = refl
both-there false false false = refl

and-comm : (w t : Bool) → (w && t) ≡ (t && w)
and-comm true true = refl
and-comm true false = refl
and-comm false true = refl
and-comm false false = refl

module _ (d : Design) where
  abbrev there : ℕ → Bool
  there n = is_there (widths_of d.signals) (place_of n)

  found-reads : (p : Process) (f : Found) → IsFlow f (flow d p) → (n : ℕ) → in_spans (kept_reads (widths_of d.signals) f) n ≡ (covered (flow d p).reads (place_of n) && there n)
  found-reads p f is n = ap (λ us. in_spans (spans_in (map (kept_use (widths_of d.signals)) us)) n) is.reads.same ∙ reads-are (widths_of d.signals) (flow d p).reads n is.reads.short

  found-writes : (p : Process) (f : Found) → IsFlow f (flow d p) → (n : ℕ) → in_spans (kept_writes (widths_of d.signals) f) n ≡ (covered (uses_of (flow d p).writes) (place_of n) && there n)
  found-writes p f is n =
      ap (λ ws. in_spans (map (λ (w : Write). kept (widths_of d.signals) w.of.span) ws) n) is.writes.same
      ∙ writes-are (widths_of d.signals) (flow d p).writes n is.writes.short

  pub is-footprint : (p : Process) (f : Found) (r : Footprint) → IsFlow f (flow d p) → IsFound (widths_of d.signals) f r → IsFootprintOf d p r
  is-footprint p f r is found = record {
    reads = λ n.
        found.reads n ∙ ap (λ b. b && not (in_spans (kept_writes (widths_of d.signals) f) n)) (found-reads p f is n)
        ∙ ap (λ b. (covered (flow d p).reads (place_of n) && there n) && not b) (found-writes p f is n)
        ∙ both-there (covered (flow d p).reads (place_of n)) (covered (uses_of (flow d p).writes) (place_of n)) (there n)
        ∙ sym (has-filter (λ q. covered (flow d p).reads q && not (covered (uses_of (flow d p).writes) q)) (places (parts d)) (place_of n) ∙ ap (λ b. b && (covered (flow d p).reads (place_of n) && not (covered (uses_of (flow d p).writes) (place_of n)))) (has-there d (place_of n)));
    writes = λ n.
        found.writes n ∙ found-writes p f is n ∙ and-comm (covered (uses_of (flow d p).writes) (place_of n)) (there n)
        ∙ sym (has-filter (covered (uses_of (flow d p).writes)) (places (parts d)) (place_of n) ∙ ap (λ b. b && covered (uses_of (flow d p).writes) (place_of n)) (has-there d (place_of n)));
  }

  -- a process with one of these numbers is combinational
  not-edged : (k : ℕ) (p : Process) → k < length (numbers_from 0 d.processes) → slice_get d.processes (number_at (numbers_from 0 d.processes) k) ≡ Some p → is_edged p.kind ≡ false
  not-edged k p low stands = by (zip-at (Stands d) (numbers_from 0 d.processes) (machine d).combs k 0 no_process (processes-stand d) low)
    where
      by : {c : M.Process} → Stands d (number_at (numbers_from 0 d.processes) k) c → is_edged p.kind ≡ false
      by s =
          let some : Some p ≡ Some s.process = sym stands ∙ s.stands in
          let same : p ≡ s.process = cc in
          ap (λ (q : Process). is_edged q.kind) same ∙ s.makes_it.not_edged

  found-at : (p : Process) (r : Footprint) (o : Option Found) → ((f : Found) → o ≡ Some f → IsFlow f (flow d p)) → IsFoundAt (widths_of d.signals) o r → IsFootprintOf d p r
  found-at p r None is found = absurd found
  found-at p r (Some f) is found = is-footprint p f r (is f refl) found

  pub are-footprints : (flows : List Found) (widths numbers : List ℕ) (rs : List Footprint) → AreFlows d flows → widths ≡ widths_of d.signals → numbers ≡ numbers_from 0 d.processes
      → AreFound widths flows numbers rs → AreFootprintsOf d rs
  are-footprints flows widths numbers rs are same its found = by found'
    where
      found' : AreFound (widths_of d.signals) flows (numbers_from 0 d.processes) rs
      found' = subst (λ ws. AreFound ws flows (numbers_from 0 d.processes) rs) same (subst (λ ns. AreFound widths flows ns rs) its found)

      by : AreFound (widths_of d.signals) flows (numbers_from 0 d.processes) rs → AreFootprintsOf d rs
      by all = record {
        count = all.count;
        each = λ k p low stands. found-at p (footprint_at rs k) (slice_get flows (number_at (numbers_from 0 d.processes) k)) (λ f at. are.each (number_at (numbers_from 0 d.processes) k) p f stands (not-edged k p low stands) at) (all.each k low);
      }
