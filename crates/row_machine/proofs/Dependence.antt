-- Where no source process is stuck, no target process is.
use Rattle.std.proofs.Common.{◌≡◌, true, List, Some, sym, ◌∙◌, inl, inr}
use Rattle.row_machine.specs.Valuation.{Place, Member, has}
use Rattle.row_machine.specs.Machine.{Process, Machine}
use Rattle.row_machine.specs.Order.{Free, free}
use Rattle.row_machine.specs.Agreement.{Map}
use Rattle.row_machine.specs.Dependence.{ComesFrom, writes_image, stands_behind, FollowsReads, AddsNoDependence}
use Rattle.row_machine.proofs.Basics.{follows_writer}
use Rattle.row_machine.proofs.Agreement.{none_some}

module _ (m : Map) (d e : Machine) where
  -- the processes that write the image of one of the bits are free
  abbrev WritersFree : List Place → Type 0
  WritersFree sources = (t : Process) → Member e.combs t → (q q' : Place) → m.origin q' ≡ Some q → has t.writes q' ≡ true → has sources q ≡ true → Free e.combs t

  comes_free : (sources : List Place) → WritersFree sources → {t : Process} → ComesFrom m d e sources t → Member e.combs t → Free e.combs t
  comes_free sources h (writes_image {t = t} q q' o writes reads) mt = h t mt q q' o writes reads
  comes_free sources h (stands_behind before) mt = free (λ b mb f. comes_free sources h (before b mb f) mb)

  module _ (adds : AddsNoDependence m d e) (all_free : (p : Process) → Member d.combs p → Free d.combs p) where
    twin_free : (p : Process) → Free d.combs p → (t : Process) → FollowsReads m d e p t → Free e.combs t
    twin_free p (free h) t twin =
        free (λ b mb f. comes_free p.reads (λ u mu q q' o writes reads.
        elim (adds u mu) [
          | inl s ↦ twin_free s.0 (h s.0 s.1 (follows_writer p s.0 q reads (sym (s.2.is_twin.writes.images q q' o) ∙ writes))) u s.2
          | inr s ↦ none_some (m.origin q') (s.is_copy.writes q' writes) o
        ]) (twin.by_reads b mb f) mb)

    pub target_free : (t : Process) → Member e.combs t → Free e.combs t
    target_free t mt =
        elim (adds t mt) [
          | inl s ↦ twin_free s.0 (all_free s.0 s.1) t s.2
          | inr s ↦ comes_free s.sources (λ u mu q q' o writes reads.
              elim (adds u mu) [
                | inl r ↦ twin_free r.0 (all_free r.0 r.1) u r.2
                | inr r ↦ none_some (m.origin q') (r.is_copy.writes q' writes) o
              ]) s.comes mt
        ]
