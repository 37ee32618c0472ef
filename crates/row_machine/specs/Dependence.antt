-- The processes of a target depend on each other no more than those of its source: copies add nothing.
use Rattle.std.specs.Prelude.{◌≡◌, ◌⊎◌, true, List, Some}
use Rattle.row_machine.specs.Valuation.{Place, Member, has}
use Rattle.row_machine.specs.Machine.{Process, Machine}
use Rattle.row_machine.specs.Order.{follows}
use Rattle.row_machine.specs.Agreement.{Map, Twin, Copy}

module _ (m : Map) (d e : Machine) where
  -- the target process writes the image of one of the source bits, or all that it follows comes from them
  pub data ComesFrom (sources : List Place) : Process → Type 0 where
    writes_image : {t : Process} (q q' : Place) → m.origin q' ≡ Some q → has t.writes q' ≡ true → has sources q ≡ true → ComesFrom sources t
    stands_behind : {t : Process} → ((b : Process) → Member e.combs b → follows t b ≡ true → ComesFrom sources b) → ComesFrom sources t

  -- what a twin follows comes from what its source process reads
  pub record FollowsReads (p t : Process) : Type 0 where
    pub is_twin : Twin m d e p t
    pub by_reads : (b : Process) → Member e.combs b → follows t b ≡ true → ComesFrom p.reads b

  -- a copy comes from some source bits
  pub record FollowsSources (t : Process) : Type 0 where
    pub is_copy : Copy m t
    pub sources : List Place
    pub comes : ComesFrom sources t

  abbrev pub AddsNoDependence : Type 0
  AddsNoDependence = (t : Process) → Member e.combs t → ((p : Process) × Member d.combs p × FollowsReads p t) ⊎ FollowsSources t
