-- The least tokens of a process, and its breaks but for those of two writers.
use Rattle.std.specs.Prelude.{◌≡◌, ℕ, cond, List, [], ◌∷◌, ◌++◌, length, slice_get, Option, Some, None}
use Rattle.sv_types.specs.declared.design.Design.{Design}
use Rattle.sv_types.specs.declared.design.Process.{Process}
use Rattle.sv_types.specs.declared.statement.Stmt.{Stmt}
use Rattle.design_breaks.specs.declared.Break.{Break}
use Rattle.design_breaks.specs.Memories.{is_edged}
use Rattle.design_breaks.specs.Breaks as B
use Rattle.least_breaks.specs.Least.{IsLeastToken}
use Rattle.proc_rules.specs.declared.bodies.Loops.{Loops}
use Rattle.proc_rules.specs.declared.bits.BitTokens.{BitTokens}

abbrev pub long_token : Loops → ℕ → Option ℕ
long_token l at = cond l.too_long (Some at) None

module _ (d : Design) where
  pub record AreBitTokens (p : Process) (t : BitTokens) : Type 0 where
    pub drives : IsLeastToken (B.drives_a_value d p) t.drives
    pub left : IsLeastToken (B.left_out d p) t.left
    pub early : IsLeastToken (B.read_early d p) t.early
    pub local : IsLeastToken (B.local_early d p) t.local
    pub input : IsLeastToken (B.writes_input d p) t.input

  -- how a body breaks the rules on loops
  pub record IsLoops (s : Stmt) (l : Loops) : Type 0 where
    pub endless : IsLeastToken (B.endless_of d s) l.endless
    pub too_long : (at : ℕ) → B.too_long d s at ≡ B.only_if l.too_long (at ∷ [])

  pub record AreLoops (ls : List Loops) : Type 0 where
    pub count : length ls ≡ length d.processes
    pub each : (n : ℕ) (p : Process) (l : Loops) → slice_get d.processes n ≡ Some p → slice_get ls n ≡ Some l → IsLoops p.body l

  abbrev pub own_breaks : Process → List Break
  own_breaks p =
      let i = p.instance in
      B.at_each i 601 (B.drives_a_value d p)
      ++ (B.at_each i 603 (B.left_out d p)
      ++ (B.at_each i 604 (B.read_early d p)
      ++ (B.at_each i 604 (B.local_early d p)
      ++ (B.at_each i 605 (B.at_once d p)
      ++ (B.at_each i 606 (B.deferred d (is_edged p.kind) p.body)
      ++ (B.at_each i 607 (B.unfit_edges d p)
      ++ (B.at_each i 608 (B.endless_of d p.body)
      ++ (B.at_each i 611 (B.writes_input d p)
      ++ B.at_each i 703 (B.too_long d p.body p.spot.at)))))))))
