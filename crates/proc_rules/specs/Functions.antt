-- The least tokens of a function, and the breaks of functions.
use Rattle.std.specs.Prelude.{◌≡◌, ℕ, true, false, List, ◌++◌, length, flat_map, slice_get, Option, Some, None}
use Rattle.sv_types.specs.declared.design.Design.{Design}
use Rattle.sv_types.specs.declared.statement.Function.{Function}
use Rattle.flow_sets.specs.declared.found.Found.{Found}
use Rattle.flow_sets.specs.Flows.{IsFlow}
use Rattle.design_breaks.specs.declared.Break.{Break}
use Rattle.design_breaks.specs.Breaks as B
use Rattle.function_breaks.specs.Early as E
use Rattle.least_breaks.specs.Least.{IsLeastToken}
use Rattle.proc_rules.specs.declared.bodies.Loops.{Loops}
use Rattle.proc_rules.specs.declared.functions.OwedTokens.{OwedTokens}
use Rattle.proc_rules.specs.Processes.{IsLoops}

module _ (d : Design) where
  pub record AreOwedTokens (f : Function) (t : OwedTokens) : Type 0 where
    pub left : IsLeastToken (B.result_left_out d f) t.left
    pub early : IsLeastToken (E.result_early d f) t.early
    pub local : IsLeastToken (E.local_early d f) t.local

  -- what is found of a body, if it can be unrolled
  abbrev pub IsBodyOf : Function → Option Found → Type 0
  IsBodyOf f None = B.unrolls d f.body ≡ false
  IsBodyOf f (Some g) = (B.unrolls d f.body ≡ true) × IsFlow g (B.function_flow d f)

  pub record AreBodies (found : List (Option Found)) : Type 0 where
    pub count : length found ≡ length d.functions
    pub each : (n : ℕ) (f : Function) (g : Option Found) → slice_get d.functions n ≡ Some f → slice_get found n ≡ Some g → IsBodyOf f g

  pub record AreFunctionLoops (ls : List Loops) : Type 0 where
    pub count : length ls ≡ length d.functions
    pub each : (n : ℕ) (f : Function) (l : Loops) → slice_get d.functions n ≡ Some f → slice_get ls n ≡ Some l → IsLoops d f.body l

  abbrev pub function_breaks_at : Function → List Break
  function_breaks_at f =
      let i = f.instance in
      B.at_each i 603 (B.result_left_out d f)
      ++ (B.at_each i 604 (E.local_early d f)
      ++ (B.at_each i 604 (E.result_early d f)
      ++ (B.at_each i 606 (B.deferred d false f.body)
      ++ (B.at_each i 608 (B.endless_of d f.body)
      ++ B.at_each i 703 (B.too_long d f.body f.spot.at)))))

  abbrev pub called_breaks : List Break
  called_breaks = flat_map (B.function_breaks d) (B.numbered d 0 d.functions)
