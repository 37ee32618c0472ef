-- A design that breaks no rule on processes and has an order runs in that order, and in one way alone.
use Rattle.std.proofs.Common.{◌≡◌, ℕ, List, None, Result, Ok, Err}
use Rattle.std.specs.Prelude.{IfOk}
use Rattle.row_machine.specs.Valuation.{OneWriter}
use Rattle.row_machine.specs.Machine as M
use Rattle.row_machine.specs.Order.{IsOrder}
use Rattle.sv_source.specs.declared.refusal.Fail.{Fail}
use Rattle.sv_types.specs.declared.design.Design.{Design}
use Rattle.sv_types.specs.declared.design.Process.{Process}
use Rattle.sv_types.specs.Machine.{machine}
use Rattle.design_breaks.specs.Breaks.{breaks, least_of}
use Rattle.design_breaks.specs.Circles.{IsStuck}
use Rattle.break_laws.specs.Shapes.{Shaped}
use Rattle.break_laws.proofs.Standing.{has-trace}
use Rattle.comb_order.specs.Combs.{combs_at}
use Rattle.design_order.specs.Running.{RunsIn}

pub runs-in : (d : Design) (order : List ℕ) → least_of (breaks d) ≡ None → ((p : Process) → IsStuck d p → ⊥)
    → (OneWriter (λ (p : M.Process). p.writes) (machine d).combs → IsOrder (machine d).combs (combs_at d order)) → Shaped d → RunsIn d order
runs-in d order none free runs s =
    let one = has-trace d s (record { processes = none; order = free }) in
    record { sound = one.0; runs = runs one.0.one_writer; one_trace = one.1 }

pub ok-runs-in : (d : Design) (r : Result (List ℕ) Fail) → least_of (breaks d) ≡ None → IfOk r (λ o. (p : Process) → IsStuck d p → ⊥)
    → IfOk r (λ o. OneWriter (λ (p : M.Process). p.writes) (machine d).combs → IsOrder (machine d).combs (combs_at d o)) → IfOk r (λ o. Shaped d → RunsIn d o)
ok-runs-in d (Ok o) none free runs = runs-in d o none free runs
ok-runs-in d (Err e) none free runs = tt
