-- What loops add to an unrolled list.
use Rattle.std.specs.Prelude.{◌≡◌, ℕ, List, Option, Some, None}
use Rattle.sv_types.specs.declared.statement.Local.{Local}
use Rattle.sv_types.specs.declared.statement.Stmt.{Stmt}
use Rattle.eval_forms.specs.Callees.{formals_in}
use Rattle.eval_stmts.specs.declared.controls.Control.{Control}
use Rattle.expr_flows.specs.declared.known.Known.{Known}
use Rattle.expr_flows.specs.Known.{sight}
use Rattle.design_breaks.specs.declared.Unrolled.{Unrolled}
use Rattle.design_breaks.specs.Unrolling as U
use Rattle.design_breaks.specs.Actions as A
use Rattle.design_breaks.specs.Actions.{actions}
use Rattle.loop_laws.specs.Walks.{Formals, one_more, unrolls_of, walk, walk_before}
use Rattle.loop_rules.specs.Counted.{control_at}

-- a loop, unless the list stopped before
abbrev pub LoopIs : Known → Control → ℕ → Stmt → Unrolled → Unrolled → Type 0
LoopIs k c at body u r =
    let fs = formals_in k.functions.now in
    r ≡ U.onward (λ h v. U.looping (A.is_counted (control_at at c) (actions body) fs h) (control_at at c) (unrolls_of fs body) h v) (sight k) u

-- where more statements may stand
abbrev pub OpenIs : Known → Control → ℕ → Stmt → Unrolled → Unrolled → Type 0
OpenIs k c at body u r =
    let fs = formals_in k.functions.now in
    r ≡ U.looping (A.is_counted (control_at at c) (actions body) fs (sight k)) (control_at at c) (unrolls_of fs body) (sight k) u

-- one whose variable has its first value
abbrev pub EnteredIs : Known → Control → ℕ → Stmt → Unrolled → Unrolled → Type 0
EnteredIs k c at body u r =
    let h = U.given (control_at at c) c.first.now (sight k) in
    r ≡ U.unless_found (U.lasting 65536 (control_at at c) h) (λ j w. U.turns 65536 (control_at at c) (unrolls_of (formals_in k.functions.now) body) h w) (sight k) u

-- what stands for a replaced call
abbrev pub walk_made : Formals → List Local → List Stmt → Option Stmt → U.Unrolls
walk_made fs ls before None k u = walk_before fs ls before k (one_more u)
walk_made fs ls before (Some b) k u = walk fs b k (walk_before fs ls before k u)
