use Rattle.std.proofs.Common.{◌+◌, ◌*◌, map, drop}
use Rattle.sv_types.specs.declared.expression.Form.{out-Form}
use Rattle.sv_types.specs.Layouts.{layout}
use Rattle.v_build.specs.Trees.{meanings}
use Rattle.eval_parts.proofs.Nodes.{nodes}
use Rattle.eval_forms.specs.Asked.{asked, form_asked, AllFitAsked}
use Rattle.eval_forms.specs.Callees.{formals_in}
use Rattle.eval_forms.proofs.AskedLaws.{AllFewer}
use Rattle.path_flatten.specs.Helping.{Grows}
use Rattle.expr_lower.specs.Leaves.{IsLowered}
use Rattle.expr_lower.proofs.AskedLeaves.{EachAsked}
use Rattle.expr_lower.proofs.Asking.{Made}
use Rattle.expr_lower.proofs.lowering.+lower.Given as goal

abbrev pub decreases-lower : goal.decreases-lower
decreases-lower l = 6 * nodes l.e.now + 4

abbrev pub decreases-path : goal.decreases-path
decreases-path l = 6 * nodes l.e.now + 3

abbrev pub decreases-find : goal.decreases-find
decreases-find l = 6 * nodes l.e.now + 5

abbrev pub decreases-follow : goal.decreases-follow
decreases-follow l = 6 * nodes l.e.now + 2

abbrev pub decreases-element : goal.decreases-element
decreases-element l = 6 * nodes l.e.now + 1

abbrev pub decreases-word : goal.decreases-word
decreases-word l = 6 * nodes l.e.now

abbrev pub decreases-selected : goal.decreases-selected
decreases-selected l = 6 * nodes l.e.now

abbrev pub decreases-slid : goal.decreases-slid
decreases-slid l = 6 * nodes l.e.now

abbrev pub decreases-index : goal.decreases-index
decreases-index l = 6 * nodes l.i.now + 5

abbrev pub decreases-parts : goal.decreases-parts
decreases-parts l = 6 * nodes l.e.now + 3

abbrev pub decreases-answer : goal.decreases-answer
decreases-answer l = 6 * nodes l.operand.of.now + 5

abbrev pub invariant-parts-loop-operand : goal.invariant-parts-loop-operand
invariant-parts-loop-operand l =
    let all = form_asked (layout l.e.of) (formals_in l.functions) l.width l.signed (out-Form l.e.form) in
    let qs = map asked (drop l.operand-index l.operand-items) in
    record {
      fits : AllFitAsked (formals_in l.functions) qs;
      fewer : AllFewer (nodes l.e) qs;
      built : EachAsked IsLowered qs;
      grows : Grows l.initial.helpers l.helpers;
      made : Made l.names l.functions l.helpers qs all (meanings l.made);
    }
