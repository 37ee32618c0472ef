use Rattle.std.proofs.Common.{List, ◌++◌, map, ap, ◌∙◌}
use Rattle.std.specs.Prelude.{flat_map}
use Rattle.v_tree.specs.declared.expressions.VSel.{VSel}
use Rattle.v_tree.specs.declared.statements.VLval.{VLval}
use Rattle.v_meaning.specs.Statements.{Target, target}
use Rattle.v_meaning.specs.Values.{sel_meaning, sel_names}
use Rattle.v_eval.specs.Scopes.{scope_of}
use Rattle.v_names.proofs.Targets.{name-added, concat-added}
use Rattle.v_names.proofs.statements.+targets.Goals as goal

pub lval_names-returns-in_ok-sels_names-in-Name : goal.lval_names-returns-in_ok-sels_names-in-Name
lval_names-returns-in_ok-sels_names-in-Name t c =
    name-added c.args.lval.now c.in-Name.name c.in-Name.sels c.args.to.now c.sels_names.new.to (scope_of c.args.scope) c.in-Name.is
    (c.in_ok-sels_names-in-Name.ensures ∙ ap (λ (ss : List VSel). c.args.to.now ++ sel_names (map sel_meaning ss) (scope_of c.args.scope)) c.as_slice.ensures)

pub lval_names-returns-in_ok-lvals_names-in-Concat : goal.lval_names-returns-in_ok-lvals_names-in-Concat
lval_names-returns-in_ok-lvals_names-in-Concat t c =
    concat-added c.args.lval.now c.in-Concat.parts c.args.to.now c.lvals_names.new.to (scope_of c.args.scope) c.in-Concat.is
    (c.in_ok-lvals_names-in-Concat.ensures ∙ ap (λ (ts : List VLval). c.args.to.now ++ flat_map (λ (u : Target). u.names (scope_of c.args.scope)) (map target ts)) c.as_slice-in-Concat.ensures)
