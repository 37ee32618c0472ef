use Rattle.std.proofs.Common.{List, ◌++◌, map, ap, ◌∙◌}
use Rattle.std.specs.Prelude.{flat_map}
use Rattle.v_tree.specs.declared.expressions.VSel.{VSel}
use Rattle.v_tree.specs.declared.statements.VLval.{VLval}
use Rattle.v_meaning.specs.Values.{sel_meaning, use_of}
use Rattle.v_meaning.specs.Statements.{Target, target}
use Rattle.v_eval.specs.Paths.{named_or_not}
use Rattle.v_eval.specs.Scopes.{scope_of}
use Rattle.v_writes.specs.Writes.{use_in}
use Rattle.v_writes.proofs.Uses.{name-added, concat-added}
use Rattle.v_writes.proofs.targets.+targets.Goals as goal

pub lval_writes-returns-in_ok-push-in-Name : goal.lval_writes-returns-in_ok-push-in-Name
lval_writes-returns-in_ok-push-in-Name g t c =
    name-added c.args.lval.now c.in-Name.name c.in-Name.sels c.find-named.result c.in_ok-name_writes-in-Name.field-0 c.args.to.now c.push.new.self c.args.scope c.in-Name.is c.in_ok-push-in-Name.ensures.ok
    (c.in_ok-name_writes-in-Name.ensures ∙ ap (λ (ss : List VSel). use_of (named_or_not c.find-named.result) (map sel_meaning ss) (scope_of c.args.scope)) c.as_slice.ensures) c.find-named.ensures

pub lval_writes-returns-in_ok-lvals_writes-in-Concat : goal.lval_writes-returns-in_ok-lvals_writes-in-Concat
lval_writes-returns-in_ok-lvals_writes-in-Concat g t c =
    concat-added c.args.lval.now c.in-Concat.parts (map use_in c.args.to.now) (map use_in c.lvals_writes.new.to) (scope_of c.args.scope) c.in-Concat.is
    (c.in_ok-lvals_writes-in-Concat.ensures ∙ ap (λ (ts : List VLval). map use_in c.args.to.now ++ flat_map (λ (u : Target). u.writes (scope_of c.args.scope)) (map target ts)) c.as_slice-in-Concat.ensures)
