use Rattle.std.proofs.Common.{List, map, ap}
use Rattle.std.specs.Prelude.{flat_map}
use Rattle.v_tree.specs.declared.expressions.VSel.{VSel}
use Rattle.v_tree.specs.declared.statements.VLval.{VLval}
use Rattle.v_meaning.specs.Statements.{Target, target}
use Rattle.v_meaning.specs.Values.{sel_meaning, sel_reads}
use Rattle.v_eval.specs.Scopes.{scope_of}
use Rattle.v_reads.proofs.Sets.{adds-equal}
use Rattle.v_reads.proofs.Targets.{name-added, concat-added}
use Rattle.v_reads.proofs.statements.+targets.Goals as goal

pub lval_reads-returns-in_ok-sels_reads-in-Name : goal.lval_reads-returns-in_ok-sels_reads-in-Name
lval_reads-returns-in_ok-sels_reads-in-Name t c =
    name-added c.args.lval.now c.in-Name.name c.in-Name.sels c.args.to.now c.sels_reads.new.to (scope_of c.args.scope) c.in-Name.is
    (adds-equal c.args.to.now c.sels_reads.new.to _ _ c.in_ok-sels_reads-in-Name.ensures (ap (λ (ss : List VSel). sel_reads (map sel_meaning ss) (scope_of c.args.scope)) c.as_slice.ensures))

pub lval_reads-returns-in_ok-lvals_reads-in-Concat : goal.lval_reads-returns-in_ok-lvals_reads-in-Concat
lval_reads-returns-in_ok-lvals_reads-in-Concat t c =
    concat-added c.args.lval.now c.in-Concat.parts c.args.to.now c.lvals_reads.new.to (scope_of c.args.scope) c.in-Concat.is
    (adds-equal c.args.to.now c.lvals_reads.new.to _ _ c.in_ok-lvals_reads-in-Concat.ensures
    (ap (λ (ts : List VLval). flat_map (λ (u : Target). u.reads (scope_of c.args.scope)) (map target ts)) c.as_slice-in-Concat.ensures))
