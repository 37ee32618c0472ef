use Rattle.std.proofs.Common.{◌≡◌, ℕ, Err, ap, sym, ◌∙◌, subst}
use Rattle.std.proofs.lemmas.Result.{err_from_is_err_and}
use Rattle.sv_tree.specs.declared.expressions.Pattern.TheVariants as P
use Rattle.expr_type.specs.declared.halt.Halt.TheVariants as H
use Rattle.typing_steps.specs.Steps.{StopsBy, TypesTo}
use Rattle.typing_parts.specs.Operands.{as_operand}
use Rattle.typing_parts.proofs.Keeping.{extends-then}
use Rattle.typing_values.specs.Numbers.{count_of}
use Rattle.typing_patterns.specs.Written.{pattern_by}
use Rattle.typing_patterns.proofs.Among.{can-count}
use Rattle.typing_patterns.proofs.Placing.{items-make, values-behind, values-make, values-stop}
use Rattle.typing_patterns.proofs.patterns.pattern.Goals as goal

pub count-requires-clause-can : goal.count-requires-clause-can
count-requires-clause-can g c =
    let form : c.args.of.now ≡ P.Replication c.get.result.now c.in-Replication.opening c.in-Replication.items c.in-Replication.closing = cc (c.in-Replication.is, c.get.ensures) in
    can-count _ _ _ _ _ _ _ c.args.of.now c.get.result.now c.in-Replication.opening c.in-Replication.closing c.in-Replication.items form c.requires.can

pub returns-in_err-items-in-Ok-clause-value : goal.returns-in_err-items-in-Ok-clause-value
returns-in_err-items-in-Ok-clause-value g c =
    let k = g.S.Names.context c.args.names.now in
    let form : c.args.of.now ≡ P.Replication c.get.result.now c.in-Replication.opening c.as_slice-in-Ok.result.now c.in-Replication.closing = cc (c.in-Replication.is, c.get.ensures, c.as_slice-in-Ok.ensures) in
    let e = err_from_is_err_and c.from_residual-in_err-items-in-Ok.result c.from_residual-in_err-items-in-Ok.ensures.1 in
    subst (λ r. TypesTo (as_operand k.source r) (pattern_by k c.args.tick c.args.of.now c.args.known.now.functions) c.repeated.new.known.functions) (sym (e.1 ∙ ap Err e.2))
    (values-stop k c.args.tick c.args.known.now.functions c.repeated.new.known.functions c.args.of.now c.get.result.now c.in-Replication.opening c.in-Replication.closing c.as_slice-in-Ok.result.now c.in-Ok.times
    c.in_err-items-in-Ok.field-0.0 c.count.new.known.functions form c.in-Ok.ensures.value c.in_err-items-in-Ok.ensures.value)

pub returns-in_ok-items-in-Items-clause-value : goal.returns-in_ok-items-in-Items-clause-value
returns-in_ok-items-in-Items-clause-value g c =
    let k = g.S.Names.context c.args.names.now in
    let form : c.args.of.now ≡ P.Items c.as_slice.result.now = cc (c.in-Items.is, c.as_slice.ensures) in
    items-make k c.args.tick c.args.known.now.functions c.written.new.known.functions c.args.of.now c.as_slice.result.now c.in_ok-items-in-Items.items form c.in_ok-items-in-Items.ensures.value
    c.in_ok-items-in-Items.ensures.found

pub returns-in_ok-items-in-Ok-clause-value : goal.returns-in_ok-items-in-Ok-clause-value
returns-in_ok-items-in-Ok-clause-value g c =
    let k = g.S.Names.context c.args.names.now in
    let form : c.args.of.now ≡ P.Replication c.get.result.now c.in-Replication.opening c.as_slice-in-Ok.result.now c.in-Replication.closing = cc (c.in-Replication.is, c.get.ensures, c.as_slice-in-Ok.ensures) in
    values-make k c.args.tick c.args.known.now.functions c.repeated.new.known.functions c.args.of.now c.get.result.now c.in-Replication.opening c.in-Replication.closing c.as_slice-in-Ok.result.now c.in-Ok.times
    c.in_ok-items-in-Ok.items c.count.new.known.functions form c.in-Ok.ensures.value c.in_ok-items-in-Ok.ensures.value c.in_ok-items-in-Ok.ensures.placed

pub returns-in-Err-Quiet-clause-value : goal.returns-in-Err-Quiet-clause-value
returns-in-Err-Quiet-clause-value g c =
    let k = g.S.Names.context c.args.names.now in
    let form : c.args.of.now ≡ P.Replication c.get.result.now c.in-Replication.opening c.as_slice-in-Err-Quiet.result.now c.in-Replication.closing =
    cc (c.in-Replication.is, c.get.ensures, c.as_slice-in-Err-Quiet.ensures) in
    let stop : c.in-Err-Quiet.field-0 ≡ H.Quiet = cc (c.in-Err-Quiet.field-0-is) in
    let quiet : TypesTo {A = ℕ} (Err H.Quiet) (count_of k c.get.result.now c.args.known.now.functions) c.count.new.known.functions =
    subst (λ h. StopsBy {A = ℕ} h (count_of k c.get.result.now c.args.known.now.functions) c.count.new.known.functions) stop c.in-Err-Quiet.ensures.value in
    subst (λ h. StopsBy h (pattern_by k c.args.tick c.args.of.now c.args.known.now.functions) c.repeated-items.new.known.functions) (sym c.behind_quiet.ensures)
    (values-behind k c.args.tick c.args.known.now.functions c.repeated-items.new.known.functions c.args.of.now c.get.result.now c.in-Replication.opening c.in-Replication.closing c.as_slice-in-Err-Quiet.result.now
    c.repeated-items.result c.count.new.known.functions form quiet c.repeated-items.ensures.value)

pub returns-in_err-items-in-Ok-clause-keeps : goal.returns-in_err-items-in-Ok-clause-keeps
returns-in_err-items-in-Ok-clause-keeps g c = extends-then _ _ _ c.count.ensures.keeps c.repeated.ensures.keeps

pub returns-in_ok-items-in-Ok-clause-keeps : goal.returns-in_ok-items-in-Ok-clause-keeps
returns-in_ok-items-in-Ok-clause-keeps g c = extends-then _ _ _ c.count.ensures.keeps c.repeated.ensures.keeps

pub returns-in-Err-Quiet-clause-keeps : goal.returns-in-Err-Quiet-clause-keeps
returns-in-Err-Quiet-clause-keeps g c = extends-then _ _ _ c.count.ensures.keeps c.repeated-items.ensures.keeps
