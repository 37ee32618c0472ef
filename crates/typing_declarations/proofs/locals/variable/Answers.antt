use Rattle.std.proofs.Common.{◌≡◌, List, Ok, Err, ap, sym, ◌∙◌, subst}
use Rattle.std.specs.Prelude.{Result}
use Rattle.std.specs.Option.{option_copied}
use Rattle.std.proofs.lemmas.Result.{err_from_is_err_and}
use Rattle.expr_type.specs.declared.halt.Halt.{Halt}
use Rattle.expr_type.specs.declared.halt.Halt.TheVariants as H
use Rattle.expr_type.specs.Statements.{Declared, local_type, variable}
use Rattle.expr_type.specs.Types.{declared_type}
use Rattle.sv_tree.specs.declared.expressions.Dimension.{Dimension}
use Rattle.sv_types.specs.declared.types.SvType.{SvType}
use Rattle.typing_calls.specs.Lists.{as_meant}
use Rattle.typing_scopes.specs.Scopes.{context_of}
use Rattle.typing_steps.specs.Steps.{StopsBy, TypesTo}
use Rattle.typing_declarations.specs.declared.block.Part.{Part}
use Rattle.typing_declarations.specs.Blocks.{declares}
use Rattle.typing_declarations.proofs.Making.{variable-breaks, variable-quiet, variable-whole}
use Rattle.typing_declarations.proofs.locals.variable.Goals as goal

pub returns-in_err-initial-in-Ok-clause-value : goal.returns-in_err-initial-in-Ok-clause-value
returns-in_err-initial-in-Ok-clause-value g c =
    let k = context_of g.B.Names.context c.args.names.now in
    let of = option_copied c.args.of in
    let d = c.args.d.now in
    let fs = c.args.known.now.functions in
    let gs = c.type_of_local.new.known.functions in
    let is : c.as_slice-unpacked.result.now ≡ d.unpacked = cc (c.as_slice-unpacked.ensures) in
    let hs = c.initial_value.new.known.functions in
    let e = err_from_is_err_and c.from_residual.result c.from_residual.ensures.1 in
    let of_type : TypesTo {A = SvType} (Ok c.in-Ok.t) (local_type k d.name (declared_type k of d.unpacked) fs) gs =
    subst (λ (ds : List Dimension). TypesTo {A = SvType} (Ok c.in-Ok.t) (local_type k d.name (declared_type k of ds) fs) gs) is c.in-Ok.ensures.value in
    subst (λ (r : Result Part Halt). TypesTo (as_meant declares r) (variable of d k fs) hs) (sym (e.1 ∙ ap Err e.2))
    (variable-whole k of d fs gs hs c.in-Ok.t (Err c.in_err-initial-in-Ok.field-0.0) of_type c.in_err-initial-in-Ok.ensures.value)

pub returns-in_ok-local_of-in-Ok-clause-value : goal.returns-in_ok-local_of-in-Ok-clause-value
returns-in_ok-local_of-in-Ok-clause-value g c =
    let k = context_of g.B.Names.context c.args.names.now in
    let of = option_copied c.args.of in
    let d = c.args.d.now in
    let fs = c.args.known.now.functions in
    let gs = c.type_of_local.new.known.functions in
    let is : c.as_slice-unpacked.result.now ≡ d.unpacked = cc (c.as_slice-unpacked.ensures) in
    let hs = c.initial_value.new.known.functions in
    let of_type : TypesTo {A = SvType} (Ok c.in-Ok.t) (local_type k d.name (declared_type k of d.unpacked) fs) gs =
    subst (λ (ds : List Dimension). TypesTo {A = SvType} (Ok c.in-Ok.t) (local_type k d.name (declared_type k of ds) fs) gs) is c.in-Ok.ensures.value in
    subst (λ (x : Declared). TypesTo (Ok x) (variable of d k fs) hs) (sym c.in_ok-local_of-in-Ok.ensures)
    (variable-whole k of d fs gs hs c.in-Ok.t (Ok c.in_ok-initial-in-Ok.initial) of_type c.in_ok-initial-in-Ok.ensures.value)

pub returns-in-Err-Quiet-clause-value : goal.returns-in-Err-Quiet-clause-value
returns-in-Err-Quiet-clause-value g c =
    let k = context_of g.B.Names.context c.args.names.now in
    let of = option_copied c.args.of in
    let d = c.args.d.now in
    let fs = c.args.known.now.functions in
    let gs = c.type_of_local.new.known.functions in
    let is : c.as_slice-unpacked.result.now ≡ d.unpacked = cc (c.as_slice-unpacked.ensures) in
    let stop : c.in-Err-Quiet.field-0 ≡ H.Quiet = c.in-Err-Quiet.field-0-is in
    let halted : StopsBy {A = SvType} c.in-Err-Quiet.field-0 (local_type k d.name (declared_type k of d.unpacked) fs) gs =
    subst (λ (ds : List Dimension). StopsBy {A = SvType} c.in-Err-Quiet.field-0 (local_type k d.name (declared_type k of ds) fs) gs) is c.in-Err-Quiet.ensures.value in
    let quiet : TypesTo {A = SvType} (Err H.Quiet) (local_type k d.name (declared_type k of d.unpacked) fs) gs =
    subst (λ (h : Halt). StopsBy {A = SvType} h (local_type k d.name (declared_type k of d.unpacked) fs) gs) stop halted in
    variable-quiet k of d fs gs c.looked_at.new.known.functions c.looked_at.result quiet c.looked_at.ensures.value

pub returns-in-Err-Breaks-clause-value : goal.returns-in-Err-Breaks-clause-value
returns-in-Err-Breaks-clause-value g c =
    let k = context_of g.B.Names.context c.args.names.now in
    let of = option_copied c.args.of in
    let d = c.args.d.now in
    let fs = c.args.known.now.functions in
    let gs = c.type_of_local.new.known.functions in
    let is : c.as_slice-unpacked.result.now ≡ d.unpacked = cc (c.as_slice-unpacked.ensures) in
    let stop : c.in-Err-Breaks.field-0 ≡ H.Breaks c.in-Err-Breaks.at c.in-Err-Breaks.rule = c.in-Err-Breaks.field-0-is in
    let halted : StopsBy {A = SvType} c.in-Err-Breaks.field-0 (local_type k d.name (declared_type k of d.unpacked) fs) gs =
    subst (λ (ds : List Dimension). StopsBy {A = SvType} c.in-Err-Breaks.field-0 (local_type k d.name (declared_type k of ds) fs) gs) is c.in-Err-Breaks.ensures.value in
    let breaks : TypesTo {A = SvType} (Err (H.Breaks c.in-Err-Breaks.at c.in-Err-Breaks.rule)) (local_type k d.name (declared_type k of d.unpacked) fs) gs =
    subst (λ (h : Halt). StopsBy {A = SvType} h (local_type k d.name (declared_type k of d.unpacked) fs) gs) stop halted in
    variable-breaks k of d fs gs gs c.in-Err-Breaks.at c.in-Err-Breaks.rule breaks
