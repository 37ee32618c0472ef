use Rattle.std.proofs.Common.{◌≡◌, List, refl, rules, subst}
use Rattle.std.specs.Prelude.{Result, Err}
use Rattle.b4_core.specs.declared.bit.Bit4.{Bit4}
use Rattle.expr_type.specs.declared.halt.Halt.{Halt}
use Rattle.expr_type.specs.declared.halt.Halt.TheVariants as H
use Rattle.typing_scopes.specs.Scopes.{context_of}
use Rattle.typing_steps.specs.Steps.{TypesTo}
use Rattle.typing_declarations.specs.Naming.{as_named, name_of}
use Rattle.typing_declarations.proofs.Rows.{breaks-reach, lost-reaches, put-reaches}
use Rattle.typing_declarations.proofs.enum_names.next_name.Goals as goal

pub returns-in_ok-put-in-Ok-clause-value : goal.returns-in_ok-put-in-Ok-clause-value
returns-in_ok-put-in-Ok-clause-value g c ns row so =
    put-reaches (context_of g.B.Names.context c.args.names.now) (context_of g.B.Names.context c.declare.new.names) c.args.base.now c.args.met.now c.put.new.met c.args.name.now c.in-Ok.bits _ ns row
    c.args.known.now.functions c.name_value.new.known.functions refl c.in_ok-declare-in-Ok.ensures.context c.in_ok-put-in-Ok.ensures.names c.in_ok-put-in-Ok.ensures.lost c.in_ok-put-in-Ok.ensures.quiet c.in-Ok.ensures.value so

pub returns-in-Err-Breaks-clause-value : goal.returns-in-Err-Breaks-clause-value
returns-in-Err-Breaks-clause-value g c ns row so =
    let k = context_of g.B.Names.context c.args.names.now in
    let t = c.args.base.now in
    let n = c.args.name.now in
    let fs = c.args.known.now.functions in
    let gs = c.name_value.new.known.functions in
    let is : c.name_value.result ≡ Err (H.Breaks c.in-Err-Breaks.at c.in-Err-Breaks.rule) = search rules in
    let stop : c.in-Err-Breaks.field-0 ≡ H.Breaks c.in-Err-Breaks.at c.in-Err-Breaks.rule = cc (c.in-Err-Breaks.field-0-is) in
    rw stop
    (breaks-reach k t c.args.met.now n ns c.in-Err-Breaks.at c.in-Err-Breaks.rule row fs gs
    (subst (λ (r : Result (List Bit4) Halt). TypesTo (as_named t n.name r) (name_of k t c.args.met.now n fs) gs) is c.name_value.ensures.value) so)

pub returns-in-Err-Quiet-clause-value : goal.returns-in-Err-Quiet-clause-value
returns-in-Err-Quiet-clause-value g c ns row so =
    let k = context_of g.B.Names.context c.args.names.now in
    let t = c.args.base.now in
    let n = c.args.name.now in
    let fs = c.args.known.now.functions in
    let gs = c.name_value.new.known.functions in
    let is : c.name_value.result ≡ Err H.Quiet = search rules in
    lost-reaches k t c.args.met.now n ns row fs gs
    (subst (λ (r : Result (List Bit4) Halt). TypesTo (as_named t n.name r) (name_of k t c.args.met.now n fs) gs) is c.name_value.ensures.value) so
