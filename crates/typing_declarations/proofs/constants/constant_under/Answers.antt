use Rattle.std.proofs.Common.{◌≡◌, List, Option, Ok, Err, sym, subst}
use Rattle.std.specs.Prelude.{Result}
use Rattle.sv_tree.specs.declared.expressions.Dimension.{Dimension}
use Rattle.expr_type.specs.declared.halt.Halt.{Halt}
use Rattle.expr_type.specs.declared.halt.Halt.TheVariants as H
use Rattle.expr_type.specs.Statements.{WrittenType, by_dimensions, with_dimensions}
use Rattle.routine_fits.specs.Sound.{AllSoundFunctions}
use Rattle.stmt_laws.proofs.Declared.{dimensions-keep}
use Rattle.typing_calls.specs.Lists.{as_meant}
use Rattle.typing_fits.proofs.Full.{and-left}
use Rattle.typing_scopes.specs.Scopes.{context_of}
use Rattle.typing_steps.specs.Steps.{StopsBy, TypesTo}
use Rattle.typing_walks.specs.WrittenTypes.{dims_written, initial_written}
use Rattle.typing_declarations.specs.Declaring.{as_value}
use Rattle.typing_declarations.specs.Kinds.{written_of}
use Rattle.typing_declarations.proofs.FoundTypes.{full-then}
use Rattle.typing_declarations.proofs.Making.{mapped-same, under-breaks, under-quiet, under-whole}
use Rattle.typing_declarations.proofs.constants.constant_under.Goals as goal

pub constant-requires-clause-full : goal.constant-requires-clause-full
constant-requires-clause-full g c =
    let k = context_of g.B.Names.context c.args.names.now in
    let d = c.args.d.now in
    let t = written_of c.args.t.now in
    let fs = c.args.known.now.functions in
    let gs = c.with_dimensions.new.known.functions in
    let is : c.as_slice.result.now ≡ d.unpacked = cc (c.as_slice.ensures) in
    let of_type : TypesTo (Ok (written_of c.in-Ok.u)) (with_dimensions k t d.unpacked fs) gs =
    subst (λ (ds : List Dimension). TypesTo (Ok (written_of c.in-Ok.u)) (with_dimensions k t ds fs) gs) is c.in-Ok.ensures.value in
    let w = and-left (dims_written d.unpacked) (initial_written d.initial) c.requires.written in
    full-then (with_dimensions k t d.unpacked fs) fs gs (written_of c.in-Ok.u) (dimensions-keep AllSoundFunctions k t d.unpacked c.requires.names w c.requires.full fs c.requires.ready.sound) of_type

pub returns-in-Ok-clause-value : goal.returns-in-Ok-clause-value
returns-in-Ok-clause-value g c =
    let k = context_of g.B.Names.context c.args.names.now in
    let d = c.args.d.now in
    let t = written_of c.args.t.now in
    let fs = c.args.known.now.functions in
    let gs = c.with_dimensions.new.known.functions in
    let is : c.as_slice.result.now ≡ d.unpacked = cc (c.as_slice.ensures) in
    let of_type : TypesTo (Ok (written_of c.in-Ok.u)) (with_dimensions k t d.unpacked fs) gs =
    subst (λ (ds : List Dimension). TypesTo (Ok (written_of c.in-Ok.u)) (with_dimensions k t ds fs) gs) is c.in-Ok.ensures.value in
    let hs = c.constant.new.known.functions in
    let r = as_meant as_value c.constant.result in
    mapped-same r (by_dimensions k d t fs) hs (under-whole k d t fs gs hs (written_of c.in-Ok.u) r of_type c.constant.ensures.value)

pub returns-in-Err-Quiet-clause-value : goal.returns-in-Err-Quiet-clause-value
returns-in-Err-Quiet-clause-value g c =
    let k = context_of g.B.Names.context c.args.names.now in
    let d = c.args.d.now in
    let t = written_of c.args.t.now in
    let fs = c.args.known.now.functions in
    let gs = c.with_dimensions.new.known.functions in
    let is : c.as_slice.result.now ≡ d.unpacked = cc (c.as_slice.ensures) in
    let stop : c.in-Err-Quiet.field-0 ≡ H.Quiet = c.in-Err-Quiet.field-0-is in
    let halted : StopsBy {A = WrittenType} c.in-Err-Quiet.field-0 (with_dimensions k t d.unpacked fs) gs =
    subst (λ (ds : List Dimension). StopsBy {A = WrittenType} c.in-Err-Quiet.field-0 (with_dimensions k t ds fs) gs) is c.in-Err-Quiet.ensures.value in
    let quiet : TypesTo {A = WrittenType} (Err H.Quiet) (with_dimensions k t d.unpacked fs) gs = subst (λ (h : Halt). StopsBy {A = WrittenType} h (with_dimensions k t d.unpacked fs) gs) stop halted in
    under-quiet k d t fs gs c.looked_at.new.known.functions c.looked_at.result quiet c.looked_at.ensures.value

pub returns-in-Err-Breaks-clause-value : goal.returns-in-Err-Breaks-clause-value
returns-in-Err-Breaks-clause-value g c =
    let k = context_of g.B.Names.context c.args.names.now in
    let d = c.args.d.now in
    let t = written_of c.args.t.now in
    let fs = c.args.known.now.functions in
    let gs = c.with_dimensions.new.known.functions in
    let is : c.as_slice.result.now ≡ d.unpacked = cc (c.as_slice.ensures) in
    let stop : c.in-Err-Breaks.field-0 ≡ H.Breaks c.in-Err-Breaks.at c.in-Err-Breaks.rule = c.in-Err-Breaks.field-0-is in
    let halted : StopsBy {A = WrittenType} c.in-Err-Breaks.field-0 (with_dimensions k t d.unpacked fs) gs =
    subst (λ (ds : List Dimension). StopsBy {A = WrittenType} c.in-Err-Breaks.field-0 (with_dimensions k t ds fs) gs) is c.in-Err-Breaks.ensures.value in
    let breaks : TypesTo {A = WrittenType} (Err (H.Breaks c.in-Err-Breaks.at c.in-Err-Breaks.rule)) (with_dimensions k t d.unpacked fs) gs =
    subst (λ (h : Halt). StopsBy {A = WrittenType} h (with_dimensions k t d.unpacked fs) gs) stop halted in
    under-breaks k d t fs gs gs c.in-Err-Breaks.at c.in-Err-Breaks.rule breaks
