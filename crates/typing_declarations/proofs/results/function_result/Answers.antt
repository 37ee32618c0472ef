use Rattle.std.proofs.Common.{◌≡◌, true, List, sym, subst}
use Rattle.sv_tree.specs.declared.expressions.Dimension.{Dimension}
use Rattle.sv_tree.specs.declared.functions.FunctionResult.TheVariants as R
use Rattle.expr_type.specs.Types.{typed_text}
use Rattle.routine_laws.specs.Texts.{result_written}
use Rattle.typing_fits.proofs.Full.{and-left, and-right}
use Rattle.typing_parts.proofs.Keeping.{extends-then}
use Rattle.typing_scopes.specs.Ahead.{mapped}
use Rattle.typing_scopes.specs.Scopes.{context_of}
use Rattle.typing_steps.specs.Steps.{TypesTo}
use Rattle.typing_walks.specs.WrittenTypes.{dims_written}
use Rattle.typing_declarations.specs.Giving.{result_of, result_typed, with_dims}
use Rattle.typing_declarations.proofs.Arms.{value-arm, value-written}
use Rattle.typing_declarations.proofs.Heading.{result-sound, void-sound}
use Rattle.typing_declarations.proofs.results.function_result.Goals as goal

pub typed_text-found-requires-clause-written : goal.typed_text-found-requires-clause-written
typed_text-found-requires-clause-written g c =
    let f = c.args.function.now in
    value-written f.of c.in-Value.of c.in-Value.is (and-left (result_written f.of) (dims_written f.unpacked) c.requires.written)

pub with_dims-typed-requires-clause-written : goal.with_dims-typed-requires-clause-written
with_dims-typed-requires-clause-written g c =
    let f = c.args.function.now in
    subst (λ (ds : List Dimension). dims_written ds ≡ true) (sym c.as_slice-ds.ensures) (and-right (result_written f.of) (dims_written f.unpacked) c.requires.written)

pub returns-in-Value-clause-value : goal.returns-in-Value-clause-value
returns-in-Value-clause-value g c =
    let k = context_of g.B.Names.context c.args.names.now in
    let f = c.args.function.now in
    let fs = c.args.known.now.functions in
    let gs = c.with_dims-typed.new.known.functions in
    let x = typed_text c.in-Value.of k in
    let r = mapped result_of c.result_found.result in
    value-arm k f.name f.unpacked f.of c.in-Value.of r fs gs c.in-Value.is
    (subst (λ (ds : List Dimension). TypesTo r (result_typed k.source f.name (with_dims k x ds) fs) gs) c.as_slice-ds.ensures
    (c.result_found.ensures k.source (with_dims k x c.as_slice-ds.result.now) fs gs (c.with_dims-typed.ensures.value x fs c.typed_text-found.ensures.value)))

pub returns-in-Value-clause-sound : goal.returns-in-Value-clause-sound
returns-in-Value-clause-sound g c =
    let k = context_of g.B.Names.context c.args.names.now in
    let f = c.args.function.now in
    let fs = c.args.known.now.functions in
    let gs = c.with_dims-typed.new.known.functions in
    let x = typed_text c.in-Value.of k in
    let r = mapped result_of c.result_found.result in
    result-sound k f.name f.unpacked f.of c.result_found.result fs gs c.requires.names (and-left (result_written f.of) (dims_written f.unpacked) c.requires.written)
    (and-right (result_written f.of) (dims_written f.unpacked) c.requires.written) c.requires.ready.sound
    (value-arm k f.name f.unpacked f.of c.in-Value.of r fs gs c.in-Value.is
    (subst (λ (ds : List Dimension). TypesTo r (result_typed k.source f.name (with_dims k x ds) fs) gs) c.as_slice-ds.ensures
    (c.result_found.ensures k.source (with_dims k x c.as_slice-ds.result.now) fs gs (c.with_dims-typed.ensures.value x fs c.typed_text-found.ensures.value))))

pub returns-in-Value-clause-keeps : goal.returns-in-Value-clause-keeps
returns-in-Value-clause-keeps g c =
    extends-then c.args.known.now.functions c.typed_text-found.new.known.functions c.with_dims-typed.new.known.functions c.typed_text-found.ensures.keeps c.with_dims-typed.ensures.keeps

pub returns-in-Void-clause-sound : goal.returns-in-Void-clause-sound
returns-in-Void-clause-sound g c = void-sound (result_of c.no_result.result) c.args.known.now.functions c.no_result.ensures
