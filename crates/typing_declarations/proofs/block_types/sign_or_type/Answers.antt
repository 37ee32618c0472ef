use Rattle.std.proofs.Common.{Option, Some, Ok, refl, sym, subst}
use Rattle.sv_tree.specs.declared.names.Signing.{Signing}
use Rattle.expr_type.specs.Statements as S
use Rattle.typing_scopes.specs.Scopes.{context_of}
use Rattle.typing_steps.specs.Steps.{TypesTo}
use Rattle.typing_declarations.proofs.block_types.sign_or_type.Goals as goal

pub returns-in-Some-clause-value : goal.returns-in-Some-clause-value
returns-in-Some-clause-value g c =
    let k = context_of g.B.Names.context c.args.names.now in
    let fs = c.args.known.now.functions in
    subst (λ (o : Option Signing). TypesTo (Ok (S.OfValue (Some c.in-Some.sign))) (S.sign_or_type k c.args.of.now o fs) fs) (sym c.in-Some.is) refl
