use Rattle.std.proofs.Common.{◌≡◌, ◌++◌, List, sym, ap, ◌∙◌, subst, rules}
use Rattle.std.specs.Prelude.{Result, Ok, Err, IfOk}
use Rattle.sv_types.specs.declared.frame.ParamValue.{ParamValue}
use Rattle.expr_type.specs.declared.halt.Halt.{Halt}
use Rattle.expr_type.specs.declared.halt.Halt.TheVariants as H
use Rattle.expr_type.specs.Names.{with_values}
use Rattle.expr_type.specs.Types.{Fields}
use Rattle.routine_fits.specs.Sound.{AllSoundFunctions}
use Rattle.typing_fits.specs.Operands.{AllValuesSound}
use Rattle.typing_walks.proofs.Types.{more-values}
use Rattle.typing_scopes.specs.Scopes.{context_of, own_values}
use Rattle.typing_declarations.proofs.FieldJoining.{breaks-reach, lost-reaches, put-reaches}
use Rattle.typing_declarations.proofs.Under.{values-surrounded}
use Rattle.typing_declarations.proofs.members.put_members.Goals as goal

pub returns-in_ok-append-in-Ok-clause-value : goal.returns-in_ok-append-in-Ok-clause-value
returns-in_ok-append-in-Ok-clause-value g c inside m ms row fs gs p so =
    let of = g.B.Names.context in
    let k = context_of of c.args.names.now in
    let j = context_of of c.add_values.new.self in
    let vs = own_values c.args.names.now in
    let ws = own_values c.add_values.new.self in
    let f : Fields = record { fields = c.found.inside.fields; names = c.found.inside.names } in
    let made = record c.args.made.now { fields = c.append.new.self } in
    let is : c.args.found ≡ Ok f = c.in-Ok.is ∙ ap (λ (x : Fields). Ok x) (sym c.found.view_is) in
    let context : j ≡ with_values f.names k = search rules in
    let own : ws ≡ f.names ++ vs = search rules in
    let fields : c.append.new.self ≡ c.args.made.now.fields ++ f.fields = search rules in
    put-reaches k j inside c.args.made.now made vs ws m ms c.args.found f row fs gs is context own fields (search rules) p so

pub returns-in_ok-append-in-Ok-clause-names : goal.returns-in_ok-append-in-Ok-clause-names
returns-in_ok-append-in-Ok-clause-names g c =
    let of = g.B.Names.context in
    let k = context_of of c.args.names.now in
    let j = context_of of c.add_values.new.self in
    let f : Fields = record { fields = c.found.inside.fields; names = c.found.inside.names } in
    let is : c.args.found ≡ Ok f = c.in-Ok.is ∙ ap (λ (x : Fields). Ok x) (sym c.found.view_is) in
    let context : j ≡ with_values f.names k = search rules in
    values-surrounded AllSoundFunctions j k f.names context c.requires.names (subst (λ (r : Result Fields Halt). IfOk r (λ (x : Fields). AllValuesSound x.names)) is c.requires.sound)

pub returns-in_ok-append-in-Ok-clause-own : goal.returns-in_ok-append-in-Ok-clause-own
returns-in_ok-append-in-Ok-clause-own g c =
    let vs = own_values c.args.names.now in
    let ws = own_values c.add_values.new.self in
    let f : Fields = record { fields = c.found.inside.fields; names = c.found.inside.names } in
    let is : c.args.found ≡ Ok f = c.in-Ok.is ∙ ap (λ (x : Fields). Ok x) (sym c.found.view_is) in
    let own : ws ≡ f.names ++ vs = search rules in
    subst (λ (us : List ParamValue). AllValuesSound us) (sym own)
    (more-values f.names vs (subst (λ (r : Result Fields Halt). IfOk r (λ (x : Fields). AllValuesSound x.names)) is c.requires.sound) c.requires.own)

pub returns-in-Err-Breaks-clause-value : goal.returns-in-Err-Breaks-clause-value
returns-in-Err-Breaks-clause-value g c inside m ms row fs gs p so =
    let is : c.args.found ≡ Err (H.Breaks c.in-Err-Breaks.at c.in-Err-Breaks.rule) = search rules in
    breaks-reach (context_of g.B.Names.context c.args.names.now) inside c.args.made.now (own_values c.args.names.now) m ms c.args.found c.in-Err-Breaks.at c.in-Err-Breaks.rule row fs gs is p so

pub returns-in-Err-Quiet-clause-value : goal.returns-in-Err-Quiet-clause-value
returns-in-Err-Quiet-clause-value g c inside m ms row fs gs p so =
    let is : c.args.found ≡ Err H.Quiet = search rules in
    lost-reaches (context_of g.B.Names.context c.args.names.now) inside c.args.made.now (own_values c.args.names.now) m ms c.args.found row fs gs is p so
