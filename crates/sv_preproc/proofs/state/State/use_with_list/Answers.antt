use Rattle.std.proofs.Common.{◌≡◌, true, sym, ◌∙◌, subst}
use Rattle.sv_macro.specs.Brackets.{is_parenthesis}
use Rattle.sv_preproc.specs.Code.{seen, Turns}
use Rattle.sv_preproc.specs.Machine.{acted}
use Rattle.sv_preproc.specs.States.{Step}
use Rattle.sv_preproc.proofs.Opening.{list_at}
use Rattle.sv_preproc.proofs.state.State.use_with_list.Goals as goal

pub returns : goal.returns
returns c =
    let p : is_parenthesis c.in-Some-any_token.token ≡ true = sym c.is_parenthesis.ensures ∙ c.if-not-is_parenthesis.false in
    subst (λ (st : Step). Turns (acted c.args.self.now.calls st) c.take_list.new.self c.take_list.result)
    (sym (list_at (seen c.args.self.now) c.args.used c.args.busy c.args.arity c.in-Some.item c.pop.new.self c.in-Some-any_token.token (sym c.skip_lines.ensures ∙ c.in-Some.ensures) (sym c.any_token.ensures ∙ c.in-Some-any_token.is) p))
    c.take_list.ensures
