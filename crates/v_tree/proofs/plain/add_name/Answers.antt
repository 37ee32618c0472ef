use Rattle.std.proofs.Common.{◌++◌, suc, sym, ap, ◌∙◌}
use Rattle.v_tree.specs.Tokens.{is_simple}
use Rattle.v_tree.specs.Printing.{free_name, given_to, plain_names}
use Rattle.v_tree.specs.Takings.{taken_in}
use Rattle.v_tree.proofs.Takes.{on_ok, plain-step}
use Rattle.v_tree.proofs.plain.add_name.Goals as goal

pub returns-in_ok-give : goal.returns-in_ok-give
returns-in_ok-give c =
    on_ok c.push-else-is_simple.result
    (λ e rest. ap (λ names. names ++ plain_names c.args.count (suc c.args.place) (taken_in c.give.new.self) rest) e
    ∙ plain-step c.args.count c.args.place (taken_in c.args.taken.now) (taken_in c.give.new.self) c.args.path.now c.in_ok-name.name c.args.names.now rest
    (ap is_simple (sym c.as_bytes.ensures) ∙ sym c.is_simple.ensures ∙ c.if-is_simple.false)
    (c.in_ok-name.ensures ∙ ap (free_name c.args.count (taken_in c.args.taken.now)) c.in_ok-plain_form.ensures)
    (c.in_ok-give.ensures ∙ ap (λ q. given_to (taken_in c.args.taken.now) q c.args.place) c.in_ok-copy-2.ensures))
    c.push-else-is_simple.ensures.ok
