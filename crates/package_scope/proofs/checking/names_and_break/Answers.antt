use Rattle.std.proofs.Common.{◌≡◌, List, ap, sym, ◌∙◌}
use Rattle.name_events.specs.Items.{events_of}
use Rattle.name_events.specs.declared.events.Event.{Event}
use Rattle.package_scope.specs.Rules.{least, all_breaks, names_break}
use Rattle.package_scope.specs.Tables.{table_of}
use Rattle.package_scope.proofs.Answering.{table_by, named-is, broken-is, both-are}
use Rattle.package_scope.proofs.checking.names_and_break.Goals as goal

pub returns : goal.returns
returns c =
    let ts = c.as_slice-tokens.result.now in
    let es = c.as_slice.result.now in
    let known = c.as_slice-2.result.now in
    let events : es ≡ events_of c.args.tree.now = c.as_slice.ensures ∙ c.in_ok-events.ensures in
    let named : c.in_ok-names.names ≡ table_by ts es = c.in_ok-names.ensures in
    both-are c.both.result c.in_ok-names.names c.first_break-broken.result (table_of c.args.tree.now)
    (least (all_breaks ts c.in_ok-names.names known)) (names_break c.args.tree.now) c.both.ensures
    (named-is c.args.tree.now ts c.in_ok-names.names es events c.as_slice-tokens.ensures named)
    c.first_break-broken.ensures
    (broken-is c.args.tree.now ts c.in_ok-names.names es (least (all_breaks ts c.in_ok-names.names known)) events c.as_slice-tokens.ensures named
    (ap (λ (fs : List Event). least (all_breaks ts c.in_ok-names.names fs)) (c.as_slice-2.ensures ∙ sym c.as_slice.ensures)))
