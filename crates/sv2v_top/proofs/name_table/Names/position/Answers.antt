use Rattle.std.proofs.Common.{◌≡◌, ◌∙◌, arith}
use Rattle.std.specs.Option.{unwrap_or}
use Rattle.v_tree.specs.Names.{position}
use Rattle.sv2v_top.proofs.Lookup.{position-or, position-within}
use Rattle.sv2v_top.proofs.name_table.Names.position.Goals as goal

pub returns : goal.returns
returns c = λ ns n.
    let w = c.args.name.now in
    let found : c.unwrap_or-number.result ≡ position ns w =
    c.unwrap_or-number.ensures ∙ (λ i. unwrap_or ((c.number.ensures ∙ n.numbers w) i) (n.count i)) ∙ position-or ns w in
    let within = position-within ns w in
    let count = n.count in
    omega arith
