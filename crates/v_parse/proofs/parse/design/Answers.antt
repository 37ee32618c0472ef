use Rattle.std.proofs.Common.{◌∙◌}
use Rattle.v_tree.specs.Reading.{nesting_limit}
use Rattle.v_parse.proofs.Parsing.{modules-of}
use Rattle.v_parse.proofs.parse.design.Goals as goal

pub unreachable-requires : goal.unreachable-requires
unreachable-requires c =
    let found = modules-of c.args.tokens.now c.args.symbols.now nesting_limit c.args.tree c.requires in
    c.in_default.not-Text found.0 (c.in_ok-modules.ensures ∙ found.1)
