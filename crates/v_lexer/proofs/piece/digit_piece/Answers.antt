use Rattle.std.proofs.Common.{ap, ◌∙◌}
use Rattle.std.specs.List.{list_all}
use Rattle.v_tree.specs.Tokens.{is_digit}
use Rattle.v_lexer.proofs.Cuts.{digits-all, digit-cut}
use Rattle.v_lexer.proofs.piece.digit_piece.Goals as goal

pub decimal-requires : goal.decimal-requires
decimal-requires c =
    ap (list_all is_digit) c.split_at.ensures.front
    ∙ digits-all c.args.first c.digits-further.result c.args.text.now c.args.bytes.now c.requires.whole c.requires.digit c.digits-further.ensures.value

pub returns-clause-value : goal.returns-clause-value
returns-clause-value c =
    digit-cut c.args.first c.digits-further.result c.decimal.result c.args.text.now c.args.bytes.now _ _ _ c.requires.whole c.if-first-eq48.false c.digits-further.ensures.value
    c.split_at.ensures.front c.split_at.ensures.back c.decimal.ensures c.sized_piece.ensures.value
