use Rattle.std.proofs.Common.{get_or}
use Rattle.std.proofs.lemmas.List.{get_or_default}
use Rattle.sv_lexer.proofs.Groups.{IsGrouped-none, IsGrouped-more}
use Rattle.sv_lexer.proofs.tables.groups.Goals as goal

pub loop-at-init : goal.loop-at-init
loop-at-init c = IsGrouped-none

pub loop-at-preserved : goal.loop-at-preserved
loop-at-preserved c =
    IsGrouped-more c.args.words.now c.loop-at.at (get_or c.args.words.now c.loop-at.at _) _ _ c.loop-at-test.true c.loop-at.invariant
    (get_or_default c.args.words.now c.loop-at.at _ _ c.loop-at-test.true) c.add_word.ensures
