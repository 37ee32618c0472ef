use Rattle.std.proofs.Common.{arith}
use Rattle.target_flatten.proofs.Naming.{free-ranked, guarded-ranked}
use Rattle.target_flatten.proofs.Ranking.{free-short, guarded-short}
use Rattle.target_flatten.proofs.indices.short_rank.Goals as goal

pub returns-in_ok-made-clause-ranked : goal.returns-in_ok-made-clause-ranked
returns-in_ok-made-clause-ranked c = free-short c.args.index.now c.args.last c.in_ok-made.made c.requires.unsigned (omega arith) c.in_ok-made.ensures.ranked

pub returns-in_ok-made-2-clause-ranked : goal.returns-in_ok-made-2-clause-ranked
returns-in_ok-made-2-clause-ranked c = guarded-short c.args.index.now c.args.last c.in_ok-made-2.made c.requires.unsigned (omega arith) c.in_ok-made-2.ensures.ranked

pub returns-in_ok-made-clause-names : goal.returns-in_ok-made-clause-names
returns-in_ok-made-clause-names c = free-ranked c.args.index.now c.in_ok-made.made c.in_ok-made.ensures.guard c.in_ok-made.ensures.rank

pub returns-in_ok-made-2-clause-names : goal.returns-in_ok-made-2-clause-names
returns-in_ok-made-2-clause-names c =
    guarded-ranked c.args.index.now c.args.index.now.width c.args.last c.in_ok-made-2.made c.in_ok-made-2.ensures.guard c.in_ok-made-2.ensures.rank
