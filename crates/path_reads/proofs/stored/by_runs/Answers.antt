use Rattle.v_meaning.specs.Values.{meaning}
use Rattle.v_build.specs.Trees.{meanings}
use Rattle.path_reads.proofs.Running.{marked-runs, like-concat}
use Rattle.path_reads.proofs.stored.by_runs.Goals as goal

pub returns-clause-stores : goal.returns-clause-stores
returns-clause-stores c =
    marked-runs (meaning c.args.of.now) c.args.marks.now c.stored_runs.new.helpers (meanings c.in_ok-pieces.pieces) (meaning c.concatenation.result) c.in_ok-pieces.ensures.stores c.concatenation.ensures

pub returns-clause-names : goal.returns-clause-names
returns-clause-names c = like-concat (meaning c.args.of.now) (meanings c.in_ok-pieces.pieces) (meaning c.concatenation.result) c.in_ok-pieces.ensures.names c.concatenation.ensures
