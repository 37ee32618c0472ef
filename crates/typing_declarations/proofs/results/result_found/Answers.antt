use Rattle.typing_scopes.specs.Ahead.{mapped}
use Rattle.typing_declarations.specs.Giving.{result_of}
use Rattle.typing_declarations.proofs.FormalUnder.{result-stops, result-types}
use Rattle.typing_declarations.proofs.results.result_found.Goals as goal

pub returns-in-Ok : goal.returns-in-Ok
returns-in-Ok c k x fs gs p = result-types k c.args.at x fs gs c.args.typed c.in-Ok.typed (mapped result_of c.narrow_result.result) c.in-Ok.is p (c.narrow_result.ensures k)

pub returns-in-Err : goal.returns-in-Err
returns-in-Err c k x fs gs p = result-stops k c.args.at x fs gs c.args.typed c.in-Err.halt c.in-Err.is p
