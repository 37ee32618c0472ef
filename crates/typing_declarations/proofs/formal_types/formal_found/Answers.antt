use Rattle.typing_scopes.specs.Ahead.{mapped}
use Rattle.typing_declarations.specs.Formals.{formal_of}
use Rattle.typing_declarations.proofs.FormalUnder.{formal-stops, formal-types}
use Rattle.typing_declarations.proofs.formal_types.formal_found.Goals as goal

pub returns-in-Ok : goal.returns-in-Ok
returns-in-Ok c k x fs gs p =
    formal-types k c.args.way c.args.at c.args.declares x fs gs c.args.typed c.in-Ok.typed (mapped (formal_of k) c.narrow_formal.result) c.in-Ok.is p (c.narrow_formal.ensures k)

pub returns-in-Err : goal.returns-in-Err
returns-in-Err c k x fs gs p = formal-stops k c.args.way c.args.at c.args.declares x fs gs c.args.typed c.in-Err.halt c.in-Err.is p
