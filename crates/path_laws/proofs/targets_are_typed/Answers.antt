use Rattle.path_laws.proofs.Exprs.{actual-typed}
use Rattle.path_laws.proofs.Targets.{target-typed, parts-typed}
use Rattle.path_laws.proofs.targets_are_typed.Goals as goal

pub returns : goal.returns
returns c = record { target = λ k inside l fs t p h. parts-typed t (target-typed l k inside p fs t h); actual = actual-typed }
