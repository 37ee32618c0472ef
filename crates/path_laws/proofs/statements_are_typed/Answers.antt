use Rattle.path_laws.proofs.Statements.{statement-typed, block-typed, continuous-typed}
use Rattle.path_laws.proofs.statements_are_typed.Goals as goal

pub returns : goal.returns
returns c = record {
  statement = λ k s fs t p h. statement-typed s k p fs t h;
  block = λ k items fs t p h. block-typed k items p fs t h;
  continuous = λ k to at e fs t p h. continuous-typed k to at e p fs t h;
}
