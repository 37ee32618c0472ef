use Rattle.path_laws.proofs.Paths.{target-gives, actual-gives, value-gives, typed-of}
use Rattle.path_laws.proofs.paths_are_typed.Goals as goal

pub returns : goal.returns
returns c = record {
  target = λ k inside of ss fs v p h. target-gives k inside of ss p fs v h;
  actual = λ k of ss fs v p h. actual-gives k of ss p fs v h;
  value = λ k of ss fs v p other h. value-gives k of ss p other fs v h;
  typed = λ k t e p. typed-of k.signals t e p;
}
