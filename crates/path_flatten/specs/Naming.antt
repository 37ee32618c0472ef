-- Which signals and locals a reading names (IEEE 1800-2017 clause 9.4.2.2).
use Rattle.std.specs.Prelude.{ℕ, List, [], ◌∷◌, ◌++◌}
use Rattle.row_machine.specs.Valuation.{Member}
use Rattle.v_meaning.specs.Scopes.{Scope, named}
use Rattle.v_meaning.specs.Values as T
use Rattle.v_meaning.specs.Values.{meaning}
use Rattle.path_flatten.specs.declared.readings.Root.{Root}
use Rattle.path_flatten.specs.declared.readings.Root.TheVariants as R

-- lists of the same numbers, each of them once or more
pub record SameNumbers (xs ys : List ℕ) : Type 0 where
  pub there : (q : ℕ) → Member xs q → Member ys q
  pub back : (q : ℕ) → Member ys q → Member xs q

-- what a reading stands on names itself, or what its expression does
abbrev pub root_names : Root → Scope → List ℕ
root_names (R.Name name) sc = (named sc.names name).number ∷ []
root_names (R.Value x) sc = (meaning x).names sc

-- a target expression names what a root does, and what another expression does
abbrev pub NamesRoot : Root → T.Meaning → Type 0
NamesRoot root m = (sc : Scope) → SameNumbers (root_names root sc) (m.names sc)

abbrev pub NamesLike : T.Meaning → T.Meaning → Type 0
NamesLike m n = (sc : Scope) → SameNumbers (m.names sc) (n.names sc)

-- a root names what an expression does, and what another root and an expression do
abbrev pub RootNames : T.Meaning → Root → Type 0
RootNames m root = (sc : Scope) → SameNumbers (m.names sc) (root_names root sc)

abbrev pub RootNamesBoth : Root → T.Meaning → Root → Type 0
RootNamesBoth old m root = (sc : Scope) → SameNumbers (root_names old sc ++ m.names sc) (root_names root sc)
