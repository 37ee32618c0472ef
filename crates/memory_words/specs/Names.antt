-- Which signals and locals the numbers of words name (IEEE 1800-2017 clause 9.4.2.2).
use Rattle.std.specs.Prelude.{ℕ, List, [], ◌++◌, Option, Some, None}
use Rattle.v_meaning.specs.Scopes.{Scope}
use Rattle.v_meaning.specs.Values as T
use Rattle.v_meaning.specs.Values.{meaning}
use Rattle.path_flatten.specs.declared.ranks.Rank.{Rank}
use Rattle.path_flatten.specs.Guards.{guard_meaning}

abbrev pub guard_names : Option T.Meaning → Scope → List ℕ
guard_names None sc = []
guard_names (Some g) sc = g.names sc

-- a guard and a number
abbrev pub rank_names : Rank → Scope → List ℕ
rank_names r sc = guard_names (guard_meaning r.guard) sc ++ (meaning r.rank).names sc
