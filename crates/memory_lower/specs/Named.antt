-- What names a word where nothing is written to it (IEEE 1800-2017 clause 9.4.2.2).
use Rattle.std.specs.Prelude.{◌≡◌, ◌++◌, Option}
use Rattle.v_tree.specs.declared.expressions.VExpr.{VExpr}
use Rattle.v_meaning.specs.Scopes.{Scope}
use Rattle.v_meaning.specs.Values as T
use Rattle.path_flatten.specs.declared.ranks.Rank.{Rank}
use Rattle.path_flatten.specs.Guards.{guard_meaning}
use Rattle.path_flatten.specs.Naming.{SameNumbers}
use Rattle.target_walk.specs.Naming.{apart_names}
use Rattle.target_flatten.specs.Naming.{guard_names, rank_names}
use Rattle.memory_targets.specs.declared.words.Word.{Word}
use Rattle.memory_targets.specs.Names.{word_names}

-- what an expression apart does, if there is one
abbrev pub NamesApart : Option VExpr → T.Meaning → Type 0
NamesApart named m = (sc : Scope) → m.names sc ≡ apart_names named sc

-- what an expression does, and a guard besides, or a guard and a number
abbrev pub NamesGuard : T.Meaning → Option VExpr → T.Meaning → Type 0
NamesGuard old guard m = (sc : Scope) → m.names sc ≡ old.names sc ++ guard_names (guard_meaning guard) sc

abbrev pub NamesRank : T.Meaning → Rank → T.Meaning → Type 0
NamesRank old rank m = (sc : Scope) → m.names sc ≡ old.names sc ++ rank_names rank sc

-- what a word does, and an expression apart
abbrev pub NamesWith : Word → Option VExpr → Option VExpr → Type 0
NamesWith w old new = (sc : Scope) → SameNumbers (word_names w sc ++ apart_names old sc) (apart_names new sc)
