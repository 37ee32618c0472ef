-- What is made of a select path on an element of a signal that is a memory in the text (IEEE 1364-2005 clause 4.9).
use Rattle.std.specs.Prelude.{◌≡◌, ℕ, ◌≤◌, List, [], length}
use Rattle.sv_types.specs.declared.expression.Expr.{Expr}
use Rattle.sv_types.specs.declared.statement.Function.{Function}
use Rattle.sv_types.specs.declared.types.SvType.{SvType}
use Rattle.sv_types.specs.Layouts.{layout, width_of}
use Rattle.sv_types.specs.Surroundings.{Parameter}
use Rattle.sv_types.specs.Meanings as S
use Rattle.sv_types.specs.Expressions.{meaning}
use Rattle.v_tree.specs.Names.{Name}
use Rattle.v_tree.specs.declared.names.Helper.{Helper}
use Rattle.v_tree.specs.declared.names.NameMap.{NameMap}
use Rattle.target_flatten.specs.Owning.{AllOwn}
use Rattle.target_walk.specs.declared.given.Given.{Given}
use Rattle.target_walk.specs.declared.given.Given.TheVariants as G
use Rattle.target_walk.specs.declared.never.Targets.{Targets}
use Rattle.case_targets.specs.declared.indices.PathIndex.{PathIndex}
use Rattle.case_targets.specs.Naming.{SpreadsTo}
use Rattle.eval_parts.specs.Limits.{FitsAlone}
use Rattle.expr_lower.specs.Leaves.{leaves, Each, IsLowered}
use Rattle.name_maps.specs.Named.{signal_name, OneSignal}
use Rattle.typed_paths.specs.Typed.{IsTyped}
use Rattle.target_lower.specs.declared.within.Within.{Within}
use Rattle.target_lower.specs.Made.{PutsIndices}
use Rattle.memory_words.specs.Words.{FindsWord, NamesWord, NumbersWord}
use Rattle.memory_targets.specs.declared.words.Word.{Word}
use Rattle.memory_targets.specs.declared.words.Word.TheVariants as W
use Rattle.memory_targets.specs.Owning.{OwnInWord}
use Rattle.memory_targets.specs.Pieces.{AllInWord}
use Rattle.memory_lower.specs.Lowered.{IsWordFor, NamedInWord}

-- what an element's index and a path in the element alone need
pub record CanBeLowered (t : SvType) (i : Expr) (fs : ℕ → List Parameter) (d : Expr) : Type 0 where
  pub index_built : Each IsLowered (leaves i)
  pub index_fits : FitsAlone (meaning i) fs
  pub short : S.wide (meaning i) ≤ 64
  pub built : Each IsLowered (leaves d)
  pub fits : FitsAlone (meaning d) fs
  pub typed : IsTyped d
  pub narrow : width_of t ≤ 4194304
  pub some : 1 ≤ width_of t

-- the word of an index that is given
abbrev pub WordOf : SvType → Given → Word → Type 0
WordOf t (G.Known k) (W.Known x) = NumbersWord (layout t) k x
WordOf t (G.Known k) (W.Lowered r) = ⊥
WordOf t (G.Lowered x d) (W.Known y) = ⊥
WordOf t (G.Lowered x d) (W.Lowered r) = FindsWord x t r × NamesWord x r

-- targets for a path in an element alone with these indices, in a vector of the element's bits that has the signal's name
pub record IsAloneFor (names : NameMap) (n : ℕ) (t : SvType) (inner : Expr) (ps : List PathIndex) (alone : Targets) : Type 0 where
  pub spreads : SpreadsTo (length (layout t).element.two_state) inner ps alone
  pub name : Name
  pub name_is : OneSignal names.signals n → name ≡ signal_name names.signals n
  pub own : AllOwn name (length (layout t).element.two_state) alone.writes

-- the same in a word, and what is named apart there
pub record IsPutInWord (word : Word) (alone made : Targets) : Type 0 where
  pub all : AllInWord word alone.writes made.writes
  pub own : OwnInWord word alone.writes made.writes
  pub apart : NamedInWord word alone.writes alone.named made.named

pub record IsInWordFor (names : NameMap) (n : ℕ) (t : SvType) (inner : Expr) (word : Word) (ps : List PathIndex) (made : Targets) : Type 0 where
  pub alone : Targets
  pub is_alone : IsAloneFor names n t inner ps alone
  pub puts : IsPutInWord word alone made

-- with the indices that are put together for the path
pub record WordTargets (within : Within) (names : NameMap) (fs : List Function) (hs : List Helper) (n : ℕ) (t : SvType) (inner : Expr) (word : Word) (made : Targets) : Type 0 where
  pub indices : List PathIndex
  pub puts : PutsIndices within names fs hs inner [] indices
  pub in_word : IsInWordFor names n t inner word indices made

-- in the word of an element's index
pub record ElementTargets (within : Within) (names : NameMap) (fs : List Function) (hs : List Helper) (n : ℕ) (t : SvType) (i inner : Expr) (made : Targets) : Type 0 where
  pub word : Word
  pub is_word : IsWordFor within names fs hs t i word
  pub targets : WordTargets within names fs hs n t inner word made
