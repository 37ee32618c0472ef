-- What targets for a path on an element of a signal promise, where the signal is a memory in the text (IEEE 1800-2017 clauses 10.4
-- and 11.5.1, IEEE 1364-2005 clause 4.9).
use Rattle.std.specs.Prelude.{◌≡◌, ℕ, true, ℤ, List, [], ◌∷◌, ◌++◌, length, Option, Some}
use Rattle.row_machine.specs.Valuation.{Valuation}
use Rattle.sv_types.specs.declared.expression.Expr.{Expr}
use Rattle.sv_types.specs.declared.statement.Function.{Function}
use Rattle.sv_types.specs.declared.types.SvType.{SvType}
use Rattle.sv_types.specs.Layouts.{Layout, layout}
use Rattle.sv_types.specs.Surroundings.{Around}
use Rattle.sv_types.specs.Meanings as S
use Rattle.sv_types.specs.Expressions.{meaning}
use Rattle.v_tree.specs.Names.{Name}
use Rattle.v_tree.specs.declared.expressions.VExpr.{VExpr}
use Rattle.v_tree.specs.declared.names.Helper.{Helper}
use Rattle.v_tree.specs.declared.names.NameMap.{NameMap}
use Rattle.v_meaning.specs.Scopes.{Scope}
use Rattle.lowering_laws.specs.Agreeing.{Images, AreDistinct, Agree}
use Rattle.lowering_laws.specs.NamedImages.{AreImages}
use Rattle.lowering_laws.proofs.Changes.{HasPieces}
use Rattle.path_flatten.specs.declared.offsets.Index.{Index}
use Rattle.path_flatten.specs.Helping.{EachHelps}
use Rattle.path_flatten.specs.Naming.{SameNumbers}
use Rattle.target_flatten.specs.declared.writes.Write.{Write}
use Rattle.target_flatten.specs.Owning.{AllOwn, AllWrite}
use Rattle.target_flatten.specs.Writing.{pieces}
use Rattle.target_walk.specs.declared.never.Targets.{Targets}
use Rattle.target_walk.specs.Naming.{target_names, apart_names}
use Rattle.case_targets.specs.declared.indices.PathIndex.{PathIndex}
use Rattle.case_targets.specs.Naming.{SpreadsTo}
use Rattle.expr_lower.specs.Leaves.{leaves, Each}
use Rattle.expr_lower.specs.Lowering.{LeafStands}
use Rattle.name_maps.specs.Named.{signal_name, is_memory, OneSignal}
use Rattle.expr_lower.specs.Paths.{Indexes}
use Rattle.target_lower.specs.declared.within.Within.{Within}
use Rattle.target_lower.specs.Made.{CallsFrom, IsKnownFrom, PutsIndices}
use Rattle.memory_laws.specs.InWords.{IsWrittenInWords}
use Rattle.memory_words.specs.Words.{FindsWord, NamesWord, NumbersWord}
use Rattle.memory_paths.specs.Inner.{IsInner}
use Rattle.memory_targets.specs.declared.words.Word.{Word}
use Rattle.memory_targets.specs.declared.words.Word.TheVariants as W
use Rattle.memory_targets.specs.Names.{word_names}
use Rattle.memory_targets.specs.Pieces.{AllInWord}

-- The path stands on the signal. On all valuations that agree, they write to the words of the signal's image each bit that a write through the path does, with its
-- bit of the value, and no other bit; so images change as signals do by an assignment to the path. They, and an expression apart, name
-- the images of what its indices name, all of them and no other. Each of them writes that image alone.
pub record StandsInMemory (im : Images) (a : Around) (sc : Scope) (n : ℕ) (of : Layout) (e : S.Meaning) (x : Targets) : Type 0 where
  pub writes : (now v : Valuation) → Agree im now v → IsWrittenInWords of (e.window (record a { now = now })) (S.wide e) (im.number n) (pieces x.writes) sc v
  pub changes : (now v : Valuation) → Agree im now v → HasPieces im e (pieces x.writes) (record a { now = now }) sc v
  pub root : e.root ≡ Some n
  pub names : AreImages im.number e.index_names (target_names x sc)
  pub own : AllWrite (im.number n) (pieces x.writes) sc

-- so they do wherever the signal is a memory, the text has what the path's leaves need and these helpers, and no two things have one
-- image
abbrev pub LowersInMemory : Within → NameMap → List Function → List Helper → ℕ → SvType → Expr → Targets → Type 0
LowersInMemory within names fs hs n t e x = (im : Images) (a : Around) (sc : Scope) → CallsFrom within fs a.callee → AreDistinct im → (OneSignal names.signals n → is_memory names.signals n ≡ true) → Each (LeafStands names fs im a sc) (leaves e) → EachHelps hs sc
    → StandsInMemory im a sc n (layout t) (meaning e) x

-- the word of an element's index: by the number that it is known to have, or by the index that is lowered alone
abbrev pub IsWordFor : Within → NameMap → List Function → List Helper → SvType → Expr → Word → Type 0
IsWordFor within names fs hs t i (W.Known x) = (k : Option ℤ) × IsKnownFrom within fs i k × NumbersWord (layout t) k x
IsWordFor within names fs hs t i (W.Lowered r) = (x : Index) × Indexes names fs hs i x × FindsWord x t r × NamesWord x r

-- Where no target is made, an expression apart names what the word does and what one before names; else that one is kept.
abbrev pub NamedInWord : Word → List Write → Option VExpr → Option VExpr → Type 0
NamedInWord w [] old new = (sc : Scope) → SameNumbers (word_names w sc ++ apart_names old sc) (apart_names new sc)
NamedInWord w (x ∷ xs) old new = new ≡ old

-- targets for the path in the element alone, in a vector of its bits that has the signal's name, and those in the word
pub record IsInWord (within : Within) (names : NameMap) (fs : List Function) (hs : List Helper) (n : ℕ) (t : SvType) (i e : Expr) (made : Targets) : Type 0 where
  pub inner : Expr
  pub is_inner : IsInner n t i e inner
  pub word : Word
  pub is_word : IsWordFor within names fs hs t i word
  pub indices : List PathIndex
  pub puts : PutsIndices within names fs hs inner [] indices
  pub alone : Targets
  pub spreads : SpreadsTo (length (layout t).element.two_state) inner indices alone
  pub name : Name
  pub name_is : OneSignal names.signals n → name ≡ signal_name names.signals n
  pub own : AllOwn name (length (layout t).element.two_state) alone.writes
  pub all : AllInWord word alone.writes made.writes
  pub apart : NamedInWord word alone.writes alone.named made.named
