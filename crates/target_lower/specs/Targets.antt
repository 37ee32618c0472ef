-- What the targets of a select path promise (IEEE 1800-2017 clauses 9.4.2.2, 10.4 and 11.5.1).
use Rattle.std.specs.Prelude.{◌≡◌, ⊤, ℕ, false, Bool, List, [], ◌∷◌, Some}
use Rattle.row_machine.specs.Valuation.{Valuation}
use Rattle.sv_types.specs.declared.expression.Expr.{Expr}
use Rattle.sv_types.specs.declared.statement.Function.{Function}
use Rattle.sv_types.specs.declared.types.SvType.{SvType}
use Rattle.sv_types.specs.Surroundings.{Around}
use Rattle.sv_types.specs.Meanings as S
use Rattle.sv_types.specs.Expressions.{meaning}
use Rattle.v_tree.specs.Names.{Name}
use Rattle.v_tree.specs.declared.names.Helper.{Helper}
use Rattle.v_tree.specs.declared.names.NameMap.{NameMap}
use Rattle.v_meaning.specs.Scopes.{Scope}
use Rattle.lowering_laws.specs.Agreeing.{Images, AreDistinct, Agree}
use Rattle.lowering_laws.specs.NamedImages.{AreImages}
use Rattle.lowering_laws.specs.Reached.{IsWritten}
use Rattle.lowering_laws.proofs.Changes.{HasPieces}
use Rattle.path_flatten.specs.Helping.{EachHelps}
use Rattle.target_flatten.specs.Owning.{AllOwn, AllWrite}
use Rattle.target_flatten.specs.Writing.{pieces}
use Rattle.target_walk.specs.declared.never.Targets.{Targets}
use Rattle.target_walk.specs.Naming.{target_names}
use Rattle.typed_paths.specs.Typed.{Indexing, IsTypedPath}
use Rattle.case_targets.specs.declared.indices.PathIndex.{PathIndex}
use Rattle.case_targets.specs.Naming.{IsBare, BareOf}
use Rattle.expr_lower.specs.Leaves.{Leaf, Signals, Elements, Inside, Locals, Calls, Valued, Joined, Unlowered, leaves, Each}
use Rattle.expr_lower.specs.Lowering.{LeafStands}
use Rattle.name_maps.specs.Named.{is_memory, OneSignal}
use Rattle.target_lower.specs.declared.roots.Root.{Root}
use Rattle.target_lower.specs.declared.within.Within.{Within}
use Rattle.target_lower.specs.declared.within.Within.TheVariants.{Process, Routine}
use Rattle.target_lower.specs.Made.{CallsFrom, IsConstant, PutsIndices}
use Rattle.target_lower.specs.Roots.{IsRootOf, OneHeld, name_under}

-- On all valuations that agree, targets write to the image of what a path stands on each bit that a write through the path does,
-- with its bit of the value, and no other bit; so images change as signals and locals do by an assignment to the path. They, and an
-- expression apart, name the images of what its indices name, all of them and no other. Each of them writes
-- that image alone.
pub record StandsAsTarget (im : Images) (a : Around) (sc : Scope) (e : S.Meaning) (x : Targets) : Type 0 where
  pub writes : (r : ℕ) (now v : Valuation) → e.root ≡ Some r → Agree im now v → IsWritten (e.window (record a { now = now })) (S.wide e) (im.number r) (pieces x.writes) sc v
  pub changes : (now v : Valuation) → Agree im now v → HasPieces im e (pieces x.writes) (record a { now = now }) sc v
  pub names : AreImages im.number e.index_names (target_names x sc)
  pub own : (r : ℕ) → e.root ≡ Some r → AllWrite (im.number r) (pieces x.writes) sc

-- a path doesn't stand on an element of a memory of the text
abbrev pub IsInVector : NameMap → Leaf → Type 0
IsInVector names (Signals n of) = ⊤
IsInVector names (Elements n of) = OneSignal names.signals n → is_memory names.signals n ≡ false
IsInVector names (Inside n of) = ⊤
IsInVector names (Locals n of) = ⊤
IsInVector names (Calls f of n) = ⊤
IsInVector names Valued = ⊤
IsInVector names Joined = ⊤
IsInVector names Unlowered = ⊤

abbrev pub StandsOnVector : NameMap → List Leaf → Type 0
StandsOnVector names [] = ⊤
StandsOnVector names (l ∷ ls) = IsInVector names l

-- so they do wherever that is so, the text has what the path's leaves need and these helpers, and no two things have one image
abbrev pub LowersTarget : Within → NameMap → List Function → List Helper → Expr → Targets → Type 0
LowersTarget within names fs hs e x = (im : Images) (a : Around) (sc : Scope) → CallsFrom within fs a.callee → AreDistinct im → StandsOnVector names (leaves e) → Each (LeafStands names fs im a sc) (leaves e) → EachHelps hs sc
    → StandsAsTarget im a sc (meaning e) x

-- the indices of a path are constant, and their values don't take too long
abbrev pub AllConstant : List Function → List Indexing → Type 0
AllConstant fs [] = ⊤
AllConstant fs (x ∷ xs) = IsConstant fs x.index × AllConstant fs xs

-- in a process no target of such a path has a guard, each select is decimal, and nothing is named apart
abbrev pub BareIf : Within → List Function → Expr → Name → Targets → Type 0
BareIf Process fs e name x = (number : ℕ) (t : SvType) (xs : List Indexing) (part : Bool) → IsTypedPath number t e xs part → AllConstant fs xs → IsBare name x
BareIf Routine fs e name x = ⊤

-- Each target is one name with a select at most, and with none where what the path stands on has one bit; the name is that of what the
-- path stands on, if the map says one thing of it. They are made with some indices that are put together for the path. Where all of
-- these are known, no target has a guard, its select is decimal, and nothing is named apart; so it is in a process where the path's
-- indices are constant.
pub record HasShape (within : Within) (names : NameMap) (fs : List Function) (hs : List Helper) (e : Expr) (x : Targets) : Type 0 where
  pub root : Root
  pub root_is : IsRootOf root e
  pub name : Name
  pub name_is : OneHeld names root.held → name ≡ name_under names root.held
  pub own : AllOwn name root.bits x.writes
  pub indices : List PathIndex
  pub puts : PutsIndices within names fs hs e [] indices
  pub bare : BareOf name indices x
  pub constant : BareIf within fs e name x
