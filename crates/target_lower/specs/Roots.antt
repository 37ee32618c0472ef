-- What a select path that is written stands on, and its image.
use Rattle.std.specs.Prelude.{◌≡◌, ◌⊎◌, ⊤, ℕ, Bool, List, [], ◌∷◌, ◌++◌}
use Rattle.sv_types.specs.declared.expression.Expr.{Expr}
use Rattle.sv_types.specs.declared.types.SvType.{SvType}
use Rattle.sv_types.specs.Layouts.{Layout, layout, width_of}
use Rattle.sv_types.specs.Surroundings.{local_number}
use Rattle.v_tree.specs.Names.{Name}
use Rattle.v_tree.specs.declared.names.NameMap.{NameMap}
use Rattle.expr_lower.specs.Leaves.{Leaf, Signals, Elements, Inside, Locals, leaves}
use Rattle.name_maps.specs.Named.{signal_name, local_name, OneSignal, OneLocal}
use Rattle.typed_paths.specs.Typed.{Indexing, IsTypedPath}
use Rattle.target_flatten.specs.Owning.{AllOwn}
use Rattle.target_walk.specs.declared.never.Targets.{Targets}
use Rattle.case_targets.specs.declared.indices.PathIndex.{PathIndex}
use Rattle.case_targets.specs.Naming.{SpreadsTo, BareOf}
use Rattle.target_lower.specs.declared.roots.Held.{Held}
use Rattle.target_lower.specs.declared.roots.Held.TheVariants as H
use Rattle.target_lower.specs.declared.roots.Root.{Root}

-- it is what is held under a number, and the leaf that it is with a type
abbrev pub IsUnder : Held → ℕ → Type 0
IsUnder H.Nothing number = ⊥
IsUnder (H.Signal n) number = n ≡ number
IsUnder (H.Local n) number = local_number n ≡ number

-- the leaf of a path with a type: all of a signal, one of which elements or other parts are selected, or a local
abbrev pub IsRootLeaf : Layout → Held → Leaf → Type 0
IsRootLeaf of H.Nothing l = ⊥
IsRootLeaf of (H.Signal n) l = (l ≡ Signals n of) ⊎ ((l ≡ Elements n of) ⊎ (l ≡ Inside n of))
IsRootLeaf of (H.Local n) l = l ≡ Locals n of

-- the leaves of a path's indices
abbrev pub index_leaves : List Indexing → List Leaf
index_leaves [] = []
index_leaves (x ∷ xs) = index_leaves xs ++ leaves x.index

-- a typed path stands on it, and the path's leaves are its leaf and those of its indices
pub record StandsOn (r : Root) (e : Expr) (number : ℕ) (t : SvType) (xs : List Indexing) : Type 0 where
  pub held : IsUnder r.held number
  pub bits : r.bits ≡ width_of t
  pub leaf : Leaf
  pub is_leaf : IsRootLeaf (layout t) r.held leaf
  pub all : leaves e ≡ leaf ∷ index_leaves xs

abbrev pub IsRootOf : Root → Expr → Type 0
IsRootOf r e = (number : ℕ) (t : SvType) (xs : List Indexing) (part : Bool) → IsTypedPath number t e xs part → StandsOn r e number t xs

-- the map says one thing of it
abbrev pub OneHeld : NameMap → Held → Type 0
OneHeld names H.Nothing = ⊤
OneHeld names (H.Signal n) = OneSignal names.signals n
OneHeld names (H.Local n) = OneLocal names.locals n

-- the name under which it stands in the text
abbrev pub name_under : NameMap → Held → Name
name_under names H.Nothing = []
name_under names (H.Signal n) = signal_name names.signals n
name_under names (H.Local n) = local_name names.locals n

-- targets for a path with these indices, in the image of what it stands on
pub record IsInImage (names : NameMap) (e : Expr) (ps : List PathIndex) (x : Targets) : Type 0 where
  pub root : Root
  pub root_is : IsRootOf root e
  pub name : Name
  pub name_is : OneHeld names root.held → name ≡ name_under names root.held
  pub spreads : SpreadsTo root.bits e ps x
  pub own : AllOwn name root.bits x.writes
  pub bare : BareOf name ps x
