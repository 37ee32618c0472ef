-- What targets for a select path are made of, in a vector or in the words of a memory (IEEE 1364-2005 clauses 4.9, 6.1.2 and 9.2).
use Rattle.std.specs.Prelude.{◌≡◌, ◌⊎◌, ℕ, true, List, length}
use Rattle.sv_types.specs.declared.expression.Expr.{Expr}
use Rattle.sv_types.specs.declared.statement.Function.{Function}
use Rattle.sv_types.specs.declared.types.SvType.{SvType}
use Rattle.sv_types.specs.Layouts.{layout}
use Rattle.v_tree.specs.Names.{Name}
use Rattle.v_tree.specs.declared.names.Helper.{Helper}
use Rattle.v_tree.specs.declared.names.NameMap.{NameMap}
use Rattle.target_walk.specs.declared.never.Targets.{Targets}
use Rattle.name_maps.specs.Named.{signal_name, is_memory, OneSignal}
use Rattle.target_lower.specs.declared.within.Within.{Within}
use Rattle.target_lower.specs.Targets.{HasShape}
use Rattle.element_paths.specs.Elements.{GoesOn}
use Rattle.memory_targets.specs.declared.words.Word.{Word}
use Rattle.memory_targets.specs.Owning.{AllOwnInWord}

-- each is one name with the select of one word, and with one more at most, none where an element has one bit; the name is the
-- signal's, if the map says one thing of it
pub record HasWordShape (names : NameMap) (n : ℕ) (t : SvType) (x : Targets) : Type 0 where
  pub word : Word
  pub name : Name
  pub name_is : OneSignal names.signals n → name ≡ signal_name names.signals n
  pub own : AllOwnInWord name (length (layout t).element.two_state) word x.writes

-- so they are for a path that goes on from an element of a memory
pub record IsShapedInWords (names : NameMap) (e : Expr) (x : Targets) : Type 0 where
  pub signal : ℕ
  pub of : SvType
  pub index : Expr
  pub goes : GoesOn signal of index e
  pub memory : OneSignal names.signals signal → is_memory names.signals signal ≡ true
  pub shape : HasWordShape names signal of x

-- in a vector, or in words
abbrev pub HasWrittenShape : Within → NameMap → List Function → List Helper → Expr → Targets → Type 0
HasWrittenShape within names fs hs e x = HasShape within names fs hs e x ⊎ IsShapedInWords names e x
