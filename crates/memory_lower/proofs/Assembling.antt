-- Targets in the word of an element's index, put together.
use Rattle.std.proofs.Common.{◌≡◌, ℕ, List, length, Result, Ok, Err, IfOk, OnOk}
use Rattle.std.specs.declared.alloc.AllocError.{AllocError}
use Rattle.sv_types.specs.declared.expression.Expr.{Expr}
use Rattle.sv_types.specs.declared.statement.Function.{Function}
use Rattle.sv_types.specs.declared.types.SvType.{SvType}
use Rattle.sv_types.specs.Layouts.{layout}
use Rattle.sv_types.specs.Expressions.{meaning}
use Rattle.v_tree.specs.declared.names.Helper.{Helper}
use Rattle.v_tree.specs.declared.names.NameMap.{NameMap}
use Rattle.path_flatten.specs.Helping.{Grows}
use Rattle.typed_paths.specs.Typed.{IsTyped}
use Rattle.target_walk.specs.declared.given.Given.{Given}
use Rattle.target_walk.specs.declared.never.Targets.{Targets}
use Rattle.target_lower.specs.declared.within.Within.{Within}
use Rattle.target_lower.specs.Made.{GivenFor}
use Rattle.target_lower.proofs.Making.{given-more}
use Rattle.memory_paths.specs.Inner.{IsInner}
use Rattle.memory_targets.specs.declared.words.Word.{Word}
use Rattle.memory_lower.specs.Lowered.{LowersInMemory, IsInWord}
use Rattle.memory_lower.specs.Made.{WordOf, WordTargets, ElementTargets}
use Rattle.memory_lower.specs.Shapes.{HasWordShape}
use Rattle.memory_lower.proofs.Lowered.{lowers-memory, word-for}

-- with the word of an index that was given with fewer helpers
module _ (within : Within) (names : NameMap) (fs : List Function) (old new : List Helper) (n : ℕ) (t : SvType) (i inner : Expr) (g : Given) (w : Word) (made : GivenFor within names fs old i g) (is : WordOf t g w) where
  pub element-targets : (r : Result Targets AllocError) → OnOk r (Grows old new) → IfOk r (WordTargets within names fs new n t inner w) → IfOk r (ElementTargets within names fs new n t i inner)
  element-targets (Ok x) grows h = record { word = w; is_word = word-for within names fs new t i g w (given-more within names fs old new i g grows made).0 is; targets = h }
  element-targets (Err x) grows h = tt

module _ (n : ℕ) (t : SvType) (i e inner : Expr) (is : IsInner n t i e inner) (within : Within) (names : NameMap) (fs : List Function) (hs : List Helper) where
  in-word : (x : Targets) → ElementTargets within names fs hs n t i inner x → IsInWord within names fs hs n t i e x
  in-word x h = record {
    inner = inner;
    is_inner = is;
    word = h.word;
    is_word = h.is_word;
    indices = h.targets.indices;
    puts = h.targets.puts;
    alone = h.targets.in_word.alone;
    spreads = h.targets.in_word.is_alone.spreads;
    name = h.targets.in_word.is_alone.name;
    name_is = h.targets.in_word.is_alone.name_is;
    own = h.targets.in_word.is_alone.own;
    all = h.targets.in_word.puts.all;
    apart = h.targets.in_word.puts.apart;
  }

  pub shape-from : (r : Result Targets AllocError) → IfOk r (ElementTargets within names fs hs n t i inner) → IfOk r (HasWordShape names n t)
  shape-from (Ok x) h =
      let alone = h.targets.in_word.is_alone in
      record { word = h.word; name = alone.name; name_is = alone.name_is; own = h.targets.in_word.puts.own alone.name (length (layout t).element.two_state) alone.own }
  shape-from (Err x) h = tt

  pub lowers-from : IsTyped e → (meaning e).misfits ≡ 0 → (r : Result Targets AllocError) → IfOk r (ElementTargets within names fs hs n t i inner) → IfOk r (LowersInMemory within names fs hs n t e)
  lowers-from typed fits (Ok x) h = lowers-memory within names fs hs n t i e x (in-word x h) typed fits
  lowers-from typed fits (Err x) h = tt
