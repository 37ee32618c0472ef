-- A path stands on an element of a memory, or in a vector.
use Rattle.std.proofs.Common.{◌≡◌, ℕ, Bool, true, false, List, [], ◌∷◌, ◌++◌, append-nil, inl, inr, Some, Result, Ok, Err, IfOk, refl, ap, sym, ◌∙◌, subst}
use Rattle.std.specs.declared.alloc.AllocError.{AllocError}
use Rattle.sv_types.specs.declared.expression.Expr.{Expr}
use Rattle.sv_types.specs.declared.expression.Form.TheVariants as V
use Rattle.sv_types.specs.declared.statement.Function.{Function}
use Rattle.sv_types.specs.declared.types.SvType.{SvType}
use Rattle.sv_types.specs.Layouts.{Layout, layout}
use Rattle.v_tree.specs.declared.names.Helper.{Helper}
use Rattle.v_tree.specs.declared.names.NameMap.{NameMap}
use Rattle.target_flatten.specs.Owning.{AllWrite}
use Rattle.target_flatten.specs.Writing.{pieces}
use Rattle.target_walk.specs.declared.never.Targets.{Targets}
use Rattle.typed_paths.specs.Typed.{Indexing, IsTypedPath, IsTyped, of_signal, of_local, of_member, of_index, of_part, of_slide}
use Rattle.expr_lower.specs.Leaves.{Leaf, Signals, Elements, Inside, Locals, onto, indexed, leaves}
use Rattle.name_maps.specs.Named.{is_memory, OneSignal}
use Rattle.expr_lower.proofs.AskedLeaves.{leaves-Signal, leaves-Local, leaves-Member, leaves-Index, leaves-Part, leaves-Slide}
use Rattle.target_lower.specs.declared.within.Within.{Within}
use Rattle.target_lower.specs.Targets.{StandsOnVector, LowersTarget, HasShape}
use Rattle.element_paths.specs.Elements.{GoesOn, at_element, by_member, by_index, by_part, by_slide}
use Rattle.element_paths.specs.declared.elements.Element.{Element}
use Rattle.memory_lower.specs.Lowered.{LowersInMemory}
use Rattle.memory_lower.specs.Shapes.{HasWordShape, HasWrittenShape}
use Rattle.memory_lower.specs.Written.{IsInMemory, LowersWritten}

-- The first leaf of a path: a whole signal, an element of one from which the path goes on, something else of one, or a local.
data First (e : Expr) : Type 0 where
  whole : (n : ℕ) → e.form ≡ V.Signal n → leaves e ≡ Signals n (layout e.of) ∷ [] → First e
  element : (n : ℕ) (t : SvType) (i : Expr) (ls : List Leaf) → GoesOn n t i e → leaves e ≡ Elements n (layout t) ∷ ls → First e
  in_signal : (n : ℕ) (of : Layout) (ls : List Leaf) → leaves e ≡ Inside n of ∷ ls → First e
  in_local : (n : ℕ) (of : Layout) (ls : List Leaf) → leaves e ≡ Locals n of ∷ ls → First e

first-onto : (e from : Expr) (ms : List Leaf) → leaves e ≡ onto (leaves from) ++ ms → ((n : ℕ) (t : SvType) (i : Expr) → GoesOn n t i from → GoesOn n t i e) → First from → First e
first-onto e from ms is on (whole n form all) = in_signal n (layout from.of) ms (is ∙ ap (λ l. onto l ++ ms) all)
first-onto e from ms is on (element n t i ls goes all) = element n t i (ls ++ ms) (on n t i goes) (is ∙ ap (λ l. onto l ++ ms) all)
first-onto e from ms is on (in_signal n of ls all) = in_signal n of (ls ++ ms) (is ∙ ap (λ l. onto l ++ ms) all)
first-onto e from ms is on (in_local n of ls all) = in_local n of (ls ++ ms) (is ∙ ap (λ l. onto l ++ ms) all)

first-indexed : (e from i : Expr) → e.form ≡ V.Index from i → First from → First e
first-indexed e from i form (whole n signal all) =
    element n from.of i (leaves i) (at_element e from form signal refl) (leaves-Index e from i form ∙ ap (λ l. indexed l ++ leaves i) all)
first-indexed e from i form (element n t j ls goes all) = element n t j (ls ++ leaves i) (by_index e from i form goes) (leaves-Index e from i form ∙ ap (λ l. indexed l ++ leaves i) all)
first-indexed e from i form (in_signal n of ls all) = in_signal n of (ls ++ leaves i) (leaves-Index e from i form ∙ ap (λ l. indexed l ++ leaves i) all)
first-indexed e from i form (in_local n of ls all) = in_local n of (ls ++ leaves i) (leaves-Index e from i form ∙ ap (λ l. indexed l ++ leaves i) all)

-- of a member or a part no leaves follow
no-more : (e : Expr) (ls : List Leaf) → leaves e ≡ ls → leaves e ≡ ls ++ []
no-more e ls is = is ∙ sym (append-nil ls)

first-of : (number : ℕ) (t : SvType) (e : Expr) (xs : List Indexing) (part : Bool) → IsTypedPath number t e xs part → First e
first-of number t e xs part (of_signal y n is it of) = whole n is (leaves-Signal y n is)
first-of number t e xs part (of_local y n is it of) = in_local n (layout y.of) [] (leaves-Local y n is)
first-of number t e xs part (of_member y from k ys is path) =
    first-onto y from [] (no-more y (onto (leaves from)) (leaves-Member y from k is)) (λ n u i goes. by_member y from k is goes) (first-of number t from ys false path)
first-of number t e xs part (of_index y from i ys b is has path) = first-indexed y from i is (first-of number t from ys b path)
first-of number t e xs part (of_part y from left right ys b is has bounds path) =
    first-onto y from [] (no-more y (onto (leaves from)) (leaves-Part y from left right is)) (λ n u i goes. by_part y from left right is goes) (first-of number t from ys b path)
first-of number t e xs part (of_slide y from i n up ys b is has bounds path) =
    first-onto y from (leaves i) (leaves-Slide y from i n up is) (λ k u j goes. by_slide y from i n up is goes) (first-of number t from ys b path)

first-vector : (names : NameMap) (e : Expr) → ((n : ℕ) (t : SvType) (i : Expr) → GoesOn n t i e → OneSignal names.signals n → is_memory names.signals n ≡ false) → First e → StandsOnVector names (leaves e)
first-vector names e none (whole n form all) = subst (StandsOnVector names) (sym all) tt
first-vector names e none (element n t i ls goes all) = subst (StandsOnVector names) (sym all) (none n t i goes)
first-vector names e none (in_signal n of ls all) = subst (StandsOnVector names) (sym all) tt
first-vector names e none (in_local n of ls all) = subst (StandsOnVector names) (sym all) tt

-- a path that goes on from no element
pub vector-without : (names : NameMap) (e : Expr) → IsTyped e → ((n : ℕ) (t : SvType) (i : Expr) → GoesOn n t i e → ⊥) → StandsOnVector names (leaves e)
vector-without names e typed none = first-vector names e (λ n t i goes. absurd (none n t i goes)) (first-of typed.number typed.of e typed.indices typed.part typed.path)

-- and one that goes on from one of a signal that is no memory
record IsFirst (n : ℕ) (e : Expr) : Type 0 where
  pub of : Layout
  pub others : List Leaf
  pub is : leaves e ≡ Elements n of ∷ others

element-first : (n : ℕ) (t : SvType) (i e : Expr) → GoesOn n t i e → IsFirst n e
element-first n t i e (at_element y from form signal of) = record {
  of = layout from.of;
  others = leaves i;
  is = leaves-Index y from i form ∙ ap (λ l. indexed l ++ leaves i) (leaves-Signal from n signal);
}
element-first n t i e (by_member y from k form goes) =
    let h = element-first n t i from goes in record { of = h.of; others = h.others; is = leaves-Member y from k form ∙ ap onto h.is }
element-first n t i e (by_index y from j form goes) =
    let h = element-first n t i from goes in record { of = h.of; others = h.others ++ leaves j; is = leaves-Index y from j form ∙ ap (λ l. indexed l ++ leaves j) h.is }
element-first n t i e (by_part y from left right form goes) =
    let h = element-first n t i from goes in record { of = h.of; others = h.others; is = leaves-Part y from left right form ∙ ap onto h.is }
element-first n t i e (by_slide y from j m up form goes) =
    let h = element-first n t i from goes in record { of = h.of; others = h.others ++ leaves j; is = leaves-Slide y from j m up form ∙ ap (λ l. onto l ++ leaves j) h.is }

pub vector-with : (names : NameMap) (n : ℕ) (t : SvType) (i e : Expr) → GoesOn n t i e → (OneSignal names.signals n → is_memory names.signals n ≡ false) → StandsOnVector names (leaves e)
vector-with names n t i e goes no_memory = subst (StandsOnVector names) (sym (element-first n t i e goes).is) no_memory

-- what is written in a vector
vector-written : (within : Within) (names : NameMap) (fs : List Function) (hs : List Helper) (e : Expr) (x : Targets) → StandsOnVector names (leaves e) → LowersTarget within names fs hs e x → LowersWritten within names fs hs e x
vector-written within names fs hs e x vector h im a sc calls distinct all helps =
    let s = h im a sc calls distinct vector all helps in record { changes = s.changes; names = s.names; own = s.own }

pub vector-all : (within : Within) (names : NameMap) (fs : List Function) (hs : List Helper) (e : Expr) (r : Result Targets AllocError) → StandsOnVector names (leaves e) → IfOk r (LowersTarget within names fs hs e) → IfOk r (LowersWritten within names fs hs e)
vector-all within names fs hs e (Ok x) vector h = vector-written within names fs hs e x vector h
vector-all within names fs hs e (Err x) vector h = tt

-- and in a memory
some-same : (x y : ℕ) → Some x ≡ Some y → x ≡ y
some-same x y e = cc

memory-written : (within : Within) (names : NameMap) (fs : List Function) (hs : List Helper) (n : ℕ) (t : SvType) (e : Expr) (x : Targets) → (OneSignal names.signals n → is_memory names.signals n ≡ true) → LowersInMemory within names fs hs n t e x → LowersWritten within names fs hs e x
memory-written within names fs hs n t e x memory h im a sc calls distinct all helps =
    let s = h im a sc calls distinct memory all helps in
    record {
      changes = s.changes;
      names = s.names;
      own = λ r root. subst (λ k. AllWrite (im.number k) (pieces x.writes) sc) (some-same n r (sym s.root ∙ root)) s.own;
    }

pub memory-all : (within : Within) (names : NameMap) (fs : List Function) (hs : List Helper) (n : ℕ) (t : SvType) (e : Expr) (r : Result Targets AllocError) → (OneSignal names.signals n → is_memory names.signals n ≡ true) → IfOk r (LowersInMemory within names fs hs n t e)
    → IfOk r (LowersWritten within names fs hs e)
memory-all within names fs hs n t e (Ok x) memory h = memory-written within names fs hs n t e x memory h
memory-all within names fs hs n t e (Err x) memory h = tt

-- the form of either
pub vector-shape : (within : Within) (names : NameMap) (fs : List Function) (hs : List Helper) (e : Expr) (r : Result Targets AllocError) → IfOk r (HasShape within names fs hs e) → IfOk r (HasWrittenShape within names fs hs e)
vector-shape within names fs hs e (Ok x) h = inl h
vector-shape within names fs hs e (Err x) h = tt

pub memory-shape : (within : Within) (names : NameMap) (fs : List Function) (hs : List Helper) (e : Expr) (x : Element) (r : Result Targets AllocError) → IsInMemory names e x → IfOk r (HasWordShape names x.signal x.of.now)
    → IfOk r (HasWrittenShape within names fs hs e)
memory-shape within names fs hs e x (Ok made) is h = inr (record { signal = x.signal; of = x.of.now; index = x.index.now; goes = is.goes; memory = is.memory; shape = h })
memory-shape within names fs hs e x (Err y) is h = tt
