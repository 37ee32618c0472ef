-- A typed path is followed by the indices that stand for its own ones, and a number among them.
use Rattle.std.proofs.Common.{◌≡◌, ℕ, ◌<◌, ◌≤◌, ◌^◌, Bool, true, false, ℤ, List, [], ◌∷◌, ◌++◌, length, Some, refl, ap, sym, ◌∙◌, subst, arith}
use Rattle.row_machine.specs.Valuation.{Valuation}
use Rattle.sv_types.specs.declared.expression.Expr.{Expr}
use Rattle.sv_types.specs.declared.types.SvType.{SvType}
use Rattle.sv_types.specs.Layouts.{layout, width_of}
use Rattle.sv_types.specs.Windows.{falls}
use Rattle.sv_types.specs.Surroundings.{Around}
use Rattle.v_meaning.specs.Scopes.{Scope, Named}
use Rattle.target_laws.specs.Elements.{far_from}
use Rattle.target_flatten.specs.declared.writes.Image.{Image}
use Rattle.target_walk.specs.declared.given.Given.{Given}
use Rattle.target_walk.specs.declared.given.Given.TheVariants as G
use Rattle.target_walk.specs.declared.never.Targets.{Targets}
use Rattle.target_walk.specs.Giving.{moved_given, IsSmall, AllSmall}
use Rattle.target_walk.specs.Naming.{FlattensIn}
use Rattle.target_walk.specs.Rooms.{IsKnownIn, Followed, MakesRoom}
use Rattle.target_walk.specs.Walking as W
use Rattle.target_walk.specs.Walking.{Indexed}
use Rattle.typed_paths.specs.Typed.{Indexing, IsTypedPath, of_signal, of_local, of_member, of_index, of_part, of_slide}
use Rattle.filled_paths.specs.Filling.{index_in, put_index}
use Rattle.case_targets.specs.declared.indices.PathIndex.{PathIndex}
use Rattle.case_targets.specs.declared.indices.PathIndex.TheVariants as I
use Rattle.case_targets.specs.Spreading.{all_of, Pairwise, StandsFor, IsSet, SpreadsFlat}

moved-known : (part : Bool) (g : Given) (f : ℤ) → IsKnownIn part g → IsKnownIn part (moved_given g f)
moved-known part (G.Known k) f h = tt
moved-known true (G.Lowered x d) f h = h
moved-known false (G.Lowered x d) f h = tt

pub followed : (number : ℕ) (t : SvType) (a : Around) (sc : Scope) (v : Valuation) (e : Expr) (xs : List Indexing) (part : Bool) (gs : List Given) → IsTypedPath number t e xs part
    → Pairwise (StandsFor a sc v) xs (all_of gs []) → Followed (width_of t) a sc v e gs part
followed number t a sc v e xs part [] (of_signal y n is it of) given = W.of_signal y n is (ap width_of of)
followed number t a sc v e xs part (g ∷ gs) (of_signal y n is it of) given = absurd given
followed number t a sc v e xs part [] (of_local y n is it of) given = W.of_local y n is (ap width_of of)
followed number t a sc v e xs part (g ∷ gs) (of_local y n is it of) given = absurd given
followed number t a sc v e xs part gs (of_member y from k ys is path) given = W.of_member y from k gs is (followed number t a sc v from ys false gs path given)
followed number t a sc v e xs part [] (of_index y from i ys b is has path) given = absurd given
followed number t a sc v e xs part (g ∷ gs) (of_index y from i ys b is has path) given =
    W.of_index y from i g gs b is given.0.0 given.0.1 (followed number t a sc v from ys b gs path given.1)
followed number t a sc v e xs part gs (of_part y from left right ys b is has bounds path) given =
    W.of_part y from left right gs b is bounds (followed number t a sc v from ys b gs path given)
followed number t a sc v e xs part [] (of_slide y from i n up ys b is has bounds path) given = absurd given
followed number t a sc v e xs part (g ∷ gs) (of_slide y from i n up ys b is has bounds path) given =
    W.of_slide y from i n up g gs b is given.0.0 bounds (λ j test. moved-known b g (far_from (falls (layout from.of)) up n j) given.0.1) (followed number t a sc v from ys b gs path given.1)

-- indices of which none is left
pub set-flat : (im : Image) (e : Expr) (gs : List Given) → im.bits < 2 ^ 32 → MakesRoom e gs im.room → (vec : Named) (a : Around) (sc : Scope) (v : Valuation) (h : IsSet im.bits e (all_of gs []) vec a sc v)
    → Indexed im.room im.bits a sc v e gs h.part
set-flat im e gs small room vec a sc v h =
    room im.room im.bits a sc v h.part (omega arith) (subst (λ n. Followed n a sc v e gs h.part) h.width (followed h.number h.of a sc v e h.indices h.part gs h.path h.stand))

pub spreads-flat : (im : Image) (e : Expr) (gs : List Given) (r : Targets) → im.bits < 2 ^ 32 → 1 ≤ im.room → im.bits < 2 ^ im.room → MakesRoom e gs im.room → FlattensIn im e gs r
    → SpreadsFlat im.bits e gs r.writes
spreads-flat im e gs r small some enough room flattens vec a sc v h =
    (flattens vec a sc v h.part h.vector small some enough h.typed (set-flat im e gs small room vec a sc v h)).path

-- one more of the others
pub done-more : (gs : List Given) (g : Given) (ps : List PathIndex) → all_of gs (I.Plain g ∷ ps) ≡ all_of (gs ++ g ∷ []) ps
done-more [] g ps = refl
done-more (x ∷ gs) g ps = ap (λ (l : List PathIndex). I.Plain x ∷ l) (done-more gs g ps)

pub small-more : (gs : List Given) (g : Given) → AllSmall gs → IsSmall g → AllSmall (gs ++ g ∷ [])
small-more [] g h one = (one, tt)
small-more (x ∷ gs) g h one = (h.0, small-more gs g h.1 one)

-- the index behind those that are done, and one in its place
pub record IsAt (F : Indexing → PathIndex → Type 0) (gs : List Given) (p : PathIndex) (ps : List PathIndex) (xs : List Indexing) : Type 0 where
  pub x : Indexing
  pub at : index_in (length gs) xs ≡ Some x
  pub one : F x p
  pub put : (lit : Expr) (g : Given) → F (record { index = lit; in_part = x.in_part }) (I.Plain g) → Pairwise F (put_index lit (length gs) xs) (all_of gs (I.Plain g ∷ ps))

pub is-at : (F : Indexing → PathIndex → Type 0) (gs : List Given) (p : PathIndex) (ps : List PathIndex) (xs : List Indexing) → Pairwise F xs (all_of gs (p ∷ ps)) → IsAt F gs p ps xs
is-at F [] p ps [] h = absurd h
is-at F [] p ps (x ∷ xs) h = record { x = x; at = refl; one = h.0; put = λ lit g new. (new, h.1) }
is-at F (y ∷ gs) p ps [] h = absurd h
is-at F (y ∷ gs) p ps (x ∷ xs) h =
    let inner = is-at F gs p ps xs h.1 in
    record { x = inner.x; at = inner.at; one = inner.one; put = λ lit g new. (h.0, inner.put lit g new) }

some-same : (x y : Indexing) → Some x ≡ Some y → x ≡ y
some-same x y e = cc

pub same-index : (n : ℕ) (xs : List Indexing) (x y : Indexing) → index_in n xs ≡ Some x → index_in n xs ≡ Some y → x ≡ y
same-index n xs x y h g = some-same x y (sym h ∙ g)
