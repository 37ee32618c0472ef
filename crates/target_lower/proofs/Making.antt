-- What is made of indices stands for them.
use Rattle.std.proofs.Common.{◌≡◌, ℕ, ◌≤◌, Bool, true, false, ℤ, pos, ◌+ℤ◌, List, [], ◌∷◌, Option, Some, None, refl, arith, ap, sym, ◌∙◌, subst}
use Rattle.std.proofs.lemmas.Int.{ints}
use Rattle.row_machine.specs.Valuation.{Valuation}
use Rattle.sv_types.specs.declared.expression.Expr.{Expr}
use Rattle.sv_types.specs.declared.statement.Function.{Function}
use Rattle.sv_types.specs.declared.types.SvType.{SvType}
use Rattle.sv_types.specs.Layouts.{layout}
use Rattle.sv_types.specs.Surroundings.{Around}
use Rattle.sv_types.specs.Meanings as S
use Rattle.sv_types.specs.Paths as P
use Rattle.sv_types.specs.Expressions.{meaning}
use Rattle.sv_types.proofs.ValueLengths.{length-value}
use Rattle.sv_types.proofs.Widths.{has-bits}
use Rattle.v_tree.specs.declared.names.Helper.{Helper}
use Rattle.v_tree.specs.declared.names.NameMap.{NameMap}
use Rattle.v_meaning.specs.Scopes.{Scope}
use Rattle.eval_parts.proofs.Selecting.{same-Member, same-Index, same-Part, same-Slide}
use Rattle.lowering_laws.specs.Agreeing.{Images, Agree}
use Rattle.lowering_laws.specs.NamedImages.{AreImages}
use Rattle.lowering_laws.proofs.Wholes.{member-typed, index-typed, sliding-typed}
use Rattle.path_flatten.specs.declared.offsets.Index.{Index}
use Rattle.path_flatten.specs.Helping.{EachHelps, Grows}
use Rattle.path_flatten.specs.Sliding.{IsIndexOf}
use Rattle.path_flatten.proofs.Helping.{helps-before}
use Rattle.target_lower.specs.Given.{AllStandFor, NamesAs, AllNameAs}
use Rattle.typed_paths.specs.Typed.{Indexing, IsTypedPath, IsTyped, of_signal, of_local, of_member, of_index, of_part, of_slide}
use Rattle.typed_paths.proofs.Marking.{part-marks}
use Rattle.target_laws.specs.Distances.{moved_by}
use Rattle.target_walk.specs.declared.given.Given.{Given}
use Rattle.target_walk.specs.declared.given.Given.TheVariants as G
use Rattle.target_walk.specs.Owning.{AllFixed}
use Rattle.target_walk.specs.Giving.{IsGiven, IsSmall, given_names}
use Rattle.case_targets.specs.declared.indices.PathIndex.{PathIndex}
use Rattle.case_targets.specs.declared.indices.PathIndex.TheVariants as I
use Rattle.case_targets.specs.Naming.{givens_for}
use Rattle.case_targets.specs.Spreading.{Pairwise, HasWidth, IsShort, AllShort, IsShaped, StandsFor}
use Rattle.expr_lower.specs.Leaves.{Leaf, leaves, Each}
use Rattle.expr_lower.specs.Lowering.{LeafStands}
use Rattle.expr_lower.specs.Paths.{Indexes}
use Rattle.expr_lower.proofs.AskedLeaves.{each-left, each-right}
use Rattle.target_lower.specs.declared.within.Within.{Within}
use Rattle.target_lower.specs.declared.within.Within.TheVariants.{Process, Routine}
use Rattle.target_lower.specs.Made.{CallsFrom, FixedIf, StandsForIndex, GivenFor, path_index, IsMade, AreMade, PutsIndices}
use Rattle.target_lower.specs.Roots.{index_leaves}
use Rattle.target_lower.specs.Targets.{AllConstant}

-- more helpers
indexes-more : (names : NameMap) (fs : List Function) (old new : List Helper) (i : Expr) (x : Index) → Grows old new → Indexes names fs old i x → Indexes names fs new i x
indexes-more names fs old new i x grows h = record { width = h.width; sign = h.sign; lowers = λ im a sc all helps. h.lowers im a sc all (helps-before old new sc grows helps) }

stands-more : (within : Within) (names : NameMap) (fs : List Function) (old new : List Helper) (i : Expr) (g : Given) → Grows old new → StandsForIndex within names fs old i g → StandsForIndex within names fs new i g
stands-more within names fs old new i (G.Known k) grows h = h
stands-more within names fs old new i (G.Lowered x d) grows h = (indexes-more names fs old new i x grows h.0, h.1)

pub given-more : (within : Within) (names : NameMap) (fs : List Function) (old new : List Helper) (i : Expr) (g : Given) → Grows old new → GivenFor within names fs old i g → GivenFor within names fs new i g
given-more within names fs old new i g grows h = (stands-more within names fs old new i g grows h.0, h.1, h.2)

pub made-more : (within : Within) (names : NameMap) (fs : List Function) (old new : List Helper) (x : Indexing) (p : PathIndex) → Grows old new → IsMade within names fs old x p → IsMade within names fs new x p
made-more within names fs old new x (I.Plain g) grows h = (stands-more within names fs old new x.index g grows h.0, h.1, h.2)
made-more within names fs old new x (I.InPart i) grows h = (indexes-more names fs old new x.index i grows h.0, h.1)

-- what is lowered isn't given by its number, whatever it is moved by
fixed-as : (within : Within) (fs : List Function) (i : Expr) (x : Index) (d e : ℤ) → FixedIf within fs i (G.Lowered x d) → FixedIf within fs i (G.Lowered x e)
fixed-as Process fs i x d e h = h
fixed-as Routine fs i x d e h = h

-- an index as one of a path
pub index-made : (within : Within) (names : NameMap) (fs : List Function) (hs : List Helper) (i : Expr) (part : Bool) (g : Given) → GivenFor within names fs hs i g → IsMade within names fs hs (record { index = i; in_part = part }) (path_index part g)
index-made within names fs hs i part (G.Known k) h = (h.0, tt, h.2)
index-made within names fs hs i true (G.Lowered x d) h = (h.0.0, fixed-as within fs i x d (pos 0) h.2)
index-made within names fs hs i false (G.Lowered x d) h = (h.0, tt, h.2)

pub index-short : (part : Bool) (g : Given) → IsSmall g → IsShort (path_index part g)
index-short part (G.Known k) h = h
index-short true (G.Lowered x d) h = h.0
index-short false (G.Lowered x d) h = h

-- one index
module _ (within : Within) (names : NameMap) (fs : List Function) (hs : List Helper) (im : Images) (a : Around) (sc : Scope) (helps : EachHelps hs sc) where
  index-of : (i : Expr) (x : Index) → Indexes names fs hs i x → 1 ≤ S.wide (meaning i) → Each (LeafStands names fs im a sc) (leaves i) → (now v : Valuation) → Agree im now v
      → IsIndexOf x (meaning i) (record a { now = now }) sc v
  index-of i x h some all now v agree = record {
    width = h.width;
    sign = sym h.sign;
    some = some;
    long = length-value i (S.wide (meaning i)) (S.signed (meaning i)) (record a { now = now });
    same = (h.lowers im a sc all helps).stands now v agree;
  }

  moved-none : (z : Option ℤ) → moved_by z (pos 0) ≡ z
  moved-none None = refl
  moved-none (Some k) = (let same : k +ℤ pos 0 ≡ k = omega (arith, ints) in ap Some same)

  given-number : CallsFrom within fs a.callee → (i : Expr) (g : Given) → (meaning i).misfits ≡ 0 → Each (LeafStands names fs im a sc) (leaves i) → StandsForIndex within names fs hs i g → (now v : Valuation) → Agree im now v
      → IsGiven g (P.index_of (meaning i) (record a { now = now })) sc v
  given-number calls i (G.Known k) typed all h now v agree = sym (h.number (record a { now = now }) calls)
  given-number calls i (G.Lowered x d) typed all h now v agree =
      let b : Around = record a { now = now } in (
        P.index_of (meaning i) b,
        record { index = meaning i; around = b; is = index-of i x h.0 (has-bits i typed) all now v agree; number = refl },
        ap (moved_by (P.index_of (meaning i) b)) h.1 ∙ moved-none (P.index_of (meaning i) b),
      )

  no-images : AreImages im.number [] []
  no-images = record { all = λ n k. absurd k; only = λ q k. absurd k }

  given-named : (i : Expr) (g : Given) → Each (LeafStands names fs im a sc) (leaves i) → StandsForIndex within names fs hs i g → AreImages im.number (meaning i).names (given_names g sc)
  given-named i (G.Known k) all h = subst (λ l. AreImages im.number l []) (sym h.none) no-images
  given-named i (G.Lowered x d) all h = (h.0.lowers im a sc all helps).names

  one-stands : CallsFrom within fs a.callee → (now v : Valuation) → Agree im now v → (x : Indexing) (p : PathIndex) → (meaning x.index).misfits ≡ 0 → Each (LeafStands names fs im a sc) (leaves x.index) → IsMade within names fs hs x p
      → StandsFor (record a { now = now }) sc v x p
  one-stands calls now v agree x (I.Plain g) typed all h = (given-number calls x.index g typed all h.0 now v agree, h.1)
  one-stands calls now v agree x (I.InPart i) typed all h = index-of x.index i h.0 (has-bits x.index typed) all now v agree

  one-named : (x : Indexing) (p : PathIndex) → Each (LeafStands names fs im a sc) (leaves x.index) → IsMade within names fs hs x p → NamesAs im.number sc x p
  one-named x (I.Plain g) all h = given-named x.index g all h.0
  one-named x (I.InPart i) all h = (h.0.lowers im a sc all helps).names

-- all indices of a path, one by one
module _ (L : Leaf → Type 0) (Made Wanted : Indexing → PathIndex → Type 0)
    (makes : (x : Indexing) (p : PathIndex) → (meaning x.index).misfits ≡ 0 → Each L (leaves x.index) → Made x p → Wanted x p) (number : ℕ) (t : SvType) where
  misfits-at : (e : Expr) (m : S.Meaning) → meaning e ≡ m → (meaning e).misfits ≡ 0 → m.misfits ≡ 0
  misfits-at e m same typed = ap (λ (x : S.Meaning). x.misfits) (sym same) ∙ typed

  all-made : (e : Expr) (xs : List Indexing) (part : Bool) (ps : List PathIndex) → IsTypedPath number t e xs part → (meaning e).misfits ≡ 0 → Each L (index_leaves xs) → Pairwise Made xs ps → Pairwise Wanted xs ps
  all-made e xs part [] (of_signal y n is it of) typed all made = tt
  all-made e xs part (p ∷ ps) (of_signal y n is it of) typed all made = absurd made
  all-made e xs part [] (of_local y n is it of) typed all made = tt
  all-made e xs part (p ∷ ps) (of_local y n is it of) typed all made = absurd made
  all-made e xs part ps (of_member y from k ys is path) typed all made =
      let below = (member-typed (layout y.of) y.spot.at (meaning from) k (misfits-at y _ (same-Member y from k is) typed)).step.typed_from in
      all-made from ys false ps path below all made
  all-made e xs part [] (of_index y from i ys b is has path) typed all made = absurd made
  all-made e xs part (p ∷ ps) (of_index y from i ys b is has path) typed all made =
      let own = index-typed (layout y.of) y.spot.at (meaning from) (meaning i) (misfits-at y _ (same-Index y from i is) typed) in
      (makes (record { index = i; in_part = b }) p own.1 (each-right L (index_leaves ys) (leaves i) all) made.0, all-made from ys b ps path own.0.typed_from (each-left L (index_leaves ys) (leaves i) all) made.1)
  all-made e xs part ps (of_part y from left right ys b is has bounds path) typed all made =
      let below = (part-marks (layout y.of) y.spot.at (meaning from) left right (misfits-at y _ (same-Part y from left right is) typed)).typed in
      all-made from ys b ps path below all made
  all-made e xs part [] (of_slide y from i n up ys b is has bounds path) typed all made = absurd made
  all-made e xs part (p ∷ ps) (of_slide y from i n up ys b is has bounds path) typed all made =
      let own = sliding-typed (layout y.of) y.spot.at (meaning from) (meaning i) n up (misfits-at y _ (same-Slide y from i n up is) typed) in
      (makes (record { index = i; in_part = b }) p own.1 (each-right L (index_leaves ys) (leaves i) all) made.0, all-made from ys b ps path own.0.typed_from (each-left L (index_leaves ys) (leaves i) all) made.1)

module _ (within : Within) (names : NameMap) (fs : List Function) (hs : List Helper) (im : Images) (a : Around) (sc : Scope) (helps : EachHelps hs sc) (number : ℕ) (t : SvType) (e : Expr) (xs : List Indexing) (part : Bool)
    (ps : List PathIndex) (path : IsTypedPath number t e xs part) (typed : (meaning e).misfits ≡ 0) (all : Each (LeafStands names fs im a sc) (index_leaves xs)) (made : AreMade within names fs hs xs ps) where
  -- they stand for the path's indices
  pub made-stand : CallsFrom within fs a.callee → (now v : Valuation) → Agree im now v → AllStandFor xs ps (record a { now = now }) sc v
  made-stand calls now v agree =
      all-made (LeafStands names fs im a sc) (IsMade within names fs hs) (StandsFor (record a { now = now }) sc v) (one-stands within names fs hs im a sc helps calls now v agree)
      number t e xs part ps path typed all made

  -- and name what they name
  pub made-named : AllNameAs im.number xs ps sc
  made-named =
      all-made (LeafStands names fs im a sc) (IsMade within names fs hs) (NamesAs im.number sc) (λ x p fits own h. one-named within names fs hs im a sc helps x p own h)
      number t e xs part ps path typed all made

-- a lowered index has the bits of the path's one
one-wide : (within : Within) (names : NameMap) (fs : List Function) (hs : List Helper) (x : Indexing) (p : PathIndex) → IsMade within names fs hs x p → HasWidth x p
one-wide within names fs hs x (I.Plain g) h = tt
one-wide within names fs hs x (I.InPart i) h = h.0.width

pairs-more : (P Q : Indexing → PathIndex → Type 0) → ((x : Indexing) (p : PathIndex) → P x p → Q x p) → (xs : List Indexing) (ps : List PathIndex) → Pairwise P xs ps → Pairwise Q xs ps
pairs-more P Q more [] [] h = tt
pairs-more P Q more [] (p ∷ ps) h = absurd h
pairs-more P Q more (x ∷ xs) [] h = absurd h
pairs-more P Q more (x ∷ xs) (p ∷ ps) h = (more x p h.0, pairs-more P Q more xs ps h.1)

pub made-shaped : (within : Within) (names : NameMap) (fs : List Function) (hs : List Helper) (e : Expr) (ps : List PathIndex) → IsTyped e → PutsIndices within names fs hs e [] ps → IsShaped e ps
made-shaped within names fs hs e ps typed puts = record {
  number = typed.number;
  of = typed.of;
  indices = typed.indices;
  part = typed.part;
  path = typed.path;
  widths = subst (Pairwise HasWidth typed.indices) (sym puts.is)
      (pairs-more (IsMade within names fs hs) HasWidth (one-wide within names fs hs) typed.indices puts.indices (puts.made typed.number typed.of typed.indices typed.part typed.path));
}

-- in a process constant ones are given by their numbers
pub made-fixed : (names : NameMap) (fs : List Function) (hs : List Helper) (xs : List Indexing) (ps : List PathIndex) → AreMade Process names fs hs xs ps → AllConstant fs xs → AllFixed (givens_for ps)
made-fixed names fs hs [] [] made constant = tt
made-fixed names fs hs [] (p ∷ ps) made constant = absurd made
made-fixed names fs hs (x ∷ xs) [] made constant = absurd made
made-fixed names fs hs (x ∷ xs) (I.Plain g ∷ ps) made constant = (made.0.2 constant.0, made-fixed names fs hs xs ps made.1 constant.1)
made-fixed names fs hs (x ∷ xs) (I.InPart i ∷ ps) made constant = (made.0.1 constant.0, made-fixed names fs hs xs ps made.1 constant.1)

pub made-short : (within : Within) (names : NameMap) (fs : List Function) (hs : List Helper) (e : Expr) (ps : List PathIndex) → PutsIndices within names fs hs e [] ps → AllShort ps
made-short within names fs hs e ps puts = subst AllShort (sym puts.is) puts.short
