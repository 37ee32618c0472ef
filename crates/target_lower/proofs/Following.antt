-- The indices that a typed path is given name what the path's indices do.
use Rattle.std.proofs.Common.{◌≡◌, ℕ, Bool, false, ℤ, List, [], ◌∷◌, ◌++◌, refl, ap, sym, ◌∙◌, subst}
use Rattle.sv_types.specs.declared.expression.Expr.{Expr}
use Rattle.sv_types.specs.declared.types.SvType.{SvType}
use Rattle.sv_types.specs.Layouts.{Layout}
use Rattle.sv_types.specs.Meanings as S
use Rattle.sv_types.specs.Paths as P
use Rattle.sv_types.specs.Expressions.{meaning}
use Rattle.v_meaning.specs.Scopes.{Scope}
use Rattle.eval_parts.proofs.Selecting.{same-Signal, same-Local, same-Member, same-Index, same-Part, same-Slide}
use Rattle.lowering_laws.specs.NamedImages.{AreImages}
use Rattle.lowering_laws.proofs.Naming.{both-images}
use Rattle.target_walk.specs.Giving.{all_names}
use Rattle.typed_paths.specs.Typed.{Indexing, IsTypedPath, of_signal, of_local, of_member, of_index, of_part, of_slide}
use Rattle.case_targets.specs.declared.indices.PathIndex.{PathIndex}
use Rattle.case_targets.specs.Naming.{givens_for}
use Rattle.target_lower.specs.Given.{AllNameAs}

-- what indices name
no-images : (image : ℕ → ℕ) → AreImages image [] []
no-images image = record { all = λ n k. absurd k; only = λ q k. absurd k }

signal-index : (of : Layout) (at n : ℕ) → (P.signal of at n).index_names ≡ []
unfolding P.signal
signal-index of at n = refl

local-index : (of : Layout) (at n : ℕ) → (P.local of at n).index_names ≡ []
unfolding P.local
local-index of at n = refl

member-index : (of : Layout) (at : ℕ) (from : S.Meaning) (k : ℕ) → (P.member of at from k).index_names ≡ from.index_names
unfolding P.member
member-index of at from k = refl

index-index : (of : Layout) (at : ℕ) (from i : S.Meaning) → (P.index of at from i).index_names ≡ from.index_names ++ i.names
unfolding P.index
index-index of at from i = refl

part-index : (of : Layout) (at : ℕ) (from : S.Meaning) (left right : ℤ) → (P.part_select of at from left right).index_names ≡ from.index_names
unfolding P.part_select
part-index of at from left right = refl

slide-index : (of : Layout) (at : ℕ) (from i : S.Meaning) (n : ℕ) (up : Bool) → (P.sliding of at from i n up).index_names ≡ from.index_names ++ i.names
unfolding P.sliding
slide-index of at from i n up = refl

module _ (image : ℕ → ℕ) (sc : Scope) where
  as-named : (e : Expr) (m : S.Meaning) (ns : List S.Named) (us : List ℕ) → meaning e ≡ m → m.index_names ≡ ns → AreImages image ns us → AreImages image (meaning e).index_names us
  as-named e m ns us same is h = subst (λ l. AreImages image l us) (sym (ap (λ (x : S.Meaning). x.index_names) same ∙ is)) h

  pub indices-named : (number : ℕ) (t : SvType) (e : Expr) (xs : List Indexing) (part : Bool) (ps : List PathIndex) → IsTypedPath number t e xs part → AllNameAs image xs ps sc
      → AreImages image (meaning e).index_names (all_names (givens_for ps) sc)
  indices-named number t e xs part [] (of_signal y n is it of) given = as-named y _ [] [] (same-Signal y n is) (signal-index _ _ n) (no-images image)
  indices-named number t e xs part (p ∷ ps) (of_signal y n is it of) given = absurd given
  indices-named number t e xs part [] (of_local y n is it of) given = as-named y _ [] [] (same-Local y n is) (local-index _ _ n) (no-images image)
  indices-named number t e xs part (p ∷ ps) (of_local y n is it of) given = absurd given
  indices-named number t e xs part ps (of_member y from k ys is path) given =
      as-named y _ (meaning from).index_names (all_names (givens_for ps) sc) (same-Member y from k is) (member-index _ _ (meaning from) k) (indices-named number t from ys false ps path given)
  indices-named number t e xs part [] (of_index y from i ys b is has path) given = absurd given
  indices-named number t e xs part (p ∷ ps) (of_index y from i ys b is has path) given =
      as-named y _ _ (all_names (givens_for (p ∷ ps)) sc) (same-Index y from i is) (index-index _ _ (meaning from) (meaning i))
      (both-images image (meaning from).index_names (meaning i).names (all_names (givens_for ps) sc) _ (indices-named number t from ys b ps path given.1) given.0)
  indices-named number t e xs part ps (of_part y from left right ys b is has bounds path) given =
      as-named y _ (meaning from).index_names (all_names (givens_for ps) sc) (same-Part y from left right is) (part-index _ _ (meaning from) left right) (indices-named number t from ys b ps path given)
  indices-named number t e xs part [] (of_slide y from i n up ys b is has bounds path) given = absurd given
  indices-named number t e xs part (p ∷ ps) (of_slide y from i n up ys b is has bounds path) given =
      as-named y _ _ (all_names (givens_for (p ∷ ps)) sc) (same-Slide y from i n up is) (slide-index _ _ (meaning from) (meaning i) n up)
      (both-images image (meaning from).index_names (meaning i).names (all_names (givens_for ps) sc) _ (indices-named number t from ys b ps path given.1) given.0)
