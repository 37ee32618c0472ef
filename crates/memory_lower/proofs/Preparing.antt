-- The path in an element alone can be lowered where the path on the element can, and so can the element's index.
use Rattle.std.proofs.Common.{◌≡◌, ℕ, ◌≤◌, ◌<◌, Bool, ℤ, List, [], ◌∷◌, ◌++◌, length, arith, ap, sym, ◌∙◌, subst}
use Rattle.sv_types.specs.declared.expression.Expr.{Expr}
use Rattle.sv_types.specs.declared.types.SvType.{SvType}
use Rattle.sv_types.specs.Layouts.{Layout, layout, width_of}
use Rattle.sv_types.specs.Surroundings.{Parameter, local_number}
use Rattle.sv_types.specs.Meanings as S
use Rattle.sv_types.specs.Paths as P
use Rattle.sv_types.specs.Expressions.{meaning}
use Rattle.sv_types.proofs.Heads.{heads}
use Rattle.eval_parts.specs.Limits.{FitsAlone}
use Rattle.eval_parts.proofs.Selecting.{same-Local, same-Member, same-Index, same-Part, same-Slide}
use Rattle.typed_paths.specs.Typed.{IsTypedPath, IsTyped}
use Rattle.typed_paths.proofs.Narrowing.{own-narrow}
use Rattle.expr_lower.specs.Leaves.{Leaf, Locals, onto, indexed, leaves, Each, IsLowered}
use Rattle.expr_lower.proofs.AskedLeaves.{leaves-Local, leaves-Member, leaves-Index, leaves-Part, leaves-Slide}
use Rattle.target_lower.proofs.Parting.{from-Member, from-Index, at-Index, from-Part, from-Slide, at-Slide}
use Rattle.memory_paths.specs.Inner.{IsInner, of_element, of_member, of_index, of_part, of_slide}
use Rattle.memory_paths.proofs.Inner.{inner-path, inner-typed, same-wide}
use Rattle.memory_lower.specs.Made.{CanBeLowered}
use Rattle.memory_lower.proofs.Inside.{both-each, stands-on-signal}

own-wide : (e : Expr) → S.wide (meaning e) ≡ width_of e.of
own-wide e = ap (λ (l : Layout). length l.two_state) (heads e).kind

-- types, arithmetic and indices that aren't too wide
record IsBounded (fs : ℕ → List Parameter) (m : S.Meaning) : Type 0 where
  pub narrow : m.widest ≤ 4194304
  pub arithmetic : (w : ℕ) → m.arithmetic fs w ≤ 128
  pub indexing : m.indexing ≤ 64

module _ (fs : ℕ → List Parameter) where
  local-bounded : (of : Layout) (at n : ℕ) → length of.two_state ≤ 4194304 → IsBounded fs (P.local of at n)
  unfolding P.local
  local-bounded of at n narrow = record { narrow = omega arith; arithmetic = λ w. omega arith; indexing = omega arith }

  member-bounded : (of : Layout) (at : ℕ) (m : S.Meaning) (k : ℕ) → length of.two_state ≤ 4194304 → IsBounded fs m → IsBounded fs (P.member of at m k)
  unfolding P.member
  member-bounded of at m k narrow h = record { narrow = (let n = h.narrow in omega arith); arithmetic = λ w. h.arithmetic (S.wide m); indexing = h.indexing }

  part-bounded : (of : Layout) (at : ℕ) (m : S.Meaning) (left right : ℤ) → length of.two_state ≤ 4194304 → IsBounded fs m → IsBounded fs (P.part_select of at m left right)
  unfolding P.part_select
  part-bounded of at m left right narrow h = record { narrow = (let n = h.narrow in omega arith); arithmetic = λ w. h.arithmetic (S.wide m); indexing = h.indexing }

  index-bounded : (of : Layout) (at : ℕ) (m i : S.Meaning) → length of.two_state ≤ 4194304 → IsBounded fs m → FitsAlone i fs → S.wide i ≤ 64 → IsBounded fs (P.index of at m i)
  unfolding P.index
  index-bounded of at m i narrow h own short = record {
    narrow = (let n = h.narrow in let k = own.narrow in omega arith);
    arithmetic = λ w. (let n = h.arithmetic (S.wide m) in let k = own.arithmetic in omega arith);
    indexing = (let n = h.indexing in let k = own.indexing in omega arith);
  }

  slide-bounded : (of : Layout) (at : ℕ) (m i : S.Meaning) (n : ℕ) (up : Bool) → length of.two_state ≤ 4194304 → IsBounded fs m → FitsAlone i fs → S.wide i ≤ 64 → IsBounded fs (P.sliding of at m i n up)
  unfolding P.sliding
  slide-bounded of at m i n up narrow h own short = record {
    narrow = (let k = h.narrow in let l = own.narrow in omega arith);
    arithmetic = λ w. (let k = h.arithmetic (S.wide m) in let l = own.arithmetic in omega arith);
    indexing = (let k = h.indexing in let l = own.indexing in omega arith);
  }

  bounded-as : (e : Expr) (m : S.Meaning) → meaning e ≡ m → IsBounded fs m → IsBounded fs (meaning e)
  bounded-as e m same h = subst (IsBounded fs) (sym same) h

  -- so many bits as the type of another one
  own-bits : (e d : Expr) → d.of ≡ e.of → FitsAlone (meaning e) fs → length (layout d.of).two_state ≤ 4194304
  own-bits e d same fits = subst (λ t. width_of t ≤ 4194304) (sym same) (own-narrow e 4194304 fits.narrow)

module _ (n : ℕ) (t : SvType) (i : Expr) (fs : ℕ → List Parameter) where
  record Prepared (d : Expr) : Type 0 where
    pub index_built : Each IsLowered (leaves i)
    pub index_fits : FitsAlone (meaning i) fs
    pub short : S.wide (meaning i) ≤ 64
    pub of : Layout
    pub others : List Leaf
    pub is : leaves d ≡ Locals 0 of ∷ others
    pub built : Each IsLowered others
    pub bounded : IsBounded fs (meaning d)
    pub narrow : width_of t ≤ 4194304
    pub some : 1 ≤ width_of t

  prepared : (e d : Expr) → IsInner n t i e d → Each IsLowered (leaves e) → FitsAlone (meaning e) fs → Prepared d
  prepared e d (of_element x from y is on of alone same) built fits =
      let own = at-Index x from i fs is built fits in
      let below = from-Index x from i fs is built fits in
      record {
        index_built = own.built;
        index_fits = own.fits;
        short = own.short;
        of = layout y.of;
        others = [];
        is = leaves-Local y 0 alone;
        built = tt;
        bounded = bounded-as fs y _ (same-Local y 0 alone) (local-bounded fs (layout y.of) y.spot.at 0 (own-bits fs x y same fits));
        narrow = subst (λ u. width_of u ≤ 4194304) of (own-narrow from 4194304 below.fits.narrow);
        some = subst (λ u. 1 ≤ width_of u) of (subst (λ k. 1 ≤ k) (own-wide from) below.fits.some);
      }
  prepared e d (of_member x from y inner k is alone same rest) built fits =
      let below = from-Member x from k fs is built fits in
      let r = prepared from inner rest below.built below.fits in
      record {
        index_built = r.index_built;
        index_fits = r.index_fits;
        short = r.short;
        of = r.of;
        others = r.others;
        is = leaves-Member y inner k alone ∙ ap onto r.is;
        built = r.built;
        bounded = bounded-as fs y _ (same-Member y inner k alone) (member-bounded fs (layout y.of) y.spot.at (meaning inner) k (own-bits fs x y same fits) r.bounded);
        narrow = r.narrow;
        some = r.some;
      }
  prepared e d (of_index x from y inner j is alone same rest) built fits =
      let below = from-Index x from j fs is built fits in
      let own = at-Index x from j fs is built fits in
      let r = prepared from inner rest below.built below.fits in
      record {
        index_built = r.index_built;
        index_fits = r.index_fits;
        short = r.short;
        of = r.of;
        others = r.others ++ leaves j;
        is = leaves-Index y inner j alone ∙ ap (λ l. indexed l ++ leaves j) r.is;
        built = both-each IsLowered r.others (leaves j) r.built own.built;
        bounded = bounded-as fs y _ (same-Index y inner j alone) (index-bounded fs (layout y.of) y.spot.at (meaning inner) (meaning j) (own-bits fs x y same fits) r.bounded own.fits own.short);
        narrow = r.narrow;
        some = r.some;
      }
  prepared e d (of_part x from y inner left right is alone same rest) built fits =
      let below = from-Part x from left right fs is built fits in
      let r = prepared from inner rest below.built below.fits in
      record {
        index_built = r.index_built;
        index_fits = r.index_fits;
        short = r.short;
        of = r.of;
        others = r.others;
        is = leaves-Part y inner left right alone ∙ ap onto r.is;
        built = r.built;
        bounded = bounded-as fs y _ (same-Part y inner left right alone) (part-bounded fs (layout y.of) y.spot.at (meaning inner) left right (own-bits fs x y same fits) r.bounded);
        narrow = r.narrow;
        some = r.some;
      }
  prepared e d (of_slide x from y inner j k up is alone same rest) built fits =
      let below = from-Slide x from j k up fs is built fits in
      let own = at-Slide x from j k up fs is built fits in
      let r = prepared from inner rest below.built below.fits in
      record {
        index_built = r.index_built;
        index_fits = r.index_fits;
        short = r.short;
        of = r.of;
        others = r.others ++ leaves j;
        is = leaves-Slide y inner j k up alone ∙ ap (λ l. onto l ++ leaves j) r.is;
        built = both-each IsLowered r.others (leaves j) r.built own.built;
        bounded = bounded-as fs y _ (same-Slide y inner j k up alone) (slide-bounded fs (layout y.of) y.spot.at (meaning inner) (meaning j) k up (own-bits fs x y same fits) r.bounded own.fits own.short);
        narrow = r.narrow;
        some = r.some;
      }

  inner-is-typed : (e d : Expr) → IsInner n t i e d → IsTyped e → IsTyped d
  inner-is-typed e d h typed =
      let on = stands-on-signal n t i e d h typed.number typed.of typed.indices typed.part typed.path in
      let same : IsTypedPath n t e typed.indices typed.part =
      subst (λ k. IsTypedPath k t e typed.indices typed.part) (sym on.number) (subst (λ u. IsTypedPath typed.number u e typed.indices typed.part) (sym on.type) typed.path) in
      let r = inner-path n t i e d h typed.indices typed.part same in
      record { number = local_number 0; of = r.of; indices = r.indices; part = typed.part; path = r.path }

  pub can-be-lowered : (e d : Expr) → IsInner n t i e d → Each IsLowered (leaves e) → FitsAlone (meaning e) fs → IsTyped e → CanBeLowered t i fs d
  can-be-lowered e d h built fits typed =
      let r = prepared e d h built fits in
      record {
        index_built = r.index_built;
        index_fits = r.index_fits;
        short = r.short;
        narrow = r.narrow;
        some = r.some;
        typed = inner-is-typed e d h typed;
        built = subst (Each IsLowered) (sym r.is) (tt, r.built);
        fits = record {
          some = subst (λ k. 0 < k) (sym (same-wide n t i e d h)) fits.some;
          typed = inner-typed n t i e d h fits.typed;
          narrow = r.bounded.narrow;
          arithmetic = r.bounded.arithmetic (S.wide (meaning d));
          indexing = r.bounded.indexing;
        };
      }
