-- A path on an element, by the same path in the element alone.
use Rattle.std.proofs.Common.{◌≡◌, ℕ, Bool, true, false, List, [], ◌∷◌, ◌++◌, length, refl, ap, sym, ◌∙◌, subst, append_assoc}
use Rattle.std.specs.Prelude.{slice_get}
use Rattle.picks.specs.Windows.{Window, whole}
use Rattle.sv_types.specs.declared.expression.Expr.{Expr}
use Rattle.sv_types.specs.declared.expression.Form.TheVariants as V
use Rattle.sv_types.specs.declared.types.SvType.{SvType}
use Rattle.sv_types.specs.Layouts.{Layout, layout, width_of}
use Rattle.sv_types.specs.Windows.{member_of, element_of, between, slide}
use Rattle.sv_types.specs.Surroundings.{Around, local_number}
use Rattle.sv_types.specs.Meanings as S
use Rattle.sv_types.specs.Meanings.{Named}
use Rattle.sv_types.specs.Paths as P
use Rattle.sv_types.specs.Expressions.{meaning}
use Rattle.sv_types.proofs.Heads.{heads}
use Rattle.eval_parts.proofs.Selecting.{same-Signal, same-Local, same-Member, same-Index, same-Part, same-Slide}
use Rattle.target_laws.specs.Elements.{IsPartOf, IsSlideOf}
use Rattle.target_laws.specs.Seeing.{IsSeen}
use Rattle.target_laws.proofs.Seeing.{seen-itself, seen-member, seen-element, seen-between, seen-slide}
use Rattle.typed_paths.specs.Typed.{Indexing, IsTypedPath, has_elements}
use Rattle.typed_paths.specs.Typed as T
use Rattle.typed_paths.proofs.Marking.{member-marks, index-marks, part-marks, sliding-marks}
use Rattle.typed_paths.proofs.Opening.{of-Signal, of-Member, of-Index, of-Part, of-Slide}
use Rattle.memory_paths.specs.Inner.{IsInner, of_element, of_member, of_index, of_part, of_slide}
use Rattle.memory_paths.proofs.Meant as M
use Rattle.memory_paths.proofs.Tight.{element-tight}

misfits-as : (e : Expr) (m : S.Meaning) → meaning e ≡ m → (meaning e).misfits ≡ 0 → m.misfits ≡ 0
misfits-as e m same typed = ap (λ (x : S.Meaning). x.misfits) (sym same) ∙ typed

window-as : (e : Expr) (m : S.Meaning) (a : Around) (p : Window) → meaning e ≡ m → m.window a ≡ p → (meaning e).window a ≡ p
window-as e m a p same is = ap (λ (x : S.Meaning). x.window a) same ∙ is

names-as : (e : Expr) (m : S.Meaning) (ns : List Named) → meaning e ≡ m → m.index_names ≡ ns → (meaning e).index_names ≡ ns
names-as e m ns same is = ap (λ (x : S.Meaning). x.index_names) same ∙ is

module _ (n : ℕ) (t : SvType) (i : Expr) where
  -- its type
  pub same-type : (e d : Expr) → IsInner n t i e d → d.of ≡ e.of
  same-type e d (of_element x from y is on of alone same) = same
  same-type e d (of_member x from y inner k is alone same rest) = same
  same-type e d (of_index x from y inner j is alone same rest) = same
  same-type e d (of_part x from y inner left right is alone same rest) = same
  same-type e d (of_slide x from y inner j m up is alone same rest) = same

  same-kind : (e d : Expr) → IsInner n t i e d → (meaning d).of ≡ (meaning e).of
  same-kind e d h = (heads d).kind ∙ ap layout (same-type e d h) ∙ sym (heads e).kind

  pub same-wide : (e d : Expr) → IsInner n t i e d → S.wide (meaning d) ≡ S.wide (meaning e)
  same-wide e d h = ap (λ (l : Layout). length l.two_state) (same-kind e d h)

  -- types of its parts
  pub inner-typed : (e d : Expr) → IsInner n t i e d → (meaning e).misfits ≡ 0 → (meaning d).misfits ≡ 0
  inner-typed e d (of_element x from y is on of alone same) typed =
      ap (λ (u : S.Meaning). u.misfits) (same-Local y 0 alone)
      ∙ M.local-typed (layout x.of) (layout y.of) x.spot.at y.spot.at 0 (meaning from) (meaning i) (ap layout same) (misfits-as x _ (same-Index x from i is) typed)
  inner-typed e d (of_member x from y inner k is alone same rest) typed =
      let here = misfits-as x _ (same-Member x from k is) typed in
      ap (λ (u : S.Meaning). u.misfits) (same-Member y inner k alone)
      ∙ M.member-typed (layout x.of) (layout y.of) x.spot.at y.spot.at (meaning from) (meaning inner) k (ap layout same) (same-kind from inner rest)
      (inner-typed from inner rest (member-marks (layout x.of) x.spot.at (meaning from) k here).typed) here
  inner-typed e d (of_index x from y inner j is alone same rest) typed =
      let here = misfits-as x _ (same-Index x from j is) typed in
      ap (λ (u : S.Meaning). u.misfits) (same-Index y inner j alone)
      ∙ M.index-typed (layout x.of) (layout y.of) x.spot.at y.spot.at (meaning from) (meaning inner) (meaning j) (ap layout same) (same-kind from inner rest)
      (inner-typed from inner rest (index-marks (layout x.of) x.spot.at (meaning from) (meaning j) here).typed) here
  inner-typed e d (of_part x from y inner left right is alone same rest) typed =
      let here = misfits-as x _ (same-Part x from left right is) typed in
      ap (λ (u : S.Meaning). u.misfits) (same-Part y inner left right alone)
      ∙ M.part-typed (layout x.of) (layout y.of) x.spot.at y.spot.at (meaning from) (meaning inner) left right (ap layout same) (same-kind from inner rest)
      (inner-typed from inner rest (part-marks (layout x.of) x.spot.at (meaning from) left right here).typed) here
  inner-typed e d (of_slide x from y inner j m up is alone same rest) typed =
      let here = misfits-as x _ (same-Slide x from j m up is) typed in
      ap (λ (u : S.Meaning). u.misfits) (same-Slide y inner j m up alone)
      ∙ M.slide-typed (layout x.of) (layout y.of) x.spot.at y.spot.at (meaning from) (meaning inner) (meaning j) m up (ap layout same) (same-kind from inner rest)
      (inner-typed from inner rest (sliding-marks (layout x.of) x.spot.at (meaning from) (meaning j) m up here).typed) here

  -- what its indices name besides the element's
  pub outer-names : (e d : Expr) → IsInner n t i e d → (meaning e).index_names ≡ (meaning i).names ++ (meaning d).index_names
  outer-names e d (of_element x from y is on of alone same) =
      names-as x _ _ (same-Index x from i is) (M.index-names (layout x.of) x.spot.at (meaning from) (meaning i))
      ∙ ap (λ ns. ns ++ (meaning i).names) (names-as from _ _ (same-Signal from n on) (M.signal-names (layout from.of) from.spot.at n))
      ∙ sym (none-behind (meaning i).names)
      ∙ ap (λ ns. (meaning i).names ++ ns) (sym (names-as y _ _ (same-Local y 0 alone) (M.local-names (layout y.of) y.spot.at 0)))
    where
      none-behind : (ns : List Named) → ns ++ [] ≡ ns
      none-behind [] = refl
      none-behind (m ∷ ns) = ap (λ ms. m ∷ ms) (none-behind ns)
  outer-names e d (of_member x from y inner k is alone same rest) =
      names-as x _ _ (same-Member x from k is) (M.member-names (layout x.of) x.spot.at (meaning from) k)
      ∙ outer-names from inner rest
      ∙ ap (λ ns. (meaning i).names ++ ns) (sym (names-as y _ _ (same-Member y inner k alone) (M.member-names (layout y.of) y.spot.at (meaning inner) k)))
  outer-names e d (of_index x from y inner j is alone same rest) =
      names-as x _ _ (same-Index x from j is) (M.index-names (layout x.of) x.spot.at (meaning from) (meaning j))
      ∙ ap (λ ns. ns ++ (meaning j).names) (outer-names from inner rest)
      ∙ append_assoc (meaning i).names (meaning inner).index_names (meaning j).names
      ∙ ap (λ ns. (meaning i).names ++ ns) (sym (names-as y _ _ (same-Index y inner j alone) (M.index-names (layout y.of) y.spot.at (meaning inner) (meaning j))))
  outer-names e d (of_part x from y inner left right is alone same rest) =
      names-as x _ _ (same-Part x from left right is) (M.part-names (layout x.of) x.spot.at (meaning from) left right)
      ∙ outer-names from inner rest
      ∙ ap (λ ns. (meaning i).names ++ ns) (sym (names-as y _ _ (same-Part y inner left right alone) (M.part-names (layout y.of) y.spot.at (meaning inner) left right)))
  outer-names e d (of_slide x from y inner j m up is alone same rest) =
      names-as x _ _ (same-Slide x from j m up is) (M.slide-names (layout x.of) x.spot.at (meaning from) (meaning j) m up)
      ∙ ap (λ ns. ns ++ (meaning j).names) (outer-names from inner rest)
      ∙ append_assoc (meaning i).names (meaning inner).index_names (meaning j).names
      ∙ ap (λ ns. (meaning i).names ++ ns) (sym (names-as y _ _ (same-Slide y inner j m up alone) (M.slide-names (layout y.of) y.spot.at (meaning inner) (meaning j) m up)))

  -- which bits of the element it names
  module _ (a : Around) where
    abbrev pub element : Window
    element = element_of (layout t) (P.index_of (meaning i) a) (whole (width_of t))

    seen-as : (e d : Expr) (p q : Window) → (meaning e).window a ≡ p → (meaning d).window a ≡ q → IsSeen p element q → IsSeen ((meaning e).window a) element ((meaning d).window a)
    seen-as e d p q is alone h = subst (λ u. IsSeen u element ((meaning d).window a)) (sym is) (subst (λ u. IsSeen p element u) (sym alone) h)

    element-is : (x from : Expr) → x.form ≡ V.Index from i → from.form ≡ V.Signal n → from.of ≡ t → (meaning x).window a ≡ element
    element-is x from is on of =
        window-as x _ a _ (same-Index x from i is) (M.index-window (layout x.of) x.spot.at (meaning from) (meaning i) a)
        ∙ ap (λ p. element_of (meaning from).of (P.index_of (meaning i) a) p) (window-as from _ a _ (same-Signal from n on) (M.signal-window (layout from.of) from.spot.at n a) ∙ ap (λ u. whole (width_of u)) of)
        ∙ ap (λ l. element_of l (P.index_of (meaning i) a) (whole (width_of t))) ((heads from).kind ∙ ap layout of)

    element-wide : (x from : Expr) → x.form ≡ V.Index from i → from.of ≡ t → (meaning x).misfits ≡ 0 → width_of x.of ≡ length (layout t).element.two_state
    element-wide x from is of typed =
        ap length (index-marks (layout x.of) x.spot.at (meaning from) (meaning i) (misfits-as x _ (same-Index x from i is) typed)).marks ∙ ap (λ (l : Layout). length l.element.two_state) ((heads from).kind ∙ ap layout of)

    pub inner-seen : (e d : Expr) → IsInner n t i e d → (meaning e).misfits ≡ 0 → IsSeen ((meaning e).window a) element ((meaning d).window a)
    inner-seen e d (of_element x from y is on of alone same) typed =
        seen-as x y element (whole (width_of y.of)) (element-is x from is on of) (window-as y _ a _ (same-Local y 0 alone) (M.local-window (layout y.of) y.spot.at 0 a))
        (subst (λ w. IsSeen element element (whole w)) (sym (ap width_of same ∙ element-wide x from is of typed))
        (seen-itself element (length (layout t).element.two_state) (element-tight (layout t) (P.index_of (meaning i) a) (whole (width_of t)))))
    inner-seen e d (of_member x from y inner k is alone same rest) typed =
        let here = misfits-as x _ (same-Member x from k is) typed in
        seen-as x y _ _ (window-as x _ a _ (same-Member x from k is) (M.member-window (layout x.of) x.spot.at (meaning from) k a))
        (window-as y _ a _ (same-Member y inner k alone) (M.member-window (layout y.of) y.spot.at (meaning inner) k a))
        (subst (λ (l : Layout). IsSeen (member_of (slice_get (meaning from).of.members k) ((meaning from).window a)) element (member_of (slice_get l.members k) ((meaning inner).window a))) (sym (same-kind from inner rest))
        (seen-member ((meaning from).window a) element ((meaning inner).window a) (slice_get (meaning from).of.members k)
        (inner-seen from inner rest (member-marks (layout x.of) x.spot.at (meaning from) k here).typed)))
    inner-seen e d (of_index x from y inner j is alone same rest) typed =
        let here = misfits-as x _ (same-Index x from j is) typed in
        let z = P.index_of (meaning j) a in
        seen-as x y _ _ (window-as x _ a _ (same-Index x from j is) (M.index-window (layout x.of) x.spot.at (meaning from) (meaning j) a))
        (window-as y _ a _ (same-Index y inner j alone) (M.index-window (layout y.of) y.spot.at (meaning inner) (meaning j) a))
        (subst (λ l. IsSeen (element_of (meaning from).of z ((meaning from).window a)) element (element_of l z ((meaning inner).window a))) (sym (same-kind from inner rest))
        (seen-element ((meaning from).window a) element ((meaning inner).window a) (meaning from).of z (inner-seen from inner rest (index-marks (layout x.of) x.spot.at (meaning from) (meaning j) here).typed)))
    inner-seen e d (of_part x from y inner left right is alone same rest) typed =
        let here = misfits-as x _ (same-Part x from left right is) typed in
        seen-as x y _ _ (window-as x _ a _ (same-Part x from left right is) (M.part-window (layout x.of) x.spot.at (meaning from) left right a))
        (window-as y _ a _ (same-Part y inner left right alone) (M.part-window (layout y.of) y.spot.at (meaning inner) left right a))
        (subst (λ l. IsSeen (between (meaning from).of left right ((meaning from).window a)) element (between l left right ((meaning inner).window a))) (sym (same-kind from inner rest))
        (seen-between ((meaning from).window a) element ((meaning inner).window a) (meaning from).of left right (inner-seen from inner rest (part-marks (layout x.of) x.spot.at (meaning from) left right here).typed)))
    inner-seen e d (of_slide x from y inner j m up is alone same rest) typed =
        let here = misfits-as x _ (same-Slide x from j m up is) typed in
        let z = P.index_of (meaning j) a in
        seen-as x y _ _ (window-as x _ a _ (same-Slide x from j m up is) (M.slide-window (layout x.of) x.spot.at (meaning from) (meaning j) m up a))
        (window-as y _ a _ (same-Slide y inner j m up alone) (M.slide-window (layout y.of) y.spot.at (meaning inner) (meaning j) m up a))
        (subst (λ l. IsSeen (slide (meaning from).of up m z ((meaning from).window a)) element (slide l up m z ((meaning inner).window a))) (sym (same-kind from inner rest))
        (seen-slide ((meaning from).window a) element ((meaning inner).window a) (meaning from).of up m z (inner-seen from inner rest (sliding-marks (layout x.of) x.spot.at (meaning from) (meaning j) m up here).typed)))

  -- it is a typed path with the other indices
  pub record InnerPath (d : Expr) (xs : List Indexing) (part : Bool) : Type 0 where
    pub of : SvType
    pub indices : List Indexing
    pub all : xs ≡ indices ++ (record { index = i; in_part = false } ∷ [])
    pub path : IsTypedPath (local_number 0) of d indices part

  whole-from : (from inner : Expr) → IsInner n t i from inner → has_elements from.of ≡ true → has_elements inner.of ≡ true
  whole-from from inner h has = ap has_elements (same-type from inner h) ∙ has

  pub inner-path : (e d : Expr) → IsInner n t i e d → (xs : List Indexing) (part : Bool) → IsTypedPath n t e xs part → InnerPath d xs part
  inner-path e d (of_element x from y is on of alone same) xs part h =
      let o = of-Index n t x from i xs part is h in
      let r = of-Signal n t from n o.others o.inner on o.path in
      subst (InnerPath y xs) (sym o.is_part) (record {
        of = y.of;
        indices = [];
        all = o.all ∙ ap (λ ys. record { index = i; in_part = o.inner } ∷ ys) r.none ∙ ap (λ b. record { index = i; in_part = b } ∷ []) r.whole;
        path = T.of_local y 0 alone refl refl;
      })
  inner-path e d (of_member x from y inner k is alone same rest) xs part h =
      let o = of-Member n t x from k xs part is h in
      let r = inner-path from inner rest xs false o.path in
      subst (InnerPath y xs) (sym o.whole) (record { of = r.of; indices = r.indices; all = r.all; path = T.of_member y inner k r.indices alone r.path })
  inner-path e d (of_index x from y inner j is alone same rest) xs part h =
      let o = of-Index n t x from j xs part is h in
      let r = inner-path from inner rest o.others o.inner o.path in
      subst (InnerPath y xs) (sym o.is_part) (record {
        of = r.of;
        indices = record { index = j; in_part = o.inner } ∷ r.indices;
        all = o.all ∙ ap (λ ys. record { index = j; in_part = o.inner } ∷ ys) r.all;
        path = T.of_index y inner j r.indices o.inner alone (whole-from from inner rest o.has) r.path;
      })
  inner-path e d (of_part x from y inner left right is alone same rest) xs part h =
      let o = of-Part n t x from left right xs part is h in
      let r = inner-path from inner rest xs o.inner o.path in
      subst (InnerPath y xs) (sym o.is_part) (record {
        of = r.of;
        indices = r.indices;
        all = r.all;
        path = T.of_part y inner left right r.indices o.inner alone (whole-from from inner rest o.type.has)
            (subst (λ u. IsPartOf (layout y.of) (layout u) left right) (sym (same-type from inner rest)) (subst (λ u. IsPartOf (layout u) (layout from.of) left right) (sym same) o.type.is)) r.path;
      })
  inner-path e d (of_slide x from y inner j m up is alone same rest) xs part h =
      let s = of-Slide n t x from j m up xs part is h in
      let o = s.step in
      let r = inner-path from inner rest o.others o.inner o.path in
      subst (InnerPath y xs) (sym o.is_part) (record {
        of = r.of;
        indices = record { index = j; in_part = o.inner } ∷ r.indices;
        all = o.all ∙ ap (λ ys. record { index = j; in_part = o.inner } ∷ ys) r.all;
        path = T.of_slide y inner j m up r.indices o.inner alone (whole-from from inner rest s.type.has)
            (subst (λ u. IsSlideOf (layout y.of) (layout u) m) (sym (same-type from inner rest)) (subst (λ u. IsSlideOf (layout u) (layout from.of) m) (sym same) s.type.is)) r.path;
      })

  -- writes through it change the signal
  puts-as : (e : Expr) (m : S.Meaning) → meaning e ≡ m → M.Puts m → M.Puts (meaning e)
  puts-as e m same h = subst M.Puts (sym same) h

  pub outer-puts : (e d : Expr) → IsInner n t i e d → M.Puts (meaning e)
  outer-puts e d (of_element x from y is on of alone same) = puts-as x _ (same-Index x from i is) (M.index-puts _ _ (meaning from) (meaning i))
  outer-puts e d (of_member x from y inner k is alone same rest) = puts-as x _ (same-Member x from k is) (M.member-puts _ _ (meaning from) k)
  outer-puts e d (of_index x from y inner j is alone same rest) = puts-as x _ (same-Index x from j is) (M.index-puts _ _ (meaning from) (meaning j))
  outer-puts e d (of_part x from y inner left right is alone same rest) = puts-as x _ (same-Part x from left right is) (M.part-puts _ _ (meaning from) left right)
  outer-puts e d (of_slide x from y inner j m up is alone same rest) = puts-as x _ (same-Slide x from j m up is) (M.slide-puts _ _ (meaning from) (meaning j) m up)
