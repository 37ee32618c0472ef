-- A path on an element: its type, its indices and its leaves, by the path in the element alone.
use Rattle.std.proofs.Common.{◌≡◌, ℕ, Bool, false, List, [], ◌∷◌, ◌++◌, length, ap, sym, ◌∙◌, subst}
use Rattle.sv_types.specs.declared.expression.Expr.{Expr}
use Rattle.sv_types.specs.declared.types.SvType.{SvType}
use Rattle.sv_types.specs.Layouts.{Layout, layout, width_of}
use Rattle.sv_types.specs.Meanings as S
use Rattle.sv_types.specs.Expressions.{meaning}
use Rattle.sv_types.proofs.Heads.{heads}
use Rattle.eval_parts.proofs.Selecting.{same-Member, same-Index, same-Part, same-Slide}
use Rattle.lowering_laws.proofs.Wholes.{index-typed}
use Rattle.typed_paths.specs.Typed.{Indexing, IsTypedPath}
use Rattle.typed_paths.proofs.Marking.{member-marks, index-marks, part-marks, sliding-marks}
use Rattle.typed_paths.proofs.Opening.{of-Signal, of-Local, of-Member, of-Index, of-Part, of-Slide}
use Rattle.expr_lower.specs.Leaves.{Leaf, Signals, Elements, onto, indexed, leaves, Each}
use Rattle.expr_lower.proofs.AskedLeaves.{each-left, each-right, leaves-Signal, leaves-Member, leaves-Index, leaves-Part, leaves-Slide}
use Rattle.target_lower.specs.Roots.{index_leaves}
use Rattle.memory_paths.specs.Inner.{IsInner, of_element, of_member, of_index, of_part, of_slide}

misfits-as : (e : Expr) (m : S.Meaning) → meaning e ≡ m → (meaning e).misfits ≡ 0 → m.misfits ≡ 0
misfits-as e m same typed = ap (λ (x : S.Meaning). x.misfits) (sym same) ∙ typed

pub both-each : (P : Leaf → Type 0) (xs ys : List Leaf) → Each P xs → Each P ys → Each P (xs ++ ys)
both-each P [] ys h k = k
both-each P (x ∷ xs) ys h k = (h.0, both-each P xs ys h.1 k)

module _ (n : ℕ) (t : SvType) (i : Expr) where
  -- the element's index has a type, and what the path in the element stands on has the element's bits
  pub record Inside (d : Expr) : Type 0 where
    pub typed : (meaning i).misfits ≡ 0
    pub wide : (m : ℕ) (u : SvType) (ys : List Indexing) (part : Bool) → IsTypedPath m u d ys part → width_of u ≡ length (layout t).element.two_state

  pub inside : (e d : Expr) → IsInner n t i e d → (meaning e).misfits ≡ 0 → Inside d
  inside e d (of_element x from y is on of alone same) typed =
      let fits = misfits-as x _ (same-Index x from i is) typed in
      let marks = (index-marks (layout x.of) x.spot.at (meaning from) (meaning i) fits).marks in
      record {
        typed = (index-typed (layout x.of) x.spot.at (meaning from) (meaning i) fits).1;
        wide = λ m u ys part path.
            ap width_of (sym (of-Local m u y 0 ys part alone path).type ∙ same) ∙ ap (λ l. length l) marks ∙ ap (λ (l : Layout). length l.element.two_state) ((heads from).kind ∙ ap layout of);
      }
  inside e d (of_member x from y inner k is alone same rest) typed =
      let r = inside from inner rest (member-marks (layout x.of) x.spot.at (meaning from) k (misfits-as x _ (same-Member x from k is) typed)).typed in
      record { typed = r.typed; wide = λ m u ys part path. r.wide m u ys _ (of-Member m u y inner k ys part alone path).path }
  inside e d (of_index x from y inner j is alone same rest) typed =
      let r = inside from inner rest (index-marks (layout x.of) x.spot.at (meaning from) (meaning j) (misfits-as x _ (same-Index x from j is) typed)).typed in
      record { typed = r.typed; wide = λ m u ys part path. (let o = of-Index m u y inner j ys part alone path in r.wide m u o.others o.inner o.path) }
  inside e d (of_part x from y inner left right is alone same rest) typed =
      let r = inside from inner rest (part-marks (layout x.of) x.spot.at (meaning from) left right (misfits-as x _ (same-Part x from left right is) typed)).typed in
      record { typed = r.typed; wide = λ m u ys part path. (let o = of-Part m u y inner left right ys part alone path in r.wide m u ys o.inner o.path) }
  inside e d (of_slide x from y inner j k up is alone same rest) typed =
      let r = inside from inner rest (sliding-marks (layout x.of) x.spot.at (meaning from) (meaning j) k up (misfits-as x _ (same-Slide x from j k up is) typed)).typed in
      record { typed = r.typed; wide = λ m u ys part path. (let o = (of-Slide m u y inner j k up ys part alone path).step in r.wide m u o.others o.inner o.path) }

  -- The path's leaves are elements of the signal, those of the element's index and those of the other indices.
  module _ (L : Leaf → Type 0) where
    pub record LeavesOf (e d : Expr) : Type 0 where
      pub others : List Leaf
      pub is : leaves e ≡ Elements n (layout t) ∷ others
      pub index : Each L others → Each L (leaves i)
      pub inner : Each L others → (m : ℕ) (u : SvType) (ys : List Indexing) (part : Bool) → IsTypedPath m u d ys part → Each L (index_leaves ys)

    one-more : (j : Expr) (ys zs : List Indexing) (b : Bool) → zs ≡ record { index = j; in_part = b } ∷ ys → Each L (index_leaves ys) → Each L (leaves j) → Each L (index_leaves zs)
    one-more j ys zs b is h k = subst (λ l. Each L (index_leaves l)) (sym is) (both-each L (index_leaves ys) (leaves j) h k)

    pub leaves-of : (e d : Expr) → IsInner n t i e d → LeavesOf e d
    leaves-of e d (of_element x from y is on of alone same) = record {
      others = leaves i;
      is = leaves-Index x from i is ∙ ap (λ l. indexed l ++ leaves i) (leaves-Signal from n on ∙ ap (λ (u : SvType). Signals n (layout u) ∷ []) of);
      index = λ h. h;
      inner = λ h m u ys part path. subst (λ l. Each L (index_leaves l)) (sym (of-Local m u y 0 ys part alone path).none) tt;
    }
    leaves-of e d (of_member x from y inner k is alone same rest) =
        let r = leaves-of from inner rest in
        record {
          others = r.others;
          is = leaves-Member x from k is ∙ ap onto r.is;
          index = r.index;
          inner = λ h m u ys part path. r.inner h m u ys _ (of-Member m u y inner k ys part alone path).path;
        }
    leaves-of e d (of_index x from y inner j is alone same rest) =
        let r = leaves-of from inner rest in
        record {
          others = r.others ++ leaves j;
          is = leaves-Index x from j is ∙ ap (λ l. indexed l ++ leaves j) r.is;
          index = λ h. r.index (each-left L r.others (leaves j) h);
          inner = λ h m u ys part path.
              (let o = of-Index m u y inner j ys part alone path in
              one-more j o.others ys o.inner o.all (r.inner (each-left L r.others (leaves j) h) m u o.others o.inner o.path) (each-right L r.others (leaves j) h));
        }
    leaves-of e d (of_part x from y inner left right is alone same rest) =
        let r = leaves-of from inner rest in
        record {
          others = r.others;
          is = leaves-Part x from left right is ∙ ap onto r.is;
          index = r.index;
          inner = λ h m u ys part path. (let o = of-Part m u y inner left right ys part alone path in r.inner h m u ys o.inner o.path);
        }
    leaves-of e d (of_slide x from y inner j k up is alone same rest) =
        let r = leaves-of from inner rest in
        record {
          others = r.others ++ leaves j;
          is = leaves-Slide x from j k up is ∙ ap (λ l. onto l ++ leaves j) r.is;
          index = λ h. r.index (each-left L r.others (leaves j) h);
          inner = λ h m u ys part path.
              (let o = (of-Slide m u y inner j k up ys part alone path).step in
              one-more j o.others ys o.inner o.all (r.inner (each-left L r.others (leaves j) h) m u o.others o.inner o.path) (each-right L r.others (leaves j) h));
        }

  -- the path stands on the signal, which has the type
  pub record StandsOnSignal (m : ℕ) (u : SvType) : Type 0 where
    pub number : n ≡ m
    pub type : t ≡ u

  pub stands-on-signal : (e d : Expr) → IsInner n t i e d → (m : ℕ) (u : SvType) (xs : List Indexing) (part : Bool) → IsTypedPath m u e xs part → StandsOnSignal m u
  stands-on-signal e d (of_element x from y is on of alone same) m u xs part path =
      let o = of-Index m u x from i xs part is path in
      let r = of-Signal m u from n o.others o.inner on o.path in
      record { number = r.it; type = sym of ∙ r.type }
  stands-on-signal e d (of_member x from y inner k is alone same rest) m u xs part path = stands-on-signal from inner rest m u xs false (of-Member m u x from k xs part is path).path
  stands-on-signal e d (of_index x from y inner j is alone same rest) m u xs part path =
      let o = of-Index m u x from j xs part is path in stands-on-signal from inner rest m u o.others o.inner o.path
  stands-on-signal e d (of_part x from y inner left right is alone same rest) m u xs part path =
      let o = of-Part m u x from left right xs part is path in stands-on-signal from inner rest m u xs o.inner o.path
  stands-on-signal e d (of_slide x from y inner j k up is alone same rest) m u xs part path =
      let o = (of-Slide m u x from j k up xs part is path).step in stands-on-signal from inner rest m u o.others o.inner o.path
