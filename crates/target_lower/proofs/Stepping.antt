-- Indices and roots of typed paths, step by step.
use Rattle.std.proofs.Common.{◌≡◌, ℕ, Bool, true, false, ℤ, List, [], ◌∷◌, ◌++◌, append-nil, append_assoc, Result, Ok, Err, IfOk, OnOk, inl, inr, refl, ap, sym, ◌∙◌, subst}
use Rattle.sv_types.specs.declared.expression.Expr.{Expr}
use Rattle.sv_types.specs.declared.expression.Form.{out-Form}
use Rattle.sv_types.specs.declared.expression.Form.TheVariants as V
use Rattle.sv_types.specs.declared.statement.Function.{Function}
use Rattle.sv_types.specs.declared.types.SvType.{SvType}
use Rattle.sv_types.specs.Layouts.{Layout, layout, width_of}
use Rattle.sv_types.specs.Surroundings.{Around}
use Rattle.v_meaning.specs.Scopes.{Scope}
use Rattle.lowering_laws.specs.Agreeing.{Images}
use Rattle.v_tree.specs.declared.names.Helper.{Helper}
use Rattle.v_tree.specs.declared.names.NameMap.{NameMap}
use Rattle.eval_parts.specs.Steps.{is_path}
use Rattle.path_flatten.specs.Helping.{Grows}
use Rattle.typed_paths.specs.Tests.{EndsInPart}
use Rattle.typed_paths.specs.Typed.{Indexing, IsTypedPath}
use Rattle.typed_paths.proofs.Opening.{IsOfIndex, of-Signal, of-Local, of-Member, of-Index, of-Part, of-Slide, no-path}
use Rattle.case_targets.specs.declared.indices.PathIndex.{PathIndex}
use Rattle.target_walk.specs.declared.given.Given.{Given}
use Rattle.expr_lower.specs.Leaves.{Leaf, Signals, Elements, Inside, Locals, onto, indexed, leaves}
use Rattle.expr_lower.specs.Lowering.{IsShown, ShowsElements, LeafStands}
use Rattle.name_maps.specs.Named.{signal_name, local_name, OneSignal}
use Rattle.expr_lower.proofs.AskedLeaves.{leaves-Signal, leaves-Local, leaves-Member, leaves-Index, leaves-Part, leaves-Slide}
use Rattle.target_lower.specs.declared.roots.Held.{Held}
use Rattle.target_lower.specs.declared.roots.Held.TheVariants as H
use Rattle.target_lower.specs.declared.roots.Root.{Root}
use Rattle.target_lower.specs.declared.within.Within.{Within}
use Rattle.target_lower.specs.Made.{GivenFor, path_index, IsMade, AreMade, PutsIndex, PutsIndices}
use Rattle.target_lower.specs.Roots.{IsUnder, IsRootLeaf, index_leaves, StandsOn, IsRootOf, OneHeld, name_under}
use Rattle.target_lower.specs.Targets.{IsInVector}
use Rattle.target_lower.proofs.Making.{made-more, index-made, index-short}

-- indices
module _ (within : Within) (names : NameMap) (fs : List Function) (hs : List Helper) where
  puts-none : (e : Expr) (old : List PathIndex) → ((number : ℕ) (t : SvType) (xs : List Indexing) (part : Bool) → IsTypedPath number t e xs part → xs ≡ []) → PutsIndices within names fs hs e old old
  puts-none e old none = record {
    indices = [];
    is = sym (append-nil old);
    made = λ number t xs part path. subst (λ l. AreMade within names fs hs l []) (sym (none number t xs part path)) tt;
    short = tt;
  }

  pub puts-plain : (e : Expr) (old : List PathIndex) → is_path (out-Form e.form) ≡ false → PutsIndices within names fs hs e old old
  puts-plain e old plain = puts-none e old (λ number t xs part path. absurd (no-path number t e xs part plain path))

  pub puts-Signal : (e : Expr) (n : ℕ) (old : List PathIndex) → e.form ≡ V.Signal n → PutsIndices within names fs hs e old old
  puts-Signal e n old is = puts-none e old (λ number t xs part path. (of-Signal number t e n xs part is path).none)

  pub puts-Local : (e : Expr) (n : ℕ) (old : List PathIndex) → e.form ≡ V.Local n → PutsIndices within names fs hs e old old
  puts-Local e n old is = puts-none e old (λ number t xs part path. (of-Local number t e n xs part is path).none)

  pub puts-Member : (e from : Expr) (k : ℕ) (old new : List PathIndex) → e.form ≡ V.Member from k → PutsIndices within names fs hs from old new → PutsIndices within names fs hs e old new
  puts-Member e from k old new is h =
      record { indices = h.indices; is = h.is; made = λ number t xs part path. h.made number t xs false (of-Member number t e from k xs part is path).path; short = h.short }

  pub puts-Part : (e from : Expr) (left right : ℤ) (old new : List PathIndex) → e.form ≡ V.Part from left right → PutsIndices within names fs hs from old new → PutsIndices within names fs hs e old new
  puts-Part e from left right old new is h =
      record { indices = h.indices; is = h.is; made = λ number t xs part path. (let o = of-Part number t e from left right xs part is path in h.made number t xs o.inner o.path); short = h.short }

  -- one more, and then those of what it selects from
  module _ (mid : List Helper) (grows : Grows mid hs) (e from i : Expr) (in_part : Bool) (old between new : List PathIndex) (ends : EndsInPart in_part from)
      (first : PutsIndex within names fs mid i in_part old between) (rest : PutsIndices within names fs hs from between new) where
    both-put : ((number : ℕ) (t : SvType) (xs : List Indexing) (part : Bool) → IsTypedPath number t e xs part → (last : Bool) × IsOfIndex number t from i xs last part) → PutsIndices within names fs hs e old new
    both-put steps = record {
      indices = first.index ∷ rest.indices;
      is = rest.is ∙ ap (λ l. l ++ rest.indices) first.is ∙ append_assoc old (first.index ∷ []) rest.indices;
      made = λ number t xs part path. made number t xs (steps number t xs part path).0 part (steps number t xs part path).1;
      short = (first.short, rest.short);
    }
      where
        made : (number : ℕ) (t : SvType) (xs : List Indexing) (last part : Bool) → IsOfIndex number t from i xs last part → AreMade within names fs hs xs (first.index ∷ rest.indices)
        made number t xs last part o =
            let here = ends number t o.others o.inner o.path in
            subst (λ l. AreMade within names fs hs l (first.index ∷ rest.indices)) (sym o.all) (
              made-more within names fs mid hs (record { index = i; in_part = o.inner }) first.index grows (subst (λ b. IsMade within names fs mid (record { index = i; in_part = b }) first.index) (sym here) first.made),
              rest.made number t o.others o.inner o.path,
            )

    pub puts-Index : e.form ≡ V.Index from i → PutsIndices within names fs hs e old new
    puts-Index is = both-put (λ number t xs part path. (false, of-Index number t e from i xs part is path))

    pub puts-Slide : (n : ℕ) (up : Bool) → e.form ≡ V.Slide from i n up → PutsIndices within names fs hs e old new
    puts-Slide n up is = both-put (λ number t xs part path. (true, (of-Slide number t e from i n up xs part is path).step))

-- the leaves of a step's path: the first one is what it stands on
onto-root : (of : Layout) (h : Held) (l : Leaf) (ls : List Leaf) → IsRootLeaf of h l → (k : Leaf) × IsRootLeaf of h k × (onto (l ∷ ls) ≡ k ∷ ls)
onto-root of H.Nothing l ls is = absurd is
onto-root of (H.Signal n) l ls (inl is) = (Inside n of, inr (inr refl), ap (λ x. onto (x ∷ ls)) is)
onto-root of (H.Signal n) l ls (inr (inl is)) = (Elements n of, inr (inl refl), ap (λ x. onto (x ∷ ls)) is)
onto-root of (H.Signal n) l ls (inr (inr is)) = (Inside n of, inr (inr refl), ap (λ x. onto (x ∷ ls)) is)
onto-root of (H.Local n) l ls is = (Locals n of, refl, ap (λ x. onto (x ∷ ls)) is)

indexed-root : (of : Layout) (h : Held) (l : Leaf) (ls : List Leaf) → IsRootLeaf of h l → (k : Leaf) × IsRootLeaf of h k × (indexed (l ∷ ls) ≡ k ∷ ls)
indexed-root of H.Nothing l ls is = absurd is
indexed-root of (H.Signal n) l [] (inl is) = (Elements n of, inr (inl refl), ap (λ x. indexed (x ∷ [])) is)
indexed-root of (H.Signal n) l (m ∷ ls) (inl is) = (Inside n of, inr (inr refl), ap (λ x. indexed (x ∷ m ∷ ls)) is)
indexed-root of (H.Signal n) l ls (inr (inl is)) = (Elements n of, inr (inl refl), ap (λ x. indexed (x ∷ ls)) is)
indexed-root of (H.Signal n) l ls (inr (inr is)) = (Inside n of, inr (inr refl), ap (λ x. indexed (x ∷ ls)) is)
indexed-root of (H.Local n) l ls is = (Locals n of, refl, ap (λ x. indexed (x ∷ ls)) is)

-- what a path stands on
pub root-plain : (r : Root) (e : Expr) → is_path (out-Form e.form) ≡ false → IsRootOf r e
root-plain r e plain number t xs part path = absurd (no-path number t e xs part plain path)

pub root-Signal : (r : Root) (e : Expr) (n : ℕ) → e.form ≡ V.Signal n → r.held ≡ H.Signal n → r.bits ≡ width_of e.of → IsRootOf r e
root-Signal r e n is held bits number t xs part path =
    let o = of-Signal number t e n xs part is path in
    record {
      held = subst (λ x. IsUnder x number) (sym held) o.it;
      bits = bits ∙ ap width_of o.type;
      leaf = Signals n (layout t);
      is_leaf = subst (λ x. IsRootLeaf (layout t) x (Signals n (layout t))) (sym held) (inl refl);
      all = leaves-Signal e n is ∙ ap (λ (u : SvType). Signals n (layout u) ∷ []) o.type ∙ ap (λ l. Signals n (layout t) ∷ index_leaves l) (sym o.none);
    }

pub root-Local : (r : Root) (e : Expr) (n : ℕ) → e.form ≡ V.Local n → r.held ≡ H.Local n → r.bits ≡ width_of e.of → IsRootOf r e
root-Local r e n is held bits number t xs part path =
    let o = of-Local number t e n xs part is path in
    record {
      held = subst (λ x. IsUnder x number) (sym held) o.it;
      bits = bits ∙ ap width_of o.type;
      leaf = Locals n (layout t);
      is_leaf = subst (λ x. IsRootLeaf (layout t) x (Locals n (layout t))) (sym held) refl;
      all = leaves-Local e n is ∙ ap (λ (u : SvType). Locals n (layout u) ∷ []) o.type ∙ ap (λ l. Locals n (layout t) ∷ index_leaves l) (sym o.none);
    }

onto-stands : (r : Root) (e from : Expr) (number : ℕ) (t : SvType) (xs : List Indexing) → leaves e ≡ onto (leaves from) → StandsOn r from number t xs → StandsOn r e number t xs
onto-stands r e from number t xs is h =
    let k = onto-root (layout t) r.held h.leaf (index_leaves xs) h.is_leaf in
    record { held = h.held; bits = h.bits; leaf = k.0; is_leaf = k.1; all = is ∙ ap onto h.all ∙ k.2 }

pub root-Member : (r : Root) (e from : Expr) (k : ℕ) → e.form ≡ V.Member from k → IsRootOf r from → IsRootOf r e
root-Member r e from k is h number t xs part path =
    onto-stands r e from number t xs (leaves-Member e from k is) (h number t xs false (of-Member number t e from k xs part is path).path)

pub root-Part : (r : Root) (e from : Expr) (left right : ℤ) → e.form ≡ V.Part from left right → IsRootOf r from → IsRootOf r e
root-Part r e from left right is h number t xs part path =
    let o = of-Part number t e from left right xs part is path in
    onto-stands r e from number t xs (leaves-Part e from left right is) (h number t xs o.inner o.path)

pub root-Index : (r : Root) (e from i : Expr) → e.form ≡ V.Index from i → IsRootOf r from → IsRootOf r e
root-Index r e from i is h number t xs part path =
    let o = of-Index number t e from i xs part is path in
    let s = h number t o.others o.inner o.path in
    let k = indexed-root (layout t) r.held s.leaf (index_leaves o.others) s.is_leaf in
    record {
      held = s.held;
      bits = s.bits;
      leaf = k.0;
      is_leaf = k.1;
      all = leaves-Index e from i is ∙ ap (λ l. indexed l ++ leaves i) s.all ∙ ap (λ l. l ++ leaves i) k.2 ∙ ap (λ l. k.0 ∷ index_leaves l) (sym o.all);
    }

pub root-Slide : (r : Root) (e from i : Expr) (n : ℕ) (up : Bool) → e.form ≡ V.Slide from i n up → IsRootOf r from → IsRootOf r e
root-Slide r e from i n up is h number t xs part path =
    let o = (of-Slide number t e from i n up xs part is path).step in
    let s = h number t o.others o.inner o.path in
    let k = onto-root (layout t) r.held s.leaf (index_leaves o.others) s.is_leaf in
    record {
      held = s.held;
      bits = s.bits;
      leaf = k.0;
      is_leaf = k.1;
      all = leaves-Slide e from i n up is ∙ ap (λ l. onto l ++ leaves i) s.all ∙ ap (λ l. l ++ leaves i) k.2 ∙ ap (λ l. k.0 ∷ index_leaves l) (sym o.all);
    }

-- the map says one thing of it, and its name shows its image, if it isn't an element of a memory
signal-shown : (names : NameMap) (fs : List Function) (im : Images) (a : Around) (sc : Scope) (n : ℕ) (of : Layout) (leaf : Leaf) → IsRootLeaf of (H.Signal n) leaf → IsInVector names leaf
    → LeafStands names fs im a sc leaf → OneSignal names.signals n × IsShown (signal_name names.signals n) im sc n of
signal-shown names fs im a sc n of leaf (inl is) vector stands = subst (LeafStands names fs im a sc) is stands
signal-shown names fs im a sc n of leaf (inr (inl is)) vector stands =
    let stood = subst (LeafStands names fs im a sc) is stands in
    (stood.0, subst (λ b. ShowsElements b (signal_name names.signals n) im sc n of) (subst (IsInVector names) is vector stood.0) stood.1)
signal-shown names fs im a sc n of leaf (inr (inr is)) vector stands = subst (LeafStands names fs im a sc) is stands

pub root-shown : (names : NameMap) (fs : List Function) (im : Images) (a : Around) (sc : Scope) (h : Held) (number : ℕ) (of : Layout) (leaf : Leaf) → IsUnder h number → IsRootLeaf of h leaf → IsInVector names leaf
    → LeafStands names fs im a sc leaf → OneHeld names h × IsShown (name_under names h) im sc number of
root-shown names fs im a sc H.Nothing number of leaf it root vector stands = absurd it
root-shown names fs im a sc (H.Signal n) number of leaf it root vector stands =
    let stood = signal-shown names fs im a sc n of leaf root vector stands in (stood.0, subst (λ k. IsShown (signal_name names.signals n) im sc k of) it stood.1)
root-shown names fs im a sc (H.Local n) number of leaf it root vector stands =
    let stood = subst (LeafStands names fs im a sc) root stands in (stood.0, subst (λ k. IsShown (local_name names.locals n) im sc k of) it stood.1)

-- what is answered
pub ok-both : {A E : Type 0} (P Q R : A → Type 0) (r : Result A E) → IfOk r P → IfOk r Q → ((x : A) → P x → Q x → R x) → IfOk r R
ok-both P Q R (Ok x) h g f = f x h g
ok-both P Q R (Err e) h g f = tt

pub ok-one : {A E : Type 0} (P Q : A → Type 0) (r : Result A E) → IfOk r P → ((x : A) → P x → Q x) → IfOk r Q
ok-one P Q (Ok x) h f = f x h
ok-one P Q (Err e) h f = tt

pub on-one : {A E : Type 0} (P Q : Type 0) (r : Result A E) → OnOk r P → (P → Q) → OnOk r Q
on-one P Q (Ok x) h f = f h
on-one P Q (Err e) h f = tt

pub on-grown : {A E : Type 0} (G P Q : Type 0) (r : Result A E) → OnOk r G → OnOk r P → (G → P → Q) → OnOk r Q
on-grown G P Q (Ok x) g h f = f g h
on-grown G P Q (Err e) g h f = tt

-- an index more
pub puts-one : (within : Within) (names : NameMap) (fs : List Function) (hs : List Helper) (i : Expr) (part : Bool) (g : Given) (old new : List PathIndex) → GivenFor within names fs hs i g → new ≡ old ++ path_index part g ∷ []
    → PutsIndex within names fs hs i part old new
puts-one within names fs hs i part g old new h is = record { index = path_index part g; is = is; made = index-made within names fs hs i part g h; short = index-short part g h.1 }
