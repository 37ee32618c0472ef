-- What the calls give, by the last step of a path.
use Rattle.std.proofs.Common.{◌≡◌, ℕ, suc, ◌-◌, ◌*◌, Bool, true, false, ℤ, List, [], ◌∷◌, length, Some, None, Result, Ok, Err, IfOk, arith, ap, sym, ◌∙◌, subst}
use Rattle.std.specs.Prelude.{slice_get}
use Rattle.std.specs.declared.alloc.AllocError.{AllocError}
use Rattle.b4_core.specs.declared.bit.Bit4.{Bit4}
use Rattle.sv_types.specs.declared.expression.Expr.{Expr}
use Rattle.sv_types.specs.declared.expression.Form.{out-Form}
use Rattle.sv_types.specs.declared.expression.Form.TheVariants as V
use Rattle.sv_types.specs.Layouts.{Layout, layout}
use Rattle.sv_types.specs.Surroundings.{Around}
use Rattle.sv_types.specs.Meanings as S
use Rattle.sv_types.specs.Paths as P
use Rattle.sv_types.specs.Expressions.{meaning}
use Rattle.sv_types.proofs.Heads.{heads}
use Rattle.eval_parts.specs.Steps.{is_path}
use Rattle.eval_parts.proofs.Selecting.{same-Member, same-Index, same-Part, same-Slide}
use Rattle.lowering_laws.proofs.WriteAt.{IsTight}
use Rattle.lowering_laws.proofs.Wholes.{member-typed, index-typed, sliding-typed}
use Rattle.picks.specs.Windows.{Window, nowhere}
use Rattle.sv_types.specs.Windows.{slide}
use Rattle.typed_paths.specs.Typed.{Indexing}
use Rattle.typed_paths.proofs.Opening.{no-path, of-Signal, of-Local, of-Member, of-Index, of-Part, of-Slide}
use Rattle.filled_paths.specs.Filling.{IsLiteralOf, index_in, IsBeyond, IsEmpty}
use Rattle.filled_paths.specs.declared.numbers.Numbers.{Numbers}
use Rattle.filled_paths.specs.Numbers.{IsMemberMade, IsPartMade, IsIndexMade, IsSlideMade, IsFilledBy, Fills, AreAround, NamesFrom}
use Rattle.filled_paths.proofs.Filling.{filled-member, filled-part, filled-index, filled-slide, here-index, here-slide, member-window, index-window, part-window, slide-window}
use Rattle.filled_paths.proofs.Reaching.{element-beyond, slide-beyond}
use Rattle.filled_paths.proofs.Emptying.{empty-nowhere, tight-empty, empty-member, empty-element, empty-slide, empty-between, slide-tight, typed-tight, elements-all}

-- a step from what may want memory
pub made-member : (e : Expr) (p : Result Expr AllocError) (g : Expr) (k : ℕ) (q : Result Expr AllocError) → p ≡ Ok g → IfOk q (λ f. f.of ≡ e.of) → IfOk q (λ f. f.form ≡ V.Member g k) → IfOk q (IsMemberMade e p k)
made-member e p g k (Ok f) is of form = subst (λ r. IsMemberMade e r k f) (sym is) (record { of = of; form_is = form })
made-member e p g k (Err x) is of form = tt

pub made-part : (e : Expr) (p : Result Expr AllocError) (g : Expr) (left right : ℤ) (q : Result Expr AllocError) → p ≡ Ok g → IfOk q (λ f. f.of ≡ e.of) → IfOk q (λ f. f.form ≡ V.Part g left right)
    → IfOk q (IsPartMade e p left right)
made-part e p g left right (Ok f) is of form = subst (λ r. IsPartMade e r left right f) (sym is) (record { of = of; form_is = form })
made-part e p g left right (Err x) is of form = tt

pub made-index : (e : Expr) (p r : Result Expr AllocError) (g i : Expr) (q : Result Expr AllocError) → p ≡ Ok g → r ≡ Ok i → IfOk q (λ f. f.of ≡ e.of) → IfOk q (λ f. f.form ≡ V.Index g i)
    → IfOk q (IsIndexMade e p r)
made-index e p r g i (Ok f) is it of form = subst (λ x. IsIndexMade e x r f) (sym is) (subst (λ x. IsIndexMade e (Ok g) x f) (sym it) (record { of = of; form_is = form }))
made-index e p r g i (Err x) is it of form = tt

pub made-slide : (e : Expr) (p r : Result Expr AllocError) (g i : Expr) (n : ℕ) (up : Bool) (q : Result Expr AllocError) → p ≡ Ok g → r ≡ Ok i → IfOk q (λ f. f.of ≡ e.of)
    → IfOk q (λ f. f.form ≡ V.Slide g i n up) → IfOk q (IsSlideMade e p r n up)
made-slide e p r g i n up (Ok f) is it of form = subst (λ x. IsSlideMade e x r n up f) (sym is) (subst (λ x. IsSlideMade e (Ok g) x n up f) (sym it) (record { of = of; form_is = form }))
made-slide e p r g i n up (Err x) is it of form = tt

-- no index
none-some : (x : Indexing) → None ≡ Some x → ⊥
none-some x e = cc

index-none : (at : ℕ) (xs : List Indexing) (x : Indexing) → xs ≡ [] → index_in at xs ≡ Some x → ⊥
index-none at xs x none there = none-some x (sym (ap (index_in at) none) ∙ there)

pub fills-plain : (e : Expr) (at : ℕ) (bits : List Bit4) (f : Expr) → is_path (out-Form e.form) ≡ false → Fills e at bits f
fills-plain e at bits f plain number t xs part x path there long = absurd (no-path number t e xs part plain path)

pub fills-signal : (e : Expr) (n at : ℕ) (bits : List Bit4) (f : Expr) → e.form ≡ V.Signal n → Fills e at bits f
fills-signal e n at bits f is number t xs part x path there long = absurd (index-none at xs x (of-Signal number t e n xs part is path).none there)

pub fills-local : (e : Expr) (n at : ℕ) (bits : List Bit4) (f : Expr) → e.form ≡ V.Local n → Fills e at bits f
fills-local e n at bits f is number t xs part x path there long = absurd (index-none at xs x (of-Local number t e n xs part is path).none there)

pub fills-all : (e : Expr) (at : ℕ) (bits : List Bit4) (q : Result Expr AllocError) → ((f : Expr) → Fills e at bits f) → IfOk q (Fills e at bits)
fills-all e at bits (Ok f) all = all f
fills-all e at bits (Err x) all = tt

-- the first of some indices, and those behind it
first-same : (x y : Indexing) (xs : List Indexing) → index_in 0 (y ∷ xs) ≡ Some x → y ≡ x
first-same x y xs e = cc

module _ (bits : List Bit4) (e from : Expr) where
  pub fills-member : (k at : ℕ) (p q : Result Expr AllocError) → e.form ≡ V.Member from k → IfOk p (Fills from at bits) → IfOk q (IsMemberMade e p k) → IfOk q (Fills e at bits)
  fills-member k at p (Err x) is inner made = tt
  fills-member k at (Err y) (Ok f) is inner made = absurd made
  fills-member k at (Ok g) (Ok f) is inner made = λ number t xs part x path there long.
      let o = of-Member number t e from k xs part is path in
      let h = inner number t xs false x o.path there long in
      subst (λ b. IsFilledBy number t xs b at x bits e f) (sym o.whole)
      (record { lit = h.lit; literal = h.literal; filled = filled-member number t x.index h.lit e from f g k at xs is made.form_is made.of h.filled })

  pub fills-part : (left right : ℤ) (at : ℕ) (p q : Result Expr AllocError) → e.form ≡ V.Part from left right → IfOk p (Fills from at bits) → IfOk q (IsPartMade e p left right) → IfOk q (Fills e at bits)
  fills-part left right at p (Err x) is inner made = tt
  fills-part left right at (Err y) (Ok f) is inner made = absurd made
  fills-part left right at (Ok g) (Ok f) is inner made = λ number t xs part x path there long.
      let o = of-Part number t e from left right xs part is path in
      let h = inner number t xs o.inner x o.path there long in
      subst (λ b. IsFilledBy number t xs b at x bits e f) (sym o.is_part)
      (record { lit = h.lit; literal = h.literal; filled = filled-part number t x.index h.lit e from f g left right at xs o.inner is made.form_is made.of o.type.has o.type.is h.filled })

  pub fills-index : (i : Expr) (at m : ℕ) (p r q : Result Expr AllocError) → e.form ≡ V.Index from i → at ≡ suc m → IfOk p (Fills from m bits) → IfOk r (λ c. c ≡ i) → IfOk q (IsIndexMade e p r) → IfOk q (Fills e at bits)
  fills-index i at m p r (Err x) is next inner copied made = tt
  fills-index i at m (Err y) r (Ok f) is next inner copied made = absurd made
  fills-index i at m (Ok g) (Err y) (Ok f) is next inner copied made = absurd made
  fills-index i at m (Ok g) (Ok j) (Ok f) is next inner copied made = λ number t xs part x path there long.
      let o = of-Index number t e from i xs part is path in
      let rest : index_in m o.others ≡ Some x = sym ((λ d. index_in (next d) (o.all d))) ∙ there in
      let h = inner number t o.others o.inner x o.path rest long in
      subst (λ b. IsFilledBy number t xs b at x bits e f) (sym o.is_part)
      (subst (λ l. IsFilledBy number t l false at x bits e f) (sym o.all)
      (subst (λ n. IsFilledBy number t (record { index = i; in_part = o.inner } ∷ o.others) false n x bits e f) (sym next)
      (record { lit = h.lit; literal = h.literal; filled = filled-index number t x.index h.lit e from f g i m o.others o.inner is (made.form_is ∙ ap (V.Index g) copied) made.of o.has h.filled })))

  pub fills-slide : (i : Expr) (n : ℕ) (up : Bool) (at m : ℕ) (p r q : Result Expr AllocError) → e.form ≡ V.Slide from i n up → at ≡ suc m → IfOk p (Fills from m bits) → IfOk r (λ c. c ≡ i)
      → IfOk q (IsSlideMade e p r n up) → IfOk q (Fills e at bits)
  fills-slide i n up at m p r (Err x) is next inner copied made = tt
  fills-slide i n up at m (Err y) r (Ok f) is next inner copied made = absurd made
  fills-slide i n up at m (Ok g) (Err y) (Ok f) is next inner copied made = absurd made
  fills-slide i n up at m (Ok g) (Ok j) (Ok f) is next inner copied made = λ number t xs part x path there long.
      let s = of-Slide number t e from i n up xs part is path in
      let o = s.step in
      let rest : index_in m o.others ≡ Some x = sym ((λ d. index_in (next d) (o.all d))) ∙ there in
      let h = inner number t o.others o.inner x o.path rest long in
      subst (λ b. IsFilledBy number t xs b at x bits e f) (sym o.is_part)
      (subst (λ l. IsFilledBy number t l true at x bits e f) (sym o.all)
      (subst (λ k. IsFilledBy number t (record { index = i; in_part = o.inner } ∷ o.others) true k x bits e f) (sym next)
      (record { lit = h.lit; literal = h.literal; filled = filled-slide number t x.index h.lit e from f g i n up m o.others o.inner is (made.form_is ∙ ap (λ y. V.Slide g y n up) copied) made.of s.type.has s.type.is h.filled })))

  -- the index itself
  pub fills-here : (i : Expr) (at : ℕ) (p r q : Result Expr AllocError) → e.form ≡ V.Index from i → at ≡ 0 → IfOk p (λ c. c ≡ from) → IfOk r (IsLiteralOf i bits) → IfOk q (IsIndexMade e p r) → IfOk q (Fills e at bits)
  fills-here i at p r (Err x) is first copied lit made = tt
  fills-here i at (Err y) r (Ok f) is first copied lit made = absurd made
  fills-here i at (Ok g) (Err y) (Ok f) is first copied lit made = absurd made
  fills-here i at (Ok g) (Ok j) (Ok f) is first copied lit made = λ number t xs part x path there long.
      let o = of-Index number t e from i xs part is path in
      let y : Indexing = record { index = i; in_part = o.inner } in
      let same : y ≡ x = first-same x y o.others (sym ((λ d. index_in (first d) (o.all d))) ∙ there) in
      let size = long ∙ ap (λ (z : Indexing). S.wide (meaning z.index)) (sym same) in
      subst (λ b. IsFilledBy number t xs b at x bits e f) (sym o.is_part)
      (subst (λ l. IsFilledBy number t l false at x bits e f) (sym o.all)
      (subst (λ n. IsFilledBy number t (y ∷ o.others) false n x bits e f) (sym first)
      (subst (λ z. IsFilledBy number t (y ∷ o.others) false 0 z bits e f) same
      (record { lit = j; literal = lit; filled = here-index number t i j bits lit size e from f o.others o.inner is (made.form_is ∙ ap (λ z. V.Index z j) copied) made.of o.has o.path }))))

  pub fills-base : (i : Expr) (n : ℕ) (up : Bool) (at : ℕ) (p r q : Result Expr AllocError) → e.form ≡ V.Slide from i n up → at ≡ 0 → IfOk p (λ c. c ≡ from) → IfOk r (IsLiteralOf i bits)
      → IfOk q (IsSlideMade e p r n up) → IfOk q (Fills e at bits)
  fills-base i n up at p r (Err x) is first copied lit made = tt
  fills-base i n up at (Err y) r (Ok f) is first copied lit made = absurd made
  fills-base i n up at (Ok g) (Err y) (Ok f) is first copied lit made = absurd made
  fills-base i n up at (Ok g) (Ok j) (Ok f) is first copied lit made = λ number t xs part x path there long.
      let s = of-Slide number t e from i n up xs part is path in
      let o = s.step in
      let y : Indexing = record { index = i; in_part = o.inner } in
      let same : y ≡ x = first-same x y o.others (sym ((λ d. index_in (first d) (o.all d))) ∙ there) in
      let size = long ∙ ap (λ (z : Indexing). S.wide (meaning z.index)) (sym same) in
      subst (λ b. IsFilledBy number t xs b at x bits e f) (sym o.is_part)
      (subst (λ l. IsFilledBy number t l true at x bits e f) (sym o.all)
      (subst (λ k. IsFilledBy number t (y ∷ o.others) true k x bits e f) (sym first)
      (subst (λ z. IsFilledBy number t (y ∷ o.others) true 0 z bits e f) same
      (record { lit = j; literal = lit; filled = here-slide number t i j bits lit size e from f n up o.others o.inner is (made.form_is ∙ ap (λ z. V.Slide z j n up) copied) made.of o.has s.type.is o.path }))))

-- the numbers of an index
pub names-plain : (e : Expr) (at : ℕ) (r : Numbers) → is_path (out-Form e.form) ≡ false → NamesFrom e at r
names-plain e at r plain number t xs part x path typed there = absurd (no-path number t e xs part plain path)

pub names-signal : (e : Expr) (n at : ℕ) (r : Numbers) → e.form ≡ V.Signal n → NamesFrom e at r
names-signal e n at r is number t xs part x path typed there = absurd (index-none at xs x (of-Signal number t e n xs part is path).none there)

pub names-local : (e : Expr) (n at : ℕ) (r : Numbers) → e.form ≡ V.Local n → NamesFrom e at r
names-local e n at r is number t xs part x path typed there = absurd (index-none at xs x (of-Local number t e n xs part is path).none there)

member-from : (of : Layout) (at : ℕ) (from : S.Meaning) (k : ℕ) → (P.member of at from k).misfits ≡ 0 → from.misfits ≡ 0
member-from of at from k typed = (member-typed of at from k typed).step.typed_from

index-from : (of : Layout) (at : ℕ) (from i : S.Meaning) → (P.index of at from i).misfits ≡ 0 → from.misfits ≡ 0
index-from of at from i typed = (index-typed of at from i typed).0.typed_from

part-from : (of : Layout) (at : ℕ) (from : S.Meaning) (left right : ℤ) → (P.part_select of at from left right).misfits ≡ 0 → from.misfits ≡ 0
unfolding P.part_select
part-from of at from left right typed = omega arith

slide-from : (of : Layout) (at : ℕ) (from i : S.Meaning) (n : ℕ) (up : Bool) → (P.sliding of at from i n up).misfits ≡ 0 → from.misfits ≡ 0
slide-from of at from i n up typed = (sliding-typed of at from i n up typed).0.typed_from

typed-as : (e : Expr) (m : S.Meaning) → meaning e ≡ m → (meaning e).misfits ≡ 0 → m.misfits ≡ 0
typed-as e m is typed = ap (λ (x : S.Meaning). x.misfits) (sym is) ∙ typed

empty-as : (e : Expr) (m : S.Meaning) (a : Around) (w : Window) → meaning e ≡ m → m.window a ≡ w → IsEmpty w → IsEmpty ((meaning e).window a)
empty-as e m a w is window empty = subst IsEmpty (sym (ap (λ (x : S.Meaning). x.window a) is ∙ window)) empty

module _ (e from : Expr) (r : Numbers) where
  pub names-member : (k at : ℕ) → e.form ≡ V.Member from k → NamesFrom from at r → NamesFrom e at r
  names-member k at is inner number t xs part x path typed there a beyond =
      let o = of-Member number t e from k xs part is path in
      let rest = member-from (layout e.of) e.spot.at (meaning from) k (typed-as e _ (same-Member e from k is) typed) in
      empty-as e _ a _ (same-Member e from k is) (member-window (layout e.of) e.spot.at (meaning from) k a)
      (empty-member (slice_get (meaning from).of.members k) ((meaning from).window a) (inner number t xs false x o.path rest there a beyond))

  pub names-part : (left right : ℤ) (at : ℕ) → e.form ≡ V.Part from left right → NamesFrom from at r → NamesFrom e at r
  names-part left right at is inner number t xs part x path typed there a beyond =
      let o = of-Part number t e from left right xs part is path in
      let rest = part-from (layout e.of) e.spot.at (meaning from) left right (typed-as e _ (same-Part e from left right is) typed) in
      empty-as e _ a _ (same-Part e from left right is) (part-window (layout e.of) e.spot.at (meaning from) left right a)
      (empty-between (meaning from).of left right ((meaning from).window a) (inner number t xs o.inner x o.path rest there a beyond))

  pub names-index : (i : Expr) (at m : ℕ) → e.form ≡ V.Index from i → at ≡ suc m → NamesFrom from m r → NamesFrom e at r
  names-index i at m is next inner number t xs part x path typed there a beyond =
      let o = of-Index number t e from i xs part is path in
      let behind : index_in m o.others ≡ Some x = sym ((λ d. index_in (next d) (o.all d))) ∙ there in
      let rest = index-from (layout e.of) e.spot.at (meaning from) (meaning i) (typed-as e _ (same-Index e from i is) typed) in
      empty-as e _ a _ (same-Index e from i is) (index-window (layout e.of) e.spot.at (meaning from) (meaning i) a)
      (empty-element (meaning from).of (P.index_of (meaning i) a) ((meaning from).window a) (inner number t o.others o.inner x o.path rest behind a beyond))

  pub names-slide : (i : Expr) (n : ℕ) (up : Bool) (at m : ℕ) → e.form ≡ V.Slide from i n up → at ≡ suc m → NamesFrom from m r → NamesFrom e at r
  names-slide i n up at m is next inner number t xs part x path typed there a beyond =
      let o = (of-Slide number t e from i n up xs part is path).step in
      let behind : index_in m o.others ≡ Some x = sym ((λ d. index_in (next d) (o.all d))) ∙ there in
      let rest = slide-from (layout e.of) e.spot.at (meaning from) (meaning i) n up (typed-as e _ (same-Slide e from i n up is) typed) in
      empty-as e _ a _ (same-Slide e from i n up is) (slide-window (layout e.of) e.spot.at (meaning from) (meaning i) n up a)
      (empty-slide (meaning from).of up n (P.index_of (meaning i) a) ((meaning from).window a) (inner number t o.others o.inner x o.path rest behind a beyond))

  -- the index itself
  around-from : (left right : ℤ) (far : ℕ) → left ≡ (layout from.of).left → right ≡ (layout from.of).right → AreAround r.low r.high left right far
      → AreAround r.low r.high (meaning from).of.left (meaning from).of.right far
  around-from left right far l s around =
      let kind = sym (heads from).kind in
      subst (λ (y : Layout). AreAround r.low r.high y.left y.right far) kind (subst (λ z. AreAround r.low r.high z (layout from.of).right far) l (subst (λ z. AreAround r.low r.high left z far) s around))

  pub names-here : (i : Expr) (at : ℕ) (left right : ℤ) → e.form ≡ V.Index from i → at ≡ 0 → left ≡ (layout from.of).left → right ≡ (layout from.of).right → AreAround r.low r.high left right 0 → NamesFrom e at r
  names-here i at left right is first l s around number t xs part x path typed there a beyond =
      let o = of-Index number t e from i xs part is path in
      let same = first-same x (record { index = i; in_part = o.inner }) o.others (sym ((λ d. index_in (first d) (o.all d))) ∙ there) in
      let out = subst (λ (y : Indexing). IsBeyond r.low r.high (P.index_of (meaning y.index) a)) (sym same) beyond in
      empty-as e _ a nowhere (same-Index e from i is)
      (index-window (layout e.of) e.spot.at (meaning from) (meaning i) a
      ∙ element-beyond (meaning from).of r.low r.high (P.index_of (meaning i) a) ((meaning from).window a) (around-from left right 0 l s around) out) empty-nowhere

  pub names-base : (i : Expr) (n far : ℕ) (up : Bool) (at : ℕ) (left right : ℤ) → e.form ≡ V.Slide from i n up → at ≡ 0 → far ≡ n - 1 → left ≡ (layout from.of).left → right ≡ (layout from.of).right
      → AreAround r.low r.high left right far → NamesFrom e at r
  names-base i n far up at left right is first size l s around number t xs part x path typed there a beyond =
      let o = of-Slide number t e from i n up xs part is path in
      let same = first-same x (record { index = i; in_part = o.step.inner }) o.step.others (sym ((λ d. index_in (first d) (o.step.all d))) ∙ there) in
      let out = subst (λ (y : Indexing). IsBeyond r.low r.high (P.index_of (meaning y.index) a)) (sym same) beyond in
      let rest = slide-from (layout e.of) e.spot.at (meaning from) (meaning i) n up (typed-as e _ (same-Slide e from i n up is) typed) in
      let tight = typed-tight number t from o.step.others o.step.inner a o.step.path rest in
      let all = elements-all from rest in
      empty-as e _ a (slide (meaning from).of up n (P.index_of (meaning i) a) ((meaning from).window a)) (same-Slide e from i n up is) (slide-window (layout e.of) e.spot.at (meaning from) (meaning i) n up a)
      (tight-empty (slide (meaning from).of up n (P.index_of (meaning i) a) ((meaning from).window a)) (n * length (meaning from).of.element.two_state) (slide-tight (meaning from).of up n (P.index_of (meaning i) a) ((meaning from).window a))
      (λ j less. slide-beyond (meaning from).of r.low r.high (P.index_of (meaning i) a) n up ((meaning from).window a) j o.type.is.some
      (subst (λ d. AreAround r.low r.high (meaning from).of.left (meaning from).of.right d) size (around-from left right far l s around)) out
      (subst (IsTight ((meaning from).window a)) (sym all) tight) less))
