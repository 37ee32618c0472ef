-- What is known of a typed path by its last step.
use Rattle.std.proofs.Common.{◌≡◌, ℕ, Bool, true, false, ℤ, List, [], ◌∷◌, Some, refl, rules, ap, sym, ◌∙◌, subst, true≢false}
use Rattle.sv_types.specs.declared.expression.Choice.{Choice}
use Rattle.sv_types.specs.declared.expression.Expr.{Expr}
use Rattle.sv_types.specs.declared.expression.Form.{Form, Form-F, out-Form, the_lemmas}
use Rattle.sv_types.specs.declared.expression.Form.TheVariants as V
use Rattle.sv_types.specs.declared.types.SvType.{SvType}
use Rattle.sv_types.specs.Surroundings.{local_number}
use Rattle.sv_types.specs.Meanings as S
use Rattle.sv_types.specs.Expressions.{meaning}
use Rattle.eval_parts.specs.Steps.{is_path}
use Rattle.eval_parts.proofs.Selecting.{same-Signal, same-Local, same-Member, same-Index, same-Part, same-Slide}
use Rattle.sv_types.specs.Layouts.{Layout}
use Rattle.sv_types.specs.Paths as P
use Rattle.typed_paths.specs.Tests.{IsPartType, IsSlideType}
use Rattle.typed_paths.specs.Typed.{has_elements, Indexing, IsTypedPath, of_signal, of_local, of_member, of_index, of_part, of_slide}

-- forms by their constructors
out-Signal : (n : ℕ) → out-Form (V.Signal n) ≡ Form-F.Signal n
out-Signal n = search (rules, the_lemmas)

out-Local : (n : ℕ) → out-Form (V.Local n) ≡ Form-F.Local n
out-Local n = search (rules, the_lemmas)

out-Member : (x : Expr) (k : ℕ) → out-Form (V.Member x k) ≡ Form-F.Member x k
out-Member x k = search (rules, the_lemmas)

out-Index : (x i : Expr) → out-Form (V.Index x i) ≡ Form-F.Index x i
out-Index x i = search (rules, the_lemmas)

out-Part : (x : Expr) (left right : ℤ) → out-Form (V.Part x left right) ≡ Form-F.Part x left right
out-Part x left right = search (rules, the_lemmas)

out-Slide : (x i : Expr) (n : ℕ) (up : Bool) → out-Form (V.Slide x i n up) ≡ Form-F.Slide x i n up
out-Slide x i n up = search (rules, the_lemmas)

-- a path by its last step
pub record IsRoot (number n : ℕ) (t of : SvType) (xs : List Indexing) (part : Bool) : Type 0 where
  pub it : n ≡ number
  pub type : of ≡ t
  pub none : xs ≡ []
  pub whole : part ≡ false

pub record IsOfMember (number : ℕ) (t : SvType) (from : Expr) (xs : List Indexing) (part : Bool) : Type 0 where
  pub whole : part ≡ false
  pub path : IsTypedPath number t from xs false

pub record IsOfPart (number : ℕ) (t of : SvType) (from : Expr) (left right : ℤ) (xs : List Indexing) (part : Bool) : Type 0 where
  pub is_part : part ≡ true
  pub type : IsPartType of from.of left right
  pub inner : Bool
  pub path : IsTypedPath number t from xs inner

pub record IsOfIndex (number : ℕ) (t : SvType) (from i : Expr) (xs : List Indexing) (last part : Bool) : Type 0 where
  pub is_part : part ≡ last
  pub inner : Bool
  pub others : List Indexing
  pub all : xs ≡ record { index = i; in_part = inner } ∷ others
  pub has : has_elements from.of ≡ true
  pub path : IsTypedPath number t from others inner

pub record IsOfSlide (number : ℕ) (t of : SvType) (from i : Expr) (n : ℕ) (xs : List Indexing) (part : Bool) : Type 0 where
  pub step : IsOfIndex number t from i xs true part
  pub type : IsSlideType of from.of n

abbrev IsOf : ℕ → SvType → SvType → Form-F Choice Form Expr → List Indexing → Bool → Type 0
IsOf number t of (Form-F.Literal v goes_on) xs part = ⊥
IsOf number t of (Form-F.Fill b) xs part = ⊥
IsOf number t of (Form-F.Constant v) xs part = ⊥
IsOf number t of (Form-F.Signal n) xs part = IsRoot number n t of xs part
IsOf number t of (Form-F.Local n) xs part = IsRoot number (local_number n) t of xs part
IsOf number t of (Form-F.Member from k) xs part = IsOfMember number t from xs part
IsOf number t of (Form-F.Index from i) xs part = IsOfIndex number t from i xs false part
IsOf number t of (Form-F.Part from left right) xs part = IsOfPart number t of from left right xs part
IsOf number t of (Form-F.Slide from i n up) xs part = IsOfSlide number t of from i n xs part
IsOf number t of (Form-F.Unary op x) xs part = ⊥
IsOf number t of (Form-F.Reduce op x) xs part = ⊥
IsOf number t of (Form-F.Negate x) xs part = ⊥
IsOf number t of (Form-F.Binary op x y) xs part = ⊥
IsOf number t of (Form-F.Shift op x y) xs part = ⊥
IsOf number t of (Form-F.Power x y) xs part = ⊥
IsOf number t of (Form-F.Order op x y) xs part = ⊥
IsOf number t of (Form-F.Equal op negated x y) xs part = ⊥
IsOf number t of (Form-F.Both x y) xs part = ⊥
IsOf number t of (Form-F.Either x y) xs part = ⊥
IsOf number t of (Form-F.Choose z x y) xs part = ⊥
IsOf number t of (Form-F.Concat es) xs part = ⊥
IsOf number t of (Form-F.Repeat n es) xs part = ⊥
IsOf number t of (Form-F.Inside x cs) xs part = ⊥
IsOf number t of (Form-F.Cast x) xs part = ⊥
IsOf number t of (Form-F.Clog2 x) xs part = ⊥
IsOf number t of (Form-F.Pattern es) xs part = ⊥
IsOf number t of (Form-F.Call f es) xs part = ⊥
IsOf number t of (Form-F.Stream reversed n es) xs part = ⊥

module _ (number : ℕ) (t : SvType) where
  at-form : (e : Expr) (f : Form) (x : Form-F Choice Form Expr) (xs : List Indexing) (part : Bool) → e.form ≡ f → out-Form f ≡ x → IsOf number t e.of x xs part → IsOf number t e.of (out-Form e.form) xs part
  at-form e f x xs part is out h = subst (λ y. IsOf number t e.of y xs part) (sym (ap out-Form is ∙ out)) h

  opened : (e : Expr) (xs : List Indexing) (part : Bool) → IsTypedPath number t e xs part → IsOf number t e.of (out-Form e.form) xs part
  opened e xs part (of_signal y n is it of) = at-form y (V.Signal n) (Form-F.Signal n) [] false is (out-Signal n) (record { it = it; type = of; none = refl; whole = refl })
  opened e xs part (of_local y n is it of) = at-form y (V.Local n) (Form-F.Local n) [] false is (out-Local n) (record { it = it; type = of; none = refl; whole = refl })
  opened e xs part (of_member y from k ys is path) = at-form y (V.Member from k) (Form-F.Member from k) ys false is (out-Member from k) (record { whole = refl; path = path })
  opened e xs part (of_index y from i ys b is has path) =
      at-form y (V.Index from i) (Form-F.Index from i) (record { index = i; in_part = b } ∷ ys) false is (out-Index from i) (record { is_part = refl; inner = b; others = ys; all = refl; has = has; path = path })
  opened e xs part (of_part y from left right ys b is has bounds path) =
      at-form y (V.Part from left right) (Form-F.Part from left right) ys true is (out-Part from left right) (record { is_part = refl; type = record { has = has; is = bounds }; inner = b; path = path })
  opened e xs part (of_slide y from i n up ys b is has bounds path) =
      at-form y (V.Slide from i n up) (Form-F.Slide from i n up) (record { index = i; in_part = b } ∷ ys) true is (out-Slide from i n up)
      (record { step = record { is_part = refl; inner = b; others = ys; all = refl; has = has; path = path }; type = record { has = has; is = bounds } })

  by-form : (e : Expr) (f : Form) (x : Form-F Choice Form Expr) (xs : List Indexing) (part : Bool) → e.form ≡ f → out-Form f ≡ x → IsTypedPath number t e xs part → IsOf number t e.of x xs part
  by-form e f x xs part is out h = subst (λ y. IsOf number t e.of y xs part) (ap out-Form is ∙ out) (opened e xs part h)

  pub of-Signal : (e : Expr) (n : ℕ) (xs : List Indexing) (part : Bool) → e.form ≡ V.Signal n → IsTypedPath number t e xs part → IsRoot number n t e.of xs part
  of-Signal e n xs part is h = by-form e (V.Signal n) (Form-F.Signal n) xs part is (out-Signal n) h

  pub of-Local : (e : Expr) (n : ℕ) (xs : List Indexing) (part : Bool) → e.form ≡ V.Local n → IsTypedPath number t e xs part → IsRoot number (local_number n) t e.of xs part
  of-Local e n xs part is h = by-form e (V.Local n) (Form-F.Local n) xs part is (out-Local n) h

  pub of-Member : (e from : Expr) (k : ℕ) (xs : List Indexing) (part : Bool) → e.form ≡ V.Member from k → IsTypedPath number t e xs part → IsOfMember number t from xs part
  of-Member e from k xs part is h = by-form e (V.Member from k) (Form-F.Member from k) xs part is (out-Member from k) h

  pub of-Index : (e from i : Expr) (xs : List Indexing) (part : Bool) → e.form ≡ V.Index from i → IsTypedPath number t e xs part → IsOfIndex number t from i xs false part
  of-Index e from i xs part is h = by-form e (V.Index from i) (Form-F.Index from i) xs part is (out-Index from i) h

  pub of-Part : (e from : Expr) (left right : ℤ) (xs : List Indexing) (part : Bool) → e.form ≡ V.Part from left right → IsTypedPath number t e xs part → IsOfPart number t e.of from left right xs part
  of-Part e from left right xs part is h = by-form e (V.Part from left right) (Form-F.Part from left right) xs part is (out-Part from left right) h

  pub of-Slide : (e from i : Expr) (n : ℕ) (up : Bool) (xs : List Indexing) (part : Bool) → e.form ≡ V.Slide from i n up → IsTypedPath number t e xs part → IsOfSlide number t e.of from i n xs part
  of-Slide e from i n up xs part is h = by-form e (V.Slide from i n up) (Form-F.Slide from i n up) xs part is (out-Slide from i n up) h

  -- what is no path
  plain-not : (e : Expr) (f : Form) → is_path (out-Form e.form) ≡ false → e.form ≡ f → is_path (out-Form f) ≡ true → ⊥
  plain-not e f plain is path = true≢false (sym path ∙ sym (ap (λ g. is_path (out-Form g)) is) ∙ plain)

  pub no-path : (e : Expr) (xs : List Indexing) (part : Bool) → is_path (out-Form e.form) ≡ false → IsTypedPath number t e xs part → ⊥
  no-path e xs part plain (of_signal y n is it of) = plain-not y (V.Signal n) plain is (ap is_path (out-Signal n))
  no-path e xs part plain (of_local y n is it of) = plain-not y (V.Local n) plain is (ap is_path (out-Local n))
  no-path e xs part plain (of_member y from k ys is path) = plain-not y (V.Member from k) plain is (ap is_path (out-Member from k))
  no-path e xs part plain (of_index y from i ys b is has path) = plain-not y (V.Index from i) plain is (ap is_path (out-Index from i))
  no-path e xs part plain (of_part y from left right ys b is has bounds path) = plain-not y (V.Part from left right) plain is (ap is_path (out-Part from left right))
  no-path e xs part plain (of_slide y from i n up ys b is has bounds path) = plain-not y (V.Slide from i n up) plain is (ap is_path (out-Slide from i n up))

  -- what it stands on
  signal-root : (of : Layout) (at n : ℕ) → (P.signal of at n).root ≡ Some n
  unfolding P.signal
  signal-root of at n = refl

  local-root : (of : Layout) (at n : ℕ) → (P.local of at n).root ≡ Some (local_number n)
  unfolding P.local
  local-root of at n = refl

  member-root : (of : Layout) (at : ℕ) (from : S.Meaning) (k : ℕ) → (P.member of at from k).root ≡ from.root
  unfolding P.member
  member-root of at from k = refl

  index-root : (of : Layout) (at : ℕ) (from i : S.Meaning) → (P.index of at from i).root ≡ from.root
  unfolding P.index
  index-root of at from i = refl

  part-root : (of : Layout) (at : ℕ) (from : S.Meaning) (left right : ℤ) → (P.part_select of at from left right).root ≡ from.root
  unfolding P.part_select
  part-root of at from left right = refl

  slide-root : (of : Layout) (at : ℕ) (from i : S.Meaning) (n : ℕ) (up : Bool) → (P.sliding of at from i n up).root ≡ from.root
  unfolding P.sliding
  slide-root of at from i n up = refl

  as-meant : (e : Expr) (m : S.Meaning) → meaning e ≡ m → m.root ≡ Some number → (meaning e).root ≡ Some number
  as-meant e m same is = ap (λ (x : S.Meaning). x.root) same ∙ is

  pub stands-on : (e : Expr) (xs : List Indexing) (part : Bool) → IsTypedPath number t e xs part → (meaning e).root ≡ Some number
  stands-on e xs part (of_signal y n is it of) = as-meant y _ (same-Signal y n is) (signal-root _ _ n ∙ ap Some it)
  stands-on e xs part (of_local y n is it of) = as-meant y _ (same-Local y n is) (local-root _ _ n ∙ ap Some it)
  stands-on e xs part (of_member y from k ys is path) = as-meant y _ (same-Member y from k is) (member-root _ _ (meaning from) k ∙ stands-on from ys false path)
  stands-on e xs part (of_index y from i ys b is has path) = as-meant y _ (same-Index y from i is) (index-root _ _ (meaning from) (meaning i) ∙ stands-on from ys b path)
  stands-on e xs part (of_part y from left right ys b is has bounds path) = as-meant y _ (same-Part y from left right is) (part-root _ _ (meaning from) left right ∙ stands-on from ys b path)
  stands-on e xs part (of_slide y from i n up ys b is has bounds path) =
      as-meant y _ (same-Slide y from i n up is) (slide-root _ _ (meaning from) (meaning i) n up ∙ stands-on from ys b path)
