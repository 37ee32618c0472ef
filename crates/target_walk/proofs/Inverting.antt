-- What is known of a path with its indices, by its last step.
use Rattle.std.proofs.Common.{arith, ◌≡◌, ℕ, Bool, true, false, ◌&&◌, ℤ, pos, List, [], ◌∷◌, refl, rules, ap, sym, ◌∙◌, subst}
use Rattle.std.specs.Prelude.{int_le, int_lt}
use Rattle.row_machine.specs.Valuation.{Valuation}
use Rattle.sv_types.specs.declared.expression.Choice.{Choice}
use Rattle.sv_types.specs.declared.expression.Expr.{Expr}
use Rattle.sv_types.specs.declared.expression.Form.{Form, Form-F, out-Form, the_lemmas}
use Rattle.sv_types.specs.declared.expression.Form.TheVariants as V
use Rattle.sv_types.specs.Layouts.{Layout, layout, width_of}
use Rattle.sv_types.specs.Windows.{falls}
use Rattle.sv_types.specs.Surroundings.{Around}
use Rattle.sv_types.specs.Paths as P
use Rattle.sv_types.specs.Expressions.{meaning}
use Rattle.v_meaning.specs.Scopes.{Scope}
use Rattle.target_laws.specs.Elements.{IsPartOf, IsSlideOf, far_from}
use Rattle.target_walk.specs.declared.given.Given.{Given}
use Rattle.target_walk.specs.Giving.{IsGiven, moved_given}
use Rattle.target_walk.specs.Walking.{Walked, of_signal, of_local, of_member, of_index, of_part, of_slide}

-- forms by their constructors
abbrev Opened : Type 0
Opened = Form-F Choice Form Expr

pub out-Signal : (n : ℕ) → out-Form (V.Signal n) ≡ Form-F.Signal n
out-Signal n = search (rules, the_lemmas)

pub out-Local : (n : ℕ) → out-Form (V.Local n) ≡ Form-F.Local n
out-Local n = search (rules, the_lemmas)

pub out-Member : (x : Expr) (k : ℕ) → out-Form (V.Member x k) ≡ Form-F.Member x k
out-Member x k = search (rules, the_lemmas)

pub out-Index : (x i : Expr) → out-Form (V.Index x i) ≡ Form-F.Index x i
out-Index x i = search (rules, the_lemmas)

pub out-Part : (x : Expr) (left right : ℤ) → out-Form (V.Part x left right) ≡ Form-F.Part x left right
out-Part x left right = search (rules, the_lemmas)

pub out-Slide : (x i : Expr) (n : ℕ) (up : Bool) → out-Form (V.Slide x i n up) ≡ Form-F.Slide x i n up
out-Slide x i n up = search (rules, the_lemmas)

one-form : (e : Expr) (f g : Form) (x y : Opened) → e.form ≡ f → e.form ≡ g → out-Form f ≡ x → out-Form g ≡ y → x ≡ y
one-form e f g x y is also out out_also = sym out ∙ ap out-Form (sym is ∙ also) ∙ out_also

-- which constructor it is
abbrev tag : Opened → ℕ
tag (Form-F.Literal v goes_on) = 0
tag (Form-F.Fill b) = 0
tag (Form-F.Constant v) = 0
tag (Form-F.Signal n) = 1
tag (Form-F.Local n) = 2
tag (Form-F.Member x k) = 3
tag (Form-F.Index x y) = 4
tag (Form-F.Part x left right) = 5
tag (Form-F.Slide x y n up) = 6
tag (Form-F.Unary op x) = 0
tag (Form-F.Reduce op x) = 0
tag (Form-F.Negate x) = 0
tag (Form-F.Binary op x y) = 0
tag (Form-F.Shift op x y) = 0
tag (Form-F.Power x y) = 0
tag (Form-F.Order op x y) = 0
tag (Form-F.Equal op negated x y) = 0
tag (Form-F.Both x y) = 0
tag (Form-F.Either x y) = 0
tag (Form-F.Choose z x y) = 0
tag (Form-F.Concat es) = 0
tag (Form-F.Repeat n es) = 0
tag (Form-F.Inside x cs) = 0
tag (Form-F.Cast x) = 0
tag (Form-F.Clog2 x) = 0
tag (Form-F.Pattern es) = 0
tag (Form-F.Call f es) = 0
tag (Form-F.Stream reversed n es) = 0

tagged : (x y : Opened) (m n : ℕ) → x ≡ y → tag x ≡ m → tag y ≡ n → m ≡ n
tagged x y m n same x_is y_is = sym x_is ∙ ap tag same ∙ y_is

abbrev member-form : Expr → ℕ → Opened
member-form x k = Form-F.Member x k

abbrev index-form : Expr → Expr → Opened
index-form x i = Form-F.Index x i

abbrev part-form : Expr → ℤ → ℤ → Opened
part-form x l r = Form-F.Part x l r

abbrev slide-form : Expr → Expr → ℕ → Bool → Opened
slide-form x i n b = Form-F.Slide x i n b

same-Member : (x y : Expr) (k l : ℕ) → member-form x k ≡ member-form y l → x ≡ y
same-Member x y k l h = cc

pub record SameIndex (x y i j : Expr) : Type 0 where
  pub from : x ≡ y
  pub index : i ≡ j

same-Index : (x y i j : Expr) → index-form x i ≡ index-form y j → SameIndex x y i j
same-Index x y i j h = record { from = cc; index = cc }

record SamePart (x y : Expr) (l m r s : ℤ) : Type 0 where
  pub from : x ≡ y
  pub left : l ≡ m
  pub right : r ≡ s

same-Part : (x y : Expr) (l r m s : ℤ) → part-form x l r ≡ part-form y m s → SamePart x y l m r s
same-Part x y l r m s h = record { from = cc; left = cc; right = cc }

record SameSlide (x y i j : Expr) (n m : ℕ) (b c : Bool) : Type 0 where
  pub from : x ≡ y
  pub index : i ≡ j
  pub count : n ≡ m
  pub up : b ≡ c

same-Slide : (x y i j : Expr) (n m : ℕ) (b c : Bool) → slide-form x i n b ≡ slide-form y j m c → SameSlide x y i j n m b c
same-Slide x y i j n m b c h = record { from = cc; index = cc; count = cc; up = cc }

module _ (F : Bool → Given → Layout → Type 0) (bits : ℕ) (a : Around) (sc : Scope) (v : Valuation) where
  pub record RootOf (e : Expr) (gs : List Given) (part : Bool) : Type 0 where
    pub none : gs ≡ []
    pub whole : part ≡ false
    pub width : width_of e.of ≡ bits

  pub record MemberOf (from : Expr) (gs : List Given) (part : Bool) : Type 0 where
    pub whole : part ≡ false
    pub rest : Walked F bits a sc v from gs false

  pub record IndexOf (from i : Expr) (gs : List Given) (part : Bool) : Type 0 where
    pub whole : part ≡ false
    pub given : Given
    pub others : List Given
    pub all : gs ≡ given ∷ others
    pub inner : Bool
    pub number : IsGiven given (P.index_of (meaning i) a) sc v
    pub fits : F inner given (layout from.of)
    pub rest : Walked F bits a sc v from others inner

  pub record PartOf (e from : Expr) (left right : ℤ) (gs : List Given) (part : Bool) : Type 0 where
    pub is_part : part ≡ true
    pub typed : IsPartOf (layout e.of) (layout from.of) left right
    pub inner : Bool
    pub rest : Walked F bits a sc v from gs inner

  pub record SlideOf (e from i : Expr) (n : ℕ) (up : Bool) (gs : List Given) (part : Bool) : Type 0 where
    pub is_part : part ≡ true
    pub typed : IsSlideOf (layout e.of) (layout from.of) n
    pub given : Given
    pub others : List Given
    pub all : gs ≡ given ∷ others
    pub inner : Bool
    pub number : IsGiven given (P.index_of (meaning i) a) sc v
    pub fits : (j : ℤ) → (int_le (pos 0) j && int_lt j (pos n)) ≡ true → F inner (moved_given given (far_from (falls (layout from.of)) up n j)) (layout from.of)
    pub rest : Walked F bits a sc v from others inner

  index-by : (from y i j : Expr) (g : Given) (hs : List Given) (b : Bool) → SameIndex from y i j → IsGiven g (P.index_of (meaning j) a) sc v → F b g (layout y.of)
      → Walked F bits a sc v y hs b → IndexOf from i (g ∷ hs) false
  index-by from y i j g hs b same number fits rest = record {
    whole = refl;
    given = g;
    others = hs;
    all = refl;
    inner = b;
    number = subst (λ (z : Expr). IsGiven g (P.index_of (meaning z) a) sc v) (sym same.index) number;
    fits = subst (λ (z : Expr). F b g (layout z.of)) (sym same.from) fits;
    rest = subst (λ (z : Expr). Walked F bits a sc v z hs b) (sym same.from) rest;
  }

  part-by : (e from y : Expr) (left right l r : ℤ) (hs : List Given) (b : Bool) → SamePart from y left l right r → IsPartOf (layout e.of) (layout y.of) l r
      → Walked F bits a sc v y hs b → PartOf e from left right hs true
  part-by e from y left right l r hs b same typed rest = record {
    is_part = refl;
    typed = subst (λ (z : Expr). IsPartOf (layout e.of) (layout z.of) left right) (sym same.from) (subst (λ (z : ℤ). IsPartOf (layout e.of) (layout y.of) z right) (sym same.left)
        (subst (λ (z : ℤ). IsPartOf (layout e.of) (layout y.of) l z) (sym same.right) typed));
    inner = b;
    rest = subst (λ (z : Expr). Walked F bits a sc v z hs b) (sym same.from) rest;
  }

  abbrev Rooms : Expr → Given → Bool → ℕ → Bool → Type 0
  Rooms y g b n up = (k : ℤ) → (int_le (pos 0) k && int_lt k (pos n)) ≡ true → F b (moved_given g (far_from (falls (layout y.of)) up n k)) (layout y.of)

  slide-by : (e from y i j : Expr) (n m : ℕ) (up down : Bool) (g : Given) (hs : List Given) (b : Bool) → SameSlide from y i j n m up down → IsGiven g (P.index_of (meaning j) a) sc v
      → IsSlideOf (layout e.of) (layout y.of) m → Rooms y g b m down → Walked F bits a sc v y hs b → SlideOf e from i n up (g ∷ hs) true
  slide-by e from y i j n m up down g hs b same number typed fits rest = record {
    is_part = refl;
    typed = subst (λ (z : Expr). IsSlideOf (layout e.of) (layout z.of) n) (sym same.from) (subst (λ k. IsSlideOf (layout e.of) (layout y.of) k) (sym same.count) typed);
    given = g;
    others = hs;
    all = refl;
    inner = b;
    number = subst (λ (z : Expr). IsGiven g (P.index_of (meaning z) a) sc v) (sym same.index) number;
    fits = subst (λ (z : Expr). Rooms z g b n up) (sym same.from) (subst (λ k. Rooms y g b k up) (sym same.count) (subst (Rooms y g b m) (sym same.up) fits));
    rest = subst (λ (z : Expr). Walked F bits a sc v z hs b) (sym same.from) rest;
  }

  pub of-Signal : (e : Expr) (n : ℕ) (gs : List Given) (part : Bool) → e.form ≡ V.Signal n → Walked F bits a sc v e gs part → RootOf e gs part
  of-Signal e n gs part is (of_signal x m also wide) = record { none = refl; whole = refl; width = wide }
  of-Signal e n gs part is (of_local x m also wide) = (let f = tagged (Form-F.Signal n) (Form-F.Local m) 1 2 (one-form x (V.Signal n) (V.Local m) (Form-F.Signal n) (Form-F.Local m) is also (out-Signal n) (out-Local m)) refl refl in absurd (omega arith))
  of-Signal e n gs part is (of_member x y k2 hs also rest) = (let f = tagged (Form-F.Signal n) (Form-F.Member y k2) 1 3 (one-form x (V.Signal n) (V.Member y k2) (Form-F.Signal n) (Form-F.Member y k2) is also (out-Signal n) (out-Member y k2)) refl refl in absurd (omega arith))
  of-Signal e n gs part is (of_index x y j g hs b also number fits rest) = (let f = tagged (Form-F.Signal n) (Form-F.Index y j) 1 4 (one-form x (V.Signal n) (V.Index y j) (Form-F.Signal n) (Form-F.Index y j) is also (out-Signal n) (out-Index y j)) refl refl in absurd (omega arith))
  of-Signal e n gs part is (of_part x y l r hs b also typed rest) = (let f = tagged (Form-F.Signal n) (Form-F.Part y l r) 1 5 (one-form x (V.Signal n) (V.Part y l r) (Form-F.Signal n) (Form-F.Part y l r) is also (out-Signal n) (out-Part y l r)) refl refl in absurd (omega arith))
  of-Signal e n gs part is (of_slide x y j m2 up2 g hs b also number typed fits rest) = (let f = tagged (Form-F.Signal n) (Form-F.Slide y j m2 up2) 1 6 (one-form x (V.Signal n) (V.Slide y j m2 up2) (Form-F.Signal n) (Form-F.Slide y j m2 up2) is also (out-Signal n) (out-Slide y j m2 up2)) refl refl in absurd (omega arith))

  pub of-Local : (e : Expr) (n : ℕ) (gs : List Given) (part : Bool) → e.form ≡ V.Local n → Walked F bits a sc v e gs part → RootOf e gs part
  of-Local e n gs part is (of_signal x m also wide) = (let f = tagged (Form-F.Local n) (Form-F.Signal m) 2 1 (one-form x (V.Local n) (V.Signal m) (Form-F.Local n) (Form-F.Signal m) is also (out-Local n) (out-Signal m)) refl refl in absurd (omega arith))
  of-Local e n gs part is (of_local x m also wide) = record { none = refl; whole = refl; width = wide }
  of-Local e n gs part is (of_member x y k2 hs also rest) = (let f = tagged (Form-F.Local n) (Form-F.Member y k2) 2 3 (one-form x (V.Local n) (V.Member y k2) (Form-F.Local n) (Form-F.Member y k2) is also (out-Local n) (out-Member y k2)) refl refl in absurd (omega arith))
  of-Local e n gs part is (of_index x y j g hs b also number fits rest) = (let f = tagged (Form-F.Local n) (Form-F.Index y j) 2 4 (one-form x (V.Local n) (V.Index y j) (Form-F.Local n) (Form-F.Index y j) is also (out-Local n) (out-Index y j)) refl refl in absurd (omega arith))
  of-Local e n gs part is (of_part x y l r hs b also typed rest) = (let f = tagged (Form-F.Local n) (Form-F.Part y l r) 2 5 (one-form x (V.Local n) (V.Part y l r) (Form-F.Local n) (Form-F.Part y l r) is also (out-Local n) (out-Part y l r)) refl refl in absurd (omega arith))
  of-Local e n gs part is (of_slide x y j m2 up2 g hs b also number typed fits rest) = (let f = tagged (Form-F.Local n) (Form-F.Slide y j m2 up2) 2 6 (one-form x (V.Local n) (V.Slide y j m2 up2) (Form-F.Local n) (Form-F.Slide y j m2 up2) is also (out-Local n) (out-Slide y j m2 up2)) refl refl in absurd (omega arith))

  pub of-Member : (e : Expr) (from : Expr) (k : ℕ) (gs : List Given) (part : Bool) → e.form ≡ V.Member from k → Walked F bits a sc v e gs part → MemberOf from gs part
  of-Member e from k gs part is (of_signal x m also wide) = (let f = tagged (Form-F.Member from k) (Form-F.Signal m) 3 1 (one-form x (V.Member from k) (V.Signal m) (Form-F.Member from k) (Form-F.Signal m) is also (out-Member from k) (out-Signal m)) refl refl in absurd (omega arith))
  of-Member e from k gs part is (of_local x m also wide) = (let f = tagged (Form-F.Member from k) (Form-F.Local m) 3 2 (one-form x (V.Member from k) (V.Local m) (Form-F.Member from k) (Form-F.Local m) is also (out-Member from k) (out-Local m)) refl refl in absurd (omega arith))
  of-Member e from k gs part is (of_member x y k2 hs also rest) = record { whole = refl; rest = subst (λ (z : Expr). Walked F bits a sc v z hs false) (sym (same-Member from y k k2 (one-form x (V.Member from k) (V.Member y k2) (Form-F.Member from k) (Form-F.Member y k2) is also (out-Member from k) (out-Member y k2)))) rest }
  of-Member e from k gs part is (of_index x y j g hs b also number fits rest) = (let f = tagged (Form-F.Member from k) (Form-F.Index y j) 3 4 (one-form x (V.Member from k) (V.Index y j) (Form-F.Member from k) (Form-F.Index y j) is also (out-Member from k) (out-Index y j)) refl refl in absurd (omega arith))
  of-Member e from k gs part is (of_part x y l r hs b also typed rest) = (let f = tagged (Form-F.Member from k) (Form-F.Part y l r) 3 5 (one-form x (V.Member from k) (V.Part y l r) (Form-F.Member from k) (Form-F.Part y l r) is also (out-Member from k) (out-Part y l r)) refl refl in absurd (omega arith))
  of-Member e from k gs part is (of_slide x y j m2 up2 g hs b also number typed fits rest) = (let f = tagged (Form-F.Member from k) (Form-F.Slide y j m2 up2) 3 6 (one-form x (V.Member from k) (V.Slide y j m2 up2) (Form-F.Member from k) (Form-F.Slide y j m2 up2) is also (out-Member from k) (out-Slide y j m2 up2)) refl refl in absurd (omega arith))

  pub of-Index : (e : Expr) (from i : Expr) (gs : List Given) (part : Bool) → e.form ≡ V.Index from i → Walked F bits a sc v e gs part → IndexOf from i gs part
  of-Index e from i gs part is (of_signal x m also wide) = (let f = tagged (Form-F.Index from i) (Form-F.Signal m) 4 1 (one-form x (V.Index from i) (V.Signal m) (Form-F.Index from i) (Form-F.Signal m) is also (out-Index from i) (out-Signal m)) refl refl in absurd (omega arith))
  of-Index e from i gs part is (of_local x m also wide) = (let f = tagged (Form-F.Index from i) (Form-F.Local m) 4 2 (one-form x (V.Index from i) (V.Local m) (Form-F.Index from i) (Form-F.Local m) is also (out-Index from i) (out-Local m)) refl refl in absurd (omega arith))
  of-Index e from i gs part is (of_member x y k2 hs also rest) = (let f = tagged (Form-F.Index from i) (Form-F.Member y k2) 4 3 (one-form x (V.Index from i) (V.Member y k2) (Form-F.Index from i) (Form-F.Member y k2) is also (out-Index from i) (out-Member y k2)) refl refl in absurd (omega arith))
  of-Index e from i gs part is (of_index x y j g hs b also number fits rest) = index-by from y i j g hs b (same-Index from y i j (one-form x (V.Index from i) (V.Index y j) (Form-F.Index from i) (Form-F.Index y j) is also (out-Index from i) (out-Index y j))) number fits rest
  of-Index e from i gs part is (of_part x y l r hs b also typed rest) = (let f = tagged (Form-F.Index from i) (Form-F.Part y l r) 4 5 (one-form x (V.Index from i) (V.Part y l r) (Form-F.Index from i) (Form-F.Part y l r) is also (out-Index from i) (out-Part y l r)) refl refl in absurd (omega arith))
  of-Index e from i gs part is (of_slide x y j m2 up2 g hs b also number typed fits rest) = (let f = tagged (Form-F.Index from i) (Form-F.Slide y j m2 up2) 4 6 (one-form x (V.Index from i) (V.Slide y j m2 up2) (Form-F.Index from i) (Form-F.Slide y j m2 up2) is also (out-Index from i) (out-Slide y j m2 up2)) refl refl in absurd (omega arith))

  pub of-Part : (e : Expr) (from : Expr) (left right : ℤ) (gs : List Given) (part : Bool) → e.form ≡ V.Part from left right → Walked F bits a sc v e gs part → PartOf e from left right gs part
  of-Part e from left right gs part is (of_signal x m also wide) = (let f = tagged (Form-F.Part from left right) (Form-F.Signal m) 5 1 (one-form x (V.Part from left right) (V.Signal m) (Form-F.Part from left right) (Form-F.Signal m) is also (out-Part from left right) (out-Signal m)) refl refl in absurd (omega arith))
  of-Part e from left right gs part is (of_local x m also wide) = (let f = tagged (Form-F.Part from left right) (Form-F.Local m) 5 2 (one-form x (V.Part from left right) (V.Local m) (Form-F.Part from left right) (Form-F.Local m) is also (out-Part from left right) (out-Local m)) refl refl in absurd (omega arith))
  of-Part e from left right gs part is (of_member x y k2 hs also rest) = (let f = tagged (Form-F.Part from left right) (Form-F.Member y k2) 5 3 (one-form x (V.Part from left right) (V.Member y k2) (Form-F.Part from left right) (Form-F.Member y k2) is also (out-Part from left right) (out-Member y k2)) refl refl in absurd (omega arith))
  of-Part e from left right gs part is (of_index x y j g hs b also number fits rest) = (let f = tagged (Form-F.Part from left right) (Form-F.Index y j) 5 4 (one-form x (V.Part from left right) (V.Index y j) (Form-F.Part from left right) (Form-F.Index y j) is also (out-Part from left right) (out-Index y j)) refl refl in absurd (omega arith))
  of-Part e from left right gs part is (of_part x y l r hs b also typed rest) = part-by x from y left right l r hs b (same-Part from y left right l r (one-form x (V.Part from left right) (V.Part y l r) (Form-F.Part from left right) (Form-F.Part y l r) is also (out-Part from left right) (out-Part y l r))) typed rest
  of-Part e from left right gs part is (of_slide x y j m2 up2 g hs b also number typed fits rest) = (let f = tagged (Form-F.Part from left right) (Form-F.Slide y j m2 up2) 5 6 (one-form x (V.Part from left right) (V.Slide y j m2 up2) (Form-F.Part from left right) (Form-F.Slide y j m2 up2) is also (out-Part from left right) (out-Slide y j m2 up2)) refl refl in absurd (omega arith))

  pub of-Slide : (e : Expr) (from i : Expr) (n : ℕ) (up : Bool) (gs : List Given) (part : Bool) → e.form ≡ V.Slide from i n up → Walked F bits a sc v e gs part → SlideOf e from i n up gs part
  of-Slide e from i n up gs part is (of_signal x m also wide) = (let f = tagged (Form-F.Slide from i n up) (Form-F.Signal m) 6 1 (one-form x (V.Slide from i n up) (V.Signal m) (Form-F.Slide from i n up) (Form-F.Signal m) is also (out-Slide from i n up) (out-Signal m)) refl refl in absurd (omega arith))
  of-Slide e from i n up gs part is (of_local x m also wide) = (let f = tagged (Form-F.Slide from i n up) (Form-F.Local m) 6 2 (one-form x (V.Slide from i n up) (V.Local m) (Form-F.Slide from i n up) (Form-F.Local m) is also (out-Slide from i n up) (out-Local m)) refl refl in absurd (omega arith))
  of-Slide e from i n up gs part is (of_member x y k2 hs also rest) = (let f = tagged (Form-F.Slide from i n up) (Form-F.Member y k2) 6 3 (one-form x (V.Slide from i n up) (V.Member y k2) (Form-F.Slide from i n up) (Form-F.Member y k2) is also (out-Slide from i n up) (out-Member y k2)) refl refl in absurd (omega arith))
  of-Slide e from i n up gs part is (of_index x y j g hs b also number fits rest) = (let f = tagged (Form-F.Slide from i n up) (Form-F.Index y j) 6 4 (one-form x (V.Slide from i n up) (V.Index y j) (Form-F.Slide from i n up) (Form-F.Index y j) is also (out-Slide from i n up) (out-Index y j)) refl refl in absurd (omega arith))
  of-Slide e from i n up gs part is (of_part x y l r hs b also typed rest) = (let f = tagged (Form-F.Slide from i n up) (Form-F.Part y l r) 6 5 (one-form x (V.Slide from i n up) (V.Part y l r) (Form-F.Slide from i n up) (Form-F.Part y l r) is also (out-Slide from i n up) (out-Part y l r)) refl refl in absurd (omega arith))
  of-Slide e from i n up gs part is (of_slide x y j m2 up2 g hs b also number typed fits rest) = slide-by x from y i j n m2 up up2 g hs b (same-Slide from y i j n m2 up up2 (one-form x (V.Slide from i n up) (V.Slide y j m2 up2) (Form-F.Slide from i n up) (Form-F.Slide y j m2 up2) is also (out-Slide from i n up) (out-Slide y j m2 up2))) number typed fits rest
