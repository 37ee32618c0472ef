-- The tokens that are said of an expression are tokens of it.
use Rattle.std.proofs.Common.{◌≡◌, ◌⊎◌, inl, inr, ℕ, Bool, true, false, ◌&&◌, cond, ℤ, List, [], ◌∷◌, ◌++◌, map, zip, Option, Some, None, refl, ap, sym, ◌∙◌, subst, arith}
use Rattle.std.specs.Prelude.{min, nat_lt}
use Rattle.std.proofs.lemmas.Bool.{ltb-true, ltb-false}
use Rattle.b4_core.specs.declared.bit.Bit4.{Bit4}
use Rattle.b4_core.specs.declared.operators.UnOp.{UnOp}
use Rattle.b4_core.specs.declared.operators.BinOp.{BinOp}
use Rattle.b4_core.specs.declared.operators.RedOp.{RedOp}
use Rattle.b4_core.specs.declared.operators.ShiftOp.{ShiftOp}
use Rattle.b4_core.specs.declared.operators.OrdOp.{OrdOp}
use Rattle.b4_core.specs.declared.operators.EqOp.{EqOp}
use Rattle.sv_source.specs.declared.token.Spot.{Spot}
use Rattle.sv_types.specs.declared.types.Value.{Value}
use Rattle.sv_types.specs.declared.expression.Expr.{Expr}
use Rattle.sv_types.specs.declared.expression.Choice.{Choice, fold-Choice}
use Rattle.sv_types.specs.declared.expression.Choice.TheVariants as C
use Rattle.sv_types.specs.declared.expression.Form.{Form, Form-F, fold-Form}
use Rattle.sv_types.specs.declared.expression.Form.TheVariants as V
use Rattle.sv_types.specs.Layouts.{Layout, Part, layout}
use Rattle.sv_types.specs.Surroundings.{Sight}
use Rattle.sv_types.specs.Meanings.{Meaning}
use Rattle.sv_types.specs.Operators as R
use Rattle.sv_types.specs.Operators.{Alternative, parts_of}
use Rattle.sv_types.specs.Paths as Q
use Rattle.sv_types.specs.Expressions as E
use Rattle.sv_types.specs.Expressions.{meaning}
use Rattle.sv_types.proofs.Levels as L
use Rattle.sv_types.proofs.Levels.{form_meaning, alternative, meaning-form}
use Rattle.sv_types.proofs.Terms.{Each, Steps, by-expr}
use Rattle.design_breaks.specs.Indices as I
use Rattle.design_breaks.specs.Indices.{Long, Said, SaidForm, SaidChoice, said, lesser, first_of, takes_too_long, all_said}
use Rattle.design_breaks.specs.Spots as P
use Rattle.design_breaks.specs.Spots.{Spots, all, expr_spots, exprs_spots}
use Rattle.spot_laws.proofs.Each.{each-left, each-right, IfSome}
use Rattle.spot_laws.proofs.Levels as N
use Rattle.spot_laws.proofs.Tells as O
use Rattle.spot_laws.proofs.Tells.{Tells, TellsIt}

pub min-is-one : (a b : ℕ) → (min a b ≡ a) ⊎ (min a b ≡ b)
min-is-one a b = by (nat_lt a b) refl
  where
    by : (c : Bool) → nat_lt a b ≡ c → (min a b ≡ a) ⊎ (min a b ≡ b)
    by true is = let lt = ltb-true a b is in inl (omega (arith, lt))
    by false is = let le = ltb-false a b is in inr (omega (arith, le))

-- the tokens, and what is said, of a form and of an alternative of `inside`
abbrev form_spots : Form → Spots
form_spots = fold-Form Spots Spots Spots P.choice_step P.form_step P.expr_step

abbrev pub choice_spots : Choice → Spots
choice_spots = fold-Choice Spots Spots Spots P.choice_step P.form_step P.expr_step

abbrev form_said : Form → SaidForm
form_said = fold-Form SaidChoice SaidForm Said I.choice_step I.form_step I.expr_step

abbrev pub choice_said : Choice → SaidChoice
choice_said = fold-Choice SaidChoice SaidForm Said I.choice_step I.form_step I.expr_step

spots-form : (e : Expr) → expr_spots e ≡ e.spot ∷ form_spots e.form
spots-form e = N.expr-folded Spots Spots Spots P.choice_step P.form_step P.expr_step e

said-form : (e : Expr) → said e ≡ record { means = (form_said e.form).means (layout e.of) e.spot.at; long = (form_said e.form).long (layout e.of) }
said-form e = N.expr-folded SaidChoice SaidForm Said I.choice_step I.form_step I.expr_step e

-- what an expression means stands at its token
form-at : (f : Form-F Alternative (Layout → ℕ → Meaning) Meaning) (of : Layout) (at : ℕ) → (E.form_step f of at).at ≡ at
unfolding R.literal R.fill R.constant Q.signal Q.local Q.member Q.index Q.part_select Q.sliding R.unary R.reduce R.negate R.binary R.shift R.power R.order R.equal R.both R.either R.choose R.concat R.repeat R.inside R.cast R.clog2 R.pattern R.call R.stream
form-at (Form-F.Literal v goes_on) of at = refl
form-at (Form-F.Fill b) of at = refl
form-at (Form-F.Constant v) of at = refl
form-at (Form-F.Signal n) of at = refl
form-at (Form-F.Local n) of at = refl
form-at (Form-F.Member from k) of at = refl
form-at (Form-F.Index from i) of at = refl
form-at (Form-F.Part from left right) of at = refl
form-at (Form-F.Slide from i n up) of at = refl
form-at (Form-F.Unary op m) of at = refl
form-at (Form-F.Reduce op m) of at = refl
form-at (Form-F.Negate m) of at = refl
form-at (Form-F.Binary op l r) of at = refl
form-at (Form-F.Shift op l r) of at = refl
form-at (Form-F.Power l r) of at = refl
form-at (Form-F.Order op l r) of at = refl
form-at (Form-F.Equal op negated l r) of at = refl
form-at (Form-F.Both l r) of at = refl
form-at (Form-F.Either l r) of at = refl
form-at (Form-F.Choose on l r) of at = refl
form-at (Form-F.Concat ms) of at = refl
form-at (Form-F.Repeat n ms) of at = refl
form-at (Form-F.Inside m cs) of at = refl
form-at (Form-F.Cast m) of at = refl
form-at (Form-F.Clog2 m) of at = refl
form-at (Form-F.Pattern ms) of at = refl
form-at (Form-F.Call f ms) of at = refl
form-at (Form-F.Stream reversed n ms) of at = refl

module _ (S : ℕ → Type 0) where
  abbrev pub AtSpot : Spot → Type 0
  AtSpot s = S s.at

  -- tokens that may be missing
  pub lesser-stands : (a b : Option ℕ) → IfSome S a → IfSome S b → IfSome S (lesser a b)
  lesser-stands None b h g = g
  lesser-stands (Some x) None h g = h
  lesser-stands (Some x) (Some y) h g = by (min-is-one x y)
    where
      by : (min x y ≡ x) ⊎ (min x y ≡ y) → S (min x y)
      by (inl is) = subst S (sym is) h
      by (inr is) = subst S (sym is) g

  pub first-stands : (a b : Option ℕ) → IfSome S a → IfSome S b → IfSome S (first_of a b)
  first-stands None b h g = g
  first-stands (Some x) b h g = h

  pub if-stands : (b : Bool) (n : ℕ) → S n → IfSome S (cond b (Some n) None)
  if-stands true n h = h
  if-stands false n h = tt

  -- what is said of an expression
  pub record Told (e : Expr) : Type 0 where
    pub token : S e.spot.at
    pub means : Tells S (meaning e)
    pub said_at : S (said e).means.at
    pub long : (k : Sight) → IfSome S ((said e).long k)

  pub record ToldChoice (c : Choice) : Type 0 where
    pub means : TellsIt S (alternative c)
    pub long : (k : Sight) → IfSome S ((choice_said c).long k)

  abbrev pub Claim : Expr → Type 0
  Claim e = Each AtSpot (expr_spots e) → Told e

  abbrev FormClaim : Form → Type 0
  FormClaim f = (e : Expr) → e.form ≡ f → Claim e

  abbrev ChoiceClaim : Choice → Type 0
  ChoiceClaim c = Each AtSpot (choice_spots c) → ToldChoice c

  -- by its form
  spots-by : (e : Expr) (f : Form) (ss : Spots) → e.form ≡ f → form_spots f ≡ ss → Each AtSpot (expr_spots e) → Each AtSpot (e.spot ∷ ss)
  spots-by e f ss is level h = subst (λ (xs : Spots). Each AtSpot xs) (spots-form e ∙ ap (λ g. e.spot ∷ form_spots g) is ∙ ap (λ (xs : Spots). e.spot ∷ xs) level) h

  told-by : (e : Expr) (f : Form) (m : Layout → ℕ → Meaning) (g : Form-F SaidChoice SaidForm Said) → e.form ≡ f → form_meaning f ≡ m → form_said f ≡ I.form_step g → S e.spot.at → Tells S (m (layout e.of) e.spot.at)
      → ((k : Sight) → IfSome S (I.form_long g (layout e.of) k)) → Told e
  told-by e f m g is level level-said at t long =
      let says = said-form e ∙ ap (λ h. record { means = (form_said h).means (layout e.of) e.spot.at; long = (form_said h).long (layout e.of) }) is
      ∙ ap (λ (h : SaidForm). record { means = h.means (layout e.of) e.spot.at; long = h.long (layout e.of) }) level-said in
      record {
        token = at;
        means = subst (λ (x : Meaning). Tells S x) (sym (meaning-form e ∙ ap (λ h. form_meaning h (layout e.of) e.spot.at) is ∙ ap (λ (x : Layout → ℕ → Meaning). x (layout e.of) e.spot.at) level)) t;
        said_at = subst (λ (x : Said). S x.means.at) (sym says) (subst S (sym (form-at (I.form_means g) (layout e.of) e.spot.at)) at);
        long = λ k. subst (λ (x : Said). IfSome S (x.long k)) (sym says) (long k);
      }

  -- lists of expressions and of alternatives
  told-all : (es : List Expr) → Each Claim es → Each AtSpot (all (map expr_spots es)) → Each Told es
  told-all [] h g = tt
  told-all (e ∷ es) h g = (h.0 (each-left AtSpot (expr_spots e) (all (map expr_spots es)) g), told-all es h.1 (each-right AtSpot (expr_spots e) (all (map expr_spots es)) g))

  pub tells-all : (es : List Expr) → Each Told es → Each (Tells S) (map meaning es)
  tells-all [] h = tt
  tells-all (e ∷ es) h = (h.0.means, tells-all es h.1)

  pub long-all : (es : List Expr) → Each Told es → (k : Sight) → IfSome S (all_said (map said es) k)
  long-all [] h k = tt
  long-all (e ∷ es) h k = lesser-stands ((said e).long k) (all_said (map said es) k) (h.0.long k) (long-all es h.1 k)

  long-items : (ps : List Part) (es : List Expr) → Each Told es → (k : Sight) → IfSome S (all_said (map (λ p. p.1) (zip ps (map said es))) k)
  long-items [] es h k = tt
  long-items (p ∷ ps) [] h k = tt
  long-items (p ∷ ps) (e ∷ es) h k = lesser-stands ((said e).long k) (all_said (map (λ p. p.1) (zip ps (map said es))) k) (h.0.long k) (long-items ps es h.1 k)

  told-choices : (cs : List Choice) → Each ChoiceClaim cs → Each AtSpot (all (map choice_spots cs)) → Each ToldChoice cs
  told-choices [] h g = tt
  told-choices (c ∷ cs) h g =
      (h.0 (each-left AtSpot (choice_spots c) (all (map choice_spots cs)) g), told-choices cs h.1 (each-right AtSpot (choice_spots c) (all (map choice_spots cs)) g))

  tells-choices : (cs : List Choice) → Each ToldChoice cs → Each (TellsIt S) (map alternative cs)
  tells-choices [] h = tt
  tells-choices (c ∷ cs) h = (h.0.means, tells-choices cs h.1)

  long-choices : (cs : List Choice) → Each ToldChoice cs → (k : Sight) → IfSome S (I.all (map (λ (c : SaidChoice). c.long) (map choice_said cs)) k)
  long-choices [] h k = tt
  long-choices (c ∷ cs) h k =
      lesser-stands ((choice_said c).long k) (I.all (map (λ (d : SaidChoice). d.long) (map choice_said cs)) k) (h.0.long k) (long-choices cs h.1 k)

  -- an index that takes too long stands at its first token
  long-index : (i : Expr) → Told i → (k : Sight) → IfSome S (I.index (said i) k)
  long-index i h k =
      first-stands ((said i).long k) (cond ((said i).means.constant k && takes_too_long (said i).means k) (Some (said i).means.at) None) (h.long k)
      (if-stands ((said i).means.constant k && takes_too_long (said i).means k) (said i).means.at h.said_at)

  value-told : (e : Expr) → Claim e → ChoiceClaim (C.Value e)
  value-told e h g =
      let t = h (subst (λ (ss : Spots). Each AtSpot ss) (N.only Spots Spots Spots P.choice_step P.form_step P.expr_step e) g) in
      record { means = subst (λ a. TellsIt S a) (sym (L.only e)) t.means; long = λ k. subst (λ (c : SaidChoice). IfSome S (c.long k)) (sym (N.only SaidChoice SaidForm Said I.choice_step I.form_step I.expr_step e)) (t.long k) }

  range-told : (low high : Expr) → Claim low → Claim high → ChoiceClaim (C.Range low high)
  range-told low high h g f =
      let both = subst (λ (ss : Spots). Each AtSpot ss) (N.from-to Spots Spots Spots P.choice_step P.form_step P.expr_step low high) f in
      let t = h (each-left AtSpot (expr_spots low) (expr_spots high) both) in
      let u = g (each-right AtSpot (expr_spots low) (expr_spots high) both) in
      record {
        means = subst (λ a. TellsIt S a) (sym (L.from-to low high)) (t.means, u.means);
        long = λ k. subst (λ (c : SaidChoice). IfSome S (c.long k)) (sym (N.from-to SaidChoice SaidForm Said I.choice_step I.form_step I.expr_step low high)) (lesser-stands ((said low).long k) ((said high).long k) (t.long k) (u.long k));
      }

  told-Literal : (v : List Bit4) (goes_on : Bool) → FormClaim (V.Literal v goes_on)
  told-Literal v goes_on e is at =
      let s = spots-by e (V.Literal v goes_on) [] is (N.form-Literal Spots Spots Spots P.choice_step P.form_step P.expr_step v goes_on) at in
      told-by e (V.Literal v goes_on) (E.form_step (Form-F.Literal v goes_on)) (Form-F.Literal v goes_on) is (L.form-Literal v goes_on) (N.form-Literal SaidChoice SaidForm Said I.choice_step I.form_step I.expr_step v goes_on) s.0 (O.tells-literal S (layout e.of) e.spot.at goes_on v s.0) (λ k. tt)

  told-Fill : (b : Bit4) → FormClaim (V.Fill b)
  told-Fill b e is at =
      let s = spots-by e (V.Fill b) [] is (N.form-Fill Spots Spots Spots P.choice_step P.form_step P.expr_step b) at in
      told-by e (V.Fill b) (E.form_step (Form-F.Fill b)) (Form-F.Fill b) is (L.form-Fill b) (N.form-Fill SaidChoice SaidForm Said I.choice_step I.form_step I.expr_step b) s.0 (O.tells-fill S (layout e.of) e.spot.at b s.0) (λ k. tt)

  told-Constant : (v : Value) → FormClaim (V.Constant v)
  told-Constant v e is at =
      let s = spots-by e (V.Constant v) [] is (N.form-Constant Spots Spots Spots P.choice_step P.form_step P.expr_step v) at in
      told-by e (V.Constant v) (E.form_step (Form-F.Constant v)) (Form-F.Constant v) is (L.form-Constant v) (N.form-Constant SaidChoice SaidForm Said I.choice_step I.form_step I.expr_step v) s.0 (O.tells-constant S (layout e.of) e.spot.at v s.0) (λ k. tt)

  told-Signal : (n : ℕ) → FormClaim (V.Signal n)
  told-Signal n e is at =
      let s = spots-by e (V.Signal n) [] is (N.form-Signal Spots Spots Spots P.choice_step P.form_step P.expr_step n) at in
      told-by e (V.Signal n) (E.form_step (Form-F.Signal n)) (Form-F.Signal n) is (L.form-Signal n) (N.form-Signal SaidChoice SaidForm Said I.choice_step I.form_step I.expr_step n) s.0 (O.tells-signal S (layout e.of) e.spot.at n s.0) (λ k. tt)

  told-Local : (n : ℕ) → FormClaim (V.Local n)
  told-Local n e is at =
      let s = spots-by e (V.Local n) [] is (N.form-Local Spots Spots Spots P.choice_step P.form_step P.expr_step n) at in
      told-by e (V.Local n) (E.form_step (Form-F.Local n)) (Form-F.Local n) is (L.form-Local n) (N.form-Local SaidChoice SaidForm Said I.choice_step I.form_step I.expr_step n) s.0 (O.tells-local S (layout e.of) e.spot.at n s.0) (λ k. tt)

  told-Member : (x : Expr) (k : ℕ) → Claim x → FormClaim (V.Member x k)
  told-Member x k h0 e is at =
      let s = spots-by e (V.Member x k) (expr_spots x) is (N.form-Member Spots Spots Spots P.choice_step P.form_step P.expr_step x k) at in
      let t0 = h0 s.1 in
      told-by e (V.Member x k) (E.form_step (Form-F.Member (meaning x) k)) (Form-F.Member (said x) k) is (L.form-Member x k) (N.form-Member SaidChoice SaidForm Said I.choice_step I.form_step I.expr_step x k) s.0 (O.tells-member S (layout e.of) e.spot.at (meaning x) k s.0 t0.means) (t0.long)

  told-Index : (x i : Expr) → Claim x → Claim i → FormClaim (V.Index x i)
  told-Index x i h0 h1 e is at =
      let s = spots-by e (V.Index x i) (expr_spots x ++ expr_spots i) is (N.form-Index Spots Spots Spots P.choice_step P.form_step P.expr_step x i) at in
      let t0 = h0 (each-left AtSpot (expr_spots x) (expr_spots i) s.1) in
      let t1 = h1 (each-right AtSpot (expr_spots x) (expr_spots i) s.1) in
      told-by e (V.Index x i) (E.form_step (Form-F.Index (meaning x) (meaning i))) (Form-F.Index (said x) (said i)) is (L.form-Index x i) (N.form-Index SaidChoice SaidForm Said I.choice_step I.form_step I.expr_step x i) s.0 (O.tells-index S (layout e.of) e.spot.at (meaning x) (meaning i) s.0 t0.means t1.means) (λ k. lesser-stands ((said x).long k) (I.index (said i) k) (t0.long k) (long-index i t1 k))

  told-Part : (x : Expr) (left right : ℤ) → Claim x → FormClaim (V.Part x left right)
  told-Part x left right h0 e is at =
      let s = spots-by e (V.Part x left right) (expr_spots x) is (N.form-Part Spots Spots Spots P.choice_step P.form_step P.expr_step x left right) at in
      let t0 = h0 s.1 in
      told-by e (V.Part x left right) (E.form_step (Form-F.Part (meaning x) left right)) (Form-F.Part (said x) left right) is (L.form-Part x left right) (N.form-Part SaidChoice SaidForm Said I.choice_step I.form_step I.expr_step x left right) s.0 (O.tells-part S (layout e.of) e.spot.at (meaning x) left right s.0 t0.means) (t0.long)

  told-Slide : (x i : Expr) (n : ℕ) (up : Bool) → Claim x → Claim i → FormClaim (V.Slide x i n up)
  told-Slide x i n up h0 h1 e is at =
      let s = spots-by e (V.Slide x i n up) (expr_spots x ++ expr_spots i) is (N.form-Slide Spots Spots Spots P.choice_step P.form_step P.expr_step x i n up) at in
      let t0 = h0 (each-left AtSpot (expr_spots x) (expr_spots i) s.1) in
      let t1 = h1 (each-right AtSpot (expr_spots x) (expr_spots i) s.1) in
      told-by e (V.Slide x i n up) (E.form_step (Form-F.Slide (meaning x) (meaning i) n up)) (Form-F.Slide (said x) (said i) n up) is (L.form-Slide x i n up) (N.form-Slide SaidChoice SaidForm Said I.choice_step I.form_step I.expr_step x i n up) s.0 (O.tells-sliding S (layout e.of) e.spot.at (meaning x) (meaning i) n up s.0 t0.means t1.means) (λ k. lesser-stands ((said x).long k) (I.index (said i) k) (t0.long k) (long-index i t1 k))

  told-Unary : (op : UnOp) (x : Expr) → Claim x → FormClaim (V.Unary op x)
  told-Unary op x h0 e is at =
      let s = spots-by e (V.Unary op x) (expr_spots x) is (N.form-Unary Spots Spots Spots P.choice_step P.form_step P.expr_step op x) at in
      let t0 = h0 s.1 in
      told-by e (V.Unary op x) (E.form_step (Form-F.Unary op (meaning x))) (Form-F.Unary op (said x)) is (L.form-Unary op x) (N.form-Unary SaidChoice SaidForm Said I.choice_step I.form_step I.expr_step op x) s.0 (O.tells-unary S (layout e.of) e.spot.at op (meaning x) s.0 t0.means) (t0.long)

  told-Reduce : (op : RedOp) (x : Expr) → Claim x → FormClaim (V.Reduce op x)
  told-Reduce op x h0 e is at =
      let s = spots-by e (V.Reduce op x) (expr_spots x) is (N.form-Reduce Spots Spots Spots P.choice_step P.form_step P.expr_step op x) at in
      let t0 = h0 s.1 in
      told-by e (V.Reduce op x) (E.form_step (Form-F.Reduce op (meaning x))) (Form-F.Reduce op (said x)) is (L.form-Reduce op x) (N.form-Reduce SaidChoice SaidForm Said I.choice_step I.form_step I.expr_step op x) s.0 (O.tells-reduce S (layout e.of) e.spot.at op (meaning x) s.0 t0.means) (t0.long)

  told-Negate : (x : Expr) → Claim x → FormClaim (V.Negate x)
  told-Negate x h0 e is at =
      let s = spots-by e (V.Negate x) (expr_spots x) is (N.form-Negate Spots Spots Spots P.choice_step P.form_step P.expr_step x) at in
      let t0 = h0 s.1 in
      told-by e (V.Negate x) (E.form_step (Form-F.Negate (meaning x))) (Form-F.Negate (said x)) is (L.form-Negate x) (N.form-Negate SaidChoice SaidForm Said I.choice_step I.form_step I.expr_step x) s.0 (O.tells-negate S (layout e.of) e.spot.at (meaning x) s.0 t0.means) (t0.long)

  told-Binary : (op : BinOp) (x y : Expr) → Claim x → Claim y → FormClaim (V.Binary op x y)
  told-Binary op x y h0 h1 e is at =
      let s = spots-by e (V.Binary op x y) (expr_spots x ++ expr_spots y) is (N.form-Binary Spots Spots Spots P.choice_step P.form_step P.expr_step op x y) at in
      let t0 = h0 (each-left AtSpot (expr_spots x) (expr_spots y) s.1) in
      let t1 = h1 (each-right AtSpot (expr_spots x) (expr_spots y) s.1) in
      told-by e (V.Binary op x y) (E.form_step (Form-F.Binary op (meaning x) (meaning y))) (Form-F.Binary op (said x) (said y)) is (L.form-Binary op x y) (N.form-Binary SaidChoice SaidForm Said I.choice_step I.form_step I.expr_step op x y) s.0 (O.tells-binary S (layout e.of) e.spot.at op (meaning x) (meaning y) s.0 t0.means t1.means) (λ k. lesser-stands ((said x).long k) ((said y).long k) (t0.long k) (t1.long k))

  told-Shift : (op : ShiftOp) (x y : Expr) → Claim x → Claim y → FormClaim (V.Shift op x y)
  told-Shift op x y h0 h1 e is at =
      let s = spots-by e (V.Shift op x y) (expr_spots x ++ expr_spots y) is (N.form-Shift Spots Spots Spots P.choice_step P.form_step P.expr_step op x y) at in
      let t0 = h0 (each-left AtSpot (expr_spots x) (expr_spots y) s.1) in
      let t1 = h1 (each-right AtSpot (expr_spots x) (expr_spots y) s.1) in
      told-by e (V.Shift op x y) (E.form_step (Form-F.Shift op (meaning x) (meaning y))) (Form-F.Shift op (said x) (said y)) is (L.form-Shift op x y) (N.form-Shift SaidChoice SaidForm Said I.choice_step I.form_step I.expr_step op x y) s.0 (O.tells-shift S (layout e.of) e.spot.at op (meaning x) (meaning y) s.0 t0.means t1.means) (λ k. lesser-stands ((said x).long k) ((said y).long k) (t0.long k) (t1.long k))

  told-Power : (x y : Expr) → Claim x → Claim y → FormClaim (V.Power x y)
  told-Power x y h0 h1 e is at =
      let s = spots-by e (V.Power x y) (expr_spots x ++ expr_spots y) is (N.form-Power Spots Spots Spots P.choice_step P.form_step P.expr_step x y) at in
      let t0 = h0 (each-left AtSpot (expr_spots x) (expr_spots y) s.1) in
      let t1 = h1 (each-right AtSpot (expr_spots x) (expr_spots y) s.1) in
      told-by e (V.Power x y) (E.form_step (Form-F.Power (meaning x) (meaning y))) (Form-F.Power (said x) (said y)) is (L.form-Power x y) (N.form-Power SaidChoice SaidForm Said I.choice_step I.form_step I.expr_step x y) s.0 (O.tells-power S (layout e.of) e.spot.at (meaning x) (meaning y) s.0 t0.means t1.means) (λ k. lesser-stands ((said x).long k) ((said y).long k) (t0.long k) (t1.long k))

  told-Order : (op : OrdOp) (x y : Expr) → Claim x → Claim y → FormClaim (V.Order op x y)
  told-Order op x y h0 h1 e is at =
      let s = spots-by e (V.Order op x y) (expr_spots x ++ expr_spots y) is (N.form-Order Spots Spots Spots P.choice_step P.form_step P.expr_step op x y) at in
      let t0 = h0 (each-left AtSpot (expr_spots x) (expr_spots y) s.1) in
      let t1 = h1 (each-right AtSpot (expr_spots x) (expr_spots y) s.1) in
      told-by e (V.Order op x y) (E.form_step (Form-F.Order op (meaning x) (meaning y))) (Form-F.Order op (said x) (said y)) is (L.form-Order op x y) (N.form-Order SaidChoice SaidForm Said I.choice_step I.form_step I.expr_step op x y) s.0 (O.tells-order S (layout e.of) e.spot.at op (meaning x) (meaning y) s.0 t0.means t1.means) (λ k. lesser-stands ((said x).long k) ((said y).long k) (t0.long k) (t1.long k))

  told-Equal : (op : EqOp) (negated : Bool) (x y : Expr) → Claim x → Claim y → FormClaim (V.Equal op negated x y)
  told-Equal op negated x y h0 h1 e is at =
      let s = spots-by e (V.Equal op negated x y) (expr_spots x ++ expr_spots y) is (N.form-Equal Spots Spots Spots P.choice_step P.form_step P.expr_step op negated x y) at in
      let t0 = h0 (each-left AtSpot (expr_spots x) (expr_spots y) s.1) in
      let t1 = h1 (each-right AtSpot (expr_spots x) (expr_spots y) s.1) in
      told-by e (V.Equal op negated x y) (E.form_step (Form-F.Equal op negated (meaning x) (meaning y))) (Form-F.Equal op negated (said x) (said y)) is (L.form-Equal op negated x y) (N.form-Equal SaidChoice SaidForm Said I.choice_step I.form_step I.expr_step op negated x y) s.0 (O.tells-equal S (layout e.of) e.spot.at op negated (meaning x) (meaning y) s.0 t0.means t1.means) (λ k. lesser-stands ((said x).long k) ((said y).long k) (t0.long k) (t1.long k))

  told-Both : (x y : Expr) → Claim x → Claim y → FormClaim (V.Both x y)
  told-Both x y h0 h1 e is at =
      let s = spots-by e (V.Both x y) (expr_spots x ++ expr_spots y) is (N.form-Both Spots Spots Spots P.choice_step P.form_step P.expr_step x y) at in
      let t0 = h0 (each-left AtSpot (expr_spots x) (expr_spots y) s.1) in
      let t1 = h1 (each-right AtSpot (expr_spots x) (expr_spots y) s.1) in
      told-by e (V.Both x y) (E.form_step (Form-F.Both (meaning x) (meaning y))) (Form-F.Both (said x) (said y)) is (L.form-Both x y) (N.form-Both SaidChoice SaidForm Said I.choice_step I.form_step I.expr_step x y) s.0 (O.tells-both S (layout e.of) e.spot.at (meaning x) (meaning y) s.0 t0.means t1.means) (λ k. lesser-stands ((said x).long k) ((said y).long k) (t0.long k) (t1.long k))

  told-Either : (x y : Expr) → Claim x → Claim y → FormClaim (V.Either x y)
  told-Either x y h0 h1 e is at =
      let s = spots-by e (V.Either x y) (expr_spots x ++ expr_spots y) is (N.form-Either Spots Spots Spots P.choice_step P.form_step P.expr_step x y) at in
      let t0 = h0 (each-left AtSpot (expr_spots x) (expr_spots y) s.1) in
      let t1 = h1 (each-right AtSpot (expr_spots x) (expr_spots y) s.1) in
      told-by e (V.Either x y) (E.form_step (Form-F.Either (meaning x) (meaning y))) (Form-F.Either (said x) (said y)) is (L.form-Either x y) (N.form-Either SaidChoice SaidForm Said I.choice_step I.form_step I.expr_step x y) s.0 (O.tells-either S (layout e.of) e.spot.at (meaning x) (meaning y) s.0 t0.means t1.means) (λ k. lesser-stands ((said x).long k) ((said y).long k) (t0.long k) (t1.long k))

  told-Choose : (z x y : Expr) → Claim z → Claim x → Claim y → FormClaim (V.Choose z x y)
  told-Choose z x y h0 h1 h2 e is at =
      let s = spots-by e (V.Choose z x y) (expr_spots z ++ (expr_spots x ++ expr_spots y)) is (N.form-Choose Spots Spots Spots P.choice_step P.form_step P.expr_step z x y) at in
      let rest = each-right AtSpot (expr_spots z) (expr_spots x ++ expr_spots y) s.1 in
      let t0 = h0 (each-left AtSpot (expr_spots z) (expr_spots x ++ expr_spots y) s.1) in
      let t1 = h1 (each-left AtSpot (expr_spots x) (expr_spots y) rest) in
      let t2 = h2 (each-right AtSpot (expr_spots x) (expr_spots y) rest) in
      told-by e (V.Choose z x y) (E.form_step (Form-F.Choose (meaning z) (meaning x) (meaning y))) (Form-F.Choose (said z) (said x) (said y)) is (L.form-Choose z x y) (N.form-Choose SaidChoice SaidForm Said I.choice_step I.form_step I.expr_step z x y) s.0 (O.tells-choose S (layout e.of) e.spot.at (meaning z) (meaning x) (meaning y) s.0 t0.means t1.means t2.means) (λ k. lesser-stands ((said z).long k) (lesser ((said x).long k) ((said y).long k)) (t0.long k) (lesser-stands ((said x).long k) ((said y).long k) (t1.long k) (t2.long k)))

  told-Concat : (es : List Expr) → Each Claim es → FormClaim (V.Concat es)
  told-Concat es h0 e is at =
      let s = spots-by e (V.Concat es) (all (map expr_spots es)) is (N.form-Concat Spots Spots Spots P.choice_step P.form_step P.expr_step es) at in
      let t0 = told-all es h0 s.1 in
      told-by e (V.Concat es) (E.form_step (Form-F.Concat (map meaning es))) (Form-F.Concat (map said es)) is (L.form-Concat es) (N.form-Concat SaidChoice SaidForm Said I.choice_step I.form_step I.expr_step es) s.0 (O.tells-concat S (layout e.of) e.spot.at (map meaning es) s.0 (tells-all es t0)) (long-all es t0)

  told-Repeat : (n : ℕ) (es : List Expr) → Each Claim es → FormClaim (V.Repeat n es)
  told-Repeat n es h0 e is at =
      let s = spots-by e (V.Repeat n es) (all (map expr_spots es)) is (N.form-Repeat Spots Spots Spots P.choice_step P.form_step P.expr_step n es) at in
      let t0 = told-all es h0 s.1 in
      told-by e (V.Repeat n es) (E.form_step (Form-F.Repeat n (map meaning es))) (Form-F.Repeat n (map said es)) is (L.form-Repeat n es) (N.form-Repeat SaidChoice SaidForm Said I.choice_step I.form_step I.expr_step n es) s.0 (O.tells-repeat S (layout e.of) e.spot.at n (map meaning es) s.0 (tells-all es t0)) (long-all es t0)

  told-Inside : (x : Expr) (cs : List Choice) → Claim x → Each ChoiceClaim cs → FormClaim (V.Inside x cs)
  told-Inside x cs h0 h1 e is at =
      let s = spots-by e (V.Inside x cs) (expr_spots x ++ all (map choice_spots cs)) is (N.form-Inside Spots Spots Spots P.choice_step P.form_step P.expr_step x cs) at in
      let t0 = h0 (each-left AtSpot (expr_spots x) (all (map choice_spots cs)) s.1) in
      let t1 = told-choices cs h1 (each-right AtSpot (expr_spots x) (all (map choice_spots cs)) s.1) in
      told-by e (V.Inside x cs) (E.form_step (Form-F.Inside (meaning x) (map alternative cs))) (Form-F.Inside (said x) (map choice_said cs)) is (L.form-Inside x cs) (N.form-Inside SaidChoice SaidForm Said I.choice_step I.form_step I.expr_step x cs) s.0 (O.tells-inside S (layout e.of) e.spot.at (meaning x) (map alternative cs) s.0 t0.means (tells-choices cs t1)) (λ k. lesser-stands ((said x).long k) (I.all (map (λ (c : SaidChoice). c.long) (map choice_said cs)) k) (t0.long k) (long-choices cs t1 k))

  told-Cast : (x : Expr) → Claim x → FormClaim (V.Cast x)
  told-Cast x h0 e is at =
      let s = spots-by e (V.Cast x) (expr_spots x) is (N.form-Cast Spots Spots Spots P.choice_step P.form_step P.expr_step x) at in
      let t0 = h0 s.1 in
      told-by e (V.Cast x) (E.form_step (Form-F.Cast (meaning x))) (Form-F.Cast (said x)) is (L.form-Cast x) (N.form-Cast SaidChoice SaidForm Said I.choice_step I.form_step I.expr_step x) s.0 (O.tells-cast S (layout e.of) e.spot.at (meaning x) s.0 t0.means) (t0.long)

  told-Clog2 : (x : Expr) → Claim x → FormClaim (V.Clog2 x)
  told-Clog2 x h0 e is at =
      let s = spots-by e (V.Clog2 x) (expr_spots x) is (N.form-Clog2 Spots Spots Spots P.choice_step P.form_step P.expr_step x) at in
      let t0 = h0 s.1 in
      told-by e (V.Clog2 x) (E.form_step (Form-F.Clog2 (meaning x))) (Form-F.Clog2 (said x)) is (L.form-Clog2 x) (N.form-Clog2 SaidChoice SaidForm Said I.choice_step I.form_step I.expr_step x) s.0 (O.tells-clog2 S (layout e.of) e.spot.at (meaning x) s.0 t0.means) (t0.long)

  told-Pattern : (es : List Expr) → Each Claim es → FormClaim (V.Pattern es)
  told-Pattern es h0 e is at =
      let s = spots-by e (V.Pattern es) (all (map expr_spots es)) is (N.form-Pattern Spots Spots Spots P.choice_step P.form_step P.expr_step es) at in
      let t0 = told-all es h0 s.1 in
      told-by e (V.Pattern es) (E.form_step (Form-F.Pattern (map meaning es))) (Form-F.Pattern (map said es)) is (L.form-Pattern es) (N.form-Pattern SaidChoice SaidForm Said I.choice_step I.form_step I.expr_step es) s.0 (O.tells-pattern S (layout e.of) e.spot.at (map meaning es) s.0 (tells-all es t0)) (long-items (parts_of (layout e.of)) es t0)

  told-Call : (f : ℕ) (es : List Expr) → Each Claim es → FormClaim (V.Call f es)
  told-Call f es h0 e is at =
      let s = spots-by e (V.Call f es) (all (map expr_spots es)) is (N.form-Call Spots Spots Spots P.choice_step P.form_step P.expr_step f es) at in
      let t0 = told-all es h0 s.1 in
      told-by e (V.Call f es) (E.form_step (Form-F.Call f (map meaning es))) (Form-F.Call f (map said es)) is (L.form-Call f es) (N.form-Call SaidChoice SaidForm Said I.choice_step I.form_step I.expr_step f es) s.0 (O.tells-call S (layout e.of) e.spot.at f (map meaning es) s.0 (tells-all es t0)) (long-all es t0)

  told-Stream : (reversed : Bool) (n : ℕ) (es : List Expr) → Each Claim es → FormClaim (V.Stream reversed n es)
  told-Stream reversed n es h0 e is at =
      let s = spots-by e (V.Stream reversed n es) (all (map expr_spots es)) is (N.form-Stream Spots Spots Spots P.choice_step P.form_step P.expr_step reversed n es) at in
      let t0 = told-all es h0 s.1 in
      told-by e (V.Stream reversed n es) (E.form_step (Form-F.Stream reversed n (map meaning es))) (Form-F.Stream reversed n (map said es)) is (L.form-Stream reversed n es) (N.form-Stream SaidChoice SaidForm Said I.choice_step I.form_step I.expr_step reversed n es) s.0 (O.tells-stream S (layout e.of) e.spot.at reversed n (map meaning es) s.0 (tells-all es t0)) (long-all es t0)

  steps : Steps ChoiceClaim FormClaim Claim
  steps = record {
    value = value-told;
    range = range-told;
    expr = λ e h. h e refl;
    literal = told-Literal;
    fill = told-Fill;
    constant = told-Constant;
    signal = told-Signal;
    local = told-Local;
    member = told-Member;
    index = told-Index;
    part_select = told-Part;
    sliding = told-Slide;
    unary = told-Unary;
    reduce = told-Reduce;
    negate = told-Negate;
    binary = told-Binary;
    shift = told-Shift;
    power = told-Power;
    order = told-Order;
    equal = told-Equal;
    both = told-Both;
    either = told-Either;
    choose = told-Choose;
    concat = told-Concat;
    repeat = told-Repeat;
    inside = told-Inside;
    cast = told-Cast;
    clog2 = told-Clog2;
    pattern = told-Pattern;
    call = told-Call;
    stream = told-Stream;
  }

  pub told : (e : Expr) → Claim e
  told = by-expr ChoiceClaim FormClaim Claim steps

  pub told-each : (es : List Expr) → Each AtSpot (exprs_spots es) → Each Told es
  told-each [] h = tt
  told-each (e ∷ es) h = (told e (each-left AtSpot (expr_spots e) (exprs_spots es) h), told-each es (each-right AtSpot (expr_spots e) (exprs_spots es) h))
