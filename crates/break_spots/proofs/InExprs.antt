-- The walk finds the first of the tokens that the definition lists.
use Rattle.std.proofs.Common.{◌≡◌, ℕ, List, [], ◌∷◌, ◌++◌, map, Option, refl, ap, sym, ◌∙◌, subst}
use Rattle.sv_source.specs.declared.token.Spot.{Spot}
use Rattle.sv_types.specs.declared.expression.Expr.{Expr}
use Rattle.sv_types.specs.declared.expression.Form.{Form, fold-Form}
use Rattle.sv_types.specs.declared.expression.Choice.{Choice, fold-Choice}
use Rattle.sv_types.proofs.Terms.{Each, Steps, by-expr}
use Rattle.design_breaks.specs.Spots as P
use Rattle.design_breaks.specs.Spots.{Spots, all, expr_spots, exprs_spots}
use Rattle.spot_laws.proofs.Levels as L
use Rattle.break_spots.specs.Walk as W
use Rattle.break_spots.specs.Walk.{Walk, look, in_turn, expr_walk, choice_walk, exprs_walk}

module _ (at : ℕ) where
  -- the first of some spots at the token, unless one was found before
  abbrev pub first_in : Spots → Walk
  first_in [] u = u
  first_in (s ∷ ss) u = first_in ss (look at s u)

  abbrev pub Follows : Walk → Spots → Type 0
  Follows w ss = (u : Option Spot) → w u ≡ first_in ss u

  pub first-append : (xs ys : Spots) (u : Option Spot) → first_in (xs ++ ys) u ≡ first_in ys (first_in xs u)
  first-append [] ys u = refl
  first-append (x ∷ xs) ys u = first-append xs ys (look at x u)

  pub in-both : (f g : Walk) (xs ys : Spots) → Follows f xs → Follows g ys → Follows (W.both f g) (xs ++ ys)
  in-both f g xs ys h i u = ap g (h u) ∙ i (first_in xs u) ∙ sym (first-append xs ys u)

  pub in-all : {A : Type 0} (walks : A → Walk) (spots : A → Spots) (xs : List A) → Each (λ x. Follows (walks x) (spots x)) xs → Follows (in_turn (map walks xs)) (all (map spots xs))
  in-all walks spots [] h u = refl
  in-all walks spots (x ∷ xs) h u =
      ap (in_turn (map walks xs)) (h.0 u)
      ∙ in-all walks spots xs h.1 (first_in (spots x) u)
      ∙ sym (first-append (spots x) (all (map spots xs)) u)

  abbrev form_walk : Form → Walk
  form_walk = fold-Form Walk Walk Walk W.choice_step W.form_step (W.expr_step at)

  abbrev form_spots : Form → Spots
  form_spots = fold-Form Spots Spots Spots P.choice_step P.form_step P.expr_step

  abbrev choice_spots : Choice → Spots
  choice_spots = fold-Choice Spots Spots Spots P.choice_step P.form_step P.expr_step

  pub by-levels : (w v : Walk) (xs ys : Spots) → w ≡ v → xs ≡ ys → Follows v ys → Follows w xs
  by-levels w v xs ys a b h = subst (λ (x : Walk). Follows x xs) (sym a) (subst (λ (zs : Spots). Follows v zs) (sym b) h)

  abbrev OfExpr : Expr → Type 0
  OfExpr e = Follows (expr_walk at e) (expr_spots e)

  abbrev OfForm : Form → Type 0
  OfForm f = Follows (form_walk f) (form_spots f)

  abbrev OfChoice : Choice → Type 0
  OfChoice c = Follows (choice_walk at c) (choice_spots c)

  all-steps : Steps OfChoice OfForm OfExpr
  all-steps = record {
    value = λ e h. by-levels _ _ _ _ (L.only Walk Walk Walk W.choice_step W.form_step (W.expr_step at) e) (L.only Spots Spots Spots P.choice_step P.form_step P.expr_step e) h;
    range = λ x y h0 h1. by-levels _ _ _ _ (L.from-to Walk Walk Walk W.choice_step W.form_step (W.expr_step at) x y) (L.from-to Spots Spots Spots P.choice_step P.form_step P.expr_step x y) (in-both (expr_walk at x) (expr_walk at y) (expr_spots x) (expr_spots y) h0 h1);
    expr = λ e h. by-levels _ _ _ _ (L.expr-folded Walk Walk Walk W.choice_step W.form_step (W.expr_step at) e) (L.expr-folded Spots Spots Spots P.choice_step P.form_step P.expr_step e) (in-both (look at e.spot) (form_walk e.form) (e.spot ∷ []) (form_spots e.form) (λ u. refl) h);
    literal = λ v goes_on. by-levels _ _ _ _ (L.form-Literal Walk Walk Walk W.choice_step W.form_step (W.expr_step at) v goes_on) (L.form-Literal Spots Spots Spots P.choice_step P.form_step P.expr_step v goes_on) (λ u. refl);
    fill = λ b. by-levels _ _ _ _ (L.form-Fill Walk Walk Walk W.choice_step W.form_step (W.expr_step at) b) (L.form-Fill Spots Spots Spots P.choice_step P.form_step P.expr_step b) (λ u. refl);
    constant = λ v. by-levels _ _ _ _ (L.form-Constant Walk Walk Walk W.choice_step W.form_step (W.expr_step at) v) (L.form-Constant Spots Spots Spots P.choice_step P.form_step P.expr_step v) (λ u. refl);
    signal = λ n. by-levels _ _ _ _ (L.form-Signal Walk Walk Walk W.choice_step W.form_step (W.expr_step at) n) (L.form-Signal Spots Spots Spots P.choice_step P.form_step P.expr_step n) (λ u. refl);
    local = λ n. by-levels _ _ _ _ (L.form-Local Walk Walk Walk W.choice_step W.form_step (W.expr_step at) n) (L.form-Local Spots Spots Spots P.choice_step P.form_step P.expr_step n) (λ u. refl);
    member = λ x k h0. by-levels _ _ _ _ (L.form-Member Walk Walk Walk W.choice_step W.form_step (W.expr_step at) x k) (L.form-Member Spots Spots Spots P.choice_step P.form_step P.expr_step x k) h0;
    index = λ x i h0 h1. by-levels _ _ _ _ (L.form-Index Walk Walk Walk W.choice_step W.form_step (W.expr_step at) x i) (L.form-Index Spots Spots Spots P.choice_step P.form_step P.expr_step x i) (in-both (expr_walk at x) (expr_walk at i) (expr_spots x) (expr_spots i) h0 h1);
    part_select = λ x left right h0. by-levels _ _ _ _ (L.form-Part Walk Walk Walk W.choice_step W.form_step (W.expr_step at) x left right) (L.form-Part Spots Spots Spots P.choice_step P.form_step P.expr_step x left right) h0;
    sliding = λ x i n up h0 h1. by-levels _ _ _ _ (L.form-Slide Walk Walk Walk W.choice_step W.form_step (W.expr_step at) x i n up) (L.form-Slide Spots Spots Spots P.choice_step P.form_step P.expr_step x i n up) (in-both (expr_walk at x) (expr_walk at i) (expr_spots x) (expr_spots i) h0 h1);
    unary = λ op x h0. by-levels _ _ _ _ (L.form-Unary Walk Walk Walk W.choice_step W.form_step (W.expr_step at) op x) (L.form-Unary Spots Spots Spots P.choice_step P.form_step P.expr_step op x) h0;
    reduce = λ op x h0. by-levels _ _ _ _ (L.form-Reduce Walk Walk Walk W.choice_step W.form_step (W.expr_step at) op x) (L.form-Reduce Spots Spots Spots P.choice_step P.form_step P.expr_step op x) h0;
    negate = λ x h0. by-levels _ _ _ _ (L.form-Negate Walk Walk Walk W.choice_step W.form_step (W.expr_step at) x) (L.form-Negate Spots Spots Spots P.choice_step P.form_step P.expr_step x) h0;
    binary = λ op x y h0 h1. by-levels _ _ _ _ (L.form-Binary Walk Walk Walk W.choice_step W.form_step (W.expr_step at) op x y) (L.form-Binary Spots Spots Spots P.choice_step P.form_step P.expr_step op x y) (in-both (expr_walk at x) (expr_walk at y) (expr_spots x) (expr_spots y) h0 h1);
    shift = λ op x y h0 h1. by-levels _ _ _ _ (L.form-Shift Walk Walk Walk W.choice_step W.form_step (W.expr_step at) op x y) (L.form-Shift Spots Spots Spots P.choice_step P.form_step P.expr_step op x y) (in-both (expr_walk at x) (expr_walk at y) (expr_spots x) (expr_spots y) h0 h1);
    power = λ x y h0 h1. by-levels _ _ _ _ (L.form-Power Walk Walk Walk W.choice_step W.form_step (W.expr_step at) x y) (L.form-Power Spots Spots Spots P.choice_step P.form_step P.expr_step x y) (in-both (expr_walk at x) (expr_walk at y) (expr_spots x) (expr_spots y) h0 h1);
    order = λ op x y h0 h1. by-levels _ _ _ _ (L.form-Order Walk Walk Walk W.choice_step W.form_step (W.expr_step at) op x y) (L.form-Order Spots Spots Spots P.choice_step P.form_step P.expr_step op x y) (in-both (expr_walk at x) (expr_walk at y) (expr_spots x) (expr_spots y) h0 h1);
    equal = λ op negated x y h0 h1. by-levels _ _ _ _ (L.form-Equal Walk Walk Walk W.choice_step W.form_step (W.expr_step at) op negated x y) (L.form-Equal Spots Spots Spots P.choice_step P.form_step P.expr_step op negated x y) (in-both (expr_walk at x) (expr_walk at y) (expr_spots x) (expr_spots y) h0 h1);
    both = λ x y h0 h1. by-levels _ _ _ _ (L.form-Both Walk Walk Walk W.choice_step W.form_step (W.expr_step at) x y) (L.form-Both Spots Spots Spots P.choice_step P.form_step P.expr_step x y) (in-both (expr_walk at x) (expr_walk at y) (expr_spots x) (expr_spots y) h0 h1);
    either = λ x y h0 h1. by-levels _ _ _ _ (L.form-Either Walk Walk Walk W.choice_step W.form_step (W.expr_step at) x y) (L.form-Either Spots Spots Spots P.choice_step P.form_step P.expr_step x y) (in-both (expr_walk at x) (expr_walk at y) (expr_spots x) (expr_spots y) h0 h1);
    choose = λ z x y h0 h1 h2. by-levels _ _ _ _ (L.form-Choose Walk Walk Walk W.choice_step W.form_step (W.expr_step at) z x y) (L.form-Choose Spots Spots Spots P.choice_step P.form_step P.expr_step z x y) (in-both (expr_walk at z) (W.both (expr_walk at x) (expr_walk at y)) (expr_spots z) (expr_spots x ++ expr_spots y) h0 (in-both (expr_walk at x) (expr_walk at y) (expr_spots x) (expr_spots y) h1 h2));
    concat = λ es h0. by-levels _ _ _ _ (L.form-Concat Walk Walk Walk W.choice_step W.form_step (W.expr_step at) es) (L.form-Concat Spots Spots Spots P.choice_step P.form_step P.expr_step es) (in-all (expr_walk at) expr_spots es h0);
    repeat = λ n es h0. by-levels _ _ _ _ (L.form-Repeat Walk Walk Walk W.choice_step W.form_step (W.expr_step at) n es) (L.form-Repeat Spots Spots Spots P.choice_step P.form_step P.expr_step n es) (in-all (expr_walk at) expr_spots es h0);
    inside = λ x cs h0 h1. by-levels _ _ _ _ (L.form-Inside Walk Walk Walk W.choice_step W.form_step (W.expr_step at) x cs) (L.form-Inside Spots Spots Spots P.choice_step P.form_step P.expr_step x cs) (in-both (expr_walk at x) (in_turn (map (choice_walk at) cs)) (expr_spots x) (all (map choice_spots cs)) h0 (in-all (choice_walk at) choice_spots cs h1));
    cast = λ x h0. by-levels _ _ _ _ (L.form-Cast Walk Walk Walk W.choice_step W.form_step (W.expr_step at) x) (L.form-Cast Spots Spots Spots P.choice_step P.form_step P.expr_step x) h0;
    clog2 = λ x h0. by-levels _ _ _ _ (L.form-Clog2 Walk Walk Walk W.choice_step W.form_step (W.expr_step at) x) (L.form-Clog2 Spots Spots Spots P.choice_step P.form_step P.expr_step x) h0;
    pattern = λ es h0. by-levels _ _ _ _ (L.form-Pattern Walk Walk Walk W.choice_step W.form_step (W.expr_step at) es) (L.form-Pattern Spots Spots Spots P.choice_step P.form_step P.expr_step es) (in-all (expr_walk at) expr_spots es h0);
    call = λ f es h0. by-levels _ _ _ _ (L.form-Call Walk Walk Walk W.choice_step W.form_step (W.expr_step at) f es) (L.form-Call Spots Spots Spots P.choice_step P.form_step P.expr_step f es) (in-all (expr_walk at) expr_spots es h0);
    stream = λ reversed n es h0. by-levels _ _ _ _ (L.form-Stream Walk Walk Walk W.choice_step W.form_step (W.expr_step at) reversed n es) (L.form-Stream Spots Spots Spots P.choice_step P.form_step P.expr_step reversed n es) (in-all (expr_walk at) expr_spots es h0);
  }

  pub in-expr : (e : Expr) → OfExpr e
  in-expr = by-expr OfChoice OfForm OfExpr all-steps

  pub in-exprs : (es : List Expr) → Follows (exprs_walk at es) (exprs_spots es)
  in-exprs [] u = refl
  in-exprs (e ∷ es) u =
      ap (exprs_walk at es) (in-expr e u)
      ∙ in-exprs es (first_in (expr_spots e) u)
      ∙ sym (first-append (expr_spots e) (exprs_spots es) u)
