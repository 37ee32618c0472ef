-- The walk over expressions adds what the definition lists.
use Rattle.std.proofs.Common.{◌≡◌, ℕ, Bool, true, false, cond, List, [], ◌∷◌, ◌++◌, map, append_assoc, refl, ap, sym, ◌∙◌, subst}
use Rattle.std.proofs.lemmas.Bool.{false≢true}
use Rattle.std.proofs.lemmas.List.{append-nil}
use Rattle.sv_types.specs.declared.expression.Expr.{Expr}
use Rattle.sv_types.specs.declared.expression.Form.{Form, fold-Form}
use Rattle.sv_types.specs.declared.expression.Choice.{Choice, fold-Choice}
use Rattle.sv_types.proofs.Terms.{Each, Steps, by-expr}
use Rattle.design_breaks.specs.Mentions as M
use Rattle.design_breaks.specs.Mentions.{Mentions, mentions, all_mentions}
use Rattle.body_mentions.specs.declared.Mentioned.{Mentioned}
use Rattle.body_mentions.specs.Walk as W
use Rattle.body_mentions.specs.Walk.{Walk, walk, choice_walk, in_turn}
use Rattle.body_mentions.proofs.Levels as L

abbrev pub with_more : Mentioned → Mentions → Mentioned
with_more u m = record { whole = u.whole ++ m.whole; calls = u.calls ++ m.calls }

pub same-fields : (u v : Mentioned) → u.whole ≡ v.whole → u.calls ≡ v.calls → u ≡ v
same-fields u v a b = λ i. record { whole = a i; calls = b i }

pub with-none : (u : Mentioned) → u ≡ with_more u M.nothing
with-none u = same-fields u (with_more u M.nothing) (sym (append-nil u.whole)) (sym (append-nil u.calls))

pub with-both : (u : Mentioned) (a b : Mentions) → with_more (with_more u a) b ≡ with_more u (M.both a b)
with-both u a b = same-fields (with_more (with_more u a) b) (with_more u (M.both a b)) (append_assoc u.whole a.whole b.whole) (append_assoc u.calls a.calls b.calls)

-- a walk adds what is mentioned; a signal calls nothing
pub record Same (w : Walk) (m : Mentions) : Type 0 where
  pub adds : (u : Mentioned) → w.add u ≡ with_more u m
  pub signal : w.is_signal ≡ m.is_signal
  pub bare : m.is_signal ≡ true → m.calls ≡ []

same-nothing : Same W.nothing M.nothing
same-nothing = record { adds = with-none; signal = refl; bare = λ h. refl }

same-signal : (n : ℕ) → Same (W.signal n) (M.signal n)
same-signal n = record {
  adds = λ u. same-fields (W.naming n u) (with_more u (M.signal n)) refl (sym (append-nil u.calls));
  signal = refl;
  bare = λ h. refl;
}

same-within : {w : Walk} {m : Mentions} → Same w m → Same (W.within w) (M.within m)
same-within {w} {m} s = record { adds = s.adds; signal = refl; bare = λ h. absurd (false≢true h) }

same-both : {a b : Walk} {m n : Mentions} → Same a m → Same b n → Same (W.both a b) (M.both m n)
same-both {a} {b} {m} {n} s t = record {
  adds = λ u. ap b.add (s.adds u) ∙ t.adds (with_more u m) ∙ with-both u m n;
  signal = refl;
  bare = λ h. absurd (false≢true h);
}

pub turns : {A : Type 0} (walks : A → Walk) (says : A → Mentions) (xs : List A) → Each (λ x. Same (walks x) (says x)) xs → (u : Mentioned) → in_turn (map walks xs) u ≡ with_more u (M.all (map says xs))
turns walks says [] each u = with-none u
turns walks says (x ∷ xs) each u =
    ap (in_turn (map walks xs)) (each.0.adds u)
    ∙ turns walks says xs each.1 (with_more u (says x))
    ∙ with-both u (says x) (M.all (map says xs))

same-all : {A : Type 0} (walks : A → Walk) (says : A → Mentions) (xs : List A) → Each (λ x. Same (walks x) (says x)) xs → Same (W.all (map walks xs)) (M.all (map says xs))
same-all walks says xs each = record { adds = turns walks says xs each; signal = refl; bare = λ h. absurd (false≢true h) }

pub with-call : (u : Mentioned) (f : ℕ) (m : Mentions) → with_more (W.calling f u) m ≡ with_more u (record m { calls = f ∷ m.calls })
with-call u f m = same-fields (with_more (W.calling f u) m) (with_more u (record m { calls = f ∷ m.calls })) refl (append_assoc u.calls (f ∷ []) m.calls)

same-called : (f : ℕ) (es : List Expr) → Each (λ e. Same (walk e) (mentions e)) es → Same (W.called f (map walk es)) (M.calling f (map mentions es))
same-called f es each = record {
  adds = λ u. turns walk mentions es each (W.calling f u) ∙ with-call u f (M.all (map mentions es));
  signal = refl;
  bare = λ h. absurd (false≢true h);
}

same-indexed : {a b : Walk} {m n : Mentions} → Same a m → Same b n → Same (W.indexed a b) (M.indexed m n)
same-indexed {a} {b} {m} {n} s t = record {
  adds = λ u. ap (λ c. b.add (cond c u (a.add u))) s.signal ∙ by u m.is_signal refl;
  signal = refl;
  bare = λ h. absurd (false≢true h);
}
  where
    by : (u : Mentioned) (c : Bool) → m.is_signal ≡ c → b.add (cond c u (a.add u)) ≡ record { whole = u.whole ++ (cond c [] m.whole ++ n.whole); calls = u.calls ++ (m.calls ++ n.calls) }
    by u true is =
        t.adds u
        ∙ same-fields (with_more u n) (record { whole = u.whole ++ n.whole; calls = u.calls ++ (m.calls ++ n.calls) }) refl (ap (λ cs. u.calls ++ (cs ++ n.calls)) (sym (s.bare is)))
    by u false is = ap b.add (s.adds u) ∙ t.adds (with_more u m) ∙ with-both u m n

abbrev form_walk : Form → Walk
form_walk = fold-Form Walk Walk Walk W.choice_step W.form_step W.expr_step

abbrev form_mentions : Form → Mentions
form_mentions = fold-Form Mentions Mentions Mentions M.choice_step M.form_step M.expr_step

abbrev choice_mentions : Choice → Mentions
choice_mentions = fold-Choice Mentions Mentions Mentions M.choice_step M.form_step M.expr_step

by-levels : (w v : Walk) (m n : Mentions) → w ≡ v → m ≡ n → Same v n → Same w m
by-levels w v m n a b s = subst (λ x. Same x m) (sym a) (subst (Same v) (sym b) s)

all-steps : Steps (λ c. Same (choice_walk c) (choice_mentions c)) (λ f. Same (form_walk f) (form_mentions f)) (λ e. Same (walk e) (mentions e))
all-steps = record {
  value = λ e h. by-levels _ _ _ _ (L.only Walk Walk Walk W.choice_step W.form_step W.expr_step e) (L.only Mentions Mentions Mentions M.choice_step M.form_step M.expr_step e) (same-within h);
  range = λ a b h g. by-levels _ _ _ _ (L.from-to Walk Walk Walk W.choice_step W.form_step W.expr_step a b) (L.from-to Mentions Mentions Mentions M.choice_step M.form_step M.expr_step a b) (same-both h g);
  expr = λ e h. by-levels _ _ _ _ (L.expr-folded Walk Walk Walk W.choice_step W.form_step W.expr_step e) (L.expr-folded Mentions Mentions Mentions M.choice_step M.form_step M.expr_step e) (h);
  literal = λ v goes_on. by-levels _ _ _ _ (L.form-Literal Walk Walk Walk W.choice_step W.form_step W.expr_step v goes_on) (L.form-Literal Mentions Mentions Mentions M.choice_step M.form_step M.expr_step v goes_on) (same-nothing);
  fill = λ b. by-levels _ _ _ _ (L.form-Fill Walk Walk Walk W.choice_step W.form_step W.expr_step b) (L.form-Fill Mentions Mentions Mentions M.choice_step M.form_step M.expr_step b) (same-nothing);
  constant = λ v. by-levels _ _ _ _ (L.form-Constant Walk Walk Walk W.choice_step W.form_step W.expr_step v) (L.form-Constant Mentions Mentions Mentions M.choice_step M.form_step M.expr_step v) (same-nothing);
  signal = λ n. by-levels _ _ _ _ (L.form-Signal Walk Walk Walk W.choice_step W.form_step W.expr_step n) (L.form-Signal Mentions Mentions Mentions M.choice_step M.form_step M.expr_step n) (same-signal n);
  local = λ n. by-levels _ _ _ _ (L.form-Local Walk Walk Walk W.choice_step W.form_step W.expr_step n) (L.form-Local Mentions Mentions Mentions M.choice_step M.form_step M.expr_step n) (same-nothing);
  member = λ e k h. by-levels _ _ _ _ (L.form-Member Walk Walk Walk W.choice_step W.form_step W.expr_step e k) (L.form-Member Mentions Mentions Mentions M.choice_step M.form_step M.expr_step e k) (same-within h);
  index = λ e i h g. by-levels _ _ _ _ (L.form-Index Walk Walk Walk W.choice_step W.form_step W.expr_step e i) (L.form-Index Mentions Mentions Mentions M.choice_step M.form_step M.expr_step e i) (same-indexed h g);
  part_select = λ e left right h. by-levels _ _ _ _ (L.form-Part Walk Walk Walk W.choice_step W.form_step W.expr_step e left right) (L.form-Part Mentions Mentions Mentions M.choice_step M.form_step M.expr_step e left right) (same-within h);
  sliding = λ e i n up h g. by-levels _ _ _ _ (L.form-Slide Walk Walk Walk W.choice_step W.form_step W.expr_step e i n up) (L.form-Slide Mentions Mentions Mentions M.choice_step M.form_step M.expr_step e i n up) (same-both h g);
  unary = λ op e h. by-levels _ _ _ _ (L.form-Unary Walk Walk Walk W.choice_step W.form_step W.expr_step op e) (L.form-Unary Mentions Mentions Mentions M.choice_step M.form_step M.expr_step op e) (same-within h);
  reduce = λ op e h. by-levels _ _ _ _ (L.form-Reduce Walk Walk Walk W.choice_step W.form_step W.expr_step op e) (L.form-Reduce Mentions Mentions Mentions M.choice_step M.form_step M.expr_step op e) (same-within h);
  negate = λ e h. by-levels _ _ _ _ (L.form-Negate Walk Walk Walk W.choice_step W.form_step W.expr_step e) (L.form-Negate Mentions Mentions Mentions M.choice_step M.form_step M.expr_step e) (same-within h);
  binary = λ op a b h g. by-levels _ _ _ _ (L.form-Binary Walk Walk Walk W.choice_step W.form_step W.expr_step op a b) (L.form-Binary Mentions Mentions Mentions M.choice_step M.form_step M.expr_step op a b) (same-both h g);
  shift = λ op a b h g. by-levels _ _ _ _ (L.form-Shift Walk Walk Walk W.choice_step W.form_step W.expr_step op a b) (L.form-Shift Mentions Mentions Mentions M.choice_step M.form_step M.expr_step op a b) (same-both h g);
  order = λ op a b h g. by-levels _ _ _ _ (L.form-Order Walk Walk Walk W.choice_step W.form_step W.expr_step op a b) (L.form-Order Mentions Mentions Mentions M.choice_step M.form_step M.expr_step op a b) (same-both h g);
  power = λ a b h g. by-levels _ _ _ _ (L.form-Power Walk Walk Walk W.choice_step W.form_step W.expr_step a b) (L.form-Power Mentions Mentions Mentions M.choice_step M.form_step M.expr_step a b) (same-both h g);
  equal = λ op negated a b h g. by-levels _ _ _ _ (L.form-Equal Walk Walk Walk W.choice_step W.form_step W.expr_step op negated a b) (L.form-Equal Mentions Mentions Mentions M.choice_step M.form_step M.expr_step op negated a b) (same-both h g);
  both = λ a b h g. by-levels _ _ _ _ (L.form-Both Walk Walk Walk W.choice_step W.form_step W.expr_step a b) (L.form-Both Mentions Mentions Mentions M.choice_step M.form_step M.expr_step a b) (same-both h g);
  either = λ a b h g. by-levels _ _ _ _ (L.form-Either Walk Walk Walk W.choice_step W.form_step W.expr_step a b) (L.form-Either Mentions Mentions Mentions M.choice_step M.form_step M.expr_step a b) (same-both h g);
  choose = λ on a b k h g. by-levels _ _ _ _ (L.form-Choose Walk Walk Walk W.choice_step W.form_step W.expr_step on a b) (L.form-Choose Mentions Mentions Mentions M.choice_step M.form_step M.expr_step on a b) (same-both k (same-both h g));
  concat = λ es each. by-levels _ _ _ _ (L.form-Concat Walk Walk Walk W.choice_step W.form_step W.expr_step es) (L.form-Concat Mentions Mentions Mentions M.choice_step M.form_step M.expr_step es) (same-all walk mentions es each);
  repeat = λ n es each. by-levels _ _ _ _ (L.form-Repeat Walk Walk Walk W.choice_step W.form_step W.expr_step n es) (L.form-Repeat Mentions Mentions Mentions M.choice_step M.form_step M.expr_step n es) (same-all walk mentions es each);
  inside = λ e cs h each. by-levels _ _ _ _ (L.form-Inside Walk Walk Walk W.choice_step W.form_step W.expr_step e cs) (L.form-Inside Mentions Mentions Mentions M.choice_step M.form_step M.expr_step e cs) (same-both h (same-all choice_walk choice_mentions cs each));
  cast = λ e h. by-levels _ _ _ _ (L.form-Cast Walk Walk Walk W.choice_step W.form_step W.expr_step e) (L.form-Cast Mentions Mentions Mentions M.choice_step M.form_step M.expr_step e) (same-within h);
  clog2 = λ e h. by-levels _ _ _ _ (L.form-Clog2 Walk Walk Walk W.choice_step W.form_step W.expr_step e) (L.form-Clog2 Mentions Mentions Mentions M.choice_step M.form_step M.expr_step e) (same-within h);
  pattern = λ es each. by-levels _ _ _ _ (L.form-Pattern Walk Walk Walk W.choice_step W.form_step W.expr_step es) (L.form-Pattern Mentions Mentions Mentions M.choice_step M.form_step M.expr_step es) (same-all walk mentions es each);
  call = λ f es each. by-levels _ _ _ _ (L.form-Call Walk Walk Walk W.choice_step W.form_step W.expr_step f es) (L.form-Call Mentions Mentions Mentions M.choice_step M.form_step M.expr_step f es) (same-called f es each);
  stream = λ reversed n es each. by-levels _ _ _ _ (L.form-Stream Walk Walk Walk W.choice_step W.form_step W.expr_step reversed n es) (L.form-Stream Mentions Mentions Mentions M.choice_step M.form_step M.expr_step reversed n es) (same-all walk mentions es each);
}

pub expr-same : (e : Expr) → Same (walk e) (mentions e)
expr-same = by-expr (λ c. Same (choice_walk c) (choice_mentions c)) (λ f. Same (form_walk f) (form_mentions f)) (λ e. Same (walk e) (mentions e)) all-steps

each-same : (es : List Expr) → Each (λ e. Same (walk e) (mentions e)) es
each-same [] = tt
each-same (e ∷ es) = (expr-same e, each-same es)

pub exprs-add : (es : List Expr) (u : Mentioned) → in_turn (map walk es) u ≡ with_more u (all_mentions es)
exprs-add es u = turns walk mentions es (each-same es) u
