-- The first token at which an expression breaks a rule, where some functions lead back: the first one where none does, or the first
-- call of one that does.
use Rattle.std.proofs.Common.{◌≡◌, ℕ, suc, ◌+◌, ◌*◌, min, max, Bool, true, false, ◌&&◌, ◌==◌, not, nat_lt, List, [], ◌∷◌, ◌++◌, map, length, Option, Some, None, refl, sym, ap, ◌∙◌, subst, if◌then◌else◌, arith}
use Rattle.std.proofs.lemmas.List.{append-nil}
use Rattle.b4_core.specs.declared.bit.Bit4.{Bit4}
use Rattle.v_tree.specs.Names.{Name}
use Rattle.v_tree.specs.Scopes.{Thing, value, memory, function, result, part, Scope}
use Rattle.v_tree.specs.ExprRules as X
use Rattle.v_tree.specs.ExprRules.{Around, Rules, SelRules, Operation, alone, only_if, total, widths, listed_size, sels_size, each_from, sels_broken, name_broken, args_broken, call_broken, called, inputs_of, extent_size, moving_extent, left_width, right_width, too_wide, binary_rules, spreads, is_negative, kind_of, expr_rules, prim_rules, sel_rules, rules_of, sel_rules_of}
use Rattle.v_tree.specs.declared.expressions.VExpr.{VExpr, VExpr-F}
use Rattle.v_tree.specs.declared.expressions.VExtent.{VExtent}
use Rattle.v_tree.specs.declared.expressions.VPrim.{VPrim, VPrim-F, fold-VPrim}
use Rattle.v_tree.specs.declared.expressions.VSel.{VSel, VSel-F}
use Rattle.v_tree.specs.declared.operators.VUnaryOp.{VUnaryOp}
use Rattle.v_tree.proofs.Induction as T
use Rattle.v_expr_rules.specs.Seen.{earlier, mark}
use Rattle.v_expr_rules.specs.Least.{cap, first}
use Rattle.v_expr_rules.proofs.Saturation.{earlier-none, none-earlier, earlier-assoc, first-append, first-if, first-one}
use Rattle.v_expr_rules.proofs.Levels as L
use Rattle.v_expr_rules.proofs.Listed.{Each}
use Rattle.v_expr_rules.proofs.Listed.Each.{none, more}
use Rattle.v_stmt_rules.proofs.Declared.{weave}
use Rattle.v_call_sites.specs.Sites.{Site, Sites, back, named_at, listed_sites, calls_from, sels_sites, calls_along, sel_sites, prim_sites, expr_sites, sites_of, prim_sites_of, sel_sites_of}

-- where these functions lead back, and where none does
abbrev pub with : Scope → (Name → Bool) → Around
with scope leads_back = record { scope = scope; leads_back = leads_back }

abbrev pub plain : Scope → Around
plain scope = record { scope = scope; leads_back = λ g. false }

pub record Splits (s : Sites) (r : Rules) : Type 0 where
  pub size : s.size ≡ r.size
  pub width : (a : Scope) (b : Name → Bool) → r.width (with a b) ≡ r.width (plain a)
  pub broken : (a : Scope) (b : Name → Bool) (w at : ℕ)
      → first (r.broken (with a b) w at) ≡ earlier (first (r.broken (plain a) w at)) (first (back b (s.calls a at)))

pub record SelSplits (s : Sites) (r : SelRules) : Type 0 where
  pub size : s.size ≡ r.size
  pub broken : (a : Scope) (b : Name → Bool) (at : ℕ) → first (r.broken (with a b) at) ≡ earlier (first (r.broken (plain a) at)) (first (back b (s.calls a at)))

pub back-append : (b : Name → Bool) (ss ts : List Site) → first (back b (ss ++ ts)) ≡ earlier (first (back b ss)) (first (back b ts))
back-append b [] ts = sym (none-earlier (first (back b ts)))
back-append b (s ∷ ss) ts =
    first-append (only_if (b s.name) s.token) (back b (ss ++ ts))
    ∙ ap (earlier (first (only_if (b s.name) s.token))) (back-append b ss ts)
    ∙ sym (earlier-assoc (first (only_if (b s.name) s.token)) (first (back b ss)) (first (back b ts)))
    ∙ ap (λ o. earlier o (first (back b ts))) (sym (first-append (only_if (b s.name) s.token) (back b ss)))

-- parts one behind the other
pub two-parts : (xs ys us vs : List ℕ) (b : Name → Bool) (ss ts : List Site) → first xs ≡ earlier (first us) (first (back b ss)) → first ys ≡ earlier (first vs) (first (back b ts))
    → first (xs ++ ys) ≡ earlier (first (us ++ vs)) (first (back b (ss ++ ts)))
two-parts xs ys us vs b ss ts e f =
    first-append xs ys
    ∙ (λ i. earlier (e i) (f i))
    ∙ weave (first us) (first (back b ss)) (first vs) (first (back b ts))
    ∙ (λ i. earlier (sym (first-append us vs) i) (sym (back-append b ss ts) i))

-- what no function counts for stands before
pub before : (xs ys us : List ℕ) (o : Option ℕ) → first ys ≡ earlier (first us) o → first (xs ++ ys) ≡ earlier (first (xs ++ us)) o
before xs ys us o e =
    first-append xs ys ∙ ap (earlier (first xs)) e ∙ sym (earlier-assoc (first xs) (first us) o) ∙ ap (λ x. earlier x o) (sym (first-append xs us))

pub no-parts : (xs : List ℕ) → first xs ≡ earlier (first xs) (first [])
no-parts xs = sym (earlier-none (first xs))

pub alone-split : (s : Sites) (r : Rules) (a : Scope) (b : Name → Bool) (at : ℕ) → Splits s r → first (alone r (with a b) at) ≡ earlier (first (alone r (plain a) at)) (first (back b (s.calls a at)))
alone-split s r a b at h = ap (λ w. first (r.broken (with a b) w at)) (h.width a b) ∙ h.broken a b (r.width (plain a)) at

-- an operand further on
further : (s : Sites) (r : Rules) (a : Scope) (b : Name → Bool) (w at n m : ℕ) → n ≡ m → Splits s r
    → first (r.broken (with a b) w (at + m)) ≡ earlier (first (r.broken (plain a) w (at + m))) (first (back b (s.calls a (at + n))))
further s r a b w at n m e h = h.broken a b w (at + m) ∙ ap (λ k. earlier (first (r.broken (plain a) w (at + m))) (first (back b (s.calls a (at + k))))) (sym e)

number-splits : (bits : List Bit4) → Splits (prim_sites (VPrim-F.Number bits)) (prim_rules (VPrim-F.Number bits))
number-splits bits = record { size = refl; width = λ a b. refl; broken = λ a b w at. no-parts [] }

paren-splits : (s : Sites) (r : Rules) → Splits s r → Splits (prim_sites (VPrim-F.Paren s)) (prim_rules (VPrim-F.Paren r))
paren-splits s r h = record { size = ap (λ n. 2 + n) h.size; width = h.width; broken = λ a b w at. h.broken a b w (suc at) }

sign-splits : (signed : Bool) (s : Sites) (r : Rules) → Splits s r → Splits (prim_sites (VPrim-F.Sign signed s)) (prim_rules (VPrim-F.Sign signed r))
sign-splits signed s r h = record { size = ap (λ n. 3 + n) h.size; width = h.width; broken = λ a b w at. alone-split s r a b (at + 2) h }

unary-splits : (op : VUnaryOp) (s : Sites) (r : Rules) → Splits s r → Splits (expr_sites (VExpr-F.Unary op s)) (expr_rules (VExpr-F.Unary op r))
unary-splits op s r h = record {
  size = ap suc h.size;
  width = λ a b. ap (λ n. if spreads op then n else 1) (h.width a b);
  broken = λ a b w at.
      before (only_if (is_negative op && nat_lt 128 w) at) (r.broken (with a b) (if spreads op then w else r.width (with a b)) (suc at))
      (r.broken (plain a) (if spreads op then w else r.width (plain a)) (suc at)) (first (back b (s.calls a (suc at))))
      (ap (λ n. first (r.broken (with a b) (if spreads op then w else n) (suc at))) (h.width a b) ∙ h.broken a b (if spreads op then w else r.width (plain a)) (suc at));
}

binary-splits : (o : Operation) (s t : Sites) (r q : Rules) → Splits s r → Splits t q
    → Splits (record { size = s.size + suc t.size; calls = λ scope at. s.calls scope at ++ t.calls scope (at + suc s.size) }) (binary_rules o r q)
binary-splits o s t r q h k = record {
  size = λ i. h.size i + suc (k.size i);
  width = λ a b. (λ i. X.operation_width o (h.width a b i) (k.width a b i));
  broken = λ a b w at.
      let x = r.width (plain a) in
      let y = q.width (plain a) in
      (λ i. first (r.broken (with a b) (left_width o w (h.width a b i) (k.width a b i)) at
      ++ (only_if (too_wide o w (h.width a b i) (k.width a b i)) (at + r.size) ++ q.broken (with a b) (right_width o w (h.width a b i) (k.width a b i)) (at + suc r.size))))
      ∙ two-parts (r.broken (with a b) (left_width o w x y) at) (only_if (too_wide o w x y) (at + r.size) ++ q.broken (with a b) (right_width o w x y) (at + suc r.size))
      (r.broken (plain a) (left_width o w x y) at) (only_if (too_wide o w x y) (at + r.size) ++ q.broken (plain a) (right_width o w x y) (at + suc r.size)) b
      (s.calls a at) (t.calls a (at + suc s.size)) (h.broken a b (left_width o w x y) at)
      (before (only_if (too_wide o w x y) (at + r.size)) (q.broken (with a b) (right_width o w x y) (at + suc r.size)) (q.broken (plain a) (right_width o w x y) (at + suc r.size))
      (first (back b (t.calls a (at + suc s.size)))) (further t q a b (right_width o w x y) at (suc s.size) (suc r.size) (ap suc h.size) k));
}

choose-splits : (s t u : Sites) (r q p : Rules) → Splits s r → Splits t q → Splits u p → Splits (expr_sites (VExpr-F.Choose s t u)) (expr_rules (VExpr-F.Choose r q p))
choose-splits s t u r q p h k l = record {
  size = λ i. h.size i + suc (k.size i + suc (l.size i));
  width = λ a b. (λ i. max (k.width a b i) (l.width a b i));
  broken = λ a b w at.
      two-parts (alone r (with a b) at) (q.broken (with a b) w (at + suc r.size) ++ p.broken (with a b) w (at + (suc r.size + suc q.size)))
      (alone r (plain a) at) (q.broken (plain a) w (at + suc r.size) ++ p.broken (plain a) w (at + (suc r.size + suc q.size))) b
      (s.calls a at) (t.calls a (at + suc s.size) ++ u.calls a (at + (suc s.size + suc t.size))) (alone-split s r a b at h)
      (two-parts (q.broken (with a b) w (at + suc r.size)) (p.broken (with a b) w (at + (suc r.size + suc q.size)))
      (q.broken (plain a) w (at + suc r.size)) (p.broken (plain a) w (at + (suc r.size + suc q.size))) b
      (t.calls a (at + suc s.size)) (u.calls a (at + (suc s.size + suc t.size)))
      (further t q a b w at (suc s.size) (suc r.size) (ap suc h.size) k)
      (further u p a b w at (suc s.size + suc t.size) (suc r.size + suc q.size) (λ i. suc (h.size i) + suc (k.size i)) l));
}

-- lists
listed-same : (ss : List Sites) (rs : List Rules) → Each Splits ss rs → listed_sites ss ≡ listed_size rs
listed-same _ _ none = refl
listed-same _ _ (more h none) = h.size
listed-same _ _ (more h (more {x = t} {y = q} {xs = ss} {ys = rs} k hs)) = λ i. h.size i + suc (listed-same (t ∷ ss) (q ∷ rs) (more k hs) i)

widths-same : (ss : List Sites) (rs : List Rules) (a : Scope) (b : Name → Bool) → Each Splits ss rs → widths rs (with a b) ≡ widths rs (plain a)
widths-same _ _ a b none = refl
widths-same _ _ a b (more {xs = ss} {ys = rs} h hs) = λ i. h.width a b i ∷ widths-same ss rs a b hs i

each-split : (ss : List Sites) (rs : List Rules) (a : Scope) (b : Name → Bool) (at : ℕ) → Each Splits ss rs
    → first (each_from (λ r from. alone r (with a b) from) rs at) ≡ earlier (first (each_from (λ r from. alone r (plain a) from) rs at)) (first (back b (calls_from ss a at)))
each-split _ _ a b at none = no-parts []
each-split _ _ a b at (more {x = s} {y = r} {xs = ss} {ys = rs} h hs) =
    two-parts (alone r (with a b) at) (each_from (λ r from. alone r (with a b) from) rs (at + suc r.size)) (alone r (plain a) at) (each_from (λ r from. alone r (plain a) from) rs (at + suc r.size)) b
    (s.calls a at) (calls_from ss a (at + suc s.size)) (alone-split s r a b at h)
    (each-split ss rs a b (at + suc r.size) hs ∙ ap (λ n. earlier (first (each_from (λ r from. alone r (plain a) from) rs (at + suc r.size))) (first (back b (calls_from ss a (at + suc n))))) (sym h.size))

args-split : (ns : List ℕ) (ss : List Sites) (rs : List Rules) (a : Scope) (b : Name → Bool) (at : ℕ) → Each Splits ss rs
    → first (args_broken ns rs (with a b) at) ≡ earlier (first (args_broken ns rs (plain a) at)) (first (back b (calls_from ss a at)))
args-split [] _ _ a b at none = no-parts []
args-split (n ∷ ns) _ _ a b at none = no-parts []
args-split [] _ _ a b at (more {x = s} {y = r} {xs = ss} {ys = rs} h hs) =
    two-parts (alone r (with a b) at) (args_broken [] rs (with a b) (at + suc r.size)) (alone r (plain a) at) (args_broken [] rs (plain a) (at + suc r.size)) b
    (s.calls a at) (calls_from ss a (at + suc s.size)) (alone-split s r a b at h)
    (args-split [] ss rs a b (at + suc r.size) hs ∙ ap (λ n. earlier (first (args_broken [] rs (plain a) (at + suc r.size))) (first (back b (calls_from ss a (at + suc n))))) (sym h.size))
args-split (n ∷ ns) _ _ a b at (more {x = s} {y = r} {xs = ss} {ys = rs} h hs) =
    two-parts (r.broken (with a b) (max n (r.width (with a b))) at) (args_broken ns rs (with a b) (at + suc r.size)) (r.broken (plain a) (max n (r.width (plain a))) at)
    (args_broken ns rs (plain a) (at + suc r.size)) b (s.calls a at) (calls_from ss a (at + suc s.size))
    (ap (λ w. first (r.broken (with a b) (max n w) at)) (h.width a b) ∙ h.broken a b (max n (r.width (plain a))) at)
    (args-split ns ss rs a b (at + suc r.size) hs ∙ ap (λ m. earlier (first (args_broken ns rs (plain a) (at + suc r.size))) (first (back b (calls_from ss a (at + suc m))))) (sym h.size))

pub sels-same : (ss : List Sites) (rs : List SelRules) → Each SelSplits ss rs → sels_sites ss ≡ sels_size rs
sels-same _ _ none = refl
sels-same _ _ (more {xs = ss} {ys = rs} h hs) = λ i. h.size i + sels-same ss rs hs i

pub sels-split : (ss : List Sites) (rs : List SelRules) (a : Scope) (b : Name → Bool) (at : ℕ) → Each SelSplits ss rs
    → first (sels_broken rs (with a b) at) ≡ earlier (first (sels_broken rs (plain a) at)) (first (back b (calls_along ss a at)))
sels-split _ _ a b at none = no-parts []
sels-split _ _ a b at (more {x = s} {y = r} {xs = ss} {ys = rs} h hs) =
    two-parts (r.broken (with a b) at) (sels_broken rs (with a b) (at + r.size)) (r.broken (plain a) at) (sels_broken rs (plain a) (at + r.size)) b
    (s.calls a at) (calls_along ss a (at + s.size)) (h.broken a b at)
    (sels-split ss rs a b (at + r.size) hs ∙ ap (λ n. earlier (first (sels_broken rs (plain a) (at + r.size))) (first (back b (calls_along ss a (at + n))))) (sym h.size))

name-splits : (name : Name) (ss : List Sites) (rs : List SelRules) → Each SelSplits ss rs → Splits (prim_sites (VPrim-F.Name name ss)) (prim_rules (VPrim-F.Name name rs))
name-splits name ss rs hs = record {
  size = ap suc (sels-same ss rs hs);
  width = λ a b. refl;
  broken = λ a b w at.
      before (name_broken (a name) rs at) (sels_broken rs (with a b) (suc at)) (sels_broken rs (plain a) (suc at)) (first (back b (calls_along ss a (suc at)))) (sels-split ss rs a b (suc at) hs);
}

repeat-splits : (count : ℕ) (ss : List Sites) (rs : List Rules) → Each Splits ss rs → Splits (prim_sites (VPrim-F.Repeat count ss)) (prim_rules (VPrim-F.Repeat count rs))
repeat-splits count ss rs hs = record {
  size = ap (λ n. 5 + n) (listed-same ss rs hs);
  width = λ a b. ap (λ (ns : List ℕ). count * total ns) (widths-same ss rs a b hs);
  broken = λ a b w at.
      before (only_if (count == 0) (suc at)) (each_from (λ r from. alone r (with a b) from) rs (at + 3)) (each_from (λ r from. alone r (plain a) from) rs (at + 3))
      (first (back b (calls_from ss a (at + 3)))) (each-split ss rs a b (at + 3) hs);
}

concat-splits : (ss : List Sites) (rs : List Rules) → Each Splits ss rs → Splits (prim_sites (VPrim-F.Concat ss)) (prim_rules (VPrim-F.Concat rs))
concat-splits ss rs hs = record {
  size = ap (λ n. 2 + n) (listed-same ss rs hs);
  width = λ a b. ap (λ (ns : List ℕ). total ns) (widths-same ss rs a b hs);
  broken = λ a b w at. each-split ss rs a b (suc at) hs;
}

-- a call: where its name stands for no function, its token breaks a rule anyway
one-call : (b : Bool) (name : Name) (f : Name → Bool) (at : ℕ) → f name ≡ b → first (back f (named_at at (name ∷ []))) ≡ mark b (cap at)
one-call b name f at e = ap first (append-nil (only_if (f name) at)) ∙ first-if (f name) at ∙ ap (λ c. mark c (cap at)) e

same-mark : (n : ℕ) (b : Bool) → earlier (Some n) (mark b n) ≡ Some n
unfolding earlier
same-mark n true = ap Some (same n)
  where
    same : (n : ℕ) → min n n ≡ n
    same n = omega arith
same-mark n false = refl

no-function : (b : Bool) (at : ℕ) → earlier (first (at ∷ [])) (mark b (cap at)) ≡ earlier (first (at ∷ [])) (first [])
no-function b at =
    ap (λ o. earlier o (mark b (cap at))) (first-one at) ∙ same-mark (cap at) b ∙ sym (earlier-none (Some (cap at))) ∙ ap (λ o. earlier o None) (sym (first-one at))

own-call : (t : Option Thing) (name : Name) (rs : List Rules) (f : Name → Bool) (at : ℕ)
    → earlier (first (call_broken t rs at)) (mark (f name) (cap at)) ≡ earlier (first (call_broken t rs at)) (first (back f (named_at at (called t name))))
own-call (Some (function width inputs)) name rs f at = ap (earlier (first (only_if (not (length inputs == length rs)) at))) (sym (one-call (f name) name f at refl))
own-call (Some (result width ranged inputs)) name rs f at = ap (earlier (first (only_if (not (length inputs == length rs)) at))) (sym (one-call (f name) name f at refl))
own-call (Some (value kind width ranged)) name rs f at = no-function (f name) at
own-call (Some (memory width ranged)) name rs f at = no-function (f name) at
own-call (Some part) name rs f at = no-function (f name) at
own-call None name rs f at = no-function (f name) at

call-splits : (name : Name) (ss : List Sites) (rs : List Rules) → Each Splits ss rs → Splits (prim_sites (VPrim-F.Call name ss)) (prim_rules (VPrim-F.Call name rs))
call-splits name ss rs hs = record {
  size = ap (λ n. 3 + n) (listed-same ss rs hs);
  width = λ a b. refl;
  broken = λ a b w at.
      let c = call_broken (a name) rs at in
      let m = only_if (b name) at in
      let xs = args_broken (inputs_of (a name)) rs (with a b) (at + 2) in
      let us = args_broken (inputs_of (a name)) rs (plain a) (at + 2) in
      let own = named_at at (called (a name) name) in
      let ts = calls_from ss a (at + 2) in
      first-append c (m ++ xs)
      ∙ ap (earlier (first c)) (first-append m xs ∙ (λ i. earlier (first-if (b name) at i) (args-split (inputs_of (a name)) ss rs a b (at + 2) hs i)))
      ∙ sym (earlier-assoc (first c) (mark (b name) (cap at)) (earlier (first us) (first (back b ts))))
      ∙ ap (λ o. earlier o (earlier (first us) (first (back b ts)))) (own-call (a name) name rs b at)
      ∙ weave (first c) (first (back b own)) (first us) (first (back b ts))
      ∙ (λ i. earlier (sym (first-append c us) i) (sym (back-append b own ts) i));
}

decimal-splits : (base : ℕ) (extent : Option VExtent) → SelSplits (sel_sites (VSel-F.Decimal base extent)) (sel_rules (VSel-F.Decimal base extent))
decimal-splits base extent = record { size = refl; broken = λ a b at. no-parts (X.decimal_extent base extent (suc at)) }

moving-splits : (s : Sites) (r : Rules) (extent : Option VExtent) → Splits s r → SelSplits (sel_sites (VSel-F.Expr s extent)) (sel_rules (VSel-F.Expr r extent))
moving-splits s r extent h = record {
  size = ap (λ n. 2 + (n + extent_size extent)) h.size;
  broken = λ a b at.
      before (moving_extent extent (suc at)) (alone r (with a b) (suc at)) (alone r (plain a) (suc at)) (first (back b (s.calls a (suc at)))) (alone-split s r a b (suc at) h);
}

-- induction
abbrev P : VExpr → Type 0
P x = Splits (sites_of x) (rules_of x)

abbrev prim_of : VPrim → Rules
prim_of = fold-VPrim Rules Rules SelRules expr_rules prim_rules sel_rules

abbrev Q : VPrim → Type 0
Q x = Splits (prim_sites_of x) (prim_of x)

abbrev R : VSel → Type 0
R x = SelSplits (sel_sites_of x) (sel_rules_of x)

both : {s t : Sites} {r q : Rules} → s ≡ t → r ≡ q → Splits t q → Splits s r
both {s} {t} {r} {q} e f h = subst (λ (x : Sites). Splits x r) (sym e) (subst (λ (y : Rules). Splits t y) (sym f) h)

sel-both : {s t : Sites} {r q : SelRules} → s ≡ t → r ≡ q → SelSplits t q → SelSplits s r
sel-both {s} {t} {r} {q} e f h = subst (λ (x : Sites). SelSplits x r) (sym e) (subst (λ (y : SelRules). SelSplits t y) (sym f) h)

each-expr : (xs : List VExpr) → T.Each P xs → Each Splits (map sites_of xs) (map rules_of xs)
each-expr [] hs = none
each-expr (x ∷ xs) hs = more hs.0 (each-expr xs hs.1)

each-sel : (xs : List VSel) → T.Each R xs → Each SelSplits (map sel_sites_of xs) (map sel_rules_of xs)
each-sel [] hs = none
each-sel (x ∷ xs) hs = more hs.0 (each-sel xs hs.1)

steps : T.ExprSteps P Q R
steps = record {
  expr-prim = λ a h. both (L.at-prim expr_sites prim_sites sel_sites a) (L.at-prim expr_rules prim_rules sel_rules a) h;
  expr-unary = λ op a h. both (L.at-unary expr_sites prim_sites sel_sites op a) (L.at-unary expr_rules prim_rules sel_rules op a) (unary-splits op (prim_sites_of a) (prim_of a) h);
  expr-binary = λ op a b h k.
      both (L.at-binary expr_sites prim_sites sel_sites op a b) (L.at-binary expr_rules prim_rules sel_rules op a b)
      (binary-splits (kind_of op) (prim_sites_of a) (prim_sites_of b) (prim_of a) (prim_of b) h k);
  expr-choose = λ on a b g h k.
      both (L.at-choose expr_sites prim_sites sel_sites on a b) (L.at-choose expr_rules prim_rules sel_rules on a b)
      (choose-splits (prim_sites_of on) (prim_sites_of a) (prim_sites_of b) (prim_of on) (prim_of a) (prim_of b) g h k);
  prim-number = λ bits. both (L.at-number expr_sites prim_sites sel_sites bits) (L.at-number expr_rules prim_rules sel_rules bits) (number-splits bits);
  prim-paren = λ x h. both (L.at-paren expr_sites prim_sites sel_sites x) (L.at-paren expr_rules prim_rules sel_rules x) (paren-splits (sites_of x) (rules_of x) h);
  prim-name = λ n ss hs.
      both (L.at-name expr_sites prim_sites sel_sites n ss) (L.at-name expr_rules prim_rules sel_rules n ss)
      (name-splits n (map sel_sites_of ss) (map sel_rules_of ss) (each-sel ss hs));
  prim-call = λ n xs hs.
      both (L.at-call expr_sites prim_sites sel_sites n xs) (L.at-call expr_rules prim_rules sel_rules n xs)
      (call-splits n (map sites_of xs) (map rules_of xs) (each-expr xs hs));
  prim-repeat = λ count xs hs.
      both (L.at-repeat expr_sites prim_sites sel_sites count xs) (L.at-repeat expr_rules prim_rules sel_rules count xs)
      (repeat-splits count (map sites_of xs) (map rules_of xs) (each-expr xs hs));
  prim-concat = λ xs hs.
      both (L.at-concat expr_sites prim_sites sel_sites xs) (L.at-concat expr_rules prim_rules sel_rules xs)
      (concat-splits (map sites_of xs) (map rules_of xs) (each-expr xs hs));
  prim-sign = λ signed x h.
      both (L.at-sign expr_sites prim_sites sel_sites signed x) (L.at-sign expr_rules prim_rules sel_rules signed x)
      (sign-splits signed (sites_of x) (rules_of x) h);
  sel-decimal = λ base extent.
      sel-both (L.at-decimal expr_sites prim_sites sel_sites base extent) (L.at-decimal expr_rules prim_rules sel_rules base extent) (decimal-splits base extent);
  sel-expr = λ x extent h.
      sel-both (L.at-moving expr_sites prim_sites sel_sites x extent) (L.at-moving expr_rules prim_rules sel_rules x extent)
      (moving-splits (sites_of x) (rules_of x) extent h);
}

pub expr-splits : (x : VExpr) → Splits (sites_of x) (rules_of x)
expr-splits = T.ind-expr P Q R steps

pub sel-splits : (x : VSel) → SelSplits (sel_sites_of x) (sel_rules_of x)
sel-splits = T.ind-sel P Q R steps
