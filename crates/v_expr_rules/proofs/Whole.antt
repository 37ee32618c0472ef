-- What is kept of an expression tells what the rules tell.
use Rattle.std.proofs.Common.{◌≡◌, ℕ, suc, ◌+◌, ◌==◌, Bool, true, false, not, ◌&&◌, List, [], ◌∷◌, map, length, Option, Some, None, refl, sym, ap, ◌∙◌, subst}
use Rattle.std.proofs.lemmas.List.{length-map}
use Rattle.v_tree.specs.Names.{Name}
use Rattle.v_tree.specs.Scopes.{called_bits, bits_of}
use Rattle.v_tree.specs.ExprRules as X
use Rattle.v_tree.specs.ExprRules.{Around, Rules, SelRules, alone, only_if, total, widths, listed_size, each_from, args_broken, call_broken, expr_rules, prim_rules, sel_rules, rules_of, sel_rules_of, kind_of}
use Rattle.v_tree.specs.declared.expressions.VExpr.{VExpr, VExpr-F}
use Rattle.v_tree.specs.declared.expressions.VExtent.{VExtent}
use Rattle.v_tree.specs.declared.expressions.VPrim.{VPrim, VPrim-F, fold-VPrim}
use Rattle.v_tree.specs.declared.expressions.VSel.{VSel, VSel-F}
use Rattle.v_tree.specs.declared.items.VItem.{VItem}
use Rattle.v_tree.specs.declared.items.VLocal.{VLocal}
use Rattle.v_tree.specs.declared.operators.VBinaryOp.{VBinaryOp}
use Rattle.v_tree.specs.declared.operators.VUnaryOp.{VUnaryOp}
use Rattle.v_tree.proofs.Induction as T
use Rattle.v_scopes.specs.Env.{Env}
use Rattle.v_scopes.specs.declared.entry.Entry.{Entry}
use Rattle.v_scopes.specs.declared.entry.Entry.TheVariants as N
use Rattle.v_expr_rules.specs.declared.seen.Seen.{Seen}
use Rattle.v_expr_rules.specs.declared.lists.ListSeen.{ListSeen}
use Rattle.v_expr_rules.specs.Seen.{plus, earlier, mark, bits_capped, bits_times, is_wide, in_context, call_bits, is_function, call_seen, concat_seen, repeat_seen, no_items, no_sels}
use Rattle.v_expr_rules.specs.Least.{cap, first}
use Rattle.v_expr_rules.specs.Walks.{Walk, SelWalk, inputs_of, list_from, sels_from, expr_walk, prim_walk, sel_walk, expr_seen, prim_seen, sel_seen}
use Rattle.v_expr_rules.specs.Things.{thing_in, widths_of, around}
use Rattle.v_expr_rules.specs.Exact.{Fits, Exact}
use Rattle.v_expr_rules.proofs.Saturation.{plus-cap, bits_times-capped, first-append, first-if, first-one}
use Rattle.v_expr_rules.proofs.Operands.{sum-of, one-more, next-token, number-fits, paren-fits, sign-fits, binary-fits, unary-fits, choose-fits}
use Rattle.v_expr_rules.proofs.Listed.{Each, ListFits, list-fits, args-alone}
use Rattle.v_expr_rules.proofs.Listed.Each.{none, more}
use Rattle.v_expr_rules.proofs.Selects.{SelExact, SelsFits, decimal-fits, moving-fits, sels-fit, name-fits}
use Rattle.v_expr_rules.proofs.Levels as L

in_both : (s : Seen) (w : Bool) → s.narrow ≡ s.wide → in_context s w ≡ s.wide
in_both s true e = refl
in_both s false e = e

no-bits : 0 ≡ bits_capped 0
unfolding bits_capped
no-bits = refl

from-alone : (qs : List Rules) (a : Around) (at : ℕ) (x : Option ℕ) → x ≡ first (args_broken [] qs a at) → x ≡ first (each_from (λ r from. alone r a from) qs at)
from-alone qs a at x e = e ∙ ap first (args-alone qs a at)

concat-fits : (l : ListSeen) (qs : List Rules) (a : Around) (at : ℕ) → ListFits l qs [] a (suc at) → Fits (concat_seen l) (prim_rules (VPrim-F.Concat qs)) a at
concat-fits l qs a at k = record {
  size = sum-of 2 l.size 2 (listed_size qs) refl k.size;
  width = k.width;
  broken = λ w. in_both (concat_seen l) (is_wide w) refl ∙ from-alone qs a (suc at) l.first k.broken;
  target = k.target;
  driven = k.driven;
}

repeat-fits : (count : ℕ) (l : ListSeen) (qs : List Rules) (a : Around) (at : ℕ) → ListFits l qs [] a (at + 3) → Fits (repeat_seen count l (cap at)) (prim_rules (VPrim-F.Repeat count qs)) a at
repeat-fits count l qs a at k = record {
  size = sum-of 5 l.size 5 (listed_size qs) refl k.size;
  width = ap (bits_times count) k.width ∙ bits_times-capped count (total (widths qs a));
  broken = λ w.
      in_both (repeat_seen count l (cap at)) (is_wide w) refl
      ∙ (λ i. earlier (mark (count == 0) (next-token at i)) (from-alone qs a (at + 3) l.first k.broken i))
      ∙ ap (λ x. earlier x (first (each_from (λ r from. alone r a from) qs (at + 3)))) (sym (first-if (count == 0) (suc at)))
      ∙ sym (first-append (only_if (count == 0) (suc at)) (each_from (λ r from. alone r a from) qs (at + 3)));
  target = refl;
  driven = refl;
}

inputs-are : (items : List VItem) (e : Option Entry) → widths_of (inputs_of items e) ≡ X.inputs_of (thing_in items e)
inputs-are items None = refl
inputs-are items (Some (N.Value kind left)) = refl
inputs-are items (Some (N.Memory left)) = refl
inputs-are items (Some (N.Function left item)) = refl
inputs-are items (Some (N.Result left item)) = refl
inputs-are items (Some N.Part) = refl

calls-bits : (items : List VItem) (e : Option Entry) → call_bits e ≡ bits_capped (called_bits (thing_in items e))
calls-bits items None = no-bits
calls-bits items (Some (N.Value kind left)) = no-bits
calls-bits items (Some (N.Memory left)) = no-bits
calls-bits items (Some (N.Function left item)) = refl
calls-bits items (Some (N.Result left item)) = refl
calls-bits items (Some N.Part) = no-bits

call-marks : (items : List VItem) (e : Option Entry) (n : ℕ) (qs : List Rules) (at : ℕ) → n ≡ length qs
    → mark (not (is_function e && (length (inputs_of items e) == n))) (cap at) ≡ first (call_broken (thing_in items e) qs at)
call-marks items None n qs at e = sym (first-one at)
call-marks items (Some (N.Value kind left)) n qs at e = sym (first-one at)
call-marks items (Some (N.Memory left)) n qs at e = sym (first-one at)
call-marks items (Some (N.Function left item)) n qs at e =
    (λ i. mark (not (sym (length-map (inputs_of items (Some (N.Function left item))) (λ (l : VLocal). bits_of l.range)) i == e i)) (cap at))
    ∙ sym (first-if (not (length (widths_of (inputs_of items (Some (N.Function left item)))) == length qs)) at)
call-marks items (Some (N.Result left item)) n qs at e =
    (λ i. mark (not (sym (length-map (inputs_of items (Some (N.Result left item))) (λ (l : VLocal). bits_of l.range)) i == e i)) (cap at))
    ∙ sym (first-if (not (length (widths_of (inputs_of items (Some (N.Result left item)))) == length qs)) at)
call-marks items (Some N.Part) n qs at e = sym (first-one at)

call-fits : (env : Env) (items : List VItem) (name : Name) (n : ℕ) (l : ListSeen) (qs : List Rules) (at : ℕ) → n ≡ length qs
    → ListFits l qs (widths_of (inputs_of items (env name))) (around env items) (at + 2)
    → Fits (call_seen (env name) (length (inputs_of items (env name))) n l (cap at)) (prim_rules (VPrim-F.Call name qs)) (around env items) at
call-fits env items name n l qs at count k = record {
  size = sum-of 3 l.size 3 (listed_size qs) refl k.size;
  width = calls-bits items (env name);
  broken = λ w.
      in_both (call_seen (env name) (length (inputs_of items (env name))) n l (cap at)) (is_wide w) refl
      ∙ (λ i. earlier (call-marks items (env name) n qs at count i) (k.broken i))
      ∙ ap (λ ns. earlier (first (call_broken (thing_in items (env name)) qs at)) (first (args_broken ns qs (around env items) (at + 2)))) (inputs-are items (env name))
      ∙ sym (first-append (call_broken (thing_in items (env name)) qs at) (args_broken (X.inputs_of (thing_in items (env name))) qs (around env items) (at + 2)));
  target = refl;
  driven = refl;
}

-- the forms, wherever they begin
from-token : (w : Walk) (r : Rules) (env : Env) (items : List VItem) (n at : ℕ) → Exact w r → n ≡ cap at → Fits (w env items n) r (around env items) at
from-token w r env items n at h e = subst (λ m. Fits (w env items m) r (around env items) at) (sym e) (h env items at)

behind-one : (w : Walk) (r : Rules) (env : Env) (items : List VItem) (at : ℕ) → Fits (w env items (cap at)) r (around env items) at
    → plus (cap at) (plus 1 (w env items (cap at)).size) ≡ cap (at + suc r.size)
behind-one w r env items at f = sum-of (cap at) (plus 1 (w env items (cap at)).size) at (suc r.size) refl (one-more (w env items (cap at)).size r.size f.size)

paren-exact : (w : Walk) (r : Rules) → Exact w r → Exact (prim_walk (VPrim-F.Paren w)) (prim_rules (VPrim-F.Paren r))
paren-exact w r h env items at = paren-fits (w env items (plus (cap at) 1)) r (around env items) at (from-token w r env items (plus (cap at) 1) (suc at) h (next-token at))

sign-exact : (signed : Bool) (w : Walk) (r : Rules) → Exact w r → Exact (prim_walk (VPrim-F.Sign signed w)) (prim_rules (VPrim-F.Sign signed r))
sign-exact signed w r h env items at =
    sign-fits (w env items (plus (cap at) 2)) r (around env items) at signed (from-token w r env items (plus (cap at) 2) (at + 2) h (plus-cap at 2))

unary-exact : (op : VUnaryOp) (w : Walk) (r : Rules) → Exact w r → Exact (expr_walk (VExpr-F.Unary op w)) (expr_rules (VExpr-F.Unary op r))
unary-exact op w r h env items at = unary-fits op (w env items (plus (cap at) 1)) r (around env items) at (from-token w r env items (plus (cap at) 1) (suc at) h (next-token at))

binary-exact : (op : VBinaryOp) (w v : Walk) (r q : Rules) → Exact w r → Exact v q → Exact (expr_walk (VExpr-F.Binary op w v)) (expr_rules (VExpr-F.Binary op r q))
binary-exact op w v r q h k env items at =
    let f = h env items at in
    binary-fits (kind_of op) (w env items (cap at)) (v env items (plus (cap at) (plus 1 (w env items (cap at)).size))) r q (around env items) at f
    (from-token v q env items (plus (cap at) (plus 1 (w env items (cap at)).size)) (at + suc r.size) k (behind-one w r env items at f))

choose-exact : (u w v : Walk) (o r q : Rules) → Exact u o → Exact w r → Exact v q → Exact (expr_walk (VExpr-F.Choose u w v)) (expr_rules (VExpr-F.Choose o r q))
choose-exact u w v o r q g h k env items at =
    let e = g env items at in
    let from = plus (cap at) (plus 1 (u env items (cap at)).size) in
    let f = from-token w r env items from (at + suc o.size) h (behind-one u o env items at e) in
    let last = plus (cap at) (plus (plus 1 (u env items (cap at)).size) (plus 1 (w env items from).size)) in
    choose-fits (u env items (cap at)) (w env items from) (v env items last) o r q (around env items) at e f
    (from-token v q env items last (at + (suc o.size + suc r.size)) k
    (sum-of (cap at) (plus (plus 1 (u env items (cap at)).size) (plus 1 (w env items from).size)) at (suc o.size + suc r.size) refl
    (sum-of (plus 1 (u env items (cap at)).size) (plus 1 (w env items from).size) (suc o.size) (suc r.size) (one-more (u env items (cap at)).size o.size e.size) (one-more (w env items from).size r.size f.size))))

list-at : (ws : List Walk) (qs : List Rules) (env : Env) (items : List VItem) (e : Option Entry) (n at : ℕ) → Each Exact ws qs → n ≡ cap at
    → ListFits (list_from ws env items (inputs_of items e) n 0 no_items) qs (widths_of (inputs_of items e)) (around env items) at
list-at ws qs env items e n at es is =
    subst (λ m. ListFits (list_from ws env items (inputs_of items e) m 0 no_items) qs (widths_of (inputs_of items e)) (around env items) at) (sym is)
    (list-fits ws qs env items (inputs_of items e) at es)

each-length : (ws : List Walk) (qs : List Rules) → Each Exact ws qs → length ws ≡ length qs
each-length _ _ none = refl
each-length _ _ (more {xs = ws} {ys = qs} e es) = ap suc (each-length ws qs es)

concat-exact : (ws : List Walk) (qs : List Rules) → Each Exact ws qs → Exact (prim_walk (VPrim-F.Concat ws)) (prim_rules (VPrim-F.Concat qs))
concat-exact ws qs es env items at =
    concat-fits (list_from ws env items [] (plus (cap at) 1) 0 no_items) qs (around env items) at (list-at ws qs env items None (plus (cap at) 1) (suc at) es (next-token at))

repeat-exact : (count : ℕ) (ws : List Walk) (qs : List Rules) → Each Exact ws qs → Exact (prim_walk (VPrim-F.Repeat count ws)) (prim_rules (VPrim-F.Repeat count qs))
repeat-exact count ws qs es env items at =
    repeat-fits count (list_from ws env items [] (plus (cap at) 3) 0 no_items) qs (around env items) at (list-at ws qs env items None (plus (cap at) 3) (at + 3) es (plus-cap at 3))

call-exact : (name : Name) (ws : List Walk) (qs : List Rules) → Each Exact ws qs → Exact (prim_walk (VPrim-F.Call name ws)) (prim_rules (VPrim-F.Call name qs))
call-exact name ws qs es env items at =
    call-fits env items name (length ws) (list_from ws env items (inputs_of items (env name)) (plus (cap at) 2) 0 no_items) qs at (each-length ws qs es)
    (list-at ws qs env items (env name) (plus (cap at) 2) (at + 2) es (plus-cap at 2))

sels-at : (ws : List SelWalk) (qs : List SelRules) (env : Env) (items : List VItem) (n at : ℕ) → Each SelExact ws qs → n ≡ cap at
    → SelsFits (sels_from ws env items n no_sels) qs (around env items) at
sels-at ws qs env items n at es is = subst (λ m. SelsFits (sels_from ws env items m no_sels) qs (around env items) at) (sym is) (sels-fit ws qs env items at es)

name-exact : (name : Name) (ws : List SelWalk) (qs : List SelRules) → Each SelExact ws qs → Exact (prim_walk (VPrim-F.Name name ws)) (prim_rules (VPrim-F.Name name qs))
name-exact name ws qs es env items at = name-fits env items name (sels_from ws env items (plus (cap at) 1) no_sels) qs at (sels-at ws qs env items (plus (cap at) 1) (suc at) es (next-token at))

-- induction
abbrev P : VExpr → Type 0
P x = Exact (expr_seen x) (rules_of x)

abbrev prim_of : VPrim → Rules
prim_of = fold-VPrim Rules Rules SelRules expr_rules prim_rules sel_rules

abbrev Q : VPrim → Type 0
Q x = Exact (prim_seen x) (prim_of x)

abbrev R : VSel → Type 0
R x = SelExact (sel_seen x) (sel_rules_of x)

both : {w v : Walk} {r q : Rules} → w ≡ v → r ≡ q → Exact v q → Exact w r
both {w} {v} {r} {q} e f h = subst (λ (x : Walk). Exact x r) (sym e) (subst (λ (y : Rules). Exact v y) (sym f) h)

sel-both : {w v : SelWalk} {r q : SelRules} → w ≡ v → r ≡ q → SelExact v q → SelExact w r
sel-both {w} {v} {r} {q} e f h = subst (λ (x : SelWalk). SelExact x r) (sym e) (subst (λ (y : SelRules). SelExact v y) (sym f) h)

each-expr : (xs : List VExpr) → T.Each P xs → Each Exact (map expr_seen xs) (map rules_of xs)
each-expr [] hs = none
each-expr (x ∷ xs) hs = more hs.0 (each-expr xs hs.1)

each-sel : (xs : List VSel) → T.Each R xs → Each SelExact (map sel_seen xs) (map sel_rules_of xs)
each-sel [] hs = none
each-sel (x ∷ xs) hs = more hs.0 (each-sel xs hs.1)

moving-exact : (w : Walk) (r : Rules) (extent : Option VExtent) → Exact w r → SelExact (sel_walk (VSel-F.Expr w extent)) (sel_rules (VSel-F.Expr r extent))
moving-exact w r extent h env items at =
    moving-fits (w env items (plus (cap at) 1)) r extent (around env items) at (from-token w r env items (plus (cap at) 1) (suc at) h (next-token at))

steps : T.ExprSteps P Q R
steps = record {
  expr-prim = λ a h. both (L.at-prim expr_walk prim_walk sel_walk a) (L.at-prim expr_rules prim_rules sel_rules a) h;
  expr-unary = λ op a h. both (L.at-unary expr_walk prim_walk sel_walk op a) (L.at-unary expr_rules prim_rules sel_rules op a) (unary-exact op (prim_seen a) (prim_of a) h);
  expr-binary = λ op a b h k.
      both (L.at-binary expr_walk prim_walk sel_walk op a b) (L.at-binary expr_rules prim_rules sel_rules op a b)
      (binary-exact op (prim_seen a) (prim_seen b) (prim_of a) (prim_of b) h k);
  expr-choose = λ on a b g h k.
      both (L.at-choose expr_walk prim_walk sel_walk on a b) (L.at-choose expr_rules prim_rules sel_rules on a b)
      (choose-exact (prim_seen on) (prim_seen a) (prim_seen b) (prim_of on) (prim_of a) (prim_of b) g h k);
  prim-number = λ bits.
      both (L.at-number expr_walk prim_walk sel_walk bits) (L.at-number expr_rules prim_rules sel_rules bits) (λ env items at. number-fits bits (around env items) at);
  prim-paren = λ x h. both (L.at-paren expr_walk prim_walk sel_walk x) (L.at-paren expr_rules prim_rules sel_rules x) (paren-exact (expr_seen x) (rules_of x) h);
  prim-name = λ n ss hs.
      both (L.at-name expr_walk prim_walk sel_walk n ss) (L.at-name expr_rules prim_rules sel_rules n ss)
      (name-exact n (map sel_seen ss) (map sel_rules_of ss) (each-sel ss hs));
  prim-call = λ n xs hs.
      both (L.at-call expr_walk prim_walk sel_walk n xs) (L.at-call expr_rules prim_rules sel_rules n xs)
      (call-exact n (map expr_seen xs) (map rules_of xs) (each-expr xs hs));
  prim-repeat = λ count xs hs.
      both (L.at-repeat expr_walk prim_walk sel_walk count xs) (L.at-repeat expr_rules prim_rules sel_rules count xs)
      (repeat-exact count (map expr_seen xs) (map rules_of xs) (each-expr xs hs));
  prim-concat = λ xs hs.
      both (L.at-concat expr_walk prim_walk sel_walk xs) (L.at-concat expr_rules prim_rules sel_rules xs)
      (concat-exact (map expr_seen xs) (map rules_of xs) (each-expr xs hs));
  prim-sign = λ signed x h.
      both (L.at-sign expr_walk prim_walk sel_walk signed x) (L.at-sign expr_rules prim_rules sel_rules signed x)
      (sign-exact signed (expr_seen x) (rules_of x) h);
  sel-decimal = λ base extent.
      sel-both (L.at-decimal expr_walk prim_walk sel_walk base extent) (L.at-decimal expr_rules prim_rules sel_rules base extent)
      (λ env items at. decimal-fits base extent (around env items) at);
  sel-expr = λ x extent h.
      sel-both (L.at-moving expr_walk prim_walk sel_walk x extent) (L.at-moving expr_rules prim_rules sel_rules x extent)
      (moving-exact (expr_seen x) (rules_of x) extent h);
}

pub expr-exact : (x : VExpr) → Exact (expr_seen x) (rules_of x)
expr-exact = T.ind-expr P Q R steps

pub sel-exact : (x : VSel) → SelExact (sel_seen x) (sel_rules_of x)
sel-exact = T.ind-sel P Q R steps
