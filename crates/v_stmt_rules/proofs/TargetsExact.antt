-- What is kept of a target tells what the rules tell.
use Rattle.std.proofs.Common.{◌≡◌, ℕ, zero, suc, ◌+◌, ◌==◌, Bool, true, false, not, ◌&&◌, ◌||◌, List, [], ◌∷◌, ◌++◌, map, length, Option, Some, None, refl, sym, ap, ◌∙◌, subst, max, if◌then◌else◌, append_assoc, arith}
use Rattle.std.proofs.lemmas.Bool.Decides.{nat_tests}
use Rattle.std.proofs.lemmas.List.{append-nil}
use Rattle.v_tree.specs.Names.{Name}
use Rattle.v_tree.specs.Scopes.{named_bits}
use Rattle.v_tree.specs.ExprRules as X
use Rattle.v_tree.specs.ExprRules.{Around, Rules, SelRules, only_if, total, sels_broken, moving, name_broken, selected_of, sel_rules_of}
use Rattle.v_tree.specs.StmtRules as R
use Rattle.v_tree.specs.StmtRules.{Target, targets_size, each_target, any_signal, lval_target, target_of}
use Rattle.v_tree.specs.declared.expressions.VSel.{VSel}
use Rattle.v_tree.specs.declared.items.VItem.{VItem}
use Rattle.v_tree.specs.declared.statements.VLval.{VLval, VLval-F, fold-VLval, fold-roll-VLval}
use Rattle.v_tree.specs.declared.statements.VLval.TheVariants as L
use Rattle.v_tree.proofs.Induction as T
use Rattle.v_scopes.specs.Env.{Env}
use Rattle.v_scopes.specs.declared.entry.Entry.{Entry}
use Rattle.v_scopes.specs.declared.entry.Entry.TheVariants as N
use Rattle.v_scopes.specs.declared.entry.Kind.TheVariants as K
use Rattle.v_expr_rules.specs.declared.sels.SelsSeen.{SelsSeen}
use Rattle.v_expr_rules.specs.declared.seen.Seen.{Seen}
use Rattle.v_expr_rules.specs.Seen.{plus, bits_plus, bits_capped, earlier, mark, is_wide, in_context, commas, no_sels}
use Rattle.v_expr_rules.specs.Least.{cap, first}
use Rattle.v_expr_rules.specs.Walks.{SelWalk, sels_from, sel_seen}
use Rattle.v_expr_rules.specs.Things.{thing_in, around}
use Rattle.v_expr_rules.specs.Exact.{Fits}
use Rattle.v_expr_rules.proofs.Saturation.{plus-cap, bits_plus-capped, is_wide-capped, is_wide-max, first-append, first-if}
use Rattle.v_expr_rules.proofs.Operands.{sum-of, one-more, next-token}
use Rattle.v_expr_rules.proofs.Listed.{Each}
use Rattle.v_expr_rules.proofs.Listed.Each.{none, more}
use Rattle.v_expr_rules.proofs.Selects.{SelExact, SelsFits, sels-fit, name-marks, name-widths, nets}
use Rattle.v_expr_rules.proofs.Whole.{sel-exact}
use Rattle.v_stmt_rules.specs.declared.targets.TargetSeen.{TargetSeen}
use Rattle.v_stmt_rules.specs.Targets.{is_written, is_local, name_target, no_parts, part_added, concat_target, TargetWalk, parts_from, target_walk, target_seen, assigned}

pub record TargetFits (t : TargetSeen) (r : Target) (a : Around) (at : ℕ) : Type 0 where
  pub size : t.size ≡ cap r.size
  pub width : t.width ≡ bits_capped (r.width a)
  pub broken : t.broken ≡ first (r.broken a at)
  pub by_procedure : t.by_procedure ≡ first (r.by_procedure a at)
  pub by_assign : t.by_assign ≡ first (r.by_assign a at)
  pub signal : t.has_signal ≡ r.has_signal a

abbrev pub TargetExact : TargetWalk → Target → Type 0
TargetExact w r = (env : Env) (items : List VItem) (at : ℕ) → TargetFits (w env items (cap at)) r (around env items) at

written-of : (items : List VItem) (e : Option Entry) → is_written e ≡ R.is_written (thing_in items e)
written-of items None = refl
written-of items (Some (N.Value K.Input left)) = refl
written-of items (Some (N.Value K.Net left)) = refl
written-of items (Some (N.Value K.Variable left)) = refl
written-of items (Some (N.Value K.Local left)) = refl
written-of items (Some (N.Memory left)) = refl
written-of items (Some (N.Function left item)) = refl
written-of items (Some (N.Result left item)) = refl
written-of items (Some N.Part) = refl

local-of : (items : List VItem) (e : Option Entry) → is_local e ≡ R.is_local (thing_in items e)
local-of items None = refl
local-of items (Some (N.Value K.Input left)) = refl
local-of items (Some (N.Value K.Net left)) = refl
local-of items (Some (N.Value K.Variable left)) = refl
local-of items (Some (N.Value K.Local left)) = refl
local-of items (Some (N.Memory left)) = refl
local-of items (Some (N.Function left item)) = refl
local-of items (Some (N.Result left item)) = refl
local-of items (Some N.Part) = refl

name-fits : (env : Env) (items : List VItem) (name : Name) (sels : List VSel) (ss : SelsSeen) (at : ℕ) → SelsFits ss (map sel_rules_of sels) (around env items) (suc at)
    → TargetFits (name_target (env name) ss (cap at)) (lval_target (VLval-F.Name name sels)) (around env items) at
name-fits env items name sels ss at k = record {
  size = one-more ss.size (X.sels_size (map sel_rules_of sels)) k.size;
  width = name-widths items (env name) ss (map sel_rules_of sels) (around env items) (suc at) k;
  broken =
      (λ i. earlier (name-marks items (env name) ss (map sel_rules_of sels) (around env items) (suc at) at k i) (k.broken i))
      ∙ sym (first-append (name_broken (thing_in items (env name)) (map sel_rules_of sels) at) (sels_broken (map sel_rules_of sels) (around env items) (suc at)));
  by_procedure = ap (λ b. mark (not b) (cap at)) (written-of items (env name)) ∙ sym (first-if (not (R.is_written (thing_in items (env name)))) at);
  by_assign =
      (λ i. earlier (mark (not (nets items (env name) i)) (cap at)) (k.moves i))
      ∙ ap (λ x. earlier x (first (moving (map sel_rules_of sels) (suc at)))) (sym (first-if (not (X.is_net (thing_in items (env name)))) at))
      ∙ sym (first-append (only_if (not (X.is_net (thing_in items (env name)))) at) (moving (map sel_rules_of sels) (suc at)));
  signal = ap not (local-of items (env name));
}

-- lists of targets
abbrev before : List Target → ℕ
before [] = 0
before (r ∷ rs) = suc (r.size + before rs)

listed-push : (rs : List Target) (r : Target) → targets_size (rs ++ (r ∷ [])) ≡ before rs + r.size
listed-push [] r = omega arith
listed-push (q ∷ []) r = omega arith
listed-push (q ∷ p ∷ rs) r = let h = listed-push (p ∷ rs) r in omega (arith, h)

before-listed : (q : Target) (rs : List Target) → before (q ∷ rs) ≡ targets_size (q ∷ rs) + 1
before-listed q [] = omega arith
before-listed q (p ∷ rs) = let h = before-listed p rs in omega (arith, h)

not-first : (n size : ℕ) → commas (suc n) size ≡ plus size 1
not-first n size = ap (λ b. if b then 0 else plus size 1) (suc-test n)
  where
    suc-test : (n : ℕ) → (suc n == 0) ≡ false
    suc-test n = grind (arith, nat_tests)

commas-before : (rs : List Target) (size : ℕ) → size ≡ cap (targets_size rs) → commas (length rs) size ≡ cap (before rs)
commas-before [] size e = refl
commas-before (q ∷ rs) size e = not-first (length rs) size ∙ (λ i. plus (e i) 1) ∙ plus-cap (targets_size (q ∷ rs)) 1 ∙ ap cap (sym (before-listed q rs))

here : (at : ℕ) → at ≡ at + 0
here at = omega arith

behind : (at size further : ℕ) → (at + suc size) + further ≡ at + suc (size + further)
behind at size further = omega arith

each-push : (f : Target → ℕ → List ℕ) (rs : List Target) (r : Target) (at : ℕ) → each_target f (rs ++ (r ∷ [])) at ≡ each_target f rs at ++ f r (at + before rs)
each-push f [] r at = append-nil (f r at) ∙ ap (f r) (here at)
each-push f (q ∷ rs) r at =
    ap (λ (ts : List ℕ). f q at ++ ts) (each-push f rs r (at + suc q.size) ∙ ap (λ n. each_target f rs (at + suc q.size) ++ f r n) (behind at q.size (before rs)))
    ∙ sym (append_assoc (f q at) (each_target f rs (at + suc q.size)) (f r (at + before (q ∷ rs))))

abbrev widths : List Target → Around → ℕ
widths rs a = total (map (λ (t : Target). t.width a) rs)

total-push : (rs : List Target) (r : Target) (a : Around) → widths (rs ++ (r ∷ [])) a ≡ widths rs a + r.width a
total-push [] r a = omega arith
total-push (q ∷ rs) r a = let h = total-push rs r a in omega (arith, h)

or-first : (b c d : Bool) → (if b then true else (c || d)) ≡ ((if b then true else c) || d)
or-first true c d = refl
or-first false c d = refl

or-none : (b : Bool) → (if b then true else false) ≡ (false || b)
or-none true = refl
or-none false = refl

signal-push : (rs : List Target) (r : Target) (a : Around) → any_signal (rs ++ (r ∷ [])) a ≡ (any_signal rs a || r.has_signal a)
signal-push [] r a = or-none (r.has_signal a)
signal-push (q ∷ rs) r a = ap (λ b. if q.has_signal a then true else b) (signal-push rs r a) ∙ or-first (q.has_signal a) (any_signal rs a) (r.has_signal a)

record PartsFit (t : TargetSeen) (rs : List Target) (a : Around) (at : ℕ) : Type 0 where
  size : t.size ≡ cap (targets_size rs)
  width : t.width ≡ bits_capped (widths rs a)
  broken : t.broken ≡ first (each_target (λ r from. r.broken a from) rs at)
  by_procedure : t.by_procedure ≡ first (each_target (λ r from. r.by_procedure a from) rs at)
  by_assign : t.by_assign ≡ first (each_target (λ r from. r.by_assign a from) rs at)
  signal : t.has_signal ≡ any_signal rs a

no-bits : 0 ≡ bits_capped 0
unfolding bits_capped
no-bits = refl

each-fits : (f : Target → ℕ → List ℕ) (rs : List Target) (r : Target) (at : ℕ) (x y : Option ℕ) → x ≡ first (each_target f rs at) → y ≡ first (f r (at + before rs))
    → earlier x y ≡ first (each_target f (rs ++ (r ∷ [])) at)
each-fits f rs r at x y e h = (λ i. earlier (e i) (h i)) ∙ sym (first-append (each_target f rs at) (f r (at + before rs))) ∙ ap first (sym (each-push f rs r at))

one-part : (ts : TargetSeen) (rs : List Target) (t : TargetSeen) (r : Target) (a : Around) (at : ℕ) → PartsFit ts rs a at → TargetFits t r a (at + before rs)
    → PartsFit (part_added ts (commas (length rs) ts.size) t) (rs ++ (r ∷ [])) a at
one-part ts rs t r a at k f = record {
  size = sum-of (commas (length rs) ts.size) t.size (before rs) r.size (commas-before rs ts.size k.size) f.size ∙ ap cap (sym (listed-push rs r));
  width = (λ i. bits_plus (k.width i) (f.width i)) ∙ bits_plus-capped (widths rs a) (r.width a) ∙ ap bits_capped (sym (total-push rs r a));
  broken = each-fits (λ q from. q.broken a from) rs r at ts.broken t.broken k.broken f.broken;
  by_procedure = each-fits (λ q from. q.by_procedure a from) rs r at ts.by_procedure t.by_procedure k.by_procedure f.by_procedure;
  by_assign = each-fits (λ q from. q.by_assign a from) rs r at ts.by_assign t.by_assign k.by_assign f.by_assign;
  signal = (λ i. k.signal i || f.signal i) ∙ sym (signal-push rs r a);
}

push-length : (rs : List Target) (r : Target) → length (rs ++ (r ∷ [])) ≡ suc (length rs)
push-length [] r = refl
push-length (q ∷ rs) r = ap suc (push-length rs r)

from-parts : (ws : List TargetWalk) (qs : List Target) (env : Env) (items : List VItem) (at : ℕ) (ts : TargetSeen) (rs : List Target) → Each TargetExact ws qs
    → PartsFit ts rs (around env items) at → PartsFit (parts_from ws env items (cap at) (length rs) ts) (rs ++ qs) (around env items) at
from-parts _ _ env items at ts rs none k = subst (λ (ps : List Target). PartsFit ts ps (around env items) at) (sym (append-nil rs)) k
from-parts _ _ env items at ts rs (more {x = w} {y = q} {xs = ws} {ys = qs} e es) k =
    let from = plus (cap at) (commas (length rs) ts.size) in
    let start : from ≡ cap (at + before rs) = sum-of (cap at) (commas (length rs) ts.size) at (before rs) refl (commas-before rs ts.size k.size) in
    let f = subst (λ n. TargetFits (w env items n) q (around env items) (at + before rs)) (sym start) (e env items (at + before rs)) in
    let one = one-part ts rs (w env items from) q (around env items) at k f in
    let rest = from-parts ws qs env items at (part_added ts (commas (length rs) ts.size) (w env items from)) (rs ++ (q ∷ [])) es one in
    let counted =
    subst (λ n. PartsFit (parts_from ws env items (cap at) n (part_added ts (commas (length rs) ts.size) (w env items from))) ((rs ++ (q ∷ [])) ++ qs) (around env items) at)
    (push-length rs q) rest in
    subst (λ (ps : List Target). PartsFit (parts_from ws env items (cap at) (suc (length rs)) (part_added ts (commas (length rs) ts.size) (w env items from))) ps (around env items) at)
    (append_assoc rs (q ∷ []) qs) counted

no-parts : (a : Around) (at : ℕ) → PartsFit no_parts [] a at
no-parts a at = record { size = refl; width = no-bits; broken = refl; by_procedure = refl; by_assign = refl; signal = refl }

concat-exact : (ws : List TargetWalk) (qs : List Target) → Each TargetExact ws qs → TargetExact (target_walk (VLval-F.Concat ws)) (lval_target (VLval-F.Concat qs))
concat-exact ws qs es env items at =
    let k = subst (λ n. PartsFit (parts_from ws env items n 0 no_parts) qs (around env items) (suc at)) (sym (next-token at))
    (from-parts ws qs env items (suc at) no_parts [] es (no-parts (around env items) (suc at))) in
    record {
      size = sum-of 2 (parts_from ws env items (plus (cap at) 1) 0 no_parts).size 2 (targets_size qs) refl k.size;
      width = k.width;
      broken = k.broken;
      by_procedure = k.by_procedure;
      by_assign = k.by_assign;
      signal = k.signal;
    }

each-sel : (sels : List VSel) → Each SelExact (map sel_seen sels) (map sel_rules_of sels)
each-sel [] = none
each-sel (s ∷ ss) = more (sel-exact s) (each-sel ss)

name-exact : (name : Name) (sels : List VSel) → TargetExact (target_walk (VLval-F.Name name sels)) (lval_target (VLval-F.Name name sels))
name-exact name sels env items at =
    name-fits env items name sels (sels_from (map sel_seen sels) env items (plus (cap at) 1) no_sels) at
    (subst (λ n. SelsFits (sels_from (map sel_seen sels) env items n no_sels) (map sel_rules_of sels) (around env items) (suc at)) (sym (next-token at))
    (sels-fit (map sel_seen sels) (map sel_rules_of sels) env items (suc at) (each-sel sels)))

abbrev P : VLval → Type 0
P x = TargetExact (target_seen x) (target_of x)

each-lval : (xs : List VLval) → T.Each P xs → Each TargetExact (map target_seen xs) (map target_of xs)
each-lval [] hs = none
each-lval (x ∷ xs) hs = more hs.0 (each-lval xs hs.1)

both : {w v : TargetWalk} {r q : Target} → w ≡ v → r ≡ q → TargetExact v q → TargetExact w r
both {w} {v} {r} {q} e f h = subst (λ (x : TargetWalk). TargetExact x r) (sym e) (subst (λ (y : Target). TargetExact v y) (sym f) h)

module _ {A : Type 0} (f : VLval-F A → A) where
  at-name : (n : Name) (ss : List VSel) → fold-VLval A f (L.Name n ss) ≡ f (VLval-F.Name n ss)
  at-name n ss = ap (fold-VLval A f) (sym (L.rolls-Name n ss)) ∙ fold-roll-VLval A f (VLval-F.Name n ss)

  at-concat : (ls : List VLval) → fold-VLval A f (L.Concat ls) ≡ f (VLval-F.Concat (map (fold-VLval A f) ls))
  at-concat ls = ap (fold-VLval A f) (sym (L.rolls-Concat ls)) ∙ fold-roll-VLval A f (VLval-F.Concat ls)

pub target-exact : (x : VLval) → TargetExact (target_seen x) (target_of x)
target-exact = T.ind-lval P (record {
  lval-name = λ n ss. both (at-name target_walk n ss) (at-name lval_target n ss) (name-exact n ss);
  lval-concat = λ ls hs. both (at-concat target_walk ls) (at-concat lval_target ls) (concat-exact (map target_seen ls) (map target_of ls) (each-lval ls hs));
})

-- a value that is assigned
pub assigned-fits : (t : TargetSeen) (r : Target) (s : Seen) (q : Rules) (a : Around) (at from : ℕ) → TargetFits t r a at → Fits s q a from
    → assigned t s ≡ first (q.broken a (max (r.width a) (q.width a)) from)
assigned-fits t r s q a at from f g =
    (λ i. in_context s ((ap is_wide f.width ∙ is_wide-capped (r.width a)) i || (ap is_wide g.width ∙ is_wide-capped (q.width a)) i))
    ∙ ap (in_context s) (sym (is_wide-max (r.width a) (q.width a)))
    ∙ g.broken (max (r.width a) (q.width a))
