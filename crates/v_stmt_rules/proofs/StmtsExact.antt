-- What is kept of a statement tells what the rules tell.
use Rattle.std.proofs.Common.{◌≡◌, ℕ, zero, suc, ◌+◌, Bool, true, false, not, List, [], ◌∷◌, ◌++◌, map, length, Option, Some, None, refl, sym, ap, ◌∙◌, subst, max, is_some, append_assoc, arith}
use Rattle.std.proofs.lemmas.List.{append-nil}
use Rattle.v_tree.specs.Names.{Name}
use Rattle.v_tree.specs.Scopes.{Thing, part, Declared, Scope, inside, is_declared, repeated}
use Rattle.v_tree.specs.ExprRules.{Around, Rules, alone, only_if, total, listed_size, rules_of, calls_in}
use Rattle.v_tree.specs.StmtRules as R
use Rattle.v_tree.specs.StmtRules.{StmtRules, ItemRules, stmts_size, blocks_in, stmts_broken, calls_in_stmts, widest, widest_item, values_at, item_values, bodies, else_rules, block_rules, branch_rules, item_rules, stmt_rules, rules_of_stmt, rules_of_branch, target_of, mark_breaks, locals_size}
use Rattle.v_tree.specs.declared.expressions.VExpr.{VExpr}
use Rattle.v_tree.specs.declared.items.VItem.{VItem}
use Rattle.v_tree.specs.declared.items.VLocal.{VLocal}
use Rattle.v_tree.specs.declared.statements.VBranch.{VBranch, VBranch-F, fold-VBranch, fold-roll-VBranch}
use Rattle.v_tree.specs.declared.statements.VBranch.TheVariants as G
use Rattle.v_tree.specs.declared.statements.VCaseItem.{VCaseItem, VCaseItem-F, fold-VCaseItem, fold-roll-VCaseItem}
use Rattle.v_tree.specs.declared.statements.VCaseItem.TheVariants as C
use Rattle.v_tree.specs.declared.statements.VCaseKind.{VCaseKind}
use Rattle.v_tree.specs.declared.statements.VLabel.{VLabel}
use Rattle.v_tree.specs.declared.statements.VLval.{VLval}
use Rattle.v_tree.specs.declared.statements.VStmt.{VStmt, VStmt-F, fold-VStmt, fold-roll-VStmt}
use Rattle.v_tree.specs.declared.statements.VStmt.TheVariants as T
use Rattle.v_tree.proofs.Induction as I
use Rattle.v_scopes.specs.Env.{Env}
use Rattle.v_block_names.specs.Blocks.{parts_given, locals_given}
use Rattle.v_expr_rules.specs.declared.seen.Seen.{Seen}
use Rattle.v_expr_rules.specs.Seen.{plus, bits_capped, earlier, mark, is_wide, in_context, commas}
use Rattle.v_expr_rules.specs.Seen as S
use Rattle.v_expr_rules.specs.Least.{cap, first}
use Rattle.v_expr_rules.specs.Walks.{Walk, expr_seen}
use Rattle.v_expr_rules.specs.Things.{thing_in, around}
use Rattle.v_expr_rules.specs.Exact.{Fits, Exact}
use Rattle.v_expr_rules.proofs.Saturation.{plus-cap, max-capped, is_wide-capped, earlier-none, none-earlier, earlier-assoc, earlier-comm, first-append, first-if, first-one}
use Rattle.v_expr_rules.proofs.Operands.{sum-of, one-more, next-token, alone-of}
use Rattle.v_expr_rules.proofs.Listed.{Each, before, listed-push, commas-before, each-push, push-length}
use Rattle.v_expr_rules.proofs.Listed.Each.{none, more}
use Rattle.v_expr_rules.proofs.Whole.{expr-exact}
use Rattle.v_stmt_rules.specs.declared.cases.CaseSeen.{CaseSeen}
use Rattle.v_stmt_rules.specs.declared.cases.ValuesSeen.{ValuesSeen}
use Rattle.v_stmt_rules.specs.declared.statements.StmtSeen.{StmtSeen}
use Rattle.v_stmt_rules.specs.declared.targets.Procedure.{Procedure}
use Rattle.v_stmt_rules.specs.declared.targets.TargetSeen.{TargetSeen}
use Rattle.v_stmt_rules.specs.Labels.{Adds, in_turn, else_labels}
use Rattle.v_stmt_rules.specs.Targets.{procedure_of, target_seen, assigned}
use Rattle.v_stmt_rules.specs.Stmts.{nothing, meets, Told, CaseTold, no_values, value_added, values_from, case_item, default_item, no_cases, case_added, case_values, case_seen, locals_from, no_stmts, stmt_added, begin_end, named_block, if_seen, else_seen, empty_seen, assign_seen, StmtTold, ItemTold, stmt_labels, item_labels, labels_in, stmts_from, cases_from, begun, block_given, block_walk, plain_walk, else_walk, if_walk, case_walk, assign_walk, item_walk, default_walk, branch_step, item_step, block_step, stmt_step, branch_told, item_told, stmt_told}
use Rattle.v_stmt_rules.proofs.TargetsExact.{TargetFits, target-exact, assigned-fits}
use Rattle.v_stmt_rules.proofs.Declared.{weave, Meets, meets-more, afters, afters-append, first-repeated-append, first-repeated, LocalsFit, locals-fit, inside-append, things, things-locals, things-parts, AllParts, parts-append, names_of, names-append}

-- what is told of a statement that begins at a token, behind these names of its scope
pub record StmtFits (t : Told) (r : StmtRules) (p : R.Procedure) (a : Around) (at : ℕ) (ds : List Declared) : Type 0 where
  pub size : t.seen.size ≡ cap r.size
  pub broken : t.seen.first ≡ earlier (first (repeated ds (r.blocks at))) (first (r.broken p a at))
  pub met : Meets t.met (afters (r.blocks at) ds)

pub record StmtExact (t : StmtTold) (r : StmtRules) : Type 0 where
  pub labels : (to : List Name) (at : ℕ) → t.labels to ≡ to ++ names_of (r.blocks at)
  pub parts : (at : ℕ) → AllParts (r.blocks at)
  pub walk : (p : Procedure) (env : Env) (items : List VItem) (at : ℕ) (met : Env) (ds : List Declared) → Meets met ds
      → StmtFits (t.walk p env items (cap at) met) r (procedure_of p) (around env items) at ds

-- values
pub record ValuesFit (v : ValuesSeen) (rs : List Rules) (a : Around) (at : ℕ) : Type 0 where
  pub size : v.size ≡ cap (listed_size rs)
  pub width : v.width ≡ bits_capped (widest rs a)
  pub narrow : (w : ℕ) → is_wide w ≡ false → v.narrow ≡ first (values_at w rs a at)
  pub wide : (w : ℕ) → is_wide w ≡ true → v.wide ≡ first (values_at w rs a at)

in-narrow : (s : Seen) (r : Rules) (a : Around) (at w : ℕ) → Fits s r a at → is_wide w ≡ false → s.narrow ≡ first (r.broken a w at)
in-narrow s r a at w f e = ap (in_context s) (sym e) ∙ f.broken w

in-wide : (s : Seen) (r : Rules) (a : Around) (at w : ℕ) → Fits s r a at → is_wide w ≡ true → s.wide ≡ first (r.broken a w at)
in-wide s r a at w f e = ap (in_context s) (sym e) ∙ f.broken w

max-assoc : (m n k : ℕ) → max m (max n k) ≡ max (max m n) k
max-assoc m n k = omega arith

max-zero : (n : ℕ) → max n 0 ≡ max 0 n
max-zero n = omega arith

widest-push : (rs : List Rules) (r : Rules) (a : Around) → widest (rs ++ (r ∷ [])) a ≡ max (widest rs a) (r.width a)
widest-push [] r a = max-zero (r.width a)
widest-push (q ∷ rs) r a = ap (max (q.width a)) (widest-push rs r a) ∙ max-assoc (q.width a) (widest rs a) (r.width a)

values-push : (w : ℕ) (rs : List Rules) (r : Rules) (a : Around) (at : ℕ) (x y : Option ℕ) → x ≡ first (values_at w rs a at) → y ≡ first (r.broken a w (at + before rs))
    → earlier x y ≡ first (values_at w (rs ++ (r ∷ [])) a at)
values-push w rs r a at x y e h =
    (λ i. earlier (e i) (h i)) ∙ sym (first-append (values_at w rs a at) (r.broken a w (at + before rs))) ∙ ap first (sym (each-push (λ q from. q.broken a w from) rs r at))

one-value : (v : ValuesSeen) (rs : List Rules) (s : Seen) (r : Rules) (a : Around) (at : ℕ) → ValuesFit v rs a at → Fits s r a (at + before rs)
    → ValuesFit (value_added v (commas (length rs) v.size) s) (rs ++ (r ∷ [])) a at
one-value v rs s r a at k f = record {
  size = sum-of (commas (length rs) v.size) s.size (before rs) r.size (commas-before rs v.size k.size) f.size ∙ ap cap (sym (listed-push rs r));
  width = (λ i. max (k.width i) (f.width i)) ∙ max-capped (widest rs a) (r.width a) ∙ ap bits_capped (sym (widest-push rs r a));
  narrow = λ w e. values-push w rs r a at v.narrow s.narrow (k.narrow w e) (in-narrow s r a (at + before rs) w f e);
  wide = λ w e. values-push w rs r a at v.wide s.wide (k.wide w e) (in-wide s r a (at + before rs) w f e);
}

from-values : (ws : List Walk) (qs : List Rules) (env : Env) (items : List VItem) (at : ℕ) (v : ValuesSeen) (rs : List Rules) → Each Exact ws qs
    → ValuesFit v rs (around env items) at → ValuesFit (values_from ws env items (cap at) (length rs) v) (rs ++ qs) (around env items) at
from-values _ _ env items at v rs none k = subst (λ (ps : List Rules). ValuesFit v ps (around env items) at) (sym (append-nil rs)) k
from-values _ _ env items at v rs (more {x = w} {y = q} {xs = ws} {ys = qs} e es) k =
    let from = plus (cap at) (commas (length rs) v.size) in
    let start : from ≡ cap (at + before rs) = sum-of (cap at) (commas (length rs) v.size) at (before rs) refl (commas-before rs v.size k.size) in
    let f = subst (λ n. Fits (w env items n) q (around env items) (at + before rs)) (sym start) (e env items (at + before rs)) in
    let one = one-value v rs (w env items from) q (around env items) at k f in
    let rest = from-values ws qs env items at (value_added v (commas (length rs) v.size) (w env items from)) (rs ++ (q ∷ [])) es one in
    let counted =
    subst (λ n. ValuesFit (values_from ws env items (cap at) n (value_added v (commas (length rs) v.size) (w env items from))) ((rs ++ (q ∷ [])) ++ qs) (around env items) at) (push-length rs q) rest in
    subst (λ (ps : List Rules). ValuesFit (values_from ws env items (cap at) (suc (length rs)) (value_added v (commas (length rs) v.size) (w env items from))) ps (around env items) at)
    (append_assoc rs (q ∷ []) qs) counted

no-bits : 0 ≡ bits_capped 0
unfolding bits_capped
no-bits = refl

each-exact : (xs : List VExpr) → Each Exact (map expr_seen xs) (map rules_of xs)
each-exact [] = none
each-exact (x ∷ xs) = more (expr-exact x) (each-exact xs)

pub values-fit : (xs : List VExpr) (env : Env) (items : List VItem) (at : ℕ) → ValuesFit (values_from (map expr_seen xs) env items (cap at) 0 no_values) (map rules_of xs) (around env items) at
values-fit xs env items at =
    from-values (map expr_seen xs) (map rules_of xs) env items at no_values [] (each-exact xs)
    (record { size = refl; width = no-bits; narrow = λ w e. refl; wide = λ w e. refl })

-- statements one behind the other
labels-of : (ts : List StmtTold) (rs : List StmtRules) (to : List Name) (at : ℕ) → Each StmtExact ts rs → in_turn (stmt_labels ts) to ≡ to ++ names_of (blocks_in rs at)
labels-of _ _ to at none = sym (append-nil to)
labels-of _ _ to at (more {x = t} {y = r} {xs = ts} {ys = rs} e es) =
    ap (in_turn (stmt_labels ts)) (e.labels to at)
    ∙ labels-of ts rs (to ++ names_of (r.blocks at)) (at + r.size) es
    ∙ append_assoc to (names_of (r.blocks at)) (names_of (blocks_in rs (at + r.size)))
    ∙ ap (λ (ns : List Name). to ++ ns) (sym (names-append (r.blocks at) (blocks_in rs (at + r.size))))

parts-of : (ts : List StmtTold) (rs : List StmtRules) (at : ℕ) → Each StmtExact ts rs → AllParts (blocks_in rs at)
parts-of _ _ at none = tt
parts-of _ _ at (more {x = t} {y = r} {xs = ts} {ys = rs} e es) = parts-append (r.blocks at) (blocks_in rs (at + r.size)) (e.parts at) (parts-of ts rs (at + r.size) es)

record StmtsFit (t : Told) (start : Option ℕ) (rs : List StmtRules) (p : R.Procedure) (a : Around) (at size : ℕ) (ds : List Declared) : Type 0 where
  size_is : t.seen.size ≡ cap size
  broken : t.seen.first ≡ earlier start (earlier (first (repeated ds (blocks_in rs at))) (first (stmts_broken rs p a at)))
  met : Meets t.met (afters (blocks_in rs at) ds)

nothing-more : (start : Option ℕ) → start ≡ earlier start (earlier None None)
nothing-more start = sym (ap (earlier start) (earlier-none None) ∙ earlier-none start)

from-stmts : (ts : List StmtTold) (rs : List StmtRules) (p : Procedure) (env : Env) (items : List VItem) (at k : ℕ) (t : Told) (ds : List Declared) → Each StmtExact ts rs
    → t.seen.size ≡ cap k → Meets t.met ds → StmtsFit (stmts_from ts p env items (cap at) t) t.seen.first rs (procedure_of p) (around env items) (at + k) (k + stmts_size rs) ds
from-stmts _ _ p env items at k t ds none size met = record { size_is = size ∙ ap cap (omega arith); broken = nothing-more t.seen.first; met = met }
from-stmts _ _ p env items at k t ds (more {x = s} {y = r} {xs = ts} {ys = rs} e es) size met =
    let here = plus (cap at) t.seen.size in
    let from : here ≡ cap (at + k) = sum-of (cap at) t.seen.size at k refl size in
    let f = subst (λ n. StmtFits (s.walk p env items n t.met) r (procedure_of p) (around env items) (at + k) ds) (sym from) (e.walk p env items (at + k) t.met ds met) in
    let one = s.walk p env items here t.met in
    let next : Told = record { seen = stmt_added t.seen one.seen; met = one.met } in
    let rest = from-stmts ts rs p env items at (k + r.size) next (afters (r.blocks (at + k)) ds) es (sum-of t.seen.size one.seen.size k r.size size f.size) f.met in
    let place : at + (k + r.size) ≡ (at + k) + r.size = omega arith in
    let moved = subst (λ n. StmtsFit (stmts_from ts p env items (cap at) next) (stmt_added t.seen one.seen).first rs (procedure_of p) (around env items) n ((k + r.size) + stmts_size rs) (afters (r.blocks (at + k)) ds)) place rest in
    let b = first (repeated ds (r.blocks (at + k))) in
    let c = first (r.broken (procedure_of p) (around env items) (at + k)) in
    let x = first (repeated (afters (r.blocks (at + k)) ds) (blocks_in rs ((at + k) + r.size))) in
    let y = first (stmts_broken rs (procedure_of p) (around env items) ((at + k) + r.size)) in
    record {
      size_is = moved.size_is ∙ ap cap (omega arith);
      broken =
          moved.broken
          ∙ ap (λ z. earlier (earlier t.seen.first z) (earlier x y)) f.broken
          ∙ earlier-assoc t.seen.first (earlier b c) (earlier x y)
          ∙ ap (earlier t.seen.first) (weave b c x y)
          ∙ (λ i. earlier t.seen.first (earlier (sym (first-repeated-append ds (r.blocks (at + k)) (blocks_in rs ((at + k) + r.size))) i)
          (sym (first-append (r.broken (procedure_of p) (around env items) (at + k)) (stmts_broken rs (procedure_of p) (around env items) ((at + k) + r.size))) i)));
      met = subst (λ (es : List Declared). Meets (stmts_from ts p env items (cap at) next).met es) (sym (afters-append (r.blocks (at + k)) (blocks_in rs ((at + k) + r.size)) ds)) moved.met;
    }

stmts-fit : (ts : List StmtTold) (rs : List StmtRules) (p : Procedure) (env : Env) (items : List VItem) (at : ℕ) (met : Env) (ds : List Declared) → Each StmtExact ts rs → Meets met ds
    → StmtsFit (stmts_from ts p env items (cap at) (begun met)) None rs (procedure_of p) (around env items) at (stmts_size rs) ds
stmts-fit ts rs p env items at met ds es h =
    subst (λ n. StmtsFit (stmts_from ts p env items (cap at) (begun met)) None rs (procedure_of p) (around env items) n (stmts_size rs) ds) (at_zero at)
    (subst (λ n. StmtsFit (stmts_from ts p env items (cap at) (begun met)) None rs (procedure_of p) (around env items) (at + 0) n ds) (zero_more (stmts_size rs))
    (from-stmts ts rs p env items at 0 (begun met) ds es refl h))
  where
    at_zero : (n : ℕ) → n + 0 ≡ n
    at_zero n = omega arith

    zero_more : (n : ℕ) → 0 + n ≡ n
    zero_more n = omega arith

pub plain-exact : (ts : List StmtTold) (rs : List StmtRules) → Each StmtExact ts rs → StmtExact (block_step None ts) (block_rules None rs)
plain-exact ts rs es = record {
  labels = λ to at. labels-of ts rs to (suc at) es;
  parts = λ at. parts-of ts rs (suc at) es;
  walk = λ p env items at met ds h.
      let k = subst (λ n. StmtsFit (stmts_from ts p env items n (begun met)) None rs (procedure_of p) (around env items) (suc at) (stmts_size rs) ds) (sym (next-token at))
      (stmts-fit ts rs p env items (suc at) met ds es h) in
      record {
        size = sum-of 2 (stmts_from ts p env items (plus (cap at) 1) (begun met)).seen.size 2 (stmts_size rs) refl k.size_is;
        broken = k.broken ∙ none-earlier _;
        met = k.met;
      };
}

-- in a named block
pub same-around : (items : List VItem) (ts : List StmtTold) (rs : List StmtRules) (ls : List VLocal) (from at : ℕ) (env : Env) → Each StmtExact ts rs
    → around (block_given ls (stmt_labels ts) env) items ≡ record (around env items) { scope = inside (R.locals_from ls from ++ blocks_in rs at) (around env items).scope }
same-around items ts rs ls from at env es =
    let scopes : things items (block_given ls (stmt_labels ts) env) ≡ inside (R.locals_from ls from ++ blocks_in rs at) (things items env) =
    things-locals items ls from (parts_given (in_turn (stmt_labels ts) []) env)
    ∙ ap (inside (R.locals_from ls from))
    (ap (λ (ns : List Name). things items (parts_given ns env)) (labels-of ts rs [] at es) ∙ things-parts items (blocks_in rs at) env (parts-of ts rs at es))
    ∙ sym (inside-append (R.locals_from ls from) (blocks_in rs at) (things items env)) in
    λ i. record { scope = scopes i; leads_back = λ name. false }

pub swap : (a m n : Option ℕ) → earlier a (earlier m n) ≡ earlier m (earlier a n)
swap a m n = sym (earlier-assoc a m n) ∙ ap (λ x. earlier x n) (earlier-comm a m) ∙ earlier-assoc m a n

named-fits : (l : VLabel) (ts : List StmtTold) (rs : List StmtRules) → Each StmtExact ts rs → (p : Procedure) (env : Env) (items : List VItem) (at : ℕ) (met : Env) (ds : List Declared) → Meets met ds
    → StmtFits (block_walk l ts p env items (cap at) met) (block_rules (Some l) rs) (procedure_of p) (around env items) at ds
named-fits l ts rs es p env items at met ds h =
    let start : plus (cap at) 3 ≡ cap (at + 3) = plus-cap at 3 in
    let locals = locals_from l.locals (plus (cap at) 3) (begun nothing) in
    let own = R.locals_from l.locals (at + 3) in
    let zero_at : (at + 3) + 0 ≡ at + 3 = omega arith in
    let zero_size : 0 + locals_size l.locals ≡ locals_size l.locals = omega arith in
    let k = subst (λ n. LocalsFit (locals_from l.locals n (begun nothing)) None own [] (locals_size l.locals)) (sym start)
    (subst (λ n. LocalsFit (locals_from l.locals (cap (at + 3)) (begun nothing)) None own [] n) zero_size
    (subst (λ n. LocalsFit (locals_from l.locals (cap (at + 3)) (begun nothing)) None (R.locals_from l.locals n) [] (0 + locals_size l.locals)) zero_at
    (locals-fit l.locals (at + 3) 0 (begun nothing) [] refl (λ n. refl)))) in
    let from : plus (cap at) (plus 3 locals.seen.size) ≡ cap (at + (3 + locals_size l.locals)) =
    sum-of (cap at) (plus 3 locals.seen.size) at (3 + locals_size l.locals) refl (sum-of 3 locals.seen.size 3 (locals_size l.locals) refl k.size_is) in
    let inner = block_given l.locals (stmt_labels ts) env in
    let bs = blocks_in rs (at + (3 + locals_size l.locals)) in
    let a : Around = record (around env items) { scope = inside (own ++ bs) (around env items).scope } in
    let body = stmts_from ts p inner items (plus (cap at) (plus 3 locals.seen.size)) (begun locals.met) in
    let f = subst (λ (x : Around). StmtsFit body None rs (procedure_of p) x (at + (3 + locals_size l.locals)) (stmts_size rs) (afters own []))
    (same-around items ts rs l.locals (at + 3) (at + (3 + locals_size l.locals)) env es)
    (subst (λ n. StmtsFit (stmts_from ts p inner items n (begun locals.met)) None rs (procedure_of p) (around inner items) (at + (3 + locals_size l.locals)) (stmts_size rs) (afters own [])) (sym from)
    (stmts-fit ts rs p inner items (at + (3 + locals_size l.locals)) locals.met (afters own []) es k.met_is)) in
    let d : Declared = record { name = l.name; token = at + 2; thing = part } in
    let named : mark (is_some (met l.name)) (plus (cap at) 2) ≡ first (repeated ds (d ∷ [])) =
    (λ i. mark (h l.name i) (plus-cap at 2 i)) ∙ sym (earlier-none (mark (is_declared ds l.name) (cap (at + 2)))) ∙ sym (first-repeated ds d []) in
    let broken = stmts_broken rs (procedure_of p) a (at + (3 + locals_size l.locals)) in
    record {
      size = sum-of 4 (plus locals.seen.size body.seen.size) 4 (locals_size l.locals + stmts_size rs) refl
          (sum-of locals.seen.size body.seen.size (locals_size l.locals) (stmts_size rs) k.size_is f.size_is);
      broken =
          (λ i. earlier (named i) (earlier ((k.first_is ∙ none-earlier (first (repeated [] own))) i) ((f.broken ∙ none-earlier (earlier (first (repeated (afters own []) bs)) (first broken))) i)))
          ∙ ap (earlier (first (repeated ds (d ∷ []))))
          (sym (earlier-assoc (first (repeated [] own)) (first (repeated (afters own []) bs)) (first broken))
          ∙ ap (λ x. earlier x (first broken)) (sym (first-repeated-append [] own bs))
          ∙ sym (first-append (repeated [] (own ++ bs)) broken));
      met = meets-more met ds d h;
    }

pub named-exact : (l : VLabel) (ts : List StmtTold) (rs : List StmtRules) → Each StmtExact ts rs → StmtExact (block_step (Some l) ts) (block_rules (Some l) rs)
named-exact l ts rs es = record {
  labels = λ to at. refl;
  parts = λ at. (refl, tt);
  walk = λ p env items at met ds h. named-fits l ts rs es p env items at met ds h;
}

-- branches
abbrev pub ElseExact : Option StmtTold → Option StmtRules → Type 0
ElseExact None None = Unit {0}
ElseExact (Some t) (Some r) = StmtExact t r
ElseExact None (Some r) = ⊥
ElseExact (Some t) None = ⊥

else-labels : (o : Option StmtTold) (r : Option StmtRules) (to : List Name) (at : ℕ) → ElseExact o r → else_labels (labels_in o) to ≡ to ++ names_of ((else_rules r).blocks at)
else-labels None None to at e = sym (append-nil to)
else-labels None (Some r) to at e = absurd e
else-labels (Some t) None to at e = absurd e
else-labels (Some t) (Some r) to at e = e.labels to (suc at)

else-parts : (o : Option StmtTold) (r : Option StmtRules) (at : ℕ) → ElseExact o r → AllParts ((else_rules r).blocks at)
else-parts None None at e = tt
else-parts None (Some r) at e = absurd e
else-parts (Some t) None at e = absurd e
else-parts (Some t) (Some r) at e = e.parts (suc at)

else-fits : (o : Option StmtTold) (r : Option StmtRules) → ElseExact o r → (p : Procedure) (env : Env) (items : List VItem) (at : ℕ) (met : Env) (ds : List Declared) → Meets met ds
    → StmtFits (else_walk o p env items (cap at) met) (else_rules r) (procedure_of p) (around env items) at ds
else-fits None None e p env items at met ds h = record { size = refl; broken = sym (earlier-none None); met = h }
else-fits None (Some r) e p env items at met ds h = absurd e
else-fits (Some t) None e p env items at met ds h = absurd e
else-fits (Some t) (Some r) e p env items at met ds h =
    let f = subst (λ n. StmtFits (t.walk p env items n met) r (procedure_of p) (around env items) (suc at) ds) (sym (next-token at)) (e.walk p env items (suc at) met ds h) in
    record { size = one-more (t.walk p env items (plus (cap at) 1) met).seen.size r.size f.size; broken = f.broken; met = f.met }

pub expr-at : (x : VExpr) (env : Env) (items : List VItem) (n at : ℕ) → n ≡ cap at → Fits (expr_seen x env items n) (rules_of x) (around env items) at
expr-at x env items n at e = subst (λ m. Fits (expr_seen x env items m) (rules_of x) (around env items) at) (sym e) (expr-exact x env items at)

pub stmt-at : (t : StmtTold) (r : StmtRules) → StmtExact t r → (p : Procedure) (env : Env) (items : List VItem) (n at : ℕ) (met : Env) (ds : List Declared) → n ≡ cap at → Meets met ds
    → StmtFits (t.walk p env items n met) r (procedure_of p) (around env items) at ds
stmt-at t r e p env items n at met ds is h = subst (λ m. StmtFits (t.walk p env items m met) r (procedure_of p) (around env items) at ds) (sym is) (e.walk p env items at met ds h)

if-fits : (on : VExpr) (t : StmtTold) (r : StmtRules) (o : Option StmtTold) (q : Option StmtRules) → StmtExact t r → ElseExact o q
    → (p : Procedure) (env : Env) (items : List VItem) (at : ℕ) (met : Env) (ds : List Declared) → Meets met ds
    → StmtFits (if_walk (expr_seen on) t o p env items (cap at) met) (stmt_rules (VStmt-F.If on r q)) (procedure_of p) (around env items) at ds
if-fits on t r o q e g p env items at met ds h =
    let test = expr_seen on env items (plus (cap at) 2) in
    let tr = rules_of on in
    let er = else_rules q in
    let f = expr-at on env items (plus (cap at) 2) (at + 2) (plus-cap at 2) in
    let from = plus (cap at) (plus 3 test.size) in
    let from_is : from ≡ cap (at + (3 + tr.size)) = sum-of (cap at) (plus 3 test.size) at (3 + tr.size) refl (sum-of 3 test.size 3 tr.size refl f.size) in
    let k = stmt-at t r e p env items from (at + (3 + tr.size)) met ds from_is h in
    let one = t.walk p env items from met in
    let last = plus (cap at) (plus 3 (plus test.size one.seen.size)) in
    let last_is : last ≡ cap (at + (3 + (tr.size + r.size))) =
    sum-of (cap at) (plus 3 (plus test.size one.seen.size)) at (3 + (tr.size + r.size)) refl
    (sum-of 3 (plus test.size one.seen.size) 3 (tr.size + r.size) refl (sum-of test.size one.seen.size tr.size r.size f.size k.size)) in
    let ms = afters (r.blocks (at + (3 + tr.size))) ds in
    let m = subst (λ n. StmtFits (else_walk o p env items n one.met) er (procedure_of p) (around env items) (at + (3 + (tr.size + r.size))) ms) (sym last_is)
    (else-fits o q g p env items (at + (3 + (tr.size + r.size))) one.met ms k.met) in
    let two = else_walk o p env items last one.met in
    let b = first (repeated ds (r.blocks (at + (3 + tr.size)))) in
    let c = first (r.broken (procedure_of p) (around env items) (at + (3 + tr.size))) in
    let x = first (repeated ms (er.blocks (at + (3 + (tr.size + r.size))))) in
    let y = first (er.broken (procedure_of p) (around env items) (at + (3 + (tr.size + r.size)))) in
    let z = first (alone tr (around env items) (at + 2)) in
    record {
      size = sum-of 3 (plus test.size (plus one.seen.size two.seen.size)) 3 (tr.size + (r.size + er.size)) refl
          (sum-of test.size (plus one.seen.size two.seen.size) tr.size (r.size + er.size) f.size (sum-of one.seen.size two.seen.size r.size er.size k.size m.size));
      broken =
          (λ i. earlier (alone-of test tr (around env items) (at + 2) f i) (earlier (k.broken i) (m.broken i)))
          ∙ ap (earlier z) (weave b c x y)
          ∙ swap z (earlier b x) (earlier c y)
          ∙ (λ i. earlier (sym (first-repeated-append ds (r.blocks (at + (3 + tr.size))) (er.blocks (at + (3 + (tr.size + r.size))))) i)
          (earlier z (sym (first-append (r.broken (procedure_of p) (around env items) (at + (3 + tr.size))) (er.broken (procedure_of p) (around env items) (at + (3 + (tr.size + r.size))))) i)))
          ∙ ap (earlier (first (repeated ds (r.blocks (at + (3 + tr.size)) ++ er.blocks (at + (3 + (tr.size + r.size)))))))
          (sym (first-append (alone tr (around env items) (at + 2)) (r.broken (procedure_of p) (around env items) (at + (3 + tr.size)) ++ er.broken (procedure_of p) (around env items) (at + (3 + (tr.size + r.size))))));
      met = subst (λ (es : List Declared). Meets two.met es) (sym (afters-append (r.blocks (at + (3 + tr.size))) (er.blocks (at + (3 + (tr.size + r.size)))) ds)) m.met;
    }

pub if-exact : (on : VExpr) (t : StmtTold) (r : StmtRules) (o : Option StmtTold) (q : Option StmtRules) → StmtExact t r → ElseExact o q
    → StmtExact (stmt_step (VStmt-F.If on t o)) (stmt_rules (VStmt-F.If on r q))
if-exact on t r o q e g = record {
  labels = λ to at.
      ap (else_labels (labels_in o)) (e.labels to (at + (3 + (rules_of on).size)))
      ∙ else-labels o q (to ++ names_of (r.blocks (at + (3 + (rules_of on).size)))) (at + (3 + ((rules_of on).size + r.size))) g
      ∙ append_assoc to (names_of (r.blocks (at + (3 + (rules_of on).size)))) (names_of ((else_rules q).blocks (at + (3 + ((rules_of on).size + r.size)))))
      ∙ ap (λ (ns : List Name). to ++ ns) (sym (names-append (r.blocks (at + (3 + (rules_of on).size))) ((else_rules q).blocks (at + (3 + ((rules_of on).size + r.size))))));
  parts = λ at.
      parts-append (r.blocks (at + (3 + (rules_of on).size))) ((else_rules q).blocks (at + (3 + ((rules_of on).size + r.size)))) (e.parts (at + (3 + (rules_of on).size)))
      (else-parts o q (at + (3 + ((rules_of on).size + r.size))) g);
  walk = if-fits on t r o q e g;
}

assign-fits : (target : VLval) (value : VExpr) (later : Bool) (p : Procedure) (env : Env) (items : List VItem) (at : ℕ) (met : Env) (ds : List Declared) → Meets met ds
    → StmtFits (assign_walk (target_seen target) (expr_seen value) later p env items (cap at) met) (stmt_rules (VStmt-F.Assign target value later)) (procedure_of p) (around env items) at ds
assign-fits target value later p env items at met ds h =
    let a = around env items in
    let q = procedure_of p in
    let to = target_seen target env items (cap at) in
    let tr = target_of target in
    let f = target-exact target env items at in
    let from = plus (cap at) (plus 1 to.size) in
    let from_is : from ≡ cap (at + suc tr.size) = sum-of (cap at) (plus 1 to.size) at (suc tr.size) refl (one-more to.size tr.size f.size) in
    let given = expr_seen value env items from in
    let vr = rules_of value in
    let k = expr-at value env items from (at + suc tr.size) from_is in
    let token : plus (cap at) to.size ≡ cap (at + tr.size) = sum-of (cap at) to.size at tr.size refl f.size in
    let breaks = mark_breaks q later (tr.has_signal a) in
    let rest = vr.broken a (max (tr.width a) (vr.width a)) (at + suc tr.size) in
    record {
      size = sum-of to.size (plus 2 given.size) tr.size (2 + vr.size) f.size (sum-of 2 given.size 2 vr.size refl k.size);
      broken =
          (λ i. earlier (f.broken i) (earlier (f.by_procedure i) (earlier (mark (mark_breaks q later (f.signal i)) (token i)) (assigned-fits to tr given vr a at (at + suc tr.size) f k i))))
          ∙ ap (λ x. earlier (first (tr.broken a at)) (earlier (first (tr.by_procedure a at)) (earlier x (first rest)))) (sym (first-if breaks (at + tr.size)))
          ∙ ap (λ x. earlier (first (tr.broken a at)) (earlier (first (tr.by_procedure a at)) x)) (sym (first-append (only_if breaks (at + tr.size)) rest))
          ∙ ap (earlier (first (tr.broken a at))) (sym (first-append (tr.by_procedure a at) (only_if breaks (at + tr.size) ++ rest)))
          ∙ sym (first-append (tr.broken a at) (tr.by_procedure a at ++ (only_if breaks (at + tr.size) ++ rest)))
          ∙ sym (none-earlier (first (tr.broken a at ++ (tr.by_procedure a at ++ (only_if breaks (at + tr.size) ++ rest)))));
      met = h;
    }

pub assign-exact : (target : VLval) (value : VExpr) (later : Bool) → StmtExact (stmt_step (VStmt-F.Assign target value later)) (stmt_rules (VStmt-F.Assign target value later))
assign-exact target value later = record { labels = λ to at. sym (append-nil to); parts = λ at. tt; walk = assign-fits target value later }
