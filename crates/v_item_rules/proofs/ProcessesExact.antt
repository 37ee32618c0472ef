-- What is found in initial values, processes and functions is what the rules tell.
use Rattle.std.proofs.Common.{◌≡◌, ℕ, zero, suc, ◌+◌, ◌*◌, ◌==◌, Bool, true, false, not, List, [], ◌∷◌, ◌++◌, map, length, slice_get, Option, Some, None, refl, sym, ap, ◌∙◌, subst, max, is_some, append_assoc, arith}
use Rattle.std.proofs.lemmas.List.{append-nil}
use Rattle.v_tree.specs.Names.{Name}
use Rattle.v_tree.specs.Scopes.{Thing, result, Declared, Scope, inside, is_declared, repeated, bits_of, has_range}
use Rattle.v_tree.specs.ExprRules.{Around, Rules, only_if, rules_of}
use Rattle.v_tree.specs.StmtRules as R
use Rattle.v_tree.specs.StmtRules.{in_function, at_star, at_edges, target_of, rules_of_stmt, rules_of_branch, range_size, locals_size}
use Rattle.v_tree.specs.Rules.{initial_broken, is_one_bit, edges_broken, event_size, process_size, process_broken, declared_by, input_bits, function_token, function_names, function_size}
use Rattle.v_tree.specs.declared.expressions.VExpr.{VExpr}
use Rattle.v_tree.specs.declared.items.VEdge.{VEdge}
use Rattle.v_tree.specs.declared.items.VFunction.{VFunction}
use Rattle.v_tree.specs.declared.items.VItem.{VItem}
use Rattle.v_tree.specs.declared.items.VItem.TheVariants as I
use Rattle.v_tree.specs.declared.items.VProcess.{VProcess}
use Rattle.v_tree.specs.declared.items.VProcess.TheVariants.{Assign, Always}
use Rattle.v_tree.specs.declared.items.VSensitivity.{VSensitivity}
use Rattle.v_tree.specs.declared.items.VSensitivity.TheVariants.{Star, Edges}
use Rattle.v_tree.specs.declared.statements.VBranch.{VBranch}
use Rattle.v_tree.specs.declared.statements.VLval.{VLval}
use Rattle.v_scopes.specs.Env.{Env, given}
use Rattle.v_scopes.specs.declared.entry.Entry.{Entry}
use Rattle.v_scopes.specs.declared.entry.Entry.TheVariants as N
use Rattle.v_scopes.specs.declared.entry.Kind.{Kind}
use Rattle.v_scopes.specs.declared.entry.Kind.TheVariants as K
use Rattle.v_block_names.specs.Blocks.{parts_given, locals_given}
use Rattle.v_expr_rules.specs.declared.seen.Seen.{Seen}
use Rattle.v_expr_rules.specs.Seen.{plus, earlier, mark}
use Rattle.v_expr_rules.specs.Least.{cap, first}
use Rattle.v_expr_rules.specs.Walks.{expr_seen}
use Rattle.v_expr_rules.specs.Things.{thing_in, kind_of, widths_of, around}
use Rattle.v_expr_rules.proofs.Saturation.{plus-cap, earlier-none, none-earlier, earlier-assoc, earlier-comm, first-append, first-if, first-one}
use Rattle.v_expr_rules.proofs.Operands.{sum-of, next-token}
use Rattle.v_stmt_rules.specs.declared.statements.StmtSeen.{StmtSeen}
use Rattle.v_stmt_rules.specs.declared.targets.Procedure.{Procedure}
use Rattle.v_stmt_rules.specs.declared.targets.Procedure.TheVariants as P
use Rattle.v_stmt_rules.specs.declared.targets.TargetSeen.{TargetSeen}
use Rattle.v_stmt_rules.specs.Targets.{procedure_of, target_seen, assign_first, assigned}
use Rattle.v_stmt_rules.specs.Stmts.{Told, nothing, meets, begun, locals_from, branch_told, stmt_told}
use Rattle.v_stmt_rules.proofs.TargetsExact.{TargetFits, target-exact, assigned-fits}
use Rattle.v_stmt_rules.proofs.Declared.{Meets, meets-more, afters, afters-append, first-repeated-append, first-repeated, LocalsFit, locals-fit, inside-append, things, things-locals, things-parts, names_of}
use Rattle.v_stmt_rules.proofs.StmtsExact.{StmtFits, StmtExact, swap, expr-at, stmt-at}
use Rattle.v_stmt_rules.proofs.CasesExact.{stmt-exact, branch-exact}
use Rattle.v_item_rules.specs.Signals.{range_tokens}
use Rattle.v_item_rules.specs.Processes as S
use Rattle.v_item_rules.specs.Processes.{variable_first, initial_first, edges_from, no_edges, edge_added, assign_seen, always_seen, event_seen, waiting_told, process_told}
use Rattle.v_item_rules.proofs.SignalsExact.{range-of}

here : (at : ℕ) → Some (plus (cap at) 1) ≡ first (suc at ∷ [])
here at = ap Some (next-token at) ∙ sym (first-one (suc at))

pub initial-found : (items : List VItem) (e : Option Entry) (bits at : ℕ) → initial_first e bits (cap at) ≡ first (initial_broken (thing_in items e) bits at)
initial-found items None bits at = here at
initial-found items (Some (N.Value K.Input left)) bits at = here at
initial-found items (Some (N.Value K.Net left)) bits at = here at
initial-found items (Some (N.Value K.Variable left)) bits at = ap (mark (not (bits_of left == bits))) (plus-cap at 3) ∙ sym (first-if (not (bits_of left == bits)) (at + 3))
initial-found items (Some (N.Value K.Local left)) bits at = here at
initial-found items (Some (N.Memory left)) bits at = here at
initial-found items (Some (N.Function left item)) bits at = here at
initial-found items (Some (N.Result left item)) bits at = here at
initial-found items (Some N.Part) bits at = here at

one-bit : (items : List VItem) (e : Option Entry) → S.is_one_bit e ≡ is_one_bit (thing_in items e)
one-bit items None = refl
one-bit items (Some (N.Value kind left)) = refl
one-bit items (Some (N.Memory left)) = refl
one-bit items (Some (N.Function left item)) = refl
one-bit items (Some (N.Result left item)) = refl
one-bit items (Some N.Part) = refl

-- edges
record EdgesFit (s : StmtSeen) (start : Option ℕ) (size : ℕ) (tokens : List ℕ) : Type 0 where
  size_is : s.size ≡ cap size
  found : s.first ≡ earlier start (first tokens)

edges-fit : (es : List VEdge) (env : Env) (items : List VItem) (at k : ℕ) (s : StmtSeen) → s.size ≡ cap k
    → EdgesFit (edges_from es env (cap at) s) s.first (k + 3 * length es) (edges_broken (things items env) es (at + k))
edges-fit [] env items at k s e = record { size_is = e ∙ ap cap (omega arith); found = sym (earlier-none s.first) }
edges-fit (x ∷ es) env items at k s e =
    let token : plus (cap at) s.size ≡ cap (at + k) = sum-of (cap at) s.size at k refl e in
    let one = edge_added s (plus (cap at) s.size) (S.is_one_bit (env x.name)) in
    let rest = edges-fit es env items at (k + 3) one (sum-of s.size 3 k 3 e refl) in
    let place : at + (k + 3) ≡ (at + k) + 3 = omega arith in
    let b = not (is_one_bit (thing_in items (env x.name))) in
    record {
      size_is = rest.size_is ∙ ap cap (omega arith);
      found =
          rest.found
          ∙ (λ i. earlier (earlier s.first (mark (not (one-bit items (env x.name) i)) (token i))) (first (edges_broken (things items env) es (place i))))
          ∙ earlier-assoc s.first (mark b (cap (at + k))) (first (edges_broken (things items env) es ((at + k) + 3)))
          ∙ ap (λ o. earlier s.first (earlier o (first (edges_broken (things items env) es ((at + k) + 3))))) (sym (first-if b (at + k)))
          ∙ ap (earlier s.first) (sym (first-append (only_if b (at + k)) (edges_broken (things items env) es ((at + k) + 3))));
    }

-- what is told of an item that begins at a token, behind these names of its module
pub record ItemFits (t : Told) (size : ℕ) (declared : List Declared) (broken : List ℕ) (ds : List Declared) : Type 0 where
  pub size_is : t.seen.size ≡ cap size
  pub found : t.seen.first ≡ earlier (first (repeated ds declared)) (first broken)
  pub met : Meets t.met (afters declared ds)

assign-fits : (target : VLval) (value : VExpr) (env : Env) (items : List VItem) (at : ℕ) (met : Env) (ds : List Declared) → Meets met ds
    → ItemFits (process_told (Assign target value) env items (cap at) met) (process_size (Assign target value)) [] (process_broken (around env items) (Assign target value) at) ds
assign-fits target value env items at met ds h =
    let a = around env items in
    let tr = target_of target in
    let vr = rules_of value in
    let to = target_seen target env items (plus (cap at) 1) in
    let f = subst (λ n. TargetFits (target_seen target env items n) tr a (suc at)) (sym (next-token at)) (target-exact target env items (suc at)) in
    let from = plus (cap at) (plus 2 to.size) in
    let from_is : from ≡ cap (at + (2 + tr.size)) = sum-of (cap at) (plus 2 to.size) at (2 + tr.size) refl (sum-of 2 to.size 2 tr.size refl f.size) in
    let given = expr_seen value env items from in
    let k = expr-at value env items from (at + (2 + tr.size)) from_is in
    let rest = vr.broken a (max (tr.width a) (vr.width a)) (at + (2 + tr.size)) in
    record {
      size_is = sum-of 3 (plus to.size given.size) 3 (tr.size + vr.size) refl (sum-of to.size given.size tr.size vr.size f.size k.size);
      found =
          (λ i. earlier (f.broken i) (earlier (f.by_assign i) (assigned-fits to tr given vr a (suc at) (at + (2 + tr.size)) f k i)))
          ∙ ap (earlier (first (tr.broken a (suc at)))) (sym (first-append (tr.by_assign a (suc at)) rest))
          ∙ sym (first-append (tr.broken a (suc at)) (tr.by_assign a (suc at) ++ rest))
          ∙ sym (none-earlier (first (tr.broken a (suc at) ++ (tr.by_assign a (suc at) ++ rest))));
      met = h;
    }

star-fits : (body : VBranch) (env : Env) (items : List VItem) (at : ℕ) (met : Env) (ds : List Declared) → Meets met ds
    → ItemFits (process_told (Always Star body) env items (cap at) met) (process_size (Always Star body)) (declared_by (I.Process (Always Star body)) at) (process_broken (around env items) (Always Star body) at) ds
star-fits body env items at met ds h =
    let r = rules_of_branch body in
    let from = plus (cap at) (plus 2 1) in
    let from_is : from ≡ cap (at + 3) = sum-of (cap at) (plus 2 1) at 3 refl (plus-cap 2 1) in
    let f = stmt-at (branch_told body) r (branch-exact body) P.AtStar env items from (at + 3) met ds from_is h in
    let one = (branch_told body).walk P.AtStar env items from met in
    record {
      size_is = sum-of 2 (plus 1 one.seen.size) 2 (1 + r.size) refl (sum-of 1 one.seen.size 1 r.size refl f.size);
      found = none-earlier one.seen.first ∙ f.broken;
      met = f.met;
    }

edges-told : (es : List VEdge) (body : VBranch) (env : Env) (items : List VItem) (at : ℕ) (met : Env) (ds : List Declared) → Meets met ds
    → ItemFits (process_told (Always (Edges es) body) env items (cap at) met) (process_size (Always (Edges es) body)) (declared_by (I.Process (Always (Edges es) body)) at)
    (process_broken (around env items) (Always (Edges es) body) at) ds
edges-told es body env items at met ds h =
    let r = rules_of_branch body in
    let zero_at : (at + 4) + 0 ≡ at + 4 = omega arith in
    let zero_size : 0 + 3 * length es ≡ 3 * length es = omega arith in
    let seen = edges_from es env (plus (cap at) 4) no_edges in
    let k = subst (λ n. EdgesFit (edges_from es env n no_edges) None (3 * length es) (edges_broken (things items env) es (at + 4))) (sym (plus-cap at 4))
    (subst (λ n. EdgesFit (edges_from es env (cap (at + 4)) no_edges) None n (edges_broken (things items env) es (at + 4))) zero_size
    (subst (λ n. EdgesFit (edges_from es env (cap (at + 4)) no_edges) None (0 + 3 * length es) (edges_broken (things items env) es n)) zero_at
    (edges-fit es env items (at + 4) 0 no_edges refl))) in
    let event : plus 1 seen.size ≡ cap (suc (3 * length es)) = sum-of 1 seen.size 1 (3 * length es) refl k.size_is ∙ ap cap (omega arith) in
    let from = plus (cap at) (plus 2 (plus 1 seen.size)) in
    let from_is : from ≡ cap (at + (2 + suc (3 * length es))) = sum-of (cap at) (plus 2 (plus 1 seen.size)) at (2 + suc (3 * length es)) refl (sum-of 2 (plus 1 seen.size) 2 (suc (3 * length es)) refl event) in
    let f = stmt-at (branch_told body) r (branch-exact body) P.AtEdges env items from (at + (2 + suc (3 * length es))) met ds from_is h in
    let one = (branch_told body).walk P.AtEdges env items from met in
    let x = first (repeated ds (r.blocks (at + (2 + suc (3 * length es))))) in
    let y = first (r.broken at_edges (around env items) (at + (2 + suc (3 * length es)))) in
    let z = first (edges_broken (things items env) es (at + 4)) in
    record {
      size_is = sum-of 2 (plus (plus 1 seen.size) one.seen.size) 2 (suc (3 * length es) + r.size) refl (sum-of (plus 1 seen.size) one.seen.size (suc (3 * length es)) r.size event f.size);
      found =
          (λ i. earlier ((k.found ∙ none-earlier z) i) (f.broken i))
          ∙ swap z x y
          ∙ ap (earlier x) (sym (first-append (edges_broken (things items env) es (at + 4)) (r.broken at_edges (around env items) (at + (2 + suc (3 * length es))))));
      met = f.met;
    }

pub process-fits : (p : VProcess) (env : Env) (items : List VItem) (at : ℕ) (met : Env) (ds : List Declared) → Meets met ds
    → ItemFits (process_told p env items (cap at) met) (process_size p) (declared_by (I.Process p) at) (process_broken (around env items) p at) ds
process-fits (Assign target value) env items at met ds h = assign-fits target value env items at met ds h
process-fits (Always Star body) env items at met ds h = star-fits body env items at met ds h
process-fits (Always (Edges es) body) env items at met ds h = edges-told es body env items at met ds h
