-- Functions: what one breaks where some functions lead back to it, and the functions that it calls.
use Rattle.std.proofs.Common.{◌≡◌, ℕ, ◌+◌, Bool, List, [], ◌++◌, length, Some, sym, ap, ◌∙◌, subst, if◌then◌else◌}
use Rattle.std.specs.List.{list_any}
use Rattle.std.specs.Str.{bytes_eq}
use Rattle.v_tree.specs.Names.{Name}
use Rattle.v_tree.specs.Scopes.{Scope, result, inside, repeated, bits_of, has_range}
use Rattle.v_tree.specs.StmtRules.{StmtRules, in_function, rules_of_stmt, range_size, locals_from, locals_size}
use Rattle.v_tree.specs.Rules.{Link, leads, input_bits, function_names, function_broken}
use Rattle.v_tree.specs.declared.items.VFunction.{VFunction}
use Rattle.v_expr_rules.specs.Seen.{earlier}
use Rattle.v_expr_rules.specs.Least.{first}
use Rattle.v_stmt_rules.proofs.Declared.{inside-append}
use Rattle.v_item_rules.specs.Plain.{function_plain}
use Rattle.v_call_sites.specs.Sites.{back}
use Rattle.v_call_sites.specs.StmtSites.{stmt_sites_of}
use Rattle.v_call_sites.proofs.Expressions.{with, plain, before}
use Rattle.v_call_sites.proofs.Statements.{stmt-splits}
use Rattle.v_call_sites.proofs.Named.{any_site}
use Rattle.v_call_sites.proofs.StmtNamed.{stmt-named, locals-placeless}

abbrev body_at : VFunction → ℕ → ℕ
body_at f at = at + (3 + (range_size f.range + (locals_size f.inputs + locals_size f.locals)))

-- the first token at which a function breaks a rule: the first one as if no function led back to it, or its first call of one that does
pub function-splits : (scope : Scope) (links : List Link) (f : VFunction) (at : ℕ)
    → first (function_broken scope links f at)
    ≡ earlier (first (function_plain scope f at)) (first (back (λ g. leads (length links) links g f.name) ((stmt_sites_of f.body).calls (inside (function_names f at) scope) (body_at f at))))
function-splits scope links f at =
    let own = function_names f at in
    let b : Name → Bool = λ g. leads (length links) links g f.name in
    let a = inside own scope in
    let r = rules_of_stmt f.body in
    let h = stmt-splits f.body in
    let o = first (back b ((stmt_sites_of f.body).calls a (body_at f at))) in
    before (repeated [] own) (r.broken in_function (with a b) (body_at f at)) (r.broken in_function (plain a) (body_at f at)) o
    (subst (λ (q : StmtRules). first (q.broken in_function (with a b) (body_at f at)) ≡ earlier (first (q.broken in_function (plain a) (body_at f at))) o) h.same (h.broken in_function a b (body_at f at)))

-- what names stand for in a function doesn't hang on where it stands
function-placeless : (f : VFunction) (n m : ℕ) (o : Scope) → inside (function_names f n) o ≡ inside (function_names f m) o
function-placeless f n m o =
    let r = rules_of_stmt f.body in
    let first_in : ℕ → ℕ = λ k. k + (3 + range_size f.range) in
    let inputs = λ (k : ℕ). locals_from f.inputs (first_in k) in
    let locals = λ (k : ℕ). locals_from f.locals (first_in k + locals_size f.inputs) in
    let blocks = λ (k : ℕ). r.blocks (first_in k + (locals_size f.inputs + locals_size f.locals)) in
    let inner : inside (locals n ++ blocks n) o ≡ inside (locals m ++ blocks m) o =
    inside-append (locals n) (blocks n) o
    ∙ ap (inside (locals n)) ((stmt-named f.body).placeless (first_in n + (locals_size f.inputs + locals_size f.locals)) (first_in m + (locals_size f.inputs + locals_size f.locals)) o)
    ∙ locals-placeless f.locals (first_in n + locals_size f.inputs) (first_in m + locals_size f.inputs) (inside (blocks m) o)
    ∙ sym (inside-append (locals m) (blocks m) o) in
    let rest : inside (inputs n ++ (locals n ++ blocks n)) o ≡ inside (inputs m ++ (locals m ++ blocks m)) o =
    inside-append (inputs n) (locals n ++ blocks n) o
    ∙ ap (inside (inputs n)) inner
    ∙ locals-placeless f.inputs (first_in n) (first_in m) (inside (locals m ++ blocks m) o)
    ∙ sym (inside-append (inputs m) (locals m ++ blocks m) o) in
    λ i name. if bytes_eq f.name name then Some (result (bits_of f.range) (has_range f.range) (input_bits f)) else rest i name

-- the functions that a function calls by the rules are those that its calls name
pub function-calls : (g : Name → Bool) (scope : Scope) (f : VFunction) (at : ℕ)
    → any_site g ((stmt_sites_of f.body).calls (inside (function_names f at) scope) (body_at f at))
    ≡ list_any g ((rules_of_stmt f.body).calls (plain (inside (function_names f 0) scope)))
function-calls g scope f at =
    ap (λ (o : Scope). any_site g ((stmt_sites_of f.body).calls o (body_at f at))) (function-placeless f at 0 scope)
    ∙ (stmt-named f.body).calls g (inside (function_names f 0) scope) (body_at f at)
