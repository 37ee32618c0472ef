-- What is found in a function is what the rules tell.
use Rattle.std.proofs.Common.{◌≡◌, ℕ, zero, suc, ◌+◌, Bool, true, false, List, [], ◌∷◌, ◌++◌, map, slice_get, Option, Some, None, refl, sym, ap, ◌∙◌, subst, if◌then◌else◌, arith}
use Rattle.std.specs.Str.{bytes_eq}
use Rattle.v_tree.specs.Names.{Name}
use Rattle.v_tree.specs.Scopes.{Thing, result, Declared, Scope, inside, repeated, bits_of, has_range}
use Rattle.v_tree.specs.ExprRules.{Around}
use Rattle.v_tree.specs.StmtRules as R
use Rattle.v_tree.specs.StmtRules.{in_function, rules_of_stmt, range_size, locals_size}
use Rattle.v_tree.specs.Rules.{input_bits, function_token, function_names, function_size}
use Rattle.v_tree.specs.declared.items.VFunction.{VFunction}
use Rattle.v_tree.specs.declared.items.VItem.{VItem}
use Rattle.v_tree.specs.declared.items.VItem.TheVariants as I
use Rattle.v_scopes.specs.Env.{Env}
use Rattle.v_scopes.specs.declared.entry.Entry.{Entry}
use Rattle.v_scopes.specs.declared.entry.Entry.TheVariants as N
use Rattle.v_block_names.specs.Blocks.{parts_given, locals_given}
use Rattle.v_expr_rules.specs.Seen.{plus, earlier}
use Rattle.v_expr_rules.specs.Least.{cap, first}
use Rattle.v_expr_rules.specs.Walks.{inputs_in}
use Rattle.v_expr_rules.specs.Things.{thing_in, widths_of, around}
use Rattle.v_expr_rules.proofs.Saturation.{none-earlier, earlier-assoc, first-append}
use Rattle.v_expr_rules.proofs.Operands.{sum-of}
use Rattle.v_stmt_rules.specs.declared.statements.StmtSeen.{StmtSeen}
use Rattle.v_stmt_rules.specs.declared.targets.Procedure.TheVariants as P
use Rattle.v_stmt_rules.specs.Stmts.{Told, nothing, meets, begun, locals_from, stmt_told}
use Rattle.v_stmt_rules.proofs.Declared.{Meets, meets-more, afters, first-repeated-append, LocalsFit, locals-fit, inside-append, things, thing-if, things-locals, things-parts, names_of}
use Rattle.v_stmt_rules.proofs.StmtsExact.{StmtFits, StmtExact, stmt-at}
use Rattle.v_stmt_rules.proofs.CasesExact.{stmt-exact}
use Rattle.v_item_rules.specs.Signals.{range_tokens}
use Rattle.v_item_rules.specs.Functions.{function_given, whole, own_told, function_seen}
use Rattle.v_item_rules.specs.Plain.{function_plain}
use Rattle.v_item_rules.proofs.SignalsExact.{range-of}

range-cap : (r : Option ℕ) → range_tokens r ≡ cap (range_size r)
range-cap None = refl
range-cap (Some left) = refl

-- the names of a function, one by one
abbrev head : VFunction → ℕ → Declared
head f at = record { name = f.name; token = function_token f at; thing = result (bits_of f.range) (has_range f.range) (input_bits f) }

abbrev start_of : VFunction → ℕ → ℕ
start_of f at = at + (3 + range_size f.range)

abbrev inputs_at : VFunction → ℕ → List Declared
inputs_at f at = R.locals_from f.inputs (start_of f at)

abbrev locals_at : VFunction → ℕ → List Declared
locals_at f at = R.locals_from f.locals (start_of f at + locals_size f.inputs)

abbrev body_at : VFunction → ℕ → ℕ
body_at f at = start_of f at + (locals_size f.inputs + locals_size f.locals)

abbrev blocks_at : VFunction → ℕ → List Declared
blocks_at f at = (rules_of_stmt f.body).blocks (body_at f at)

-- what names stand for in it
result-is : (items : List VItem) (item : ℕ) (f : VFunction) → slice_get items item ≡ Some (I.Function f)
    → thing_in items (Some (N.Result f.range item)) ≡ Some (result (bits_of f.range) (has_range f.range) (input_bits f))
result-is items item f e = ap (λ o. Some (result (bits_of f.range) (has_range f.range) (widths_of (inputs_in o)))) e

pub things-function : (f : VFunction) (item : ℕ) (env : Env) (items : List VItem) (at : ℕ) → slice_get items item ≡ Some (I.Function f)
    → things items (function_given f item env) ≡ inside (function_names f at) (things items env)
things-function f item env items at e =
    let labels : (stmt_told f.body).labels [] ≡ names_of (blocks_at f at) = (stmt-exact f.body).labels [] (body_at f at) in
    let parts : things items (parts_given ((stmt_told f.body).labels []) env) ≡ inside (blocks_at f at) (things items env) =
    ap (λ (ns : List Name). things items (parts_given ns env)) labels ∙ things-parts items (blocks_at f at) env ((stmt-exact f.body).parts (body_at f at)) in
    let locals : things items (locals_given f.locals (parts_given ((stmt_told f.body).labels []) env)) ≡ inside (locals_at f at ++ blocks_at f at) (things items env) =
    things-locals items f.locals (start_of f at + locals_size f.inputs) (parts_given ((stmt_told f.body).labels []) env)
    ∙ ap (inside (locals_at f at)) parts ∙ sym (inside-append (locals_at f at) (blocks_at f at) (things items env)) in
    let rest : things items (locals_given f.inputs (locals_given f.locals (parts_given ((stmt_told f.body).labels []) env))) ≡ inside (inputs_at f at ++ (locals_at f at ++ blocks_at f at)) (things items env) =
    things-locals items f.inputs (start_of f at) (locals_given f.locals (parts_given ((stmt_told f.body).labels []) env))
    ∙ ap (inside (inputs_at f at)) locals ∙ sym (inside-append (inputs_at f at) (locals_at f at ++ blocks_at f at) (things items env)) in
    λ i n. thing-if items (bytes_eq f.name n) (N.Result f.range item) (locals_given f.inputs (locals_given f.locals (parts_given ((stmt_told f.body).labels []) env)) n)
    (result (bits_of f.range) (has_range f.range) (input_bits f)) (inside (inputs_at f at ++ (locals_at f at ++ blocks_at f at)) (things items env) n) (result-is items item f e) (λ j. rest j n) i

pub record FunctionFits (s : StmtSeen) (f : VFunction) (scope : Scope) (at : ℕ) : Type 0 where
  pub size_is : s.size ≡ cap (function_size f)
  pub found : s.first ≡ first (function_plain scope f at)

own-fits : (f : VFunction) (at : ℕ) (n : ℕ) → n ≡ cap (start_of f at)
    → LocalsFit (own_told f n nothing) (locals_from f.inputs n (begun (meets nothing f.name))).seen.first (locals_at f at) (afters (inputs_at f at) (head f at ∷ [])) (locals_size f.inputs + locals_size f.locals)
    × ((locals_from f.inputs n (begun (meets nothing f.name))).seen.first ≡ first (repeated (head f at ∷ []) (inputs_at f at)))
own-fits f at n is =
    let zero_at : start_of f at + 0 ≡ start_of f at = omega arith in
    let zero_size : 0 + locals_size f.inputs ≡ locals_size f.inputs = omega arith in
    let met : Meets (meets nothing f.name) (head f at ∷ []) = meets-more nothing [] (head f at) (λ m. refl) in
    let k = subst (λ m. LocalsFit (locals_from f.inputs m (begun (meets nothing f.name))) None (inputs_at f at) (head f at ∷ []) (locals_size f.inputs)) (sym is)
    (subst (λ m. LocalsFit (locals_from f.inputs (cap (start_of f at)) (begun (meets nothing f.name))) None (inputs_at f at) (head f at ∷ []) m) zero_size
    (subst (λ m. LocalsFit (locals_from f.inputs (cap (start_of f at)) (begun (meets nothing f.name))) None (R.locals_from f.inputs m) (head f at ∷ []) (0 + locals_size f.inputs)) zero_at
    (locals-fit f.inputs (start_of f at) 0 (begun (meets nothing f.name)) (head f at ∷ []) refl met))) in
    let t = locals_from f.inputs n (begun (meets nothing f.name)) in (
      subst (λ m. LocalsFit (locals_from f.locals m t) t.seen.first (locals_at f at) (afters (inputs_at f at) (head f at ∷ [])) (locals_size f.inputs + locals_size f.locals)) (sym is)
          (locals-fit f.locals (start_of f at) (locals_size f.inputs) t (afters (inputs_at f at) (head f at ∷ [])) k.size_is k.met_is),
      k.first_is ∙ none-earlier (first (repeated (head f at ∷ []) (inputs_at f at))),
    )

pub function-fits : (f : VFunction) (item : ℕ) (env : Env) (items : List VItem) (at : ℕ) → slice_get items item ≡ Some (I.Function f)
    → FunctionFits (function_seen f item env items (cap at)) f (things items env) at
function-fits f item env items at e =
    let start = plus (cap at) (plus 3 (range_tokens f.range)) in
    let start_is : start ≡ cap (start_of f at) = sum-of (cap at) (plus 3 (range_tokens f.range)) at (3 + range_size f.range) refl (sum-of 3 (range_tokens f.range) 3 (range_size f.range) refl (range-cap f.range)) in
    let own = own_told f start nothing in
    let k = own-fits f at start start_is in
    let from = plus start own.seen.size in
    let from_is : from ≡ cap (body_at f at) = sum-of start own.seen.size (start_of f at) (locals_size f.inputs + locals_size f.locals) start_is k.0.size_is in
    let r = rules_of_stmt f.body in
    let inner = function_given f item env in
    let ds = afters (locals_at f at) (afters (inputs_at f at) (head f at ∷ [])) in
    let a : Around = record { scope = inside (function_names f at) (things items env); leads_back = λ g. false } in
    let same : around inner items ≡ a = λ i. record { scope = things-function f item env items at e i; leads_back = λ g. false } in
    let g = subst (λ (x : Around). StmtFits ((stmt_told f.body).walk P.InFunction inner items from own.met) r in_function x (body_at f at) ds) same
    (stmt-at (stmt_told f.body) r (stmt-exact f.body) P.InFunction inner items from (body_at f at) own.met ds from_is k.0.met_is) in
    let body = (stmt_told f.body).walk P.InFunction inner items from own.met in
    let place : body_at f at ≡ at + (3 + (range_size f.range + (locals_size f.inputs + locals_size f.locals))) = omega arith in
    let x = first (repeated (head f at ∷ []) (inputs_at f at)) in
    let y = first (repeated (afters (inputs_at f at) (head f at ∷ [])) (locals_at f at)) in
    let z = first (repeated ds (blocks_at f at)) in
    let s = first (r.broken in_function a (body_at f at)) in
    record {
      size_is =
          sum-of 4 (plus (range_tokens f.range) (plus own.seen.size body.seen.size)) 4 (range_size f.range + ((locals_size f.inputs + locals_size f.locals) + r.size)) refl
          (sum-of (range_tokens f.range) (plus own.seen.size body.seen.size) (range_size f.range) ((locals_size f.inputs + locals_size f.locals) + r.size) (range-cap f.range)
          (sum-of own.seen.size body.seen.size (locals_size f.inputs + locals_size f.locals) r.size k.0.size_is g.size))
          ∙ ap cap (omega arith);
      found =
          (λ i. earlier ((k.0.first_is ∙ ap (λ o. earlier o y) k.1) i) (g.broken i))
          ∙ sym (earlier-assoc (earlier x y) z s)
          ∙ ap (λ o. earlier o s)
          (earlier-assoc x y z
          ∙ ap (earlier x) (sym (first-repeated-append (afters (inputs_at f at) (head f at ∷ [])) (locals_at f at) (blocks_at f at)))
          ∙ sym (first-repeated-append (head f at ∷ []) (inputs_at f at) (locals_at f at ++ blocks_at f at)))
          ∙ sym (first-append (repeated [] (function_names f at)) (r.broken in_function a (body_at f at)))
          ∙ ap (λ n. first (repeated [] (function_names f at) ++ r.broken in_function a n)) place;
    }
