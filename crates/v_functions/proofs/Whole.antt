-- The first token at which a design breaks a rule: by the rules without circles of functions, and by the calls of functions.
use Rattle.std.proofs.Common.{◌≡◌, Bool, ℕ, suc, ◌+◌, false, List, [], ◌∷◌, ◌++◌, length, slice_get, Option, None, refl, sym, ap, ◌∙◌, arith}
use Rattle.call_circles.specs.declared.calls.Call.{Call}
use Rattle.call_circles.specs.Calls.{first_of, first_broken}
use Rattle.v_tree.specs.Scopes.{Scope, inside, nowhere, repeated}
use Rattle.v_tree.specs.ExprRules.{Around, only_if}
use Rattle.v_tree.specs.Rules.{Link, item_size, items_size, ports_size, module_size, module_links, leads, signal_broken, initial_broken, process_broken, function_broken, child_broken, module_named, declared_in, ports_of, listed_ports, undeclared, unlisted, module_names, function_links, items_broken, module_broken, modules_broken, broken_tokens}
use Rattle.v_tree.specs.declared.items.VDesign.{VDesign}
use Rattle.v_tree.specs.declared.items.VItem.{VItem}
use Rattle.v_tree.specs.declared.items.VItem.TheVariants as I
use Rattle.v_tree.specs.declared.items.VModule.{VModule}
use Rattle.v_expr_rules.specs.Seen.{plus, earlier}
use Rattle.v_expr_rules.specs.Least.{cap, first}
use Rattle.v_expr_rules.proofs.Saturation.{earlier-none, none-earlier, earlier-assoc, earlier-comm, first-append}
use Rattle.v_expr_rules.proofs.Operands.{sum-of, next-token}
use Rattle.v_stmt_rules.specs.Stmts.{nothing}
use Rattle.v_stmt_rules.proofs.Declared.{weave, things}
use Rattle.v_item_rules.specs.Plain.{function_plain}
use Rattle.v_rules.specs.Items.{list_tokens}
use Rattle.v_rules.specs.ModuleNames.{items_given}
use Rattle.v_rules.proofs.NamesExact.{module-things}
use Rattle.v_rules.proofs.ModulesExact.{tokens-are}
use Rattle.v_circles.specs.Plain.{items_checked, module_checked, modules_checked, design_checked}
use Rattle.v_call_sites.specs.Sites.{back}
use Rattle.v_call_sites.proofs.Expressions.{before}
use Rattle.v_call_sites.proofs.Functions.{function-splits}
use Rattle.v_functions.specs.declared.modules.Found.{Found}
use Rattle.v_functions.specs.Numbered.{functions_from}
use Rattle.v_functions.specs.Modules.{module_walked, module_added, modules_added, nothing_found}
use Rattle.v_functions.proofs.StmtAdds.{function_sites}
use Rattle.v_functions.proofs.Links.{calls_in, items-walk, items_back, circle-first}
use Rattle.v_functions.proofs.Links as Links

-- what items break: without circles of functions, and by these
module _ (ms : List VModule) (m : VModule) (scope : Scope) where
  abbrev a : Around
  a = record { scope = scope; leads_back = λ f. false }

  abbrev ls : List Link
  ls = function_links scope m.items

  items-split : (is : List VItem) (at : ℕ) → first (items_broken ms m a is at) ≡ earlier (first (items_checked ms m a is at)) (first (items_back scope ls is at))
  items-split [] at = sym (earlier-none (first []))
  items-split (I.Signal s ∷ is) at =
      before (signal_broken s at) (items_broken ms m a is (at + item_size (I.Signal s))) (items_checked ms m a is (at + item_size (I.Signal s)))
      (first (items_back scope ls is (at + item_size (I.Signal s)))) (items-split is (at + item_size (I.Signal s)))
  items-split (I.Initial x ∷ is) at =
      before (initial_broken (scope x.name) (length x.value) at) (items_broken ms m a is (at + item_size (I.Initial x))) (items_checked ms m a is (at + item_size (I.Initial x)))
      (first (items_back scope ls is (at + item_size (I.Initial x)))) (items-split is (at + item_size (I.Initial x)))
  items-split (I.Process p ∷ is) at =
      before (process_broken a p at) (items_broken ms m a is (at + item_size (I.Process p))) (items_checked ms m a is (at + item_size (I.Process p)))
      (first (items_back scope ls is (at + item_size (I.Process p)))) (items-split is (at + item_size (I.Process p)))
  items-split (I.Function f ∷ is) at =
      let end = at + item_size (I.Function f) in
      let p = function_plain scope f at in
      let b = back (λ g. leads (length ls) ls g f.name) (function_sites scope f at) in
      let ps = items_checked ms m a is end in
      let bs = items_back scope ls is end in
      first-append (function_broken scope ls f at) (items_broken ms m a is end)
      ∙ (λ i. earlier (function-splits scope ls f at i) (items-split is end i))
      ∙ weave (first p) (first b) (first ps) (first bs)
      ∙ (λ i. earlier (sym (first-append p ps) i) (sym (first-append b bs) i))
  items-split (I.Instance x ∷ is) at =
      before (only_if (leads (length ms) (module_links ms) x.of m.name) at ++ child_broken a (module_named ms x.of) x at) (items_broken ms m a is (at + item_size (I.Instance x)))
      (items_checked ms m a is (at + item_size (I.Instance x))) (first (items_back scope ls is (at + item_size (I.Instance x)))) (items-split is (at + item_size (I.Instance x)))

-- what comes behind one of two parts comes behind both
behind-second : (xs ys : List ℕ) (c f : Option ℕ) → earlier (first ys) c ≡ earlier (first ys) f → earlier (first (xs ++ ys)) c ≡ earlier (first (xs ++ ys)) f
behind-second xs ys c f h =
    ap (λ o. earlier o c) (first-append xs ys)
    ∙ earlier-assoc (first xs) (first ys) c
    ∙ ap (earlier (first xs)) h
    ∙ sym (earlier-assoc (first xs) (first ys) f)
    ∙ ap (λ o. earlier o f) (sym (first-append xs ys))

behind-first : (xs ys : List ℕ) (c f : Option ℕ) → earlier (first xs) c ≡ earlier (first xs) f → earlier (first (xs ++ ys)) c ≡ earlier (first (xs ++ ys)) f
behind-first xs ys c f h =
    ap (λ o. earlier o c) (first-append xs ys ∙ earlier-comm (first xs) (first ys))
    ∙ earlier-assoc (first ys) (first xs) c
    ∙ ap (earlier (first ys)) h
    ∙ sym (earlier-assoc (first ys) (first xs) f)
    ∙ ap (λ o. earlier o f) (earlier-comm (first ys) (first xs) ∙ sym (first-append xs ys))

abbrev begin_of : VModule → ℕ → ℕ
begin_of m at = at + (3 + ports_size m.ports)

abbrev scope_of : VModule → ℕ → Scope
scope_of m at = inside (declared_in m.items (begin_of m at)) nowhere

-- the first call in a module that leads back, by its calls
abbrev circle_of : VModule → ℕ → Option ℕ
circle_of m at = first_broken (module_walked m (cap at)).calls []

walked : (m : VModule) (at : ℕ) → Links.Found (record { from = 0; at = plus (cap at) (plus 3 (list_tokens m.ports)); calls = [] }) (module_walked m (cap at)) (begin_of m at + items_size m.items)
    (calls_in (functions_from 0 m.items) (things m.items (items_given 0 m.items nothing)) 0 m.items (begin_of m at))
walked m at =
    items-walk m.items (functions_from 0 m.items) (items_given 0 m.items nothing) 0 m.items (record { from = 0; at = plus (cap at) (plus 3 (list_tokens m.ports)); calls = [] }) (begin_of m at)
    (λ k. ap (slice_get m.items) (none_more k))
    (sum-of (cap at) (plus 3 (list_tokens m.ports)) at (3 + ports_size m.ports) refl (sum-of 3 (list_tokens m.ports) 3 (ports_size m.ports) refl (tokens-are m.ports)))
  where
    none_more : (k : ℕ) → 0 + k ≡ k
    none_more k = omega arith

module-same : (m : VModule) (at : ℕ) (t : Call → Bool)
    → first_of t (module_walked m (cap at)).calls ≡ first_of t (calls_in (functions_from 0 m.items) (scope_of m at) 0 m.items (begin_of m at))
module-same m at t =
    (walked m at).calls t
    ∙ none-earlier _
    ∙ ap (λ (s : Scope). first_of t (calls_in (functions_from 0 m.items) s 0 m.items (begin_of m at))) (module-things m.items (begin_of m at))

module-end : (m : VModule) (at : ℕ) → plus (module_walked m (cap at)).at 1 ≡ cap (at + module_size m)
module-end m at = ap (λ n. plus n 1) (walked m at).at ∙ next-token (begin_of m at + items_size m.items) ∙ ap cap (whole at (ports_size m.ports) (items_size m.items))
  where
    whole : (k a b : ℕ) → suc ((k + (3 + a)) + b) ≡ k + (4 + (a + b))
    whole k a b = omega arith

module-split : (ms : List VModule) (m : VModule) (at : ℕ) → first (module_broken ms m at) ≡ earlier (first (module_checked ms m at)) (circle_of m at)
module-split ms m at =
    let begin = begin_of m at in
    let own = declared_in m.items begin in
    let ports = ports_of m.items begin in
    let list = listed_ports m.ports (at + 3) in
    let scope = scope_of m at in
    let around : Around = record { scope = scope; leads_back = λ f. false } in
    let xs = items_broken ms m around m.items begin in
    let ys = items_checked ms m around m.items begin in
    let c = first (items_back scope (function_links scope m.items) m.items begin) in
    before (repeated [] list) (undeclared ports list ++ (unlisted m.ports ports ++ (repeated [] own ++ xs))) (undeclared ports list ++ (unlisted m.ports ports ++ (repeated [] own ++ ys))) c
    (before (undeclared ports list) (unlisted m.ports ports ++ (repeated [] own ++ xs)) (unlisted m.ports ports ++ (repeated [] own ++ ys)) c
    (before (unlisted m.ports ports) (repeated [] own ++ xs) (repeated [] own ++ ys) c (before (repeated [] own) xs ys c (items-split ms m scope m.items begin))))
    ∙ behind-second (repeated [] list) (undeclared ports list ++ (unlisted m.ports ports ++ (repeated [] own ++ ys))) c (circle_of m at)
    (behind-second (undeclared ports list) (unlisted m.ports ports ++ (repeated [] own ++ ys)) c (circle_of m at)
    (behind-second (unlisted m.ports ports) (repeated [] own ++ ys) c (circle_of m at)
    (behind-first (repeated [] own) ys c (circle_of m at) (circle-first m.items scope begin (module_walked m (cap at)).calls (module-same m at)))))

abbrev circles_of : List VModule → ℕ → Option ℕ
circles_of [] at = None
circles_of (m ∷ ms) at = earlier (circle_of m at) (circles_of ms (at + module_size m))

modules-split : (all ms : List VModule) (at : ℕ) → first (modules_broken all ms at) ≡ earlier (first (modules_checked all ms at)) (circles_of ms at)
modules-split all [] at = sym (earlier-none (first []))
modules-split all (m ∷ ms) at =
    let end = at + module_size m in
    let p = module_checked all m at in
    let ps = modules_checked all ms end in
    first-append (module_broken all m at) (modules_broken all ms end)
    ∙ (λ i. earlier (module-split all m at i) (modules-split all ms end i))
    ∙ weave (first p) (circle_of m at) (first ps) (circles_of ms end)
    ∙ ap (λ o. earlier o (earlier (circle_of m at) (circles_of ms end))) (sym (first-append p ps))

modules-found : (ms : List VModule) (f : Found) (at : ℕ) → f.end ≡ cap at → (modules_added ms f).first ≡ earlier f.first (circles_of ms at)
modules-found [] f at e = sym (earlier-none f.first)
modules-found (m ∷ ms) f at e =
    modules-found ms (module_added m f) (at + module_size m) (ap (λ n. plus (module_walked m n).at 1) e ∙ module-end m at)
    ∙ ap (λ n. earlier (earlier f.first (first_broken (module_walked m n).calls [])) (circles_of ms (at + module_size m))) e
    ∙ earlier-assoc f.first (circle_of m at) (circles_of ms (at + module_size m))

pub whole_first : (e : VDesign) → earlier (first (design_checked e)) (modules_added e.modules nothing_found).first ≡ first (broken_tokens e)
whole_first e =
    let ms = e.modules in
    ap (earlier (first (design_checked e))) (modules-found ms nothing_found 0 refl ∙ none-earlier (circles_of ms 0))
    ∙ sym (before (repeated [] (module_names ms 0)) (modules_broken ms ms 0) (modules_checked ms ms 0) (circles_of ms 0) (modules-split ms ms 0))
