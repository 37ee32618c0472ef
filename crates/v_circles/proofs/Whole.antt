-- The first token at which a design breaks a rule, circles of modules among them: by the rules without circles, and by calls.
use Rattle.std.proofs.Common.{◌≡◌, ℕ, ◌+◌, false, List, [], ◌∷◌, ◌++◌, Option, sym, ap, ◌∙◌}
use Rattle.call_circles.specs.Calls.{first_broken}
use Rattle.v_tree.specs.Scopes.{inside, nowhere, repeated}
use Rattle.v_tree.specs.ExprRules.{Around}
use Rattle.v_tree.specs.Rules.{item_size, ports_size, module_size, declared_in, ports_of, listed_ports, undeclared, unlisted, module_names}
use Rattle.v_tree.specs.declared.items.VDesign.{VDesign}
use Rattle.v_tree.specs.declared.items.VItem.{VItem}
use Rattle.v_tree.specs.declared.items.VModule.{VModule}
use Rattle.v_expr_rules.specs.Seen.{earlier}
use Rattle.v_expr_rules.specs.Least.{first}
use Rattle.v_expr_rules.proofs.Saturation.{earlier-none, earlier-assoc, earlier-comm, first-append}
use Rattle.v_stmt_rules.proofs.Declared.{weave}
use Rattle.v_stmt_rules.proofs.StmtsExact.{swap}
use Rattle.v_rules.specs.Plain.{item_plain, items_plain, module_plain, modules_plain, design_plain}
use Rattle.v_rules.specs.Tables.{no_numbers, numbers_from}
use Rattle.v_circles.specs.Plain.{item_circle, items_checked, module_checked, modules_checked, design_checked}
use Rattle.v_circles.proofs.Circles.{items_circle, modules_circle, circles-first}
use Rattle.v_circles.specs.Calls.{modules_walked, nothing_walked}
use Rattle.v_circles.proofs.Leading.{calls}
use Rattle.v_circles.proofs.Walking.{walk-calls}

items-split : (all : List VModule) (m : VModule) (a : Around) (is : List VItem) (at : ℕ)
    → first (items_checked all m a is at) ≡ earlier (first (items_plain all a is at)) (first (items_circle all m is at))
items-split all m a [] at = sym (earlier-none (first []))
items-split all m a (i ∷ is) at =
    let c = item_circle all m i at in
    let p = item_plain all a i at in
    let end = at + item_size i in
    let ps = items_plain all a is end in
    let cs = items_circle all m is end in
    first-append (c ++ p) (items_checked all m a is end)
    ∙ (λ j. earlier ((first-append c p ∙ earlier-comm (first c) (first p)) j) (items-split all m a is end j))
    ∙ weave (first p) (first c) (first ps) (first cs)
    ∙ (λ j. earlier (sym (first-append p ps) j) (sym (first-append c cs) j))

-- what stands before stays before
behind : (xs ys zs : List ℕ) (o : Option ℕ) → first ys ≡ earlier (first zs) o → first (xs ++ ys) ≡ earlier (first (xs ++ zs)) o
behind xs ys zs o e =
    first-append xs ys ∙ ap (earlier (first xs)) e ∙ sym (earlier-assoc (first xs) (first zs) o) ∙ ap (λ x. earlier x o) (sym (first-append xs zs))

module-split : (all : List VModule) (m : VModule) (at : ℕ)
    → first (module_checked all m at) ≡ earlier (first (module_plain all m at)) (first (items_circle all m m.items (at + (3 + ports_size m.ports))))
module-split all m at =
    let begin = at + (3 + ports_size m.ports) in
    let own = declared_in m.items begin in
    let ports = ports_of m.items begin in
    let list = listed_ports m.ports (at + 3) in
    let a : Around = record { scope = inside own nowhere; leads_back = λ f. false } in
    let xs = items_checked all m a m.items begin in
    let ys = items_plain all a m.items begin in
    let c = first (items_circle all m m.items begin) in
    behind (repeated [] list) (undeclared ports list ++ (unlisted m.ports ports ++ (repeated [] own ++ xs))) (undeclared ports list ++ (unlisted m.ports ports ++ (repeated [] own ++ ys))) c
    (behind (undeclared ports list) (unlisted m.ports ports ++ (repeated [] own ++ xs)) (unlisted m.ports ports ++ (repeated [] own ++ ys)) c
    (behind (unlisted m.ports ports) (repeated [] own ++ xs) (repeated [] own ++ ys) c
    (behind (repeated [] own) xs ys c (items-split all m a m.items begin))))

modules-split : (all ms : List VModule) (at : ℕ) → first (modules_checked all ms at) ≡ earlier (first (modules_plain all ms at)) (first (modules_circle all ms at))
modules-split all [] at = sym (earlier-none (first []))
modules-split all (m ∷ ms) at =
    let end = at + module_size m in
    let p = module_plain all m at in
    let c = items_circle all m m.items (at + (3 + ports_size m.ports)) in
    let ps = modules_plain all ms end in
    let cs = modules_circle all ms end in
    first-append (module_checked all m at) (modules_checked all ms end)
    ∙ (λ j. earlier (module-split all m at j) (modules-split all ms end j))
    ∙ weave (first p) (first c) (first ps) (first cs)
    ∙ (λ j. earlier (sym (first-append p ps) j) (sym (first-append c cs) j))

-- the first token by the rules without circles, and the first one by calls
pub both_first : (e : VDesign)
    → earlier (first (design_plain e)) (first_broken (modules_walked (numbers_from 0 e.modules no_numbers) 0 e.modules nothing_walked).calls []) ≡ first (design_checked e)
both_first e =
    let all = e.modules in
    let names = repeated [] (module_names all 0) in
    let r = first names in
    let p = first (modules_plain all all 0) in
    let c = first (modules_circle all all 0) in
    let f = first_broken (calls all) [] in
    ap (λ cs. earlier (first (design_plain e)) (first_broken cs [])) (walk-calls (numbers_from 0 all no_numbers) all)
    ∙ ap (λ x. earlier x f) (first-append names (modules_plain all all 0))
    ∙ earlier-assoc r p f
    ∙ swap r p f
    ∙ ap (earlier p) (sym (circles-first all))
    ∙ swap p r c
    ∙ ap (earlier r) (sym (modules-split all all 0))
    ∙ sym (first-append names (modules_checked all all 0))
