-- The tokens at which a design breaks a rule that needs no top, but for functions that lead back to themselves.
use Rattle.std.specs.Prelude.{ℕ, ◌+◌, false, List, [], ◌∷◌, ◌++◌, length}
use Rattle.v_tree.specs.Scopes.{inside, nowhere, repeated}
use Rattle.v_tree.specs.ExprRules.{Around, only_if}
use Rattle.v_tree.specs.Rules.{item_size, module_size, ports_size, module_links, leads, declared_in, ports_of, listed_ports, undeclared, unlisted, module_names}
use Rattle.v_tree.specs.declared.items.VDesign.{VDesign}
use Rattle.v_tree.specs.declared.items.VItem.{VItem}
use Rattle.v_tree.specs.declared.items.VItem.TheVariants as I
use Rattle.v_tree.specs.declared.items.VModule.{VModule}
use Rattle.v_rules.specs.Plain.{item_plain}

-- an instance of a module that leads back to the module that it stands in
abbrev pub item_circle : List VModule → VModule → VItem → ℕ → List ℕ
item_circle ms m (I.Signal s) at = []
item_circle ms m (I.Initial i) at = []
item_circle ms m (I.Process p) at = []
item_circle ms m (I.Function f) at = []
item_circle ms m (I.Instance i) at = only_if (leads (length ms) (module_links ms) i.of m.name) at

abbrev pub items_checked : List VModule → VModule → Around → List VItem → ℕ → List ℕ
items_checked ms m around [] at = []
items_checked ms m around (i ∷ is) at = (item_circle ms m i at ++ item_plain ms around i at) ++ items_checked ms m around is (at + item_size i)

abbrev pub module_checked : List VModule → VModule → ℕ → List ℕ
module_checked ms m at =
    let first = at + (3 + ports_size m.ports) in
    let own = declared_in m.items first in
    let ports = ports_of m.items first in
    let list = listed_ports m.ports (at + 3) in
    repeated [] list ++ (undeclared ports list ++ (unlisted m.ports ports
    ++ (repeated [] own ++ items_checked ms m (record { scope = inside own nowhere; leads_back = λ f. false }) m.items first)))

abbrev pub modules_checked : List VModule → List VModule → ℕ → List ℕ
modules_checked all [] at = []
modules_checked all (m ∷ ms) at = module_checked all m at ++ modules_checked all ms (at + module_size m)

abbrev pub design_checked : VDesign → List ℕ
design_checked e = repeated [] (module_names e.modules 0) ++ modules_checked e.modules e.modules 0
