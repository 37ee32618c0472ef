-- The instances of a design that a text reads as, and the tables of their modules.
use Rattle.std.proofs.Common.{◌≡◌, ℕ, zero, suc, ◌+◌, true, List, [], ◌∷◌, map, Some, slice_get, arith, ap, sym, subst}
use Rattle.std.specs.List.{list_all}
use Rattle.v_tree.specs.Reading.{VReads}
use Rattle.v_tree.specs.Rules.{module_broken, modules_broken, module_size, module_names}
use Rattle.v_tree.specs.Scopes.{repeated}
use Rattle.v_tree.specs.declared.items.VConnection.{VConnection}
use Rattle.v_tree.specs.declared.items.VDesign.{VDesign}
use Rattle.v_tree.specs.declared.items.VItem.{VItem}
use Rattle.v_tree.specs.declared.items.VModule.{VModule}
use Rattle.v_meaning.specs.Scopes.{Scope}
use Rattle.v_meaning.specs.Modules.{scope_of}
use Rattle.v_exec.specs.Keeping.{LinkNarrow, LinksNarrow, ItemNarrow, ItemsNarrow, ModuleNarrow}
use Rattle.v_exec.specs.Modules.{FunctionsNarrow}
use Rattle.v_exec.proofs.KeptExprs.{left-none, right-none, both-yes}
use Rattle.v_exec.proofs.KeptModules.{module-narrow, functions-narrow}
use Rattle.v_modules.specs.declared.table.Table.{Table}
use Rattle.v_modules.specs.Tables.{items_of, items_in}
use Rattle.v_processes.specs.declared.process.Proc.{Proc}
use Rattle.v_processes.specs.Processes.{does_in, items_at, process_at}
use Rattle.v_processes.proofs.Entering.{table-items}
use Rattle.v_selects.specs.Few.{few_of_module}
use Rattle.v_selects.proofs.Derivations.{spelled-few}

-- a module by its number; an absent one has no items
numbered-narrow : (all ms : List VModule) (at n d k : ℕ) → list_all few_of_module ms ≡ true → modules_broken all ms at ≡ [] → ModuleNarrow all n d (items_at ms k)
numbered-narrow all [] at n d k fits none = record { functions = omega arith; processes = tt }
numbered-narrow all (m ∷ ms) at n d zero fits none =
    let b = both-yes (few_of_module m) (list_all few_of_module ms) fits in
    module-narrow all m at n d b.0 (left-none (module_broken all m at) (modules_broken all ms (at + module_size m)) none)
numbered-narrow all (m ∷ ms) at n d (suc k) fits none =
    let b = both-yes (few_of_module m) (list_all few_of_module ms) fits in
    numbered-narrow all ms (at + module_size m) n d k b.1 (right-none (module_broken all m at) (modules_broken all ms (at + module_size m)) none)

-- The module with a number, of a design that a text reads as, in any instance and however deep calls go.
pub read-numbered : (bytes : List ℕ) (e : VDesign) (n d k : ℕ) → VReads bytes e → ModuleNarrow e.modules n d (items_at e.modules k)
read-numbered bytes e n d k h =
    numbered-narrow e.modules e.modules 0 n d k (spelled-few bytes e h.spells) (right-none (repeated [] (module_names e.modules 0)) (modules_broken e.modules e.modules 0) h.keeps)

-- The functions of a module by its table.
pub read-functions : (bytes : List ℕ) (e : VDesign) (ts : List Table) (k : ℕ) (t : Table) (first : ℕ) → VReads bytes e → map items_of ts ≡ map items_in e.modules → slice_get ts k ≡ Some t → FunctionsNarrow first t.names
read-functions bytes e ts k t first h tabled there =
    functions-narrow e.modules first t.names (t.named first)
    (λ d. subst (ModuleNarrow e.modules first d) (sym (table-items ts e.modules k t tabled there)) (read-numbered bytes e first d k h))

-- A process by the table of its module is the process of its instance.
pub process-by-table : (ts : List Table) (ms : List VModule) (p : Proc) (t : Table) → map items_of ts ≡ map items_in ms → slice_get ts p.of ≡ Some t → does_in p.does (scope_of p.first (items_of t)) ≡ process_at ms p
process-by-table ts ms p t tabled there = ap (λ is. does_in p.does (scope_of p.first is)) (table-items ts ms p.of t tabled there)

-- items and connections by their places
pub item-narrow : (ms : List VModule) (sc : Scope) (is : List VItem) (k : ℕ) (x : VItem) → ItemsNarrow ms sc is → slice_get is k ≡ Some x → ItemNarrow ms sc x
item-narrow ms sc [] k x h there = absurd (cc)
item-narrow ms sc (i ∷ is) zero x h there = subst (ItemNarrow ms sc) (let e : i ≡ x = cc in e) h.0
item-narrow ms sc (i ∷ is) (suc k) x h there = item-narrow ms sc is k x h.1 there

pub link-narrow : (sc : Scope) (is : List VItem) (cs : List VConnection) (k : ℕ) (c : VConnection) → LinksNarrow sc is cs → slice_get cs k ≡ Some c → LinkNarrow sc is c.value c.port
link-narrow sc is [] k c h there = absurd (cc)
link-narrow sc is (d ∷ cs) zero c h there = subst (λ (x : VConnection). LinkNarrow sc is x.value x.port) (let e : d ≡ c = cc in e) h.0
link-narrow sc is (d ∷ cs) (suc k) c h there = link-narrow sc is cs k c h.1 there
