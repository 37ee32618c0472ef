-- The walk, level by level.
use Rattle.std.proofs.Common.{◌≡◌, Bool, ℕ, zero, suc, ◌+◌, List, [], ◌∷◌, ◌++◌, length, map, Option, Some, None, slice_get, refl, sym, ap, ◌∙◌, append_assoc, arith}
use Rattle.std.proofs.lemmas.List.{append-nil, length-map}
use Rattle.v_tree.specs.Names.{Name}
use Rattle.v_tree.specs.declared.items.VItem.{VItem}
use Rattle.v_tree.specs.declared.items.VItem.TheVariants as I
use Rattle.v_tree.specs.declared.items.VModule.{VModule}
use Rattle.v_meaning.specs.Modules as M
use Rattle.v_meaning.specs.Modules.{Parts, Process, InitialValue, Child, joined_parts, parts_from, own_parts, children, signal_count, signals, below}
use Rattle.v_rules.specs.Tables.{numbers_from, no_numbers}
use Rattle.v_modules.specs.declared.table.Table.{Table}
use Rattle.v_modules.specs.Tables.{items_of, items_in}
use Rattle.v_processes.specs.Naming.{items_numbered}
use Rattle.v_processes.specs.Processes.{items_at}
use Rattle.v_processes.specs.Stems.{Source, own_sources, sources_from}
use Rattle.v_processes.specs.Walks.{module_parts, child_parts, module_sources, below_sources}
use Rattle.v_processes.proofs.Named.{items-named}

-- the parts of a level
level : (depth d : ℕ) (ms : List VModule) (n : ℕ) (name : Name) → depth ≡ suc d → parts_from depth ms n name ≡ module_parts d ms n (M.items_of ms name)
unfolding parts_from
level depth d ms n name e = ap (λ k. parts_from k ms n name) e

none-level : (depth : ℕ) (ms : List VModule) (n : ℕ) (name : Name) → depth ≡ 0 → parts_from depth ms n name ≡ M.no_parts
unfolding parts_from
none-level depth ms n name e = ap (λ k. parts_from k ms n name) e

pub none-deep : (depth : ℕ) (ms : List VModule) (n : ℕ) (name : Name) (old : List Process) → depth ≡ 0 → old ≡ old ++ (parts_from depth ms n name).processes
none-deep depth ms n name old e = sym (append-nil old) ∙ ap (λ (p : Parts). old ++ p.processes) (sym (none-level depth ms n name e))

pub none-deep-initials : (depth : ℕ) (ms : List VModule) (n : ℕ) (name : Name) (old : List InitialValue) → depth ≡ 0 → old ≡ old ++ (parts_from depth ms n name).initials
none-deep-initials depth ms n name old e = sym (append-nil old) ∙ ap (λ (p : Parts). old ++ p.initials) (sym (none-level depth ms n name e))

pub absent-module : (depth d : ℕ) (ms : List VModule) (n : ℕ) (name : Name) (o : Option ℕ) (old : List Process) → depth ≡ suc d → o ≡ None → o ≡ numbers_from 0 ms no_numbers name
    → old ≡ old ++ (parts_from depth ms n name).processes
absent-module depth d ms n name o old e f g =
    sym (append-nil old)
    ∙ sym (ap (λ (p : Parts). old ++ p.processes) (level depth d ms n name e ∙ ap (module_parts d ms n) (sym (items-named ms name o g) ∙ ap (items_numbered ms) f)))

pub absent-initials : (depth d : ℕ) (ms : List VModule) (n : ℕ) (name : Name) (o : Option ℕ) (old : List InitialValue) → depth ≡ suc d → o ≡ None → o ≡ numbers_from 0 ms no_numbers name
    → old ≡ old ++ (parts_from depth ms n name).initials
absent-initials depth d ms n name o old e f g =
    sym (append-nil old)
    ∙ sym (ap (λ (p : Parts). old ++ p.initials) (level depth d ms n name e ∙ ap (module_parts d ms n) (sym (items-named ms name o g) ∙ ap (items_numbered ms) f)))

pub module-level : (depth d : ℕ) (ms : List VModule) (n of : ℕ) (name : Name) (o : Option ℕ) → depth ≡ suc d → o ≡ Some of → o ≡ numbers_from 0 ms no_numbers name
    → module_parts d ms n (items_at ms of) ≡ parts_from depth ms n name
module-level depth d ms n of name o e f g =
    ap (module_parts d ms n) (sym (ap (items_numbered ms) f) ∙ items-named ms name o g) ∙ sym (level depth d ms n name e)

-- the same of the text that processes stem from
source-level : (depth d : ℕ) (ms : List VModule) (n : ℕ) (name : Name) → depth ≡ suc d → sources_from depth ms n name ≡ module_sources d ms n (M.items_of ms name)
unfolding sources_from
source-level depth d ms n name e = ap (λ k. sources_from k ms n name) e

source-none : (depth : ℕ) (ms : List VModule) (n : ℕ) (name : Name) → depth ≡ 0 → sources_from depth ms n name ≡ []
unfolding sources_from
source-none depth ms n name e = ap (λ k. sources_from k ms n name) e

pub none-deep-sources : (depth : ℕ) (ms : List VModule) (n : ℕ) (name : Name) (old : List Source) → depth ≡ 0 → old ≡ old ++ sources_from depth ms n name
none-deep-sources depth ms n name old e = sym (append-nil old) ∙ ap (λ l. old ++ l) (sym (source-none depth ms n name e))

pub absent-sources : (depth d : ℕ) (ms : List VModule) (n : ℕ) (name : Name) (o : Option ℕ) (old : List Source) → depth ≡ suc d → o ≡ None → o ≡ numbers_from 0 ms no_numbers name
    → old ≡ old ++ sources_from depth ms n name
absent-sources depth d ms n name o old e f g =
    sym (append-nil old)
    ∙ sym (ap (λ l. old ++ l) (source-level depth d ms n name e ∙ ap (module_sources d ms n) (sym (items-named ms name o g) ∙ ap (items_numbered ms) f)))

pub module-source-level : (depth d : ℕ) (ms : List VModule) (n of : ℕ) (name : Name) (o : Option ℕ) → depth ≡ suc d → o ≡ Some of → o ≡ numbers_from 0 ms no_numbers name
    → module_sources d ms n (items_at ms of) ≡ sources_from depth ms n name
module-source-level depth d ms n of name o e f g =
    ap (module_sources d ms n) (sym (ap (items_numbered ms) f) ∙ items-named ms name o g) ∙ sym (source-level depth d ms n name e)

-- tables and items by numbers
pub table-items : (ts : List Table) (ms : List VModule) (k : ℕ) (t : Table) → map items_of ts ≡ map items_in ms → slice_get ts k ≡ Some t → items_of t ≡ items_at ms k
table-items [] ms k t e f = absurd (cc)
table-items (u ∷ ts) [] k t e f = absurd (cc)
table-items (u ∷ ts) (m ∷ ms) zero t e f = let g : u ≡ t = cc in let h : items_of u ≡ items_in m = cc in ap items_of (sym g) ∙ h
table-items (u ∷ ts) (m ∷ ms) (suc k) t e f = table-items ts ms k t (cc) f

pub no-table : (ts : List Table) (ms : List VModule) (k : ℕ) → map items_of ts ≡ map items_in ms → slice_get ts k ≡ None → items_at ms k ≡ []
no-table [] [] k e f = refl
no-table [] (m ∷ ms) k e f = absurd (cc)
no-table (u ∷ ts) [] k e f = absurd (cc)
no-table (u ∷ ts) (m ∷ ms) zero e f = absurd (cc)
no-table (u ∷ ts) (m ∷ ms) (suc k) e f = no-table ts ms k (cc) f

-- one child more
pub child-processes : (depth : ℕ) (ms : List VModule) (n : ℕ) (i : VItem) (is : List VItem)
    → (child_parts depth ms n (i ∷ is)).processes ≡ (child_parts depth ms n (i ∷ [])).processes ++ (child_parts depth ms (n + below (signal_count depth ms) (i ∷ [])) is).processes
child-processes depth ms n (I.Signal s) is = ap (λ k. (child_parts depth ms k is).processes) (omega arith)
child-processes depth ms n (I.Initial x) is = ap (λ k. (child_parts depth ms k is).processes) (omega arith)
child-processes depth ms n (I.Process p) is = ap (λ k. (child_parts depth ms k is).processes) (omega arith)
child-processes depth ms n (I.Function f) is = ap (λ k. (child_parts depth ms k is).processes) (omega arith)
child-processes depth ms n (I.Instance x) is =
    let here = (parts_from depth ms n x.of).processes in
    ap (λ l. l ++ (child_parts depth ms (n + signal_count depth ms x.of) is).processes) (sym (append-nil here)) ∙ ap (λ k. (here ++ []) ++ (child_parts depth ms k is).processes) (omega arith)

pub child-initials : (depth : ℕ) (ms : List VModule) (n : ℕ) (i : VItem) (is : List VItem)
    → (child_parts depth ms n (i ∷ is)).initials ≡ (child_parts depth ms n (i ∷ [])).initials ++ (child_parts depth ms (n + below (signal_count depth ms) (i ∷ [])) is).initials
child-initials depth ms n (I.Signal s) is = ap (λ k. (child_parts depth ms k is).initials) (omega arith)
child-initials depth ms n (I.Initial x) is = ap (λ k. (child_parts depth ms k is).initials) (omega arith)
child-initials depth ms n (I.Process p) is = ap (λ k. (child_parts depth ms k is).initials) (omega arith)
child-initials depth ms n (I.Function f) is = ap (λ k. (child_parts depth ms k is).initials) (omega arith)
child-initials depth ms n (I.Instance x) is =
    let here = (parts_from depth ms n x.of).initials in
    ap (λ l. l ++ (child_parts depth ms (n + signal_count depth ms x.of) is).initials) (sym (append-nil here)) ∙ ap (λ k. (here ++ []) ++ (child_parts depth ms k is).initials) (omega arith)

pub child-sources : (depth : ℕ) (ms : List VModule) (n : ℕ) (i : VItem) (is : List VItem)
    → below_sources depth ms n (i ∷ is) ≡ below_sources depth ms n (i ∷ []) ++ below_sources depth ms (n + below (signal_count depth ms) (i ∷ [])) is
child-sources depth ms n (I.Signal s) is = ap (λ k. below_sources depth ms k is) (omega arith)
child-sources depth ms n (I.Initial x) is = ap (λ k. below_sources depth ms k is) (omega arith)
child-sources depth ms n (I.Process p) is = ap (λ k. below_sources depth ms k is) (omega arith)
child-sources depth ms n (I.Function f) is = ap (λ k. below_sources depth ms k is) (omega arith)
child-sources depth ms n (I.Instance x) is =
    let here = sources_from depth ms n x.of in
    ap (λ l. l ++ below_sources depth ms (n + signal_count depth ms x.of) is) (sym (append-nil here)) ∙ ap (λ k. (here ++ []) ++ below_sources depth ms k is) (omega arith)

-- a child's own
pub child-alone : (depth : ℕ) (ms : List VModule) (n : ℕ) (name : Name) (old new : List Process) → new ≡ old ++ (parts_from depth ms n name).processes → new ≡ old ++ ((parts_from depth ms n name).processes ++ [])
child-alone depth ms n name old new e = e ∙ ap (λ l. old ++ l) (sym (append-nil (parts_from depth ms n name).processes))

pub child-alone-initials : (depth : ℕ) (ms : List VModule) (n : ℕ) (name : Name) (old new : List InitialValue) → new ≡ old ++ (parts_from depth ms n name).initials → new ≡ old ++ ((parts_from depth ms n name).initials ++ [])
child-alone-initials depth ms n name old new e = e ∙ ap (λ l. old ++ l) (sym (append-nil (parts_from depth ms n name).initials))

-- an instance's own parts, and then those of its children
pub own-then : {A : Type 0} (old own now new inner : List A) → own ≡ old ++ now → new ≡ own ++ inner → new ≡ old ++ (now ++ inner)
own-then old own now new inner e f = f ∙ ap (λ l. l ++ inner) e ∙ append_assoc old now inner

pub module-processes : (depth : ℕ) (ms : List VModule) (n first behind : ℕ) (is items : List VItem) (old own new : List Process) → first ≡ n → behind ≡ n + length (signals is) → items ≡ is
    → own ≡ old ++ M.processes ms (signal_count depth ms) (M.scope_of first is) behind is → new ≡ own ++ (child_parts depth ms behind items).processes → new ≡ old ++ (module_parts depth ms n is).processes
module-processes depth ms n first behind is items old own new e f g h k =
    own-then old own (M.processes ms (signal_count depth ms) (M.scope_of first is) behind is) new (child_parts depth ms behind items).processes h k
    ∙ (λ i. old ++ (M.processes ms (signal_count depth ms) (M.scope_of (e i) is) (f i) is ++ (child_parts depth ms (f i) (g i)).processes))

pub module-initials : (depth : ℕ) (ms : List VModule) (n first behind : ℕ) (is items : List VItem) (old own new : List InitialValue) → first ≡ n → behind ≡ n + length (signals is) → items ≡ is
    → own ≡ old ++ M.initials (M.scope_of first is) is → new ≡ own ++ (child_parts depth ms behind items).initials → new ≡ old ++ (module_parts depth ms n is).initials
module-initials depth ms n first behind is items old own new e f g h k =
    own-then old own (M.initials (M.scope_of first is) is) new (child_parts depth ms behind items).initials h k
    ∙ (λ i. old ++ (M.initials (M.scope_of (e i) is) is ++ (child_parts depth ms (f i) (g i)).initials))

pub all-sources : (depth : ℕ) (ms : List VModule) (n behind : ℕ) (is items : List VItem) (old own new : List Source) → behind ≡ n + length (signals is) → items ≡ is
    → own ≡ old ++ own_sources ms (signal_count depth ms) is behind is → new ≡ own ++ below_sources depth ms behind items → new ≡ old ++ module_sources depth ms n is
all-sources depth ms n behind is items old own new f g h k =
    own-then old own (own_sources ms (signal_count depth ms) is behind is) new (below_sources depth ms behind items) h k
    ∙ (λ i. old ++ (own_sources ms (signal_count depth ms) is (f i) is ++ below_sources depth ms (f i) (g i)))

pub empty-sources : (depth : ℕ) (ms : List VModule) (n : ℕ) (is : List VItem) (old : List Source) → is ≡ [] → old ≡ old ++ module_sources depth ms n is
empty-sources depth ms n is old e = sym (append-nil old) ∙ ap (λ l. old ++ module_sources depth ms n l) (sym e)

pub empty-processes : (depth : ℕ) (ms : List VModule) (n : ℕ) (is : List VItem) (old : List Process) → is ≡ [] → old ≡ old ++ (module_parts depth ms n is).processes
empty-processes depth ms n is old e = sym (append-nil old) ∙ ap (λ l. old ++ (module_parts depth ms n l).processes) (sym e)

pub empty-initials : (depth : ℕ) (ms : List VModule) (n : ℕ) (is : List VItem) (old : List InitialValue) → is ≡ [] → old ≡ old ++ (module_parts depth ms n is).initials
empty-initials depth ms n is old e = sym (append-nil old) ∙ ap (λ l. old ++ (module_parts depth ms n l).initials) (sym e)

-- how many signals a table has
pub behind-is : (n behind len : ℕ) (inputs : List Bool) (ss : List M.Signal) (f : M.Signal → Bool) → inputs ≡ map f ss → len ≡ length inputs → behind ≡ n + len → behind ≡ n + length ss
behind-is n behind len inputs ss f e l b = b ∙ ap (λ k. n + k) (l ∙ ap length e ∙ length-map ss f)

pub ruleset entering = (none-deep, none-deep-initials, none-deep-sources, absent-module, absent-initials, absent-sources)
