-- The rules that a design keeps, but for nesting and what hangs on its top: as the tokens at which it breaks one.
use Rattle.std.specs.Prelude.{◌≡◌, ℕ, zero, suc, ◌+◌, ◌*◌, ◌^◌, ◌≤◌, ◌==◌, max, nat_lt, Bool, true, false, not, ◌||◌, List, [], ◌∷◌, ◌++◌, map, length, Option, Some, None, if◌then◌else◌}
use Rattle.std.specs.List.{list_any}
use Rattle.std.specs.Str.{bytes_eq}
use Rattle.v_tree.specs.Names.{Name, among}
use Rattle.v_tree.specs.Scopes.{Kind, input, net, variable, local, Thing, value, memory, function, result, part, Declared, Scope, inside, nowhere, repeated, bits_of, has_range}
use Rattle.v_tree.specs.ExprRules.{Around, rules_of, alone, only_if, total}
use Rattle.v_tree.specs.StmtRules.{target_of, rules_of_stmt, rules_of_branch, in_function, at_star, at_edges, range_size, locals_size, locals_from}
use Rattle.v_tree.specs.declared.expressions.VExpr.{VExpr}
use Rattle.v_tree.specs.declared.items.VConnection.{VConnection}
use Rattle.v_tree.specs.declared.items.VDesign.{VDesign}
use Rattle.v_tree.specs.declared.items.VEdge.{VEdge}
use Rattle.v_tree.specs.declared.items.VFunction.{VFunction}
use Rattle.v_tree.specs.declared.items.VInit.{VInit}
use Rattle.v_tree.specs.declared.items.VInit.TheVariants as V
use Rattle.v_tree.specs.declared.items.VInstance.{VInstance}
use Rattle.v_tree.specs.declared.items.VItem.{VItem}
use Rattle.v_tree.specs.declared.items.VItem.TheVariants as I
use Rattle.v_tree.specs.declared.items.VLocal.{VLocal}
use Rattle.v_tree.specs.declared.items.VModule.{VModule}
use Rattle.v_tree.specs.declared.items.VProcess.{VProcess}
use Rattle.v_tree.specs.declared.items.VProcess.TheVariants.{Assign, Always}
use Rattle.v_tree.specs.declared.items.VRegRest.{VRegRest}
use Rattle.v_tree.specs.declared.items.VRegRest.TheVariants as R
use Rattle.v_tree.specs.declared.items.VSensitivity.{VSensitivity}
use Rattle.v_tree.specs.declared.items.VSensitivity.TheVariants.{Star, Edges}
use Rattle.v_tree.specs.declared.items.VSignal.{VSignal}
use Rattle.v_tree.specs.declared.items.VSignal.TheVariants.{Input, Output, OutputReg, Wire, Reg}

-- how many tokens things have
abbrev pub listed_tokens : ℕ → ℕ
listed_tokens zero = 0
listed_tokens (suc n) = n + suc n

abbrev pub init_size : VInit → ℕ
init_size (V.Number bits) = 2
init_size (V.Concat pieces) = 3 + listed_tokens (length pieces)

abbrev pub init_bits : VInit → ℕ
init_bits (V.Number bits) = length bits
init_bits (V.Concat pieces) = total (map length pieces)

abbrev pub optional_size : Option VInit → ℕ
optional_size None = 0
optional_size (Some v) = init_size v

abbrev pub rest_size : Option VRegRest → ℕ
rest_size None = 0
rest_size (Some (R.Memory left)) = 5
rest_size (Some (R.Initial v)) = init_size v

abbrev pub signal_size : VSignal → ℕ
signal_size (Input range name) = 3 + range_size range
signal_size (Output range name) = 3 + range_size range
signal_size (OutputReg range name initial) = 4 + (range_size range + optional_size initial)
signal_size (Wire range name) = 3 + range_size range
signal_size (Reg range name rest) = 3 + (range_size range + rest_size rest)

abbrev pub event_size : VSensitivity → ℕ
event_size Star = 1
event_size (Edges edges) = suc (3 * length edges)

abbrev pub process_size : VProcess → ℕ
process_size (Assign target right) = 3 + ((target_of target).size + (rules_of right).size)
process_size (Always on body) = 2 + (event_size on + (rules_of_branch body).size)

abbrev pub function_size : VFunction → ℕ
function_size f = 4 + (range_size f.range + (locals_size f.inputs + (locals_size f.locals + (rules_of_stmt f.body).size)))

abbrev pub value_size : Option VExpr → ℕ
value_size None = 0
value_size (Some x) = (rules_of x).size

abbrev pub connections_size : List VConnection → ℕ
connections_size [] = 0
connections_size (c ∷ []) = 4 + value_size c.value
connections_size (c ∷ d ∷ cs) = 5 + (value_size c.value + connections_size (d ∷ cs))

abbrev pub item_size : VItem → ℕ
item_size (I.Signal s) = signal_size s
item_size (I.Initial i) = 5
item_size (I.Process p) = process_size p
item_size (I.Function f) = function_size f
item_size (I.Instance i) = 5 + connections_size i.connections

abbrev pub items_size : List VItem → ℕ
items_size is = total (map item_size is)

abbrev pub ports_size : List Name → ℕ
ports_size [] = 0
ports_size (n ∷ ns) = 2 + listed_tokens (suc (length ns))

abbrev pub module_size : VModule → ℕ
module_size m = 4 + (ports_size m.ports + items_size m.items)

-- what a signal is declared as, with the token of its name
abbrev pub a_signal : Name → ℕ → Kind → Option ℕ → Declared
a_signal name token kind range = record { name = name; token = token; thing = value kind (bits_of range) (has_range range) }

abbrev pub reg_thing : Option ℕ → Option VRegRest → Thing
reg_thing range None = value variable (bits_of range) (has_range range)
reg_thing range (Some (R.Memory left)) = memory (bits_of range) (has_range range)
reg_thing range (Some (R.Initial v)) = value variable (bits_of range) (has_range range)

abbrev pub declared_signal : VSignal → ℕ → Declared
declared_signal (Input range name) at = a_signal name (suc at + range_size range) input range
declared_signal (Output range name) at = a_signal name (suc at + range_size range) net range
declared_signal (OutputReg range name initial) at = a_signal name (2 + (at + range_size range)) variable range
declared_signal (Wire range name) at = a_signal name (suc at + range_size range) net range
declared_signal (Reg range name rest) at = record { name = name; token = suc at + range_size range; thing = reg_thing range rest }

abbrev pub input_bits : VFunction → List ℕ
input_bits f = map (λ (l : VLocal). bits_of l.range) f.inputs

abbrev pub function_token : VFunction → ℕ → ℕ
function_token f at = suc at + range_size f.range

-- the names that an item declares in its module (clause 12.7)
abbrev pub declared_by : VItem → ℕ → List Declared
declared_by (I.Signal s) at = declared_signal s at ∷ []
declared_by (I.Initial i) at = []
declared_by (I.Process (Assign target right)) at = []
declared_by (I.Process (Always on body)) at = (rules_of_branch body).blocks (at + (2 + event_size on))
declared_by (I.Function f) at = record { name = f.name; token = function_token f at; thing = function (bits_of f.range) (input_bits f) } ∷ []
declared_by (I.Instance i) at = record { name = i.name; token = suc at; thing = part } ∷ []

abbrev pub declared_in : List VItem → ℕ → List Declared
declared_in [] at = []
declared_in (i ∷ is) at = declared_by i at ++ declared_in is (at + item_size i)

-- what names lead to: who names whom
pub record Link : Type 0 where
  pub from : Name
  pub to : List Name

abbrev pub links_of : List Link → Name → List Name
links_of [] name = []
links_of (l ∷ ls) name = if bytes_eq l.from name then l.to else links_of ls name

-- a name leads to another within so many steps
abbrev pub leads : ℕ → List Link → Name → Name → Bool
leads zero ls a b = bytes_eq a b
leads (suc n) ls a b = bytes_eq a b || list_any (λ c. leads n ls c b) (links_of ls a)

abbrev pub instantiated : List VItem → List Name
instantiated [] = []
instantiated (I.Instance i ∷ is) = i.of ∷ instantiated is
instantiated (i ∷ is) = instantiated is

abbrev pub module_links : List VModule → List Link
module_links ms = map (λ (m : VModule). record { from = m.name; to = instantiated m.items }) ms

-- a port of a module
pub record Port : Type 0 where
  pub name : Name
  pub token : ℕ
  pub is_input : Bool
  pub width : ℕ

abbrev pub ports_by : VSignal → ℕ → List Port
ports_by (Input range name) at = record { name = name; token = suc at + range_size range; is_input = true; width = bits_of range } ∷ []
ports_by (Output range name) at = record { name = name; token = suc at + range_size range; is_input = false; width = bits_of range } ∷ []
ports_by (OutputReg range name initial) at = record { name = name; token = 2 + (at + range_size range); is_input = false; width = bits_of range } ∷ []
ports_by (Wire range name) at = []
ports_by (Reg range name rest) at = []

abbrev pub ports_of : List VItem → ℕ → List Port
ports_of [] at = []
ports_of (I.Signal s ∷ is) at = ports_by s at ++ ports_of is (at + signal_size s)
ports_of (i ∷ is) at = ports_of is (at + item_size i)

abbrev pub port_named : List Port → Name → Option Port
port_named [] name = None
port_named (p ∷ ps) name = if bytes_eq p.name name then Some p else port_named ps name

abbrev pub module_named : List VModule → Name → Option VModule
module_named [] name = None
module_named (m ∷ ms) name = if bytes_eq m.name name then Some m else module_named ms name

-- the widest signal, and the longest memory
abbrev pub most_bits : ℕ
most_bits = 65536

-- the rules on a declaration, whose name has this token: its size, and the width of its declared value (clause 6.2.1)
abbrev pub value_broken : Option ℕ → Option VInit → ℕ → List ℕ
value_broken range None token = []
value_broken range (Some v) token = only_if (not (init_bits v == bits_of range)) (token + 2)

abbrev pub width_broken : Option ℕ → ℕ → List ℕ
width_broken range token = only_if (nat_lt most_bits (bits_of range)) token

abbrev pub rest_broken : Option ℕ → Option VRegRest → ℕ → List ℕ
rest_broken range None token = []
rest_broken range (Some (R.Memory left)) token = only_if (nat_lt most_bits (suc left)) token
rest_broken range (Some (R.Initial v)) token = value_broken range (Some v) token

abbrev pub signal_broken : VSignal → ℕ → List ℕ
signal_broken (Input range name) at = width_broken range (suc at + range_size range)
signal_broken (Output range name) at = width_broken range (suc at + range_size range)
signal_broken (OutputReg range name initial) at =
    width_broken range (2 + (at + range_size range)) ++ value_broken range initial (2 + (at + range_size range))
signal_broken (Wire range name) at = width_broken range (suc at + range_size range)
signal_broken (Reg range name rest) at = width_broken range (suc at + range_size range) ++ rest_broken range rest (suc at + range_size range)

-- an `initial` gives a `reg` that is no memory a value of its width
abbrev pub initial_broken : Option Thing → ℕ → ℕ → List ℕ
initial_broken (Some (value variable width ranged)) bits at = only_if (not (width == bits)) (at + 3)
initial_broken (Some (value input width ranged)) bits at = suc at ∷ []
initial_broken (Some (value net width ranged)) bits at = suc at ∷ []
initial_broken (Some (value local width ranged)) bits at = suc at ∷ []
initial_broken (Some (memory width ranged)) bits at = suc at ∷ []
initial_broken (Some (function width inputs)) bits at = suc at ∷ []
initial_broken (Some (result width ranged inputs)) bits at = suc at ∷ []
initial_broken (Some part) bits at = suc at ∷ []
initial_broken None bits at = suc at ∷ []

-- an edge is on a name of one bit (clause 9.7.2)
abbrev pub is_one_bit : Option Thing → Bool
is_one_bit (Some (value kind width ranged)) = width == 1
is_one_bit (Some (memory width ranged)) = false
is_one_bit (Some (function width inputs)) = false
is_one_bit (Some (result width ranged inputs)) = false
is_one_bit (Some part) = false
is_one_bit None = false

abbrev pub edges_broken : Scope → List VEdge → ℕ → List ℕ
edges_broken scope [] at = []
edges_broken scope (e ∷ es) at = only_if (not (is_one_bit (scope e.name))) at ++ edges_broken scope es (at + 3)

abbrev pub process_broken : Around → VProcess → ℕ → List ℕ
process_broken around (Assign target right) at =
    let to = target_of target in
    let given = rules_of right in
    to.broken around (suc at) ++ (to.by_assign around (suc at) ++ given.broken around (max (to.width around) (given.width around)) (at + (2 + to.size)))
process_broken around (Always Star body) at = (rules_of_branch body).broken at_star around (at + 3)
process_broken around (Always (Edges edges) body) at =
    edges_broken around.scope edges (at + 4) ++ (rules_of_branch body).broken at_edges around (at + (2 + event_size (Edges edges)))

-- a function's own names: its result, its inputs, its variables and its blocks
abbrev pub function_names : VFunction → ℕ → List Declared
function_names f at =
    let first = at + (3 + range_size f.range) in
    record { name = f.name; token = function_token f at; thing = result (bits_of f.range) (has_range f.range) (input_bits f) }
    ∷ (locals_from f.inputs first ++ (locals_from f.locals (first + locals_size f.inputs)
    ++ (rules_of_stmt f.body).blocks (first + (locals_size f.inputs + locals_size f.locals))))

-- the functions that each function calls, by what names stand for in it
abbrev pub function_links : Scope → List VItem → List Link
function_links scope [] = []
function_links scope (I.Function f ∷ is) =
    record { from = f.name; to = (rules_of_stmt f.body).calls (record { scope = inside (function_names f 0) scope; leads_back = λ g. false }) }
    ∷ function_links scope is
function_links scope (i ∷ is) = function_links scope is

abbrev pub function_broken : Scope → List Link → VFunction → ℕ → List ℕ
function_broken scope links f at =
    let own = function_names f at in
    repeated [] own
    ++ (rules_of_stmt f.body).broken in_function
    (record { scope = inside own scope; leads_back = λ g. leads (length links) links g f.name })
    (at + (3 + (range_size f.range + (locals_size f.inputs + locals_size f.locals))))

-- what a port is connected to (clause 12.3.6)
abbrev pub connected : Around → Option Port → Option VExpr → ℕ → List ℕ
connected around None x at = suc at ∷ []
connected around (Some p) None at = []
connected around (Some p) (Some x) at =
    let r = rules_of x in
    if p.is_input then r.broken around (max p.width (r.width around)) (at + 3)
    else (alone r around (at + 3) ++ (if r.is_target then r.driven around (at + 3) else (at + 3) ∷ []))

abbrev pub connections_broken : Around → List Port → List Name → List VConnection → ℕ → List ℕ
connections_broken around ports seen [] at = []
connections_broken around ports seen (c ∷ cs) at =
    only_if (among seen c.port) (suc at)
    ++ (connected around (port_named ports c.port) c.value at ++ connections_broken around ports (c.port ∷ seen) cs (at + (5 + value_size c.value)))

abbrev pub child_broken : Around → Option VModule → VInstance → ℕ → List ℕ
child_broken around None i at = at ∷ []
child_broken around (Some m) i at = connections_broken around (ports_of m.items 0) [] i.connections (at + 3)

-- the rules on an item of a module, among the modules of the text
abbrev pub item_broken : List VModule → VModule → Around → VItem → ℕ → List ℕ
item_broken ms m around (I.Signal s) at = signal_broken s at
item_broken ms m around (I.Initial i) at = initial_broken (around.scope i.name) (length i.value) at
item_broken ms m around (I.Process p) at = process_broken around p at
item_broken ms m around (I.Function f) at = function_broken around.scope (function_links around.scope m.items) f at
item_broken ms m around (I.Instance i) at =
    only_if (leads (length ms) (module_links ms) i.of m.name) at ++ child_broken around (module_named ms i.of) i at

abbrev pub items_broken : List VModule → VModule → Around → List VItem → ℕ → List ℕ
items_broken ms m around [] at = []
items_broken ms m around (i ∷ is) at = item_broken ms m around i at ++ items_broken ms m around is (at + item_size i)

-- the names of a port list with their tokens
abbrev pub listed_ports : List Name → ℕ → List Declared
listed_ports [] at = []
listed_ports (n ∷ ns) at = record { name = n; token = at; thing = part } ∷ listed_ports ns (at + 2)

-- the port list and the items name the same ports (clauses 12.3.2 and 12.3.3)
abbrev pub unlisted : List Name → List Port → List ℕ
unlisted names [] = []
unlisted names (p ∷ ps) = only_if (not (among names p.name)) p.token ++ unlisted names ps

abbrev pub undeclared : List Port → List Declared → List ℕ
undeclared ports [] = []
undeclared ports (d ∷ ds) = only_if (not (among (map (λ (p : Port). p.name) ports) d.name)) d.token ++ undeclared ports ds

abbrev pub module_broken : List VModule → VModule → ℕ → List ℕ
module_broken ms m at =
    let first = at + (3 + ports_size m.ports) in
    let own = declared_in m.items first in
    let ports = ports_of m.items first in
    let list = listed_ports m.ports (at + 3) in
    repeated [] list ++ (undeclared ports list ++ (unlisted m.ports ports
    ++ (repeated [] own ++ items_broken ms m (record { scope = inside own nowhere; leads_back = λ f. false }) m.items first)))

abbrev pub module_names : List VModule → ℕ → List Declared
module_names [] at = []
module_names (m ∷ ms) at = record { name = m.name; token = suc at; thing = part } ∷ module_names ms (at + module_size m)

abbrev pub modules_broken : List VModule → List VModule → ℕ → List ℕ
modules_broken all [] at = []
modules_broken all (m ∷ ms) at = module_broken all m at ++ modules_broken all ms (at + module_size m)

-- the tokens at which a design breaks a rule
abbrev pub broken_tokens : VDesign → List ℕ
broken_tokens e = repeated [] (module_names e.modules 0) ++ modules_broken e.modules e.modules 0

-- A design keeps the rules that need no top.
abbrev pub Keeps : VDesign → Type 0
Keeps e = broken_tokens e ≡ []

abbrev pub items_named : List VModule → Name → List VItem
items_named [] name = []
items_named (m ∷ ms) name = if bytes_eq m.name name then m.items else items_named ms name

abbrev pub signal_bits : VItem → ℕ
signal_bits (I.Signal (Input range name)) = bits_of range
signal_bits (I.Signal (Output range name)) = bits_of range
signal_bits (I.Signal (OutputReg range name initial)) = bits_of range
signal_bits (I.Signal (Wire range name)) = bits_of range
signal_bits (I.Signal (Reg range name None)) = bits_of range
signal_bits (I.Signal (Reg range name (Some (R.Memory left)))) = bits_of range * suc left
signal_bits (I.Signal (Reg range name (Some (R.Initial v)))) = bits_of range
signal_bits (I.Initial i) = 0
signal_bits (I.Process p) = 0
signal_bits (I.Function f) = 0
signal_bits (I.Instance i) = 0

-- the instances below a module, itself left out, to a depth
abbrev pub instances_below : ℕ → List VModule → Name → ℕ
instances_below zero ms name = 0
instances_below (suc depth) ms name = total (map (λ k. suc (instances_below depth ms k)) (instantiated (items_named ms name)))

-- the signal bits of a module and of all instances below it, to a depth
abbrev pub bits_below : ℕ → List VModule → Name → ℕ
bits_below zero ms name = total (map signal_bits (items_named ms name))
bits_below (suc depth) ms name = total (map signal_bits (items_named ms name)) + total (map (bits_below depth ms) (instantiated (items_named ms name)))

-- A design that keeps the rules can be run with this module as its top. No path of instances is longer than there are modules.
pub record FitsTop (e : VDesign) (top : Name) : Type 0 where
  pub present : among (map (λ (m : VModule). m.name) e.modules) top ≡ true
  pub instances : instances_below (length e.modules) e.modules top ≤ 4096
  pub bits : bits_below (length e.modules) e.modules top ≤ 2 ^ 26
