-- The shape of a top: its ports in the order of its port list, each with the number of its signal, which is its place in a
-- valuation, and the bits of all signals in it and below it, memories with all their words.
use Rattle.std.specs.Prelude.{ℕ, Bool, true, false, List, [], ◌∷◌, ◌++◌, length, map, replicate, filter, not, Option, Some, None, if◌then◌else◌}
use Rattle.b4_core.specs.declared.bit.Bit4.TheVariants.{Zero}
use Rattle.stim_rows.specs.declared.shape.Port.{Port}
use Rattle.stim_rows.specs.declared.shape.Shape.{Shape}
use Rattle.v_tree.specs.Names.{Name}
use Rattle.v_tree.specs.Rules.{module_named, bits_below}
use Rattle.v_tree.specs.declared.items.VDesign.{VDesign}
use Rattle.v_tree.specs.declared.items.VItem.{VItem}
use Rattle.v_tree.specs.declared.items.VModule.{VModule}
use Rattle.v_meaning.specs.Scopes.{named}
use Rattle.v_meaning.specs.Modules.{Kind, input_net, net, variable, Signal, signals, numbered, kind_of}
use Rattle.text_shape.specs.declared.signals.Entry.{Entry}
use Rattle.text_shape.specs.Signals.{Entries, no_entries, adding, items_added}

abbrev pub is_input : Kind → Bool
is_input input_net = true
is_input net = false
is_input variable = false

-- no bit of a text is of a two-state type
abbrev pub port_named : List Signal → Name → Port
port_named ss name =
    let n = named (numbered 0 ss) name in
    record { name = name; width = n.width; two_state = replicate n.width Zero; signal = n.number }

abbrev pub inputs : List VItem → List Name → List Port
inputs items names = map (port_named (signals items)) (filter (λ n. is_input (kind_of (signals items) n)) names)

abbrev pub outputs : List VItem → List Name → List Port
outputs items names = map (port_named (signals items)) (filter (λ n. not (is_input (kind_of (signals items) n))) names)

abbrev pub top_items : Option VModule → List VItem
top_items None = []
top_items (Some m) = m.items

abbrev pub top_ports : Option VModule → List Name
top_ports None = []
top_ports (Some m) = m.ports

abbrev pub shape_of : VDesign → Name → Shape
shape_of e top =
    let m = module_named e.modules top in
    record {
      inputs = inputs (top_items m) (top_ports m);
      outputs = outputs (top_items m) (top_ports m);
      bits = bits_below (length e.modules) e.modules top;
    }

-- the same by a table of signals
abbrev pub port_of : Name → Entry → Port
port_of name entry = record { name = name; width = entry.width; two_state = replicate entry.width Zero; signal = entry.number }

abbrev pub undeclared : Entry
undeclared = record { number = 0; width = 0; is_input = false }

abbrev pub declared : Option Entry → Entry
declared None = undeclared
declared (Some entry) = entry

abbrev pub same : Bool → Bool → Bool
same true b = b
same false b = not b

abbrev pub port_if : Bool → Name → Entry → List Port
port_if input name entry = if same entry.is_input input then port_of name entry ∷ [] else []

abbrev pub ports_from : Entries → Bool → List Name → List Port
ports_from es input [] = []
ports_from es input (n ∷ ns) = port_if input n (declared (es n)) ++ ports_from es input ns

abbrev pub shape_with : List VItem → List Name → ℕ → Shape
shape_with items names bits =
    let es = (items_added items (adding 0 no_entries)).entries in
    record { inputs = ports_from es true names; outputs = ports_from es false names; bits = bits }

abbrev pub shape_if : Option VModule → ℕ → Shape
shape_if None bits = record { inputs = []; outputs = []; bits = bits }
shape_if (Some m) bits = shape_with m.items m.ports bits
