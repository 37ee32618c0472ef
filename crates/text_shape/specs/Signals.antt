-- The signals of a module by their names: of two with one name the first one counts.
use Rattle.std.specs.Prelude.{◌≡◌, ℕ, suc, Bool, true, false, List, [], ◌∷◌, Option, Some, None, Result, Ok, Err, if◌then◌else◌}
use Rattle.std.specs.Str.{bytes_eq}
use Rattle.indexmap.specs.IndexMap as map_of
use Rattle.v_tree.specs.Names.{Name}
use Rattle.v_tree.specs.Scopes.{bits_of}
use Rattle.v_tree.specs.declared.items.VItem.{VItem}
use Rattle.v_tree.specs.declared.items.VItem.TheVariants as I
use Rattle.v_tree.specs.declared.items.VSignal.{VSignal}
use Rattle.v_tree.specs.declared.items.VSignal.TheVariants.{Input, Output, OutputReg, Wire, Reg}
use Rattle.text_shape.specs.declared.signals.Entry.{Entry}
use Rattle.text_shape.specs.declared.signals.Signals.{Signals}

abbrev pub Entries : Type 0
Entries = Name → Option Entry

abbrev pub entries : Signals → Entries
entries s = λ name. map_of.get bytes_eq s.names name

abbrev pub no_entries : Entries
no_entries = λ name. None

abbrev pub put : Entries → Name → Entry → Entries
put es name entry = λ n. if bytes_eq name n then Some entry else es n

abbrev pub added_to : Option Entry → Name → Entry → Entries → Entries
added_to (Some old) name entry es = es
added_to None name entry es = put es name entry

abbrev pub added : Name → Entry → Entries → Entries
added name entry es = added_to (es name) name entry es

abbrev pub entry_of : Option ℕ → Bool → ℕ → Entry
entry_of range is_input number = record { number = number; width = bits_of range; is_input = is_input }

abbrev pub signal_added : VSignal → ℕ → Entries → Entries
signal_added (Input range name) number es = added name (entry_of range true number) es
signal_added (Output range name) number es = added name (entry_of range false number) es
signal_added (OutputReg range name initial) number es = added name (entry_of range false number) es
signal_added (Wire range name) number es = added name (entry_of range false number) es
signal_added (Reg range name rest) number es = added name (entry_of range false number) es

-- the number of the next signal, and those before
pub record Adding : Type 0 where
  pub number : ℕ
  pub entries : Entries

abbrev pub adding : ℕ → Entries → Adding
adding number es = record { number = number; entries = es }

abbrev pub item_added : VItem → Adding → Adding
item_added (I.Signal s) a = adding (suc a.number) (signal_added s a.number a.entries)
item_added (I.Initial i) a = a
item_added (I.Process p) a = a
item_added (I.Function f) a = a
item_added (I.Instance i) a = a

abbrev pub items_added : List VItem → Adding → Adding
items_added [] a = a
items_added (i ∷ is) a = items_added is (item_added i a)

abbrev pub Adds : {E : Type 0} → Result ℕ E → Entries → Adding → Type 0
Adds (Ok number) es a = (number ≡ a.number) × (es ≡ a.entries)
Adds (Err e) es a = Unit {0}
