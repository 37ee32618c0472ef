-- What the names of a source module stand for (IEEE 1800-2017 clauses 23.2.2.3, 23.9 and 26.3).
use Rattle.std.specs.Prelude.{ℕ, Bool, not, ◌||◌, List, [], ◌∷◌, ◌++◌, map, find, Option, Some, None}
use Rattle.std.specs.Option.{option_or}
use Rattle.std.specs.Str.{bytes_eq}
use Rattle.sv_source.specs.declared.token.Spot.{Spot}
use Rattle.sv_core.specs.declared.design.SignalKind.{SignalKind}
use Rattle.sv_core.specs.declared.design.SignalKind.TheVariants.{InputNet, OutputVar, Variable}
use Rattle.built_forms.specs.declared.forms.Direction.{Direction}
use Rattle.built_forms.specs.declared.forms.Direction.TheVariants.{Input, Output}
use Rattle.built_forms.specs.declared.forms.Range.{Range}
use Rattle.built_forms.specs.declared.forms.PortHead.{PortHead}
use Rattle.built_forms.specs.declared.forms.Port.{Port}
use Rattle.built_forms.specs.declared.forms.Declaration.{Declaration}
use Rattle.built_forms.specs.declared.forms.Item.{Item}
use Rattle.built_forms.specs.declared.forms.Item.TheVariants as I
use Rattle.built_forms.specs.declared.forms.Module.{Module}
use Rattle.sv2v_top.specs.declared.uses.Use.{Use}
use Rattle.sv2v_top.specs.source.Statements.{item_parts}
use Rattle.v_tree.specs.Names.{among}

-- a declared signal, with the kind and the dimension that it has
pub record Declared : Type 0 where
  pub name : Spot
  pub kind : SignalKind
  pub range : Option Range

-- an input port is a net, and an output port of a `logic` type is a variable (clause 23.2.2.3)
abbrev pub kind_of : Direction → SignalKind
kind_of Input = InputNet
kind_of Output = OutputVar

-- a port that is a name alone takes direction and type of the port before it (clause 23.2.2.3)
abbrev pub direction_after : Direction → Option PortHead → Direction
direction_after direction None = direction
direction_after direction (Some h) = h.direction

abbrev pub range_after : Option Range → Option PortHead → Option Range
range_after range None = range
range_after range (Some h) = h.range

abbrev pub ports_from : Direction → Option Range → List Port → List Declared
ports_from direction range [] = []
ports_from direction range (p ∷ ports) =
    record { name = p.name; kind = kind_of (direction_after direction p.head); range = range_after range p.head }
    ∷ ports_from (direction_after direction p.head) (range_after range p.head) ports

-- what an item declares
abbrev pub declared_variable : Declaration → Declared
declared_variable d = record { name = d.name; kind = Variable; range = d.range }

abbrev pub declared_by : Item → List Declared
declared_by (I.Assign a) = []
declared_by (I.Logic d) = declared_variable d ∷ []
declared_by (I.Comb body) = []
declared_by (I.Edge clock body) = []

abbrev pub variables : List Item → List Declared
variables [] = []
variables (i ∷ items) = declared_by i ++ variables items

-- the signals of a module: its ports, and then its variables
abbrev pub declared : Module → List Declared
declared m = ports_from Input None m.ports ++ variables m.items

abbrev pub name_of : Declared → List ℕ
name_of d = d.name.word

abbrev pub port_word : Port → List ℕ
port_word p = p.name.word

abbrev pub port_names : Module → List (List ℕ)
port_names m = map port_word m.ports

abbrev pub signal_names : Module → List (List ℕ)
signal_names m = map name_of (declared m)

-- A name is declared at a place if a port or an earlier item declares it, or if it is the module's own in the compilation
-- unit around it (clause 23.9).
abbrev pub is_declared : List ℕ → List (List ℕ) → List ℕ → Bool
is_declared own names name = among names name || bytes_eq own name

-- the first of these names that isn't declared
abbrev pub undeclared : List ℕ → List (List ℕ) → List Use → Option Use
undeclared own names uses = find (λ (u : Use). not (is_declared own names u.name.word)) uses

-- the first name that isn't declared where items use it
abbrev pub undeclared_in : List ℕ → List (List ℕ) → List Item → Option Use
undeclared_in own names [] = None
undeclared_in own names (i ∷ items) =
    option_or (undeclared own names (item_parts i).names) (undeclared_in own (names ++ map name_of (declared_by i)) items)

-- E401: the first use of a name that isn't declared
abbrev pub first_undeclared : Module → Option Use
first_undeclared m = undeclared_in m.name.word (port_names m) m.items
