-- What a walk over the instances of a design adds.
use Rattle.std.specs.Prelude.{◌≡◌, ℕ, ◌+◌, List, ◌∷◌, ◌++◌, length, map}
use Rattle.v_tree.specs.Names.{Name}
use Rattle.v_tree.specs.declared.items.VItem.{VItem}
use Rattle.v_tree.specs.declared.items.VModule.{VModule}
use Rattle.v_meaning.specs.Modules as M
use Rattle.v_rules.specs.Tables.{Tables}
use Rattle.v_modules.specs.Tables.{items_of, items_in}
use Rattle.v_processes.specs.declared.design.Design.{Design}
use Rattle.v_processes.specs.declared.found.Found.{Found}
use Rattle.v_processes.specs.declared.found.Initial.{Initial}
use Rattle.v_processes.specs.Processes.{processes_at}
use Rattle.v_processes.specs.Stems as S

-- the modules by their numbers, and a table of each
pub record IsTabled (d : Design) : Type 0 where
  pub numbers : Tables d.numbers.now d.modules.now
  pub tables : map items_of d.tables.now ≡ map items_in d.modules.now

abbrev pub initial_of : Initial → M.InitialValue
initial_of i = record { number = i.number; value = i.value.now }

abbrev pub initials_of : List Initial → List M.InitialValue
initials_of is = map initial_of is

-- the parts of the children among items, whose signals are numbered from a number on
abbrev pub child_parts : ℕ → List VModule → ℕ → List VItem → M.Parts
child_parts depth ms n is = M.joined_parts (map (λ (c : M.Child). M.parts_from depth ms c.first c.of) (M.children (M.signal_count depth ms) n is))

-- the parts of an instance of a module of these items, whose signals are numbered from a number on, and of those in it
abbrev pub module_parts : ℕ → List VModule → ℕ → List VItem → M.Parts
module_parts depth ms n is =
    M.joined_parts (M.own_parts ms (M.signal_count depth ms) n is
    ∷ map (λ (c : M.Child). M.parts_from depth ms c.first c.of) (M.children (M.signal_count depth ms) (n + length (M.signals is)) is))

-- the processes of the children among items, and those of an instance of a module of these items, with those of the instances in it
abbrev pub below_sources : ℕ → List VModule → ℕ → List VItem → List S.Source
below_sources depth ms n is = S.child_sources (S.sources_from depth ms) (M.signal_count depth ms) n is

abbrev pub module_sources : ℕ → List VModule → ℕ → List VItem → List S.Source
module_sources depth ms n is = S.own_sources ms (M.signal_count depth ms) is (n + length (M.signals is)) is ++ below_sources depth ms (n + length (M.signals is)) is

-- the processes and the initial values of the design, and the text that the processes stem from
pub record HasParts (ms : List VModule) (top : Name) (f : Found) : Type 0 where
  pub processes : processes_at ms f.procs ≡ (M.parts ms top).processes
  pub initials : initials_of f.initials ≡ (M.parts ms top).initials
  pub sources : S.sources_at ms f.procs ≡ S.sources ms top
