-- What a walk over the instances of a design meets.
use Rattle.std.specs.Prelude.{◌≡◌, ℕ, zero, suc, List, [], ◌∷◌, ◌++◌, map, Option, Some, None, slice_get}
use Rattle.v_tree.specs.Names.{Name}
use Rattle.v_tree.specs.declared.items.VItem.{VItem}
use Rattle.v_tree.specs.declared.items.VItem.TheVariants as I
use Rattle.v_tree.specs.declared.items.VModule.{VModule}
use Rattle.v_meaning.specs.Modules.{Signal, signals, items_of, parts}
use Rattle.v_rules.specs.Tables.{Numbers, numbers_from, no_numbers}
use Rattle.v_instances.specs.Instances.{Instance, instances}
use Rattle.v_instances.specs.Slots.{signal_of}
use Rattle.v_instances.specs.declared.walk.VInst.{VInst}
use Rattle.v_instances.specs.declared.walk.Walk.{Walk}

-- the items of the module with a number
abbrev pub items_in : Option VModule → List VItem
items_in None = []
items_in (Some m) = m.items

abbrev pub items_at : List VModule → Option ℕ → List VItem
items_at ms None = []
items_at ms (Some n) = items_in (slice_get ms n)

-- what is kept of an instance: the number of its module, and that of its first signal
abbrev pub inst_of : Numbers → Instance → VInst
inst_of ns i = record { of = ns i.of; first = i.first }

-- the signals of the children among items, each child's with those in it
abbrev pub child_signals : (Name → List Signal) → List VItem → List Signal
child_signals below [] = []
child_signals below (I.Signal s ∷ rest) = child_signals below rest
child_signals below (I.Initial i ∷ rest) = child_signals below rest
child_signals below (I.Process p ∷ rest) = child_signals below rest
child_signals below (I.Function f ∷ rest) = child_signals below rest
child_signals below (I.Instance i ∷ rest) = below i.of ++ child_signals below rest

-- the signals of an instance of a module, and of those in it
unfoldable pub signals_from : ℕ → List VModule → Name → List Signal
signals_from zero ms name = []
signals_from (suc depth) ms name = signals (items_of ms name) ++ child_signals (signals_from depth ms) (items_of ms name)

-- The walk has met the signals and the instances of the design. A module is named by the number of the first one with its name,
-- and that has the items that the name stands for.
pub record Meets (ms : List VModule) (top : Name) (w : Walk) : Type 0 where
  pub signals : map signal_of w.slots ≡ (parts ms top).signals
  pub instances : w.insts ≡ map (inst_of (numbers_from 0 ms no_numbers)) (instances ms top)
  pub items : (name : Name) → items_at ms (numbers_from 0 ms no_numbers name) ≡ items_of ms name
