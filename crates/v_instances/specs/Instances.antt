-- The instances of a design, in preorder (IEEE 1364-2005 clause 12.1.2).
use Rattle.std.specs.Prelude.{◌≡◌, ℕ, zero, suc, ◌+◌, List, [], ◌∷◌, ◌++◌, length, map}
use Rattle.v_tree.specs.Names.{Name}
use Rattle.v_tree.specs.declared.items.VItem.{VItem}
use Rattle.v_tree.specs.declared.items.VItem.TheVariants as I
use Rattle.v_tree.specs.declared.items.VModule.{VModule}
use Rattle.v_meaning.specs.Modules.{Parts, signals, items_of, signal_count, own_parts, joined_parts, parts_from}

-- an instance: its module, the number of its first signal, and how deep instances in it may be
pub record Instance : Type 0 where
  pub of : Name
  pub first : ℕ
  pub depth : ℕ

-- the instances of the children among items, whose signals are numbered from n on, each child's with those in it
abbrev pub child_instances : (ℕ → Name → List Instance) → (Name → ℕ) → ℕ → List VItem → List Instance
child_instances below count n [] = []
child_instances below count n (I.Signal s ∷ rest) = child_instances below count n rest
child_instances below count n (I.Initial i ∷ rest) = child_instances below count n rest
child_instances below count n (I.Process p ∷ rest) = child_instances below count n rest
child_instances below count n (I.Function f ∷ rest) = child_instances below count n rest
child_instances below count n (I.Instance i ∷ rest) = below n i.of ++ child_instances below count (n + count i.of) rest

-- the instance of a module whose signals are numbered from n on, and those in it, which are so deep
unfoldable pub instances_from : ℕ → List VModule → ℕ → Name → List Instance
instances_from zero ms n name = []
instances_from (suc depth) ms n name =
    record { of = name; first = n; depth = depth }
    ∷ child_instances (instances_from depth ms) (signal_count depth ms) (n + length (signals (items_of ms name))) (items_of ms name)

-- Modules aren't recursive, so instances are no deeper than there are modules.
abbrev pub instances : List VModule → Name → List Instance
instances ms top = instances_from (length ms) ms 0 top

-- what an instance has itself
abbrev pub own_of : List VModule → Instance → Parts
own_of ms i = own_parts ms (signal_count i.depth ms) i.first (items_of ms i.of)

-- The parts of a design are those of its instances, one behind the other.
abbrev pub PartsOfInstances : Type 0
PartsOfInstances = (depth : ℕ) (ms : List VModule) (n : ℕ) (name : Name)
    → parts_from depth ms n name ≡ joined_parts (map (own_of ms) (instances_from depth ms n name))
