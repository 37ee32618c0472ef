-- The instances and signal bits below the modules of a design, by the numbers of these.
use Rattle.std.specs.Prelude.{ℕ, zero, suc, ◌+◌, ◌*◌, ◌==◌, min, nat_le, Bool, false, ◌&&◌, List, [], ◌∷◌, ◌++◌, map, length, Option, Some, None, slice_get}
use Rattle.v_tree.specs.Names.{Name}
use Rattle.v_tree.specs.Scopes.{bits_of}
use Rattle.v_tree.specs.declared.items.VItem.{VItem}
use Rattle.v_tree.specs.declared.items.VItem.TheVariants as I
use Rattle.v_tree.specs.declared.items.VModule.{VModule}
use Rattle.v_tree.specs.declared.items.VRegRest.{VRegRest}
use Rattle.v_tree.specs.declared.items.VRegRest.TheVariants as R
use Rattle.v_tree.specs.declared.items.VSignal.{VSignal}
use Rattle.v_tree.specs.declared.items.VSignal.TheVariants.{Input, Output, OutputReg, Wire, Reg}
use Rattle.v_rules.specs.Tables.{Numbers, no_numbers, numbers_from}
use Rattle.v_top_rules.specs.declared.nodes.Node.{Node}
use Rattle.v_top_rules.specs.declared.sums.Sum.{Sum}

-- the least numbers that are too many stand for all greater ones
unfoldable pub some_instances : ℕ → ℕ
some_instances n = min n 4097

unfoldable pub some_bits : ℕ → ℕ
some_bits n = min n 67108865

abbrev pub memory_bits : Option ℕ → ℕ → ℕ
memory_bits range left = bits_of range * (left + 1)

abbrev pub reg_bits : Option ℕ → Option VRegRest → ℕ
reg_bits range None = bits_of range
reg_bits range (Some (R.Memory left)) = memory_bits range left
reg_bits range (Some (R.Initial v)) = bits_of range

abbrev pub declared_bits : VSignal → ℕ
declared_bits (Input range name) = bits_of range
declared_bits (Output range name) = bits_of range
declared_bits (OutputReg range name initial) = bits_of range
declared_bits (Wire range name) = bits_of range
declared_bits (Reg range name rest) = reg_bits range rest

abbrev pub item_bits : VItem → ℕ
item_bits (I.Signal s) = declared_bits s
item_bits (I.Initial i) = 0
item_bits (I.Process p) = 0
item_bits (I.Function f) = 0
item_bits (I.Instance i) = 0

abbrev pub bits_from : List VItem → ℕ → ℕ
bits_from [] bits = bits
bits_from (i ∷ is) bits = bits_from is (some_bits (bits + some_bits (item_bits i)))

abbrev pub item_below : Numbers → VItem → List (Option ℕ)
item_below ns (I.Signal s) = []
item_below ns (I.Initial i) = []
item_below ns (I.Process p) = []
item_below ns (I.Function f) = []
item_below ns (I.Instance i) = ns i.of ∷ []

abbrev pub below_from : Numbers → List VItem → List (Option ℕ) → List (Option ℕ)
below_from ns [] below = below
below_from ns (i ∷ is) below = below_from ns is (below ++ item_below ns i)

abbrev pub node_of : Numbers → VModule → Node
node_of ns m = record { bits = bits_from m.items (some_bits 0); below = below_from ns m.items [] }

abbrev pub nothing : Sum
nothing = record { instances = 0; bits = 0 }

abbrev pub sum_or : Option Sum → Sum
sum_or None = nothing
sum_or (Some s) = s

abbrev pub sum_at : List Sum → Option ℕ → Sum
sum_at sums None = nothing
sum_at sums (Some number) = sum_or (slice_get sums number)

abbrev pub added : Sum → Sum → Sum
added all one = record { instances = some_instances (all.instances + (one.instances + 1)); bits = some_bits (all.bits + one.bits) }

abbrev pub alone : Node → Sum
alone n = record { instances = 0; bits = n.bits }

abbrev pub sum_from : List (Option ℕ) → List Sum → Sum → Sum
sum_from [] sums all = all
sum_from (n ∷ ns) sums all = sum_from ns sums (added all (sum_at sums n))

abbrev pub round : List Node → List Sum → List Sum
round nodes sums = map (λ (n : Node). sum_from n.below sums (alone n)) nodes

abbrev pub rounds : ℕ → List Node → List Sum
rounds zero nodes = map alone nodes
rounds (suc steps) nodes = round nodes (rounds steps nodes)

abbrev pub is_same : Sum → Sum → Bool
is_same a b = (a.instances == b.instances) && (a.bits == b.bits)

-- what stands below a module with a name, if it is there
abbrev pub sum_below : List Node → Option ℕ → Option Sum
sum_below nodes None = None
sum_below nodes (Some number) = Some (sum_at (rounds (length nodes) nodes) (Some number))

abbrev pub top_sum : List VModule → Name → Option Sum
top_sum ms name = let ns = numbers_from 0 ms no_numbers in sum_below (map (node_of ns) ms) (ns name)

abbrev pub is_few : Option Sum → Bool
is_few None = false
is_few (Some s) = nat_le s.instances 4096 && nat_le s.bits 67108864

abbrev pub bits_or : Option Sum → ℕ
bits_or None = 0
bits_or (Some s) = s.bits

-- the module with a number
abbrev pub at_module : List VModule → Option ℕ → Option VModule
at_module ms None = None
at_module ms (Some number) = slice_get ms number
