-- The rules on a source text that reads and whose names are declared: whether it elaborates, which processes break a rule, and
-- which forms aren't built yet.
use Rattle.std.specs.Prelude.{ℕ, ◌+◌, ◌-◌, ◌^◌, ◌==◌, nat_lt, nat_le, Bool, true, false, not, ◌&&◌, ◌||◌, List, [], ◌∷◌, ◌++◌, map, flat_map, sum, slice_get, Option, Some, None, if◌then◌else◌}
use Rattle.std.specs.List.{list_all}
use Rattle.std.specs.Option.{option_or}
use Rattle.std.specs.Str.{bytes_eq}
use Rattle.sv_source.specs.declared.token.Spot.{Spot}
use Rattle.sv_source.specs.declared.refusal.Refusal.{Refusal}
use Rattle.sv_core.specs.declared.design.Signal.{Signal}
use Rattle.sv_core.specs.declared.design.SignalKind.{SignalKind}
use Rattle.sv_core.specs.declared.design.SignalKind.TheVariants.{InputNet, OutputVar, Variable}
use Rattle.built_forms.specs.declared.forms.Range.{Range}
use Rattle.built_forms.specs.declared.forms.Item.{Item}
use Rattle.built_forms.specs.declared.forms.Item.TheVariants as I
use Rattle.built_forms.specs.declared.forms.Module.{Module}
use Rattle.sv2v_top.specs.source.Literals.{decimal, is_plain_literal}
use Rattle.sv2v_top.specs.source.Names.{Declared, declared, signal_names}
use Rattle.sv2v_top.specs.declared.uses.Use.{Use}
use Rattle.sv2v_top.specs.declared.uses.Literal.{Literal}
use Rattle.sv2v_top.specs.source.Statements.{word_of, item_parts, targets, reads}
use Rattle.v_tree.specs.Names.{among, distinct, position}
use Rattle.lower_design.specs.Translatable.{is_helper_name}

-- Names. The module is the top, or not. No name is declared twice, and none is a helper's.
abbrev pub is_top : Module → List ℕ → Bool
is_top m top = bytes_eq m.name.word top

abbrev pub header_holds : Module → Bool
header_holds m =
    not (is_helper_name m.name.word) && distinct (signal_names m) && list_all (λ name. not (is_helper_name name)) (signal_names m)

-- Each name that an item uses is that of a signal, and what processes assign is no input.
abbrev pub if_input : SignalKind → List ℕ → List (List ℕ) → List (List ℕ)
if_input InputNet name names = name ∷ names
if_input OutputVar name names = names
if_input Variable name names = names

abbrev pub inputs : List Declared → List (List ℕ)
inputs [] = []
inputs (d ∷ ds) = if_input d.kind d.name.word (inputs ds)

-- the same of signals
abbrev pub input_paths : List Signal → List (List ℕ)
input_paths [] = []
input_paths (s ∷ ss) = if_input s.kind s.path (input_paths ss)

abbrev pub all_among : List (List ℕ) → List Use → Bool
all_among names uses = list_all (λ (u : Use). among names u.name.word) uses

abbrev pub none_among : List (List ℕ) → List Spot → Bool
none_among names spots = list_all (λ (s : Spot). not (among names s.word)) spots

-- whether an item assigns by procedure
abbrev pub has_procedure : Item → Bool
has_procedure (I.Assign a) = false
has_procedure (I.Logic d) = false
has_procedure (I.Comb body) = true
has_procedure (I.Edge clock body) = true

-- Types and literals. The bounds of a range are below 2^31, a signal has at most 65,536 bits and all have at most 2^22, and the
-- size of a literal is from 1 to 128.
abbrev pub range_width : Option Range → ℕ
range_width None = 1
range_width (Some r) = ((decimal r.left.word - decimal r.right.word) + (decimal r.right.word - decimal r.left.word)) + 1

abbrev pub range_holds : Option Range → Bool
range_holds None = true
range_holds (Some r) =
    nat_lt (decimal r.left.word) (2 ^ 31) && nat_lt (decimal r.right.word) (2 ^ 31) && nat_le (range_width (Some r)) 65536

abbrev pub width_of : Declared → ℕ
width_of d = range_width d.range

-- the signal that is declared
abbrev pub signal_of : Declared → Signal
signal_of d = record { path = d.name.word; width = range_width d.range; kind = d.kind }

abbrev pub ranges_hold : List Declared → Bool
ranges_hold ds = list_all (λ (d : Declared). range_holds d.range) ds

abbrev pub total_bits : List Declared → ℕ
total_bits ds = sum (map width_of ds)

abbrev pub size_holds : List ℕ → Bool
size_holds size = nat_le 1 (decimal size) && nat_le (decimal size) 128

abbrev pub sizes_hold : List Literal → Bool
sizes_hold literals = list_all (λ (l : Literal). size_holds l.size.word) literals

abbrev pub types_hold : Module → Bool
types_hold m = ranges_hold (declared m) && nat_le (total_bits (declared m)) (2 ^ 22)

-- an item, among these names and inputs
abbrev pub item_holds : List (List ℕ) → List (List ℕ) → Item → Bool
item_holds names input_names i =
    all_among names (item_parts i).names && (not (has_procedure i) || none_among input_names (targets i)) && sizes_hold (item_parts i).literals

abbrev pub items_hold : Module → Bool
items_hold m = list_all (item_holds (signal_names m) (inputs (declared m))) m.items

-- The module elaborates to a design.
abbrev pub elaborates : Module → Bool
elaborates m = header_holds m && types_hold m && items_hold m

-- Processes. E601: a signal is written by an earlier process too. E603: a combinational process doesn't write it on every path.
abbrev pub refused_at : ℕ → Spot → Refusal
refused_at rule s = record { rule = rule; place = s.place; word = s.word }

abbrev pub write_break : (List ℕ → Bool) → (List ℕ → Bool) → Spot → Option Refusal
write_break is_written is_always s =
    if is_written s.word then Some (refused_at 601 s)
    else (if is_always s.word then None else Some (refused_at 603 s))

-- the first break of these writes
abbrev pub writes_break : (List ℕ → Bool) → (List ℕ → Bool) → List Spot → Option Refusal
writes_break is_written is_always [] = None
writes_break is_written is_always (s ∷ ss) = option_or (write_break is_written is_always s) (writes_break is_written is_always ss)

-- what an item must write on every path to break nothing: an edge process may leave a signal as it is
abbrev pub target_words : Item → List (List ℕ)
target_words i = map word_of (targets i)

abbrev pub always_written : Item → List (List ℕ)
always_written (I.Assign a) = target_words (I.Assign a)
always_written (I.Logic d) = target_words (I.Logic d)
always_written (I.Comb body) = (item_parts (I.Comb body)).always
always_written (I.Edge clock body) = target_words (I.Edge clock body)

-- the first break of processes, by what earlier ones write
abbrev pub processes_break : List (List ℕ) → List Item → Option Refusal
processes_break written [] = None
processes_break written (i ∷ items) =
    option_or (writes_break (among written) (among (always_written i)) (targets i)) (processes_break (written ++ target_words i) items)

abbrev pub first_process_break : Module → Option Refusal
first_process_break m = processes_break [] m.items

-- What isn't built yet. The bounds of a range are a decimal from 0 to 65,535 and `0`; a literal has the plain form.
abbrev pub is_plain_range : Option Range → Bool
is_plain_range None = true
is_plain_range (Some r) = nat_le (decimal r.left.word) 65535 && bytes_eq r.right.word (48 ∷ [])

abbrev pub are_plain : List Literal → Bool
are_plain literals = list_all (λ (l : Literal). is_plain_literal l.size.word l.digits.word) literals

abbrev pub ranges_are_plain : List Declared → Bool
ranges_are_plain ds = list_all (λ (d : Declared). is_plain_range d.range) ds

-- what combinational processes write
abbrev pub is_comb_item : Item → Bool
is_comb_item (I.Assign a) = true
is_comb_item (I.Logic d) = false
is_comb_item (I.Comb body) = true
is_comb_item (I.Edge clock body) = false

abbrev pub comb_targets : List Item → List (List ℕ)
comb_targets items = flat_map (λ i. if is_comb_item i then target_words i else []) items

-- the clock is an input of one bit
abbrev pub is_bit_signal : Signal → Bool
is_bit_signal s = elim s.kind [ InputNet ↦ s.width == 1 | OutputVar ↦ false | Variable ↦ false ]

abbrev pub is_bit : Option Signal → Bool
is_bit None = false
is_bit (Some s) = is_bit_signal s

abbrev pub clock_is_bit : List Signal → List (List ℕ) → Item → Bool
clock_is_bit signals names (I.Assign a) = true
clock_is_bit signals names (I.Logic d) = true
clock_is_bit signals names (I.Comb body) = true
clock_is_bit signals names (I.Edge clock body) = is_bit (slice_get signals (position names clock.word))

-- An item has built forms and breaks no rule that isn't built, among these signals, inputs and names that combinational
-- processes write: its literals are plain, what a combinational process reads is written by none, what is assigned is no
-- input, a clock is an input of one bit, and a process has at most 2^20 statements.
abbrev pub item_is_built_among : List Signal → List (List ℕ) → List (List ℕ) → List (List ℕ) → Item → Bool
item_is_built_among signals names input_names written i =
    are_plain (item_parts i).literals
    && (not (is_comb_item i) || none_among written (reads i))
    && none_among input_names (targets i)
    && clock_is_bit signals names i
    && nat_le (item_parts i).count (2 ^ 20)

abbrev pub is_built : Module → Bool
is_built m =
    ranges_are_plain (declared m)
    && list_all (item_is_built_among (map signal_of (declared m)) (signal_names m) (inputs (declared m)) (comb_targets m.items)) m.items
