-- Small expressions, statements and designs: the definitions compute. They are given by their steps, as the trees that they
-- stand for.
use Rattle.std.proofs.Common.{◌≡◌, ℕ, ◌==◌, true, false, List, [], ◌∷◌, ◌++◌, map, refl, if◌then◌else◌}
use Rattle.std.specs.Prelude.{reverse, Some, None, slice_index_or, codes, replicate}
use Rattle.b4_core.specs.declared.bit.Bit4.{Bit4}
use Rattle.b4_core.specs.declared.bit.Bit4.TheVariants.{Zero, One, X, Z}
use Rattle.b4_core.specs.declared.operators.BinOp.TheVariants as B
use Rattle.b4_core.specs.declared.operators.OrdOp.TheVariants as O
use Rattle.b4_core.specs.declared.operators.UnOp.TheVariants.{Not}
use Rattle.b4_core.specs.declared.operators.ShiftOp.TheVariants as S
use Rattle.b4_core.specs.declared.operators.RedOp.TheVariants as R
use Rattle.row_machine.specs.Valuation.{Valuation, has}
use Rattle.row_machine.specs.Places.{vector_at}
use Rattle.row_machine.specs.Runs.{trace_of}
use Rattle.row_machine.specs.Steps.{unchanged}
use Rattle.v_tree.specs.Names.{Name}
use Rattle.v_tree.specs.declared.expressions.VExtent.TheVariants.{Down, Up}
use Rattle.v_tree.specs.declared.statements.VCaseKind.TheVariants as K
use Rattle.v_meaning.specs.Scopes.{Named, Scope, absent}
use Rattle.v_meaning.specs.Values.{Meaning, binary, choose, concatenation, decimal_base, expression_base, given, literal, order, power, reduce, reference, repetition, shift, signing, unary}
use Rattle.v_meaning.specs.Statements.{Target, name_target, joined_target, Doing, Item, assignment, conditional, cases, sequence, nothing, block_with}
use Rattle.v_meaning.specs.Modules.{Signal, Kind, input_net, net, variable, Starts, always_on, on_change, on_edges, Process, Parts, numbered, driving, port_target, port_value}
use Rattle.v_meaning.specs.Machine.{machine_of}

-- bits as they are written, the most significant one first
abbrev bit_of_code : ℕ → Bit4
bit_of_code c = if c == 48 then Zero else if c == 49 then One else if c == 120 then X else Z

abbrev bits_of_text : List ℕ → List Bit4
bits_of_text t = reverse (map bit_of_code t)

abbrev code_of : Bit4 → ℕ
code_of Zero = 48
code_of One = 49
code_of X = 120
code_of Z = 122

abbrev text_of : List Bit4 → List ℕ
text_of v = reverse (map code_of v)

abbrev name : Name → Meaning
name n = reference n []

abbrev lit : List ℕ → Meaning
lit t = literal (bits_of_text t)

-- `n[k]`, `n[l:r]`, `n[i]` and `n[i +: w]`
abbrev at_index : Name → Meaning → Meaning
at_index n i = reference n (expression_base i None ∷ [])

abbrev sliding : Name → Meaning → ℕ → Meaning
sliding n i w = reference n (expression_base i (Some (Up w)) ∷ [])

abbrev set : Target → Meaning → Doing
set to value = assignment false to value

abbrev set_later : Target → Meaning → Doing
set_later to value = assignment true to value

abbrev to_name : Name → Target
to_name n = name_target n []

-- signals of one module
abbrev an_input : ℕ → Name → Signal
an_input w n = record { name = n; width = w; words = None; kind = input_net; initial = replicate w X }

abbrev a_signal : Kind → ℕ → Name → Signal
a_signal kind w n = record { name = n; width = w; words = None; kind = kind; initial = replicate w X }

abbrev scope_from : ℕ → List Signal → Scope
scope_from n ss = record { names = numbered n ss; next = 0; callee = λ f. absent }

-- what signals hold, one after the other
abbrev values_at : List (List ℕ) → Valuation
values_at vs q = slice_index_or (bits_of_text (slice_index_or vs q.signal [])) q.bit X

-- a value given to a target of so many bits
abbrev shown_value : List Signal → List (List ℕ) → ℕ → Meaning → List ℕ
shown_value ss vs n m = text_of (given m n (scope_from 0 ss) (values_at vs))

abbrev two_bytes : List Signal
two_bytes = an_input 8 (codes "a") ∷ an_input 8 (codes "b") ∷ []

-- y = a + b with nine bits in y: the carry is kept
carry_is_kept : shown_value two_bytes (codes "11111111" ∷ codes "00000001" ∷ []) 9 (binary B.Add (name (codes "a")) (name (codes "b"))) ≡ codes "100000000"
unfolding reference binary
carry_is_kept = refl

-- {a + b}: an item of a concatenation has its own width
own_width : shown_value two_bytes (codes "11111111" ∷ codes "00000001" ∷ []) 9 (concatenation (binary B.Add (name (codes "a")) (name (codes "b")) ∷ [])) ≡ codes "000000000"
unfolding reference binary concatenation
own_width = refl

-- $signed(a) + b: one unsigned operand makes the sum unsigned, and so a is extended by 0
one_unsigned : shown_value two_bytes (codes "11111111" ∷ codes "00000001" ∷ []) 12 (binary B.Add (signing true (name (codes "a"))) (name (codes "b"))) ≡ codes "000100000000"
unfolding reference binary signing
one_unsigned = refl

-- $signed(a) + $signed(b)
both_signed : shown_value two_bytes (codes "11111111" ∷ codes "00000001" ∷ []) 12 (binary B.Add (signing true (name (codes "a"))) (signing true (name (codes "b")))) ≡ codes "000000000000"
unfolding reference binary signing
both_signed = refl

-- ~a in a wider context, and `?:` at an unknown condition
wide_not : shown_value two_bytes (codes "1111x000" ∷ []) 10 (unary Not (name (codes "a"))) ≡ codes "110000x111"
unfolding reference unary
wide_not = refl

unknown_condition : shown_value two_bytes (codes "10100011" ∷ codes "10010011" ∷ []) 8 (choose (lit (codes "x")) (name (codes "a")) (name (codes "b"))) ≡ codes "10xx0011"
unfolding reference literal choose
unknown_condition = refl

-- a[i] and a[i +: 4] out of range, at an index with x, and at a negative one
abbrev byte_and_index : List Signal
byte_and_index = an_input 8 (codes "a") ∷ an_input 4 (codes "i") ∷ []

index_past : shown_value byte_and_index (codes "11111111" ∷ codes "1001" ∷ []) 1 (at_index (codes "a") (name (codes "i"))) ≡ codes "x"
unfolding reference
index_past = refl

index_unknown : shown_value byte_and_index (codes "11111111" ∷ codes "00x1" ∷ []) 1 (at_index (codes "a") (name (codes "i"))) ≡ codes "x"
unfolding reference
index_unknown = refl

part_past : shown_value byte_and_index (codes "10100000" ∷ codes "0110" ∷ []) 4 (sliding (codes "a") (name (codes "i")) 4) ≡ codes "xx10"
unfolding reference
part_past = refl

part_below : shown_value byte_and_index (codes "10100011" ∷ codes "1111" ∷ []) 4 (sliding (codes "a") (signing true (name (codes "i"))) 4) ≡ codes "011x"
unfolding reference signing
part_below = refl

-- a[6:4]
part_of_a : shown_value byte_and_index (codes "10110011" ∷ codes "0000" ∷ []) 3 (reference (codes "a") (decimal_base 6 (Some (Down 4)) ∷ [])) ≡ codes "011"
unfolding reference
part_of_a = refl

-- mem[1][3 +: 2] of `reg [3:0] mem [3:0]`: a select in a word doesn't reach the next one
abbrev memory : Signal
memory = record (a_signal variable 4 (codes "mem")) { words = Some 4 }

within_its_word : shown_value (memory ∷ an_input 2 (codes "i") ∷ []) (codes "0000111110100000" ∷ codes "01" ∷ []) 2
    (reference (codes "mem") (expression_base (name (codes "i")) None ∷ decimal_base 3 (Some (Up 2)) ∷ [])) ≡ codes "x1"
unfolding reference
within_its_word = refl

-- the bits of a signal after each row, the processes being run in their order
abbrev shown : ℕ → Parts → ℕ → ℕ → List (List (List ℕ)) → List (List ℕ)
shown own d n w rows =
    map (λ v. text_of (vector_at v n w)) (trace_of (machine_of own d) (machine_of own d).combs (map values_at rows))

abbrev process : List Signal → Starts → Doing → Process
process ss starts d = record { starts = starts; scope = scope_from 0 ss; does = d }

-- reg sv2v_t; initial sv2v_t <= 1'b0; always @* begin if (sv2v_t) ; y = 1'b1; end
abbrev output_and_trigger : List Signal
output_and_trigger = a_signal variable 1 (codes "y") ∷ a_signal variable 1 (codes "sv2v_t") ∷ []

abbrev triggered : Doing
triggered = sequence (conditional (name (codes "sv2v_t")) nothing nothing ∷ set (to_name (codes "y")) (lit (codes "1")) ∷ [])

abbrev with_trigger : Parts
with_trigger = record {
  signals = output_and_trigger;
  processes = process output_and_trigger on_change triggered ∷ [];
  initials = record { number = 1; value = Zero ∷ [] } ∷ [];
}

started_at_zero : shown 2 with_trigger 0 1 ([] ∷ [] ∷ []) ≡ codes "1" ∷ codes "1" ∷ []
unfolding reference literal assignment name_target conditional has
started_at_zero = refl

-- the same without the trigger never starts
abbrev without_trigger : Parts
without_trigger = record {
  signals = output_and_trigger;
  processes = process output_and_trigger on_change (set (to_name (codes "y")) (lit (codes "1"))) ∷ [];
  initials = [];
}

never_started : shown 2 without_trigger 0 1 ([] ∷ [] ∷ []) ≡ codes "x" ∷ codes "x" ∷ []
unfolding reference literal assignment name_target has
never_started = refl

-- output reg [1:0] q; always @* begin if (sv2v_t) ; if (en) begin q = d; end end: the value is held
abbrev latch_signals : List Signal
latch_signals = an_input 1 (codes "en") ∷ an_input 2 (codes "d") ∷ a_signal variable 2 (codes "q") ∷ a_signal variable 1 (codes "sv2v_t") ∷ []

abbrev latch : Parts
latch = record {
  signals = latch_signals;
  processes =
      process latch_signals on_change
      (sequence (conditional (name (codes "sv2v_t")) nothing nothing ∷ conditional (name (codes "en")) (set (to_name (codes "q")) (name (codes "d"))) nothing ∷ [])) ∷ [];
  initials = record { number = 3; value = Zero ∷ [] } ∷ [];
}

latch_holds : shown 4 latch 2 2 ((codes "0" ∷ codes "01" ∷ []) ∷ (codes "1" ∷ codes "1x" ∷ []) ∷ (codes "0" ∷ codes "00" ∷ []) ∷ (codes "x" ∷ codes "01" ∷ []) ∷ [])
    ≡ codes "xx" ∷ codes "1x" ∷ codes "1x" ∷ codes "1x" ∷ []
unfolding reference literal assignment name_target conditional has
latch_holds = refl

-- reg [3:0] mem [3:0]; always @(posedge clk) if (we) mem[a] <= d; assign q = mem[a]
abbrev memory_signals : List Signal
memory_signals = an_input 1 (codes "clk") ∷ an_input 1 (codes "we") ∷ an_input 2 (codes "a") ∷ an_input 4 (codes "d") ∷ a_signal net 4 (codes "q") ∷ memory ∷ []

abbrev with_memory : Parts
with_memory = record {
  signals = memory_signals;
  processes =
      process memory_signals (on_edges (record { rising = true; signal = 0 } ∷ []))
      (conditional (name (codes "we")) (set_later (name_target (codes "mem") (expression_base (name (codes "a")) None ∷ [])) (name (codes "d"))) nothing)
      ∷ process memory_signals always_on (set (to_name (codes "q")) (at_index (codes "mem") (name (codes "a")))) ∷ [];
  initials = [];
}

memory_is_written : shown 6 with_memory 4 4 ((codes "0" ∷ codes "0" ∷ codes "00" ∷ codes "0000" ∷ []) ∷ (codes "1" ∷ codes "1" ∷ codes "00" ∷ codes "0101" ∷ []) ∷ (codes "0" ∷ codes "0" ∷ codes "00" ∷ codes "0000" ∷ []) ∷ (codes "1" ∷ codes "1" ∷ codes "01" ∷ codes "1x1z" ∷ []) ∷ (codes "0" ∷ codes "0" ∷ codes "0x" ∷ codes "0000" ∷ []) ∷ [])
    ≡ codes "xxxx" ∷ codes "0101" ∷ codes "0101" ∷ codes "1x1z" ∷ codes "xxxx" ∷ []
unfolding reference literal assignment name_target conditional has
memory_is_written = refl

-- module m (a, y): f u (.i(a), .o(y)), and in f: assign o = ~i
abbrev outer_signals : List Signal
outer_signals = an_input 2 (codes "a") ∷ a_signal net 2 (codes "y") ∷ []

abbrev inner_signals : List Signal
inner_signals = an_input 2 (codes "i") ∷ a_signal net 2 (codes "o") ∷ []

abbrev port : ℕ → Name → Named
port n p = record { name = p; number = n; width = 2; words = None }

abbrev connected : Parts
connected = record {
  signals = outer_signals ++ inner_signals;
  processes =
      driving (scope_from 0 outer_signals) (port_target (port 2 (codes "i"))) (name (codes "a"))
      ++ driving (scope_from 0 outer_signals) (to_name (codes "y")) (port_value (port 3 (codes "o")))
      ++ driving (scope_from 2 inner_signals) (to_name (codes "o")) (unary Not (name (codes "i")));
  initials = [];
}

-- the processes are run in an order in which each follows those that it reads
abbrev in_order : List (List (List ℕ)) → List (List ℕ)
in_order rows =
    let m = machine_of 2 connected in
    let at = λ (k : ℕ). slice_index_or m.combs k (slice_index_or m.combs 0 (record { from_zero = true; waits_for = []; reads = []; writes = []; assigns = λ v. unchanged })) in
    map (λ v. text_of (vector_at v 1 2)) (trace_of m (at 0 ∷ at 2 ∷ at 1 ∷ []) (map values_at rows))

through_the_child : in_order ((codes "01" ∷ []) ∷ (codes "1x" ∷ []) ∷ []) ≡ codes "10" ∷ codes "0x" ∷ []
unfolding reference unary assignment name_target has
through_the_child = refl

-- casez (a) 4'b1zzz: y = 2'b00; 4'b01zz: y = 2'b01; default: y = 2'b1x; endcase
abbrev case_signals : List Signal
case_signals = an_input 4 (codes "a") ∷ a_signal variable 2 (codes "y") ∷ a_signal variable 1 (codes "sv2v_t") ∷ []

abbrev item : List ℕ → List ℕ → Item
item value given_to_y = record { values = Some (lit value ∷ []); body = set (to_name (codes "y")) (lit given_to_y) }

abbrev selecting : Parts
selecting = record {
  signals = case_signals;
  processes = process case_signals on_change (cases K.Z (name (codes "a")) (item (codes "1zzz") (codes "00") ∷ record { values = None; body = set (to_name (codes "y")) (lit (codes "1x")) } ∷ item (codes "01zz") (codes "01") ∷ [])) ∷ [];
  initials = [];
}

first_match_counts : shown 3 selecting 1 2 ((codes "1010" ∷ []) ∷ (codes "0110" ∷ []) ∷ (codes "0011" ∷ []) ∷ (codes "z110" ∷ []) ∷ (codes "x110" ∷ []) ∷ [])
    ≡ codes "00" ∷ codes "01" ∷ codes "1x" ∷ codes "00" ∷ codes "1x" ∷ []
unfolding reference literal assignment name_target cases has
first_match_counts = refl

-- {y, z} = a with y of one bit and z of three
abbrev split_signals : List Signal
split_signals = an_input 4 (codes "a") ∷ a_signal net 1 (codes "y") ∷ a_signal net 3 (codes "z") ∷ []

abbrev split : Parts
split = record {
  signals = split_signals;
  processes = process split_signals always_on (set (joined_target (to_name (codes "y") ∷ to_name (codes "z") ∷ [])) (name (codes "a"))) ∷ [];
  initials = [];
}

low_part : shown 3 split 2 3 ((codes "1x01" ∷ []) ∷ []) ≡ codes "x01" ∷ []
unfolding reference assignment name_target joined_target has
low_part = refl

high_part : shown 3 split 1 1 ((codes "1x01" ∷ []) ∷ []) ≡ codes "1" ∷ []
unfolding reference assignment name_target joined_target has
high_part = refl

-- begin : b reg t; if (a) t = 1'b1; y = t; end: a local holds x each time its block is entered
abbrev local_signals : List Signal
local_signals = an_input 1 (codes "a") ∷ a_signal variable 1 (codes "y") ∷ []

abbrev with_local : Parts
with_local = record {
  signals = local_signals;
  processes =
      process local_signals on_change
      (block_with (record { range = None; name = codes "t" } ∷ []) (sequence (conditional (name (codes "a")) (set (to_name (codes "t")) (lit (codes "1"))) nothing ∷ set (to_name (codes "y")) (name (codes "t")) ∷ []))) ∷ [];
  initials = [];
}

local_is_fresh : shown 2 with_local 1 1 ((codes "1" ∷ []) ∷ (codes "0" ∷ []) ∷ []) ≡ codes "1" ∷ codes "x" ∷ []
unfolding reference literal assignment name_target conditional block_with has
local_is_fresh = refl

-- always @(posedge clk) begin a <= d; b <= a; end
abbrev shift_signals : List Signal
shift_signals = an_input 1 (codes "clk") ∷ an_input 1 (codes "d") ∷ a_signal variable 1 (codes "a") ∷ a_signal variable 1 (codes "b") ∷ []

abbrev shifting : Parts
shifting = record {
  signals = shift_signals;
  processes =
      process shift_signals (on_edges (record { rising = true; signal = 0 } ∷ []))
      (sequence (set_later (to_name (codes "a")) (name (codes "d")) ∷ set_later (to_name (codes "b")) (name (codes "a")) ∷ [])) ∷ [];
  initials = record { number = 2; value = Zero ∷ [] } ∷ record { number = 2; value = One ∷ [] } ∷ [];
}

-- the last `initial` counts, and a nonblocking assignment is seen after the edge only
last_initial_counts : shown 4 shifting 3 1 ((codes "0" ∷ codes "0" ∷ []) ∷ (codes "1" ∷ codes "0" ∷ []) ∷ (codes "0" ∷ codes "1" ∷ []) ∷ (codes "1" ∷ codes "1" ∷ []) ∷ [])
    ≡ codes "x" ∷ codes "1" ∷ codes "1" ∷ codes "0" ∷ []
unfolding reference assignment name_target has
last_initial_counts = refl

-- an `assign` gives a the value of d where en is 1, else that of a: a bit that a process writes keeps its current value,
-- also where the process reads it itself
abbrev loop_signals : List Signal
loop_signals = an_input 1 (codes "en") ∷ an_input 1 (codes "d") ∷ a_signal net 1 (codes "a") ∷ []

abbrev loop : Parts
loop = record {
  signals = loop_signals;
  processes = process loop_signals always_on (set (to_name (codes "a")) (choose (name (codes "en")) (name (codes "d")) (name (codes "a")))) ∷ [];
  initials = [];
}

loop_holds : shown 3 loop 2 1 ((codes "1" ∷ codes "1" ∷ []) ∷ (codes "0" ∷ codes "0" ∷ []) ∷ []) ≡ codes "1" ∷ codes "1" ∷ []
unfolding reference assignment name_target choose has
loop_holds = refl

-- a ** b, a << b and a >>> b are valued at the width of their context, with b alone
powers : shown_value two_bytes (codes "00000011" ∷ codes "00000101" ∷ []) 9 (power (name (codes "a")) (name (codes "b"))) ≡ codes "011110011"
unfolding reference power
powers = refl

shifts_up : shown_value two_bytes (codes "10000001" ∷ codes "00000001" ∷ []) 10 (shift S.Left (name (codes "a")) (name (codes "b"))) ≡ codes "0100000010"
unfolding reference shift
shifts_up = refl

shifts_down : shown_value two_bytes (codes "1000000x" ∷ codes "00000010" ∷ []) 8 (shift S.Arith (signing true (name (codes "a"))) (name (codes "b"))) ≡ codes "11100000"
unfolding reference shift signing
shifts_down = refl

-- $signed(a) < $signed(b), and the same with one sign
signed_order : shown_value two_bytes (codes "11111111" ∷ codes "00000001" ∷ []) 1 (order O.Less (signing true (name (codes "a"))) (signing true (name (codes "b")))) ≡ codes "1"
unfolding reference order signing
signed_order = refl

unsigned_order : shown_value two_bytes (codes "11111111" ∷ codes "00000001" ∷ []) 1 (order O.Less (signing true (name (codes "a"))) (name (codes "b"))) ≡ codes "0"
unfolding reference order signing
unsigned_order = refl

-- {2{a}} and &a
twice : shown_value two_bytes (codes "1010001z" ∷ codes "0" ∷ []) 16 (repetition 2 (name (codes "a") ∷ [])) ≡ codes "1010001z1010001z"
unfolding reference repetition
twice = refl

all_ones : shown_value two_bytes (codes "1111111x" ∷ codes "0" ∷ []) 1 (reduce R.And (name (codes "a"))) ≡ codes "x"
unfolding reference reduce
all_ones = refl
