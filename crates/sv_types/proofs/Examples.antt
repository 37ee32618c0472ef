-- Small expressions and designs: the definitions compute. They are given by their layers, as the trees that they stand for.
use Rattle.std.proofs.Common.{◌≡◌, ℕ, ◌==◌, Bool, true, false, List, [], ◌∷◌, ◌++◌, map, refl, if◌then◌else◌}
use Rattle.std.specs.Prelude.{pos, ◌-ℤ◌, reverse, Some, None, slice_index_or, codes}
use Rattle.b4_core.specs.declared.bit.Bit4.{Bit4}
use Rattle.b4_core.specs.declared.bit.Bit4.TheVariants.{Zero, One, X, Z}
use Rattle.b4_core.specs.declared.operators.BinOp.TheVariants as B
use Rattle.b4_core.specs.declared.operators.OrdOp.TheVariants as O
use Rattle.b4_core.specs.declared.operators.EqOp.TheVariants as E
use Rattle.b4_core.specs.declared.operators.ShiftOp.TheVariants as S
use Rattle.picks.specs.RowMachine.{Place, Valuation, has}
use Rattle.picks.specs.RowMachine.{trace_of}
use Rattle.picks.specs.RowMachine.{vector_at}
use Rattle.sv_types.specs.declared.types.SvType.{SvType-F}
use Rattle.sv_types.specs.declared.expression.Form.{Form-F}
use Rattle.sv_types.specs.declared.statement.Outcome.TheVariants.{Normal}
use Rattle.sv_types.specs.declared.statement.Outcome.TheVariants as Out
use Rattle.sv_types.specs.declared.statement.CaseKind.{CaseKind}
use Rattle.sv_types.specs.declared.statement.CaseKind.TheVariants as C
use Rattle.b4_core.specs.Vectors.{vec}
use Rattle.b4_core.specs.declared.operators.UnOp.TheVariants.{Not}
use Rattle.sv_types.specs.declared.statement.Way.TheVariants.{Input, Output}
use Rattle.sv_types.specs.declared.design.ProcessKind.{ProcessKind}
use Rattle.sv_types.specs.declared.design.ProcessKind.TheVariants as K
use Rattle.sv_types.specs.declared.design.SignalKind.{SignalKind}
use Rattle.sv_types.specs.declared.design.SignalKind.TheVariants.{InputNet, OutputVar, Variable, Net}
use Rattle.sv_types.specs.Layouts.{Layout, type_step, default_bits, repeated, as_a_whole}
use Rattle.sv_types.specs.Surroundings.{Around, Sight, Parameter, Callee, Tally}
use Rattle.sv_types.specs.Meanings.{Meaning, alone}
use Rattle.sv_types.specs.Operators.{Alternative, literal, fill, unary, binary, shift, order, equal, concat, inside, cast, pattern, stream}
use Rattle.sv_types.specs.Expressions.{form_step}
use Rattle.sv_types.specs.Paths.{signal, local, member, index, sliding}
use Rattle.sv_types.specs.Runs as R
use Rattle.sv_types.specs.Efforts as Taken
use Rattle.sv_types.specs.Runs.{value_given, turns}
use Rattle.sv_types.specs.Flows as F
use Rattle.sv_types.specs.Statements as D
use Rattle.sv_types.specs.Statements.{Doing}
use Rattle.sv_types.specs.Functions.{absent, alone_with, begun, callee_by, final}
use Rattle.sv_types.specs.Machine.{SignalMeaning, ProcessMeaning, Parts, machine_of}

-- bits as they are written, the most significant one first
abbrev bit_of_code : ℕ → Bit4
bit_of_code c = if c == 48 then Zero else if c == 49 then One else if c == 120 then X else Z

abbrev bits_of_text : List ℕ → List Bit4
bits_of_text t = reverse (map bit_of_code t)

abbrev code_of : Bit4 → ℕ
code_of Zero = 48
code_of One = 49
code_of X = 120
code_of Z = 122

abbrev text_of : List Bit4 → List ℕ
text_of v = reverse (map code_of v)

-- `logic`, `bit`, and packed arrays of them
abbrev bit_type : Bool → Layout
bit_type four = type_step (SvType-F.Scalar four false)

abbrev array_of : ℕ → Bool → Layout → Layout
array_of n s item = type_step (SvType-F.PackedArray (pos n -ℤ pos 1) (pos 0) s item)

abbrev vector : ℕ → Layout
vector w = array_of w false (bit_type true)

abbrev signed_vector : ℕ → Layout
signed_vector w = array_of w true (bit_type true)

abbrev int : Layout
int = array_of 32 true (bit_type false)

abbrev sig : ℕ → Layout → Meaning
sig n t = form_step (Form-F.Signal n) t 0

abbrev loc : ℕ → Layout → Meaning
loc n t = form_step (Form-F.Local n) t 0

abbrev lit : Layout → List ℕ → Meaning
lit t v = form_step (Form-F.Literal (bits_of_text v) false) t 0

-- what signals hold, one after the other
abbrev values_at : List (List ℕ) → Valuation
values_at vs q = slice_index_or (bits_of_text (slice_index_or vs q.signal [])) q.bit X

abbrev holding : List (List ℕ) → Around
holding vs = record { now = values_at vs; holds = λ n. true; callee = λ n. absent }

-- the value that an assignment gives a target
abbrev assigned : Meaning → Meaning → List (List ℕ) → List ℕ
assigned to value vs = text_of (value_given (to ∷ []) value (holding vs))

-- assign y = a + b, with `logic signed [3:0] a`, `logic [3:0] b`, `logic signed [7:0] y`: the sum has eight bits and no sign
sum_without_sign : assigned (sig 2 (signed_vector 8)) (form_step (Form-F.Binary B.Add (sig 0 (signed_vector 4)) (sig 1 (vector 4))) (vector 4) 0) (codes "1111" ∷ codes "0001" ∷ []) ≡ codes "00010000"
unfolding repeated as_a_whole signal binary
sum_without_sign = refl

-- assign y = a + b, with nine bits in y: the carry is kept
carry_is_kept : assigned (sig 2 (vector 9)) (form_step (Form-F.Binary B.Add (sig 0 (vector 8)) (sig 1 (vector 8))) (vector 8) 0) (codes "11111111" ∷ codes "00000001" ∷ []) ≡ codes "100000000"
unfolding repeated as_a_whole signal binary
carry_is_kept = refl

-- struct packed { logic [0:7] h; logic [7:0] l; }, in a union with `logic [15:0]`
abbrev rising_byte : Layout
rising_byte = type_step (SvType-F.PackedArray (pos 0) (pos 7) false (bit_type true))

abbrev halves : Layout
halves = type_step (SvType-F.Struct 0 true false (rising_byte ∷ vector 8 ∷ []))

abbrev either_view : Layout
either_view = type_step (SvType-F.Union 1 false (halves ∷ vector 16 ∷ []))

abbrev number_literal : ℕ → Meaning
number_literal n = form_step (Form-F.Literal (vec 32 (pos n)) false) (signed_vector 32) 0

abbrev member_bit : ℕ → Layout → ℕ → Meaning
member_bit k t n =
    form_step (Form-F.Index (form_step (Form-F.Member (form_step (Form-F.Member (sig 0 either_view) 0) halves 0) k) t 0) (number_literal n)) (bit_type true) 0

abbrev four_corners : Meaning
four_corners = form_step (Form-F.Concat (member_bit 0 rising_byte 0 ∷ member_bit 0 rising_byte 7 ∷ member_bit 1 (vector 8) 7 ∷ member_bit 1 (vector 8) 0 ∷ [])) (vector 4) 0

outer_corners : assigned (sig 1 (vector 4)) four_corners (codes "1000000000000001" ∷ []) ≡ codes "1001"
unfolding repeated as_a_whole signal member index literal concat
outer_corners = refl

inner_corners : assigned (sig 1 (vector 4)) four_corners (codes "0000000110000000" ∷ []) ≡ codes "0110"
unfolding repeated as_a_whole signal member index literal concat
inner_corners = refl

-- a[i][j] with `logic [3:0][7:0] a`: no neighbour is read where an index is out of range or unknown
abbrev element : Layout → Meaning
element t =
    form_step (Form-F.Index (form_step (Form-F.Index (sig 0 (array_of 4 false (vector 8))) (sig 1 (vector 2))) (vector 8) 0) (sig 2 t)) (bit_type true) 0

abbrev ones : List ℕ
ones = codes "11111111111111111111111111111111"

abbrev seen_at : Layout → List ℕ → List ℕ → List ℕ
seen_at t i j = text_of (alone (element t) (holding (ones ∷ i ∷ j ∷ [])))

past_the_end : seen_at (vector 4) (codes "01") (codes "1001") ≡ codes "x"
unfolding repeated as_a_whole signal index
past_the_end = refl

before_the_start : seen_at (signed_vector 4) (codes "01") (codes "1111") ≡ codes "x"
unfolding repeated as_a_whole signal index
before_the_start = refl

unknown_index : seen_at (vector 4) (codes "01") (codes "0x11") ≡ codes "x"
unfolding repeated as_a_whole signal index
unknown_index = refl

in_range : seen_at (signed_vector 4) (codes "01") (codes "0111") ≡ codes "1"
unfolding repeated as_a_whole signal index
in_range = refl

-- y = a inside {4'b1??1, [4'd2:4'd3]}; z = a inside {4'b0001}
abbrev first_set : Meaning
first_set =
    form_step (Form-F.Inside (sig 0 (vector 4)) (Alternative.Only (lit (vector 4) (codes "1zz1")) ∷ Alternative.From (lit (vector 4) (codes "0010")) (lit (vector 4) (codes "0011")) ∷ [])) (vector 1) 0

abbrev second_set : Meaning
second_set = form_step (Form-F.Inside (sig 0 (vector 4)) (Alternative.Only (lit (vector 4) (codes "0001")) ∷ [])) (vector 1) 0

abbrev sets_of : List ℕ → List ℕ
sets_of a = text_of (alone first_set (holding (a ∷ []))) ++ text_of (alone second_set (holding (a ∷ [])))

inside_wild : sets_of (codes "10x1") ≡ codes "10"
unfolding repeated as_a_whole signal literal inside
inside_wild = refl

inside_unknown : sets_of (codes "0x01") ≡ codes "xx"
unfolding repeated as_a_whole signal literal inside
inside_unknown = refl

inside_range : sets_of (codes "0010") ≡ codes "10"
unfolding repeated as_a_whole signal literal inside
inside_range = refl

inside_none : sets_of (codes "0100") ≡ codes "00"
unfolding repeated as_a_whole signal literal inside
inside_none = refl

-- t'{default: '0, hi: (a + b) >> 1}: an item is made at its own width, and then cut to its member
abbrev nibbles : Layout
nibbles = type_step (SvType-F.Struct 2 true false (vector 4 ∷ vector 4 ∷ []))

abbrev half_sum : Meaning
half_sum =
    form_step (Form-F.Shift S.Right (form_step (Form-F.Binary B.Add (sig 0 (vector 5)) (sig 1 (vector 5))) (vector 5) 0) (number_literal 1)) (vector 5) 0

abbrev pattern_of_sum : Meaning
pattern_of_sum = form_step (Form-F.Cast (form_step (Form-F.Pattern (half_sum ∷ form_step (Form-F.Fill Zero) (vector 1) 0 ∷ [])) nibbles 0)) nibbles 0

item_is_cut : assigned (sig 2 (vector 8)) pattern_of_sum (codes "01111" ∷ codes "00001" ∷ []) ≡ codes "10000000"
unfolding repeated as_a_whole signal binary literal shift fill pattern cast
item_is_cut = refl

-- {<<{a}} and {<<4{b}}, given to eight bits
bits_reversed : assigned (sig 1 (vector 8)) (form_step (Form-F.Stream true 1 (sig 0 (vector 8) ∷ [])) (vector 8) 0) (codes "00110101" ∷ []) ≡ codes "10101100"
unfolding repeated as_a_whole signal stream
bits_reversed = refl

slices_reversed : assigned (sig 1 (vector 8)) (form_step (Form-F.Stream true 4 (sig 0 (vector 6) ∷ [])) (vector 6) 0) (codes "110101" ∷ []) ≡ codes "01011100"
unfolding repeated as_a_whole signal stream
slices_reversed = refl

-- the bits of a signal after a run
abbrev started : List (List ℕ) → R.State
started vs = record { written = λ q. None; pending = λ q. None; outcome = Normal }

abbrev after : Doing → List (List ℕ) → ℕ → ℕ → List ℕ
after d vs n w = text_of (vector_at (R.current (holding vs) (d.run (holding vs) (started vs))).now n w)

-- {<<8{h, l}} = a
target_stream : after (D.assigning (form_step (Form-F.Stream true 8 (sig 1 (vector 8) ∷ sig 2 (vector 8) ∷ [])) (vector 16) 0 ∷ []) (sig 0 (vector 16)) false) (codes "1111000000001010" ∷ []) 1 8 ≡ codes "00001010"
unfolding repeated as_a_whole signal stream
target_stream = refl

-- casez ignores z on either side; casex ignores x too
abbrev case_of : Bit4 → Doing
case_of b = D.assigning (sig 1 (vector 1) ∷ []) (form_step (Form-F.Fill b) (vector 1) 0) false

abbrev selecting : CaseKind → List ℕ → List ℕ
selecting kind item =
    after (D.selecting kind (sig 0 (vector 2)) (record { values = lit (vector 2) item ∷ []; does = case_of One } ∷ []) (Some (case_of Zero))) (codes "1x" ∷ []) 1 1

plain_case : selecting C.Plain (codes "1z") ≡ codes "0"
unfolding repeated as_a_whole signal literal fill
plain_case = refl

casez_ignores_z : selecting C.Z (codes "1z") ≡ codes "1"
unfolding repeated as_a_whole signal literal fill
casez_ignores_z = refl

casez_keeps_x : selecting C.Z (codes "11") ≡ codes "0"
unfolding repeated as_a_whole signal literal fill
casez_keeps_x = refl

casex_ignores_x : selecting C.X (codes "11") ≡ codes "1"
unfolding repeated as_a_whole signal literal fill
casex_ignores_x = refl

-- for (int i = 0; i < 4; i++) begin for (int j = 0; j < 4; j++) begin if (j == i) continue; t = t + 8'd1; end if (i == 2) return t; end
abbrev less : Meaning → Meaning → Meaning
less a b = form_step (Form-F.Order O.Less a b) (bit_type true) 0

abbrev same : Meaning → Meaning → Meaning
same a b = form_step (Form-F.Equal E.Logic false a b) (bit_type true) 0

abbrev int_literal : ℕ → Meaning
int_literal n = form_step (Form-F.Literal (vec 32 (pos n)) false) int 0

abbrev plus_one : ℕ → Meaning
plus_one n = form_step (Form-F.Binary B.Add (loc n int) (int_literal 1)) int 0

abbrev block : List Doing → Doing
block ds = D.counted (D.scope [] ds)

abbrev set : Meaning → Meaning → Doing
set to value = D.counted (D.assigning (to ∷ []) value false)

abbrev counter : Doing
counter = set (loc 1 (vector 8)) (form_step (Form-F.Binary B.Add (loc 1 (vector 8)) (lit (vector 8) (codes "00000001"))) (vector 8) 0)

abbrev inner_loop : Doing
inner_loop = D.looping 3 (int_literal 0) (less (loc 3 int) (int_literal 4)) (plus_one 3)
    (block (D.counted (D.branching (same (loc 3 int) (loc 2 int)) (D.counted (D.jumping Out.Continue)) None) ∷ counter ∷ []))

abbrev outer_loop : Doing
outer_loop = D.looping 2 (int_literal 0) (less (loc 2 int) (int_literal 4)) (plus_one 2)
    (block (inner_loop ∷ D.counted (D.branching (same (loc 2 int) (int_literal 2)) (block (set (loc 0 (vector 8)) (loc 1 (vector 8)) ∷ D.counted (D.jumping Out.Return) ∷ [])) None) ∷ []))

abbrev function_body : Doing
function_body = block (set (loc 1 (vector 8)) (lit (vector 8) (codes "00000000")) ∷ outer_loop ∷ set (loc 0 (vector 8)) (lit (vector 8) (codes "11111111")) ∷ [])

abbrev ended : R.State
ended = function_body.run (alone_with (λ n. absent)) (begun [] [])

nested_loops : text_of (final (R.current (alone_with (λ n. absent)) ended) 0 (vector 8).two_state) ≡ codes "00001001"
unfolding repeated as_a_whole local literal binary order equal turns
nested_loops = refl

-- a design on rows: what a signal of some width holds after each
abbrev a_signal : SignalKind → Layout → SignalMeaning
a_signal kind t = record { of = t; kind = kind; is_top_input = false; initial = default_bits t.two_state }

abbrev an_input : Layout → SignalMeaning
an_input t = record (a_signal InputNet t) { is_top_input = true }

abbrev process : ProcessKind → Doing → ProcessMeaning
process kind body = record { kind = kind; does = body }

abbrev shown : Parts → ℕ → ℕ → List (List (List ℕ)) → List (List ℕ)
shown d n w rows = map (λ v. text_of (vector_at v n w)) (trace_of (machine_of d) (machine_of d).combs (map values_at rows))

abbrev on_edge : ℕ → ProcessKind
on_edge n = K.Edges (record { signal = n; rising = true; spot = record { at = 0; place = record { file = 0; line = 1; col = 1 }; word = [] } } ∷ [])

abbrev later : Meaning → Meaning → Doing
later to value = D.counted (D.assigning (to ∷ []) value true)

-- struct packed { logic [7:0] f; } s; s.f <= 8'h00; s.f[i+:4] <= 4'hf; s.f[j+:4] <= 4'h5; assign q = s.f
abbrev one_member : Layout
one_member = type_step (SvType-F.Struct 0 true false (vector 8 ∷ []))

abbrev member_f : Meaning
member_f = form_step (Form-F.Member (sig 4 one_member) 0) (vector 8) 0

abbrev four_from : ℕ → Meaning
four_from n = form_step (Form-F.Slide member_f (sig n (vector 3)) 4 true) (vector 4) 0

abbrev overlapping : Parts
overlapping = record {
  signals = an_input (vector 1) ∷ an_input (vector 3) ∷ an_input (vector 3) ∷ a_signal OutputVar (vector 8) ∷ a_signal Variable one_member ∷ [];
  processes = process (on_edge 0) (block (later member_f (lit (vector 8) (codes "00000000")) ∷ later (four_from 1) (lit (vector 4) (codes "1111")) ∷ later (four_from 2) (lit (vector 4) (codes "0101")) ∷ [])) ∷ process K.Continuous (set (sig 3 (vector 8)) member_f) ∷ [];
  callee = λ n. absent;
}

part_writes : shown overlapping 3 8 ((codes "0" ∷ codes "000" ∷ codes "000" ∷ []) ∷ (codes "1" ∷ codes "010" ∷ codes "110" ∷ []) ∷ (codes "0" ∷ codes "000" ∷ codes "000" ∷ []) ∷ (codes "1" ∷ codes "0x0" ∷ codes "011" ∷ []) ∷ [])
    ≡ codes "xxxxxxxx" ∷ codes "01111100" ∷ codes "01111100" ∷ codes "00101000" ∷ []
unfolding repeated as_a_whole signal member sliding literal has
part_writes = refl

-- output int q; always_ff @(posedge clk) q <= d
abbrev two_state_register : Parts
two_state_register = record {
  signals = an_input (vector 1) ∷ an_input (vector 2) ∷ a_signal OutputVar int ∷ [];
  processes = process (on_edge 0) (later (sig 2 int) (sig 1 (vector 2))) ∷ [];
  callee = λ n. absent;
}

two_state_kept : shown two_state_register 2 32 ((codes "0" ∷ codes "x1" ∷ []) ∷ (codes "1" ∷ codes "x1" ∷ []) ∷ [])
    ≡ codes "00000000000000000000000000000000" ∷ codes "00000000000000000000000000000001" ∷ []
unfolding repeated as_a_whole signal has
two_state_kept = refl

-- logic y = 1'b0; always_comb y = a; always @* z = ~y
abbrev declared_value : Parts
declared_value = record {
  signals = an_input (vector 1) ∷ a_signal OutputVar (vector 1) ∷ record (a_signal Variable (vector 1)) { initial = Zero ∷ [] } ∷ [];
  processes = process K.Comb (set (sig 2 (vector 1)) (sig 0 (vector 1))) ∷ process K.Star (set (sig 1 (vector 1)) (form_step (Form-F.Unary Not (sig 2 (vector 1))) (vector 1) 0)) ∷ [];
  callee = λ n. absent;
}

started_late : shown declared_value 1 1 ((codes "0" ∷ []) ∷ (codes "1" ∷ []) ∷ (codes "0" ∷ []) ∷ []) ≡ codes "x" ∷ codes "0" ∷ codes "1" ∷ []
unfolding repeated as_a_whole signal unary has
started_late = refl

-- always @* y = 1'b1 reads nothing, so it never starts; as an always_comb it does
abbrev constant_driver : ProcessKind → Parts
constant_driver kind = record {
  signals = a_signal OutputVar (vector 1) ∷ [];
  processes = process kind (set (sig 0 (vector 1)) (lit (vector 1) (codes "1"))) ∷ [];
  callee = λ n. absent;
}

never_started : shown (constant_driver K.Star) 0 1 ([] ∷ [] ∷ []) ≡ codes "x" ∷ codes "x" ∷ []
unfolding repeated as_a_whole signal literal has
never_started = refl

started_at_zero : shown (constant_driver K.Comb) 0 1 ([] ∷ [] ∷ []) ≡ codes "1" ∷ codes "1" ∷ []
unfolding repeated as_a_whole signal literal has
started_at_zero = refl

-- assign a[0] = 1'b1: the other bit of the variable keeps its value, and of a net it is z
abbrev half_driven : SignalKind → Parts
half_driven kind = record {
  signals = a_signal kind (vector 2) ∷ [];
  processes = process K.Continuous (set (form_step (Form-F.Index (sig 0 (vector 2)) (number_literal 0)) (bit_type true) 0) (lit (vector 1) (codes "1"))) ∷ [];
  callee = λ n. absent;
}

variable_keeps : shown (half_driven OutputVar) 0 2 ([] ∷ []) ≡ codes "x1" ∷ []
unfolding repeated as_a_whole signal index literal has
variable_keeps = refl

net_floats : shown (half_driven Net) 0 2 ([] ∷ []) ≡ codes "z1" ∷ []
unfolding repeated as_a_whole signal index literal has
net_floats = refl

-- always_latch if (en) q = d
abbrev latched : Parts
latched = record {
  signals = an_input (vector 1) ∷ an_input (vector 2) ∷ a_signal OutputVar (vector 2) ∷ [];
  processes = process K.Latch (D.counted (D.branching (sig 0 (vector 1)) (set (sig 2 (vector 2)) (sig 1 (vector 2))) None)) ∷ [];
  callee = λ n. absent;
}

latch_holds : shown latched 2 2 ((codes "0" ∷ codes "01" ∷ []) ∷ (codes "1" ∷ codes "1x" ∷ []) ∷ (codes "0" ∷ codes "00" ∷ []) ∷ (codes "x" ∷ codes "01" ∷ []) ∷ [])
    ≡ codes "xx" ∷ codes "1x" ∷ codes "1x" ∷ codes "1x" ∷ []
unfolding repeated as_a_whole signal has
latch_holds = refl

-- task add(input logic [3:0] x, output logic [3:0] r, output logic k), called as add(a, s, c) in an always_comb
abbrev adder_formals : List Parameter
adder_formals =
    record { number = 1; two_state = (vector 4).two_state; signed = false; way = Input } ∷ record { number = 2; two_state = (vector 4).two_state; signed = false; way = Output } ∷ record { number = 3; two_state = (vector 1).two_state; signed = false; way = Output } ∷ []

abbrev adder_body : Doing
adder_body =
    block (D.counted (D.branching (same (loc 1 (vector 4)) (lit (vector 4) (codes "1111")))
    (block (set (loc 2 (vector 4)) (lit (vector 4) (codes "0000")) ∷ set (loc 3 (vector 1)) (lit (vector 1) (codes "1")) ∷ D.counted (D.jumping Out.Return) ∷ [])) None)
    ∷ set (loc 2 (vector 4)) (form_step (Form-F.Binary B.Add (loc 1 (vector 4)) (lit (vector 4) (codes "0001"))) (vector 4) 0)
    ∷ set (loc 3 (vector 1)) (lit (vector 1) (codes "0")) ∷ [])

abbrev adder : Callee
adder = callee_by adder_formals ((vector 1).two_state) adder_body (λ n. absent)

abbrev added : Parts
added = record {
  signals = an_input (vector 4) ∷ a_signal OutputVar (vector 4) ∷ a_signal OutputVar (vector 1) ∷ [];
  processes = process K.Comb (D.counted (D.calling 0 (sig 0 (vector 4) ∷ sig 1 (vector 4) ∷ sig 2 (vector 1) ∷ []))) ∷ [];
  callee = λ n. adder;
}

sums_copied_out : shown added 1 4 ((codes "0011" ∷ []) ∷ (codes "1111" ∷ []) ∷ (codes "1x00" ∷ []) ∷ []) ≡ codes "0100" ∷ codes "0000" ∷ codes "xxxx" ∷ []
unfolding repeated as_a_whole signal local literal binary equal has
sums_copied_out = refl

carries_copied_out : shown added 2 1 ((codes "0011" ∷ []) ∷ (codes "1111" ∷ []) ∷ (codes "1x00" ∷ []) ∷ []) ≡ codes "0" ∷ codes "1" ∷ codes "0" ∷ []
unfolding repeated as_a_whole signal local literal binary equal has
carries_copied_out = refl

-- what is known before: the loops of the function unroll, and no path leaves its result unwritten; it runs 47 statements
abbrev known_before : F.Flow
known_before = function_body.flow (record { around = alone_with (λ n. absent); sure = λ q. false })

abbrev result_bit : Place
result_bit = record { signal = 4294967296; bit = 0 }

result_is_written : known_before.slips Out.Normal result_bit ∷ known_before.slips Out.Return result_bit ∷ known_before.unrolls ∷ [] ≡ false ∷ false ∷ true ∷ []
unfolding repeated as_a_whole local literal binary order equal F.turns
result_is_written = refl

abbrev taken : Tally
taken = function_body.effort (alone_with (λ n. absent)) (begun [] []) (record { left = Some 100; stop = None })

statements_are_counted : taken.left ≡ Some 53
unfolding repeated as_a_whole local literal binary order equal turns Taken.turns
statements_are_counted = refl

-- union packed { bit [3:0] b; logic [3:0] l; } u: one four-state member makes the whole four-state; its two-state member is
-- converted when it is read
abbrev mixed : Layout
mixed = type_step (SvType-F.Union 3 false (array_of 4 false (bit_type false) ∷ vector 4 ∷ []))

mixed_default : text_of (default_bits mixed.two_state) ≡ codes "xxxx"
unfolding repeated
mixed_default = refl

abbrev mixed_member : ℕ → Layout → Meaning
mixed_member k t = form_step (Form-F.Member (sig 0 mixed) k) t 0

four_state_member : text_of (alone (mixed_member 1 (vector 4)) (holding (codes "1x0z" ∷ []))) ≡ codes "1x0z"
unfolding repeated signal member
four_state_member = refl

two_state_member : text_of (alone (mixed_member 0 (array_of 4 false (bit_type false))) (holding (codes "1x0z" ∷ []))) ≡ codes "1000"
unfolding repeated signal member
two_state_member = refl

-- for (int i = 0; i < 4; i++) i = 5: the variable is written
abbrev unseen : Sight
unseen = record { around = alone_with (λ n. absent); sure = λ q. false }

abbrev writes_its_variable : Doing
writes_its_variable = D.looping 2 (int_literal 0) (less (loc 2 int) (int_literal 4)) (plus_one 2) (set (loc 2 int) (int_literal 5))

loops_are_bounded : writes_its_variable.bounded unseen ∷ outer_loop.bounded unseen ∷ [] ≡ false ∷ true ∷ []
unfolding repeated local literal binary order equal
loops_are_bounded = refl

-- a select of a signal at a bad constant index still reads the signal
abbrev past_a : Meaning
past_a = form_step (Form-F.Index (sig 0 (vector 4)) (number_literal 9)) (bit_type true) 0

past_is_no_constant : past_a.constant unseen ≡ false
unfolding repeated signal index literal
past_is_no_constant = refl

-- behind a jump nothing is read

behind_a_jump : (F.and_then (F.jumping Out.Break) (record F.nothing { unset = 7 ∷ [] })).unset ≡ []
behind_a_jump = refl

all_statements : known_before.statements ≡ 87
unfolding repeated local literal binary order equal F.turns
all_statements = refl
