-- Worked expansions.
use Rattle.std.proofs.Common.{◌≡◌, ℕ, zero, suc, List, [], ◌∷◌, ◌++◌, map, Option, Some, None, if◌then◌else◌, codes, refl}
use Rattle.std.specs.Str.{bytes_eq}
use Rattle.sv_source.specs.Loading.{Contents}
use Rattle.sv_source.specs.declared.refusal.Refusal.{Refusal}
use Rattle.sv_lexer.specs.Pieces.{longest}
use Rattle.sv_lexer.specs.Tables.{reserved_words, marks}
use Rattle.sv_lexer.specs.Lexing.{tokens_of}
use Rattle.sv_macro.specs.Including.{first_held}
use Rattle.sv_macro.specs.Brackets.{sign_of}
use Rattle.sv_preproc.specs.Machine as mach
use Rattle.sv_preproc.specs.Machine.{Machine, Move, machine, plain, move}
use Rattle.sv_preproc.specs.Searches.{Ending, finished, stopped, failed, found}
use Rattle.sv_preproc.specs.Runs.{start, end_token}
use Rattle.sv_preproc.specs.declared.settings.Define.{Define}
use Rattle.sv_preproc.specs.declared.settings.Settings.{Settings}

-- files in memory: their paths and bytes
abbrev Files : Type 0
Files = List (List ℕ × List ℕ)

abbrev contents_of : Files → Contents
contents_of [] path = None
contents_of (f ∷ fs) path = if bytes_eq f.0 path then Some f.1 else contents_of fs path

abbrev one_file : List ℕ → Files
one_file bytes = (codes "p.sv", bytes) ∷ []

abbrev settings : List (List ℕ) → List Define → Settings
settings dirs defines = record { files = codes "p.sv" ∷ []; dirs = dirs; defines = defines }

-- so many moves, with the files
data Run : Type 0 where
  running : Machine → Run
  ended : Ending → Run

abbrev without_search : Move → Run
without_search (mach.goes m) = running m
without_search (mach.looks q m) = running m
without_search (mach.done m) = ended (finished m.state)
without_search (mach.breaks r names) = ended (stopped r names)

abbrev with_files : Contents → Move → Run
with_files contents (mach.looks q m) = without_search (plain m.calls (found q m.state (first_held contents q.paths)))
with_files contents other = without_search other

abbrev one_more : Settings → Contents → Run → Run
one_more set contents (running m) = with_files contents (move set m)
one_more set contents (ended e) = ended e

abbrev after : Settings → Contents → ℕ → Run → Run
after set contents zero run = run
after set contents (suc n) run = after set contents n (one_more set contents run)

-- a run ends with these texts
abbrev texts_in : Run → List (List ℕ)
texts_in (running m) = []
texts_in (ended (finished s)) = map (λ t. t.text) (s.delivered ++ end_token s.ending ∷ [])
texts_in (ended (stopped r names)) = []
texts_in (ended (failed path)) = []

-- or with this refusal
abbrev refusal_in : Run → Option Refusal
refusal_in (running m) = None
refusal_in (ended (finished s)) = None
refusal_in (ended (stopped r names)) = Some r
refusal_in (ended (failed path)) = None

-- p.sv expanded in at most 200 moves
abbrev run_with : Settings → Files → Run
run_with set files = after set (contents_of files) 200 (running (machine (start set) []))

abbrev run : List ℕ → Run
run bytes = run_with (settings [] []) (one_file bytes)

abbrev refusal : ℕ → ℕ → ℕ → List ℕ → Option Refusal
refusal rule line col word = Some (record { rule = rule; place = record { file = 0; line = line; col = col }; word = word })

-- a macro in its own expansion
own_expansion : refusal_in (run (codes "`define A `A\nmodule m(input logic `A); endmodule")) ≡ refusal 204 2 22 (codes "`A")
unfolding longest reserved_words marks sign_of
own_expansion = refl

-- an absent file
no_file : refusal_in (run (codes "`include \"no.svh\"")) ≡ refusal 101 1 10 (codes "no.svh")
unfolding longest reserved_words marks sign_of
no_file = refl

-- a conditional that is left open
not_closed : refusal_in (run (codes "`ifdef X")) ≡ refusal 205 1 1 (codes "`ifdef")
unfolding longest reserved_words marks sign_of
not_closed = refl

-- a paste
names_joined : texts_in (run (codes "`define R(n) n``_q\nmodule m(input logic `R(a)); endmodule")) ≡ codes "module" ∷ codes "m" ∷ codes "(" ∷ codes "input" ∷ codes "logic" ∷ codes "a_q" ∷ codes ")" ∷ codes ";" ∷ codes "endmodule" ∷ codes "<end>" ∷ []
unfolding longest reserved_words marks sign_of
names_joined = refl

-- wrong number of arguments
too_few : refusal_in (run (codes "`define M(a, b) a\nmodule m(input logic `M(q));")) ≡ refusal 203 2 22 (codes "`M")
unfolding longest reserved_words marks sign_of
too_few = refl

not_open : refusal_in (run (codes "`else")) ≡ refusal 205 1 1 (codes "`else")
unfolding longest reserved_words marks sign_of
not_open = refl

open_comment : refusal_in (run (codes "/*")) ≡ refusal 208 1 1 (codes "/*")
unfolding longest reserved_words marks sign_of
open_comment = refl

branches_selected : texts_in (run (codes "`define A\n`ifdef A\n1\n`else\n2\n`endif\n`ifndef A\n3\n`elsif B\n4\n`elsif A\n5\n`elsif A\n6\n`else\n7\n`endif")) ≡ codes "1" ∷ codes "5" ∷ codes "<end>" ∷ []
unfolding longest reserved_words marks sign_of
branches_selected = refl

-- an argument is expanded once
not_rescanned : texts_in (run (codes "`define F(x) x\n`define B(y) `F(y) y\n`B(`F(1))")) ≡ codes "1" ∷ codes "1" ∷ codes "<end>" ∷ []
unfolding longest reserved_words marks sign_of
not_rescanned = refl

split_outside_brackets : texts_in (run (codes "`define P(a, b) b a\n`P((1, 2), {3, [4, 5]})")) ≡ codes "{" ∷ codes "3" ∷ codes "," ∷ codes "[" ∷ codes "4" ∷ codes "," ∷ codes "5" ∷ codes "]" ∷ codes "}" ∷ codes "(" ∷ codes "1" ∷ codes "," ∷ codes "2" ∷ codes ")" ∷ codes "<end>" ∷ []
unfolding longest reserved_words marks sign_of
split_outside_brackets = refl

-- a body inside an argument does not split it
inner_comma : texts_in (run (codes "`define C 1, 2\n`define I(a) (a)\n`I(`C)")) ≡ codes "(" ∷ codes "1" ∷ codes "," ∷ codes "2" ∷ codes ")" ∷ codes "<end>" ∷ []
unfolding longest reserved_words marks sign_of
inner_comma = refl

-- but what it gave splits an inner call
given_on : texts_in (run (codes "`define C 1, 2\n`define T(a, b) b a\n`define S(a) `T(a)\n`S(`C)")) ≡ codes "2" ∷ codes "1" ∷ codes "<end>" ∷ []
unfolding longest reserved_words marks sign_of
given_on = refl

empty_argument : texts_in (run (codes "`define E(a) x``a``y a``z\n`E()")) ≡ codes "xy" ∷ codes "z" ∷ codes "<end>" ∷ []
unfolding longest reserved_words marks sign_of
empty_argument = refl

not_one : refusal_in (run (codes "`define N(a) a``b\n`N(+)")) ≡ refusal 209 2 1 (codes "``")
unfolding longest reserved_words marks sign_of
not_one = refl

undefined_name : refusal_in (run (codes "`undef A\nx `A")) ≡ refusal 202 2 3 (codes "`A")
unfolding longest reserved_words marks sign_of
undefined_name = refl

call_cut : refusal_in (run (codes "`define M(a) a\n`M(1")) ≡ refusal 208 2 1 (codes "`M")
unfolding longest reserved_words marks sign_of
call_cut = refl

no_list : refusal_in (run (codes "`define M(a) a\n`M")) ≡ refusal 203 2 1 (codes "`M")
unfolding longest reserved_words marks sign_of
no_list = refl

call_over_body : refusal_in (run (codes "`define M(a) a\n`define N `M(1\n`N)")) ≡ refusal 208 3 1 (codes "`M")
unfolding longest reserved_words marks sign_of
call_over_body = refl

in_argument : refusal_in (run (codes "`define M(a) a\n`M(\n`undef M\n)")) ≡ refusal 201 3 1 (codes "`undef")
unfolding longest reserved_words marks sign_of
in_argument = refl

in_body : refusal_in (run (codes "`define M `undef M\n")) ≡ refusal 201 1 11 (codes "`undef")
unfolding longest reserved_words marks sign_of
in_body = refl

dropped : texts_in (run (codes "`resetall `timescale 1ns/1ps `default_nettype none x\n`celldefine y")) ≡ codes "x" ∷ codes "y" ∷ codes "<end>" ∷ []
unfolding longest reserved_words marks sign_of
dropped = refl

ill_formed_net : refusal_in (run (codes "`default_nettype\nnone")) ≡ refusal 201 1 1 (codes "`default_nettype")
unfolding longest reserved_words marks sign_of
ill_formed_net = refl

skipped_comment : refusal_in (run (codes "`ifdef A\n/*")) ≡ refusal 208 2 1 (codes "/*")
unfolding longest reserved_words marks sign_of
skipped_comment = refl

body_continues : texts_in (run (codes "`define A 1 \\\n2\n`A 3")) ≡ codes "1" ∷ codes "2" ∷ codes "3" ∷ codes "<end>" ∷ []
unfolding longest reserved_words marks sign_of
body_continues = refl

formal_departs : refusal_in (run (codes "`define A(1) 2")) ≡ refusal 203 1 11 (codes "1")
unfolding longest reserved_words marks sign_of
formal_departs = refl

no_formals : texts_in (run (codes "`define A (1)\n`define B() 2\n`A `B()")) ≡ codes "(" ∷ codes "1" ∷ codes ")" ∷ codes "2" ∷ codes "<end>" ∷ []
unfolding longest reserved_words marks sign_of
no_formals = refl

-- a break in a body stands at the outermost use
outermost_place : refusal_in (run (codes "`define A `B\n`define B `C\n  `A")) ≡ refusal 202 3 3 (codes "`C")
unfolding longest reserved_words marks sign_of
outermost_place = refl

-- an included file, first in the directory of the file, then in the listed ones
included : texts_in (run_with (settings (codes "d" ∷ []) []) ((codes "p.sv", codes "a `include \"q\" b") ∷ (codes "d/q", codes "1 `include \"r\"") ∷ (codes "d/r", codes "2") ∷ [])) ≡ codes "a" ∷ codes "1" ∷ codes "2" ∷ codes "b" ∷ codes "<end>" ∷ []
unfolding longest reserved_words marks sign_of
included = refl

-- an unclosed conditional of an included file isn't closed by the file around
closed_by_other : refusal_in (run_with (settings [] []) ((codes "p.sv", codes "`include \"q\"\n`endif") ∷ (codes "q", codes "`ifdef A") ∷ [])) ≡ Some (record { rule = 205; place = record { file = 1; line = 1; col = 1 }; word = codes "`ifdef" })
unfolding longest reserved_words marks sign_of
closed_by_other = refl

-- a macro of the command line
from_command : texts_in (run_with (settings [] (record { name = codes "X"; body = tokens_of 0 (codes "a b") } ∷ [])) (one_file (codes "`X `ifdef X c `endif"))) ≡ codes "a" ∷ codes "b" ∷ codes "c" ∷ codes "<end>" ∷ []
unfolding longest reserved_words marks sign_of
from_command = refl

-- a file that includes itself
deep_file : refusal_in (run_with (settings [] []) (one_file (codes "`include \"p.sv\""))) ≡ Some (record { rule = 206; place = record { file = 16; line = 1; col = 1 }; word = codes "`include" })
unfolding longest reserved_words marks sign_of
deep_file = refl

-- a call is taken whole, and its arguments are counted, before they are expanded
counted_first : refusal_in (run (codes "`define Z() x\n`define O\n`Z(`O)")) ≡ refusal 203 3 1 (codes "`Z")
unfolding longest reserved_words marks sign_of
counted_first = refl

counted_before_used : refusal_in (run (codes "`define M(a, b) a\n`M(`U)")) ≡ refusal 203 2 1 (codes "`M")
unfolding longest reserved_words marks sign_of
counted_before_used = refl

closed_before_used : refusal_in (run (codes "`define M(a) a\n`M(`U")) ≡ refusal 208 2 1 (codes "`M")
unfolding longest reserved_words marks sign_of
closed_before_used = refl

outer_first : refusal_in (run (codes "`define M(a) a\n`M(`M(1")) ≡ refusal 208 2 1 (codes "`M")
unfolding longest reserved_words marks sign_of
outer_first = refl

-- of several rules the least number counts
name_before_balance : refusal_in (run (codes "`elsif")) ≡ refusal 201 1 1 (codes "`elsif")
unfolding longest reserved_words marks sign_of
name_before_balance = refl

comment_in_call : refusal_in (run (codes "`define M(a) a\n`M(`U /*")) ≡ refusal 208 2 7 (codes "/*")
unfolding longest reserved_words marks sign_of
comment_in_call = refl
