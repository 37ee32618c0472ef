-- The terminal symbols of the target grammar's table.
use Rattle.std.specs.Prelude.{ℕ, ◌+◌, ◌==◌, List, ◌++◌, codes, if◌then◌else◌}
use Rattle.v_tree.specs.Names.{position}
use Rattle.v_tree.specs.Reserved.{words_of}
use Rattle.v_tree.specs.Tokens.{Token}

-- the words and marks that are terminal symbols
abbrev pub spelled : List (List ℕ)
spelled =
    words_of (codes "module endmodule input output wire reg initial assign always function endfunction posedge negedge or begin end")
    ++ words_of (codes "if else case casez casex endcase default $signed $unsigned")
    ++ words_of (codes "( ) ; , [ ] { } : = <= @ * ? . +: + - / % ** << >> <<< >>> < > >= == != === !== & | ^ ~^ && || ~ ! ~& ~|")

-- The symbol that a token is. A token that stands nowhere has a number that the table doesn't have.
abbrev pub symbol : Token → ℕ
symbol (Token.name bytes) = 1
symbol (Token.number bits) = 2
symbol (Token.decimal value) = if value == 0 then 4 else 3
symbol (Token.word bytes) = 5 + position spelled bytes
symbol (Token.mark bytes) = 5 + position spelled bytes
symbol Token.stray = 0

abbrev pub name : ℕ
name = 1

abbrev pub number : ℕ
number = 2

abbrev pub decimal : ℕ
decimal = 3

abbrev pub nought : ℕ
nought = 4

abbrev pub module_word : ℕ
module_word = 5

abbrev pub endmodule_word : ℕ
endmodule_word = 6

abbrev pub input_word : ℕ
input_word = 7

abbrev pub output_word : ℕ
output_word = 8

abbrev pub wire_word : ℕ
wire_word = 9

abbrev pub reg_word : ℕ
reg_word = 10

abbrev pub initial_word : ℕ
initial_word = 11

abbrev pub assign_word : ℕ
assign_word = 12

abbrev pub always_word : ℕ
always_word = 13

abbrev pub function_word : ℕ
function_word = 14

abbrev pub endfunction_word : ℕ
endfunction_word = 15

abbrev pub posedge_word : ℕ
posedge_word = 16

abbrev pub negedge_word : ℕ
negedge_word = 17

abbrev pub or_word : ℕ
or_word = 18

abbrev pub begin_word : ℕ
begin_word = 19

abbrev pub end_word : ℕ
end_word = 20

abbrev pub if_word : ℕ
if_word = 21

abbrev pub else_word : ℕ
else_word = 22

abbrev pub case_word : ℕ
case_word = 23

abbrev pub casez_word : ℕ
casez_word = 24

abbrev pub casex_word : ℕ
casex_word = 25

abbrev pub endcase_word : ℕ
endcase_word = 26

abbrev pub default_word : ℕ
default_word = 27

abbrev pub signed_word : ℕ
signed_word = 28

abbrev pub unsigned_word : ℕ
unsigned_word = 29

abbrev pub left_paren : ℕ
left_paren = 30

abbrev pub right_paren : ℕ
right_paren = 31

abbrev pub semicolon : ℕ
semicolon = 32

abbrev pub comma : ℕ
comma = 33

abbrev pub left_bracket : ℕ
left_bracket = 34

abbrev pub right_bracket : ℕ
right_bracket = 35

abbrev pub left_brace : ℕ
left_brace = 36

abbrev pub right_brace : ℕ
right_brace = 37

abbrev pub colon : ℕ
colon = 38

abbrev pub equals : ℕ
equals = 39

abbrev pub less_equal : ℕ
less_equal = 40

abbrev pub at_mark : ℕ
at_mark = 41

abbrev pub star : ℕ
star = 42

abbrev pub question : ℕ
question = 43

abbrev pub dot : ℕ
dot = 44

abbrev pub plus_colon : ℕ
plus_colon = 45

abbrev pub plus : ℕ
plus = 46

abbrev pub minus : ℕ
minus = 47

abbrev pub slash : ℕ
slash = 48

abbrev pub percent : ℕ
percent = 49

abbrev pub power : ℕ
power = 50

abbrev pub shift_left : ℕ
shift_left = 51

abbrev pub shift_right : ℕ
shift_right = 52

abbrev pub arithmetic_left : ℕ
arithmetic_left = 53

abbrev pub arithmetic_right : ℕ
arithmetic_right = 54

abbrev pub less : ℕ
less = 55

abbrev pub greater : ℕ
greater = 56

abbrev pub greater_equal : ℕ
greater_equal = 57

abbrev pub equal : ℕ
equal = 58

abbrev pub not_equal : ℕ
not_equal = 59

abbrev pub case_equal : ℕ
case_equal = 60

abbrev pub case_not_equal : ℕ
case_not_equal = 61

abbrev pub and_mark : ℕ
and_mark = 62

abbrev pub or_mark : ℕ
or_mark = 63

abbrev pub xor_mark : ℕ
xor_mark = 64

abbrev pub xnor_mark : ℕ
xnor_mark = 65

abbrev pub logical_and : ℕ
logical_and = 66

abbrev pub logical_or : ℕ
logical_or = 67

abbrev pub tilde : ℕ
tilde = 68

abbrev pub exclamation : ℕ
exclamation = 69

abbrev pub nand_mark : ℕ
nand_mark = 70

abbrev pub nor_mark : ℕ
nor_mark = 71
