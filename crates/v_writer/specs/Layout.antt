-- The text of a target design. An item or a statement stands on a line of its own, indented by two spaces for each module,
-- function, block and `case` around it; `begin` and `else begin` end their line, `end` stands alone, and a branch stands behind
-- its `if` or `else`. There is one space around binary operators, `?`, `:` of `?:`, `=`, `<=` and `+:`, after commas and keywords
-- and before the lists of ports and connections; behind an escaped identifier stands its one space and no other.
use Rattle.std.specs.Prelude.{ℕ, zero, suc, Bool, true, false, not, List, [], ◌∷◌, ◌++◌, map, reverse, length, codes, decimal, Option, Some, None, if◌then◌else◌}
use Rattle.b4_core.specs.declared.bit.Bit4.{Bit4}
use Rattle.b4_core.specs.declared.bit.Bit4.TheVariants.{Zero, One, X, Z}
use Rattle.v_tree.specs.declared.expressions.VExpr.{VExpr, VExpr-F, fold-VExpr}
use Rattle.v_tree.specs.declared.expressions.VExtent.{VExtent}
use Rattle.v_tree.specs.declared.expressions.VExtent.TheVariants.{Down, Up}
use Rattle.v_tree.specs.declared.expressions.VPrim.{VPrim, VPrim-F, fold-VPrim}
use Rattle.v_tree.specs.declared.expressions.VSel.{VSel, VSel-F, fold-VSel}
use Rattle.v_tree.specs.declared.items.VConnection.{VConnection}
use Rattle.v_tree.specs.declared.items.VDesign.{VDesign}
use Rattle.v_tree.specs.declared.items.VEdge.{VEdge}
use Rattle.v_tree.specs.declared.items.VFunction.{VFunction}
use Rattle.v_tree.specs.declared.items.VInit.{VInit}
use Rattle.v_tree.specs.declared.items.VInit.TheVariants as V
use Rattle.v_tree.specs.declared.items.VInitial.{VInitial}
use Rattle.v_tree.specs.declared.items.VInstance.{VInstance}
use Rattle.v_tree.specs.declared.items.VItem.{VItem}
use Rattle.v_tree.specs.declared.items.VItem.TheVariants as I
use Rattle.v_tree.specs.declared.items.VLocal.{VLocal}
use Rattle.v_tree.specs.declared.items.VModule.{VModule}
use Rattle.v_tree.specs.declared.items.VProcess.{VProcess}
use Rattle.v_tree.specs.declared.items.VProcess.TheVariants.{Assign, Always}
use Rattle.v_tree.specs.declared.items.VRegRest.{VRegRest}
use Rattle.v_tree.specs.declared.items.VRegRest.TheVariants as R
use Rattle.v_tree.specs.declared.items.VSensitivity.{VSensitivity}
use Rattle.v_tree.specs.declared.items.VSensitivity.TheVariants.{Star, Edges}
use Rattle.v_tree.specs.declared.items.VSignal.{VSignal}
use Rattle.v_tree.specs.declared.items.VSignal.TheVariants.{Input, Output, OutputReg, Wire, Reg}
use Rattle.v_tree.specs.declared.operators.VBinaryOp.{VBinaryOp}
use Rattle.v_tree.specs.declared.operators.VBinaryOp.TheVariants as B
use Rattle.v_tree.specs.declared.operators.VUnaryOp.{VUnaryOp}
use Rattle.v_tree.specs.declared.operators.VUnaryOp.TheVariants as U
use Rattle.v_tree.specs.declared.statements.VBranch.{VBranch, VBranch-F, fold-VBranch}
use Rattle.v_tree.specs.declared.statements.VCaseItem.{VCaseItem, VCaseItem-F, fold-VCaseItem}
use Rattle.v_tree.specs.declared.statements.VCaseKind.{VCaseKind}
use Rattle.v_tree.specs.declared.statements.VCaseKind.TheVariants as K
use Rattle.v_tree.specs.declared.statements.VLabel.{VLabel}
use Rattle.v_tree.specs.declared.statements.VLval.{VLval, VLval-F, fold-VLval}
use Rattle.v_tree.specs.declared.statements.VStmt.{VStmt, VStmt-F, fold-VStmt}
use Rattle.v_tree.specs.Tokens.{Token, is_simple}

pub data Piece : Type 0 where
  token : Token → Piece
  space : Piece
  -- the end of a line and the indentation of the next one
  line : (depth : ℕ) → Piece

abbrev pub bit_digit : Bit4 → ℕ
bit_digit Zero = 48
bit_digit One = 49
bit_digit X = 120
bit_digit Z = 122

-- a simple name as it is, any other as an escaped identifier with its space
unfoldable pub name_spelling : List ℕ → List ℕ
name_spelling bytes = if is_simple bytes then bytes else 92 ∷ (bytes ++ 32 ∷ [])

-- How a token is written: a number as its size, `'b` and its bits with the most significant first.
abbrev pub spelling : Token → List ℕ
spelling (Token.name bytes) = name_spelling bytes
spelling (Token.word bytes) = bytes
spelling (Token.number bits) = decimal (length bits) ++ (codes "'b" ++ map bit_digit (reverse bits))
spelling (Token.decimal value) = decimal value
spelling (Token.mark bytes) = bytes
spelling Token.stray = []

unfoldable pub is_escaped_name : List ℕ → Bool
is_escaped_name bytes = not (is_simple bytes)

-- whether the token is written as an escaped identifier
abbrev pub is_escaped : Token → Bool
is_escaped (Token.name bytes) = is_escaped_name bytes
is_escaped (Token.word bytes) = false
is_escaped (Token.number bits) = false
is_escaped (Token.decimal value) = false
is_escaped (Token.mark bytes) = false
is_escaped Token.stray = false

-- two spaces for each level
abbrev pub indentation : ℕ → List ℕ
indentation zero = []
indentation (suc depth) = 32 ∷ 32 ∷ indentation depth

-- what a piece is written as, directly behind an escaped identifier or not
abbrev pub piece_bytes : Bool → Piece → List ℕ
piece_bytes escaped (token t) = spelling t
piece_bytes escaped space = if escaped then [] else 32 ∷ []
piece_bytes escaped (line depth) = 10 ∷ indentation depth

abbrev pub leaves_escaped : Piece → Bool
leaves_escaped (token t) = is_escaped t
leaves_escaped space = false
leaves_escaped (line depth) = false

abbrev pub bytes_from : Bool → List Piece → List ℕ
bytes_from escaped [] = []
bytes_from escaped (p ∷ ps) = piece_bytes escaped p ++ bytes_from (leaves_escaped p) ps

-- the tokens among the pieces
abbrev pub tokens_of : List Piece → List Token
tokens_of [] = []
tokens_of (token t ∷ ps) = t ∷ tokens_of ps
tokens_of (space ∷ ps) = tokens_of ps
tokens_of (line depth ∷ ps) = tokens_of ps

-- one token
abbrev pub word : List ℕ → Piece
word bytes = token (Token.word bytes)

abbrev pub mark : List ℕ → Piece
mark bytes = token (Token.mark bytes)

abbrev pub name : List ℕ → Piece
name bytes = token (Token.name bytes)

abbrev pub number : List Bit4 → Piece
number bits = token (Token.number bits)

abbrev pub whole : ℕ → Piece
whole n = token (Token.decimal n)

-- what is there, or nothing
abbrev pub perhaps : {A : Type 0} → (A → List Piece) → Option A → List Piece
perhaps layout None = []
perhaps layout (Some x) = layout x

-- `, b` for each of these
abbrev pub further : List (List Piece) → List Piece
further [] = []
further (l ∷ ls) = mark (codes ",") ∷ space ∷ (l ++ further ls)

-- a comma before each but the first
abbrev pub comma : Bool → List Piece
comma true = []
comma false = mark (codes ",") ∷ space ∷ []

-- `a, b`
abbrev pub listed : List (List Piece) → List Piece
listed [] = []
listed (l ∷ ls) = l ++ further ls

-- one behind the other
abbrev pub in_turn : List (List Piece) → List Piece
in_turn [] = []
in_turn (l ∷ ls) = l ++ in_turn ls

-- a mark with a space on either side
abbrev pub between : List ℕ → List Piece
between bytes = space ∷ mark bytes ∷ space ∷ []

abbrev pub unary_mark : VUnaryOp → List ℕ
unary_mark U.Not = codes "~"
unary_mark U.LogicalNot = codes "!"
unary_mark U.Neg = codes "-"
unary_mark U.And = codes "&"
unary_mark U.Nand = codes "~&"
unary_mark U.Or = codes "|"
unary_mark U.Nor = codes "~|"
unary_mark U.Xor = codes "^"
unary_mark U.Xnor = codes "~^"

abbrev pub binary_mark : VBinaryOp → List ℕ
binary_mark B.Add = codes "+"
binary_mark B.Sub = codes "-"
binary_mark B.Mul = codes "*"
binary_mark B.Div = codes "/"
binary_mark B.Rem = codes "%"
binary_mark B.Power = codes "**"
binary_mark B.ShiftLeft = codes "<<"
binary_mark B.ShiftRight = codes ">>"
binary_mark B.ArithmeticLeft = codes "<<<"
binary_mark B.ArithmeticRight = codes ">>>"
binary_mark B.Less = codes "<"
binary_mark B.LessEqual = codes "<="
binary_mark B.Greater = codes ">"
binary_mark B.GreaterEqual = codes ">="
binary_mark B.Equal = codes "=="
binary_mark B.NotEqual = codes "!="
binary_mark B.CaseEqual = codes "==="
binary_mark B.CaseNotEqual = codes "!=="
binary_mark B.And = codes "&"
binary_mark B.Or = codes "|"
binary_mark B.Xor = codes "^"
binary_mark B.Xnor = codes "~^"
binary_mark B.LogicalAnd = codes "&&"
binary_mark B.LogicalOr = codes "||"

-- `:right` and ` +: width`
abbrev pub extent_layout : VExtent → List Piece
extent_layout (Down right) = mark (codes ":") ∷ whole right ∷ []
extent_layout (Up width) = space ∷ mark (codes "+:") ∷ space ∷ whole width ∷ []

abbrev pub sel_pieces : VSel-F (List Piece) (List Piece) (List Piece) → List Piece
sel_pieces (VSel-F.Decimal base extent) = mark (codes "[") ∷ whole base ∷ (perhaps extent_layout extent ++ mark (codes "]") ∷ [])
sel_pieces (VSel-F.Expr base extent) = mark (codes "[") ∷ (base ++ (perhaps extent_layout extent ++ mark (codes "]") ∷ []))

abbrev pub sign_word : Bool → List ℕ
sign_word true = codes "$signed"
sign_word false = codes "$unsigned"

abbrev pub prim_pieces : VPrim-F (List Piece) (List Piece) (List Piece) → List Piece
prim_pieces (VPrim-F.Number bits) = number bits ∷ []
prim_pieces (VPrim-F.Paren inner) = mark (codes "(") ∷ (inner ++ mark (codes ")") ∷ [])
prim_pieces (VPrim-F.Name n sels) = name n ∷ in_turn sels
prim_pieces (VPrim-F.Call n args) = name n ∷ mark (codes "(") ∷ (listed args ++ mark (codes ")") ∷ [])
prim_pieces (VPrim-F.Repeat count items) =
    mark (codes "{") ∷ whole count ∷ mark (codes "{") ∷ (listed items ++ mark (codes "}") ∷ mark (codes "}") ∷ [])
prim_pieces (VPrim-F.Concat items) = mark (codes "{") ∷ (listed items ++ mark (codes "}") ∷ [])
prim_pieces (VPrim-F.Sign signed of) = word (sign_word signed) ∷ mark (codes "(") ∷ (of ++ mark (codes ")") ∷ [])

abbrev pub expr_pieces : VExpr-F (List Piece) (List Piece) (List Piece) → List Piece
expr_pieces (VExpr-F.Prim a) = a
expr_pieces (VExpr-F.Unary op a) = mark (unary_mark op) ∷ a
expr_pieces (VExpr-F.Binary op a b) = a ++ (space ∷ mark (binary_mark op) ∷ space ∷ b)
expr_pieces (VExpr-F.Choose on a b) = on ++ (space ∷ mark (codes "?") ∷ space ∷ (a ++ (space ∷ mark (codes ":") ∷ space ∷ b)))

abbrev pub sel_layout : VSel → List Piece
sel_layout = fold-VSel (List Piece) (List Piece) (List Piece) expr_pieces prim_pieces sel_pieces

abbrev pub prim_layout : VPrim → List Piece
prim_layout = fold-VPrim (List Piece) (List Piece) (List Piece) expr_pieces prim_pieces sel_pieces

abbrev pub expr_layout : VExpr → List Piece
expr_layout = fold-VExpr (List Piece) (List Piece) (List Piece) expr_pieces prim_pieces sel_pieces

abbrev pub lval_pieces : VLval-F (List Piece) → List Piece
lval_pieces (VLval-F.Name n sels) = name n ∷ in_turn (map sel_layout sels)
lval_pieces (VLval-F.Concat parts) = mark (codes "{") ∷ (listed parts ++ mark (codes "}") ∷ [])

abbrev pub lval_layout : VLval → List Piece
lval_layout = fold-VLval (List Piece) lval_pieces

-- `[left:0] `
abbrev pub range_layout : ℕ → List Piece
range_layout left = mark (codes "[") ∷ whole left ∷ mark (codes ":") ∷ whole 0 ∷ mark (codes "]") ∷ space ∷ []

-- `keyword [left:0] name`
abbrev pub declared : List ℕ → Option ℕ → List ℕ → List Piece
declared keyword range n = word keyword ∷ space ∷ (perhaps range_layout range ++ name n ∷ [])

-- and what stands behind it
abbrev pub declaration_layout : List ℕ → Option ℕ → List ℕ → List Piece → List Piece
declaration_layout keyword range n rest = word keyword ∷ space ∷ (perhaps range_layout range ++ name n ∷ (rest ++ mark (codes ";") ∷ []))

abbrev pub local_layout : List ℕ → VLocal → List Piece
local_layout keyword l = declaration_layout keyword l.range l.name []

-- each on a line of its own
abbrev pub lines : ℕ → List (List Piece) → List Piece
lines depth [] = []
lines depth (l ∷ ls) = line depth ∷ (l ++ lines depth ls)

-- ` = value`, or with `<=`
abbrev pub store_mark : Bool → List ℕ
store_mark false = codes "="
store_mark true = codes "<="

abbrev pub stored : Bool → List Piece → List Piece
stored later value = space ∷ mark (store_mark later) ∷ space ∷ value

-- ` : name` behind a `begin`, and the variables
abbrev pub label_layout : ℕ → VLabel → List Piece
label_layout depth l = space ∷ mark (codes ":") ∷ space ∷ name l.name ∷ lines depth (map (local_layout (codes "reg")) l.locals)

-- What a statement is written as whose line is indented by this many levels. Each statement of a block has a line.
abbrev pub Placed : Type 0
Placed = ℕ → List Piece

abbrev pub placed : ℕ → List Placed → List (List Piece)
placed depth ls = map (λ (l : Placed). l depth) ls

abbrev pub else_layout : ℕ → Option Placed → List Piece
else_layout depth None = []
else_layout depth (Some other) = line depth ∷ word (codes "else") ∷ space ∷ other depth

abbrev pub case_word : VCaseKind → List ℕ
case_word K.Plain = codes "case"
case_word K.Z = codes "casez"
case_word K.X = codes "casex"

-- `case (on)`
abbrev pub case_head : VCaseKind → List Piece → List Piece
case_head kind on = word (case_word kind) ∷ space ∷ mark (codes "(") ∷ (on ++ mark (codes ")") ∷ [])

-- the items and `endcase`
abbrev pub case_items : ℕ → List Placed → List Piece
case_items depth items = lines (suc depth) (placed (suc depth) items) ++ line depth ∷ word (codes "endcase") ∷ []

abbrev pub branch_pieces : VBranch-F Placed Placed Placed → Placed
branch_pieces (VBranch-F.Statement s) depth = s depth
branch_pieces VBranch-F.Empty depth = mark (codes ";") ∷ []

abbrev pub case_pieces : VCaseItem-F Placed Placed Placed → Placed
case_pieces (VCaseItem-F.Item values body) depth = listed (map expr_layout values) ++ (mark (codes ":") ∷ space ∷ body depth)
case_pieces (VCaseItem-F.Default body) depth = word (codes "default") ∷ mark (codes ":") ∷ space ∷ body depth

abbrev pub stmt_pieces : VStmt-F Placed Placed Placed → Placed
stmt_pieces (VStmt-F.Block label ss) depth =
    word (codes "begin") ∷ (perhaps (label_layout (suc depth)) label ++ (lines (suc depth) (placed (suc depth) ss) ++ line depth ∷ word (codes "end") ∷ []))
stmt_pieces (VStmt-F.If on taken other) depth =
    word (codes "if") ∷ space ∷ mark (codes "(") ∷ (expr_layout on ++ mark (codes ")") ∷ space ∷ (taken depth ++ else_layout depth other))
stmt_pieces (VStmt-F.Case kind on items) depth =
    case_head kind (expr_layout on) ++ case_items depth items
stmt_pieces (VStmt-F.Assign target value later) depth = lval_layout target ++ (stored later (expr_layout value) ++ mark (codes ";") ∷ [])

abbrev pub stmt_layout : VStmt → Placed
stmt_layout = fold-VStmt Placed Placed Placed branch_pieces case_pieces stmt_pieces

abbrev pub case_layout : VCaseItem → Placed
case_layout = fold-VCaseItem Placed Placed Placed branch_pieces case_pieces stmt_pieces

abbrev pub branch_layout : VBranch → Placed
branch_layout = fold-VBranch Placed Placed Placed branch_pieces case_pieces stmt_pieces

-- `else other` on a line of its own, or nothing where there is no `else`
abbrev pub else_of : ℕ → Option VBranch → List Piece
else_of depth None = []
else_of depth (Some other) = line depth ∷ word (codes "else") ∷ space ∷ branch_layout other depth

abbrev pub edge_word : Bool → List ℕ
edge_word true = codes "posedge"
edge_word false = codes "negedge"

abbrev pub edge_layout : VEdge → List Piece
edge_layout e = word (edge_word e.rising) ∷ space ∷ name e.name ∷ []

-- ` or posedge b` for each edge behind the first
abbrev pub further_edges : List VEdge → List Piece
further_edges [] = []
further_edges (e ∷ es) = space ∷ word (codes "or") ∷ space ∷ (edge_layout e ++ further_edges es)

abbrev pub edges_layout : List VEdge → List Piece
edges_layout [] = []
edges_layout (e ∷ es) = edge_layout e ++ further_edges es

-- with the space behind it
abbrev pub sensitivity_layout : VSensitivity → List Piece
sensitivity_layout Star = mark (codes "*") ∷ space ∷ []
sensitivity_layout (Edges es) = mark (codes "(") ∷ (edges_layout es ++ mark (codes ")") ∷ space ∷ [])

abbrev pub number_layout : List Bit4 → List Piece
number_layout bits = number bits ∷ []

abbrev pub init_layout : VInit → List Piece
init_layout (V.Number bits) = number bits ∷ []
init_layout (V.Concat pieces) = mark (codes "{") ∷ (listed (map number_layout pieces) ++ mark (codes "}") ∷ [])

abbrev pub initial_layout : VInit → List Piece
initial_layout v = stored false (init_layout v)

-- ` [left:0]` or ` = value` behind the name of a `reg`
abbrev pub rest_layout : VRegRest → List Piece
rest_layout (R.Memory left) = space ∷ mark (codes "[") ∷ whole left ∷ mark (codes ":") ∷ whole 0 ∷ mark (codes "]") ∷ []
rest_layout (R.Initial v) = initial_layout v

abbrev pub signal_layout : VSignal → List Piece
signal_layout (Input range n) = declaration_layout (codes "input") range n []
signal_layout (Output range n) = declaration_layout (codes "output") range n []
signal_layout (OutputReg range n initial) = word (codes "output") ∷ space ∷ declaration_layout (codes "reg") range n (perhaps initial_layout initial)
signal_layout (Wire range n) = declaration_layout (codes "wire") range n []
signal_layout (Reg range n rest) = declaration_layout (codes "reg") range n (perhaps rest_layout rest)

abbrev pub at_zero_layout : VInitial → List Piece
at_zero_layout i = word (codes "initial") ∷ space ∷ name i.name ∷ (stored true (number i.value ∷ []) ++ mark (codes ";") ∷ [])

abbrev pub process_layout : VProcess → List Piece
process_layout (Assign target value) =
    word (codes "assign") ∷ space ∷ (lval_layout target ++ (stored false (expr_layout value) ++ mark (codes ";") ∷ []))
process_layout (Always on body) = word (codes "always") ∷ space ∷ mark (codes "@") ∷ (sensitivity_layout on ++ branch_layout body 1)

-- `function [left:0] name;` and the lines of its inputs and variables
abbrev pub function_head : VFunction → List Piece
function_head f =
    declaration_layout (codes "function") f.range f.name []
    ++ (lines 2 (map (local_layout (codes "input")) f.inputs) ++ lines 2 (map (local_layout (codes "reg")) f.locals))

abbrev pub function_layout : VFunction → List Piece
function_layout f = function_head f ++ line 2 ∷ (stmt_layout f.body 2 ++ line 1 ∷ word (codes "endfunction") ∷ [])

abbrev pub connection_layout : VConnection → List Piece
connection_layout c = mark (codes ".") ∷ name c.port ∷ mark (codes "(") ∷ (perhaps expr_layout c.value ++ mark (codes ")") ∷ [])

abbrev pub instance_layout : VInstance → List Piece
instance_layout i =
    name i.of ∷ space ∷ name i.name ∷ space ∷ mark (codes "(") ∷ (listed (map connection_layout i.connections) ++ mark (codes ")") ∷ mark (codes ";") ∷ [])

abbrev pub item_layout : VItem → List Piece
item_layout (I.Signal s) = signal_layout s
item_layout (I.Initial i) = at_zero_layout i
item_layout (I.Process p) = process_layout p
item_layout (I.Function f) = function_layout f
item_layout (I.Instance i) = instance_layout i

abbrev pub port_layout : List ℕ → List Piece
port_layout n = name n ∷ []

-- ` (a, b)`, or nothing without ports
abbrev pub ports_layout : List (List ℕ) → List Piece
ports_layout [] = []
ports_layout (n ∷ ns) = space ∷ mark (codes "(") ∷ (listed (map port_layout (n ∷ ns)) ++ mark (codes ")") ∷ [])

abbrev pub header_layout : VModule → List Piece
header_layout m = word (codes "module") ∷ space ∷ name m.name ∷ (ports_layout m.ports ++ mark (codes ";") ∷ [])

-- a module up to its last word
abbrev pub module_layout : VModule → List Piece
module_layout m = header_layout m ++ (lines 1 (map item_layout m.items) ++ line 0 ∷ word (codes "endmodule") ∷ [])

abbrev pub module_line : VModule → List Piece
module_line m = module_layout m ++ line 0 ∷ []

abbrev pub text_layout : VDesign → List Piece
text_layout d = in_turn (map module_line d.modules)

-- the text of a design
abbrev pub text_of : VDesign → List ℕ
text_of d = bytes_from false (text_layout d)
