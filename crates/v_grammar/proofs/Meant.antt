-- What each head of the grammar means, and what is known of it.
use Rattle.std.proofs.Common.{◌≡◌, ◌≤◌, ◌-◌, ℕ, zero, suc, Bool, true, false, nat_le, List, [], ◌∷◌, ◌++◌, length, map, get_or, Option, refl, sym, subst}
use Rattle.std.specs.List.{list_all}
use Rattle.b4_core.specs.declared.bit.Bit4.{Bit4}
use Rattle.ll_engine.specs.declared.table.Part.{Part}
use Rattle.ll_engine.specs.declared.table.Part.TheVariants.{Term, Non, Maybe, Many, Chain}
use Rattle.ll_engine.specs.declared.table.Row.{Row}
use Rattle.ll_engine.specs.Grammar.{IsBegun}
use Rattle.ll_engine.specs.Reading.{inside}
use Rattle.v_tree.specs.declared.expressions.VExpr.{VExpr}
use Rattle.v_tree.specs.declared.expressions.VExtent.{VExtent}
use Rattle.v_tree.specs.declared.expressions.VPrim.{VPrim}
use Rattle.v_tree.specs.declared.expressions.VSel.{VSel}
use Rattle.v_tree.specs.declared.items.VConnection.{VConnection}
use Rattle.v_tree.specs.declared.items.VEdge.{VEdge}
use Rattle.v_tree.specs.declared.items.VInit.{VInit}
use Rattle.v_tree.specs.declared.items.VItem.{VItem}
use Rattle.v_tree.specs.declared.items.VLocal.{VLocal}
use Rattle.v_tree.specs.declared.items.VModule.{VModule}
use Rattle.v_tree.specs.declared.items.VRegRest.{VRegRest}
use Rattle.v_tree.specs.declared.items.VSensitivity.{VSensitivity}
use Rattle.v_tree.specs.declared.operators.VBinaryOp.{VBinaryOp}
use Rattle.v_tree.specs.declared.operators.VUnaryOp.{VUnaryOp}
use Rattle.v_tree.specs.declared.parts.VPart.{VPart}
use Rattle.v_tree.specs.declared.parts.VPart.TheVariants as P
use Rattle.v_tree.specs.declared.statements.VBranch.{VBranch}
use Rattle.v_tree.specs.declared.statements.VCaseItem.{VCaseItem}
use Rattle.v_tree.specs.declared.statements.VCaseKind.{VCaseKind}
use Rattle.v_tree.specs.declared.statements.VLabel.{VLabel}
use Rattle.v_tree.specs.declared.statements.VLval.{VLval}
use Rattle.v_tree.specs.declared.statements.VStmt.{VStmt}
use Rattle.v_tree.specs.Grammatical.{Fit, all_fit, deepest, Form, all_of_form, deepest_form, one_default, has_some, fit, fit_of_sel, fit_of_lval, form_of_stmt, form_of_branch, is_number, is_decimal, is_extent, is_local, is_label, is_init, is_rest, is_sensitivity, is_connection, is_item, is_module}
use Rattle.v_tree.specs.Heads as head
use Rattle.v_tree.specs.Reading.{nesting_limit}
use Rattle.v_tree.specs.Table.{table}
use Rattle.v_tree.specs.Tokens.{is_name}
use Rattle.v_tree.proofs.Fits.{fit_of_prim, form_of_case}
use Rattle.v_tree.proofs.Induction.{Each}

pub data Kind : Type 0 where
  text : Kind
  a_module : Kind
  ports : Kind
  name : Kind
  number : Kind
  item : Kind
  rest : Kind
  initial : Kind
  input : Kind
  local : Kind
  range : Kind
  bound : Kind
  event : Kind
  edge : Kind
  connections : Kind
  connection : Kind
  branch : Kind
  stmt : Kind
  label : Kind
  otherwise : Kind
  case_kind : Kind
  case_items : Kind
  case_item : Kind
  case_default : Kind
  later : Kind
  lval : Kind
  sels : Kind
  sel : Kind
  base : Kind
  extent : Kind
  expr : Kind
  tail : Kind
  prim : Kind
  behind_name : Kind
  brace : Kind
  sign : Kind
  unary : Kind
  binary : Kind

-- the base of a select
pub data Base : Type 0 where
  fixed : (n : ℕ) → Base
  moving : (x : VExpr) → Base

abbrev pub base_part : Base → VPart
base_part (Base.fixed n) = P.Decimal n
base_part (Base.moving x) = P.Expr x

-- what stands behind the first primary of an expression
pub data Tail : Type 0 where
  right : (op : VBinaryOp) (a : VPrim) → Tail
  arms : (a b : VPrim) → Tail

abbrev pub tail_part : Tail → VPart
tail_part (Tail.right op a) = P.Right op a
tail_part (Tail.arms a b) = P.Arms a b

-- what stands behind a name
pub data Behind : Type 0 where
  args : (xs : List VExpr) → Behind
  sels : (ss : List VSel) → Behind

abbrev pub behind_part : Behind → VPart
behind_part (Behind.args xs) = P.Args xs
behind_part (Behind.sels ss) = P.Sels ss

-- what a part of the kind is made of
abbrev pub Payload : Kind → Type 0
Payload Kind.text = List VModule
Payload Kind.a_module = VModule
Payload Kind.ports = List (List ℕ)
Payload Kind.name = List ℕ
Payload Kind.number = List Bit4
Payload Kind.item = VItem
Payload Kind.rest = VRegRest
Payload Kind.initial = VInit
Payload Kind.input = VLocal
Payload Kind.local = VLocal
Payload Kind.range = ℕ
Payload Kind.bound = ℕ
Payload Kind.event = VSensitivity
Payload Kind.edge = VEdge
Payload Kind.connections = List VConnection
Payload Kind.connection = VConnection
Payload Kind.branch = VBranch
Payload Kind.stmt = VStmt
Payload Kind.label = VLabel
Payload Kind.otherwise = VBranch
Payload Kind.case_kind = VCaseKind
Payload Kind.case_items = List VCaseItem
Payload Kind.case_item = VCaseItem
Payload Kind.case_default = VCaseItem
Payload Kind.later = Bool
Payload Kind.lval = VLval
Payload Kind.sels = List VSel
Payload Kind.sel = VSel
Payload Kind.base = Base
Payload Kind.extent = VExtent
Payload Kind.expr = VExpr
Payload Kind.tail = Tail
Payload Kind.prim = VPrim
Payload Kind.behind_name = Behind
Payload Kind.brace = VPrim
Payload Kind.sign = Bool
Payload Kind.unary = VUnaryOp
Payload Kind.binary = VBinaryOp

abbrev pub make : (k : Kind) → Payload k → VPart
make Kind.text x = P.Text x
make Kind.a_module x = P.Module x
make Kind.ports x = P.Ports x
make Kind.name x = P.Name x
make Kind.number x = P.Number x
make Kind.item x = P.Item x
make Kind.rest x = P.RegRest x
make Kind.initial x = P.Initial x
make Kind.input x = P.Input x
make Kind.local x = P.Local x
make Kind.range x = P.Range x
make Kind.bound x = P.Decimal x
make Kind.event x = P.Event x
make Kind.edge x = P.Edge x
make Kind.connections x = P.Connections x
make Kind.connection x = P.Connection x
make Kind.branch x = P.Branch x
make Kind.stmt x = P.Stmt x
make Kind.label x = P.Label x
make Kind.otherwise x = P.Else x
make Kind.case_kind x = P.CaseKind x
make Kind.case_items x = P.CaseItems x
make Kind.case_item x = P.CaseItem x
make Kind.case_default x = P.CaseItem x
make Kind.later x = P.Later x
make Kind.lval x = P.Lval x
make Kind.sels x = P.Sels x
make Kind.sel x = P.Sel x
make Kind.base x = base_part x
make Kind.extent x = P.Extent x
make Kind.expr x = P.Expr x
make Kind.tail x = tail_part x
make Kind.prim x = P.Prim x
make Kind.behind_name x = behind_part x
make Kind.brace x = P.Prim x
make Kind.sign x = P.Sign x
make Kind.unary x = P.UnaryOp x
make Kind.binary x = P.BinaryOp x

-- What fits where nesting is `e`: it is of the grammar, and nests no deeper than the limit from there.
pub record FitsAt (e : ℕ) (f : Fit) : Type 0 where
  pub fits : f.fits ≡ true
  pub depth : f.depth ≤ nesting_limit - e

pub record AllAt (e : ℕ) (fs : List Fit) : Type 0 where
  pub fits : all_fit fs ≡ true
  pub depth : deepest fs ≤ nesting_limit - e

-- a primary, which has a token where it stands
pub record PrimAt (e : ℕ) (f : Fit) : Type 0 where
  pub fits : f.fits ≡ true
  pub depth : f.depth ≤ nesting_limit - e
  pub room : e ≤ nesting_limit

-- no `else` can come behind these tokens
abbrev pub NoElse : Option ℕ → Type 0
NoElse y = IsBegun table (Maybe head.else_branch ∷ []) y → ⊥

-- a statement: an `else` behind it would have been its own
pub record FormAt (e : ℕ) (y : Option ℕ) (f : Form) : Type 0 where
  pub fits : f.fits ≡ true
  pub depth : f.depth ≤ nesting_limit - e
  pub closes : IsBegun table (Maybe head.else_branch ∷ []) y → f.closed ≡ true

-- an item of a `case`
pub record CaseAt (e : ℕ) (default : Bool) (f : Form) : Type 0 where
  pub fits : f.fits ≡ true
  pub depth : f.depth ≤ nesting_limit - e
  pub which : f.default ≡ default

pub record CasesAt (e : ℕ) (fs : List Form) : Type 0 where
  pub some : has_some fs ≡ true
  pub one : one_default fs ≡ true
  pub fits : all_of_form fs ≡ true
  pub depth : deepest_form fs ≤ nesting_limit - e

pub record SelsAt (e : ℕ) (ss : List VSel) : Type 0 where
  pub few : nat_le (length ss) 2 ≡ true
  pub each : AllAt e (map fit_of_sel ss)

pub record ArgsAt (e : ℕ) (fs : List Fit) : Type 0 where
  pub some : has_some fs ≡ true
  pub each : AllAt e fs

pub record ArmsAt (e : ℕ) (a b : Fit) : Type 0 where
  pub left : PrimAt e a
  pub right : PrimAt e b

abbrev pub BaseAt : ℕ → Base → Type 0
BaseAt e (Base.fixed n) = is_decimal n ≡ true
BaseAt e (Base.moving x) = FitsAt e (fit x)

abbrev pub TailAt : ℕ → Tail → Type 0
TailAt e (Tail.right op a) = PrimAt e (fit_of_prim a)
TailAt e (Tail.arms a b) = ArmsAt e (fit_of_prim a) (fit_of_prim b)

abbrev pub BehindAt : ℕ → Behind → Type 0
BehindAt e (Behind.args xs) = ArgsAt e (map fit xs)
BehindAt e (Behind.sels ss) = SelsAt e ss

-- what is known of a part of the kind where nesting is `e` and the token `y` comes behind it
abbrev pub Holds : (k : Kind) → ℕ → Option ℕ → Payload k → Type 0
Holds Kind.text e y x = list_all is_module x ≡ true
Holds Kind.a_module e y x = is_module x ≡ true
Holds Kind.ports e y x = list_all is_name x ≡ true
Holds Kind.name e y x = is_name x ≡ true
Holds Kind.number e y x = is_number x ≡ true
Holds Kind.item e y x = is_item x ≡ true
Holds Kind.rest e y x = is_rest x ≡ true
Holds Kind.initial e y x = is_init x ≡ true
Holds Kind.input e y x = is_local x ≡ true
Holds Kind.local e y x = is_local x ≡ true
Holds Kind.range e y x = is_decimal x ≡ true
Holds Kind.bound e y x = is_decimal x ≡ true
Holds Kind.event e y x = is_sensitivity x ≡ true
Holds Kind.edge e y x = is_name x.name ≡ true
Holds Kind.connections e y x = list_all is_connection x ≡ true
Holds Kind.connection e y x = is_connection x ≡ true
Holds Kind.branch e y x = FormAt e y (form_of_branch x)
Holds Kind.stmt e y x = FormAt e y (form_of_stmt x)
Holds Kind.label e y x = is_label x ≡ true
Holds Kind.otherwise e y x = FormAt e y (form_of_branch x)
Holds Kind.case_kind e y x = Unit {0}
Holds Kind.case_items e y x = CasesAt e (map form_of_case x)
Holds Kind.case_item e y x = CaseAt e false (form_of_case x)
Holds Kind.case_default e y x = CaseAt e true (form_of_case x)
Holds Kind.later e y x = Unit {0}
Holds Kind.lval e y x = FitsAt e (fit_of_lval x)
Holds Kind.sels e y x = SelsAt e x
Holds Kind.sel e y x = FitsAt e (fit_of_sel x)
Holds Kind.base e y x = BaseAt e x
Holds Kind.extent e y x = is_extent x ≡ true
Holds Kind.expr e y x = FitsAt e (fit x)
Holds Kind.tail e y x = TailAt e x
Holds Kind.prim e y x = PrimAt e (fit_of_prim x)
Holds Kind.behind_name e y x = BehindAt e x
Holds Kind.brace e y x = FitsAt e (fit_of_prim x)
Holds Kind.sign e y x = Unit {0}
Holds Kind.unary e y x = e ≤ nesting_limit
Holds Kind.binary e y x = Unit {0}

-- by the heads' numbers
abbrev pub kinds : List Kind
kinds =
    Kind.text ∷ Kind.a_module ∷ Kind.ports ∷ Kind.name ∷ Kind.item ∷ Kind.item ∷ Kind.rest ∷ Kind.rest ∷ Kind.initial ∷
    Kind.initial ∷ Kind.number ∷ Kind.input ∷ Kind.local ∷ Kind.range ∷ Kind.bound ∷ Kind.event ∷ Kind.edge ∷ Kind.edge ∷
    Kind.connections ∷ Kind.connection ∷ Kind.connection ∷ Kind.branch ∷ Kind.stmt ∷ Kind.label ∷ Kind.otherwise ∷
    Kind.case_kind ∷ Kind.case_items ∷ Kind.case_items ∷ Kind.case_item ∷ Kind.case_default ∷ Kind.expr ∷ Kind.later ∷
    Kind.lval ∷ Kind.lval ∷ Kind.sels ∷ Kind.sel ∷ Kind.base ∷ Kind.extent ∷ Kind.expr ∷ Kind.tail ∷ Kind.prim ∷
    Kind.behind_name ∷ Kind.brace ∷ Kind.sign ∷ Kind.unary ∷ Kind.binary ∷ []

abbrev pub kind_of : ℕ → Kind
kind_of h = get_or kinds h Kind.text

-- a part of the kind, where nesting is `e` and the token `y` comes behind it
pub record Good (k : Kind) (e : ℕ) (y : Option ℕ) (v : VPart) : Type 0 where
  pub of : Payload k
  pub is : v ≡ make k of
  pub holds : Holds k e y of

abbrev pub All : Kind → ℕ → Option ℕ → (VPart → Type 0) → Type 0
All k e y C = (x : Payload k) → Holds k e y x → C (make k x)

pub of-good : (k : Kind) (e : ℕ) (y : Option ℕ) (C : VPart → Type 0) (v : VPart) → Good k e y v → All k e y C → C v
of-good k e y C v good f = subst C (sym good.is) (f good.of good.holds)

pub made : (k : Kind) (e : ℕ) (y : Option ℕ) (x : Payload k) → Holds k e y x → Good k e y (make k x)
made k e y x h = record { of = x; is = refl; holds = h }

-- one of a repeated part
pub record Turn (k : Kind) (e : ℕ) (x : Payload k) : Type 0 where
  pub after : Option ℕ
  pub holds : Holds k e after x

-- a token, by its symbol
abbrev pub OfToken : ℕ → (VPart → Type 0) → Type 0
OfToken zero C = C P.Nothing
OfToken (suc zero) C = (n : List ℕ) → is_name n ≡ true → C (P.Name n)
OfToken (suc (suc zero)) C = (bits : List Bit4) → is_number bits ≡ true → C (P.Number bits)
OfToken (suc (suc (suc zero))) C = (n : ℕ) → is_decimal n ≡ true → C (P.Decimal n)
OfToken (suc (suc (suc (suc zero)))) C = (n : ℕ) → is_decimal n ≡ true → C (P.Decimal n)
OfToken (suc (suc (suc (suc (suc a))))) C = C P.Nothing

-- `Gives k d e y ps x f`: whatever the parts `ps` of a row read where nesting is `e`, from the token `x` up to the token `y`,
-- with it the row means a part of the kind where nesting is `d`.
abbrev pub Gives : Kind → ℕ → ℕ → Option ℕ → List Part → Option ℕ → (List VPart → VPart) → Type 0
Gives k d e y [] x f = x ≡ y → Good k d y (f [])
Gives k d e y (Term a ∷ ps) x f = (m : Option ℕ) → e ≤ nesting_limit → OfToken a (λ v. Gives k d e y ps m (λ us. f (v ∷ us)))
Gives k d e y (Non h ∷ ps) x f = (m : Option ℕ) → All (kind_of h) e m (λ v. Gives k d e y ps m (λ us. f (v ∷ us)))
Gives k d e y (Maybe h ∷ ps) x f =
    (IsBegun table (Maybe h ∷ []) x → (m : Option ℕ) → All (kind_of h) e m (λ v. Gives k d e y ps m (λ us. f (v ∷ us))))
    × ((IsBegun table (Maybe h ∷ []) x → ⊥) → Gives k d e y ps x f)
Gives k d e y (Many h ∷ ps) x f =
    (xs : List (Payload (kind_of h))) → Each (Turn (kind_of h) e) xs → (m : Option ℕ) → Gives k d e y ps m (λ us. f (map (make (kind_of h)) xs ++ us))
Gives k d e y (Chain h ∷ ps) x f = ⊥

-- what the row means is of its head's kind
abbrev pub RowGives : Row → (List VPart → VPart) → Type 0
RowGives row f = (d : ℕ) (x y : Option ℕ) → Gives (kind_of row.head) d (inside suc row d) y row.parts x f
