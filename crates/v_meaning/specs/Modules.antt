-- The signals and processes of a design, by its tree of instances (IEEE 1364-2005 clauses 4, 6.1, 9.2, 9.7 and 12.3). Signals
-- are numbered in the preorder of the instances, and in each in the order of their declarations.
use Rattle.std.specs.Prelude.{ℕ, zero, suc, ◌+◌, Bool, false, List, [], ◌∷◌, ◌++◌, length, map, replicate, Option, Some, None, cond}
use Rattle.std.specs.Str.{bytes_eq}
use Rattle.b4_core.specs.declared.bit.Bit4.{Bit4}
use Rattle.b4_core.specs.declared.bit.Bit4.TheVariants.{X}
use Rattle.b4_core.specs.Vectors.{ext}
use Rattle.row_machine.specs.Places.{vector_at}
use Rattle.picks.specs.Windows.{whole, written}
use Rattle.v_tree.specs.Names.{Name}
use Rattle.v_tree.specs.declared.expressions.VExpr.{VExpr, VExpr-F, fold-VExpr}
use Rattle.v_tree.specs.declared.expressions.VPrim.{VPrim-F}
use Rattle.v_tree.specs.declared.expressions.VSel.{VSel-F}
use Rattle.v_tree.specs.declared.items.VConnection.{VConnection}
use Rattle.v_tree.specs.declared.items.VEdge.{VEdge}
use Rattle.v_tree.specs.declared.items.VFunction.{VFunction}
use Rattle.v_tree.specs.declared.items.VInit.{VInit}
use Rattle.v_tree.specs.declared.items.VInit.TheVariants as V
use Rattle.v_tree.specs.declared.items.VItem.{VItem}
use Rattle.v_tree.specs.declared.items.VItem.TheVariants as I
use Rattle.v_tree.specs.declared.items.VModule.{VModule}
use Rattle.v_tree.specs.declared.items.VProcess.{VProcess}
use Rattle.v_tree.specs.declared.items.VProcess.TheVariants.{Assign, Always}
use Rattle.v_tree.specs.declared.items.VRegRest.{VRegRest}
use Rattle.v_tree.specs.declared.items.VRegRest.TheVariants as R
use Rattle.v_tree.specs.declared.items.VSensitivity.TheVariants.{Star, Edges}
use Rattle.v_tree.specs.declared.items.VSignal.{VSignal}
use Rattle.v_tree.specs.declared.items.VSignal.TheVariants.{Input, Output, OutputReg, Wire, Reg}
use Rattle.v_meaning.specs.Scopes.{Named, Scope, bits_of_range, named, all_bits}
use Rattle.v_meaning.specs.Selects.{SelMeaning}
use Rattle.v_meaning.specs.Values.{Meaning, meaning, decimal_base}
use Rattle.v_meaning.specs.Statements.{Target, target, name_target, joined_target, Doing, doing_of, assignment}
use Rattle.v_meaning.specs.Functions.{callees}

-- how a signal is declared: as an input, as another net, or as a variable (clauses 4.2 and 12.3.3)
pub data Kind : Type 0 where
  input_net : Kind
  net : Kind
  variable : Kind

-- a declared signal, and what it holds before the first row
pub record Signal : Type 0 where
  pub name : Name
  pub width : ℕ
  pub words : Option ℕ
  pub kind : Kind
  pub initial : List Bit4

-- the numbers of a concatenation, the first most significant
abbrev pub numbers : List (List Bit4) → List Bit4
numbers [] = []
numbers (v ∷ vs) = numbers vs ++ v

abbrev pub bits_of_init : VInit → List Bit4
bits_of_init (V.Number v) = v
bits_of_init (V.Concat vs) = numbers vs

-- A signal without a declared value holds x before the first row: a variable by clause 4.2.2, a net by this model's choice.
abbrev pub vector : Option ℕ → Name → Kind → Signal
vector range name kind =
    let w = bits_of_range range in record { name = name; width = w; words = None; kind = kind; initial = replicate w X }

abbrev pub valued : Option ℕ → Name → VInit → Signal
valued range name init = record (vector range name variable) { initial = bits_of_init init }

abbrev pub valued_or_not : Option ℕ → Name → Option VInit → Signal
valued_or_not range name None = vector range name variable
valued_or_not range name (Some init) = valued range name init

-- `reg`, also as a memory of left + 1 words
abbrev pub reg_of : Option ℕ → Name → Option VRegRest → Signal
reg_of range name None = vector range name variable
reg_of range name (Some (R.Initial init)) = valued range name init
reg_of range name (Some (R.Memory left)) = record (vector range name variable) { words = Some (left + 1) }

abbrev pub signal : VSignal → Signal
signal (Input range name) = vector range name input_net
signal (Output range name) = vector range name net
signal (OutputReg range name init) = valued_or_not range name init
signal (Wire range name) = vector range name net
signal (Reg range name rest) = reg_of range name rest

abbrev pub signals : List VItem → List Signal
signals [] = []
signals (I.Signal s ∷ rest) = signal s ∷ signals rest
signals (I.Initial i ∷ rest) = signals rest
signals (I.Process p ∷ rest) = signals rest
signals (I.Function f ∷ rest) = signals rest
signals (I.Instance i ∷ rest) = signals rest

abbrev pub functions : List VItem → List VFunction
functions [] = []
functions (I.Signal s ∷ rest) = functions rest
functions (I.Initial i ∷ rest) = functions rest
functions (I.Process p ∷ rest) = functions rest
functions (I.Function f ∷ rest) = f ∷ functions rest
functions (I.Instance i ∷ rest) = functions rest

-- the signals by their names, numbered from n on
abbrev pub numbered : ℕ → List Signal → List Named
numbered n [] = []
numbered n (s ∷ ss) = record { name = s.name; number = n; width = s.width; words = s.words } ∷ numbered (suc n) ss

-- the module with a name; an absent one has no items
abbrev pub items_of : List VModule → Name → List VItem
items_of [] name = []
items_of (m ∷ ms) name = cond (bytes_eq m.name name) m.items (items_of ms name)

-- what a module's names stand for in an instance whose signals are numbered from n on
abbrev pub scope_of : ℕ → List VItem → Scope
scope_of n items =
    let names = numbered n (signals items) in
    record { names = names; next = 0; callee = callees names (functions items) }

-- how a process runs: as a continuous assignment or connection, an `always @*`, or an `always` with edges, each on a signal
pub record EdgeOn : Type 0 where
  pub rising : Bool
  pub signal : ℕ

pub data Starts : Type 0 where
  always_on : Starts
  on_change : Starts
  on_edges : List EdgeOn → Starts

-- a process in an instance
pub record Process : Type 0 where
  pub starts : Starts
  pub scope : Scope
  pub does : Doing

-- `initial name <= value;`, and the signal
pub record InitialValue : Type 0 where
  pub number : ℕ
  pub value : List Bit4

-- the signals of an instance and of those in it, what is in them, in the same order: an instance's own first
pub record Parts : Type 0 where
  pub signals : List Signal
  pub processes : List Process
  pub initials : List InitialValue

abbrev pub edge_on : Scope → VEdge → EdgeOn
edge_on sc e = record { rising = e.rising; signal = (named sc.names e.name).number }

abbrev pub process_of : Scope → VProcess → Process
process_of sc (Assign to value) = record { starts = always_on; scope = sc; does = assignment false (target to) (meaning value) }
process_of sc (Always Star body) = record { starts = on_change; scope = sc; does = doing_of body }
process_of sc (Always (Edges es) body) = record { starts = on_edges (map (edge_on sc) es); scope = sc; does = doing_of body }

-- the port of a child as the target of a connection, and as its value (clause 12.3.9)
abbrev pub port_target : Named → Target
port_target n = record {
  width = λ sc. all_bits n;
  puts = λ sc v bits. written n.number (whole (all_bits n)) bits;
  writes = λ sc. record { number = n.number; low = 0; high = all_bits n } ∷ [];
  names = λ sc. [];
  reads = λ sc. [];
}

abbrev pub port_value : Named → Meaning
port_value n = record {
  width = λ sc. all_bits n;
  signed = false;
  value = λ w s sc v. ext w s (vector_at v n.number (all_bits n));
  constant = λ sc. false;
  names = λ sc. n.number ∷ [];
  reads = λ sc. record { number = n.number; low = 0; high = all_bits n } ∷ [];
}

-- An expression that is connected to an output is a name with decimal selects, or a concatenation of such. What else is
-- connected to one is no target; no such text is a design.
abbrev pub all_some : {A : Type 0} → List (Option A) → Option (List A)
all_some [] = Some []
all_some (None ∷ xs) = None
all_some (Some x ∷ xs) = elim (all_some xs) [ None ↦ None | Some ys ↦ Some (x ∷ ys) ]

abbrev pub over : {A B : Type 0} → (A → B) → Option A → Option B
over f None = None
over f (Some x) = Some (f x)

abbrev pub connected_sel : VSel-F (Option Target) (Option Target) (Option SelMeaning) → Option SelMeaning
connected_sel (VSel-F.Decimal base extent) = Some (decimal_base base extent)
connected_sel (VSel-F.Expr base extent) = None

abbrev pub connected_prim : VPrim-F (Option Target) (Option Target) (Option SelMeaning) → Option Target
connected_prim (VPrim-F.Number bits) = None
connected_prim (VPrim-F.Paren inner) = None
connected_prim (VPrim-F.Name name sels) = over (name_target name) (all_some sels)
connected_prim (VPrim-F.Call function args) = None
connected_prim (VPrim-F.Repeat count items) = None
connected_prim (VPrim-F.Concat items) = over joined_target (all_some items)
connected_prim (VPrim-F.Sign signed of) = None

abbrev pub connected_expr : VExpr-F (Option Target) (Option Target) (Option SelMeaning) → Option Target
connected_expr (VExpr-F.Prim a) = a
connected_expr (VExpr-F.Unary op a) = None
connected_expr (VExpr-F.Binary op a b) = None
connected_expr (VExpr-F.Choose on a b) = None

abbrev pub as_target : VExpr → Option Target
as_target = fold-VExpr (Option Target) (Option Target) (Option SelMeaning) connected_expr connected_prim connected_sel

-- a connection in a scope, to a port of a child: a continuous assignment into an input, or from an output
abbrev pub driving : Scope → Target → Meaning → List Process
driving sc to value = record { starts = always_on; scope = sc; does = assignment false to value } ∷ []

abbrev pub from_output : Scope → Named → Option Target → List Process
from_output sc port None = []
from_output sc port (Some to) = driving sc to (port_value port)

abbrev pub connect : Scope → Kind → Named → VExpr → List Process
connect sc input_net port e = driving sc (port_target port) (meaning e)
connect sc net port e = from_output sc port (as_target e)
connect sc variable port e = from_output sc port (as_target e)

-- how a name is declared
abbrev pub kind_of : List Signal → Name → Kind
kind_of [] name = net
kind_of (s ∷ ss) name = cond (bytes_eq s.name name) s.kind (kind_of ss name)

-- the connections of a child whose signals are numbered from n on; an open port has none
abbrev pub connections : Scope → ℕ → List Signal → List VConnection → List Process
connections sc n ports [] = []
connections sc n ports (c ∷ cs) =
    elim c.value [ None ↦ [] | Some e ↦ connect sc (kind_of ports c.port) (named (numbered n ports) c.port) e ] ++ connections sc n ports cs

-- how many signals an instance of a module and those in it have together, instances being so deep; first those of all children
abbrev pub below : (Name → ℕ) → List VItem → ℕ
below count [] = 0
below count (I.Signal s ∷ rest) = below count rest
below count (I.Initial i ∷ rest) = below count rest
below count (I.Process p ∷ rest) = below count rest
below count (I.Function f ∷ rest) = below count rest
below count (I.Instance i ∷ rest) = count i.of + below count rest

unfoldable pub signal_count : ℕ → List VModule → Name → ℕ
signal_count zero ms name = 0
signal_count (suc depth) ms name = length (signals (items_of ms name)) + below (signal_count depth ms) (items_of ms name)

-- an instance in a module, and the number of its first signal
pub record Child : Type 0 where
  pub of : Name
  pub first : ℕ

-- the children, behind each other, from number n on
abbrev pub children : (Name → ℕ) → ℕ → List VItem → List Child
children count n [] = []
children count n (I.Signal s ∷ rest) = children count n rest
children count n (I.Initial i ∷ rest) = children count n rest
children count n (I.Process p ∷ rest) = children count n rest
children count n (I.Function f ∷ rest) = children count n rest
children count n (I.Instance i ∷ rest) = record { of = i.of; first = n } ∷ children count (n + count i.of) rest

-- the processes of an instance in the order of the text; the connections of a child stand where the child stands
abbrev pub processes : List VModule → (Name → ℕ) → Scope → ℕ → List VItem → List Process
processes ms count sc n [] = []
processes ms count sc n (I.Signal s ∷ rest) = processes ms count sc n rest
processes ms count sc n (I.Initial i ∷ rest) = processes ms count sc n rest
processes ms count sc n (I.Process p ∷ rest) = process_of sc p ∷ processes ms count sc n rest
processes ms count sc n (I.Function f ∷ rest) = processes ms count sc n rest
processes ms count sc n (I.Instance i ∷ rest) = connections sc n (signals (items_of ms i.of)) i.connections ++ processes ms count sc (n + count i.of) rest

abbrev pub initials : Scope → List VItem → List InitialValue
initials sc [] = []
initials sc (I.Signal s ∷ rest) = initials sc rest
initials sc (I.Initial i ∷ rest) = record { number = (named sc.names i.name).number; value = i.value } ∷ initials sc rest
initials sc (I.Process p ∷ rest) = initials sc rest
initials sc (I.Function f ∷ rest) = initials sc rest
initials sc (I.Instance i ∷ rest) = initials sc rest

abbrev pub no_parts : Parts
no_parts = record { signals = []; processes = []; initials = [] }

abbrev pub joined_parts : List Parts → Parts
joined_parts [] = no_parts
joined_parts (p ∷ ps) =
    let q = joined_parts ps in
    record { signals = p.signals ++ q.signals; processes = p.processes ++ q.processes; initials = p.initials ++ q.initials }

-- an instance's own parts
abbrev pub own_parts : List VModule → (Name → ℕ) → ℕ → List VItem → Parts
own_parts ms count n items =
    let sc = scope_of n items in
    record {
      signals = signals items;
      processes = processes ms count sc (n + length (signals items)) items;
      initials = initials sc items;
    }

-- the parts of an instance of a module whose signals are numbered from n on, and of those in it
unfoldable pub parts_from : ℕ → List VModule → ℕ → Name → Parts
parts_from zero ms n name = no_parts
parts_from (suc depth) ms n name =
    let items = items_of ms name in
    let count = signal_count depth ms in
    joined_parts (own_parts ms count n items ∷ map (λ (c : Child). parts_from depth ms c.first c.of) (children count (n + length (signals items)) items))

-- Modules aren't recursive, so instances are no deeper than there are modules.
abbrev pub parts : List VModule → Name → Parts
parts ms top = parts_from (length ms) ms 0 top
