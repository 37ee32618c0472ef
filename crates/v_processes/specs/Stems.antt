-- The text that processes stem from.
use Rattle.std.specs.Prelude.{ℕ, zero, suc, ◌+◌, Bool, true, false, List, [], ◌∷◌, ◌++◌, length, map, Option, Some, None}
use Rattle.std.specs.List.{list_all}
use Rattle.v_tree.specs.Names.{Name}
use Rattle.v_tree.specs.declared.expressions.VExpr.{VExpr}
use Rattle.v_tree.specs.declared.expressions.VSel.{VSel, VSel-F, fold-VSel}
use Rattle.v_tree.specs.declared.items.VConnection.{VConnection}
use Rattle.v_tree.specs.declared.items.VItem.{VItem}
use Rattle.v_tree.specs.declared.items.VItem.TheVariants as I
use Rattle.v_tree.specs.declared.items.VModule.{VModule}
use Rattle.v_tree.specs.declared.items.VProcess.{VProcess}
use Rattle.v_tree.specs.declared.items.VProcess.TheVariants.{Assign, Always}
use Rattle.v_tree.specs.declared.statements.VBranch.{VBranch}
use Rattle.v_tree.specs.declared.statements.VLval.{VLval, VLval-F, fold-VLval}
use Rattle.v_meaning.specs.Scopes.{Named, named, all_bits}
use Rattle.v_meaning.specs.Statements.{Target}
use Rattle.v_meaning.specs.Modules.{Signal, Kind, input_net, net, variable, signals, items_of, numbered, kind_of, as_target, signal_count}
use Rattle.v_processes.specs.declared.process.Does.{Does}
use Rattle.v_processes.specs.declared.process.Does.TheVariants as D
use Rattle.v_processes.specs.declared.process.Proc.{Proc}
use Rattle.v_processes.specs.Processes.{items_at}

-- all selects of a target have decimal bases
abbrev pub sel_decimal : VSel-F Bool Bool Bool → Bool
sel_decimal (VSel-F.Decimal base extent) = true
sel_decimal (VSel-F.Expr base extent) = false

abbrev pub is_decimal_sel : VSel → Bool
is_decimal_sel = fold-VSel Bool Bool Bool (λ e. false) (λ p. false) sel_decimal

abbrev pub lval_decimal : VLval-F Bool → Bool
lval_decimal (VLval-F.Name name sels) = list_all is_decimal_sel sels
lval_decimal (VLval-F.Concat parts) = list_all (λ b. b) parts

abbrev pub is_decimal : VLval → Bool
is_decimal = fold-VLval Bool lval_decimal

-- What a process does, by its text: an assignment of a value, the body of an `always`, what is connected to an input of a child,
-- by the number of its signal and how many bits it has, or to an output, with decimal selects alone or not.
pub data Stem : Type 0 where
  assigned : VLval → VExpr → Stem
  running : VBranch → Stem
  given : ℕ → ℕ → VExpr → Stem
  taken : Bool → Stem

-- a process among the items of a module
pub record Source : Type 0 where
  pub items : List VItem
  pub stem : Stem

abbrev pub stem_of : Does → Stem
stem_of (D.Assign to value) = assigned to.now value.now
stem_of (D.Star body) = running body.now
stem_of (D.Edges edges body) = running body.now
stem_of (D.Into port value) = given port.number port.bits value.now
stem_of (D.From to port) = taken (is_decimal to)

abbrev pub source_at : List VModule → Proc → Source
source_at ms p = record { items = items_at ms p.of; stem = stem_of p.does }

abbrev pub sources_at : List VModule → List Proc → List Source
sources_at ms ps = map (source_at ms) ps

abbrev pub process_stem : VProcess → Stem
process_stem (Assign to value) = assigned to value
process_stem (Always on body) = running body

-- a process of a module of these items
abbrev pub process_source : List VItem → VProcess → Source
process_source is p = record { items = is; stem = process_stem p }

-- an expression that is connected to an output, where it is a target
abbrev pub taken_by : List VItem → Option Target → List Source
taken_by is None = []
taken_by is (Some to) = record { items = is; stem = taken true } ∷ []

-- what is connected to a port of a child
abbrev pub link_source : List VItem → Kind → Named → VExpr → List Source
link_source is input_net port e = record { items = is; stem = given port.number (all_bits port) e } ∷ []
link_source is net port e = taken_by is (as_target e)
link_source is variable port e = taken_by is (as_target e)

-- the connections of a child whose signals are numbered from n on
abbrev pub link_sources : List VItem → ℕ → List Signal → List VConnection → List Source
link_sources is n ports [] = []
link_sources is n ports (c ∷ cs) =
    elim c.value [ None ↦ [] | Some e ↦ link_source is (kind_of ports c.port) (named (numbered n ports) c.port) e ] ++ link_sources is n ports cs

-- the processes of an instance, its first child's signals being numbered from n on: those among items of the module's
abbrev pub own_sources : List VModule → (Name → ℕ) → List VItem → ℕ → List VItem → List Source
own_sources ms count is n [] = []
own_sources ms count is n (I.Signal s ∷ rest) = own_sources ms count is n rest
own_sources ms count is n (I.Initial i ∷ rest) = own_sources ms count is n rest
own_sources ms count is n (I.Process p ∷ rest) = process_source is p ∷ own_sources ms count is n rest
own_sources ms count is n (I.Function f ∷ rest) = own_sources ms count is n rest
own_sources ms count is n (I.Instance i ∷ rest) = link_sources is n (signals (items_of ms i.of)) i.connections ++ own_sources ms count is (n + count i.of) rest

-- the processes of the children among items, each child's with those of the instances in it
abbrev pub child_sources : (ℕ → Name → List Source) → (Name → ℕ) → ℕ → List VItem → List Source
child_sources below count n [] = []
child_sources below count n (I.Signal s ∷ rest) = child_sources below count n rest
child_sources below count n (I.Initial i ∷ rest) = child_sources below count n rest
child_sources below count n (I.Process p ∷ rest) = child_sources below count n rest
child_sources below count n (I.Function f ∷ rest) = child_sources below count n rest
child_sources below count n (I.Instance i ∷ rest) = below n i.of ++ child_sources below count (n + count i.of) rest

-- the processes of an instance of a module whose signals are numbered from n on, and of those in it
unfoldable pub sources_from : ℕ → List VModule → ℕ → Name → List Source
sources_from zero ms n name = []
sources_from (suc depth) ms n name =
    let items = items_of ms name in
    let count = signal_count depth ms in
    let next = n + length (signals items) in
    own_sources ms count items next items ++ child_sources (sources_from depth ms) count next items

-- the processes of a design, in the order of those that it means
abbrev pub sources : List VModule → Name → List Source
sources ms top = sources_from (length ms) ms 0 top
