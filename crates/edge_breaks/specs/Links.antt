-- Connections of plain names, by what is found of processes.
use Rattle.std.specs.Prelude.{ℕ, suc, ◌/◌, ◌^◌, ◌==◌, nat_lt, Bool, false, ◌&&◌, not, cond, List, [], ◌∷◌, ◌++◌, Option, Some, None, slice_get, slice_index_or, slice_set}
use Rattle.std.specs.List.{list_any}
use Rattle.bit_sets.specs.declared.span.Span.{Span}
use Rattle.flow_sets.specs.declared.found.Found.{Found}
use Rattle.flow_sets.specs.declared.uses.Write.{Write}
use Rattle.sv_types.specs.declared.expression.Expr.{Expr}
use Rattle.sv_types.specs.declared.expression.Form.{Form-F, out-Form}
use Rattle.sv_types.specs.declared.statement.Stmt.{Stmt, Stmt-F, out-Stmt}
use Rattle.sv_types.specs.declared.design.EdgeOn.{EdgeOn}
use Rattle.sv_types.specs.declared.design.Process.{Process}
use Rattle.sv_types.specs.declared.design.ProcessKind.{ProcessKind}
use Rattle.sv_types.specs.declared.design.ProcessKind.TheVariants.{Continuous, Link, Comb, Latch, Star, Edges}
use Rattle.sv_types.specs.declared.design.Signal.{Signal}
use Rattle.sv_types.specs.Layouts.{width_of}
use Rattle.sv_types.specs.Machine.{is_input}
use Rattle.least_breaks.specs.Least.{with_token}
use Rattle.reach_marks.specs.Reach.{list_at}
use Rattle.edge_breaks.specs.declared.links.Link as D

abbrev pub signal_of : Expr → Option ℕ
signal_of e = elim (out-Form e.form) [ Form-F.Signal n ↦ Some n | other ↦ None ]

abbrev pub plain_name : Stmt → Option ℕ
plain_name s = elim (out-Stmt s) [
  | Stmt-F.Assign to value later spot ↦ signal_of value
  | other ↦ None
]

abbrev pub is_of_port : ℕ → Span → Bool
is_of_port n s = (s.low / 2 ^ 32 == n) && nat_lt s.low s.high

abbrev pub writes_port : ℕ → List Write → Bool
writes_port n ws = list_any (λ (w : Write). is_of_port n w.of.span) ws

abbrev pub named : Option ℕ → ℕ → Option D.Link
named None n = None
named (Some m) n = Some (record { from = m; to = n })

abbrev pub link_to : ℕ → Process → Option Found → Option D.Link
link_to n p None = None
link_to n p (Some f) = cond (writes_port n f.writes) (named (plain_name p.body) n) None

abbrev pub link_by : ProcessKind → Process → Option Found → Option D.Link
link_by Continuous p f = None
link_by (Link n) p f = link_to n p f
link_by Comb p f = None
link_by Latch p f = None
link_by Star p f = None
link_by (Edges es) p f = None

abbrev pub link_of : Process → Option Found → Option D.Link
link_of p f = link_by p.kind p f

abbrev pub with_link : List (List ℕ) → D.Link → List (List ℕ)
with_link next l = slice_set next l.from (list_at next l.from ++ l.to ∷ [])

abbrev pub with_maybe : List (List ℕ) → Option D.Link → List (List ℕ)
with_maybe next None = next
with_maybe next (Some l) = with_link next l

abbrev pub all_links : List (List ℕ) → List Process → List (Option Found) → List (List ℕ)
all_links next [] fs = next
all_links next (p ∷ ps) [] = next
all_links next (p ∷ ps) (f ∷ fs) = all_links (with_maybe next (link_of p f)) ps fs

-- inputs of the top that have one bit
abbrev pub is_root : Signal → Bool
is_root s = ((s.instance == 1) && is_input s.kind) && (width_of s.of == 1)

abbrev pub roots_from : ℕ → List Signal → List ℕ
roots_from n [] = []
roots_from n (s ∷ ss) = cond (is_root s) (n ∷ roots_from (suc n) ss) (roots_from (suc n) ss)

abbrev pub width_at : List Signal → ℕ → ℕ
width_at ss n = elim (slice_get ss n) [ None ↦ 0 | Some s ↦ width_of s.of ]

abbrev pub is_fit : List Signal → List Bool → ℕ → Bool
is_fit ss joined n = (width_at ss n == 1) && slice_index_or joined n false

-- the least of a token and those of unfit edges
abbrev pub least_unfit : List Signal → List Bool → Option ℕ → List EdgeOn → Option ℕ
least_unfit ss joined least [] = least
least_unfit ss joined least (e ∷ es) = least_unfit ss joined (cond (not (is_fit ss joined e.signal)) (with_token least e.spot.at) least) es
