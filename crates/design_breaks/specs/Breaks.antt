-- Where a typed design breaks the rules on processes. A break stands at a token of an instance's text; rules on bits speak only
-- of processes and functions whose loops can all be unrolled to as many statements as may stand.
use Rattle.std.specs.Prelude.{ℕ, zero, suc, min, max, Bool, true, false, ◌&&◌, ◌||◌, ◌==◌, nat_lt, nat_le, not, cond, List, [], ◌∷◌, ◌++◌, length, map, flat_map, filter, reverse, take, drop, Option, Some, None, is_some, slice_get}
use Rattle.std.specs.List.{list_any, list_all}
use Rattle.row_machine.specs.Valuation.{Place}
use Rattle.row_machine.specs.Places.{places_of}
use Rattle.sv_source.specs.declared.token.Spot.{Spot}
use Rattle.sv_types.specs.declared.expression.Form.{Form-F, out-Form}
use Rattle.sv_types.specs.declared.statement.Stmt.{Stmt, Stmt-F, out-Stmt}
use Rattle.sv_types.specs.declared.statement.Formal.{Formal}
use Rattle.sv_types.specs.declared.statement.Function.{Function}
use Rattle.sv_types.specs.declared.statement.FunctionKind.TheVariants.{Plain, Routine, Made}
use Rattle.sv_types.specs.declared.statement.Outcome.TheVariants.{Normal, Return}
use Rattle.sv_types.specs.declared.statement.Way.TheVariants as W
use Rattle.sv_types.specs.declared.types.SvType.{SvType, SvType-F, out-SvType}
use Rattle.sv_types.specs.declared.types.Member.{Member}
use Rattle.sv_types.specs.declared.design.Design.{Design}
use Rattle.sv_types.specs.declared.design.EdgeOn.{EdgeOn}
use Rattle.sv_types.specs.declared.design.Process.{Process}
use Rattle.sv_types.specs.declared.design.ProcessKind.{ProcessKind}
use Rattle.sv_types.specs.declared.design.ProcessKind.TheVariants.{Continuous, Link, Comb, Latch, Star, Edges}
use Rattle.sv_types.specs.declared.design.Signal.{Signal}
use Rattle.sv_types.specs.Layouts.{width_of}
use Rattle.sv_types.specs.Surroundings.{Parameter, Use, is_signal, local_number}
use Rattle.sv_types.specs.Meanings.{Named}
use Rattle.sv_types.specs.Flows.{Flow, covers, uses_of}
use Rattle.sv_types.specs.Statements.{doing}
use Rattle.sv_types.specs.Functions.{parameters}
use Rattle.sv_types.specs.Machine.{parts, places, unseen, is_input}
use Rattle.design_breaks.specs.declared.Break.{Break}
use Rattle.design_breaks.specs.declared.Unrolled.{Unrolled}
use Rattle.design_breaks.specs.Unrolling.{most_statements}
use Rattle.design_breaks.specs.Actions.{Assignment, Passed, actions}
use Rattle.design_breaks.specs.Memories.{is_edged, is_memory, is_unpacked_array, flow, writes_of}

-- the same position or a later one
abbrev pub not_before : ℕ → ℕ → ℕ → ℕ → Bool
not_before i at j to = nat_lt j i || ((i == j) && nat_le to at)

abbrev pub at_each : ℕ → ℕ → List ℕ → List Break
at_each instance rule tokens = map (λ at. record { instance = instance; at = at; rule = rule }) tokens

abbrev pub only_if : {A : Type 0} → Bool → List A → List A
only_if b xs = cond b xs []

-- two uses have a bit in common
abbrev pub meet : Use → Use → Bool
meet a b = (a.number == b.number) && nat_lt (max a.low b.low) (min a.high b.high)

-- why loops can't be unrolled to the end
abbrev pub endless_at : Unrolled → List ℕ
endless_at u = elim u.endless [ None ↦ [] | Some at ↦ at ∷ [] ]

abbrev pub is_too_many : Unrolled → Bool
is_too_many u = not (is_some u.left)

abbrev pub is_none : List ℕ → Bool
is_none [] = true
is_none (n ∷ ns) = false

abbrev pub is_whole : Unrolled → Bool
is_whole u = is_some u.left && not (is_some u.endless)

module _ (d : Design) where
  abbrev pub formals : ℕ → List Parameter
  formals n = elim (slice_get d.functions n) [ None ↦ [] | Some f ↦ parameters f ]

  -- a function sees no signals, and no locals but its own
  abbrev pub function_flow : Function → Flow
  function_flow f = (doing f.body).flow (unseen (parts d))

  -- The loops that can't be unrolled: those whose bounds aren't known or whose variable is written in them; and the one at the
  -- least token in the unrolled list of those that make too many turns and of the constants that take too long.
  abbrev pub unbounded_of : Stmt → List ℕ
  unbounded_of s = (actions s).unbounded formals (unseen (parts d))

  abbrev pub unrolled : Stmt → Unrolled
  unrolled s = (actions s).unrolls formals (unseen (parts d)) (record { left = Some most_statements; endless = None })

  abbrev pub endless_of : Stmt → List ℕ
  endless_of s = unbounded_of s ++ endless_at (unrolled s)

  -- too many statements, each counted by itself once loops are unrolled
  abbrev pub too_long : Stmt → ℕ → List ℕ
  too_long s at = only_if (is_none (unbounded_of s) && is_too_many (unrolled s)) (at ∷ [])

  -- all loops can be unrolled, to as many statements as may stand
  abbrev pub unrolls : Stmt → Bool
  unrolls s = is_none (unbounded_of s) && is_whole (unrolled s)

  -- a bit, or a variable that a declared value holds, is written twice (clauses 6.5, 9.2.2 and 10.3)
  abbrev pub all_writes : Process → List Use
  all_writes p = only_if (unrolls p.body) (filter (λ (u : Use). is_signal u.number) (writes_of d p))

  abbrev pub is_second : Process → Use → Process → Bool
  is_second p w q = list_any (λ (u : Use). meet u w && not_before p.instance w.at q.instance u.at) (all_writes q)

  abbrev pub other_than : ℕ → ℕ → List Process → List Process
  other_than n k [] = []
  other_than n k (p ∷ ps) = only_if (not (n == k)) (p ∷ []) ++ other_than n (suc k) ps

  abbrev pub written_twice : ℕ → Process → List ℕ
  written_twice n p =
      map (λ (w : Use). w.at) (filter (λ w. list_any (is_second p w) (other_than n 0 d.processes)) (all_writes p))

  abbrev pub is_declared : ℕ → Bool
  is_declared n = elim (slice_get d.signals n) [ None ↦ false | Some s ↦ s.declared ]

  abbrev pub continuous : ProcessKind → Bool
  continuous Continuous = true
  continuous (Link port) = true
  continuous Comb = false
  continuous Latch = false
  continuous Star = false
  continuous (Edges es) = false

  abbrev pub drives_a_value : Process → List ℕ
  drives_a_value p =
      only_if (continuous p.kind) (map (λ (w : Use). w.at) (filter (λ (w : Use). is_declared w.number && nat_lt w.low w.high) (all_writes p)))

  -- a bit that a combinational process other than a latch may write isn't written on every path: at the first write of it
  abbrev pub is_complete : ProcessKind → Bool
  is_complete Latch = true
  is_complete (Edges es) = true
  is_complete Continuous = false
  is_complete (Link port) = false
  is_complete Comb = false
  is_complete Star = false

  abbrev pub least : List ℕ → List ℕ
  least [] = []
  least (n ∷ ns) = elim (least ns) [ [] ↦ n ∷ [] | m ∷ ms ↦ min n m ∷ [] ]

  abbrev pub first_write : Flow → Place → List ℕ
  first_write f q = least (map (λ (u : Use). u.at) (filter (λ u. covers u q) (uses_of f.writes)))

  abbrev pub left_out : Process → List ℕ
  left_out p =
      let f = flow d p in
      only_if (unrolls p.body && not (is_complete p.kind)) (flat_map (λ q. only_if (f.slips Normal q) (first_write f q)) (places (parts d)))

  -- a combinational process reads a bit that it writes before it wrote it
  abbrev pub read_early : Process → List ℕ
  read_early p =
      let f = flow d p in
      only_if (unrolls p.body && not (is_edged p.kind))
      (flat_map (λ q. only_if (list_any (λ u. covers u q) (uses_of f.writes)) (f.early q)) (places (parts d)))

  abbrev pub local_early : Process → List ℕ
  local_early p = only_if (unrolls p.body) (flow d p).unset

  -- blocking and nonblocking assignments (clauses 9.2.2.2, 9.2.2.4 and 13.4.4)
  abbrev pub names_signal : List ℕ → Bool
  names_signal to = list_any is_signal to

  abbrev pub names_local : List ℕ → Bool
  names_local to = list_any (λ n. not (is_signal n)) to

  abbrev pub at_once : Process → List ℕ
  at_once p =
      only_if (is_edged p.kind)
      (map (λ (a : Assignment). a.at) (filter (λ (a : Assignment). not a.later && names_signal a.to) (actions p.body).assigns)
      ++ map (λ (a : Passed). a.at) (filter (λ (a : Passed). names_signal a.to) ((actions p.body).passes formals)))

  abbrev pub deferred : Bool → Stmt → List ℕ
  deferred in_edges s =
      map (λ (a : Assignment). a.at) (filter (λ (a : Assignment). a.later && (not in_edges || names_local a.to)) (actions s).assigns)

  -- an edge is on a signal of one bit that plain port names join to an input of the top (clause 9.4.2)
  abbrev pub width_at : ℕ → ℕ
  width_at n = elim (slice_get d.signals n) [ None ↦ 0 | Some s ↦ width_of s.of ]

  abbrev pub is_top_input : ℕ → Bool
  is_top_input n = elim (slice_get d.signals n) [ None ↦ false | Some s ↦ (s.instance == 1) && is_input s.kind ]

  -- the signal whose plain name a connection gives to an input
  abbrev pub plain_name : Stmt → Option ℕ
  plain_name s = elim (out-Stmt s) [
    | Stmt-F.Assign to value later spot ↦ elim (out-Form value.form) [ Form-F.Signal n ↦ Some n | other ↦ None ]
    | other ↦ None
  ]

  abbrev pub is_link_to : ℕ → Process → Bool
  is_link_to n p = elim p.kind [ Link port ↦ (port == n) && list_any (λ (u : Use). (u.number == n) && nat_lt u.low u.high) (uses_of (flow d p).writes) | other ↦ false ]

  abbrev pub sources : ℕ → List ℕ
  sources n = flat_map (λ (p : Process). only_if (is_link_to n p) (elim (plain_name p.body) [ None ↦ [] | Some m ↦ m ∷ [] ])) d.processes

  -- through so many connections
  unfoldable pub is_joined : ℕ → ℕ → Bool
  is_joined zero n = is_top_input n && (width_at n == 1)
  is_joined (suc depth) n = (is_top_input n && (width_at n == 1)) || list_any (λ m. is_joined depth m) (sources n)

  abbrev pub unfit_edges : Process → List ℕ
  unfit_edges p = elim p.kind [
    | Edges es ↦ map (λ (e : EdgeOn). e.spot.at) (filter (λ (e : EdgeOn). not ((width_at e.signal == 1) && is_joined (length d.signals) e.signal)) es)
    | other ↦ []
  ]

  -- an input is written by something else than a connection to it (clause 23.3.3)
  abbrev pub is_own_link : ProcessKind → ℕ → Bool
  is_own_link (Link port) n = port == n
  is_own_link Continuous n = false
  is_own_link Comb n = false
  is_own_link Latch n = false
  is_own_link Star n = false
  is_own_link (Edges es) n = false

  abbrev pub is_any_input : ℕ → Bool
  is_any_input n = elim (slice_get d.signals n) [ None ↦ false | Some s ↦ is_input s.kind ]

  abbrev pub writes_input : Process → List ℕ
  writes_input p =
      only_if (unrolls p.body) (map (λ (u : Use). u.at) (filter (λ (u : Use). is_any_input u.number && (nat_lt u.low u.high && not (is_own_link p.kind u.number))) (uses_of (flow d p).writes ++ uses_of (flow d p).later)))

  -- the functions that processes call, themselves or through other functions
  abbrev pub calls_it : ℕ → Stmt → Bool
  calls_it n s = list_any (λ (m : ℕ). m == n) (actions s).said.calls

  abbrev pub numbered : {A : Type 0} → ℕ → List A → List (ℕ × A)
  numbered n [] = []
  numbered n (x ∷ xs) = (n, x) ∷ numbered (suc n) xs

  unfoldable pub is_called : ℕ → ℕ → Bool
  is_called zero n = list_any (λ (p : Process). calls_it n p.body) d.processes
  is_called (suc depth) n =
      list_any (λ (p : Process). calls_it n p.body) d.processes
      || list_any (λ (g : ℕ × Function). calls_it n g.1.body && is_called depth g.0) (numbered 0 d.functions)

  -- the bits of a result, with the token that stands for each
  abbrev pub tokens_of_members : List ℕ → List Spot → List Place → List (Place × ℕ)
  tokens_of_members ws [] qs = []
  tokens_of_members [] (s ∷ spots) qs = []
  tokens_of_members (w ∷ ws) (s ∷ spots) qs = map (λ q. (q, s.at)) (take w qs) ++ tokens_of_members ws spots (drop w qs)

  -- the widths of the members of a struct, the last one first, as its bits lie
  abbrev pub member_widths : SvType → List ℕ
  member_widths t = elim (out-SvType t) [
    | SvType-F.Struct id packed s ms ↦ reverse (map (λ (m : Member). width_of m.of) ms)
    | other ↦ []
  ]

  abbrev pub result_places : Function → List Place
  result_places f = places_of (local_number 0) (width_of f.of)

  abbrev pub formal_places : Formal → List Place
  formal_places f = places_of (local_number f.local.number) (width_of f.local.of)

  abbrev pub is_output : Formal → Bool
  is_output f = elim f.way [ W.Input ↦ false | W.Output ↦ true | W.Inout ↦ false ]

  abbrev pub owed : Function → List (Place × ℕ)
  owed f = elim f.kind [
    | Plain ↦ map (λ q. (q, f.spot.at)) (result_places f)
    | Routine ↦ flat_map (λ (p : Formal). map (λ q. (q, p.spot.at)) (formal_places p)) (filter is_output f.formals)
    | Made spots ↦ tokens_of_members (member_widths f.of) (reverse spots) (result_places f)
  ]

  -- a bit of a result isn't written on every path to the end or a `return`, or is read before it is written
  abbrev pub slips_out : Flow → Place → Bool
  slips_out g q = g.slips Normal q || g.slips Return q

  abbrev pub result_left_out : Function → List ℕ
  result_left_out f =
      only_if (unrolls f.body) (map (λ (o : Place × ℕ). o.1) (filter (λ (o : Place × ℕ). slips_out (function_flow f) o.0) (owed f)))

  abbrev pub result_early : Function → List ℕ
  result_early f = only_if (unrolls f.body) ((function_flow f).unset ++ flat_map (λ (o : Place × ℕ). (function_flow f).early o.0) (owed f))

  abbrev pub most_bits : ℕ
  most_bits = 65536

  -- an array that is no memory is at most as wide as any other signal, if all loops around its name can be unrolled
  abbrev pub names_it : ℕ → Process → Bool
  names_it n p =
      list_any (λ (m : Named). m.number == n) ((doing p.body).names formals) || list_any (λ (m : ℕ). m == n) ((doing p.body).targets formals)

  abbrev pub is_settled : ℕ → Bool
  is_settled n = list_all (λ (p : Process). not (names_it n p) || unrolls p.body) d.processes

  abbrev pub too_wide : ℕ × Signal → List Break
  too_wide s =
      only_if (is_unpacked_array s.1.of && (nat_lt most_bits (width_of s.1.of) && (is_settled s.0 && not (is_memory d s.0 s.1))))
      (record { instance = s.1.instance; at = s.1.spot.at; rule = 701 } ∷ [])

  abbrev pub process_breaks : ℕ × Process → List Break
  process_breaks p =
      let i = p.1.instance in
      at_each i 601 (written_twice p.0 p.1 ++ drives_a_value p.1)
      ++ (at_each i 603 (left_out p.1)
      ++ (at_each i 604 (read_early p.1 ++ local_early p.1)
      ++ (at_each i 605 (at_once p.1)
      ++ (at_each i 606 (deferred (is_edged p.1.kind) p.1.body)
      ++ (at_each i 607 (unfit_edges p.1)
      ++ (at_each i 608 (endless_of p.1.body)
      ++ (at_each i 611 (writes_input p.1)
      ++ at_each i 703 (too_long p.1.body p.1.spot.at))))))))

  abbrev pub function_breaks : ℕ × Function → List Break
  function_breaks f =
      let i = f.1.instance in
      only_if (is_called (length d.functions) f.0)
      (at_each i 603 (result_left_out f.1)
      ++ (at_each i 604 (result_early f.1)
      ++ (at_each i 606 (deferred false f.1.body)
      ++ (at_each i 608 (endless_of f.1.body)
      ++ at_each i 703 (too_long f.1.body f.1.spot.at)))))

  abbrev pub breaks : List Break
  breaks =
      flat_map process_breaks (numbered 0 d.processes)
      ++ (flat_map function_breaks (numbered 0 d.functions) ++ flat_map too_wide (numbered 0 d.signals))

-- the order of breaks of one phase
abbrev pub is_less : Break → Break → Bool
is_less a b = nat_lt a.instance b.instance || ((a.instance == b.instance) && (nat_lt a.at b.at || ((a.at == b.at) && nat_lt a.rule b.rule)))

abbrev pub least_of : List Break → Option Break
least_of [] = None
least_of (b ∷ bs) = elim (least_of bs) [ None ↦ Some b | Some c ↦ cond (is_less c b) (Some c) (Some b) ]
