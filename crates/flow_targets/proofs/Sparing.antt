-- A statement writes no bit of a signal that isn't among its targets.
use Rattle.std.proofs.Common.{◌≡◌, ℕ, zero, suc, ◌==◌, Bool, true, false, ◌&&◌, ◌||◌, not, List, [], ◌∷◌, ◌++◌, map, flat_map, length, Option, Some, None, refl, ap, sym, ◌∙◌, subst, arith}
use Rattle.std.specs.Prelude.{nat_le, nat_lt}
use Rattle.std.specs.List.{list_any}
use Rattle.std.proofs.lemmas.Bool.{or_parts}
use Rattle.std.proofs.lemmas.Bool.Decides.{nat_tests}
use Rattle.row_machine.specs.Valuation.{Place}
use Rattle.sv_types.specs.declared.expression.Expr.{Expr}
use Rattle.sv_types.specs.declared.statement.Local.{Local}
use Rattle.sv_types.specs.declared.statement.Way.{Way}
use Rattle.sv_types.specs.declared.statement.Way.TheVariants as Y
use Rattle.sv_types.specs.declared.statement.Outcome.TheVariants as O
use Rattle.sv_types.specs.declared.statement.Stmt.{Stmt}
use Rattle.sv_types.specs.declared.statement.CaseItem.{CaseItem}
use Rattle.sv_types.specs.Surroundings.{Sight, Parameter, Write, is_signal, local_number}
use Rattle.sv_types.specs.Meanings.{Meaning}
use Rattle.sv_types.specs.Operators.{assigned_to}
use Rattle.sv_types.specs.Expressions.{meaning}
use Rattle.sv_types.specs.Runs.{is_true, most_turns}
use Rattle.sv_types.specs.Flows as F
use Rattle.sv_types.specs.Flows.{Flow, Flows, covered, uses_of, knowing}
use Rattle.sv_types.specs.Statements as S
use Rattle.sv_types.specs.Statements.{Doing, Item, doing, scope_flow, flows, marks_of, initial_of, flow_or_nothing, none_or, actual_roots, roots_by_way}
use Rattle.sv_types.proofs.DoingLevels as D
use Rattle.sv_types.proofs.DoingLevels.{item_of, perhaps}
use Rattle.flow_laws.proofs.Naming as N
use Rattle.flow_laws.proofs.Naming.{AllTell, all-tell, any-parts}
use Rattle.flow_laws.proofs.Placing.{covered-writes}
use Rattle.flow_laws.proofs.Terms.{Each, OrNone, Steps, by-stmt}
use Rattle.flow_targets.specs.Laws.{Spares}

abbrev formals_of : Sight → ℕ → List Parameter
formals_of k f = (k.around.callee f).formals

abbrev named : Place → List ℕ → Bool
named q ns = list_any (λ (m : ℕ). m == q.signal) ns

neither : (q : Place) (xs ys : List Write) → covered (uses_of xs) q ≡ false → covered (uses_of ys) q ≡ false → covered (uses_of (xs ++ ys)) q ≡ false
neither q xs ys h g = covered-writes xs ys q ∙ ap (λ b. b || covered (uses_of ys) q) h ∙ g

then-spares : (q : Place) (f g : Flow) → Spares q f → Spares q g → Spares q (F.and_then f g)
then-spares q f g h i = record { now = neither q f.writes g.writes h.now i.now; later = neither q f.later g.later h.later i.later }

else-spares : (q : Place) (f g : Flow) → Spares q f → Spares q g → Spares q (F.or_else f g)
else-spares q f g h i = record { now = neither q f.writes g.writes h.now i.now; later = neither q f.later g.later h.later i.later }

only-spares : (q : Place) (b : Bool) (f : Flows) (g : Flow) (k : Sight) → Spares q (f k) → Spares q g → Spares q (F.only_if b f g k)
only-spares q true f g k h h' = h
only-spares q false f g k h h' = h'

-- the bits of a local
other-by : (n s : ℕ) → is_signal s ≡ true → (local_number n == s) ≡ false
other-by n s h = grind (arith, nat_tests)

module _ (q : Place) (signal : is_signal q.signal ≡ true) where
  set-spares : (n : ℕ) (marks : List Bool) → Spares q (F.setting n marks)
  set-spares n marks = record { now = ap (λ b. (b && (nat_le 0 q.bit && nat_lt q.bit (length marks))) || false) (other-by n q.signal signal); later = refl }

  turns-spare : (m n : ℕ) (marks : List Bool) (test step : Meaning) (body : Flows) (k : Sight)
      → ((j : Sight) → j.around.callee ≡ k.around.callee → Spares q (body j)) → (j : Sight) → j.around.callee ≡ k.around.callee → Spares q (F.turns m n marks test step body j)
  unfolding F.turns
  turns-spare zero n marks test step body k h j same =
      only-spares q (test.constant j && not (is_true test j.around)) (λ i. F.reading (test.reads i)) F.endless j (record { now = refl; later = refl }) (record { now = refl; later = refl })
  turns-spare (suc m) n marks test step body k h j same =
      only-spares q (test.constant j) (F.only_if (is_true test j.around) inner (F.reading (test.reads j))) F.endless j
      (only-spares q (is_true test j.around) inner (F.reading (test.reads j)) j
      (turned (only-spares q (step.constant j) again F.endless j (next (turns-spare m n marks test step body k h (knowing n marks (assigned_to marks step j.around) j) same)) (record { now = refl; later = refl })))
      (record { now = refl; later = refl })) (record { now = refl; later = refl })
    where
      again : Flows
      again i = F.and_then (F.and_then (F.reading (step.reads i)) (F.setting n marks)) (F.turns m n marks test step body (knowing n marks (assigned_to marks step i.around) i))

      inner : Flows
      inner i = F.and_then (F.reading (test.reads i)) (F.and_then (F.catching O.Continue (body i)) (F.only_if (step.constant i) again F.endless i))

      next : Spares q (F.turns m n marks test step body (knowing n marks (assigned_to marks step j.around) j)) → Spares q (again j)
      next rest =
          let all = F.turns m n marks test step body (knowing n marks (assigned_to marks step j.around) j) in
          let set = set-spares n marks in
          record { now = neither q (F.setting n marks).writes all.writes set.now rest.now; later = neither q (F.setting n marks).later all.later set.later rest.later }

      turned : Spares q (F.only_if (step.constant j) again F.endless j) → Spares q (inner j)
      turned rest =
          let own = h j same in
          let all = F.only_if (step.constant j) again F.endless j in
          record { now = neither q (body j).writes all.writes own.now rest.now; later = neither q (body j).later all.later own.later rest.later }

  -- outputs of a call
  written-spare : (ps : List Parameter) (ms : List Meaning) (k : Sight) → AllTell ms → named q (actual_roots ps ms) ≡ false → Spares q (F.all_written_out ps ms k)
  written-spare [] ms k h is = record { now = refl; later = refl }
  written-spare (p ∷ ps) [] k h is = record { now = refl; later = refl }
  written-spare (p ∷ ps) (m ∷ ms) k h is =
      let two = any-parts (λ (n : ℕ). n == q.signal) (roots_by_way p.way m) (actual_roots ps ms) is in
      then-spares q (F.writes_out p.way m k) (F.all_written_out ps ms k) (by p.way two.0) (written-spare ps ms k h.1 two.1)
    where
      by : (w : Way) → named q (roots_by_way w m) ≡ false → Spares q (F.writes_out w m k)
      by Y.Input g = record { now = refl; later = refl }
      by Y.Output g = record { now = h.0.roots k q g; later = refl }
      by Y.Inout g = record { now = h.0.roots k q g; later = refl }

  abbrev Leaves : Doing → Type 0
  Leaves d = (k : Sight) → named q (d.targets (formals_of k)) ≡ false → Spares q (d.flow k)

  abbrev Claim : Stmt → Type 0
  Claim s = Leaves (doing s)

  abbrev ItemClaim : CaseItem → Type 0
  ItemClaim i = Claim i.body

  -- the locals of a block
  starting-spares : (l : Local) (first : Option Meaning) (k : Sight) → Spares q (F.starting l.number (marks_of l) first k)
  starting-spares l None k = set-spares l.number (marks_of l)
  starting-spares l (Some m) k = let set = set-spares l.number (marks_of l) in record { now = set.now; later = set.later }

  unset-spares : (l : Local) (first : Option Meaning) (f : Flow) → Spares q f → Spares q (F.unset_in l.number (marks_of l) first f)
  unset-spares l None f h = record { now = h.now; later = h.later }
  unset-spares l (Some m) f h = h

  scope-spares : (ls : List Local) (f : Flows) (k : Sight) → Spares q (f k) → Spares q (scope_flow ls f k)
  scope-spares [] f k h = h
  scope-spares (l ∷ ls) f k h =
      then-spares q (F.starting l.number (marks_of l) (initial_of l) k) (F.unset_in l.number (marks_of l) (initial_of l) (scope_flow ls f k))
      (starting-spares l (initial_of l) k) (unset-spares l (initial_of l) (scope_flow ls f k) (scope-spares ls f k h))

  -- lists of statements
  all-spare : (ss : List Stmt) (k : Sight) → Each Claim ss → named q (flat_map (λ (d : Doing). d.targets (formals_of k)) (map doing ss)) ≡ false → Spares q (F.in_turn (flows (map doing ss)) k)
  all-spare [] k h is = record { now = refl; later = refl }
  all-spare (s ∷ ss) k h is =
      let free = any-parts (λ (n : ℕ). n == q.signal) ((doing s).targets (formals_of k)) (flat_map (λ (d : Doing). d.targets (formals_of k)) (map doing ss)) is in
      then-spares q ((doing s).flow k) (F.in_turn (flows (map doing ss)) k) (h.0 k free.0) (all-spare ss k h.1 free.1)

  other-spares : (other : Option Stmt) (k : Sight) → OrNone Claim other → named q (flat_map (λ (d : Doing). d.targets (formals_of k)) (none_or (perhaps other))) ≡ false → Spares q (flow_or_nothing (perhaps other) k)
  other-spares None k h is = record { now = refl; later = refl }
  other-spares (Some s) k h is = h k (any-parts (λ (n : ℕ). n == q.signal) ((doing s).targets (formals_of k)) [] is).0

  if-leaves : (on : Expr) (body : Stmt) (other : Option Stmt) → Claim body → OrNone Claim other → Leaves (S.branching (meaning on) (doing body) (perhaps other))
  if-leaves on body other h g k is =
      let free = any-parts (λ (n : ℕ). n == q.signal) ((doing body).targets (formals_of k)) (flat_map (λ (d : Doing). d.targets (formals_of k)) (none_or (perhaps other))) is in
      let both = else-spares q ((doing body).flow k) (flow_or_nothing (perhaps other) k) (h k free.0) (other-spares other k g free.1) in
      record { now = both.now; later = both.later }

  -- the items of a `case`
  items-spare : (is : List CaseItem) (other : Option Stmt) (k : Sight) → Each ItemClaim is → OrNone Claim other
      → named q (flat_map (λ (d : Doing). d.targets (formals_of k)) (map (λ (i : Item). i.does) (map item_of is) ++ none_or (perhaps other))) ≡ false
      → Spares q (F.any_of (map (λ (i : Item). i.does.flow) (map item_of is)) (flow_or_nothing (perhaps other) k) k)
  items-spare [] other k h g is = other-spares other k g is
  items-spare (i ∷ is) other k h g free_all =
      let rest = flat_map (λ (d : Doing). d.targets (formals_of k)) (map (λ (x : Item). x.does) (map item_of is) ++ none_or (perhaps other)) in
      let free = any-parts (λ (n : ℕ). n == q.signal) ((item_of i).does.targets (formals_of k)) rest free_all in
      let leaves : Leaves (item_of i).does = subst Leaves (ap (λ (x : Item). x.does) (sym (D.item-of i))) h.0 in
      else-spares q ((item_of i).does.flow k) (F.any_of (map (λ (x : Item). x.does.flow) (map item_of is)) (flow_or_nothing (perhaps other) k) k) (leaves k free.0) (items-spare is other k h.1 g free.1)

  loop-leaves : (n : ℕ) (first test step : Meaning) (body : Stmt) → Claim body → Leaves (S.looping n first test step (doing body))
  loop-leaves n first test step body h k is =
      let two = or_parts (local_number n == q.signal) (named q ((doing body).targets (formals_of k))) is in
      let marks = first.of.two_state in
      let all = λ (j : Sight). F.catching O.Break (F.turns most_turns n marks test step (doing body).flow (knowing n marks (assigned_to marks first j.around) j)) in
      let turned = turns-spare most_turns n marks test step (doing body).flow k (λ j same. h j (ap (λ c. named q ((doing body).targets (λ f. (c f).formals))) same ∙ two.1)) (knowing n marks (assigned_to marks first k.around) k) refl in
      let rest = only-spares q (first.constant k) all F.endless k (record { now = turned.now; later = turned.later }) (record { now = refl; later = refl }) in
      let set = set-spares n marks in
      record {
        now = neither q (F.setting n marks).writes (F.only_if (first.constant k) all F.endless k).writes set.now rest.now;
        later = neither q (F.setting n marks).later (F.only_if (first.constant k) all F.endless k).later set.later rest.later;
      }

  assign-leaves : (later : Bool) (to : List Expr) (value : Meaning) → Leaves (S.assigning (map meaning to) value later)
  assign-leaves false to value k is = record { now = N.all-roots (map meaning to) k q (all-tell to) is; later = refl }
  assign-leaves true to value k is = record { now = refl; later = N.all-roots (map meaning to) k q (all-tell to) is }

  any-both : (xs ys : List ℕ) → named q xs ≡ false → named q ys ≡ false → named q (xs ++ ys) ≡ false
  any-both [] ys x y = y
  any-both (z ∷ xs) ys x y = let both = or_parts (z == q.signal) (named q xs) x in ap (λ b. b || named q (xs ++ ys)) both.0 ∙ any-both xs ys both.1 y

  split : (k : Sight) (s : Stmt) (ds : List Doing) → named q (flat_map (λ (d : Doing). d.targets (formals_of k)) (ds ++ doing s ∷ [])) ≡ false
      → (named q (flat_map (λ (d : Doing). d.targets (formals_of k)) ds) ≡ false) × (named q ((doing s).targets (formals_of k)) ≡ false)
  split k s [] f = (refl, (any-parts (λ (n : ℕ). n == q.signal) ((doing s).targets (formals_of k)) [] f).0)
  split k s (d ∷ ds) f =
      let two = any-parts (λ (n : ℕ). n == q.signal) (d.targets (formals_of k)) (flat_map (λ (e : Doing). e.targets (formals_of k)) (ds ++ doing s ∷ [])) f in
      let rest = split k s ds two.1 in
      (any-both (d.targets (formals_of k)) (flat_map (λ (e : Doing). e.targets (formals_of k)) ds) two.0 rest.0, rest.1)

  made-leaves : (ls : List Local) (ss : List Stmt) (body : Option Stmt) → Each Claim ss → OrNone Claim body → Leaves (S.made ls (map doing ss) (perhaps body))
  made-leaves ls ss None h g k is = let x = scope-spares ls (F.in_turn (flows (map doing ss))) k (all-spare ss k h is) in record { now = x.now; later = x.later }
  made-leaves ls ss (Some s) h g k is =
      let free = split k s (map doing ss) is in
      let first = all-spare ss k h free.0 in
      let own = g k free.1 in
      scope-spares ls (λ j. F.and_then (record (F.in_turn (flows (map doing ss)) j) { statements = 0 }) ((doing s).flow j)) k
      (record {
        now = neither q (F.in_turn (flows (map doing ss)) k).writes ((doing s).flow k).writes first.now own.now;
        later = neither q (F.in_turn (flows (map doing ss)) k).later ((doing s).flow k).later first.later own.later;
      })

  claims : Steps Claim ItemClaim
  claims = record {
    item = λ i h. h;
    block = λ ls ss h. subst Leaves (sym (D.doing-Block ls ss)) (λ k is. let x = scope-spares ls (F.in_turn (flows (map doing ss))) k (all-spare ss k h is) in record { now = x.now; later = x.later });
    branch = λ on body other h g. subst Leaves (sym (D.doing-If on body other)) (λ k is. let x = if-leaves on body other h g k is in record { now = x.now; later = x.later });
    select = λ kind on is other h g. subst Leaves (sym (D.doing-Case kind on is other)) (λ k free. let x = items-spare is other k h g free in record { now = x.now; later = x.later });
    loop = λ n first test step body spot h. subst Leaves (sym (D.doing-Loop n first test step body spot)) (loop-leaves n (meaning first) (meaning test) (meaning step) body h);
    assign = λ to value later spot. subst Leaves (sym (D.doing-Assign to value later spot)) (λ k is. let x = assign-leaves later to (meaning value) k is in record { now = x.now; later = x.later });
    call = λ f es spot. subst Leaves (sym (D.doing-Call f es spot)) (λ k is. let x = written-spare (formals_of k f) (map meaning es) k (all-tell es) is in record { now = x.now; later = x.later });
    made = λ ls ss body h g. subst Leaves (sym (D.doing-Made ls ss body)) (made-leaves ls ss body h g);
    breaks = subst Leaves (sym D.doing-Break) (λ k is. record { now = refl; later = refl });
    continues = subst Leaves (sym D.doing-Continue) (λ k is. record { now = refl; later = refl });
    returns = subst Leaves (sym D.doing-Return) (λ k is. record { now = refl; later = refl });
  }

  pub spares : (s : Stmt) → Leaves (doing s)
  spares = by-stmt Claim ItemClaim claims
