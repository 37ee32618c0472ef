-- A statement writes no variable of a loop that isn't among its targets.
use Rattle.std.proofs.Common.{◌≡◌, ℕ, zero, suc, ◌==◌, Bool, true, false, ◌&&◌, ◌||◌, not, List, [], ◌∷◌, ◌++◌, map, flat_map, length, Option, Some, None, refl, ap, sym, ◌∙◌, subst}
use Rattle.std.specs.Prelude.{nat_le, nat_lt, is_some}
use Rattle.std.specs.List.{list_any, list_all}
use Rattle.std.proofs.lemmas.Bool.{true≢false, or_parts, and_parts, eqb-true}
use Rattle.row_machine.specs.Valuation.{Place}
use Rattle.sv_types.specs.declared.expression.Expr.{Expr}
use Rattle.sv_types.specs.declared.statement.Local.{Local}
use Rattle.sv_types.specs.declared.statement.Way.{Way}
use Rattle.sv_types.specs.declared.statement.Way.TheVariants as Y
use Rattle.sv_types.specs.declared.statement.Outcome.TheVariants as O
use Rattle.sv_types.specs.declared.statement.Stmt.{Stmt}
use Rattle.sv_types.specs.declared.statement.CaseItem.{CaseItem}
use Rattle.sv_types.specs.Surroundings.{Sight, Parameter, Write, local_number}
use Rattle.sv_types.specs.Meanings.{Meaning}
use Rattle.sv_types.specs.Operators.{assigned_to}
use Rattle.sv_types.specs.Expressions.{meaning}
use Rattle.sv_types.specs.Runs.{is_true, most_turns}
use Rattle.sv_types.specs.Flows as F
use Rattle.sv_types.specs.Flows.{Flow, Flows, covers, covered, uses_of, whole_local, knowing}
use Rattle.sv_types.specs.Statements as S
use Rattle.sv_types.specs.Statements.{Doing, Item, doing, scope_flow, flows, marks_of, initial_of, flow_or_nothing, none_or, actual_roots, roots_by_way}
use Rattle.sv_types.proofs.DoingLevels as D
use Rattle.sv_types.proofs.DoingLevels.{item_of, perhaps}
use Rattle.flow_laws.specs.Runs.{Variables}
use Rattle.flow_laws.specs.Statements.{has_variables, is_plain}
use Rattle.flow_laws.proofs.Naming as N
use Rattle.flow_laws.proofs.Naming.{Tells, AllTell, all-tell, any-parts}
use Rattle.flow_laws.proofs.Placing.{covered-writes}
use Rattle.flow_laws.proofs.Levels as H
use Rattle.flow_laws.proofs.Terms.{Each, OrNone, Steps, by-stmt}

abbrev formals_of : Sight → ℕ → List Parameter
formals_of k f = (k.around.callee f).formals

abbrev named : Place → List ℕ → Bool
named q ns = list_any (λ (m : ℕ). m == q.signal) ns

-- a flow doesn't write the bit
abbrev Spares : Place → Flow → Type 0
Spares q f = covered (uses_of f.writes) q ≡ false

neither : (q : Place) (xs ys : List Write) → covered (uses_of xs) q ≡ false → covered (uses_of ys) q ≡ false → covered (uses_of (xs ++ ys)) q ≡ false
neither q xs ys h g = covered-writes xs ys q ∙ ap (λ b. b || covered (uses_of ys) q) h ∙ g

-- the bits of another local
other-local : (n : ℕ) (marks : List Bool) (q : Place) → (local_number n == q.signal) ≡ false → Spares q (F.setting n marks)
other-local n marks q is = ap (λ b. (b && (nat_le 0 q.bit && nat_lt q.bit (length marks))) || false) is

only-spares : (q : Place) (b : Bool) (f : Flows) (g : Flow) (k : Sight) → Spares q (f k) → Spares q g → Spares q (F.only_if b f g k)
only-spares q true f g k h h' = h
only-spares q false f g k h h' = h'

-- the turns of a loop spare what its body spares, but for its variable
turns-spare : (q : Place) (m n : ℕ) (marks : List Bool) (test step : Meaning) (body : Flows) → (local_number n == q.signal) ≡ false → (k : Sight)
    → ((j : Sight) → j.around.callee ≡ k.around.callee → Spares q (body j)) → (j : Sight) → j.around.callee ≡ k.around.callee → Spares q (F.turns m n marks test step body j)
unfolding F.turns
turns-spare q zero n marks test step body is k h j same =
    only-spares q (test.constant j && not (is_true test j.around)) (λ i. F.reading (test.reads i)) F.endless j refl refl
turns-spare q (suc m) n marks test step body is k h j same =
    only-spares q (test.constant j) (F.only_if (is_true test j.around) (λ i. F.and_then (F.reading (test.reads i)) (F.and_then (F.catching O.Continue (body i)) (F.only_if (step.constant i) again F.endless i))) (F.reading (test.reads j))) F.endless j
    (only-spares q (is_true test j.around) (λ i. F.and_then (F.reading (test.reads i)) (F.and_then (F.catching O.Continue (body i)) (F.only_if (step.constant i) again F.endless i))) (F.reading (test.reads j)) j
    (neither q (body j).writes (F.only_if (step.constant j) again F.endless j).writes (h j same) (only-spares q (step.constant j) again F.endless j (next (turns-spare q m n marks test step body is k h (knowing n marks (assigned_to marks step j.around) j) same)) refl)) refl) refl
  where
    again : Flows
    again i = F.and_then (F.and_then (F.reading (step.reads i)) (F.setting n marks)) (F.turns m n marks test step body (knowing n marks (assigned_to marks step i.around) i))

    next : Spares q (F.turns m n marks test step body (knowing n marks (assigned_to marks step j.around) j)) → Spares q (again j)
    next rest = neither q (F.setting n marks).writes (F.turns m n marks test step body (knowing n marks (assigned_to marks step j.around) j)).writes (other-local n marks q is) rest

-- outputs of a call
written-spare : (q : Place) (ps : List Parameter) (ms : List Meaning) (k : Sight) → AllTell ms → named q (actual_roots ps ms) ≡ false → Spares q (F.all_written_out ps ms k)
written-spare q [] ms k h is = refl
written-spare q (p ∷ ps) [] k h is = refl
written-spare q (p ∷ ps) (m ∷ ms) k h is =
    let two = any-parts (λ (n : ℕ). n == q.signal) (roots_by_way p.way m) (actual_roots ps ms) is in
    neither q (F.writes_out p.way m k).writes (F.all_written_out ps ms k).writes (by p.way two.0) (written-spare q ps ms k h.1 two.1)
  where
    by : (w : Way) → named q (roots_by_way w m) ≡ false → Spares q (F.writes_out w m k)
    by Y.Input g = refl
    by Y.Output g = h.0.roots k q g
    by Y.Inout g = h.0.roots k q g

module _ (vars : Variables) (q : Place) (is_variable : is_some (vars q.signal) ≡ true) where
  abbrev Leaves : Doing → Type 0
  Leaves d = (k : Sight) → named q (d.targets (formals_of k)) ≡ false → Spares q (d.flow k)

  abbrev Claim : Stmt → Type 0
  Claim s = has_variables vars s ≡ true → Leaves (doing s)

  abbrev ItemClaim : CaseItem → Type 0
  ItemClaim i = Claim i.body

  -- the locals of a block
  other-number : (l : Local) → is_plain vars l ≡ true → (local_number l.number == q.signal) ≡ false
  other-number l plain = by (local_number l.number == q.signal) refl
    where
      by : (b : Bool) → (local_number l.number == q.signal) ≡ b → b ≡ false
      by true is =
          absurd (true≢false (sym plain ∙ ap (λ n. not (is_some (vars n))) (eqb-true (local_number l.number) q.signal is) ∙ ap not is_variable))
      by false is = refl

  starting-spares : (l : Local) (first : Option Meaning) (k : Sight) → is_plain vars l ≡ true → Spares q (F.starting l.number (marks_of l) first k)
  starting-spares l None k plain = other-local l.number (marks_of l) q (other-number l plain)
  starting-spares l (Some m) k plain = other-local l.number (marks_of l) q (other-number l plain)

  unset-spares : (l : Local) (first : Option Meaning) (f : Flow) → Spares q f → Spares q (F.unset_in l.number (marks_of l) first f)
  unset-spares l None f h = h
  unset-spares l (Some m) f h = h

  scope-spares : (ls : List Local) (f : Flows) (k : Sight) → list_all (is_plain vars) ls ≡ true → Spares q (f k) → Spares q (scope_flow ls f k)
  scope-spares [] f k plain h = h
  scope-spares (l ∷ ls) f k plain h =
      let two = and_parts (is_plain vars l) (list_all (is_plain vars) ls) plain in
      neither q (F.starting l.number (marks_of l) (initial_of l) k).writes (F.unset_in l.number (marks_of l) (initial_of l) (scope_flow ls f k)).writes
      (starting-spares l (initial_of l) k two.0) (unset-spares l (initial_of l) (scope_flow ls f k) (scope-spares ls f k two.1 h))

  -- lists of statements
  all-spare : (ss : List Stmt) (k : Sight) → Each Claim ss → list_all (λ b. b) (map (has_variables vars) ss) ≡ true → named q (flat_map (λ (d : Doing). d.targets (formals_of k)) (map doing ss)) ≡ false
      → Spares q (F.in_turn (flows (map doing ss)) k)
  all-spare [] k h has is = refl
  all-spare (s ∷ ss) k h has is =
      let two = and_parts (has_variables vars s) (list_all (λ b. b) (map (has_variables vars) ss)) has in
      let free = any-parts (λ (n : ℕ). n == q.signal) ((doing s).targets (formals_of k)) (flat_map (λ (d : Doing). d.targets (formals_of k)) (map doing ss)) is in
      neither q ((doing s).flow k).writes (F.in_turn (flows (map doing ss)) k).writes (h.0 two.0 k free.0) (all-spare ss k h.1 two.1 free.1)

  other-spares : (other : Option Stmt) (k : Sight) → OrNone Claim other → H.perhaps_has vars other ≡ true → named q (flat_map (λ (d : Doing). d.targets (formals_of k)) (none_or (perhaps other))) ≡ false
      → Spares q (flow_or_nothing (perhaps other) k)
  other-spares None k h has is = refl
  other-spares (Some s) k h has is = h has k (any-parts (λ (n : ℕ). n == q.signal) ((doing s).targets (formals_of k)) [] is).0

  if-leaves : (on : Expr) (body : Stmt) (other : Option Stmt) → Claim body → OrNone Claim other → has_variables vars body ≡ true → H.perhaps_has vars other ≡ true → Leaves (S.branching (meaning on) (doing body) (perhaps other))
  if-leaves on body other h g has other_has k is =
      let free = any-parts (λ (n : ℕ). n == q.signal) ((doing body).targets (formals_of k)) (flat_map (λ (d : Doing). d.targets (formals_of k)) (none_or (perhaps other))) is in
      neither q ((doing body).flow k).writes (flow_or_nothing (perhaps other) k).writes (h has k free.0) (other-spares other k g other_has free.1)

  -- the items of a `case`
  items-spare : (is : List CaseItem) (other : Option Stmt) (k : Sight) → Each ItemClaim is → OrNone Claim other → list_all (λ b. b) (map (H.item_has vars) is) ≡ true → H.perhaps_has vars other ≡ true
      → named q (flat_map (λ (d : Doing). d.targets (formals_of k)) (map (λ (i : Item). i.does) (map item_of is) ++ none_or (perhaps other))) ≡ false
      → Spares q (F.any_of (map (λ (i : Item). i.does.flow) (map item_of is)) (flow_or_nothing (perhaps other) k) k)
  items-spare [] other k h g has other_has is = other-spares other k g other_has is
  items-spare (i ∷ is) other k h g has other_has free_all =
      let two = and_parts (H.item_has vars i) (list_all (λ b. b) (map (H.item_has vars) is)) has in
      let rest = flat_map (λ (d : Doing). d.targets (formals_of k)) (map (λ (x : Item). x.does) (map item_of is) ++ none_or (perhaps other)) in
      let free = any-parts (λ (n : ℕ). n == q.signal) ((item_of i).does.targets (formals_of k)) rest free_all in
      let leaves : Leaves (item_of i).does = subst Leaves (ap (λ (x : Item). x.does) (sym (D.item-of i))) (h.0 (sym (H.has-item vars i) ∙ two.0)) in
      neither q ((item_of i).does.flow k).writes (F.any_of (map (λ (x : Item). x.does.flow) (map item_of is)) (flow_or_nothing (perhaps other) k) k).writes (leaves k free.0)
      (items-spare is other k h.1 g two.1 other_has free.1)

  loop-leaves : (n : ℕ) (first test step : Meaning) (body : Stmt) → Claim body → has_variables vars body ≡ true → Leaves (S.looping n first test step (doing body))
  loop-leaves n first test step body h has k is =
      let two = or_parts (local_number n == q.signal) (named q ((doing body).targets (formals_of k))) is in
      let marks = first.of.two_state in
      let all = λ (j : Sight). F.catching O.Break (F.turns most_turns n marks test step (doing body).flow (knowing n marks (assigned_to marks first j.around) j)) in
      neither q (F.setting n marks).writes (F.only_if (first.constant k) all F.endless k).writes (other-local n marks q two.0)
      (only-spares q (first.constant k) all F.endless k
      (turns-spare q most_turns n marks test step (doing body).flow two.0 k (λ j same. h has j (ap (λ c. named q ((doing body).targets (λ f. (c f).formals))) same ∙ two.1)) (knowing n marks (assigned_to marks first k.around) k) refl) refl)

  assign-leaves : (later : Bool) (to : List Expr) (value : Meaning) → Leaves (S.assigning (map meaning to) value later)
  assign-leaves false to value k is = N.all-roots (map meaning to) k q (all-tell to) is
  assign-leaves true to value k is = refl

  made-leaves : (ls : List Local) (ss : List Stmt) (body : Option Stmt) → Each Claim ss → OrNone Claim body → list_all (is_plain vars) ls ≡ true → list_all (λ b. b) (map (has_variables vars) ss) ≡ true
      → H.perhaps_has vars body ≡ true → Leaves (S.made ls (map doing ss) (perhaps body))
  made-leaves ls ss None h g plain has body_has k is = scope-spares ls (F.in_turn (flows (map doing ss))) k plain (all-spare ss k h has is)
  made-leaves ls ss (Some s) h g plain has body_has k is =
      let free = split (map doing ss) is in
      scope-spares ls (λ j. F.and_then (record (F.in_turn (flows (map doing ss)) j) { statements = 0 }) ((doing s).flow j)) k plain
      (neither q (F.in_turn (flows (map doing ss)) k).writes ((doing s).flow k).writes (all-spare ss k h has free.0) (g body_has k free.1))
    where
      split : (ds : List Doing) → named q (flat_map (λ (d : Doing). d.targets (formals_of k)) (ds ++ doing s ∷ [])) ≡ false
          → (named q (flat_map (λ (d : Doing). d.targets (formals_of k)) ds) ≡ false) × (named q ((doing s).targets (formals_of k)) ≡ false)
      split [] f = (refl, (any-parts (λ (n : ℕ). n == q.signal) ((doing s).targets (formals_of k)) [] f).0)
      split (d ∷ ds) f =
          let two = any-parts (λ (n : ℕ). n == q.signal) (d.targets (formals_of k)) (flat_map (λ (e : Doing). e.targets (formals_of k)) (ds ++ doing s ∷ [])) f in
          let rest = split ds two.1 in
          (any-both (d.targets (formals_of k)) (flat_map (λ (e : Doing). e.targets (formals_of k)) ds) two.0 rest.0, rest.1)
        where
          any-both : (xs ys : List ℕ) → named q xs ≡ false → named q ys ≡ false → named q (xs ++ ys) ≡ false
          any-both [] ys x y = y
          any-both (z ∷ xs) ys x y = let both = or_parts (z == q.signal) (named q xs) x in ap (λ b. b || named q (xs ++ ys)) both.0 ∙ any-both xs ys both.1 y

  claims : Steps Claim ItemClaim
  claims = record {
    item = λ i h. h;
    block = λ ls ss h has.
        let two = and_parts (list_all (is_plain vars) ls) (list_all (λ b. b) (map (has_variables vars) ss)) (sym (H.has-Block vars ls ss) ∙ has) in
        subst Leaves (sym (D.doing-Block ls ss)) (λ k is. scope-spares ls (F.in_turn (flows (map doing ss))) k two.0 (all-spare ss k h two.1 is));
    branch = λ on body other h g has.
        let two = and_parts (has_variables vars body) (H.perhaps_has vars other) (sym (H.has-If vars on body other) ∙ has) in
        subst Leaves (sym (D.doing-If on body other)) (λ k is. if-leaves on body other h g two.0 two.1 k is);
    select = λ kind on is other h g has.
        let two = and_parts (list_all (λ b. b) (map (H.item_has vars) is)) (H.perhaps_has vars other) (sym (H.has-Case vars kind on is other) ∙ has) in
        subst Leaves (sym (D.doing-Case kind on is other)) (λ k free. items-spare is other k h g two.0 two.1 free);
    loop = λ n first test step body spot h has.
        subst Leaves (sym (D.doing-Loop n first test step body spot))
        (loop-leaves n (meaning first) (meaning test) (meaning step) body h (and_parts _ (has_variables vars body) (sym (H.has-Loop vars n first test step body spot) ∙ has)).1);
    assign = λ to value later spot has. subst Leaves (sym (D.doing-Assign to value later spot)) (λ k is. assign-leaves later to (meaning value) k is);
    call = λ f es spot has. subst Leaves (sym (D.doing-Call f es spot)) (λ k is. written-spare q (formals_of k f) (map meaning es) k (all-tell es) is);
    made = λ ls ss body h g has.
        let two = and_parts (list_all (is_plain vars) ls) (list_all (λ b. b) (map (has_variables vars) ss) && H.perhaps_has vars body) (sym (H.has-Made vars ls ss body) ∙ has) in
        let three = and_parts (list_all (λ b. b) (map (has_variables vars) ss)) (H.perhaps_has vars body) two.1 in
        subst Leaves (sym (D.doing-Made ls ss body)) (made-leaves ls ss body h g two.0 three.0 three.1);
    breaks = λ has. subst Leaves (sym D.doing-Break) (λ k is. refl);
    continues = λ has. subst Leaves (sym D.doing-Continue) (λ k is. refl);
    returns = λ has. subst Leaves (sym D.doing-Return) (λ k is. refl);
  }

  pub leaves : (s : Stmt) → has_variables vars s ≡ true → (k : Sight) → list_any (λ (m : ℕ). m == q.signal) ((doing s).targets (λ f. (k.around.callee f).formals)) ≡ false → covered (uses_of ((doing s).flow k).writes) q ≡ false
  leaves = by-stmt Claim ItemClaim claims
