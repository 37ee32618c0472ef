-- What a path reads before it writes is among the reads.
use Rattle.std.proofs.Common.{◌≡◌, ◌⊎◌, inl, inr, ℕ, zero, suc, Bool, true, false, ◌&&◌, ◌||◌, not, cond, List, [], ◌∷◌, ◌++◌, map, filter, Option, Some, None, refl, ap, sym, subst}
use Rattle.std.proofs.lemmas.Bool.{false≢true}
use Rattle.row_machine.specs.Valuation.{Place}
use Rattle.sv_types.specs.declared.statement.Local.{Local}
use Rattle.sv_types.specs.declared.statement.Way.{Way}
use Rattle.sv_types.specs.declared.statement.Way.TheVariants as Y
use Rattle.sv_types.specs.declared.statement.Outcome.TheVariants as O
use Rattle.sv_types.specs.declared.statement.Stmt.{Stmt}
use Rattle.sv_types.specs.declared.statement.CaseItem.{CaseItem}
use Rattle.sv_types.specs.Surroundings.{Sight, Parameter, Use}
use Rattle.sv_types.specs.Meanings.{Meaning}
use Rattle.sv_types.specs.Operators.{assigned_to}
use Rattle.sv_types.specs.Expressions.{meaning}
use Rattle.sv_types.specs.Runs.{is_true, most_turns}
use Rattle.sv_types.specs.Flows as F
use Rattle.sv_types.specs.Flows.{Flow, Flows, covers, covered, knowing}
use Rattle.sv_types.specs.Statements as S
use Rattle.sv_types.specs.Statements.{Doing, Item, doing, scope_flow, flows, marks_of, initial_of, flow_or_nothing}
use Rattle.sv_types.proofs.DoingLevels as D
use Rattle.sv_types.proofs.DoingLevels.{item_of, perhaps}
use Rattle.flow_laws.specs.Runs.{some_token}
use Rattle.flow_laws.proofs.Agreeing.{covered-left, covered-right}
use Rattle.flow_laws.proofs.Terms.{Each, OrNone, Steps, by-stmt}

some-parts : (ts us : List ℕ) → some_token (ts ++ us) ≡ true → (some_token ts ≡ true) ⊎ (some_token us ≡ true)
some-parts [] us h = inr h
some-parts (t ∷ ts) us h = inl refl

some-if : (b : Bool) (ts : List ℕ) → some_token (cond b ts []) ≡ true → some_token ts ≡ true
some-if true ts h = h
some-if false ts h = absurd (false≢true h)

module _ (q : Place) where
  abbrev EarlyRead : Flow → Type 0
  EarlyRead f = some_token (f.early q) ≡ true → covered f.reads q ≡ true

  abbrev AllEarly : Flows → Type 0
  AllEarly f = (k : Sight) → EarlyRead (f k)

  reading-early : (us : List Use) → EarlyRead (F.reading us)
  reading-early [] h = absurd (false≢true h)
  reading-early (u ∷ us) h = by (covers u q) h (reading-early us)
    where
      by : (b : Bool) → some_token (map (λ (v : Use). v.at) (cond b (u ∷ filter (λ v. covers v q) us) (filter (λ v. covers v q) us))) ≡ true
          → (some_token (map (λ (v : Use). v.at) (filter (λ v. covers v q) us)) ≡ true → covered us q ≡ true) → (b || covered us q) ≡ true
      by true g f = refl
      by false g f = f g

  nothing-early : (us : List Use) → some_token [] ≡ true → covered us q ≡ true
  nothing-early us h = absurd (false≢true h)

  then-early : (f g : Flow) → EarlyRead f → EarlyRead g → EarlyRead (F.and_then f g)
  then-early f g h h' is = by (some-parts (f.early q) (cond (f.slips O.Normal q) (g.early q) []) is)
    where
      by : (some_token (f.early q) ≡ true) ⊎ (some_token (cond (f.slips O.Normal q) (g.early q) []) ≡ true) → covered (f.reads ++ g.reads) q ≡ true
      by (inl x) = covered-left f.reads g.reads q (h x)
      by (inr y) = covered-right f.reads g.reads q (h' (some-if (f.slips O.Normal q) (g.early q) y))

  else-early : (f g : Flow) → EarlyRead f → EarlyRead g → EarlyRead (F.or_else f g)
  else-early f g h h' is = by (some-parts (f.early q) (g.early q) is)
    where
      by : (some_token (f.early q) ≡ true) ⊎ (some_token (g.early q) ≡ true) → covered (f.reads ++ g.reads) q ≡ true
      by (inl x) = covered-left f.reads g.reads q (h x)
      by (inr y) = covered-right f.reads g.reads q (h' y)

  only-early : (b : Bool) (f : Flows) (g : Flow) (k : Sight) → EarlyRead (f k) → EarlyRead g → EarlyRead (F.only_if b f g k)
  only-early true f g k h h' = h
  only-early false f g k h h' = h'

  -- behind reads a write
  read-then : (us : List Use) (g : Flow) → EarlyRead g → EarlyRead (F.and_then (F.reading us) g)
  read-then us g h = then-early (F.reading us) g (reading-early us) h

  setting-early : (n : ℕ) (marks : List Bool) → EarlyRead (F.setting n marks)
  setting-early n marks h = absurd (false≢true h)

  endless-early : EarlyRead F.endless
  endless-early h = absurd (false≢true h)

  turns-early : (m n : ℕ) (marks : List Bool) (test step : Meaning) (body : Flows) → AllEarly body → (k : Sight) → EarlyRead (F.turns m n marks test step body k)
  unfolding F.turns
  turns-early zero n marks test step body h k =
      only-early (test.constant k && not (is_true test k.around)) (λ j. F.reading (test.reads j)) F.endless k (reading-early (test.reads k)) endless-early
  turns-early (suc m) n marks test step body h k =
      only-early (test.constant k) (F.only_if (is_true test k.around) turn (F.reading (test.reads k))) F.endless k
      (only-early (is_true test k.around) turn (F.reading (test.reads k)) k
      (read-then (test.reads k) (F.and_then (F.catching O.Continue (body k)) (F.only_if (step.constant k) again F.endless k))
      (then-early (F.catching O.Continue (body k)) (F.only_if (step.constant k) again F.endless k) (h k)
      (only-early (step.constant k) again F.endless k (next (turns-early m n marks test step body h (knowing n marks (assigned_to marks step k.around) k))) endless-early)))
      (reading-early (test.reads k))) endless-early
    where
      again : Flows
      again j = F.and_then (F.and_then (F.reading (step.reads j)) (F.setting n marks)) (F.turns m n marks test step body (knowing n marks (assigned_to marks step j.around) j))

      turn : Flows
      turn j = F.and_then (F.reading (test.reads j)) (F.and_then (F.catching O.Continue (body j)) (F.only_if (step.constant j) again F.endless j))

      next : EarlyRead (F.turns m n marks test step body (knowing n marks (assigned_to marks step k.around) k)) → EarlyRead (again k)
      next rest =
          then-early (F.and_then (F.reading (step.reads k)) (F.setting n marks)) (F.turns m n marks test step body (knowing n marks (assigned_to marks step k.around) k))
          (read-then (step.reads k) (F.setting n marks) (setting-early n marks)) rest

  loop-early : (n : ℕ) (first test step : Meaning) (body : Flows) → AllEarly body → AllEarly (F.looping n first test step body)
  loop-early n first test step body h k =
      let marks = first.of.two_state in
      let all = λ (j : Sight). F.catching O.Break (F.turns most_turns n marks test step body (knowing n marks (assigned_to marks first j.around) j)) in
      then-early (F.and_then (F.reading (first.reads k)) (F.setting n marks)) (F.only_if (first.constant k) all F.endless k) (read-then (first.reads k) (F.setting n marks) (setting-early n marks))
      (only-early (first.constant k) all F.endless k (turns-early most_turns n marks test step body h (knowing n marks (assigned_to marks first k.around) k)) endless-early)

  abbrev Claim : Stmt → Type 0
  Claim s = AllEarly (doing s).flow

  abbrev ItemClaim : CaseItem → Type 0
  ItemClaim i = Claim i.body

  -- blocks
  starting-early : (l : Local) (first : Option Meaning) (k : Sight) → EarlyRead (F.starting l.number (marks_of l) first k)
  starting-early l None k = setting-early l.number (marks_of l)
  starting-early l (Some m) k = read-then (m.reads k) (F.setting l.number (marks_of l)) (setting-early l.number (marks_of l))

  unset-early : (l : Local) (first : Option Meaning) (f : Flow) → EarlyRead f → EarlyRead (F.unset_in l.number (marks_of l) first f)
  unset-early l None f h = h
  unset-early l (Some m) f h = h

  scope-early : (ls : List Local) (f : Flows) → AllEarly f → AllEarly (scope_flow ls f)
  scope-early [] f h k = h k
  scope-early (l ∷ ls) f h k =
      then-early (F.starting l.number (marks_of l) (initial_of l) k) (F.unset_in l.number (marks_of l) (initial_of l) (scope_flow ls f k)) (starting-early l (initial_of l) k)
      (unset-early l (initial_of l) (scope_flow ls f k) (scope-early ls f h k))

  all-early : (ss : List Stmt) → Each Claim ss → AllEarly (F.in_turn (flows (map doing ss)))
  all-early [] h k = λ is. absurd (false≢true is)
  all-early (s ∷ ss) h k = then-early ((doing s).flow k) (F.in_turn (flows (map doing ss)) k) (h.0 k) (all-early ss h.1 k)

  other-early : (other : Option Stmt) → OrNone Claim other → AllEarly (flow_or_nothing (perhaps other))
  other-early None h k = λ is. absurd (false≢true is)
  other-early (Some s) h k = h k

  items-early : (is : List CaseItem) (other : Flow) → Each ItemClaim is → EarlyRead other → (k : Sight) → EarlyRead (F.any_of (map (λ (i : Item). i.does.flow) (map item_of is)) other k)
  items-early [] other h g k = g
  items-early (i ∷ is) other h g k =
      else-early ((item_of i).does.flow k) (F.any_of (map (λ (x : Item). x.does.flow) (map item_of is)) other k)
      (subst (λ (d : Doing). AllEarly d.flow) (ap (λ (x : Item). x.does) (sym (D.item-of i))) h.0 k) (items-early is other h.1 g k)

  assign-early : (later : Bool) (to : List Meaning) (value : Meaning) → AllEarly (F.assigning later to value)
  assign-early false to value k = read-then (F.all_indices to k ++ value.reads k) (F.writing (F.all_writes to k)) (λ h. absurd (false≢true h))
  assign-early true to value k = read-then (F.all_indices to k ++ value.reads k) (F.writing_later (F.all_writes to k)) (λ h. absurd (false≢true h))

  written-early : (ps : List Parameter) (ms : List Meaning) → AllEarly (F.all_written_out ps ms)
  written-early [] ms k = λ h. absurd (false≢true h)
  written-early (p ∷ ps) [] k = λ h. absurd (false≢true h)
  written-early (p ∷ ps) (m ∷ ms) k = then-early (F.writes_out p.way m k) (F.all_written_out ps ms k) (by p.way) (written-early ps ms k)
    where
      by : (w : Way) → EarlyRead (F.writes_out w m k)
      by Y.Input = λ h. absurd (false≢true h)
      by Y.Output = read-then (m.indices k) (F.writing (m.writes k)) (λ h. absurd (false≢true h))
      by Y.Inout = read-then (m.indices k) (F.writing (m.writes k)) (λ h. absurd (false≢true h))

  call-early : (f : ℕ) (ms : List Meaning) → AllEarly (F.calling f ms)
  call-early f ms k =
      let formals = (k.around.callee f).formals in
      read-then (F.all_read_in formals ms k) (F.all_written_out formals ms k) (written-early formals ms k)

  made-early : (ls : List Local) (ss : List Stmt) (body : Option Stmt) → Each Claim ss → OrNone Claim body → AllEarly (S.made ls (map doing ss) (perhaps body)).flow
  made-early ls ss None h g k = scope-early ls (F.in_turn (flows (map doing ss))) (all-early ss h) k
  made-early ls ss (Some s) h g k =
      scope-early ls (λ j. F.and_then (record (F.in_turn (flows (map doing ss)) j) { statements = 0 }) ((doing s).flow j))
      (λ j. then-early (record (F.in_turn (flows (map doing ss)) j) { statements = 0 }) ((doing s).flow j) (all-early ss h j) (g j)) k

  abbrev of-flow : Doing → Type 0
  of-flow d = AllEarly d.flow

  claims : Steps Claim ItemClaim
  claims = record {
    item = λ i h. h;
    block = λ ls ss h. subst of-flow (sym (D.doing-Block ls ss)) (λ k. scope-early ls (F.in_turn (flows (map doing ss))) (all-early ss h) k);
    branch = λ on body other h g. subst of-flow (sym (D.doing-If on body other)) (λ k.
        read-then ((meaning on).reads k) (F.or_else ((doing body).flow k) (flow_or_nothing (perhaps other) k)) (else-early ((doing body).flow k) (flow_or_nothing (perhaps other) k) (h k) (other-early other g k)));
    select = λ kind on is other h g. subst of-flow (sym (D.doing-Case kind on is other)) (λ k.
        read-then _ (F.any_of (map (λ (i : Item). i.does.flow) (map item_of is)) (flow_or_nothing (perhaps other) k) k) (items-early is (flow_or_nothing (perhaps other) k) h (other-early other g k) k));
    loop = λ n first test step body spot h. subst of-flow (sym (D.doing-Loop n first test step body spot)) (loop-early n (meaning first) (meaning test) (meaning step) (doing body).flow h);
    assign = λ to value later spot. subst of-flow (sym (D.doing-Assign to value later spot)) (λ k. assign-early later (map meaning to) (meaning value) k);
    call = λ f es spot. subst of-flow (sym (D.doing-Call f es spot)) (λ k. call-early f (map meaning es) k);
    made = λ ls ss body h g. subst of-flow (sym (D.doing-Made ls ss body)) (made-early ls ss body h g);
    breaks = subst of-flow (sym D.doing-Break) (λ k h. absurd (false≢true h));
    continues = subst of-flow (sym D.doing-Continue) (λ k h. absurd (false≢true h));
    returns = subst of-flow (sym D.doing-Return) (λ k h. absurd (false≢true h));
  }

  pub early-read : (s : Stmt) (k : Sight) → some_token (((doing s).flow k).early q) ≡ true → covered ((doing s).flow k).reads q ≡ true
  early-read = by-stmt Claim ItemClaim claims
