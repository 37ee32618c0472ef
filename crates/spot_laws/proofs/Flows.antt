-- The tokens at which a flow reads and writes, by its parts.
use Rattle.std.proofs.Common.{◌≡◌, ℕ, zero, suc, ◌+◌, ◌^◌, Bool, true, false, ◌&&◌, not, cond, List, [], ◌∷◌, ◌++◌, filter, Option, Some, None, arith}
use Rattle.std.specs.Prelude.{length}
use Rattle.std.proofs.lemmas.Bool.{ltb-true}
use Rattle.row_machine.specs.Valuation.{Place}
use Rattle.row_machine.specs.Places.{places_of}
use Rattle.sv_types.specs.declared.statement.Local.{Local}
use Rattle.sv_types.specs.declared.statement.Outcome.{Outcome}
use Rattle.sv_types.specs.declared.statement.Outcome.TheVariants.{Normal, Break, Continue}
use Rattle.sv_types.specs.declared.statement.Way.{Way}
use Rattle.sv_types.specs.declared.statement.Way.TheVariants as W
use Rattle.sv_types.specs.Surroundings.{Parameter, Sight, Use, Write, local_number, is_signal}
use Rattle.sv_types.specs.Meanings.{Meaning}
use Rattle.sv_types.specs.Operators.{assigned_to}
use Rattle.sv_types.specs.Runs.{is_true, most_turns}
use Rattle.sv_types.specs.Flows as F
use Rattle.sv_types.specs.Flows.{Flow, Flows, covers, knowing}
use Rattle.sv_types.specs.Statements.{scope_flow, initial_of, marks_of}
use Rattle.sv_types.proofs.Terms.{Each}
use Rattle.spot_laws.proofs.Each.{each-append, each-map, each-flat, each-filter, each-cond, each-member}
use Rattle.spot_laws.proofs.Tells.{AtUse, AtWrite, Tells}

-- locals are no signals
local-is-none : (n : ℕ) → is_signal (local_number n) ≡ true → ⊥
local-is-none n is = let lt = ltb-true (2 ^ 32 + n) (2 ^ 32) is in omega (arith, lt)

module _ (S : ℕ → Type 0) where
  pub record Shows (f : Flow) : Type 0 where
    pub reads : Each (AtUse S) f.reads
    pub writes : Each (AtWrite S) f.writes
    pub later : Each (AtWrite S) f.later
    pub early : (q : Place) → Each S (f.early q)
    pub unset : Each S f.unset

  pub shows-nothing : Shows F.nothing
  shows-nothing = record { reads = tt; writes = tt; later = tt; early = λ q. tt; unset = tt }

  pub shows-reading : (us : List Use) → Each (AtUse S) us → Shows (F.reading us)
  shows-reading us h = record {
    reads = h;
    writes = tt;
    later = tt;
    early = λ q. each-map S (λ (u : Use). u.at) (filter (λ u. covers u q) us) (each-filter (AtUse S) (λ u. covers u q) us h);
    unset = tt;
  }

  pub shows-writing : (ws : List Write) → Each (AtWrite S) ws → Shows (F.writing ws)
  shows-writing ws h = record { reads = tt; writes = h; later = tt; early = λ q. tt; unset = tt }

  pub shows-writing-later : (ws : List Write) → Each (AtWrite S) ws → Shows (F.writing_later ws)
  shows-writing-later ws h = record { reads = tt; writes = tt; later = h; early = λ q. tt; unset = tt }

  pub shows-jumping : (o : Outcome) → Shows (F.jumping o)
  shows-jumping o = record { reads = tt; writes = tt; later = tt; early = λ q. tt; unset = tt }

  pub shows-then : (f g : Flow) → Shows f → Shows g → Shows (F.and_then f g)
  shows-then f g h i = record {
    reads = each-append (AtUse S) f.reads g.reads h.reads i.reads;
    writes = each-append (AtWrite S) f.writes g.writes h.writes i.writes;
    later = each-append (AtWrite S) f.later g.later h.later i.later;
    early = λ q. each-append S (f.early q) (cond (f.slips Normal q) (g.early q) []) (h.early q) (each-cond S (f.slips Normal q) (g.early q) [] (i.early q) tt);
    unset = each-append S f.unset (cond (f.ends Normal) g.unset []) h.unset (each-cond S (f.ends Normal) g.unset [] i.unset tt);
  }

  pub shows-either : (f g : Flow) → Shows f → Shows g → Shows (F.or_else f g)
  shows-either f g h i = record {
    reads = each-append (AtUse S) f.reads g.reads h.reads i.reads;
    writes = each-append (AtWrite S) f.writes g.writes h.writes i.writes;
    later = each-append (AtWrite S) f.later g.later h.later i.later;
    early = λ q. each-append S (f.early q) (g.early q) (h.early q) (i.early q);
    unset = each-append S f.unset g.unset h.unset i.unset;
  }

  pub shows-counted : (f : Flow) → Shows f → Shows (F.counted f)
  shows-counted f h = record { reads = h.reads; writes = h.writes; later = h.later; early = h.early; unset = h.unset }

  pub shows-uncounted : (f : Flow) → Shows f → Shows (record f { statements = 0 })
  shows-uncounted f h = record { reads = h.reads; writes = h.writes; later = h.later; early = h.early; unset = h.unset }

  shows-catching : (o : Outcome) (f : Flow) → Shows f → Shows (F.catching o f)
  shows-catching o f h = record { reads = h.reads; writes = h.writes; later = h.later; early = h.early; unset = h.unset }

  shows-endless : Shows F.endless
  shows-endless = record { reads = tt; writes = tt; later = tt; early = λ q. tt; unset = tt }

  -- flows of statements, whatever is known
  abbrev pub AllShow : List Flows → Type 0
  AllShow fs = Each (λ (f : Flows). (k : Sight) → Shows (f k)) fs

  pub shows-turn : (fs : List Flows) → AllShow fs → (k : Sight) → Shows (F.in_turn fs k)
  shows-turn [] h k = shows-nothing
  shows-turn (f ∷ fs) h k = shows-then (f k) (F.in_turn fs k) (h.0 k) (shows-turn fs h.1 k)

  pub shows-any : (fs : List Flows) (other : Flow) (k : Sight) → AllShow fs → Shows other → Shows (F.any_of fs other k)
  shows-any [] other k h g = g
  shows-any (f ∷ fs) other k h g = shows-either (f k) (F.any_of fs other k) (h.0 k) (shows-any fs other k h.1 g)

  -- reads and writes of expressions
  pub all-reads : (ms : List Meaning) → Each (Tells S) ms → (k : Sight) → Each (AtUse S) (F.all_reads ms k)
  all-reads [] h k = tt
  all-reads (m ∷ ms) h k = each-append (AtUse S) (m.reads k) (F.all_reads ms k) (h.0.reads k) (all-reads ms h.1 k)

  all-indices : (ms : List Meaning) → Each (Tells S) ms → (k : Sight) → Each (AtUse S) (F.all_indices ms k)
  all-indices [] h k = tt
  all-indices (m ∷ ms) h k = each-append (AtUse S) (m.indices k) (F.all_indices ms k) (h.0.indices k) (all-indices ms h.1 k)

  all-writes : (ms : List Meaning) → Each (Tells S) ms → (k : Sight) → Each (AtWrite S) (F.all_writes ms k)
  all-writes [] h k = tt
  all-writes (m ∷ ms) h k = each-append (AtWrite S) (m.writes k) (F.all_writes ms k) (h.0.writes k) (all-writes ms h.1 k)

  pub shows-assigning : (later : Bool) (to : List Meaning) (value : Meaning) → Each (Tells S) to → Tells S value → (k : Sight) → Shows (F.assigning later to value k)
  shows-assigning later to value h g k = by later
    where
      reads : Shows (F.reading (F.all_indices to k ++ value.reads k))
      reads = shows-reading (F.all_indices to k ++ value.reads k) (each-append (AtUse S) (F.all_indices to k) (value.reads k) (all-indices to h k) (g.reads k))

      by : (b : Bool) → Shows (F.assigning b to value k)
      by false = shows-then (F.reading (F.all_indices to k ++ value.reads k)) (F.writing (F.all_writes to k)) reads (shows-writing (F.all_writes to k) (all-writes to h k))
      by true = shows-then (F.reading (F.all_indices to k ++ value.reads k)) (F.writing_later (F.all_writes to k)) reads (shows-writing-later (F.all_writes to k) (all-writes to h k))

  shows-setting : (n : ℕ) (two_state : List Bool) → Shows (F.setting n two_state)
  shows-setting n two_state = shows-writing (record { of = F.whole_local n two_state; exact = true } ∷ []) ((λ is. absurd (local-is-none n is)), tt)

  -- locals
  abbrev pub TellsOrNone : Option Meaning → Type 0
  TellsOrNone None = Unit {0}
  TellsOrNone (Some m) = Tells S m

  shows-starting : (n : ℕ) (two_state : List Bool) (first : Option Meaning) → TellsOrNone first → (k : Sight) → Shows (F.starting n two_state first k)
  shows-starting n two_state None h k = shows-setting n two_state
  shows-starting n two_state (Some m) h k = shows-then (F.reading (m.reads k)) (F.setting n two_state) (shows-reading (m.reads k) (h.reads k)) (shows-setting n two_state)

  shows-unset : (n : ℕ) (two_state : List Bool) (first : Option Meaning) (f : Flow) → Shows f → Shows (F.unset_in n two_state first f)
  shows-unset n two_state None f h = record {
    reads = h.reads;
    writes = h.writes;
    later = h.later;
    early = h.early;
    unset = each-append S f.unset (F.early_of n two_state f) h.unset
        (each-flat S f.early (places_of (local_number n) (length two_state)) (each-member (λ q. Each S (f.early q)) (places_of (local_number n) (length two_state)) (λ q m. h.early q)));
  }
  shows-unset n two_state (Some m) f h = h

  -- what each local starts with
  abbrev pub Starts : List Local → Type 0
  Starts ls = Each (λ (l : Local). TellsOrNone (initial_of l)) ls

  pub shows-scope : (ls : List Local) (f : Flows) → Starts ls → ((k : Sight) → Shows (f k)) → (k : Sight) → Shows (scope_flow ls f k)
  shows-scope [] f h g k = g k
  shows-scope (l ∷ ls) f h g k =
      shows-then (F.starting l.number (marks_of l) (initial_of l) k) (F.unset_in l.number (marks_of l) (initial_of l) (scope_flow ls f k))
      (shows-starting l.number (marks_of l) (initial_of l) h.0 k)
      (shows-unset l.number (marks_of l) (initial_of l) (scope_flow ls f k) (shows-scope ls f h.1 g k))

  -- loops
  shows-if : (b : Bool) (f : Flows) (g : Flow) (k : Sight) → Shows (f k) → Shows g → Shows (F.only_if b f g k)
  shows-if true f g k h i = h
  shows-if false f g k h i = i

  -- a turn with all that follows it
  abbrev again_by : ℕ → List Bool → Meaning → Flows → Flows
  again_by n two_state step next k =
      F.and_then (F.and_then (F.reading (step.reads k)) (F.setting n two_state)) (next (knowing n two_state (assigned_to two_state step k.around) k))

  abbrev turn_by : ℕ → List Bool → Meaning → Meaning → Flows → Flows → Flows
  turn_by n two_state test step body next k =
      F.and_then (F.reading (test.reads k)) (F.and_then (F.catching Continue (body k)) (F.only_if (step.constant k) (again_by n two_state step next) F.endless k))

  shows-turn-by : (n : ℕ) (two_state : List Bool) (test step : Meaning) (body next : Flows) → Tells S test → Tells S step → ((k : Sight) → Shows (body k)) → ((k : Sight) → Shows (next k))
      → (k : Sight) → Shows (turn_by n two_state test step body next k)
  shows-turn-by n two_state test step body next h g i f k =
      shows-then (F.reading (test.reads k)) (F.and_then (F.catching Continue (body k)) (F.only_if (step.constant k) (again_by n two_state step next) F.endless k))
      (shows-reading (test.reads k) (h.reads k))
      (shows-then (F.catching Continue (body k)) (F.only_if (step.constant k) (again_by n two_state step next) F.endless k) (shows-catching Continue (body k) (i k))
      (shows-if (step.constant k) (again_by n two_state step next) F.endless k
      (shows-then (F.and_then (F.reading (step.reads k)) (F.setting n two_state)) (next (knowing n two_state (assigned_to two_state step k.around) k))
      (shows-then (F.reading (step.reads k)) (F.setting n two_state) (shows-reading (step.reads k) (g.reads k)) (shows-setting n two_state))
      (f (knowing n two_state (assigned_to two_state step k.around) k)))
      shows-endless))

  shows-turns : (m n : ℕ) (two_state : List Bool) (test step : Meaning) (body : Flows) → Tells S test → Tells S step → ((k : Sight) → Shows (body k)) → (k : Sight)
      → Shows (F.turns m n two_state test step body k)
  unfolding F.turns
  shows-turns zero n two_state test step body h g i k =
      shows-if (test.constant k && not (is_true test k.around)) (λ j. F.reading (test.reads j)) F.endless k (shows-reading (test.reads k) (h.reads k)) shows-endless
  shows-turns (suc m) n two_state test step body h g i k =
      shows-if (test.constant k) (F.only_if (is_true test k.around) (turn_by n two_state test step body (F.turns m n two_state test step body)) (F.reading (test.reads k))) F.endless k
      (shows-if (is_true test k.around) (turn_by n two_state test step body (F.turns m n two_state test step body)) (F.reading (test.reads k)) k
      (shows-turn-by n two_state test step body (F.turns m n two_state test step body) h g i (shows-turns m n two_state test step body h g i) k)
      (shows-reading (test.reads k) (h.reads k)))
      shows-endless

  pub shows-looping : (n : ℕ) (first test step : Meaning) (body : Flows) → Tells S first → Tells S test → Tells S step → ((k : Sight) → Shows (body k)) → (k : Sight)
      → Shows (F.looping n first test step body k)
  shows-looping n first test step body f h g i k =
      shows-then (F.and_then (F.reading (first.reads k)) (F.setting n marks)) (F.only_if (first.constant k) all F.endless k)
      (shows-then (F.reading (first.reads k)) (F.setting n marks) (shows-reading (first.reads k) (f.reads k)) (shows-setting n marks))
      (shows-if (first.constant k) all F.endless k
      (shows-catching Break (F.turns most_turns n marks test step body (knowing n marks (assigned_to marks first k.around) k))
      (shows-turns most_turns n marks test step body h g i (knowing n marks (assigned_to marks first k.around) k))) shows-endless)
    where
      marks : List Bool
      marks = first.of.two_state

      all : Flows
      all j = F.catching Break (F.turns most_turns n marks test step body (knowing n marks (assigned_to marks first j.around) j))

  -- calls
  read-in : (way : Way) (m : Meaning) → Tells S m → (k : Sight) → Each (AtUse S) (F.reads_in way m k)
  read-in W.Input m h k = h.reads k
  read-in W.Output m h k = tt
  read-in W.Inout m h k = h.reads k

  all-read-in : (ps : List Parameter) (ms : List Meaning) → Each (Tells S) ms → (k : Sight) → Each (AtUse S) (F.all_read_in ps ms k)
  all-read-in [] ms h k = tt
  all-read-in (p ∷ ps) [] h k = tt
  all-read-in (p ∷ ps) (m ∷ ms) h k = each-append (AtUse S) (F.reads_in p.way m k) (F.all_read_in ps ms k) (read-in p.way m h.0 k) (all-read-in ps ms h.1 k)

  written-out : (way : Way) (m : Meaning) → Tells S m → (k : Sight) → Shows (F.writes_out way m k)
  written-out W.Input m h k = shows-nothing
  written-out W.Output m h k = shows-then (F.reading (m.indices k)) (F.writing (m.writes k)) (shows-reading (m.indices k) (h.indices k)) (shows-writing (m.writes k) (h.writes k))
  written-out W.Inout m h k = shows-then (F.reading (m.indices k)) (F.writing (m.writes k)) (shows-reading (m.indices k) (h.indices k)) (shows-writing (m.writes k) (h.writes k))

  all-written-out : (ps : List Parameter) (ms : List Meaning) → Each (Tells S) ms → (k : Sight) → Shows (F.all_written_out ps ms k)
  all-written-out [] ms h k = shows-nothing
  all-written-out (p ∷ ps) [] h k = shows-nothing
  all-written-out (p ∷ ps) (m ∷ ms) h k = shows-then (F.writes_out p.way m k) (F.all_written_out ps ms k) (written-out p.way m h.0 k) (all-written-out ps ms h.1 k)

  pub shows-calling : (f : ℕ) (ms : List Meaning) → Each (Tells S) ms → (k : Sight) → Shows (F.calling f ms k)
  shows-calling f ms h k =
      shows-then (F.reading (F.all_read_in formals ms k)) (F.all_written_out formals ms k) (shows-reading (F.all_read_in formals ms k) (all-read-in formals ms h k)) (all-written-out formals ms h k)
    where
      formals : List Parameter
      formals = (k.around.callee f).formals
