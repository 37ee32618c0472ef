-- What is known of a statement before it runs holds in each run from a state in which statements go on.
use Rattle.std.specs.Prelude.{◌≡◌, ℕ, Bool, true, false, ◌&&◌, ◌||◌, nat_le, not, List, [], ◌∷◌, Option, Some, None, is_some}
use Rattle.row_machine.specs.Valuation.{Place}
use Rattle.sv_types.specs.declared.statement.Outcome.TheVariants.{Normal}
use Rattle.sv_types.specs.Surroundings.{Around, Sight, Use, is_signal}
use Rattle.sv_types.specs.Runs.{Run, State, current}
use Rattle.sv_types.specs.Flows.{Flow, covered, uses_of}
use Rattle.flow_laws.specs.Hangs.{Seen, Agree}

-- Of the locals that are variables of loops, by their numbers among signals and locals, how many bits each has.
abbrev pub Variables : Type 0
Variables = ℕ → Option ℕ

abbrev pub is_above : Option ℕ → ℕ → Bool
is_above None bit = false
is_above (Some w) bit = nat_le w bit

-- a bit that the variable of a loop doesn't have
abbrev pub is_beyond : Variables → Place → Bool
is_beyond vars q = not (is_signal q.signal) && is_above (vars q.signal) q.bit

-- A run may start: nothing jumped, and the sight knows of what is held now, also of bits that the variables of loops don't
-- have.
pub record Starts (vars : Variables) (k : Sight) (a : Around) (s : State) : Type 0 where
  pub normal : s.outcome ≡ Normal
  pub seen : Seen k (current a s)
  pub beyond : (q : Place) → is_beyond vars q ≡ true → (current a s).now q ≡ k.around.now q

-- the same bits were written, the same are pending, and both end alike
pub record Alike (s t : State) : Type 0 where
  pub written : (q : Place) → s.written q ≡ t.written q
  pub pending : (q : Place) → s.pending q ≡ t.pending q
  pub outcome : s.outcome ≡ t.outcome

abbrev pub some_token : List ℕ → Bool
some_token [] = false
some_token (t ∷ ts) = true

-- both hold the same bits where a path reads before it writes
abbrev pub AlikeEarly : Flow → Around → Around → State → State → Type 0
AlikeEarly f a b s t = (q : Place) → some_token (f.early q) ≡ true → (current a s).now q ≡ (current b t).now q

-- Each run ends as a path does, writes no bit that isn't said to be written, keeps what was written and writes each bit that
-- no path leaves out which ends so. What it writes hangs on what it reads early.
pub record ConformsBy (vars : Variables) (us : List Use) (k : Sight) (r : Run) (f : Flow) : Type 0 where
  pub ends : (a : Around) (s : State) → Starts vars k a s → f.ends (r a s).outcome ≡ true
  pub within : (a : Around) (s : State) → Starts vars k a s → (q : Place) → covered (uses_of f.writes) q ≡ false → (r a s).written q ≡ s.written q
  pub later : (a : Around) (s : State) → Starts vars k a s → (q : Place) → covered (uses_of f.later) q ≡ false → (r a s).pending q ≡ s.pending q
  pub grows : (a : Around) (s : State) → Starts vars k a s → (q : Place) → is_some (s.written q) ≡ true → is_some ((r a s).written q) ≡ true
  pub sure : (a : Around) (s : State) → Starts vars k a s → (q : Place) → f.slips (r a s).outcome q ≡ false → is_some ((r a s).written q) ≡ true
  pub same : (a b : Around) (s t : State) → Starts vars k a s → Starts vars k b t → Alike s t → Agree us (current a s) (current b t) → AlikeEarly f a b s t → Alike (r a s) (r b t)

-- as far as it hangs on nothing else
abbrev pub Conforms : Variables → Sight → Run → Flow → Type 0
Conforms vars = ConformsBy vars []

-- no bit of what is sure is said to be written, and none that the variable of a loop doesn't have
abbrev pub Apart : Variables → Sight → Flow → Type 0
Apart vars k f = (q : Place) → (is_beyond vars q || k.sure (record { signal = q.signal; bit = 0 })) ≡ true → covered (uses_of f.writes) q ≡ false
