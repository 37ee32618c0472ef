-- What is known of a statement before it runs, by all its paths: what it reads and writes, bit by bit, loops being their
-- unrolled lists. At each condition a path may go either way, also where the condition is a constant.
use Rattle.std.specs.Prelude.{ℕ, zero, suc, ◌+◌, Bool, true, false, ◌&&◌, ◌||◌, ◌==◌, nat_le, nat_lt, not, cond, List, [], ◌∷◌, ◌++◌, length, map, flat_map, filter, Option, Some, None}
use Rattle.std.specs.List.{list_any}
use Rattle.b4_core.specs.declared.bit.Bit4.{Bit4}
use Rattle.picks.specs.RowMachine.{Place, put}
use Rattle.picks.specs.RowMachine.{places_of}
use Rattle.sv_types.specs.declared.statement.Outcome.{Outcome}
use Rattle.sv_types.specs.declared.statement.Outcome.TheVariants.{Normal, Break, Continue, Return}
use Rattle.sv_types.specs.declared.statement.Way.{Way}
use Rattle.sv_types.specs.declared.statement.Way.TheVariants as W
use Rattle.sv_types.specs.Surroundings.{Parameter, Use, Write, Sight, local_number}
use Rattle.sv_types.specs.Meanings.{Meaning}
use Rattle.sv_types.specs.Operators.{assigned_to}
use Rattle.sv_types.specs.Runs.{is_normal, is_true, set_local, most_turns}

-- All reads, blocking writes and nonblocking writes, in order; whether a path ends in some way, and whether one that does
-- leaves a bit unwritten; the tokens at which a path reads a bit before it wrote it, and those at which it reads a block's
-- own local before it wrote it; whether no loop makes more turns than are allowed; and how many statements run, each counted
-- by itself.
pub record Flow : Type 0 where
  pub reads : List Use
  pub writes : List Write
  pub later : List Write
  pub ends : Outcome → Bool
  pub slips : Outcome → Place → Bool
  pub early : Place → List ℕ
  pub unset : List ℕ
  pub unrolls : Bool
  pub statements : ℕ

abbrev pub same_outcome : Outcome → Outcome → Bool
same_outcome Normal Normal = true
same_outcome Break Break = true
same_outcome Continue Continue = true
same_outcome Return Return = true
same_outcome _ _ = false

-- whether a use is of a bit
abbrev pub covers : Use → Place → Bool
covers u q = (u.number == q.signal) && (nat_le u.low q.bit && nat_lt q.bit u.high)

abbrev pub covered : List Use → Place → Bool
covered us q = list_any (λ u. covers u q) us

abbrev pub uses_of : List Write → List Use
uses_of ws = map (λ (w : Write). w.of) ws

-- whether one of the writes is of exactly its bits, and of this one
abbrev pub surely_written : List Write → Place → Bool
surely_written ws q = list_any (λ (w : Write). w.exact && covers w.of q) ws

abbrev pub nothing : Flow
nothing = record {
  reads = [];
  writes = [];
  later = [];
  ends = is_normal;
  slips = λ o q. is_normal o;
  early = λ q. [];
  unset = [];
  unrolls = true;
  statements = 0;
}

abbrev pub reading : List Use → Flow
reading us = record nothing { reads = us; early = λ q. map (λ (u : Use). u.at) (filter (λ u. covers u q) us) }

abbrev pub writing : List Write → Flow
writing ws = record nothing { writes = ws; slips = λ o q. is_normal o && not (surely_written ws q) }

abbrev pub writing_later : List Write → Flow
writing_later ws = record nothing { later = ws }

-- a path that ends by a jump
abbrev pub jumping : Outcome → Flow
jumping j = record nothing { ends = λ o. same_outcome o j; slips = λ o q. same_outcome o j }

-- one statement and then another, which only the paths reach that end normally
abbrev pub and_then : Flow → Flow → Flow
and_then f g = record {
  reads = f.reads ++ g.reads;
  writes = f.writes ++ g.writes;
  later = f.later ++ g.later;
  ends = λ o. (f.ends Normal && g.ends o) || (not (is_normal o) && f.ends o);
  slips = λ o q. (f.slips Normal q && g.slips o q) || (not (is_normal o) && f.slips o q);
  early = λ q. f.early q ++ cond (f.slips Normal q) (g.early q) [];
  unset = f.unset ++ cond (f.ends Normal) g.unset [];
  unrolls = f.unrolls && g.unrolls;
  statements = f.statements + g.statements;
}

-- one of two
abbrev pub or_else : Flow → Flow → Flow
or_else f g = record {
  reads = f.reads ++ g.reads;
  writes = f.writes ++ g.writes;
  later = f.later ++ g.later;
  ends = λ o. f.ends o || g.ends o;
  slips = λ o q. f.slips o q || g.slips o q;
  early = λ q. f.early q ++ g.early q;
  unset = f.unset ++ g.unset;
  unrolls = f.unrolls && g.unrolls;
  statements = f.statements + g.statements;
}

-- one more statement
abbrev pub counted : Flow → Flow
counted f = record f { statements = suc f.statements }

-- a jump that ends here
abbrev pub catching : Outcome → Flow → Flow
catching j f = record f {
  ends = λ o. (is_normal o && f.ends j) || (not (same_outcome o j) && f.ends o);
  slips = λ o q. (is_normal o && f.slips j q) || (not (same_outcome o j) && f.slips o q);
}

abbrev pub Flows : Type 0
Flows = Sight → Flow

abbrev pub in_turn : List Flows → Flows
in_turn [] k = nothing
in_turn (f ∷ fs) k = and_then (f k) (in_turn fs k)

-- a flow for each of some branches, of which one is taken
abbrev pub any_of : List Flows → Flow → Sight → Flow
any_of [] other k = other
any_of (f ∷ fs) other k = or_else (f k) (any_of fs other k)

abbrev pub all_reads : List Meaning → Sight → List Use
all_reads ms k = flat_map (λ (m : Meaning). m.reads k) ms

abbrev pub all_indices : List Meaning → Sight → List Use
all_indices ms k = flat_map (λ (m : Meaning). m.indices k) ms

abbrev pub all_writes : List Meaning → Sight → List Write
all_writes ms k = flat_map (λ (m : Meaning). m.writes k) ms

abbrev pub assigning : Bool → List Meaning → Meaning → Flows
assigning false to value k = and_then (reading (all_indices to k ++ value.reads k)) (writing (all_writes to k))
assigning true to value k = and_then (reading (all_indices to k ++ value.reads k)) (writing_later (all_writes to k))

-- all bits of a local
abbrev pub whole_local : ℕ → List Bool → Use
whole_local n two_state = record { number = local_number n; low = 0; high = length two_state; at = 0 }

abbrev pub setting : ℕ → List Bool → Flow
setting n two_state = writing (record { of = whole_local n two_state; exact = true } ∷ [])

-- the tokens at which a flow reads a local before it wrote it
abbrev pub early_of : ℕ → List Bool → Flow → List ℕ
early_of n two_state f = flat_map f.early (places_of (local_number n) (length two_state))

-- a local starts anew
abbrev pub starting : ℕ → List Bool → Option Meaning → Flows
starting n two_state None k = setting n two_state
starting n two_state (Some m) k = and_then (reading (m.reads k)) (setting n two_state)

-- one that starts with its default isn't to be read before it is assigned
abbrev pub unset_in : ℕ → List Bool → Option Meaning → Flow → Flow
unset_in n two_state None f = record f { unset = f.unset ++ early_of n two_state f }
unset_in n two_state (Some m) f = f

-- what is known once a local holds some bits
abbrev pub knowing : ℕ → List Bool → List Bit4 → Sight → Sight
knowing n two_state v k = record {
  around = record k.around { now = put (set_local n two_state v) k.around.now };
  sure = λ q. k.sure q || covers (whole_local n two_state) q;
}

-- a loop whose turns aren't known
abbrev pub endless : Flow
endless = record nothing { unrolls = false }

abbrev pub only_if : Bool → (Sight → Flow) → Flow → Sight → Flow
only_if true f g k = f k
only_if false f g k = g

unfoldable pub turns : ℕ → ℕ → List Bool → Meaning → Meaning → Flows → Flows
turns zero n two_state test step body k = only_if (test.constant k && not (is_true test k.around)) (λ j. reading (test.reads j)) endless k
turns (suc m) n two_state test step body k =
    let again = λ (j : Sight). and_then (and_then (reading (step.reads j)) (setting n two_state))
    (turns m n two_state test step body (knowing n two_state (assigned_to two_state step j.around) j)) in
    only_if (test.constant k)
    (only_if (is_true test k.around)
    (λ j. and_then (reading (test.reads j)) (and_then (catching Continue (body j)) (only_if (step.constant j) again endless j)))
    (reading (test.reads k)))
    endless k

abbrev pub looping : ℕ → Meaning → Meaning → Meaning → Flows → Flows
looping n first test step body k =
    let marks = first.of.two_state in
    let all = λ (j : Sight). catching Break (turns most_turns n marks test step body (knowing n marks (assigned_to marks first j.around) j)) in
    and_then (and_then (reading (first.reads k)) (setting n marks)) (only_if (first.constant k) all endless k)

-- a call reads its inputs, and then reads the indices of each output and writes it
abbrev pub reads_in : Way → Meaning → Sight → List Use
reads_in W.Input m k = m.reads k
reads_in W.Output m k = []
reads_in W.Inout m k = m.reads k

abbrev pub all_read_in : List Parameter → List Meaning → Sight → List Use
all_read_in [] ms k = []
all_read_in (p ∷ ps) [] k = []
all_read_in (p ∷ ps) (m ∷ ms) k = reads_in p.way m k ++ all_read_in ps ms k

abbrev pub writes_out : Way → Meaning → Flows
writes_out W.Input m k = nothing
writes_out W.Output m k = and_then (reading (m.indices k)) (writing (m.writes k))
writes_out W.Inout m k = and_then (reading (m.indices k)) (writing (m.writes k))

abbrev pub all_written_out : List Parameter → List Meaning → Flows
all_written_out [] ms k = nothing
all_written_out (p ∷ ps) [] k = nothing
all_written_out (p ∷ ps) (m ∷ ms) k = and_then (writes_out p.way m k) (all_written_out ps ms k)

abbrev pub calling : ℕ → List Meaning → Flows
calling f ms k =
    let formals = (k.around.callee f).formals in
    and_then (reading (all_read_in formals ms k)) (all_written_out formals ms k)
