-- Functions and tasks as they are called (IEEE 1800-2017 clauses 13.3 to 13.5).
use Rattle.std.specs.Prelude.{ℕ, zero, suc, Bool, false, List, [], ◌∷◌, length, map, Option, Some, None, slice_get}
use Rattle.b4_core.specs.declared.bit.Bit4.{Bit4}
use Rattle.b4_core.specs.declared.bit.Bit4.TheVariants.{X}
use Rattle.picks.specs.RowMachine.{Changes}
use Rattle.picks.specs.RowMachine.{vector_at}
use Rattle.picks.specs.RowMachine.{unchanged, then_changes}
use Rattle.sv_types.specs.declared.statement.Formal.{Formal}
use Rattle.sv_types.specs.declared.statement.Function.{Function}
use Rattle.sv_types.specs.declared.statement.Outcome.TheVariants.{Normal}
use Rattle.sv_types.specs.Layouts.{layout, stored, default_bits}
use Rattle.sv_types.specs.Surroundings.{Around, Callee, Parameter, local_number}
use Rattle.sv_types.specs.Runs.{State, current, set_local}
use Rattle.sv_types.specs.Statements.{Doing, doing}

abbrev pub parameter : Formal → Parameter
parameter f = record { number = f.local.number; two_state = (layout f.local.of).two_state; signed = (layout f.local.of).signed; way = f.way }

abbrev pub parameters : Function → List Parameter
parameters f = map parameter f.formals

-- the formals hold what is passed to them
abbrev pub bound : List Parameter → List (List Bit4) → Changes
bound [] vs = unchanged
bound (p ∷ ps) [] = unchanged
bound (p ∷ ps) (v ∷ vs) = then_changes (set_local p.number p.two_state v) (bound ps vs)

-- what a local holds at the end
abbrev pub final : Around → ℕ → List Bool → List Bit4
final a n two_state = stored two_state (vector_at a.now (local_number n) (length two_state))

abbrev pub finals_of : List Parameter → Around → List (List Bit4)
finals_of ps a = map (λ (p : Parameter). final a p.number p.two_state) ps

-- a body sees no signals, and no locals but its own
abbrev pub alone_with : (ℕ → Callee) → Around
alone_with callee = record { now = λ q. X; holds = λ n. false; callee = callee }

abbrev pub begun : List Parameter → List (List Bit4) → State
begun ps vs = record { written = bound ps vs; pending = unchanged; outcome = Normal }

-- A function by its formals, the type of its result, which is local 0, and its body.
abbrev pub callee_by : List Parameter → List Bool → Doing → (ℕ → Callee) → Callee
callee_by ps result body callee = record {
  formals = ps;
  run = λ vs.
      let e = current (alone_with callee) (body.run (alone_with callee) (begun ps vs)) in
      record { result = final e 0 result; finals = finals_of ps e };
  effort = λ vs. body.effort (alone_with callee) (begun ps vs);
}

abbrev pub callee_of : (ℕ → Callee) → Function → Callee
callee_of callee f = callee_by (parameters f) (layout f.of).two_state (doing f.body) callee

-- where calls go no deeper
abbrev pub not_run : Function → Callee
not_run f = record {
  formals = parameters f;
  run = λ vs. record { result = default_bits (layout f.of).two_state; finals = map (λ (p : Parameter). default_bits p.two_state) (parameters f) };
  effort = λ vs t. t;
}

abbrev pub absent : Callee
absent = record { formals = []; run = λ vs. record { result = []; finals = [] }; effort = λ vs t. t }

abbrev pub callee_or_absent : (Function → Callee) → Option Function → Callee
callee_or_absent c None = absent
callee_or_absent c (Some f) = c f

-- the functions, with calls that go so deep
unfoldable pub callees_within : ℕ → List Function → ℕ → Callee
callees_within zero fs n = callee_or_absent not_run (slice_get fs n)
callees_within (suc depth) fs n = callee_or_absent (callee_of (callees_within depth fs)) (slice_get fs n)

-- Calls among functions make no circle, so they go no deeper than there are functions.
abbrev pub callees : List Function → ℕ → Callee
callees fs = callees_within (length fs) fs
