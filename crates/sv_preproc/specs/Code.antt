-- What the program's data stand for.
use Rattle.std.specs.Prelude.{◌≡◌, ◌-◌, ◌^◌, ◌<◌, ◌≤◌, length, Result, Ok, Err}
use Rattle.sv_source.specs.declared.refusal.Fail.{Fail}
use Rattle.sv_source.specs.declared.refusal.Fail.TheVariants.{Memory, Refused}
use Rattle.sv_macro.specs.Tables.{macros_in}
use Rattle.sv_preproc.specs.States as spec
use Rattle.sv_preproc.specs.Machine as machine
use Rattle.sv_preproc.specs.Machine.{Machine, Move, is_open}
use Rattle.sv_preproc.specs.declared.state.State.{State}
use Rattle.sv_preproc.specs.declared.turn.Turn.{Turn}
use Rattle.sv_preproc.specs.declared.turn.Turn.TheVariants.{Go, Look, Done}

-- how far the expansion has come
abbrev pub seen : State → spec.State
seen s = record {
  coming = s.coming;
  macros = macros_in s.macros;
  files = s.files;
  inside = is_open s.calls;
  uses = s.uses;
  next = s.next;
  names = s.names;
  loaded = s.loaded;
  spent = s.spent;
  ending = s.ending;
  delivered = s.delivered;
}

abbrev pub whole : State → Machine
whole s = record { state = seen s; calls = s.calls }

-- the state that a move leaves, and its answer, are those of this move
abbrev pub Turns : Move → State → Result Turn Fail → Type 0
Turns move now (Ok Go) = move ≡ machine.goes (whole now)
Turns move now (Ok (Look search)) = move ≡ machine.looks search.value (whole now)
Turns move now (Ok Done) = move ≡ machine.done (whole now)
Turns move now (Err Memory) = Unit {0}
Turns move now (Err (Refused refusal)) = move ≡ machine.breaks refusal now.names

-- no count passes what a machine word holds
abbrev pub Bounded : State → Type 0
Bounded s = (s.spent ≤ 2 ^ 22) × (s.uses < 2 ^ 32) × (s.loaded ≤ 2 ^ 26) × (length s.names < 2 ^ 32 - 1)
