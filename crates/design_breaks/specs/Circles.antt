-- Combinational processes that lie on a circle or follow one that does (clause 9.2.2.2.1 gives no order of theirs).
use Rattle.row_machine.specs.Valuation.{Member}
use Rattle.row_machine.specs.Machine as M
use Rattle.row_machine.specs.Stuck.{Stuck}
use Rattle.sv_types.specs.declared.design.Design.{Design}
use Rattle.sv_types.specs.declared.design.Process.{Process}
use Rattle.sv_types.specs.Statements.{doing}
use Rattle.sv_types.specs.Machine.{parts, machine, comb_of}
use Rattle.design_breaks.specs.declared.Break.{Break}

-- a process is stuck where the combinational process of the design's machine is
pub record IsStuck (d : Design) (p : Process) : Type 0 where
  pub stands : Member d.processes p
  pub process : M.Process
  pub is_its : Member (comb_of (parts d) (doing p.body) p.kind) process
  pub stuck : Stuck (machine d).combs process

-- The break stands at the process's place: the first token of the left side, the port's name in a connection into an input
-- or the first token of what is connected by position, or the keyword.
abbrev pub break_of : Process → Break
break_of p = record { instance = p.instance; at = p.spot.at; rule = 602 }
