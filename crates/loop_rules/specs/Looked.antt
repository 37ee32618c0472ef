-- What is known of all processes and functions of a design.
use Rattle.sv_types.specs.declared.design.Design.{Design}
use Rattle.flow_breaks.specs.Pieces.{AreFound}
use Rattle.proc_rules.specs.Processes.{AreLoops}
use Rattle.proc_rules.specs.Functions.{AreBodies, AreFunctionLoops}
use Rattle.loop_rules.specs.declared.check.Looked.{Looked}

pub record AreProcesses (d : Design) (l : Looked) : Type 0 where
  pub loops_are : AreLoops d l.loops
  pub flows_are : AreFound d l.flows

pub record AreFunctions (d : Design) (l : Looked) : Type 0 where
  pub loops_are : AreFunctionLoops d l.loops
  pub flows_are : AreBodies d l.flows
