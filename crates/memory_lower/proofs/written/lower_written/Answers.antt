use Rattle.std.proofs.Common.{subst}
use Rattle.memory_lower.specs.Written.{FindsInMemory}
use Rattle.memory_lower.proofs.Choosing.{vector-all, memory-all, vector-shape, memory-shape}
use Rattle.memory_lower.proofs.written.lower_written.Goals as goal

pub lower_in_memory-requires-clause-goes : goal.lower_in_memory-requires-clause-goes
lower_in_memory-requires-clause-goes c = (subst (FindsInMemory c.args.names.now c.args.e.now) c.in-Some.is c.element_in_memory.ensures).goes

pub returns-in-None-clause-lowers : goal.returns-in-None-clause-lowers
returns-in-None-clause-lowers c =
    vector-all c.args.within c.args.names.now c.args.functions.now c.lower_target.new.helpers c.args.e.now c.lower_target.result (subst (FindsInMemory c.args.names.now c.args.e.now) c.in-None.is c.element_in_memory.ensures)
    c.lower_target.ensures.lowers

pub returns-in-Some-clause-lowers : goal.returns-in-Some-clause-lowers
returns-in-Some-clause-lowers c =
    let x = c.in-Some.element in
    memory-all c.args.within c.args.names.now c.args.functions.now c.lower_in_memory.new.helpers x.signal x.of.now c.args.e.now c.lower_in_memory.result
    (subst (FindsInMemory c.args.names.now c.args.e.now) c.in-Some.is c.element_in_memory.ensures).memory c.lower_in_memory.ensures.lowers

pub returns-in-None-clause-shape : goal.returns-in-None-clause-shape
returns-in-None-clause-shape c = vector-shape c.args.within c.args.names.now c.args.functions.now c.lower_target.new.helpers c.args.e.now c.lower_target.result c.lower_target.ensures.shape

pub returns-in-Some-clause-shape : goal.returns-in-Some-clause-shape
returns-in-Some-clause-shape c =
    memory-shape c.args.within c.args.names.now c.args.functions.now c.lower_in_memory.new.helpers c.args.e.now c.in-Some.element c.lower_in_memory.result
    (subst (FindsInMemory c.args.names.now c.args.e.now) c.in-Some.is c.element_in_memory.ensures) c.lower_in_memory.ensures.shape
