use Rattle.memory_lower.proofs.Assembling.{element-targets}
use Rattle.memory_lower.proofs.targets.element_targets.Goals as goal

pub returns-clause-made : goal.returns-clause-made
returns-clause-made c =
    let within = c.args.within in
    let names = c.args.names.now in
    let functions = c.args.functions.now in
    let hs = c.index_given.new.helpers in
    let x = c.args.element in
    element-targets within names functions hs c.targets_in_word.new.helpers x.signal x.of.now x.index.now c.args.inner.now c.in_ok-given.given c.in_ok-word.word c.in_ok-given.ensures.made c.in_ok-word.ensures
    c.targets_in_word.result c.targets_in_word.ensures.grows c.targets_in_word.ensures.made
