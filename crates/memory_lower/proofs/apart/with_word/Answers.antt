use Rattle.std.proofs.Common.{refl}
use Rattle.v_meaning.specs.Values.{meaning}
use Rattle.memory_lower.proofs.Besides.{lowered-with}
use Rattle.memory_lower.proofs.apart.with_word.Goals as goal

pub returns-in_ok-made-in-Lowered : goal.returns-in_ok-made-in-Lowered
returns-in_ok-made-in-Lowered c =
    lowered-with c.args.word.now _ c.args.named (meaning c.in_ok-apart-in-Lowered.apart) (meaning c.in_ok-made-in-Lowered.made) c.in_ok-made-in-Lowered.made c.in-Lowered.is refl c.in_ok-apart-in-Lowered.ensures c.in_ok-made-in-Lowered.ensures
