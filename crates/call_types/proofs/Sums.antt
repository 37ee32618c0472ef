-- The bits of the parts of a stream.
use Rattle.operand_types.proofs.Sums.{too-many, not-many, few-is}

pub ruleset few = (too-many, not-many, few-is)
