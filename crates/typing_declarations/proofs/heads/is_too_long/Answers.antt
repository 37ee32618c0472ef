use Rattle.std.proofs.Common.{nat_lt, ap, ◌∙◌}
use Rattle.typing_declarations.specs.FormalRows.{bits_out}
use Rattle.typing_declarations.proofs.Heading.{long-same}
use Rattle.typing_declarations.proofs.heads.is_too_long.Goals as goal

pub returns : goal.returns
returns c = ap (λ n. nat_lt 65536 n) c.bits_of_all.ensures ∙ long-same (bits_out c.args.list.now)
