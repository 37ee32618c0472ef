use Rattle.std.proofs.Common.{ap, ◌∙◌}
use Rattle.v_reads.specs.Reads.{is_among}
use Rattle.v_reads.proofs.Rounds.{signals-among}
use Rattle.v_reads.proofs.Once.{once}
use Rattle.v_reads.proofs.numbers.signals_once.Goals as goal

pub returns : goal.returns
returns c = λ n.
    ap (λ l. is_among l n) c.from_vec.ensures
    ∙ once c.in_ok-signals.signals.items c.sort_unstable.new.self.items c.dedup.new.self.items n c.sort_unstable.ensures.permutation c.dedup.ensures.filtered
    ∙ ap (λ l. is_among l n) c.in_ok-signals.ensures ∙ signals-among c.args.numbers.now n
