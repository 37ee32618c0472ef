use Rattle.std.proofs.Common.{ap, ◌∙◌, ◌+◌}
use Rattle.std.specs.Prelude.{nat_le, slice_index_or}
use Rattle.bit_sets.specs.Sets.{nothing}
use Rattle.bit_sets.proofs.Cuts.{set-from}
use Rattle.bit_sets.proofs.Marks as M
use Rattle.bit_sets.proofs.marking.is_next.Goals as goal

pub returns-then-at-set : goal.returns-then-at-set
returns-then-at-set c =
    let set = c.args.set.now in
    let s = slice_index_or set c.args.at nothing in
    M.next-is (c.args.low + c.args.k) c.args.at set nothing _ (set-from c.args.at set c.requires.set) c.if-at-set.true (c.requires.behind c.if-at-set.true)
    (ap (λ x. nat_le x c.args.k) c.saturating_sub.ensures ∙ M.less-or-not s.low c.args.low c.args.k)

pub returns-else-at-set : goal.returns-else-at-set
returns-else-at-set c = M.next-past (c.args.low + c.args.k) c.args.at c.args.set.now c.if-at-set.false
