use Rattle.std.proofs.Common.{ap, ◌∙◌}
use Rattle.std.specs.List.{list_all}
use Rattle.sv_types.specs.Layouts.{layout}
use Rattle.memory_breaks.specs.Memories.{is_unknown}
use Rattle.memory_breaks.proofs.Least.{default-unknown}
use Rattle.memory_breaks.proofs.memories.is_four_state.Goals as goal

pub returns : goal.returns
returns c =
    c.are_unknown.ensures
    ∙ ap (list_all is_unknown) (c.as_slice.ensures ∙ c.in_ok-bits.ensures ∙ c.in_ok-value.ensures.back)
    ∙ default-unknown (layout c.args.t.now).two_state
