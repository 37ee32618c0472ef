use Rattle.std.proofs.Common.{ap, ◌∙◌}
use Rattle.std.specs.Prelude.{take, codes}
use Rattle.std.specs.Str.{bytes_eq}
use Rattle.package_scope.proofs.Orders.{bytes-swap}
use Rattle.package_scope.proofs.event_breaks.has_kept_front.Goals as goal

pub returns : goal.returns
returns c =
    c.starts_with.ensures.value
    ∙ bytes-swap (codes "sv2v_") (take 5 c.as_bytes.result.now)
    ∙ ap (λ text. bytes_eq (take 5 text) (codes "sv2v_")) c.as_bytes.ensures
