use Rattle.std.proofs.Common.{◌≡◌, max, map, arith, ap, sym, ◌∙◌, subst}
use Rattle.sv_types.specs.Layouts.{layout, width_of}
use Rattle.sv_types.specs.Operators.{parts_of}
use Rattle.sv_types.specs.Expressions.{meaning}
use Rattle.v_meaning.specs.Values as T
use Rattle.v_build.specs.Trees.{meanings}
use Rattle.eval_parts.specs.Targets.{marks_of_parts}
use Rattle.form_lower.specs.Assigned.{Fits}
use Rattle.form_lower.specs.Places.{bits_of_first}
use Rattle.form_lower.proofs.Placing.{patterns, length-of-meanings}
use Rattle.form_lower.proofs.places.pattern.Goals as goal

pub returns-clause-patterns : goal.returns-clause-patterns
returns-clause-patterns c =
    let marks = marks_of_parts (parts_of (layout c.args.of.now)) in
    let to : c.max-to.result ≡ max c.args.width (width_of c.args.of.now) = omega arith in
    patterns c.args.of.now c.args.width c.args.signed c.is_whole-whole.result c.is_signed.result (map meaning c.args.items.now) (meanings c.args.parts) (meanings c.in_ok-placed.placed) c.all_placed.new.helpers c.fitted.new.helpers
    (T.meaning c.concatenation.result) (T.meaning c.in_ok-bits.bits) (T.meaning c.in_ok-made.made) c.requires.some
    (λ h. ap (λ n. bits_of_first n marks) (length-of-meanings c.args.parts ∙ sym c.len.ensures) ∙ c.is_whole-whole.ensures h)
    c.in_ok-placed.ensures.puts c.in_ok-bits.ensures.grows c.concatenation.ensures
    (subst (λ n. Fits c.is_whole-whole.result (T.meaning c.concatenation.result) n c.args.signed c.fitted.new.helpers (T.meaning c.in_ok-bits.bits)) to c.in_ok-bits.ensures.fits)
    c.is_signed.ensures c.in_ok-made.ensures
