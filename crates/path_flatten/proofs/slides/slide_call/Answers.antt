use Rattle.std.proofs.Common.{refl}
use Rattle.v_tree.specs.Printing.{helper_text}
use Rattle.v_meaning.specs.Values.{meaning}
use Rattle.path_flatten.specs.declared.readings.Slice.{Slice}
use Rattle.path_flatten.specs.Selecting.{slicer}
use Rattle.path_flatten.proofs.NamingSlides.{call-slide}
use Rattle.path_flatten.proofs.Sliding.{call-slides}
use Rattle.path_flatten.proofs.slides.slide_call.Goals as goal

pub returns-clause-slides : goal.returns-clause-slides
returns-clause-slides c =
    let s : Slice = record { part = c.args.n; of = c.args.of; index = c.in_ok-argument.argument.bits } in
    call-slides c.args.reading s c.args.of c.args.n c.args.offset c.in_ok-argument.argument c.all_bits.new.helpers c.select_call.new.helpers (meaning c.in_ok-all.all) (meaning c.in_ok-made.made) refl refl refl
    c.in_ok-all.ensures.reads c.in_ok-made.ensures.grows c.in_ok-argument.ensures.passed c.in_ok-made.ensures.selects

pub returns-clause-names : goal.returns-clause-names
returns-clause-names c =
    let s : Slice = record { part = c.args.n; of = c.args.of; index = c.in_ok-argument.argument.bits } in
    call-slide c.args.reading.root c.args.offset (helper_text (slicer s)) (meaning c.in_ok-all.all) (meaning c.in_ok-argument.argument.expr) (meaning c.in_ok-made.made) c.in_ok-all.ensures.names
    c.in_ok-argument.ensures.names c.in_ok-made.ensures.selects.is
