use Rattle.path_flatten.proofs.NamingSlides.{step-names}
use Rattle.path_flatten.proofs.Sliding.{slide-reads}
use Rattle.path_flatten.proofs.slides.slide_step.Goals as goal

pub returns-clause-reads : goal.returns-clause-reads
returns-clause-reads c = λ size.
    slide-reads c.args.reading c.new_root.result c.args.of.now c.args.part.up c.args.part.count c.args.part.bits c.width.result c.args.index c.slide_bits.new.helpers c.in_ok-offset.offset c.in_ok-value.value
    c.new_root.ensures.root c.new_root.ensures.width c.new_root.ensures.window c.in_ok-offset.ensures.begins c.in_ok-value.ensures.slides c.width.ensures.bits c.requires.narrow size

pub returns-clause-names : goal.returns-clause-names
returns-clause-names c =
    step-names c.args.reading.root c.new_root.result.root c.args.index c.in_ok-offset.offset c.in_ok-value.value c.new_root.ensures.root c.in_ok-offset.ensures.names c.in_ok-value.ensures.names
