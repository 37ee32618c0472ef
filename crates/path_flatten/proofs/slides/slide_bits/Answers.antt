use Rattle.std.proofs.Common.{subst}
use Rattle.v_meaning.specs.Values.{meaning}
use Rattle.path_flatten.specs.declared.readings.Reading.{Reading}
use Rattle.path_flatten.specs.Sliding.{Slides, NamesSlide}
use Rattle.path_flatten.proofs.NamingSlides.{name-slide}
use Rattle.path_flatten.proofs.Sliding.{name-slides}
use Rattle.path_flatten.proofs.slides.slide_bits.Goals as goal

pub returns-in_ok-made-in-Ok-clause-slides : goal.returns-in_ok-made-in-Ok-clause-slides
returns-in_ok-made-in-Ok-clause-slides c =
    let h = c.in-Ok.ensures in
    name-slides c.in-Ok.name c.args.reading c.args.of c.args.n c.args.offset (meaning c.base_of.result) c.args.helpers.now (meaning c.in_ok-made-in-Ok.made) h.root_is h.width_is h.window_is c.base_of.ensures.base
    c.in_ok-made-in-Ok.ensures

pub returns-in_ok-made-in-Ok-clause-names : goal.returns-in_ok-made-in-Ok-clause-names
returns-in_ok-made-in-Ok-clause-names c =
    let h = c.in-Ok.ensures in
    name-slide c.args.reading.root c.in-Ok.name c.args.offset (meaning c.base_of.result) c.args.n (meaning c.in_ok-made-in-Ok.made) h.root_is c.base_of.ensures.names c.in_ok-made-in-Ok.ensures

pub returns-in_ok-made-in-Err-clause-slides : goal.returns-in_ok-made-in-Err-clause-slides
returns-in_ok-made-in-Err-clause-slides c =
    subst (λ (r : Reading). Slides r c.args.of c.args.n c.args.offset c.slide_call.new.helpers (meaning c.in_ok-made-in-Err.made)) c.in-Err.ensures c.in_ok-made-in-Err.ensures.slides

pub returns-in_ok-made-in-Err-clause-names : goal.returns-in_ok-made-in-Err-clause-names
returns-in_ok-made-in-Err-clause-names c =
    subst (λ (r : Reading). NamesSlide r.root c.args.offset (meaning c.in_ok-made-in-Err.made)) c.in-Err.ensures c.in_ok-made-in-Err.ensures.names
