use Rattle.typing_operators.proofs.slices.slice_of_constant.Goals as goal

pub slice_in-requires-clause-fits : goal.slice_in-requires-clause-fits
slice_in-requires-clause-fits g c = c.in_ok-v.ensures.fits c.args.known.now.functions
