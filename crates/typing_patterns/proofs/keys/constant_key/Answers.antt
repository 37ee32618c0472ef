use Rattle.typing_patterns.proofs.keys.constant_key.Goals as goal

pub key_number-requires-clause-fits : goal.key_number-requires-clause-fits
key_number-requires-clause-fits g c = c.in_ok-v.ensures.fits c.args.known.now.functions
