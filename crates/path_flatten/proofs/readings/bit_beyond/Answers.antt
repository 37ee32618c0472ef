use Rattle.std.proofs.Common.{None, ap, ◌∙◌, [], ◌∷◌}
use Rattle.v_meaning.specs.Values as T
use Rattle.v_meaning.specs.Values.{meaning}
use Rattle.path_flatten.specs.declared.readings.Root.TheVariants as R
use Rattle.path_flatten.proofs.Naming.{name-bare, name-decimal, root-like, lost-of}
use Rattle.path_flatten.proofs.Losing.{name-beyond, lost-beyond}
use Rattle.path_flatten.proofs.readings.bit_beyond.Goals as goal

pub returns-in_ok-made-clause-cuts : goal.returns-in_ok-made-clause-cuts
returns-in_ok-made-clause-cuts c = lost-beyond (R.Name c.args.of) c.args.width (meaning c.bare.result) (meaning c.in_ok-made.made) c.in_ok-made.ensures

pub returns-in_ok-made-clause-names : goal.returns-in_ok-made-clause-names
returns-in_ok-made-clause-names c =
    root-like (R.Name c.args.of) (meaning c.bare.result) (meaning c.in_ok-made.made) (name-bare c.args.of (meaning c.bare.result) c.bare.ensures)
    (lost-of (meaning c.bare.result) (meaning c.in_ok-made.made) c.in_ok-made.ensures)

pub returns-in_ok-made-2-clause-cuts : goal.returns-in_ok-made-2-clause-cuts
returns-in_ok-made-2-clause-cuts c =
    name-beyond c.args.of c.args.width (meaning c.in_ok-made-2.made) (c.in_ok-made-2.ensures ∙ ap (λ s. T.reference c.args.of (s ∷ [])) c.decimal_bit.ensures)

pub returns-in_ok-made-2-clause-names : goal.returns-in_ok-made-2-clause-names
returns-in_ok-made-2-clause-names c =
    name-decimal c.args.of c.args.width None (meaning c.in_ok-made-2.made) (c.in_ok-made-2.ensures ∙ ap (λ s. T.reference c.args.of (s ∷ [])) c.decimal_bit.ensures)
