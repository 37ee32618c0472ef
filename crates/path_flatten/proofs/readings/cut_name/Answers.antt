use Rattle.std.proofs.Common.{◌+◌, ◌-◌, None, Some, [], ◌∷◌, arith, sym, ap, ◌∙◌, subst}
use Rattle.v_tree.specs.declared.expressions.VExtent.TheVariants.{Down}
use Rattle.v_meaning.specs.Values as T
use Rattle.v_meaning.specs.Values.{meaning}
use Rattle.path_flatten.specs.Selecting.{CutsName}
use Rattle.path_flatten.proofs.Naming.{name-bare, name-decimal}
use Rattle.path_flatten.proofs.Selecting.{cut-whole, cut-bit, cut-range}
use Rattle.path_flatten.proofs.readings.cut_name.Goals as goal

pub returns-then-n-width-clause-cuts : goal.returns-then-n-width-clause-cuts
returns-then-n-width-clause-cuts c =
    subst (CutsName c.args.of c.args.width c.args.low c.args.n) (sym c.bare.ensures)
    (cut-whole c.args.of c.args.width c.args.low c.args.n (omega arith) (omega arith))

pub returns-then-n-width-clause-names : goal.returns-then-n-width-clause-names
returns-then-n-width-clause-names c = name-bare c.args.of (meaning c.bare.result) c.bare.ensures

pub returns-in_ok-made-clause-cuts : goal.returns-in_ok-made-clause-cuts
returns-in_ok-made-clause-cuts c =
    subst (CutsName c.args.of c.args.width c.args.low c.args.n) (sym (c.in_ok-made.ensures ∙ ap (λ s. T.reference c.args.of (s ∷ [])) c.decimal_bit.ensures))
    (cut-bit c.args.of c.args.width c.args.low c.args.n (omega arith))

pub returns-in_ok-made-clause-names : goal.returns-in_ok-made-clause-names
returns-in_ok-made-clause-names c =
    name-decimal c.args.of c.args.low None (meaning c.in_ok-made.made) (c.in_ok-made.ensures ∙ ap (λ s. T.reference c.args.of (s ∷ [])) c.decimal_bit.ensures)

pub returns-in_ok-made-2-clause-cuts : goal.returns-in_ok-made-2-clause-cuts
returns-in_ok-made-2-clause-cuts c =
    subst (CutsName c.args.of c.args.width c.args.low c.args.n) (sym (c.in_ok-made-2.ensures ∙ ap (λ s. T.reference c.args.of (s ∷ [])) c.decimal_part.ensures))
    (cut-range c.args.of c.args.width c.args.low c.args.n (omega arith))

pub returns-in_ok-made-2-clause-names : goal.returns-in_ok-made-2-clause-names
returns-in_ok-made-2-clause-names c =
    name-decimal c.args.of (c.args.low + c.args.n - 1) (Some (Down c.args.low)) (meaning c.in_ok-made-2.made) (c.in_ok-made-2.ensures ∙ ap (λ s. T.reference c.args.of (s ∷ [])) c.decimal_part.ensures)
