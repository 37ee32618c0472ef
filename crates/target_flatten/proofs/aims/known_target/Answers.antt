use Rattle.std.proofs.Common.{◌∙◌, ap, arith, [], ◌∷◌, Some, None}
use Rattle.v_tree.specs.declared.expressions.VExtent.TheVariants.{Down}
use Rattle.v_meaning.specs.Statements.{name_target}
use Rattle.v_meaning.specs.Values as T
use Rattle.target_flatten.proofs.Naming.{no-other-bare, no-other-decimal}
use Rattle.target_flatten.proofs.Owning.{own-bare, own-select, decimals-bare, decimals-select, selects-none, selects-one}
use Rattle.target_flatten.proofs.Writing.{known-whole, known-bit, known-range}
use Rattle.target_flatten.proofs.aims.known_target.Goals as goal

pub returns-in_ok-made-clause-aims : goal.returns-in_ok-made-clause-aims
returns-in_ok-made-clause-aims c = known-whole c.args.bits c.args.low c.args.n c.in_ok-made.made (λ some few. omega arith) (selects-none c.args.name.now c.in_ok-made.made c.in_ok-made.ensures.is)

pub returns-in_ok-made-2-clause-aims : goal.returns-in_ok-made-2-clause-aims
returns-in_ok-made-2-clause-aims c =
    known-bit c.args.bits c.args.low c.args.n c.in_ok-made-2.made (omega arith)
    (selects-one c.args.name.now c.decimal_bit.result (T.decimal_base c.args.low None) c.in_ok-made-2.made c.decimal_bit.ensures.means c.in_ok-made-2.ensures.is)

pub returns-in_ok-made-3-clause-aims : goal.returns-in_ok-made-3-clause-aims
returns-in_ok-made-3-clause-aims c =
    known-range c.args.bits c.args.low c.args.n c.saturating_add-left.result c.in_ok-made-3.made (omega arith)
    (selects-one c.args.name.now c.decimal_part.result (T.decimal_base c.saturating_add-left.result (Some (Down c.args.low))) c.in_ok-made-3.made c.decimal_part.ensures.means c.in_ok-made-3.ensures.is)

pub returns-in_ok-made-clause-names : goal.returns-in_ok-made-clause-names
returns-in_ok-made-clause-names c = no-other-bare c.args.name.now c.in_ok-made.made c.in_ok-made.ensures.means

pub returns-in_ok-made-2-clause-names : goal.returns-in_ok-made-2-clause-names
returns-in_ok-made-2-clause-names c =
    no-other-decimal c.args.name.now c.args.low None c.in_ok-made-2.made (c.in_ok-made-2.ensures.means ∙ ap (λ s. name_target c.args.name.now (s ∷ [])) c.decimal_bit.ensures.means)

pub returns-in_ok-made-3-clause-names : goal.returns-in_ok-made-3-clause-names
returns-in_ok-made-3-clause-names c =
    no-other-decimal c.args.name.now c.saturating_add-left.result (Some (Down c.args.low)) c.in_ok-made-3.made (c.in_ok-made-3.ensures.means ∙ ap (λ s. name_target c.args.name.now (s ∷ [])) c.decimal_part.ensures.means)

pub returns-in_ok-made-clause-own : goal.returns-in_ok-made-clause-own
returns-in_ok-made-clause-own c = own-bare c.args.name.now c.args.bits c.in_ok-made.made c.in_ok-made.ensures.is

pub returns-in_ok-made-2-clause-own : goal.returns-in_ok-made-2-clause-own
returns-in_ok-made-2-clause-own c = own-select c.args.name.now c.args.bits c.decimal_bit.result c.in_ok-made-2.made (λ h. omega arith) c.in_ok-made-2.ensures.is

pub returns-in_ok-made-3-clause-own : goal.returns-in_ok-made-3-clause-own
returns-in_ok-made-3-clause-own c = own-select c.args.name.now c.args.bits c.decimal_part.result c.in_ok-made-3.made (λ h. omega arith) c.in_ok-made-3.ensures.is

pub returns-in_ok-made-clause-plain : goal.returns-in_ok-made-clause-plain
returns-in_ok-made-clause-plain c = decimals-bare c.args.name.now c.in_ok-made.made c.in_ok-made.ensures.is

pub returns-in_ok-made-2-clause-plain : goal.returns-in_ok-made-2-clause-plain
returns-in_ok-made-2-clause-plain c = decimals-select c.args.name.now c.decimal_bit.result c.args.low None c.in_ok-made-2.made c.decimal_bit.ensures.is c.in_ok-made-2.ensures.is

pub returns-in_ok-made-3-clause-plain : goal.returns-in_ok-made-3-clause-plain
returns-in_ok-made-3-clause-plain c =
    decimals-select c.args.name.now c.decimal_part.result c.saturating_add-left.result (Some (Down c.args.low)) c.in_ok-made-3.made c.decimal_part.ensures.is c.in_ok-made-3.ensures.is
