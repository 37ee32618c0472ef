use Rattle.std.proofs.Common.{◌≡◌, rules}
use Rattle.sv_types.specs.Layouts.{count_of}
use Rattle.expr_fits.proofs.Forms as F
use Rattle.expr_fits.proofs.paths.part_select.Goals as goal

pub returns : goal.returns
returns c =
    let count : c.count_between.result ≡ count_of c.args.left c.args.right = search rules in λ fs.
    F.by-Part c.args.e.now (record { of = c.args.x; width = c.own.result }) c.args.left c.args.right c.count_between.result c.args.width fs c.requires.form c.requires.some (c.if-not-has_bits.ensures) (c.if-not-is_elements_type.ensures) count c.own.ensures.value
