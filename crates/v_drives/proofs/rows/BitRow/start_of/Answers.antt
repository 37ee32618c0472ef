use Rattle.std.proofs.Common.{rules, arith, ◌<◌, length, ap, ◌∙◌, slice_index_or}
use Rattle.v_drives.proofs.Numbering as N
use Rattle.v_drives.proofs.rows.BitRow.start_of.Goals as goal

pub offset_bounds-as_slice-signal : goal.offset_bounds-as_slice-signal
offset_bounds-as_slice-signal c =
    let many = ap length c.as_slice.ensures ∙ N.as-many c.args.self.now.starts c.args.self.now.widths c.args.self.now.placed in
    let short : c.args.signal < length c.as_slice.result.now = omega (arith, many, c.requires) in search rules

pub bounds-as_slice-signal : goal.bounds-as_slice-signal
bounds-as_slice-signal c =
    let many = ap length c.as_slice.ensures ∙ N.as-many c.args.self.now.starts c.args.self.now.widths c.args.self.now.placed in
    omega (arith, many, c.requires)

pub returns : goal.returns
returns c = ap (λ os. slice_index_or os c.args.signal 0) c.as_slice.ensures ∙ N.start-at c.args.self.now.starts c.args.self.now.widths c.args.signal c.args.self.now.placed c.requires
