use Rattle.std.proofs.Common.{◌≡◌, ◌<◌, ◌^◌, ◌++◌, drop}
use Rattle.v_drives.specs.Rows.{starts_from, bits_before}
use Rattle.v_drives.proofs.rows.starts_of.Given as goal

abbrev pub invariant-loop-width : goal.invariant-loop-width
invariant-loop-width l = record {
  starts : l.starts ++ starts_from l.next (drop l.width-index l.widths) ≡ starts_from 0 l.widths;
  next : l.next ≡ bits_before l.widths l.width-index;
  fits : l.next < 2 ^ 64;
}
