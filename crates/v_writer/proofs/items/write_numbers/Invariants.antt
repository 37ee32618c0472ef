use Rattle.std.proofs.Common.{◌≡◌, drop, map}
use Rattle.v_writer.specs.Layout.{listed, number_layout}
use Rattle.v_writer.specs.Sheets.{set}
use Rattle.v_writer.proofs.Sheets.{separated}
use Rattle.v_writer.proofs.items.write_numbers.Given as goal

abbrev pub invariant-loop-number : goal.invariant-loop-number
invariant-loop-number l = set l.page (separated l.first (map number_layout (drop l.number-index l.numbers))) ≡ set l.fn.page (listed (map number_layout l.numbers))
