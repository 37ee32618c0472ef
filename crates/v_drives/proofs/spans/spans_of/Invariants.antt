use Rattle.std.proofs.Common.{◌≡◌, ◌≤◌, ℕ, ◌||◌, false, map, drop}
use Rattle.bit_sets.specs.Sets.{in_spans}
use Rattle.row_machine.specs.Valuation.{Place}
use Rattle.v_meaning.specs.Statements.{covered}
use Rattle.v_drives.specs.Rows.{all_bits, number_of, IsBit}
use Rattle.v_writes.specs.Writes.{use_in}
use Rattle.v_drives.proofs.spans.spans_of.Given as goal

abbrev pub invariant-loop-write : goal.invariant-loop-write
invariant-loop-write l = record {
  value : (q : Place) → IsBit l.row.widths q → (in_spans l.spans (number_of l.row.widths q) || covered (map use_in (drop l.write-index l.writes)) q) ≡ covered (map use_in l.writes) q;
  within : (n : ℕ) → all_bits l.row.widths ≤ n → in_spans l.spans n ≡ false;
}
