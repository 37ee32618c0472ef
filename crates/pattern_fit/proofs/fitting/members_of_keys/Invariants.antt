use Rattle.std.proofs.Common.{◌≡◌, map, take, length}
use Rattle.pattern_fit.specs.Fits.{member_number, AllWithin}
use Rattle.pattern_fit.proofs.fitting.members_of_keys.Given as goal

abbrev pub invariant-loop-key : goal.invariant-loop-key
invariant-loop-key l = record {
  value : l.numbers.items ≡ map (member_number l.members) (take l.key-index l.keys);
  within : AllWithin (length l.members) l.numbers.items;
}
