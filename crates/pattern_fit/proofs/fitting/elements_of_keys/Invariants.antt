use Rattle.std.proofs.Common.{◌≡◌, map, take}
use Rattle.pattern_fit.specs.Fits.{element_number, AllWithin}
use Rattle.pattern_fit.proofs.fitting.elements_of_keys.Given as goal

abbrev pub invariant-loop-key : goal.invariant-loop-key
invariant-loop-key l = record {
  value : l.numbers.items ≡ map (element_number l.bounds.left l.bounds.right) (take l.key-index l.keys);
  within : AllWithin l.count l.numbers.items;
}
