use Rattle.std.proofs.Common.{◌≡◌, ◌++◌, length, map, drop, ◌-◌, ◌*◌}
use Rattle.sv_types.specs.Layouts.{stacked}
use Rattle.sv_types.specs.Values.{bits, shape, member_shape, total, cut, cut_evenly}
use Rattle.sv_types.proofs.convert.+value.Given as goal

abbrev pub invariant-cut_array-loop-i : goal.invariant-cut_array-loop-i
invariant-cut_array-loop-i l = record {
  left : length l.rest ≡ (l.count - l._i) * (shape l.item).width;
  width : l.width ≡ (shape l.item).width;
  items : l.items.items ++ cut_evenly (l.count - l._i) (shape l.item) l.rest ≡ cut_evenly l.count (shape l.item) l.v;
  back : l.rest ++ stacked (map bits l.items.items) ≡ l.v;
}

abbrev pub invariant-cut_struct-loop-member : goal.invariant-cut_struct-loop-member
invariant-cut_struct-loop-member l = record {
  left : length l.rest ≡ total (map member_shape (drop l.member-index l.members));
  items : l.items.items ++ cut (map member_shape (drop l.member-index l.members)) l.rest ≡ cut (map member_shape l.members) l.v;
  back : l.rest ++ stacked (map bits l.items.items) ≡ l.v;
}
