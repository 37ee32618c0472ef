-- The loops of `cut_array` and `cut_struct`: each turn cuts one element or member off the top of the rest.
use Rattle.std.proofs.Common.{◌≡◌, ◌≤◌, ◌+◌, ◌-◌, ◌*◌, ◌/◌, [], ◌∷◌, ◌++◌, length, drop, take, map, arith, ap, sym, ◌∙◌, subst, length-append}
use Rattle.std.proofs.lemmas.List.{drop_more, drop_all, length-take}
use Rattle.sv_types.specs.Layouts.{stacked}
use Rattle.sv_types.specs.Values.{bits, shape, member_shape, total, cut, cut_evenly}
use Rattle.sv_types.proofs.Cuts.{array-left, array-items, cut-back, all-cut, struct-items, member-shape}
use Rattle.sv_types.proofs.convert.+value.Goals as goal

pub cut_array-loop-i-preserved : goal.cut_array-loop-i-preserved
cut_array-loop-i-preserved t c =
    let l = c.loop-i in
    let inv = l.invariant in
    let item = shape c.args.item.now in
    let rest = l.rest.now in
    let e : length c.args.v.now / c.args.count ≡ item.width = inv.width in
    let below : c.split_at.result.0.now ≡ take (length rest - item.width) rest = c.split_at.ensures.front ∙ ap (λ w. take (length rest - w) rest) e in
    let top : c.split_at.result.1.now ≡ drop (length rest - item.width) rest = c.split_at.ensures.back ∙ ap (λ w. drop (length rest - w) rest) e in
    record {
      left = ap length below ∙ array-left c.args.count l._i item.width rest (omega arith) inv.left;
      width = e;
      items =
          ap (λ r. c.push.new.self.items ++ cut_evenly (c.args.count - (l._i + 1)) item r) below
          ∙ array-items c.args.count l._i item rest l.items.items _ _ _ (omega arith) inv.left c.in_ok-push.ensures.items
          (c.in_ok-cut_value.ensures.value ∙ ap item.value top) inv.items;
      back =
          ap (λ r. r ++ stacked (map bits c.push.new.self.items)) below
          ∙ cut-back _ rest _ l.items.items _ _ c.in_ok-push.ensures.items (c.in_ok-cut_value.ensures.back ∙ top) inv.back;
    }

pub cut_array-returns-clause-back : goal.cut_array-returns-clause-back
cut_array-returns-clause-back t c =
    let none : c.args.count - c.loop-i._i ≡ 0 = omega arith in
    let empty : length c.loop-i.rest.now ≡ 0 = c.loop-i.invariant.left ∙ ap (λ n. n * (shape c.args.item.now).width) none ∙ omega arith in
    all-cut c.loop-i.rest.now c.args.v.now c.loop-i.items.items c.from_vec.result c.from_vec.ensures empty c.loop-i.invariant.back

pub cut_struct-loop-member-preserved : goal.cut_struct-loop-member-preserved
cut_struct-loop-member-preserved t c =
    let l = c.loop-member in
    let inv = l.invariant in
    let ms = c.args.members.now in
    let x = c.member-item.result in
    let later = drop (l.member-index + 1) ms in
    let here : drop l.member-index ms ≡ x ∷ later = drop_more ms l.member-index x (omega arith) ∙ ap (λ y. y ∷ later) (sym c.member-item.is) in
    let sum : length l.rest.now ≡ (shape x.of).width + total (map member_shape later) =
    inv.left ∙ ap (λ ys. total (map member_shape ys)) here ∙ ap (λ s. s.width + total (map member_shape later)) (member-shape x) in
    let whole : length (l.rest.now ++ stacked (map bits l.items.items)) ≡ length c.args.v.now = ap length inv.back in
    let room : length l.rest.now ≤ 4194304 = omega (arith, length-append l.rest.now (stacked (map bits l.items.items))) in
    let capped = c.capped_width.ensures.shape in
    let below : length l.rest.now - c.capped_width.result ≡ total (map member_shape later) = omega arith in
    let k = length l.rest.now - c.capped_width.result in
    let low : c.split_at.result.0.now ≡ take k l.rest.now = c.split_at.ensures.front in
    let top : c.split_at.result.1.now ≡ drop k l.rest.now = c.split_at.ensures.back in
    record {
      left = ap length low ∙ length-take k l.rest.now ∙ omega arith;
      items =
          ap (λ r. c.push.new.self.items ++ cut (map member_shape later) r) low
          ∙ struct-items x later k l.rest.now l.items.items _ _ _ below c.in_ok-push.ensures.items (c.in_ok-cut_value.ensures.value ∙ ap (shape x.of).value top)
          (subst (λ ys. l.items.items ++ cut (map member_shape ys) l.rest.now ≡ cut (map member_shape ms) c.args.v.now) here inv.items);
      back =
          ap (λ r. r ++ stacked (map bits c.push.new.self.items)) low
          ∙ cut-back k l.rest.now _ l.items.items _ _ c.in_ok-push.ensures.items (c.in_ok-cut_value.ensures.back ∙ top) inv.back;
    }

pub cut_struct-returns-clause-back : goal.cut_struct-returns-clause-back
cut_struct-returns-clause-back t c =
    let none : drop c.loop-member.member-index c.args.members.now ≡ [] = drop_all c.loop-member.member-index c.args.members.now (omega arith) in
    let empty : length c.loop-member.rest.now ≡ 0 = c.loop-member.invariant.left ∙ ap (λ ys. total (map member_shape ys)) none in
    all-cut c.loop-member.rest.now c.args.v.now c.loop-member.items.items c.from_vec.result c.from_vec.ensures empty c.loop-member.invariant.back
