use Rattle.std.proofs.Common.{◌≡◌, ◌+◌, ◌-◌, List, arith, drop, get_or, length, refl, replicate, rules, ap, sym, ◌∙◌}
use Rattle.std.specs.Prelude.{zip}
use Rattle.pattern_fit.specs.declared.pattern.PatternItem.{PatternItem}
use Rattle.expr_type.specs.Answers.{source}
use Rattle.expr_type.specs.Patterns.{made, types_in}
use Rattle.pattern_types.specs.Filling.{spread_of}
use Rattle.pattern_types.specs.Leaves.{member_types}
use Rattle.pattern_types.specs.Meaning.{fitted_in, items_in, operand_of, parts_in, pattern_of, tick_of, written_items}
use Rattle.pattern_types.proofs.Fitting.{taking-builds, taking-fills, taking-length}
use Rattle.pattern_types.proofs.Fronts.{copies-left, copy-front, counted, element-front, elements-left, member-front, members-left, type-front, types-left}
use Rattle.pattern_types.proofs.Levels.{types-Enum, types-PackedArray, types-Scalar, types-Struct, types-Union, types-UnpackedArray}
use Rattle.sv_types.specs.declared.types.SvType.{the_lemmas}
use Rattle.pattern_types.proofs.Making.{gives-same, made-lost, makes-start, nothing-gives, pattern-made, pattern-same, place-ends, place-makes, place-rest, place-whole, placed-default, placed-item, placed-spread, plain-built, spread-all, spread-gives, whole-same}
use Rattle.pattern_types.proofs.building.+build.Goals as goal

pub build_value-returns-in_ok-copy_expr-in-Plain : goal.build_value-returns-in_ok-copy_expr-in-Plain
build_value-returns-in_ok-copy_expr-in-Plain t c =
    plain-built (source c.args.text) c.args.t.now c.args.v.now c.in-Plain.value c.in_ok-copy_expr-in-Plain.field-0 c.in-Plain.is c.in_ok-copy_expr-in-Plain.ensures c.requires

pub build_value-returns-in-Pattern : goal.build_value-returns-in-Pattern
build_value-returns-in-Pattern t c =
    gives-same c.build_pattern.result _ _
    (pattern-same (source c.args.text) c.args.t.now c.args.v.now (parts_in c.listed.result) c.in-Pattern.tick c.in-Pattern.tick c.in-Pattern.times c.in-Pattern.items c.in-Pattern.is refl c.listed.ensures) c.build_pattern.ensures

pub build_pattern-build_items-items-requires : goal.build_pattern-build_items-items-requires
build_pattern-build_items-items-requires t c =
    let k = source c.args.text in
    let p = parts_in c.args.p in
    let b = taking-builds k p c.args.at c.args.t.now c.in_ok-taking.taking c.in_ok-taking.ensures c.requires in
    (search rules, (taking-fills k p c.args.t.now c.in_ok-taking.taking c.in_ok-taking.ensures, (taking-length k p c.args.t.now c.in_ok-taking.taking c.in_ok-taking.ensures, b.whole)))

pub build_pattern-returns : goal.build_pattern-returns
build_pattern-returns t c =
    let k = source c.args.text in
    let p = parts_in c.args.p in
    let b = taking-builds k p c.args.at c.args.t.now c.in_ok-taking.taking c.in_ok-taking.ensures c.requires in
    pattern-made k c.args.at c.args.t.now c.build_items-items.result c.pattern_expr.result _ (fitted_in k (pattern_of k p) c.args.at c.args.t.now) c.pattern_expr.ensures c.build_items-items.ensures b.whole b.makes

pub build_members-loop-n-init : goal.build_members-loop-n-init
build_members-loop-n-init t c = record { whole = c.requires.whole; all = makes-start c.new.result c.new.ensures _ }

pub build_members-build_place-requires : goal.build_members-build_place-requires
build_members-build_place-requires t c =
    let k = source c.args.text in
    let p = parts_in c.args.p in
    let f = made k (tick_of p) (written_items k (items_in p)) in
    let takes = c.args.taking.now.takes in
    let ms = c.args.members.now in
    let n = c.loop-n.n in
    let x = c.take_at.result in
    let m = c.index-members-n.result in
    let front = member-front takes ms n x m (omega (arith, c.requires.length)) (omega arith) (c.take_at.ensures ∙ ap (λ (xs : List PatternItem). get_or xs n x) c.as_slice-takes.ensures) c.index-members-n.is in
    (search (rules, the_lemmas), (c.requires.fills, place-whole f (x, m.of) (zip (drop n takes) (member_types (drop n ms))) (zip (drop (n + 1) takes) (member_types (drop (n + 1) ms))) front c.loop-n.invariant.whole))

pub build_members-loop-n-preserved : goal.build_members-loop-n-preserved
build_members-loop-n-preserved t c =
    let k = source c.args.text in
    let p = parts_in c.args.p in
    let f = made k (tick_of p) (written_items k (items_in p)) in
    let takes = c.args.taking.now.takes in
    let ms = c.args.members.now in
    let n = c.loop-n.n in
    let x = c.take_at.result in
    let m = c.index-members-n.result in
    let now = zip (drop n takes) (member_types (drop n ms)) in
    let later = zip (drop (n + 1) takes) (member_types (drop (n + 1) ms)) in
    let front = member-front takes ms n x m (omega (arith, c.requires.length)) (omega arith) (c.take_at.ensures ∙ ap (λ (xs : List PatternItem). get_or xs n x) c.as_slice-takes.ensures) c.index-members-n.is in
    record {
      whole = place-rest f (x, m.of) now later front c.loop-n.invariant.whole;
      all = place-makes f (x, m.of) now later c.loop-n.items c.build_place.result c.with_last-items.result _ front c.loop-n.invariant.whole c.loop-n.invariant.all c.build_place.ensures c.with_last-items.ensures;
    }

pub build_members-returns : goal.build_members-returns
build_members-returns t c =
    let k = source c.args.text in
    let p = parts_in c.args.p in
    let takes = c.args.taking.now.takes in
    let ms = c.args.members.now in
    let n = c.loop-n.n in
    place-ends (made k (tick_of p) (written_items k (items_in p))) c.loop-n.items (zip (drop n takes) (member_types (drop n ms))) _ (members-left takes ms n (omega (arith, c.requires.length))) c.loop-n.invariant.all

pub build_elements-loop-n-init : goal.build_elements-loop-n-init
build_elements-loop-n-init t c = record { whole = c.requires.whole; all = makes-start c.new.result c.new.ensures _ }

pub build_elements-build_place-requires : goal.build_elements-build_place-requires
build_elements-build_place-requires t c =
    let k = source c.args.text in
    let p = parts_in c.args.p in
    let f = made k (tick_of p) (written_items k (items_in p)) in
    let takes = c.args.taking.now.takes in
    let e = c.args.element.now in
    let n = c.loop-n.n in
    let x = c.take_at.result in
    let long : length c.as_slice-takes.result.now ≡ length takes = ap (λ (xs : List PatternItem). length xs) c.as_slice-takes.ensures in
    let front = element-front takes e n x (omega (arith, long)) (c.take_at.ensures ∙ ap (λ (xs : List PatternItem). get_or xs n x) c.as_slice-takes.ensures) in
    (search rules, (c.requires.fills, place-whole f (x, e) (zip (drop n takes) (replicate (length (drop n takes)) e)) (zip (drop (n + 1) takes) (replicate (length (drop (n + 1) takes)) e)) front c.loop-n.invariant.whole))

pub build_elements-loop-n-preserved : goal.build_elements-loop-n-preserved
build_elements-loop-n-preserved t c =
    let k = source c.args.text in
    let p = parts_in c.args.p in
    let f = made k (tick_of p) (written_items k (items_in p)) in
    let takes = c.args.taking.now.takes in
    let e = c.args.element.now in
    let n = c.loop-n.n in
    let x = c.take_at.result in
    let now = zip (drop n takes) (replicate (length (drop n takes)) e) in
    let later = zip (drop (n + 1) takes) (replicate (length (drop (n + 1) takes)) e) in
    let long : length c.as_slice-takes.result.now ≡ length takes = ap (λ (xs : List PatternItem). length xs) c.as_slice-takes.ensures in
    let front = element-front takes e n x (omega (arith, long)) (c.take_at.ensures ∙ ap (λ (xs : List PatternItem). get_or xs n x) c.as_slice-takes.ensures) in
    record {
      whole = place-rest f (x, e) now later front c.loop-n.invariant.whole;
      all = place-makes f (x, e) now later c.loop-n.items c.build_place.result c.with_last-items.result _ front c.loop-n.invariant.whole c.loop-n.invariant.all c.build_place.ensures c.with_last-items.ensures;
    }

pub build_elements-returns : goal.build_elements-returns
build_elements-returns t c =
    let k = source c.args.text in
    let p = parts_in c.args.p in
    let takes = c.args.taking.now.takes in
    let n = c.loop-n.n in
    let long : length c.as_slice-takes.result.now ≡ length takes = ap (λ (xs : List PatternItem). length xs) c.as_slice-takes.ensures in
    place-ends (made k (tick_of p) (written_items k (items_in p))) c.loop-n.items (zip (drop n takes) (replicate (length (drop n takes)) c.args.element.now)) _ (elements-left takes c.args.element.now n (omega (arith, long))) c.loop-n.invariant.all

pub build_place-returns-in-None : goal.build_place-returns-in-None
build_place-returns-in-None t c = made-lost (source c.args.text) (parts_in c.args.p) c.args.taking.now c.args.take c.args.t.now c.requires.fills (sym c.in-None.ensures)

pub build_place-build_value-requires : goal.build_place-build_value-requires
build_place-build_value-requires t c =
    (search rules, whole-same _ _ (placed-item (source c.args.text) (parts_in c.args.p) c.args.taking.now c.args.take c.args.t.now _ _ c.requires.fills c.in-Item.is c.in-Some.ensures) c.requires.whole)

pub build_place-build_default-requires : goal.build_place-build_default-requires
build_place-build_default-requires t c =
    (search rules, whole-same _ _ (placed-default (source c.args.text) (parts_in c.args.p) c.args.taking.now c.args.take c.args.t.now _ c.requires.fills c.in-Default.is c.in-Some.ensures) c.requires.whole)

pub build_place-build_default-requires-in-Spread : goal.build_place-build_default-requires-in-Spread
build_place-build_default-requires-in-Spread t c =
    (search rules, whole-same _ _ (placed-spread (source c.args.text) (parts_in c.args.p) c.args.taking.now c.args.take c.args.t.now _ c.requires.fills c.in-Spread.is c.in-Some.ensures) c.requires.whole)

pub build_place-returns-in-Item : goal.build_place-returns-in-Item
build_place-returns-in-Item t c =
    gives-same c.build_value.result _ _ (sym (placed-item (source c.args.text) (parts_in c.args.p) c.args.taking.now c.args.take c.args.t.now _ _ c.requires.fills c.in-Item.is c.in-Some.ensures)) c.build_value.ensures

pub build_place-returns-in-Default : goal.build_place-returns-in-Default
build_place-returns-in-Default t c =
    gives-same c.build_default.result _ _ (sym (placed-default (source c.args.text) (parts_in c.args.p) c.args.taking.now c.args.take c.args.t.now _ c.requires.fills c.in-Default.is c.in-Some.ensures)) c.build_default.ensures

pub build_place-returns-in-Spread : goal.build_place-returns-in-Spread
build_place-returns-in-Spread t c =
    gives-same c.build_default-in-Spread.result _ _ (sym (placed-spread (source c.args.text) (parts_in c.args.p) c.args.taking.now c.args.take c.args.t.now _ c.requires.fills c.in-Spread.is c.in-Some.ensures)) c.build_default-in-Spread.ensures

pub build_default-spread_members-items-requires : goal.build_default-spread_members-items-requires
build_default-spread_members-items-requires t c = (
  search (rules, the_lemmas),
  spread-all (source c.args.text) c.args.tick c.args.rest.now (operand_of (source c.args.text) c.args.v.now) c.args.t.now (member_types c.as_slice.result.now) (sym c.takes_itself.ensures ∙ c.if-takes_itself.false)
      (ap types_in c.in-Struct.is ∙ types-Struct _ _ _ c.in-Struct.members ∙ sym (ap member_types c.as_slice.ensures)) c.requires,
)

pub build_default-spread_elements-items-requires : goal.build_default-spread_elements-items-requires
build_default-spread_elements-items-requires t c = (
  search (rules, the_lemmas),
  spread-all (source c.args.text) c.args.tick c.args.rest.now (operand_of (source c.args.text) c.args.v.now) c.args.t.now (replicate c.place_count-count.result c.get.result.now) (sym c.takes_itself.ensures ∙ c.if-takes_itself.false)
      (counted (types_in c.args.t.now) c.in-PackedArray.item c.get.result.now _ c.place_count-count.result (ap types_in c.in-PackedArray.is ∙ types-PackedArray _ _ _ c.in-PackedArray.item) c.place_count-count.ensures c.get.ensures) c.requires,
)

pub build_default-spread_elements-items-requires-in-UnpackedArray : goal.build_default-spread_elements-items-requires-in-UnpackedArray
build_default-spread_elements-items-requires-in-UnpackedArray t c = (
  search (rules, the_lemmas),
  spread-all (source c.args.text) c.args.tick c.args.rest.now (operand_of (source c.args.text) c.args.v.now) c.args.t.now (replicate c.place_count-count-in-UnpackedArray.result c.get-in-UnpackedArray.result.now) (sym c.takes_itself.ensures ∙ c.if-takes_itself.false)
      (counted (types_in c.args.t.now) c.in-UnpackedArray.item c.get-in-UnpackedArray.result.now _ c.place_count-count-in-UnpackedArray.result (ap types_in c.in-UnpackedArray.is ∙ types-UnpackedArray _ _ c.in-UnpackedArray.item) c.place_count-count-in-UnpackedArray.ensures c.get-in-UnpackedArray.ensures) c.requires,
)

pub build_default-returns-in-Struct : goal.build_default-returns-in-Struct
build_default-returns-in-Struct t c =
    spread-gives (source c.args.text) c.args.tick c.args.rest.now (operand_of (source c.args.text) c.args.v.now) c.args.t.now (member_types c.as_slice.result.now) c.spread_members-items.result c.pattern_expr.result (sym c.takes_itself.ensures ∙ c.if-takes_itself.false)
    (ap types_in c.in-Struct.is ∙ types-Struct _ _ _ c.in-Struct.members ∙ sym (ap member_types c.as_slice.ensures)) c.requires c.spread_members-items.ensures c.pattern_expr.ensures

pub build_default-returns-in-PackedArray : goal.build_default-returns-in-PackedArray
build_default-returns-in-PackedArray t c =
    spread-gives (source c.args.text) c.args.tick c.args.rest.now (operand_of (source c.args.text) c.args.v.now) c.args.t.now (replicate c.place_count-count.result c.get.result.now) c.spread_elements-items.result c.pattern_expr-in-PackedArray.result (sym c.takes_itself.ensures ∙ c.if-takes_itself.false)
    (counted (types_in c.args.t.now) c.in-PackedArray.item c.get.result.now _ c.place_count-count.result (ap types_in c.in-PackedArray.is ∙ types-PackedArray _ _ _ c.in-PackedArray.item) c.place_count-count.ensures c.get.ensures) c.requires c.spread_elements-items.ensures c.pattern_expr-in-PackedArray.ensures

pub build_default-returns-in-UnpackedArray : goal.build_default-returns-in-UnpackedArray
build_default-returns-in-UnpackedArray t c =
    spread-gives (source c.args.text) c.args.tick c.args.rest.now (operand_of (source c.args.text) c.args.v.now) c.args.t.now (replicate c.place_count-count-in-UnpackedArray.result c.get-in-UnpackedArray.result.now) c.spread_elements-items-in-UnpackedArray.result c.pattern_expr-in-UnpackedArray.result (sym c.takes_itself.ensures ∙ c.if-takes_itself.false)
    (counted (types_in c.args.t.now) c.in-UnpackedArray.item c.get-in-UnpackedArray.result.now _ c.place_count-count-in-UnpackedArray.result (ap types_in c.in-UnpackedArray.is ∙ types-UnpackedArray _ _ c.in-UnpackedArray.item) c.place_count-count-in-UnpackedArray.ensures c.get-in-UnpackedArray.ensures) c.requires c.spread_elements-items-in-UnpackedArray.ensures c.pattern_expr-in-UnpackedArray.ensures

pub build_default-returns-in-Scalar : goal.build_default-returns-in-Scalar
build_default-returns-in-Scalar t c =
    nothing-gives (source c.args.text) c.args.tick c.args.rest.now (operand_of (source c.args.text) c.args.v.now) c.args.t.now c.new.result c.pattern_expr-in-Scalar.result (sym c.takes_itself.ensures ∙ c.if-takes_itself.false)
    (ap types_in c.in-Scalar.is ∙ types-Scalar _ _) c.new.ensures c.requires c.pattern_expr-in-Scalar.ensures

pub build_default-returns-in-Union : goal.build_default-returns-in-Union
build_default-returns-in-Union t c =
    nothing-gives (source c.args.text) c.args.tick c.args.rest.now (operand_of (source c.args.text) c.args.v.now) c.args.t.now c.new-in-Union.result c.pattern_expr-in-Union.result (sym c.takes_itself.ensures ∙ c.if-takes_itself.false)
    (ap types_in c.in-Union.is ∙ types-Union _ _ _) c.new-in-Union.ensures c.requires c.pattern_expr-in-Union.ensures

pub build_default-returns-in-Enum : goal.build_default-returns-in-Enum
build_default-returns-in-Enum t c =
    nothing-gives (source c.args.text) c.args.tick c.args.rest.now (operand_of (source c.args.text) c.args.v.now) c.args.t.now c.new-in-Enum.result c.pattern_expr-in-Enum.result (sym c.takes_itself.ensures ∙ c.if-takes_itself.false)
    (ap types_in c.in-Enum.is ∙ types-Enum _ _ _) c.new-in-Enum.ensures c.requires c.pattern_expr-in-Enum.ensures

pub spread_members-build_default-requires : goal.spread_members-build_default-requires
spread_members-build_default-requires t c =
    let k = source c.args.text in
    let ms = c.args.members.now in
    let n = c.loop-member.member-index in
    let m = c.member-item.result in
    (search (rules, the_lemmas), place-whole (spread_of k c.args.tick c.args.rest.now (operand_of k c.args.v.now)) m.of (member_types (drop n ms)) (member_types (drop (n + 1) ms)) (type-front ms n m (omega arith) c.member-item.is) c.loop-member.invariant.whole)

pub spread_members-loop-member-preserved : goal.spread_members-loop-member-preserved
spread_members-loop-member-preserved t c =
    let k = source c.args.text in
    let ms = c.args.members.now in
    let n = c.loop-member.member-index in
    let m = c.member-item.result in
    let f = spread_of k c.args.tick c.args.rest.now (operand_of k c.args.v.now) in
    let front = type-front ms n m (omega arith) c.member-item.is in
    record {
      whole = place-rest f m.of (member_types (drop n ms)) (member_types (drop (n + 1) ms)) front c.loop-member.invariant.whole;
      all =
          place-makes f m.of (member_types (drop n ms)) (member_types (drop (n + 1) ms)) c.loop-member.items c.build_default.result c.with_last-items.result _ front c.loop-member.invariant.whole c.loop-member.invariant.all
          c.build_default.ensures c.with_last-items.ensures;
    }

pub spread_members-returns : goal.spread_members-returns
spread_members-returns t c =
    let k = source c.args.text in
    let ms = c.args.members.now in
    let n = c.loop-member.member-index in
    place-ends (spread_of k c.args.tick c.args.rest.now (operand_of k c.args.v.now)) c.loop-member.items (member_types (drop n ms)) _ (types-left ms n (omega arith)) c.loop-member.invariant.all

pub spread_elements-build_default-requires : goal.spread_elements-build_default-requires
spread_elements-build_default-requires t c =
    let k = source c.args.text in
    let e = c.args.element.now in
    let n = c.loop-n._n in
    (search rules, place-whole (spread_of k c.args.tick c.args.rest.now (operand_of k c.args.v.now)) e (replicate (c.args.count - n) e) (replicate (c.args.count - (n + 1)) e) (copy-front e c.args.count n (omega arith)) c.loop-n.invariant.whole)

pub spread_elements-loop-n-preserved : goal.spread_elements-loop-n-preserved
spread_elements-loop-n-preserved t c =
    let k = source c.args.text in
    let e = c.args.element.now in
    let n = c.loop-n._n in
    let f = spread_of k c.args.tick c.args.rest.now (operand_of k c.args.v.now) in
    let front = copy-front e c.args.count n (omega arith) in
    record {
      whole = place-rest f e (replicate (c.args.count - n) e) (replicate (c.args.count - (n + 1)) e) front c.loop-n.invariant.whole;
      all =
          place-makes f e (replicate (c.args.count - n) e) (replicate (c.args.count - (n + 1)) e) c.loop-n.items c.build_default.result c.with_last-items.result _ front c.loop-n.invariant.whole c.loop-n.invariant.all
          c.build_default.ensures c.with_last-items.ensures;
    }

pub spread_elements-returns : goal.spread_elements-returns
spread_elements-returns t c =
    let k = source c.args.text in
    let e = c.args.element.now in
    let n = c.loop-n._n in
    place-ends (spread_of k c.args.tick c.args.rest.now (operand_of k c.args.v.now)) c.loop-n.items (replicate (c.args.count - n) e) _ (copies-left e c.args.count n (omega arith)) c.loop-n.invariant.all
