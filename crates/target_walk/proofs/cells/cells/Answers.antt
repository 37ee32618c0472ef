use Rattle.std.proofs.Common.{◌≡◌, Some, arith, rules, sym, subst}
use Rattle.std.proofs.lemmas.Int.{to_z-of_z}
use mir.Val.{SFits, to_z, of_z}
use mir.Syntax.{w128}
use Rattle.sv_types.proofs.Widths.{wide-widest}
use Rattle.target_flatten.specs.Owning.{AllOwn, AllPlain}
use Rattle.target_walk.specs.declared.given.Given.TheVariants as G
use Rattle.target_walk.specs.Cells.{WritesLowest}
use Rattle.target_walk.specs.Walking.{StandsAt}
use Rattle.target_walk.proofs.Limiting.{own-narrow}
use Rattle.target_walk.proofs.Stacking.{lowest-none, lowest-next, lowest-after, lowest-all, low-first, low-next}
use Rattle.target_walk.proofs.cells.cells.Goals as goal

pub loop-t-init : goal.loop-t-init
loop-t-init c = record {
  first = low-first _;
  writes = subst (WritesLowest c.args.image.now c.args.e.now c.args.indices.now 0) (sym c.new-writes.ensures) (lowest-none c.args.image.now c.args.e.now c.args.indices.now);
  own = subst (AllOwn c.args.image.now.name c.args.image.now.bits) (sym c.new-writes.ensures) tt;
  plain = λ fixed. subst (AllPlain c.args.image.now.name) (sym c.new-writes.ensures) tt;
}

pub loop-t-preserved : goal.loop-t-preserved
loop-t-preserved c =
    let size = c.bounds_of-bounds.ensures.element in
    let wide = wide-widest c.args.e.now in
    let fits : SFits w128 c.index_above-k.result = search rules in
    let same : to_z w128 (of_z w128 c.index_above-k.result) ≡ c.index_above-k.result = to_z-of_z w128 c.index_above-k.result fits in
    let stands = subst (λ z. StandsAt c.args.e.now c.args.indices.now (Some (G.Known (Some z))) c.args.image.now.room c.in_ok-add_element.ensures.adds.spot) same c.in_ok-add_element.ensures.adds.stands in
    record {
      first = low-next c.loop-t.t c.loop-t.low c.saturating_add-low.result c.bounds_of-bounds.result.element _ c.loop-t.invariant.first size c.saturating_add-low.ensures;
      writes = lowest-after c.args.image.now c.args.e.now c.args.indices.now c.loop-t.t _
          (lowest-next c.args.image.now c.args.e.now c.args.indices.now c.loop-t.t c.loop-t.low c.bounds_of-bounds.result.element c.index_above-k.result c.bounds_of-bounds.result c.in_ok-add_element.ensures.adds.spot c.loop-t.writes _
          c.bounds_of-bounds.ensures.left c.bounds_of-bounds.ensures.right size c.index_above-k.ensures.rank c.loop-t.invariant.first (omega arith) stands c.in_ok-add_element.ensures.adds.adds c.loop-t.invariant.writes);
      own = c.in_ok-add_element.ensures.own c.loop-t.invariant.own;
      plain = λ fixed. c.in_ok-add_element.ensures.plain fixed (c.loop-t.invariant.plain fixed);
    }

pub returns-clause-writes : goal.returns-clause-writes
returns-clause-writes c =
    let wide = wide-widest c.args.e.now in
    let same : c.loop-t.t ≡ c.count_in-t-end.result = omega arith in
    lowest-all c.args.image.now c.args.e.now c.args.indices.now c.count_in-t-end.result c.bounds_of-bounds.result.left c.bounds_of-bounds.result.right c.loop-t.writes c.bounds_of-bounds.ensures.left c.bounds_of-bounds.ensures.right
    c.count_in-t-end.ensures (omega arith) (subst (λ n. WritesLowest c.args.image.now c.args.e.now c.args.indices.now n c.loop-t.writes) same c.loop-t.invariant.writes)

pub bounds_of-bounds-requires : goal.bounds_of-bounds-requires
bounds_of-bounds-requires c = own-narrow c.args.e.now 4194304 c.requires.narrow

pub returns-clause-own : goal.returns-clause-own
returns-clause-own c = c.loop-t.invariant.own

pub returns-clause-plain : goal.returns-clause-plain
returns-clause-plain c = c.loop-t.invariant.plain
