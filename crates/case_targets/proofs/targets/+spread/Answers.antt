use Rattle.std.proofs.Common.{◌≡◌, pos, ◌+ℤ◌, ◌≤ℤ◌, ◌^◌, int_lt, true, List, ◌∷◌, Some, IfOk, arith, rules, sym, subst, ap, ◌∙◌}
use Rattle.std.proofs.lemmas.Int.{ints, to_z-of_z}
use mir.Val.{SFits, to_z, of_z}
use mir.Syntax.{w128}
use Rattle.v_meaning.specs.Values.{meaning}
use Rattle.index_cases.specs.Cases.{matching}
use Rattle.guarded_writes.specs.Under.{PutsUnder}
use Rattle.target_flatten.specs.declared.writes.Write.{Write}
use Rattle.target_flatten.specs.Owning.{AllOwn}
use Rattle.target_walk.specs.Giving.{AllSmall}
use Rattle.target_walk.specs.declared.given.Given.TheVariants as G
use Rattle.case_targets.specs.declared.indices.PathIndex.TheVariants as I
use Rattle.case_targets.specs.Naming.{NamesEach, KeepsNames, PlainOf}
use Rattle.case_targets.specs.Spreading.{IsShaped, Spreads, SpreadsBelow, SpreadsBetween, AddsCase, KeepsOwn, all_of}
use Rattle.case_targets.proofs.Making.{if-ok, on-ok, case-is, case-never, in-range, one-more, range-end, round}
use Rattle.case_targets.proofs.Standing.{done-more, small-more}
use Rattle.case_targets.proofs.Counting.{below-none, below-more}
use Rattle.case_targets.proofs.Casing.{case-shaped, case-narrow, case-adds, never-adds, own-more, all-cases}
use Rattle.case_targets.proofs.Naming.{case-names, lowered-in-part}
use Rattle.case_targets.proofs.targets.+spread.Goals as goal

pub add_case-spread-requires : goal.add_case-spread-requires
add_case-spread-requires t c =
    let fits : SFits w128 c.args.k = search rules in
    let same : to_z w128 (of_z w128 c.args.k) ≡ c.args.k = to_z-of_z w128 c.args.k fits in
    let e = c.args.e.now in
    let gs = c.args.done.now in
    let i = c.args.i.now in
    let ps = c.args.rest.now in
    let case = c.in-Some.case in
    let is = case-is e gs i _ c.args.k same c.in_ok-case_of.field-0 case c.in-Some.is c.in_ok-case_of.ensures in
    let done = sym c.as_slice.ensures in (
      omega (arith, c.decreases),
      (
        case-narrow e gs i ps c.args.k case is 4194304 c.requires.narrow c.requires.shaped,
        (
          subst (λ l. IsShaped case.path (all_of l ps)) done (case-shaped e gs i ps c.args.k case is c.requires.shaped),
          (subst AllSmall (sym is.done ∙ done) (small-more gs (G.Known (Some c.args.k)) c.requires.done c.requires.near), c.requires.rest),
        ),
      ),
    )

pub add_case-returns-in-None-clause-case : goal.add_case-returns-in-None-clause-case
add_case-returns-in-None-clause-case t c =
    let fits : SFits w128 c.args.k = search rules in
    let same : to_z w128 (of_z w128 c.args.k) ≡ c.args.k = to_z-of_z w128 c.args.k fits in
    never-adds c.args.bits c.args.e.now c.args.done.now c.args.i.now c.args.rest.now c.args.k c.args.all.now
    (case-never c.args.e.now c.args.done.now c.args.i.now _ c.args.k same c.in_ok-case_of.field-0 c.in-None.is c.in_ok-case_of.ensures)

pub add_case-returns-in_ok-one-in-Some-clause-case : goal.add_case-returns-in_ok-one-in-Some-clause-case
add_case-returns-in_ok-one-in-Some-clause-case t c =
    let fits : SFits w128 c.args.k = search rules in
    let same : to_z w128 (of_z w128 c.args.k) ≡ c.args.k = to_z-of_z w128 c.args.k fits in
    let e = c.args.e.now in
    let gs = c.args.done.now in
    let i = c.args.i.now in
    let ps = c.args.rest.now in
    let case = c.in-Some.case in
    let old = c.args.all.now in
    let new = c.put_case.new.all in
    let one : List Write = c.in_ok-one-in-Some.one in
    let is = case-is e gs i _ c.args.k same c.in_ok-case_of.field-0 case c.in-Some.is c.in_ok-case_of.ensures in
    let spreads = subst (λ l. Spreads c.args.bits case.path (all_of l ps) one) c.as_slice.ensures c.in_ok-one-in-Some.ensures.writes in
    on-ok (PutsUnder (matching (meaning i.expr) case.number) one old new) (AddsCase c.args.bits e gs i ps c.args.k old new) c.put_case.result c.put_case.ensures
    (λ puts. case-adds e gs i ps c.args.k case is c.args.bits one old new spreads puts)

pub add_case-returns-in_ok-one-in-Some-clause-own : goal.add_case-returns-in_ok-one-in-Some-clause-own
add_case-returns-in_ok-one-in-Some-clause-own t c =
    let m = matching (meaning c.args.i.now.expr) c.in-Some.case.number in
    let old = c.args.all.now in
    let new = c.put_case.new.all in
    let one : List Write = c.in_ok-one-in-Some.one in
    on-ok (PutsUnder m one old new) (KeepsOwn c.args.name.now c.args.bits old new) c.put_case.result c.put_case.ensures
    (λ puts. own-more c.args.name.now c.args.bits m one old new puts c.in_ok-one-in-Some.ensures.own)

pub add_case-returns-in_ok-one-in-Some-clause-names : goal.add_case-returns-in_ok-one-in-Some-clause-names
add_case-returns-in_ok-one-in-Some-clause-names t c =
    let fits : SFits w128 c.args.k = search rules in
    let same : to_z w128 (of_z w128 c.args.k) ≡ c.args.k = to_z-of_z w128 c.args.k fits in
    let e = c.args.e.now in
    let gs = c.args.done.now in
    let i = c.args.i.now in
    let ps = c.args.rest.now in
    let case = c.in-Some.case in
    let old = c.args.all.now in
    let new = c.put_case.new.all in
    let one : List Write = c.in_ok-one-in-Some.one in
    let is = case-is e gs i _ c.args.k same c.in_ok-case_of.field-0 case c.in-Some.is c.in_ok-case_of.ensures in
    let names = subst (λ l. NamesEach c.args.bits case.path (all_of l ps) one) c.as_slice.ensures c.in_ok-one-in-Some.ensures.names in
    on-ok (PutsUnder (matching (meaning i.expr) case.number) one old new) (KeepsNames c.args.bits e (all_of gs (I.InPart i ∷ ps)) old new) c.put_case.result c.put_case.ensures
    (case-names e gs i ps c.args.k case is c.args.bits one old new names)

pub cases-returns-clause-writes : goal.cases-returns-clause-writes
cases-returns-clause-writes t c =
    let e = c.args.e.now in
    let gs = c.args.done.now in
    let i = c.args.i.now in
    let ps = c.args.rest.now in
    let r = c.numbers_at-numbers.result in
    if-ok (SpreadsBetween c.args.bits e gs i ps r) (Spreads c.args.bits e (all_of gs (I.InPart i ∷ ps))) c.cases_between.result c.cases_between.ensures.writes
    (λ xs h. all-cases c.args.bits e gs i ps r h.end xs c.numbers_at-numbers.ensures.within h.all h.below)

pub cases_between-loop-k-init : goal.cases_between-loop-k-init
cases_between-loop-k-init t c =
    let low = c.args.numbers.low in
    let first = to_z w128 (of_z w128 low) in
    let same : first ≡ low = round low (omega (arith, c.requires.low)) in
    let e = c.args.e.now in
    let gs = c.args.done.now in
    let i = c.args.i.now in
    let ps = c.args.rest.now in
    let none = sym c.new-all.ensures in
    record {
      below = subst (λ (xs : List Write). SpreadsBelow c.args.bits e gs i ps low first xs) none (below-none c.args.bits e gs i ps low first (omega (arith, ints, same)));
      names = subst (λ (xs : List Write). NamesEach c.args.bits e (all_of gs (I.InPart i ∷ ps)) xs) none (λ vec a sc v h. tt);
      own = subst (λ (xs : List Write). AllOwn c.args.name.now c.args.bits xs) none tt;
      low = omega (arith, ints, same);
    }

pub cases_between-add_case-requires : goal.cases_between-add_case-requires
cases_between-add_case-requires t c =
    let k = to_z w128 c.loop-k.k-bits in
    let end = range-end c.args.numbers.high c.requires.high in
    let less : int_lt k (c.args.numbers.high +ℤ pos 1) ≡ true = ap (int_lt k) (sym end) ∙ c.loop-k-test.true in (
      omega (arith, c.decreases),
      (c.requires.narrow, (c.requires.shaped, (c.requires.done, (c.requires.short, (c.requires.rest, in-range (2 ^ 64) c.args.numbers.low k c.args.numbers.high c.requires.low c.requires.high c.loop-k.invariant.low less))))),
    )

pub cases_between-loop-k-preserved : goal.cases_between-loop-k-preserved
cases_between-loop-k-preserved t c =
    let k = to_z w128 c.loop-k.k-bits in
    let low = c.args.numbers.low in
    let e = c.args.e.now in
    let gs = c.args.done.now in
    let i = c.args.i.now in
    let ps = c.args.rest.now in
    let new = c.add_case.new.all in
    let end = range-end c.args.numbers.high c.requires.high in
    let less : int_lt k (c.args.numbers.high +ℤ pos 1) ≡ true = ap (int_lt k) (sym end) ∙ c.loop-k-test.true in
    let small = in-range (2 ^ 64) low k c.args.numbers.high c.requires.low c.requires.high c.loop-k.invariant.low less in
    let next = one-more k small in
    let more = below-more c.args.bits e gs i ps low k c.loop-k.all new c.loop-k.invariant.below c.in_ok-add_case.ensures.case in
    record {
      below = subst (λ z. SpreadsBelow c.args.bits e gs i ps low z new) (sym next) more;
      names = c.in_ok-add_case.ensures.names c.loop-k.invariant.names;
      own = c.in_ok-add_case.ensures.own c.loop-k.invariant.own;
      low = subst (λ z. low ≤ℤ z) (sym next) (omega (arith, ints, c.loop-k.invariant.low));
    }

pub plain-spread-requires : goal.plain-spread-requires
plain-spread-requires t c =
    let e = c.args.e.now in
    let gs = c.args.done.now in
    let g = c.args.given.now in
    let ps = c.args.rest.now in
    let done = sym c.in_ok-done.ensures ∙ sym c.as_slice.ensures in (
      omega (arith, c.decreases),
      (c.requires.narrow, (subst (λ l. IsShaped e (all_of l ps)) done (subst (IsShaped e) (done-more gs g ps) c.requires.shaped), (subst AllSmall done (small-more gs g c.requires.done c.requires.small), c.requires.rest))),
    )

pub plain-returns-clause-writes : goal.plain-returns-clause-writes
plain-returns-clause-writes t c =
    let gs = c.args.done.now in
    let g = c.args.given.now in
    let ps = c.args.rest.now in
    let done = c.as_slice.ensures ∙ c.in_ok-done.ensures in
    subst (λ l. IfOk c.spread.result (Spreads c.args.bits c.args.e.now l)) (ap (λ l. all_of l ps) done ∙ sym (done-more gs g ps)) c.spread.ensures.writes

pub plain-returns-clause-names : goal.plain-returns-clause-names
plain-returns-clause-names t c =
    let gs = c.args.done.now in
    let g = c.args.given.now in
    let ps = c.args.rest.now in
    let done = c.as_slice.ensures ∙ c.in_ok-done.ensures in
    subst (λ l. IfOk c.spread.result (NamesEach c.args.bits c.args.e.now l)) (ap (λ l. all_of l ps) done ∙ sym (done-more gs g ps)) c.spread.ensures.names

pub plain-returns-clause-plain : goal.plain-returns-clause-plain
plain-returns-clause-plain t c =
    let gs = c.args.done.now in
    let g = c.args.given.now in
    let ps = c.args.rest.now in
    let done = c.as_slice.ensures ∙ c.in_ok-done.ensures in
    subst (λ l. IfOk c.spread.result (PlainOf c.args.name.now l)) (ap (λ l. all_of l ps) done ∙ sym (done-more gs g ps)) c.spread.ensures.plain

pub cases-returns-clause-plain : goal.cases-returns-clause-plain
cases-returns-clause-plain t c =
    let gs = c.args.done.now in
    let i = c.args.i.now in
    let ps = c.args.rest.now in
    if-ok (AllOwn c.args.name.now c.args.bits) (PlainOf c.args.name.now (all_of gs (I.InPart i ∷ ps))) c.cases_between.result c.cases_between.ensures.own (λ xs own fixed. absurd (lowered-in-part gs i ps fixed))
