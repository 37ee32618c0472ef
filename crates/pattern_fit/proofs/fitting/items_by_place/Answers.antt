use Rattle.std.proofs.Common.{◌≡◌, ◌≤◌, ◌<◌, ◌+◌, ◌-◌, [], ◌∷◌, List, Option, Some, None, length, drop, set, ℕ, suc, arith, ap, sym, ◌∙◌}
use Rattle.std.specs.Prelude.{slice_index_or, is_some}
use Rattle.std.proofs.lemmas.List.{drop_more, drop_all}
use Rattle.sv_types.specs.Windows.{tabulated}
use Rattle.pattern_fit.specs.Fits.{item_at, is_once}
use Rattle.pattern_fit.proofs.Tables.{nothing-taken, taken-more, once-more, twice, never-once, index-tabulated, length-tabulated}
use Rattle.pattern_fit.proofs.fitting.items_by_place.Goals as goal

pub loop-i-init : goal.loop-i-init
loop-i-init c =
    let ns = c.args.numbers.now in
    let none : drop (length ns) ns ≡ [] = drop_all (length ns) ns (omega arith) in
    record {
      within = omega arith;
      taken = c.in_ok-taken.ensures ∙ sym (nothing-taken (length ns) c.args.count) ∙ ap (λ ks. tabulated c.args.count (item_at (length ns) ks)) (sym none);
      once = ap is_once none;
    }

-- the keys from the one that is looked at on
abbrev behind : (ns : List (Option ℕ)) (i : ℕ) (k : Option ℕ) → 0 < i → i ≤ length ns → slice_index_or ns (i - 1) None ≡ k → drop (i - 1) ns ≡ k ∷ drop i ns
behind ns i k some within is =
    let e : i - 1 + 1 ≡ i = omega arith in
    drop_more ns (i - 1) None (omega arith) ∙ ap (λ x. x ∷ drop (i - 1 + 1) ns) is ∙ ap (λ j. k ∷ drop j ns) e

abbrev later : ℕ → ℕ
later i = suc (i - 1)

-- what the table has at a place
reading : (count i place : ℕ) (rest taken : List (Option ℕ)) (d : Option ℕ) → taken ≡ tabulated count (item_at i rest) → place < count → later i ≡ i → slice_index_or taken place d ≡ item_at (later i) rest place
reading count i place rest taken d is there e =
    ap (λ t. slice_index_or t place d) is ∙ index-tabulated count (item_at i rest) place d there ∙ ap (λ j. item_at j rest place) (sym e)

pub returns-in-None : goal.returns-in-None
returns-in-None c =
    let l = c.loop-i in
    never-once c.args.numbers.now (l.i - 1) (ap is_once (behind c.args.numbers.now l.i None c.loop-i-test.true l.invariant.within c.in-None.is))

pub index-requires : goal.index-requires
index-requires c =
    let long : length c.loop-i.taken.items ≡ c.args.count = ap length c.loop-i.invariant.taken ∙ length-tabulated c.args.count (item_at c.loop-i.i (drop c.loop-i.i c.args.numbers.now)) in
    let there = c.requires.within (c.loop-i.i - 1) c.in-Some.place c.in-Some.is in
    omega (arith, c.loop-i.taken.ok.0)

pub index_mut-requires : goal.index_mut-requires
index_mut-requires c =
    let long : length c.loop-i.taken.items ≡ c.args.count = ap length c.loop-i.invariant.taken ∙ length-tabulated c.args.count (item_at c.loop-i.i (drop c.loop-i.i c.args.numbers.now)) in
    let there = c.requires.within (c.loop-i.i - 1) c.in-Some.place c.in-Some.is in
    omega (arith, c.loop-i.taken.ok.0)

pub returns-then-is_some : goal.returns-then-is_some
returns-then-is_some c =
    let l = c.loop-i in
    let ns = c.args.numbers.now in
    let place = c.in-Some.place in
    let rest = drop l.i ns in
    let e : later l.i ≡ l.i = omega arith in
    let there = c.requires.within (l.i - 1) place c.in-Some.is in
    let read : c.index.result.now ≡ item_at (later l.i) rest place = c.index.ensures ∙ reading c.args.count l.i place rest l.taken.items c.index.result.now l.invariant.taken there e in
    never-once ns (l.i - 1) (ap is_once (behind ns l.i (Some place) c.loop-i-test.true l.invariant.within c.in-Some.is) ∙ twice (l.i - 1) place rest (ap is_some (sym read) ∙ sym c.is_some.ensures ∙ c.if-is_some.true))

pub loop-i-preserved : goal.loop-i-preserved
loop-i-preserved c =
    let l = c.loop-i in
    let ns = c.args.numbers.now in
    let place = c.in-Some.place in
    let rest = drop l.i ns in
    let e : later l.i ≡ l.i = omega arith in
    let here = behind ns l.i (Some place) c.loop-i-test.true l.invariant.within c.in-Some.is in
    let there = c.requires.within (l.i - 1) place c.in-Some.is in
    let read : c.index.result.now ≡ item_at (later l.i) rest place = c.index.ensures ∙ reading c.args.count l.i place rest l.taken.items c.index.result.now l.invariant.taken there e in
    record {
      within = omega arith;
      taken =
          ap (λ t. set t place (Some (l.i - 1))) (l.invariant.taken ∙ ap (λ j. tabulated c.args.count (item_at j rest)) (sym e))
          ∙ sym (taken-more c.args.count (l.i - 1) place rest there) ∙ ap (λ ks. tabulated c.args.count (item_at (l.i - 1) ks)) (sym here);
      once = ap is_once here ∙ once-more (l.i - 1) place rest (ap is_some (sym read) ∙ sym c.is_some.ensures ∙ c.if-is_some.false) l.invariant.once;
    }
