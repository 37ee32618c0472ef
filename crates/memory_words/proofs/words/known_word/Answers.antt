use Rattle.std.proofs.Common.{rules, ◌≡◌, ◌+◌, ◌≤◌, ◌-ℤ◌, None, refl, arith, sym, ◌∙◌, subst}
use Rattle.std.proofs.lemmas.Int.{to_z-of_z}
use mir.Val.{SFits, to_z, of_z}
use mir.Syntax.{w64, w128}
use Rattle.sv_types.specs.Layouts.{layout, count_of}
use Rattle.lowering_laws.specs.Words.{lower}
use Rattle.memory_words.specs.Words.{LiesAbove, NumbersWord}
use Rattle.memory_words.proofs.Finding.{few-elements, lower-is, lost-word, above-has, beyond-word}
use Rattle.memory_words.proofs.words.known_word.Goals as goal

pub last_word-last-requires : goal.last_word-last-requires
last_word-last-requires c = record {
  few =
      (let count = few-elements c.args.of.now c.requires.some in
      let narrow = c.requires.narrow in
      subst (λ n. n ≤ 4194304) (sym (λ i. count_of (c.bounds_of-bounds.ensures.left i) (c.bounds_of-bounds.ensures.right i))) (omega arith));
}

pub returns-in-None : goal.returns-in-None
returns-in-None c =
    let count = sym (λ i. count_of (c.bounds_of-bounds.ensures.left i) (c.bounds_of-bounds.ensures.right i)) ∙ c.last_word-last.ensures.last in
    subst (λ z. NumbersWord (layout c.args.of.now) z (c.last_word-last.result + 1)) (sym c.in-None.is) (lost-word (layout c.args.of.now) c.last_word-last.result (c.last_word-last.result + 1) count refl)

pub returns-in-None-distance : goal.returns-in-None-distance
returns-in-None-distance c =
    let number_fits : SFits w128 c.in-Some.number = search rules in
    let low_fits : SFits w64 c.lowest.result = search rules in
    let number : to_z w128 (of_z w128 c.in-Some.number) ≡ c.in-Some.number = to_z-of_z w128 c.in-Some.number number_fits in
    let low : to_z w64 (of_z w64 c.lowest.result) ≡ lower (layout c.args.of.now) = to_z-of_z w64 c.lowest.result low_fits ∙ c.lowest.ensures
    ∙ sym (lower-is (layout c.args.of.now) c.bounds_of-bounds.result (sym c.bounds_of-bounds.ensures.left) (sym c.bounds_of-bounds.ensures.right)) in
    let count = sym (λ i. count_of (c.bounds_of-bounds.ensures.left i) (c.bounds_of-bounds.ensures.right i)) ∙ c.last_word-last.ensures.last in
    let far = subst (LiesAbove (to_z w128 (of_z w128 c.in-Some.number)) (to_z w64 (of_z w64 c.lowest.result)) c.last_word-last.result) c.in-None-distance.is c.distance.ensures in
    subst (λ z. NumbersWord (layout c.args.of.now) z (c.last_word-last.result + 1)) (sym c.in-Some.is)
    (beyond-word (layout c.args.of.now) c.in-Some.number c.last_word-last.result (c.last_word-last.result + 1) count refl
    (subst (λ k. LiesAbove k (lower (layout c.args.of.now)) c.last_word-last.result None) number
    (subst (λ l. LiesAbove (to_z w128 (of_z w128 c.in-Some.number)) l c.last_word-last.result None) low far)))

pub returns-in-Some-distance : goal.returns-in-Some-distance
returns-in-Some-distance c =
    let number_fits : SFits w128 c.in-Some.number = search rules in
    let low_fits : SFits w64 c.lowest.result = search rules in
    let number : to_z w128 (of_z w128 c.in-Some.number) ≡ c.in-Some.number = to_z-of_z w128 c.in-Some.number number_fits in
    let low : to_z w64 (of_z w64 c.lowest.result) ≡ lower (layout c.args.of.now) = to_z-of_z w64 c.lowest.result low_fits ∙ c.lowest.ensures
    ∙ sym (lower-is (layout c.args.of.now) c.bounds_of-bounds.result (sym c.bounds_of-bounds.ensures.left) (sym c.bounds_of-bounds.ensures.right)) in
    let count = sym (λ i. count_of (c.bounds_of-bounds.ensures.left i) (c.bounds_of-bounds.ensures.right i)) ∙ c.last_word-last.ensures.last in
    let near = subst (LiesAbove (to_z w128 (of_z w128 c.in-Some.number)) (to_z w64 (of_z w64 c.lowest.result)) c.last_word-last.result) c.in-Some-distance.is c.distance.ensures in
    subst (λ z. NumbersWord (layout c.args.of.now) z c.in-Some-distance.word) (sym c.in-Some.is)
    (above-has (layout c.args.of.now) c.in-Some.number c.last_word-last.result c.in-Some-distance.word count ((λ i. sym number i -ℤ sym low i) ∙ near.0) near.1)
