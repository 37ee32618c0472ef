use Rattle.std.proofs.Common.{rules, ◌≡◌, ◌≤◌, suc, pos, arith, sym, ◌∙◌, subst}
use Rattle.sv_types.specs.Layouts.{layout, count_of}
use Rattle.memory_words.specs.Words.{lowest}
use Rattle.memory_words.proofs.Finding.{few-elements, lower-is}
use Rattle.memory_words.proofs.words.word_of.Goals as goal

pub last_word-requires : goal.last_word-requires
last_word-requires c = record {
  few =
      (let count = few-elements c.args.of.now c.requires.some in
      let narrow = c.requires.narrow in
      subst (λ n. n ≤ 4194304) (sym (λ i. count_of (c.bounds_of-bounds.ensures.left i) (c.bounds_of-bounds.ensures.right i))) (omega arith));
}

pub returns-then-lowest-eq0-clause-word : goal.returns-then-lowest-eq0-clause-word
returns-then-lowest-eq0-clause-word c i a sc v is =
    let zero : lowest c.bounds_of-bounds.result ≡ pos 0 = search rules in
    let count : count_of (layout c.args.of.now).left (layout c.args.of.now).right ≡ suc c.last_word.result =
    sym (λ j. count_of (c.bounds_of-bounds.ensures.left j) (c.bounds_of-bounds.ensures.right j)) ∙ c.last_word.ensures.last in
    c.in_ok-made.ensures.word (layout c.args.of.now) i a sc v
    (lower-is (layout c.args.of.now) c.bounds_of-bounds.result (sym c.bounds_of-bounds.ensures.left) (sym c.bounds_of-bounds.ensures.right) ∙ zero) count is

pub returns-clause-word : goal.returns-clause-word
returns-clause-word c i a sc v is = c.in_ok-made-2.ensures.word (layout c.args.of.now) i a sc v (sym c.bounds_of-bounds.ensures.left) (sym c.bounds_of-bounds.ensures.right) is
