use Rattle.std.proofs.Common.{rules, ◌≡◌, false, pos, arith, sym, ◌∙◌}
use Rattle.std.proofs.lemmas.Int.{to_z-of_z}
use mir.Val.{SFits}
use mir.Syntax.{w64}
use Rattle.sv_types.specs.Layouts.{layout}
use Rattle.memory_words.specs.Words.{lowest}
use Rattle.memory_words.proofs.Finding.{few-elements, lower-is}
use Rattle.memory_words.proofs.Unguarded.{plain-number}
use Rattle.memory_words.proofs.numbers.word_number.Goals as goal

pub returns-then-low-eq0-clause-number : goal.returns-then-low-eq0-clause-number
returns-then-low-eq0-clause-number c =
    let zero : lowest c.bounds_of.result ≡ pos 0 = search rules in
    let unsigned : c.args.index.signed ≡ false = search rules in
    plain-number c.args.index c.args.of.now unsigned (lower-is (layout c.args.of.now) c.bounds_of.result (sym c.bounds_of.ensures.left) (sym c.bounds_of.ensures.right) ∙ zero)

pub returns-clause-number : goal.returns-clause-number
returns-clause-number c i a sc v is =
    let few = few-elements c.args.of.now c.requires.some in
    let narrow = c.requires.narrow in
    let fits : SFits w64 c.lowest-low.result = search rules in
    c.in_ok-made.ensures.number (layout c.args.of.now) i a sc v
    (lower-is (layout c.args.of.now) c.bounds_of.result (sym c.bounds_of.ensures.left) (sym c.bounds_of.ensures.right) ∙ sym c.lowest-low.ensures ∙ sym (to_z-of_z w64 c.lowest-low.result fits)) (omega arith) is
