use Rattle.std.proofs.Common.{rules, ◌≡◌, ◌<◌, [], ◌∷◌, ◌++◌, length, sym, ◌∙◌}
use Rattle.std.proofs.lemmas.List.{take_more}
use Rattle.v_reads.proofs.numbers.is_same.Goals as goal

pub loop-i-preserved : goal.loop-i-preserved
loop-i-preserved c =
    let a = c.args.a.now in
    let b = c.args.b.now in
    let i = c.loop-i.i in
    let x = c.index-a-i.result in
    let y = c.index-b-i.result in
    let there : i < length a = search rules in
    let given : i < length b = search rules in
    let same : x ≡ y = search rules in
    take_more a i x there ∙ (λ j. c.loop-i.invariant j ++ (sym c.index-a-i.is ∙ same ∙ c.index-b-i.is) j ∷ []) ∙ sym (take_more b i y given)
