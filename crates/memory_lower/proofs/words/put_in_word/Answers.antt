use Rattle.std.proofs.Common.{◌≡◌, List, [], ◌∷◌, Option, refl, subst}
use Rattle.v_tree.specs.declared.expressions.VExpr.{VExpr}
use Rattle.target_flatten.specs.declared.writes.Write.{Write}
use Rattle.memory_targets.specs.declared.words.Word.{Word}
use Rattle.memory_targets.specs.Owning.{OwnInWord}
use Rattle.memory_targets.specs.Pieces.{AllInWord}
use Rattle.memory_lower.specs.Lowered.{NamedInWord}
use Rattle.memory_lower.proofs.words.put_in_word.Goals as goal

-- where targets are made, what is named apart is kept
kept : (w : Word) (xs : List Write) (named : Option VExpr) → (xs ≡ [] → ⊥) → NamedInWord w xs named named
kept w [] named some = absurd (some refl)
kept w (x ∷ xs) named some = refl

pub returns : goal.returns
returns c =
    let w = c.args.word.now in
    let is : c.as_slice.result.now ≡ c.args.alone.writes = c.as_slice.ensures in
    let some : c.args.alone.writes ≡ [] → ⊥ = λ q. let x = c.is_empty.ensures.1 q in let y = c.if-is_empty.false in cc (x, y) in
    record {
      all = subst (λ l. AllInWord w l c.in_ok-made.made) is c.in_ok-made.ensures.all;
      own = subst (λ l. OwnInWord w l c.in_ok-made.made) is c.in_ok-made.ensures.own;
      apart = kept w c.args.alone.writes c.args.alone.named some;
    }
