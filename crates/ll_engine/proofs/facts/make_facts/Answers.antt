use Rattle.std.proofs.Common.{◌∙◌, [], get_or, subst, arith}
use Rattle.ll_engine.specs.declared.derive.Target.TheVariants.{Head}
use Rattle.ll_engine.specs.Facts.{AreSymbolFacts}
use Rattle.ll_engine.specs.Marks.{AreMarks}
use Rattle.ll_engine.specs.Rules.{start_rules}
use Rattle.ll_engine.proofs.Closing.{slice_get_short}
use Rattle.ll_engine.proofs.facts.make_facts.Goals as goal

pub returns : goal.returns
returns c =
    let t = c.args.rows.now in
    let long = c.in_ok-reaches.ensures.long in
    record {
      text = subst (λ q. AreMarks q c.in_ok-text.text) (c.as_slice.ensures ∙ c.in_ok-rules.ensures) c.in_ok-text.ensures;
      blank = subst (λ q. AreMarks q c.in_ok-blank.blank) (c.as_slice-2.ensures ∙ c.in_ok-rules-2.ensures) c.in_ok-blank.ensures;
      long = c.in_ok-symbols.ensures.long ∙ c.width.ensures.same;
      symbols = λ a s e. subst (λ q. AreSymbolFacts t q a s) c.as_slice-3.ensures (c.in_ok-symbols.ensures.each a s e);
      reached = long;
      reaches = λ i row e.
          let short = slice_get_short t i row e in
          subst (λ q. AreMarks (start_rules q (Head row.head) t) (get_or c.in_ok-reaches.reaches i [])) c.as_slice-4.ensures
          (c.in_ok-reaches.ensures.each i row e (omega (arith, short, long)));
    }
