use Rattle.std.proofs.Common.{◌≡◌, ◌+◌, true, false, not, cond, Some, sym, ap, ◌∙◌, arith}
use Rattle.std.specs.Option.{is_some}
use Rattle.std.specs.Str.{bytes_eq}
use Rattle.indexmap.specs.IndexMap as table
use Rattle.sv2v_top.specs.declared.name_table.Names.{Names}
use Rattle.v_tree.specs.Names.{among}
use Rattle.sv2v_top.proofs.Lookup.{number-new, number-old, some-among, is_some-copied, distinct-new, distinct-old, length-more}
use Rattle.sv2v_top.proofs.name_table.Names.add.Goals as goal
use Rattle.sv2v_top.proofs.name_table.Names.add.Goals.{then-is_none+in_ok-copy+in_ok-insert, else-is_none}

pub returns : goal.returns
returns c = λ ns n.
    let w = c.args.name.now in
    let up = c.in-Some.ensures in
    let next : c.in-Some.next ≡ c.args.self.now.next + 1 = omega arith in
    let found : is_some c.get.result ≡ among ns w =
    sym (is_some-copied c.get.result) ∙ ap is_some (c.get.ensures.value ∙ n.numbers w) ∙ some-among ns w in
    elim c.if-is_none.branch [
      | then-is_none+in_ok-copy+in_ok-insert b ↦ (
          let fresh : among ns w ≡ false = sym found ∙ c.is_none.ensures ∙ ap not b.if-is_none.true in
          let key : b.in_ok-copy.field-0 ≡ w = b.in_ok-copy.ensures in
          record {
            numbers = λ q.
                ap (λ (t : Names). table.get bytes_eq t.numbers q) b.self-is
                ∙ b.in_ok-insert.ensures.updates.0 q
                ∙ (λ j. cond (bytes_eq (key j) q) (Some (n.count j)) (n.numbers q j))
                ∙ sym (number-new ns w q fresh);
            count = next ∙ ap (λ k. k + 1) n.count ∙ sym (length-more ns w);
            distinct_flag = ap (λ (t : Names). t.distinct) b.self-is ∙ n.distinct_flag ∙ sym (distinct-new ns w fresh);
          })
      | else-is_none b ↦ (
          let old : among ns w ≡ true = sym found ∙ c.is_none.ensures ∙ ap not b.if-is_none.false in
          record {
            numbers = λ q. ap (λ (t : Names). table.get bytes_eq t.numbers q) b.self-is ∙ n.numbers q ∙ sym (number-old ns w q old);
            count = next ∙ ap (λ k. k + 1) n.count ∙ sym (length-more ns w);
            distinct_flag = ap (λ (t : Names). t.distinct) b.self-is ∙ sym (distinct-old ns w old);
          })
    ]
