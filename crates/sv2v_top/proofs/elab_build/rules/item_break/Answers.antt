use Rattle.std.proofs.Common.{◌≡◌, ◌++◌, List, map, subst, ◌∙◌}
use Rattle.sv2v_top.specs.declared.uses.Use.{Use}
use Rattle.sv2v_top.specs.source.Statements.{item_parts, targets_in, word_of}
use Rattle.sv2v_top.specs.source.Rules.{writes_break, always_written}
use Rattle.sv2v_top.specs.source.Lookup.{Numbers}
use Rattle.sv2v_top.proofs.Checks.{holds-among}
use Rattle.sv2v_top.proofs.elab_build.rules.item_break.Goals as goal

pub returns : goal.returns
returns c = λ ws n.
    let item = c.args.item.now in
    let first_uses : c.as_slice-2.result.now ≡ (item_parts item).names = c.as_slice-2.ensures ∙ c.in_ok-found.ensures.names in
    let last_uses : c.as_slice-3.result.now ≡ (item_parts item).names = c.as_slice-3.ensures ∙ c.in_ok-found.ensures.names in
    record {
      first =
          c.in_ok-first.ensures
          ∙ (λ i. writes_break (λ w. holds-among c.args.written.now ws n w i) (λ w. holds-among c.in_ok-always.always (always_written item) c.in_ok-always.ensures w i) (targets_in (first_uses i)));
      table_is = subst (λ (us : List Use). Numbers c.add_targets.new.names (ws ++ map word_of (targets_in us))) last_uses (c.in_ok-add_targets.ensures ws n);
    }
