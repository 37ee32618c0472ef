use Rattle.std.proofs.Common.{◌≡◌, Err, sym, ap, subst, ◌∙◌}
use Rattle.std.proofs.lemmas.Result.{err_from_is_err_and}
use Rattle.v_tree.specs.Reading.{VReads}
use Rattle.v_tree.proofs.OneReading.{one_design}
use Rattle.sv2v_top.specs.Translation.{TranslationGives}
use Rattle.sv2v_top.proofs.Correct.{correct, unread-breaks, refused-breaks}
use Rattle.sv2v_top.proofs.translation.translate.Goals as goal

pub returns-in_err-tree : goal.returns-in_err-tree
returns-in_err-tree c =
    let p = err_from_is_err_and c.from_residual.result c.from_residual.ensures.1 in
    let same : p.0 ≡ c.in_err-tree.field-0.0 = p.2 in
    subst (TranslationGives c.args.top.now c.args.tokens) (sym (p.1 ∙ ap Err same))
    (unread-breaks c.args.top.now c.args.tokens c.in_err-tree.field-0.0 c.in_err-tree.ensures)

pub returns-in_err-design : goal.returns-in_err-design
returns-in_err-design c =
    let p = err_from_is_err_and c.from_residual-in_err-design.result c.from_residual-in_err-design.ensures.1 in
    let same : p.0 ≡ c.in_err-design.field-0.0 = p.2 in
    subst (TranslationGives c.args.top.now c.args.tokens) (sym (p.1 ∙ ap Err same))
    (refused-breaks c.args.top.now c.args.tokens c.in_ok-tree.tree c.in_err-design.field-0.0 c.in_ok-tree.ensures c.in_err-design.ensures)

pub lower_elaborated-requires : goal.lower_elaborated-requires
lower_elaborated-requires c =
    correct c.args.top.now c.args.tokens c.in_ok-tree.tree c.in_ok-tree.ensures c.in_ok-design.design c.in_ok-design.ensures c.requires.names

pub returns : goal.returns
returns c =
    let target = c.in_ok-target.target in
    let text = c.in_ok-text.text in
    let written = c.in_ok-text.ensures in
    let read_back : VReads text target = subst (λ t. VReads t target) (sym written.is_added) written.reads in
    record {
      source = c.in_ok-design.design;
      accepted = record { tree = c.in_ok-tree.tree; reads = c.in_ok-tree.ensures; elaborated = c.in_ok-design.ensures };
      target = target;
      right = record {
        reads = read_back;
        only = λ f other. one_design text f target other read_back;
        lowers = c.in_ok-target.ensures;
      };
    }
