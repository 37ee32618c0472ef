use Rattle.std.proofs.Common.{◌≡◌, ◌&&◌, not, ap, ◌∙◌}
use Rattle.std.specs.List.{list_all}
use Rattle.sv_core.specs.declared.design.Signal.{Signal}
use Rattle.lower_design.specs.Translatable.{is_helper_name}
use Rattle.v_tree.specs.Names.{distinct}
use Rattle.sv2v_top.specs.source.Names.{signal_names, declared}
use Rattle.sv2v_top.proofs.Checks.{helpers-named}
use Rattle.sv2v_top.proofs.elab_build.header_fits.Goals as goal

pub returns : goal.returns
returns c =
    let source = c.args.source.now in
    let apart : c.are_distinct-distinct.result ≡ distinct (signal_names source) = c.are_distinct-distinct.ensures ∙ c.requires.names.distinct_flag in
    let free : c.have_no_helpers-free.result ≡ list_all (λ name. not (is_helper_name name)) (signal_names source) =
    c.have_no_helpers-free.ensures ∙ ap (list_all (λ (s : Signal). not (is_helper_name s.path))) c.requires.signals ∙ helpers-named (declared source) in
    λ i. (not (c.is_helper-own.ensures i) && apart i) && free i
