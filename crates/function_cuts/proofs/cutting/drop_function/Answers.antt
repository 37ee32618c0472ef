use Rattle.std.proofs.Common.{List, ap, sym, ◌∙◌}
use Rattle.sv_types.specs.declared.statement.Function.{Function}
use Rattle.expr_type.specs.Uses.{mark_of, stream_marks}
use Rattle.function_places.specs.Places.{first_place}
use Rattle.function_cuts.specs.Cuts.{IsOneLess}
use Rattle.function_cuts.proofs.Dropping.{marks-less}
use Rattle.function_cuts.proofs.cutting.drop_function.Goals as goal

pub returns-in-Some-clause-indexed : goal.returns-in-Some-clause-indexed
returns-in-Some-clause-indexed c =
    let known = c.args.known.now in
    let rest = c.pop_declared.new.functions in
    let less : IsOneLess known.functions rest c.in-Some.declared = c.in-Some.ensures in
    record {
      marked = c.drop_last.ensures (stream_marks rest) (mark_of (stream_marks rest) less.last) (marks-less rest less.last known.marks (c.requires.indexed.marked ∙ ap stream_marks less.behind));
      placed = c.remove_place.ensures rest less.last (sym less.at) (sym c.len.ensures) (λ d. c.requires.indexed.placed d ∙ ap (λ (fs : List Function). first_place d fs) less.behind);
    }
