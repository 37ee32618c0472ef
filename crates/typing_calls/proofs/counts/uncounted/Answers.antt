use Rattle.std.proofs.Common.{List, subst}
use Rattle.sv_types.specs.declared.statement.Function.{Function}
use Rattle.typing_parts.specs.Typists.{CalledTo}
use Rattle.typing_calls.specs.Calls.{needed_of}
use Rattle.typing_calls.proofs.counts.uncounted.Goals as goal

pub returns-clause-value : goal.returns-clause-value
returns-clause-value g c = record {
  place = c.needed-place.result;
  called = subst (λ (fs : List Function). CalledTo c.needed-place.result (needed_of (g.S.Names.context c.args.names.now) c.args.of fs) c.needed-place.new.known.functions) c.cut.ensures.functions c.needed-place.ensures.value;
  is = c.first_halt.ensures;
}
