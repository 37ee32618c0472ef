use Rattle.std.proofs.Common.{◌≡◌, ◌≤◌, suc, List, length, arith, sym, ◌∙◌, subst}
use Rattle.sv_types.specs.declared.statement.Function.{Function}
use Rattle.routine_fits.specs.Sound.{AllSoundFunctions}
use Rattle.function_cuts.specs.Cuts.{IsRest}
use Rattle.function_cuts.proofs.Dropping.{cut-less, left-over, shorter}
use Rattle.function_cuts.proofs.cutting.cut.Goals as goal

pub loop-alloc-preserved : goal.loop-alloc-preserved
loop-alloc-preserved c =
    let old = c.loop-alloc.known.functions in
    let new = c.drop_function.new.known.functions in
    let rest : IsRest old new = c.drop_function.ensures.rest in
    let less : length old ≡ suc (length new) = shorter old new rest.last rest.behind in
    let within : c.args.count ≤ length new = omega (arith, c.len.ensures, c.loop-alloc-test.true) in
    record {
      indexed = c.drop_function.ensures.indexed;
      within = within;
      same = cut-less c.args.count old new rest.last rest.behind within ∙ c.loop-alloc.invariant.same;
    }

pub loop-alloc-smaller : goal.loop-alloc-smaller
loop-alloc-smaller c =
    let old = c.loop-alloc.known.functions in
    let new = c.drop_function.new.known.functions in
    let rest : IsRest old new = c.drop_function.ensures.rest in
    let less : length old ≡ suc (length new) = shorter old new rest.last rest.behind in
    omega arith

pub returns-clause-functions : goal.returns-clause-functions
returns-clause-functions c =
    let over : length c.loop-alloc.known.functions ≤ c.args.count = omega (arith, c.len.ensures, c.loop-alloc-test.false) in
    left-over c.args.count c.loop-alloc.known.functions c.args.known.now.functions over c.loop-alloc.invariant.same

pub returns-clause-ready : goal.returns-clause-ready
returns-clause-ready c =
    let over : length c.loop-alloc.known.functions ≤ c.args.count = omega (arith, c.len.ensures, c.loop-alloc-test.false) in
    record {
      marked = c.loop-alloc.invariant.indexed.marked;
      placed = c.loop-alloc.invariant.indexed.placed;
      sound = subst (λ (fs : List Function). AllSoundFunctions fs) (sym (left-over c.args.count c.loop-alloc.known.functions c.args.known.now.functions over c.loop-alloc.invariant.same)) c.requires.sound;
    }
