use Rattle.std.proofs.Common.{subst, arith}
use Rattle.expr_flows.specs.Known.{sight, sight_in}
use Rattle.design_breaks.specs.Unrolling as U
use Rattle.loop_rules.specs.Counted.{control_at}
use Rattle.loop_rules.specs.declared.turns.Turn.{Turn}
use Rattle.loop_rules.specs.Turns.{TurnIs, LastingGives}
use Rattle.loop_rules.proofs.Ending as K
use Rattle.loop_rules.proofs.turns.lasting.Goals as goal

pub loop-turn-init : goal.loop-turn-init
loop-turn-init c =
    let k = c.args.known in
    K.left-first (control_at c.args.at c.args.control) k.functions.now k.variables.now c.in_ok-locals.locals.items k.locals.now c.in_ok-locals.ensures

pub returns-in-Long : goal.returns-in-Long
returns-in-Long c =
    let k = c.args.known in
    let a = c.args.control in
    let h = sight_in k.functions.now c.loop-turn.locals.items k.variables.now in
    let j = sight_in k.functions.now c.bare_turn.new.locals.items k.variables.now in
    K.left-long a c.args.at c.loop-turn._turn c.in-Long.long h j (U.lasting 65536 (control_at c.args.at a) (sight k)) c.loop-turn.invariant (omega arith) (subst (λ (t : Turn). TurnIs t a h j) c.in-Long.is c.in_ok-long.ensures)

pub returns-in-Stops : goal.returns-in-Stops
returns-in-Stops c =
    let k = c.args.known in
    let a = c.args.control in
    let h = sight_in k.functions.now c.loop-turn.locals.items k.variables.now in
    let j = sight_in k.functions.now c.bare_turn.new.locals.items k.variables.now in
    K.left-stops a c.args.at c.loop-turn._turn h j (U.lasting 65536 (control_at c.args.at a) (sight k)) c.loop-turn.invariant (omega arith) (subst (λ (t : Turn). TurnIs t a h j) c.in-Stops.is c.in_ok-long.ensures)

pub loop-turn-preserved : goal.loop-turn-preserved
loop-turn-preserved c =
    let k = c.args.known in
    let a = c.args.control in
    let h = sight_in k.functions.now c.loop-turn.locals.items k.variables.now in
    let j = sight_in k.functions.now c.bare_turn.new.locals.items k.variables.now in
    K.left-next a c.args.at c.loop-turn._turn h j (U.lasting 65536 (control_at c.args.at a) (sight k)) c.loop-turn.invariant (subst (λ (t : Turn). TurnIs t a h j) c.in-Goes.is c.in_ok-long.ensures)

pub returns : goal.returns
returns c =
    let k = c.args.known in
    let a = c.args.control in
    let h = sight_in k.functions.now c.loop-turn.locals.items k.variables.now in
    K.left-last c.last_turn.result (control_at c.args.at a) c.loop-turn._turn h (sight k) c.loop-turn.invariant (omega arith)
    (subst (λ xs. LastingGives c.last_turn.result (control_at c.args.at a) 0 (sight_in k.functions.now xs k.variables.now)) c.as_slice.ensures.value c.last_turn.ensures)
