use Rattle.std.proofs.Common.{arith}
use Rattle.v_meaning.specs.Values.{meaning, sel_meaning}
use Rattle.target_flatten.proofs.Writing.{select-bit, select-bits}
use Rattle.target_flatten.proofs.aims.offset_select.Goals as goal

pub returns-in_ok-made : goal.returns-in_ok-made
returns-in_ok-made c = select-bit (meaning c.args.offset) c.args.n (sel_meaning c.in_ok-made.made) (omega arith) c.in_ok-made.ensures

pub returns-in_ok-made-2 : goal.returns-in_ok-made-2
returns-in_ok-made-2 c = select-bits (meaning c.args.offset) c.args.n (sel_meaning c.in_ok-made-2.made) (λ e. omega arith) c.in_ok-made-2.ensures
