use Rattle.std.proofs.Common.{◌≡◌, rules, pos, ◌-ℤ◌, cond, length, get_or, ◌&&◌, arith, ap, ◌∙◌}
use Rattle.std.specs.Prelude.{nat_le, nat_lt}
use Rattle.std.proofs.lemmas.List.{length-set}
use Rattle.b4_core.specs.declared.bit.Bit4.TheVariants.{X}
use Rattle.picks.specs.Windows.{at_least_0}
use Rattle.eval_store.proofs.Writing.{bits-next, bits-last}
use Rattle.v_eval.specs.Windows.{window_of}
use Rattle.v_run.specs.Writes.{new_bit}
use Rattle.v_run.proofs.bits.set_between.Goals as goal

pub loop-k-preserved : goal.loop-k-preserved
loop-k-preserved c =
    let k = c.loop-k.k in
    let held = c.loop-k.held in
    let new = new_bit (window_of c.args.window) c.args.bits.now in
    let bit : c.bit_for.result ≡ get_or c.args.bits.now (at_least_0 (pos k -ℤ c.args.window.shift)) X = search rules in
    record {
      most = omega (arith, c.loop-k.invariant.most);
      long = ap length c.put.ensures ∙ length-set held k c.bit_for.result ∙ c.loop-k.invariant.long;
      bits = λ j. ap (λ xs. get_or xs j X) c.put.ensures
          ∙ bits-next c.args.low k j held c.bit_for.result new (get_or c.args.held.now j X) (omega arith) (omega (arith, c.loop-k.invariant.long)) bit (c.loop-k.invariant.bits j);
    }

pub returns : goal.returns
returns c = record {
  long = c.loop-k.invariant.long;
  now = λ j. c.loop-k.invariant.bits j
      ∙ ap (λ q. cond q (new_bit (window_of c.args.window) c.args.bits.now j) (get_or c.args.held.now j X)) (bits-last c.args.low c.loop-k.k c.args.high j (omega arith) c.loop-k.invariant.most)
      ∙ ap (λ n. cond (nat_le n j && nat_lt j c.args.high) (new_bit (window_of c.args.window) c.args.bits.now j) (get_or c.args.held.now j X)) c.requires.low
      ∙ ap (λ n. cond (nat_le c.args.window.low j && nat_lt j n) (new_bit (window_of c.args.window) c.args.bits.now j) (get_or c.args.held.now j X)) c.requires.high;
}
