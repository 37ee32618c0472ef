use Rattle.std.proofs.Common.{rules, ◌≡◌, suc, Some, None}
use Rattle.v_eval.specs.Functions.{function_at}
use Rattle.v_reads.specs.Reads.{at_depth}
use Rattle.v_reads.proofs.Rounds.{function-read, nothing-read}
use Rattle.v_reads.proofs.Sets.{if-ok}
use Rattle.v_reads.proofs.functions.function_reads_at.Goals as goal

pub returns-in-None : goal.returns-in-None
returns-in-None c =
    let s = c.args.scope in
    let there : None ≡ function_at s.module.now.items.now (Some c.args.i) = search rules in
    nothing-read (at_depth (suc s.depth) s) c.args.i c.new.result there c.new.ensures

pub returns-in-Some : goal.returns-in-Some
returns-in-Some c =
    let s = c.args.scope in
    let there : Some c.in-Some.f.now ≡ function_at s.module.now.items.now (Some c.args.i) = search rules in
    if-ok (λ ns h. function-read s c.args.i c.in-Some.f.now ns there h) c.body_reads.result c.body_reads.ensures
