use Rattle.std.proofs.Common.{rules, ◌≡◌, ◌&&◌, length, map, ap, ◌∙◌}
use Rattle.v_meaning.specs.Functions.{callees_within}
use Rattle.v_meaning.specs.Modules.{functions as functions_in}
use Rattle.v_meaning.specs.Scopes.{is_signal}
use Rattle.v_eval.specs.Names.{local_named}
use Rattle.v_eval.specs.Scopes.{signals_of}
use Rattle.v_reads.specs.Reads.{is_among}
use Rattle.v_reads.proofs.Rounds.{function-scope, read-in, body-read}
use Rattle.v_reads.proofs.Sets.{if-ok}
use Rattle.v_reads.proofs.functions.body_reads.Goals as goal

pub returns : goal.returns
returns c =
    let s = c.args.scope in
    let f = c.args.f.now in
    let same : c.as_slice.result.now ≡ c.in_ok-all.all = search rules in
    let long : c.in_ok-behind.field-0 ≡ length c.as_slice.result.now = search rules in
    let names = ap (map local_named) same ∙ c.in_ok-all.ensures in
    let sc = function-scope c.as_slice.result.now f c.in_ok-behind.field-0 (signals_of s) (callees_within s.depth (signals_of s) (functions_in s.module.now.items.now)) names long in
    let numbers = c.stmt_reads.new.to in
    let read = read-in s f _ numbers _ c.in_ok-stmt_reads.ensures c.new-numbers.ensures sc in
    if-ok (λ ns h. body-read s f numbers ns read (λ n. h n ∙ ap (λ l. is_signal n && is_among l n) c.as_slice-2.ensures)) c.signals_once.result c.signals_once.ensures
