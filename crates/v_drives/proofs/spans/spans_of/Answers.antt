use Rattle.std.proofs.Common.{◌+◌, ◌||◌, map, drop, ap, sym, ◌∙◌}
use Rattle.bit_sets.specs.Sets.{in_spans}
use Rattle.bit_sets.proofs.Laws as L
use Rattle.v_meaning.specs.Statements.{covered}
use Rattle.v_drives.specs.Rows.{number_of}
use Rattle.v_writes.specs.Writes.{use_in}
use Rattle.v_drives.proofs.Numbering as N
use Rattle.v_drives.proofs.Covering as C
use Rattle.v_drives.proofs.spans.spans_of.Goals as goal

pub loop-write-init : goal.loop-write-init
loop-write-init c = record {
  value = λ q there. C.covered-none (covered (map use_in c.args.writes.now) q) c.new-spans.result (number_of c.args.row.now.widths q) c.new-spans.ensures;
  within = λ n far. ap (λ ss. in_spans ss n) c.new-spans.ensures ∙ L.in-none n;
}

pub loop-write-preserved : goal.loop-write-preserved
loop-write-preserved c =
    let ws = c.args.row.now.widths in
    let i = c.loop-write.write-index in
    let writes = c.args.writes.now in
    let rest = map use_in (drop (i + 1) writes) in
    let front = N.at-front writes i _ c.loop-write-test.true in
    record {
      value = λ q there.
          ap (λ ss. in_spans ss (number_of ws q) || covered rest q) c.in_ok-push.ensures.ok
          ∙ C.covered-on ws _ rest (map use_in writes) c.span_of.result c.loop-write.spans q there c.span_of.ensures
          (ap (λ xs. in_spans c.loop-write.spans (number_of ws q) || covered (map use_in xs) q) (sym front) ∙ c.loop-write.invariant.value q there);
      within = λ n far.
          ap (λ ss. in_spans ss n) c.in_ok-push.ensures.ok ∙ C.none-on ws _ c.span_of.result c.loop-write.spans n far c.span_of.ensures (c.loop-write.invariant.within n far);
    }
