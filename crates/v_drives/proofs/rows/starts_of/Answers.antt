use Rattle.std.proofs.Common.{rules, Fits, length, arith, ◌+◌, ◌++◌, [], ◌∷◌, drop, ap, ◌∙◌}
use Rattle.std.specs.Int.{w64}
use Rattle.v_drives.specs.Rows.{starts_from}
use Rattle.v_drives.proofs.Numbering as N
use Rattle.v_drives.proofs.rows.starts_of.Goals as goal

pub loop-width-preserved : goal.loop-width-preserved
loop-width-preserved c =
    let ws = c.args.widths.now in
    let i = c.loop-width.width-index in
    let m = c.loop-width.next in
    let before = c.loop-width.invariant.next in
    let more = N.before-next ws i c.loop-width-test.true in
    let sum = c.in_ok-next.ensures in
    let fits : Fits w64 c.in_ok-next.next = search rules in
    record {
      starts =
          ap (λ os. os ++ starts_from c.in_ok-next.next (drop (i + 1) ws)) c.in_ok-push.ensures.ok ∙ ap (λ n. (c.loop-width.starts ++ m ∷ []) ++ starts_from n (drop (i + 1) ws)) sum
          ∙ N.starts-on m i c.loop-width.starts _ ws 0 c.loop-width-test.true c.loop-width.invariant.starts;
      next = omega (arith, before, more, sum);
      fits = omega (arith, fits);
    }

pub returns-clause-counted : goal.returns-clause-counted
returns-clause-counted c =
    let ws = c.args.widths.now in
    let fits = c.loop-width.invariant.fits in
    let next = c.loop-width.invariant.next in
    let more = N.before-more ws (length ws) c.loop-width.width-index c.loop-width-test.false in
    omega (arith, fits, next, more)
