use Rattle.std.proofs.Common.{◌≡◌, Err, subst}
use Rattle.stmt_flows.specs.declared.fails.StmtFail.{StmtFail}
use Rattle.stmt_flows.specs.declared.fails.StmtFail.TheVariants as X
use Rattle.loop_rules.proofs.Finding.{FoundIs, found-is}
use Rattle.loop_rules.proofs.design_bodies.flow_in.Goals as goal

pub returns-in-Err-TooLong : goal.returns-in-Err-TooLong
returns-in-Err-TooLong c =
    let d = c.args.design.now in
    let s = c.args.s.now in
    let fail = c.in-Err-TooLong.field-0 in
    let is = c.in-Err-TooLong.field-0-is in
    let same : fail ≡ X.TooLong c.in-Err-TooLong.field-0-0 = cc in
    subst (λ (x : StmtFail). FoundIs (Err x) d s) same (found-is d c.as_slice.result.now s (Err fail) c.as_slice.ensures c.requires.unrolls c.requires.fits.few c.in-Err-TooLong.ensures)

pub returns-in-Err-TooMany : goal.returns-in-Err-TooMany
returns-in-Err-TooMany c =
    let d = c.args.design.now in
    let s = c.args.s.now in
    let fail = c.in-Err-TooMany.field-0 in
    let is = c.in-Err-TooMany.field-0-is in
    let same : fail ≡ X.TooMany = cc in
    subst (λ (x : StmtFail). FoundIs (Err x) d s) same (found-is d c.as_slice.result.now s (Err fail) c.as_slice.ensures c.requires.unrolls c.requires.fits.few c.in-Err-TooMany.ensures)
