use Rattle.std.proofs.Common.{◌≤◌, ℕ, length, arith}
use Rattle.sv_lexer.proofs.piece.longest_of_all.Goals as goal

pub returns-clause-within : goal.returns-clause-within
returns-clause-within c =
    let most : ℕ = length c.args.bytes.now in
    let gap : c.gap.result.len ≤ most = omega (arith, c.gap.ensures.len, c.white_span.ensures.within) in
    let longer_1 : c.longer.result.len ≤ most = c.longer.ensures.bound most gap (omega (arith, c.gap-2.ensures.len, c.line_comment_span.ensures.within)) in
    let longer_2 : c.longer-2.result.len ≤ most = c.longer-2.ensures.bound most longer_1 (omega (arith, c.gap-3.ensures.len, c.block_comment_span.ensures.within)) in
    let longer_3 : c.longer-3.result.len ≤ most = c.longer-3.ensures.bound most longer_2 (omega (arith, c.token.ensures.len, c.cut_span.ensures.within)) in
    let longer_4 : c.longer-4.result.len ≤ most = c.longer-4.ensures.bound most longer_3 (omega (arith, c.token-2.ensures.len, c.line_span.ensures.within)) in
    let longer_5 : c.longer-5.result.len ≤ most = c.longer-5.ensures.bound most longer_4 (omega (arith, c.token-3.ensures.len, c.continued_span.ensures.within)) in
    let longer_6 : c.longer-6.result.len ≤ most = c.longer-6.ensures.bound most longer_5 (omega (arith, c.token-4.ensures.len, c.name_span.ensures.within)) in
    let longer_7 : c.longer-7.result.len ≤ most = c.longer-7.ensures.bound most longer_6 (omega (arith, c.token-5.ensures.len, c.system_span.ensures.within)) in
    let longer_8 : c.longer-8.result.len ≤ most = c.longer-8.ensures.bound most longer_7 (omega (arith, c.token-6.ensures.len, c.decimal_span.ensures.within)) in
    let longer_9 : c.longer-9.result.len ≤ most = c.longer-9.ensures.bound most longer_8 (omega (arith, c.token-7.ensures.len, c.based_span.ensures.within)) in
    let longer_10 : c.longer-10.result.len ≤ most = c.longer-10.ensures.bound most longer_9 (omega (arith, c.token-8.ensures.len, c.fill_span.ensures.within)) in
    let longer_11 : c.longer-11.result.len ≤ most = c.longer-11.ensures.bound most longer_10 (omega (arith, c.token-9.ensures.len, c.requires.string_within)) in
    let longer_12 : c.longer-12.result.len ≤ most = c.longer-12.ensures.bound most longer_11 (omega (arith, c.token-10.ensures.len, c.directive_span.ensures.within)) in
    let longer_13 : c.longer-13.result.len ≤ most = c.longer-13.ensures.bound most longer_12 (omega (arith, c.token-11.ensures.len, c.paste_span.ensures.within)) in
    let longer_14 : c.longer-14.result.len ≤ most = c.longer-14.ensures.bound most longer_13 (omega (arith, c.token-12.ensures.len, c.quote_span.ensures.within)) in
    let longer_15 : c.longer-15.result.len ≤ most = c.longer-15.ensures.bound most longer_14 (omega (arith, c.token-13.ensures.len, c.mark_span.ensures.within)) in
    c.longer-16.ensures.bound most longer_15 (omega (arith, c.token-14.ensures.len, c.requires.some))
