use Rattle.std.proofs.Common.{◌≡◌, ◌++◌, map, codes}
use Rattle.v_writer.specs.Layout.{bit_digit}
use Rattle.v_writer.specs.Sheets.{appended}
use Rattle.v_writer.proofs.page.Page.append_bits.Given as goal

abbrev pub invariant-loop-bit : goal.invariant-loop-bit
invariant-loop-bit l = l.self ≡ appended l.fn.self (codes "'b" ++ map (λ b. bit_digit b.now) l.yielded)
