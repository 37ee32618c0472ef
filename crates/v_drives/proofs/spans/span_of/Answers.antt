use Rattle.std.proofs.Common.{arith, ◌≡◌, ◌+◌, [], ◌∷◌, min, ap, sym, ◌∙◌, subst, slice_index_or}
use Rattle.v_drives.specs.Rows.{bits_before, AreCovered}
use Rattle.v_writes.specs.Writes.{use_in}
use Rattle.v_drives.proofs.Covering as C
use Rattle.v_drives.proofs.spans.span_of.Goals as goal

pub returns-then-signal-len : goal.returns-then-signal-len
returns-then-signal-len c =
    let many = c.len.ensures in C.no-signal c.args.row.now.widths (use_in c.args.write) (omega (arith, many, c.if-signal-len.true))

pub returns : goal.returns
returns c =
    let many = c.len.ensures in
    let ws = c.args.row.now.widths in
    let low : c.start_of-start.result + c.min.result ≡ bits_before ws c.args.write.number + min c.args.write.low (slice_index_or ws c.args.write.number 0) =
    ap (λ o. o + c.min.result) c.start_of-start.ensures ∙ ap (λ l. bits_before ws c.args.write.number + l) (c.min.ensures ∙ ap (min c.args.write.low) c.width_of-width.ensures) in
    let high : c.start_of-start.result + c.min-2.result ≡ bits_before ws c.args.write.number + min c.args.write.high (slice_index_or ws c.args.write.number 0) =
    ap (λ o. o + c.min-2.result) c.start_of-start.ensures ∙ ap (λ l. bits_before ws c.args.write.number + l) (c.min-2.ensures ∙ ap (min c.args.write.high) c.width_of-width.ensures) in
    let same : record { low = c.start_of-start.result + c.min.result; high = c.start_of-start.result + c.min-2.result } ≡ C.span_in ws (use_in c.args.write) = λ i. record { low = low i; high = high i } in
    subst (λ s. AreCovered ws (use_in c.args.write ∷ []) (s ∷ [])) (sym same) (C.in-signal ws (use_in c.args.write) (omega (arith, many, c.if-signal-len.false)))
