use Rattle.std.proofs.Common.{◌≡◌, Some, sym, ap, ◌∙◌}
use Rattle.sv_preproc.proofs.Searches.{held_at, finds_at, finds_long}
use Rattle.sv_preproc.proofs.loading.load_first.Goals as goal

pub returns-in-TooLong-clause-reaches : goal.returns-in-TooLong-clause-reaches
returns-in-TooLong-clause-reaches g c =
    finds_long (g.F.Files.contents c.args.files.now) c.args.paths.now c.args.limit c.loop-path.path-index c.path-item.result c.loop-path-test.true c.path-item.is (λ contents told.
    let h = c.in-TooLong.ensures.answer contents (c.loop-path.invariant.same ∙ told) in
    let held : contents c.path-item.result ≡ Some h.0 = ap contents (sym c.as_bytes.ensures) ∙ h.1 in
    let first = held_at contents c.args.paths.now c.loop-path.path-index c.path-item.result h.0 c.loop-path-test.true c.path-item.is held in
    (record { path = c.path-item.result; bytes = h.0 }, sym (c.loop-path.invariant.first contents told) ∙ first, h.2))

pub returns-in-Bytes-clause-reaches : goal.returns-in-Bytes-clause-reaches
returns-in-Bytes-clause-reaches g c =
    let copy : c.in_ok-copy-in-Bytes.field-0 ≡ c.path-item.result = c.in_ok-copy-in-Bytes.ensures in
    let found = finds_at (g.F.Files.contents c.args.files.now) c.args.paths.now c.loop-path.path-index c.path-item.result c.in-Bytes.bytes c.loop-path-test.true c.path-item.is (λ contents told.
    let h = c.in-Bytes.ensures.answer contents (c.loop-path.invariant.same ∙ told) in
    let held : contents c.path-item.result ≡ Some c.in-Bytes.bytes = ap contents (sym c.as_bytes.ensures) ∙ h.0 in
    sym (c.loop-path.invariant.first contents told) ∙ held_at contents c.args.paths.now c.loop-path.path-index c.path-item.result c.in-Bytes.bytes c.loop-path-test.true c.path-item.is held) in
    rw copy (found, c.in-Bytes.ensures.within)
