use Rattle.std.proofs.Common.{rules, ◌≡◌, refl, arith, ap, ◌∙◌}
use Rattle.v_run.specs.Writes.{place}
use Rattle.v_run.proofs.HeldWrites.{place-pushed}
use Rattle.v_run.proofs.slots.with_signal.Goals as goal

pub returns-clause-there : goal.returns-clause-there
returns-clause-there c =
    let over = c.args.over.now.items in
    let same : c.as_slice.result.now ≡ over = search rules in
    place-pushed over c.push.new.self.items (record { number = c.args.n; bits = c.in_ok-bits.bits }) c.args.n c.place_of-k.result c.in_ok-push.ensures.items refl (c.place_of-k.ensures ∙ ap (λ os. place os c.args.n) same) (omega (arith, c.if-k-len.false, c.len.ensures))
