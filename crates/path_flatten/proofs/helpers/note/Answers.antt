use Rattle.std.proofs.Common.{◌≡◌, [], ◌∷◌, ◌++◌, sym, subst}
use Rattle.row_machine.specs.Valuation.{Member}
use Rattle.path_flatten.specs.Helping.{IsSized, Grows}
use Rattle.path_flatten.proofs.Helping.{yes-by, no-by, grows-next, there-next}
use Rattle.path_flatten.proofs.helpers.note.Goals as goal

pub returns-clause-grows : goal.returns-clause-grows
returns-clause-grows c =
    let old = c.args.helpers.now in
    let push : c.push.new.self ≡ c.args.helpers.now ++ c.args.h ∷ [] = c.in_ok-push.ensures.ok in
    let sized : IsSized c.args.h = yes-by c.is_sized.result (IsSized c.args.h) c.if-not-is_sized.false c.is_sized.ensures in
    subst (Grows old) (sym push)
    (grows-next old c.args.h sized (λ m. no-by c.is_among.result (Member c.as_slice.result.now c.args.h) c.if-is_among.false c.is_among.ensures (subst (λ l. Member l c.args.h) (sym c.as_slice.ensures) m)))

pub returns-clause-there : goal.returns-clause-there
returns-clause-there c = λ sized.
    let push : c.push.new.self ≡ c.args.helpers.now ++ c.args.h ∷ [] = c.in_ok-push.ensures.ok in
    subst (λ l. Member l c.args.h) (sym push) (there-next c.args.helpers.now c.args.h)
