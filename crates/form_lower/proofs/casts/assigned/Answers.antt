use Rattle.std.proofs.Common.{◌≡◌, ◌<◌, [], ◌∷◌, arith, subst}
use Rattle.sv_types.specs.Layouts.{layout, width_of}
use Rattle.v_meaning.specs.Values as T
use Rattle.form_lower.specs.Calls.{Calls}
use Rattle.form_lower.specs.Assigned.{cutter}
use Rattle.form_lower.proofs.Casting.{assigns-none, assigns}
use Rattle.form_lower.proofs.casts.assigned.Goals as goal

pub returns-in_ok-none-clause-assigns : goal.returns-in_ok-none-clause-assigns
returns-in_ok-none-clause-assigns c =
    let none : width_of c.args.to.now ≡ 0 = omega arith in
    assigns-none (layout c.args.to.now).two_state (T.meaning c.args.of) c.args.helpers.now (T.meaning c.in_ok-none.none) none c.in_ok-none.ensures

pub returns-in_ok-kept-clause-assigns : goal.returns-in_ok-kept-clause-assigns
returns-in_ok-kept-clause-assigns c =
    let some : 0 < width_of c.args.to.now = omega arith in
    assigns c.args.to.now (T.meaning c.args.of) c.cut_bits.new.helpers c.stored_bits.new.helpers (T.meaning c.in_ok-bits.bits) (T.meaning c.in_ok-kept.kept) some
    (subst (λ n. Calls (cutter n) (T.meaning c.args.of ∷ []) c.cut_bits.new.helpers (T.meaning c.in_ok-bits.bits)) c.width-n.ensures.bits c.in_ok-bits.ensures.calls)
    c.in_ok-kept.ensures.grows c.in_ok-kept.ensures.stores c.in_ok-kept.ensures.names
