use Rattle.std.proofs.Common.{◌≡◌, ◌+◌, ◌<◌, [], ◌∷◌, ◌++◌, length, length-append, get_or, arith, ap, sym, ◌∙◌, subst}
use Rattle.sv_types.specs.Expressions.{meaning}
use Rattle.v_meaning.specs.Values as T
use Rattle.eval_parts.specs.Targets.{marks_of}
use Rattle.form_lower.specs.Places.{are_joined, Puts}
use Rattle.form_lower.proofs.Placing.{IsDone, done-none, done-next, narrow-item}
use Rattle.form_lower.proofs.places.all_placed.Goals as goal

pub loop-part-init : goal.loop-part-init
loop-part-init c =
    subst (IsDone (are_joined c.args.places.now) (marks_of c.args.places.now) c.args.items.now c.args.parts c.args.parts c.args.helpers.now c.args.helpers.now) (sym c.new-made.ensures)
    (done-none (are_joined c.args.places.now) (marks_of c.args.places.now) c.args.items.now c.args.parts c.args.helpers.now)

pub loop-part-preserved : goal.loop-part-preserved
loop-part-preserved c =
    let joined = are_joined c.args.places.now in
    let marks = marks_of c.args.places.now in
    let items = c.args.items.now in
    let rest = c.pop.new.self in
    let split : c.loop-part.rest ≡ c.pop.new.self ++ c.in-Some.part ∷ [] = c.in-Some.ensures in
    let one : length c.loop-part.rest ≡ length c.pop.new.self + 1 = ap length split ∙ length-append c.pop.new.self (c.in-Some.part ∷ []) in
    let all : length c.loop-part.rest + length c.loop-part.invariant.done ≡ length c.args.parts = sym (length-append c.loop-part.rest c.loop-part.invariant.done) ∙ ap length c.loop-part.invariant.split in
    let there : length c.pop.new.self < length marks = omega (arith, c.requires.items.there) in
    let among : length c.pop.new.self < length items = omega (arith, c.requires.items.few) in
    done-next joined marks items c.args.parts c.loop-part.rest rest c.in-Some.part c.index-items-i.result c.args.helpers.now c.loop-part.helpers c.placed_at.new.helpers c.loop-part.made c.push.new.self c.in_ok-put.put
    c.loop-part.invariant split there among (c.index-items-i.is ∙ ap (λ i. get_or items i c.index-items-i.result) c.len-i.ensures) c.in_ok-put.ensures.grows
    (subst (λ i. Puts joined (get_or marks i []) (meaning c.index-items-i.result) (T.meaning c.in-Some.part) c.placed_at.new.helpers (T.meaning c.in_ok-put.put)) c.len-i.ensures c.in_ok-put.ensures.puts) c.in_ok-push.ensures.ok

pub placed_at-requires-clause-item : goal.placed_at-requires-clause-item
placed_at-requires-clause-item c =
    let marks = marks_of c.args.places.now in
    let items = c.args.items.now in
    let split : c.loop-part.rest ≡ c.pop.new.self ++ c.in-Some.part ∷ [] = c.in-Some.ensures in
    let one : length c.loop-part.rest ≡ length c.pop.new.self + 1 = ap length split ∙ length-append c.pop.new.self (c.in-Some.part ∷ []) in
    let all : length c.loop-part.rest + length c.loop-part.invariant.done ≡ length c.args.parts = sym (length-append c.loop-part.rest c.loop-part.invariant.done) ∙ ap length c.loop-part.invariant.split in
    let there : c.len-i.result < length marks = omega (arith, c.len-i.ensures, c.requires.items.there) in
    let among : c.len-i.result < length items = omega (arith, c.len-i.ensures, c.requires.items.few) in
    narrow-item marks items c.len-i.result c.index-items-i.result there among c.index-items-i.is c.requires.items.narrow
