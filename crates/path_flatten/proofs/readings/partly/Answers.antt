use Rattle.std.proofs.Common.{◌≡◌, inl, inr, ◌-◌, pos, ◌-ℤ◌, arith, rules, refl, ap, ◌∙◌}
use Rattle.std.proofs.lemmas.Int.{ints, to_z-of_z}
use mir.Val.{SFits}
use mir.Syntax.{w128}
use Rattle.v_meaning.specs.Values.{meaning}
use Rattle.v_tree.specs.Printing.{helper_text}
use Rattle.lowering_laws.specs.Terms as terms
use Rattle.path_flatten.specs.declared.readings.Slice.{Slice}
use Rattle.path_flatten.specs.Selecting.{slicer}
use Rattle.path_flatten.proofs.Selecting.{not-partly, partly-call, call-like}
use Rattle.path_flatten.proofs.Naming.{like-bound-call}
use Rattle.path_flatten.proofs.readings.partly.Goals as goal

pub returns-then-first-gt0-clause-reads : goal.returns-then-first-gt0-clause-reads
returns-then-first-gt0-clause-reads c = not-partly (meaning c.args.of) c.args.window c.args.n c.args.helpers.now (meaning c.args.of) (inl (omega (arith, ints)))

pub returns-then-first-limit-clause-reads : goal.returns-then-first-limit-clause-reads
returns-then-first-limit-clause-reads c = not-partly (meaning c.args.of) c.args.window c.args.n c.args.helpers.now (meaning c.args.of) (inr (omega (arith, ints)))

pub returns-clause-reads : goal.returns-clause-reads
returns-clause-reads c =
    let s : Slice = record { part = c.args.n; of = c.args.window.high - c.args.window.low; index = 33 } in
    let m = meaning c.in_ok-made.made in
    let fits : SFits w128 c.first_from_low-first.result = first_of (omega (arith, ints), search rules) in
    let offset : meaning c.in_ok-offset.offset ≡ terms.bound 33 (c.args.window.shift -ℤ pos c.args.window.low) = c.in_ok-offset.ensures ∙ ap (λ k. terms.bound 33 k) (to_z-of_z w128 c.first_from_low-first.result fits ∙ c.first_from_low-first.ensures) in
    let call = call-like s (meaning c.args.of) (meaning c.in_ok-offset.offset) (terms.bound 33 (c.args.window.shift -ℤ pos c.args.window.low)) c.select_call.new.helpers m offset c.in_ok-made.ensures.selects in
    partly-call s (meaning c.args.of) c.args.window c.args.n (c.args.window.shift -ℤ pos c.args.window.low) c.select_call.new.helpers m refl refl refl refl call

pub returns-clause-names : goal.returns-clause-names
returns-clause-names c =
    let s : Slice = record { part = c.args.n; of = c.args.window.high - c.args.window.low; index = 33 } in
    let m = meaning c.in_ok-made.made in
    let fits : SFits w128 c.first_from_low-first.result = first_of (omega (arith, ints), search rules) in
    let offset : meaning c.in_ok-offset.offset ≡ terms.bound 33 (c.args.window.shift -ℤ pos c.args.window.low) = c.in_ok-offset.ensures ∙ ap (λ k. terms.bound 33 k) (to_z-of_z w128 c.first_from_low-first.result fits ∙ c.first_from_low-first.ensures) in
    let call = call-like s (meaning c.args.of) (meaning c.in_ok-offset.offset) (terms.bound 33 (c.args.window.shift -ℤ pos c.args.window.low)) c.select_call.new.helpers m offset c.in_ok-made.ensures.selects in
    like-bound-call (helper_text (slicer s)) (meaning c.args.of) 33 (c.args.window.shift -ℤ pos c.args.window.low) m call.is
