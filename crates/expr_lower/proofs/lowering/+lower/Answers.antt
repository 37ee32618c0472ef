use Rattle.std.proofs.Common.{◌≡◌, ◌+◌, ℤ, [], ◌∷◌, ◌++◌, map, drop, IfOk, OnOk, IfSome, arith, rules, ap, sym, ◌∙◌, subst}
use Rattle.std.proofs.lemmas.Int.{to_z-of_z}
use mir.Val.{SFits, to_z, of_z}
use mir.Syntax.{w64}
use Rattle.sv_types.specs.declared.expression.Form.{out-Form}
use Rattle.sv_types.specs.Layouts.{layout}
use Rattle.sv_types.specs.Meanings.{wide}
use Rattle.sv_types.specs.Expressions.{meaning}
use Rattle.sv_types.proofs.Widths.{has-bits}
use Rattle.v_meaning.specs.Values as T
use Rattle.v_build.specs.Trees.{meanings}
use Rattle.eval_parts.specs.Steps.{IsStep}
use Rattle.eval_parts.proofs.Lists.{own-narrow}
use Rattle.eval_parts.proofs.Nodes.{nodes}
use Rattle.eval_parts.proofs.PathLimits.{path-fits}
use Rattle.eval_parts.proofs.TypeKinds.{wide-is}
use Rattle.eval_forms.specs.declared.asked.Ask.TheVariants as A
use Rattle.eval_forms.specs.Asked.{asked, form_asked, width_asked, sign_asked, AllFitAsked}
use Rattle.eval_forms.specs.Callees.{formals_in}
use Rattle.eval_forms.proofs.AskedLaws.{AllFewer}
use Rattle.path_flatten.specs.declared.offsets.Index.{Index}
use Rattle.path_flatten.specs.declared.readings.Reading.{Reading}
use Rattle.path_flatten.specs.Helping.{Grows}
use Rattle.path_flatten.specs.Stepping.{ReadsBetween}
use Rattle.path_flatten.proofs.Helping.{grows-none, grows-both}
use Rattle.path_steps.specs.declared.known.KnownIndex.{KnownIndex}
use Rattle.path_steps.specs.Known.{IsKnown}
use Rattle.expr_lower.specs.Elements.{StandsInWords}
use Rattle.expr_lower.specs.Leaves.{IsLowered}
use Rattle.name_maps.specs.Named.{signal_name, local_name, OneSignal, OneLocal}
use Rattle.expr_lower.specs.Lowering.{Lowers}
use Rattle.expr_lower.specs.Paths.{Finds, Indexes}
use Rattle.expr_lower.proofs.AskedLeaves.{EachAsked}
use Rattle.expr_lower.proofs.Asking.{at-front, Made, made-none, made-more, made-next, each-long, each-more, length-meanings}
use Rattle.expr_lower.proofs.Built.{operands-of}
use Rattle.expr_lower.proofs.Following.{lowers-path, finds-Signal, finds-Local, finds-value, finds-Member, finds-Part, finds-known, finds-word, finds-known-word, finds-known-slide, finds-by-index, finds-by-slide, slide-size}
use Rattle.expr_lower.proofs.Rooted.{alike}
use Rattle.expr_lower.proofs.Stepwise as W
use Rattle.expr_lower.proofs.Values.{lowers-Signal, lowers-Local, meanings-next}
use Rattle.expr_lower.proofs.lowering.+lower.Goals as goal

pub answer-returns-in_ok-bits-in-Bits-clause-lowers : goal.answer-returns-in_ok-bits-in-Bits-clause-lowers
answer-returns-in_ok-bits-in-Bits-clause-lowers t c =
    let e = c.args.operand.of.now in
    subst (λ k. Lowers c.args.names.now c.args.functions.now c.lower.new.helpers e (width_asked k (meaning e)) (sign_asked k (meaning e)) (T.meaning c.in_ok-bits-in-Bits.bits)) (sym c.in-Bits.is) c.in_ok-bits-in-Bits.ensures.lowers

pub answer-returns-in_ok-again-in-Again-clause-lowers : goal.answer-returns-in_ok-again-in-Again-clause-lowers
answer-returns-in_ok-again-in-Again-clause-lowers t c =
    let e = c.args.operand.of.now in
    subst (λ k. Lowers c.args.names.now c.args.functions.now c.lower-in-Again.new.helpers e (width_asked k (meaning e)) (sign_asked k (meaning e)) (T.meaning c.in_ok-again-in-Again.again)) (sym c.in-Again.is) c.in_ok-again-in-Again.ensures.lowers

pub answer-returns-in_ok-place-in-Place-clause-lowers : goal.answer-returns-in_ok-place-in-Place-clause-lowers
answer-returns-in_ok-place-in-Place-clause-lowers t c =
    let e = c.args.operand.of.now in
    let m = T.meaning c.in_ok-place-in-Place.place in
    let hs = c.lower-in-Place.new.helpers in
    subst (λ k. Lowers c.args.names.now c.args.functions.now hs e (width_asked k (meaning e)) (sign_asked k (meaning e)) m) (sym c.in-Place.is)
    (subst (λ s. Lowers c.args.names.now c.args.functions.now hs e (width_asked A.Place (meaning e)) s m) c.own_sign-signed.ensures
    (subst (λ w. Lowers c.args.names.now c.args.functions.now hs e w c.own_sign-signed.result m) c.own_width-width.ensures c.in_ok-place-in-Place.ensures.lowers))

pub lower-formed-requires-clause-count : goal.lower-formed-requires-clause-count
lower-formed-requires-clause-count t c =
    let e = c.args.e.now in
    let fs = formals_in c.args.functions.now in
    sym (length-meanings c.in_ok-lowered-in-None.lowered)
    ∙ each-long c.args.names.now c.args.functions.now c.parts.new.helpers (form_asked (layout e.of) fs c.args.width c.args.signed (out-Form e.form)) (meanings c.in_ok-lowered-in-None.lowered) c.in_ok-lowered-in-None.ensures.lowers

pub lower-returns-in_ok-form-in-None-clause-lowers : goal.lower-returns-in_ok-form-in-None-clause-lowers
lower-returns-in_ok-form-in-None-clause-lowers t c =
    let e = c.args.e.now in
    let fs = formals_in c.args.functions.now in
    c.in_ok-form-in-None.ensures.combines c.in-None.ensures.plain c.requires.fits
    (each-more c.args.names.now c.args.functions.now c.parts.new.helpers c.formed.new.helpers (form_asked (layout e.of) fs c.args.width c.args.signed (out-Form e.form)) (meanings c.in_ok-lowered-in-None.lowered)
    c.in_ok-form-in-None.ensures.grows c.in_ok-lowered-in-None.ensures.lowers)

pub lower-returns-in_ok-signal-in-Some-Signal-clause-lowers : goal.lower-returns-in_ok-signal-in-Some-Signal-clause-lowers
lower-returns-in_ok-signal-in-Some-Signal-clause-lowers t c =
    let n = c.in-Some-Signal.n in
    let is = subst (λ st. IsStep st c.args.e.now) c.in-Some-Signal.field-0-is c.in-Some-Signal.ensures.step in
    lowers-Signal c.args.e.now n c.args.names.now c.args.functions.now c.args.helpers.now c.args.width c.args.signed (T.reference c.in_ok-text-in-Some-Signal.text []) (T.meaning c.in_ok-signal-in-Some-Signal.signal) c.own_sign.result is
    (λ one. ap (λ t. T.reference t []) (subst (λ l. OneSignal l n → c.in_ok-text-in-Some-Signal.text ≡ signal_name l n) c.as_slice.ensures c.in_ok-text-in-Some-Signal.ensures one)) c.in_ok-signal-in-Some-Signal.ensures c.own_sign.ensures

pub lower-returns-in_ok-local-in-Some-Local-clause-lowers : goal.lower-returns-in_ok-local-in-Some-Local-clause-lowers
lower-returns-in_ok-local-in-Some-Local-clause-lowers t c =
    let n = c.in-Some-Local.n in
    let is = subst (λ st. IsStep st c.args.e.now) c.in-Some-Local.field-0-is c.in-Some-Local.ensures.step in
    lowers-Local c.args.e.now n c.args.names.now c.args.functions.now c.args.helpers.now c.args.width c.args.signed (T.reference c.in_ok-text-in-Some-Local.text []) (T.meaning c.in_ok-local-in-Some-Local.local) c.own_sign-in-Some-Local.result is
    (λ one. ap (λ t. T.reference t []) (subst (λ l. OneLocal l n → c.in_ok-text-in-Some-Local.text ≡ local_name l n) c.as_slice-in-Some-Local.ensures c.in_ok-text-in-Some-Local.ensures one)) c.in_ok-local-in-Some-Local.ensures c.own_sign-in-Some-Local.ensures

pub parts-operands-requires-clause-some : goal.parts-operands-requires-clause-some
parts-operands-requires-clause-some t c = (let h = has-bits c.args.e.now c.requires.fits.typed in omega (arith, h, wide-is c.args.e.now))

pub parts-loop-operand-init : goal.parts-loop-operand-init
parts-loop-operand-init t c =
    let e = c.args.e.now in
    let fs = formals_in c.args.functions.now in
    let all = form_asked (layout e.of) fs c.args.width c.args.signed (out-Form e.form) in
    let qs = map asked c.deref-operand-items.result.now in
    let is : qs ≡ all = ap (map asked) c.deref-operand-items.ensures.value ∙ c.in_ok-asks.ensures in
    let laws = operands-of e fs c.args.width c.args.signed c.requires.kind c.requires.built c.requires.fits in
    record {
      fits = subst (AllFitAsked fs) (sym is) laws.fits;
      fewer = subst (AllFewer (nodes e)) (sym is) laws.fewer;
      built = subst (EachAsked IsLowered) (sym is) laws.built;
      grows = grows-none c.args.helpers.now;
      made = subst (λ q. Made c.args.names.now c.args.functions.now c.args.helpers.now q all (meanings c.new-made.result)) (sym is)
          (subst (λ es. Made c.args.names.now c.args.functions.now c.args.helpers.now all all (meanings es)) (sym c.new-made.ensures) (made-none c.args.names.now c.args.functions.now c.args.helpers.now all));
    }

pub parts-loop-operand-preserved : goal.parts-loop-operand-preserved
parts-loop-operand-preserved t c =
    let e = c.args.e.now in
    let names = c.args.names.now in
    let functions = c.args.functions.now in
    let fs = formals_in functions in
    let all = form_asked (layout e.of) fs c.args.width c.args.signed (out-Form e.form) in
    let old = c.loop-operand.helpers in
    let hs = c.answer.new.helpers in
    let items = c.deref-operand-items.result.now in
    let i = c.loop-operand.operand-index in
    let q = asked c.operand-item.result in
    let qs = map asked (drop (i + 1) items) in
    let here = ap (map asked) (at-front items i c.operand-item.result (omega arith) c.operand-item.is) in
    let push : c.push.new.self ≡ c.loop-operand.made ++ c.in_ok-part.part ∷ [] = c.in_ok-push.ensures.ok in
    record {
      fits = (subst (AllFitAsked fs) here c.loop-operand.invariant.fits).1;
      fewer = (subst (AllFewer (nodes e)) here c.loop-operand.invariant.fewer).1;
      built = (subst (EachAsked IsLowered) here c.loop-operand.invariant.built).1;
      grows = grows-both c.args.helpers.now old hs c.loop-operand.invariant.grows c.in_ok-part.ensures.grows;
      made = subst (λ ms. Made names functions hs qs all ms) (sym (ap meanings push ∙ meanings-next c.loop-operand.made c.in_ok-part.part))
          (made-next names functions hs q qs all (meanings c.loop-operand.made) (T.meaning c.in_ok-part.part)
          (made-more names functions old hs (q ∷ qs) all (meanings c.loop-operand.made) c.in_ok-part.ensures.grows
          (subst (λ ps. Made names functions old ps all (meanings c.loop-operand.made)) here c.loop-operand.invariant.made)) c.in_ok-part.ensures.lowers);
    }

-- select paths
pub lower-path-requires : goal.lower-path-requires
lower-path-requires t c =
    let step = c.in-Some.ensures.step in
    (omega (arith, c.decreases), (c.requires.functions, (step, (c.requires.built, path-fits c.args.e.now c.in-Some.step (formals_in c.args.functions.now) c.args.width step c.requires.fits))))

pub lower-returns-in_ok-found-in-Some-clause-lowers : goal.lower-returns-in_ok-found-in-Some-clause-lowers
lower-returns-in_ok-found-in-Some-clause-lowers t c = c.in_ok-found-in-Some.ensures.lowers c.args.width c.args.signed

pub path-read-requires-clause-narrow : goal.path-read-requires-clause-narrow
path-read-requires-clause-narrow t c = own-narrow c.args.e.now (formals_in c.args.functions.now) (wide (meaning c.args.e.now)) c.requires.fits

pub path-returns-clause-lowers : goal.path-returns-clause-lowers
path-returns-clause-lowers t c =
    lowers-path c.args.names.now c.args.functions.now c.read.new.helpers c.args.e.now c.args.step c.follow.new.helpers c.in_ok-reading.reading (T.meaning c.in_ok-made.made) c.requires.step c.requires.fits.typed
    c.in_ok-made.ensures.grows c.in_ok-reading.ensures.finds c.in_ok-made.ensures.reads c.in_ok-made.ensures.names

-- what a step selects from
pub find-returns-in_ok-found-in-None-clause-finds : goal.find-returns-in_ok-found-in-None-clause-finds
find-returns-in_ok-found-in-None-clause-finds t c =
    let e = c.args.e.now in
    let names = c.args.names.now in
    let functions = c.args.functions.now in
    let hs = c.lower.new.helpers in
    let m = T.meaning c.in_ok-value-in-None.value in
    let w = c.own_width-width.result in
    finds-value names functions hs e m w c.in_ok-found-in-None.found c.in-None.ensures.step (alike e c.in-None.ensures.plain c.requires.built) c.own_width-width.ensures
    (subst (λ s. Lowers names functions hs e (wide (meaning e)) s m) c.own_sign-signed.ensures (subst (λ k. Lowers names functions hs e k c.own_sign-signed.result m) c.own_width-width.ensures c.in_ok-value-in-None.ensures.lowers))
    c.in_ok-found-in-None.ensures.reads c.in_ok-found-in-None.ensures.names

-- steps that need no index, and roots
pub follow-returns-in_ok-name-in-Signal-clause-finds : goal.follow-returns-in_ok-name-in-Signal-clause-finds
follow-returns-in_ok-name-in-Signal-clause-finds t c =
    let e = c.args.e.now in
    let n = c.in-Signal.n in
    finds-Signal c.args.names.now c.args.functions.now c.args.helpers.now e n c.own_width.result c.in_ok-name-in-Signal.name c.whole_name.result (subst (λ st. IsStep st e) c.in-Signal.is c.requires.step)
    (subst (λ l. OneSignal l n → c.in_ok-name-in-Signal.name ≡ signal_name l n) c.as_slice.ensures c.in_ok-name-in-Signal.ensures) (c.own_width.ensures ∙ wide-is e) c.whole_name.ensures.reads c.whole_name.ensures.root

pub follow-returns-in_ok-name-in-Local-clause-finds : goal.follow-returns-in_ok-name-in-Local-clause-finds
follow-returns-in_ok-name-in-Local-clause-finds t c =
    let e = c.args.e.now in
    let n = c.in-Local.n in
    finds-Local c.args.names.now c.args.functions.now c.args.helpers.now e n c.own_width-in-Local.result c.in_ok-name-in-Local.name c.whole_name-in-Local.result
    (subst (λ st. IsStep st e) c.in-Local.is c.requires.step) (subst (λ l. OneLocal l n → c.in_ok-name-in-Local.name ≡ local_name l n) c.as_slice-in-Local.ensures c.in_ok-name-in-Local.ensures) (c.own_width-in-Local.ensures ∙ wide-is e)
    c.whole_name-in-Local.ensures.reads c.whole_name-in-Local.ensures.root

pub follow-find-requires : goal.follow-find-requires
follow-find-requires t c =
    let is = subst (λ st. IsStep st c.args.e.now) c.in-Member.is c.requires.step in
    let from = W.from-Member c.args.e.now c.in-Member.from.now c.in-Member.k (formals_in c.args.functions.now) is c.requires.built c.requires.fits in
    (omega (arith, c.decreases, from.fewer), (c.requires.functions, (from.built, from.fits)))

pub follow-member_step-requires-clause-narrow : goal.follow-member_step-requires-clause-narrow
follow-member_step-requires-clause-narrow t c =
    let is = subst (λ st. IsStep st c.args.e.now) c.in-Member.is c.requires.step in
    (W.from-Member c.args.e.now c.in-Member.from.now c.in-Member.k (formals_in c.args.functions.now) is c.requires.built c.requires.fits).narrow

pub follow-returns-in_ok-found-in-Member-clause-finds : goal.follow-returns-in_ok-found-in-Member-clause-finds
follow-returns-in_ok-found-in-Member-clause-finds t c =
    let is = subst (λ st. IsStep st c.args.e.now) c.in-Member.is c.requires.step in
    finds-Member c.args.names.now c.args.functions.now c.find.new.helpers c.args.e.now c.in-Member.from.now c.in-Member.k c.in_ok-found-in-Member.found c.member_step.result is c.requires.fits.typed
    c.in_ok-found-in-Member.ensures.finds c.member_step.ensures.reads c.member_step.ensures.root

pub follow-find-requires-in-Part : goal.follow-find-requires-in-Part
follow-find-requires-in-Part t c =
    let is = subst (λ st. IsStep st c.args.e.now) c.in-Part.is c.requires.step in
    let from = W.from-Part c.args.e.now c.in-Part.from.now c.in-Part.left c.in-Part.right (formals_in c.args.functions.now) is c.requires.built c.requires.fits in
    (omega (arith, c.decreases, from.fewer), (c.requires.functions, (from.built, from.fits)))

pub follow-between_step-requires-clause-narrow : goal.follow-between_step-requires-clause-narrow
follow-between_step-requires-clause-narrow t c =
    let is = subst (λ st. IsStep st c.args.e.now) c.in-Part.is c.requires.step in
    (W.from-Part c.args.e.now c.in-Part.from.now c.in-Part.left c.in-Part.right (formals_in c.args.functions.now) is c.requires.built c.requires.fits).narrow

pub follow-returns-in_ok-found-in-Part-clause-finds : goal.follow-returns-in_ok-found-in-Part-clause-finds
follow-returns-in_ok-found-in-Part-clause-finds t c =
    let is = subst (λ st. IsStep st c.args.e.now) c.in-Part.is c.requires.step in
    let left_fits : SFits w64 c.in-Part.left = search rules in
    let right_fits : SFits w64 c.in-Part.right = search rules in
    let left : to_z w64 (of_z w64 c.in-Part.left) ≡ c.in-Part.left = to_z-of_z w64 c.in-Part.left left_fits in
    let right : to_z w64 (of_z w64 c.in-Part.right) ≡ c.in-Part.right = to_z-of_z w64 c.in-Part.right right_fits in
    let old = c.in_ok-found-in-Part.found in
    let reads = subst (λ (n : ℤ). ReadsBetween old c.in-Part.from.now.of c.in-Part.left n c.between_step.result) right
    (subst (λ (n : ℤ). ReadsBetween old c.in-Part.from.now.of n (to_z w64 (of_z w64 c.in-Part.right)) c.between_step.result) left c.between_step.ensures.reads) in
    finds-Part c.args.names.now c.args.functions.now c.find-in-Part.new.helpers c.args.e.now c.in-Part.from.now c.in-Part.left c.in-Part.right old c.between_step.result is c.requires.fits.typed
    c.in_ok-found-in-Part.ensures.finds reads c.between_step.ensures.root

-- elements in words
pub element-selected-requires : goal.element-selected-requires
element-selected-requires t c =
    (omega (arith, c.decreases), (c.requires.functions, (c.requires.form, (subst (StandsInWords c.args.names.now c.args.from.now) c.in-None.is c.memory_of.ensures, (c.requires.built, c.requires.fits)))))

pub element-word-requires : goal.element-word-requires
element-word-requires t c =
    (omega (arith, c.decreases), (c.requires.functions, (c.requires.form, (subst (StandsInWords c.args.names.now c.args.from.now) c.in-Some.is c.memory_of.ensures, (c.requires.built, c.requires.fits)))))

pub word-known_index-requires-clause-fits : goal.word-known_index-requires-clause-fits
word-known_index-requires-clause-fits t c = (W.at-Index c.args.e.now c.args.from.now c.args.i.now (formals_in c.args.functions.now) c.requires.form c.requires.built c.requires.fits).fits

pub word-known_index-requires-clause-short : goal.word-known_index-requires-clause-short
word-known_index-requires-clause-short t c = (W.at-Index c.args.e.now c.args.from.now c.args.i.now (formals_in c.args.functions.now) c.requires.form c.requires.built c.requires.fits).short

pub word-numbered_word-requires-clause-narrow : goal.word-numbered_word-requires-clause-narrow
word-numbered_word-requires-clause-narrow t c = (W.from-Index c.args.e.now c.args.from.now c.args.i.now (formals_in c.args.functions.now) c.requires.form c.requires.built c.requires.fits).narrow

pub word-numbered_word-requires-clause-some : goal.word-numbered_word-requires-clause-some
word-numbered_word-requires-clause-some t c =
    let from = W.from-Index c.args.e.now c.args.from.now c.args.i.now (formals_in c.args.functions.now) c.requires.form c.requires.built c.requires.fits in
    let some = has-bits c.args.from.now from.fits.typed in
    omega (arith, some, wide-is c.args.from.now)

pub word-returns-in-Some-clause-finds : goal.word-returns-in-Some-clause-finds
word-returns-in-Some-clause-finds t c =
    let i = c.args.i.now in
    let from = W.from-Index c.args.e.now c.args.from.now c.args.i.now (formals_in c.args.functions.now) c.requires.form c.requires.built c.requires.fits in
    let known = subst (λ o. IfSome o (λ (k : KnownIndex). IsKnown i k.number)) c.in-Some.is c.in_ok-known.ensures.known in
    finds-known-word c.args.names.now c.args.functions.now c.args.helpers.now c.args.e.now c.args.from.now i c.args.n c.in-Some.known.number c.in_ok-numbered.numbered c.requires.form c.requires.fits.typed from.fits.typed
    c.requires.memory known c.in_ok-numbered.ensures.reads c.in_ok-numbered.ensures.names

pub word-index-requires : goal.word-index-requires
word-index-requires t c =
    let at = W.at-Index c.args.e.now c.args.from.now c.args.i.now (formals_in c.args.functions.now) c.requires.form c.requires.built c.requires.fits in
    (omega (arith, c.decreases, at.fewer), (c.requires.functions, (at.built, at.fits)))

pub word-indexed_word-requires-clause-narrow : goal.word-indexed_word-requires-clause-narrow
word-indexed_word-requires-clause-narrow t c = (W.from-Index c.args.e.now c.args.from.now c.args.i.now (formals_in c.args.functions.now) c.requires.form c.requires.built c.requires.fits).narrow

pub word-indexed_word-requires-clause-some : goal.word-indexed_word-requires-clause-some
word-indexed_word-requires-clause-some t c =
    let from = W.from-Index c.args.e.now c.args.from.now c.args.i.now (formals_in c.args.functions.now) c.requires.form c.requires.built c.requires.fits in
    let some = has-bits c.args.from.now from.fits.typed in
    omega (arith, some, wide-is c.args.from.now)

pub word-indexed_word-requires-clause-short : goal.word-indexed_word-requires-clause-short
word-indexed_word-requires-clause-short t c =
    let at = W.at-Index c.args.e.now c.args.from.now c.args.i.now (formals_in c.args.functions.now) c.requires.form c.requires.built c.requires.fits in
    let index = c.in_ok-at.ensures.indexes in
    omega (arith, index.width, at.short)

pub word-returns-clause-finds : goal.word-returns-clause-finds
word-returns-clause-finds t c =
    let i = c.args.i.now in
    let from = W.from-Index c.args.e.now c.args.from.now c.args.i.now (formals_in c.args.functions.now) c.requires.form c.requires.built c.requires.fits in
    let at = W.at-Index c.args.e.now c.args.from.now c.args.i.now (formals_in c.args.functions.now) c.requires.form c.requires.built c.requires.fits in
    finds-word c.args.names.now c.args.functions.now c.index.new.helpers c.args.e.now c.args.from.now i c.args.n c.in_ok-at.at c.in_ok-indexed.indexed c.requires.form c.requires.fits.typed from.fits.typed at.fits.typed
    c.requires.memory c.in_ok-at.ensures.indexes c.in_ok-indexed.ensures.reads c.in_ok-indexed.ensures.names

-- elements
pub selected-known_index-requires-clause-fits : goal.selected-known_index-requires-clause-fits
selected-known_index-requires-clause-fits t c = (W.at-Index c.args.e.now c.args.from.now c.args.i.now (formals_in c.args.functions.now) c.requires.form c.requires.built c.requires.fits).fits

pub selected-known_index-requires-clause-short : goal.selected-known_index-requires-clause-short
selected-known_index-requires-clause-short t c = (W.at-Index c.args.e.now c.args.from.now c.args.i.now (formals_in c.args.functions.now) c.requires.form c.requires.built c.requires.fits).short

pub selected-find-requires : goal.selected-find-requires
selected-find-requires t c =
    let from = W.from-Index c.args.e.now c.args.from.now c.args.i.now (formals_in c.args.functions.now) c.requires.form c.requires.built c.requires.fits in
    (omega (arith, c.decreases, from.fewer), (c.requires.functions, (from.built, from.fits)))

pub selected-element_step-requires-clause-narrow : goal.selected-element_step-requires-clause-narrow
selected-element_step-requires-clause-narrow t c = (W.from-Index c.args.e.now c.args.from.now c.args.i.now (formals_in c.args.functions.now) c.requires.form c.requires.built c.requires.fits).narrow

pub selected-returns-in-Some-clause-finds : goal.selected-returns-in-Some-clause-finds
selected-returns-in-Some-clause-finds t c =
    let i = c.args.i.now in
    let known = subst (λ o. IfSome o (λ (k : KnownIndex). IsKnown i k.number)) c.in-Some.is c.in_ok-known.ensures.known in
    finds-known c.args.names.now c.args.functions.now c.find.new.helpers c.args.e.now c.args.from.now i c.in-Some.known.number c.in_ok-found.found c.element_step.result c.requires.form c.requires.fits.typed known c.requires.plain
    c.in_ok-found.ensures.finds c.element_step.ensures.reads c.element_step.ensures.root

pub selected-find-found-requires : goal.selected-find-found-requires
selected-find-found-requires t c =
    let from = W.from-Index c.args.e.now c.args.from.now c.args.i.now (formals_in c.args.functions.now) c.requires.form c.requires.built c.requires.fits in
    (omega (arith, c.decreases, from.fewer), (c.requires.functions, (from.built, from.fits)))

pub selected-index-at-requires : goal.selected-index-at-requires
selected-index-at-requires t c =
    let at = W.at-Index c.args.e.now c.args.from.now c.args.i.now (formals_in c.args.functions.now) c.requires.form c.requires.built c.requires.fits in
    (omega (arith, c.decreases, at.fewer), (c.requires.functions, (at.built, at.fits)))

pub selected-index_step-requires-clause-narrow : goal.selected-index_step-requires-clause-narrow
selected-index_step-requires-clause-narrow t c = (W.from-Index c.args.e.now c.args.from.now c.args.i.now (formals_in c.args.functions.now) c.requires.form c.requires.built c.requires.fits).narrow

pub selected-index_step-requires-clause-index : goal.selected-index_step-requires-clause-index
selected-index_step-requires-clause-index t c =
    let at = W.at-Index c.args.e.now c.args.from.now c.args.i.now (formals_in c.args.functions.now) c.requires.form c.requires.built c.requires.fits in
    let index = subst (λ r. IfOk r (λ (x : Index). Indexes c.args.names.now c.args.functions.now c.index-at.new.helpers c.args.i.now x)) c.in_ok-found-2.ensures.1 c.index-at.ensures.indexes in
    omega (arith, index.width, at.short)

pub selected-returns-clause-finds : goal.selected-returns-clause-finds
selected-returns-clause-finds t c =
    let names = c.args.names.now in
    let functions = c.args.functions.now in
    let from = W.from-Index c.args.e.now c.args.from.now c.args.i.now (formals_in functions) c.requires.form c.requires.built c.requires.fits in
    let at = W.at-Index c.args.e.now c.args.from.now c.args.i.now (formals_in functions) c.requires.form c.requires.built c.requires.fits in
    let one = c.find-found.new.helpers in
    let two = c.index-at.new.helpers in
    let found = subst (λ r. IfOk r (λ (x : Reading). Finds names functions one c.args.from.now x)) c.in_ok-found-2.ensures.0 c.find-found.ensures.finds in
    let index = subst (λ r. IfOk r (λ (x : Index). Indexes names functions two c.args.i.now x)) c.in_ok-found-2.ensures.1 c.index-at.ensures.indexes in
    let grows = subst (λ r. OnOk r (Grows one two)) c.in_ok-found-2.ensures.1 c.index-at.ensures.grows in
    finds-by-index names functions c.index_step.new.helpers one two c.args.e.now c.args.from.now c.args.i.now c.in_ok-found-2.at c.in_ok-found-2.found c.in_ok-made.made grows c.in_ok-made.ensures.grows c.requires.form
    c.requires.fits.typed from.fits.typed at.fits.typed index c.requires.plain found c.in_ok-made.ensures.reads c.in_ok-made.ensures.names

-- indexed part-selects
pub slid-known_index-requires-clause-fits : goal.slid-known_index-requires-clause-fits
slid-known_index-requires-clause-fits t c =
    let part = c.args.part in
    (W.at-Slide c.args.e.now c.args.from.now c.args.base.now part.count part.up (formals_in c.args.functions.now) c.requires.form c.requires.built c.requires.fits).fits

pub slid-known_index-requires-clause-short : goal.slid-known_index-requires-clause-short
slid-known_index-requires-clause-short t c =
    let part = c.args.part in
    (W.at-Slide c.args.e.now c.args.from.now c.args.base.now part.count part.up (formals_in c.args.functions.now) c.requires.form c.requires.built c.requires.fits).short

pub slid-find-requires : goal.slid-find-requires
slid-find-requires t c =
    let part = c.args.part in
    let from = W.from-Slide c.args.e.now c.args.from.now c.args.base.now part.count part.up (formals_in c.args.functions.now) c.requires.form c.requires.built c.requires.fits in
    (omega (arith, c.decreases, from.fewer), (c.requires.functions, (from.built, from.fits)))

pub slid-sliding_step-requires-clause-narrow : goal.slid-sliding_step-requires-clause-narrow
slid-sliding_step-requires-clause-narrow t c =
    let part = c.args.part in
    (W.from-Slide c.args.e.now c.args.from.now c.args.base.now part.count part.up (formals_in c.args.functions.now) c.requires.form c.requires.built c.requires.fits).narrow

pub slid-returns-in-Some-clause-finds : goal.slid-returns-in-Some-clause-finds
slid-returns-in-Some-clause-finds t c =
    let i = c.args.base.now in
    let part = c.args.part in
    let known = subst (λ o. IfSome o (λ (k : KnownIndex). IsKnown i k.number)) c.in-Some.is c.in_ok-known.ensures.known in
    finds-known-slide c.args.names.now c.args.functions.now c.find.new.helpers c.args.e.now c.args.from.now i part.count part.up c.in-Some.known.number c.in_ok-found.found c.sliding_step.result c.requires.form c.requires.fits.typed known
    c.in_ok-found.ensures.finds c.sliding_step.ensures.reads c.sliding_step.ensures.root

pub slid-find-found-requires : goal.slid-find-found-requires
slid-find-found-requires t c =
    let part = c.args.part in
    let from = W.from-Slide c.args.e.now c.args.from.now c.args.base.now part.count part.up (formals_in c.args.functions.now) c.requires.form c.requires.built c.requires.fits in
    (omega (arith, c.decreases, from.fewer), (c.requires.functions, (from.built, from.fits)))

pub slid-index-at-requires : goal.slid-index-at-requires
slid-index-at-requires t c =
    let part = c.args.part in
    let at = W.at-Slide c.args.e.now c.args.from.now c.args.base.now part.count part.up (formals_in c.args.functions.now) c.requires.form c.requires.built c.requires.fits in
    (omega (arith, c.decreases, at.fewer), (c.requires.functions, (at.built, at.fits)))

pub slid-slide_step-requires-clause-narrow : goal.slid-slide_step-requires-clause-narrow
slid-slide_step-requires-clause-narrow t c =
    let part = c.args.part in
    (W.from-Slide c.args.e.now c.args.from.now c.args.base.now part.count part.up (formals_in c.args.functions.now) c.requires.form c.requires.built c.requires.fits).narrow

pub slid-slide_step-requires-clause-index : goal.slid-slide_step-requires-clause-index
slid-slide_step-requires-clause-index t c =
    let part = c.args.part in
    let at = W.at-Slide c.args.e.now c.args.from.now c.args.base.now part.count part.up (formals_in c.args.functions.now) c.requires.form c.requires.built c.requires.fits in
    let index = subst (λ r. IfOk r (λ (x : Index). Indexes c.args.names.now c.args.functions.now c.index-at.new.helpers c.args.base.now x)) c.in_ok-found-2.ensures.1 c.index-at.ensures.indexes in
    omega (arith, index.width, at.short)

pub slid-returns-clause-finds : goal.slid-returns-clause-finds
slid-returns-clause-finds t c =
    let names = c.args.names.now in
    let functions = c.args.functions.now in
    let part = c.args.part in
    let from = W.from-Slide c.args.e.now c.args.from.now c.args.base.now part.count part.up (formals_in functions) c.requires.form c.requires.built c.requires.fits in
    let at = W.at-Slide c.args.e.now c.args.from.now c.args.base.now part.count part.up (formals_in functions) c.requires.form c.requires.built c.requires.fits in
    let one = c.find-found.new.helpers in
    let two = c.index-at.new.helpers in
    let new = c.slide_step.new.helpers in
    let found = subst (λ r. IfOk r (λ (x : Reading). Finds names functions one c.args.from.now x)) c.in_ok-found-2.ensures.0 c.find-found.ensures.finds in
    let index = subst (λ r. IfOk r (λ (x : Index). Indexes names functions two c.args.base.now x)) c.in_ok-found-2.ensures.1 c.index-at.ensures.indexes in
    let grows = subst (λ r. OnOk r (Grows one two)) c.in_ok-found-2.ensures.1 c.index-at.ensures.grows in
    let size = c.requires.bits ∙ slide-size names functions new c.args.e.now c.args.from.now c.args.base.now part.count part.up c.requires.form c.requires.fits.typed in
    finds-by-slide names functions new one two c.args.e.now c.args.from.now c.args.base.now part.count part.up c.in_ok-found-2.at c.in_ok-found-2.found c.in_ok-made.made grows c.in_ok-made.ensures.grows c.requires.form
    c.requires.fits.typed from.fits.typed at.fits.typed index found (c.in_ok-made.ensures.reads size) c.in_ok-made.ensures.names

pub index-returns-clause-indexes : goal.index-returns-clause-indexes
index-returns-clause-indexes t c =
    let i = c.args.i.now in
    let names = c.args.names.now in
    let functions = c.args.functions.now in
    let hs = c.lower.new.helpers in
    let m = T.meaning c.in_ok-expr.expr in
    record {
      width = c.own_width-width.ensures;
      sign = c.own_sign-signed.ensures;
      lowers = subst (λ s. Lowers names functions hs i (wide (meaning i)) s m) c.own_sign-signed.ensures (subst (λ k. Lowers names functions hs i k c.own_sign-signed.result m) c.own_width-width.ensures c.in_ok-expr.ensures.lowers);
    }
