-- Each element takes the item that stands for it, or what `default` gives.
use Rattle.std.proofs.Common.{◌≡◌, ◌+◌, ◌-◌, ◌<◌, [], ◌∷◌, ◌++◌, ℕ, suc, Some, None, length, replicate, arith, ap, sym, ◌∙◌}
use Rattle.std.specs.Prelude.{slice_index_or}
use Rattle.sv_types.specs.declared.types.SvType.{SvType}
use Rattle.pattern_fit.specs.Fits.{covers, behind, item_at, item_or, by_default}
use Rattle.pattern_fit.proofs.Covers.{cover-some, cover-none}
use Rattle.pattern_fit.proofs.Tables.{index-tabulated}
use Rattle.pattern_fit.proofs.fitting.cover_elements.Goals as goal

-- one of the elements that are left
one-left : (n i : ℕ) (t : SvType) → i < n → replicate (n - i) t ≡ t ∷ replicate (n - (i + 1)) t
one-left n i t h = let e : n - i ≡ suc (n - (i + 1)) = omega arith in ap (λ k. replicate k t) e

pub returns-in-None : goal.returns-in-None
returns-in-None c =
    let l = c.loop-place in
    let i = l.place-index in
    let ks = c.args.numbers.now in
    let t = c.args.element.now in
    let n = length c.args.taken.now in
    let taken : slice_index_or c.args.taken.now i None ≡ item_at 0 ks i = ap (λ v. slice_index_or v i None) c.requires ∙ index-tabulated n (item_at 0 ks) i None (omega arith) in
    let none : item_or (item_at 0 ks i) (by_default c.args.rest.now t) ≡ None =
    ap (λ o. item_or (item_at 0 ks i) o) (sym c.default_item-otherwise.ensures) ∙ ap (λ o. item_or o c.default_item-otherwise.result) (sym taken) ∙ sym c.item_for.ensures ∙ c.in-None.is in
    sym l.invariant ∙ ap (λ ys. behind l.items.items (covers c.args.rest.now ks i ys)) (one-left n i t (omega arith))
    ∙ cover-none l.items.items c.args.rest.now ks i t (replicate (n - (i + 1)) t) none

pub loop-place-preserved : goal.loop-place-preserved
loop-place-preserved c =
    let l = c.loop-place in
    let i = l.place-index in
    let ks = c.args.numbers.now in
    let t = c.args.element.now in
    let n = length c.args.taken.now in
    let later = replicate (n - (i + 1)) t in
    let taken : slice_index_or c.args.taken.now i None ≡ item_at 0 ks i = ap (λ v. slice_index_or v i None) c.requires ∙ index-tabulated n (item_at 0 ks) i None (omega arith) in
    let some : item_or (item_at 0 ks i) (by_default c.args.rest.now t) ≡ Some c.in-Some.item =
    ap (λ o. item_or (item_at 0 ks i) o) (sym c.default_item-otherwise.ensures) ∙ ap (λ o. item_or o c.default_item-otherwise.result) (sym taken) ∙ sym c.item_for.ensures ∙ c.in-Some.is in
    let e : i + 1 ≡ suc i = omega arith in
    ap (λ made. behind made (covers c.args.rest.now ks (i + 1) later)) c.in_ok-push-in-Some.ensures.items
    ∙ ap (λ k. behind (l.items.items ++ c.in-Some.item ∷ []) (covers c.args.rest.now ks k later)) e
    ∙ sym (cover-some l.items.items c.args.rest.now ks i t later c.in-Some.item some)
    ∙ ap (λ ys. behind l.items.items (covers c.args.rest.now ks i ys)) (sym (one-left n i t (omega arith))) ∙ l.invariant
