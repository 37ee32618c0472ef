-- Each member takes the item that stands for it, or what `default` gives.
use Rattle.std.proofs.Common.{◌≡◌, ◌+◌, [], ◌∷◌, ◌++◌, suc, Some, None, length, map, drop, arith, ap, sym, ◌∙◌}
use Rattle.std.specs.Prelude.{slice_index_or}
use Rattle.std.proofs.lemmas.List.{drop_more}
use Rattle.sv_types.specs.declared.types.Member.{Member}
use Rattle.pattern_fit.specs.Fits.{covers, behind, item_at, item_or, by_default}
use Rattle.pattern_fit.proofs.Covers.{cover-some, cover-none}
use Rattle.pattern_fit.proofs.Tables.{index-tabulated, length-tabulated}
use Rattle.pattern_fit.proofs.fitting.cover_members.Goals as goal

pub returns-in-None : goal.returns-in-None
returns-in-None c =
    let l = c.loop-n in
    let ms = c.args.members.now in
    let ks = c.args.numbers.now in
    let x = c.index-members-n.result in
    let here : drop l.n ms ≡ x ∷ drop (l.n + 1) ms = drop_more ms l.n x (omega arith) ∙ ap (λ y. y ∷ drop (l.n + 1) ms) (sym c.index-members-n.is) in
    let taken : slice_index_or c.args.taken.now l.n None ≡ item_at 0 ks l.n = ap (λ t. slice_index_or t l.n None) c.requires ∙ index-tabulated (length ms) (item_at 0 ks) l.n None (omega arith) in
    let none : item_or (item_at 0 ks l.n) (by_default c.args.rest.now x.of) ≡ None =
    ap (λ o. item_or (item_at 0 ks l.n) o) (sym c.default_item.ensures) ∙ ap (λ o. item_or o c.default_item.result) (sym taken) ∙ sym c.item_for.ensures ∙ c.in-None.is in
    sym l.invariant ∙ ap (λ ys. behind l.items.items (covers c.args.rest.now ks l.n (map (λ (m : Member). m.of) ys))) here
    ∙ cover-none l.items.items c.args.rest.now ks l.n x.of (map (λ (m : Member). m.of) (drop (l.n + 1) ms)) none

pub loop-n-preserved : goal.loop-n-preserved
loop-n-preserved c =
    let l = c.loop-n in
    let ms = c.args.members.now in
    let ks = c.args.numbers.now in
    let x = c.index-members-n.result in
    let later = map (λ (m : Member). m.of) (drop (l.n + 1) ms) in
    let here : drop l.n ms ≡ x ∷ drop (l.n + 1) ms = drop_more ms l.n x (omega arith) ∙ ap (λ y. y ∷ drop (l.n + 1) ms) (sym c.index-members-n.is) in
    let taken : slice_index_or c.args.taken.now l.n None ≡ item_at 0 ks l.n = ap (λ t. slice_index_or t l.n None) c.requires ∙ index-tabulated (length ms) (item_at 0 ks) l.n None (omega arith) in
    let some : item_or (item_at 0 ks l.n) (by_default c.args.rest.now x.of) ≡ Some c.in-Some.item =
    ap (λ o. item_or (item_at 0 ks l.n) o) (sym c.default_item.ensures) ∙ ap (λ o. item_or o c.default_item.result) (sym taken) ∙ sym c.item_for.ensures ∙ c.in-Some.is in
    let e : l.n + 1 ≡ suc l.n = omega arith in
    ap (λ made. behind made (covers c.args.rest.now ks (l.n + 1) later)) c.in_ok-push-in-Some.ensures.items
    ∙ ap (λ k. behind (l.items.items ++ c.in-Some.item ∷ []) (covers c.args.rest.now ks k later)) e
    ∙ sym (cover-some l.items.items c.args.rest.now ks l.n x.of later c.in-Some.item some)
    ∙ ap (λ ys. behind l.items.items (covers c.args.rest.now ks l.n (map (λ (m : Member). m.of) ys))) (sym here) ∙ l.invariant

pub bounds-taken-n : goal.bounds-taken-n
bounds-taken-n c = omega (arith, ap length c.requires, length-tabulated (length c.args.members.now) (item_at 0 c.args.numbers.now))
