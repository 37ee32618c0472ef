-- The table of items, and what it gives.
use Rattle.std.proofs.Common.{◌≡◌, None, true, cond, length, map, replicate, ap, sym, ◌∙◌, subst}
use Rattle.picks.specs.Windows.{tabulated}
use Rattle.pattern_fit.specs.Fits.{item_at, is_once, covers, by_key, element_number, Gives}
use Rattle.pattern_fit.proofs.Tables.{length-tabulated}
use Rattle.pattern_fit.proofs.fitting.fit_elements.Goals as goal

pub cover_elements-requires : goal.cover_elements-requires
cover_elements-requires c =
    let ns = c.in_ok-numbers.numbers.items in
    let count = c.args.count in
    let table : c.in_ok-taken.taken.items ≡ tabulated count (item_at 0 ns) = c.in_ok-taken.ensures.1 ∙ ap (λ k. tabulated count (item_at 0 k)) c.deref.ensures.value in
    let long : length c.deref-3.result.now ≡ count = ap length c.deref-3.ensures.value ∙ ap length table ∙ length-tabulated count (item_at 0 ns) in
    c.deref-3.ensures.value ∙ table ∙ ap (λ k. tabulated k (item_at 0 ns)) (sym long) ∙ ap (λ k. tabulated (length c.deref-3.result.now) (item_at 0 k)) (sym c.deref-2.ensures.value)

pub returns : goal.returns
returns c =
    let ns = c.in_ok-numbers.numbers.items in
    let count = c.args.count in
    let rest = c.args.p.now.rest in
    let element = c.args.element.now in
    let f = element_number c.args.bounds.now.left c.args.bounds.now.right in
    let keys = c.args.p.now.keys in
    let value : ns ≡ map f keys = c.in_ok-numbers.ensures.value ∙ ap (map f) c.as_slice.ensures in
    let table : c.in_ok-taken.taken.items ≡ tabulated count (item_at 0 ns) = c.in_ok-taken.ensures.1 ∙ ap (λ k. tabulated count (item_at 0 k)) c.deref.ensures.value in
    let long : length c.deref-3.result.now ≡ count = ap length c.deref-3.ensures.value ∙ ap length table ∙ length-tabulated count (item_at 0 ns) in
    let once : is_once (map f keys) ≡ true = ap is_once (sym (c.deref.ensures.value ∙ value)) ∙ c.in_ok-taken.ensures.0 in
    let covered : covers rest c.deref-2.result.now 0 (replicate (length c.deref-3.result.now) element) ≡ by_key rest (map f keys) (replicate count element) =
    ap (λ k. covers rest k 0 (replicate (length c.deref-3.result.now) element)) (c.deref-2.ensures.value ∙ value)
    ∙ ap (λ n. covers rest (map f keys) 0 (replicate n element)) long
    ∙ sym (ap (λ b. cond b (covers rest (map f keys) 0 (replicate count element)) None) once) in
    subst (Gives c.cover_elements.result) covered c.cover_elements.ensures
