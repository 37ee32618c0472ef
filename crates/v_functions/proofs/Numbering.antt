-- One item more, from the last to the first.
use Rattle.std.proofs.Common.{◌≡◌, ℕ, suc, ◌-◌, ◌≤◌, ◌<◌, List, drop, get_or, length, sym, ap, ◌∙◌, arith}
use Rattle.std.proofs.Math.Seq.{drop-cons}
use Rattle.v_tree.specs.declared.items.VItem.{VItem}
use Rattle.v_rules.specs.Tables.{Numbers}
use Rattle.v_functions.specs.Numbered.{item_numbered, functions_from}

pub number-step : (items : List VItem) (at : ℕ) (i : VItem) (old new : Numbers) → 0 < at → at ≤ length items → i ≡ get_or items (at - 1) i
    → old ≡ functions_from at (drop at items) → new ≡ item_numbered (at - 1) i old → new ≡ functions_from (at - 1) (drop (at - 1) items)
number-step items at i old new some low is before step =
    let k = at - 1 in
    let next : at ≡ suc k = omega (arith, some) in
    step
    ∙ ap (item_numbered k i) (before ∙ ap (λ n. functions_from n (drop n items)) next)
    ∙ ap (λ (j : VItem). item_numbered k j (functions_from (suc k) (drop (suc k) items))) is
    ∙ ap (functions_from k) (sym (drop-cons items k i (omega (arith, some, low))))
