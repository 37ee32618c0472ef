use Rattle.std.proofs.Common.{◌≡◌, ◌<◌, List, [], ◌∷◌, Some, None, length, refl, sym, subst, arith}
use Rattle.ll_engine.specs.declared.table.Row.{Row}
use Rattle.ll_engine.specs.Class.{IsFit}
use Rattle.ll_engine.specs.Facts.{AreFacts, AreHeads, first_break}
use Rattle.ll_engine.proofs.Sound.{is_fit, breaks_at, knows}
use Rattle.ll_engine.proofs.ll1.Ll1.new.Goals as goal
use Rattle.ll_engine.proofs.ll1.Ll1.new.Goals.{In_default, In-Some}

some_row : (t : List Row) → (t ≡ [] → ⊥) → 0 < length t
some_row [] n = absurd (n refl)
some_row (x ∷ t) n = omega arith

pub returns-in-Some : goal.returns-in-Some
returns-in-Some c =
    let t = c.args.rows in
    let f = c.in_ok-facts.facts in
    let heads = c.in_ok-heads.heads in
    let af = subst (λ q. AreFacts q f) c.as_slice.ensures c.in_ok-facts.ensures in
    let ah = subst (λ q. AreHeads q f heads) c.as_slice-2.ensures c.in_ok-heads.ensures in
    let e : first_break t f heads t 0 ≡ Some c.in-Some.row =
    sym (subst (λ q. Some c.in-Some.row ≡ first_break q f heads q 0) c.as_slice-3.ensures
    (subst (λ q. Some c.in-Some.row ≡ first_break c.as_slice-3.result.now f q c.as_slice-3.result.now 0) c.as_slice-4.ensures c.in-Some.ensures)) in
    breaks_at t f af heads ah c.in-Some.row e

fit : (c : In_default) → IsFit c.args.rows
fit c =
    let t = c.args.rows in
    let f = c.in_ok-facts.facts in
    let heads = c.in_ok-heads.heads in
    let af = subst (λ q. AreFacts q f) c.as_slice.ensures c.in_ok-facts.ensures in
    let ah = subst (λ q. AreHeads q f heads) c.as_slice-2.ensures c.in_ok-heads.ensures in
    let e : first_break t f heads t 0 ≡ None =
    sym (subst (λ q. None ≡ first_break q f heads q 0) c.as_slice-3.ensures
    (subst (λ q. None ≡ first_break c.as_slice-3.result.now f q c.as_slice-3.result.now 0) c.as_slice-4.ensures c.in_default.ensures)) in
    let full : t ≡ [] → ⊥ = λ q. let x = c.is_empty.ensures.1 q in let y = c.if-is_empty.false in cc (x, y) in
    is_fit t f af heads ah (some_row t full) e

pub invariant_of-result : goal.invariant_of-result
invariant_of-result c =
    let t = c.args.rows in
    let f = c.in_ok-facts.facts in
    let heads = c.in_ok-heads.heads in
    let af = subst (λ q. AreFacts q f) c.as_slice.ensures c.in_ok-facts.ensures in
    let ah = subst (λ q. AreHeads q f heads) c.as_slice-2.ensures c.in_ok-heads.ensures in
    let e : first_break t f heads t 0 ≡ None =
    sym (subst (λ q. None ≡ first_break q f heads q 0) c.as_slice-3.ensures
    (subst (λ q. None ≡ first_break c.as_slice-3.result.now f q c.as_slice-3.result.now 0) c.as_slice-4.ensures c.in_default.ensures)) in
    let full : t ≡ [] → ⊥ = λ q. let x = c.is_empty.ensures.1 q in let y = c.if-is_empty.false in cc (x, y) in
    knows t f af heads ah (is_fit t f af heads ah (some_row t full) e)

pub returns : goal.returns
returns c = (refl, fit ((goal.at.returns c).In_default))
