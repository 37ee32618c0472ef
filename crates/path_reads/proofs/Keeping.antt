-- Bits that a type stores, by its marks, and what has a sign.
use Rattle.std.proofs.Common.{◌≡◌, ◌≤◌, Bool, true, false, List, length, replicate, Result, Ok, Err, IfOk, arith, ap, sym, ◌∙◌, subst}
use Rattle.std.proofs.lemmas.List.{length-replicate}
use Rattle.b4_core.specs.declared.bit.Bit4.{Bit4}
use Rattle.b4_core.specs.declared.bit.Bit4.TheVariants.{X}
use Rattle.sv_types.specs.declared.types.SvType.{SvType}
use Rattle.sv_types.specs.Layouts.{layout, width_of, stored}
use Rattle.sv_types.proofs.Stored.{length-stored}
use Rattle.v_tree.specs.declared.expressions.VExpr.{VExpr}
use Rattle.v_tree.specs.declared.names.Helper.{Helper}
use Rattle.v_meaning.specs.Values as T
use Rattle.path_flatten.specs.Naming.{NamesLike}
use Rattle.path_flatten.specs.Storing.{StoresBits, signed_as}
use Rattle.path_flatten.proofs.Naming.{like-itself, like-signing}
use Rattle.path_reads.specs.Running.{StoresAll}

value-or : {A E : Type 0} → A → Result A E → A
value-or d (Ok x) = x
value-or d (Err e) = d

same-value : {A E : Type 0} (r : Result A E) (x y : A) → r ≡ Ok x → r ≡ Ok y → x ≡ y
unfolding value-or
same-value r x y first second = ap (value-or x) (sym first ∙ second)

if-ok : {A E : Type 0} (r : Result A E) (P Q : A → Type 0) → ((x : A) → P x → Q x) → IfOk r P → IfOk r Q
if-ok (Ok x) P Q more h = more x h
if-ok (Err e) P Q more h = h

-- marks are what the type makes of x
are-marks : {E : Type 0} (t : SvType) (b : Result (List Bit4) E) (v marks : List Bit4) → b ≡ Ok v → marks ≡ v → IfOk b (λ (x : List Bit4). x ≡ stored (layout t).two_state (replicate (width_of t) X))
    → marks ≡ stored (layout t).two_state (replicate (width_of t) X)
are-marks t b v marks is same h = same ∙ subst (λ r. IfOk r (λ (x : List Bit4). x ≡ stored (layout t).two_state (replicate (width_of t) X))) is h

pub few-marks : {E : Type 0} (t : SvType) (b : Result (List Bit4) E) (v marks : List Bit4) → b ≡ Ok v → marks ≡ v → IfOk b (λ (x : List Bit4). x ≡ stored (layout t).two_state (replicate (width_of t) X))
    → width_of t ≤ 4194304 → length marks ≤ 4194304
few-marks t b v marks is same h narrow =
    let long : length marks ≡ width_of t = ap length (are-marks t b v marks is same h) ∙ length-stored (layout t).two_state (replicate (width_of t) X) (length-replicate (width_of t) X) in
    omega arith

pub kept-bits : {E : Type 0} (t : SvType) (x y : VExpr) (o : Result VExpr E) (b : Result (List Bit4) E) (v marks : List Bit4) (hs : List Helper) (r : Result VExpr E) → o ≡ Ok x → o ≡ Ok y → b ≡ Ok v → marks ≡ v
    → IfOk b (λ (u : List Bit4). u ≡ stored (layout t).two_state (replicate (width_of t) X)) → IfOk r (λ (m : VExpr). StoresAll (T.meaning y) marks hs (T.meaning m))
    → IfOk r (λ (m : VExpr). StoresBits t (T.meaning x) hs (T.meaning m))
kept-bits t x y o b v marks hs r of_ is has same h made =
    if-ok r (λ (m : VExpr). StoresAll (T.meaning y) marks hs (T.meaning m)) (λ (m : VExpr). StoresBits t (T.meaning x) hs (T.meaning m))
    (λ m stores. subst (λ (z : VExpr). StoresBits t (T.meaning z) hs (T.meaning m)) (sym (same-value o x y of_ is)) (stores t (are-marks t b v marks has same h)))
    made

pub kept-names : {E : Type 0} (x y : VExpr) (o r : Result VExpr E) → o ≡ Ok x → o ≡ Ok y → IfOk r (λ (m : VExpr). NamesLike (T.meaning y) (T.meaning m)) → IfOk r (λ (m : VExpr). NamesLike (T.meaning x) (T.meaning m))
kept-names x y o r of_ is made = subst (λ (z : VExpr). IfOk r (λ (m : VExpr). NamesLike (T.meaning z) (T.meaning m))) (sym (same-value o x y of_ is)) made

-- with a sign, or as it is
pub like-signed : (b : Bool) (m r : T.Meaning) → r ≡ signed_as b m → NamesLike m r
like-signed true m r is = subst (NamesLike m) (sym is) (like-signing true m)
like-signed false m r is = subst (NamesLike m) (sym is) (like-itself m)
