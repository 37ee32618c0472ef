-- The rules on `?:`, concatenations, replications, streams and `inside`.
use Rattle.std.proofs.Common.{◌≡◌, ℕ, zero, suc, ◌*◌, ◌<◌, ◌≤◌, max, Bool, true, false, ◌&&◌, ◌||◌, cond, List, [], ◌∷◌, ◌++◌, map, flat_map, refl, arith, ap, sym, ◌∙◌, subst}
use Rattle.std.specs.Prelude.{Ok}
use Rattle.std.specs.List.{list_any}
use Rattle.std.proofs.Math.Nat.{suc-mul}
use Rattle.sv_types.specs.declared.expression.Expr.{Expr}
use Rattle.sv_types.specs.declared.expression.Form.TheVariants as F
use Rattle.sv_types.specs.declared.statement.Function.{Function}
use Rattle.sv_types.specs.Layouts.{layout, width_of}
use Rattle.sv_types.specs.Meanings.{wide, most}
use Rattle.sv_types.specs.Operators as O
use Rattle.sv_types.specs.Expressions.{meaning}
use Rattle.sv_types.proofs.Levels as L
use Rattle.eval_parts.proofs.TypeKinds.{wide-is}
use Rattle.expr_type.specs.declared.operand.Valued.{Valued}
use Rattle.expr_type.specs.Typings.{refused, unless, at_all}
use Rattle.expr_type.specs.Shapes.{one_bit, vector, is_same_enum, is_unpacked}
use Rattle.expr_type.specs.Names.{Source, position}
use Rattle.expr_type.specs.Operands.{too_wide, width}
use Rattle.expr_type.specs.Operators.{Alternative, Only, From, by_itself, in_context, both_type, both_wide, both_signed, is_signed, chosen_type, choice_of, exprs, all_bits, concat_of, repeat_of, over, in_alternative, choice, compared, ordered, wide_in, inside_of}
use Rattle.expr_type.specs.Forms.{stream_of}
use Rattle.typing_fits.specs.Sound.{IsNarrowType, Limited, LimitedAt, Sound, AllSound, SoundAlone, AllSoundAlone}
use Rattle.typing_fits.specs.Alternatives.{AllSoundIn}
use Rattle.typing_fits.proofs.Contexts.{allowed, allowed-left, allowed-right, none-left, none-right, refused-then, word}
use Rattle.typing_fits.proofs.Vectors.{IsResult, vector-of, vector-as, one_bit-of, narrow-vector, narrow-one_bit, width-vector, result-of, result-as}
use Rattle.typing_fits.proofs.Same.{alike-width, alike-sign}
use Rattle.typing_fits.proofs.Limits as M
use Rattle.typing_fits.proofs.Limits.{at-width}
use Rattle.typing_fits.proofs.Lists as T
use Rattle.typing_fits.proofs.Operators.{alone-of, compared-of, wide-both, signed-both, made-alone, in-context, unless-sound, as-is, ok-is, both-narrow, both-vector, over-none}
use Rattle.typing_fits.proofs.Selects.{short-no, long-no, long-then}

-- `?:`
same-sign : (a b : Bool) → a ≡ b → (a && b) ≡ a
same-sign true true h = refl
same-sign true false h = sym h
same-sign false b h = refl

chosen-by : (b : Bool) (l r : Valued) (gs : List Function) → is_same_enum l.expr.of r.expr.of ≡ b → Sound l gs → Sound r gs
    → IsNarrowType (cond b l.expr.of (both_type l r)) × IsResult (layout (cond b l.expr.of (both_type l r))) (O.both_wide (meaning l.expr) (meaning r.expr)) (O.both_signed (meaning l.expr) (meaning r.expr))
chosen-by true l r gs is x y =
    let wide_l : width l ≡ both_wide l r = omega (arith, alike-width l r is) in
    let sign_l : is_signed l ≡ both_signed l r = sym (same-sign (is_signed l) (is_signed r) (alike-sign l r is)) in
    (x.of, result-of l.expr.of (O.both_wide (meaning l.expr) (meaning r.expr)) (O.both_signed (meaning l.expr) (meaning r.expr)) x.of (wide_l ∙ wide-both l r) (sign_l ∙ signed-both l r))
chosen-by false l r gs is x y = (both-narrow l r gs x y, (both-vector l r gs x y).result)

pub choice-sound : (k : Source) (at : ℕ) (on l r v : Valued) (gs : List Function) → choice_of k at on l r ≡ Ok v → Sound on gs → Sound l gs → Sound r gs → Sound v gs
choice-sound k at on l r v gs h z x y =
    let t = chosen_type l r in
    let ops = l.arithmetic ++ r.arithmetic in
    let form = F.Choose on.expr l.expr r.expr in
    let inner = in_context k on.begins t form ops in
    let c = chosen-by (is_same_enum l.expr.of r.expr.of) l r gs refl x y in
    let first = refused-then (is_unpacked l.expr.of || is_unpacked r.expr.of) (position k at) 504 (refused (list_any (λ (u : Valued). is_unpacked u.expr.of) (on ∷ [])) (position k at) 508 inner) v h in
    in-context k on.begins t form ops v gs _ (L.form-Choose on.expr l.expr r.expr) c.0
    (M.choose-limits (layout t) on.begins (meaning on.expr) (meaning l.expr) (meaning r.expr) ops l.arithmetic r.arithmetic gs c.1 (λ w e. allowed-left w l.arithmetic r.arithmetic e)
    (λ w e. allowed-right w l.arithmetic r.arithmetic e) (alone-of on gs z) x.limits y.limits)
    (refused-then (list_any (λ (u : Valued). is_unpacked u.expr.of) (on ∷ [])) (position k at) 508 inner v first)

-- operands that are each valued alone
pub is-alone : (v : Valued) (gs : List Function) → Sound v gs → SoundAlone v.expr gs
is-alone v gs s = record { of = s.of; limits = at-width (meaning v.expr) v.arithmetic gs (width v) s.limits s.own }

pub all-alone : (vs : List Valued) (gs : List Function) → AllSound vs gs → AllSoundAlone (exprs vs) gs
all-alone [] gs s = tt
all-alone (v ∷ vs) gs s = (is-alone v gs s.0, all-alone vs gs s.1)

-- concatenations
pub concat-sound : (k : Source) (opening : ℕ) (e : Expr) (es : List Expr) (v : Valued) (gs : List Function) → concat_of k opening (e ∷ es) ≡ Ok v → AllSoundAlone (e ∷ es) gs → Sound v gs
concat-sound k opening e es v gs h s =
    let w = all_bits (e ∷ es) in
    let a = by_itself k opening (vector w false) (F.Concat (e ∷ es)) in
    let short = long-no k opening w (Ok a) v h in
    let some = T.some-bits e es gs s in
    let r = T.sums (e ∷ es) gs s in
    as-is a v gs (ok-is a v (long-then k opening w (Ok a) v h))
    (made-alone k opening (vector w false) (F.Concat (e ∷ es)) gs _ (L.form-Concat (e ∷ es)) (narrow-vector w false some short)
    (T.concat-limits (layout (vector w false)) opening (e ∷ es) gs (vector-as (layout (vector w false)) w (O.width_of_all (map meaning (e ∷ es))) false false (vector-of w false some short) r.widths refl) r))

many-some : (n w : ℕ) → 0 < n → 0 < w → 0 < n * w
many-some zero w h k = absurd (omega arith)
many-some (suc n) w h k = omega (arith, suc-mul n w)

pub repeat-sound : (k : Source) (opening n : ℕ) (e : Expr) (es : List Expr) (v : Valued) (gs : List Function) → repeat_of k opening n (e ∷ es) ≡ Ok v → 0 < n → AllSoundAlone (e ∷ es) gs → Sound v gs
repeat-sound k opening n e es v gs h times s =
    let w = n * all_bits (e ∷ es) in
    let a = by_itself k opening (vector w false) (F.Repeat n (e ∷ es)) in
    let short = long-no k opening w (Ok a) v h in
    let some = many-some n (all_bits (e ∷ es)) times (T.some-bits e es gs s) in
    let r = T.sums (e ∷ es) gs s in
    as-is a v gs (ok-is a v (long-then k opening w (Ok a) v h))
    (made-alone k opening (vector w false) (F.Repeat n (e ∷ es)) gs _ (L.form-Repeat n (e ∷ es)) (narrow-vector w false some short)
    (T.repeat-limits (layout (vector w false)) opening n (e ∷ es) gs
    (vector-as (layout (vector w false)) w (n * O.width_of_all (map meaning (e ∷ es))) false false (vector-of w false some short) (ap (λ u. n * u) r.widths) refl) r))

pub stream-sound : (k : Source) (opening : ℕ) (reversed : Bool) (n : ℕ) (e : Expr) (es : List Expr) (v : Valued) (gs : List Function) → stream_of k opening reversed n (e ∷ es) ≡ Ok v → AllSoundAlone (e ∷ es) gs → Sound v gs
stream-sound k opening reversed n e es v gs h s =
    let w = all_bits (e ∷ es) in
    let a = by_itself k opening (vector w false) (F.Stream reversed n (e ∷ es)) in
    let short = long-no k opening w (Ok a) v h in
    let some = T.some-bits e es gs s in
    let r = T.sums (e ∷ es) gs s in
    as-is a v gs (ok-is a v (long-then k opening w (Ok a) v h))
    (made-alone k opening (vector w false) (F.Stream reversed n (e ∷ es)) gs _ (L.form-Stream reversed n (e ∷ es)) (narrow-vector w false some short)
    (T.stream-limits (layout (vector w false)) opening reversed n (e ∷ es) gs
    (result-as (layout (vector w false)) w (O.width_of_all (map meaning (e ∷ es))) false false (vector-of w false some short).result r.widths refl) r))

-- as many bits as E701 lets it have
pub stream-short : (k : Source) (opening : ℕ) (reversed : Bool) (n : ℕ) (e : Expr) (es : List Expr) (v : Valued) (gs : List Function) → stream_of k opening reversed n (e ∷ es) ≡ Ok v → AllSoundAlone (e ∷ es) gs
    → width_of v.expr.of ≤ 65536
stream-short k opening reversed n e es v gs h s =
    let w = all_bits (e ∷ es) in
    let a = by_itself k opening (vector w false) (F.Stream reversed n (e ∷ es)) in
    let made = ok-is a v (long-then k opening w (Ok a) v h) in
    let wide = width-vector w false (T.some-bits e es gs s) in
    subst (λ (x : Valued). width_of x.expr.of ≤ 65536) made (subst (λ m. m ≤ 65536) (sym wide) (short-no k opening w (Ok a) v h))

-- `inside`
abbrev pub meant : Alternative → O.Alternative
meant (Only v) = O.Alternative.Only (meaning v.expr)
meant (From low high) = O.Alternative.From (meaning low.expr) (meaning high.expr)

choice-is : (a : Alternative) → L.alternative (choice a) ≡ meant a
choice-is (Only v) = L.only v.expr
choice-is (From low high) = L.from-to low.expr high.expr

choices-are : (as' : List Alternative) → map L.alternative (map choice as') ≡ map meant as'
choices-are [] = refl
choices-are (a ∷ as') = ap (λ x. x ∷ map L.alternative (map choice as')) (choice-is a) ∙ ap (λ xs. meant a ∷ xs) (choices-are as')

beside-wide : (v u : Valued) → O.both_wide (meaning v.expr) (meaning u.expr) ≡ both_wide v u
beside-wide v u = sym (wide-both v u)

width-compared : (v : Valued) (as' : List Alternative) → most (map (O.inside_width (meaning v.expr)) (map meant as')) ≡ most (map (compared v) as')
width-compared v [] = refl
width-compared v (Only u ∷ as') = omega (arith, beside-wide v u, width-compared v as')
width-compared v (From low high ∷ as') = omega (arith, beside-wide v low, beside-wide v high, width-compared v as')

order-compared : (v : Valued) (as' : List Alternative) → most (map (O.inside_arithmetic (meaning v.expr)) (map meant as')) ≡ most (map (ordered v) as')
order-compared v [] = refl
order-compared v (Only u ∷ as') = omega (arith, order-compared v as')
order-compared v (From low high ∷ as') = omega (arith, beside-wide v low, beside-wide v high, order-compared v as')

side : (v u : Valued) (gs : List Function) → Sound u gs → too_wide (both_wide v u) u.arithmetic ≡ [] → LimitedAt (meaning u.expr) (O.both_wide (meaning v.expr) (meaning u.expr)) gs
side v u gs s h = compared-of u gs (both_wide v u) (O.both_wide (meaning v.expr) (meaning u.expr)) (wide-both v u) s h

all-fit : (v : Valued) (as' : List Alternative) (gs : List Function) → AllSoundIn as' gs → flat_map (wide_in v) as' ≡ [] → T.AllFit (meaning v.expr) gs (map meant as')
all-fit v [] gs s h = tt
all-fit v (Only u ∷ as') gs s h =
    let one = none-left (wide_in v (Only u)) (flat_map (wide_in v) as') h in
    (side v u gs s.0.0 (none-left (too_wide (both_wide v u) u.arithmetic) [] one), all-fit v as' gs s.1 (none-right (wide_in v (Only u)) (flat_map (wide_in v) as') h))
all-fit v (From low high ∷ as') gs s h =
    let one = none-left (wide_in v (From low high)) (flat_map (wide_in v) as') h in
    let below = too_wide (both_wide v low) low.arithmetic in
    let above = too_wide (both_wide v high) high.arithmetic in
    let upper = none-right below (above ++ []) one in
    ((side v low gs s.0.0 (none-left below (above ++ []) one), side v high gs s.0.1.0 (none-left above [] upper)), all-fit v as' gs s.1 (none-right (wide_in v (From low high)) (flat_map (wide_in v) as') h))

-- in the larger one of two contexts
allowed-max : (u w : ℕ) (xs : List ℕ) → too_wide u xs ≡ [] → too_wide w xs ≡ [] → too_wide (max u w) xs ≡ []
allowed-max u w [] h g = refl
allowed-max u w (x ∷ xs) h g = allowed (max u w) (x ∷ xs) (omega (arith, word u x xs h, word w x xs g))

pub inside-sound : (k : Source) (at : ℕ) (v u : Valued) (as' : List Alternative) (gs : List Function) → inside_of k at v as' ≡ Ok u → Sound v gs → AllSoundIn as' gs → Sound u gs
inside-sound k at v u as' gs h x s =
    let m = meaning v.expr in
    let first = too_wide (most (map (compared v) as')) v.arithmetic in
    let second = over at (most (map (ordered v) as')) in
    let third = flat_map (wide_in v) as' in
    let ops = first ++ (second ++ third) in
    let a = by_itself k v.begins one_bit (F.Inside v.expr (map choice as')) in
    unless-sound k ops a u gs
    (λ none.
    let behind = none-right first (second ++ third) none in
    let word_ : most (map (O.inside_arithmetic m) (map meant as')) ≤ 128 = omega (arith, order-compared v as', over-none at (most (map (ordered v) as')) (none-left second third behind)) in
    let width_ : max (width v) (most (map (compared v) as')) ≡ max (wide m) (most (map (O.inside_width m) (map meant as'))) = omega (arith, wide-is v.expr, width-compared v as') in
    made-alone k v.begins one_bit (F.Inside v.expr (map choice as')) gs _ (L.form-Inside v.expr (map choice as')) narrow-one_bit
    (subst (λ xs. Limited (O.inside (layout one_bit) v.begins m xs) [] gs) (sym (choices-are as'))
    (T.inside-limits (layout one_bit) v.begins m (map meant as') gs one_bit-of word_ (T.compared m (map meant as') gs (all-fit v as' gs s (none-right second third behind)))
    (at-width m v.arithmetic gs (max (wide m) (most (map (O.inside_width m) (map meant as')))) x.limits
    (subst (λ w. too_wide w v.arithmetic ≡ []) width_ (allowed-max (width v) (most (map (compared v) as')) v.arithmetic x.own (none-left first (second ++ third) none)))))))
    (refused-then (list_any (λ (w : Valued). is_unpacked w.expr.of) (v ∷ flat_map in_alternative as')) (position k at) 508 (unless (at_all k.instance 502 ops) a) u h)
