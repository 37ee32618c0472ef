-- Numbers, and whole signals and locals.
use Rattle.std.proofs.Common.{◌≡◌, ℕ, zero, suc, ◌+◌, ◌*◌, ◌<◌, ◌≤◌, max, Bool, true, false, ◌&&◌, cond, pos, List, [], ◌∷◌, ◌++◌, append-nil, append_assoc, length, replicate, Option, Some, None, inl, inr, refl, arith, ap, sym, ◌∙◌, subst}
use Rattle.std.specs.Prelude.{◌-◌, int_le, int_lt, slice_index_or, take, drop}
use Rattle.std.proofs.lemmas.Bool.Decides.{nat_tests}
use Rattle.b4_core.specs.declared.bit.Bit4.{Bit4}
use Rattle.b4_core.specs.declared.bit.Bit4.TheVariants.{X}
use Rattle.b4_core.specs.Vectors.{ext}
use Rattle.row_machine.specs.Valuation.{Valuation}
use Rattle.row_machine.specs.Places.{vector_at, bits_from}
use Rattle.picks.specs.Windows.{whole, picked, bit_at, seen, tabulated}
use Rattle.sv_types.specs.declared.types.Value.{Value}
use Rattle.sv_types.specs.declared.statement.Function.{Function}
use Rattle.sv_types.specs.declared.expression.Expr.{Expr}
use Rattle.sv_types.specs.declared.expression.Form.TheVariants as V
use Rattle.sv_types.specs.Values.{bits}
use Rattle.sv_types.specs.Layouts.{Layout, layout, stored, stored_bit, stacked}
use Rattle.sv_types.specs.Surroundings.{Around, local_number}
use Rattle.sv_types.specs.Meanings as M
use Rattle.sv_types.specs.Operators as O
use Rattle.sv_types.specs.Paths as P
use Rattle.sv_types.specs.Expressions.{meaning}
use Rattle.sv_types.proofs.Picks.{tabulated-same}
use Rattle.sv_types.proofs.Levels as L
use Rattle.sv_types.proofs.OperatorLengths.{length-ext}
use Rattle.v_tree.specs.Names.{Name}
use Rattle.v_tree.specs.declared.names.Helper.{Helper}
use Rattle.v_tree.specs.declared.names.NameMap.{NameMap}
use Rattle.v_tree.specs.declared.expressions.VExpr.{VExpr}
use Rattle.v_build.specs.Trees.{meanings}
use Rattle.v_meaning.specs.Scopes.{Scope, Named, named, all_bits}
use Rattle.v_meaning.specs.Values as T
use Rattle.eval_parts.proofs.Steps.{at-form, same-Literal}
use Rattle.eval_parts.proofs.Selecting.{same-Signal, same-Local}
use Rattle.lowering_laws.specs.Agreeing.{Images, IsInOrder, Agree}
use Rattle.lowering_laws.specs.Held.{marked}
use Rattle.lowering_laws.specs.NamedImages.{SameNames, AreImages}
use Rattle.lowering_laws.specs.Same.{Same, HasBits, AllHaveBits}
use Rattle.lowering_laws.proofs.Constants.{fill-same, number-same, signed-same}
use Rattle.lowering_laws.proofs.Contexts.{typed}
use Rattle.lowering_laws.proofs.Naming.{no-images}
use Rattle.lowering_laws.proofs.Extensions.{ext-larger}
use Rattle.lowering_laws.proofs.Paths.{no-window, no-width}
use Rattle.lowering_laws.proofs.Pieces.{literal-bits, pieces-bits}
use Rattle.expr_lower.specs.Leaves.{Each}
use Rattle.name_maps.specs.Named.{signal_name, local_name, OneSignal, OneLocal}
use Rattle.expr_lower.specs.Numbers.{IsNumber, ArePieces, signed_as, written_bits}
use Rattle.expr_lower.specs.Lowering.{IsShown, LeafStands, Lowers, Combines}
use Rattle.expr_lower.proofs.AskedLeaves.{leaves-Signal, leaves-Local}
use Rattle.expr_lower.proofs.Forms.{by-same, typed-as}

-- what has these bits, with a sign
pub signed-as-same : (e : M.Meaning) (c : List Bit4) (w : ℕ) (s : Bool) (a : Around) (m : T.Meaning) (sc : Scope) (v : Valuation) → HasBits m c sc v
    → M.wide e ≤ length c → length c ≤ max w (M.wide e) → ext w s c ≡ e.value w s a → (b : Bool) → b ≡ M.signed e → Same e w s a (signed_as b m) sc v
signed-as-same e c w s a m sc v has least most value true is = subst (λ k. Same e w s a (T.signing k m) sc v) (sym is) (signed-same e c w s a m sc v has least most value)
signed-as-same e c w s a m sc v has least most value false is = number-same e c w s a m sc v has least most value (sym is)

-- pieces
pub pieces-none : (c : List Bit4) → c ≡ [] → ArePieces [] c
pieces-none c is = record { pieces = []; all = sym is; have = λ sc v. tt; none = λ sc. refl }

have-next : (ms : List T.Meaning) (cs : List (List Bit4)) (c : List Bit4) (sc : Scope) (v : Valuation) → AllHaveBits ms cs sc v → AllHaveBits (ms ++ T.literal c ∷ []) (cs ++ c ∷ []) sc v
have-next [] [] c sc v h = (literal-bits c sc v, tt)
have-next [] (d ∷ cs) c sc v h = absurd h
have-next (m ∷ ms) [] c sc v h = absurd h
have-next (m ∷ ms) (d ∷ cs) c sc v h = (h.0, have-next ms cs c sc v h.1)

stacked-next : (cs : List (List Bit4)) (c : List Bit4) → stacked (cs ++ c ∷ []) ≡ c ++ stacked cs
stacked-next [] c = sym (append-nil c)
stacked-next (d ∷ cs) c = ap (λ x. x ++ d) (stacked-next cs c) ∙ append_assoc c (stacked cs) d

none-next : (ms : List T.Meaning) (c : List Bit4) (sc : Scope) → T.all_names ms sc ≡ [] → T.all_names (ms ++ T.literal c ∷ []) sc ≡ []
unfolding T.literal
none-next [] c sc h = refl
none-next (m ∷ ms) c sc h = by (m.names sc) (T.all_names ms sc) refl refl h (λ k. none-next ms c sc k)
  where
    by : (xs ys : List ℕ) → m.names sc ≡ xs → T.all_names ms sc ≡ ys → xs ++ ys ≡ [] → (T.all_names ms sc ≡ [] → T.all_names (ms ++ T.literal c ∷ []) sc ≡ [])
        → m.names sc ++ T.all_names (ms ++ T.literal c ∷ []) sc ≡ []
    by [] [] first rest e later = (λ i. first i ++ later rest i)
    by [] (y ∷ ys) first rest e later = absurd (cc)
    by (x ∷ xs) ys first rest e later = absurd (cc)

pub pieces-next : (ms : List T.Meaning) (c rest all : List Bit4) → ArePieces ms rest → c ++ rest ≡ all → ArePieces (ms ++ T.literal c ∷ []) all
pieces-next ms c rest all h is = record {
  pieces = h.pieces ++ c ∷ [];
  all = stacked-next h.pieces c ∙ ap (λ x. c ++ x) h.all ∙ is;
  have = λ sc v. have-next ms h.pieces c sc v (h.have sc v);
  none = λ sc. none-next ms c sc (h.none sc);
}

literal-none : (c : List Bit4) (sc : Scope) → (T.literal c).names sc ≡ []
unfolding T.literal
literal-none c sc = refl

pieces-named : (ms : List T.Meaning) (sc : Scope) → (T.concatenation ms).names sc ≡ T.all_names ms sc
unfolding T.concatenation
pieces-named ms sc = refl

pub number-short : (m : T.Meaning) (c : List Bit4) → m ≡ T.literal c → IsNumber m c
number-short m c is = record {
  has = λ sc v. subst (λ (k : T.Meaning). HasBits k c sc v) (sym is) (literal-bits c sc v);
  none = λ sc. ap (λ (k : T.Meaning). k.names sc) is ∙ literal-none c sc;
}

pub number-long : (m : T.Meaning) (ms : List T.Meaning) (c : List Bit4) → m ≡ T.concatenation ms → ArePieces ms c → IsNumber m c
number-long m ms c is h = record {
  has = λ sc v.
      subst (λ (k : T.Meaning). HasBits k c sc v) (sym is) (subst (λ x. HasBits (T.concatenation ms) x sc v) h.all (pieces-bits ms h.pieces sc v (h.have sc v)));
  none = λ sc. ap (λ (k : T.Meaning). k.names sc) is ∙ pieces-named ms sc ∙ h.none sc;
}

pub drop-end : {A : Type 0} (xs : List A) → drop (length xs) xs ≡ []
drop-end [] = refl
drop-end (x ∷ xs) = drop-end xs

drop-nil : {A : Type 0} (n : ℕ) → drop {A = A} n [] ≡ []
drop-nil zero = refl
drop-nil (suc n) = refl

take-nil : {A : Type 0} (n : ℕ) → take {A = A} n [] ++ [] ≡ []
take-nil zero = refl
take-nil (suc n) = refl

take-drop : {A : Type 0} (k : ℕ) (xs : List A) → take k xs ++ drop k xs ≡ xs
take-drop zero [] = refl
take-drop zero (x ∷ xs) = refl
take-drop (suc k) [] = refl
take-drop (suc k) (x ∷ xs) = ap (λ l. x ∷ l) (take-drop k xs)

-- the items from one place up to another, and those behind
pub drop-parts : {A : Type 0} (xs : List A) (i j : ℕ) → i ≤ j → take (j - i) (drop i xs) ++ drop j xs ≡ drop i xs
drop-parts [] i j h = (λ k. take (j - i) (drop-nil i k) ++ drop-nil j k) ∙ take-nil (j - i) ∙ sym (drop-nil i)
drop-parts (x ∷ xs) zero j h = (let e : j - zero ≡ j = omega arith in ap (λ k. take k (x ∷ xs) ++ drop j (x ∷ xs)) e ∙ take-drop j (x ∷ xs))
drop-parts (x ∷ xs) (suc i) zero h = absurd (omega arith)
drop-parts (x ∷ xs) (suc i) (suc j) h = (let e : suc j - suc i ≡ j - i = omega arith in ap (λ k. take k (drop i xs) ++ drop j xs) e ∙ drop-parts xs i j (omega arith))

pub meanings-next : (es : List VExpr) (e : VExpr) → meanings (es ++ e ∷ []) ≡ meanings es ++ T.meaning e ∷ []
meanings-next [] e = refl
meanings-next (x ∷ es) e = ap (λ l. T.meaning x ∷ l) (meanings-next es e)

-- the names of numbers
pub signed-names : (b : Bool) (m : T.Meaning) (sc : Scope) → (signed_as b m).names sc ≡ m.names sc
unfolding T.signing
signed-names true m sc = append-nil (m.names sc)
signed-names false m sc = refl

no-names : (image : ℕ → ℕ) (e : M.Meaning) (m : T.Meaning) (sc : Scope) → e.names ≡ [] → m.names sc ≡ [] → SameNames image e m sc
no-names image e m sc source target = subst (λ ns. AreImages image ns (m.names sc)) (sym source) (subst (AreImages image []) (sym target) (no-images image))

literal-names : (of : Layout) (at : ℕ) (goes_on : Bool) (c : List Bit4) → (O.literal of at goes_on c).names ≡ []
unfolding O.literal
literal-names of at goes_on c = refl

fill-names : (of : Layout) (at : ℕ) (x : Bit4) → (O.fill of at x).names ≡ []
unfolding O.fill
fill-names of at x = refl

constant-names : (of : Layout) (at : ℕ) (x : Value) → (O.constant of at x).names ≡ []
unfolding O.constant
constant-names of at x = refl

number-names : (image : ℕ → ℕ) (e f : M.Meaning) (n m : T.Meaning) (b : Bool) (c : List Bit4) (sc : Scope) → e ≡ f → f.names ≡ [] → IsNumber n c → m ≡ signed_as b n → SameNames image e m sc
number-names image e f n m b c sc level source number made =
    no-names image e m sc (ap (λ (k : M.Meaning). k.names) level ∙ source) (ap (λ (k : T.Meaning). k.names sc) made ∙ signed-names b n sc ∙ number.none sc)

-- signs and widths
literal-sign : (of : Layout) (at : ℕ) (goes_on : Bool) (c : List Bit4) → M.signed (O.literal of at goes_on c) ≡ of.signed
unfolding O.literal
literal-sign of at goes_on c = refl

literal-wide : (of : Layout) (at : ℕ) (goes_on : Bool) (c : List Bit4) → M.wide (O.literal of at goes_on c) ≡ length of.two_state
unfolding O.literal
literal-wide of at goes_on c = refl

constant-sign : (of : Layout) (at : ℕ) (x : Value) → M.signed (O.constant of at x) ≡ of.signed
unfolding O.constant
constant-sign of at x = refl

signal-sign : (of : Layout) (at n : ℕ) → M.signed (P.signal of at n) ≡ of.signed
unfolding P.signal
signal-sign of at n = refl

local-sign : (of : Layout) (at n : ℕ) → M.signed (P.local of at n) ≡ of.signed
unfolding P.local
local-sign of at n = refl

-- literals
literal-in : (of : Layout) (at : ℕ) (c : List Bit4) (w : ℕ) (s : Bool) (a : Around) (m : T.Meaning) (sc : Scope) (v : Valuation) → (O.literal of at false c).misfits ≡ 0 → HasBits m c sc v
    → (b : Bool) → b ≡ of.signed → Same (O.literal of at false c) w s a (signed_as b m) sc v
unfolding O.literal
literal-in of at c w s a m sc v fits has b is =
    let t = typed of (length c) of.signed _ fits in
    let width = t.width in
    signed-as-same (O.literal of at false c) c w s a m sc v has (omega arith) (omega arith) refl b is

going-on-in : (of : Layout) (at : ℕ) (c : List Bit4) (w : ℕ) (s : Bool) (a : Around) (m : T.Meaning) (sc : Scope) (v : Valuation) → (O.literal of at true c).misfits ≡ 0
    → HasBits m (ext (max w (length of.two_state)) true c) sc v → (b : Bool) → b ≡ of.signed → Same (O.literal of at true c) w s a (signed_as b m) sc v
unfolding O.literal
going-on-in of at c w s a m sc v fits has b is =
    let t = typed of (length c) of.signed _ fits in
    let width = t.width in
    let long = length-ext (max w (length c)) true c in
    let here = subst (λ k. HasBits m (ext (max w k) true c) sc v) width has in
    signed-as-same (O.literal of at true c) (ext (max w (length c)) true c) w s a m sc v here (omega arith) (omega arith) (ext-larger w s true c) b is

combines-Literal : (e : Expr) (c : List Bit4) (names : NameMap) (fs : List Function) (hs : List Helper) (w : ℕ) (s : Bool) (parts : List T.Meaning) (n m : T.Meaning) (b : Bool)
    → e.form ≡ V.Literal c false → IsNumber n c → m ≡ signed_as b n → b ≡ M.signed (meaning e) → Combines names fs hs e w s parts m
combines-Literal e c names fs hs w s parts n m b is number made sign =
    by-same names fs hs e w s parts m (λ a sc v fits h.
    let level = same-Literal e c false is in
    subst (λ (k : T.Meaning). Same (meaning e) w s a k sc v) (sym made)
    (subst (λ (k : M.Meaning). Same k w s a (signed_as b n) sc v) (sym level)
    (literal-in (layout e.of) e.spot.at c w s a n sc v (typed-as (meaning e) _ level fits.typed) (number.has sc v) b (sign ∙ (ap (λ (k : M.Meaning). M.signed k) level ∙ literal-sign (layout e.of) e.spot.at false c)))))
    (λ image sc h. number-names image (meaning e) (O.literal (layout e.of) e.spot.at false c) n m b c sc (same-Literal e c false is) (literal-names (layout e.of) e.spot.at false c) number made)

combines-going-on : (e : Expr) (c : List Bit4) (names : NameMap) (fs : List Function) (hs : List Helper) (w : ℕ) (s : Bool) (parts : List T.Meaning) (n m : T.Meaning) (b : Bool)
    → e.form ≡ V.Literal c true → IsNumber n (ext (max w (M.wide (meaning e))) true c) → m ≡ signed_as b n → b ≡ M.signed (meaning e) → Combines names fs hs e w s parts m
combines-going-on e c names fs hs w s parts n m b is number made sign =
    by-same names fs hs e w s parts m (λ a sc v fits h.
    let level = same-Literal e c true is in
    subst (λ (k : T.Meaning). Same (meaning e) w s a k sc v) (sym made)
    (subst (λ (k : M.Meaning). Same k w s a (signed_as b n) sc v) (sym level)
    (going-on-in (layout e.of) e.spot.at c w s a n sc v (typed-as (meaning e) _ level fits.typed) (subst (λ k. HasBits n (ext (max w k) true c) sc v) (ap (λ (k : M.Meaning). M.wide k) level ∙ literal-wide (layout e.of) e.spot.at true c) (number.has sc v)) b (sign ∙ (ap (λ (k : M.Meaning). M.signed k) level ∙ literal-sign (layout e.of) e.spot.at true c)))))
    (λ image sc h. number-names image (meaning e) (O.literal (layout e.of) e.spot.at true c) n m b _ sc (same-Literal e c true is) (literal-names (layout e.of) e.spot.at true c) number made)

pub combines-number : (e : Expr) (c : List Bit4) (goes_on : Bool) (names : NameMap) (fs : List Function) (hs : List Helper) (w : ℕ) (s : Bool) (parts : List T.Meaning) (n m : T.Meaning) (b : Bool)
    → e.form ≡ V.Literal c goes_on → IsNumber n (written_bits goes_on (max w (M.wide (meaning e))) c) → m ≡ signed_as b n → b ≡ M.signed (meaning e) → Combines names fs hs e w s parts m
combines-number e c true names fs hs w s parts n m b is number made sign = combines-going-on e c names fs hs w s parts n m b is number made sign
combines-number e c false names fs hs w s parts n m b is number made sign = combines-Literal e c names fs hs w s parts n m b is number made sign

-- '0 and the like
pub combines-Fill : (e : Expr) (x : Bit4) (names : NameMap) (fs : List Function) (hs : List Helper) (w : ℕ) (s : Bool) (parts : List T.Meaning) (m : T.Meaning)
    → e.form ≡ V.Fill x → IsNumber m (replicate w x) → Combines names fs hs e w s parts m
combines-Fill e x names fs hs w s parts m is number =
    by-same names fs hs e w s parts m (λ a sc v fits h.
    let level = at-form e (V.Fill x) _ is (L.form-Fill x) in
    let some = fits.some in
    subst (λ (k : M.Meaning). Same k w s a m sc v) (sym level)
    (fill-same (layout e.of) e.spot.at x w s a m sc v (typed-as (meaning e) _ level fits.typed) (omega arith) (number.has sc v)))
    (λ image sc h. number-names image (meaning e) (O.fill (layout e.of) e.spot.at x) m m false _ sc (at-form e (V.Fill x) _ is (L.form-Fill x)) (fill-names (layout e.of) e.spot.at x) number refl)

-- constants
constant-in : (of : Layout) (at : ℕ) (x : Value) (w : ℕ) (s : Bool) (a : Around) (m : T.Meaning) (sc : Scope) (v : Valuation) → (O.constant of at x).misfits ≡ 0 → HasBits m (bits x) sc v
    → (b : Bool) → b ≡ of.signed → Same (O.constant of at x) w s a (signed_as b m) sc v
unfolding O.constant
constant-in of at x w s a m sc v fits has b is =
    let t = typed of (length (bits x)) of.signed _ fits in
    let width = t.width in
    signed-as-same (O.constant of at x) (bits x) w s a m sc v has (omega arith) (omega arith) refl b is

pub combines-Constant : (e : Expr) (x : Value) (names : NameMap) (fs : List Function) (hs : List Helper) (w : ℕ) (s : Bool) (parts : List T.Meaning) (n m : T.Meaning) (b : Bool)
    → e.form ≡ V.Constant x → IsNumber n (bits x) → m ≡ signed_as b n → b ≡ M.signed (meaning e) → Combines names fs hs e w s parts m
combines-Constant e x names fs hs w s parts n m b is number made sign =
    by-same names fs hs e w s parts m (λ a sc v fits h.
    let level = at-form e (V.Constant x) _ is (L.form-Constant x) in
    subst (λ (k : T.Meaning). Same (meaning e) w s a k sc v) (sym made)
    (subst (λ (k : M.Meaning). Same k w s a (signed_as b n) sc v) (sym level)
    (constant-in (layout e.of) e.spot.at x w s a n sc v (typed-as (meaning e) _ level fits.typed) (number.has sc v) b (sign ∙ (ap (λ (k : M.Meaning). M.signed k) level ∙ constant-sign (layout e.of) e.spot.at x)))))
    (λ image sc h. number-names image (meaning e) (O.constant (layout e.of) e.spot.at x) n m b _ sc (at-form e (V.Constant x) _ is (L.form-Constant x)) (constant-names (layout e.of) e.spot.at x) number made)

-- whole signals and locals hold what their images do
image-bits : (im : Images) (now v : Valuation) (n k r : ℕ) → IsInOrder im n → Agree im now v → k + r ≤ im.width n → bits_from v (im.number n) k r ≡ bits_from now n k r
image-bits im now v n k zero order agree fits = refl
image-bits im now v n k (suc r) order agree fits =
    let one : v (record { signal = im.number n; bit = k }) ≡ now (record { signal = n; bit = k }) = ap (λ c. v (record { signal = im.number n; bit = c })) (sym (order k)) ∙ agree.same n k (omega arith) in
    let rest = image-bits im now v n (suc k) r order agree (omega arith) in
    λ i. one i ∷ rest i

stored-already : (im : Images) (now v : Valuation) (ms : List Bool) (n k : ℕ) → Agree im now v → k + length ms ≤ im.width n → ((j : ℕ) → im.two_state n (k + j) ≡ marked ms j)
    → stored ms (bits_from now n k (length ms)) ≡ bits_from now n k (length ms)
stored-already im now v [] n k agree fits marks = refl
stored-already im now v (m ∷ ms) n k agree fits marks =
    let here : im.two_state n k ≡ m = ap (im.two_state n) (omega arith) ∙ marks 0 in
    let one : stored_bit m (now (record { signal = n; bit = k })) ≡ now (record { signal = n; bit = k }) = ap (λ t. stored_bit t (now (record { signal = n; bit = k }))) (sym here) ∙ agree.stored n k (omega arith) in
    let rest = stored-already im now v ms n (suc k) agree (omega arith) (λ j. ap (im.two_state n) (omega arith) ∙ marks (suc j)) in
    λ i. one i ∷ rest i

pub length-from : (v : Valuation) (n k r : ℕ) → length (bits_from v n k r) ≡ r
length-from v n k zero = refl
length-from v n k (suc r) = ap suc (length-from v n (suc k) r)

seen-whole : (c : List Bit4) (w : ℕ) → length c ≡ w → seen c (whole w) w ≡ c
seen-whole c w long = tabulated-same w _ _ (λ j less. at j less) ∙ all c w long
  where
    at : (j : ℕ) → j < w → bit_at c (picked (whole w) j) ≡ slice_index_or c j X
    at j less =
        let same : j + 0 ≡ j = omega arith in
        let test : (int_le (pos 0) (pos (j + 0)) && int_lt (pos (j + 0)) (pos w)) ≡ true = (let few : j + 0 < w = omega arith in grind (arith, nat_tests)) in
        ap (λ b. bit_at c (cond b (Some (j + 0)) None)) test ∙ ap (λ k. slice_index_or c k X) same

    all : (x : List Bit4) (n : ℕ) → length x ≡ n → tabulated n (λ j. slice_index_or x j X) ≡ x
    all [] zero is = refl
    all [] (suc n) is = absurd (omega arith)
    all (b ∷ x) zero is = absurd (omega arith)
    all (b ∷ x) (suc n) is = ap (λ y. b ∷ y) (all x n (omega arith))

vector-bits : (n : Named) → n.words ≡ None → all_bits n ≡ n.width
vector-bits n is = ap (λ (ws : Option ℕ). elim ws [ None ↦ n.width | Some count ↦ count * n.width ]) is

name-bits : (name : Name) (c : List Bit4) (sc : Scope) (v : Valuation) → (named sc.names name).words ≡ None → vector_at v (named sc.names name).number (named sc.names name).width ≡ c
    → length c ≡ (named sc.names name).width → HasBits (T.reference name []) c sc v
unfolding T.reference
name-bits name c sc v vector holds long =
    let n = named sc.names name in
    let value : T.value_of n [] sc v ≡ c =
    ap (λ k. seen (vector_at v n.number k) (T.path_of n [] sc v).window (T.width_of n [])) (vector-bits n vector)
    ∙ (λ i. seen (holds i) (no-window n sc v vector i) (no-width n vector i)) ∙ seen-whole c n.width long in
    record { width = no-width n vector ∙ sym long; unsigned = refl; value = λ x s. ap (ext x s) value }

-- a name that is shown holds what is held under the number
pub shown-holds : (of : Layout) (n : ℕ) (name : Name) (im : Images) (sc : Scope) (now v : Valuation) → IsShown name im sc n of → Agree im now v
    → vector_at v (named sc.names name).number (length of.two_state) ≡ vector_at now n (length of.two_state)
shown-holds of n name im sc now v shown agree =
    let image = shown.image in
    (λ i. vector_at v (shown.number i) (length of.two_state)) ∙ image-bits im now v n 0 (length of.two_state) shown.in_order agree (omega arith)

root-same : (of : Layout) (at n w : ℕ) (s : Bool) (name : Name) (im : Images) (a : Around) (sc : Scope) (now v : Valuation) (b : Bool) → IsShown name im sc n of → Agree im now v → b ≡ of.signed
    → Same (M.selected of at (P.root_path n of)) w s (record a { now = now }) (signed_as b (T.reference name [])) sc v
root-same of at n w s name im a sc now v b shown agree is =
    let size = length of.two_state in
    let c = vector_at now n size in
    let long = length-from now n 0 size in
    let image = shown.image in
    let width = shown.width in
    let target : vector_at v (named sc.names name).number (named sc.names name).width ≡ c =
    ap (vector_at v (named sc.names name).number) shown.width ∙ shown-holds of n name im sc now v shown agree in
    let source : stored of.two_state (seen c (whole size) size) ≡ c = ap (stored of.two_state) (seen-whole c size long) ∙ stored-already im now v of.two_state n 0 agree (omega arith) (λ j. (let same : 0 + j ≡ j = omega arith in ap (im.two_state n) same ∙ shown.marks j)) in
    signed-as-same (M.selected of at (P.root_path n of)) c w s (record a { now = now }) (T.reference name []) sc v
    (name-bits name c sc v shown.vector target (omega arith)) (omega arith) (omega arith) (sym (ap (ext w s) source)) b is

signal-in : (of : Layout) (at n w : ℕ) (s : Bool) (name : Name) (im : Images) (a : Around) (sc : Scope) (now v : Valuation) (b : Bool) → IsShown name im sc n of → Agree im now v → b ≡ of.signed
    → Same (P.signal of at n) w s (record a { now = now }) (signed_as b (T.reference name [])) sc v
unfolding P.signal
signal-in of at n w s name im a sc now v b shown agree is = root-same of at n w s name im a sc now v b shown agree is

local-in : (of : Layout) (at n w : ℕ) (s : Bool) (name : Name) (im : Images) (a : Around) (sc : Scope) (now v : Valuation) (b : Bool) → IsShown name im sc (local_number n) of → Agree im now v → b ≡ of.signed
    → Same (P.local of at n) w s (record a { now = now }) (signed_as b (T.reference name [])) sc v
unfolding P.local
local-in of at n w s name im a sc now v b shown agree is = root-same of at (local_number n) w s name im a sc now v b shown agree is

signal-names : (of : Layout) (at n : ℕ) → (P.signal of at n).names ≡ record { number = n; of = of } ∷ []
unfolding P.signal
signal-names of at n = refl

local-names : (of : Layout) (at n : ℕ) → (P.local of at n).names ≡ record { number = local_number n; of = of } ∷ []
unfolding P.local
local-names of at n = refl

reference-names : (name : Name) (sc : Scope) → (T.reference name []).names sc ≡ (named sc.names name).number ∷ []
unfolding T.reference
reference-names name sc = refl

pub one-image : (image : ℕ → ℕ) (n q : ℕ) (of : Layout) → q ≡ image n → AreImages image (record { number = n; of = of } ∷ []) (q ∷ [])
one-image image n q of is = record {
  all = λ k h. elim h [ inl e ↦ inl (ap image e ∙ sym is) | inr none ↦ absurd none ];
  only = λ k h. (n, inl refl, elim h [ inl e ↦ e ∙ is | inr none ↦ absurd none ]);
}

root-names : (image : ℕ → ℕ) (e : M.Meaning) (n : ℕ) (of : Layout) (name : Name) (m : T.Meaning) (b : Bool) (sc : Scope) → e.names ≡ record { number = n; of = of } ∷ [] → (named sc.names name).number ≡ image n
    → m ≡ signed_as b (T.reference name []) → SameNames image e m sc
root-names image e n of name m b sc source number made =
    let target : m.names sc ≡ (named sc.names name).number ∷ [] = ap (λ (k : T.Meaning). k.names sc) made ∙ signed-names b (T.reference name []) sc ∙ reference-names name sc in
    subst (λ ns. AreImages image ns (m.names sc)) (sym source) (subst (AreImages image (record { number = n; of = of } ∷ [])) (sym target) (one-image image n (named sc.names name).number of number))

pub lowers-Signal : (e : Expr) (n : ℕ) (names : NameMap) (fs : List Function) (hs : List Helper) (w : ℕ) (s : Bool) (k m : T.Meaning) (b : Bool)
    → e.form ≡ V.Signal n → (OneSignal names.signals n → k ≡ T.reference (signal_name names.signals n) []) → m ≡ signed_as b k → b ≡ M.signed (meaning e) → Lowers names fs hs e w s m
lowers-Signal e n names fs hs w s k m b is name made sign im a sc all helps =
    let level = same-Signal e n is in
    let leaf = (subst (Each (LeafStands names fs im a sc)) (leaves-Signal e n is) all).0 in
    let shown = leaf.1 in
    let whole = made ∙ ap (signed_as b) (name leaf.0) in
    record {
      stands = λ now v agree.
          subst (λ (x : T.Meaning). Same (meaning e) w s (record a { now = now }) x sc v) (sym whole)
          (subst (λ (x : M.Meaning). Same x w s (record a { now = now }) (signed_as b (T.reference (signal_name names.signals n) [])) sc v) (sym level)
          (signal-in (layout e.of) e.spot.at n w s (signal_name names.signals n) im a sc now v b shown agree (sign ∙ (ap (λ (x : M.Meaning). M.signed x) level ∙ signal-sign (layout e.of) e.spot.at n))));
      names = root-names im.number (meaning e) n (layout e.of) (signal_name names.signals n) m b sc (ap (λ (x : M.Meaning). x.names) level ∙ signal-names (layout e.of) e.spot.at n) shown.number whole;
    }

pub lowers-Local : (e : Expr) (n : ℕ) (names : NameMap) (fs : List Function) (hs : List Helper) (w : ℕ) (s : Bool) (k m : T.Meaning) (b : Bool)
    → e.form ≡ V.Local n → (OneLocal names.locals n → k ≡ T.reference (local_name names.locals n) []) → m ≡ signed_as b k → b ≡ M.signed (meaning e) → Lowers names fs hs e w s m
lowers-Local e n names fs hs w s k m b is name made sign im a sc all helps =
    let level = same-Local e n is in
    let leaf = (subst (Each (LeafStands names fs im a sc)) (leaves-Local e n is) all).0 in
    let shown = leaf.1 in
    let whole = made ∙ ap (signed_as b) (name leaf.0) in
    record {
      stands = λ now v agree.
          subst (λ (x : T.Meaning). Same (meaning e) w s (record a { now = now }) x sc v) (sym whole)
          (subst (λ (x : M.Meaning). Same x w s (record a { now = now }) (signed_as b (T.reference (local_name names.locals n) [])) sc v) (sym level)
          (local-in (layout e.of) e.spot.at n w s (local_name names.locals n) im a sc now v b shown agree (sign ∙ (ap (λ (x : M.Meaning). M.signed x) level ∙ local-sign (layout e.of) e.spot.at n))));
      names = root-names im.number (meaning e) (local_number n) (layout e.of) (local_name names.locals n) m b sc (ap (λ (x : M.Meaning). x.names) level ∙ local-names (layout e.of) e.spot.at n) shown.number whole;
    }
