-- `==?` by a helper.
use Rattle.std.proofs.Common.{◌≡◌, ℕ, ◌<◌, ◌≤◌, max, Bool, true, false, ◌&&◌, cond, List, [], ◌∷◌, ◌++◌, append-nil, length, take, refl, arith, ap, sym, ◌∙◌, subst}
use Rattle.b4_core.specs.declared.bit.Bit4.{Bit4}
use Rattle.b4_core.specs.declared.operators.EqOp.TheVariants.{Wild}
use Rattle.b4_core.specs.Bits.{not4}
use Rattle.b4_core.specs.Vectors.{ext}
use Rattle.row_machine.specs.Valuation.{Valuation}
use Rattle.sv_types.specs.Layouts.{Layout}
use Rattle.sv_types.specs.Surroundings.{Around}
use Rattle.sv_types.specs.Meanings as S
use Rattle.sv_types.specs.Operators as O
use Rattle.sv_types.specs.Operators.{both_wide, both_signed}
use Rattle.v_tree.specs.Names.{Name}
use Rattle.v_tree.specs.Printing.{helper_text}
use Rattle.v_tree.specs.declared.names.Helper.{Helper}
use Rattle.v_meaning.specs.Scopes.{Scope}
use Rattle.v_meaning.specs.Values as T
use Rattle.lowering_laws.specs.Same.{Same, HasBits}
use Rattle.lowering_laws.proofs.Contexts.{typed-four}
use Rattle.lowering_laws.proofs.Extensions.{take-whole}
use Rattle.lowering_laws.proofs.Inside.{IsBit, bit-truth, wild-bit}
use Rattle.path_flatten.specs.Helping.{EachHelps}
use Rattle.path_flatten.specs.Naming.{SameNumbers}
use Rattle.path_flatten.proofs.Helping.{helped}
use Rattle.path_flatten.proofs.Naming.{same-by}
use Rattle.form_lower.specs.Calls.{Calls, NamesOf, IsLong}
use Rattle.form_lower.specs.Wilds.{unsigned, at_sign, matcher, AreCompared, GivesBit, IsMatch, WildEquals}

pub bit-gives : (m : T.Meaning) (b : Bit4) (sc : Scope) (v : Valuation) → IsBit m b sc v → GivesBit m b sc v
bit-gives m b sc v h = record { has = record { width = h.width; unsigned = h.unsigned; value = h.value }; steady = h.steady }

pub gives-bit : (m : T.Meaning) (b : Bit4) (sc : Scope) (v : Valuation) → GivesBit m b sc v → IsBit m b sc v
gives-bit m b sc v h = record { width = h.has.width; unsigned = h.has.unsigned; value = h.has.value; steady = h.steady }

-- what is given to an input of the width at which both are compared
plain-given : (w : ℕ) (s : Bool) (e : S.Meaning) (a : Around) (m : T.Meaning) (sc : Scope) (v : Valuation) → Same e w s a m sc v → S.signed e ≡ s → S.wide e ≤ w → length (e.value w s a) ≡ w
    → T.given m w sc v ≡ e.value w s a
plain-given w s e a m sc v h sign few long =
    let most = h.most in
    let width : max w (m.width sc) ≡ w = omega arith in
    (λ i. take w (m.value (width i) ((h.sign ∙ sign) i) sc v)) ∙ ap (take w) h.value ∙ take-whole w (e.value w s a) (omega arith)

and-false : (b : Bool) → (b && false) ≡ false
and-false true = refl
and-false false = refl

unsigned-given : (w : ℕ) (e : S.Meaning) (a : Around) (m : T.Meaning) (sc : Scope) (v : Valuation) → Same e w false a m sc v → S.wide e ≤ w → 0 < w → length (e.value w false a) ≡ w
    → T.given (unsigned m) w sc v ≡ e.value w false a
unfolding T.choose T.literal
unsigned-given w e a m sc v h few some long =
    let most = h.most in
    let width : max w (max (m.width sc) 1) ≡ w = omega arith in
    (λ i. take w (m.value (width i) (and-false m.signed i) sc v)) ∙ ap (take w) h.value ∙ take-whole w (e.value w false a) (omega arith)

pub sign-given : (own of_both : Bool) (w : ℕ) (e : S.Meaning) (a : Around) (m : T.Meaning) (sc : Scope) (v : Valuation) → Same e w of_both a m sc v → S.signed e ≡ own → (own ≡ false → of_both ≡ false)
    → S.wide e ≤ w → 0 < w → length (e.value w of_both a) ≡ w → T.given (at_sign own of_both m) w sc v ≡ e.value w of_both a
sign-given true true w e a m sc v h sign none few some long = plain-given w true e a m sc v h sign few long
sign-given true false w e a m sc v h sign none few some long = unsigned-given w e a m sc v h few some long
sign-given false of_both w e a m sc v h sign none few some long = plain-given w of_both e a m sc v h (sign ∙ sym (none refl)) few long

-- a sign that both have is that of each
left-plain : (b c : Bool) → b ≡ false → (b && c) ≡ false
left-plain b c h = ap (λ d. d && c) h

right-plain : (b c : Bool) → c ≡ false → (b && c) ≡ false
right-plain b c h = ap (λ d. b && d) h ∙ and-false b

match-bit : (e f : S.Meaning) (m n : T.Meaning) (hs : List Helper) (r : T.Meaning) → Calls (matcher (both_wide e f)) (at_sign (S.signed e) (both_signed e f) m ∷ at_sign (S.signed f) (both_signed e f) n ∷ []) hs r
    → (a : Around) (sc : Scope) (v : Valuation) → EachHelps hs sc → IsLong e → IsLong f → 0 < both_wide e f → AreCompared e f m n a sc v → GivesBit r (O.equals Wild e f a) sc v
match-bit e f m n hs r call a sc v helps e_long f_long some h =
    let w = both_wide e f in
    let s = both_signed e f in
    let h_left = helped hs sc (matcher w) helps (call.there (some, tt)) in
    subst (λ (k : T.Meaning). GivesBit k (O.equals Wild e f a) sc v) (sym call.is)
    (bit-gives (T.call (helper_text (matcher w)) (at_sign (S.signed e) s m ∷ at_sign (S.signed f) s n ∷ [])) (O.equals Wild e f a) sc v
    (wild-bit (helper_text (matcher w)) (at_sign (S.signed e) s m) (at_sign (S.signed f) s n) w (e.value w s a) (f.value w s a) sc v h_left (e_long w s a) (f_long w s a)
    (sign-given (S.signed e) s w e a m sc v h.left refl (λ p. left-plain (S.signed e) (S.signed f) p) (omega arith) some (e_long w s a))
    (sign-given (S.signed f) s w f a n sc v h.right refl (λ p. right-plain (S.signed e) (S.signed f) p) (omega arith) some (f_long w s a))))

-- names
call-named : (name : Name) (ms : List T.Meaning) (sc : Scope) → (T.call name ms).names sc ≡ T.all_names ms sc
unfolding T.call
call-named name ms sc = refl

unsigned-named : (m : T.Meaning) (sc : Scope) → (unsigned m).names sc ≡ m.names sc
unfolding T.choose T.literal
unsigned-named m sc = append-nil (m.names sc)

sign-named : (own of_both : Bool) (m : T.Meaning) (sc : Scope) → (at_sign own of_both m).names sc ≡ m.names sc
sign-named true true m sc = refl
sign-named true false m sc = unsigned-named m sc
sign-named false of_both m sc = refl

match-names : (h : Helper) (b c s : Bool) (m n : T.Meaning) (hs : List Helper) (r : T.Meaning) → Calls h (at_sign b s m ∷ at_sign c s n ∷ []) hs r → NamesOf (m ∷ n ∷ []) r
match-names h b c s m n hs r call sc =
    same-by (T.all_names (m ∷ n ∷ []) sc) (r.names sc)
    (sym (ap (λ (k : T.Meaning). k.names sc) call.is ∙ call-named (helper_text h) (at_sign b s m ∷ at_sign c s n ∷ []) sc ∙ (λ i. sign-named b s m sc i ++ (sign-named c s n sc i ++ []))))

pub is-match : (e f : S.Meaning) (m n : T.Meaning) (hs : List Helper) (r : T.Meaning) → Calls (matcher (both_wide e f)) (at_sign (S.signed e) (both_signed e f) m ∷ at_sign (S.signed f) (both_signed e f) n ∷ []) hs r
    → IsMatch e f m n hs r
is-match e f m n hs r call = record {
  bit = match-bit e f m n hs r call;
  names = match-names (matcher (both_wide e f)) (S.signed e) (S.signed f) (both_signed e f) m n hs r call;
}

-- by what was computed
pub match-of : (e f : S.Meaning) (m n : T.Meaning) (b c s : Bool) (w : ℕ) (l k : T.Meaning) (hs : List Helper) (r : T.Meaning) → w ≡ both_wide e f → b ≡ S.signed e → c ≡ S.signed f → s ≡ both_signed e f
    → l ≡ at_sign b s m → k ≡ at_sign c s n → Calls (matcher w) (l ∷ k ∷ []) hs r → IsMatch e f m n hs r
match-of e f m n b c s w l k hs r wide left right of_both l_is k_is call =
    let first : l ≡ at_sign (S.signed e) (both_signed e f) m = l_is ∙ (λ i. at_sign (left i) (of_both i) m) in
    let second : k ≡ at_sign (S.signed f) (both_signed e f) n = k_is ∙ (λ i. at_sign (right i) (of_both i) n) in
    is-match e f m n hs r
    (subst (λ (x : ℕ). Calls (matcher x) (at_sign (S.signed e) (both_signed e f) m ∷ at_sign (S.signed f) (both_signed e f) n ∷ []) hs r) wide
    (subst (λ (x : T.Meaning). Calls (matcher w) (at_sign (S.signed e) (both_signed e f) m ∷ x ∷ []) hs r) second (subst (λ (x : T.Meaning). Calls (matcher w) (x ∷ k ∷ []) hs r) first call)))

-- the comparison itself
equal-by : (of : Layout) (at w : ℕ) (s negated : Bool) (e f : S.Meaning) (a : Around) (r : T.Meaning) (sc : Scope) (v : Valuation) → (O.equal of at Wild negated e f).misfits ≡ 0
    → HasBits r (cond negated (not4 (O.equals Wild e f a)) (O.equals Wild e f a) ∷ []) sc v → Same (O.equal of at Wild negated e f) w s a r sc v
unfolding O.equal
equal-by of at w s negated e f a r sc v fits has =
    let t = typed-four of 1 false _ _ fits in
    let wide = t.width in
    let width = has.width in
    record { least = omega arith; most = omega arith; sign = has.unsigned ∙ sym t.sign; value = has.value w s }

has-not : (k : T.Meaning) (b : Bit4) (sc : Scope) (v : Valuation) → GivesBit k b sc v → HasBits (T.negate k) (not4 b ∷ []) sc v
unfolding T.negate
has-not k b sc v h = record { width = refl; unsigned = refl; value = λ w s. ap (λ x. ext w s (not4 x ∷ [])) (bit-truth k b sc v (gives-bit k b sc v h)) }

not-named : (k : T.Meaning) (sc : Scope) → (T.negate k).names sc ≡ k.names sc
unfolding T.negate
not-named k sc = append-nil (k.names sc)

pub equals : (e f : S.Meaning) (m n : T.Meaning) (hs : List Helper) (k r : T.Meaning) → IsMatch e f m n hs k → r ≡ k → WildEquals false e f m n hs r
equals e f m n hs k r h is = record {
  same = λ of at w s a sc v helps e_long f_long some fits both.
      equal-by of at w s false e f a r sc v fits
      (subst (λ (x : T.Meaning). HasBits x (O.equals Wild e f a ∷ []) sc v) (sym is) (h.bit a sc v helps e_long f_long some both).has);
  names = subst (NamesOf (m ∷ n ∷ [])) (sym is) h.names;
}

pub unequals : (e f : S.Meaning) (m n : T.Meaning) (hs : List Helper) (k r : T.Meaning) → IsMatch e f m n hs k → r ≡ T.negate k → WildEquals true e f m n hs r
unequals e f m n hs k r h is = record {
  same = λ of at w s a sc v helps e_long f_long some fits both.
      equal-by of at w s true e f a r sc v fits
      (subst (λ (x : T.Meaning). HasBits x (not4 (O.equals Wild e f a) ∷ []) sc v) (sym is) (has-not k (O.equals Wild e f a) sc v (h.bit a sc v helps e_long f_long some both)));
  names = λ sc. subst (SameNumbers (T.all_names (m ∷ n ∷ []) sc)) (sym (ap (λ (x : T.Meaning). x.names sc) is ∙ not-named k sc)) (h.names sc);
}
