-- What is cast and what is assigned.
use Rattle.std.proofs.Common.{◌≡◌, ℕ, zero, suc, ◌+◌, ◌-◌, ◌*◌, ◌<◌, ◌≤◌, max, Bool, true, false, List, [], ◌∷◌, ◌++◌, append-nil, length, length-append, take, replicate, refl, arith, ap, sym, ◌∙◌, subst}
use Rattle.b4_core.specs.declared.bit.Bit4.{Bit4}
use Rattle.b4_core.specs.declared.bit.Bit4.TheVariants.{Zero}
use Rattle.b4_core.specs.Vectors.{ext}
use Rattle.row_machine.specs.Valuation.{Valuation}
use Rattle.sv_types.specs.declared.types.SvType.{SvType}
use Rattle.sv_types.specs.Layouts.{Layout, layout, width_of, stored}
use Rattle.sv_types.specs.Surroundings.{Around}
use Rattle.sv_types.specs.Meanings as S
use Rattle.sv_types.specs.Operators as O
use Rattle.sv_types.proofs.OperatorLengths.{length-ext}
use Rattle.sv_types.proofs.Stored.{length-stored}
use Rattle.v_tree.specs.Names.{Name}
use Rattle.v_tree.specs.Printing.{helper_text}
use Rattle.v_tree.specs.declared.names.Helper.{Helper}
use Rattle.v_meaning.specs.Scopes.{Scope}
use Rattle.v_meaning.specs.Values as T
use Rattle.lowering_laws.specs.Helpers.{Stores}
use Rattle.lowering_laws.specs.Same.{Same, SameAlone, HasBits}
use Rattle.lowering_laws.specs.Terms.{braced}
use Rattle.lowering_laws.proofs.Constants.{number-same, signed-same, bits-alone, length-fill}
use Rattle.lowering_laws.proofs.Contexts.{alone-width, alone-value}
use Rattle.lowering_laws.proofs.Extensions.{ext-at, ext-cut, ext-then-cut, take-whole}
use Rattle.lowering_laws.proofs.Pieces.{literal-bits, fill-bits}
use Rattle.path_flatten.specs.Helping.{EachHelps, Grows}
use Rattle.path_flatten.specs.Naming.{SameNumbers, NamesLike}
use Rattle.path_flatten.specs.Storing.{StoresBits, signed_as}
use Rattle.path_flatten.proofs.Helping.{helped, helps-before}
use Rattle.path_flatten.proofs.Naming.{same-by, same-then}
use Rattle.path_flatten.proofs.Stepping.{braced-has}
use Rattle.form_lower.specs.Calls.{Calls, NamesOf}
use Rattle.form_lower.specs.Assigned.{cutter, padded, Assigns, Keeps, Widens, Converts, Casts}

-- four-state bits are stored as they are
four-stored : (n : ℕ) (x : List Bit4) → length x ≡ n → stored (replicate n false) x ≡ x
four-stored zero [] h = refl
four-stored zero (b ∷ x) h = absurd (omega arith)
four-stored (suc n) [] h = absurd (omega arith)
four-stored (suc n) (b ∷ x) h = ap (λ y. b ∷ y) (four-stored n x (omega arith))

length-four : (n : ℕ) → length (replicate n false) ≡ n
length-four zero = refl
length-four (suc n) = ap suc (length-four n)

-- a call of the helper that gives what it is passed
call-bits : (n : ℕ) (helper : Name) (m : T.Meaning) (x : List Bit4) (sc : Scope) (v : Valuation) → Stores (replicate n false) (sc.callee helper) → T.given m n sc v ≡ x → length x ≡ n
    → HasBits (T.call helper (m ∷ [])) x sc v
unfolding T.call
call-bits n helper m x sc v helps given long =
    let f = sc.callee helper in
    record {
      width = helps.width ∙ length-four n ∙ sym long;
      unsigned = refl;
      value = λ w s.
          ap (λ is. ext w s (f.run v (T.arguments is (m ∷ []) sc v))) (helps.inputs ∙ ap (λ k. k ∷ []) (length-four n))
          ∙ ap (λ y. ext w s (f.run v (y ∷ []))) given
          ∙ ap (ext w s) (helps.run v x (long ∙ sym (length-four n)) ∙ four-stored n x long);
    }

pub cut-has : (n : ℕ) (m : T.Meaning) (hs : List Helper) (k : T.Meaning) → Calls (cutter n) (m ∷ []) hs k → (x : List Bit4) (sc : Scope) (v : Valuation) → 0 < n → EachHelps hs sc
    → T.given m n sc v ≡ x → length x ≡ n → HasBits k x sc v
cut-has n m hs k call x sc v some all given long =
    subst (λ (y : T.Meaning). HasBits y x sc v) (sym call.is) (call-bits n (helper_text (cutter n)) m x sc v (helped hs sc (cutter n) all (call.there (some, tt))) given long)

-- names
call-named : (name : Name) (ms : List T.Meaning) (sc : Scope) → (T.call name ms).names sc ≡ T.all_names ms sc
unfolding T.call
call-named name ms sc = refl

pub call-names : (h : Helper) (ms : List T.Meaning) (hs : List Helper) (r : T.Meaning) → Calls h ms hs r → NamesOf ms r
call-names h ms hs r call sc = same-by (T.all_names ms sc) (r.names sc) (sym (ap (λ (k : T.Meaning). k.names sc) call.is ∙ call-named (helper_text h) ms sc))

pub names-then : (ms : List T.Meaning) (k r : T.Meaning) → NamesOf ms k → NamesLike k r → NamesOf ms r
names-then ms k r h g sc = same-then (T.all_names ms sc) (k.names sc) (r.names sc) (h sc) (g sc)

-- no bits
none-has : (ms : List T.Meaning) (sc : Scope) (v : Valuation) → HasBits (T.repetition 0 ms) [] sc v
unfolding T.repetition
none-has ms sc v = record { width = (let none : 0 * T.joined_width ms sc ≡ 0 = omega arith in none); unsigned = refl; value = λ w s. refl }

none-named : (ms : List T.Meaning) (sc : Scope) → (T.repetition 0 ms).names sc ≡ T.all_names ms sc
unfolding T.repetition
none-named ms sc = refl

stored-none : (bs : List Bool) (x : List Bit4) → length bs ≡ 0 → [] ≡ stored bs x
stored-none [] x h = refl
stored-none (b ∷ bs) x h = absurd (omega arith)

pub assigns-none : (bs : List Bool) (m : T.Meaning) (hs : List Helper) (r : T.Meaning) → length bs ≡ 0 → r ≡ T.repetition 0 (m ∷ []) → Assigns bs m hs r
assigns-none bs m hs r none is = record {
  bits = λ x sc v all given long.
      subst (λ c. HasBits r c sc v) (stored-none bs x none) (subst (λ (k : T.Meaning). HasBits k [] sc v) (sym is) (none-has (m ∷ []) sc v));
  names = λ sc. same-by (T.all_names (m ∷ []) sc) (r.names sc) (sym (ap (λ (k : T.Meaning). k.names sc) is ∙ none-named (m ∷ []) sc));
}

pub assigns : (t : SvType) (m : T.Meaning) (old hs : List Helper) (k r : T.Meaning) → 0 < width_of t → Calls (cutter (width_of t)) (m ∷ []) old k → Grows old hs → StoresBits t k hs r → NamesLike k r
    → Assigns (layout t).two_state m hs r
assigns t m old hs k r some call grows stores like = record {
  bits = λ x sc v all given long. stores x sc v (cut-has (width_of t) m old k call x sc v some (helps-before old hs sc grows all) given long) long (omega arith) all;
  names = names-then (m ∷ []) k r (call-names (cutter (width_of t)) (m ∷ []) old k call) like;
}

-- what has the bits that an expression has alone stands for it with its sign
pub bits-stand : (e : S.Meaning) (w : ℕ) (s : Bool) (a : Around) (b : Bool) (m : T.Meaning) (c : List Bit4) (sc : Scope) (v : Valuation) → HasBits m c sc v → length c ≡ S.wide e
    → e.value w s a ≡ ext w s c → S.signed e ≡ b → Same e w s a (signed_as b m) sc v
bits-stand e w s a true m c sc v has long value sign =
    subst (λ b. Same e w s a (T.signing b m) sc v) sign (signed-same e c w s a m sc v has (omega arith) (omega arith) (sym value))
bits-stand e w s a false m c sc v has long value sign = number-same e c w s a m sc v has (omega arith) (omega arith) (sym value) sign

-- an operand with its own sign
signing-given : (n : ℕ) (e : S.Meaning) (a : Around) (m : T.Meaning) (sc : Scope) (v : Valuation)
    → SameAlone e a m sc v → length (S.alone e a) ≡ S.wide e → T.given (T.signing (S.signed e) m) n sc v ≡ ext n (S.signed e) (S.alone e a)
unfolding T.signing
signing-given n e a m sc v h long =
    ap (λ k. take n (ext (max n k) (S.signed e) (T.alone m sc v))) (alone-width e a m sc v h)
    ∙ ap (λ x. take n (ext (max n (S.wide e)) (S.signed e) x)) (alone-value e a m sc v h)
    ∙ ext-then-cut n (S.wide e) (S.signed e) (S.alone e a) long

signing-named : (s : Bool) (m : T.Meaning) (sc : Scope) → (T.signing s m).names sc ≡ T.all_names (m ∷ []) sc
unfolding T.signing
signing-named s m sc = refl

signed-named : (b : Bool) (m : T.Meaning) (sc : Scope) → (signed_as b m).names sc ≡ m.names sc
unfolding T.signing
signed-named true m sc = append-nil (m.names sc)
signed-named false m sc = refl

pub like-signed : (b : Bool) (m r : T.Meaning) → r ≡ signed_as b m → NamesLike m r
like-signed b m r is sc = same-by (m.names sc) (r.names sc) (sym (ap (λ (k : T.Meaning). k.names sc) is ∙ signed-named b m sc))

cast-by : (of : Layout) (at w : ℕ) (s : Bool) (e : S.Meaning) (a : Around) (m : T.Meaning) (sc : Scope) (v : Valuation)
    → HasBits m (stored of.two_state (ext (length of.two_state) (S.signed e) (S.alone e a))) sc v → Same (O.cast of at e) w s a (signed_as of.signed m) sc v
unfolding O.cast
cast-by of at w s e a m sc v has =
    let c = stored of.two_state (ext (length of.two_state) (S.signed e) (S.alone e a)) in
    bits-stand (O.cast of at e) w s a of.signed m c sc v has (length-stored of.two_state _ (length-ext (length of.two_state) (S.signed e) (S.alone e a))) refl refl

-- a signed operand that is extended to a place
pub converts-signed : (e : S.Meaning) (t : SvType) (m : T.Meaning) (hs : List Helper) (n k : T.Meaning) → S.signed e ≡ true → n ≡ T.signing true m → Assigns (layout t).two_state n hs k → Converts e (layout t).two_state m hs k
converts-signed e t m hs n k signed is assigned =
    let alone : n ≡ T.signing (S.signed e) m = is ∙ ap (λ b. T.signing b m) (sym signed) in
    record {
      bits = λ a sc v all long h.
          assigned.bits (ext (width_of t) (S.signed e) (S.alone e a)) sc v all (ap (λ (y : T.Meaning). T.given y (width_of t) sc v) alone ∙ signing-given (width_of t) e a m sc v h long)
          (length-ext (width_of t) (S.signed e) (S.alone e a));
      names = λ sc.
          subst (λ l. SameNumbers l (k.names sc)) (ap (λ (y : T.Meaning). y.names sc ++ []) alone ∙ ap (λ l. l ++ []) (signing-named (S.signed e) m sc) ∙ append-nil (m.names sc ++ [])) (assigned.names sc);
    }

-- one that is cut: no context is wider than it is
cut-given : (n : ℕ) (e : S.Meaning) (a : Around) (m : T.Meaning) (sc : Scope) (v : Valuation) → n ≤ S.wide e → SameAlone e a m sc v → length (S.alone e a) ≡ S.wide e
    → T.given m n sc v ≡ ext n (S.signed e) (S.alone e a)
cut-given n e a m sc v few h long =
    let wide = alone-width e a m sc v h in
    let larger : max n (m.width sc) ≡ m.width sc = omega arith in
    ap (λ k. take n (m.value k m.signed sc v)) larger ∙ ap (take n) (alone-value e a m sc v h) ∙ sym (ext-cut n (S.signed e) (S.alone e a) (omega arith))

pub converts-cut : (e : S.Meaning) (t : SvType) (m : T.Meaning) (hs : List Helper) (k : T.Meaning) → width_of t ≤ S.wide e → Assigns (layout t).two_state m hs k → Converts e (layout t).two_state m hs k
converts-cut e t m hs k few assigned = record {
  bits = λ a sc v all long h.
      assigned.bits (ext (width_of t) (S.signed e) (S.alone e a)) sc v all (cut-given (width_of t) e a m sc v few h long) (length-ext (width_of t) (S.signed e) (S.alone e a));
  names = assigned.names;
}

-- one of as many bits, in braces
braced-named : (m : T.Meaning) (sc : Scope) → (braced m).names sc ≡ T.all_names (m ∷ []) sc
unfolding T.concatenation
braced-named m sc = refl

pub keeps : (t : SvType) (m : T.Meaning) (hs : List Helper) (b k : T.Meaning) → b ≡ braced m → StoresBits t b hs k → NamesLike b k → Keeps t m hs k
keeps t m hs b k is stores like = record {
  bits = λ c sc v all width alone long some. stores c sc v (subst (λ (y : T.Meaning). HasBits y c sc v) (sym is) (braced-has m c sc v width alone)) long some all;
  names = names-then (m ∷ []) b k (λ sc. same-by (T.all_names (m ∷ []) sc) (b.names sc) (sym (ap (λ (y : T.Meaning). y.names sc) is ∙ braced-named m sc))) like;
}

pub converts-kept : (e : S.Meaning) (t : SvType) (m : T.Meaning) (hs : List Helper) (k : T.Meaning) → 1 ≤ width_of t → S.wide e ≡ width_of t → Keeps t m hs k → Converts e (layout t).two_state m hs k
converts-kept e t m hs k some wide kept = record {
  bits = λ a sc v all long h.
      subst (λ c. HasBits k (stored (layout t).two_state c) sc v) (sym (ext-at (width_of t) (S.signed e) (S.alone e a) (long ∙ wide)))
      (kept.bits (S.alone e a) sc v all (alone-width e a m sc v h ∙ sym long) (alone-value e a m sc v h) (long ∙ wide) some);
  names = kept.names;
}

-- one of fewer bits, with zeros on top
padded-has : (n : ℕ) (m : T.Meaning) (c : List Bit4) (sc : Scope) (v : Valuation) → m.width sc ≡ length c → T.alone m sc v ≡ c → HasBits (padded n m) (c ++ replicate n Zero) sc v
unfolding T.concatenation
padded-has n m c sc v width alone =
    let zeros = fill-bits n Zero (T.literal (Zero ∷ [])) sc v (literal-bits (Zero ∷ []) sc v) in
    let size = zeros.width in
    let long = length-append c (replicate n Zero) in
    record {
      width = omega arith;
      unsigned = refl;
      value = λ w s. λ i. ext w s (alone i ++ bits-alone (T.repetition n (T.literal (Zero ∷ []) ∷ [])) (replicate n Zero) sc v zeros i);
    }

padded-named : (n : ℕ) (m : T.Meaning) (sc : Scope) → (padded n m).names sc ≡ T.all_names (m ∷ []) sc
unfolding T.concatenation T.repetition T.literal
padded-named n m sc = refl

with-zeros : (n k : ℕ) (c : List Bit4) → length c + n ≡ k → c ++ replicate n Zero ≡ ext k false c
with-zeros n k c long =
    let more : n ≡ k - length c = omega arith in
    λ i. sym (take-whole k c (omega arith)) i ++ replicate (more i) Zero

pub widens : (n : ℕ) (t : SvType) (m : T.Meaning) (hs : List Helper) (b k : T.Meaning) → b ≡ padded n m → StoresBits t b hs k → NamesLike b k → Widens n t m hs k
widens n t m hs b k is stores like = record {
  bits = λ c sc v all width alone long some.
      let size = length-append c (replicate n Zero) in
      let zeros = length-fill n Zero in
      subst (λ x. HasBits k (stored (layout t).two_state x) sc v) (with-zeros n (width_of t) c long)
      (stores (c ++ replicate n Zero) sc v (subst (λ (y : T.Meaning). HasBits y (c ++ replicate n Zero) sc v) (sym is) (padded-has n m c sc v width alone)) (omega arith) some all);
  names = names-then (m ∷ []) b k (λ sc. same-by (T.all_names (m ∷ []) sc) (b.names sc) (sym (ap (λ (y : T.Meaning). y.names sc) is ∙ padded-named n m sc))) like;
}

pub converts-widened : (e : S.Meaning) (t : SvType) (m : T.Meaning) (hs : List Helper) (n : ℕ) (k : T.Meaning) → 1 ≤ width_of t → S.signed e ≡ false → S.wide e + n ≡ width_of t → Widens n t m hs k
    → Converts e (layout t).two_state m hs k
converts-widened e t m hs n k some unsigned wide widened = record {
  bits = λ a sc v all long h.
      subst (λ s. HasBits k (stored (layout t).two_state (ext (width_of t) s (S.alone e a))) sc v) (sym unsigned)
      (widened.bits (S.alone e a) sc v all (alone-width e a m sc v h ∙ sym long) (alone-value e a m sc v h) (omega arith) some);
  names = widened.names;
}

pub casts : (e : S.Meaning) (t : SvType) (m : T.Meaning) (hs : List Helper) (b : Bool) (k r : T.Meaning) → Converts e (layout t).two_state m hs k → b ≡ (layout t).signed → r ≡ signed_as b k → Casts e t m hs r
casts e t m hs b k r converts sign is = record {
  same = λ at w s a sc v all long h.
      subst (λ (y : T.Meaning). Same (O.cast (layout t) at e) w s a y sc v) (sym (is ∙ ap (λ c. signed_as c k) sign)) (cast-by (layout t) at w s e a k sc v (converts.bits a sc v all long h));
  names = λ sc. same-then (T.all_names (m ∷ []) sc) (k.names sc) (r.names sc) (converts.names sc) (like-signed b k r is sc);
}
