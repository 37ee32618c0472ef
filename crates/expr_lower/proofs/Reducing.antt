-- The reduction with or of one-bit expressions side by side is the or of their bits.
use Rattle.std.proofs.Common.{◌≡◌, ℕ, Bool, false, List, [], ◌∷◌, ◌++◌, append-nil, length, length-append, map, fold, refl, arith, ap, sym, ◌∙◌}
use Rattle.b4_core.specs.declared.bit.Bit4.{Bit4}
use Rattle.b4_core.specs.declared.bit.Bit4.TheVariants.{Zero, One, X, Z}
use Rattle.b4_core.specs.declared.operators.RedOp.TheVariants.{Or}
use Rattle.b4_core.specs.Bits.{or4}
use Rattle.b4_core.specs.Bitwise.{any4}
use Rattle.b4_core.specs.Vectors.{ext}
use Rattle.row_machine.specs.Valuation.{Valuation}
use Rattle.sv_types.specs.Layouts.{Layout}
use Rattle.sv_types.specs.Surroundings.{Around}
use Rattle.sv_types.specs.Meanings as M
use Rattle.sv_types.specs.Operators as O
use Rattle.sv_types.specs.Operators.{Alternative, is_inside}
use Rattle.v_meaning.specs.Scopes.{Scope}
use Rattle.v_meaning.specs.Values as T
use Rattle.lowering_laws.specs.Same.{Same}
use Rattle.lowering_laws.proofs.Constants.{bits-alone}
use Rattle.lowering_laws.proofs.Contexts.{typed-four}
use Rattle.lowering_laws.proofs.Extensions.{ext-at}
use Rattle.form_lower.specs.Wilds.{GivesBit}
use Rattle.expr_lower.specs.Insides.{AllGiveBits, any_of}

-- the or of bits, in any order
or-beside-x : (q r : Bit4) → or4 (or4 X q) r ≡ or4 X (or4 r q)
or-beside-x One One = refl
or-beside-x One Zero = refl
or-beside-x One X = refl
or-beside-x One Z = refl
or-beside-x Zero One = refl
or-beside-x Zero Zero = refl
or-beside-x Zero X = refl
or-beside-x Zero Z = refl
or-beside-x X One = refl
or-beside-x X Zero = refl
or-beside-x X X = refl
or-beside-x X Z = refl
or-beside-x Z One = refl
or-beside-x Z Zero = refl
or-beside-x Z X = refl
or-beside-x Z Z = refl

or-beside-zero : (q r : Bit4) → or4 (or4 Zero q) r ≡ or4 Zero (or4 r q)
or-beside-zero One One = refl
or-beside-zero One Zero = refl
or-beside-zero One X = refl
or-beside-zero One Z = refl
or-beside-zero Zero One = refl
or-beside-zero Zero Zero = refl
or-beside-zero Zero X = refl
or-beside-zero Zero Z = refl
or-beside-zero X One = refl
or-beside-zero X Zero = refl
or-beside-zero X X = refl
or-beside-zero X Z = refl
or-beside-zero Z One = refl
or-beside-zero Z Zero = refl
or-beside-zero Z X = refl
or-beside-zero Z Z = refl

-- z is as x
or-lost : (b : Bit4) → or4 Z b ≡ or4 X b
or-lost Zero = refl
or-lost One = refl
or-lost X = refl
or-lost Z = refl

or-turned : (p q r : Bit4) → or4 (or4 p q) r ≡ or4 p (or4 r q)
or-turned One q r = refl
or-turned Zero q r = or-beside-zero q r
or-turned X q r = or-beside-x q r
or-turned Z q r = ap (λ b. or4 b r) (or-lost q) ∙ or-beside-x q r ∙ sym (or-lost (or4 r q))

or-zero : (b : Bit4) → or4 b Zero ≡ or4 Zero b
or-zero Zero = refl
or-zero One = refl
or-zero X = refl
or-zero Z = refl

or-again : (p q : Bit4) → or4 Zero (or4 p q) ≡ or4 (or4 Zero p) q
or-again One q = refl
or-again Zero Zero = refl
or-again Zero One = refl
or-again Zero X = refl
or-again Zero Z = refl
or-again X Zero = refl
or-again X One = refl
or-again X X = refl
or-again X Z = refl
or-again Z Zero = refl
or-again Z One = refl
or-again Z X = refl
or-again Z Z = refl

any-steady : (b : Bit4) (bs : List Bit4) → or4 Zero b ≡ b → or4 Zero (fold or4 b bs) ≡ fold or4 b bs
any-steady b [] h = h
any-steady b (c ∷ bs) h = any-steady (or4 b c) bs (or-again b c ∙ ap (λ d. or4 d c) h)

fold-last : (a b : Bit4) (bs : List Bit4) → fold or4 a (bs ++ b ∷ []) ≡ or4 (fold or4 a bs) b
fold-last a b [] = refl
fold-last a b (c ∷ bs) = fold-last (or4 a c) b bs

-- expressions of one bit side by side
joined-from : (ms : List T.Meaning) (bs : List Bit4) (a : Bit4) (sc : Scope) (v : Valuation) → AllGiveBits ms bs sc v → or4 (any4 (T.joined ms sc v)) a ≡ fold or4 (or4 Zero a) bs
joined-from [] [] a sc v h = refl
joined-from [] (b ∷ bs) a sc v h = absurd h
joined-from (m ∷ ms) [] a sc v h = absurd h
joined-from (m ∷ ms) (b ∷ bs) a sc v h =
    let t = any4 (T.joined ms sc v) in
    ap (λ l. or4 (any4 (T.joined ms sc v ++ l)) a) (bits-alone m (b ∷ []) sc v (h.0).has) ∙ ap (λ c. or4 c a) (fold-last Zero b (T.joined ms sc v)) ∙ or-turned t b a ∙ joined-from ms bs (or4 a b) sc v h.1
    ∙ ap (λ c. fold or4 c bs) (or-again a b)

joined-any : (ms : List T.Meaning) (bs : List Bit4) (sc : Scope) (v : Valuation) → AllGiveBits ms bs sc v → any4 (T.joined ms sc v) ≡ any4 bs
joined-any ms bs sc v h = sym (any-steady Zero (T.joined ms sc v) refl) ∙ sym (or-zero (any4 (T.joined ms sc v))) ∙ joined-from ms bs Zero sc v h

joined-long : (ms : List T.Meaning) (bs : List Bit4) (sc : Scope) (v : Valuation) → AllGiveBits ms bs sc v → length (T.joined ms sc v) ≡ T.joined_width ms sc
joined-long [] [] sc v h = refl
joined-long [] (b ∷ bs) sc v h = absurd h
joined-long (m ∷ ms) [] sc v h = absurd h
joined-long (m ∷ ms) (b ∷ bs) sc v h =
    let rest = joined-long ms bs sc v h.1 in
    let one = ap length (bits-alone m (b ∷ []) sc v (h.0).has) in
    let wide = ((h.0).has).width in
    length-append (T.joined ms sc v) (T.alone m sc v) ∙ omega arith

-- `inside` by the bits of its alternatives
reduced-same : (of : Layout) (at : ℕ) (e : M.Meaning) (cs : List Alternative) (w : ℕ) (s : Bool) (a : Around) (ms : List T.Meaning) (sc : Scope) (v : Valuation) → (O.inside of at e cs).misfits ≡ 0
    → AllGiveBits ms (map (is_inside e a) cs) sc v → Same (O.inside of at e cs) w s a (T.reduce Or (T.concatenation ms)) sc v
unfolding O.inside T.reduce T.concatenation
reduced-same of at e cs w s a ms sc v fits h =
    let t = typed-four of 1 false _ _ fits in
    let wide = t.width in
    record {
      least = omega arith;
      most = omega arith;
      sign = sym t.sign;
      value = ap (λ l. ext w s (any4 l ∷ [])) (ext-at (T.joined_width ms sc) false (T.joined ms sc v) (joined-long ms _ sc v h)) ∙ ap (λ b. ext w s (b ∷ [])) (joined-any ms _ sc v h);
    }

single-same : (of : Layout) (at : ℕ) (e : M.Meaning) (c : Alternative) (w : ℕ) (s : Bool) (a : Around) (m : T.Meaning) (sc : Scope) (v : Valuation) → (O.inside of at e (c ∷ [])).misfits ≡ 0
    → GivesBit m (is_inside e a c) sc v → Same (O.inside of at e (c ∷ [])) w s a m sc v
unfolding O.inside
single-same of at e c w s a m sc v fits h =
    let t = typed-four of 1 false _ _ fits in
    let wide = t.width in
    let has = h.has in
    let width = has.width in
    record {
      least = omega arith;
      most = omega arith;
      sign = has.unsigned ∙ sym t.sign;
      value = has.value w s ∙ ap (λ b. ext w s (b ∷ [])) (sym h.steady);
    }

pub any-same : (of : Layout) (at : ℕ) (e : M.Meaning) (cs : List Alternative) (w : ℕ) (s : Bool) (a : Around) (ms : List T.Meaning) (sc : Scope) (v : Valuation) → (O.inside of at e cs).misfits ≡ 0
    → AllGiveBits ms (map (is_inside e a) cs) sc v → Same (O.inside of at e cs) w s a (any_of ms) sc v
any-same of at e cs w s a [] sc v fits h = reduced-same of at e cs w s a [] sc v fits h
any-same of at e [] w s a (m ∷ ms) sc v fits h = absurd h
any-same of at e (c ∷ []) w s a (m ∷ []) sc v fits h = single-same of at e c w s a m sc v fits h.0
any-same of at e (c ∷ d ∷ cs) w s a (m ∷ []) sc v fits h = absurd h.1
any-same of at e cs w s a (m ∷ k ∷ ks) sc v fits h = reduced-same of at e cs w s a (m ∷ k ∷ ks) sc v fits h

reduced-named : (ms : List T.Meaning) (sc : Scope) → (T.reduce Or (T.concatenation ms)).names sc ≡ T.all_names ms sc
unfolding T.reduce T.concatenation
reduced-named ms sc = append-nil (T.all_names ms sc)

pub any-named : (ms : List T.Meaning) (sc : Scope) → (any_of ms).names sc ≡ T.all_names ms sc
any-named [] sc = reduced-named [] sc
any-named (m ∷ []) sc = sym (append-nil (m.names sc))
any-named (m ∷ k ∷ ks) sc = reduced-named (m ∷ k ∷ ks) sc
