-- The table of values that are taken.
use Rattle.std.proofs.Common.{◌≡◌, ℕ, ℤ, Bool, true, false, ◌||◌, List, [], ◌∷◌, ◌++◌, Option, Some, None, refl, sym, ap, ◌∙◌, ◌<◌}
use Rattle.std.specs.Prelude.{is_some, if◌then◌else◌, cond, ◌==◌}
use Rattle.std.specs.Ordering.{int_eq}
use Rattle.std.specs.Str.{bytes_eq}
use Rattle.std.proofs.lemmas.Bool.Decides.{Decides-int_eq}
use Rattle.std.proofs.lemmas.List.Folds.{list_any-append}
use Rattle.std.proofs.lemmas.Slice.Eq.{bytes_eq-Decides}
use Rattle.b4_core.specs.declared.bit.Bit4.{Bit4}
use Rattle.b4_core.specs.declared.bit.Bit4.TheVariants.{Zero, One, X, Z}
use Rattle.b4_core.specs.Vectors.{number, vec}
use Rattle.sv_types.specs.declared.types.SvType.{SvType}
use Rattle.sv_types.specs.Layouts.{width_of}
use Rattle.expr_type.specs.Shapes.{sign_of}
use Rattle.expr_type.specs.Types.{NameValue, is_taken}
use Rattle.enum_types.specs.declared.taken.Taken.{Taken}
use Rattle.enum_types.specs.Bits.{HasBits}
use Rattle.enum_types.specs.Taken.{Holds, IsValue, Keys, character, key, keys_in, with_key}
use Rattle.enum_types.proofs.Ranges.{value-back}

pub none-held : (t : SvType) (x : Taken) → keys_in x ≡ (λ q. None) → Holds t x []
none-held t x e = record { values = λ n v. ap (λ (ks : Keys). is_some (ks (key (vec (width_of t) n)))) e }

pub ruleset none_held = (none-held)

pub taken-by : (t : SvType) (x : Taken) (vs : List NameValue) (n : ℤ) (bits : List Bit4) (k : List ℕ) (b : Bool) → k ≡ key bits → b ≡ is_some (keys_in x k)
    → Holds t x vs → IsValue t n → HasBits t bits n → b ≡ is_taken vs n
taken-by t x vs n bits k b e f h v s = f ∙ ap (λ q. is_some (keys_in x q)) (e ∙ ap key s.bits) ∙ h.values n v

pub ruleset taken_is = (taken-by)

-- equal characters are those of equal bits
abbrev of-character : ℕ → Bit4
of-character c = cond (c == 48) Zero (cond (c == 49) One (cond (c == 120) X Z))

same-character : (a : Bit4) → of-character (character a) ≡ a
same-character Zero = refl
same-character One = refl
same-character X = refl
same-character Z = refl

abbrev bits-of : List ℕ → List Bit4
bits-of [] = []
bits-of (c ∷ cs) = of-character c ∷ bits-of cs

bits-back : (v : List Bit4) → bits-of (key v) ≡ v
bits-back [] = refl
bits-back (b ∷ v) = ap (λ x. x ∷ bits-of (key v)) (same-character b) ∙ ap (λ xs. b ∷ xs) (bits-back v)

same-bits : (v w : List Bit4) → key v ≡ key w → v ≡ w
same-bits v w e = sym (bits-back v) ∙ ap bits-of e ∙ bits-back w

-- numbers that the base holds are equal where their bits are
same-number : (t : SvType) (n m : ℤ) → 0 < width_of t → IsValue t n → IsValue t m → vec (width_of t) n ≡ vec (width_of t) m → n ≡ m
same-number t n m h v w e = sym (value-back t n v h) ∙ ap (number (sign_of t)) e ∙ value-back t m w h

keys-by : (a b : Bool) → (a ≡ true → b ≡ true) → (b ≡ true → a ≡ true) → a ≡ b
keys-by true b f g = sym (f refl)
keys-by false true f g = g refl
keys-by false false f g = refl

same-key : (t : SvType) (n m : ℤ) → 0 < width_of t → IsValue t n → IsValue t m
    → bytes_eq (key (vec (width_of t) n)) (key (vec (width_of t) m)) ≡ int_eq n m
same-key t n m h v w =
    let a = key (vec (width_of t) n) in
    let b = key (vec (width_of t) m) in
    keys-by (bytes_eq a b) (int_eq n m)
    (λ e. (Decides-int_eq n m).1 (same-number t n m h v w (same-bits (vec (width_of t) n) (vec (width_of t) m) ((bytes_eq-Decides a b).0 e))))
    (λ e. (bytes_eq-Decides a b).1 (ap (λ x. key (vec (width_of t) x)) ((Decides-int_eq n m).0 e)))

some-by : (c : Bool) (o : Option ℕ) (b : Bool) → is_some o ≡ b → is_some (if c then Some 0 else o) ≡ b || (c || false)
some-by true o true e = refl
some-by true o false e = refl
some-by false o true e = e
some-by false o false e = e

more-by : (t : SvType) (x y : Taken) (vs : List NameValue) (v : NameValue) → 0 < width_of t → Holds t x vs → IsValue t v.number
    → keys_in y ≡ with_key (keys_in x) (key (vec (width_of t) v.number)) → Holds t y (vs ++ v ∷ [])
more-by t x y vs v p h i e = record {
  values = λ m w.
      let k = key (vec (width_of t) m) in
      ap (λ (ks : Keys). is_some (ks k)) e
      ∙ some-by (bytes_eq (key (vec (width_of t) v.number)) k) (keys_in x k) (is_taken vs m) (h.values m w)
      ∙ ap (λ c. is_taken vs m || (c || false)) (same-key t v.number m p i w)
      ∙ sym (list_any-append (λ (u : NameValue). int_eq u.number m) vs (v ∷ []));
}

-- the table with one value more
pub one-more : (t : SvType) (x y : Taken) (vs : List NameValue) (v : NameValue) (bits : List Bit4) (k : List ℕ) → k ≡ key bits → keys_in y ≡ with_key (keys_in x) k
    → 0 < width_of t → Holds t x vs → IsValue t v.number → HasBits t bits v.number → Holds t y (vs ++ v ∷ [])
one-more t x y vs v bits k e f p h i s =
    more-by t x y vs v p h i (f ∙ ap (with_key (keys_in x)) (e ∙ ap key s.bits))

pub ruleset one_more = (one-more)
