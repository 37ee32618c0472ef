-- A step by an index moves the offset of a path.
use Rattle.std.proofs.Common.{◌≡◌, ◌⊎◌, inl, inr, ℕ, zero, suc, ◌+◌, ◌*◌, ◌<◌, ◌≤◌, ◌^◌, Bool, true, false, ◌&&◌, ℤ, ◌+ℤ◌, ◌*ℤ◌, length, List, [], ◌∷◌, Option, Some, None, refl, arith, sym, ◌∙◌, subst, ap, true≢false, if◌then◌else◌}
use Rattle.b4_core.specs.declared.bit.Bit4.{Bit4}
use Rattle.b4_core.specs.declared.bit.Bit4.TheVariants.{Zero, One, X, Z}
use Rattle.b4_core.specs.declared.operators.BinOp.TheVariants.{Add, Mul}
use Rattle.b4_core.specs.Bits.{is_one, and4}
use Rattle.b4_core.specs.Bitwise.{truth_of}
use Rattle.b4_core.specs.Vectors.{known, unknown, num, number, digits, vec, ext}
use Rattle.b4_core.specs.Binary.{arithmetic, binary_value}
use Rattle.row_machine.specs.Valuation.{Valuation}
use Rattle.sv_types.specs.Layouts.{count_of}
use Rattle.sv_types.specs.Surroundings.{Around}
use Rattle.sv_types.proofs.OperatorLengths.{length-binary, length-ext}
use Rattle.sv_types.specs.Meanings as S
use Rattle.v_meaning.specs.Scopes.{Scope}
use Rattle.v_meaning.specs.Values as T
use Rattle.lowering_laws.specs.Images.{Names, NamesNone}
use Rattle.lowering_laws.specs.Placed.{holds, IsRank, IsPlaced, IsSure}
use Rattle.lowering_laws.specs.Terms.{and_guard, moved}
use Rattle.lowering_laws.proofs.Extensions.{ext-at}
use Rattle.lowering_laws.proofs.Numbers.{HasNumber, literal-number, sum-number, product-number, number-alone, known-digits, length-digits}
use Rattle.lowering_laws.proofs.PathSteps.{IsElement, rows-fit, element-names, element-names-none, step-from-none}

and-is-one : (p q : Bit4) → is_one (and4 p q) ≡ (is_one p && is_one q)
and-is-one Zero q = refl
and-is-one One Zero = refl
and-is-one One One = refl
and-is-one One X = refl
and-is-one One Z = refl
and-is-one X Zero = refl
and-is-one X One = refl
and-is-one X X = refl
and-is-one X Z = refl
and-is-one Z Zero = refl
and-is-one Z One = refl
and-is-one Z X = refl
and-is-one Z Z = refl

-- the truth of one bit is 1 just where the bit is
pub truth-one : (b : Bit4) → is_one (truth_of (ext 1 false (b ∷ []))) ≡ is_one b
truth-one Zero = refl
truth-one One = refl
truth-one X = refl
truth-one Z = refl

pub both-holds : (g h : T.Meaning) (sc : Scope) (v : Valuation) → is_one (T.truth (T.both g h) sc v) ≡ (is_one (T.truth g sc v) && is_one (T.truth h sc v))
unfolding T.both
both-holds g h sc v = truth-one (and4 (T.truth g sc v) (T.truth h sc v)) ∙ and-is-one (T.truth g sc v) (T.truth h sc v)

pub and-true : (b : Bool) → (b && true) ≡ b
and-true true = refl
and-true false = refl

pub holds-both : (g h : Option T.Meaning) (sc : Scope) (v : Valuation) → holds (and_guard g h) sc v ≡ (holds g sc v && holds h sc v)
holds-both None h sc v = refl
holds-both (Some g) None sc v = sym (and-true (is_one (T.truth g sc v)))
holds-both (Some g) (Some h) sc v = both-holds g h sc v

-- unknown operands make an unknown sum
pub unknown-bits : (w : ℕ) → 1 ≤ w → known (unknown w) ≡ false
unknown-bits zero h = absurd (omega arith)
unknown-bits (suc w) h = refl

known-vec : (w : ℕ) (n : ℤ) → known (vec w n) ≡ true
known-vec w n = known-digits w _

pub arithmetic-known : (f : ℤ → ℤ → ℤ) (a b : List Bit4) (p : Bool) → 1 ≤ length a → (known a && known b) ≡ p → known (arithmetic f false a b) ≡ p
arithmetic-known f a b true some is =
    ap (λ c. known (if c then vec (length a) (f (number false a) (number false b)) else unknown (length a))) is ∙ known-vec (length a) (f (number false a) (number false b))
arithmetic-known f a b false some is =
    ap (λ c. known (if c then vec (length a) (f (number false a) (number false b)) else unknown (length a))) is ∙ unknown-bits (length a) some

module _ (o r : T.Meaning) (item w : ℕ) (sc : Scope) (v : Valuation) (some : 1 ≤ w) (narrow : w ≤ 128)
    (width : o.width sc ≡ w) (unsigned : o.signed ≡ false) (long : length (T.alone o sc v) ≡ w)
    (rank_width : r.width sc ≤ w) (rank_unsigned : r.signed ≡ false) (rank_long : length (r.value w false sc v) ≡ w) where
  abbrev step : List Bit4
  step = binary_value Mul false (r.value w false sc v) (ext w false (digits w item))

  literal-is : ext w false (digits w item) ≡ digits w item
  literal-is = ext-at w false (digits w item) (length-digits w item)

  -- its width and sign
  pub moved-width : (moved o r item w).width sc ≡ w
  unfolding T.binary T.literal
  moved-width = (let n = length-digits w item in omega arith)

  pub moved-unsigned : (moved o r item w).signed ≡ false
  unfolding T.binary T.literal
  moved-unsigned = ap (λ b. b && (r.signed && false)) unsigned

  moved-value : (moved o r item w).value w false sc v ≡ binary_value Add false (o.value w false sc v) step
  unfolding T.binary T.literal
  moved-value = refl

  moved-alone : T.alone (moved o r item w) sc v ≡ binary_value Add false (T.alone o sc v) step
  moved-alone =
      (λ i. (moved o r item w).value (moved-width i) (moved-unsigned i) sc v) ∙ moved-value
      ∙ ap (λ x. binary_value Add false x step) (sym (λ i. o.value (width i) (unsigned i) sc v))

  step-known : known step ≡ known (r.value w false sc v)
  step-known =
      arithmetic-known (λ x y. x *ℤ y) (r.value w false sc v) (ext w false (digits w item)) (known (r.value w false sc v)) (omega arith)
      (ap (λ b. known (r.value w false sc v) && b) (ap known literal-is ∙ known-digits w item) ∙ and-true (known (r.value w false sc v)))

  -- it is known where both are
  pub moved-known : known (T.alone (moved o r item w) sc v) ≡ (known (T.alone o sc v) && known (r.value w false sc v))
  moved-known =
      ap known moved-alone
      ∙ arithmetic-known (λ x y. x +ℤ y) (T.alone o sc v) step (known (T.alone o sc v) && known (r.value w false sc v)) (omega arith)
      (ap (λ b. known (T.alone o sc v) && b) step-known)

  -- and then it is moved by so many items
  pub moved-number : known (T.alone o sc v) ≡ true → known (r.value w false sc v) ≡ true
      → num (T.alone o sc v) + num (r.value w false sc v) * item < 2 ^ w → item < 2 ^ w
      → num (T.alone (moved o r item w) sc v) ≡ num (T.alone o sc v) + num (r.value w false sc v) * item
  moved-number there here few small =
      let base : HasNumber o w (num (T.alone o sc v)) sc v = record {
        width = omega arith;
        unsigned = unsigned;
        long = ap length (sym alone) ∙ long;
        known_there = ap known (sym alone) ∙ there;
        number = ap num (sym alone);
      } in
      let index : HasNumber r w (num (r.value w false sc v)) sc v = record { width = rank_width; unsigned = rank_unsigned; long = rank_long; known_there = here; number = refl } in
      let items = product-number r (T.literal (digits w item)) w (num (r.value w false sc v)) item sc v narrow (omega arith) index (literal-number w item sc v small) in
      let all = sum-number o (T.binary Mul r (T.literal (digits w item))) w (num (T.alone o sc v)) (num (r.value w false sc v) * item) sc v narrow few base items in
      ap num (number-alone (moved o r item w) w (num (T.alone o sc v) + num (r.value w false sc v) * item) sc v moved-width all) ∙ all.number
    where
      alone : T.alone o sc v ≡ o.value w false sc v
      alone = λ i. o.value (width i) (unsigned i) sc v

-- the bits of a rank in a context of w bits
abbrev bits-at : T.Meaning → ℕ → Scope → Valuation → List Bit4
bits-at r w sc v = r.value w false sc v

pub and-cases : (p q : Bool) → (p && q) ≡ true → (p ≡ true) × (q ≡ true)
and-cases true true h = (refl, refl)
and-cases true false h = absurd (true≢false (sym h))
and-cases false q h = absurd (true≢false (sym h))

pub and-false : (p q : Bool) → (p && q) ≡ false → (p ≡ false) ⊎ ((p ≡ true) × (q ≡ false))
and-false true true h = absurd (true≢false h)
and-false true false h = inr (refl, refl)
and-false false q h = inl refl

-- The element by an index of a path that is placed is placed by the moved offset, under both guards.
module _ (e from : S.Meaning) (a : Around) (z : Option ℤ) (g c : Option T.Meaning) (o r : T.Meaning) (w bits : ℕ) (sc : Scope) (v : Valuation)
    (some : 1 ≤ w) (narrow : w ≤ 128) (fits : bits < 2 ^ w) (is_element : IsElement e from a z)
    (rank_long : length (bits-at r w sc v) ≡ w) (placed : IsPlaced from a g o w bits sc v) (is_rank : IsRank from.of z c r w sc v) where
  abbrev n : ℕ
  n = length from.of.element.two_state

  abbrev new : T.Meaning
  new = moved o r n w

  long : length (T.alone o sc v) ≡ w
  long = placed.long

  known-is : known (T.alone new sc v) ≡ (known (T.alone o sc v) && known (bits-at r w sc v))
  known-is = moved-known o r n w sc v some narrow placed.width placed.unsigned long is_rank.width is_rank.unsigned rank_long

  -- both are known and in range
  there : holds g sc v ≡ true → holds c sc v ≡ true → known (T.alone o sc v) ≡ true → known (bits-at r w sc v) ≡ true
      → Names e a (num (T.alone new sc v)) bits × (num (T.alone new sc v) + S.wide e ≤ bits)
  there guarded in_range known_o known_r =
      let q = num (bits-at r w sc v) in
      let k = num (T.alone o sc v) in
      let before = placed.yes guarded known_o in
      let has = is_rank.yes in_range known_r in
      let room = rows-fit q (count_of from.of.left from.of.right) n (S.wide from) has.below is_element.all in
      let within = before.1 in
      let number = moved-number o r n w sc v some narrow placed.width placed.unsigned long is_rank.width is_rank.unsigned rank_long known_o known_r (omega arith) (omega arith) in
      let names = element-names e from a z q k bits is_element has before.0 in
      let wide = is_element.wide in
      (subst (λ x. Names e a x bits) (sym number) names, omega arith)

  by-guards : (holds g sc v ≡ false) ⊎ ((holds g sc v ≡ true) × (holds c sc v ≡ false)) → NamesNone e a
  by-guards (inl h) = step-from-none e from a z is_element (placed.no h)
  by-guards (inr h) = element-names-none e from a z is_element (is_rank.no h.1)

  by-known : holds g sc v ≡ true → holds c sc v ≡ true → (known (T.alone o sc v) ≡ false) ⊎ ((known (T.alone o sc v) ≡ true) × (known (bits-at r w sc v) ≡ false)) → NamesNone e a
  by-known guarded in_range (inl h) = step-from-none e from a z is_element (placed.lost guarded h)
  by-known guarded in_range (inr h) = element-names-none e from a z is_element (is_rank.lost in_range h.1)

  new-long : length (T.alone new sc v) ≡ w
  new-long =
      ap length (moved-alone o r n w sc v some narrow placed.width placed.unsigned long is_rank.width is_rank.unsigned rank_long)
      ∙ length-binary Add false (T.alone o sc v) _ w long (length-binary Mul false (bits-at r w sc v) (ext w false (digits w n)) w rank_long (length-ext w false (digits w n)))

  -- the new offset is known where the old one and the rank are
  pub index-sure : IsSure g o sc v → (holds c sc v ≡ true → known (bits-at r w sc v) ≡ true) → IsSure (and_guard g c) new sc v
  index-sure sure rank_sure h =
      let both = and-cases (holds g sc v) (holds c sc v) (sym (holds-both g c sc v) ∙ h) in
      known-is ∙ (λ i. sure both.0 i && rank_sure both.1 i)

  pub index-placed : IsPlaced e a (and_guard g c) new w bits sc v
  index-placed = record {
    width = moved-width o r n w sc v some narrow placed.width placed.unsigned long is_rank.width is_rank.unsigned rank_long;
    unsigned = moved-unsigned o r n w sc v some narrow placed.width placed.unsigned long is_rank.width is_rank.unsigned rank_long;
    long = new-long;
    yes = λ h k.
        let both = and-cases (holds g sc v) (holds c sc v) (sym (holds-both g c sc v) ∙ h) in
        let knows = and-cases (known (T.alone o sc v)) (known (bits-at r w sc v)) (sym known-is ∙ k) in
        there both.0 both.1 knows.0 knows.1;
    no = λ h. by-guards (and-false (holds g sc v) (holds c sc v) (sym (holds-both g c sc v) ∙ h));
    lost = λ h k.
        let both = and-cases (holds g sc v) (holds c sc v) (sym (holds-both g c sc v) ∙ h) in
        by-known both.0 both.1 (and-false (known (T.alone o sc v)) (known (bits-at r w sc v)) (sym known-is ∙ k));
  }
