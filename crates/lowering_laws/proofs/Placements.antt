-- Paths whose place is known, and steps by a known number of bits.
use Rattle.std.proofs.Common.{◌≡◌, ℕ, ◌+◌, ◌<◌, ◌≤◌, ◌^◌, true, false, ◌&&◌, pos, ◌+ℤ◌, length, Option, Some, None, refl, arith, sym, ◌∙◌, subst, ap, true≢false}
use Rattle.std.specs.Prelude.{slice_get}
use Rattle.b4_core.specs.declared.operators.BinOp.TheVariants.{Add}
use Rattle.b4_core.specs.Vectors.{known, num, digits}
use Rattle.b4_core.specs.Binary.{binary_value}
use Rattle.row_machine.specs.Valuation.{Valuation}
use Rattle.picks.specs.Windows.{part, picked}
use Rattle.sv_types.specs.Layouts.{Layout, Part}
use Rattle.sv_types.specs.Surroundings.{Around}
use Rattle.sv_types.specs.Meanings as S
use Rattle.sv_types.specs.Paths as P
use Rattle.sv_types.specs.Windows.{member_of}
use Rattle.sv_types.proofs.OperatorLengths.{length-binary}
use Rattle.sv_types.proofs.Picks.{picked-part}
use Rattle.v_meaning.specs.Scopes.{Scope}
use Rattle.v_meaning.specs.Values as T
use Rattle.lowering_laws.specs.Images.{Names, NamesNone}
use Rattle.lowering_laws.specs.Placed.{holds, IsPlaced, IsSure}
pub use Rattle.lowering_laws.specs.Steps.{IsPart}
use Rattle.lowering_laws.proofs.Extensions.{ext-at}
use Rattle.lowering_laws.proofs.Numbers.{HasNumber, literal-number, sum-number, number-alone, known-digits, num-digits, length-digits}
use Rattle.lowering_laws.proofs.Offsets.{arithmetic-known, and-true}
use Rattle.lowering_laws.proofs.PathSteps.{part-names, signal-names, local-names}

literal-alone : (w k : ℕ) (sc : Scope) (v : Valuation) → T.alone (T.literal (digits w k)) sc v ≡ digits w k
unfolding T.literal
literal-alone w k sc v = ext-at (length (digits w k)) false (digits w k) refl

literal-shape : (w k : ℕ) (sc : Scope) → ((T.literal (digits w k)).width sc ≡ w) × ((T.literal (digits w k)).signed ≡ false)
unfolding T.literal
literal-shape w k sc = (length-digits w k, refl)

-- a path whose place is known is placed by a literal
pub literal-placed : (e : S.Meaning) (a : Around) (k w bits : ℕ) (sc : Scope) (v : Valuation)
    → Names e a k bits → k + S.wide e ≤ bits → bits < 2 ^ w → IsPlaced e a None (T.literal (digits w k)) w bits sc v
literal-placed e a k w bits sc v names fits small =
    let is = ap num (literal-alone w k sc v) ∙ num-digits w k (omega arith) in
    record {
      width = (literal-shape w k sc).0;
      unsigned = (literal-shape w k sc).1;
      long = ap length (literal-alone w k sc v) ∙ length-digits w k;
      yes = λ h g. (subst (λ x. Names e a x bits) (sym is) names, omega arith);
      no = λ h. absurd (true≢false h);
      lost = λ h g. absurd (true≢false (sym (ap known (literal-alone w k sc v) ∙ known-digits w k) ∙ g));
    }

pub literal-sure : (g : Option T.Meaning) (w k : ℕ) (sc : Scope) (v : Valuation) → IsSure g (T.literal (digits w k)) sc v
literal-sure g w k sc v h = ap known (literal-alone w k sc v) ∙ known-digits w k

-- a whole signal or local
pub signal-placed : (of : Layout) (at n w : ℕ) (a : Around) (sc : Scope) (v : Valuation) → length of.two_state < 2 ^ w
    → IsPlaced (P.signal of at n) a None (T.literal (digits w 0)) w (length of.two_state) sc v
unfolding P.signal
signal-placed of at n w a sc v small = literal-placed (P.signal of at n) a 0 w (length of.two_state) sc v (signal-names of at n a) (omega arith) small

pub local-placed : (of : Layout) (at n w : ℕ) (a : Around) (sc : Scope) (v : Valuation) → length of.two_state < 2 ^ w
    → IsPlaced (P.local of at n) a None (T.literal (digits w 0)) w (length of.two_state) sc v
unfolding P.local
local-placed of at n w a sc v small = literal-placed (P.local of at n) a 0 w (length of.two_state) sc v (local-names of at n a) (omega arith) small

part-none : (e from : S.Meaning) (a : Around) (below : ℕ) → IsPart e from a below → NamesNone from a → NamesNone e a
part-none e from a below is none j h =
    let fits = is.within in
    ap (λ x. picked x j) is.window ∙ picked-part below (S.wide e) (from.window a) j h ∙ none (below + j) (omega arith)

part-there : (e from : S.Meaning) (a : Around) (below k bits : ℕ) → IsPart e from a below → Names from a k bits → Names e a (k + below) bits
part-there e from a below k bits is names j h =
    ap (λ x. picked x j) is.window ∙ part-names from a k bits below (S.wide e) names is.within j h

pub member-is-part : (of : Layout) (at : ℕ) (from : S.Meaning) (k : ℕ) (p : Part) (a : Around)
    → slice_get from.of.members k ≡ Some p → length of.two_state ≡ length p.two_state → p.below + length p.two_state ≤ S.wide from
    → IsPart (P.member of at from k) from a p.below
unfolding P.member
member-is-part of at from k p a is wide fits = record {
  window = ap (λ (o : Option Part). member_of o (from.window a)) is ∙ ap (λ n. part (pos p.below) n (from.window a)) (sym wide);
  within = omega arith;
}

-- the offset moves by so many bits
module _ (e from : S.Meaning) (a : Around) (below : ℕ) (g : Option T.Meaning) (o : T.Meaning) (w bits : ℕ) (sc : Scope) (v : Valuation)
    (some : 1 ≤ w) (narrow : w ≤ 128) (small : bits < 2 ^ w)
    (is_part : IsPart e from a below) (placed : IsPlaced from a g o w bits sc v) where
  abbrev new : T.Meaning
  new = T.binary Add o (T.literal (digits w below))

  new-width : new.width sc ≡ w
  unfolding T.binary
  new-width = (let x = (literal-shape w below sc).0 in let y = placed.width in omega arith)

  new-unsigned : new.signed ≡ false
  unfolding T.binary
  new-unsigned = ap (λ b. b && (T.literal (digits w below)).signed) placed.unsigned

  same-context : T.alone o sc v ≡ o.value w false sc v
  same-context = λ i. o.value (placed.width i) (placed.unsigned i) sc v

  literal-there : (T.literal (digits w below)).value w false sc v ≡ digits w below
  unfolding T.literal
  literal-there = ext-at w false (digits w below) (length-digits w below)

  new-alone : T.alone new sc v ≡ binary_value Add false (T.alone o sc v) (digits w below)
  unfolding T.binary
  new-alone =
      (λ i. new.value (new-width i) (new-unsigned i) sc v)
      ∙ (λ i. binary_value Add false (sym same-context i) (literal-there i))

  long : length (T.alone o sc v) ≡ w
  long = placed.long

  new-known : known (T.alone new sc v) ≡ known (T.alone o sc v)
  new-known =
      ap known new-alone
      ∙ arithmetic-known (λ x y. x +ℤ y) (T.alone o sc v) (digits w below) (known (T.alone o sc v)) (omega arith)
      (ap (λ b. known (T.alone o sc v) && b) (known-digits w below) ∙ and-true (known (T.alone o sc v)))

  new-number : known (T.alone o sc v) ≡ true → num (T.alone o sc v) + below < 2 ^ w → num (T.alone new sc v) ≡ num (T.alone o sc v) + below
  new-number there few =
      let base : HasNumber o w (num (T.alone o sc v)) sc v = record {
        width = (let x = placed.width in omega arith);
        unsigned = placed.unsigned;
        long = ap length (sym same-context) ∙ long;
        known_there = ap known (sym same-context) ∙ there;
        number = ap num (sym same-context);
      } in
      let all = sum-number o (T.literal (digits w below)) w (num (T.alone o sc v)) below sc v narrow few base (literal-number w below sc v (omega arith)) in
      ap num (number-alone new w (num (T.alone o sc v) + below) sc v new-width all) ∙ all.number

  there : holds g sc v ≡ true → known (T.alone o sc v) ≡ true → Names e a (num (T.alone new sc v)) bits × (num (T.alone new sc v) + S.wide e ≤ bits)
  there guarded knows =
      let before = placed.yes guarded knows in
      let inside = before.1 in
      let fits = is_part.within in
      let number = new-number knows (omega arith) in
      (subst (λ x. Names e a x bits) (sym number) (part-there e from a below (num (T.alone o sc v)) bits is_part before.0), omega arith)

  -- a step by a known number keeps the offset known
  pub part-sure : IsSure g o sc v → IsSure g new sc v
  part-sure sure h = new-known ∙ sure h

  pub part-placed : IsPlaced e a g new w bits sc v
  part-placed = record {
    width = new-width;
    unsigned = new-unsigned;
    long = ap length new-alone ∙ length-binary Add false (T.alone o sc v) (digits w below) w long (length-digits w below);
    yes = λ h k. there h (sym new-known ∙ k);
    no = λ h. part-none e from a below is_part (placed.no h);
    lost = λ h k. part-none e from a below is_part (placed.lost h (sym new-known ∙ k));
  }
