-- Operands as they are typed, alone, as parts and as constants.
use Rattle.std.proofs.Common.{◌≡◌, ℕ, ◌<◌, ℤ, Bool, true, false, ◌&&◌, ◌==◌, cond, List, ◌∷◌, Option, Some, None, refl, arith, ap, subst}
use Rattle.std.specs.Prelude.{pos, int_le, unsigned_abs, Ok}
use Rattle.std.proofs.lemmas.Int.{ints}
use Rattle.std.proofs.lemmas.Bool.Decides.{nat_tests}
use Rattle.sv_types.specs.declared.statement.Function.{Function}
use Rattle.expr_type.specs.declared.operand.Number.{Number}
use Rattle.expr_type.specs.declared.operand.Valued.{Valued}
use Rattle.expr_type.specs.Typings.{Checked, Typing, whole, rule, by_functions, all, refused}
use Rattle.expr_type.specs.Names.{Context, Source, position}
use Rattle.expr_type.specs.Shapes.{is_unpacked}
use Rattle.expr_type.specs.Operands.{Operand, Plain, Pattern, Stream, value, bits_in, unstreamed, is_value, has_bits, no_stream, constant_in, is_constant_value, is_constant, is_number_in, number_within, in_range, number_or, number_of}
use Rattle.expr_type.specs.Operators.{is_part}
use Rattle.expr_type.specs.Selects.{index_in, is_index}
use Rattle.expr_type.specs.Forms as R
use Rattle.expr_type.specs.Forms.{streamed_part, is_streamed_part}
use Rattle.expr_type.specs.Expressions.{Meaning, part, is_count, count}
use Rattle.typing_fits.specs.Sound.{Sound}
use Rattle.typing_fits.specs.Operands.{SoundFixed, SoundOperand}
use Rattle.typing_fits.specs.Selects.{SoundIndex}
use Rattle.typing_fits.proofs.Contexts.{refused-no, refused-then, whole-part}
use Rattle.typing_fits.proofs.Full.{and-left, and-right}
use Rattle.typing_fits.proofs.Operators.{as-is, ok-is}
use Rattle.typing_fits.proofs.Selects.{index-sound}
use Rattle.typing_fits.proofs.Given.{value-sound, bits-sound, unstreamed-sound, constant-value-sound}
use Rattle.typing_walks.specs.Keeps.{Kept, Keeps, AllKeep, AllHold, Lasts, InRange, Surrounded, SoundMeaning}
use Rattle.typing_walks.proofs.Keeping as K

-- a list of which the first is there
pub record SomeHold (A : Type 0) (P : A → List Function → Type 0) (as' : List A) (gs : List Function) : Type 0 where
  pub first : A
  pub rest : List A
  pub is : as' ≡ first ∷ rest
  pub here : P first gs
  pub behind : AllHold P rest gs

number-ok : (k : Source) (first : ℕ) (o : Option ℤ) (n : Number) → number_or k first o ≡ Ok n → o ≡ Some n.number
number-ok k first None n h = absurd (cc)
number-ok k first (Some m) n h = let e : numbered (record { first = first; number = m }) ≡ Ok n = h in let is : record { first = first; number = m } ≡ n = cc in ap (λ (x : Number). Some x.number) is
  where
    numbered : Number → Checked Number
    numbered x = Ok x

range-by : (low high : ℤ) (m n : ℤ) (b : Bool) → (int_le low m && int_le m high) ≡ b → cond b (Some m) None ≡ Some n → (int_le low n ≡ true) × (int_le n high ≡ true)
range-by low high m n true is h =
    let e : m ≡ n = cc in
    subst (λ x. (int_le low x ≡ true) × (int_le x high ≡ true)) e (and-left (int_le low m) (int_le m high) is, and-right (int_le low m) (int_le m high) is)
range-by low high m n false is h = absurd (cc)

in-range : (low high : ℤ) (o : Option ℤ) (n : ℤ) → in_range low high o ≡ Some n → (int_le low n ≡ true) × (int_le n high ≡ true)
in-range low high None n h = absurd (cc)
in-range low high (Some m) n h = range-by low high m n (int_le low m && int_le m high) refl h

pub range-of : (k : Source) (low high : ℤ) (v : Valued) (fs : List Function) (n : Number) → is_number_in k low high v fs ≡ Ok n → (int_le low n.number ≡ true) × (int_le n.number high ≡ true)
range-of k low high v fs n h =
    let p = whole-part (is_constant k v.first fs v.expr (has_bits k v)) (λ u. number_or k u.first (in_range low high (number_of fs u.expr))) n h in
    in-range low high (number_of fs p.part.expr) n.number (number-ok k p.part.first (in_range low high (number_of fs p.part.expr)) n p.made)

pub at-least-one : (n : ℤ) → int_le (pos 1) n ≡ true → 0 < unsigned_abs n
at-least-one n h = grind (arith, ints)

module _ (Q : List Function → Type 0) where
  -- alone, with bits, and where no stream can stand
  pub value-keeps : (k : Source) (x : Typing Operand) → Keeps Q SoundOperand x → Keeps Q Sound (value k x)
  value-keeps k x h = K.checked-keeps Q SoundOperand Sound x (λ o. rule (is_value k o)) h (λ o js q s. K.rule-kept Q Sound (is_value k o) js q (λ v e. value-sound k o v js e s))

  pub bits-keeps : (k : Source) (x : Typing Operand) → Keeps Q SoundOperand x → Keeps Q Sound (bits_in k x)
  bits-keeps k x h = K.checked-keeps Q Sound Sound (value k x) (λ v. rule (has_bits k v)) (value-keeps k x h) (λ v js q s. K.rule-kept Q Sound (has_bits k v) js q (λ u e. bits-sound k v u js e s))

  pub bits-from : (k : Source) (o : Operand) (gs : List Function) → Q gs → SoundOperand o gs → Kept Valued Q Sound gs (bits_in k (whole o) gs)
  bits-from k o gs q s =
      K.checked-kept Q Sound Sound (value k (whole o)) (λ v. rule (has_bits k v)) gs
      (K.checked-kept Q SoundOperand Sound (whole o) (λ p. rule (is_value k p)) gs (K.whole-kept Q SoundOperand o gs q s) (λ p js r x. K.rule-kept Q Sound (is_value k p) js r (λ v e. value-sound k p v js e x)))
      (λ v js r x. K.rule-kept Q Sound (has_bits k v) js r (λ u e. bits-sound k v u js e x))

  pub plain-keeps : (x : Typing Valued) → Keeps Q Sound x → Keeps Q SoundOperand (R.plain x)
  plain-keeps x h = K.checked-keeps Q Sound SoundOperand x (λ v. whole (Plain v)) h (λ v js q s. K.whole-kept Q SoundOperand (Plain v) js q s)

  pub unstreamed-keeps : (k : Source) (x : Typing Operand) → Keeps Q SoundOperand x → Keeps Q SoundOperand (unstreamed k x)
  unstreamed-keeps k x h = K.checked-keeps Q SoundOperand SoundOperand x (λ o. rule (no_stream k o)) h (λ o js q s. K.rule-kept Q SoundOperand (no_stream k o) js q (λ p e. unstreamed-sound k o p js e s))

  pub fixed-keeps : (x : Typing Valued) → Keeps Q SoundFixed x → Keeps Q Sound x
  fixed-keeps x h gs q = let k = h gs q in record { extends = k.extends; kept = k.kept; sound = λ v e. (k.sound v e).sound }

  -- constants
  pub constant-keeps : (k : Source) (x : Typing Operand) → Keeps Q SoundOperand x → Keeps Q Sound (constant_in k x)
  constant-keeps k x h =
      K.checked-keeps Q SoundOperand Sound x (λ o. rule (is_constant_value k o)) h (λ o js q s. K.rule-kept Q Sound (is_constant_value k o) js q (λ v e. constant-value-sound k o v js e s))

  pub number-keeps : (k : Source) (low high : ℤ) (x : Typing Operand) → Keeps Q SoundOperand x → Keeps Q (InRange low high) (number_within k low high x)
  number-keeps k low high x h =
      K.checked-keeps Q Sound (InRange low high) (constant_in k x) (λ v. by_functions (is_number_in k low high v)) (constant-keeps k x h)
      (λ v js q s. K.rule-kept Q (InRange low high) (is_number_in k low high v js) js q (λ n e. range-of k low high v js n e))

  -- indices
  pub index-keeps : (k : Source) (x : Typing Operand) → Keeps Q SoundOperand x → Keeps Q SoundIndex (index_in k x)
  index-keeps k x h = K.checked-keeps Q Sound SoundIndex (bits_in k x) (λ v. rule (is_index k v)) (bits-keeps k x h) (λ v js q s. K.rule-kept Q SoundIndex (is_index k v) js q (λ u e. index-sound k v u js e s))

  -- parts of concatenations and of streams
  part-sound : (k : Source) (v u : Valued) (gs : List Function) → is_part k v ≡ Ok u → Sound v gs → Sound u gs
  part-sound k v u gs h s =
      let rest = refused (is_unpacked v.expr.of) (position k v.first) 508 (Ok v) in
      as-is v u gs (ok-is v u (refused-then (is_unpacked v.expr.of) (position k v.first) 508 (Ok v) u (refused-then v.is_unsized (position k v.first) 501 rest u h))) s

  pub part-keeps : (k : Context) (e : Meaning) → Surrounded Q k → SoundMeaning Q e → Keeps Q Sound (part k e)
  part-keeps k e r s =
      K.checked-keeps Q Sound Sound (value k.source (e.typed k)) (λ v. rule (is_part k.source v)) (value-keeps k.source (e.typed k) (s.typed k r))
      (λ v js q x. K.rule-kept Q Sound (is_part k.source v) js q (λ u h. part-sound k.source v u js h x))

  streamed-sound : (k : Source) (o : Operand) (v : Valued) (gs : List Function) → is_streamed_part k o ≡ Ok v → SoundOperand o gs → Sound v gs
  streamed-sound k (Plain u) v gs h s = as-is u v gs (ok-is u v (refused-then u.is_unsized (position k u.first) 501 (Ok u) v h)) s
  streamed-sound k (Pattern tick of) v gs h s = absurd (cc)
  streamed-sound k (Stream u) v gs h s = as-is u v gs (ok-is u v h) s.sound

  pub streamed-keeps : (k : Source) (x : Typing Operand) → Keeps Q SoundOperand x → Keeps Q Sound (streamed_part k x)
  streamed-keeps k x h =
      K.checked-keeps Q SoundOperand Sound x (λ o. rule (is_streamed_part k o)) h (λ o js q s. K.rule-kept Q Sound (is_streamed_part k o) js q (λ v e. streamed-sound k o v js e s))

  -- lists with a first part
  pub some-keeps : {A : Type 0} (P : A → List Function → Type 0) (x : Typing A) (xs : List (Typing A)) → Lasts P → Keeps Q P x → AllKeep Q P xs → Keeps Q (SomeHold A P) (all (x ∷ xs))
  some-keeps {A = A} P x xs later h hs =
      K.both-keeps Q P (λ as' gs. AllHold P as' gs) (SomeHold A P) x (all xs) (λ a as'. whole (a ∷ as')) later h (K.all-keeps Q P xs later hs)
      (λ a as' js q s r. K.whole-kept Q (SomeHold A P) (a ∷ as') js q (record { first = a; rest = as'; is = refl; here = s; behind = r }))

  -- how often something is repeated
  some-by : (n : ℕ) (b : Bool) → (n == 0) ≡ b → b ≡ false → 0 < n
  some-by n true is h = absurd (cc)
  some-by n false is h = grind (arith, nat_tests, is)

  abbrev nat_ok : ℕ → Checked ℕ
  nat_ok n = Ok n

  count-some : (k : Source) (n : Number) (c : ℕ) → is_count k n ≡ Ok c → 0 < c
  count-some k n c h =
      let m = unsigned_abs n.number in
      let some = some-by m (m == 0) refl (refused-no (m == 0) (position k n.first) 510 (Ok m) c h) in
      let is : nat_ok m ≡ Ok c = refused-then (m == 0) (position k n.first) 510 (Ok m) c h in
      let same : m ≡ c = cc in
      subst (λ x. 0 < x) same some

  pub count-keeps : (k : Context) (e : Meaning) → Surrounded Q k → SoundMeaning Q e → Keeps Q (λ n gs. 0 < n) (count k e)
  count-keeps k e r s =
      K.checked-keeps Q (InRange (pos 0) R.most_of_size) (λ n gs. 0 < n) (number_within k.source (pos 0) R.most_of_size (e.typed k)) (λ n. rule (is_count k.source n))
      (number-keeps k.source (pos 0) R.most_of_size (e.typed k) (s.typed k r)) (λ n js q x. K.rule-kept Q (λ m gs. 0 < m) (is_count k.source n) js q (λ c h. count-some k.source n c h))
