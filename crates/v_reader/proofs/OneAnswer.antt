-- A text has one answer.
use Rattle.std.proofs.Common.{◌≡◌, ℕ, List, [], Some, None, refl, sym, ap, ◌∙◌}
use Rattle.v_tree.specs.declared.items.VDesign.{VDesign}
use Rattle.v_tree.specs.Reading.{VReads}
use Rattle.v_tree.specs.Rules.{broken_tokens}
use Rattle.v_expr_rules.specs.Least.{least}
use Rattle.v_parse.proofs.OneReading.{one_reading}
use Rattle.v_reader.specs.Refusing.{BreaksAt, Broken, rule_of, OneAnswer}
use Rattle.v_reader.specs.Refusing.Broken.{fails, nests, breaks}

some-one : (a b : ℕ) → Some a ≡ Some b → a ≡ b
some-one a b e = cc

one-break : (bytes : List ℕ) (i j : ℕ) → BreaksAt bytes i → BreaksAt bytes j → i ≡ j
one-break bytes i j a b =
    let same = (one_reading bytes).design a.design b.design a.spells b.spells in
    some-one i j (sym a.first ∙ ap (λ (e : VDesign). least (broken_tokens e)) same ∙ b.first)

one-rule : (bytes : List ℕ) (i j : ℕ) (a : Broken bytes i) (b : Broken bytes j) → rule_of a ≡ rule_of b
one-rule bytes i j (fails a) (fails b) = refl
one-rule bytes i j (fails a) (nests b) = absurd ((one_reading bytes).fails_or_nests i j a b)
one-rule bytes i j (fails a) (breaks b) = absurd ((one_reading bytes).spells_or_fails b.design i b.spells a)
one-rule bytes i j (nests a) (fails b) = absurd ((one_reading bytes).fails_or_nests j i b a)
one-rule bytes i j (nests a) (nests b) = refl
one-rule bytes i j (nests a) (breaks b) = refl
one-rule bytes i j (breaks a) (fails b) = absurd ((one_reading bytes).spells_or_fails a.design j a.spells b)
one-rule bytes i j (breaks a) (nests b) = refl
one-rule bytes i j (breaks a) (breaks b) = refl

one-token : (bytes : List ℕ) (i j : ℕ) → Broken bytes i → Broken bytes j → i ≡ j
one-token bytes i j (fails a) (fails b) = (one_reading bytes).fails i j a b
one-token bytes i j (fails a) (nests b) = absurd ((one_reading bytes).fails_or_nests i j a b)
one-token bytes i j (fails a) (breaks b) = absurd ((one_reading bytes).spells_or_fails b.design i b.spells a)
one-token bytes i j (nests a) (fails b) = absurd ((one_reading bytes).fails_or_nests j i b a)
one-token bytes i j (nests a) (nests b) = (one_reading bytes).nests i j a b
one-token bytes i j (nests a) (breaks b) = absurd ((one_reading bytes).spells_or_nests b.design i b.spells a)
one-token bytes i j (breaks a) (fails b) = absurd ((one_reading bytes).spells_or_fails a.design j a.spells b)
one-token bytes i j (breaks a) (nests b) = absurd ((one_reading bytes).spells_or_nests a.design j a.spells b)
one-token bytes i j (breaks a) (breaks b) = one-break bytes i j a b

read-broken : (bytes : List ℕ) (e : VDesign) (i : ℕ) → VReads bytes e → Broken bytes i → ⊥
read-broken bytes e i reads (fails a) = (one_reading bytes).spells_or_fails e i reads.spells a
read-broken bytes e i reads (nests a) = (one_reading bytes).spells_or_nests e i reads.spells a
read-broken bytes e i reads (breaks a) =
    let same = (one_reading bytes).design e a.design reads.spells a.spells in
    let none : None ≡ Some i = ap least (sym reads.keeps) ∙ ap (λ (f : VDesign). least (broken_tokens f)) same ∙ a.first in
    cc

pub one_answer : (bytes : List ℕ) → OneAnswer bytes
one_answer bytes = record {
  design = λ e f a b. (one_reading bytes).design e f a.spells b.spells;
  rule = one-rule bytes;
  token = one-token bytes;
  read_or_refused = read-broken bytes;
}
