-- Concatenations stand for concatenations.
use Rattle.std.proofs.Common.{◌≡◌, ℕ, zero, suc, ◌*◌, Bool, false, List, [], ◌∷◌, ◌++◌, refl, arith, sym, ◌∙◌, ap, append-nil, append_assoc}
use Rattle.b4_core.specs.Vectors.{ext}
use Rattle.row_machine.specs.Valuation.{Valuation}
use Rattle.sv_types.specs.Layouts.{Layout, repeated}
use Rattle.sv_types.specs.Surroundings.{Around}
use Rattle.sv_types.specs.Meanings as S
use Rattle.sv_types.specs.Operators as O
use Rattle.v_meaning.specs.Scopes.{Scope}
use Rattle.v_meaning.specs.Values as T
use Rattle.lowering_laws.specs.Same.{Same, AllSame}
use Rattle.lowering_laws.proofs.Contexts.{typed-four, alone-width, alone-value}

pub joined-width : (es : List S.Meaning) (a : Around) (ms : List T.Meaning) (sc : Scope) (v : Valuation) → AllSame es a ms sc v → T.joined_width ms sc ≡ O.width_of_all es
joined-width [] a [] sc v h = refl
joined-width [] a (m ∷ ms) sc v h = absurd h
joined-width (e ∷ es) a [] sc v h = absurd h
joined-width (e ∷ es) a (m ∷ ms) sc v h = (let one = alone-width e a m sc v h.0 in let rest = joined-width es a ms sc v h.1 in omega arith)

pub joined-same : (es : List S.Meaning) (a : Around) (ms : List T.Meaning) (sc : Scope) (v : Valuation) → AllSame es a ms sc v → T.joined ms sc v ≡ O.joined es a
joined-same [] a [] sc v h = refl
joined-same [] a (m ∷ ms) sc v h = absurd h
joined-same (e ∷ es) a [] sc v h = absurd h
joined-same (e ∷ es) a (m ∷ ms) sc v h = λ i. joined-same es a ms sc v h.1 i ++ alone-value e a m sc v h.0 i

pub concat-same : (of : Layout) (at : ℕ) (es : List S.Meaning) (w : ℕ) (s : Bool) (a : Around) (ms : List T.Meaning) (sc : Scope) (v : Valuation)
    → (O.concat of at es).misfits ≡ 0 → AllSame es a ms sc v → Same (O.concat of at es) w s a (T.concatenation ms) sc v
unfolding O.concat T.concatenation
concat-same of at es w s a ms sc v fits h =
    let t = typed-four of (O.width_of_all es) false _ _ fits in
    let width = t.width in
    let target = joined-width es a ms sc v h in
    record {
      least = omega arith;
      most = omega arith;
      sign = sym t.sign;
      value = ap (ext w s) (joined-same es a ms sc v h);
    }

-- copies of one list above each other
around : {A : Type 0} (n : ℕ) (xs : List A) → xs ++ T.often n xs ≡ T.often n xs ++ xs
around zero xs = append-nil xs
around (suc n) xs = ap (λ ys. xs ++ ys) (around n xs) ∙ sym (append_assoc xs (T.often n xs) xs)

often-is : {A : Type 0} (n : ℕ) (xs : List A) → T.often n xs ≡ repeated n xs
unfolding repeated
often-is zero xs = refl
often-is (suc n) xs = around n xs ∙ ap (λ ys. ys ++ xs) (often-is n xs)

pub repeat-same : (of : Layout) (at n : ℕ) (es : List S.Meaning) (w : ℕ) (s : Bool) (a : Around) (ms : List T.Meaning) (sc : Scope) (v : Valuation)
    → (O.repeat of at n es).misfits ≡ 0 → AllSame es a ms sc v → Same (O.repeat of at n es) w s a (T.repetition n ms) sc v
unfolding O.repeat T.repetition
repeat-same of at n es w s a ms sc v fits h =
    let t = typed-four of (n * O.width_of_all es) false _ _ fits in
    let width = t.width ∙ sym (ap (λ k. n * k) (joined-width es a ms sc v h)) in
    record {
      least = omega arith;
      most = omega arith;
      sign = sym t.sign;
      value = ap (λ x. ext w s (T.often n x)) (joined-same es a ms sc v h) ∙ ap (ext w s) (often-is n (O.joined es a));
    }
