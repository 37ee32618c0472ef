-- No two answers are right at once.
use Rattle.std.proofs.Common.{◌≡◌, ◌≤◌, ◌<◌, ◌⊎◌, inl, inr, ℕ, zero, suc, List, [], ◌∷◌, map, take, drop, arith}
use Rattle.ll_engine.specs.declared.table.Row.{Row}
use Rattle.ll_engine.specs.declared.tree.Tree.{Tree}
use Rattle.ll_engine.specs.Class.{IsFit}
use Rattle.ll_engine.specs.Reading.{Nested, at_nesting}
use Rattle.ll_engine.specs.Texts.{symbol_of, Agrees, Within, IsReading, FailsAt, PassesFirst, PassesAt, OneAnswer, FrontsBegin}
use Rattle.ll_engine.proofs.One.{one_reading}

agrees_all : (n : ℕ) (w : List Nested) (ss : List ℕ) → map symbol_of w ≡ ss → Agrees n w ss
agrees_all zero w ss e = tt
agrees_all (suc n) [] [] e = tt
agrees_all (suc n) [] (a ∷ ss) e = cc
agrees_all (suc n) (at_nesting s d ∷ w) [] e = cc
agrees_all (suc n) (at_nesting s d ∷ w) (a ∷ ss) e =
    let h : s ≡ a = cc in
    let r : map symbol_of w ≡ ss = cc in
    (h, agrees_all n w ss r)

agrees_le : (n m : ℕ) (w : List Nested) (ss : List ℕ) → n ≤ m → Agrees m w ss → Agrees n w ss
agrees_le zero m w ss h a = tt
agrees_le (suc n) zero w ss h a = absurd (omega arith)
agrees_le (suc n) (suc m) [] [] h a = tt
agrees_le (suc n) (suc m) [] (b ∷ ss) h a = a
agrees_le (suc n) (suc m) (at_nesting s d ∷ w) [] h a = a
agrees_le (suc n) (suc m) (at_nesting s d ∷ w) (b ∷ ss) h a = (a.0, agrees_le n m w ss (omega arith) a.1)

within_take : (limit n : ℕ) (w : List Nested) → Within limit w → Within limit (take n w)
within_take limit zero w a = tt
within_take limit (suc n) [] a = tt
within_take limit (suc n) (at_nesting s d ∷ w) a = (a.0, within_take limit n w a.1)

within_less : (limit n m : ℕ) (w : List Nested) → n ≤ m → Within limit (take m w) → Within limit (take n w)
within_less limit zero m w h a = tt
within_less limit (suc n) zero w h a = absurd (omega arith)
within_less limit (suc n) (suc m) [] h a = tt
within_less limit (suc n) (suc m) (at_nesting s d ∷ w) h a = (a.0, within_less limit n m w (omega arith) a.1)

-- within the limit it does not pass it
within_at : (limit i n s d : ℕ) (w u : List Nested) → i < n → Within limit (take n w) → drop i w ≡ at_nesting s d ∷ u
    → limit < d → ⊥
within_at limit i zero s d w u h a e p = omega arith
within_at limit zero (suc n) s d [] u h a e p = cc
within_at limit zero (suc n) s d (at_nesting r c ∷ w) u h a e p = let f : c ≡ d = cc in let g = a.0 in omega (arith, f, g)
within_at limit (suc i) (suc n) s d [] u h a e p = cc
within_at limit (suc i) (suc n) s d (at_nesting r c ∷ w) u h a e p = within_at limit i n s d w u (omega arith) a.1 e p

not_within : (limit i n : ℕ) (w : List Nested) → i < n → Within limit (take n w) → PassesFirst w limit i → ⊥
not_within limit i n w h a p = within_at limit i n p.symbol p.nesting w p.rest h a p.is_at p.passes

order : (i j : ℕ) → (i < j) ⊎ (j ≤ i)
order i j = grind arith

same_or : (i j : ℕ) → (i < j → ⊥) → (j < i → ⊥) → i ≡ j
same_or i j a b = grind arith

pub fronts_begin : (t : List Row) → FrontsBegin t
fronts_begin t ss limit n m h f = record {
  text = f.text;
  tree = f.tree;
  is_text = f.is_text;
  agrees = agrees_le n m f.text ss h f.agrees;
  within = within_less limit n m f.text h f.within;
}

module _ (t : List Row) (k : IsFit t) (ss : List ℕ) (limit : ℕ) where
  reads_or_fails : (x : Tree) (i : ℕ) → IsReading t ss limit x → FailsAt t ss limit i → ⊥
  reads_or_fails x i r f = f.no_text r.text x r.is_text (agrees_all (suc i) r.text ss r.spells)

  reads_or_passes : (x : Tree) (i : ℕ) → IsReading t ss limit x → PassesAt t ss limit i → ⊥
  reads_or_passes x i r p =
      not_within limit i (suc i) r.text (omega arith) (within_take limit (suc i) r.text r.within)
      (p.each r.text x r.is_text (agrees_all (suc i) r.text ss r.spells))

  fails_before : (i j : ℕ) → FailsAt t ss limit i → FailsAt t ss limit j → i < j → ⊥
  fails_before i j a b h =
      let f = b.front in
      a.no_text f.text f.tree f.is_text (agrees_le (suc i) j f.text ss (omega arith) f.agrees)

  passes_before : (i j : ℕ) → PassesAt t ss limit i → PassesAt t ss limit j → i < j → ⊥
  passes_before i j a b h =
      let p = a.each b.text b.tree b.is_text (agrees_le (suc i) (suc j) b.text ss (omega arith) b.agrees) in
      let q = b.each b.text b.tree b.is_text b.agrees in
      not_within limit i j b.text h q.before p

  fails_or_passes : (i j : ℕ) → FailsAt t ss limit i → PassesAt t ss limit j → ⊥
  fails_or_passes i j a b = go (order j i)
    where
      go : (j < i) ⊎ (i ≤ j) → ⊥
      go (inl h) =
          let f = a.front in
          not_within limit j i f.text h f.within
          (b.each f.text f.tree f.is_text (agrees_le (suc j) i f.text ss (omega arith) f.agrees))
      go (inr h) = a.no_text b.text b.tree b.is_text (agrees_le (suc i) (suc j) b.text ss (omega arith) b.agrees)

  pub one_answer : OneAnswer t ss limit
  one_answer = record {
    reading = λ x y a b. one_reading t k ss limit limit x y a b;
    reads_or_fails = reads_or_fails;
    reads_or_passes = reads_or_passes;
    fails = λ i j a b. same_or i j (fails_before i j a b) (fails_before j i b a);
    passes = λ i j a b. same_or i j (passes_before i j a b) (passes_before j i b a);
    fails_or_passes = fails_or_passes;
  }
