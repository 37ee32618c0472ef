-- Derivations by the target table, put together part by part with what they mean.
use Rattle.std.proofs.Common.{◌≡◌, ℕ, zero, suc, ◌+◌, ◌≤◌, true, List, [], ◌∷◌, ◌++◌, map, drop, length, slice_get, Option, Some, refl, sym, ap, subst, ◌∙◌, append_assoc, arith, length-append}
use Rattle.ll_engine.specs.declared.table.Part.{Part}
use Rattle.ll_engine.specs.declared.table.Part.TheVariants.{Non, Maybe, Many}
use Rattle.ll_engine.specs.declared.table.Row.{Row}
use Rattle.ll_engine.specs.declared.tree.Tree.{Tree}
use Rattle.ll_engine.specs.declared.tree.Tree.TheVariants.{Leaf, Node}
use Rattle.ll_engine.specs.Grammar.{terminal, named, is_optional, IsRowOf, IsBegun}
use Rattle.ll_engine.specs.Reading.{Nested, at_nesting, next, level, inside, left_after, Reads}
use Rattle.ll_engine.specs.Texts.{symbol_of, Within}
use Rattle.v_tree.specs.Tokens.{Token}
use Rattle.v_tree.specs.Symbols.{symbol}
use Rattle.v_tree.specs.Table.{table}
use Rattle.v_tree.specs.declared.parts.VPart.{VPart}
use Rattle.v_tree.specs.Meaning.{row_meanings, by_row, token_part, part_of}
use Rattle.v_tree.specs.Reading.{nesting_limit}
use Rattle.v_tree.proofs.Derivations.{leaf-part, node-part}

-- the symbol that comes first
abbrev pub front : List Token → Option ℕ → Option ℕ
front [] after = after
front (t ∷ ts) after = Some (symbol t)

pub next-front : (text rest : List Nested) (ts : List Token) (after : Option ℕ) → map symbol_of text ≡ map symbol ts → next rest ≡ after
    → next (text ++ rest) ≡ front ts after
next-front [] rest [] after e h = h
next-front [] rest (t ∷ ts) after e h = cc
next-front (at_nesting s n ∷ text) rest [] after e h = cc
next-front (at_nesting s n ∷ text) rest (t ∷ ts) after e h = let same : s ≡ symbol t = cc in ap Some same

drop-next : {A : Type 0} (xs ys : List A) (at : ℕ) (x : A) → drop at xs ≡ x ∷ ys → drop (suc at) xs ≡ ys
drop-next [] ys zero x e = cc
drop-next [] ys (suc at) x e = cc
drop-next (z ∷ xs) ys zero x e = cc
drop-next (z ∷ xs) ys (suc at) x e = drop-next xs ys at x e

get-at : {A : Type 0} (xs ys : List A) (at : ℕ) (x : A) → drop at xs ≡ x ∷ ys → slice_get xs at ≡ Some x
get-at [] ys zero x e = cc
get-at [] ys (suc at) x e = cc
get-at (z ∷ xs) ys zero x e = let same : z ≡ x = cc in ap Some same
get-at (z ∷ xs) ys (suc at) x e = get-at xs ys at x e

drop-many : {A : Type 0} (xs ts ys : List A) (at : ℕ) → drop at xs ≡ ts ++ ys → drop (length ts + at) xs ≡ ys
drop-many {A = A} xs [] ys at e = let same : length {A = A} [] + at ≡ at = omega arith in ap (λ k. drop k xs) same ∙ e
drop-many {A = A} xs (t ∷ ts) ys at e =
    let same : length (t ∷ ts) + at ≡ length ts + suc at = omega arith in
    ap (λ k. drop k xs) same ∙ drop-many xs ts ys (suc at) (drop-next xs (ts ++ ys) at t e)

map-joined : {A B : Type 0} (f : A → B) (xs ys : List A) → map f (xs ++ ys) ≡ map f xs ++ map f ys
map-joined f [] ys = refl
map-joined f (x ∷ xs) ys = ap (λ zs. f x ∷ zs) (map-joined f xs ys)

within-joined : (limit : ℕ) (v w : List Nested) → Within limit v → Within limit w → Within limit (v ++ w)
within-joined limit [] w h k = k
within-joined limit (at_nesting s n ∷ v) w h k = (h.0, within-joined limit v w h.1 k)

module _ (all : List Token) where
  -- The parts read these tokens wherever they stand among all, in front of the symbol `after`, and mean `m`.
  pub record Phrase (around turn : ℕ) (ps : List Part) (ts : List Token) (after : Option ℕ) (m : List VPart) : Type 0 where
    pub text : List Nested
    pub spells : map symbol_of text ≡ map symbol ts
    pub within : Within nesting_limit text
    pub trees : ℕ → List Tree
    pub reads : (at : ℕ) (rest : List Nested) → next rest ≡ after → Reads table suc around turn ps at (text ++ rest) (trees at) (length ts + at) rest
    pub means : (at : ℕ) (more : List Token) → drop at all ≡ ts ++ more → map (part_of all) (trees at) ≡ m

  pub ended : (around turn : ℕ) (after : Option ℕ) → Phrase around turn [] [] after []
  ended around turn after = record {
    text = [];
    spells = refl;
    within = tt;
    trees = λ at. [];
    reads = λ at rest e. Reads.ended (omega arith) refl;
    means = λ at more e. refl;
  }

  pub symbol-read : {around turn : ℕ} {p : Part} {ps : List Part} {ts : List Token} {after : Option ℕ} {m : List VPart} (t : Token)
      → terminal p ≡ Some (symbol t) → around ≤ nesting_limit → Phrase around around ps ts after m
      → Phrase around turn (p ∷ ps) (t ∷ ts) after (token_part (Some t) ∷ m)
  symbol-read {around} {turn} {p} {ps} {ts} {after} {m} t is_symbol low h = record {
    text = at_nesting (symbol t) around ∷ h.text;
    spells = ap (λ xs. symbol t ∷ xs) h.spells;
    within = (low, h.within);
    trees = λ at. Leaf at ∷ h.trees (suc at);
    reads = λ at rest e. Reads.symbol is_symbol refl refl
        (subst (λ to. Reads table suc around around ps (suc at) (h.text ++ rest) (h.trees (suc at)) to rest)
        (count (length ts) at) (h.reads (suc at) rest e));
    means = λ at more e.
        ap (λ x. x ∷ map (part_of all) (h.trees (suc at))) (leaf-part all at ∙ ap token_part (get-at all (ts ++ more) at t e))
        ∙ ap (λ xs. token_part (Some t) ∷ xs) (h.means (suc at) more (drop-next all (ts ++ more) at t e));
  }
    where
      count : (n at : ℕ) → n + suc at ≡ suc n + at
      count n at = omega arith

  pub row-read : {around turn h i : ℕ} {p : Part} {ps : List Part} {row : Row} {ts us : List Token} {after : Option ℕ} {m n : List VPart}
      → named p ≡ Some h → IsRowOf table h i row → IsBegun table row.parts (front ts (front us after))
      → Phrase (inside suc row (level suc p around turn)) (inside suc row (level suc p around turn)) row.parts ts (front us after) m
      → Phrase around (level suc p around turn) (left_after p ps) us after n
      → Phrase around turn (p ∷ ps) (ts ++ us) after (by_row (slice_get row_meanings i) m ∷ n)
  row-read {around} {turn} {h} {i} {p} {ps} {row} {ts} {us} {after} {m} {n} is_named is_row begun a b = record {
    text = a.text ++ b.text;
    spells = map-joined symbol_of a.text b.text ∙ (λ j. a.spells j ++ b.spells j) ∙ sym (map-joined symbol ts us);
    within = within-joined nesting_limit a.text b.text a.within b.within;
    trees = λ at. Node i (a.trees at) ∷ b.trees (length ts + at);
    reads = λ at rest e.
        subst (λ w. Reads table suc around turn (p ∷ ps) at w (Node i (a.trees at) ∷ b.trees (length ts + at)) (length (ts ++ us) + at) rest)
        (sym (append_assoc a.text b.text rest))
        (subst (λ to. Reads table suc around turn (p ∷ ps) at (a.text ++ (b.text ++ rest)) (Node i (a.trees at) ∷ b.trees (length ts + at)) to rest)
        (count ts us at)
        (Reads.taken is_named is_row
        (subst (λ x. IsBegun table row.parts x) (sym (next-front a.text (b.text ++ rest) ts (front us after) a.spells (next-front b.text rest us after b.spells e))) begun)
        refl refl
        (a.reads at (b.text ++ rest) (next-front b.text rest us after b.spells e))
        (b.reads (length ts + at) rest e)));
    means = λ at more e.
        let here : drop at all ≡ ts ++ (us ++ more) = e ∙ append_assoc ts us more in
        ap (λ x. x ∷ map (part_of all) (b.trees (length ts + at)))
        (node-part all i (a.trees at) ∙ ap (by_row (slice_get row_meanings i)) (a.means at (us ++ more) here))
        ∙ ap (λ xs. by_row (slice_get row_meanings i) m ∷ xs) (b.means (length ts + at) more (drop-many all ts (us ++ more) at here));
  }
    where
      count : (xs ys : List Token) (at : ℕ) → length ys + (length xs + at) ≡ length (xs ++ ys) + at
      count xs ys at = omega (arith, length-append xs ys)

  pub left-out : {around turn : ℕ} {p : Part} {ps : List Part} {ts : List Token} {after : Option ℕ} {m : List VPart}
      → is_optional p ≡ true → (IsBegun table (p ∷ []) (front ts after) → ⊥) → Phrase around around ps ts after m
      → Phrase around turn (p ∷ ps) ts after m
  left-out {around} {turn} {p} {ps} {ts} {after} {m} o not_begun h = record {
    text = h.text;
    spells = h.spells;
    within = h.within;
    trees = h.trees;
    reads = λ at rest e. Reads.left_out o (λ b. not_begun (subst (λ x. IsBegun table (p ∷ []) x) (next-front h.text rest ts after h.spells e) b)) (h.reads at rest e);
    means = h.means;
  }

  pub meaning-is : {around turn : ℕ} {ps : List Part} {ts : List Token} {after : Option ℕ} {m n : List VPart} → m ≡ n → Phrase around turn ps ts after m → Phrase around turn ps ts after n
  meaning-is {around} {turn} {ps} {ts} {after} e h = subst (λ x. Phrase around turn ps ts after x) e h

  pub tokens-are : {around turn : ℕ} {ps : List Part} {ts us : List Token} {after : Option ℕ} {m : List VPart} → ts ≡ us → Phrase around turn ps ts after m → Phrase around turn ps us after m
  tokens-are {around} {turn} {ps} {ts} {us} {after} {m} e h = subst (λ x. Phrase around turn ps x after m) e h

  -- A row of the head reads these tokens in front of the symbol `after`, and means `n`.
  pub record Derived (h around : ℕ) (ts : List Token) (after : Option ℕ) (n : VPart) : Type 0 where
    pub number : ℕ
    pub row : Row
    pub is_row : IsRowOf table h number row
    pub begun : IsBegun table row.parts (front ts after)
    pub parts : List VPart
    pub inner : Phrase (inside suc row around) (inside suc row around) row.parts ts after parts
    pub means : by_row (slice_get row_meanings number) parts ≡ n

  pub by-row : (around : ℕ) {h i : ℕ} {row : Row} {ts : List Token} {after : Option ℕ} {m : List VPart} {n : VPart} → IsRowOf table h i row
      → IsBegun table row.parts (front ts after) → Phrase (inside suc row around) (inside suc row around) row.parts ts after m
      → by_row (slice_get row_meanings i) m ≡ n → Derived h around ts after n
  by-row around {h} {i} {row} {ts} {after} {m} {n} is_row begun inner means =
      record { number = i; row = row; is_row = is_row; begun = begun; parts = m; inner = inner; means = means }

  pub non-read : {around turn h : ℕ} {ps : List Part} {ts us : List Token} {after : Option ℕ} {m : List VPart} {n : VPart}
      → Derived h around ts (front us after) n → Phrase around around ps us after m → Phrase around turn (Non h ∷ ps) (ts ++ us) after (n ∷ m)
  non-read {m = m} d b = meaning-is (ap (λ x. x ∷ m) d.means) (row-read refl d.is_row d.begun d.inner b)

  pub maybe-read : {around turn h : ℕ} {ps : List Part} {ts us : List Token} {after : Option ℕ} {m : List VPart} {n : VPart}
      → Derived h around ts (front us after) n → Phrase around around ps us after m → Phrase around turn (Maybe h ∷ ps) (ts ++ us) after (n ∷ m)
  maybe-read {m = m} d b = meaning-is (ap (λ x. x ∷ m) d.means) (row-read refl d.is_row d.begun d.inner b)

  pub many-read : {around turn h : ℕ} {ps : List Part} {ts us : List Token} {after : Option ℕ} {m : List VPart} {n : VPart}
      → Derived h around ts (front us after) n → Phrase around around (Many h ∷ ps) us after m
      → Phrase around turn (Many h ∷ ps) (ts ++ us) after (n ∷ m)
  many-read {m = m} d b = meaning-is (ap (λ x. x ∷ m) d.means) (row-read refl d.is_row d.begun d.inner b)

  pub derived-tokens : {h around : ℕ} {ts us : List Token} {after : Option ℕ} {n : VPart} → ts ≡ us → Derived h around ts after n → Derived h around us after n
  derived-tokens {h} {around} {ts} {us} {after} {n} e d = subst (λ x. Derived h around x after n) e d
