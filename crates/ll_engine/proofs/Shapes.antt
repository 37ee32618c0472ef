-- What a derivation is, by its first part and the next token.
use Rattle.std.proofs.Common.{◌≡◌, ℕ, suc, List, [], ◌∷◌, Option, Some, None, true, false, refl, ◌∙◌, ap, subst}
use Rattle.ll_engine.specs.declared.table.Part.{Part}
use Rattle.ll_engine.specs.declared.table.Row.{Row}
use Rattle.ll_engine.specs.declared.tree.Tree.{Tree}
use Rattle.ll_engine.specs.declared.tree.Tree.TheVariants.{Leaf, Node}
use Rattle.ll_engine.specs.declared.table.Part.TheVariants.{Term, Non, Maybe, Many, Chain}
use Rattle.ll_engine.specs.Grammar.{terminal, named, is_optional, IsRowOf, IsBlank, IsBegun, Begins}
use Rattle.ll_engine.specs.Reading.{Nested, at_nesting, next, level, inside, left_after, Reads}

pub symbol_only : (p : Part) {s h : ℕ} → terminal p ≡ Some s → named p ≡ Some h → ⊥
symbol_only (Term a) e f = cc
symbol_only (Non a) e f = cc
symbol_only (Maybe a) e f = cc
symbol_only (Many a) e f = cc
symbol_only (Chain a) e f = cc

pub symbol_not_optional : (p : Part) {s : ℕ} → terminal p ≡ Some s → is_optional p ≡ true → ⊥
symbol_not_optional (Term a) e f = cc
symbol_not_optional (Non a) e f = cc
symbol_not_optional (Maybe a) e f = cc
symbol_not_optional (Many a) e f = cc
symbol_not_optional (Chain a) e f = cc

-- a row of the head begins, so the part begins
pub part_begun : {t : List Row} {h i : ℕ} {row : Row} (p : Part) (ps : List Part) (x : Option ℕ)
    → named p ≡ Some h → IsRowOf t h i row → IsBegun t row.parts x → IsBegun t (p ∷ ps) x
part_begun p ps None e r b = b
part_begun p ps (Some a) e r b = Begins.inside e r b

module _ (t : List Row) (deeper : ℕ → ℕ) where
  pub record IsEnded (at : ℕ) (w : List Nested) (ts : List Tree) (to : ℕ) (rest : List Nested) : Type 0 where
    pub nothing : ts ≡ []
    pub same_at : at ≡ to
    pub same : w ≡ rest

  pub ended : {around turn at to : ℕ} {w rest : List Nested} {ts : List Tree}
      → Reads t deeper around turn [] at w ts to rest → IsEnded at w ts to rest
  ended (Reads.ended e f) = record { nothing = refl; same_at = e; same = f }

  pub record IsSymbol (around s : ℕ) (ps : List Part) (at : ℕ) (w : List Nested) (ts : List Tree) (to : ℕ) (rest : List Nested) : Type 0 where
    pub v : List Nested
    pub us : List Tree
    pub text : w ≡ at_nesting s around ∷ v
    pub trees : ts ≡ Leaf at ∷ us
    pub reads : Reads t deeper around around ps (suc at) v us to rest

  pub symbol : {around turn s at to : ℕ} {p : Part} {ps : List Part} {w rest : List Nested} {ts : List Tree}
      → terminal p ≡ Some s
      → Reads t deeper around turn (p ∷ ps) at w ts to rest
      → IsSymbol around s ps at w ts to rest
  symbol {p = p} e (Reads.symbol {w = v} {ts = us} f g l r) =
      record { v = v; us = us; text = cc; trees = cc; reads = r }
  symbol {p = p} e (Reads.taken f _ _ _ _ _ _) = absurd (symbol_only p e f)
  symbol {p = p} e (Reads.left_out f _ _) = absurd (symbol_not_optional p e f)
  symbol {p = p} e (Reads.empty _ f _ _ _ _ _ _) = absurd (symbol_only p e f)

  pub record IsTaken (around turn i : ℕ) (row : Row) (p : Part) (ps : List Part) (at : ℕ) (w : List Nested) (ts : List Tree) (to : ℕ) (rest : List Nested) : Type 0 where
    pub kids : List Tree
    pub us : List Tree
    pub mid : ℕ
    pub u : List Nested
    pub trees : ts ≡ Node i kids ∷ us
    pub within : Reads t deeper (inside deeper row (level deeper p around turn)) (inside deeper row (level deeper p around turn)) row.parts at w kids mid u
    pub reads : Reads t deeper around (level deeper p around turn) (left_after p ps) mid u us to rest

  pub taken : {around turn h i at to : ℕ} {row : Row} {p : Part} {ps : List Part} {w rest : List Nested} {ts : List Tree}
      → ((j : ℕ) (r : Row) → IsRowOf t h j r → IsBegun t r.parts (next w) → (j ≡ i) × (r ≡ row))
      → named p ≡ Some h → IsRowOf t h i row → IsBegun t row.parts (next w)
      → Reads t deeper around turn (p ∷ ps) at w ts to rest
      → IsTaken around turn i row p ps at w ts to rest
  taken {p = p} only e r b (Reads.symbol f _ _ _) = absurd (symbol_only p f e)
  taken {p = p} only e r b (Reads.left_out _ n _) = absurd (n (part_begun p [] _ e r b))
  taken {p = p} only e r b (Reads.empty _ _ n _ _ _ _ _) = absurd (n (part_begun p [] _ e r b))
  taken {around} {turn} {h} {i} {at} {to} {row} {p} {ps} {w} {rest} only e r b (Reads.taken {n = n} {h = g} {i = j} {mid = mid} {row = s} {u = u} {x = x} {kids = kids} {ts = us} f rs bs l nx inner behind) =
      let same_head : g ≡ h = cc in
      let rs' = subst (λ q. IsRowOf t q j s) same_head rs in
      let o = only j s rs' bs in
      record {
        kids = kids;
        us = us;
        mid = mid;
        u = u;
        trees = ap (λ y. y ∷ us) nx ∙ ap (λ q. Node q kids ∷ us) o.0;
        within = subst (λ q. Reads t deeper (inside deeper q (level deeper p around turn)) (inside deeper q (level deeper p around turn)) q.parts at w kids mid u) o.1
            (subst (λ q. Reads t deeper (inside deeper s q) (inside deeper s q) s.parts at w kids mid u) l inner);
        reads = subst (λ q. Reads t deeper around q (left_after p ps) mid u us to rest) l behind;
      }

  pub left_out : {around turn at to : ℕ} {p : Part} {ps : List Part} {w rest : List Nested} {ts : List Tree}
      → is_optional p ≡ true → (IsBegun t (p ∷ []) (next w) → ⊥)
      → Reads t deeper around turn (p ∷ ps) at w ts to rest
      → Reads t deeper around around ps at w ts to rest
  left_out {p = p} e n (Reads.symbol f _ _ _) = absurd (symbol_not_optional p f e)
  left_out {p = p} e n (Reads.taken f r b _ _ _ _) = absurd (n (part_begun p [] _ f r b))
  left_out {p = p} e n (Reads.left_out _ _ r) = r
  left_out {p = p} e n (Reads.empty f _ _ _ _ _ _ _) = cc (f, e)

  pub record IsEmpty (around i : ℕ) (row : Row) (ps : List Part) (at : ℕ) (w : List Nested) (ts : List Tree) (to : ℕ) (rest : List Nested) : Type 0 where
    pub kids : List Tree
    pub us : List Tree
    pub mid : ℕ
    pub u : List Nested
    pub trees : ts ≡ Node i kids ∷ us
    pub within : Reads t deeper (inside deeper row around) (inside deeper row around) row.parts at w kids mid u
    pub reads : Reads t deeper around around ps mid u us to rest

  pub empty : {around turn h i at to : ℕ} {row : Row} {p : Part} {ps : List Part} {w rest : List Nested} {ts : List Tree}
      → ((j : ℕ) (r : Row) → IsRowOf t h j r → IsBlank t r.parts → (j ≡ i) × (r ≡ row))
      → is_optional p ≡ false → named p ≡ Some h → (IsBegun t (p ∷ []) (next w) → ⊥)
      → Reads t deeper around turn (p ∷ ps) at w ts to rest
      → IsEmpty around i row ps at w ts to rest
  empty {p = p} only e f n (Reads.symbol g _ _ _) = absurd (symbol_only p g f)
  empty {p = p} only e f n (Reads.taken g r b _ _ _ _) = absurd (n (part_begun p [] _ g r b))
  empty {p = p} only e f n (Reads.left_out g _ _) = cc (g, e)
  empty {around} {turn} {h} {i} {at} {to} {row} {p} {ps} {w} {rest} only e f n (Reads.empty {h = g} {i = j} {mid = mid} {row = s} {u = u} {kids = kids} {ts = us} _ fg _ rs bs nx inner behind) =
      let same_head : g ≡ h = cc in
      let rs' = subst (λ q. IsRowOf t q j s) same_head rs in
      let o = only j s rs' bs in
      record {
        kids = kids;
        us = us;
        mid = mid;
        u = u;
        trees = ap (λ y. y ∷ us) nx ∙ ap (λ q. Node q kids ∷ us) o.0;
        within = subst (λ q. Reads t deeper (inside deeper q around) (inside deeper q around) q.parts at w kids mid u) o.1 inner;
        reads = behind;
      }

  -- a head that neither begins nor can be empty is not read
  pub stuck : {around turn h at to : ℕ} {p : Part} {ps : List Part} {w rest : List Nested} {ts : List Tree}
      → is_optional p ≡ false → named p ≡ Some h
      → ((i : ℕ) (row : Row) → IsRowOf t h i row → IsBegun t row.parts (next w) → ⊥)
      → ((i : ℕ) (row : Row) → IsRowOf t h i row → IsBlank t row.parts → ⊥)
      → Reads t deeper around turn (p ∷ ps) at w ts to rest → ⊥
  stuck {p = p} e f n m (Reads.symbol g _ _ _) = symbol_only p g f
  stuck {h = h} {p = p} e f n m (Reads.taken {h = g} {i = j} {row = s} fg r b _ _ _ _) =
      let same_head : g ≡ h = cc in n j s (subst (λ q. IsRowOf t q j s) same_head r) b
  stuck {p = p} e f n m (Reads.left_out g _ _) = cc (g, e)
  stuck {h = h} {p = p} e f n m (Reads.empty {h = g} {i = j} {row = s} _ fg _ r b _ _ _) =
      let same_head : g ≡ h = cc in m j s (subst (λ q. IsRowOf t q j s) same_head r) b
