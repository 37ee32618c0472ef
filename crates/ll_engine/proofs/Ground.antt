-- The marks of heads that have a text, and of heads that can be empty.
use Rattle.std.proofs.Common.{◌≡◌, ◌++◌, inl, inr, ℕ, List, [], ◌∷◌, Some, Bool, true, false, cond, ◌||◌, not, refl, sym, ◌∙◌, ap, subst, slice_get}
use Rattle.ll_engine.specs.declared.table.Part.{Part}
use Rattle.ll_engine.specs.declared.table.Part.TheVariants.{Term, Non, Maybe, Many, Chain}
use Rattle.ll_engine.specs.declared.table.Row.{Row}
use Rattle.ll_engine.specs.declared.rules.Rule.{Rule}
use Rattle.ll_engine.specs.Grammar.{IsBlank, HasText}
use Rattle.ll_engine.specs.Marks.{marked, Has, Holds, Tells, AreMarks}
use Rattle.ll_engine.specs.Rules.{rule, nons, has_symbol, ground_rules}
use Rattle.ll_engine.proofs.Members.{has_cond, cond_has, has_one, each_row, in_row, of_row, tells_as, own_row}

abbrev ground_row : Bool → Row → List Rule
ground_row symbols row = cond (symbols || not (has_symbol row.parts)) (rule row.head (nons row.parts) ∷ []) []

pub ground_each : (symbols : Bool) (t : List Row) → ground_rules symbols t ≡ each_row (ground_row symbols) t
ground_each symbols [] = refl
ground_each symbols (row ∷ rows) = ap (λ q. ground_row symbols row ++ q) (ground_each symbols rows)

pub record GroundRow (symbols : Bool) (t : List Row) (r : Rule) : Type 0 where
  pub at : ℕ
  pub row : Row
  pub is_there : slice_get t at ≡ Some row
  pub usable : (symbols || not (has_symbol row.parts)) ≡ true
  pub is_rule : rule row.head (nons row.parts) ≡ r

pub ground_row_of : (symbols : Bool) (t : List Row) (r : Rule) → Has (ground_rules symbols t) r → GroundRow symbols t r
ground_row_of symbols t r h =
    let m = in_row (ground_row symbols) t r (subst (λ q. Has q r) (ground_each symbols t) h) in
    let c = has_cond (symbols || not (has_symbol m.row.parts)) (rule m.row.head (nons m.row.parts) ∷ []) r m.has in
    record { at = m.at; row = m.row; is_there = m.is_there; usable = c.0; is_rule = has_one (rule m.row.head (nons m.row.parts)) r c.1 }

ground_has : (symbols : Bool) (t : List Row) (i : ℕ) (row : Row) → slice_get t i ≡ Some row
    → (symbols || not (has_symbol row.parts)) ≡ true → Has (ground_rules symbols t) (rule row.head (nons row.parts))
ground_has symbols t i row e u =
    subst (λ q. Has q (rule row.head (nons row.parts))) (sym (ground_each symbols t))
    (of_row (ground_row symbols) t i row (rule row.head (nons row.parts)) e
    (cond_has (symbols || not (has_symbol row.parts)) (rule row.head (nons row.parts) ∷ []) (rule row.head (nons row.parts)) u (inl refl)))

module _ (t : List Row) where
  text_row : (g : ℕ) (ps : List Part) → HasText t (Non g ∷ []) → HasText t ps → HasText t (Non g ∷ ps)
  text_row g ps (HasText.symbol e m) n = cc
  text_row g ps (HasText.skipped e m) n = cc
  text_row g ps (HasText.row f s m l) n = HasText.row f s m n

  parts_text : (ps : List Part) → ((g : ℕ) → Has (nons ps) g → HasText t (Non g ∷ [])) → HasText t ps
  parts_text [] f = HasText.nothing
  parts_text (Term a ∷ ps) f = HasText.symbol refl (parts_text ps f)
  parts_text (Non g ∷ ps) f = text_row g ps (f g (inl refl)) (parts_text ps (λ k m. f k (inr m)))
  parts_text (Maybe g ∷ ps) f = HasText.skipped refl (parts_text ps f)
  parts_text (Many g ∷ ps) f = HasText.skipped refl (parts_text ps f)
  parts_text (Chain g ∷ ps) f = HasText.skipped refl (parts_text ps f)

  text_of : (h : ℕ) → Holds (ground_rules true t) h → HasText t (Non h ∷ [])
  text_of h (Holds.by_rule r m e f) =
      let g = ground_row_of true t r m in
      let from : nons g.row.parts ≡ r.from = ap (λ q. q.from) g.is_rule in
      let to : g.row.head ≡ r.to = ap (λ q. q.to) g.is_rule in
      HasText.row refl (own_row h g.is_there (to ∙ e))
      (parts_text g.row.parts (λ k n. text_of k (f k (subst (λ q. Has q k) from n)))) HasText.nothing

  of_text : {ps : List Part} → HasText t ps → (g : ℕ) → Has (nons ps) g → Holds (ground_rules true t) g
  of_text HasText.nothing g m = absurd m
  of_text (HasText.symbol {p = Term a} e n) g m = of_text n g m
  of_text (HasText.symbol {p = Non a} e n) g m = cc
  of_text (HasText.symbol {p = Maybe a} e n) g m = cc
  of_text (HasText.symbol {p = Many a} e n) g m = cc
  of_text (HasText.symbol {p = Chain a} e n) g m = cc
  of_text (HasText.skipped {p = Term a} e n) g m = cc
  of_text (HasText.skipped {p = Non a} e n) g m = cc
  of_text (HasText.skipped {p = Maybe a} e n) g m = of_text n g m
  of_text (HasText.skipped {p = Many a} e n) g m = of_text n g m
  of_text (HasText.skipped {p = Chain a} e n) g m = of_text n g m
  of_text (HasText.row {p = Term a} f s x n) g m = cc
  of_text (HasText.row {p = Non a} {h = h} {i = i} {row = row} f s x n) g (inl e) =
      let same : h ≡ g = cc in
      Holds.by_rule (rule row.head (nons row.parts)) (ground_has true t i row s.is_there refl) (s.is_of ∙ same) (λ k q. of_text x k q)
  of_text (HasText.row {p = Non a} f s x n) g (inr m) = of_text n g m
  of_text (HasText.row {p = Maybe a} f s x n) g m = of_text n g m
  of_text (HasText.row {p = Many a} f s x n) g m = of_text n g m
  of_text (HasText.row {p = Chain a} f s x n) g m = of_text n g m

  pub text_marks : (marks : List Bool) → AreMarks (ground_rules true t) marks
      → (h : ℕ) → Tells (marked marks h) (HasText t (Non h ∷ []))
  text_marks marks m h = tells_as (marked marks h) (text_of h) (λ x. of_text x h (inl refl)) (m h)

  blank_row : (g : ℕ) (ps : List Part) → IsBlank t (Non g ∷ []) → IsBlank t ps → IsBlank t (Non g ∷ ps)
  blank_row g ps (IsBlank.skipped e m) n = cc
  blank_row g ps (IsBlank.empty f s m l) n = IsBlank.empty f s m n

  parts_blank : (ps : List Part) → not (has_symbol ps) ≡ true → ((g : ℕ) → Has (nons ps) g → IsBlank t (Non g ∷ []))
      → IsBlank t ps
  parts_blank [] u f = IsBlank.nothing
  parts_blank (Term a ∷ ps) u f = cc
  parts_blank (Non g ∷ ps) u f = blank_row g ps (f g (inl refl)) (parts_blank ps u (λ k m. f k (inr m)))
  parts_blank (Maybe g ∷ ps) u f = IsBlank.skipped refl (parts_blank ps u f)
  parts_blank (Many g ∷ ps) u f = IsBlank.skipped refl (parts_blank ps u f)
  parts_blank (Chain g ∷ ps) u f = IsBlank.skipped refl (parts_blank ps u f)

  blank_of : (h : ℕ) → Holds (ground_rules false t) h → IsBlank t (Non h ∷ [])
  blank_of h (Holds.by_rule r m e f) =
      let g = ground_row_of false t r m in
      let from : nons g.row.parts ≡ r.from = ap (λ q. q.from) g.is_rule in
      let to : g.row.head ≡ r.to = ap (λ q. q.to) g.is_rule in
      IsBlank.empty refl (own_row h g.is_there (to ∙ e))
      (parts_blank g.row.parts g.usable (λ k n. blank_of k (f k (subst (λ q. Has q k) from n)))) IsBlank.nothing

  no_symbol : {ps : List Part} → IsBlank t ps → not (has_symbol ps) ≡ true
  no_symbol IsBlank.nothing = refl
  no_symbol (IsBlank.skipped {p = Term a} e n) = cc
  no_symbol (IsBlank.skipped {p = Non a} e n) = cc
  no_symbol (IsBlank.skipped {p = Maybe a} e n) = no_symbol n
  no_symbol (IsBlank.skipped {p = Many a} e n) = no_symbol n
  no_symbol (IsBlank.skipped {p = Chain a} e n) = no_symbol n
  no_symbol (IsBlank.empty {p = Term a} f s x n) = cc
  no_symbol (IsBlank.empty {p = Non a} f s x n) = no_symbol n
  no_symbol (IsBlank.empty {p = Maybe a} f s x n) = no_symbol n
  no_symbol (IsBlank.empty {p = Many a} f s x n) = no_symbol n
  no_symbol (IsBlank.empty {p = Chain a} f s x n) = no_symbol n

  of_blank : {ps : List Part} → IsBlank t ps → (g : ℕ) → Has (nons ps) g → Holds (ground_rules false t) g
  of_blank IsBlank.nothing g m = absurd m
  of_blank (IsBlank.skipped {p = Term a} e n) g m = cc
  of_blank (IsBlank.skipped {p = Non a} e n) g m = cc
  of_blank (IsBlank.skipped {p = Maybe a} e n) g m = of_blank n g m
  of_blank (IsBlank.skipped {p = Many a} e n) g m = of_blank n g m
  of_blank (IsBlank.skipped {p = Chain a} e n) g m = of_blank n g m
  of_blank (IsBlank.empty {p = Term a} f s x n) g m = cc
  of_blank (IsBlank.empty {p = Non a} {h = h} {i = i} {row = row} f s x n) g (inl e) =
      let same : h ≡ g = cc in
      Holds.by_rule (rule row.head (nons row.parts)) (ground_has false t i row s.is_there (no_symbol x)) (s.is_of ∙ same) (λ k q. of_blank x k q)
  of_blank (IsBlank.empty {p = Non a} f s x n) g (inr m) = of_blank n g m
  of_blank (IsBlank.empty {p = Maybe a} f s x n) g m = of_blank n g m
  of_blank (IsBlank.empty {p = Many a} f s x n) g m = of_blank n g m
  of_blank (IsBlank.empty {p = Chain a} f s x n) g m = of_blank n g m

  pub blank_marks : (marks : List Bool) → AreMarks (ground_rules false t) marks
      → (h : ℕ) → Tells (marked marks h) (IsBlank t (Non h ∷ []))
  blank_marks marks m h = tells_as (marked marks h) (blank_of h) (λ x. of_blank x h (inl refl)) (m h)
