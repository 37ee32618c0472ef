-- What the facts of a table say.
use Rattle.std.proofs.Common.{◌≡◌, ◌+◌, ◌<◌, ◌≤◌, ◌&&◌, ◌⊎◌, inl, inr, max, ℕ, zero, suc, List, [], ◌∷◌, Option, Some, None, Bool, true, false, cond, refl, sym, ◌∙◌, ap, subst, slice_get, get_or, length, arith}
use Rattle.std.specs.Prelude.{nat_eq, is_none}
use Rattle.ll_engine.specs.declared.table.Part.{Part}
use Rattle.ll_engine.specs.declared.table.Part.TheVariants.{Term, Non, Maybe, Many, Chain}
use Rattle.ll_engine.specs.declared.table.Row.{Row}
use Rattle.ll_engine.specs.declared.tables.Head.{Head}
use Rattle.ll_engine.specs.declared.facts.Facts.{Facts}
use Rattle.ll_engine.specs.declared.facts.SymbolFacts.{SymbolFacts}
use Rattle.ll_engine.specs.Grammar.{terminal, named, HasPart, IsRowOf, IsBlank, Begins, HasText}
use Rattle.ll_engine.specs.Class.{IsFit, Leads, Follows, ComesAt, StartsWith, LeadsTo}
use Rattle.ll_engine.specs.Knows.{flatten, begun_of, blank_of, rank_of, row_begun, row_blank, rank}
use Rattle.ll_engine.specs.Marks.{marked, Has, Tells}
use Rattle.ll_engine.specs.Rules.{front}
use Rattle.ll_engine.specs.Facts.{RowLeads, AreFacts, AreHeads, widest, width, head_count, begun, first_begun, first_blank, begun_rows, rank_in, head_of, comes}
use Rattle.ll_engine.proofs.Members.{eq_true, true_eq, tells_as, told, tells}
use Rattle.ll_engine.proofs.Closing.{slice_get_short}
use Rattle.ll_engine.proofs.Ground.{text_marks, blank_marks}
use Rattle.ll_engine.proofs.Starts.{begin_marks, reach_marks}
use Rattle.ll_engine.proofs.Leading.{front_none, none_front, front_stays, front_leads, leads_front, lead_marks, follow_marks, LeadPart, not_blank}
use Rattle.ll_engine.proofs.Tests.{tells_or, tells_and, tells_self, first_from, first_found, first_none, short_get}

-- symbols are below the width
widest_grows : (ps : List Part) (n : ℕ) → n ≤ widest ps n
widest_grows [] n = omega arith
widest_grows (Term a ∷ ps) n = let h = widest_grows ps (max n (a + 1)) in omega (arith, h)
widest_grows (Non a ∷ ps) n = widest_grows ps n
widest_grows (Maybe a ∷ ps) n = widest_grows ps n
widest_grows (Many a ∷ ps) n = widest_grows ps n
widest_grows (Chain a ∷ ps) n = widest_grows ps n

width_grows : (t : List Row) (n : ℕ) → n ≤ width t n
width_grows [] n = omega arith
width_grows (row ∷ t) n = let h = width_grows t (widest row.parts n) in let k = widest_grows row.parts n in omega (arith, h, k)

part_below : (ps : List Part) (n : ℕ) (p : Part) (a : ℕ) → Has ps p → terminal p ≡ Some a → a < widest ps n
part_below [] n p a h e = absurd h
part_below (Term x ∷ ps) n p a (inl f) e =
    let same : x ≡ a = cc in let h = widest_grows ps (max n (x + 1)) in omega (arith, h, same)
part_below (Non x ∷ ps) n p a (inl f) e = cc
part_below (Maybe x ∷ ps) n p a (inl f) e = cc
part_below (Many x ∷ ps) n p a (inl f) e = cc
part_below (Chain x ∷ ps) n p a (inl f) e = cc
part_below (Term x ∷ ps) n p a (inr h) e = part_below ps (max n (x + 1)) p a h e
part_below (Non x ∷ ps) n p a (inr h) e = part_below ps n p a h e
part_below (Maybe x ∷ ps) n p a (inr h) e = part_below ps n p a h e
part_below (Many x ∷ ps) n p a (inr h) e = part_below ps n p a h e
part_below (Chain x ∷ ps) n p a (inr h) e = part_below ps n p a h e

pub row_below : (t : List Row) (n i : ℕ) (row : Row) (p : Part) (a : ℕ) → slice_get t i ≡ Some row → Has row.parts p
    → terminal p ≡ Some a → a < width t n
row_below [] n i row p a e h f = cc
row_below (r ∷ t) n zero row p a e h f =
    let same : r ≡ row = cc in
    let b = part_below r.parts n p a (subst (λ q. Has q.parts p) (sym same) h) f in
    let g = width_grows t (widest r.parts n) in
    omega (arith, b, g)
row_below (r ∷ t) n (suc i) row p a e h f = row_below t (widest r.parts n) i row p a e h f

pub begins_below : (t : List Row) {ps : List Part} {a : ℕ} → Begins t ps a
    → ((p : Part) (x : ℕ) → Has ps p → terminal p ≡ Some x → x < width t 0) → a < width t 0
begins_below t (Begins.itself {p = p} {a = a} e) f = f p a (inl refl) e
begins_below t (Begins.inside {i = i} {row = row} e s m) f = begins_below t m (λ p x h g. row_below t 0 i row p x s.is_there h g)
begins_below t (Begins.behind c m) f = begins_below t m (λ p x h g. f p x (inr h) g)

pub row_begins_below : (t : List Row) (i : ℕ) (row : Row) (a : ℕ) → slice_get t i ≡ Some row → Begins t row.parts a → a < width t 0
row_begins_below t i row a e m = begins_below t m (λ p x h g. row_below t 0 i row p x e h g)

-- heads of rows are below the count
count_grows : (t : List Row) (n : ℕ) → n ≤ head_count t n
count_grows [] n = omega arith
count_grows (row ∷ t) n = let h = count_grows t (max n (row.head + 1)) in omega (arith, h)

pub head_below : (t : List Row) (n i : ℕ) (row : Row) → slice_get t i ≡ Some row → row.head < head_count t n
head_below [] n i row e = cc
head_below (r ∷ t) n zero row e =
    let same : r ≡ row = cc in
    let f : r.head ≡ row.head = ap (λ q. q.head) same in
    let h = count_grows t (max n (r.head + 1)) in omega (arith, h, f)
head_below (r ∷ t) n (suc i) row e = head_below t (max n (r.head + 1)) i row e

pub starts_part : {t : List Row} {ps : List Part} {g : ℕ} → StartsWith t ps g
    → (n : ℕ) × (p : Part) × (qs : List Part) × HasPart ps n p qs × (named p ≡ Some g)
starts_part (StartsWith.first {p = p} {ps = ps} e) = (0, p, ps, record { cut = refl }, e)
starts_part (StartsWith.behind c m) = let r = starts_part m in (suc r.0, r.1, r.2, record { cut = r.3.cut }, r.4)

module _ (t : List Row) (f : Facts) (af : AreFacts t f) where
  pub blank_tells : (h : ℕ) → Tells (marked f.blank h) (IsBlank t (Non h ∷ []))
  blank_tells = blank_marks t f.blank af.blank

  pub text_tells : (h : ℕ) → Tells (marked f.text h) (HasText t (Non h ∷ []))
  text_tells = text_marks t f.text af.text

  pub begin_tells : (a : ℕ) (s : SymbolFacts) → slice_get f.symbols a ≡ Some s
      → (h : ℕ) → Tells (marked s.begins h) (Begins t (Non h ∷ []) a)
  begin_tells a s e = begin_marks t f.blank blank_tells a s.begins (af.symbols a s e).begins

  lead_tells : (a : ℕ) (s : SymbolFacts) → slice_get f.symbols a ≡ Some s → (h : ℕ) → Tells (marked s.leads h) (RowLeads t a h)
  lead_tells a s e = lead_marks t f.blank blank_tells a s.leads (af.symbols a s e).leads

  follow_tells : (a : ℕ) (s : SymbolFacts) → slice_get f.symbols a ≡ Some s → (h : ℕ) → Tells (marked s.follows h) (Follows t h (Some a))
  follow_tells a s e = follow_marks t f.blank blank_tells a s.leads (lead_tells a s e) s.follows (af.symbols a s e).follows

  pub reach_tells : (i : ℕ) (row : Row) → slice_get t i ≡ Some row → (h : ℕ) → Tells (marked (get_or f.reaches i []) h) (LeadsTo t h row.head)
  reach_tells i row e = reach_marks t f.blank blank_tells row.head (get_or f.reaches i []) (af.reaches i row e)

  -- a part that names a head begins with what the head begins with, or with what comes behind it
  begins_split : (p : Part) (ps : List Part) (g a : ℕ) → named p ≡ Some g → Begins t (p ∷ ps) a
      → Begins t (Non g ∷ []) a ⊎ (IsBlank t (p ∷ []) × Begins t ps a)
  begins_split (Term x) ps g a e m = cc
  begins_split (Non x) ps g a e (Begins.itself h) = cc
  begins_split (Maybe x) ps g a e (Begins.itself h) = cc
  begins_split (Many x) ps g a e (Begins.itself h) = cc
  begins_split (Chain x) ps g a e (Begins.itself h) = cc
  begins_split p ps g a e (Begins.inside {h = y} {i = i} {row = row} h s m) = inl (Begins.inside (sym e ∙ h) s m)
  begins_split p ps g a e (Begins.behind c m) = inr (c, m)

  begins_join : (p : Part) (ps : List Part) (g a : ℕ) → named p ≡ Some g
      → Begins t (Non g ∷ []) a ⊎ (IsBlank t (p ∷ []) × Begins t ps a) → Begins t (p ∷ ps) a
  begins_join p ps g a e (inl (Begins.itself h)) = cc
  begins_join p ps g a e (inl (Begins.inside h s m)) = Begins.inside (e ∙ h) s m
  begins_join p ps g a e (inl (Begins.behind c m)) = elim m [ ]
  begins_join p ps g a e (inr m) = Begins.behind m.0 m.1

  term_begins : (x : ℕ) (ps : List Part) (a : ℕ) → Begins t (Term x ∷ ps) a → x ≡ a
  term_begins x ps a (Begins.itself e) = cc
  term_begins x ps a (Begins.inside e s m) = cc
  term_begins x ps a (Begins.behind (IsBlank.skipped e n) m) = cc
  term_begins x ps a (Begins.behind (IsBlank.empty e s c n) m) = cc

  nothing_begins : (a : ℕ) → Begins t [] a → ⊥
  nothing_begins a m = elim m [ ]

  pub begun_tells : (a : ℕ) (s : SymbolFacts) → slice_get f.symbols a ≡ Some s → (ps : List Part)
      → Tells (begun f.blank s.begins a ps) (Begins t ps a)
  begun_tells a s e [] = nothing_begins a
  begun_tells a s e (Term x ∷ ps) =
      tells_as (nat_eq x a) (λ q. Begins.itself (ap Some (eq_true x a q))) (λ m. true_eq x a (term_begins x ps a m)) (tells_self (nat_eq x a))
  begun_tells a s e (Non g ∷ ps) =
      tells_as (begun f.blank s.begins a (Non g ∷ ps)) (begins_join (Non g) ps g a refl) (begins_split (Non g) ps g a refl)
      (tells_or (Begins t (Non g ∷ []) a) (IsBlank t (Non g ∷ []) × Begins t ps a) (marked s.begins g) (marked f.blank g && begun f.blank s.begins a ps) (begin_tells a s e g)
      (tells_and (IsBlank t (Non g ∷ [])) (Begins t ps a) (marked f.blank g) (begun f.blank s.begins a ps) (blank_tells g) (begun_tells a s e ps)))
  begun_tells a s e (Maybe g ∷ ps) =
      tells_as (begun f.blank s.begins a (Maybe g ∷ ps)) (begins_join (Maybe g) ps g a refl) (begins_split (Maybe g) ps g a refl)
      (tells_or (Begins t (Non g ∷ []) a) (IsBlank t (Maybe g ∷ []) × Begins t ps a) (marked s.begins g) (begun f.blank s.begins a ps) (begin_tells a s e g)
      (tells_and (IsBlank t (Maybe g ∷ [])) (Begins t ps a) true (begun f.blank s.begins a ps) (IsBlank.skipped refl IsBlank.nothing) (begun_tells a s e ps)))
  begun_tells a s e (Many g ∷ ps) =
      tells_as (begun f.blank s.begins a (Many g ∷ ps)) (begins_join (Many g) ps g a refl) (begins_split (Many g) ps g a refl)
      (tells_or (Begins t (Non g ∷ []) a) (IsBlank t (Many g ∷ []) × Begins t ps a) (marked s.begins g) (begun f.blank s.begins a ps) (begin_tells a s e g)
      (tells_and (IsBlank t (Many g ∷ [])) (Begins t ps a) true (begun f.blank s.begins a ps) (IsBlank.skipped refl IsBlank.nothing) (begun_tells a s e ps)))
  begun_tells a s e (Chain g ∷ ps) =
      tells_as (begun f.blank s.begins a (Chain g ∷ ps)) (begins_join (Chain g) ps g a refl) (begins_split (Chain g) ps g a refl)
      (tells_or (Begins t (Non g ∷ []) a) (IsBlank t (Chain g ∷ []) × Begins t ps a) (marked s.begins g) (begun f.blank s.begins a ps) (begin_tells a s e g)
      (tells_and (IsBlank t (Chain g ∷ [])) (Begins t ps a) true (begun f.blank s.begins a ps) (IsBlank.skipped refl IsBlank.nothing) (begun_tells a s e ps)))

  pub blank_parts : (ps : List Part) → Tells (is_none (front f.blank ps)) (IsBlank t ps)
  blank_parts ps = go (front f.blank ps) refl
    where
      go : (o : Option Part) → front f.blank ps ≡ o → Tells (is_none o) (IsBlank t ps)
      go None e = front_none t f.blank blank_tells ps e
      go (Some p) e = λ b. let n = none_front t f.blank blank_tells ps b in cc (n, e)

  lead_term : (a x : ℕ) → LeadPart t f.blank blank_tells a (Term x) → x ≡ a
  lead_term a x LeadPart.term = refl

  lead_non : (a m : ℕ) → LeadPart t f.blank blank_tells a (Non m) → RowLeads t a m
  lead_non a m (LeadPart.non {i = i} {row = row} s l) = record { at = i; row = row; is_row = s; leads = l }

  no_lead : (a : ℕ) (p : Part) → ((x : ℕ) → p ≡ Term x → ⊥) → ((x : ℕ) → p ≡ Non x → ⊥) → LeadPart t f.blank blank_tells a p → ⊥
  no_lead a p n m LeadPart.term = n a refl
  no_lead a p n m (LeadPart.non {m = x} s l) = m x refl

  -- what comes here, by the part in front
  comes_front : (h a : ℕ) (ps : List Part) (p : Part) → front f.blank ps ≡ Some p → ComesAt t (Follows t h) ps (Some a)
      → LeadPart t f.blank blank_tells a p
  comes_front h a ps p e (ComesAt.here l) =
      let r = leads_front t f.blank blank_tells l in
      let same : r.0 ≡ p = some_same r.1 e in
      subst (λ q. LeadPart t f.blank blank_tells a q) same r.2
    where
      some_same : {x y : Part} → front f.blank ps ≡ Some x → front f.blank ps ≡ Some y → x ≡ y
      some_same u v = cc
  comes_front h a ps p e (ComesAt.later b y) = let n = none_front t f.blank blank_tells ps b in cc (n, e)

  pub comes_tells : (a : ℕ) (s : SymbolFacts) → slice_get f.symbols a ≡ Some s → (h : ℕ) (ps : List Part)
      → Tells (comes s a h (front f.blank ps)) (ComesAt t (Follows t h) ps (Some a))
  comes_tells a s e h ps = go (front f.blank ps) refl
    where
      at_none : front f.blank ps ≡ None → ComesAt t (Follows t h) ps (Some a) → Follows t h (Some a)
      at_none q (ComesAt.here l) = let r = leads_front t f.blank blank_tells l in let w = r.1 in cc (w, q)
      at_none q (ComesAt.later b y) = y

      go : (o : Option Part) → front f.blank ps ≡ o → Tells (comes s a h o) (ComesAt t (Follows t h) ps (Some a))
      go None q =
          tells_as (marked s.follows h) (λ y. ComesAt.later (front_none t f.blank blank_tells ps q) y) (at_none q) (follow_tells a s e h)
      go (Some (Term x)) q =
          tells_as (nat_eq x a)
          (λ y. ComesAt.here (front_leads t f.blank blank_tells ps (Term x) a q (Leads.itself (ap Some (eq_true x a y)))))
          (λ y. true_eq x a (lead_term a x (comes_front h a ps (Term x) q y)))
          (tells_self (nat_eq x a))
      go (Some (Non m)) q =
          tells_as (marked s.leads m)
          (λ y. ComesAt.here (front_leads t f.blank blank_tells ps (Non m) a q
          (Leads.inside refl (not_blank t f.blank blank_tells m (front_stays t f.blank blank_tells ps (Non m) q)) y.is_row y.leads)))
          (λ y. lead_non a m (comes_front h a ps (Non m) q y))
          (lead_tells a s e m)
      go (Some (Maybe m)) q = λ y. no_lead a (Maybe m) (λ x z. cc) (λ x z. cc) (comes_front h a ps (Maybe m) q y)
      go (Some (Many m)) q = λ y. no_lead a (Many m) (λ x z. cc) (λ x z. cc) (comes_front h a ps (Many m) q y)
      go (Some (Chain m)) q = λ y. no_lead a (Chain m) (λ x z. cc) (λ x z. cc) (comes_front h a ps (Chain m) q y)

  -- the rows that are kept of the heads
  abbrev begun_test : (blank begins : List Bool) (a h : ℕ) → Row → Bool
  begun_test blank begins a h row = nat_eq row.head h && begun blank begins a row.parts

  first_begun_is : (blank begins : List Bool) (a h : ℕ) (rows : List Row) (n : ℕ)
      → first_begun blank begins a h rows n ≡ first_from (λ row. nat_eq row.head h && begun blank begins a row.parts) rows n
  first_begun_is blank begins a h [] n = refl
  first_begun_is blank begins a h (row ∷ rows) n =
      ap (λ q. cond (nat_eq row.head h && begun blank begins a row.parts) (Some n) q) (first_begun_is blank begins a h rows (n + 1))

  first_blank_is : (blank : List Bool) (h : ℕ) (rows : List Row) (n : ℕ)
      → first_blank blank h rows n ≡ first_from (λ row. nat_eq row.head h && is_none (front blank row.parts)) rows n
  first_blank_is blank h [] n = refl
  first_blank_is blank h (row ∷ rows) n =
      ap (λ q. cond (nat_eq row.head h && is_none (front blank row.parts)) (Some n) q) (first_blank_is blank h rows (n + 1))

  both : (b c : Bool) → (b && c) ≡ true → (b ≡ true) × (c ≡ true)
  both true c e = (refl, e)
  both false c e = cc

  and_true : (b c : Bool) → b ≡ true → c ≡ true → (b && c) ≡ true
  and_true true c e g = g
  and_true false c e g = cc

  -- the first row of the head that the symbol begins
  found_begun : (a : ℕ) (s : SymbolFacts) → slice_get f.symbols a ≡ Some s → (h i : ℕ) → first_begun f.blank s.begins a h t 0 ≡ Some i
      → (row : Row) × IsRowOf t h i row × Begins t row.parts a
  found_begun a s e h i q =
      let r = first_found (λ row. nat_eq row.head h && begun f.blank s.begins a row.parts) t 0 i (sym (first_begun_is f.blank s.begins a h t 0) ∙ q) in
      let c = both (nat_eq r.item.head h) (begun f.blank s.begins a r.item.parts) r.passes in
      let n = r.number in
      let same : r.at ≡ i = omega (arith, n) in (
        r.item,
        record { is_there = subst (λ y. slice_get t y ≡ Some r.item) same r.is_there; is_of = eq_true r.item.head h c.0 },
        tells (begun f.blank s.begins a r.item.parts) (begun_tells a s e r.item.parts) c.1,
      )

  none_begun : (a : ℕ) (s : SymbolFacts) → slice_get f.symbols a ≡ Some s → (h : ℕ) → first_begun f.blank s.begins a h t 0 ≡ None
      → (i : ℕ) (row : Row) → IsRowOf t h i row → Begins t row.parts a → ⊥
  none_begun a s e h q i row r m =
      first_none (λ row. nat_eq row.head h && begun f.blank s.begins a row.parts) t 0 (sym (first_begun_is f.blank s.begins a h t 0) ∙ q)
      i row r.is_there
      (and_true (nat_eq row.head h) (begun f.blank s.begins a row.parts) (true_eq row.head h r.is_of)
      (told (begun f.blank s.begins a row.parts) (begun_tells a s e row.parts) m))

  found_blank : (h i : ℕ) → first_blank f.blank h t 0 ≡ Some i → (row : Row) × IsRowOf t h i row × IsBlank t row.parts
  found_blank h i q =
      let r = first_found (λ row. nat_eq row.head h && is_none (front f.blank row.parts)) t 0 i (sym (first_blank_is f.blank h t 0) ∙ q) in
      let c = both (nat_eq r.item.head h) (is_none (front f.blank r.item.parts)) r.passes in
      let n = r.number in
      let same : r.at ≡ i = omega (arith, n) in (
        r.item,
        record { is_there = subst (λ y. slice_get t y ≡ Some r.item) same r.is_there; is_of = eq_true r.item.head h c.0 },
        tells (is_none (front f.blank r.item.parts)) (blank_parts r.item.parts) c.1,
      )

  none_blank : (h : ℕ) → first_blank f.blank h t 0 ≡ None → (i : ℕ) (row : Row) → IsRowOf t h i row → IsBlank t row.parts → ⊥
  none_blank h q i row r m =
      first_none (λ row. nat_eq row.head h && is_none (front f.blank row.parts)) t 0 (sym (first_blank_is f.blank h t 0) ∙ q)
      i row r.is_there
      (and_true (nat_eq row.head h) (is_none (front f.blank row.parts)) (true_eq row.head h r.is_of)
      (told (is_none (front f.blank row.parts)) (blank_parts row.parts) m))

  begun_at : (h : ℕ) (ss : List SymbolFacts) (n a : ℕ) (s : SymbolFacts) → slice_get ss a ≡ Some s
      → slice_get (begun_rows f.blank h t ss n) a ≡ Some (first_begun f.blank s.begins (n + a) h t 0)
  begun_at h [] n a s e = cc
  begun_at h (x ∷ ss) n zero s e =
      let same : x ≡ s = cc in
      let z : n ≡ n + 0 = omega arith in
      ap (λ q. Some (first_begun f.blank q.begins n h t 0)) same ∙ ap (λ q. Some (first_begun f.blank s.begins q h t 0)) z
  begun_at h (x ∷ ss) n (suc a) s e =
      let z : (n + 1) + a ≡ n + suc a = omega arith in
      begun_at h ss (n + 1) a s e ∙ ap (λ q. Some (first_begun f.blank s.begins q h t 0)) z

  begun_past : (h : ℕ) (ss : List SymbolFacts) (n a : ℕ) → slice_get ss a ≡ None → slice_get (begun_rows f.blank h t ss n) a ≡ None
  begun_past h [] n a e = refl
  begun_past h (x ∷ ss) n zero e = cc
  begun_past h (x ∷ ss) n (suc a) e = begun_past h ss (n + 1) a e

  past_width : (a : ℕ) → slice_get f.symbols a ≡ None → width t 0 ≤ a
  past_width a e = go (below a (width t 0))
    where
      below : (x y : ℕ) → (x < y) ⊎ (y ≤ x)
      below x y = grind arith

      go : (a < width t 0) ⊎ (width t 0 ≤ a) → width t 0 ≤ a
      go (inl l) = let m = af.long in let s = short_get f.symbols a (omega (arith, l, m)) in let w = s.1 in cc (w, e)
      go (inr l) = l

  module _ (heads : List Head) (ah : AreHeads t f heads) where
    -- the row that is kept of the head for the symbol
    record Kept (h a : ℕ) (o : Option ℕ) : Type 0 where
      found : (i : ℕ) → o ≡ Some i → (row : Row) × IsRowOf t h i row × Begins t row.parts a
      none : o ≡ None → (i : ℕ) (row : Row) → IsRowOf t h i row → Begins t row.parts a → ⊥

    no_row : (h : ℕ) → slice_get heads h ≡ None → (i : ℕ) (row : Row) → IsRowOf t h i row → ⊥
    no_row h e i row r =
        let b = head_below t 0 i row r.is_there in
        let c = ah.count in
        let d = r.is_of in
        let s = short_get heads h (omega (arith, b, c, d)) in
        let w = s.1 in cc (w, e)

    kept : (h a : ℕ) → Kept h a (row_begun heads h a)
    kept h a = go (slice_get heads h) refl
      where
        inner : (x : Head) → x ≡ head_of t f h → (o : Option SymbolFacts) → slice_get f.symbols a ≡ o → Kept h a (flatten (slice_get x.begun a))
        inner x e None q =
            let z : slice_get x.begun a ≡ None = ap (λ y. slice_get y.begun a) e ∙ begun_past h f.symbols 0 a q in
            subst (λ y. Kept h a (flatten y)) (sym z) (record {
              found = λ i w. cc;
              none = λ w i row r m.
                  let b = row_begins_below t i row a r.is_there m in
                  let c = past_width a q in omega (arith, b, c);
            })
        inner x e (Some s) q =
            let z : slice_get x.begun a ≡ Some (first_begun f.blank s.begins (0 + a) h t 0) = ap (λ y. slice_get y.begun a) e ∙ begun_at h f.symbols 0 a s q in
            let n : 0 + a ≡ a = omega arith in
            let y : slice_get x.begun a ≡ Some (first_begun f.blank s.begins a h t 0) = z ∙ ap (λ v. Some (first_begun f.blank s.begins v h t 0)) n in
            subst (λ v. Kept h a (flatten v)) (sym y) (record { found = λ i w. found_begun a s q h i w; none = λ w i row r m. none_begun a s q h w i row r m })

        go : (o : Option Head) → slice_get heads h ≡ o → Kept h a (row_begun heads h a)
        go None e = subst (λ y. Kept h a (begun_of a y)) (sym e) (record { found = λ i w. cc; none = λ w i row r m. no_row h e i row r })
        go (Some x) e = subst (λ y. Kept h a (begun_of a y)) (sym e) (inner x (ah.each h x e) (slice_get f.symbols a) refl)

    record KeptBlank (h : ℕ) (o : Option ℕ) : Type 0 where
      found : (i : ℕ) → o ≡ Some i → (row : Row) × IsRowOf t h i row × IsBlank t row.parts
      none : o ≡ None → (i : ℕ) (row : Row) → IsRowOf t h i row → IsBlank t row.parts → ⊥

    kept_blank : (h : ℕ) → KeptBlank h (row_blank heads h)
    kept_blank h = go (slice_get heads h) refl
      where
        go : (o : Option Head) → slice_get heads h ≡ o → KeptBlank h (row_blank heads h)
        go None e = subst (λ y. KeptBlank h (blank_of y)) (sym e) (record { found = λ i w. cc; none = λ w i row r m. no_row h e i row r })
        go (Some x) e =
            subst (λ y. KeptBlank h (blank_of y)) (sym e)
            (subst (λ y. KeptBlank h y) (sym (ap (λ q. q.blank) (ah.each h x e)))
            (record { found = λ i w. found_blank h i w; none = λ w i row r m. none_blank h w i row r m }))

    pub begun_found : (h a i : ℕ) → row_begun heads h a ≡ Some i → (row : Row) × IsRowOf t h i row × Begins t row.parts a
    begun_found h a i e = (kept h a).found i e

    pub begun_none : (h a i : ℕ) (row : Row) → row_begun heads h a ≡ None → IsRowOf t h i row → Begins t row.parts a → ⊥
    begun_none h a i row e r m = (kept h a).none e i row r m

    pub blank_found : (h i : ℕ) → row_blank heads h ≡ Some i → (row : Row) × IsRowOf t h i row × IsBlank t row.parts
    blank_found h i e = (kept_blank h).found i e

    pub blank_none : (h i : ℕ) (row : Row) → row_blank heads h ≡ None → IsRowOf t h i row → IsBlank t row.parts → ⊥
    blank_none h i row e r m = (kept_blank h).none e i row r m

    rank_le : (ms : List (List Bool)) (g h : ℕ) → ((i : ℕ) (m : List Bool) → slice_get ms i ≡ Some m → marked m g ≡ true → marked m h ≡ true)
        → rank_in ms g ≤ rank_in ms h
    rank_le [] g h p = omega arith
    rank_le (m ∷ ms) g h p =
        let r = rank_le ms g h (λ i q e. p (suc i) q e) in
        let c = step (marked m g) (marked m h) (p 0 m refl) in
        omega (arith, r, c)
      where
        step : (x y : Bool) → (x ≡ true → y ≡ true) → cond {A = ℕ} x 1 0 ≤ cond {A = ℕ} y 1 0
        step true true k = omega arith
        step true false k = let z = k refl in cc
        step false true k = omega arith
        step false false k = omega arith

    rank_lt : (ms : List (List Bool)) (g h j : ℕ) (n : List Bool) → ((i : ℕ) (m : List Bool) → slice_get ms i ≡ Some m → marked m g ≡ true → marked m h ≡ true)
        → slice_get ms j ≡ Some n → marked n g ≡ false → marked n h ≡ true → rank_in ms g < rank_in ms h
    rank_lt [] g h j n p e u v = cc
    rank_lt (m ∷ ms) g h zero n p e u v =
        let same : m ≡ n = cc in
        let r = rank_le ms g h (λ i q w. p (suc i) q w) in
        let x : cond {A = ℕ} (marked m g) 1 0 ≡ 0 = ap (λ q. cond {A = ℕ} q 1 0) (subst (λ q. marked q g ≡ false) (sym same) u) in
        let y : cond {A = ℕ} (marked m h) 1 0 ≡ 1 = ap (λ q. cond {A = ℕ} q 1 0) (subst (λ q. marked q h ≡ true) (sym same) v) in
        omega (arith, r, x, y)
    rank_lt (m ∷ ms) g h (suc j) n p e u v =
        let r = rank_lt ms g h j n (λ i q w. p (suc i) q w) e u v in
        let c = step (marked m g) (marked m h) (p 0 m refl) in
        omega (arith, r, c)
      where
        step : (x y : Bool) → (x ≡ true → y ≡ true) → cond {A = ℕ} x 1 0 ≤ cond {A = ℕ} y 1 0
        step true true k = omega arith
        step true false k = let z = k refl in cc
        step false true k = omega arith
        step false false k = omega arith

    rank_is : (h i : ℕ) (row : Row) → IsRowOf t h i row → rank heads h ≡ rank_in f.reaches h
    rank_is h i row r = go (slice_get heads h) refl
      where
        go : (o : Option Head) → slice_get heads h ≡ o → rank heads h ≡ rank_in f.reaches h
        go None e = absurd (no_row h e i row r)
        go (Some x) e = ap rank_of e ∙ ap (λ q. q.rank) (ah.each h x e)

    get_same : (ms : List (List Bool)) (i : ℕ) (m : List Bool) → slice_get ms i ≡ Some m → get_or ms i [] ≡ m
    get_same [] i m e = cc
    get_same (x ∷ ms) zero m e = cc
    get_same (x ∷ ms) (suc i) m e = get_same ms i m e

    bool_not : (b : Bool) → (b ≡ true → ⊥) → b ≡ false
    bool_not true n = absurd (n refl)
    bool_not false n = refl

    -- a head ranks above what its rows start with
    pub ranked : IsFit t → (h g i : ℕ) (row : Row) → IsRowOf t h i row → StartsWith t row.parts g → rank heads g < rank heads h
    ranked k h g i row r m =
        let p = starts_part m in
        let x = (k.keeps i h row r).known p.0 g p.1 p.2 p.3 p.4 in
        let own = short_get f.reaches x.0 (reached x.0 x.1 x.2.is_there) in
        let each = λ (j : ℕ) (n : List Bool) (e : slice_get f.reaches j ≡ Some n) (w : marked n g ≡ true). up j n e w in
        let low = rank_is g x.0 x.1 x.2 in
        let high = rank_is h i row r in
        let lt = rank_lt f.reaches g h x.0 own.0 each own.1 (below x.0 x.1 x.2 own.0 own.1) (above x.0 x.1 x.2 own.0 own.1) in
        omega (arith, low, high, lt)
      where
        reached : (j : ℕ) (q : Row) → slice_get t j ≡ Some q → j < length f.reaches
        reached j q e = let s = slice_get_short t j q e in let n = af.reached in omega (arith, s, n)

        row_at : (j : ℕ) (n : List Bool) → slice_get f.reaches j ≡ Some n → (q : Row) × (slice_get t j ≡ Some q)
        row_at j n e = let s = slice_get_short f.reaches j n e in let l = af.reached in short_get t j (omega (arith, s, l))

        at : (j : ℕ) (n : List Bool) (q : Row) → slice_get f.reaches j ≡ Some n → slice_get t j ≡ Some q → (y : ℕ) → Tells (marked n y) (LeadsTo t y q.head)
        at j n q e w y = subst (λ v. Tells (marked v y) (LeadsTo t y q.head)) (get_same f.reaches j n e) (reach_tells j q w y)

        up : (j : ℕ) (n : List Bool) → slice_get f.reaches j ≡ Some n → marked n g ≡ true → marked n h ≡ true
        up j n e w =
            let q = row_at j n e in
            told (marked n h) (at j n q.0 e q.1 h) (LeadsTo.through r m (tells (marked n g) (at j n q.0 e q.1 g) w))

        above : (j : ℕ) (q : Row) → IsRowOf t g j q → (n : List Bool) → slice_get f.reaches j ≡ Some n → marked n h ≡ true
        above j q s n e =
            told (marked n h) (at j n q e s.is_there h) (subst (λ y. LeadsTo t h y) (sym s.is_of) (LeadsTo.directly r m))

        below : (j : ℕ) (q : Row) → IsRowOf t g j q → (n : List Bool) → slice_get f.reaches j ≡ Some n → marked n g ≡ false
        below j q s n e =
            bool_not (marked n g) (λ w.
            (k.keeps j g q s).not_left_recursive
            (subst (λ y. LeadsTo t y q.head) (sym s.is_of) (tells (marked n g) (at j n q e s.is_there g) w)))
