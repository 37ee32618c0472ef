-- The marks of heads that lead with a symbol, and of heads that it follows.
use Rattle.std.proofs.Common.{◌≡◌, ◌++◌, ◌⊎◌, inl, inr, ℕ, zero, suc, List, [], ◌∷◌, Option, Some, None, Bool, true, false, cond, refl, sym, ◌∙◌, ap, subst, slice_get, drop}
use Rattle.std.specs.Prelude.{nat_eq}
use Rattle.ll_engine.specs.declared.table.Part.{Part}
use Rattle.ll_engine.specs.declared.table.Part.TheVariants.{Term, Non, Maybe, Many, Chain}
use Rattle.ll_engine.specs.declared.table.Row.{Row}
use Rattle.ll_engine.specs.declared.rules.Rule.{Rule}
use Rattle.ll_engine.specs.Grammar.{named, HasPart, IsRowOf, IsBlank}
use Rattle.ll_engine.specs.Class.{Leads, Follows}
use Rattle.ll_engine.specs.Facts.{RowLeads}
use Rattle.ll_engine.specs.Marks.{marked, Has, Holds, Tells, AreMarks}
use Rattle.ll_engine.specs.Rules.{rule, may_skip, front, lead_row, lead_rules, behind_part, follow_part, follow_row, follow_rules}
use Rattle.ll_engine.proofs.Members.{eq_true, true_eq, has_left, has_right, has_either, has_cond, cond_has, has_one, each_row, in_row, of_row, tells_as, told, tells, own_row}
use Rattle.ll_engine.proofs.Starts.{skip_blank, blank_skip}

module _ (t : List Row) (b : List Bool) (exact : (h : ℕ) → Tells (marked b h) (IsBlank t (Non h ∷ []))) where
  join : {p : Part} {ps : List Part} → IsBlank t (p ∷ []) → IsBlank t ps → IsBlank t (p ∷ ps)
  join (IsBlank.skipped e n) m = IsBlank.skipped e m
  join (IsBlank.empty f s c n) m = IsBlank.empty f s c m

  first_blank : {p : Part} {ps : List Part} → IsBlank t (p ∷ ps) → IsBlank t (p ∷ []) × IsBlank t ps
  first_blank (IsBlank.skipped e n) = (IsBlank.skipped e IsBlank.nothing, n)
  first_blank (IsBlank.empty f s c n) = (IsBlank.empty f s c IsBlank.nothing, n)

  cond_none : (c : Bool) (x : Option Part) (p : Part) → cond c x (Some p) ≡ None → (c ≡ true) × (x ≡ None)
  cond_none true x p e = (refl, e)
  cond_none false x p e = cc

  cond_some : (c : Bool) (x : Option Part) (p q : Part) → cond c x (Some p) ≡ Some q → ((c ≡ true) × (x ≡ Some q)) ⊎ ((c ≡ false) × (p ≡ q))
  cond_some true x p q e = inl (refl, e)
  cond_some false x p q e = let f : p ≡ q = cc in inr (refl, f)

  pub front_none : (ps : List Part) → front b ps ≡ None → IsBlank t ps
  front_none [] e = IsBlank.nothing
  front_none (p ∷ ps) e =
      let c = cond_none (may_skip b p) (front b ps) p e in join (skip_blank t b exact p c.0) (front_none ps c.1)

  pub none_front : (ps : List Part) → IsBlank t ps → front b ps ≡ None
  none_front [] n = refl
  none_front (p ∷ ps) n =
      let c = first_blank n in rw (blank_skip t b exact p c.0) (none_front ps c.1)

  -- a part that is not left out
  pub front_stays : (ps : List Part) (q : Part) → front b ps ≡ Some q → may_skip b q ≡ false
  front_stays [] q e = cc
  front_stays (p ∷ ps) q e = go (cond_some (may_skip b p) (front b ps) p q e) (front_stays ps q)
    where
      go : ((may_skip b p ≡ true) × (front b ps ≡ Some q)) ⊎ ((may_skip b p ≡ false) × (p ≡ q))
          → (front b ps ≡ Some q → may_skip b q ≡ false) → may_skip b q ≡ false
      go (inl x) rec = rec x.1
      go (inr x) rec = subst (λ y. may_skip b y ≡ false) x.1 x.0

  lead_more : (p : Part) (ps : List Part) (a : ℕ) → Leads t (p ∷ []) a → Leads t (p ∷ ps) a
  lead_more p ps a (Leads.itself e) = Leads.itself e
  lead_more p ps a (Leads.inside f n s l) = Leads.inside f n s l
  lead_more p ps a (Leads.behind c l) = elim l [ ]

  pub front_leads : (ps : List Part) (q : Part) (a : ℕ) → front b ps ≡ Some q → Leads t (q ∷ []) a → Leads t ps a
  front_leads [] q a e l = cc
  front_leads (p ∷ ps) q a e l = go (cond_some (may_skip b p) (front b ps) p q e) (λ f. front_leads ps q a f l)
    where
      go : ((may_skip b p ≡ true) × (front b ps ≡ Some q)) ⊎ ((may_skip b p ≡ false) × (p ≡ q))
          → (front b ps ≡ Some q → Leads t ps a) → Leads t (p ∷ ps) a
      go (inl x) rec = Leads.behind (skip_blank t b exact p x.0) (rec x.1)
      go (inr x) rec = lead_more p ps a (subst (λ y. Leads t (y ∷ []) a) (sym x.1) l)

  pub not_blank : (m : ℕ) → may_skip b (Non m) ≡ false → IsBlank t (Non m ∷ []) → ⊥
  not_blank m e n = let f = blank_skip t b exact (Non m) n in cc (e, f)

  -- the first part that is not left out, as it leads with the symbol
  pub data LeadPart (a : ℕ) : Part → Type 0 where
    term : LeadPart a (Term a)
    non : {m i : ℕ} {row : Row} → IsRowOf t m i row → Leads t row.parts a → LeadPart a (Non m)

  false_or_not : (c : Bool) → (c ≡ true) ⊎ (c ≡ false)
  false_or_not true = inl refl
  false_or_not false = inr refl

  stays : (p : Part) → (IsBlank t (p ∷ []) → ⊥) → may_skip b p ≡ false
  stays p n = go (false_or_not (may_skip b p))
    where
      go : (may_skip b p ≡ true) ⊎ (may_skip b p ≡ false) → may_skip b p ≡ false
      go (inl e) = absurd (n (skip_blank t b exact p e))
      go (inr e) = e

  front_first : (p : Part) (ps : List Part) → may_skip b p ≡ false → front b (p ∷ ps) ≡ Some p
  front_first p ps e = rw e refl

  pub leads_front : {ps : List Part} {a : ℕ} → Leads t ps a → (q : Part) × (front b ps ≡ Some q) × LeadPart a q
  leads_front (Leads.itself {p = Term x} {ps = ps} {a = a} e) =
      let s : x ≡ a = cc in (Term x, refl, subst (λ y. LeadPart a (Term y)) (sym s) LeadPart.term)
  leads_front (Leads.itself {p = Non x} e) = cc
  leads_front (Leads.itself {p = Maybe x} e) = cc
  leads_front (Leads.itself {p = Many x} e) = cc
  leads_front (Leads.itself {p = Chain x} e) = cc
  leads_front (Leads.inside {p = Term x} f n s l) = cc
  leads_front (Leads.inside {p = Non x} {ps = ps} {a = a} {h = h} {i = i} {row = row} f n s l) =
      let same : h ≡ x = cc in
      (Non x, front_first (Non x) ps (stays (Non x) n), LeadPart.non (subst (λ y. IsRowOf t y i row) same s) l)
  leads_front (Leads.inside {p = Maybe x} f n s l) = absurd (n (IsBlank.skipped refl IsBlank.nothing))
  leads_front (Leads.inside {p = Many x} f n s l) = absurd (n (IsBlank.skipped refl IsBlank.nothing))
  leads_front (Leads.inside {p = Chain x} f n s l) = absurd (n (IsBlank.skipped refl IsBlank.nothing))
  leads_front (Leads.behind {p = p} {ps = ps} {a = a} c l) =
      let r = leads_front l in
      (r.0, rw (blank_skip t b exact p c) r.1, r.2)

  lead_each : (a : ℕ) (u : List Row) → lead_rules b a u ≡ each_row (λ row. lead_row a row.head (front b row.parts)) u
  lead_each a [] = refl
  lead_each a (row ∷ rows) = ap (λ q. lead_row a row.head (front b row.parts) ++ q) (lead_each a rows)

  -- what a rule of the row says, by the part in front
  lead_says : (a h : ℕ) (ps : List Part) (r : Rule) (o : Option Part) → front b ps ≡ o → Has (lead_row a h o) r
      → ((k : ℕ) → Has r.from k → RowLeads t a k) → Leads t ps a × (r.to ≡ h)
  lead_says a h ps r None e n f = absurd n
  lead_says a h ps r (Some (Term x)) e n f =
      let c = has_cond (nat_eq x a) (rule h [] ∷ []) r n in
      let d = has_one (rule h []) r c.1 in
      (front_leads ps (Term x) a e (Leads.itself (ap Some (eq_true x a c.0))), sym (ap (λ q. q.to) d))
  lead_says a h ps r (Some (Non m)) e n f =
      let d = has_one (rule h (m ∷ [])) r n in
      let from : m ∷ [] ≡ r.from = ap (λ q. q.from) d in
      let l = f m (subst (λ q. Has q m) from (inl refl)) in
      (front_leads ps (Non m) a e (Leads.inside refl (not_blank m (front_stays ps (Non m) e)) l.is_row l.leads), sym (ap (λ q. q.to) d))
  lead_says a h ps r (Some (Maybe m)) e n f = absurd n
  lead_says a h ps r (Some (Many m)) e n f = absurd n
  lead_says a h ps r (Some (Chain m)) e n f = absurd n

  leads_of : (a h : ℕ) → Holds (lead_rules b a t) h → RowLeads t a h
  leads_of a h (Holds.by_rule r m e f) =
      let n = in_row (λ row. lead_row a row.head (front b row.parts)) t r (subst (λ q. Has q r) (lead_each a t) m) in
      let y = lead_says a n.row.head n.row.parts r (front b n.row.parts) refl n.has (λ k q. leads_of a k (f k q)) in
      record { at = n.at; row = n.row; is_row = own_row h n.is_there (sym y.1 ∙ e); leads = y.0 }

  lead_of : (a i : ℕ) (row : Row) (r : Rule) → slice_get t i ≡ Some row → Has (lead_row a row.head (front b row.parts)) r
      → Has (lead_rules b a t) r
  lead_of a i row r e n =
      subst (λ q. Has q r) (sym (lead_each a t)) (of_row (λ row. lead_row a row.head (front b row.parts)) t i row r e n)

  of_leads : {ps : List Part} {a : ℕ} → Leads t ps a → (h i : ℕ) (row : Row) → IsRowOf t h i row → front b row.parts ≡ front b ps
      → Holds (lead_rules b a t) h
  of_leads (Leads.itself {p = Term x} {ps = ps} {a = a} e) h i row s f =
      let same : x ≡ a = cc in
      Holds.by_rule (rule row.head [])
      (lead_of a i row (rule row.head []) s.is_there
      (subst (λ q. Has (lead_row a row.head q) (rule row.head [])) (sym f)
      (cond_has (nat_eq x a) (rule row.head [] ∷ []) (rule row.head []) (true_eq x a same) (inl refl))))
      s.is_of (λ k n. absurd n)
  of_leads (Leads.itself {p = Non x} e) h i row s f = cc
  of_leads (Leads.itself {p = Maybe x} e) h i row s f = cc
  of_leads (Leads.itself {p = Many x} e) h i row s f = cc
  of_leads (Leads.itself {p = Chain x} e) h i row s f = cc
  of_leads (Leads.inside {p = Term x} g n z l) h i row s f = cc
  of_leads (Leads.inside {p = Non x} {ps = ps} {a = a} {h = y} {i = j} {row = inner} g n z l) h i row s f =
      let same : y ≡ x = cc in
      let rec = of_leads l y j inner z refl in
      Holds.by_rule (rule row.head (x ∷ []))
      (lead_of a i row (rule row.head (x ∷ [])) s.is_there
      (subst (λ q. Has (lead_row a row.head q) (rule row.head (x ∷ []))) (sym (f ∙ front_first (Non x) ps (stays (Non x) n))) (inl refl)))
      s.is_of (λ k m. subst (λ q. Holds (lead_rules b a t) q) (same ∙ has_one x k m) rec)
  of_leads (Leads.inside {p = Maybe x} g n z l) h i row s f = absurd (n (IsBlank.skipped refl IsBlank.nothing))
  of_leads (Leads.inside {p = Many x} g n z l) h i row s f = absurd (n (IsBlank.skipped refl IsBlank.nothing))
  of_leads (Leads.inside {p = Chain x} g n z l) h i row s f = absurd (n (IsBlank.skipped refl IsBlank.nothing))
  of_leads (Leads.behind {p = p} {ps = ps} {a = a} c l) h i row s f =
      of_leads l h i row s (f ∙ skipped_front p ps (blank_skip t b exact p c))
    where
      skipped_front : (q : Part) (qs : List Part) → may_skip b q ≡ true → front b (q ∷ qs) ≡ front b qs
      skipped_front q qs e = rw e refl

  of_row_leads : (a h : ℕ) → RowLeads t a h → Holds (lead_rules b a t) h
  of_row_leads a h r = of_leads r.leads h r.at r.row r.is_row refl

  pub lead_marks : (a : ℕ) (marks : List Bool) → AreMarks (lead_rules b a t) marks
      → (h : ℕ) → Tells (marked marks h) (RowLeads t a h)
  lead_marks a marks m h = tells_as (marked marks h) (leads_of a h) (of_row_leads a h) (m h)

  module _ (a : ℕ) (leads : List Bool) (known : (m : ℕ) → Tells (marked leads m) (RowLeads t a m)) where
    follow_each : (u : List Row) → follow_rules b leads a u ≡ each_row (λ row. follow_row b leads a row.head row.parts) u
    follow_each [] = refl
    follow_each (row ∷ rows) = ap (λ q. follow_row b leads a row.head row.parts ++ q) (follow_each rows)

    record FollowPart (g : ℕ) (ps : List Part) (r : Rule) : Type 0 where
      at : ℕ
      part : Part
      behind : List Part
      is_part : HasPart ps at part behind
      has : Has (follow_part leads a (named part) g (front b behind)) r

    follow_at : (g : ℕ) (ps : List Part) (r : Rule) → Has (follow_row b leads a g ps) r → FollowPart g ps r
    follow_at g [] r n = absurd n
    follow_at g (p ∷ ps) r n =
        go (has_either (follow_part leads a (named p) g (front b ps)) (follow_row b leads a g ps) r n) (follow_at g ps r)
      where
        go : Has (follow_part leads a (named p) g (front b ps)) r ⊎ Has (follow_row b leads a g ps) r
            → (Has (follow_row b leads a g ps) r → FollowPart g ps r) → FollowPart g (p ∷ ps) r
        go (inl x) rec = record { at = 0; part = p; behind = ps; is_part = record { cut = refl }; has = x }
        go (inr x) rec =
            let m = rec x in
            record { at = suc m.at; part = m.part; behind = m.behind; is_part = record { cut = m.is_part.cut }; has = m.has }

    at_follow : (g : ℕ) (ps : List Part) (n : ℕ) (p : Part) (qs : List Part) (r : Rule) → drop n ps ≡ p ∷ qs
        → Has (follow_part leads a (named p) g (front b qs)) r → Has (follow_row b leads a g ps) r
    at_follow g [] zero p qs r e h = cc
    at_follow g [] (suc n) p qs r e h = cc
    at_follow g (x ∷ ps) zero p qs r e h =
        let f : x ≡ p = cc in
        let k : ps ≡ qs = cc in
        has_left (follow_part leads a (named x) g (front b ps)) (follow_row b leads a g ps) r
        (subst (λ y. Has (follow_part leads a (named y) g (front b ps)) r) (sym f)
        (subst (λ y. Has (follow_part leads a (named p) g (front b y)) r) (sym k) h))
    at_follow g (x ∷ ps) (suc n) p qs r e h =
        has_right (follow_part leads a (named x) g (front b ps)) (follow_row b leads a g ps) r (at_follow g ps n p qs r e h)

    behind_says : (h g i n : ℕ) (row : Row) (p : Part) (qs : List Part) (r : Rule) (o : Option Part) → IsRowOf t g i row
        → HasPart row.parts n p qs → named p ≡ Some h → front b qs ≡ o → Has (behind_part leads a h g o) r
        → ((k : ℕ) → Has r.from k → Follows t k (Some a)) → Follows t h (Some a) × (r.to ≡ h)
    behind_says h g i n row p qs r None s c e f m rec =
        let d = has_one (rule h (g ∷ [])) r m in
        let from : g ∷ [] ≡ r.from = ap (λ q. q.from) d in
        (Follows.last s c e (front_none qs f) (rec g (subst (λ q. Has q g) from (inl refl))), sym (ap (λ q. q.to) d))
    behind_says h g i n row p qs r (Some (Term x)) s c e f m rec =
        let y = has_cond (nat_eq x a) (rule h [] ∷ []) r m in
        let d = has_one (rule h []) r y.1 in
        (Follows.before s c e (front_leads qs (Term x) a f (Leads.itself (ap Some (eq_true x a y.0)))), sym (ap (λ q. q.to) d))
    behind_says h g i n row p qs r (Some (Non k)) s c e f m rec =
        let y = has_cond (marked leads k) (rule h [] ∷ []) r m in
        let d = has_one (rule h []) r y.1 in
        let l = tells (marked leads k) (known k) y.0 in (
          Follows.before s c e (front_leads qs (Non k) a f (Leads.inside refl (not_blank k (front_stays qs (Non k) f)) l.is_row l.leads)),
          sym (ap (λ q. q.to) d),
        )
    behind_says h g i n row p qs r (Some (Maybe k)) s c e f m rec = absurd m
    behind_says h g i n row p qs r (Some (Many k)) s c e f m rec = absurd m
    behind_says h g i n row p qs r (Some (Chain k)) s c e f m rec = absurd m

    follow_says : (g i n : ℕ) (row : Row) (p : Part) (qs : List Part) (r : Rule) (o : Option ℕ) → named p ≡ o → IsRowOf t g i row
        → HasPart row.parts n p qs → Has (follow_part leads a o g (front b qs)) r
        → ((k : ℕ) → Has r.from k → Follows t k (Some a)) → Follows t r.to (Some a)
    follow_says g i n row p qs r None e s c m rec = absurd m
    follow_says g i n row p qs r (Some h) e s c m rec =
        let y = behind_says h g i n row p qs r (front b qs) s c e refl m rec in
        subst (λ q. Follows t q (Some a)) (sym y.1) y.0

    follows_of : (h : ℕ) → Holds (follow_rules b leads a t) h → Follows t h (Some a)
    follows_of h (Holds.by_rule r m e f) =
        let n = in_row (λ row. follow_row b leads a row.head row.parts) t r (subst (λ q. Has q r) (follow_each t) m) in
        let p = follow_at n.row.head n.row.parts r n.has in
        subst (λ q. Follows t q (Some a)) e
        (follow_says n.row.head n.at p.at n.row p.part p.behind r (named p.part) refl (own_row n.row.head n.is_there refl) p.is_part p.has
        (λ k q. follows_of k (f k q)))

    follow_of : (i n : ℕ) (row : Row) (p : Part) (qs : List Part) (r : Rule) → slice_get t i ≡ Some row → HasPart row.parts n p qs
        → Has (follow_part leads a (named p) row.head (front b qs)) r → Has (follow_rules b leads a t) r
    follow_of i n row p qs r e c h =
        subst (λ q. Has q r) (sym (follow_each t))
        (of_row (λ row. follow_row b leads a row.head row.parts) t i row r e (at_follow row.head row.parts n p qs r c.cut h))

    -- the rule for a part that names the head
    behind_has : (h g : ℕ) (o : Option ℕ) (x : Option Part) (r : Rule) → o ≡ Some h → Has (behind_part leads a h g x) r
        → Has (follow_part leads a o g x) r
    behind_has h g o x r e m = subst (λ q. Has (follow_part leads a q g x) r) (sym e) m

    lead_has : (h g : ℕ) (q : Part) → LeadPart a q → Has (behind_part leads a h g (Some q)) (rule h [])
    lead_has h g (Term x) LeadPart.term = cond_has (nat_eq a a) (rule h [] ∷ []) (rule h []) (true_eq a a refl) (inl refl)
    lead_has h g (Maybe m) x = elim x [ ]
    lead_has h g (Many m) x = elim x [ ]
    lead_has h g (Chain m) x = elim x [ ]
    lead_has h g (Non m) (LeadPart.non {i = i} {row = row} s l) =
        cond_has (marked leads m) (rule h [] ∷ []) (rule h [])
        (told (marked leads m) (known m) (record { at = i; row = row; is_row = s; leads = l })) (inl refl)

    of_follows : {h : ℕ} {x : Option ℕ} → Follows t h x → x ≡ Some a → Holds (follow_rules b leads a t) h
    of_follows (Follows.at_end s) e = cc
    of_follows (Follows.before {h = h} {g = g} {i = i} {n = n} {a = y} {row = row} {p = p} {ps = qs} s c f l) e =
        let same : y ≡ a = cc in
        let r = leads_front (subst (λ q. Leads t qs q) same l) in
        Holds.by_rule (rule h [])
        (follow_of i n row p qs (rule h []) s.is_there c
        (behind_has h row.head (named p) (front b qs) (rule h []) f
        (subst (λ q. Has (behind_part leads a h row.head q) (rule h [])) (sym r.1) (lead_has h row.head r.0 r.2))))
        refl (λ k m. absurd m)
    of_follows (Follows.last {h = h} {g = g} {i = i} {n = n} {row = row} {p = p} {ps = qs} s c f z m) e =
        let rec = of_follows m e in
        Holds.by_rule (rule h (row.head ∷ []))
        (follow_of i n row p qs (rule h (row.head ∷ [])) s.is_there c
        (behind_has h row.head (named p) (front b qs) (rule h (row.head ∷ [])) f
        (subst (λ q. Has (behind_part leads a h row.head q) (rule h (row.head ∷ []))) (sym (none_front qs z)) (inl refl))))
        refl (λ k y. subst (λ q. Holds (follow_rules b leads a t) q) (sym s.is_of ∙ has_one row.head k y) rec)

    pub follow_marks : (marks : List Bool) → AreMarks (follow_rules b leads a t) marks
        → (h : ℕ) → Tells (marked marks h) (Follows t h (Some a))
    follow_marks marks m h = tells_as (marked marks h) (follows_of h) (λ f. of_follows f refl) (m h)
