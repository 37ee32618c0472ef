-- The marks of heads that begin with a symbol, and of heads that lead to a head.
use Rattle.std.proofs.Common.{◌≡◌, ◌++◌, ◌⊎◌, inl, inr, ℕ, List, [], ◌∷◌, Some, Bool, true, cond, refl, sym, ◌∙◌, ap, subst, slice_get}
use Rattle.std.specs.Prelude.{nat_eq}
use Rattle.ll_engine.specs.declared.table.Part.{Part}
use Rattle.ll_engine.specs.declared.table.Part.TheVariants.{Term, Non, Maybe, Many, Chain}
use Rattle.ll_engine.specs.declared.table.Row.{Row}
use Rattle.ll_engine.specs.declared.rules.Rule.{Rule}
use Rattle.ll_engine.specs.declared.derive.Target.{Target}
use Rattle.ll_engine.specs.declared.derive.Target.TheVariants.{Symbol, Head}
use Rattle.ll_engine.specs.Grammar.{terminal, named, IsRowOf, IsBlank, Begins}
use Rattle.ll_engine.specs.Class.{StartsWith, LeadsTo}
use Rattle.ll_engine.specs.Marks.{marked, Has, Holds, Tells, AreMarks}
use Rattle.ll_engine.specs.Rules.{rule, may_skip, name_rules, start_part, start_row, start_rules}
use Rattle.ll_engine.proofs.Members.{eq_true, true_eq, has_left, has_right, has_either, has_cond, cond_has, has_one, each_row, InRow, in_row, of_row, tells_as, told, tells, own_row}

module _ (t : List Row) (b : List Bool) (exact : (h : ℕ) → Tells (marked b h) (IsBlank t (Non h ∷ []))) where
  pub skip_blank : (p : Part) → may_skip b p ≡ true → IsBlank t (p ∷ [])
  skip_blank (Term a) e = cc
  skip_blank (Non h) e = tells (marked b h) (exact h) e
  skip_blank (Maybe h) e = IsBlank.skipped refl IsBlank.nothing
  skip_blank (Many h) e = IsBlank.skipped refl IsBlank.nothing
  skip_blank (Chain h) e = IsBlank.skipped refl IsBlank.nothing

  pub blank_skip : (p : Part) → IsBlank t (p ∷ []) → may_skip b p ≡ true
  blank_skip (Term a) (IsBlank.skipped e n) = cc
  blank_skip (Term a) (IsBlank.empty f s m n) = cc
  blank_skip (Non h) n = told (marked b h) (exact h) n
  blank_skip (Maybe h) n = refl
  blank_skip (Many h) n = refl
  blank_skip (Chain h) n = refl

  abbrev row_starts : Target → Row → List Rule
  row_starts x row = start_row b x row.head row.parts

  start_each : (x : Target) (u : List Row) → start_rules b x u ≡ each_row (λ row. start_row b x row.head row.parts) u
  start_each x [] = refl
  start_each x (row ∷ rows) = ap (λ q. start_row b x row.head row.parts ++ q) (start_each x rows)

  start_in : (x : Target) (r : Rule) → Has (start_rules b x t) r → InRow (λ row. start_row b x row.head row.parts) t r
  start_in x r h = in_row (λ row. start_row b x row.head row.parts) t r (subst (λ q. Has q r) (start_each x t) h)

  start_of : (x : Target) (i : ℕ) (row : Row) (r : Rule) → slice_get t i ≡ Some row → Has (start_row b x row.head row.parts) r
      → Has (start_rules b x t) r
  start_of x i row r e h =
      subst (λ q. Has q r) (sym (start_each x t)) (of_row (λ row. start_row b x row.head row.parts) t i row r e h)

  -- a named part, read as its head
  named_begins : (p : Part) (ps : List Part) (g a : ℕ) → named p ≡ Some g → Begins t (Non g ∷ []) a → Begins t (p ∷ ps) a
  named_begins p ps g a e (Begins.itself f) = cc
  named_begins p ps g a e (Begins.inside f s m) = Begins.inside (e ∙ f) s m
  named_begins p ps g a e (Begins.behind c m) = elim m [ ]

  name_begins : (p : Part) (ps : List Part) (g a h : ℕ) (r : Rule) → named p ≡ Some g → Has (name_rules (Symbol a) h g) r
      → ((k : ℕ) → Has r.from k → Begins t (Non k ∷ []) a) → Begins t (p ∷ ps) a × (r.to ≡ h)
  name_begins p ps g a h r e (inl f) m =
      let from : g ∷ [] ≡ r.from = ap (λ q. q.from) f in
      (named_begins p ps g a e (m g (subst (λ q. Has q g) from (inl refl))), sym (ap (λ q. q.to) f))
  name_begins p ps g a h r e (inr f) m = absurd f

  part_begins : (p : Part) (ps : List Part) (a h : ℕ) (r : Rule) → Has (start_part (Symbol a) h p) r
      → ((k : ℕ) → Has r.from k → Begins t (Non k ∷ []) a) → Begins t (p ∷ ps) a × (r.to ≡ h)
  part_begins (Term x) ps a h r n m =
      let c = has_cond (nat_eq x a) (rule h [] ∷ []) r n in
      let e = has_one (rule h []) r c.1 in
      (Begins.itself (ap Some (eq_true x a c.0)), sym (ap (λ q. q.to) e))
  part_begins (Non g) ps a h r n m = name_begins (Non g) ps g a h r refl n m
  part_begins (Maybe g) ps a h r n m = name_begins (Maybe g) ps g a h r refl n m
  part_begins (Many g) ps a h r n m = name_begins (Many g) ps g a h r refl n m
  part_begins (Chain g) ps a h r n m = name_begins (Chain g) ps g a h r refl n m

  row_begins : (ps : List Part) (a h : ℕ) (r : Rule) → Has (start_row b (Symbol a) h ps) r
      → ((k : ℕ) → Has r.from k → Begins t (Non k ∷ []) a) → Begins t ps a × (r.to ≡ h)
  row_begins [] a h r n m = absurd n
  row_begins (p ∷ ps) a h r n m =
      go (has_either (start_part (Symbol a) h p) (cond (may_skip b p) (start_row b (Symbol a) h ps) []) r n) (row_begins ps a h r)
    where
      go : Has (start_part (Symbol a) h p) r ⊎ Has (cond (may_skip b p) (start_row b (Symbol a) h ps) []) r
          → (Has (start_row b (Symbol a) h ps) r → ((k : ℕ) → Has r.from k → Begins t (Non k ∷ []) a) → Begins t ps a × (r.to ≡ h))
          → Begins t (p ∷ ps) a × (r.to ≡ h)
      go (inl x) rec = part_begins p ps a h r x m
      go (inr x) rec =
          let c = has_cond (may_skip b p) (start_row b (Symbol a) h ps) r x in
          let y = rec c.1 m in
          (Begins.behind (skip_blank p c.0) y.0, y.1)

  begins_of : (a h : ℕ) → Holds (start_rules b (Symbol a) t) h → Begins t (Non h ∷ []) a
  begins_of a h (Holds.by_rule r m e f) =
      let n = start_in (Symbol a) r m in
      let y = row_begins n.row.parts a n.row.head r n.has (λ k q. begins_of a k (f k q)) in
      Begins.inside refl (own_row h n.is_there (sym y.1 ∙ e)) y.0

  -- a rule of the row whose heads are all marked
  record Found (x : Target) (h : ℕ) (ps : List Part) : Type 0 where
    r : Rule
    has : Has (start_row b x h ps) r
    to : r.to ≡ h
    from : (k : ℕ) → Has r.from k → Holds (start_rules b x t) k

  found_here : (x : Target) (h : ℕ) (p : Part) (ps : List Part) (r : Rule) → Has (start_part x h p) r → r.to ≡ h
      → ((k : ℕ) → Has r.from k → Holds (start_rules b x t) k) → Found x h (p ∷ ps)
  found_here x h p ps r n e f = record {
    r = r;
    has = has_left (start_part x h p) (cond (may_skip b p) (start_row b x h ps) []) r n;
    to = e;
    from = f;
  }

  found_later : (x : Target) (h : ℕ) (p : Part) (ps : List Part) → IsBlank t (p ∷ []) → Found x h ps → Found x h (p ∷ ps)
  found_later x h p ps c f = record {
    r = f.r;
    to = f.to;
    from = f.from;
    has = has_right (start_part x h p) (cond (may_skip b p) (start_row b x h ps) []) f.r
        (cond_has (may_skip b p) (start_row b x h ps) f.r (blank_skip p c) f.has);
  }

  name_has : (x : Target) (h g : ℕ) (p : Part) → named p ≡ Some g → Has (start_part x h p) (rule h (g ∷ []))
  name_has x h g (Term a) e = cc
  name_has x h g (Non m) e = let s : m ≡ g = cc in inl (ap (λ q. rule h (q ∷ [])) s)
  name_has x h g (Maybe m) e = let s : m ≡ g = cc in inl (ap (λ q. rule h (q ∷ [])) s)
  name_has x h g (Many m) e = let s : m ≡ g = cc in inl (ap (λ q. rule h (q ∷ [])) s)
  name_has x h g (Chain m) e = let s : m ≡ g = cc in inl (ap (λ q. rule h (q ∷ [])) s)

  found_name : (x : Target) (h g : ℕ) (p : Part) (ps : List Part) → named p ≡ Some g → Holds (start_rules b x t) g → Found x h (p ∷ ps)
  found_name x h g p ps e m =
      found_here x h p ps (rule h (g ∷ [])) (name_has x h g p e) refl (λ k n. subst (λ q. Holds (start_rules b x t) q) (has_one g k n) m)

  found_holds : (x : Target) (h i : ℕ) (row : Row) → IsRowOf t h i row → Found x row.head row.parts → Holds (start_rules b x t) h
  found_holds x h i row s f = Holds.by_rule f.r (start_of x i row f.r s.is_there f.has) (f.to ∙ s.is_of) f.from

  symbol_has : (a h : ℕ) (p : Part) → terminal p ≡ Some a → Has (start_part (Symbol a) h p) (rule h [])
  symbol_has a h (Term x) e = let s : x ≡ a = cc in cond_has (nat_eq x a) (rule h [] ∷ []) (rule h []) (true_eq x a s) (inl refl)
  symbol_has a h (Non x) e = cc
  symbol_has a h (Maybe x) e = cc
  symbol_has a h (Many x) e = cc
  symbol_has a h (Chain x) e = cc

  begins_found : {ps : List Part} {a : ℕ} → Begins t ps a → (h : ℕ) → Found (Symbol a) h ps
  begins_found (Begins.itself {p = p} {ps = ps} {a = a} e) h = found_here (Symbol a) h p ps (rule h []) (symbol_has a h p e) refl (λ k n. absurd n)
  begins_found (Begins.inside {p = p} {ps = ps} {a = a} {h = g} {i = i} {row = row} f s m) h =
      found_name (Symbol a) h g p ps f (found_holds (Symbol a) g i row s (begins_found m row.head))
  begins_found (Begins.behind {p = p} {ps = ps} {a = a} c m) h = found_later (Symbol a) h p ps c (begins_found m h)

  of_begins : (a h : ℕ) → Begins t (Non h ∷ []) a → Holds (start_rules b (Symbol a) t) h
  of_begins a h (Begins.itself e) = cc
  of_begins a h (Begins.inside {h = g} {i = i} {row = row} f s m) =
      let same : g ≡ h = cc in
      subst (λ q. Holds (start_rules b (Symbol a) t) q) same (found_holds (Symbol a) g i row s (begins_found m row.head))
  of_begins a h (Begins.behind c m) = elim m [ ]

  pub begin_marks : (a : ℕ) (marks : List Bool) → AreMarks (start_rules b (Symbol a) t) marks
      → (h : ℕ) → Tells (marked marks h) (Begins t (Non h ∷ []) a)
  begin_marks a marks m h = tells_as (marked marks h) (begins_of a h) (of_begins a h) (m h)

  -- a head that the row starts with, or the target itself
  name_reaches : (p : Part) (ps : List Part) (g m h : ℕ) (r : Rule) → named p ≡ Some m → Has (name_rules (Head g) h m) r
      → (r.to ≡ h) × (((k : ℕ) × StartsWith t (p ∷ ps) k × Has r.from k) ⊎ StartsWith t (p ∷ ps) g)
  name_reaches p ps g m h r e (inl f) =
      let from : m ∷ [] ≡ r.from = ap (λ q. q.from) f in
      (sym (ap (λ q. q.to) f), inl (m, StartsWith.first e, subst (λ q. Has q m) from (inl refl)))
  name_reaches p ps g m h r e (inr f) =
      let c = has_cond (nat_eq m g) (rule h [] ∷ []) r f in
      let d = has_one (rule h []) r c.1 in
      (sym (ap (λ q. q.to) d), inr (StartsWith.first (e ∙ ap Some (eq_true m g c.0))))

  part_reaches : (p : Part) (ps : List Part) (g h : ℕ) (r : Rule) → Has (start_part (Head g) h p) r
      → (r.to ≡ h) × (((k : ℕ) × StartsWith t (p ∷ ps) k × Has r.from k) ⊎ StartsWith t (p ∷ ps) g)
  part_reaches (Term x) ps g h r n = absurd n
  part_reaches (Non m) ps g h r n = name_reaches (Non m) ps g m h r refl n
  part_reaches (Maybe m) ps g h r n = name_reaches (Maybe m) ps g m h r refl n
  part_reaches (Many m) ps g h r n = name_reaches (Many m) ps g m h r refl n
  part_reaches (Chain m) ps g h r n = name_reaches (Chain m) ps g m h r refl n

  reach_behind : (p : Part) (ps : List Part) (g h : ℕ) (r : Rule) → IsBlank t (p ∷ [])
      → (r.to ≡ h) × (((k : ℕ) × StartsWith t ps k × Has r.from k) ⊎ StartsWith t ps g)
      → (r.to ≡ h) × (((k : ℕ) × StartsWith t (p ∷ ps) k × Has r.from k) ⊎ StartsWith t (p ∷ ps) g)
  reach_behind p ps g h r c m = (m.0, go m.1)
    where
      go : ((k : ℕ) × StartsWith t ps k × Has r.from k) ⊎ StartsWith t ps g
          → ((k : ℕ) × StartsWith t (p ∷ ps) k × Has r.from k) ⊎ StartsWith t (p ∷ ps) g
      go (inl x) = inl (x.0, StartsWith.behind c x.1, x.2)
      go (inr x) = inr (StartsWith.behind c x)

  row_reaches : (ps : List Part) (g h : ℕ) (r : Rule) → Has (start_row b (Head g) h ps) r
      → (r.to ≡ h) × (((k : ℕ) × StartsWith t ps k × Has r.from k) ⊎ StartsWith t ps g)
  row_reaches [] g h r n = absurd n
  row_reaches (p ∷ ps) g h r n =
      go (has_either (start_part (Head g) h p) (cond (may_skip b p) (start_row b (Head g) h ps) []) r n) (row_reaches ps g h r)
    where
      go : Has (start_part (Head g) h p) r ⊎ Has (cond (may_skip b p) (start_row b (Head g) h ps) []) r
          → (Has (start_row b (Head g) h ps) r → (r.to ≡ h) × (((k : ℕ) × StartsWith t ps k × Has r.from k) ⊎ StartsWith t ps g))
          → (r.to ≡ h) × (((k : ℕ) × StartsWith t (p ∷ ps) k × Has r.from k) ⊎ StartsWith t (p ∷ ps) g)
      go (inl x) rec = part_reaches p ps g h r x
      go (inr x) rec =
          let c = has_cond (may_skip b p) (start_row b (Head g) h ps) r x in
          reach_behind p ps g h r (skip_blank p c.0) (rec c.1)

  leads_to_of : (g h : ℕ) → Holds (start_rules b (Head g) t) h → LeadsTo t h g
  leads_to_of g h (Holds.by_rule r m e f) =
      let n = start_in (Head g) r m in
      let y = row_reaches n.row.parts g n.row.head r n.has in
      let s = own_row h n.is_there (sym y.0 ∙ e) in
      elim y.1 [ inl x ↦ LeadsTo.through s x.1 (leads_to_of g x.0 (f x.0 x.2)) | inr x ↦ LeadsTo.directly s x ]

  head_has : (g h : ℕ) (p : Part) → named p ≡ Some g → Has (start_part (Head g) h p) (rule h [])
  head_has g h (Term x) e = cc
  head_has g h (Non x) e = let s : x ≡ g = cc in inr (cond_has (nat_eq x g) (rule h [] ∷ []) (rule h []) (true_eq x g s) (inl refl))
  head_has g h (Maybe x) e = let s : x ≡ g = cc in inr (cond_has (nat_eq x g) (rule h [] ∷ []) (rule h []) (true_eq x g s) (inl refl))
  head_has g h (Many x) e = let s : x ≡ g = cc in inr (cond_has (nat_eq x g) (rule h [] ∷ []) (rule h []) (true_eq x g s) (inl refl))
  head_has g h (Chain x) e = let s : x ≡ g = cc in inr (cond_has (nat_eq x g) (rule h [] ∷ []) (rule h []) (true_eq x g s) (inl refl))

  start_found : {ps : List Part} {g : ℕ} → StartsWith t ps g → (h : ℕ) → Found (Head g) h ps
  start_found (StartsWith.first {p = p} {ps = ps} {h = g} e) h =
      found_here (Head g) h p ps (rule h []) (head_has g h p e) refl (λ k n. absurd n)
  start_found (StartsWith.behind {p = p} {ps = ps} {h = g} c m) h = found_later (Head g) h p ps c (start_found m h)

  through_found : {ps : List Part} {m : ℕ} → StartsWith t ps m → (g h : ℕ) → Holds (start_rules b (Head g) t) m → Found (Head g) h ps
  through_found (StartsWith.first {p = p} {ps = ps} {h = m} e) g h n = found_name (Head g) h m p ps e n
  through_found (StartsWith.behind {p = p} {ps = ps} c m) g h n = found_later (Head g) h p ps c (through_found m g h n)

  of_leads_to : {h g : ℕ} → LeadsTo t h g → Holds (start_rules b (Head g) t) h
  of_leads_to (LeadsTo.directly {h = h} {g = g} {i = i} {row = row} s m) = found_holds (Head g) h i row s (start_found m row.head)
  of_leads_to (LeadsTo.through {h = h} {g = g} {i = i} {row = row} s m l) =
      found_holds (Head g) h i row s (through_found m g row.head (of_leads_to l))

  pub reach_marks : (g : ℕ) (marks : List Bool) → AreMarks (start_rules b (Head g) t) marks
      → (h : ℕ) → Tells (marked marks h) (LeadsTo t h g)
  reach_marks g marks m h = tells_as (marked marks h) (leads_to_of g h) of_leads_to (m h)
