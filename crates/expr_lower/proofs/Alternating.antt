-- `inside` stands for the reduction with or of its alternatives' bits.
use Rattle.std.proofs.Common.{◌≡◌, ◌⊎◌, inl, inr, ℕ, suc, ◌+◌, ◌<◌, ◌≤◌, ◌==◌, Bool, true, false, List, [], ◌∷◌, ◌++◌, append-nil, append_assoc, length, length-append, map, flat_map, reverse, take, drop, get_or, zero, refl, arith, ap, sym, ◌∙◌, subst, true≢false}
use Rattle.std.proofs.lemmas.List.{reverse-append}
use Rattle.std.proofs.Math.Seq.{drop-cons}
use Rattle.std.proofs.lemmas.Bool.Decides.{nat_tests}
use Rattle.b4_core.specs.declared.bit.Bit4.{Bit4}
use Rattle.b4_core.specs.declared.bit.Bit4.TheVariants.{Zero, One, X, Z}
use Rattle.b4_core.specs.declared.operators.OrdOp.TheVariants.{GreaterEqual, LessEqual}
use Rattle.b4_core.specs.Bits.{and4}
use Rattle.b4_core.specs.Vectors.{ext}
use Rattle.row_machine.specs.Valuation.{Valuation, Member}
use Rattle.sv_types.specs.declared.statement.Function.{Function}
use Rattle.sv_types.specs.declared.expression.Expr.{Expr}
use Rattle.sv_types.specs.declared.expression.Choice.{Choice, Choice-F, out-Choice}
use Rattle.sv_types.specs.declared.expression.Choice.TheVariants as C
use Rattle.sv_types.specs.declared.expression.Form.{Form-F}
use Rattle.sv_types.specs.declared.expression.Form.TheVariants as V
use Rattle.sv_types.specs.Layouts.{Layout, layout}
use Rattle.sv_types.specs.Surroundings.{Around}
use Rattle.sv_types.specs.Meanings as M
use Rattle.sv_types.specs.Operators as O
use Rattle.sv_types.specs.Operators.{Alternative, is_inside, inside_operands}
use Rattle.sv_types.specs.Expressions.{meaning}
use Rattle.sv_types.proofs.Levels.{only, from-to}
use Rattle.sv_types.proofs.ValueLengths.{length-value}
use Rattle.sv_types.proofs.Widths.{has-bits}
use Rattle.v_tree.specs.declared.names.Helper.{Helper}
use Rattle.v_tree.specs.declared.expressions.VExpr.{VExpr}
use Rattle.v_build.specs.Trees.{meanings}
use Rattle.eval_forms.specs.Narrow.{ChoiceIsNarrow, AllChoicesNarrow}
use Rattle.v_meaning.specs.Scopes.{Scope}
use Rattle.v_meaning.specs.Values as T
use Rattle.eval_parts.specs.Insides.{alternative}
use Rattle.eval_parts.specs.Limits.{Fits}
use Rattle.eval_parts.proofs.Insides.{same-Inside}
use Rattle.eval_forms.specs.Asked.{Asked, again_asked, bits_asked, again_compared, choice_asked, AllFitAsked}
use Rattle.eval_forms.specs.Callees.{formals_in}
use Rattle.eval_forms.proofs.Alternatives as I
use Rattle.eval_forms.proofs.Strict as K
use Rattle.lowering_laws.specs.NamedImages.{numbers, AreImages, SameNames}
use Rattle.lowering_laws.specs.Same.{Same}
use Rattle.lowering_laws.proofs.Contexts.{typed-four}
use Rattle.lowering_laws.proofs.Inside.{order-bit, both-bit}
use Rattle.lowering_laws.proofs.Naming.{no-images, both-images}
use Rattle.path_flatten.specs.Helping.{Grows}
use Rattle.path_flatten.specs.Naming.{SameNumbers}
use Rattle.path_flatten.proofs.Helping.{helps-before, grows-none, grows-both}
use Rattle.path_flatten.proofs.Naming.{same-by, same-itself, same-joined}
use Rattle.form_lower.specs.Wilds.{GivesBit, IsMatch}
use Rattle.form_lower.proofs.Comparing.{bit-gives}
use Rattle.expr_lower.proofs.Asking.{length-meanings}
use Rattle.expr_lower.specs.Lowering.{SameEach, NamesEach, CombinesAnywhere}
use Rattle.expr_lower.specs.Insides.{choice_asks, choices_ask, Alternates, Takes, AllAlternate, Lists, any_of}
use Rattle.expr_lower.proofs.Forms.{asked-is, names-are}
use Rattle.expr_lower.proofs.Reducing.{any-same, any-named}
use Rattle.expr_lower.proofs.Standing.{by-helped, images-like}

-- members of three lists
in-left : (xs ys : List ℕ) (q : ℕ) → Member xs q → Member (xs ++ ys) q
in-left [] ys q h = absurd h
in-left (x ∷ xs) ys q (inl e) = inl e
in-left (x ∷ xs) ys q (inr h) = inr (in-left xs ys q h)

in-right : (xs ys : List ℕ) (q : ℕ) → Member ys q → Member (xs ++ ys) q
in-right [] ys q h = h
in-right (x ∷ xs) ys q h = inr (in-right xs ys q h)

in-one : (xs ys : List ℕ) (q : ℕ) → Member (xs ++ ys) q → Member xs q ⊎ Member ys q
in-one [] ys q h = inr h
in-one (x ∷ xs) ys q (inl e) = inl (inl e)
in-one (x ∷ xs) ys q (inr h) = elim (in-one xs ys q h) [ inl k ↦ inl (inr k) | inr k ↦ inr k ]

wider : (xs ys zs : List ℕ) (q : ℕ) → Member (xs ++ zs) q → Member (xs ++ (ys ++ zs)) q
wider xs ys zs q h = elim (in-one xs zs q h) [ inl k ↦ in-left xs (ys ++ zs) q k | inr k ↦ in-right xs (ys ++ zs) q (in-right ys zs q k) ]

middle : (xs ys zs : List ℕ) (q : ℕ) → Member ys q → Member (xs ++ (ys ++ zs)) q
middle xs ys zs q h = in-right xs (ys ++ zs) q (in-left ys zs q h)

inner : (xs ys zs : List ℕ) (q : ℕ) → Member (xs ++ (ys ++ zs)) q → Member (xs ++ zs) q ⊎ Member ys q
inner xs ys zs q h = by-first (in-one xs (ys ++ zs) q h)
  where
    by-second : Member ys q ⊎ Member zs q → Member (xs ++ zs) q ⊎ Member ys q
    by-second (inl k) = inr k
    by-second (inr k) = inl (in-right xs zs q k)

    by-first : Member xs q ⊎ Member (ys ++ zs) q → Member (xs ++ zs) q ⊎ Member ys q
    by-first (inl k) = inl (in-left xs zs q k)
    by-first (inr k) = by-second (in-one ys zs q k)

numbers-both : (xs ys : List M.Named) → numbers (xs ++ ys) ≡ numbers xs ++ numbers ys
numbers-both [] ys = refl
numbers-both (x ∷ xs) ys = ap (λ ns. x.number ∷ ns) (numbers-both xs ys)

numbers-three : (xs ys zs : List M.Named) → numbers (xs ++ (ys ++ zs)) ≡ numbers xs ++ (numbers ys ++ numbers zs)
numbers-three xs ys zs = numbers-both xs (ys ++ zs) ∙ ap (λ l. numbers xs ++ l) (numbers-both ys zs)

module _ (image : ℕ → ℕ) where
  -- names in the middle
  images-mid : (xs ys zs : List M.Named) (us vs ws : List ℕ) → AreImages image (xs ++ zs) (us ++ ws) → AreImages image ys vs → AreImages image (xs ++ (ys ++ zs)) (us ++ (vs ++ ws))
  images-mid xs ys zs us vs ws h g = record {
    all = λ n k. all-of n (inner (numbers xs) (numbers ys) (numbers zs) n (subst (λ l. Member l n) (numbers-three xs ys zs) k));
    only = λ q k. only-of q (inner us vs ws q k);
  }
    where
      all-of : (n : ℕ) → Member (numbers xs ++ numbers zs) n ⊎ Member (numbers ys) n → Member (us ++ (vs ++ ws)) (image n)
      all-of n (inl k) = wider us vs ws (image n) (h.all n (subst (λ l. Member l n) (sym (numbers-both xs zs)) k))
      all-of n (inr k) = middle us vs ws (image n) (g.all n k)

      only-of : (q : ℕ) → Member (us ++ ws) q ⊎ Member vs q → (n : ℕ) × Member (numbers (xs ++ (ys ++ zs))) n × (q ≡ image n)
      only-of q (inl k) =
          (let r = h.only q k in (r.0, subst (λ l. Member l r.0) (sym (numbers-three xs ys zs)) (wider (numbers xs) (numbers ys) (numbers zs) r.0 (subst (λ l. Member l r.0) (numbers-both xs zs) r.1)), r.2))
      only-of q (inr k) = (let r = g.only q k in (r.0, subst (λ l. Member l r.0) (sym (numbers-three xs ys zs)) (middle (numbers xs) (numbers ys) (numbers zs) r.0 r.1), r.2))

  -- names that stand there again
  images-again : (xs zs : List M.Named) (us vs ws : List ℕ) → AreImages image (xs ++ zs) (us ++ ws) → AreImages image xs vs → AreImages image (xs ++ zs) (us ++ (vs ++ ws))
  images-again xs zs us vs ws h g = record { all = λ n k. wider us vs ws (image n) (h.all n k); only = λ q k. only-of q (inner us vs ws q k) }
    where
      only-of : (q : ℕ) → Member (us ++ ws) q ⊎ Member vs q → (n : ℕ) × Member (numbers (xs ++ zs)) n × (q ≡ image n)
      only-of q (inl k) = h.only q k
      only-of q (inr k) = (let r = g.only q k in (r.0, subst (λ l. Member l r.0) (sym (numbers-both xs zs)) (in-left (numbers xs) (numbers zs) r.0 r.1), r.2))

  -- names that stand there anyway
  images-less : (xs zs : List M.Named) (us vs ws : List ℕ) → AreImages image (xs ++ zs) (us ++ (vs ++ ws)) → AreImages image xs us → AreImages image xs vs → AreImages image (xs ++ zs) (vs ++ ws)
  images-less xs zs us vs ws h g f = record { all = λ n k. all-of n (in-one us (vs ++ ws) (image n) (h.all n k)); only = λ q k. h.only q (in-right us (vs ++ ws) q k) }
    where
      all-of : (n : ℕ) → Member us (image n) ⊎ Member (vs ++ ws) (image n) → Member (vs ++ ws) (image n)
      all-of n (inl k) = (let r = g.only (image n) k in subst (λ q. Member (vs ++ ws) q) (sym r.2) (in-left vs ws (image r.0) (f.all r.0 r.1)))
      all-of n (inr k) = k

  abbrev operand_names : List M.Operand → List M.Named
  operand_names ps = flat_map (λ (p : M.Operand). p.of.names) ps

  -- what an alternative names
  abbrev NamedIt : Choice → Type 0
  NamedIt c = (x : Expr) (later : List Asked) (ops : List M.Operand) (parts : List T.Meaning) (us : List ℕ) (sc : Scope)
      → NamesEach image (choice_asked x (out-Choice c) ++ later) parts sc → ((ms : List T.Meaning) → NamesEach image later ms sc → AreImages image ((meaning x).names ++ operand_names ops) (us ++ T.all_names ms sc))
      → AreImages image ((meaning x).names ++ operand_names (inside_operands (meaning x) (alternative c) ++ ops)) (us ++ T.all_names parts sc)

  value-in : (x v : Expr) (later : List Asked) (ops : List M.Operand) (parts : List T.Meaning) (us : List ℕ) (sc : Scope)
      → NamesEach image (choice_asked x (Choice-F.Value v) ++ later) parts sc → ((ms : List T.Meaning) → NamesEach image later ms sc → AreImages image ((meaning x).names ++ operand_names ops) (us ++ T.all_names ms sc))
      → AreImages image ((meaning x).names ++ operand_names (inside_operands (meaning x) (Alternative.Only (meaning v)) ++ ops)) (us ++ T.all_names parts sc)
  value-in x v later ops [] us sc h rest = absurd h
  value-in x v later ops (m ∷ []) us sc h rest = absurd h.1
  value-in x v later ops (m ∷ n ∷ ms) us sc h rest =
      images-again (meaning x).names ((meaning v).names ++ operand_names ops) us (m.names sc) (n.names sc ++ T.all_names ms sc)
      (images-mid (meaning x).names (meaning v).names (operand_names ops) us (n.names sc) (T.all_names ms sc) (rest ms h.1.1) h.1.0) h.0

  range-in : (x low high : Expr) (later : List Asked) (ops : List M.Operand) (parts : List T.Meaning) (us : List ℕ) (sc : Scope)
      → NamesEach image (choice_asked x (Choice-F.Range low high) ++ later) parts sc → ((ms : List T.Meaning) → NamesEach image later ms sc → AreImages image ((meaning x).names ++ operand_names ops) (us ++ T.all_names ms sc))
      → AreImages image ((meaning x).names ++ operand_names (inside_operands (meaning x) (Alternative.From (meaning low) (meaning high)) ++ ops)) (us ++ T.all_names parts sc)
  range-in x low high later ops [] us sc h rest = absurd h
  range-in x low high later ops (m ∷ []) us sc h rest = absurd h.1
  range-in x low high later ops (m ∷ n ∷ []) us sc h rest = absurd h.1.1
  range-in x low high later ops (m ∷ n ∷ k ∷ []) us sc h rest = absurd h.1.1.1
  range-in x low high later ops (m ∷ n ∷ k ∷ p ∷ ms) us sc h rest =
      let mx = (meaning x).names in
      let first = images-mid mx (meaning high).names (operand_names ops) us (p.names sc) (T.all_names ms sc) (rest ms h.1.1.1.1) h.1.1.1.0 in
      let second = images-again mx ((meaning high).names ++ operand_names ops) us (k.names sc) (p.names sc ++ T.all_names ms sc) first h.1.1.0 in
      let third = images-mid mx (meaning low).names ((meaning high).names ++ operand_names ops) us (n.names sc) (k.names sc ++ (p.names sc ++ T.all_names ms sc)) second h.1.0 in
      images-again mx ((meaning low).names ++ ((meaning high).names ++ operand_names ops)) us (m.names sc) (n.names sc ++ (k.names sc ++ (p.names sc ++ T.all_names ms sc))) third h.0

  named-value : (v : Expr) → NamedIt (C.Value v)
  named-value v x later ops parts us sc h rest =
      subst (λ k. AreImages image ((meaning x).names ++ operand_names (inside_operands (meaning x) k ++ ops)) (us ++ T.all_names parts sc)) (sym (only v))
      (value-in x v later ops parts us sc (subst (λ o. NamesEach image (choice_asked x o ++ later) parts sc) (I.out-Value v) h) rest)

  named-range : (low high : Expr) → NamedIt (C.Range low high)
  named-range low high x later ops parts us sc h rest =
      subst (λ k. AreImages image ((meaning x).names ++ operand_names (inside_operands (meaning x) k ++ ops)) (us ++ T.all_names parts sc)) (sym (from-to low high))
      (range-in x low high later ops parts us sc (subst (λ o. NamesEach image (choice_asked x o ++ later) parts sc) (I.out-Range low high) h) rest)

  all-named : (x : Expr) (cs : List Choice) (parts : List T.Meaning) (us : List ℕ) (sc : Scope) → AreImages image (meaning x).names us → NamesEach image (choices_ask x cs) parts sc
      → AreImages image ((meaning x).names ++ operand_names (flat_map (inside_operands (meaning x)) (map alternative cs))) (us ++ T.all_names parts sc)
  all-named x [] [] us sc h all = both-images image (meaning x).names [] us [] h (no-images image)
  all-named x [] (m ∷ ms) us sc h all = absurd all
  all-named x (c ∷ cs) parts us sc h all =
      I.by-choice NamedIt named-value named-range c x (choices_ask x cs) (flat_map (inside_operands (meaning x)) (map alternative cs)) parts us sc all (λ ms rest. all-named x cs ms us sc h rest)

  -- the first operand of an alternative is the value
  pub record First (x : Expr) (parts : List T.Meaning) (sc : Scope) : Type 0 where
    pub first : T.Meaning
    pub rest : List T.Meaning
    pub split : parts ≡ first ∷ rest
    pub named : AreImages image (meaning x).names (first.names sc)

  abbrev FirstIt : Choice → Type 0
  FirstIt c = (x : Expr) (later : List Asked) (parts : List T.Meaning) (sc : Scope) → NamesEach image (choice_asked x (out-Choice c) ++ later) parts sc → First x parts sc

  first-in : (x : Expr) (q : Asked) (qs : List Asked) (parts : List T.Meaning) (sc : Scope) → q.of ≡ x → NamesEach image (q ∷ qs) parts sc → First x parts sc
  first-in x q qs [] sc is h = absurd h
  first-in x q qs (m ∷ ms) sc is h = record { first = m; rest = ms; split = refl; named = subst (λ (y : Expr). AreImages image (meaning y).names (m.names sc)) is h.0 }

  first-value : (v : Expr) → FirstIt (C.Value v)
  first-value v x later parts sc h =
      let w = O.both_wide (meaning x) (meaning v) in
      let s = O.both_signed (meaning x) (meaning v) in
      first-in x (again_asked x w s) (bits_asked v w s ∷ later) parts sc refl (subst (λ o. NamesEach image (choice_asked x o ++ later) parts sc) (I.out-Value v) h)

  first-range : (low high : Expr) → FirstIt (C.Range low high)
  first-range low high x later parts sc h =
      let w = O.both_wide (meaning x) (meaning low) in
      let s = O.both_signed (meaning x) (meaning low) in
      first-in x (again_asked x w s) (bits_asked low w s ∷ (again_compared x high ++ later)) parts sc refl (subst (λ o. NamesEach image (choice_asked x o ++ later) parts sc) (I.out-Range low high) h)

  -- what `inside` names
  inside-named : (of : Layout) (at : ℕ) (x : Expr) (c : Choice) (cs : List Choice) (p : T.Meaning) (parts : List T.Meaning) (m : T.Meaning) (sc : Scope) → SameNames image (meaning x) p sc
      → NamesEach image (choices_ask x (c ∷ cs)) parts sc → SameNumbers (T.all_names parts sc) (m.names sc) → SameNames image (O.inside of at (meaning x) (map alternative (c ∷ cs))) m sc
  unfolding O.inside
  inside-named of at x c cs p parts m sc one all names =
      let f = I.by-choice FirstIt first-value first-range c x (choices_ask x cs) parts sc all in
      let same : T.all_names parts sc ≡ f.first.names sc ++ T.all_names f.rest sc = ap (λ l. T.all_names l sc) f.split in
      let whole = all-named x (c ∷ cs) parts (p.names sc) sc one all in
      let ns = operand_names (flat_map (inside_operands (meaning x)) (map alternative (c ∷ cs))) in
      let less = images-less (meaning x).names ns (p.names sc) (f.first.names sc) (T.all_names f.rest sc) (subst (λ l. AreImages image ((meaning x).names ++ ns) (p.names sc ++ l)) same whole) one f.named in
      images-like image _ (f.first.names sc ++ T.all_names f.rest sc) (m.names sc) less (subst (λ l. SameNumbers l (m.names sc)) same names)

  never-named : (of : Layout) (at : ℕ) (x : Expr) (p : T.Meaning) (sc : Scope) → SameNames image (meaning x) p sc
      → SameNames image (O.inside of at (meaning x) []) (T.both p (T.literal (Zero ∷ []))) sc
  unfolding O.inside T.both T.literal
  never-named of at x p sc h = both-images image (meaning x).names [] (p.names sc) [] h (no-images image)

-- one alternative
pub value-alternates : (x v : Expr) (l r m : T.Meaning) (hs : List Helper) → IsMatch (meaning x) (meaning v) l r hs m → Alternates x (C.Value v) (l ∷ r ∷ []) hs m
value-alternates x v l r m hs match = record {
  bit = λ a sc u helps typed h.
      let g = subst (λ o. SameEach (choice_asked x o) a (l ∷ r ∷ []) sc u) (I.out-Value v) h in
      let some = has-bits x typed in
      subst (λ k. GivesBit m (is_inside (meaning x) a k) sc u) (sym (only v))
      (match.bit a sc u helps (length-value x) (length-value v) (omega arith) (record { left = g.0; right = (g.1).0 }));
  names = match.names;
}

order-named : (l r k p : T.Meaning) (sc : Scope) → (T.both (T.order GreaterEqual l r) (T.order LessEqual k p)).names sc ≡ T.all_names (l ∷ r ∷ k ∷ p ∷ []) sc
unfolding T.both T.order
order-named l r k p sc =
    (λ i. append_both (l.names sc) (r.names sc) i ++ (append_both (k.names sc) (p.names sc) i ++ [])) ∙ last (l.names sc) (r.names sc) (k.names sc) (p.names sc)
  where
    append_both : (xs ys : List ℕ) → xs ++ (ys ++ []) ≡ xs ++ ys
    append_both xs ys = ap (λ l. xs ++ l) (append-nil ys)

    last : (ws xs ys zs : List ℕ) → (ws ++ xs) ++ ((ys ++ zs) ++ []) ≡ ws ++ (xs ++ (ys ++ (zs ++ [])))
    last ws xs ys zs = append_assoc ws xs ((ys ++ zs) ++ []) ∙ ap (λ l. ws ++ (xs ++ l)) (append_assoc ys zs [])

pub range-alternates : (x low high : Expr) (l r k p m : T.Meaning) (hs : List Helper) → m ≡ T.both (T.order GreaterEqual l r) (T.order LessEqual k p) → Alternates x (C.Range low high) (l ∷ r ∷ k ∷ p ∷ []) hs m
range-alternates x low high l r k p m hs is = record {
  bit = λ a sc u helps typed h.
      let g = subst (λ o. SameEach (choice_asked x o) a (l ∷ r ∷ k ∷ p ∷ []) sc u) (I.out-Range low high) h in
      let above = order-bit GreaterEqual (meaning x) (meaning low) a l r sc u g.0 (g.1).0 in
      let below = order-bit LessEqual (meaning x) (meaning high) a k p sc u ((g.1).1).0 (((g.1).1).1).0 in
      subst (λ c. GivesBit m (is_inside (meaning x) a c) sc u) (sym (from-to low high))
      (subst (λ (y : T.Meaning). GivesBit y (is_inside (meaning x) a (Alternative.From (meaning low) (meaning high))) sc u) (sym is)
      (bit-gives _ _ sc u (both-bit (T.order GreaterEqual l r) (T.order LessEqual k p) (O.in_order GreaterEqual (meaning x) (meaning low) a) (O.in_order LessEqual (meaning x) (meaning high) a) sc u above below)));
  names = λ sc. same-by (T.all_names (l ∷ r ∷ k ∷ p ∷ []) sc) (m.names sc) (sym (ap (λ (y : T.Meaning). y.names sc) is ∙ order-named l r k p sc));
}

-- all of them
same-split : (qs rs : List Asked) (a : Around) (ts ps : List T.Meaning) (sc : Scope) (v : Valuation) → length ts ≡ length qs → SameEach (qs ++ rs) a (ts ++ ps) sc v
    → SameEach qs a ts sc v × SameEach rs a ps sc v
same-split [] rs a [] ps sc v count h = (tt, h)
same-split [] rs a (t ∷ ts) ps sc v count h = absurd (omega arith)
same-split (q ∷ qs) rs a [] ps sc v count h = absurd (omega arith)
same-split (q ∷ qs) rs a (t ∷ ts) ps sc v count h = (let g = same-split qs rs a ts ps sc v (omega arith) h.1 in ((h.0, g.0), g.1))

names-joined : (ts ps : List T.Meaning) (sc : Scope) → T.all_names (ts ++ ps) sc ≡ T.all_names ts sc ++ T.all_names ps sc
names-joined [] ps sc = refl
names-joined (t ∷ ts) ps sc = ap (λ l. t.names sc ++ l) (names-joined ts ps sc) ∙ sym (append_assoc (t.names sc) (T.all_names ts sc) (T.all_names ps sc))

pub alternate-none : (x : Expr) (hs : List Helper) → AllAlternate x [] [] hs []
alternate-none x hs = record { bits = λ a sc v helps typed h. tt; count = refl; some = refl; names = λ sc. same-itself [] }

pub alternate-next : (x : Expr) (c : Choice) (cs : List Choice) (ts ps : List T.Meaning) (old hs : List Helper) (r : T.Meaning) (rs : List T.Meaning) → length ts ≡ length (choice_asks x c) → Grows old hs
    → Alternates x c ts hs r → AllAlternate x cs ps old rs → AllAlternate x (c ∷ cs) (ts ++ ps) hs (r ∷ rs)
alternate-next x c cs ts ps old hs r rs count grows one all = record {
  bits = λ a sc v helps typed h.
      let g = same-split (choice_asks x c) (choices_ask x cs) a ts ps sc v count h in
      (one.bit a sc v helps typed g.0, all.bits a sc v (helps-before old hs sc grows helps) typed g.1);
  count = length-append ts ps ∙ (λ i. count i + all.count i) ∙ sym (length-append (choice_asks x c) (choices_ask x cs));
  some = ap suc all.some;
  names = λ sc.
      subst (λ l. SameNumbers l (T.all_names (r ∷ rs) sc)) (sym (names-joined ts ps sc)) (same-joined (T.all_names ts sc) (r.names sc) (T.all_names ps sc) (T.all_names rs sc) (one.names sc) (all.names sc));
}

-- the whole
and-never : (b : Bit4) → and4 b Zero ≡ Zero
and-never Zero = refl
and-never One = refl
and-never X = refl
and-never Z = refl

never-same : (of : Layout) (at : ℕ) (e : M.Meaning) (w : ℕ) (s : Bool) (a : Around) (p : T.Meaning) (sc : Scope) (v : Valuation) → (O.inside of at e []).misfits ≡ 0
    → Same (O.inside of at e []) w s a (T.both p (T.literal (Zero ∷ []))) sc v
unfolding O.inside T.both T.literal
never-same of at e w s a p sc v fits =
    let t = typed-four of 1 false _ _ fits in
    let wide = t.width in
    record { least = omega arith; most = omega arith; sign = sym t.sign; value = ap (λ b. ext w s (b ∷ [])) (and-never (T.truth p sc v)) }

typed-first : (e x : Expr) (cs : List Choice) (fs : List Function) (w : ℕ) (s : Bool) → e.form ≡ V.Inside x cs → Fits (meaning e) (formals_in fs) w → (meaning x).misfits ≡ 0
typed-first e x cs fs w s is fits =
    let all = subst (AllFitAsked (formals_in fs)) (sym (K.asked-by e (V.Inside x cs) (Form-F.Inside x cs) (formals_in fs) w s is (I.out-Inside x cs))) (I.fits-Inside e x cs (formals_in fs) w s is fits) in
    all.0.typed

pub combines-never : (e x : Expr) (hs : List Helper) (parts : List T.Meaning) (p m : T.Meaning) → e.form ≡ V.Inside x [] → parts ≡ p ∷ [] → m ≡ T.both p (T.literal (Zero ∷ [])) → CombinesAnywhere hs e parts m
combines-never e x hs parts p m is are made names fs w s =
    let level = same-Inside e x [] is in
    let asked = K.asked-by e (V.Inside x []) (Form-F.Inside x []) (formals_in fs) w s is (I.out-Inside x []) in
    by-helped names fs hs e w s parts m (λ im a sc all helps fits. record {
      same = λ now v h.
          let b = record a { now = now } in
          subst (λ (k : M.Meaning). Same k w s b m sc v) (sym level)
          (subst (λ (y : T.Meaning). Same (O.inside (layout e.of) e.spot.at (meaning x) []) w s b y sc v) (sym made)
          (never-same (layout e.of) e.spot.at (meaning x) w s b p sc v (subst (λ (k : M.Meaning). k.misfits ≡ 0) level fits.typed)));
      named = λ h.
          let g = names-are im.number e (formals_in fs) w s _ parts (p ∷ []) sc asked are h in
          subst (λ (k : M.Meaning). SameNames im.number k m sc) (sym level)
          (subst (λ (y : T.Meaning). SameNames im.number (O.inside (layout e.of) e.spot.at (meaning x) []) y sc) (sym made) (never-named im.number (layout e.of) e.spot.at x p sc g.0));
    })

combines-some : (e x : Expr) (c : Choice) (cs : List Choice) (hs : List Helper) (parts : List T.Meaning) (p : T.Meaning) (rest bits : List T.Meaning) (m : T.Meaning) → e.form ≡ V.Inside x (c ∷ cs)
    → parts ≡ p ∷ rest → AllAlternate x (c ∷ cs) rest hs bits → m ≡ any_of bits → CombinesAnywhere hs e parts m
combines-some e x c cs hs parts p rest bits m is are alternates made names fs w s =
    let level = same-Inside e x (c ∷ cs) is in
    let asked = K.asked-by e (V.Inside x (c ∷ cs)) (Form-F.Inside x (c ∷ cs)) (formals_in fs) w s is (I.out-Inside x (c ∷ cs)) in
    by-helped names fs hs e w s parts m (λ im a sc all helps fits. record {
      same = λ now v h.
          let k = record a { now = now } in
          let g = asked-is e (formals_in fs) w s _ k parts (p ∷ rest) sc v asked are h in
          subst (λ (y : M.Meaning). Same y w s k m sc v) (sym level)
          (subst (λ (y : T.Meaning). Same (O.inside (layout e.of) e.spot.at (meaning x) (map alternative (c ∷ cs))) w s k y sc v) (sym made)
          (any-same (layout e.of) e.spot.at (meaning x) (map alternative (c ∷ cs)) w s k bits sc v (subst (λ (y : M.Meaning). y.misfits ≡ 0) level fits.typed)
          (alternates.bits k sc v helps (typed-first e x (c ∷ cs) fs w s is fits) g.1)));
      named = λ h.
          let g = names-are im.number e (formals_in fs) w s _ parts (p ∷ rest) sc asked are h in
          let same : SameNumbers (T.all_names rest sc) (m.names sc) = subst (SameNumbers (T.all_names rest sc)) (sym (ap (λ (y : T.Meaning). y.names sc) made ∙ any-named bits sc)) (alternates.names sc) in
          subst (λ (y : M.Meaning). SameNames im.number y m sc) (sym level) (inside-named im.number (layout e.of) e.spot.at x c cs p rest m sc g.0 g.1 same);
    })

pub combines-listed : (e x : Expr) (cs : List Choice) (hs : List Helper) (parts bits : List T.Meaning) (m : T.Meaning) → e.form ≡ V.Inside x cs → (length cs == 0) ≡ false → Lists x cs parts hs bits → m ≡ any_of bits
    → CombinesAnywhere hs e parts m
combines-listed e x [] hs parts bits m is some lists made = absurd (true≢false some)
combines-listed e x (c ∷ cs) hs parts bits m is some lists made = combines-some e x c cs hs parts lists.first lists.rest bits m is lists.split lists.all made

-- The alternatives of a list, from the end on.
pub record IsListed (x : Expr) (cs : List Choice) (i : ℕ) (parts rest : List VExpr) (old hs : List Helper) (made : List VExpr) : Type 0 where
  pub few : i ≤ length cs
  pub done : List VExpr
  pub split : rest ++ done ≡ parts
  pub grows : Grows old hs
  pub all : AllAlternate x (drop i cs) (meanings done) hs (meanings (reverse made))

drop-end : (cs : List Choice) → drop (length cs) cs ≡ []
drop-end [] = refl
drop-end (c ∷ cs) = drop-end cs

pub listed-none : (x : Expr) (cs : List Choice) (i : ℕ) (parts : List VExpr) (hs : List Helper) (made : List VExpr) → i ≡ length cs → made ≡ [] → IsListed x cs i parts parts hs hs made
listed-none x cs i parts hs made is none = record {
  few = omega arith;
  done = [];
  split = append-nil parts;
  grows = grows-none hs;
  all = subst (λ l. AllAlternate x l [] hs (meanings (reverse made))) (sym (ap (λ k. drop k cs) is ∙ drop-end cs))
      (subst (λ l. AllAlternate x [] [] hs (meanings (reverse l))) (sym none) (alternate-none x hs));
}

meanings-both : (xs ys : List VExpr) → meanings (xs ++ ys) ≡ meanings xs ++ meanings ys
meanings-both [] ys = refl
meanings-both (x ∷ xs) ys = ap (λ ms. T.meaning x ∷ ms) (meanings-both xs ys)

pub listed-next : (x : Expr) (cs : List Choice) (i j : ℕ) (c : Choice) (parts before rest : List VExpr) (first old hs : List Helper) (made new : List VExpr) (r : VExpr) → IsListed x cs i parts before first old made
    → i ≡ suc j → c ≡ get_or cs j c → Grows old hs → Takes x c before rest hs (T.meaning r) → new ≡ made ++ r ∷ [] → IsListed x cs j parts rest first hs new
listed-next x cs i j c parts before rest first old hs made new r h next at grows one more =
    let few = h.few in
    let here : drop j cs ≡ c ∷ drop i cs = drop-cons cs j c (omega arith) ∙ (λ k. at' k ∷ drop (next' k) cs) in
    record {
      few = omega arith;
      done = one.taken ++ h.done;
      split = sym (append_assoc rest one.taken h.done) ∙ ap (λ l. l ++ h.done) (sym one.split) ∙ h.split;
      grows = grows-both first old hs h.grows grows;
      all = subst (λ l. AllAlternate x l (meanings (one.taken ++ h.done)) hs (meanings (reverse new))) (sym here)
          (subst (λ l. AllAlternate x (c ∷ drop i cs) l hs (meanings (reverse new))) (sym (meanings-both one.taken h.done))
          (subst (λ l. AllAlternate x (c ∷ drop i cs) (meanings one.taken ++ meanings h.done) hs (meanings l)) (sym (ap reverse more ∙ reverse-append made (r ∷ [])))
          (alternate-next x c (drop i cs) (meanings one.taken) (meanings h.done) old hs (T.meaning r) (meanings (reverse made)) (length-meanings one.taken ∙ one.count) grows one.alternates h.all)));
    }
  where
    at' : get_or cs j c ≡ c
    at' = sym at

    next' : suc j ≡ i
    next' = sym next

-- what is asked up to an alternative, by it, and behind it
asked-at : (x : Expr) (cs : List Choice) (j : ℕ) (c : Choice) → j < length cs → length (choices_ask x cs) ≡ length (choices_ask x (take j cs)) + (length (choice_asks x (get_or cs j c)) + length (choices_ask x (drop (suc j) cs)))
asked-at x [] j c h = absurd (omega arith)
asked-at x (d ∷ cs) zero c h = length-append (choice_asks x d) (choices_ask x cs) ∙ omega arith
asked-at x (d ∷ cs) (suc j) c h =
    let rest = asked-at x cs j c (omega arith) in
    let one = length-append (choice_asks x d) (choices_ask x cs) in
    let two = length-append (choice_asks x d) (choices_ask x (take j cs)) in
    omega arith

pub enough-at : (x : Expr) (cs : List Choice) (i j : ℕ) (c : Choice) (parts rest : List VExpr) (old hs : List Helper) (made : List VExpr) → IsListed x cs i parts rest old hs made → i ≡ suc j → c ≡ get_or cs j c
    → length parts ≡ suc (length (choices_ask x cs)) → length (choice_asks x c) ≤ length rest
enough-at x cs i j c parts rest old hs made h next at count =
    let few = h.few in
    let all = asked-at x cs j c (omega arith) in
    let here : length (choice_asks x (get_or cs j c)) ≡ length (choice_asks x c) = ap (λ d. length (choice_asks x d)) (sym at) in
    let behind : length (choices_ask x (drop (suc j) cs)) ≡ length h.done = ap (λ k. length (choices_ask x (drop k cs))) (sym next) ∙ sym h.all.count ∙ length-meanings h.done in
    let whole : length rest + length h.done ≡ length parts = sym (length-append rest h.done) ∙ ap length h.split in
    omega arith

pub narrow-at : (cs : List Choice) (j : ℕ) (c : Choice) → j < length cs → c ≡ get_or cs j c → AllChoicesNarrow cs → ChoiceIsNarrow c
narrow-at [] j c h at all = absurd (omega arith)
narrow-at (d ∷ cs) zero c h at all = subst ChoiceIsNarrow (sym at) all.0
narrow-at (d ∷ cs) (suc j) c h at all = narrow-at cs j c (omega arith) at all.1

only-one : (xs : List VExpr) → length xs ≡ 1 → (x : VExpr) × (xs ≡ x ∷ [])
only-one [] h = absurd (omega arith)
only-one (x ∷ []) h = (x, refl)
only-one (x ∷ y ∷ xs) h = absurd (omega arith)

drop-none : (cs : List Choice) → drop 0 cs ≡ cs
drop-none [] = refl
drop-none (c ∷ cs) = refl

pub listed-all : (x : Expr) (cs : List Choice) (i : ℕ) (parts rest : List VExpr) (old hs : List Helper) (made bits : List VExpr) → IsListed x cs i parts rest old hs made → i ≡ 0 → length parts ≡ suc (length (choices_ask x cs))
    → bits ≡ reverse made → Lists x cs (meanings parts) hs (meanings bits)
listed-all x cs i parts rest old hs made bits h none count turned =
    let here : drop i cs ≡ cs = ap (λ k. drop k cs) none ∙ drop-none cs in
    let behind : length (choices_ask x cs) ≡ length h.done = ap (λ l. length (choices_ask x l)) (sym here) ∙ sym h.all.count ∙ length-meanings h.done in
    let whole : length rest + length h.done ≡ length parts = sym (length-append rest h.done) ∙ ap length h.split in
    let one = only-one rest (omega arith) in
    record {
      first = T.meaning one.0;
      rest = meanings h.done;
      split = ap meanings (sym h.split) ∙ ap (λ l. meanings (l ++ h.done)) one.1;
      all = subst (λ l. AllAlternate x cs (meanings h.done) hs (meanings l)) (sym turned) (subst (λ l. AllAlternate x l (meanings h.done) hs (meanings (reverse made))) here h.all);
    }

-- what an alternative takes
pub takes-value : (x v : Expr) (c : Choice) (old new : List VExpr) (l r : VExpr) (hs : List Helper) (m : T.Meaning) → c ≡ C.Value v → old ≡ new ++ l ∷ r ∷ [] → IsMatch (meaning x) (meaning v) (T.meaning l) (T.meaning r) hs m
    → Takes x c old new hs m
takes-value x v c old new l r hs m is split match =
    subst (λ d. Takes x d old new hs m) (sym is)
    (record { taken = l ∷ r ∷ []; split = split; count = sym (ap (λ o. length (choice_asked x o)) (I.out-Value v)); alternates = value-alternates x v (T.meaning l) (T.meaning r) m hs match })

pub takes-range : (x low high : Expr) (c : Choice) (old mid new : List VExpr) (l r k p : VExpr) (hs : List Helper) (m : T.Meaning) → c ≡ C.Range low high → old ≡ mid ++ k ∷ p ∷ [] → mid ≡ new ++ l ∷ r ∷ []
    → m ≡ T.both (T.order GreaterEqual (T.meaning l) (T.meaning r)) (T.order LessEqual (T.meaning k) (T.meaning p)) → Takes x c old new hs m
takes-range x low high c old mid new l r k p hs m is last first made =
    subst (λ d. Takes x d old new hs m) (sym is) (record {
      taken = l ∷ r ∷ k ∷ p ∷ [];
      split = last ∙ ap (λ ys. ys ++ k ∷ p ∷ []) first ∙ append_assoc new (l ∷ r ∷ []) (k ∷ p ∷ []);
      count = sym (ap (λ o. length (choice_asked x o)) (I.out-Range low high));
      alternates = range-alternates x low high (T.meaning l) (T.meaning r) (T.meaning k) (T.meaning p) m hs made;
    })

pub no-choices : (cs : List Choice) → (length cs == 0) ≡ true → cs ≡ []
no-choices [] h = refl
no-choices (c ∷ cs) h = absurd (let none : suc (length cs) ≡ 0 = grind (arith, nat_tests) in omega arith)
