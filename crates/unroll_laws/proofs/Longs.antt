-- Where a constant index takes too long, the rules on loops find one.
use Rattle.std.proofs.Common.{◌≡◌, ℕ, ◌^◌, Bool, true, false, ◌&&◌, cond, List, [], ◌∷◌, ◌++◌, map, flat_map, zip, Option, Some, None, inl, inr, refl, ap, sym, ◌∙◌, subst}
use Rattle.std.specs.Prelude.{◌⊎◌, is_some}
use Rattle.std.proofs.lemmas.Bool.{false≢true}
use Rattle.row_machine.specs.Valuation.{Member}
use Rattle.sv_types.specs.declared.expression.Expr.{Expr}
use Rattle.sv_types.specs.declared.expression.Choice.{Choice, Choice-F, out-Choice, roll-Choice, roll-out-Choice}
use Rattle.sv_types.specs.declared.expression.Choice.TheVariants as C
use Rattle.sv_types.specs.declared.expression.Form.{Form, Form-F, out-Form, roll-Form, roll-out-Form}
use Rattle.sv_types.specs.declared.expression.Form.TheVariants as V
use Rattle.sv_types.specs.Layouts.{Part, layout}
use Rattle.sv_types.specs.Surroundings.{Around, Parameter, Sight}
use Rattle.sv_types.specs.Meanings.{Meaning}
use Rattle.sv_types.specs.Operators.{parts_of}
use Rattle.sv_types.specs.Functions.{callees}
use Rattle.sv_types.specs.Expressions.{meaning}
use Rattle.eval_parts.specs.Steps.{is_held}
use Rattle.eval_parts.specs.Surroundings.{now_of}
use Rattle.eval_parts.specs.Targets.{marks_of_parts, marks_of_formals}
use Rattle.eval_forms.specs.Asked.{Asked, alone_asked, choice_asked, assigned_asked, form_asked}
use Rattle.expr_flows.specs.declared.known.Known.{Known}
use Rattle.expr_flows.specs.Known as K
use Rattle.expr_flows.specs.Known.{sight}
use Rattle.expr_flows.specs.Reads.{IsIndexOf, LongIndex, LongAt}
use Rattle.design_breaks.specs.Indices as I
use Rattle.design_breaks.specs.Indices.{Long, SaidChoice, said, index, first_of, lesser, all, all_said, takes_too_long}
use Rattle.design_breaks.specs.Unrolling.{too_long_at}
use Rattle.loop_laws.proofs.SaidLevels as S
use Rattle.loop_laws.proofs.SaidLevels.{means-it, choice_said}

-- a token is found
abbrev pub IsThere : Option ℕ → Type 0
IsThere o = is_some o ≡ true

pub none-there : {A : Type 0} (o : Option ℕ) → IsThere o → o ≡ None → A
none-there o t none = absurd (false≢true (sym (ap is_some none) ∙ t))

there-left : (a b : Option ℕ) → IsThere a → IsThere (lesser a b)
there-left None b t = absurd (false≢true t)
there-left (Some x) None t = refl
there-left (Some x) (Some y) t = refl

there-right : (a b : Option ℕ) → IsThere b → IsThere (lesser a b)
there-right None b t = t
there-right (Some x) None t = refl
there-right (Some x) (Some y) t = refl

pub first-left : (a b : Option ℕ) → IsThere a → IsThere (first_of a b)
first-left None b t = absurd (false≢true t)
first-left (Some x) b t = refl

first-right : (a b : Option ℕ) → IsThere b → IsThere (first_of a b)
first-right None b t = t
first-right (Some x) b t = refl

-- that an expression says so
abbrev Says : Sight → Expr → Type 0
Says h e = IsThere ((said e).long h)

-- one operand or more
one : (e a x : Expr) (h : Sight) → (said e).long h ≡ (said a).long h → Member (a ∷ []) x → Says h x → Says h e
one e a x h level (inl is) t = subst IsThere (sym level) (subst (Says h) is t)
one e a x h level (inr m) t = elim m [ ]

two : (e a b x : Expr) (h : Sight) → (said e).long h ≡ lesser ((said a).long h) ((said b).long h) → Member (a ∷ b ∷ []) x → Says h x → Says h e
two e a b x h level (inl is) t = subst IsThere (sym level) (there-left ((said a).long h) ((said b).long h) (subst (Says h) is t))
two e a b x h level (inr (inl is)) t = subst IsThere (sym level) (there-right ((said a).long h) ((said b).long h) (subst (Says h) is t))
two e a b x h level (inr (inr m)) t = elim m [ ]

three : (e a b c x : Expr) (h : Sight) → (said e).long h ≡ lesser ((said a).long h) (lesser ((said b).long h) ((said c).long h)) → Member (a ∷ b ∷ c ∷ []) x → Says h x → Says h e
three e a b c x h level (inl is) t = subst IsThere (sym level) (there-left ((said a).long h) (lesser ((said b).long h) ((said c).long h)) (subst (Says h) is t))
three e a b c x h level (inr (inl is)) t =
    subst IsThere (sym level) (there-right ((said a).long h) (lesser ((said b).long h) ((said c).long h)) (there-left ((said b).long h) ((said c).long h) (subst (Says h) is t)))
three e a b c x h level (inr (inr (inl is))) t =
    subst IsThere (sym level) (there-right ((said a).long h) (lesser ((said b).long h) ((said c).long h)) (there-right ((said b).long h) ((said c).long h) (subst (Says h) is t)))
three e a b c x h level (inr (inr (inr m))) t = elim m [ ]

-- what a step selects from, and its index
selected : (e a i x : Expr) (h : Sight) → (said e).long h ≡ lesser ((said a).long h) (index (said i) h) → Member (a ∷ i ∷ []) x → Says h x → Says h e
selected e a i x h level (inl is) t = subst IsThere (sym level) (there-left ((said a).long h) (index (said i) h) (subst (Says h) is t))
selected e a i x h level (inr (inl is)) t =
    subst IsThere (sym level) (there-right ((said a).long h) (index (said i) h) (first-left ((said i).long h) (cond ((said i).means.constant h && takes_too_long (said i).means h) (Some (said i).means.at) None) (subst (Says h) is t)))
selected e a i x h level (inr (inr m)) t = elim m [ ]

-- lists of operands
pub all-there : (es : List Expr) (x : Expr) (h : Sight) → Member es x → Says h x → IsThere (all_said (map said es) h)
all-there [] x h m t = elim m [ ]
all-there (e ∷ es) x h (inl is) t = there-left ((said e).long h) (all_said (map said es) h) (subst (Says h) is t)
all-there (e ∷ es) x h (inr m) t = there-right ((said e).long h) (all_said (map said es) h) (all-there es x h m t)

abbrev those_of : List Asked → List Expr
those_of qs = map (λ (q : Asked). q.of) qs

alone-there : (es : List Expr) (x : Expr) → Member (those_of (map alone_asked es)) x → Member es x
alone-there [] x m = m
alone-there (e ∷ es) x (inl is) = inl is
alone-there (e ∷ es) x (inr m) = inr (alone-there es x m)

passed-there : (places : List (List Bool)) (es : List Expr) (x : Expr) → Member (those_of (assigned_asked places es)) x → Member es x
passed-there [] es x m = elim m [ ]
passed-there (p ∷ ps) [] x m = elim m [ ]
passed-there (p ∷ ps) (e ∷ es) x (inl is) = inl is
passed-there (p ∷ ps) (e ∷ es) x (inr m) = inr (passed-there ps es x m)

parts-there : (ps : List Part) (es : List Expr) (x : Expr) (h : Sight) → Member (those_of (assigned_asked (marks_of_parts ps) es)) x → Says h x → IsThere (all_said (map (λ p. p.1) (zip ps (map said es))) h)
parts-there [] es x h m t = elim m [ ]
parts-there (p ∷ ps) [] x h m t = elim m [ ]
parts-there (p ∷ ps) (e ∷ es) x h (inl is) t = there-left ((said e).long h) (all_said (map (λ p. p.1) (zip ps (map said es))) h) (subst (Says h) is t)
parts-there (p ∷ ps) (e ∷ es) x h (inr m) t = there-right ((said e).long h) (all_said (map (λ p. p.1) (zip ps (map said es))) h) (parts-there ps es x h m t)

-- alternatives of `inside`
abbrev choices_long : List Choice → Sight → Option ℕ
choices_long cs h = all (map (λ (c : SaidChoice). c.long) (map choice_said cs)) h

member-append : {A : Type 0} (P : Type 0) (xs ys : List A) (x : A) → (Member xs x → P) → (Member ys x → P) → Member (xs ++ ys) x → P
member-append P [] ys x f g m = g m
member-append P (y ∷ xs) ys x f g (inl is) = f (inl is)
member-append P (y ∷ xs) ys x f g (inr m) = member-append P xs ys x (λ n. f (inr n)) g m

those-append : (qs rs : List Asked) → those_of (qs ++ rs) ≡ those_of qs ++ those_of rs
those-append [] rs = refl
those-append (q ∷ qs) rs = ap (λ es. q.of ∷ es) (those-append qs rs)

choice-there : (a : Expr) (c : Choice) (y : Choice-F Choice Form Expr) (x : Expr) (h : Sight) → out-Choice c ≡ y → Member (those_of (choice_asked a y)) x → Says h x → (x ≡ a) ⊎ IsThere ((choice_said c).long h)
choice-there a c (Choice-F.Value v) x h out (inl is) t = inl is
choice-there a c (Choice-F.Value v) x h out (inr (inl is)) t =
    let of : c ≡ C.Value v = sym (roll-out-Choice c) ∙ ap roll-Choice out ∙ C.rolls-Value v in
    inr (subst IsThere (sym (ap (λ (d : SaidChoice). d.long h) (ap choice_said of ∙ S.said-value v))) (subst (Says h) is t))
choice-there a c (Choice-F.Value v) x h out (inr (inr m)) t = elim m [ ]
choice-there a c (Choice-F.Range low high) x h out (inl is) t = inl is
choice-there a c (Choice-F.Range low high) x h out (inr (inl is)) t =
    let of : c ≡ C.Range low high = sym (roll-out-Choice c) ∙ ap roll-Choice out ∙ C.rolls-Range low high in
    inr (subst IsThere (sym (ap (λ (d : SaidChoice). d.long h) (ap choice_said of ∙ S.said-range low high))) (there-left ((said low).long h) ((said high).long h) (subst (Says h) is t)))
choice-there a c (Choice-F.Range low high) x h out (inr (inr (inl is))) t = inl is
choice-there a c (Choice-F.Range low high) x h out (inr (inr (inr (inl is)))) t =
    let of : c ≡ C.Range low high = sym (roll-out-Choice c) ∙ ap roll-Choice out ∙ C.rolls-Range low high in
    inr (subst IsThere (sym (ap (λ (d : SaidChoice). d.long h) (ap choice_said of ∙ S.said-range low high))) (there-right ((said low).long h) ((said high).long h) (subst (Says h) is t)))
choice-there a c (Choice-F.Range low high) x h out (inr (inr (inr (inr m)))) t = elim m [ ]

choices-there : (a : Expr) (cs : List Choice) (x : Expr) (h : Sight) → Member (those_of (flat_map (λ c. choice_asked a (out-Choice c)) cs)) x → Says h x → (x ≡ a) ⊎ IsThere (choices_long cs h)
choices-there a [] x h m t = elim m [ ]
choices-there a (c ∷ cs) x h m t =
    member-append ((x ≡ a) ⊎ IsThere (choices_long (c ∷ cs) h)) (those_of own) (those_of rest) x
    (λ n. here (choice-there a c (out-Choice c) x h refl n t)) (λ n. later (choices-there a cs x h n t)) (subst (λ es. Member es x) (those-append own rest) m)
  where
    own : List Asked
    own = choice_asked a (out-Choice c)

    rest : List Asked
    rest = flat_map (λ d. choice_asked a (out-Choice d)) cs

    here : (x ≡ a) ⊎ IsThere ((choice_said c).long h) → (x ≡ a) ⊎ IsThere (choices_long (c ∷ cs) h)
    here (inl is) = inl is
    here (inr s) = inr (there-left ((choice_said c).long h) (choices_long cs h) s)

    later : (x ≡ a) ⊎ IsThere (choices_long cs h) → (x ≡ a) ⊎ IsThere (choices_long (c ∷ cs) h)
    later (inl is) = inl is
    later (inr s) = inr (there-right ((choice_said c).long h) (choices_long cs h) s)

inside-there : (e a : Expr) (cs : List Choice) (x : Expr) (h : Sight) → (said e).long h ≡ lesser ((said a).long h) (choices_long cs h) → Member (a ∷ those_of (flat_map (λ c. choice_asked a (out-Choice c)) cs)) x → Says h x → Says h e
inside-there e a cs x h level (inl is) t = subst IsThere (sym level) (there-left ((said a).long h) (choices_long cs h) (subst (Says h) is t))
inside-there e a cs x h level (inr m) t = by (choices-there a cs x h m t)
  where
    by : (x ≡ a) ⊎ IsThere (choices_long cs h) → Says h e
    by (inl is) = subst IsThere (sym level) (there-left ((said a).long h) (choices_long cs h) (subst (Says h) is t))
    by (inr s) = subst IsThere (sym level) (there-right ((said a).long h) (choices_long cs h) s)

-- each form
form-is : (e : Expr) (y : Form-F Choice Form Expr) (f : Form) → out-Form e.form ≡ y → roll-Form y ≡ f → e.form ≡ f
form-is e y f out rolls = sym (roll-out-Form e.form) ∙ ap roll-Form out ∙ rolls

level-of : (e : Expr) (h : Sight) (l : Long) → (said e).long ≡ l → (said e).long h ≡ l h
level-of e h l is = ap (λ (f : Long). f h) is

list-says : (e : Expr) (es : List Expr) (x : Expr) (h : Sight) → (said e).long h ≡ all_said (map said es) h → Member es x → Says h x → Says h e
list-says e es x h level m t = subst IsThere (sym level) (all-there es x h m t)

by-layer : (e : Expr) (y : Form-F Choice Form Expr) (fs : ℕ → List Parameter) (w : ℕ) (s : Bool) (x : Expr) (h : Sight) → out-Form e.form ≡ y → Member (those_of (form_asked (layout e.of) fs w s y)) x → Says h x → Says h e
by-layer e (Form-F.Literal v goes_on) fs w s x h out m t = elim m [ ]
by-layer e (Form-F.Fill b) fs w s x h out m t = elim m [ ]
by-layer e (Form-F.Constant v) fs w s x h out m t = elim m [ ]
by-layer e (Form-F.Signal n) fs w s x h out m t = elim m [ ]
by-layer e (Form-F.Local n) fs w s x h out m t = elim m [ ]
by-layer e (Form-F.Member a k) fs w s x h out m t = one e a x h (level-of e h _ (S.long-Member e a k (form-is e _ _ out (V.rolls-Member a k)))) m t
by-layer e (Form-F.Index a i) fs w s x h out m t = selected e a i x h (level-of e h _ (S.long-Index e a i (form-is e _ _ out (V.rolls-Index a i)))) m t
by-layer e (Form-F.Part a left right) fs w s x h out m t = one e a x h (level-of e h _ (S.long-Part e a left right (form-is e _ _ out (V.rolls-Part a left right)))) m t
by-layer e (Form-F.Slide a i n up) fs w s x h out m t = selected e a i x h (level-of e h _ (S.long-Slide e a i n up (form-is e _ _ out (V.rolls-Slide a i n up)))) m t
by-layer e (Form-F.Unary op a) fs w s x h out m t = one e a x h (level-of e h _ (S.long-Unary e op a (form-is e _ _ out (V.rolls-Unary op a)))) m t
by-layer e (Form-F.Reduce op a) fs w s x h out m t = one e a x h (level-of e h _ (S.long-Reduce e op a (form-is e _ _ out (V.rolls-Reduce op a)))) m t
by-layer e (Form-F.Negate a) fs w s x h out m t = one e a x h (level-of e h _ (S.long-Negate e a (form-is e _ _ out (V.rolls-Negate a)))) m t
by-layer e (Form-F.Binary op a b) fs w s x h out m t = two e a b x h (level-of e h _ (S.long-Binary e op a b (form-is e _ _ out (V.rolls-Binary op a b)))) m t
by-layer e (Form-F.Shift op a b) fs w s x h out m t = two e a b x h (level-of e h _ (S.long-Shift e op a b (form-is e _ _ out (V.rolls-Shift op a b)))) m t
by-layer e (Form-F.Power a b) fs w s x h out m t = two e a b x h (level-of e h _ (S.long-Power e a b (form-is e _ _ out (V.rolls-Power a b)))) m t
by-layer e (Form-F.Order op a b) fs w s x h out m t = two e a b x h (level-of e h _ (S.long-Order e op a b (form-is e _ _ out (V.rolls-Order op a b)))) m t
by-layer e (Form-F.Equal op negated a b) fs w s x h out m t = two e a b x h (level-of e h _ (S.long-Equal e op negated a b (form-is e _ _ out (V.rolls-Equal op negated a b)))) m t
by-layer e (Form-F.Both a b) fs w s x h out m t = two e a b x h (level-of e h _ (S.long-Both e a b (form-is e _ _ out (V.rolls-Both a b)))) m t
by-layer e (Form-F.Either a b) fs w s x h out m t = two e a b x h (level-of e h _ (S.long-Either e a b (form-is e _ _ out (V.rolls-Either a b)))) m t
by-layer e (Form-F.Choose on a b) fs w s x h out m t = three e on a b x h (level-of e h _ (S.long-Choose e on a b (form-is e _ _ out (V.rolls-Choose on a b)))) m t
by-layer e (Form-F.Concat es) fs w s x h out m t = list-says e es x h (level-of e h _ (S.long-Concat e es (form-is e _ _ out (V.rolls-Concat es)))) (alone-there es x m) t
by-layer e (Form-F.Repeat n es) fs w s x h out m t = list-says e es x h (level-of e h _ (S.long-Repeat e n es (form-is e _ _ out (V.rolls-Repeat n es)))) (alone-there es x m) t
by-layer e (Form-F.Inside a cs) fs w s x h out m t = inside-there e a cs x h (level-of e h _ (S.long-Inside e a cs (form-is e _ _ out (V.rolls-Inside a cs)))) m t
by-layer e (Form-F.Cast a) fs w s x h out m t = one e a x h (level-of e h _ (S.long-Cast e a (form-is e _ _ out (V.rolls-Cast a)))) m t
by-layer e (Form-F.Clog2 a) fs w s x h out m t = one e a x h (level-of e h _ (S.long-Clog2 e a (form-is e _ _ out (V.rolls-Clog2 a)))) m t
by-layer e (Form-F.Pattern es) fs w s x h out m t =
    subst IsThere (sym (level-of e h _ (S.long-Pattern e es (form-is e _ _ out (V.rolls-Pattern es))))) (parts-there (parts_of (layout e.of)) es x h m t)
by-layer e (Form-F.Call f es) fs w s x h out m t = list-says e es x h (level-of e h _ (S.long-Call e f es (form-is e _ _ out (V.rolls-Call f es)))) (passed-there (marks_of_formals (fs f)) es x m) t
by-layer e (Form-F.Stream reversed n es) fs w s x h out m t = list-says e es x h (level-of e h _ (S.long-Stream e reversed n es (form-is e _ _ out (V.rolls-Stream reversed n es)))) (alone-there es x m) t

-- no signal is held where constants are valued
none-held : (n : ℕ) → false ≡ is_held [] n
none-held n = refl

unheld-same : (k : Known) → I.unheld (sight k).around ≡ K.unheld k
unheld-same k = λ i. record { now = now_of [] k.locals.now; holds = λ n. none-held n i; callee = callees k.functions.now }

long-same : (k : Known) (e : Expr) → takes_too_long (meaning e) (sight k) ≡ K.takes_too_long k e
long-same k e = ap (λ (a : Around). is_some ((meaning e).values a (record { left = Some (2 ^ 20); stop = None })).stop) (unheld-same k)

both-there : (b c : Bool) (at : ℕ) → b ≡ true → c ≡ true → IsThere (cond (b && c) (Some at) None)
both-there b c at hb hc = subst (λ x. IsThere (cond (x && c) (Some at) None)) (sym hb) (subst (λ x. IsThere (cond x (Some at) None)) (sym hc) refl)

index-there : (i : Expr) (h : Sight) → (meaning i).constant h ≡ true → takes_too_long (meaning i) h ≡ true → IsThere (index (said i) h)
index-there i h constant long =
    first-right ((said i).long h) (cond ((said i).means.constant h && takes_too_long (said i).means h) (Some (said i).means.at) None)
    (subst (λ (m : Meaning). IsThere (cond (m.constant h && takes_too_long m h) (Some m.at) None)) (sym (means-it i)) (both-there ((meaning i).constant h) (takes_too_long (meaning i) h) (meaning i).at constant long))

step-there : (e i : Expr) (h : Sight) → IsIndexOf i e → IsThere (index (said i) h) → Says h e
step-there e i h (inl (x, is)) t = subst IsThere (sym (level-of e h _ (S.long-Index e x i is))) (there-right ((said x).long h) (index (said i) h) t)
step-there e i h (inr (x, n, up, is)) t = subst IsThere (sym (level-of e h _ (S.long-Slide e x i n up is))) (there-right ((said x).long h) (index (said i) h) t)

pub long-index : (k : Known) (e : Expr) (at : ℕ) → LongIndex k e at → IsThere ((said e).long (sight k))
long-index k e at (LongIndex.Here f i is constant long) = step-there e i (sight k) is (index-there i (sight k) constant (long-same k i ∙ long))
long-index k e at (LongIndex.Inside f x a o long) = by-layer e (out-Form e.form) o.formals o.width o.signed x (sight k) refl o.here (long-index k x at long)

pub long-at : (k : Known) (e : Expr) (at : ℕ) → LongAt k e at → IsThere (too_long_at e (sight k))
long-at k e at (LongAt.Itself i constant long) =
    first-right ((said e).long (sight k)) (cond (takes_too_long (meaning e) (sight k)) (Some e.spot.at) None) (subst (λ b. IsThere (cond b (Some e.spot.at) None)) (sym (long-same k e ∙ long)) refl)
long-at k e at (LongAt.Within i a long) = first-left ((said e).long (sight k)) (cond (takes_too_long (meaning e) (sight k)) (Some e.spot.at) None) (long-index k e at long)
