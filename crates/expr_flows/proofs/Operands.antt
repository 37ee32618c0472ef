-- What expressions that are no select paths read, by their operands.
use Rattle.std.proofs.Common.{◌≡◌, ℕ, ◌≤◌, ℤ, Bool, true, false, ◌&&◌, List, [], ◌∷◌, ◌++◌, map, flat_map, zip, length, refl, ap, sym, ◌∙◌, subst, arith, rules}
use Rattle.std.specs.Prelude.{nat_le}
use Rattle.std.specs.List.{list_all}
use Rattle.std.proofs.lemmas.Bool.{and_parts, leb-true}
use Rattle.std.proofs.lemmas.List.{length-map}
use Rattle.b4_core.specs.declared.bit.Bit4.{Bit4}
use Rattle.b4_core.specs.declared.operators.UnOp.{UnOp}
use Rattle.b4_core.specs.declared.operators.BinOp.{BinOp}
use Rattle.b4_core.specs.declared.operators.RedOp.{RedOp}
use Rattle.b4_core.specs.declared.operators.ShiftOp.{ShiftOp}
use Rattle.b4_core.specs.declared.operators.OrdOp.{OrdOp}
use Rattle.b4_core.specs.declared.operators.EqOp.{EqOp}
use Rattle.sv_types.specs.declared.types.Value.{Value}
use Rattle.sv_types.specs.declared.expression.Expr.{Expr}
use Rattle.sv_types.specs.declared.expression.Choice.{Choice, out-Choice}
use Rattle.sv_types.specs.declared.expression.Choice.TheVariants as C
use Rattle.sv_types.specs.declared.expression.Form.{Form, Form-F, out-Form, the_lemmas}
use Rattle.sv_types.specs.declared.expression.Form.TheVariants as V
use Rattle.sv_types.specs.Layouts.{Layout, Part, layout}
use Rattle.sv_types.specs.Windows.{whole}
use Rattle.sv_types.specs.Surroundings.{Parameter, Sight, Use}
use Rattle.sv_types.specs.Meanings.{Meaning, Operand, wide, by_itself, at_width}
use Rattle.sv_types.specs.Operators as O
use Rattle.sv_types.specs.Operators.{Alternative, assigned_width, parts_of, inside_operands}
use Rattle.sv_types.specs.Expressions.{meaning}
use Rattle.sv_types.proofs.Levels as L
use Rattle.sv_types.proofs.Levels.{form_meaning}
use Rattle.sv_types.proofs.Terms.{Steps, by-expr}
use Rattle.eval_parts.specs.Steps.{is_path}
use Rattle.eval_parts.specs.Targets.{marks_of_parts, marks_of_formals}
use Rattle.eval_parts.proofs.Steps.{at-form}
use Rattle.eval_forms.specs.Asked.{Asked, bits_asked, alone_asked, compared_asked, choice_asked, assigned_asked, form_asked}
use Rattle.eval_forms.proofs.Alternatives as I
use Rattle.eval_forms.proofs.Strict as K
use Rattle.expr_flows.specs.Full.{is_full, every}
use Rattle.expr_flows.specs.Reads.{reads_asked, constant_asked}
use Rattle.expr_flows.proofs.FullLevels as U
use Rattle.expr_flows.proofs.FullLevels.{choice_full}

-- what an expression asks of its operands
abbrev pub asks : Expr → (ℕ → List Parameter) → ℕ → Bool → List Asked
asks e fs w s = form_asked (layout e.of) fs w s (out-Form e.form)

-- what operands read, and whether all of them are known
abbrev pub reads_of : Sight → List Operand → List Use
reads_of k ps = flat_map (λ (p : Operand). p.of.reads k) ps

abbrev pub constants_of : Sight → List Operand → Bool
constants_of k ps = list_all (λ (p : Operand). p.of.constant k) ps

abbrev pub all_reads : Sight → List Asked → List Use
all_reads k qs = flat_map (reads_asked k) qs

abbrev pub all_constant : Sight → List Asked → Bool
all_constant k qs = list_all (constant_asked k) qs

abbrev pub AllFull : (ℕ → List Parameter) → List Asked → Type 0
AllFull fs [] = Unit {0}
AllFull fs (q ∷ qs) = (is_full fs q.of ≡ true) × AllFull fs qs

-- the same as what is asked
pub record ReadBy (m : Meaning) (qs : List Asked) (k : Sight) : Type 0 where
  pub reads : m.reads k ≡ all_reads k qs
  pub constant : m.constant k ≡ all_constant k qs
  pub prefix : m.prefix k ≡ record { window = whole (wide m); exact = m.constant k }

by-asked : (e : Expr) (f : Form) (y : _) (m : Layout → ℕ → Meaning) (fs : ℕ → List Parameter) (w : ℕ) (s : Bool) (k : Sight) → e.form ≡ f → form_meaning f ≡ m → out-Form f ≡ y
    → ReadBy (m (layout e.of) e.spot.at) (form_asked (layout e.of) fs w s y) k → ReadBy (meaning e) (asks e fs w s) k
by-asked e f y m fs w s k is level out given =
    subst (λ qs. ReadBy (meaning e) qs k) (K.asked-by e f y fs w s is out) (subst (λ n. ReadBy n (form_asked (layout e.of) fs w s y) k) (sym (at-form e f m is level)) given)

-- lists of operands
reads-alone : (es : List Expr) (k : Sight) → reads_of k (map by_itself (map meaning es)) ≡ all_reads k (map alone_asked es)
reads-alone [] k = refl
reads-alone (e ∷ es) k = ap (λ us. (meaning e).reads k ++ us) (reads-alone es k)

constant-alone : (es : List Expr) (k : Sight) → constants_of k (map by_itself (map meaning es)) ≡ all_constant k (map alone_asked es)
constant-alone [] k = refl
constant-alone (e ∷ es) k = ap (λ b. (meaning e).constant k && b) (constant-alone es k)

full-alone : (fs : ℕ → List Parameter) (es : List Expr) → every (map (is_full fs) es) ≡ true → AllFull fs (map alone_asked es)
full-alone fs [] h = tt
full-alone fs (e ∷ es) h = let p = and_parts (is_full fs e) (every (map (is_full fs) es)) h in (p.0, full-alone fs es p.1)

abbrev item_operands : List Part → List Meaning → List Operand
item_operands ps ms = map (λ p. at_width (assigned_width p.0.two_state p.1) p.1) (zip ps ms)

reads-parts : (ps : List Part) (es : List Expr) (k : Sight) → reads_of k (item_operands ps (map meaning es)) ≡ all_reads k (assigned_asked (marks_of_parts ps) es)
reads-parts [] es k = refl
reads-parts (p ∷ ps) [] k = refl
reads-parts (p ∷ ps) (e ∷ es) k = ap (λ us. (meaning e).reads k ++ us) (reads-parts ps es k)

constant-parts : (ps : List Part) (es : List Expr) (k : Sight) → constants_of k (item_operands ps (map meaning es)) ≡ all_constant k (assigned_asked (marks_of_parts ps) es)
constant-parts [] es k = refl
constant-parts (p ∷ ps) [] k = refl
constant-parts (p ∷ ps) (e ∷ es) k = ap (λ b. (meaning e).constant k && b) (constant-parts ps es k)

full-assigned : (fs : ℕ → List Parameter) (places : List (List Bool)) (es : List Expr) → every (map (is_full fs) es) ≡ true → AllFull fs (assigned_asked places es)
full-assigned fs [] es h = tt
full-assigned fs (p ∷ ps) [] h = tt
full-assigned fs (p ∷ ps) (e ∷ es) h = let b = and_parts (is_full fs e) (every (map (is_full fs) es)) h in (b.0, full-assigned fs ps es b.1)

reads-passed : (ps : List Parameter) (es : List Expr) (k : Sight) → length es ≤ length ps → reads_of k (map by_itself (map meaning es)) ≡ all_reads k (assigned_asked (marks_of_formals ps) es)
reads-passed [] [] k h = refl
reads-passed [] (e ∷ es) k h = absurd (omega arith)
reads-passed (p ∷ ps) [] k h = refl
reads-passed (p ∷ ps) (e ∷ es) k h = ap (λ us. (meaning e).reads k ++ us) (reads-passed ps es k (omega arith))

constant-passed : (ps : List Parameter) (es : List Expr) (k : Sight) → length es ≤ length ps → constants_of k (map by_itself (map meaning es)) ≡ all_constant k (assigned_asked (marks_of_formals ps) es)
constant-passed [] [] k h = refl
constant-passed [] (e ∷ es) k h = absurd (omega arith)
constant-passed (p ∷ ps) [] k h = refl
constant-passed (p ∷ ps) (e ∷ es) k h = ap (λ b. (meaning e).constant k && b) (constant-passed ps es k (omega arith))

-- alternatives of `inside`
abbrev choice_asks : Expr → Choice → List Asked
choice_asks x c = choice_asked x (out-Choice c)

pub record SameBehind (k : Sight) (ps : List Operand) (qs : List Asked) : Type 0 where
  pub reads : reads_of k ps ≡ all_reads k qs
  pub constant : constants_of k ps ≡ all_constant k qs

abbrev ReadIt : Choice → Type 0
ReadIt c = (x : Expr) (k : Sight) (later : List Operand) (asked : List Asked) → SameBehind k later asked → SameBehind k (inside_operands (meaning x) (L.alternative c) ++ later) (choice_asks x c ++ asked)

read-value : (v : Expr) → ReadIt (C.Value v)
read-value v x k later asked h =
    subst (λ o. SameBehind k (inside_operands (meaning x) o ++ later) (choice_asks x (C.Value v) ++ asked)) (sym (L.only v))
    (
    subst (λ o. SameBehind k (inside_operands (meaning x) (Alternative.Only (meaning v)) ++ later) (choice_asked x o ++ asked)) (sym (I.out-Value v))
    (record { reads = ap (λ us. (meaning v).reads k ++ us) h.reads; constant = ap (λ b. (meaning v).constant k && b) h.constant })
    )

read-range : (low high : Expr) → ReadIt (C.Range low high)
read-range low high x k later asked h =
    subst (λ o. SameBehind k (inside_operands (meaning x) o ++ later) (choice_asks x (C.Range low high) ++ asked)) (sym (L.from-to low high))
    (
    subst (λ o. SameBehind k (inside_operands (meaning x) (Alternative.From (meaning low) (meaning high)) ++ later) (choice_asked x o ++ asked)) (sym (I.out-Range low high))
    (record {
      reads = ap (λ us. (meaning low).reads k ++ ((meaning high).reads k ++ us)) h.reads;
      constant = ap (λ b. (meaning low).constant k && ((meaning high).constant k && b)) h.constant;
    })
    )

all-choices : (x : Expr) (cs : List Choice) (k : Sight) → SameBehind k (flat_map (inside_operands (meaning x)) (map L.alternative cs)) (flat_map (choice_asks x) cs)
all-choices x [] k = record { reads = refl; constant = refl }
all-choices x (c ∷ cs) k = I.by-choice ReadIt read-value read-range c x k _ _ (all-choices x cs k)

abbrev FullIt : Choice → Type 0
FullIt c = (fs : ℕ → List Parameter) (x : Expr) (later : List Asked) → is_full fs x ≡ true → choice_full fs c ≡ true → AllFull fs later → AllFull fs (choice_asks x c ++ later)

full-it-value : (v : Expr) → FullIt (C.Value v)
full-it-value v fs x later h g rest = subst (λ o. AllFull fs (choice_asked x o ++ later)) (sym (I.out-Value v)) (h, (sym (U.full-value fs v) ∙ g, rest))

full-it-range : (low high : Expr) → FullIt (C.Range low high)
full-it-range low high fs x later h g rest =
    let p = and_parts (is_full fs low) (is_full fs high) (sym (U.full-range fs low high) ∙ g) in
    subst (λ o. AllFull fs (choice_asked x o ++ later)) (sym (I.out-Range low high)) (h, (p.0, (h, (p.1, rest))))

full-choices : (fs : ℕ → List Parameter) (x : Expr) (cs : List Choice) → is_full fs x ≡ true → every (map (choice_full fs) cs) ≡ true → AllFull fs (flat_map (choice_asks x) cs)
full-choices fs x [] h g = tt
full-choices fs x (c ∷ cs) h g =
    let p = and_parts (choice_full fs c) (every (map (choice_full fs) cs)) g in I.by-choice FullIt full-it-value full-it-range c fs x _ h p.0 (full-choices fs x cs h p.1)

-- form by form
pub record Operated (e : Expr) : Type 0 where
  pub reads : (fs : ℕ → List Parameter) (w : ℕ) (s : Bool) (k : Sight) → is_full fs e ≡ true → ReadBy (meaning e) (asks e fs w s) k
  pub full : (fs : ℕ → List Parameter) (w : ℕ) (s : Bool) → is_full fs e ≡ true → AllFull fs (asks e fs w s)

out-Call : (f : ℕ) (es : List Expr) → out-Form (V.Call f es) ≡ Form-F.Call f es
out-Call f es = search (rules, the_lemmas)

in-Literal : (of : Layout) (at : ℕ) (v : List Bit4) (goes_on : Bool) (w : ℕ) (s : Bool) (k : Sight) → ReadBy (O.literal of at goes_on v) ([]) k
unfolding O.literal
in-Literal of at v goes_on w s k = record { reads = refl; constant = refl; prefix = refl }

of-Literal : (v : List Bit4) (goes_on : Bool) (e : Expr) → e.form ≡ V.Literal v goes_on → Operated e
of-Literal v goes_on e is = record {
  reads = λ fs w s k h. by-asked e (V.Literal v goes_on) (Form-F.Literal v goes_on) _ fs w s k is (L.form-Literal v goes_on) (K.out-Literal v goes_on) (in-Literal (layout e.of) e.spot.at v goes_on w s k);
  full = λ fs w s h. subst (AllFull fs) (K.asked-by e (V.Literal v goes_on) (Form-F.Literal v goes_on) fs w s is (K.out-Literal v goes_on)) (tt);
}

in-Fill : (of : Layout) (at : ℕ) (b : Bit4) (w : ℕ) (s : Bool) (k : Sight) → ReadBy (O.fill of at b) ([]) k
unfolding O.fill
in-Fill of at b w s k = record { reads = refl; constant = refl; prefix = refl }

of-Fill : (b : Bit4) (e : Expr) → e.form ≡ V.Fill b → Operated e
of-Fill b e is = record {
  reads = λ fs w s k h. by-asked e (V.Fill b) (Form-F.Fill b) _ fs w s k is (L.form-Fill b) (K.out-Fill b) (in-Fill (layout e.of) e.spot.at b w s k);
  full = λ fs w s h. subst (AllFull fs) (K.asked-by e (V.Fill b) (Form-F.Fill b) fs w s is (K.out-Fill b)) (tt);
}

in-Constant : (of : Layout) (at : ℕ) (v : Value) (w : ℕ) (s : Bool) (k : Sight) → ReadBy (O.constant of at v) ([]) k
unfolding O.constant
in-Constant of at v w s k = record { reads = refl; constant = refl; prefix = refl }

of-Constant : (v : Value) (e : Expr) → e.form ≡ V.Constant v → Operated e
of-Constant v e is = record {
  reads = λ fs w s k h. by-asked e (V.Constant v) (Form-F.Constant v) _ fs w s k is (L.form-Constant v) (K.out-Constant v) (in-Constant (layout e.of) e.spot.at v w s k);
  full = λ fs w s h. subst (AllFull fs) (K.asked-by e (V.Constant v) (Form-F.Constant v) fs w s is (K.out-Constant v)) (tt);
}

in-Unary : (of : Layout) (at : ℕ) (op : UnOp) (x : Expr) (w : ℕ) (s : Bool) (k : Sight) → ReadBy (O.unary of at op (meaning x)) (bits_asked x w s ∷ []) k
unfolding O.unary
in-Unary of at op x w s k = record { reads = refl; constant = refl; prefix = refl }

of-Unary : (op : UnOp) (x : Expr) (e : Expr) → e.form ≡ V.Unary op x → Operated e
of-Unary op x e is = record {
  reads = λ fs w s k h. by-asked e (V.Unary op x) (Form-F.Unary op x) _ fs w s k is (L.form-Unary op x) (K.out-Unary op x) (in-Unary (layout e.of) e.spot.at op x w s k);
  full = λ fs w s h. subst (AllFull fs) (K.asked-by e (V.Unary op x) (Form-F.Unary op x) fs w s is (K.out-Unary op x)) ((sym (U.full-Unary fs e op x is) ∙ h, tt));
}

in-Reduce : (of : Layout) (at : ℕ) (op : RedOp) (x : Expr) (w : ℕ) (s : Bool) (k : Sight) → ReadBy (O.reduce of at op (meaning x)) (alone_asked x ∷ []) k
unfolding O.reduce
in-Reduce of at op x w s k = record { reads = refl; constant = refl; prefix = refl }

of-Reduce : (op : RedOp) (x : Expr) (e : Expr) → e.form ≡ V.Reduce op x → Operated e
of-Reduce op x e is = record {
  reads = λ fs w s k h. by-asked e (V.Reduce op x) (Form-F.Reduce op x) _ fs w s k is (L.form-Reduce op x) (K.out-Reduce op x) (in-Reduce (layout e.of) e.spot.at op x w s k);
  full = λ fs w s h. subst (AllFull fs) (K.asked-by e (V.Reduce op x) (Form-F.Reduce op x) fs w s is (K.out-Reduce op x)) ((sym (U.full-Reduce fs e op x is) ∙ h, tt));
}

in-Negate : (of : Layout) (at : ℕ) (x : Expr) (w : ℕ) (s : Bool) (k : Sight) → ReadBy (O.negate of at (meaning x)) (alone_asked x ∷ []) k
unfolding O.negate
in-Negate of at x w s k = record { reads = refl; constant = refl; prefix = refl }

of-Negate : (x : Expr) (e : Expr) → e.form ≡ V.Negate x → Operated e
of-Negate x e is = record {
  reads = λ fs w s k h. by-asked e (V.Negate x) (Form-F.Negate x) _ fs w s k is (L.form-Negate x) (K.out-Negate x) (in-Negate (layout e.of) e.spot.at x w s k);
  full = λ fs w s h. subst (AllFull fs) (K.asked-by e (V.Negate x) (Form-F.Negate x) fs w s is (K.out-Negate x)) ((sym (U.full-Negate fs e x is) ∙ h, tt));
}

in-Binary : (of : Layout) (at : ℕ) (op : BinOp) (x : Expr) (y : Expr) (w : ℕ) (s : Bool) (k : Sight) → ReadBy (O.binary of at op (meaning x) (meaning y)) (bits_asked x w s ∷ bits_asked y w s ∷ []) k
unfolding O.binary
in-Binary of at op x y w s k = record { reads = refl; constant = refl; prefix = refl }

of-Binary : (op : BinOp) (x : Expr) (y : Expr) (e : Expr) → e.form ≡ V.Binary op x y → Operated e
of-Binary op x y e is = record {
  reads = λ fs w s k h. by-asked e (V.Binary op x y) (Form-F.Binary op x y) _ fs w s k is (L.form-Binary op x y) (K.out-Binary op x y) (in-Binary (layout e.of) e.spot.at op x y w s k);
  full = λ fs w s h. subst (AllFull fs) (K.asked-by e (V.Binary op x y) (Form-F.Binary op x y) fs w s is (K.out-Binary op x y)) (let p = and_parts (is_full fs x) (is_full fs y) (sym (U.full-Binary fs e op x y is) ∙ h) in (p.0, (p.1, tt)));
}

in-Shift : (of : Layout) (at : ℕ) (op : ShiftOp) (x : Expr) (y : Expr) (w : ℕ) (s : Bool) (k : Sight) → ReadBy (O.shift of at op (meaning x) (meaning y)) (bits_asked x w s ∷ alone_asked y ∷ []) k
unfolding O.shift
in-Shift of at op x y w s k = record { reads = refl; constant = refl; prefix = refl }

of-Shift : (op : ShiftOp) (x : Expr) (y : Expr) (e : Expr) → e.form ≡ V.Shift op x y → Operated e
of-Shift op x y e is = record {
  reads = λ fs w s k h. by-asked e (V.Shift op x y) (Form-F.Shift op x y) _ fs w s k is (L.form-Shift op x y) (K.out-Shift op x y) (in-Shift (layout e.of) e.spot.at op x y w s k);
  full = λ fs w s h. subst (AllFull fs) (K.asked-by e (V.Shift op x y) (Form-F.Shift op x y) fs w s is (K.out-Shift op x y)) (let p = and_parts (is_full fs x) (is_full fs y) (sym (U.full-Shift fs e op x y is) ∙ h) in (p.0, (p.1, tt)));
}

in-Power : (of : Layout) (at : ℕ) (x : Expr) (y : Expr) (w : ℕ) (s : Bool) (k : Sight) → ReadBy (O.power of at (meaning x) (meaning y)) (bits_asked x w s ∷ alone_asked y ∷ []) k
unfolding O.power
in-Power of at x y w s k = record { reads = refl; constant = refl; prefix = refl }

of-Power : (x : Expr) (y : Expr) (e : Expr) → e.form ≡ V.Power x y → Operated e
of-Power x y e is = record {
  reads = λ fs w s k h. by-asked e (V.Power x y) (Form-F.Power x y) _ fs w s k is (L.form-Power x y) (K.out-Power x y) (in-Power (layout e.of) e.spot.at x y w s k);
  full = λ fs w s h. subst (AllFull fs) (K.asked-by e (V.Power x y) (Form-F.Power x y) fs w s is (K.out-Power x y)) (let p = and_parts (is_full fs x) (is_full fs y) (sym (U.full-Power fs e x y is) ∙ h) in (p.0, (p.1, tt)));
}

in-Order : (of : Layout) (at : ℕ) (op : OrdOp) (x : Expr) (y : Expr) (w : ℕ) (s : Bool) (k : Sight) → ReadBy (O.order of at op (meaning x) (meaning y)) (compared_asked x y) k
unfolding O.order
in-Order of at op x y w s k = record { reads = refl; constant = refl; prefix = refl }

of-Order : (op : OrdOp) (x : Expr) (y : Expr) (e : Expr) → e.form ≡ V.Order op x y → Operated e
of-Order op x y e is = record {
  reads = λ fs w s k h. by-asked e (V.Order op x y) (Form-F.Order op x y) _ fs w s k is (L.form-Order op x y) (K.out-Order op x y) (in-Order (layout e.of) e.spot.at op x y w s k);
  full = λ fs w s h. subst (AllFull fs) (K.asked-by e (V.Order op x y) (Form-F.Order op x y) fs w s is (K.out-Order op x y)) (let p = and_parts (is_full fs x) (is_full fs y) (sym (U.full-Order fs e op x y is) ∙ h) in (p.0, (p.1, tt)));
}

in-Equal : (of : Layout) (at : ℕ) (op : EqOp) (negated : Bool) (x : Expr) (y : Expr) (w : ℕ) (s : Bool) (k : Sight) → ReadBy (O.equal of at op negated (meaning x) (meaning y)) (compared_asked x y) k
unfolding O.equal
in-Equal of at op negated x y w s k = record { reads = refl; constant = refl; prefix = refl }

of-Equal : (op : EqOp) (negated : Bool) (x : Expr) (y : Expr) (e : Expr) → e.form ≡ V.Equal op negated x y → Operated e
of-Equal op negated x y e is = record {
  reads = λ fs w s k h. by-asked e (V.Equal op negated x y) (Form-F.Equal op negated x y) _ fs w s k is (L.form-Equal op negated x y) (K.out-Equal op negated x y) (in-Equal (layout e.of) e.spot.at op negated x y w s k);
  full = λ fs w s h. subst (AllFull fs) (K.asked-by e (V.Equal op negated x y) (Form-F.Equal op negated x y) fs w s is (K.out-Equal op negated x y)) (let p = and_parts (is_full fs x) (is_full fs y) (sym (U.full-Equal fs e op negated x y is) ∙ h) in (p.0, (p.1, tt)));
}

in-Both : (of : Layout) (at : ℕ) (x : Expr) (y : Expr) (w : ℕ) (s : Bool) (k : Sight) → ReadBy (O.both of at (meaning x) (meaning y)) (alone_asked x ∷ alone_asked y ∷ []) k
unfolding O.both
in-Both of at x y w s k = record { reads = refl; constant = refl; prefix = refl }

of-Both : (x : Expr) (y : Expr) (e : Expr) → e.form ≡ V.Both x y → Operated e
of-Both x y e is = record {
  reads = λ fs w s k h. by-asked e (V.Both x y) (Form-F.Both x y) _ fs w s k is (L.form-Both x y) (K.out-Both x y) (in-Both (layout e.of) e.spot.at x y w s k);
  full = λ fs w s h. subst (AllFull fs) (K.asked-by e (V.Both x y) (Form-F.Both x y) fs w s is (K.out-Both x y)) (let p = and_parts (is_full fs x) (is_full fs y) (sym (U.full-Both fs e x y is) ∙ h) in (p.0, (p.1, tt)));
}

in-Either : (of : Layout) (at : ℕ) (x : Expr) (y : Expr) (w : ℕ) (s : Bool) (k : Sight) → ReadBy (O.either of at (meaning x) (meaning y)) (alone_asked x ∷ alone_asked y ∷ []) k
unfolding O.either
in-Either of at x y w s k = record { reads = refl; constant = refl; prefix = refl }

of-Either : (x : Expr) (y : Expr) (e : Expr) → e.form ≡ V.Either x y → Operated e
of-Either x y e is = record {
  reads = λ fs w s k h. by-asked e (V.Either x y) (Form-F.Either x y) _ fs w s k is (L.form-Either x y) (K.out-Either x y) (in-Either (layout e.of) e.spot.at x y w s k);
  full = λ fs w s h. subst (AllFull fs) (K.asked-by e (V.Either x y) (Form-F.Either x y) fs w s is (K.out-Either x y)) (let p = and_parts (is_full fs x) (is_full fs y) (sym (U.full-Either fs e x y is) ∙ h) in (p.0, (p.1, tt)));
}

in-Choose : (of : Layout) (at : ℕ) (z : Expr) (x : Expr) (y : Expr) (w : ℕ) (s : Bool) (k : Sight) → ReadBy (O.choose of at (meaning z) (meaning x) (meaning y)) (alone_asked z ∷ bits_asked x w s ∷ bits_asked y w s ∷ []) k
unfolding O.choose
in-Choose of at z x y w s k = record { reads = refl; constant = refl; prefix = refl }

of-Choose : (z : Expr) (x : Expr) (y : Expr) (e : Expr) → e.form ≡ V.Choose z x y → Operated e
of-Choose z x y e is = record {
  reads = λ fs w s k h. by-asked e (V.Choose z x y) (Form-F.Choose z x y) _ fs w s k is (L.form-Choose z x y) (K.out-Choose z x y) (in-Choose (layout e.of) e.spot.at z x y w s k);
  full = λ fs w s h. subst (AllFull fs) (K.asked-by e (V.Choose z x y) (Form-F.Choose z x y) fs w s is (K.out-Choose z x y)) (let p = and_parts (is_full fs z) (is_full fs x && is_full fs y) (sym (U.full-Choose fs e z x y is) ∙ h) in let q = and_parts (is_full fs x) (is_full fs y) p.1 in (p.0, (q.0, (q.1, tt))));
}

in-Cast : (of : Layout) (at : ℕ) (x : Expr) (w : ℕ) (s : Bool) (k : Sight) → ReadBy (O.cast of at (meaning x)) (alone_asked x ∷ []) k
unfolding O.cast
in-Cast of at x w s k = record { reads = refl; constant = refl; prefix = refl }

of-Cast : (x : Expr) (e : Expr) → e.form ≡ V.Cast x → Operated e
of-Cast x e is = record {
  reads = λ fs w s k h. by-asked e (V.Cast x) (Form-F.Cast x) _ fs w s k is (L.form-Cast x) (K.out-Cast x) (in-Cast (layout e.of) e.spot.at x w s k);
  full = λ fs w s h. subst (AllFull fs) (K.asked-by e (V.Cast x) (Form-F.Cast x) fs w s is (K.out-Cast x)) ((sym (U.full-Cast fs e x is) ∙ h, tt));
}

in-Clog2 : (of : Layout) (at : ℕ) (x : Expr) (w : ℕ) (s : Bool) (k : Sight) → ReadBy (O.clog2 of at (meaning x)) (alone_asked x ∷ []) k
unfolding O.clog2
in-Clog2 of at x w s k = record { reads = refl; constant = refl; prefix = refl }

of-Clog2 : (x : Expr) (e : Expr) → e.form ≡ V.Clog2 x → Operated e
of-Clog2 x e is = record {
  reads = λ fs w s k h. by-asked e (V.Clog2 x) (Form-F.Clog2 x) _ fs w s k is (L.form-Clog2 x) (K.out-Clog2 x) (in-Clog2 (layout e.of) e.spot.at x w s k);
  full = λ fs w s h. subst (AllFull fs) (K.asked-by e (V.Clog2 x) (Form-F.Clog2 x) fs w s is (K.out-Clog2 x)) ((sym (U.full-Clog2 fs e x is) ∙ h, tt));
}

in-Concat : (of : Layout) (at : ℕ) (es : List Expr) (w : ℕ) (s : Bool) (k : Sight) → ReadBy (O.concat of at (map meaning es)) (map alone_asked es) k
unfolding O.concat
in-Concat of at es w s k = record { reads = reads-alone es k; constant = constant-alone es k; prefix = refl }

of-Concat : (es : List Expr) (e : Expr) → e.form ≡ V.Concat es → Operated e
of-Concat es e is = record {
  reads = λ fs w s k h. by-asked e (V.Concat es) (Form-F.Concat es) _ fs w s k is (L.form-Concat es) (K.out-Concat es) (in-Concat (layout e.of) e.spot.at es w s k);
  full = λ fs w s h. subst (AllFull fs) (K.asked-by e (V.Concat es) (Form-F.Concat es) fs w s is (K.out-Concat es)) (full-alone fs es (sym (U.full-Concat fs e es is) ∙ h));
}

in-Repeat : (of : Layout) (at : ℕ) (n : ℕ) (es : List Expr) (w : ℕ) (s : Bool) (k : Sight) → ReadBy (O.repeat of at n (map meaning es)) (map alone_asked es) k
unfolding O.repeat
in-Repeat of at n es w s k = record { reads = reads-alone es k; constant = constant-alone es k; prefix = refl }

of-Repeat : (n : ℕ) (es : List Expr) (e : Expr) → e.form ≡ V.Repeat n es → Operated e
of-Repeat n es e is = record {
  reads = λ fs w s k h. by-asked e (V.Repeat n es) (Form-F.Repeat n es) _ fs w s k is (L.form-Repeat n es) (K.out-Repeat n es) (in-Repeat (layout e.of) e.spot.at n es w s k);
  full = λ fs w s h. subst (AllFull fs) (K.asked-by e (V.Repeat n es) (Form-F.Repeat n es) fs w s is (K.out-Repeat n es)) (full-alone fs es (sym (U.full-Repeat fs e n es is) ∙ h));
}

in-Stream : (of : Layout) (at : ℕ) (reversed : Bool) (n : ℕ) (es : List Expr) (w : ℕ) (s : Bool) (k : Sight) → ReadBy (O.stream of at reversed n (map meaning es)) (map alone_asked es) k
unfolding O.stream
in-Stream of at reversed n es w s k = record { reads = reads-alone es k; constant = constant-alone es k; prefix = refl }

of-Stream : (reversed : Bool) (n : ℕ) (es : List Expr) (e : Expr) → e.form ≡ V.Stream reversed n es → Operated e
of-Stream reversed n es e is = record {
  reads = λ fs w s k h. by-asked e (V.Stream reversed n es) (Form-F.Stream reversed n es) _ fs w s k is (L.form-Stream reversed n es) (K.out-Stream reversed n es) (in-Stream (layout e.of) e.spot.at reversed n es w s k);
  full = λ fs w s h. subst (AllFull fs) (K.asked-by e (V.Stream reversed n es) (Form-F.Stream reversed n es) fs w s is (K.out-Stream reversed n es)) (full-alone fs es (sym (U.full-Stream fs e reversed n es is) ∙ h));
}

in-Pattern : (of : Layout) (at : ℕ) (es : List Expr) (w : ℕ) (s : Bool) (k : Sight) → ReadBy (O.pattern of at (map meaning es)) (assigned_asked (marks_of_parts (parts_of of)) es) k
unfolding O.pattern
in-Pattern of at es w s k = record { reads = reads-parts (parts_of of) es k; constant = constant-parts (parts_of of) es k; prefix = refl }

of-Pattern : (es : List Expr) (e : Expr) → e.form ≡ V.Pattern es → Operated e
of-Pattern es e is = record {
  reads = λ fs w s k h. by-asked e (V.Pattern es) (Form-F.Pattern es) _ fs w s k is (L.form-Pattern es) (K.out-Pattern es) (in-Pattern (layout e.of) e.spot.at es w s k);
  full = λ fs w s h. subst (AllFull fs) (K.asked-by e (V.Pattern es) (Form-F.Pattern es) fs w s is (K.out-Pattern es)) (full-assigned fs (marks_of_parts (parts_of (layout e.of))) es (sym (U.full-Pattern fs e es is) ∙ h));
}

in-Call : (of : Layout) (at : ℕ) (f : ℕ) (es : List Expr) (fs : ℕ → List Parameter) (k : Sight) → length es ≤ length (fs f) → ReadBy (O.call of at f (map meaning es)) (assigned_asked (marks_of_formals (fs f)) es) k
unfolding O.call
in-Call of at f es fs k h = record { reads = reads-passed (fs f) es k h; constant = constant-passed (fs f) es k h; prefix = refl }

call-parts : (fs : ℕ → List Parameter) (e : Expr) (f : ℕ) (es : List Expr) → e.form ≡ V.Call f es → is_full fs e ≡ true → (length es ≤ length (fs f)) × (every (map (is_full fs) es) ≡ true)
call-parts fs e f es is h =
    let p = and_parts (nat_le (length (map (is_full fs) es)) (length (fs f))) (every (map (is_full fs) es)) (sym (U.full-Call fs e f es is) ∙ h) in
    let few = leb-true (length (map (is_full fs) es)) (length (fs f)) p.0 in
    (omega (arith, few, length-map es (is_full fs)), p.1)

of-Call : (f : ℕ) (es : List Expr) (e : Expr) → e.form ≡ V.Call f es → Operated e
of-Call f es e is = record {
  reads = λ fs w s k h. by-asked e (V.Call f es) (Form-F.Call f es) _ fs w s k is (L.form-Call f es) (out-Call f es) (in-Call (layout e.of) e.spot.at f es fs k (call-parts fs e f es is h).0);
  full = λ fs w s h. subst (AllFull fs) (K.asked-by e (V.Call f es) (Form-F.Call f es) fs w s is (out-Call f es)) (full-assigned fs (marks_of_formals (fs f)) es (call-parts fs e f es is h).1);
}

in-Inside : (of : Layout) (at : ℕ) (x : Expr) (cs : List Choice) (w : ℕ) (s : Bool) (k : Sight) → ReadBy (O.inside of at (meaning x) (map L.alternative cs)) (alone_asked x ∷ flat_map (λ c. choice_asked x (out-Choice c)) cs) k
unfolding O.inside
in-Inside of at x cs w s k = let h = all-choices x cs k in record { reads = ap (λ us. (meaning x).reads k ++ us) h.reads; constant = ap (λ b. (meaning x).constant k && b) h.constant; prefix = refl }

of-Inside : (x : Expr) (cs : List Choice) (e : Expr) → e.form ≡ V.Inside x cs → Operated e
of-Inside x cs e is = record {
  reads = λ fs w s k h. by-asked e (V.Inside x cs) (Form-F.Inside x cs) _ fs w s k is (L.form-Inside x cs) (I.out-Inside x cs) (in-Inside (layout e.of) e.spot.at x cs w s k);
  full = λ fs w s h. subst (AllFull fs) (K.asked-by e (V.Inside x cs) (Form-F.Inside x cs) fs w s is (I.out-Inside x cs)) (let p = and_parts (is_full fs x) (every (map (choice_full fs) cs)) (sym (U.full-Inside fs e x cs is) ∙ h) in (p.0, full-choices fs x cs p.0 p.1));
}

-- paths aren't looked at here
abbrev OperatedForm : Form → Type 0
OperatedForm f = (e : Expr) → e.form ≡ f → is_path (out-Form e.form) ≡ false → Operated e

abbrev OperatedExpr : Expr → Type 0
OperatedExpr e = is_path (out-Form e.form) ≡ false → Operated e

abbrev Any : Choice → Type 0
Any c = Unit {0}

out-Signal : (n : ℕ) → out-Form (V.Signal n) ≡ Form-F.Signal n
out-Signal n = search (rules, the_lemmas)

not-Signal : (n : ℕ) → OperatedForm (V.Signal n)
not-Signal n e is path = let p = sym (ap is_path (ap out-Form is ∙ out-Signal n)) ∙ path in absurd (cc)

out-Local : (n : ℕ) → out-Form (V.Local n) ≡ Form-F.Local n
out-Local n = search (rules, the_lemmas)

not-Local : (n : ℕ) → OperatedForm (V.Local n)
not-Local n e is path = let p = sym (ap is_path (ap out-Form is ∙ out-Local n)) ∙ path in absurd (cc)

out-Member : (x : Expr) (k : ℕ) → out-Form (V.Member x k) ≡ Form-F.Member x k
out-Member x k = search (rules, the_lemmas)

not-Member : (x : Expr) (k : ℕ) → OperatedForm (V.Member x k)
not-Member x k e is path = let p = sym (ap is_path (ap out-Form is ∙ out-Member x k)) ∙ path in absurd (cc)

out-Index : (x : Expr) (i : Expr) → out-Form (V.Index x i) ≡ Form-F.Index x i
out-Index x i = search (rules, the_lemmas)

not-Index : (x : Expr) (i : Expr) → OperatedForm (V.Index x i)
not-Index x i e is path = let p = sym (ap is_path (ap out-Form is ∙ out-Index x i)) ∙ path in absurd (cc)

out-Part : (x : Expr) (left : ℤ) (right : ℤ) → out-Form (V.Part x left right) ≡ Form-F.Part x left right
out-Part x left right = search (rules, the_lemmas)

not-Part : (x : Expr) (left : ℤ) (right : ℤ) → OperatedForm (V.Part x left right)
not-Part x left right e is path = let p = sym (ap is_path (ap out-Form is ∙ out-Part x left right)) ∙ path in absurd (cc)

out-Slide : (x : Expr) (i : Expr) (n : ℕ) (up : Bool) → out-Form (V.Slide x i n up) ≡ Form-F.Slide x i n up
out-Slide x i n up = search (rules, the_lemmas)

not-Slide : (x : Expr) (i : Expr) (n : ℕ) (up : Bool) → OperatedForm (V.Slide x i n up)
not-Slide x i n up e is path = let p = sym (ap is_path (ap out-Form is ∙ out-Slide x i n up)) ∙ path in absurd (cc)

operated-steps : Steps Any OperatedForm OperatedExpr
operated-steps = record {
  value = λ e h. tt;
  range = λ a b g h. tt;
  expr = λ e h path. h e refl path;
  literal = λ v goes_on e is path. of-Literal v goes_on e is;
  fill = λ b e is path. of-Fill b e is;
  constant = λ v e is path. of-Constant v e is;
  signal = λ n. not-Signal n;
  local = λ n. not-Local n;
  member = λ x k h0. not-Member x k;
  index = λ x i h0 h1. not-Index x i;
  part_select = λ x left right h0. not-Part x left right;
  sliding = λ x i n up h0 h1. not-Slide x i n up;
  unary = λ op x h1 e is path. of-Unary op x e is;
  reduce = λ op x h1 e is path. of-Reduce op x e is;
  negate = λ x h0 e is path. of-Negate x e is;
  binary = λ op x y h1 h2 e is path. of-Binary op x y e is;
  shift = λ op x y h1 h2 e is path. of-Shift op x y e is;
  power = λ x y h0 h1 e is path. of-Power x y e is;
  order = λ op x y h1 h2 e is path. of-Order op x y e is;
  equal = λ op negated x y h2 h3 e is path. of-Equal op negated x y e is;
  both = λ x y h0 h1 e is path. of-Both x y e is;
  either = λ x y h0 h1 e is path. of-Either x y e is;
  choose = λ z x y h0 h1 h2 e is path. of-Choose z x y e is;
  concat = λ es h0 e is path. of-Concat es e is;
  repeat = λ n es h1 e is path. of-Repeat n es e is;
  inside = λ x cs h0 h1 e is path. of-Inside x cs e is;
  cast = λ x h0 e is path. of-Cast x e is;
  clog2 = λ x h0 e is path. of-Clog2 x e is;
  pattern = λ es h0 e is path. of-Pattern es e is;
  call = λ f es h1 e is path. of-Call f es e is;
  stream = λ reversed n es h2 e is path. of-Stream reversed n es e is;
}

-- each expression that is no select path
pub operated : (e : Expr) → is_path (out-Form e.form) ≡ false → Operated e
operated = by-expr Any OperatedForm OperatedExpr operated-steps
