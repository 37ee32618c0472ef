-- Constants as keys.
use Rattle.std.proofs.Common.{◌≡◌, ℕ, Bool, true, false, cond, ℤ, List, [], Option, Some, None, refl, sym, ap, ◌∙◌, subst, rules}
use Rattle.std.specs.Prelude.{Result, Ok, Err, nat_lt}
use Rattle.b4_core.specs.Vectors.{known, number}
use Rattle.sv_types.specs.declared.expression.Expr.{Expr}
use Rattle.sv_types.specs.declared.expression.Form.{Form, Form-F, fold-Form, the_lemmas}
use Rattle.sv_types.specs.declared.expression.Form.TheVariants as F
use Rattle.sv_types.specs.declared.statement.Function.{Function}
use Rattle.sv_types.specs.declared.types.SvType.{SvType}
use Rattle.sv_types.specs.declared.types.Value.{Value}
use Rattle.sv_types.specs.Expressions.{meaning}
use Rattle.sv_types.specs.Layouts.{Layout, layout}
use Rattle.sv_types.specs.Meanings.{Meaning, alone, signed}
use Rattle.sv_types.specs.Operators as O
use Rattle.sv_types.specs.Surroundings.{Around, Stop, Tally}
use Rattle.sv_types.proofs.Levels.{form-Constant, meaning-form}
use Rattle.expr_type.specs.declared.halt.Halt.{Halt}
use Rattle.expr_type.specs.declared.halt.Halt.TheVariants as H
use Rattle.expr_type.specs.declared.operand.Valued.{Valued}
use Rattle.expr_type.specs.Answers.{Break, Gives}
use Rattle.expr_type.specs.Breaks.{At}
use Rattle.expr_type.specs.Expressions.{is_key}
use Rattle.expr_type.specs.Names.{Source, position}
use Rattle.expr_type.specs.Operands.{nothing_held, number_of, stops, width}
use Rattle.expr_type.specs.Operators.{by_itself, expr_at}
use Rattle.expr_type.specs.Patterns.{constant_key, key_of_number}
use Rattle.expr_type.specs.Shapes.{is_unpacked}
use Rattle.expr_type.specs.Typings.{Checked, lesser, refused, where_whole}
use Rattle.expr_type.specs.Uses as U
use Rattle.expr_type.specs.declared.uses.Uses.{Uses}
use Rattle.expr_type.specs.Uses.{names_any, holds_stream, uses}
use Rattle.pattern_fit.specs.declared.pattern.Key.{Key}
use Rattle.pattern_types.specs.declared.operand.NameKey.{NameKey}
use Rattle.pattern_types.specs.declared.operand.NameKey.TheVariants as N
use Rattle.pattern_types.specs.Meaning.{key_of_name}
use Rattle.typing_patterns.specs.Keyed.{key_by}

-- a constant uses nothing, and valuing it doesn't stop
abbrev form_uses : Form → U.Part
form_uses = fold-Form U.Part U.Part U.Part U.choice_step U.form_step U.expr_step

uses-form : (e : Expr) → uses e ≡ form_uses e.form
uses-form e = search (rules, the_lemmas)

uses-Constant : (c : Value) → form_uses (F.Constant c) ≡ U.form_step (Form-F.Constant c)
uses-Constant c = search (rules, the_lemmas)

uses-nothing : (k : Source) (first : ℕ) (t : SvType) (c : Value) → uses (expr_at k first t (F.Constant c)) U.nothing ≡ U.nothing
uses-nothing k first t c = ap (λ (p : U.Part). p U.nothing) (uses-form (expr_at k first t (F.Constant c)) ∙ uses-Constant c)

constant-goes : (of : Layout) (at : ℕ) (c : Value) (a : Around) (t : Tally) → (O.constant of at c).values a t ≡ t
unfolding O.constant
constant-goes of at c a t = refl

meaning-Constant : (k : Source) (first : ℕ) (t : SvType) (c : Value) → meaning (expr_at k first t (F.Constant c)) ≡ O.constant (layout t) first c
meaning-Constant k first t c = meaning-form (expr_at k first t (F.Constant c)) ∙ ap (λ (f : Layout → ℕ → Meaning). f (layout t) first) (form-Constant c)

abbrev has_stopped : Option Stop → Bool
has_stopped s = elim s [ None ↦ false | Some x ↦ true ]

never-stops : (k : Source) (first : ℕ) (t : SvType) (c : Value) (fs : List Function) → stops fs (expr_at k first t (F.Constant c)) ≡ false
never-stops k first t c fs =
    let start : Tally = record { left = Some 1048576; stop = None } in
    ap (λ (m : Meaning). has_stopped (m.values (nothing_held fs) start).stop) (meaning-Constant k first t c)
    ∙ ap (λ (x : Tally). has_stopped x.stop) (constant-goes (layout t) first c (nothing_held fs) start)

-- its number is one wherever it is valued
abbrev number_at : Meaning → Around → Option ℤ
number_at m a = let v = alone m a in cond (known v) (Some (number (signed m) v)) None

number-any : (of : Layout) (at : ℕ) (c : Value) (a b : Around) → number_at (O.constant of at c) a ≡ number_at (O.constant of at c) b
unfolding O.constant
number-any of at c a b = refl

same-number : (k : Source) (first : ℕ) (t : SvType) (c : Value) (fs : List Function) → number_of fs (expr_at k first t (F.Constant c)) ≡ number_of [] (expr_at k first t (F.Constant c))
same-number k first t c fs =
    ap (λ (m : Meaning). number_at m (nothing_held fs)) (meaning-Constant k first t c) ∙ number-any (layout t) first c (nothing_held fs) (nothing_held [])
    ∙ sym (ap (λ (m : Meaning). number_at m (nothing_held [])) (meaning-Constant k first t c))

-- so its number is that of a key, where it is an index
abbrev index-of : Source → Valued → Option ℤ → Bool → Bool → Checked (Option ℤ)
index-of k v o u w = refused u (position k v.first) 508 (refused w (position k v.first) 507 (Ok o))

abbrev index-by : Source → Valued → Bool → Bool → Checked (Option ℤ)
index-by k v u w = index-of k v (number_of [] v.expr) u w

plain-rules : (k : Source) (v : Valued) (fs : List Function) (u w : Bool)
    → where_whole (where_whole (lesser (refused u (position k v.first) 508 (refused w (position k v.first) 507 (Ok v))) (Ok v.expr)) (λ p. Ok p.0)) (λ x. Ok (number_of fs x.expr))
    ≡ index-of k v (number_of fs v.expr) u w
plain-rules k v fs true w = refl
plain-rules k v fs false true = refl
plain-rules k v fs false false = refl

bits-first : (k : Source) (v : Valued) (u : Bool) (g : Valued → Checked Valued) → where_whole (refused u (position k v.first) 508 (Ok v)) g ≡ refused u (position k v.first) 508 (g v)
bits-first k v true g = refl
bits-first k v false g = refl

abbrev key_rules_by : Source → Valued → List Function → Checked Valued → Bool → Bool → Bool → Checked (Option ℤ)
key_rules_by k v fs x n s t =
    where_whole
    (refused n (position k v.first) 406 (where_whole (lesser x (refused s (position k v.first) 512 (Ok v.expr))) (λ p. refused t (position k v.first) 608 (Ok p.0))))
    (λ u. Ok (number_of fs u.expr))

abbrev the_index : Source → Valued → Checked Valued
the_index k v = refused (is_unpacked v.expr.of) (position k v.first) 508 (refused (nat_lt 64 (width v)) (position k v.first) 507 (Ok v))

reaches-nothing : (marks : List Bool) → U.reaches marks U.nothing ≡ false
reaches-nothing marks = refl

key-is : (k : Source) (first : ℕ) (t : SvType) (c : Value) (fs : List Function)
    → is_key k (by_itself k first t (F.Constant c)) fs ≡ index-by k (by_itself k first t (F.Constant c)) (is_unpacked t) (nat_lt 64 (width (by_itself k first t (F.Constant c))))
key-is k first t c fs =
    let v = by_itself k first t (F.Constant c) in
    ap (λ (x : Checked Valued). key_rules_by k v fs x (names_any v.expr) (holds_stream fs v.expr) (stops fs v.expr))
    (bits-first k v (is_unpacked t) (λ u. refused (nat_lt 64 (width u)) (position k u.first) 507 (Ok u)))
    ∙ ap (λ b. key_rules_by k v fs (the_index k v) b (holds_stream fs v.expr) (stops fs v.expr)) (ap (λ (x : Uses). x.names) (uses-nothing k first t c))
    ∙ ap (λ b. key_rules_by k v fs (the_index k v) false b (stops fs v.expr)) (ap (λ (x : Uses). U.reaches (U.stream_marks fs) x) (uses-nothing k first t c) ∙ reaches-nothing (U.stream_marks fs))
    ∙ ap (λ b. key_rules_by k v fs (the_index k v) false false b) (never-stops k first t c fs)
    ∙ plain-rules k v fs (is_unpacked t) (nat_lt 64 (width v))
    ∙ ap (λ o. index-of k v o (is_unpacked t) (nat_lt 64 (width v))) (same-number k first t c fs)

abbrev key-at : Source → Valued → Bool → Bool → Checked (Option Key)
key-at k v u w = refused u (position k v.first) 508 (refused w (position k v.first) 507 (Ok (key_of_number (number_of [] v.expr))))

constant-by : (k : Source) (v : Valued) (u : Bool) (w : Valued → Bool)
    → where_whole (refused u (position k v.first) 508 (Ok v)) (λ x. where_whole (refused (w x) (position k x.first) 507 (Ok x)) (λ i. Ok (key_of_number (number_of [] i.expr)))) ≡ key-at k v u (w v)
constant-by k v true w = refl
constant-by k v false w = by (w v)
  where
    by : (b : Bool) → where_whole (refused b (position k v.first) 507 (Ok v)) (λ i. Ok (key_of_number (number_of [] i.expr))) ≡ refused b (position k v.first) 507 (Ok (key_of_number (number_of [] v.expr)))
    by true = refl
    by false = refl

-- what it breaks stands at its first token
abbrev at_in : Option (Option Break) → ℕ
at_in None = 0
at_in (Some None) = 0
at_in (Some (Some b)) = b.at

abbrev rule_in : Option (Option Break) → ℕ
rule_in None = 0
rule_in (Some None) = 0
rule_in (Some (Some b)) = b.rule

broken-at : (k : Source) (first rule : ℕ) (r : Result (Option ℤ) Halt) (n : NameKey) → Gives r (Err (At (position k first) rule)) → key_by r ≡ Ok n → key_of_name k n ≡ Err (At (position k first) rule)
broken-at k first rule (Ok m) n g is = absurd (cc)
broken-at k first rule (Err H.Memory) n g is = absurd (cc)
broken-at k first rule (Err (H.Breaks at other)) n g is =
    let name : n ≡ N.Breaks at other = cc in
    let same : first ≡ at = ap at_in g in
    let same-rule : rule ≡ other = ap rule_in g in
    ap (key_of_name k) name ∙ sym (ap (λ a. Err (At (position k a) other)) same) ∙ sym (ap (λ m. Err (At (position k first) m)) same-rule)
broken-at k first rule (Err H.Quiet) n g is = absurd (cc)

fine-at : (k : Source) (m : Option ℤ) (r : Result (Option ℤ) Halt) (n : NameKey) → Gives r (Ok m) → key_by r ≡ Ok n → key_of_name k n ≡ Ok (key_of_number m)
fine-at k m (Ok l) n g is =
    let name : n ≡ N.Number l = cc in
    let same : m ≡ l = cc in
    ap (key_of_name k) name ∙ sym (ap (λ o. Ok (key_of_number o)) same)
fine-at k m (Err H.Memory) n g is = absurd (cc)
fine-at k m (Err (H.Breaks at other)) n g is = absurd (cc)
fine-at k m (Err H.Quiet) n g is = absurd (cc)

index-key : (k : Source) (v : Valued) (u w : Bool) (r : Result (Option ℤ) Halt) (n : NameKey) → Gives r (index-by k v u w) → key_by r ≡ Ok n → key_of_name k n ≡ key-at k v u w
index-key k v true w r n g is = broken-at k v.first 508 r n g is
index-key k v false true r n g is = broken-at k v.first 507 r n g is
index-key k v false false r n g is = fine-at k (number_of [] v.expr) r n g is

pub constant-key : (k : Source) (first : ℕ) (t : SvType) (c : Value) (fs : List Function) (r : Result (Option ℤ) Halt) (n : NameKey) → Gives r (is_key k (by_itself k first t (F.Constant c)) fs)
    → key_by r ≡ Ok n → key_of_name k n ≡ constant_key k (by_itself k first t (F.Constant c))
constant-key k first t c fs r n g is =
    let v = by_itself k first t (F.Constant c) in
    index-key k v (is_unpacked t) (nat_lt 64 (width v)) r n (subst (λ (x : Checked (Option ℤ)). Gives r x) (key-is k first t c fs) g) is
    ∙ sym (constant-by k v (is_unpacked t) (λ x. nat_lt 64 (width x)))
