-- Names and concatenations as targets.
use Rattle.std.proofs.Common.{◌≡◌, ℕ, suc, Bool, true, false, ◌&&◌, List, [], ◌∷◌, ◌++◌, map, Option, Some, None, refl, rules, sym, ap, ◌∙◌, subst}
use Rattle.std.specs.Option.{option_map}
use Rattle.std.specs.Prelude.{Result, Err}
use Rattle.sv_tree.specs.declared.expressions.Cast.{Cast}
use Rattle.sv_tree.specs.declared.expressions.Expr.{Expr, Expr-F, out-Expr, out-roll-Expr, the_lemmas}
use Rattle.sv_tree.specs.declared.expressions.Expr.TheVariants as V
use Rattle.sv_tree.specs.declared.expressions.Select.{Select}
use Rattle.sv_tree.specs.declared.names.QualifiedName.{QualifiedName}
use Rattle.sv_types.specs.declared.expression.Expr as T
use Rattle.sv_types.specs.declared.statement.Function.{Function}
use Rattle.expr_type.specs.declared.halt.Halt.{Halt}
use Rattle.expr_type.specs.declared.halt.Halt.TheVariants as H
use Rattle.expr_type.specs.declared.operand.Valued.{Valued}
use Rattle.expr_type.specs.Expressions as E
use Rattle.expr_type.specs.Expressions.{Meaning, if_all, meaning, select_meaning}
use Rattle.expr_type.specs.Names.{Context}
use Rattle.expr_type.specs.Operators.{concat_of, exprs}
use Rattle.expr_type.specs.TargetNames.{actual_target, packed_target}
use Rattle.expr_type.specs.Typings.{Typing, all, checked, rule}
use Rattle.typing_steps.specs.Steps.{TypesTo}
use Rattle.typing_operators.specs.Lists.{expr_of}
use Rattle.typing_operators.proofs.Exprs.{exprs-type, then-types}
use Rattle.typing_exprs.specs.Levels.{Level}
use Rattle.typing_values.specs.Children.{in_selects}
use Rattle.typing_walks.specs.Written.{is_written}
use Rattle.typing_operators.specs.Children.{AllWritten, children_in, nodes, sum}
use Rattle.typing_operators.proofs.Written.{children-written}
use Rattle.typing_actions.specs.Actuals.{are_targets, is_target, is_there, joined, or_quiet, packed_of, part_of, parts_of, target_of}
use Rattle.typing_actions.specs.Forms.{IsName, IsConcatenation}

-- what stands in an expression is written by its form
written-in : (e : Expr) (z : Level) → out-Expr e ≡ z → is_written e ≡ true → AllWritten (children_in z)
written-in e z is w = subst (λ (y : Level). AllWritten (children_in y)) is (children-written e w)

front-written : (xs ys : List Expr) → AllWritten (xs ++ ys) → AllWritten xs
front-written [] ys w = tt
front-written (x ∷ xs) ys w = (w.0, front-written xs ys w.1)

-- a name
name-level : (of : QualifiedName) (ss : List Select) → meaning (V.Name of ss None) ≡ E.expr_step (Expr-F.«Expr::Name» of (map select_meaning ss) None)
name-level of ss = search (rules, the_lemmas)

name-written : (of : QualifiedName) (ss : List Select) → is_written (V.Name of ss None) ≡ true → AllWritten (in_selects ss)
name-written of ss w =
    let z : Level = Expr-F.«Expr::Name» of ss None in
    front-written (in_selects ss) [] (written-in (V.Name of ss None) z (ap out-Expr (sym (V.rolls-Name of ss None)) ∙ out-roll-Expr z) w)

at-name : (of : QualifiedName) (ss : List Select) → IsName of ss (V.Name of ss None)
at-name of ss = record {
  target = λ k. ap (λ (m : Meaning). m.as_target k) (name-level of ss);
  written = name-written of ss;
}

pub name-form : (of : QualifiedName) (selects ss : List Select) (cast : Option Cast) (e : Expr) → e ≡ V.Name of selects cast → cast ≡ None → ss ≡ selects → IsName of ss e
name-form of selects ss cast e is alone same =
    subst (λ (x : Expr). IsName of ss x) (sym (is ∙ ap (V.Name of selects) alone ∙ ap (λ (xs : List Select). V.Name of xs None) (sym same))) (at-name of ss)

-- a concatenation
concatenation-level : (opening : ℕ) (es : List Expr) (closing : ℕ) → meaning (V.Concatenation opening es closing) ≡ E.expr_step (Expr-F.Concatenation opening (map meaning es) closing)
concatenation-level opening es closing = search (rules, the_lemmas)

concatenation-written : (opening : ℕ) (es : List Expr) (closing : ℕ) → is_written (V.Concatenation opening es closing) ≡ true → AllWritten es
concatenation-written opening es closing w =
    let z : Level = Expr-F.Concatenation opening es closing in
    written-in (V.Concatenation opening es closing) z (ap out-Expr (sym (V.rolls-Concatenation opening es closing)) ∙ out-roll-Expr z) w

concatenation-larger : (opening : ℕ) (es : List Expr) (closing : ℕ) → nodes (V.Concatenation opening es closing) ≡ suc (sum (map nodes es))
concatenation-larger opening es closing = search (rules, the_lemmas)

at-concatenation : (opening : ℕ) (es : List Expr) (closing : ℕ) → IsConcatenation opening es (V.Concatenation opening es closing)
at-concatenation opening es closing = record {
  target = λ k. ap (λ (m : Meaning). m.as_target k) (concatenation-level opening es closing);
  written = concatenation-written opening es closing;
  larger = concatenation-larger opening es closing;
}

pub concatenation-form : (opening : ℕ) (items es : List Expr) (closing : ℕ) (e : Expr) → e ≡ V.Concatenation opening items closing → es ≡ items → IsConcatenation opening es e
concatenation-form opening items es closing e is same =
    subst (λ (x : Expr). IsConcatenation opening es x) (sym (is ∙ ap (λ (xs : List Expr). V.Concatenation opening xs closing) (sym same))) (at-concatenation opening es closing)

-- whether all are there
map-there : {A B : Type 0} (f : A → B) (o : Option A) → is_there (option_map f o) ≡ is_there o
map-there f None = refl
map-there f (Some x) = refl

head-there : {A : Type 0} (o : Option A) (xs : List (Option A)) → is_there (if_all (o ∷ xs)) ≡ (is_there o && is_there (if_all xs))
head-there None xs = refl
head-there (Some x) xs = map-there (λ ys. x ∷ ys) (if_all xs)

abbrev targets : Context → List Expr → List (Option (Typing Valued))
targets k es = map (λ (m : Meaning). m.as_target k) (map meaning es)

each-there : (k : Context) (es : List Expr) → is_there (if_all (targets k es)) ≡ are_targets k es
each-there k [] = refl
each-there k (e ∷ es) = head-there ((meaning e).as_target k) (targets k es) ∙ ap (λ (b : Bool). is_target k e && b) (each-there k es)

abbrev concatenated : Context → ℕ → List (Typing Valued) → Typing Valued
concatenated k opening xs = checked (all (map (packed_target k.source) xs)) (λ vs. rule (concat_of k.source opening (exprs vs)))

pub there-by : (k : Context) (opening : ℕ) (es : List Expr) (e : Expr) → IsConcatenation opening es e → is_target k e ≡ are_targets k es
there-by k opening es e c = ap is_there (c.target k) ∙ map-there (concatenated k opening) (if_all (targets k es)) ∙ each-there k es

pub there-name : (k : Context) (of : QualifiedName) (ss : List Select) (e : Expr) → IsName of ss e → is_target k e ≡ true
there-name k of ss e n = ap is_there (n.target k)

pub not-there : (k : Context) (e : Expr) → ((k : Context) → (meaning e).as_target k ≡ None) → is_target k e ≡ false
not-there k e n = ap is_there (n k)

-- they are these then
cons-some : (o : Option (Typing Valued)) (xs : List (Option (Typing Valued))) (ys : List (Typing Valued)) → is_there o ≡ true → if_all xs ≡ Some ys → if_all (o ∷ xs) ≡ Some (or_quiet o ∷ ys)
cons-some None xs ys t h = absurd (cc)
cons-some (Some x) xs ys t h = ap (option_map (λ zs. x ∷ zs)) h

both-left : (a b : Bool) → (a && b) ≡ true → a ≡ true
both-left true b h = refl
both-left false b h = h

both-right : (a b : Bool) → (a && b) ≡ true → b ≡ true
both-right true b h = h
both-right false b h = absurd (cc)

all-some : (k : Context) (es : List Expr) → are_targets k es ≡ true → if_all (targets k es) ≡ Some (map (target_of k) es)
all-some k [] t = refl
all-some k (e ∷ es) t =
    cons-some ((meaning e).as_target k) (targets k es) (map (target_of k) es) (both-left (is_target k e) (are_targets k es) t) (all-some k es (both-right (is_target k e) (are_targets k es) t))

joined-is : (k : Context) (opening : ℕ) (es : List Expr) (e : Expr) → IsConcatenation opening es e → are_targets k es ≡ true → target_of k e ≡ concatenated k opening (map (target_of k) es)
joined-is k opening es e c t = ap or_quiet (c.target k ∙ ap (option_map (concatenated k opening)) (all-some k es t))

-- so what has a form is that as a target
pub name-target : (k : Context) (of : QualifiedName) (ss : List Select) (e : Expr) (fs gs : List Function) (r : Result Valued Halt) → IsName of ss e → TypesTo r (actual_target k of (map select_meaning ss) fs) gs → TypesTo r (target_of k e fs) gs
name-target k of ss e fs gs r n h = subst (λ (o : Option (Typing Valued)). TypesTo r (or_quiet o fs) gs) (sym (n.target k)) h

pub concatenation-target : (k : Context) (opening : ℕ) (es : List Expr) (e : Expr) (fs gs : List Function) (r : Result Valued Halt) → IsConcatenation opening es e → are_targets k es ≡ true
    → TypesTo r (joined k.source opening (parts_of k es) fs) gs → TypesTo r (target_of k e fs) gs
concatenation-target k opening es e fs gs r c t h =
    subst (λ (x : Typing Valued). TypesTo r (x fs) gs) (sym (joined-is k opening es e c t))
    (then-types (packed_of k es) exprs (λ xs. rule (concat_of k.source opening xs)) fs gs r h)

pub no-target : (k : Context) (e : Expr) (fs : List Function) → ((k : Context) → (meaning e).as_target k ≡ None) → TypesTo {A = Valued} (Err H.Quiet) (target_of k e fs) fs
no-target k e fs n = subst (λ (o : Option (Typing Valued)). TypesTo {A = Valued} (Err H.Quiet) (or_quiet o fs) fs) (sym (n k)) (record { quiet = refl; functions = refl })

-- parts by their expressions
part-rows : (k : Context) (es : List Expr) → map expr_of (map (packed_target k.source) (map (target_of k) es)) ≡ map (part_of k) es
part-rows k [] = refl
part-rows k (e ∷ es) = ap (λ (xs : List (Typing T.Expr)). part_of k e ∷ xs) (part-rows k es)

pub parts-type : (k : Context) (es : List Expr) (fs gs : List Function) (r : Result (List T.Expr) Halt) → TypesTo r (all (map (part_of k) es) fs) gs → TypesTo r (parts_of k es fs) gs
parts-type k es fs gs r h =
    exprs-type (map (packed_target k.source) (map (target_of k) es)) fs gs r (subst (λ (xs : List (Typing T.Expr)). TypesTo r (all xs fs) gs) (sym (part-rows k es)) h)
