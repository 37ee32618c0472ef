-- Where the expression begins that is made of a pattern has no part in what it breaks, and what patterns are by other names.
use Rattle.std.proofs.Common.{◌≡◌, ℕ, Bool, true, false, List, length, map, Option, Some, None, refl, ap, sym, ◌∙◌, subst}
use Rattle.std.specs.Prelude.{Ok, Err, nat_lt, zip}
use Rattle.sv_types.specs.declared.expression.Expr.{Expr}
use Rattle.sv_types.specs.declared.expression.Form.TheVariants as F
use Rattle.sv_types.specs.declared.types.SvType.{SvType}
use Rattle.sv_types.specs.Layouts.{width_of}
use Rattle.pattern_fit.specs.declared.pattern.Key.{Key}
use Rattle.pattern_fit.specs.declared.pattern.PatternItem.{PatternItem}
use Rattle.expr_type.specs.declared.halt.Halt.{Halt}
use Rattle.expr_type.specs.Answers.{HaltsBy, reason}
use Rattle.expr_type.specs.Names.{Source, position}
use Rattle.expr_type.specs.Operands.{given}
use Rattle.expr_type.specs.Operators.{expr_at, not_too_long}
use Rattle.expr_type.specs.Patterns.{Item, all_keys, defaults, fitted_by, keyed, made, rest_of, taken_by, tries, types_in}
use Rattle.expr_type.specs.Typings.{Checked, all_of, refused, where_whole}
use Rattle.pattern_laws.specs.Reasons.{IsWhole, Reason}
use Rattle.pattern_types.specs.declared.operand.Item as J
use Rattle.pattern_types.specs.declared.operand.Operand as O
use Rattle.pattern_types.specs.declared.operand.Operand.TheVariants as OV
use Rattle.pattern_types.specs.Meaning.{Parts, Pattern, fitted_in, items_of, key_of, keys_of, operand_of, parts_of, pattern_of}
use Rattle.pattern_types.proofs.Levels.{operand-Pattern}

bits-at : (k : Source) (tick at more : ℕ) (t : SvType) (es : List Expr) (b : Bool)
    → reason (refused b (position k tick) 701 (Ok (expr_at k at t (F.Pattern es)))) ≡ reason (refused b (position k tick) 701 (Ok (expr_at k more t (F.Pattern es))))
bits-at k tick at more t es true = refl
bits-at k tick at more t es false = refl

steps-at : (k : Source) (tick at more : ℕ) (t : SvType) (a : Checked (List (List Expr))) (m : Checked (List Expr))
    → reason (where_whole a (λ x. where_whole m (λ es. not_too_long k tick (width_of t) (Ok (expr_at k at t (F.Pattern es))))))
    ≡ reason (where_whole a (λ x. where_whole m (λ es. not_too_long k tick (width_of t) (Ok (expr_at k more t (F.Pattern es))))))
steps-at k tick at more t (Ok x) (Ok es) = bits-at k tick at more t es (nat_lt 65536 (width_of t))
steps-at k tick at more t (Ok x) (Err y) = refl
steps-at k tick at more t (Err b) m = refl

taken-at : (k : Source) (tick at more : ℕ) (t : SvType) (is : List Item) (o : Option (List PatternItem)) → reason (fitted_by k tick at t is o) ≡ reason (fitted_by k tick more t is o)
taken-at k tick at more t is None = refl
taken-at k tick at more t is (Some xs) =
    steps-at k tick at more t (all_of (tries k (length (keyed is)) (rest_of (defaults is)) (zip xs (types_in t)) 0 is)) (all_of (map (made k tick is) (zip xs (types_in t))))

keys-at : (k : Source) (p : Pattern) (at more : ℕ) (t : SvType) (m : Checked (List (Option Key)))
    → reason (where_whole m (λ ks. fitted_by k p.tick at t (items_of p.items) (taken_by t (parts_of p) (all_keys ks))))
    ≡ reason (where_whole m (λ ks. fitted_by k p.tick more t (items_of p.items) (taken_by t (parts_of p) (all_keys ks))))
keys-at k p at more t (Ok ks) = taken-at k p.tick at more t (items_of p.items) (taken_by t (parts_of p) (all_keys ks))
keys-at k p at more t (Err x) = refl

pub fitted-at : (k : Source) (p : Pattern) (at more : ℕ) (t : SvType) → reason (fitted_in k p at t) ≡ reason (fitted_in k p more t)
fitted-at k p at more t = keys-at k p at more t (all_of (map (key_of k t) (keys_of p.items)))

pub whole-at : (k : Source) (p : Pattern) (at more : ℕ) (t : SvType) (r : Reason) → r ≡ reason (fitted_in k p at t) → r ≡ None → IsWhole (fitted_in k p more t)
whole-at k p at more t r e h = fitted-at k p more at t ∙ sym e ∙ h

pub halts-at : (k : Source) (p : Pattern) (at more : ℕ) (t : SvType) (r : Reason) (h : Halt) → r ≡ reason (fitted_in k p at t) → HaltsBy h r → HaltsBy h (reason (fitted_in k p more t))
halts-at k p at more t r h e w = subst (λ x. HaltsBy h x) (e ∙ fitted-at k p at more t) w

pub pattern-given : (k : Source) (t : SvType) (v : O.Operand) (p : Parts) (at tick times : ℕ) (items : List J.Item) → v ≡ OV.Pattern tick times items → at ≡ tick → p ≡ record { tick = tick; times = times; items = items }
    → fitted_in k (pattern_of k p) at t ≡ given k t (operand_of k v)
pattern-given k t v p at tick times items is token parts =
    ap (λ (q : Parts). fitted_in k (pattern_of k q) at t) parts
    ∙ ap (λ n. fitted_in k (pattern_of k (record { tick = tick; times = times; items = items })) n t) token
    ∙ sym (ap (given k t) (ap (operand_of k) is ∙ operand-Pattern k tick times items))
