-- What a value shows that is given to a type.
use Rattle.std.proofs.Common.{◌≡◌, ℕ, List, Some, None, ap, sym, ◌∙◌, subst}
use Rattle.std.specs.Prelude.{IfOk, Ok, Result}
use Rattle.std.specs.declared.alloc.AllocError.{AllocError}
use Rattle.sv_types.specs.declared.types.SvType.{SvType}
use Rattle.expr_type.specs.declared.halt.Halt.{Halt}
use Rattle.expr_type.specs.declared.operand.Valued.{Valued}
use Rattle.expr_type.specs.Answers.{HaltsBy, reason}
use Rattle.expr_type.specs.Names.{Source}
use Rattle.expr_type.specs.Operands.{is_given, is_value, passed}
use Rattle.pattern_types.specs.declared.looks.Look.{Look}
use Rattle.pattern_types.specs.declared.operand.Item.{Item}
use Rattle.pattern_types.specs.declared.operand.Operand as P
use Rattle.pattern_types.specs.declared.operand.Operand.TheVariants as O
use Rattle.pattern_types.specs.Meaning.{Parts}
use Rattle.pattern_types.specs.Meaning.{fitted_in, operand_of, pattern_of, tick_of}
use Rattle.pattern_types.specs.Reasons.{Says, break_at, reason_of}
use Rattle.pattern_types.proofs.Fitting.{says-is}
use Rattle.pattern_types.proofs.Levels.{operand-Pattern, operand-Plain, operand-Stream}

pub plain-fine : (k : Source) (t : SvType) (v : Valued) → is_given k t v ≡ Ok v.expr → None ≡ reason (passed k t (operand_of k (O.Plain v)))
plain-fine k t v h = sym (ap (λ x. reason (passed k t x)) (operand-Plain k v) ∙ ap reason h)

pub plain-halts : (k : Source) (t : SvType) (v : Valued) (h : Halt) (l : Look) → HaltsBy h (reason (is_given k t v)) → Says h l → reason_of l ≡ reason (passed k t (operand_of k (O.Plain v)))
plain-halts k t v h l e s = says-is h l (reason (is_given k t v)) s e ∙ sym (ap (λ x. reason (passed k t x)) (operand-Plain k v))

pub pattern-shows : (k : Source) (t : SvType) (p : Parts) (l : Look) → reason_of l ≡ reason (fitted_in k (pattern_of k p) (tick_of p) t) → reason_of l ≡ reason (passed k t (operand_of k (O.Pattern p.tick p.times p.items)))
pattern-shows k t p l h = h ∙ sym (ap (λ x. reason (passed k t x)) (operand-Pattern k p.tick p.times p.items))

pub stream-shows : (k : Source) (t : SvType) (v : Valued) → Some (Some (break_at v.first 512)) ≡ reason (passed k t (operand_of k (O.Stream v)))
stream-shows k t v = sym (ap (λ x. reason (passed k t x)) (operand-Stream k v))

pub pattern-shown : (k : Source) (t : SvType) (v : P.Operand) (p : Parts) (tick times : ℕ) (items : List Item) (r : Result Look AllocError) → v ≡ O.Pattern tick times items
    → p ≡ record { tick = tick; times = times; items = items } → IfOk r (λ l. reason_of l ≡ reason (fitted_in k (pattern_of k p) (tick_of p) t)) → IfOk r (λ l. reason_of l ≡ reason (passed k t (operand_of k v)))
pattern-shown k t v p tick times items r is parts h =
    subst (λ x. IfOk r (λ l. reason_of l ≡ x))
    (ap (λ (q : Parts). reason (fitted_in k (pattern_of k q) (tick_of q) t)) parts ∙ sym (ap (λ x. reason (passed k t x)) (ap (operand_of k) is ∙ operand-Pattern k tick times items))) h

pub ruleset values = (plain-fine, plain-halts, pattern-shows, stream-shows)

-- and by itself
pub plain-alone : (k : Source) (v : Valued) → None ≡ reason (is_value k (operand_of k (O.Plain v)))
plain-alone k v = sym (ap (λ x. reason (is_value k x)) (operand-Plain k v))

pub pattern-alone : (k : Source) (p : Parts) → Some (Some (break_at (tick_of p) 505)) ≡ reason (is_value k (operand_of k (O.Pattern p.tick p.times p.items)))
pattern-alone k p = sym (ap (λ x. reason (is_value k x)) (operand-Pattern k p.tick p.times p.items))

pub stream-alone : (k : Source) (v : Valued) → Some (Some (break_at v.first 512)) ≡ reason (is_value k (operand_of k (O.Stream v)))
stream-alone k v = sym (ap (λ x. reason (is_value k x)) (operand-Stream k v))

pub ruleset alone = (plain-alone, pattern-alone, stream-alone)
