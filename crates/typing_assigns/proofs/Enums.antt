-- Enums in targets, by which break comes first.
use Rattle.std.proofs.Common.{◌≡◌, ℕ, Bool, true, false, cond, Option, Some, None, refl, sym, ap, ◌∙◌, subst, ◌≤◌}
use Rattle.std.specs.Prelude.{Result, Ok, Err}
use Rattle.sv_types.specs.declared.expression.Expr.{Expr}
use Rattle.sv_types.specs.declared.types.SvType.{SvType}
use Rattle.expr_type.specs.declared.halt.Halt.{Halt}
use Rattle.expr_type.specs.declared.halt.Halt.TheVariants as H
use Rattle.expr_type.specs.Answers.{Break, Gives, reason}
use Rattle.expr_type.specs.Breaks.{At}
use Rattle.expr_type.specs.declared.operand.Valued.{Valued}
use Rattle.expr_type.specs.Names.{Context, Source, position}
use Rattle.expr_type.specs.Operands.{Operand, Plain, Pattern, Stream, given, passed}
use Rattle.expr_type.specs.Targets as D
use Rattle.expr_type.specs.Targets.{given_to_parts, with_no_enum}
use Rattle.expr_type.specs.Typings.{Checked, lesser}
use Rattle.pattern_types.specs.declared.operand.Item as J
use Rattle.pattern_types.specs.declared.operand.Operand as O
use Rattle.pattern_types.specs.Giving.{IsNarrowStream}
use Rattle.pattern_types.specs.Meaning.{operand_of}
use Rattle.pattern_types.proofs.Here.{given-so}
use Rattle.sv_types.specs.Layouts.{width_of}
use Rattle.typing_parts.specs.Typists.{IsNarrowOperand}
use Rattle.typing_assigns.specs.declared.target.Target.TheVariants as T
use Rattle.typing_assigns.specs.Targets.{StandsFor}
use Rattle.pattern_laws.specs.Reasons.{Reason, lesser_reason}
use Rattle.pattern_laws.proofs.Order.{HereIf, lesser-reason}
use Rattle.pattern_laws.proofs.Reasons.{where-broken}
use Rattle.typing_assigns.specs.Giving.{Forbids, forbidden, plain_first, sooner_than_enum}

abbrev enum_break : Source → ℕ → Checked Bool
enum_break k first = Err (At (position k first) 503)

abbrev at_enum : ℕ → Break
at_enum first = record { at = first; rule = 503 }

allowed : (k : Source) (first : ℕ) (m : Checked Expr) → with_no_enum k false first m ≡ m
allowed k first (Ok e) = refl
allowed k first (Err b) = refl

refused-by : (k : Source) (first : ℕ) (m : Checked Expr) (b : Option Break) → HereIf k m → lesser_reason (Some (Some (at_enum first))) (reason m) ≡ Some b
    → reason (with_no_enum k true first m) ≡ Some b
refused-by k first m b here e = where-broken (lesser (enum_break k first) m) (λ p. Ok p.1) b (lesser-reason k (enum_break k first) m refl here ∙ e)

chosen : (k : Source) (at rule first : ℕ) (m : Checked Expr) (b : Bool) → HereIf k m → reason m ≡ Some (Some (record { at = at; rule = rule })) → sooner_than_enum at rule first ≡ b
    → Gives {A = Expr} (Err (cond b (H.Breaks at rule) (H.Breaks first 503))) (with_no_enum k true first m)
chosen k at rule first m true here g s =
    refused-by k first m (Some (record { at = at; rule = rule })) here
    (ap (lesser_reason (Some (Some (at_enum first)))) g ∙ ap (λ (c : Bool). by_test c) s)
  where
    by_test : Bool → Reason
    by_test c = Some (Some (cond c (record { at = at; rule = rule }) (at_enum first)))
chosen k at rule first m false here g s =
    refused-by k first m (Some (at_enum first)) here
    (ap (lesser_reason (Some (Some (at_enum first)))) g ∙ ap (λ (c : Bool). by_test c) s)
  where
    by_test : Bool → Reason
    by_test c = Some (Some (cond c (record { at = at; rule = rule }) (at_enum first)))

forbids : (k : Source) (first : ℕ) (made : Result Expr Halt) (m : Checked Expr) → Gives made m → HereIf k m → Gives {A = Expr} (Err (forbidden first made)) (with_no_enum k true first m)
forbids k first (Ok e) m g here = refused-by k first m (Some (at_enum first)) here (ap (λ (n : Checked Expr). lesser_reason (Some (Some (at_enum first))) (reason n)) g)
forbids k first (Err H.Memory) m g here = tt
forbids k first (Err H.Quiet) m g here = refused-by k first m (Some (at_enum first)) here (ap (lesser_reason (Some (Some (at_enum first)))) g)
forbids k first (Err (H.Breaks at rule)) m g here = chosen k at rule first m (sooner_than_enum at rule first) here g refl

pub no-enum-gives : (k : Source) (e : Bool) (first : ℕ) (made r : Result Expr Halt) (m : Checked Expr) → Forbids e first made r → Gives made m → HereIf k m → Gives r (with_no_enum k e first m)
no-enum-gives k false first made r m f g here =
    subst (λ (s : Result Expr Halt). Gives s (with_no_enum k false first m)) (sym f) (subst (λ (n : Checked Expr). Gives made n) (sym (allowed k first m)) g)
no-enum-gives k true first made r m f g here = subst (λ (s : Result Expr Halt). Gives s (with_no_enum k true first m)) (sym f) (forbids k first made m g here)

-- what is given to a concatenation, by the first token of what is given; a stream is given as it is
pub given-plain : (k : Source) (t : SvType) (e : Bool) (o : Operand) (first : ℕ) (made r : Result Expr Halt) → Some first ≡ plain_first o → Forbids e first made r → Gives made (passed k t o)
    → HereIf k (passed k t o) → Gives r (given_to_parts k t e o)
given-plain k t e (Plain v) first made r is f g here = let s : first ≡ v.first = cc in no-enum-gives k e v.first made r (given k t (Plain v)) (subst (λ (n : ℕ). Forbids e n made r) s f) g here
given-plain k t e (Pattern tick of) first made r is f g here = let s : first ≡ tick = cc in no-enum-gives k e tick made r (of tick t) (subst (λ (n : ℕ). Forbids e n made r) s f) g here
given-plain k t e (Stream v) first made r is f g here = absurd (cc)

pub given-stream : (k : Source) (t : SvType) (e : Bool) (o : Operand) (r : Result Expr Halt) → None ≡ plain_first o → Gives r (given k t o) → Gives r (given_to_parts k t e o)
given-stream k t e (Plain v) r is g = absurd (cc)
given-stream k t e (Pattern tick of) r is g = absurd (cc)
given-stream k t e (Stream v) r is g = g

-- what the code gives, whose breaks stand in this text
pub given-whole : (k : Source) (t : SvType) (e : Bool) (o : O.Operand) (first : ℕ) (made r : Result Expr Halt) → Some first ≡ plain_first (operand_of k o) → Forbids e first made r
    → Gives made (passed k t (operand_of k o)) → Gives r (given_to_parts k t e (operand_of k o))
given-whole k t e o first made r is f g = given-plain k t e (operand_of k o) first made r is f g (given-so k o t)

-- a stream is narrow among narrow operands
abbrev narrow_by : O.Operand-F O.Operand J.Item → Type 0
narrow_by (O.Operand-F.Plain v) = width_of v.expr.of ≤ 4194304
narrow_by (O.Operand-F.Pattern tick times items) = Unit {0}
narrow_by (O.Operand-F.Stream v) = width_of v.expr.of ≤ 65536

abbrev stream_by : O.Operand-F O.Operand J.Item → Type 0
stream_by (O.Operand-F.Plain v) = Unit {0}
stream_by (O.Operand-F.Pattern tick times items) = Unit {0}
stream_by (O.Operand-F.Stream v) = width_of v.expr.of ≤ 65536

by-form : (w : O.Operand-F O.Operand J.Item) → narrow_by w → stream_by w
by-form (O.Operand-F.Plain v) n = tt
by-form (O.Operand-F.Pattern tick times items) n = tt
by-form (O.Operand-F.Stream v) n = n

pub narrow-stream : (o : O.Operand) → IsNarrowOperand o → IsNarrowStream o
narrow-stream o n = by-form (O.out-Operand o) n

-- what is assigned, by the target
pub assigned-path : (k : Context) (d : D.Target) (v : Valued) (o : Operand) (r : Result Expr Halt) → StandsFor (T.Path v) d → Gives r (given k.source v.expr.of o) → Gives r (D.assigned k d o)
assigned-path k d v o r is g = subst (λ (t : D.Target). Gives r (D.assigned k t o)) (sym is) g

pub assigned-parts : (k : Context) (d : D.Target) (v : Valued) (e : Bool) (o : Operand) (r : Result Expr Halt) → StandsFor (T.Parts v e) d → Gives r (given_to_parts k.source v.expr.of e o) → Gives r (D.assigned k d o)
assigned-parts k d v e o r is g = subst (λ (t : D.Target). Gives r (D.assigned k t o)) (sym is.is) g

pub assigned-stream : (k : Context) (d : D.Target) (v : Valued) (o : Operand) (r : Result Expr Halt) → StandsFor (T.Stream v) d → Gives r (D.has_enough k v o) → Gives r (D.assigned k d o)
assigned-stream k d v o r is g = subst (λ (t : D.Target). Gives r (D.assigned k t o)) (sym is) g

pub ruleset assigns = (assigned-path, assigned-parts, assigned-stream)
