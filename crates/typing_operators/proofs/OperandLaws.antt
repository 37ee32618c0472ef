-- Values and streams as operands.
use Rattle.std.proofs.Common.{◌≡◌, ℕ, List, rules, refl, ap, sym, ◌∙◌, subst}
use Rattle.std.specs.Prelude.{Ok, Err}
use Rattle.sv_types.specs.declared.statement.Function.{Function}
use Rattle.expr_type.specs.declared.halt.Halt.{Halt}
use Rattle.expr_type.specs.declared.operand.Valued.{Valued}
use Rattle.expr_type.specs.Forms.{plain}
use Rattle.expr_type.specs.Names.{Source}
use Rattle.expr_type.specs.Operands as V
use Rattle.expr_type.specs.Typings.{Typing, checked, whole}
use Rattle.pattern_types.specs.Meaning.{Filled, item_step, operand_of, operand_step}
use Rattle.pattern_types.specs.declared.operand.Item.{Item, fold-Item}
use Rattle.pattern_types.specs.declared.operand.Operand.{Operand, Operand-F, fold_out-Operand, map-Operand, out-Operand, the_lemmas}
use Rattle.pattern_types.specs.declared.operand.Operand.TheVariants as O
use Rattle.typing_steps.specs.Steps.{TypesTo}
use Rattle.typing_steps.proofs.Combining.{checked-fine, checked-stops}

plain-out : (v : Valued) → out-Operand (O.Plain v) ≡ Operand-F.Plain v
plain-out v = search (rules, the_lemmas)

stream-out : (v : Valued) → out-Operand (O.Stream v) ≡ Operand-F.Stream v
stream-out v = search (rules, the_lemmas)

pattern-out : (tick times : ℕ) (items : List Item) → out-Operand (O.Pattern tick times items) ≡ Operand-F.Pattern tick times items
pattern-out tick times items = search (rules, the_lemmas)

abbrev meant : Source → Operand-F Operand Item → V.Operand
meant k z = operand_step k (map-Operand Operand Item V.Operand Filled (operand_of k) (fold-Item V.Operand Filled (operand_step k) item_step) z)

meant-is : (k : Source) (o : Operand) (z : Operand-F Operand Item) → out-Operand o ≡ z → operand_of k o ≡ meant k z
meant-is k o z is = fold_out-Operand V.Operand Filled (operand_step k) item_step o ∙ ap (meant k) is

plain-is : (k : Source) (v : Valued) → operand_of k (O.Plain v) ≡ V.Plain v
plain-is k v = meant-is k (O.Plain v) (Operand-F.Plain v) (plain-out v)

stream-is : (k : Source) (v : Valued) → operand_of k (O.Stream v) ≡ V.Stream v
stream-is k v = meant-is k (O.Stream v) (Operand-F.Stream v) (stream-out v)

pub plain-fine : (k : Source) (v : Valued) (x : Typing Valued) (fs gs : List Function) → TypesTo (Ok v) (x fs) gs → TypesTo (Ok (operand_of k (O.Plain v))) (plain x fs) gs
plain-fine k v x fs gs h =
    subst (λ (o : V.Operand). TypesTo (Ok o) (plain x fs) gs) (sym (plain-is k v)) (checked-fine x (λ u. whole (V.Plain u)) fs gs gs v (Ok (V.Plain v)) h refl)

pub plain-stops : (k : Source) (h : Halt) (x : Typing Valued) (fs gs : List Function) → TypesTo {A = Valued} (Err h) (x fs) gs → TypesTo {A = V.Operand} (Err h) (plain x fs) gs
plain-stops k h x fs gs p = checked-stops x (λ u. whole (V.Plain u)) fs gs h p

-- a stream where a value is typed as one
pub stream-fine : (k : Source) (v : Valued) (x : Typing Valued) (fs gs : List Function) → TypesTo (Ok v) (x fs) gs → TypesTo (Ok (operand_of k (O.Stream v))) (checked x (λ u. whole (V.Stream u)) fs) gs
stream-fine k v x fs gs h =
    subst (λ (o : V.Operand). TypesTo (Ok o) (checked x (λ u. whole (V.Stream u)) fs) gs) (sym (stream-is k v)) (checked-fine x (λ u. whole (V.Stream u)) fs gs gs v (Ok (V.Stream v)) h refl)

pub stream-stops : (k : Source) (h : Halt) (x : Typing Valued) (fs gs : List Function) → TypesTo {A = Valued} (Err h) (x fs) gs → TypesTo {A = V.Operand} (Err h) (checked x (λ u. whole (V.Stream u)) fs) gs
stream-stops k h x fs gs p = checked-stops x (λ u. whole (V.Stream u)) fs gs h p

-- in parentheses
pub paren-plain : (k : Source) (opening : ℕ) (v : Valued) → operand_of k (O.Plain (record v { begins = opening })) ≡ V.parenthesized opening (operand_of k (O.Plain v))
paren-plain k opening v = plain-is k (record v { begins = opening }) ∙ sym (ap (V.parenthesized opening) (plain-is k v))

pub paren-stream : (k : Source) (opening : ℕ) (v : Valued) → operand_of k (O.Stream v) ≡ V.parenthesized opening (operand_of k (O.Stream v))
paren-stream k opening v = stream-is k v ∙ sym (ap (V.parenthesized opening) (stream-is k v))

pub paren-pattern : (k : Source) (opening tick times : ℕ) (items : List Item) → operand_of k (O.Pattern tick times items) ≡ V.parenthesized opening (operand_of k (O.Pattern tick times items))
paren-pattern k opening tick times items =
    let is = meant-is k (O.Pattern tick times items) (Operand-F.Pattern tick times items) (pattern-out tick times items) in
    is ∙ sym (ap (V.parenthesized opening) is)

pub paren-fine : (k : Source) (opening : ℕ) (o p : Operand) (x : Typing V.Operand) (fs gs : List Function) → operand_of k p ≡ V.parenthesized opening (operand_of k o) → TypesTo (Ok (operand_of k o)) (x fs) gs
    → TypesTo (Ok (operand_of k p)) (checked x (λ u. whole (V.parenthesized opening u)) fs) gs
paren-fine k opening o p x fs gs is h =
    subst (λ (u : V.Operand). TypesTo (Ok u) (checked x (λ u. whole (V.parenthesized opening u)) fs) gs) (sym is)
    (checked-fine x (λ u. whole (V.parenthesized opening u)) fs gs gs (operand_of k o) (Ok (V.parenthesized opening (operand_of k o))) h refl)

pub paren-stops : (opening : ℕ) (h : Halt) (x : Typing V.Operand) (fs gs : List Function) → TypesTo {A = V.Operand} (Err h) (x fs) gs → TypesTo {A = V.Operand} (Err h) (checked x (λ u. whole (V.parenthesized opening u)) fs) gs
paren-stops opening h x fs gs p = checked-stops x (λ u. whole (V.parenthesized opening u)) fs gs h p

pub ruleset parens = (paren-plain, paren-stream, paren-pattern)

pub ruleset parenthesizing = (paren-fine, paren-stops)

pub ruleset plains = (plain-fine, plain-stops)

pub ruleset streams = (stream-fine, stream-stops)
