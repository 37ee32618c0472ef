-- Items and their parts.
use Rattle.std.proofs.Common.{◌≡◌, ℕ, ◌<◌, zero, suc, Bool, List, [], ◌∷◌, ◌++◌, length, get_or, flat_map, refl, sym, ap, ◌∙◌, subst, arith}
use Rattle.std.specs.Prelude.{Result, Ok, Err, IfOk, OnOk}
use Rattle.sv_tree.specs.declared.expressions.Expr.{Expr}
use Rattle.sv_tree.specs.declared.expressions.ValueRange.{ValueRange, ValueRange-F, fold-roll-ValueRange}
use Rattle.sv_tree.specs.declared.expressions.ValueRange.TheVariants as R
use Rattle.sv_types.specs.declared.statement.Function.{Function}
use Rattle.expr_type.specs.declared.halt.Halt.{Halt}
use Rattle.expr_type.specs.Expressions as E
use Rattle.expr_type.specs.Expressions.{Meaning, CastMeaning, DimensionMeaning, PatternMeaning, ItemMeaning, SliceMeaning, RangeMeaning}
use Rattle.expr_type.specs.Forms.{SelectMeaning}
use Rattle.expr_type.specs.Names.{Context}
use Rattle.expr_type.specs.Operators.{Only, From}
use Rattle.expr_type.specs.Operators as O
use Rattle.expr_type.specs.Typings.{Typing, both, whole}
use Rattle.inside_types.specs.declared.alternatives.Alternative.{Alternative}
use Rattle.inside_types.specs.Alternatives.{AllNarrowIn, IsNarrowIn}
use Rattle.operand_types.specs.declared.operands.Operands.{Operands}
use Rattle.pattern_types.specs.declared.operand.Operand as P
use Rattle.typing_steps.specs.Steps.{TypesTo}
use Rattle.typing_steps.proofs.Combining.{checked-fine, checked-stops}
use Rattle.typing_parts.specs.declared.known.Known.{Known}
use Rattle.typing_parts.specs.Typists.{AllCanType}
use Rattle.typing_rows.specs.Rows.{Adds}
use Rattle.typing_values.specs.Values.{as_pair, two_of, value_of}
use Rattle.typing_operators.specs.Ranges.{range_of}

-- one level of an item
range-Range : (k : Context) (opening colon closing : ℕ) (low high : Expr) → range_of k (R.Range opening low colon high closing) ≡ both (value_of k low) (value_of k high) (λ l h. whole (From l h))
range-Range k opening colon closing low high =
    ap (range_of k) (sym (R.rolls-Range opening low colon high closing))
    ∙ ap (λ (m : RangeMeaning). m k)
    (fold-roll-ValueRange CastMeaning DimensionMeaning Meaning PatternMeaning ItemMeaning SelectMeaning SliceMeaning RangeMeaning E.cast_step E.dimension_step E.expr_step E.pattern_step E.pattern_item_step E.select_step E.slice_size_step E.value_range_step
    (ValueRange-F.«ValueRange::Range» opening low colon high closing))

-- what two values make of it
abbrev between : Result Operands Halt → Result O.Alternative Halt
between (Ok p) = Ok (From p.left p.right)
between (Err h) = Err h

by-two : (k : Context) (low high : Expr) (fs gs : List Function) (r : Result Operands Halt) → TypesTo (as_pair r) (two_of k low high fs) gs
    → TypesTo (between r) (both (value_of k low) (value_of k high) (λ l h. whole (From l h)) fs) gs
by-two k low high fs gs (Ok p) h = checked-fine (two_of k low high) (λ q. whole (From q.0 q.1)) fs gs gs (p.left, p.right) (Ok (From p.left p.right)) h refl
by-two k low high fs gs (Err h) t = checked-stops (two_of k low high) (λ q. whole (From q.0 q.1)) fs gs h t

pub range-types : (k : Context) (r : ValueRange) (opening colon closing : ℕ) (low high : Expr) (fs gs : List Function) (p : Result Operands Halt) → r ≡ R.Range opening low colon high closing
    → TypesTo (as_pair p) (two_of k low high fs) gs → TypesTo (between p) (range_of k r fs) gs
range-types k r opening colon closing low high fs gs p is h =
    subst (λ (x : Typing O.Alternative). TypesTo (between p) (x fs) gs) (sym (ap (range_of k) is ∙ range-Range k opening colon closing low high)) (by-two k low high fs gs p h)

-- items that are narrow
narrow-append : (as' : List Alternative) (a : Alternative) → AllNarrowIn as' → IsNarrowIn a → AllNarrowIn (as' ++ a ∷ [])
narrow-append [] a n m = (m, tt)
narrow-append (x ∷ as') a n m = (n.0, narrow-append as' a n.1 m)

pub narrow-added : (old new : List Alternative) (w : Bool) (one : Result Alternative Halt) (r : Result Bool Halt) → Adds old w one r new → AllNarrowIn old → IfOk one IsNarrowIn → OnOk r (AllNarrowIn new)
narrow-added old new w (Ok e) (Ok v) d n m = subst (λ (es : List Alternative). AllNarrowIn es) (sym d.added) (narrow-append old e n m)
narrow-added old new w (Err h) (Ok v) d n m = subst (λ (es : List Alternative). AllNarrowIn es) (sym d.same) n
narrow-added old new w one (Err g) d n m = tt

-- the parts of one item are among those of all
module _ (R S : Type 0) (tree : R → Expr) (held : S → Known) (pre : R → S → Type 0) (post : R → S → Result P.Operand Halt → S → Type 0) (k : Context) where
  abbrev AllCan : List Expr → Type 0
  AllCan es = AllCanType R S tree held pre post k es

  can-first : (xs ys : List Expr) → AllCan (xs ++ ys) → AllCan xs
  can-first [] ys h = tt
  can-first (x ∷ xs) ys h = (h.0, can-first xs ys h.1)

  can-rest : (xs ys : List Expr) → AllCan (xs ++ ys) → AllCan ys
  can-rest [] ys h = h
  can-rest (x ∷ xs) ys h = can-rest xs ys h.1

  pub can-in : {A : Type 0} (f : A → List Expr) (xs : List A) (i : ℕ) (x : A) → AllCan (flat_map f xs) → i < length xs → x ≡ get_or xs i x → AllCan (f x)
  can-in f [] i x h less is = absurd (omega arith)
  can-in f (y ∷ xs) zero x h less is = subst (λ z. AllCan (f z)) (sym is) (can-first (f y) (flat_map f xs) h)
  can-in f (y ∷ xs) (suc i) x h less is = can-in f xs i x (can-rest (f y) (flat_map f xs) h) (omega arith) is
