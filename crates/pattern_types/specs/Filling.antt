-- What the members or elements of a type are given.
use Rattle.std.specs.Prelude.{◌≡◌, ◌≤◌, ℕ, ◌%◌, List, [], ◌∷◌, ◌++◌, length, slice_get, Option, Some, None, Result, Ok, Err}
use Rattle.std.specs.declared.alloc.AllocError.{AllocError}
use Rattle.sv_types.specs.declared.expression.Expr.{Expr}
use Rattle.sv_types.specs.declared.types.SvType.{SvType}
use Rattle.pattern_fit.specs.declared.pattern.PatternItem.{PatternItem}
use Rattle.pattern_fit.specs.declared.pattern.PatternItem.TheVariants as I
use Rattle.pattern_fit.specs.declared.pattern.Rest.{Rest}
use Rattle.sv_types.specs.declared.expression.Form.TheVariants as F
use Rattle.expr_type.specs.declared.halt.Halt.{Halt}
use Rattle.expr_type.specs.declared.halt.Halt.TheVariants as H
use Rattle.expr_type.specs.Answers.{Gives, HaltsBy}
use Rattle.expr_type.specs.Names.{Source}
use Rattle.expr_type.specs.Operators.{expr_at}
use Rattle.expr_type.specs.Operands.{Operand, passed}
use Rattle.expr_type.specs.Patterns.{defaults, keyed, levels, rest_of, spread}
use Rattle.expr_type.specs.Typings.{Checked}
use Rattle.pattern_types.specs.Meaning.{Parts}
use Rattle.pattern_types.specs.declared.takes.Taking.{Taking}
use Rattle.pattern_types.specs.Meaning.{item_keys, items_in, written_items}
use Rattle.pattern_types.specs.Places.{default_from, past}
use Rattle.pattern_types.specs.Takes.{default_keys}

-- the number among all items of the one that a member or element takes
abbrev pub item_number : Option ℕ → ℕ → PatternItem → Option ℕ
item_number default count (I.Item m) = Some (past default (m % count))
item_number default count I.Default = default
item_number default count I.Spread = default

abbrev pub at_place : {A : Type 0} → List A → Option ℕ → Option A
at_place xs None = None
at_place xs (Some n) = slice_get xs n

-- what a value of `default` makes of a type
abbrev pub spread_of : Source → ℕ → Rest → Operand → SvType → Checked Expr
spread_of k tick rest v t = spread k tick (levels t) rest (λ u. passed k u v) t

-- what is taken belongs to the pattern
pub record Fills (k : Source) (p : Parts) (taking : Taking) : Type 0 where
  pub rest : taking.rest ≡ rest_of (defaults (written_items k (items_in p)))
  pub default : taking.default ≡ default_from 0 (item_keys (items_in p))
  pub count : taking.count ≡ length (keyed (written_items k (items_in p)))
  pub once : length (default_keys (item_keys (items_in p))) ≤ 1

-- two things of which each may be missing
abbrev pub both_of : {A B : Type 0} → Result A AllocError → Result B Halt → Result (A × B) Halt
both_of a (Err h) = Err h
both_of (Ok a) (Ok b) = Ok (a, b)
both_of (Err want) (Ok b) = Err H.Memory

-- one more item behind a list
abbrev pub Adds : {A : Type 0} → Result (List A) Halt → Result A Halt → Result (List A) Halt → Type 0
Adds (Ok ys) (Ok y) r = Gives r (Ok (ys ++ y ∷ []))
Adds (Ok ys) (Err h) r = r ≡ Err h
Adds (Err h) y r = r ≡ Err h

-- a pattern of a type by what its members or elements are given
abbrev pub MakesPattern : Source → ℕ → SvType → Result (List Expr) Halt → Result Expr Halt → Type 0
MakesPattern k at t (Ok es) r = Gives r (Ok (expr_at k at t (F.Pattern es)))
MakesPattern k at t (Err h) r = r ≡ Err h

-- what is made already, in front of the rest
abbrev pub behind_made : {A : Type 0} → List A → Checked (List A) → Checked (List A)
behind_made xs (Ok ys) = Ok (xs ++ ys)
behind_made xs (Err b) = Err b

-- What is made so far, if memory sufficed, makes the whole with the rest behind it.
abbrev pub Makes : {A : Type 0} → Result (List A) Halt → Checked (List A) → Checked (List A) → Type 0
Makes (Ok xs) rest all = behind_made xs rest ≡ all
Makes (Err h) rest all = HaltsBy h None
