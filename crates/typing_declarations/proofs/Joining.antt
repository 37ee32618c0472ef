-- Declarations behind declarations, and one more of a row.
use Rattle.std.proofs.Common.{◌≡◌, ℕ, Bool, true, false, List, [], ◌∷◌, ◌++◌, Option, Some, None, refl, sym, ap, ◌∙◌, subst, append_assoc}
use Rattle.std.specs.Prelude.{Ok, Err}
use Rattle.std.proofs.lemmas.List.{append-nil}
use Rattle.sv_types.specs.declared.frame.ParamType.{ParamType}
use Rattle.sv_types.specs.declared.frame.ParamValue.{ParamValue}
use Rattle.sv_types.specs.declared.statement.Function.{Function}
use Rattle.sv_types.specs.declared.statement.Local.{Local}
use Rattle.expr_type.specs.declared.halt.Halt.{Halt}
use Rattle.expr_type.specs.declared.halt.Halt.TheVariants as H
use Rattle.expr_type.specs.Names.{LocalId}
use Rattle.expr_type.specs.Statements.{Declared, and_then, nothing}
use Rattle.expr_type.specs.Typings.{Typed, Typing, both_by, whole}
use Rattle.typing_steps.specs.Steps.{StopsBy, TypesTo}
use Rattle.typing_scopes.specs.Ahead.{AheadQuiet, AheadWhole}
use Rattle.typing_scopes.proofs.Turning.{ahead-alike, ahead-breaks, ahead-end, ahead-quiet, ahead-start, ahead-whole, behind-breaks, behind-end, behind-quiet, behind-whole}
use Rattle.typing_declarations.specs.Blocks.{ended}
use Rattle.typing_declarations.specs.Rows.{AheadBy}

abbrev made : List ParamValue → List ParamType → List LocalId → List Local → Declared
made vs ts is ls = record { values = vs; types = ts; ids = is; locals = ls }

pub and-nothing : (d : Declared) → and_then d nothing ≡ d
and-nothing d = ap (λ (ls : List Local). made d.values d.types d.ids ls) (append-nil d.locals)

pub nothing-and : (d : Declared) → and_then nothing d ≡ d
nothing-and d =
    ap (λ (vs : List ParamValue). made vs (d.types ++ []) (d.ids ++ []) d.locals) (append-nil d.values)
    ∙ ap (λ (ts : List ParamType). made d.values ts (d.ids ++ []) d.locals) (append-nil d.types) ∙ ap (λ (is : List LocalId). made d.values d.types is d.locals) (append-nil d.ids)

pub and-assoc : (d e f : Declared) → and_then d (and_then e f) ≡ and_then (and_then d e) f
and-assoc d e f =
    ap (λ (vs : List ParamValue). made vs ((f.types ++ e.types) ++ d.types) ((f.ids ++ e.ids) ++ d.ids) (d.locals ++ (e.locals ++ f.locals))) (append_assoc f.values e.values d.values)
    ∙ ap (λ (ts : List ParamType). made (f.values ++ (e.values ++ d.values)) ts ((f.ids ++ e.ids) ++ d.ids) (d.locals ++ (e.locals ++ f.locals))) (append_assoc f.types e.types d.types)
    ∙ ap (λ (is : List LocalId). made (f.values ++ (e.values ++ d.values)) (f.types ++ (e.types ++ d.types)) is (d.locals ++ (e.locals ++ f.locals))) (append_assoc f.ids e.ids d.ids)
    ∙ ap (λ (ls : List Local). made (f.values ++ (e.values ++ d.values)) (f.types ++ (e.types ++ d.types)) (f.ids ++ (e.ids ++ d.ids)) ls) (sym (append_assoc d.locals e.locals f.locals))

-- before a row
pub row-begins : (x : Typing Declared) (fs : List Function) → AheadBy true nothing x (x fs) fs
row-begins x fs = ahead-alike (λ (d : Declared). d) (and_then nothing) x (x fs) fs (λ d. sym (nothing-and d)) (ahead-start x fs)

-- behind it
pub row-ends : (w : Bool) (d : Declared) (row : Typed Declared) (fs : List Function) → AheadBy w d (whole nothing) row fs → TypesTo (ended w d) row fs
row-ends true d row fs so_far = subst (λ (e : Declared). TypesTo (Ok e) row fs) (and-nothing d) (ahead-end nothing (and_then d) row fs so_far)
row-ends false d row fs so_far = behind-end nothing row fs so_far

module _ {A : Type 0} (of : A → Declared) (x : Typing A) (y : Option A → Typing Declared) (row : Typed Declared) (fs gs : List Function) where
  abbrev pub row_of : Typing Declared
  row_of = both_by x y (λ a e. whole (and_then (of a) e))

  abbrev join : A → Declared → Declared
  join a e = and_then (of a) e

  pub row-whole : (w : Bool) (d : Declared) (a : A) → AheadBy w d row_of row fs → TypesTo (Ok a) (x fs) gs → AheadBy w (and_then d (of a)) (y (Some a)) row gs
  row-whole true d a so_far p =
      ahead-alike (λ (e : Declared). and_then d (and_then (of a) e)) (λ (e : Declared). and_then (and_then d (of a)) e) (y (Some a)) row gs (λ e. and-assoc d (of a) e)
      (ahead-whole x y join (and_then d) row fs gs a so_far p)
  row-whole false d a so_far p = behind-whole x y join row fs gs a so_far p

  pub row-quiet : (w : Bool) (d e : Declared) → AheadBy w d row_of row fs → TypesTo {A = A} (Err H.Quiet) (x fs) gs → AheadBy false e (y None) row gs
  row-quiet true d e so_far p = ahead-quiet x y join (and_then d) row fs gs so_far p
  row-quiet false d e so_far p = behind-quiet x y join row fs gs so_far p

  pub row-breaks : (w : Bool) (d : Declared) (at n : ℕ) → AheadBy w d row_of row fs → TypesTo {A = A} (Err (H.Breaks at n)) (x fs) gs → (hs : List Function) → StopsBy (H.Breaks at n) row hs
  row-breaks true d at n so_far p = ahead-breaks x y join (and_then d) row fs gs at n so_far p
  row-breaks false d at n so_far p = behind-breaks x y join row fs gs at n so_far p
