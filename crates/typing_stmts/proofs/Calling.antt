-- A function where it is needed: it is known, or it is typed and put behind those that are.
use Rattle.std.proofs.Common.{◌≡◌, ℕ, suc, List, [], ◌∷◌, ◌++◌, length, Option, Some, None, refl, sym, ap, ◌∙◌, subst}
use Rattle.std.specs.Prelude.{Ok, Err, Result, slice_get}
use Rattle.sv_tree.specs.declared.units.SourceTree.{SourceTree}
use Rattle.sv_types.specs.declared.frame.Frame.{Frame}
use Rattle.sv_types.specs.declared.statement.Function.{Function}
use Rattle.package_scope.specs.declared.table.Table.{Table}
use Rattle.expr_type.specs.declared.halt.Halt.{Halt}
use Rattle.expr_type.specs.declared.halt.Halt.TheVariants as H
use Rattle.expr_type.specs.Breaks.{Quiet}
use Rattle.expr_type.specs.Functions.{appended, by_text, function_path, known_from, known_or, name_of, routine, routine_text}
use Rattle.expr_type.specs.Names.{Called, Context, Home, RoutineText, word}
use Rattle.expr_type.specs.Typings.{Typed, Typing, broken, checked, whole}
use Rattle.frame_texts.specs.Frames.{home_in}
use Rattle.known_functions.specs.Behind.{IsFound}
use Rattle.typing_parts.specs.Typists.{CalledTo}
use Rattle.typing_steps.specs.Steps.{StopsBy, TypesTo}
use Rattle.typing_steps.proofs.Combining.{checked-is, checked-stops}
use Rattle.typing_stmts.specs.Around.{IsPlaced, with_depth}
use Rattle.typing_stmts.specs.RoutinePaths.{path_behind}

-- where it is declared
abbrev home_by : ℕ → List ℕ → Home
home_by inside block = record { instance = inside; path = block }

pub placed-is : (tree : SourceTree) (t : Table) (f : Frame) (n : ℕ) (x : RoutineText) (inside : ℕ) (block under name : List ℕ) → home_in tree t f n ≡ home_by inside block → name ≡ word (record { tokens = tree.tokens; instance = f.instance }) (name_of x)
    → under ≡ path_behind block name → IsPlaced tree t f n x inside under
placed-is tree t f n x inside block under name is named at = record {
  instance = ap (λ (h : Home). h.instance) is;
  path =
      ap (λ (h : Home). function_path h (word (record { tokens = tree.tokens; instance = f.instance }) (name_of x))) is
      ∙ ap (λ (w : List ℕ). path_behind block w) (sym named) ∙ sym at;
}

same-place : (i a j b : ℕ) (p q : List ℕ) (fs : List Function) → i ≡ j → a ≡ b → p ≡ q → known_from 0 i a p fs ≡ known_from 0 j b q fs
same-place i a j b p q fs e f g =
    ap (λ (x : ℕ). known_from 0 x a p fs) e ∙ ap (λ (x : ℕ). known_from 0 j x p fs) f ∙ ap (λ (x : List ℕ). known_from 0 j b x fs) g

last-there : (gs : List Function) (f : Function) → slice_get (gs ++ f ∷ []) (length gs) ≡ Some f
last-there [] f = refl
last-there (g ∷ gs) f = last-there gs f

-- a function by its text and its place
module _ (k : Context) (n : ℕ) (x : RoutineText) (inside : ℕ) (under : List ℕ) (fs : List Function) (home : (k.home n).instance ≡ inside) (path : function_path (k.home n) (word k.source (name_of x)) ≡ under) where
  abbrev typed_then : Typing Called
  typed_then = checked (by_text k n x) appended

  from : known_from 0 (k.home n).instance (name_of x) (function_path (k.home n) (word k.source (name_of x))) fs ≡ known_from 0 inside (name_of x) under fs
  from = same-place (k.home n).instance (name_of x) inside (name_of x) (function_path (k.home n) (word k.source (name_of x))) under fs home refl path

  -- it is known
  known-by : (place : ℕ) (c : Called) → known_from 0 inside (name_of x) under fs ≡ Some c → routine_text (Some x) k n fs ≡ whole c fs
  known-by place c e = ap (λ (o : Option Called). known_or o typed_then fs) (from ∙ e)

  known-called : (place name : ℕ) → name ≡ name_of x → IsFound place (inside, name, under) fs → CalledTo (Ok place) (routine_text (Some x) k n fs) fs
  known-called place name named f = record {
    of = f.of;
    known = f.known;
    gives = known-by place (record { place = place; of = f.of }) (same-place inside (name_of x) inside name under under fs refl (sym named) refl ∙ f.first);
  }

  -- it isn't
  unknown : known_from 0 inside (name_of x) under fs ≡ None → routine_text (Some x) k n fs ≡ typed_then fs
  unknown e = ap (λ (o : Option Called). known_or o typed_then fs) (from ∙ e)

  added-called : (f : Function) (gs hs : List Function) (place : ℕ) → known_from 0 inside (name_of x) under fs ≡ None → TypesTo (Ok f) (by_text k n x fs) gs → place ≡ length gs → hs ≡ gs ++ f ∷ [] → CalledTo (Ok place) (routine_text (Some x) k n fs) hs
  added-called f gs hs place e p at behind =
      subst (λ (m : ℕ). CalledTo (Ok m) (routine_text (Some x) k n fs) hs) (sym at)
      (subst (λ (js : List Function). CalledTo (Ok (length gs)) (routine_text (Some x) k n fs) js) (sym behind)
      (record { of = f; known = last-there gs f; gives = unknown e ∙ checked-is (by_text k n x) appended fs gs f p }))

  stops-called : (h : Halt) (gs : List Function) → known_from 0 inside (name_of x) under fs ≡ None → TypesTo {A = Function} (Err h) (by_text k n x fs) gs → StopsBy h (routine_text (Some x) k n fs) gs
  stops-called h gs e p = subst (λ (t : Typed Called). StopsBy h t gs) (sym (unknown e)) (checked-stops (by_text k n x) appended fs gs h p)

-- in the text of a frame
module _ (tree : SourceTree) (t : Table) (f : Frame) (at depth n : ℕ) (x : RoutineText) (inside : ℕ) (under : List ℕ) (fs : List Function) (p : IsPlaced tree t f n x inside under) where
  pub known-there : (place name : ℕ) → name ≡ name_of x → IsFound place (inside, name, under) fs → CalledTo (Ok place) (routine_text (Some x) (with_depth tree t f at depth) n fs) fs
  known-there = known-called (with_depth tree t f at depth) n x inside under fs p.instance p.path

  pub added-there : (made : Function) (gs hs : List Function) (place : ℕ) → known_from 0 inside (name_of x) under fs ≡ None → TypesTo (Ok made) (by_text (with_depth tree t f at depth) n x fs) gs → place ≡ length gs → hs ≡ gs ++ made ∷ []
      → CalledTo (Ok place) (routine_text (Some x) (with_depth tree t f at depth) n fs) hs
  added-there = added-called (with_depth tree t f at depth) n x inside under fs p.instance p.path

  pub text-stops : (h : Halt) (gs : List Function) → known_from 0 inside (name_of x) under fs ≡ None → TypesTo {A = Function} (Err h) (by_text (with_depth tree t f at depth) n x fs) gs → StopsBy h (routine_text (Some x) (with_depth tree t f at depth) n fs) gs
  text-stops = stops-called (with_depth tree t f at depth) n x inside under fs p.instance p.path

-- by how deep calls lie one in another
no-depth : (k : Context) (n : ℕ) → routine 0 k n ≡ broken Quiet
unfolding routine
no-depth k n = refl

one-deeper : (depth : ℕ) (k : Context) (n : ℕ) → routine (suc depth) k n ≡ routine_text (k.text n) (record k { routine = routine depth k }) n
unfolding routine
one-deeper depth k n = refl

nothing-breaks : (fs : List Function) → CalledTo (Err H.Quiet) (broken {A = Called} Quiet fs) fs
nothing-breaks fs = record { quiet = refl; functions = refl }

pub too-deep : (depth : ℕ) (k : Context) (n : ℕ) (fs : List Function) → depth ≡ 0 → CalledTo (Err H.Quiet) (routine depth k n fs) fs
too-deep depth k n fs e =
    subst (λ (d : ℕ). CalledTo (Err H.Quiet) (routine d k n fs) fs) (sym e)
    (subst (λ (y : Typing Called). CalledTo (Err H.Quiet) (y fs) fs) (sym (no-depth k n)) (nothing-breaks fs))

deeper : (depth : ℕ) (k : Context) (n : ℕ) (o : Option RoutineText) (r : Result ℕ Halt) (fs gs : List Function) → k.text n ≡ o → CalledTo r (routine_text o (record k { routine = routine depth k }) n fs) gs → CalledTo r (routine (suc depth) k n fs) gs
deeper depth k n o r fs gs e c =
    subst (λ (y : Typing Called). CalledTo r (y fs) gs) (sym (one-deeper depth k n))
    (subst (λ (p : Option RoutineText). CalledTo r (routine_text p (record k { routine = routine depth k }) n fs) gs) (sym e) c)

pub by-depth : (depth below : ℕ) (k : Context) (n : ℕ) (o : Option RoutineText) (r : Result ℕ Halt) (fs gs : List Function) → depth ≡ suc below → k.text n ≡ o → CalledTo r (routine_text o (record k { routine = routine below k }) n fs) gs
    → CalledTo r (routine depth k n fs) gs
by-depth depth below k n o r fs gs e is c = subst (λ (d : ℕ). CalledTo r (routine d k n fs) gs) (sym e) (deeper below k n o r fs gs is c)

pub no-text : (depth below : ℕ) (k : Context) (n : ℕ) (fs : List Function) → depth ≡ suc below → k.text n ≡ None → CalledTo (Err H.Quiet) (routine depth k n fs) fs
no-text depth below k n fs e is = by-depth depth below k n None (Err H.Quiet) fs fs e is (nothing-breaks fs)

-- a function's place is its number
pub place-of : (x : Typing Called) (r : Result ℕ Halt) (fs gs : List Function) → CalledTo r (x fs) gs → TypesTo r (checked x (λ (c : Called). whole c.place) fs) gs
place-of x (Ok n) fs gs c = checked-is x (λ (d : Called). whole d.place) fs gs (record { place = n; of = c.of }) c.gives
place-of x (Err h) fs gs s = checked-stops x (λ (d : Called). whole d.place) fs gs h s
