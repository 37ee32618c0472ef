-- What was found is sound, and variables of a type that was found.
use Rattle.std.proofs.Common.{◌≡◌, ℕ, Bool, true, false, List, map, Option, Some, None, sym, ap, subst}
use Rattle.std.specs.Prelude.{Result, Ok, Err}
use Rattle.std.specs.Option.{option_map}
use Rattle.sv_tree.specs.declared.declarations.Declarator.{Declarator}
use Rattle.sv_types.specs.declared.statement.Function.{Function}
use Rattle.sv_types.specs.declared.types.SvType.{SvType}
use Rattle.expr_type.specs.declared.halt.Halt.{Halt}
use Rattle.expr_type.specs.declared.halt.Halt.TheVariants as H
use Rattle.expr_type.specs.Names.{Context, with_values}
use Rattle.expr_type.specs.Statements.{Declared, WrittenType, and_then, in_turn, names_if, type_names, variable, variables_of}
use Rattle.expr_type.specs.Types.{TypeFound}
use Rattle.expr_type.specs.Typings.{Typed, Typing}
use Rattle.routine_fits.specs.Sound.{AllSoundFunctions}
use Rattle.typing_steps.specs.Steps.{StopsBy, TypesTo}
use Rattle.typing_scopes.proofs.Turning.{broken-turn, quiet-turn, whole-turn}
use Rattle.typing_walks.specs.Keeps.{Kept}
use Rattle.stmt_laws.specs.Sound.{SoundType, WrittenFull}
use Rattle.typing_declarations.specs.Rows.{AheadBy, FoundSound, each_variable}

-- what is typed keeps what is said of it
pub sound-then : (A : Type 0) (Q : List Function → Type 0) (P : A → List Function → Type 0) (t : Typed A) (fs gs : List Function) (a : A) → TypesTo (Ok a) t gs → Kept A Q P fs t → P a gs
sound-then A Q P t fs gs a h kept = subst (λ (zs : List Function). P a zs) (ap (λ (u : Typed A). u.functions) h) (kept.sound a (ap (λ (u : Typed A). u.result) h))

abbrev Full : WrittenType → List Function → Type 0
Full t gs = WrittenFull t

pub full-then : (t : Typed WrittenType) (fs gs : List Function) (u : WrittenType) → Kept WrittenType AllSoundFunctions Full fs t → TypesTo (Ok u) t gs → WrittenFull u
full-then t fs gs u kept h = sound-then WrittenType AllSoundFunctions Full t fs gs u h kept

pub found-sound : (Q : List Function → Type 0) (r : Result TypeFound Halt) (t : Typed TypeFound) (fs gs : List Function) → TypesTo r t gs → Kept TypeFound Q SoundType fs t → FoundSound r gs
found-sound Q (Ok f) t fs gs h kept = sound-then TypeFound Q SoundType t fs gs f h kept
found-sound Q (Err g) t fs gs h kept = tt

module _ (k : Context) (x : Typing TypeFound) (ds : List Declarator) (fs gs : List Function) where
  abbrev rest_of : Option TypeFound → Typing Declared
  rest_of o = in_turn (names_if k o) (map (variable (option_map (λ (f : TypeFound). f.of) o)) ds)

  abbrev join : TypeFound → Declared → Declared
  join f d = and_then (type_names f) d

  -- behind a type that is whole
  pub found-whole : (f : TypeFound) → TypesTo (Ok f) (x fs) gs → AheadBy true (type_names f) (each_variable (with_values f.names k) (Some f.of) ds) (variables_of k x ds fs) gs
  found-whole f p r hs q = whole-turn x rest_of join f r fs gs hs p q

  -- behind one that breaks nothing and isn't whole
  pub found-quiet : (d : Declared) → TypesTo {A = TypeFound} (Err H.Quiet) (x fs) gs → AheadBy false d (each_variable k None ds) (variables_of k x ds fs) gs
  found-quiet d p r hs q = quiet-turn x rest_of join r fs gs hs p q

  -- behind one that breaks a rule
  pub found-breaks : (at n : ℕ) (hs : List Function) → TypesTo {A = TypeFound} (Err (H.Breaks at n)) (x fs) gs → StopsBy (H.Breaks at n) (variables_of k x ds fs) hs
  found-breaks at n hs p = broken-turn x rest_of join at n fs gs hs p

-- behind a block that stands for these declarations
pub block-ahead : (w : Bool) (d e : Declared) (j k : Context) (t : Option SvType) (ds : List Declarator) (row : Typed Declared) (gs : List Function) → d ≡ e → j ≡ k → AheadBy w e (each_variable k t ds) row gs → AheadBy w d (each_variable j t ds) row gs
block-ahead w d e j k t ds row gs p q h =
    subst (λ (x : Declared). AheadBy w x (each_variable j t ds) row gs) (sym p) (subst (λ (l : Context). AheadBy w e (each_variable l t ds) row gs) (sym q) h)
