-- Names and calls, alone and as what is cast to.
use Rattle.std.proofs.Common.{◌≡◌, ℕ, List, [], ◌∷◌, map, Option, Some, None, subst}
use Rattle.std.specs.Option.{option_map}
use Rattle.sv_tree.specs.Extents.{qualified_first}
use Rattle.sv_tree.specs.declared.expressions.Expr.{Expr-F}
use Rattle.sv_tree.specs.declared.names.QualifiedName.{QualifiedName}
use Rattle.sv_types.specs.declared.statement.Function.{Function}
use Rattle.sv_types.specs.declared.types.SvType.{SvType}
use Rattle.expr_type.specs.declared.operand.Valued.{Valued}
use Rattle.expr_type.specs.Typings.{Typing}
use Rattle.expr_type.specs.Names.{Context, thing}
use Rattle.expr_type.specs.KeywordTypes.{Dim}
use Rattle.expr_type.specs.TargetNames.{actual_target}
use Rattle.expr_type.specs.Forms as F
use Rattle.expr_type.specs.Forms.{SelectMeaning, dimensions, type_of_thing}
use Rattle.expr_type.specs.Expressions.{Meaning, CastMeaning, type_of_name, cast_to_name, actuals, expr_step}
use Rattle.typing_fits.specs.Sound.{Sound}
use Rattle.typing_fits.specs.Operands.{SoundFixed, SoundOperand}
use Rattle.typing_walks.specs.Keeps.{Keeps, AllKeep, AllHold, Anything, FullType, SoundInside, Surrounded, SoundMeaning}
use Rattle.typing_walks.proofs.Keeping as K
use Rattle.typing_walks.proofs.Lasting.{any-lasts}
use Rattle.typing_walks.proofs.Operands as O
use Rattle.typing_walks.proofs.Paths as P
use Rattle.typing_walks.proofs.Paths.{SelectsSound}
use Rattle.typing_walks.proofs.Casts as C
use Rattle.typing_walks.proofs.Casts.{TypeIf}
use Rattle.typing_walks.proofs.Forms as X
use Rattle.typing_walks.proofs.Forms.{AllMeanings, Gives}

abbrev some_typing : {A : Type 0} → Typing A → Option (Typing A)
some_typing x = Some x

module _ (Q : List Function → Type 0) where
  -- the type that a name stands for, with dimensions
  each-dimension : (k : Context) (ss : List SelectMeaning) → Surrounded Q k → SelectsSound Q ss → AllKeep Q Anything (map (λ (s : SelectMeaning). s.dimension k) ss)
  each-dimension k [] r s = tt
  each-dimension k (x ∷ ss) r s = (s.0.dimension k r, each-dimension k ss r s.1)

  forget : (x : Typing (List Dim)) → Keeps Q (λ ds gs. AllHold Anything ds gs) x → Keeps Q Anything x
  forget x h gs q = let k = h gs q in record { extends = k.extends; kept = k.kept; sound = λ a e. tt }

  dimensions-keeps : (k : Context) (ss : List SelectMeaning) → Surrounded Q k → SelectsSound Q ss → Keeps Q Anything (dimensions k ss)
  dimensions-keeps k ss r s = forget (dimensions k ss) (K.all-keeps Q Anything (map (λ (x : SelectMeaning). x.dimension k) ss) any-lasts (each-dimension k ss r s))

  abbrev TypingIf : Option (Typing SvType) → Type 0
  TypingIf None = Unit {0}
  TypingIf (Some x) = Keeps Q FullType x

  typing-by : (k : Context) (ds : Typing (List Dim)) (o : Option SvType) → TypeIf o → Keeps Q Anything ds → TypingIf (option_map (λ t. F.dimensioned k.source t ds) o)
  typing-by k ds None full h = tt
  typing-by k ds (Some t) full h = C.dimensioned-keeps Q k.source t ds full h

  type-if : (k : Context) (of : QualifiedName) (ss : List SelectMeaning) → Surrounded Q k → SelectsSound Q ss → TypingIf (type_of_name k of ss)
  type-if k of ss r s = typing-by k (dimensions k ss) (type_of_thing (thing k of)) (C.type-named k of r.context) (dimensions-keeps k ss r s)

  type-there : (o : Option (Typing SvType)) (x : Typing SvType) → TypingIf o → o ≡ Some x → Keeps Q FullType x
  type-there None x s h = absurd (cc)
  type-there (Some y) x s h = let is : y ≡ x = cc in subst (λ z. Keeps Q FullType z) is s

  target-there : (y x : Typing Valued) → Keeps Q SoundFixed y → some_typing y ≡ Some x → Keeps Q SoundFixed x
  target-there y x s h = let is : y ≡ x = cc in subst (λ z. Keeps Q SoundFixed z) is s

  pub name-form : (of : QualifiedName) (ss : List SelectMeaning) → SelectsSound Q ss → SoundMeaning Q (expr_step (Expr-F.«Expr::Name» of ss None))
  name-form of ss s = record {
    typed = λ k r. O.plain-keeps Q (F.named k of ss) (O.fixed-keeps Q (F.named k of ss) (P.named-keeps Q k of ss r s));
    as_type = λ k r x h. type-there (type_of_name k of ss) x (type-if k of ss r s) h;
    as_target = λ k r x h. target-there (actual_target k of ss) x (P.actual-keeps Q k of ss r s) h;
  }

  -- a cast to what a name stands for
  cast-by : (k : Context) (of : QualifiedName) (ss : List SelectMeaning) (c : CastMeaning) (o : Option (Typing SvType)) → Surrounded Q k → SelectsSound Q ss → Gives Q SoundInside c → TypingIf o
      → Keeps Q Sound (elim o as (λ x. Typing Valued) [ Some t ↦ F.by_type k.source (qualified_first of) t (c k) | None ↦ F.by_size k.source (qualified_first of) (F.plain (F.named k of ss)) (c k) ])
  cast-by k of ss c (Some t) r s g h = C.type-keeps Q k.source (qualified_first of) t (c k) h (g k r)
  cast-by k of ss c None r s g h =
      C.size-keeps Q k.source (qualified_first of) (F.plain (F.named k of ss)) (c k) (O.plain-keeps Q (F.named k of ss) (O.fixed-keeps Q (F.named k of ss) (P.named-keeps Q k of ss r s))) (g k r)

  pub name-cast : (of : QualifiedName) (ss : List SelectMeaning) (c : CastMeaning) → SelectsSound Q ss → Gives Q SoundInside c → SoundMeaning Q (expr_step (Expr-F.«Expr::Name» of ss (Some c)))
  name-cast of ss c s g = X.value-meaning Q (λ k. cast_to_name k of ss c) (λ k r. cast-by k of ss c (type_of_name k of ss) r s g (type-if k of ss r s))

  -- calls
  each-actual : (k : Context) (es : List Meaning) → Surrounded Q k → AllMeanings Q es → AllKeep Q SoundOperand (actuals k es)
  each-actual k [] r s = tt
  each-actual k (e ∷ es) r s = (O.unstreamed-keeps Q k.source (e.typed k) (s.0.typed k r), each-actual k es r s.1)

  pub call-form : (of : QualifiedName) (opening : ℕ) (arguments : List Meaning) (closing : ℕ) → AllMeanings Q arguments → SoundMeaning Q (expr_step (Expr-F.Call of opening arguments closing None))
  call-form of opening arguments closing s = X.value-meaning Q (λ k. F.call k of (actuals k arguments)) (λ k r. C.call-keeps Q k of (actuals k arguments) r (each-actual k arguments r s))

  pub call-cast : (of : QualifiedName) (opening : ℕ) (arguments : List Meaning) (closing : ℕ) (c : CastMeaning) → AllMeanings Q arguments → Gives Q SoundInside c → SoundMeaning Q (expr_step (Expr-F.Call of opening arguments closing (Some c)))
  call-cast of opening arguments closing c s g =
      X.value-meaning Q (λ k. F.by_size k.source (qualified_first of) (F.plain (F.call k of (actuals k arguments))) (c k))
      (λ k r.
      C.size-keeps Q k.source (qualified_first of) (F.plain (F.call k of (actuals k arguments))) (c k) (O.plain-keeps Q (F.call k of (actuals k arguments)) (C.call-keeps Q k of (actuals k arguments) r (each-actual k arguments r s)))
      (g k r))
