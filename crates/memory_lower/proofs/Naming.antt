-- What targets in the words of a memory name.
use Rattle.std.proofs.Common.{◌≡◌, ℕ, List, [], ◌∷◌, ◌++◌, Option, Some, None, refl, ap, sym, subst, append_assoc}
use Rattle.sv_types.specs.declared.expression.Expr.{Expr}
use Rattle.sv_types.specs.declared.statement.Function.{Function}
use Rattle.sv_types.specs.declared.types.SvType.{SvType}
use Rattle.sv_types.specs.Surroundings.{Around}
use Rattle.sv_types.specs.Expressions.{meaning}
use Rattle.v_tree.specs.Names.{Name}
use Rattle.v_tree.specs.declared.expressions.VExpr.{VExpr}
use Rattle.v_tree.specs.declared.names.Helper.{Helper}
use Rattle.v_tree.specs.declared.names.NameMap.{NameMap}
use Rattle.v_meaning.specs.Scopes.{Scope}
use Rattle.v_meaning.specs.Values as T
use Rattle.lowering_laws.specs.Agreeing.{Images}
use Rattle.lowering_laws.specs.NamedImages.{AreImages}
use Rattle.lowering_laws.specs.Reached.{Piece}
use Rattle.path_flatten.specs.Guards.{guard_meaning}
use Rattle.path_flatten.specs.Helping.{EachHelps}
use Rattle.path_flatten.specs.Naming.{SameNumbers}
use Rattle.path_flatten.proofs.Naming.{same-itself, same-joined}
use Rattle.path_steps.proofs.PathNames.{images-like}
use Rattle.target_flatten.specs.declared.writes.Write.{Write}
use Rattle.target_flatten.specs.Naming as F
use Rattle.target_flatten.specs.Owning.{AllOwn}
use Rattle.target_flatten.specs.Writing.{pieces}
use Rattle.target_walk.specs.Naming.{all_piece_names, apart_names}
use Rattle.expr_lower.specs.Leaves.{leaves, Each}
use Rattle.expr_lower.specs.Lowering.{LeafStands}
use Rattle.target_lower.specs.declared.within.Within.{Within}
use Rattle.memory_words.specs.Names as M
use Rattle.memory_targets.specs.declared.words.Word.{Word}
use Rattle.memory_targets.specs.declared.words.Word.TheVariants as W
use Rattle.memory_targets.specs.Names.{word_names, pieces_names}
use Rattle.memory_targets.specs.Pieces.{AllInWord}
use Rattle.memory_targets.proofs.Named.{words-named}
use Rattle.memory_lower.specs.Lowered.{IsWordFor, NamedInWord}

-- two definitions of what guards and targets name
guards-same : (g : Option T.Meaning) (sc : Scope) → M.guard_names g sc ≡ F.guard_names g sc
guards-same None sc = refl
guards-same (Some g) sc = refl

pieces-same : (ps : List Piece) (sc : Scope) → pieces_names ps sc ≡ all_piece_names ps sc
pieces-same [] sc = refl
pieces-same (p ∷ ps) sc = ap (λ l. F.piece_names p sc ++ l) (pieces-same ps sc)

no-images : (image : ℕ → ℕ) → AreImages image [] []
no-images image = record { all = λ n k. absurd k; only = λ q k. absurd k }

module _ (within : Within) (names : NameMap) (fs : List Function) (hs : List Helper) (im : Images) (a : Around) (sc : Scope) (helps : EachHelps hs sc) (t : SvType) (i : Expr)
    (all : Each (LeafStands names fs im a sc) (leaves i)) where
  -- the word names what the element's index does
  pub word-named : (w : Word) → IsWordFor within names fs hs t i w → AreImages im.number (meaning i).names (word_names w sc)
  word-named (W.Known x) h = subst (λ l. AreImages im.number l []) (sym h.1.none) (no-images im.number)
  word-named (W.Lowered r) h =
      images-like im.number (meaning i).names ((T.meaning h.0.expr).names sc) (word_names (W.Lowered r) sc) (h.1.lowers im a sc all helps).names
      (subst (λ l. SameNumbers ((T.meaning h.0.expr).names sc) (l ++ (T.meaning r.rank).names sc)) (guards-same (guard_meaning r.guard) sc) (h.3 sc))

-- They name what the word does and what those in the word alone name.
pub names-in-word : (w : Word) (name : Name) (bits : ℕ) (alone made : List Write) (old new : Option VExpr) (sc : Scope) → AllOwn name bits alone → AllInWord w alone made → NamedInWord w alone old new
    → SameNumbers (word_names w sc ++ (all_piece_names (pieces alone) sc ++ apart_names old sc)) (all_piece_names (pieces made) sc ++ apart_names new sc)
names-in-word w name bits [] [] old new sc own all apart = apart sc
names-in-word w name bits [] (y ∷ ys) old new sc own all apart = absurd all
names-in-word w name bits (x ∷ xs) [] old new sc own all apart = absurd all
names-in-word w name bits (x ∷ xs) (y ∷ ys) old new sc own all apart =
    let n = word_names w sc in
    let p = all_piece_names (pieces (x ∷ xs)) sc in
    let q = all_piece_names (pieces (y ∷ ys)) sc in
    let some : SameNumbers (n ++ p) q =
    subst (λ l. SameNumbers (n ++ l) q) (pieces-same (pieces (x ∷ xs)) sc)
    (subst (SameNumbers (n ++ pieces_names (pieces (x ∷ xs)) sc)) (pieces-same (pieces (y ∷ ys)) sc) (words-named w name bits x xs y ys sc own all)) in
    subst (λ o. SameNumbers (n ++ (p ++ apart_names old sc)) (q ++ apart_names o sc)) (sym apart)
    (subst (λ l. SameNumbers l (q ++ apart_names old sc)) (append_assoc n p (apart_names old sc)) (same-joined (n ++ p) q (apart_names old sc) (apart_names old sc) some (same-itself (apart_names old sc))))
