-- Targets in a word name what they name in the word alone, and what the word does.
use Rattle.std.proofs.Common.{◌≡◌, ℕ, List, [], ◌∷◌, ◌++◌, map, append-nil, refl, ap, sym, ◌∙◌, subst}
use Rattle.v_tree.specs.Names.{Name}
use Rattle.v_tree.specs.declared.expressions.VSel.{VSel}
use Rattle.v_tree.specs.declared.statements.VLval.TheVariants as L
use Rattle.v_meaning.specs.Scopes.{Scope}
use Rattle.v_meaning.specs.Selects.{SelMeaning}
use Rattle.v_meaning.specs.Statements.{Target, target, name_target}
use Rattle.v_meaning.specs.Values.{sel_meaning, sel_names}
use Rattle.lowering_laws.specs.Reached.{Piece}
use Rattle.lowering_laws.specs.Terms.{and_guard}
use Rattle.path_flatten.specs.Guards.{guard_meaning}
use Rattle.path_flatten.specs.Naming.{SameNumbers}
use Rattle.path_flatten.proofs.Naming.{same-itself, same-then, same-joined, same-twice}
use Rattle.target_flatten.specs.declared.writes.Write.{Write}
use Rattle.target_flatten.specs.Naming.{guard_names, piece_names}
use Rattle.target_flatten.specs.Owning.{AllOwn}
use Rattle.target_flatten.specs.Writing.{piece, pieces}
use Rattle.target_flatten.proofs.Naming.{both-guards, same-middle}
use Rattle.memory_targets.specs.declared.words.Word.{Word}
use Rattle.memory_targets.specs.Words.{word_sel, word_guard}
use Rattle.memory_targets.specs.Pieces.{selects_in, InWord, AllInWord}
use Rattle.memory_targets.specs.Names.{word_names, pieces_names}
use Rattle.memory_targets.proofs.Naming.{selects-are, target-is, piece-in}

name-names : (name : Name) (ss : List SelMeaning) (sc : Scope) → (name_target name ss).names sc ≡ sel_names ss sc
unfolding name_target
name-names name ss sc = refl

-- one target
one-named : (w : Word) (x y : Write) (name : Name) (sels : List VSel) (sc : Scope) → x.to ≡ L.Name name sels → InWord w x y → SameNumbers (word_names w sc ++ piece_names (piece x) sc) (piece_names (piece y) sc)
one-named w x y name sels sc is h =
    let g = guard_names (word_guard w) sc in
    let s = (word_sel w).names sc in
    let k = guard_names (guard_meaning x.guard) sc in
    let t = sel_names (map sel_meaning sels) sc in
    let old : (target x.to).names sc ≡ t = ap (λ to. (target to).names sc) is ∙ ap (λ (u : Target). u.names sc) (target-is name sels) ∙ name-names name (map sel_meaning sels) sc in
    let new : (name_target name (word_sel w ∷ selects_in x.to)).names sc ≡ s ++ t =
    name-names name (word_sel w ∷ selects_in x.to) sc ∙ ap (λ ss. s ++ sel_names ss sc) (ap selects_in is ∙ selects-are name sels) in
    subst (λ ns. SameNumbers ((g ++ s) ++ (k ++ ns)) (piece_names (piece y) sc)) (sym old)
    (subst (λ (p : Piece). SameNumbers ((g ++ s) ++ (k ++ t)) (piece_names p sc)) (sym (piece-in w x y name sels is h))
    (subst (λ ns. SameNumbers ((g ++ s) ++ (k ++ t)) (guard_names (and_guard (word_guard w) (guard_meaning x.guard)) sc ++ ns)) (sym new)
    (same-then ((g ++ s) ++ (k ++ t)) ((g ++ k) ++ (s ++ t)) (guard_names (and_guard (word_guard w) (guard_meaning x.guard)) sc ++ (s ++ t)) (same-middle g s k t)
    (same-joined (g ++ k) (guard_names (and_guard (word_guard w) (guard_meaning x.guard)) sc) (s ++ t) (s ++ t) (both-guards (word_guard w) (guard_meaning x.guard) sc) (same-itself (s ++ t))))))

-- what is named in each of two lists
spread : (w a b : List ℕ) → SameNumbers (w ++ (a ++ b)) ((w ++ a) ++ (w ++ b))
spread w a b =
    same-then (w ++ (a ++ b)) ((w ++ w) ++ (a ++ b)) ((w ++ a) ++ (w ++ b)) (same-joined w (w ++ w) (a ++ b) (a ++ b) (same-twice w w w (same-itself w) (same-itself w)) (same-itself (a ++ b))) (same-middle w w a b)

-- all targets, if there is one
pub words-named : (w : Word) (name : Name) (bits : ℕ) (x : Write) (xs : List Write) (y : Write) (ys : List Write) (sc : Scope) → AllOwn name bits (x ∷ xs) → AllInWord w (x ∷ xs) (y ∷ ys)
    → SameNumbers (word_names w sc ++ pieces_names (pieces (x ∷ xs)) sc) (pieces_names (pieces (y ∷ ys)) sc)
words-named w name bits x [] y [] sc own h =
    let here = one-named w x y name own.0.sels sc own.0.is h.0 in
    subst (λ ns. SameNumbers (word_names w sc ++ ns) (piece_names (piece y) sc ++ [])) (sym (append-nil (piece_names (piece x) sc)))
    (subst (SameNumbers (word_names w sc ++ piece_names (piece x) sc)) (sym (append-nil (piece_names (piece y) sc))) here)
words-named w name bits x [] y (z ∷ ys) sc own h = absurd h.1
words-named w name bits x (u ∷ xs) y [] sc own h = absurd h.1
words-named w name bits x (u ∷ xs) y (z ∷ ys) sc own h =
    let n = word_names w sc in
    let a = piece_names (piece x) sc in
    let b = pieces_names (pieces (u ∷ xs)) sc in
    same-then (n ++ (a ++ b)) ((n ++ a) ++ (n ++ b)) (piece_names (piece y) sc ++ pieces_names (pieces (z ∷ ys)) sc) (spread n a b)
    (same-joined (n ++ a) (piece_names (piece y) sc) (n ++ b) (pieces_names (pieces (z ∷ ys)) sc) (one-named w x y name own.0.sels sc own.0.is h.0) (words-named w name bits u xs z ys sc own.1 h.1))
