-- Names with selects as targets.
use Rattle.std.proofs.Math.Numerals.{add-one}
use Rattle.std.proofs.Math.Seq.{drop-cons}
use Rattle.std.proofs.Common.{◌≡◌, ℕ, zero, suc, get_or, ◌+◌, ◌<◌, ◌≤◌, length, drop, List, [], ◌∷◌, ◌++◌, map, Option, refl, arith, ap, sym, ◌∙◌, subst, append_assoc, append-nil}
use Rattle.v_tree.specs.Names.{Name}
use Rattle.v_tree.specs.declared.expressions.VExpr.{VExpr}
use Rattle.v_tree.specs.declared.expressions.VSel.{VSel}
use Rattle.v_tree.specs.declared.statements.VLval.{VLval, VLval-F, out-VLval, out-roll-VLval, fold-roll-VLval}
use Rattle.v_tree.specs.declared.statements.VLval.TheVariants as L
use Rattle.v_meaning.specs.Scopes.{Named}
use Rattle.v_meaning.specs.Statements.{Target, target, name_target, lval_step}
use Rattle.v_meaning.specs.Values.{sel_meaning}
use Rattle.lowering_laws.specs.Terms.{and_guard}
use Rattle.path_flatten.specs.Guards.{guard_meaning}
use Rattle.target_laws.specs.Vectors.{vector_target}
use Rattle.target_flatten.specs.declared.writes.Write.{Write}
use Rattle.memory_laws.specs.InWords.{word_piece}
use Rattle.target_flatten.specs.Writing.{in_vector, piece}
use Rattle.memory_targets.specs.declared.words.Word.{Word}
use Rattle.memory_targets.specs.Words.{word_sel, word_guard}
use Rattle.memory_targets.specs.Pieces.{selects_in, inner_of, IsBehindWord, TargetInWord, InWord, AllInWord}

pub out-Name : (name : Name) (sels : List VSel) → out-VLval (L.Name name sels) ≡ VLval-F.Name name sels
out-Name name sels = ap out-VLval (sym (L.rolls-Name name sels)) ∙ out-roll-VLval (VLval-F.Name name sels)

pub selects-are : (name : Name) (sels : List VSel) → selects_in (L.Name name sels) ≡ map sel_meaning sels
selects-are name sels = ap (λ (x : VLval-F VLval). elim x [ VLval-F.Name n ss ↦ map sel_meaning ss | VLval-F.Concat parts ↦ [] ]) (out-Name name sels)

pub vector-are : (name : Name) (sels : List VSel) (vec : Named) → in_vector vec (L.Name name sels) ≡ vector_target vec (map sel_meaning sels)
vector-are name sels vec = ap (λ (x : VLval-F VLval). elim x [ VLval-F.Name n ss ↦ vector_target vec (map sel_meaning ss) | VLval-F.Concat parts ↦ target (L.Name name sels) ]) (out-Name name sels)

pub target-is : (name : Name) (sels : List VSel) → target (L.Name name sels) ≡ name_target name (map sel_meaning sels)
target-is name sels = ap target (sym (L.rolls-Name name sels)) ∙ fold-roll-VLval Target lval_step (VLval-F.Name name sels)

-- names are told apart from concatenations, and by their parts
record SameName (name other : Name) (sels others : List VSel) : Type 0 where
  pub name_is : name ≡ other
  pub sels_are : sels ≡ others

abbrev IsName : Name → List VSel → VLval-F VLval → Type 0
IsName name sels (VLval-F.Name n ss) = SameName n name ss sels
IsName name sels (VLval-F.Concat parts) = ⊥

is-name : (name other : Name) (sels others : List VSel) → L.Name other others ≡ L.Name name sels → SameName other name others sels
is-name name other sels others is =
    subst (IsName name sels) (sym (ap out-VLval is ∙ out-Name name sels) ∙ sym (sym (out-Name other others)))
    (record { name_is = refl; sels_are = refl })

-- selects behind that of the word
pub behind-by : (w : Word) (sel : VSel) (made rest sels news : List VSel) → sel_meaning sel ≡ word_sel w → made ≡ sel ∷ [] → rest ≡ sels → news ≡ made ++ rest → IsBehindWord w sels news
behind-by w sel made rest sels news means one copies all = record { sel = sel; word = means; is = all ∙ ap (λ ss. ss ++ rest) one ∙ ap (λ ss. sel ∷ ss) copies }

pub ruleset behind = (behind-by)

-- a target in a word
pub name-in : (w : Word) (name : Name) (sels news : List VSel) → IsBehindWord w sels news → TargetInWord w (L.Name name sels) (L.Name name news)
name-in w name sels news behind other others is =
    let same = is-name other name others sels is in
    record { news = news; is = ap (λ n. L.Name n news) same.name_is; behind = subst (λ ss. IsBehindWord w ss news) same.sels_are behind }

abbrev IsConcat : VLval-F VLval → Type 0
IsConcat (VLval-F.Name n ss) = ⊥
IsConcat (VLval-F.Concat ps) = Unit {0}

out-Concat : (parts : List VLval) → out-VLval (L.Concat parts) ≡ VLval-F.Concat parts
out-Concat parts = ap out-VLval (sym (L.rolls-Concat parts)) ∙ out-roll-VLval (VLval-F.Concat parts)

not-name : (to : VLval) (parts : List VLval) → to ≡ L.Concat parts → (name : Name) (sels : List VSel) → to ≡ L.Name name sels → ⊥
not-name to parts concat name sels is = subst IsConcat (sym (out-Concat parts) ∙ ap out-VLval (sym concat ∙ is) ∙ out-Name name sels) tt

pub concat-in : (w : Word) (to new : VLval) (parts : List VLval) → to ≡ L.Concat parts → TargetInWord w to new
concat-in w to new parts concat name sels is = absurd (not-name to parts concat name sels is)

pub write-in : (w : Word) (x : Write) (guard : Option VExpr) (to : VLval) → guard_meaning guard ≡ and_guard (word_guard w) (guard_meaning x.guard) → TargetInWord w x.to to
    → InWord w x (record { guard = guard; to = to; low = x.low; width = x.width })
write-in w x guard to g t = record { to = t; guard = g; low = refl; width = refl }

-- what it writes
pub piece-in : (w : Word) (x y : Write) (name : Name) (sels : List VSel) → x.to ≡ L.Name name sels → InWord w x y → piece y ≡ word_piece name (word_guard w) (word_sel w) (inner_of x)
piece-in w x y name sels is h =
    let r = h.to name sels is in
    let there : target y.to ≡ name_target name (word_sel w ∷ selects_in x.to) =
    ap target r.is ∙ target-is name r.news ∙ ap (λ ss. name_target name (map sel_meaning ss)) r.behind.is
    ∙ ap (λ s. name_target name (s ∷ map sel_meaning sels)) r.behind.word ∙ ap (λ ss. name_target name (word_sel w ∷ ss)) (sym (ap selects_in is ∙ selects-are name sels)) in
    λ d. record { guard = h.guard d; to = there d; low = h.low d; width = h.width d }

-- targets, one by one
pub all-in : (w : Word) (xs ys : List Write) (x y : Write) → AllInWord w xs ys → InWord w x y → AllInWord w (xs ++ x ∷ []) (ys ++ y ∷ [])
all-in w [] [] x y h g = (g, tt)
all-in w [] (z ∷ ys) x y h g = absurd h
all-in w (u ∷ xs) [] x y h g = absurd h
all-in w (u ∷ xs) (z ∷ ys) x y h g = (h.0, all-in w xs ys x y h.1 g)

pub all-with : (w : Word) (xs ys us vs : List Write) → AllInWord w xs ys → AllInWord w us vs → AllInWord w (xs ++ us) (ys ++ vs)
all-with w [] [] us vs h g = g
all-with w [] (z ∷ ys) us vs h g = absurd h
all-with w (u ∷ xs) [] us vs h g = absurd h
all-with w (u ∷ xs) (z ∷ ys) us vs h g = (h.0, all-with w xs ys us vs h.1 g)

-- one more, of which the rest stands behind
pub next-in : (w : Word) (all left made : List Write) (x y : Write) → ((rest : List Write) → AllInWord w (x ∷ left) rest → AllInWord w all (made ++ rest)) → InWord w x y
    → (rest : List Write) → AllInWord w left rest → AllInWord w all ((made ++ y ∷ []) ++ rest)
next-in w all left made x y h g rest r = subst (AllInWord w all) (sym (append_assoc made (y ∷ []) rest)) (h (y ∷ rest) (g, r))

-- a list of targets from one on, and behind the last one
at-front : (xs : List Write) (i : ℕ) (x : Write) → i < length xs → x ≡ get_or xs i x → drop i xs ≡ x ∷ drop (i + 1) xs
at-front xs i x h is = drop-cons xs i x h ∙ ap (λ y. y ∷ drop (suc i) xs) (sym is) ∙ ap (λ k. x ∷ drop k xs) (sym (add-one i))

at-end : (xs : List Write) (i : ℕ) → length xs ≤ i → drop i xs ≡ []
at-end [] zero h = refl
at-end [] (suc i) h = refl
at-end (x ∷ xs) zero h = absurd (omega arith)
at-end (x ∷ xs) (suc i) h = at-end xs i (omega arith)

pub in-after : (w : Word) (all made new : List Write) (i : ℕ) (x y : Write) → i < length all → x ≡ get_or all i x → InWord w x y → new ≡ made ++ y ∷ []
    → ((rest : List Write) → AllInWord w (drop i all) rest → AllInWord w all (made ++ rest)) → (rest : List Write) → AllInWord w (drop (i + 1) all) rest → AllInWord w all (new ++ rest)
in-after w all made new i x y less is g pushed h rest r =
    subst (λ ys. AllInWord w all (ys ++ rest)) (sym pushed)
    (next-in w all (drop (i + 1) all) made x y (λ others k. h others (subst (λ l. AllInWord w l others) (sym (at-front all i x less is)) k)) g rest r)

pub in-all : (w : Word) (all made : List Write) (i : ℕ) → length all ≤ i → ((rest : List Write) → AllInWord w (drop i all) rest → AllInWord w all (made ++ rest)) → AllInWord w all made
in-all w all made i end h = subst (AllInWord w all) (append-nil made) (h [] (subst (λ l. AllInWord w l []) (sym (at-end all i end)) tt))
