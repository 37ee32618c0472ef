-- What is named where a path is written.
use Rattle.std.proofs.Math.Seq.{drop-cons}
use Rattle.std.proofs.Math.Numerals.{add-one}
use Rattle.v_tree.specs.declared.expressions.VExpr.{VExpr}
use Rattle.std.proofs.Common.{◌≡◌, ℕ, suc, get_or, IfOk, ◌+◌, ◌<◌, true, false, ◌&&◌, ◌||◌, ℤ, length, drop, List, [], ◌∷◌, ◌++◌, append-nil, Option, Some, None, Result, Ok, Err, refl, ap, sym, ◌∙◌, subst, true≢false}
use Rattle.std.specs.declared.alloc.AllocError.{AllocError}
use Rattle.b4_core.specs.declared.bit.Bit4.TheVariants.{Zero}
use Rattle.b4_core.specs.Bits.{is_one}
use Rattle.row_machine.specs.Valuation.{Valuation}
use Rattle.sv_types.specs.declared.expression.Expr.{Expr}
use Rattle.sv_types.specs.Surroundings.{Around}
use Rattle.sv_types.specs.Meanings as S
use Rattle.sv_types.specs.Expressions.{meaning}
use Rattle.v_meaning.specs.Scopes.{Scope, named}
use Rattle.v_meaning.specs.Values as T
use Rattle.lowering_laws.specs.Reached.{Piece}
use Rattle.lowering_laws.proofs.Offsets.{holds-both}
use Rattle.path_flatten.specs.Naming.{SameNumbers}
use Rattle.path_flatten.proofs.Naming.{same-itself, same-by, same-then, same-joined, same-twice}
use Rattle.target_flatten.specs.declared.writes.Image.{Image}
use Rattle.target_flatten.specs.declared.writes.Write.{Write}
use Rattle.target_flatten.specs.Naming.{piece_names, EachNames}
use Rattle.target_flatten.specs.Owning.{AllOwn}
use Rattle.target_flatten.specs.Writing.{piece as write_piece, pieces, pieces_in, WritesPath}
use Rattle.target_flatten.proofs.Owning.{written-by-name}
use Rattle.target_flatten.proofs.Naming.{both-guards, same-middle}
use Rattle.target_walk.specs.declared.given.Given.{Given}
use Rattle.target_walk.specs.declared.given.Given.TheVariants as G
use Rattle.target_walk.specs.declared.never.Targets.{Targets}
use Rattle.target_walk.specs.Giving.{all_names, given_names}
use Rattle.target_walk.specs.Naming.{NamesAlso, IsNever, is_lowered, has_lowered, NamedApart, NamesFrom, all_piece_names, apart_names, target_names, FlattensTo, FlattensIn}
use Rattle.target_walk.specs.Walking.{Written, WritesAll}

-- conditions that are never 1
zero-never : (sc : Scope) (v : Valuation) → is_one (T.truth (T.literal (Zero ∷ [])) sc v) ≡ false
unfolding T.literal
zero-never sc v = refl

zero-names : (sc : Scope) → (T.literal (Zero ∷ [])).names sc ≡ []
unfolding T.literal
zero-names sc = refl

both-never : (g h : T.Meaning) (sc : Scope) (v : Valuation) → is_one (T.truth g sc v) ≡ false → is_one (T.truth (T.both g h) sc v) ≡ false
both-never g h sc v never = holds-both (Some g) (Some h) sc v ∙ ap (λ b. b && is_one (T.truth h sc v)) never

pub also-known : (m : T.Meaning) (k : Option ℤ) → NamesAlso m (G.Known k) m
also-known m k = record { never = λ sc v h. h; names = λ sc. same-by (m.names sc ++ []) (m.names sc) (append-nil (m.names sc)) }

pub also-lowered : (m n : T.Meaning) (g : Given) (e : T.Meaning) → ((sc : Scope) → given_names g sc ≡ e.names sc) → n ≡ T.both m e → NamesAlso m g n
also-lowered m n g e named is = record {
  never = λ sc v h. ap (λ (x : T.Meaning). is_one (T.truth x sc v)) is ∙ both-never m e sc v h;
  names = λ sc.
      subst (λ (x : T.Meaning). SameNumbers (m.names sc ++ given_names g sc) (x.names sc)) (sym is)
      (subst (λ (l : List ℕ). SameNumbers (m.names sc ++ l) ((T.both m e).names sc)) (sym (named sc)) (both-guards (Some m) (Some e) sc));
}

-- what indices name, some of them named already
pub record Naming (m : T.Meaning) (rest all : List Given) : Type 0 where
  pub never : (sc : Scope) (v : Valuation) → is_one (T.truth m sc v) ≡ false
  pub names : (sc : Scope) → SameNumbers (all_names all sc) (all_names rest sc ++ m.names sc)

pub naming-none : (m : T.Meaning) (gs : List Given) → m ≡ T.literal (Zero ∷ []) → Naming m gs gs
naming-none m gs is = record {
  never = λ sc v. ap (λ (x : T.Meaning). is_one (T.truth x sc v)) is ∙ zero-never sc v;
  names = λ sc.
      same-by (all_names gs sc) (all_names gs sc ++ m.names sc)
      (sym (append-nil (all_names gs sc)) ∙ ap (λ (l : List ℕ). all_names gs sc ++ l) (sym (ap (λ (x : T.Meaning). x.names sc) is ∙ zero-names sc)));
}

moved : (as_ bs cs ds : List ℕ) → SameNumbers (cs ++ bs) ds → SameNumbers ((as_ ++ bs) ++ cs) (as_ ++ ds)
moved as_ bs cs ds h =
    same-then ((as_ ++ bs) ++ cs) ((as_ ++ []) ++ (bs ++ cs)) (as_ ++ ds)
    (same-then ((as_ ++ bs) ++ cs) ((as_ ++ bs) ++ ([] ++ cs)) ((as_ ++ []) ++ (bs ++ cs)) (same-itself ((as_ ++ bs) ++ cs)) (same-middle as_ bs [] cs))
    (same-joined (as_ ++ []) as_ (bs ++ cs) ds (same-by (as_ ++ []) as_ (append-nil as_)) (same-then (bs ++ cs) (cs ++ bs) ds (turned bs cs) h))
  where
    turned : (xs ys : List ℕ) → SameNumbers (xs ++ ys) (ys ++ xs)
    turned xs ys =
        same-then (xs ++ ys) ((ys ++ []) ++ ([] ++ xs)) (ys ++ xs) (other xs ys)
        (same-joined (ys ++ []) ys xs xs (same-by (ys ++ []) ys (append-nil ys)) (same-itself xs))
      where
        other : (us vs : List ℕ) → SameNumbers (us ++ vs) ((vs ++ []) ++ ([] ++ us))
        other us vs =
            same-then (us ++ vs) (([] ++ us) ++ (vs ++ [])) ((vs ++ []) ++ ([] ++ us))
            (same-joined us us vs (vs ++ []) (same-itself us) (same-by vs (vs ++ []) (sym (append-nil vs))))
            (same-then (([] ++ us) ++ (vs ++ [])) (([] ++ vs) ++ (us ++ [])) ((vs ++ []) ++ ([] ++ us)) (same-middle [] us vs [])
            (same-joined vs (vs ++ []) (us ++ []) us (same-by vs (vs ++ []) (sym (append-nil vs))) (same-by (us ++ []) us (append-nil us))))

pub naming-next : (m n : T.Meaning) (g : Given) (rest all : List Given) → NamesAlso m g n → Naming m (g ∷ rest) all → Naming n rest all
naming-next m n g rest all also h = record {
  never = λ sc v. also.never sc v (h.never sc v);
  names = λ sc.
      same-then (all_names all sc) ((all_names rest sc ++ given_names g sc) ++ m.names sc) (all_names rest sc ++ n.names sc) (h.names sc)
      (moved (all_names rest sc) (given_names g sc) (m.names sc) (n.names sc) (also.names sc));
}

pub naming-all : (m : T.Meaning) (rest all : List Given) → rest ≡ [] → Naming m rest all → IsNever all m
naming-all m rest all none h = record { never = h.never; names = λ sc. subst (λ (l : List Given). SameNumbers (all_names all sc) (all_names l sc ++ m.names sc)) none (h.names sc) }

-- indices that aren't lowered name nothing
pub none-lowered : (gs : List Given) (sc : Scope) → has_lowered gs ≡ false → all_names gs sc ≡ []
none-lowered [] sc h = refl
none-lowered (G.Known k ∷ gs) sc h = append-nil (all_names gs sc) ∙ none-lowered gs sc h
none-lowered (G.Lowered x d ∷ gs) sc h = absurd (true≢false h)

-- each target names them
each-all : (ns : List ℕ) (p : Piece) (ps : List Piece) (sc : Scope) → EachNames ns (p ∷ ps) sc → SameNumbers ns (all_piece_names (p ∷ ps) sc)
each-all ns p [] sc h = same-then ns (piece_names p sc) (piece_names p sc ++ []) h.0 (same-by (piece_names p sc) (piece_names p sc ++ []) (sym (append-nil (piece_names p sc))))
each-all ns p (q ∷ ps) sc h = same-twice ns (piece_names p sc) (all_piece_names (q ∷ ps) sc) h.0 (each-all ns q ps sc h.1)

-- what is written in the end
-- by a name that stands for a vector
by-name : (im : Image) (e : Expr) (gs : List Given) (xs : List Write) (a : Around) (sc : Scope) (v : Valuation) → AllOwn im.name im.bits xs → Written (named sc.names im.name) e gs xs a sc v
    → WritesPath (named sc.names im.name) (meaning e) a (pieces xs) sc v
by-name im e gs xs a sc v own h = written-by-name im.name im.bits sc ((meaning e).window a) (S.wide (meaning e)) xs v own h.path

none-apart : (gs : List Given) (y : Write) (ys : List Write) (o : Option VExpr) → NamedApart gs (y ∷ ys) o → o ≡ None
none-apart gs y ys None h = refl
none-apart gs y ys (Some m) h = absurd h

apart-named : (gs : List Given) (o : Option VExpr) (sc : Scope) → NamedApart gs [] o → SameNumbers (all_names gs sc) (apart_names o sc)
apart-named gs None sc none = same-by (all_names gs sc) [] (none-lowered gs sc none)
apart-named gs (Some m) sc never = never.names sc

-- targets and what stands apart name what the indices do
pub targets-named : (gs : List Given) (xs : List Write) (r : Targets) (sc : Scope) → EachNames (all_names gs sc) (pieces xs) sc → r.writes ≡ xs → NamedApart gs xs r.named
    → SameNumbers (all_names gs sc) (target_names r sc)
targets-named gs (y ∷ ys) r sc each all apart =
    let ns = all_piece_names (pieces (y ∷ ys)) sc in
    let names : SameNumbers (all_names gs sc) (all_piece_names (pieces (y ∷ ys)) sc ++ []) =
    same-then (all_names gs sc) (all_piece_names (pieces (y ∷ ys)) sc) (all_piece_names (pieces (y ∷ ys)) sc ++ []) (each-all (all_names gs sc) (write_piece y) (pieces ys) sc each)
    (same-by ns (ns ++ []) (sym (append-nil ns))) in
    subst (λ (zs : List Write). SameNumbers (all_names gs sc) (all_piece_names (pieces zs) sc ++ apart_names r.named sc)) (sym all)
    (subst (λ (o : Option VExpr). SameNumbers (all_names gs sc) (all_piece_names (pieces (y ∷ ys)) sc ++ apart_names o sc)) (sym (none-apart gs y ys r.named apart)) names)
targets-named gs [] r sc each all apart =
    subst (λ (zs : List Write). SameNumbers (all_names gs sc) (all_piece_names (pieces zs) sc ++ apart_names r.named sc)) (sym all) (apart-named gs r.named sc apart)

-- what is written in the end
pub flattened : (im : Image) (e : Expr) (gs : List Given) (q : Result (List Write) AllocError) (r : Targets) → IfOk q (WritesAll im e gs) → IfOk q (AllOwn im.name im.bits) → NamesFrom gs q r
    → FlattensTo im e gs r
flattened im e gs (Err x) r writes own names a sc v p vector small bits one room typed path = absurd names
flattened im e gs (Ok xs) r writes own names a sc v p vector small bits one room typed path =
    let h = writes p (named sc.names im.name) a sc v (record { vector = vector.vector; width = vector.width }) small one room typed path in
    record {
      path = subst (λ (zs : List Write). WritesPath (named sc.names im.name) (meaning e) a (pieces zs) sc v) (sym names.0) (by-name im e gs xs a sc v own h);
      names = targets-named gs xs r sc h.names names.0 names.1;
    }

flattened-in : (im : Image) (e : Expr) (gs : List Given) (q : Result (List Write) AllocError) (r : Targets) → IfOk q (WritesAll im e gs) → NamesFrom gs q r → FlattensIn im e gs r
flattened-in im e gs (Err x) r writes names vec a sc v p vector small one room typed path = absurd names
flattened-in im e gs (Ok xs) r writes names vec a sc v p vector small one room typed path =
    let h = writes p vec a sc v vector small one room typed path in
    record {
      path = subst (λ (zs : List Write). WritesPath vec (meaning e) a (pieces_in vec zs) sc v) (sym names.0) h.path;
      names = targets-named gs xs r sc h.names names.0 names.1;
      each = subst (λ (zs : List Write). EachNames (all_names gs sc) (pieces zs) sc) (sym names.0) h.names;
    }

-- and from what may want memory
pub flattened-all : (im : Image) (e : Expr) (gs : List Given) (q : Result (List Write) AllocError) (r : Result Targets AllocError) → IfOk q (WritesAll im e gs) → IfOk q (AllOwn im.name im.bits)
    → IfOk r (NamesFrom gs q) → IfOk r (FlattensTo im e gs)
flattened-all im e gs q (Ok x) writes own names = flattened im e gs q x writes own names
flattened-all im e gs q (Err x) writes own names = tt

pub all-flattened-in : (im : Image) (e : Expr) (gs : List Given) (q : Result (List Write) AllocError) (r : Result Targets AllocError) → IfOk q (WritesAll im e gs) → IfOk r (NamesFrom gs q) → IfOk r (FlattensIn im e gs)
all-flattened-in im e gs q (Ok x) writes names = flattened-in im e gs q x writes names
all-flattened-in im e gs q (Err x) writes names = tt

-- a list of indices from one on
pub at-front : (gs : List Given) (i : ℕ) (g : Given) → i < length gs → g ≡ get_or gs i g → drop i gs ≡ g ∷ drop (i + 1) gs
at-front gs i g h is = drop-cons gs i g h ∙ ap (λ x. x ∷ drop (suc i) gs) (sym is) ∙ ap (λ k. g ∷ drop k gs) (sym (add-one i))

pub naming-after : (m n : T.Meaning) (g : Given) (i : ℕ) (all : List Given) → i < length all → g ≡ get_or all i g → NamesAlso m g n → Naming m (drop i all) all → Naming n (drop (i + 1) all) all
naming-after m n g i all less is also h = naming-next m n g (drop (i + 1) all) all also (subst (λ l. Naming m l all) (at-front all i g less is) h)

-- whether an index is lowered, from the last ones on
pub lowered-here : (gs : List Given) (i : ℕ) (g : Given) → i < length gs → g ≡ get_or gs i g → is_lowered g ≡ true → has_lowered gs ≡ has_lowered (drop i gs) → has_lowered gs ≡ true
lowered-here gs i g less is here h = h ∙ ap has_lowered (at-front gs i g less is) ∙ ap (λ b. b || has_lowered (drop (i + 1) gs)) here

pub lowered-next : (gs : List Given) (i : ℕ) (g : Given) → i < length gs → g ≡ get_or gs i g → is_lowered g ≡ false → has_lowered gs ≡ has_lowered (drop i gs) → has_lowered gs ≡ has_lowered (drop (i + 1) gs)
lowered-next gs i g less is none h = h ∙ ap has_lowered (at-front gs i g less is) ∙ ap (λ b. b || has_lowered (drop (i + 1) gs)) none

-- a lowered index besides
pub besides-names : (m : T.Meaning) (g : Given) (e : T.Meaning) (r : Result VExpr AllocError) → ((sc : Scope) → given_names g sc ≡ e.names sc) → IfOk r (λ n. T.meaning n ≡ T.both m e) → IfOk r (λ n. NamesAlso m g (T.meaning n))
besides-names m g e (Ok n) named is = also-lowered m (T.meaning n) g e named is
besides-names m g e (Err x) named is = tt
