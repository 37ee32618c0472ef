-- What targets under the condition that an index has a number name, and what all of them do.
use Rattle.std.proofs.Common.{◌≡◌, ℕ, ◌<◌, ◌≤◌, ◌^◌, ℤ, List, [], ◌∷◌, ◌++◌, map, append-nil, append_assoc, Some, None, refl, Result, Ok, Err, IfOk, ap, sym, ◌∙◌, subst}
use Rattle.std.specs.declared.alloc.AllocError.{AllocError}
use Rattle.b4_core.specs.declared.bit.Bit4.{Bit4}
use Rattle.row_machine.specs.Valuation.{Valuation}
use Rattle.sv_types.specs.declared.expression.Expr.{Expr}
use Rattle.sv_types.specs.Surroundings.{Around}
use Rattle.sv_types.specs.Expressions.{meaning}
use Rattle.v_tree.specs.Names.{Name}
use Rattle.v_meaning.specs.Scopes.{Scope, Named}
use Rattle.v_meaning.specs.Statements.{target}
use Rattle.v_meaning.specs.Values as T
use Rattle.lowering_laws.specs.Reached.{Piece}
use Rattle.lowering_laws.specs.Terms.{and_guard}
use Rattle.path_flatten.specs.declared.offsets.Index.{Index}
use Rattle.path_flatten.specs.Guards.{guard_meaning}
use Rattle.path_flatten.specs.Naming.{SameNumbers}
use Rattle.path_flatten.proofs.Naming.{same-itself, same-by, same-then, same-joined, same-turned}
use Rattle.target_flatten.specs.declared.writes.Image.{Image}
use Rattle.target_flatten.specs.declared.writes.Write.{Write}
use Rattle.target_flatten.specs.Naming.{guard_names, piece_names, EachNames}
use Rattle.target_flatten.specs.Owning.{AllPlain}
use Rattle.target_flatten.specs.Writing.{piece, pieces, pieces_in, WritesPath}
use Rattle.target_flatten.proofs.Naming.{same-middle, both-guards}
use Rattle.target_walk.specs.declared.given.Given.{Given}
use Rattle.target_walk.specs.declared.given.Given.TheVariants as G
use Rattle.target_walk.specs.declared.never.Targets.{Targets}
use Rattle.target_walk.specs.Giving.{all_names, given_names}
use Rattle.target_walk.specs.Naming.{FlattensIn, NamesFrom, target_names}
use Rattle.target_walk.specs.Owning.{AllFixed}
use Rattle.target_walk.specs.Rooms.{MakesRoom}
use Rattle.target_walk.proofs.Mentions.{targets-named}
use Rattle.index_cases.specs.Cases.{matching}
use Rattle.guarded_writes.specs.Under.{IsUnder, AllUnder, PutsUnder}
use Rattle.case_targets.specs.declared.cases.Case.{Case}
use Rattle.case_targets.specs.declared.indices.PathIndex.{PathIndex}
use Rattle.case_targets.specs.declared.indices.PathIndex.TheVariants as I
use Rattle.case_targets.specs.Naming.{given_for, givens_for, NamesEach, KeepsNames, PlainOf, SpreadsTo, IsBare, BareOf}
use Rattle.case_targets.specs.Spreading.{all_of, IsSet, Spreads, HasCase}
use Rattle.case_targets.proofs.Casing.{case-set}
use Rattle.case_targets.proofs.Standing.{set-flat}

-- lists in the other order
swapped : (xs ys : List ℕ) → SameNumbers (xs ++ ys) (ys ++ xs)
swapped xs ys = subst (λ l. SameNumbers (xs ++ l) (ys ++ xs)) (append-nil ys) (subst (λ l. SameNumbers (xs ++ (ys ++ [])) (ys ++ l)) (append-nil xs) (same-middle [] xs ys []))

-- the condition names what the index does
matching-names : (e : T.Meaning) (bits : List Bit4) (sc : Scope) → (matching e bits).names sc ≡ e.names sc
unfolding T.equal T.concatenation T.literal
matching-names e bits sc = append-nil (e.names sc ++ []) ∙ append-nil (e.names sc)

-- one target under a condition
under-named : (ns ms : List ℕ) (m : T.Meaning) (x y : Write) (sc : Scope) → SameNumbers (m.names sc ++ ns) ms → IsUnder m x y → SameNumbers ns (piece_names (piece x) sc) → SameNumbers ms (piece_names (piece y) sc)
under-named ns ms m x y sc all h one =
    let g = guard_names (guard_meaning x.guard) sc in
    let t = (target x.to).names sc in
    let both = guard_names (and_guard (Some m) (guard_meaning x.guard)) sc in
    same-then ms (m.names sc ++ ns) (piece_names (piece y) sc) (same-turned (m.names sc ++ ns) ms all)
    (same-then (m.names sc ++ ns) (m.names sc ++ (g ++ t)) (piece_names (piece y) sc) (same-joined (m.names sc) (m.names sc) ns (g ++ t) (same-itself (m.names sc)) one)
    (subst (λ l. SameNumbers l (piece_names (piece y) sc)) (append_assoc (m.names sc) g t)
    (subst (λ o. SameNumbers ((m.names sc ++ g) ++ t) (guard_names o sc ++ (target y.to).names sc)) (sym h.guard)
    (subst (λ to. SameNumbers ((m.names sc ++ g) ++ t) (both ++ (target to).names sc)) (sym h.to)
    (same-joined (m.names sc ++ g) both t t (both-guards (Some m) (guard_meaning x.guard) sc) (same-itself t))))))

each-under : (ns ms : List ℕ) (m : T.Meaning) (xs ys : List Write) (sc : Scope) → SameNumbers (m.names sc ++ ns) ms → AllUnder m xs ys → EachNames ns (pieces xs) sc → EachNames ms (pieces ys) sc
each-under ns ms m [] [] sc all h each = tt
each-under ns ms m [] (y ∷ ys) sc all h each = absurd h
each-under ns ms m (x ∷ xs) [] sc all h each = absurd h
each-under ns ms m (x ∷ xs) (y ∷ ys) sc all h each = (under-named ns ms m x y sc all h.0 each.0, each-under ns ms m xs ys sc all h.1 each.1)

each-append : (ns : List ℕ) (xs ys : List Write) (sc : Scope) → EachNames ns (pieces xs) sc → EachNames ns (pieces ys) sc → EachNames ns (pieces (xs ++ ys)) sc
each-append ns [] ys sc h g = g
each-append ns (x ∷ xs) ys sc h g = (h.0, each-append ns xs ys sc h.1 g)

-- an index that selects from a part-select names what it does besides those of the path with a number in its place
index-besides : (i : Index) (k : ℤ) (gs : List Given) (ps : List PathIndex) (sc : Scope)
    → SameNumbers ((T.meaning i.expr).names sc ++ all_names (givens_for (all_of (gs ++ G.Known (Some k) ∷ []) ps)) sc) (all_names (givens_for (all_of gs (I.InPart i ∷ ps))) sc)
index-besides i k [] ps sc =
    let ns = all_names (givens_for ps) sc in
    let own = (T.meaning i.expr).names sc in
    subst (λ l. SameNumbers (own ++ l) (ns ++ own)) (sym (append-nil ns)) (swapped own ns)
index-besides i k (g ∷ gs) ps sc =
    let own = (T.meaning i.expr).names sc in
    let one = given_names g sc in
    let ns = all_names (givens_for (all_of (gs ++ G.Known (Some k) ∷ []) ps)) sc in
    let ms = all_names (givens_for (all_of gs (I.InPart i ∷ ps))) sc in
    subst (λ l. SameNumbers l (ms ++ one)) (append_assoc own ns one) (same-joined (own ++ ns) ms one one (index-besides i k gs ps sc) (same-itself one))

-- the targets of one number more
pub case-names : (e : Expr) (gs : List Given) (i : Index) (ps : List PathIndex) (k : ℤ) (c : Case) → HasCase e gs i k c → (bits : ℕ) (one old new : List Write) → NamesEach bits c.path (all_of c.done ps) one
    → PutsUnder (matching (T.meaning i.expr) c.number) one old new → KeepsNames bits e (all_of gs (I.InPart i ∷ ps)) old new
case-names e gs i ps k c is bits one old new names puts before vec a sc v h =
    let m = matching (T.meaning i.expr) c.number in
    let ms = all_names (givens_for (all_of gs (I.InPart i ∷ ps))) sc in
    let ns = all_names (givens_for (all_of c.done ps)) sc in
    let all : SameNumbers (m.names sc ++ ns) ms =
    subst (λ l. SameNumbers (l ++ ns) ms) (sym (matching-names (T.meaning i.expr) c.number sc))
    (subst (λ (l : List Given). SameNumbers ((T.meaning i.expr).names sc ++ all_names (givens_for (all_of l ps)) sc) ms) (sym is.done) (index-besides i k gs ps sc)) in
    subst (λ (l : List Write). EachNames ms (pieces l) sc) (sym puts.is)
    (each-append ms old puts.made sc (before vec a sc v h) (each-under ns ms m one puts.made sc all puts.under (names vec a sc v (case-set e gs i ps k c is bits vec a sc v h))))

-- indices of which none is left
flat-givens : (gs : List Given) → givens_for (all_of gs []) ≡ gs
flat-givens [] = refl
flat-givens (g ∷ gs) = ap (λ (l : List Given). g ∷ l) (flat-givens gs)

pub names-flat : (im : Image) (e : Expr) (gs : List Given) (r : Targets) → im.bits < 2 ^ 32 → 1 ≤ im.room → im.bits < 2 ^ im.room → MakesRoom e gs im.room → FlattensIn im e gs r → NamesEach im.bits e (all_of gs []) r.writes
names-flat im e gs r small some enough room flattens vec a sc v h =
    subst (λ (l : List Given). EachNames (all_names l sc) (pieces r.writes) sc) (sym (flat-givens gs))
    (flattens vec a sc v h.part h.vector small some enough h.typed (set-flat im e gs small room vec a sc v h)).each

pub plain-flat : (name : Name) (gs : List Given) (xs : List Write) → (AllFixed gs → AllPlain name xs) → PlainOf name (all_of gs []) xs
plain-flat name gs xs h fixed = h (subst AllFixed (flat-givens gs) fixed)

-- one that selects from a part-select isn't known
pub lowered-in-part : (gs : List Given) (i : Index) (ps : List PathIndex) → AllFixed (givens_for (all_of gs (I.InPart i ∷ ps))) → ⊥
lowered-in-part [] i ps h = h.0
lowered-in-part (g ∷ gs) i ps h = lowered-in-part gs i ps h.1

-- all targets, and what stands apart
pub spread-named : (bits : ℕ) (e : Expr) (ps : List PathIndex) (gs : List Given) (xs : List Write) (r : Targets) → Spreads bits e ps xs → NamesEach bits e ps xs → gs ≡ givens_for ps → NamesFrom gs (Ok xs) r
    → SpreadsTo bits e ps r
spread-named bits e ps gs xs r spreads names same from vec a sc v h =
    let each : EachNames (all_names gs sc) (pieces xs) sc = subst (λ (l : List Given). EachNames (all_names l sc) (pieces xs) sc) (sym same) (names vec a sc v h) in
    record {
      path = subst (λ (l : List Write). WritesPath vec (meaning e) a (pieces_in vec l) sc v) (sym from.0) (spreads vec a sc v h);
      names = subst (λ (l : List Given). SameNumbers (all_names l sc) (target_names r sc)) same (targets-named gs xs r sc each from.0 from.1);
    }

pub spread-bare : (name : Name) (ps : List PathIndex) (gs : List Given) (xs : List Write) (r : Result Targets AllocError) → PlainOf name ps xs → gs ≡ givens_for ps → IfOk r (NamesFrom gs (Ok xs)) → IfOk r (λ x. AllFixed gs → x.named ≡ None)
    → IfOk r (BareOf name ps)
spread-bare name ps gs xs (Ok x) plain same from bare = λ fixed. record { plain = subst (AllPlain name) (sym from.0) (plain fixed); named = bare (subst AllFixed (sym same) fixed) }
spread-bare name ps gs xs (Err e) plain same from bare = tt
