-- What places, ranks and targets name.
use Rattle.std.proofs.Common.{◌≡◌, ◌⊎◌, inl, inr, ℕ, ◌==◌, Bool, true, false, cond, ℤ, List, [], ◌∷◌, ◌++◌, append-nil, Option, Some, None, refl, ap, sym, ◌∙◌, subst}
use Rattle.row_machine.specs.Valuation.{Member}
use Rattle.v_tree.specs.Names.{Name}
use Rattle.v_tree.specs.declared.expressions.VExpr.{VExpr}
use Rattle.v_tree.specs.declared.expressions.VExtent.{VExtent}
use Rattle.v_tree.specs.declared.statements.VLval.{VLval}
use Rattle.v_meaning.specs.Scopes.{Scope}
use Rattle.v_meaning.specs.Statements.{Target, target, name_target}
use Rattle.v_meaning.specs.Values as T
use Rattle.v_meaning.specs.Values.{meaning}
use Rattle.lowering_laws.specs.Terms as terms
use Rattle.lowering_laws.specs.Terms.{and_guard}
use Rattle.path_flatten.specs.declared.offsets.Index.{Index}
use Rattle.path_flatten.specs.declared.places.Place.{Place}
use Rattle.path_flatten.specs.declared.ranks.Rank.{Rank}
use Rattle.path_flatten.specs.Distances.{distance_term}
use Rattle.path_flatten.specs.Guards.{guard_meaning}
use Rattle.path_flatten.specs.Naming.{SameNumbers, NamesLike}
use Rattle.path_flatten.proofs.Naming.{same-itself, same-by, same-then, same-joined, same-twice, like-itself, like-braced}
use Rattle.path_flatten.proofs.NamingSlides.{like-distance}
use Rattle.target_flatten.specs.declared.aims.Aim.{Aim}
use Rattle.target_flatten.specs.declared.spots.Spot.{Spot}
use Rattle.target_flatten.specs.declared.spots.Spot.TheVariants as V
use Rattle.target_flatten.specs.declared.writes.Write.{Write}
use Rattle.target_flatten.specs.Naming.{guard_names, place_names, rank_names, aim_names, SpotNames, NamesNothing, NamesOn, NamesAdded, NamesPlaceIn, NamesRank, NamesRankOf, NamesNoOther, NamesAim, NamesAimAt, EachNames, NamesWrites}
use Rattle.target_flatten.specs.Spots.{SpotsPlaced, PlacedAt}
use Rattle.target_flatten.specs.Writing.{pieces, MakesWrites, select_at}

-- lists in another order
left : (xs ys : List ℕ) (z : ℕ) → Member xs z → Member (xs ++ ys) z
left [] ys z h = absurd h
left (x ∷ xs) ys z (inl e) = inl e
left (x ∷ xs) ys z (inr h) = inr (left xs ys z h)

right : (xs ys : List ℕ) (z : ℕ) → Member ys z → Member (xs ++ ys) z
right [] ys z h = h
right (x ∷ xs) ys z h = inr (right xs ys z h)

split : (xs ys : List ℕ) (z : ℕ) → Member (xs ++ ys) z → Member xs z ⊎ Member ys z
split [] ys z h = inr h
split (x ∷ xs) ys z (inl e) = inl (inl e)
split (x ∷ xs) ys z (inr h) = elim (split xs ys z h) [ inl k ↦ inl (inr k) | inr k ↦ inr k ]

middle : (as_ bs cs ds : List ℕ) (z : ℕ) → Member (as_ ++ bs) z ⊎ Member (cs ++ ds) z → Member ((as_ ++ cs) ++ (bs ++ ds)) z
middle as_ bs cs ds z (inl h) =
    elim (split as_ bs z h) [
      | inl k ↦ left (as_ ++ cs) (bs ++ ds) z (left as_ cs z k)
      | inr k ↦ right (as_ ++ cs) (bs ++ ds) z (left bs ds z k)
    ]
middle as_ bs cs ds z (inr h) =
    elim (split cs ds z h) [
      | inl k ↦ left (as_ ++ cs) (bs ++ ds) z (right as_ cs z k)
      | inr k ↦ right (as_ ++ cs) (bs ++ ds) z (right bs ds z k)
    ]

pub same-middle : (as_ bs cs ds : List ℕ) → SameNumbers ((as_ ++ bs) ++ (cs ++ ds)) ((as_ ++ cs) ++ (bs ++ ds))
same-middle as_ bs cs ds = record {
  there = λ q h. middle as_ bs cs ds q (split (as_ ++ bs) (cs ++ ds) q h);
  back = λ q h. middle as_ cs bs ds q (split (as_ ++ cs) (bs ++ ds) q h);
}

-- indices
pub copy-named : (e x : VExpr) → e ≡ x → NamesLike (meaning x) (meaning e)
copy-named e x is = subst (λ (y : VExpr). NamesLike (meaning x) (meaning y)) (sym is) (like-itself (meaning x))

-- ranks
between-named : (m : T.Meaning) (w : ℕ) (low high : ℤ) (sc : Scope) → (terms.between (T.signing true m) w low high).names sc ≡ m.names sc ++ m.names sc
unfolding T.both T.order T.signing T.literal
between-named m w low high sc =
    let one : (m.names sc ++ []) ++ [] ≡ m.names sc = append-nil (m.names sc ++ []) ∙ append-nil (m.names sc) in
    ap (λ (l : List ℕ). l ++ (l ++ [])) one ∙ ap (λ (l : List ℕ). m.names sc ++ l) (append-nil (m.names sc))

guard-by : (ns : List ℕ) (g h : Option T.Meaning) (sc : Scope) → g ≡ h → SameNumbers ns (guard_names h sc) → SameNumbers ns (guard_names g sc)
guard-by ns g h sc is same = subst (λ x. SameNumbers ns (guard_names x sc)) (sym is) same

pub between-ranked : (m : T.Meaning) (w : ℕ) (low high n : ℤ) (b : Bool) (r : Rank) → guard_meaning r.guard ≡ Some (terms.between (T.signing true m) w low high)
    → meaning r.rank ≡ distance_term b (T.signing true m) w n → NamesRank m r
between-ranked m w low high n b r guard rank sc =
    let ns = m.names sc in
    same-twice (m.names sc) (guard_names (guard_meaning r.guard) sc) ((meaning r.rank).names sc)
    (guard-by (m.names sc) (guard_meaning r.guard) (Some (terms.between (T.signing true m) w low high)) sc guard
    (same-then (m.names sc) (m.names sc ++ m.names sc) ((terms.between (T.signing true m) w low high).names sc)
    (same-twice (m.names sc) (m.names sc) (m.names sc) (same-itself (m.names sc)) (same-itself (m.names sc)))
    (same-by (m.names sc ++ m.names sc) ((terms.between (T.signing true m) w low high).names sc) (sym (between-named m w low high sc)))))
    (like-distance b m w n (meaning r.rank) rank sc)

pub index-ranked : (x : Index) (m : T.Meaning) (r : Rank) → NamesLike (meaning x.expr) m → NamesRank m r → NamesRankOf x r
index-ranked x m r like names sc = same-then ((meaning x.expr).names sc) (m.names sc) (rank_names r sc) (like sc) (names sc)

most-named : (y : T.Meaning) (w last : ℕ) (sc : Scope) → (terms.at_most y w last).names sc ≡ y.names sc
unfolding T.order T.literal
most-named y w last sc = append-nil (y.names sc)

rank-like : (m : T.Meaning) (r : Rank) → meaning r.rank ≡ terms.braced m → NamesLike m (meaning r.rank)
rank-like m r is = subst (NamesLike m) (sym is) (like-braced m)

pub free-ranked : (x : Index) (r : Rank) → guard_meaning r.guard ≡ None → meaning r.rank ≡ terms.braced (meaning x.expr) → NamesRankOf x r
free-ranked x r guard rank sc =
    let ns = (meaning x.expr).names sc in
    subst (λ (g : Option T.Meaning). SameNumbers ((meaning x.expr).names sc) (guard_names g sc ++ (meaning r.rank).names sc)) (sym guard) (rank-like (meaning x.expr) r rank sc)

pub guarded-ranked : (x : Index) (w last : ℕ) (r : Rank) → guard_meaning r.guard ≡ Some (terms.at_most (meaning x.expr) w last) → meaning r.rank ≡ terms.braced (meaning x.expr) → NamesRankOf x r
guarded-ranked x w last r guard rank sc =
    same-twice ((meaning x.expr).names sc) (guard_names (guard_meaning r.guard) sc) ((meaning r.rank).names sc)
    (guard-by ((meaning x.expr).names sc) (guard_meaning r.guard) (Some (terms.at_most (meaning x.expr) w last)) sc guard
    (same-by ((meaning x.expr).names sc) ((terms.at_most (meaning x.expr) w last).names sc) (sym (most-named (meaning x.expr) w last sc))))
    (rank-like (meaning x.expr) r rank sc)

-- two guards
both-named : (g h : T.Meaning) (sc : Scope) → (T.both g h).names sc ≡ g.names sc ++ h.names sc
unfolding T.both
both-named g h sc = ap (λ (l : List ℕ). g.names sc ++ l) (append-nil (h.names sc))

pub both-guards : (g h : Option T.Meaning) (sc : Scope) → SameNumbers (guard_names g sc ++ guard_names h sc) (guard_names (and_guard g h) sc)
both-guards None h sc = same-itself (guard_names h sc)
both-guards (Some g) None sc = same-by (g.names sc ++ []) (g.names sc) (append-nil (g.names sc))
both-guards (Some g) (Some h) sc = same-by (g.names sc ++ h.names sc) ((T.both g h).names sc) (sym (both-named g h sc))

-- offsets
moved-named : (o r : T.Meaning) (item w : ℕ) (sc : Scope) → (terms.moved o r item w).names sc ≡ o.names sc ++ r.names sc
unfolding T.binary T.literal
moved-named o r item w sc =
    let inner : (r.names sc ++ []) ++ [] ≡ r.names sc = append-nil (r.names sc ++ []) ∙ append-nil (r.names sc) in
    ap (λ (l : List ℕ). o.names sc ++ l) inner

advanced-named : (o : T.Meaning) (below w : ℕ) (sc : Scope) → (terms.advanced o below w).names sc ≡ o.names sc
unfolding T.binary T.literal
advanced-named o below w sc = append-nil (o.names sc)

-- a place of an element
pub element-named : (p : Place) (r : Rank) (q : Place) (item w : ℕ) (sc : Scope) → guard_meaning q.guard ≡ and_guard (guard_meaning p.guard) (guard_meaning r.guard)
    → meaning q.offset ≡ terms.moved (meaning p.offset) (meaning r.rank) item w → SameNumbers (place_names p sc ++ rank_names r sc) (place_names q sc)
element-named p r q item w sc guard offset =
    let gp = guard_names (guard_meaning p.guard) sc in
    let gr = guard_names (guard_meaning r.guard) sc in
    let po = (meaning p.offset).names sc in
    let rr = (meaning r.rank).names sc in
    same-then ((gp ++ po) ++ (gr ++ rr)) ((gp ++ gr) ++ (po ++ rr)) (guard_names (guard_meaning q.guard) sc ++ (meaning q.offset).names sc)
    (same-middle gp po gr rr)
    (same-joined (gp ++ gr) (guard_names (guard_meaning q.guard) sc) (po ++ rr) ((meaning q.offset).names sc)
    (guard-by (gp ++ gr) (guard_meaning q.guard) (and_guard (guard_meaning p.guard) (guard_meaning r.guard)) sc guard (both-guards (guard_meaning p.guard) (guard_meaning r.guard) sc))
    (same-by (po ++ rr) ((meaning q.offset).names sc) (sym (ap (λ (m : T.Meaning). m.names sc) offset ∙ moved-named (meaning p.offset) (meaning r.rank) item w sc))))

added-at : (p : Place) (r : Rank) (item w : ℕ) (s : Spot) (ns : List ℕ) (sc : Scope) → PlacedAt p r item w s → SameNumbers ns (place_names p sc ++ rank_names r sc) → SpotNames ns s sc
added-at p r item w V.Nowhere ns sc h same = absurd h
added-at p r item w (V.Known below) ns sc h same = absurd h
added-at p r item w (V.Moved q below) ns sc (none, guard, offset) same =
    same-then ns (place_names p sc ++ rank_names r sc) (place_names q sc) same (element-named p r q item w sc guard offset)

pub index-added : (old : Spot) (x : Index) (w item : ℕ) (place : Option Place) (r : Rank) (s : Spot) → NamesPlaceIn old place → NamesRankOf x r → SpotsPlaced place r item w s → NamesAdded old x s
index-added old x w item None r s there ranks is ns sc h = subst (λ (y : Spot). SpotNames (ns ++ (meaning x.expr).names sc) y sc) (sym is) tt
index-added old x w item (Some p) r s there ranks is ns sc h =
    added-at p r item w s (ns ++ (meaning x.expr).names sc) sc is
    (same-joined ns (place_names p sc) ((meaning x.expr).names sc) (rank_names r sc) (there ns sc h) (ranks sc))

-- a place of a path
literal-named : (w n : ℕ) (sc : Scope) → (terms.number_of_bits w n).names sc ≡ []
unfolding T.literal
literal-named w n sc = refl

pub place-of-known : (below w : ℕ) (p : Place) → guard_meaning p.guard ≡ None → meaning p.offset ≡ terms.number_of_bits w below → NamesPlaceIn (V.Known below) (Some p)
place-of-known below w p guard offset ns sc h =
    subst (SameNumbers ns) (sym (λ i. guard_names (guard i) sc ++ ((ap (λ (m : T.Meaning). m.names sc) offset ∙ literal-named w below sc) i))) h

pub place-of-first : (place : Place) (below : ℕ) → NamesPlaceIn (V.Moved place below) (Some place)
place-of-first place below ns sc h = h

pub place-of-moved : (place : Place) (below w : ℕ) (p : Place) → guard_meaning p.guard ≡ guard_meaning place.guard → meaning p.offset ≡ terms.advanced (meaning place.offset) below w
    → NamesPlaceIn (V.Moved place below) (Some p)
place-of-moved place below w p guard offset ns sc h =
    subst (SameNumbers ns) (sym (λ i. guard_names (guard i) sc ++ ((ap (λ (m : T.Meaning). m.names sc) offset ∙ advanced-named (meaning place.offset) below w sc) i))) h

-- some bits of a path
pub on-itself : (s : Spot) → NamesOn s s
on-itself s ns sc h = h

pub on-nowhere : (s : Spot) → NamesOn s V.Nowhere
on-nowhere s ns sc h = tt

pub on-known : (a b : ℕ) → NamesOn (V.Known a) (V.Known b)
on-known a b ns sc h = h

pub on-moved : (p : Place) (a b : ℕ) → NamesOn (V.Moved p a) (V.Moved p b)
on-moved p a b ns sc h = h

pub nothing-known : (b : ℕ) → NamesNothing (V.Known b)
nothing-known b sc = same-itself []

-- targets
bare-named : (name : Name) (sc : Scope) → (name_target name []).names sc ≡ []
unfolding name_target
bare-named name sc = refl

decimal-named : (name : Name) (k : ℕ) (extent : Option VExtent) (sc : Scope) → (name_target name (T.decimal_base k extent ∷ [])).names sc ≡ []
unfolding name_target
decimal-named name k extent sc = refl

pub no-other-bare : (name : Name) (to : VLval) → target to ≡ name_target name [] → NamesNoOther to
no-other-bare name to is sc = ap (λ (t : Target). t.names sc) is ∙ bare-named name sc

pub no-other-decimal : (name : Name) (k : ℕ) (extent : Option VExtent) (to : VLval) → target to ≡ name_target name (T.decimal_base k extent ∷ []) → NamesNoOther to
no-other-decimal name k extent to is sc = ap (λ (t : Target). t.names sc) is ∙ decimal-named name k extent sc

select-named : (name : Name) (o : T.Meaning) (n : ℕ) (b : Bool) (sc : Scope) → (name_target name (cond b (terms.bit_at_offset o) (terms.slide o n) ∷ [])).names sc ≡ o.names sc
unfolding name_target
select-named name o n true sc = append-nil (o.names sc)
select-named name o n false sc = append-nil (o.names sc)

pub offset-named : (name : Name) (o : T.Meaning) (n : ℕ) (to : VLval) (sc : Scope) → target to ≡ name_target name (select_at o n ∷ []) → (target to).names sc ≡ o.names sc
offset-named name o n to sc is = ap (λ (t : Target). t.names sc) is ∙ select-named name o n (n == 1) sc

pub aim-select : (name : Name) (p : Place) (n : ℕ) (x : Aim) → guard_meaning x.guard ≡ guard_meaning p.guard → target x.to ≡ name_target name (select_at (meaning p.offset) n ∷ []) → NamesAim p x
aim-select name p n x guard to sc =
    same-by (place_names p sc) (aim_names x sc) (sym (λ i. guard_names (guard i) sc ++ (offset-named name (meaning p.offset) n x.to sc to i)))

pub aim-only : (name : Name) (p : Place) (w : ℕ) (x : Aim) → guard_meaning x.guard ≡ and_guard (guard_meaning p.guard) (Some (terms.at_most (meaning p.offset) w 0))
    → target x.to ≡ name_target name [] → NamesAim p x
aim-only name p w x guard to sc =
    let g = guard_meaning p.guard in
    let h : Option T.Meaning = Some (terms.at_most (meaning p.offset) w 0) in
    let first = terms.at_most (meaning p.offset) w 0 in
    same-then (place_names p sc) (guard_names (guard_meaning x.guard) sc) (aim_names x sc)
    (guard-by (place_names p sc) (guard_meaning x.guard) (and_guard (guard_meaning p.guard) (Some (terms.at_most (meaning p.offset) w 0))) sc guard
    (same-then (place_names p sc) (guard_names (guard_meaning p.guard) sc ++ (terms.at_most (meaning p.offset) w 0).names sc) (guard_names (and_guard (guard_meaning p.guard) (Some (terms.at_most (meaning p.offset) w 0))) sc)
    (same-by (place_names p sc) (guard_names (guard_meaning p.guard) sc ++ (terms.at_most (meaning p.offset) w 0).names sc)
    (ap (λ (l : List ℕ). guard_names (guard_meaning p.guard) sc ++ l) (sym (most-named (meaning p.offset) w 0 sc))))
    (both-guards (guard_meaning p.guard) (Some (terms.at_most (meaning p.offset) w 0)) sc)))
    (same-by (guard_names (guard_meaning x.guard) sc) (aim_names x sc)
    (sym (append-nil (guard_names (guard_meaning x.guard) sc)) ∙ ap (λ (l : List ℕ). guard_names (guard_meaning x.guard) sc ++ l) (sym (ap (λ (t : Target). t.names sc) to ∙ bare-named name sc))))

pub aim-at-known : (below : ℕ) (x : Aim) → guard_meaning x.guard ≡ None → NamesNoOther x.to → NamesAimAt (V.Known below) (Some x)
aim-at-known below x guard to ns sc h = subst (SameNumbers ns) (sym (λ i. guard_names (guard i) sc ++ to sc i)) h

pub aim-at-place : (s : Spot) (p : Place) (x : Aim) → NamesPlaceIn s (Some p) → NamesAim p x → NamesAimAt s (Some x)
aim-at-place s p x there aims ns sc h = same-then ns (place_names p sc) (aim_names x sc) (there ns sc h) (aims sc)

-- what is written
pub no-writes : (s : Spot) (xs : List Write) → pieces xs ≡ [] → NamesWrites s xs
no-writes s xs is ns sc h = subst (λ ps. EachNames ns ps sc) (sym is) tt

pub made-writes : (s t : Spot) (low n : ℕ) (x : Option Aim) (xs : List Write) → NamesOn s t → NamesAimAt t x → MakesWrites x low n xs → NamesWrites s xs
made-writes s t low n None xs on aims made ns sc h = subst (λ ps. EachNames ns ps sc) (sym made) tt
made-writes s t low n (Some x) xs on aims made ns sc h = subst (λ ps. EachNames ns ps sc) (sym made) (aims ns sc (on ns sc h), tt)
