-- Steps of places and ranks, by what their guards and offsets mean.
use Rattle.std.proofs.Common.{◌≡◌, ℕ, suc, ◌^◌, true, false, ℤ, length, [], ◌∷◌, Option, Some, None, arith, sym, ◌∙◌, subst, ap}
use Rattle.b4_core.specs.declared.bit.Bit4.TheVariants.{Zero}
use Rattle.row_machine.specs.Valuation.{Valuation}
use Rattle.sv_types.specs.Layouts.{Layout, count_of}
use Rattle.sv_types.specs.Surroundings.{Around}
use Rattle.sv_types.specs.Meanings as S
use Rattle.sv_types.specs.Paths as P
use Rattle.sv_types.proofs.OperatorLengths.{length-ext}
use Rattle.v_meaning.specs.Scopes.{Scope}
use Rattle.v_meaning.specs.Values as T
use Rattle.v_meaning.specs.Values.{meaning}
use Rattle.lowering_laws.specs.Placed.{IsPlaced, IsRank}
use Rattle.lowering_laws.specs.Signed.{IsIndex, FitsSigned}
use Rattle.lowering_laws.specs.Terms as terms
use Rattle.lowering_laws.specs.Terms.{number_of_bits, advanced, moved, and_guard, braced, at_most}
use Rattle.path_flatten.specs.declared.places.Place.{Place}
use Rattle.path_flatten.specs.declared.ranks.Rank.{Rank}
use Rattle.path_flatten.specs.Guards.{guard_meaning}
use Rattle.path_flatten.specs.Placing.{PlacesAt, PlacesPart, PlacesElement, RanksFree, RanksGuarded, RanksSigned, Widens}
use Rattle.lowering_laws.proofs.AnyRank.{down-rank, up-rank}
use Rattle.lowering_laws.proofs.Indices.{unsigned-index}
use Rattle.lowering_laws.proofs.Offsets.{index-placed}
use Rattle.lowering_laws.proofs.Placements.{literal-placed, part-placed}
use Rattle.lowering_laws.proofs.Ranks.{rank-unguarded, rank-guarded}

placed-by : (e : S.Meaning) (a : Around) (g h : Option T.Meaning) (o p : T.Meaning) (w bits : ℕ) (sc : Scope) (v : Valuation)
    → g ≡ h → o ≡ p → IsPlaced e a h p w bits sc v → IsPlaced e a g o w bits sc v
placed-by e a g h o p w bits sc v guard offset placed =
    subst (λ x. IsPlaced e a x o w bits sc v) (sym guard) (subst (λ x. IsPlaced e a h x w bits sc v) (sym offset) placed)

pub start-place : (w low : ℕ) (p : Place) → guard_meaning p.guard ≡ None → meaning p.offset ≡ number_of_bits w low → PlacesAt w low p
start-place w low p guard offset e a bits sc v names fits small =
    placed-by e a (guard_meaning p.guard) None (meaning p.offset) (number_of_bits w low) w bits sc v guard offset (literal-placed e a low w bits sc v names fits small)

pub part-place : (old : Place) (w below : ℕ) (p : Place) → guard_meaning p.guard ≡ guard_meaning old.guard → meaning p.offset ≡ advanced (meaning old.offset) below w
    → PlacesPart old w below p
part-place old w below p guard offset e from a bits sc v some narrow small is placed =
    placed-by e a (guard_meaning p.guard) (guard_meaning old.guard) (meaning p.offset) (advanced (meaning old.offset) below w) w bits sc v guard offset
    (part-placed e from a below (guard_meaning old.guard) (meaning old.offset) w bits sc v some narrow small is placed)

pub index-place : (old : Place) (r : Rank) (w item : ℕ) (p : Place) → guard_meaning p.guard ≡ and_guard (guard_meaning old.guard) (guard_meaning r.guard)
    → meaning p.offset ≡ moved (meaning old.offset) (meaning r.rank) item w → PlacesElement old r w item p
index-place old r w item p guard offset e from a z bits sc v some narrow small size is placed ranked =
    placed-by e a (guard_meaning p.guard) (and_guard (guard_meaning old.guard) (guard_meaning r.guard)) (meaning p.offset)
    (moved (meaning old.offset) (meaning r.rank) (length from.of.element.two_state) w) w bits sc v guard (offset ∙ ap (λ k. moved (meaning old.offset) (meaning r.rank) k w) size)
    (index-placed e from a z (guard_meaning old.guard) (guard_meaning r.guard) (meaning old.offset) (meaning r.rank) w bits sc v some narrow small is ranked.1 placed ranked.0)

-- what stands in braces has as many bits as its context
braced-long : (y : T.Meaning) (w : ℕ) (sc : Scope) (v : Valuation) → length ((braced y).value w false sc v) ≡ w
unfolding T.concatenation
braced-long y w sc v = length-ext w false _

rank-by : (of : Layout) (i : Option ℤ) (g h : Option T.Meaning) (r : T.Meaning) (y : T.Meaning) (w : ℕ) (sc : Scope) (v : Valuation)
    → g ≡ h → r ≡ braced y → IsRank of i h (braced y) w sc v → IsRank of i g r w sc v × (length (r.value w false sc v) ≡ w)
rank-by of i g h r y w sc v guard rank is =
    (subst (λ x. IsRank of i x r w sc v) (sym guard) (subst (λ x. IsRank of i h x w sc v) (sym rank) is), ap (λ (x : T.Meaning). length (x.value w false sc v)) rank ∙ braced-long y w sc v)

-- an unsigned index of an array `[last:0]`
pub free-index : (y : T.Meaning) (x : Rank) → guard_meaning x.guard ≡ None → meaning x.rank ≡ braced y → RanksFree y x
free-index y x guard rank of last i a w sc v down plain few =
    rank-by of (P.index_of i a) (guard_meaning x.guard) None (meaning x.rank) y w sc v guard rank
    (rank-unguarded of last down i a y w sc v plain.unsigned plain.narrow plain.long plain.same few)

pub guarded-index : (y : T.Meaning) (width last : ℕ) (x : Rank) → guard_meaning x.guard ≡ Some (at_most y width last) → meaning x.rank ≡ braced y → RanksGuarded y width last x
guarded-index y width last x guard rank of i a w sc v down plain is few =
    rank-by of (P.index_of i a) (guard_meaning x.guard) (Some (at_most y (S.wide i) last)) (meaning x.rank) y w sc v (guard ∙ ap (λ k. Some (at_most y k last)) is) rank
    (rank-guarded of last down i a y w sc v plain.unsigned plain.narrow plain.long plain.same few)

-- a signed index of any array
pub falling-index : (y : T.Meaning) (w : ℕ) (left right : ℤ) (x : Rank)
    → guard_meaning x.guard ≡ Some (terms.between (T.signing true y) w right left) → meaning x.rank ≡ terms.above (T.signing true y) w right → RanksSigned y w left right true x
falling-index y w left right x guard rank of p i sc v e l k down index left_fits right_fits few =
    let same : count_of of.left of.right ≡ count_of left right = λ d. count_of (l d) (k d) in
    let power : 2 ^ w ≡ 2 ^ suc p = ap (λ n. 2 ^ n) e in
    subst (λ n. IsRank of i (guard_meaning x.guard) (meaning x.rank) n sc v × (length ((meaning x.rank).value n false sc v) ≡ n)) (sym e)
    (rank-by of i (guard_meaning x.guard) _ (meaning x.rank) _ (suc p) sc v (guard ∙ (λ d. Some (terms.between (T.signing true y) (e d) (sym k d) (sym l d))))
    (rank ∙ (λ d. terms.above (T.signing true y) (e d) (sym k d)))
    (down-rank of p i y sc v (subst (λ n. IsIndex i y n sc v) e index) (subst (FitsSigned p) (sym l) left_fits) (subst (FitsSigned p) (sym k) right_fits) (omega arith) down))

pub rising-index : (y : T.Meaning) (w : ℕ) (left right : ℤ) (x : Rank)
    → guard_meaning x.guard ≡ Some (terms.between (T.signing true y) w left right) → meaning x.rank ≡ terms.under (T.signing true y) w right → RanksSigned y w left right false x
rising-index y w left right x guard rank of p i sc v e l k up index left_fits right_fits few =
    let same : count_of of.left of.right ≡ count_of left right = λ d. count_of (l d) (k d) in
    let power : 2 ^ w ≡ 2 ^ suc p = ap (λ n. 2 ^ n) e in
    subst (λ n. IsRank of i (guard_meaning x.guard) (meaning x.rank) n sc v × (length ((meaning x.rank).value n false sc v) ≡ n)) (sym e)
    (rank-by of i (guard_meaning x.guard) _ (meaning x.rank) _ (suc p) sc v (guard ∙ (λ d. Some (terms.between (T.signing true y) (e d) (sym l d) (sym k d))))
    (rank ∙ (λ d. terms.under (T.signing true y) (e d) (sym k d)))
    (up-rank of p i y sc v (subst (λ n. IsIndex i y n sc v) e index) (subst (FitsSigned p) (sym l) left_fits) (subst (FitsSigned p) (sym k) right_fits) (omega arith) up))

-- an unsigned index with a 0 above it
pub widens : (y m : T.Meaning) → m ≡ T.concatenation (T.literal (Zero ∷ []) ∷ y ∷ []) → Widens y m
widens y m is i a w sc v plain room =
    subst (λ x. IsIndex (P.index_of i a) x w sc v) (sym is) (unsigned-index i a y w sc v plain.long plain.same plain.unsigned room)
