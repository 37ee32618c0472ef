-- What the targets of paths are made of.
use Rattle.std.proofs.Common.{◌≡◌, ℕ, cond, take, drop, List, [], ◌∷◌, map, Option, Some, None, refl, arith, ap, sym, ◌∙◌, subst}
use Rattle.b4_core.specs.declared.bit.Bit4.{Bit4}
use Rattle.row_machine.specs.Valuation.{Valuation, Changes}
use Rattle.row_machine.specs.Steps.{unchanged, then_changes}
use Rattle.picks.specs.Windows.{Window}
use Rattle.lowering_laws.specs.Placed.{holds}
use Rattle.lowering_laws.specs.Reached.{pieces_put, AreWide, AreBelow, IsWritten}
use Rattle.path_flatten.specs.Guards.{guard_meaning}
use Rattle.v_tree.specs.Names.{Name}
use Rattle.v_tree.specs.declared.expressions.VExpr.{VExpr}
use Rattle.v_tree.specs.declared.expressions.VExtent.{VExtent}
use Rattle.v_tree.specs.declared.expressions.VSel.{VSel}
use Rattle.v_tree.specs.declared.expressions.VSel.TheVariants as S
use Rattle.v_tree.specs.declared.statements.VLval.{VLval, VLval-F, fold-roll-VLval, out-VLval, out-roll-VLval}
use Rattle.v_tree.specs.declared.statements.VLval.TheVariants as L
use Rattle.v_meaning.specs.Scopes.{Scope, Named, named}
use Rattle.v_meaning.specs.Selects.{SelMeaning}
use Rattle.v_meaning.specs.Statements.{Target, target, name_target, lval_step}
use Rattle.v_meaning.specs.Values.{sel_meaning}
use Rattle.target_flatten.specs.declared.aims.Aim.{Aim}
use Rattle.target_flatten.specs.declared.spots.Spot.{Spot}
use Rattle.target_flatten.specs.declared.writes.Write.{Write}
use Rattle.target_flatten.specs.Owning.{IsOwn, IsSelected, HasDecimals, IsSteady, OwnAim, PlainAim, AllOwn, AllPlain, PlainWrites, StaysSteady, writes_made, AreUsesOf, AllWrite}
use Rattle.target_flatten.specs.Writing.{pieces, pieces_in, in_vector, Selects}
use Rattle.target_laws.specs.Vectors.{vector_target}

-- a name with selects
pub own-bare : (name : Name) (bits : ℕ) (to : VLval) → to ≡ L.Name name [] → IsOwn name bits to
own-bare name bits to is = record { sels = []; is = is; few = omega arith; bare = λ h. refl }

pub own-select : (name : Name) (bits : ℕ) (s : VSel) (to : VLval) → (bits ≡ 1 → ⊥) → to ≡ L.Name name (s ∷ []) → IsOwn name bits to
own-select name bits s to more is = record { sels = s ∷ []; is = is; few = omega arith; bare = λ h. absurd (more h) }

pub own-selected : (name : Name) (bits : ℕ) (m : SelMeaning) (to : VLval) → (bits ≡ 1 → ⊥) → IsSelected name m to → IsOwn name bits to
own-selected name bits m to more selected = own-select name bits selected.sel to more selected.is

pub decimals-bare : (name : Name) (to : VLval) → to ≡ L.Name name [] → HasDecimals name to
decimals-bare name to is = record { sels = []; is = is; decimal = tt }

pub decimals-select : (name : Name) (s : VSel) (base : ℕ) (extent : Option VExtent) (to : VLval) → s ≡ S.Decimal base extent → to ≡ L.Name name (s ∷ []) → HasDecimals name to
decimals-select name s base extent to decimal is = record { sels = s ∷ []; is = is; decimal = (record { base = base; extent = extent; is = decimal }, tt) }

-- its selects on a vector
selects-are : (name : Name) (sels : List VSel) (vec : Named) → in_vector vec (L.Name name sels) ≡ vector_target vec (map sel_meaning sels)
selects-are name sels vec =
    ap (λ (x : VLval-F VLval). elim x [ VLval-F.Name n ss ↦ vector_target vec (map sel_meaning ss) | VLval-F.Concat parts ↦ target (L.Name name sels) ])
    (ap out-VLval (sym (L.rolls-Name name sels)) ∙ out-roll-VLval (VLval-F.Name name sels))

pub selects-none : (name : Name) (to : VLval) → to ≡ L.Name name [] → Selects to []
selects-none name to is vec = ap (in_vector vec) is ∙ selects-are name [] vec

pub selects-one : (name : Name) (s : VSel) (m : SelMeaning) (to : VLval) → sel_meaning s ≡ m → to ≡ L.Name name (s ∷ []) → Selects to (m ∷ [])
selects-one name s m to means is vec = ap (in_vector vec) is ∙ selects-are name (s ∷ []) vec ∙ ap (λ k. vector_target vec (k ∷ [])) means

-- where a path stands
pub plain-known : (name : Name) (s : Spot) (guard : Option VExpr) (to : VLval) → guard ≡ None → HasDecimals name to → PlainAim name s (Some (record { guard = guard; to = to }))
plain-known name s guard to free decimals steady = record { free = free; decimals = decimals }

pub plain-moved : (name : Name) (s : Spot) (x : Aim) → (IsSteady s → ⊥) → PlainAim name s (Some x)
plain-moved name s x moved steady = absurd (moved steady)

-- what is written of it
pub made-own : (name : Name) (bits low n : ℕ) (x : Option Aim) (xs : List Write) → xs ≡ writes_made x low n → OwnAim name bits x → AllOwn name bits xs
made-own name bits low n None xs is own = subst (AllOwn name bits) (sym is) tt
made-own name bits low n (Some x) xs is own = subst (AllOwn name bits) (sym is) (own, tt)

pub made-plain : (name : Name) (s t : Spot) (low n : ℕ) (x : Option Aim) (xs : List Write) → xs ≡ writes_made x low n → StaysSteady s t → PlainAim name t x → PlainWrites name s xs
made-plain name s t low n None xs is stays plain steady = subst (AllPlain name) (sym is) tt
made-plain name s t low n (Some x) xs is stays plain steady = subst (AllPlain name) (sym is) (plain (stays steady), tt)

-- A target that is the path's name with selects may write that alone.
name-target : (name : Name) (sels : List VSel) → target (L.Name name sels) ≡ name_target name (map sel_meaning sels)
name-target name sels = ap target (sym (L.rolls-Name name sels)) ∙ fold-roll-VLval Target lval_step (VLval-F.Name name sels)

name-writes : (name : Name) (sels : List SelMeaning) (sc : Scope) → AreUsesOf (named sc.names name).number ((name_target name sels).writes sc)
unfolding name_target
name-writes name sels sc = (refl, tt)

own-writes : (name : Name) (bits : ℕ) (to : VLval) (sc : Scope) → IsOwn name bits to → AreUsesOf (named sc.names name).number ((target to).writes sc)
own-writes name bits to sc own =
    subst (λ (t : Target). AreUsesOf (named sc.names name).number (t.writes sc)) (sym (ap target own.is ∙ name-target name own.sels)) (name-writes name (map sel_meaning own.sels) sc)

pub all-write : (name : Name) (bits : ℕ) (xs : List Write) (sc : Scope) → AllOwn name bits xs → AllWrite (named sc.names name).number (pieces xs) sc
all-write name bits [] sc own = tt
all-write name bits (x ∷ xs) sc own = (own-writes name bits x.to sc own.0, all-write name bits xs sc own.1)

-- A name that stands for a vector is written as that vector is.
name-width : (name : Name) (ss : List SelMeaning) (sc : Scope) → (name_target name ss).width sc ≡ (vector_target (named sc.names name) ss).width sc
unfolding name_target
name-width name ss sc = refl

name-puts : (name : Name) (ss : List SelMeaning) (sc : Scope) (v : Valuation) (bits : List Bit4) → (name_target name ss).puts sc v bits ≡ (vector_target (named sc.names name) ss).puts sc v bits
unfolding name_target
name-puts name ss sc v bits = refl

module _ (name : Name) (count : ℕ) (sc : Scope) where
  abbrev vec : Named
  vec = named sc.names name

  own-width : (to : VLval) → IsOwn name count to → (target to).width sc ≡ (in_vector vec to).width sc
  own-width to own =
      ap (λ (t : Target). t.width sc) (ap target own.is ∙ name-target name own.sels)
      ∙ name-width name (map sel_meaning own.sels) sc
      ∙ sym (ap (λ (t : Target). t.width sc) (ap (in_vector vec) own.is ∙ selects-are name own.sels vec))

  own-puts : (to : VLval) (v : Valuation) (bits : List Bit4) → IsOwn name count to → (target to).puts sc v bits ≡ (in_vector vec to).puts sc v bits
  own-puts to v bits own =
      ap (λ (t : Target). t.puts sc v bits) (ap target own.is ∙ name-target name own.sels)
      ∙ name-puts name (map sel_meaning own.sels) sc v bits
      ∙ sym (ap (λ (t : Target). t.puts sc v bits) (ap (in_vector vec) own.is ∙ selects-are name own.sels vec))

  own-pieces : (xs : List Write) (v : Valuation) (bits : List Bit4) → AllOwn name count xs → pieces_put (pieces xs) sc v bits ≡ pieces_put (pieces_in vec xs) sc v bits
  own-pieces [] v bits own = refl
  own-pieces (x ∷ xs) v bits own =
      λ i. then_changes (cond (holds (guard_meaning x.guard) sc v) (own-puts x.to v (take x.width (drop x.low bits)) own.0 i) unchanged) (own-pieces xs v bits own.1 i)

  own-wide : (xs : List Write) → AllOwn name count xs → AreWide (pieces_in vec xs) sc → AreWide (pieces xs) sc
  own-wide [] own h = tt
  own-wide (x ∷ xs) own h = (own-width x.to own.0 ∙ h.0, own-wide xs own.1 h.1)

  same-below : (n : ℕ) (xs : List Write) → AreBelow n (pieces_in vec xs) → AreBelow n (pieces xs)
  same-below n [] h = tt
  same-below n (x ∷ xs) h = (h.0, same-below n xs h.1)

  pub written-by-name : (path : Window) (n : ℕ) (xs : List Write) (v : Valuation) → AllOwn name count xs → IsWritten path n vec.number (pieces_in vec xs) sc v → IsWritten path n vec.number (pieces xs) sc v
  written-by-name path n xs v own h = record {
    wide = own-wide xs own h.wide;
    below = same-below n xs h.below;
    puts = λ bits long q. ap (λ (c : Changes). c q) (own-pieces xs v bits own) ∙ h.puts bits long q;
  }
