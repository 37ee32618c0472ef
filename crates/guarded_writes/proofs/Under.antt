-- Targets under one more condition, one by one.
use Rattle.std.proofs.Common.{◌≡◌, ℕ, Bool, true, ◌||◌, List, [], ◌∷◌, ◌++◌, append-nil, append_assoc, reverse, map, Some, refl, ap, sym, ◌∙◌, subst}
use Rattle.std.proofs.lemmas.List.{reverse-append}
use Rattle.v_tree.specs.declared.statements.VLval.{VLval}
use Rattle.v_meaning.specs.Statements.{Target}
use Rattle.v_meaning.specs.Values as T
use Rattle.row_machine.specs.Valuation.{Valuation}
use Rattle.picks.specs.Windows.{Window}
use Rattle.v_meaning.specs.Scopes.{Scope}
use Rattle.lowering_laws.specs.Placed.{holds}
use Rattle.lowering_laws.specs.Reached.{Piece, IsWritten}
use Rattle.target_flatten.specs.declared.writes.Write.{Write}
use Rattle.index_cases.specs.Cases.{under, all_under, IsWrittenIf}
use Rattle.index_cases.proofs.Cases.{case-more}
use Rattle.guarded_writes.specs.Under.{IsUnder, AllUnder, PutsUnder, piece_by}

-- one more
under-more : (m : T.Meaning) (xs ys : List Write) (x y : Write) → AllUnder m xs ys → IsUnder m x y → AllUnder m (xs ++ x ∷ []) (ys ++ y ∷ [])
under-more m [] [] x y h one = (one, tt)
under-more m [] (z ∷ ys) x y h one = absurd h
under-more m (z ∷ xs) [] x y h one = absurd h
under-more m (z ∷ xs) (w ∷ ys) x y h one = (h.0, under-more m xs ys x y h.1 one)

pub puts-none : (m : T.Meaning) (old : List Write) → PutsUnder m [] old old
puts-none m old = record { made = []; is = sym (append-nil old); under = tt }

pub puts-more : (m : T.Meaning) (xs old mid new : List Write) (x y : Write) → PutsUnder m xs old mid → new ≡ mid ++ y ∷ [] → IsUnder m x y → PutsUnder m (xs ++ x ∷ []) old new
puts-more m xs old mid new x y h is one = record {
  made = h.made ++ y ∷ [];
  is = is ∙ ap (λ l. l ++ y ∷ []) h.is ∙ append_assoc old h.made (y ∷ []);
  under = under-more m xs h.made x y h.under one;
}

-- the first of some targets, before the others
pub record PutsFirst (m : T.Meaning) (rest xs old new : List Write) : Type 0 where
  pub first : List Write
  pub all : first ++ rest ≡ xs
  pub puts : PutsUnder m first old new

pub first-none : (m : T.Meaning) (rest xs old : List Write) → rest ≡ xs → PutsFirst m rest xs old old
first-none m rest xs old is = record { first = []; all = is; puts = puts-none m old }

pub first-more : (m : T.Meaning) (before rest xs old mid new : List Write) (x y : Write) → before ≡ x ∷ rest → PutsFirst m before xs old mid → new ≡ mid ++ y ∷ [] → IsUnder m x y → PutsFirst m rest xs old new
first-more m before rest xs old mid new x y is h pushed one = record {
  first = h.first ++ x ∷ [];
  all = append_assoc h.first (x ∷ []) rest ∙ ap (λ l. h.first ++ l) (sym is) ∙ h.all;
  puts = puts-more m h.first old mid new x y h.puts pushed one;
}

pub first-all : (m : T.Meaning) (rest xs old new : List Write) → rest ≡ [] → PutsFirst m rest xs old new → PutsUnder m xs old new
first-all m rest xs old new none h = subst (λ l. PutsUnder m l old new) (sym (append-nil h.first) ∙ ap (λ l. h.first ++ l) (sym none) ∙ h.all) h.puts

-- the pieces that they are
one-piece : (m : T.Meaning) (t : VLval → Target) (x y : Write) → IsUnder m x y → piece_by t y ≡ under m (piece_by t x)
one-piece m t x y h = λ i. record { guard = h.guard i; to = t (h.to i); low = h.low i; width = h.width i }

pub all-pieces : (m : T.Meaning) (t : VLval → Target) (xs ys : List Write) → AllUnder m xs ys → map (piece_by t) ys ≡ all_under m (map (piece_by t) xs)
all-pieces m t [] [] h = refl
all-pieces m t [] (y ∷ ys) h = absurd h
all-pieces m t (x ∷ xs) [] h = absurd h
all-pieces m t (x ∷ xs) (y ∷ ys) h = λ i. one-piece m t x y h.0 i ∷ all-pieces m t xs ys h.1 i

pieces-append : (t : VLval → Target) (xs ys : List Write) → map (piece_by t) (xs ++ ys) ≡ map (piece_by t) xs ++ map (piece_by t) ys
pieces-append t [] ys = refl
pieces-append t (x ∷ xs) ys = ap (λ (l : List Piece). piece_by t x ∷ l) (pieces-append t xs ys)

-- behind targets that write a path where something is said they write it where that is said or the condition is 1, if the path is
-- then the one that they write
pub case-written : (said : Bool) (path other : Window) (n image : ℕ) (t : VLval → Target) (xs old new : List Write) (m : T.Meaning) (sc : Scope) (v : Valuation)
    → IsWrittenIf said path n image (map (piece_by t) old) sc v → IsWritten other n image (map (piece_by t) xs) sc v → (holds (Some m) sc v ≡ true → other ≡ path) → PutsUnder m xs old new
    → IsWrittenIf (said || holds (Some m) sc v) path n image (map (piece_by t) new) sc v
case-written said path other n image t xs old new m sc v before one same puts =
    let all = ap (map (piece_by t)) puts.is ∙ pieces-append t old puts.made ∙ ap (λ (l : List Piece). map (piece_by t) old ++ l) (all-pieces m t xs puts.made puts.under) in
    subst (λ ps. IsWrittenIf (said || holds (Some m) sc v) path n image ps sc v) (sym all)
    (case-more said path other n image (map (piece_by t) old) (map (piece_by t) xs) m sc v before one same)

-- targets, the last one first
pub last-first : (xs rest : List Write) (x : Write) → xs ≡ rest ++ x ∷ [] → reverse xs ≡ x ∷ reverse rest
last-first xs rest x is = ap reverse is ∙ reverse-append rest (x ∷ [])

pub turn-step : (old new back after whole : List Write) (x : Write) → old ≡ new ++ x ∷ [] → after ≡ back ++ x ∷ [] → old ++ reverse back ≡ whole → new ++ reverse after ≡ whole
turn-step old new back after whole x e f g =
    ap (λ (l : List Write). new ++ l) (last-first after back x f)
    ∙ sym (append_assoc new (x ∷ []) (reverse back))
    ∙ ap (λ (l : List Write). l ++ reverse back) (sym e)
    ∙ g

pub turn-done : (old back whole : List Write) → old ≡ [] → old ++ reverse back ≡ whole → reverse back ≡ whole
turn-done old back whole e g = ap (λ (l : List Write). l ++ reverse back) (sym e) ∙ g

pub ruleset steps = (turn-step, turn-done)
