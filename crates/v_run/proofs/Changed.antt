-- Writes behind each other.
use Rattle.std.proofs.Common.{◌≡◌, List, [], ◌∷◌, ◌++◌, Option, Some, None, refl, ap, sym, ◌∙◌}
use Rattle.std.proofs.Math.Path.{fun_ext}
use Rattle.b4_core.specs.declared.bit.Bit4.{Bit4}
use Rattle.row_machine.specs.Valuation.{Valuation, Changes, put, changed}
use Rattle.row_machine.specs.Steps.{unchanged, later_or, then_changes}
use Rattle.v_run.specs.declared.pieces.Piece.{Piece}
use Rattle.v_run.specs.Changes.{change_of, changes_of, AllNear}

later-assoc : (a b c : Option Bit4) → later_or c (later_or b a) ≡ later_or (later_or c b) a
later-assoc a b None = refl
later-assoc a b (Some x) = refl

pub then-assoc : (a b c : Changes) → then_changes (then_changes a b) c ≡ then_changes a (then_changes b c)
then-assoc a b c = fun_ext (λ q. later-assoc (a q) (b q) (c q))

later-none : (a : Option Bit4) → later_or a None ≡ a
later-none None = refl
later-none (Some x) = refl

pub none-first : (a : Changes) → then_changes unchanged a ≡ a
none-first a = fun_ext (λ q. later-none (a q))

-- one write more
pub changes-more : (ps : List Piece) (p : Piece) → changes_of (ps ++ p ∷ []) ≡ then_changes (changes_of ps) (change_of p)
changes-more [] p = fun_ext (λ q. by (change_of p q))
  where
    by : (o : Option Bit4) → later_or None o ≡ later_or o None
    by None = refl
    by (Some x) = refl
changes-more (r ∷ ps) p = ap (then_changes (change_of r)) (changes-more ps p) ∙ sym (then-assoc (change_of r) (changes_of ps) (change_of p))

put-by : (a b : Option Bit4) (x : Bit4) → changed (later_or b a) x ≡ changed b (changed a x)
put-by a None x = refl
put-by a (Some y) x = refl

-- what is held after a write behind others
pub put-then : (a b : Changes) (v : Valuation) → put (then_changes a b) v ≡ put b (put a v)
put-then a b v = fun_ext (λ q. put-by (a q) (b q) (v q))

-- writes behind writes
pub changes-both : (ps qs : List Piece) → changes_of (ps ++ qs) ≡ then_changes (changes_of ps) (changes_of qs)
changes-both [] qs = fun_ext (λ q. by (changes_of qs q))
  where
    by : (o : Option Bit4) → o ≡ later_or o None
    by None = refl
    by (Some x) = refl
changes-both (r ∷ ps) qs = ap (then_changes (change_of r)) (changes-both ps qs) ∙ sym (then-assoc (change_of r) (changes_of ps) (changes_of qs))

-- one write of several
pub write-next : (p : Piece) (ps : List Piece) (now new all : Valuation) → new ≡ put (change_of p) now → put (changes_of (p ∷ ps)) now ≡ all → put (changes_of ps) new ≡ all
write-next p ps now new all is before = ap (put (changes_of ps)) is ∙ sym (put-then (change_of p) (changes_of ps) now) ∙ before

pub near-both : (ps qs : List Piece) → AllNear ps → AllNear qs → AllNear (ps ++ qs)
near-both [] qs h g = g
near-both (p ∷ ps) qs h g = (h.0, near-both ps qs h.1 g)

pub ruleset changes = (changes-both, near-both)
