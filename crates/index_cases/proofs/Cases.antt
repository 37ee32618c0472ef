-- Targets under conditions, one behind the other: they write a path where one of the conditions holds and the path is the one that
-- its targets write.
use Rattle.std.proofs.Common.{◌≡◌, ℕ, ◌<◌, Bool, true, false, ◌&&◌, ◌||◌, cond, List, [], ◌∷◌, ◌++◌, length, take, drop, Option, Some, None, refl, ap, sym, ◌∙◌}
use Rattle.b4_core.specs.declared.bit.Bit4.{Bit4}
use Rattle.row_machine.specs.Valuation.{Place, Valuation}
use Rattle.row_machine.specs.Steps.{later_or, unchanged}
use Rattle.picks.specs.Windows.{Window, picked, written}
use Rattle.v_meaning.specs.Scopes.{Scope}
use Rattle.v_meaning.specs.Values as T
use Rattle.lowering_laws.specs.Placed.{holds}
use Rattle.lowering_laws.specs.Reached.{Piece, piece_puts, pieces_put, AreWide, AreBelow, IsWritten}
use Rattle.lowering_laws.proofs.Offsets.{holds-both}
use Rattle.lowering_laws.proofs.WriteAt.{IsTight, none-written-at}
use Rattle.index_cases.specs.Cases.{under, all_under, IsWrittenIf}

-- one list of pieces behind another one
wide-append : (ps qs : List Piece) (sc : Scope) → AreWide ps sc → AreWide qs sc → AreWide (ps ++ qs) sc
wide-append [] qs sc h g = g
wide-append (p ∷ ps) qs sc h g = (h.0, wide-append ps qs sc h.1 g)

below-append : (n : ℕ) (ps qs : List Piece) → AreBelow n ps → AreBelow n qs → AreBelow n (ps ++ qs)
below-append n [] qs h g = g
below-append n (p ∷ ps) qs h g = (h.0, below-append n ps qs h.1 g)

later-none : (x : Option Bit4) → later_or x None ≡ x
later-none None = refl
later-none (Some b) = refl

later-assoc : (x y z : Option Bit4) → later_or x (later_or y z) ≡ later_or (later_or x y) z
later-assoc None y z = refl
later-assoc (Some b) y z = refl

put-append : (ps qs : List Piece) (sc : Scope) (v : Valuation) (bits : List Bit4) (q : Place)
    → pieces_put (ps ++ qs) sc v bits q ≡ later_or (pieces_put qs sc v bits q) (pieces_put ps sc v bits q)
put-append [] qs sc v bits q = sym (later-none (pieces_put qs sc v bits q))
put-append (p ∷ ps) qs sc v bits q =
    ap (λ o. later_or o (piece_puts p sc v bits q)) (put-append ps qs sc v bits q)
    ∙ sym (later-assoc (pieces_put qs sc v bits q) (pieces_put ps sc v bits q) (piece_puts p sc v bits q))

-- under one more condition
wide-under : (m : T.Meaning) (ps : List Piece) (sc : Scope) → AreWide ps sc → AreWide (all_under m ps) sc
wide-under m [] sc h = tt
wide-under m (p ∷ ps) sc h = (h.0, wide-under m ps sc h.1)

below-under : (n : ℕ) (m : T.Meaning) (ps : List Piece) → AreBelow n ps → AreBelow n (all_under m ps)
below-under n m [] h = tt
below-under n m (p ∷ ps) h = (h.0, below-under n m ps h.1)

one-under : (m : T.Meaning) (p : Piece) (sc : Scope) (v : Valuation) (bits : List Bit4) (q : Place) (b : Bool) → holds (Some m) sc v ≡ b
    → piece_puts (under m p) sc v bits q ≡ cond b (piece_puts p sc v bits q) None
one-under m p sc v bits q true is =
    ap (λ h. (cond h (p.to.puts sc v (take p.width (drop p.low bits))) unchanged) q) (holds-both (Some m) p.guard sc v ∙ ap (λ b. b && holds p.guard sc v) is)
one-under m p sc v bits q false is =
    ap (λ h. (cond h (p.to.puts sc v (take p.width (drop p.low bits))) unchanged) q) (holds-both (Some m) p.guard sc v ∙ ap (λ b. b && holds p.guard sc v) is)

put-under : (m : T.Meaning) (ps : List Piece) (sc : Scope) (v : Valuation) (bits : List Bit4) (q : Place) (b : Bool) → holds (Some m) sc v ≡ b
    → pieces_put (all_under m ps) sc v bits q ≡ cond b (pieces_put ps sc v bits q) None
put-under m [] sc v bits q true is = refl
put-under m [] sc v bits q false is = refl
put-under m (p ∷ ps) sc v bits q true is =
    λ i. later_or (put-under m ps sc v bits q true is i) (one-under m p sc v bits q true is i)
put-under m (p ∷ ps) sc v bits q false is =
    λ i. later_or (put-under m ps sc v bits q false is i) (one-under m p sc v bits q false is i)

-- no targets, and those of one condition more
pub none-said : (path : Window) (n image : ℕ) (sc : Scope) (v : Valuation) → IsWrittenIf false path n image [] sc v
none-said path n image sc v = record { wide = tt; below = tt; puts = λ bits long q. refl }

later-same : (b c : Bool) (x : Option Bit4) → later_or (cond c x None) (cond b x None) ≡ cond (b || c) x None
later-same true true None = refl
later-same true true (Some y) = refl
later-same true false x = refl
later-same false true x = later-none x
later-same false false x = refl

pub case-more : (said : Bool) (path other : Window) (n image : ℕ) (ps qs : List Piece) (m : T.Meaning) (sc : Scope) (v : Valuation) → IsWrittenIf said path n image ps sc v → IsWritten other n image qs sc v
    → (holds (Some m) sc v ≡ true → other ≡ path) → IsWrittenIf (said || holds (Some m) sc v) path n image (ps ++ all_under m qs) sc v
case-more said path other n image ps qs m sc v before one same = record {
  wide = wide-append ps (all_under m qs) sc before.wide (wide-under m qs sc one.wide);
  below = below-append n ps (all_under m qs) before.below (below-under n m qs one.below);
  puts = λ bits long q.
      put-append ps (all_under m qs) sc v bits q
      ∙ (λ i. later_or (put-under m qs sc v bits q (holds (Some m) sc v) refl i) (before.puts bits long q i))
      ∙ ap (λ o. later_or o (cond said (written image path bits q) None)) (by (holds (Some m) sc v) refl bits long q)
      ∙ later-same said (holds (Some m) sc v) (written image path bits q);
}
  where
    by : (b : Bool) → holds (Some m) sc v ≡ b → (bits : List Bit4) → length bits ≡ n → (q : Place) → cond b (pieces_put qs sc v bits q) None ≡ cond b (written image path bits q) None
    by true is bits long q = one.puts bits long q ∙ ap (λ w. written image w bits q) (same is)
    by false is bits long q = refl

-- where one of the conditions holds, and where none does and the path names no bit
pub said-written : (said : Bool) (path : Window) (n image : ℕ) (ps : List Piece) (sc : Scope) (v : Valuation) → IsTight path n → (said ≡ false → (j : ℕ) → j < n → picked path j ≡ None)
    → IsWrittenIf said path n image ps sc v → IsWritten path n image ps sc v
said-written true path n image ps sc v tight none h = record { wide = h.wide; below = h.below; puts = h.puts }
said-written false path n image ps sc v tight none h = record {
  wide = h.wide;
  below = h.below;
  puts = λ bits long q. h.puts bits long q ∙ sym (none-written-at image path n tight (none refl) bits q);
}
