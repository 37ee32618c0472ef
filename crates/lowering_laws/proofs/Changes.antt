-- What pieces change, and what a path or a concatenated target changes.
use Rattle.std.proofs.Common.{◌≡◌, ℕ, zero, suc, ◌+◌, ◌-◌, ◌<◌, ◌≤◌, ◌==◌, Bool, true, false, ◌||◌, cond, pos, ◌-ℤ◌, length, take, drop, List, [], ◌∷◌, ◌++◌, Option, Some, None, refl, arith, sym, ◌∙◌, subst, ap, length-append}
use Rattle.std.specs.Prelude.{slice_index_or}
use Rattle.std.proofs.lemmas.List.{drop-drop}
use Rattle.std.proofs.lemmas.Bool.Decides.{nat_tests}
use Rattle.b4_core.specs.declared.bit.Bit4.{Bit4}
use Rattle.b4_core.specs.declared.bit.Bit4.TheVariants.{X}
use Rattle.row_machine.specs.Valuation.{Place, Valuation, Changes}
use Rattle.row_machine.specs.Steps.{unchanged, then_changes, later_or}
use Rattle.picks.specs.Windows.{within, written, at_least_0}
use Rattle.sv_types.specs.Layouts.{stored_bit, stored}
use Rattle.sv_types.specs.Surroundings.{Around}
use Rattle.sv_types.specs.Meanings as M
use Rattle.sv_types.specs.Operators.{puts_all, width_of_all}
use Rattle.sv_types.specs.Runs as S
use Rattle.sv_types.proofs.Stored.{length-stored}
use Rattle.v_meaning.specs.Scopes.{Scope}
use Rattle.lowering_laws.specs.Agreeing.{Images, IsInOrder, AreDistinct, SameChanges}
use Rattle.lowering_laws.specs.Held.{marked, IsConverted}
use Rattle.lowering_laws.specs.Placed.{holds}
use Rattle.lowering_laws.specs.Reached.{Piece, piece_puts, pieces_put, AreWide, AreBelow, IsWritten}
use Rattle.lowering_laws.proofs.Extensions.{take-whole}
use Rattle.lowering_laws.proofs.Held.{stored-twice-bit}
use Rattle.lowering_laws.proofs.Runs.{none-same, then-same}
use Rattle.lowering_laws.proofs.WriteAt.{IsTight, written-bit, written-other, tight-picked}

-- the same pieces of a value that stands so many bits higher
abbrev pub raised : ℕ → List Piece → List Piece
raised n [] = []
raised n (p ∷ ps) = record p { low = n + p.low } ∷ raised n ps

pub raised-wide : (n : ℕ) (ps : List Piece) (sc : Scope) → AreWide ps sc → AreWide (raised n ps) sc
raised-wide n [] sc h = tt
raised-wide n (p ∷ ps) sc h = (h.0, raised-wide n ps sc h.1)

pub raised-put : (n : ℕ) (ps : List Piece) (sc : Scope) (v : Valuation) (bits : List Bit4) (q : Place) → pieces_put (raised n ps) sc v bits q ≡ pieces_put ps sc v (drop n bits) q
raised-put n [] sc v bits q = refl
raised-put n (p ∷ ps) sc v bits q =
    let part : drop (n + p.low) bits ≡ drop p.low (drop n bits) = sym (drop-drop p.low n bits) in
    λ i. later_or (raised-put n ps sc v bits q i) (cond (holds p.guard sc v) (p.to.puts sc v (take p.width (part i))) unchanged q)

take-again : (w n : ℕ) (v : List Bit4) → w ≤ n → take w (take n v) ≡ take w v
take-again zero n v h = refl
take-again (suc w) zero v h = absurd (omega arith)
take-again (suc w) (suc n) [] h = refl
take-again (suc w) (suc n) (b ∷ v) h = ap (λ u. b ∷ u) (take-again w n v (omega arith))

part-below : (low w n : ℕ) (v : List Bit4) → low + w ≤ n → take w (drop low (take n v)) ≡ take w (drop low v)
part-below zero w n v h = take-again w n v (omega arith)
part-below (suc low) w zero v h = absurd (omega arith)
part-below (suc low) w (suc n) [] h = refl
part-below (suc low) w (suc n) (b ∷ v) h = part-below low w n v (omega arith)

pub below-put : (n : ℕ) (ps : List Piece) (sc : Scope) (v : Valuation) (bits : List Bit4) (q : Place) → AreBelow n ps → pieces_put ps sc v (take n bits) q ≡ pieces_put ps sc v bits q
below-put n [] sc v bits q h = refl
below-put n (p ∷ ps) sc v bits q h =
    λ i. later_or (below-put n ps sc v bits q h.1 i) (cond (holds p.guard sc v) (p.to.puts sc v (part-below p.low p.width n bits h.0 i)) unchanged q)

-- pieces behind pieces
pub both-put : (ps qs : List Piece) (sc : Scope) (v : Valuation) (bits : List Bit4) (q : Place)
    → pieces_put (ps ++ qs) sc v bits q ≡ later_or (pieces_put qs sc v bits q) (pieces_put ps sc v bits q)
both-put [] qs sc v bits q = none (pieces_put qs sc v bits q)
  where
    none : (o : Option Bit4) → o ≡ later_or o None
    none None = refl
    none (Some b) = refl
both-put (p ∷ ps) qs sc v bits q =
    ap (λ o. later_or o (piece_puts p sc v bits q)) (both-put ps qs sc v bits q)
    ∙ again (pieces_put qs sc v bits q) (pieces_put ps sc v bits q) (piece_puts p sc v bits q)
  where
    again : (x y z : Option Bit4) → later_or (later_or x y) z ≡ later_or x (later_or y z)
    again None y z = refl
    again (Some b) y z = refl

pub both-wide : (ps qs : List Piece) (sc : Scope) → AreWide ps sc → AreWide qs sc → AreWide (ps ++ qs) sc
both-wide [] qs sc h g = g
both-wide (p ∷ ps) qs sc h g = (h.0, both-wide ps qs sc h.1 g)

-- what a bit of a two-state type gets is converted
stored-index : (marks : List Bool) (v : List Bit4) (j : ℕ) → j < length marks → length v ≡ length marks → slice_index_or (stored marks v) j X ≡ stored_bit (marked marks j) (slice_index_or v j X)
stored-index [] v j h long = absurd (omega arith)
stored-index (m ∷ marks) [] j h long = absurd (omega arith)
stored-index (m ∷ marks) (b ∷ v) zero h long = refl
stored-index (m ∷ marks) (b ∷ v) (suc j) h long = stored-index marks v j (omega arith) (omega arith)

mark-kept : (m n : Bool) (b : Bit4) → (m ≡ true → n ≡ true) → stored_bit m (stored_bit n b) ≡ stored_bit n b
mark-kept true n b h = subst (λ k. stored_bit true (stored_bit k b) ≡ stored_bit k b) (sym (h refl)) (stored-twice-bit true b)
mark-kept false n b h = refl

-- The pieces of one path change the images as a write through the path changes what it stands on.
module _ (im : Images) (distinct : AreDistinct im) (to : M.Meaning) (a : Around) (r : ℕ) (there : 0 < im.width r) (in_order : IsInOrder im r) (ps : List Piece) (sc : Scope) (v : Valuation)
    (tight : IsTight (to.window a) (M.wide to)) (converted : IsConverted (im.two_state r) to a) (path_written : IsWritten (to.window a) (M.wide to) (im.number r) ps sc v)
    (bits : List Bit4) (long : length bits ≡ M.wide to) where
  abbrev kept : List Bit4
  kept = stored to.of.two_state bits

  kept-long : length kept ≡ M.wide to
  kept-long = length-stored to.of.two_state bits long

  same-bit : (n b : ℕ) → b < im.width n → pieces_put ps sc v kept (record { signal = im.number n; bit = im.place n b }) ≡ written r (to.window a) kept (record { signal = n; bit = b })
  same-bit n b h = path_written.puts kept kept-long (record { signal = im.number n; bit = im.place n b }) ∙ by (n == r) refl
    where
      by : (c : Bool) → (n == r) ≡ c → written (im.number r) (to.window a) kept (record { signal = im.number n; bit = im.place n b }) ≡ written r (to.window a) kept (record { signal = n; bit = b })
      by true e =
          let same : n ≡ r = grind (arith, nat_tests) in
          ap (λ k. written (im.number r) (to.window a) kept (record { signal = im.number k; bit = im.place k b })) same
          ∙ ap (λ c. written (im.number r) (to.window a) kept (record { signal = im.number r; bit = c })) (in_order b)
          ∙ written-bit (im.number r) (to.window a) kept b ∙ sym (written-bit r (to.window a) kept b)
          ∙ ap (λ k. written r (to.window a) kept (record { signal = k; bit = b })) (sym same)
      by false e =
          written-other (im.number r) (to.window a) kept (im.number n) (im.place n b) (λ f. apart e (distinct n r (omega arith) there f))
          ∙ sym (written-other r (to.window a) kept n b (apart e))
        where
          apart : (n == r) ≡ false → n ≡ r → ⊥
          apart g f = grind (arith, nat_tests)

  held-bit : (b : ℕ) (x : Bit4) (c : Bool) → within (to.window a) b ≡ c → cond c (Some (slice_index_or kept (at_least_0 (pos b -ℤ (to.window a).shift)) X)) None ≡ Some x → stored_bit (im.two_state r b) x ≡ x
  held-bit b x false is e = absurd (cc)
  held-bit b x true is e =
      let j = at_least_0 (pos b -ℤ (to.window a).shift) in
      let less = tight.below b is in
      let value = stored-index to.of.two_state bits j less long in
      let mark = converted j b less (tight-picked (to.window a) (M.wide to) b tight is) in
      subst (λ y. stored_bit (im.two_state r b) y ≡ y) (sym value ∙ some-same (slice_index_or kept j X) x e)
      (mark-kept (im.two_state r b) (marked to.of.two_state j) (slice_index_or bits j X) mark)
    where
      some-same : (u w : Bit4) → Some u ≡ Some w → u ≡ w
      some-same u w f = cc

  stored-there : (n b : ℕ) (x : Bit4) → b < im.width n → written r (to.window a) kept (record { signal = n; bit = b }) ≡ Some x → stored_bit (im.two_state n b) x ≡ x
  stored-there n b x h e = by (n == r) refl
    where
      by : (c : Bool) → (n == r) ≡ c → stored_bit (im.two_state n b) x ≡ x
      by true f =
          let same : n ≡ r = grind (arith, nat_tests) in
          let at : written r (to.window a) kept (record { signal = r; bit = b }) ≡ Some x = ap (λ k. written r (to.window a) kept (record { signal = k; bit = b })) (sym same) ∙ e in
          subst (λ k. stored_bit (im.two_state k b) x ≡ x) (sym same)
          (held-bit b x (within (to.window a) b) refl (sym (written-bit r (to.window a) kept b) ∙ at))
      by false f = absurd (apart (sym (written-other r (to.window a) kept n b (other f)) ∙ e))
        where
          other : (n == r) ≡ false → n ≡ r → ⊥
          other g s = grind (arith, nat_tests)

          apart : None ≡ Some x → ⊥
          apart d = cc

  pub path-changes : SameChanges im (written r (to.window a) kept) (pieces_put ps sc v kept)
  path-changes = record { same = same-bit; stored = stored-there }

-- One target that isn't a stream.
pub source-changes : (to value : M.Meaning) (r : ℕ) (a : Around) → to.streams ≡ false → length (value.given (M.wide to) a) ≡ M.wide to
    → ((bits : List Bit4) → to.puts a bits ≡ written r (to.window a) (stored to.of.two_state bits))
    → (q : Place) → S.changes_of (to ∷ []) value a q ≡ written r (to.window a) (stored to.of.two_state (value.given (M.wide to) a)) q
source-changes to value r a plain long puts q =
    let n = M.wide to in
    let width : width_of_all (to ∷ []) ≡ n = omega arith in
    ap (λ b. puts_all (to ∷ []) a (cond (b || false) (drop (M.wide value - width_of_all (to ∷ [])) (M.alone value a)) (value.given (width_of_all (to ∷ [])) a)) q) plain
    ∙ ap (λ k. to.puts a (take n (value.given k a)) q) width
    ∙ ap (λ x. to.puts a x q) (take-whole n (value.given n a) (omega arith))
    ∙ ap (λ (c : Changes). c q) (puts (value.given n a))

-- Several targets side by side, the first one most significant: each has pieces of its own.
pub record HasPieces (im : Images) (m : M.Meaning) (ps : List Piece) (a : Around) (sc : Scope) (v : Valuation) : Type 0 where
  pub wide : AreWide ps sc
  pub below : AreBelow (M.wide m) ps
  pub changes : (bits : List Bit4) → length bits ≡ M.wide m → SameChanges im (m.puts a bits) (pieces_put ps sc v (stored m.of.two_state bits))

abbrev pub AllPieces : Images → List M.Meaning → List (List Piece) → Around → Scope → Valuation → Type 0
AllPieces im [] [] a sc v = Unit {0}
AllPieces im [] (ps ∷ pss) a sc v = ⊥
AllPieces im (m ∷ ms) [] a sc v = ⊥
AllPieces im (m ∷ ms) (ps ∷ pss) a sc v = HasPieces im m ps a sc v × AllPieces im ms pss a sc v

abbrev pub all_pieces : List M.Meaning → List (List Piece) → List Piece
all_pieces [] pss = []
all_pieces (m ∷ ms) [] = []
all_pieces (m ∷ ms) (ps ∷ pss) = raised (width_of_all ms) ps ++ all_pieces ms pss

-- the bits as all parts store them
abbrev pub stored_parts : List M.Meaning → List Bit4 → List Bit4
stored_parts [] bits = []
stored_parts (m ∷ ms) bits = stored_parts ms (take (width_of_all ms) bits) ++ stored m.of.two_state (take (M.wide m) (drop (width_of_all ms) bits))

pub length-take-of : (n : ℕ) (v : List Bit4) → n ≤ length v → length (take n v) ≡ n
length-take-of zero v h = refl
length-take-of (suc n) [] h = absurd (omega arith)
length-take-of (suc n) (b ∷ v) h = ap suc (length-take-of n v (omega arith))

pub length-part : (low n : ℕ) (v : List Bit4) → low + n ≤ length v → length (take n (drop low v)) ≡ n
length-part zero n v h = length-take-of n v (omega arith)
length-part (suc low) n [] h = absurd (omega arith)
length-part (suc low) n (b ∷ v) h = length-part low n v (omega arith)

take-front : (x y : List Bit4) (k : ℕ) → length x ≡ k → take k (x ++ y) ≡ x
take-front [] y zero h = refl
take-front [] y (suc k) h = absurd (omega arith)
take-front (b ∷ x) y zero h = absurd (omega arith)
take-front (b ∷ x) y (suc k) h = ap (λ u. b ∷ u) (take-front x y k (omega arith))

drop-front : (x y : List Bit4) (k : ℕ) → length x ≡ k → drop k (x ++ y) ≡ y
drop-front [] y zero h = refl
drop-front [] y (suc k) h = absurd (omega arith)
drop-front (b ∷ x) y zero h = absurd (omega arith)
drop-front (b ∷ x) y (suc k) h = drop-front x y k (omega arith)

stored-parts-long : (ms : List M.Meaning) (bits : List Bit4) → length bits ≡ width_of_all ms → length (stored_parts ms bits) ≡ width_of_all ms
stored-parts-long [] bits h = refl
stored-parts-long (m ∷ ms) bits h =
    let k = width_of_all ms in
    let low = length-take-of (width_of_all ms) bits (omega arith) in
    let high = length-part (width_of_all ms) (M.wide m) bits (omega arith) in
    let rest = stored-parts-long ms (take (width_of_all ms) bits) low in
    let own = length-stored m.of.two_state (take (M.wide m) (drop (width_of_all ms) bits)) high in
    length-append (stored_parts ms (take (width_of_all ms) bits)) _ ∙ omega arith

puts-below : (ms : List M.Meaning) (a : Around) (n : ℕ) (bits : List Bit4) → width_of_all ms ≤ n → puts_all ms a (take n bits) ≡ puts_all ms a bits
puts-below [] a n bits h = refl
puts-below (m ∷ ms) a n bits h =
    λ i. then_changes (m.puts a (part-below (width_of_all ms) (M.wide m) n bits (omega arith) i)) (puts-below ms a n bits (omega arith) i)

all-below : (ms : List M.Meaning) (pss : List (List Piece)) (im : Images) (a : Around) (sc : Scope) (v : Valuation) → AllPieces im ms pss a sc v → AreBelow (width_of_all ms) (all_pieces ms pss)
all-below [] [] im a sc v h = tt
all-below [] (ps ∷ pss) im a sc v h = absurd h
all-below (m ∷ ms) [] im a sc v h = absurd h
all-below (m ∷ ms) (ps ∷ pss) im a sc v h =
    below-both (raised (width_of_all ms) ps) (all_pieces ms pss) _
    (below-raised (width_of_all ms) (M.wide m) ps h.0.below) (below-more (width_of_all ms) (M.wide m) (all_pieces ms pss) (all-below ms pss im a sc v h.1))
  where
    below-both : (xs ys : List Piece) (n : ℕ) → AreBelow n xs → AreBelow n ys → AreBelow n (xs ++ ys)
    below-both [] ys n f g = g
    below-both (x ∷ xs) ys n f g = (f.0, below-both xs ys n f.1 g)

    below-raised : (k n : ℕ) (xs : List Piece) → AreBelow n xs → AreBelow (n + k) (raised k xs)
    below-raised k n [] f = tt
    below-raised k n (x ∷ xs) f = ((let b = f.0 in omega arith), below-raised k n xs f.1)

    below-more : (k n : ℕ) (xs : List Piece) → AreBelow k xs → AreBelow (n + k) xs
    below-more k n [] f = tt
    below-more k n (x ∷ xs) f = ((let b = f.0 in omega arith), below-more k n xs f.1)

pub all-wide : (ms : List M.Meaning) (pss : List (List Piece)) (im : Images) (a : Around) (sc : Scope) (v : Valuation) → AllPieces im ms pss a sc v → AreWide (all_pieces ms pss) sc
all-wide [] [] im a sc v h = tt
all-wide [] (ps ∷ pss) im a sc v h = absurd h
all-wide (m ∷ ms) [] im a sc v h = absurd h
all-wide (m ∷ ms) (ps ∷ pss) im a sc v h =
    both-wide (raised (width_of_all ms) ps) (all_pieces ms pss) sc (raised-wide (width_of_all ms) ps sc h.0.wide) (all-wide ms pss im a sc v h.1)

-- so a concatenated target is written part by part
pub all-changes : (im : Images) (ms : List M.Meaning) (pss : List (List Piece)) (a : Around) (sc : Scope) (v : Valuation) (bits : List Bit4) → AllPieces im ms pss a sc v → length bits ≡ width_of_all ms
    → SameChanges im (puts_all ms a bits) (pieces_put (all_pieces ms pss) sc v (stored_parts ms bits))
all-changes im [] [] a sc v bits h long = none-same im
all-changes im [] (ps ∷ pss) a sc v bits h long = absurd h
all-changes im (m ∷ ms) [] a sc v bits h long = absurd h
all-changes im (m ∷ ms) (ps ∷ pss) a sc v bits h long =
    let k = width_of_all ms in
    let low = length-take-of (width_of_all ms) bits (omega arith) in
    let high = length-part (width_of_all ms) (M.wide m) bits (omega arith) in
    let x = stored_parts ms (take (width_of_all ms) bits) in
    let y = stored m.of.two_state (take (M.wide m) (drop (width_of_all ms) bits)) in
    let x_long : length x ≡ width_of_all ms = stored-parts-long ms (take (width_of_all ms) bits) low in
    let first = h.0.changes (take (M.wide m) (drop (width_of_all ms) bits)) high in
    let rest = all-changes im ms pss a sc v (take (width_of_all ms) bits) h.1 low in
    let both = then-same im (m.puts a (take (M.wide m) (drop (width_of_all ms) bits))) (pieces_put ps sc v y) (puts_all ms a (take (width_of_all ms) bits)) (pieces_put (all_pieces ms pss) sc v x) first rest in
    let left : then_changes (m.puts a (take (M.wide m) (drop (width_of_all ms) bits))) (puts_all ms a (take (width_of_all ms) bits)) ≡ puts_all (m ∷ ms) a bits = ap (λ (c : Changes). then_changes (m.puts a (take (M.wide m) (drop (width_of_all ms) bits))) c) (puts-below ms a (width_of_all ms) bits (omega arith)) in
    let right : (q : Place) → pieces_put (all_pieces (m ∷ ms) (ps ∷ pss)) sc v (x ++ y) q ≡ then_changes (pieces_put ps sc v y) (pieces_put (all_pieces ms pss) sc v x) q = λ q.
    both-put (raised (width_of_all ms) ps) (all_pieces ms pss) sc v (x ++ y) q
    ∙ (λ i. later_or ((sym (below-put (width_of_all ms) (all_pieces ms pss) sc v (x ++ y) q (all-below ms pss im a sc v h.1)) ∙ ap (λ u. pieces_put (all_pieces ms pss) sc v u q) (take-front x y (width_of_all ms) x_long)) i)
    ((raised-put (width_of_all ms) ps sc v (x ++ y) q ∙ ap (λ u. pieces_put ps sc v u q) (drop-front x y (width_of_all ms) x_long)) i)) in
    subst (λ (c : Changes). SameChanges im c (pieces_put (all_pieces (m ∷ ms) (ps ∷ pss)) sc v (x ++ y))) left
    (record { same = λ n b less. right (record { signal = im.number n; bit = im.place n b }) ∙ both.same n b less; stored = both.stored })
