-- What runs of the target write to signals: nothing but what their statements may write.
use Rattle.std.proofs.Common.{◌≡◌, ℕ, suc, ◌+◌, ◌^◌, ◌==◌, max, min, Bool, true, false, ◌&&◌, ◌||◌, cond, ℤ, pos, ◌-ℤ◌, ◌+ℤ◌, take, drop, replicate, List, [], ◌∷◌, ◌++◌, Option, Some, None, refl, arith, sym, ◌∙◌, ap, true≢false}
use Rattle.std.specs.Prelude.{slice_index_or, nat_le, nat_lt, flat_map}
use Rattle.std.proofs.lemmas.Bool.Decides.{nat_tests}
use Rattle.b4_core.specs.declared.bit.Bit4.{Bit4}
use Rattle.b4_core.specs.declared.bit.Bit4.TheVariants.{X}
use Rattle.row_machine.specs.Valuation.{Place, Valuation}
use Rattle.row_machine.specs.Steps.{later_or}
use Rattle.picks.specs.Windows.{Window, whole, nowhere, part, within, at_least_0}
use Rattle.v_tree.specs.Names.{Name}
use Rattle.v_tree.specs.declared.items.VLocal.{VLocal}
use Rattle.v_meaning.specs.Scopes.{Named, Scope, Use, named, is_signal, local_number, bits_of_range}
use Rattle.v_meaning.specs.Selects.{SelMeaning, Path, select, path_from, prefix_from, start, lowest, taken}
use Rattle.v_meaning.specs.Values.{Meaning, unseen, path_of, given}
use Rattle.v_meaning.specs.Statements as D
use Rattle.v_meaning.specs.Statements.{Target, Doing, Item, covers, covered}
use Rattle.v_meaning.specs.Runs as T
use Rattle.lowering_laws.proofs.WriteAt.{written-other}

-- A statement that changes and leaves pending nothing of a signal's bit that it isn't said to write.
pub record WritesOnly (d : Doing) (sc : Scope) : Type 0 where
  pub now : (v : Valuation) (u : T.State) (q : Place) → is_signal q.signal ≡ true → covered (d.writes sc) q ≡ false → (d.run sc v u).written q ≡ u.written q
  pub later : (v : Valuation) (u : T.State) (q : Place) → is_signal q.signal ≡ true → covered (d.later sc) q ≡ false → (d.run sc v u).pending q ≡ u.pending q

-- a target that changes nothing else
abbrev pub PutsOnly : Target → Scope → Type 0
PutsOnly t sc = (v : Valuation) (bits : List Bit4) (q : Place) → covered (t.writes sc) q ≡ false → t.puts sc v bits q ≡ None

-- uses of two lists
covered-both : (xs ys : List Use) (q : Place) → covered (xs ++ ys) q ≡ (covered xs q || covered ys q)
covered-both [] ys q = refl
covered-both (x ∷ xs) ys q = ap (λ b. covers x q || b) (covered-both xs ys q) ∙ assoc (covers x q) (covered xs q) (covered ys q)
  where
    assoc : (a b c : Bool) → (a || (b || c)) ≡ ((a || b) || c)
    assoc true b c = refl
    assoc false b c = refl

or-none : (a b : Bool) → (a || b) ≡ false → (a ≡ false) × (b ≡ false)
or-none true b h = absurd (true≢false h)
or-none false b h = (refl, h)

neither : (xs ys : List Use) (q : Place) → covered (xs ++ ys) q ≡ false → (covered xs q ≡ false) × (covered ys q ≡ false)
neither xs ys q h = or-none (covered xs q) (covered ys q) (sym (covered-both xs ys q) ∙ h)

pub nothing-only : (sc : Scope) → WritesOnly D.nothing sc
nothing-only sc = record { now = λ v u q s h. refl; later = λ v u q s h. refl }

-- one after the other
pub pair-only : (d : Doing) (ds : List Doing) (sc : Scope) → WritesOnly d sc → WritesOnly (D.sequence ds) sc → WritesOnly (D.sequence (d ∷ ds)) sc
pair-only d ds sc h g = record {
  now = λ v u q s c. (let n = neither (d.writes sc) ((D.sequence ds).writes sc) q c in g.now v (d.run sc v u) q s n.1 ∙ h.now v u q s n.0);
  later = λ v u q s c. (let n = neither (d.later sc) ((D.sequence ds).later sc) q c in g.later v (d.run sc v u) q s n.1 ∙ h.later v u q s n.0);
}

abbrev pub AllOnly : List Doing → Scope → Type 0
AllOnly [] sc = Unit {0}
AllOnly (d ∷ ds) sc = WritesOnly d sc × AllOnly ds sc

pub sequence-only : (ds : List Doing) (sc : Scope) → AllOnly ds sc → WritesOnly (D.sequence ds) sc
sequence-only [] sc h = nothing-only sc
sequence-only (d ∷ ds) sc h = pair-only d ds sc h.0 (sequence-only ds sc h.1)

-- an assignment
pub assignment-only : (later : Bool) (to : Target) (value : Meaning) (sc : Scope) → PutsOnly to sc → WritesOnly (D.assignment later to value) sc
unfolding D.assignment
assignment-only true to value sc h = record {
  now = λ v u q s c. refl;
  later = λ v u q s c. ap (λ o. later_or o (u.pending q)) (h (T.current v u) (given value (to.width sc) sc (T.current v u)) q c);
}
assignment-only false to value sc h = record {
  now = λ v u q s c. ap (λ o. later_or o (u.written q)) (h (T.current v u) (given value (to.width sc) sc (T.current v u)) q c);
  later = λ v u q s c. refl;
}

-- an `if`
pub conditional-only : (on : Meaning) (d e : Doing) (sc : Scope) → WritesOnly d sc → WritesOnly e sc → WritesOnly (D.conditional on d e) sc
unfolding D.conditional
conditional-only on d e sc h g = record {
  now = λ v u q s c. now-by (T.is_true on sc (T.current v u)) v u q s c;
  later = λ v u q s c. later-by (T.is_true on sc (T.current v u)) v u q s c;
}
  where
    now-by : (b : Bool) (v : Valuation) (u : T.State) (q : Place) → is_signal q.signal ≡ true → covered (d.writes sc ++ e.writes sc) q ≡ false → (T.one_of b d.run e.run sc v u).written q ≡ u.written q
    now-by true v u q s c = h.now v u q s (neither (d.writes sc) (e.writes sc) q c).0
    now-by false v u q s c = g.now v u q s (neither (d.writes sc) (e.writes sc) q c).1

    later-by : (b : Bool) (v : Valuation) (u : T.State) (q : Place) → is_signal q.signal ≡ true → covered (d.later sc ++ e.later sc) q ≡ false → (T.one_of b d.run e.run sc v u).pending q ≡ u.pending q
    later-by true v u q s c = h.later v u q s (neither (d.later sc) (e.later sc) q c).0
    later-by false v u q s c = g.later v u q s (neither (d.later sc) (e.later sc) q c).1

-- several targets side by side
abbrev pub AllPut : List Target → Scope → Type 0
AllPut [] sc = Unit {0}
AllPut (t ∷ ts) sc = PutsOnly t sc × AllPut ts sc

pub parts-only : (ts : List Target) (sc : Scope) → AllPut ts sc → PutsOnly (D.joined_target ts) sc
unfolding D.joined_target
parts-only ts sc h v bits q c = by ts h bits c
  where
    by : (ks : List Target) → AllPut ks sc → (bs : List Bit4) → covered (flat_map (λ (t : Target). t.writes sc) ks) q ≡ false → D.puts_parts ks sc v bs q ≡ None
    by [] g bs n = refl
    by (t ∷ ks) g bs n =
        let two = neither (t.writes sc) (flat_map (λ (k : Target). k.writes sc) ks) q n in
        (λ i. later_or (by ks g.1 (take (D.parts_width ks sc) bs) two.1 i) (g.0 v (drop (D.parts_width ks sc) bs) q two.0 i))

-- Selects narrow what is named.
abbrev IsInside : Window → Window → Type 0
IsInside inner outer = (b : ℕ) → within inner b ≡ true → within outer b ≡ true

nowhere-inside : (path : Window) → IsInside nowhere path
nowhere-inside path b h = absurd (none b h)
  where
    none : (k : ℕ) → (nat_le 0 k && nat_lt k 0) ≡ true → ⊥
    none k g = grind (arith, nat_tests)

part-inside : (o : ℤ) (n : ℕ) (path : Window) → IsInside (part o n path) path
part-inside o n path = by (nat_lt low high)
  where
    low : ℕ
    low = max path.low (at_least_0 (path.shift +ℤ o))

    high : ℕ
    high = min path.high (at_least_0 (path.shift +ℤ o +ℤ pos n))

    kept : (a b c d k : ℕ) → (nat_le (max a c) k && nat_lt k (min b d)) ≡ true → (nat_le a k && nat_lt k b) ≡ true
    kept a b c d k h = grind (arith, nat_tests)

    by : (c : Bool) → IsInside (cond c (record { shift = path.shift +ℤ o; low = low; high = high }) nowhere) path
    by true b h = kept path.low path.high (at_least_0 (path.shift +ℤ o)) (at_least_0 (path.shift +ℤ o +ℤ pos n)) b h
    by false b h = nowhere-inside path b h

select-inside : (s : SelMeaning) (base : Option ℤ) (p : Path) → IsInside (select s base p).window p.window
select-inside s base p = by p.words base
  where
    either-inside : (c : Bool) (w x : Window) → IsInside w x → IsInside (cond c w nowhere) x
    either-inside true w x h = h
    either-inside false w x h = nowhere-inside x

    by : (ws : Option ℕ) (z : Option ℤ) → IsInside (select s z (record p { words = ws })).window p.window
    by None None = nowhere-inside p.window
    by None (Some k) = part-inside (lowest s.extent k) (taken s.decimal s.extent) p.window
    by (Some count) None = nowhere-inside p.window
    by (Some count) (Some k) = either-inside _ (part _ p.width p.window) p.window (part-inside _ p.width p.window)

path-inside : (sc : Scope) (v : Valuation) (sels : List SelMeaning) (p : Path) → IsInside (path_from sc v sels p).window p.window
path-inside sc v [] p b h = h
path-inside sc v (s ∷ ss) p b h = select-inside s (s.base sc v) p b (path-inside sc v ss (select s (s.base sc v) p) b h)

-- a base that is a constant is one whatever signals hold
abbrev pub AreFixed : List SelMeaning → Scope → Type 0
AreFixed [] sc = Unit {0}
AreFixed (s ∷ ss) sc = (s.constant sc ≡ true → (v : Valuation) → s.base sc v ≡ s.base sc unseen) × AreFixed ss sc

prefix-inside : (sc : Scope) (v : Valuation) (sels : List SelMeaning) (p : Path) → AreFixed sels sc → IsInside (path_from sc v sels p).window (prefix_from sc unseen sels p)
prefix-inside sc v [] p fixed b h = h
prefix-inside sc v (s ∷ ss) p fixed b h = by (s.constant sc) refl (λ q. prefix-inside sc v ss q fixed.1 b)
  where
    by : (c : Bool) → s.constant sc ≡ c → ((q : Path) → within (path_from sc v ss q).window b ≡ true → within (prefix_from sc unseen ss q) b ≡ true)
        → within (cond c (prefix_from sc unseen ss (select s (s.base sc unseen) p)) p.window) b ≡ true
    by true is rest = rest (select s (s.base sc unseen) p) (ap (λ z. within (path_from sc v ss (select s z p)).window b) (sym (fixed.0 is v)) ∙ h)
    by false is rest = select-inside s (s.base sc v) p b (path-inside sc v ss (select s (s.base sc v) p) b h)

-- so a name with selects writes within the longest prefix of constant ones
pub name-only : (name : Name) (sels : List SelMeaning) (sc : Scope) → AreFixed sels sc → PutsOnly (D.name_target name sels) sc
unfolding D.name_target
name-only name sels sc fixed v bits q c = by (q.signal == n.number) (within window q.bit) refl refl
  where
    n : Named
    n = named sc.names name

    window : Window
    window = (path_of n sels sc v).window

    outer : Window
    outer = prefix_from sc unseen sels (start n)

    same-test : (a b : ℕ) → (a == b) ≡ true → (b == a) ≡ true
    same-test a b h = grind (arith, nat_tests)

    by : (s w : Bool) → (q.signal == n.number) ≡ s → within window q.bit ≡ w → cond (s && w) (Some (slice_index_or bits (at_least_0 (pos q.bit -ℤ window.shift)) X)) None ≡ None
    by false w h g = refl
    by true false h g = refl
    by true true h g = absurd (true≢false (sym (inside (same-test q.signal n.number h) (prefix-inside sc v sels (start n) fixed q.bit g)) ∙ c))
      where
        inside : (n.number == q.signal) ≡ true → within outer q.bit ≡ true → (((n.number == q.signal) && within outer q.bit) || false) ≡ true
        inside f k = ap (λ b. (b && within outer q.bit) || false) f ∙ ap (λ b. b || false) k

-- Locals of a block aren't signals, so what clears them is of no account.
local-apart : (n k : ℕ) → is_signal n ≡ true → n ≡ local_number k → ⊥
local-apart n k h e = (let same : nat_lt (2 ^ 32 + k) (2 ^ 32) ≡ true = ap (λ x. nat_lt x (2 ^ 32)) (sym e) ∙ h in far k same)
  where
    far : (j : ℕ) → nat_lt (2 ^ 32 + j) (2 ^ 32) ≡ true → ⊥
    far j g = grind (arith, nat_tests)

cleared-none : (ls : List VLocal) (k : ℕ) (q : Place) → is_signal q.signal ≡ true → T.cleared (D.declared k ls) q ≡ None
cleared-none [] k q h = refl
cleared-none (l ∷ ls) k q h =
    let w = bits_of_range l.range in
    λ i. later_or (cleared-none ls (suc k) q h i) (written-other (local_number k) (whole (bits_of_range l.range)) (replicate (bits_of_range l.range) X) q.signal q.bit (local-apart q.signal k h) i)

pub block-only : (ls : List VLocal) (d : Doing) (sc : Scope) → WritesOnly d (D.inside ls sc) → WritesOnly (D.block_with ls d) sc
unfolding D.block_with
block-only ls d sc h = record {
  now = λ v u q s c. h.now v (T.assign_now (T.cleared (D.declared sc.next ls)) u) q s c ∙ ap (λ o. later_or o (u.written q)) (cleared-none ls sc.next q s);
  later = λ v u q s c. h.later v (T.assign_now (T.cleared (D.declared sc.next ls)) u) q s c;
}
